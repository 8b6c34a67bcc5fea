-- `plan_lines::put_tail` meets its contract: the tail's lines are stored one behind the other.
use native.Mathlib.Omega.{arith}
use Rattle.plan_lines.proofs.Lines.{tail_put, tail_length}
use Rattle.network.proofs.Pairs.{both}
use Rattle.plan_lines.proofs.put_tail.Goals as goal

pub returns : goal.returns
returns c =
    let a = c.args in
    let put = tail_put a.out.now _ a.at _ a.sums (both c.put_load.ensures.value c.put_load.ensures.out_after) in
    let long = tail_length a.sums (omega arith) (omega arith) (omega arith) in
    record { upper_bound = omega (arith, long, put.0); value = put.0; out_after = put.1 }

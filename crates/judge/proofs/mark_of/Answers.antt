-- `judge::mark_of` meets its contract: each arm's mark is the definition's, and this keeps what the paper says.
use native.Mathlib.Omega.{arith}
use Rattle.judge.proofs.Ways.{returned, unread_mark, unaccepted_mark, plan_mark, read_begun, read_plan, read_network}
use Rattle.judge.proofs.mark_of.Goals as goal

pub accept-requires : goal.accept-requires
accept-requires c =
    let read = c.read_network_and_plan in
    read_network c.args.s.now (λ i. omega (arith, c.type_inv.s i)) read.result read.ensures _ c.in-Ok.is

pub marked-requires : goal.marked-requires
marked-requires c =
    let read = c.read_network_and_plan in
    let s = c.args.s.now in
    record {
      begun = read_begun s (λ i. omega (arith, c.type_inv.s i)) read.result read.ensures _ c.in-Ok.is c.accept.result c.accept.ensures _ c.in-Ok-accept.is;
      well_formed_plan = read_plan s (λ i. omega (arith, c.type_inv.s i)) read.result read.ensures _ c.in-Ok.is c.accept.result c.accept.ensures _ c.in-Ok-accept.is;
    }

pub returns-in-Err : goal.returns-in-Err
returns-in-Err c =
    let read = c.read_network_and_plan in
    let s = c.args.s.now in
    let whole = returned s (λ i. omega (arith, c.type_inv.s i)) read.result read.ensures _ (unread_mark s (λ i. omega (arith, c.type_inv.s i)) read.result read.ensures _ c.in-Err.is) in
    record { value = whole.0; judge_reply = whole.1 }

pub returns-in-Err-accept : goal.returns-in-Err-accept
returns-in-Err-accept c =
    let read = c.read_network_and_plan in
    let s = c.args.s.now in
    let whole = returned s (λ i. omega (arith, c.type_inv.s i)) read.result read.ensures _ (unaccepted_mark s (λ i. omega (arith, c.type_inv.s i)) read.result read.ensures _ c.in-Ok.is c.accept.result c.accept.ensures _ c.in-Err-accept.is) in
    record { value = whole.0; judge_reply = whole.1 }

pub returns-in-Ok-accept : goal.returns-in-Ok-accept
returns-in-Ok-accept c =
    let read = c.read_network_and_plan in
    let s = c.args.s.now in
    let whole = returned s (λ i. omega (arith, c.type_inv.s i)) read.result read.ensures _ (plan_mark s (λ i. omega (arith, c.type_inv.s i)) read.result read.ensures _ c.in-Ok.is c.accept.result c.accept.ensures _ c.in-Ok-accept.is _ c.marked.ensures) in
    record { value = whole.0; judge_reply = whole.1 }

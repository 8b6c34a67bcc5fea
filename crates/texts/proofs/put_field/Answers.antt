-- `texts::put_field` meets its contract: the blank, and the digits behind it.
use mathlib.Core.Path.{◌∙◌}
use native.Mathlib.Omega.{arith}
use lib.ListN.{length-set}
use Rattle.texts.proofs.Pieces.{field_length, field_put}
use Rattle.network.proofs.Pairs.{both}
use Rattle.texts.proofs.put_field.Goals as goal

pub bounds-out-at : goal.bounds-out-at
bounds-out-at c =
    let room0 = field_length c.args.n in
    omega (arith, room0)

pub put_number-requires : goal.put_number-requires
put_number-requires c =
    let room0 = field_length c.args.n in
    simp length-set (omega (arith, room0))

pub shape_of-out : goal.shape_of-out
shape_of-out c =
    let a = c.args in
    c.put_number.auto.out ∙ length-set a.out.now a.at _

pub returns : goal.returns
returns c = let a = c.args in let whole = field_put a.out.now _ a.at _ a.n (both c.put_number.ensures.value c.put_number.ensures.out_after) in record { value = whole.0; out_after = whole.1 }

-- `texts::put_signed` meets its contract, by the sign: a blank with a minus sign and the digits behind it, or a field.
use mathlib.Core.List.{[], ◌∷◌}
use mathlib.Core.Path.{ap, ◌∙◌}
use Prim.Native.Nat.{ℕ}
use native.Mathlib.Omega.{arith}
use lib.IntN.{nat_abs}
use lib.ListN.{length}
use mir.Facts.{to_z-of_z}
use Rattle.network.proofs.Stores.{stored_length}
use Rattle.texts.specs.Texts.{decimal, field}
use Rattle.texts.proofs.Pieces.{signed_minus, signed_plus, minus_put, plus_put, minus_length}
use Rattle.network.proofs.Pairs.{both}
use Rattle.texts.proofs.put_signed.Goals as goal

pub put_text-next-requires : goal.put_text-next-requires
put_text-next-requires c =
    let a = c.args in
    let fit = c.ranges.n in
    let size = c.unsigned_abs-size.ensures.value ∙ ap nat_abs (to_z-of_z fit) in
    let is = signed_minus a.n fit c.if-n-lt0.true in
    omega (arith, minus_length a.n is)

pub put_number-requires : goal.put_number-requires
put_number-requires c =
    let a = c.args in
    let fit = c.ranges.n in
    let size = c.unsigned_abs-size.ensures.value ∙ ap nat_abs (to_z-of_z fit) in
    let is = signed_minus a.n fit c.if-n-lt0.true in
    let told = (both c.put_text-next.ensures.value c.put_text-next.ensures.out_after) in
    let long = stored_length a.out.now _ a.at (32 ∷ 45 ∷ []) told.1 in
    omega (arith, minus_length a.n is, told.0, long, ap (λ (x : ℕ). length (decimal x)) size)

pub returns-then-n-lt0 : goal.returns-then-n-lt0
returns-then-n-lt0 c = let a = c.args in
    let fit = c.ranges.n in
    let size = c.unsigned_abs-size.ensures.value ∙ ap nat_abs (to_z-of_z fit) in
    let is = signed_minus a.n fit c.if-n-lt0.true in let whole = minus_put a.out.now _ _ a.at _ _ _ a.n is size (both c.put_text-next.ensures.value c.put_text-next.ensures.out_after) (both c.put_number.ensures.value c.put_number.ensures.out_after) in record { value = whole.0; out_after = whole.1 }

pub put_field-requires : goal.put_field-requires
put_field-requires c =
    let a = c.args in
    let fit = c.ranges.n in
    let size = c.unsigned_abs-size.ensures.value ∙ ap nat_abs (to_z-of_z fit) in
    let is = signed_plus a.n fit c.if-n-lt0.false in
    omega (arith, ap length is, ap (λ (x : ℕ). length (field x)) size)

pub returns : goal.returns
returns c = let a = c.args in
    let fit = c.ranges.n in
    let size = c.unsigned_abs-size.ensures.value ∙ ap nat_abs (to_z-of_z fit) in
    let is = signed_plus a.n fit c.if-n-lt0.false in let whole = plus_put a.out.now _ a.at _ _ a.n is size (both c.put_field.ensures.value c.put_field.ensures.out_after) in record { value = whole.0; out_after = whole.1 }

-- A copy over the front, of as many values as there are and as there is room for, leaves the values in what was lent. By the laws of lists.
-- Assumes nothing.
use mathlib.Core.Path.{◌≡◌, refl, sym, ap, ap₂, ◌∙◌}
use mathlib.Core.Bool.{Bool, true, false}
use mathlib.Core.List.{List, ◌++◌}
use Prim.Native.Nat.{ℕ, min}
use native.Mathlib.Omega.{arith}
use lib.Dec.{ltb}
use lib.ListN.{length, take, drop, drop_of_length-le}
use lib.Seq.{take_all}
use borrow.Author.Tests.{ltb-true, ltb-false}
use Rattle.host_values.specs.Values.{values_in}

module _ (l vs part : List ℕ) (room : ℕ) (room-is : room ≡ min (length vs) (length l)) (part-is : part ≡ take room vs) where
  pub values_over : part ++ drop room l ≡ values_in vs l
  unfolding values_in
  values_over = ap (λ (t : List ℕ). t ++ drop room l) part-is ∙ go (ltb (length l) (length vs)) refl
    where
      go : (t : Bool) → ltb (length l) (length vs) ≡ t → take room vs ++ drop room l ≡ take (length l) vs ++ drop (length vs) l
      go true t =
          let less = ltb-true (length l) (length vs) t in
          let e : room ≡ length l = omega (arith, room-is) in
          ap₂ (λ (t : List ℕ) (r : List ℕ). t ++ r) (ap (λ (n : ℕ). take n vs) e)
          (drop_of_length-le l {i = room} (omega (arith, e)) ∙ sym (drop_of_length-le l {i = length vs} (omega (arith, less))))
      go false t =
          let most = ltb-false (length l) (length vs) t in
          let e : room ≡ length vs = omega (arith, room-is, most) in
          ap₂ (λ (t : List ℕ) (r : List ℕ). t ++ r) (take_all room vs (omega (arith, e)) ∙ sym (take_all (length l) vs (omega (arith, most))))
          (ap (λ (n : ℕ). drop n l) e)

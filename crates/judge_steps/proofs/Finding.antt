-- The first place of a 1 in a list is the lowest number in the set that the list holds: by induction along the list.
-- Assumes nothing.
use mathlib.Core.Path.{◌≡◌, refl, sym, ap, ◌∙◌}
use mathlib.Core.Bool.{Bool, true, false}
use mathlib.Core.List.{List, [], ◌∷◌}
use Prim.Native.Nat.{ℕ, zero, suc, ◌+◌, ◌≤◌, ◌<◌}
use native.Mathlib.Numerals.{add-one}
use native.Mathlib.Omega.{arith}
use lib.Dec.{eqb}
use lib.ListN.{length, take, get_or}
use Rattle.std.specs.List.{position, position_from}
use Rattle.std.proofs.lemmas.Iterator.Adapters.{position_from-zero}
use Rattle.feeding.specs.Below.{lowest, lowest_from, some_below}
use Rattle.feeding.specs.Networks.{is_in}
use Rattle.feeding.proofs.Lows.{lowest_here, lowest_next, lowest_none, some_found, none_found}

abbrev one : ℕ → Bool
one x = eqb x 1

found_from : (n i m : ℕ) (xs : List ℕ) (f : ℕ → Bool) → m ≡ i + n → n ≤ length xs → ((k : ℕ) → k < n → f (i + k) ≡ one (get_or xs k 0))
    → position_from one i (take n xs) ≡ some_below m (lowest_from n i f)
found_from zero i m xs f e h same = let d : m ≡ i = omega (arith, e) in sym (ap (some_below m) (lowest_none i f) ∙ ap (λ (k : ℕ). some_below k i) d ∙ none_found i i (omega arith))
found_from (suc n) i m [] f e h same = absurd (omega (arith, h))
found_from (suc n) i m (x ∷ xs) f e h same = go (found_from n (i + 1) m xs f (omega (arith, e)) (omega (arith, h)) later) (f i) refl
  where
    later : (k : ℕ) → k < n → f (i + 1 + k) ≡ one (get_or xs k 0)
    later k l = let d : i + 1 + k ≡ i + suc k = omega arith in ap f d ∙ same (suc k) (omega arith)

    here : one x ≡ f i
    here = let d : i + 0 ≡ i = omega arith in sym (same 0 (omega arith)) ∙ ap f d

    go : position_from one (i + 1) (take n xs) ≡ some_below m (lowest_from n (i + 1) f) → (t : Bool) → f i ≡ t
        → position_from one i (take (suc n) (x ∷ xs)) ≡ some_below m (lowest_from (suc n) i f)
    go rest true t = rw (here ∙ t, lowest_here n i f t) (sym (some_found m i (omega (arith, e))))
    go rest false t = rw (here ∙ t, lowest_next n i f t, ← add-one i) rest

pub member_found : (n : ℕ) (xs : List ℕ) → n ≤ length xs → position one (take n xs) ≡ some_below n (lowest n (is_in xs))
unfolding lowest
member_found n xs h =
    position_from-zero one (take n xs) ∙ found_from n 0 n xs (is_in xs) (omega arith) h (λ k l. let d : 0 + k ≡ k = omega arith in ap (is_in xs) d)

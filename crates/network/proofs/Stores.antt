-- What a run of stores leaves, over any list: stores one behind the other are the stores of the numbers strung together, and stores from the
-- front on are the numbers themselves before the rest.
-- Assumes nothing.
use mathlib.Core.Path.{◌≡◌, ap, sym, ◌∙◌}
use mathlib.Core.List.{List, [], ◌∷◌, ◌++◌}
use Prim.Native.Nat.{ℕ, suc, ◌+◌, ◌≤◌}
use native.Mathlib.Nat.{zero-add, add-zero, add-suc, suc-add}
use native.Mathlib.Omega.{arith}
use lib.ListN.{length, set, drop}
use lib.Seq.{sets, sets-eq, length-sets}

pub sets_append : (xs ys l : List ℕ) (i : ℕ) → sets l i (xs ++ ys) ≡ sets (sets l i xs) (i + length xs) ys
sets_append [] ys l i = ap (λ (k : ℕ). sets l k ys) (sym (add-zero i))
sets_append (x ∷ xs) ys l i =
    sets_append xs ys (set l i x) (suc i) ∙
    ap (λ (k : ℕ). sets (sets (set l i x) (suc i) xs) k ys) (suc-add i (length xs) ∙ sym (add-suc i (length xs)))

-- a second run of stores behind the first
pub stored_behind :
    (l l' l'' : List ℕ) (i j : ℕ) (xs ys : List ℕ) →
    l' ≡ sets l i xs →
    l'' ≡ sets l' j ys →
    j ≡ i + length xs →
    l'' ≡ sets l i (xs ++ ys)
stored_behind l l' l'' i j xs ys e e' h = e' ∙ rw (e, h) (sym (sets_append xs ys l i))

pub stored_length : (l l' : List ℕ) (i : ℕ) (xs : List ℕ) → l' ≡ sets l i xs → length l' ≡ length l
stored_length l l' i xs e = ap length e ∙ length-sets l i xs

pub sets_front : (xs l : List ℕ) → length xs ≤ length l → sets l 0 xs ≡ xs ++ drop (length xs) l
sets_front xs l h = sets-eq xs l 0 (omega arith) ∙ rw zero-add

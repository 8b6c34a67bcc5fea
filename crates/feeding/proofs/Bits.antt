-- Laws of marks, for loops that store them: two lists are equal where they are equally long and agree at each place.
-- Assumes nothing.
use Prim.Native.Nat.{ℕ, ◌+◌, ◌≤◌, ◌<◌}
use mathlib.Core.Path.{◌≡◌, refl, ap, ◌∙◌}
use mathlib.Core.Bool.{Bool, true, false, ◌&&◌, and-false}
use mathlib.Core.List.{List}
use lib.Dec.{eqb, ltb}
use lib.ListN.{length, set, replicate, length-set, length-replicate, get_or-replicate, get_or-eq_default}
use lib.Seq.{get_or-set_same, get_or-set_other}
use borrow.Author.Tests.{eqb-true, eqb-false, ltb-true, ltb-false, lt-ltb, le-ltb}
use native.Mathlib.Numerals.{add-one}
use native.Mathlib.Omega.{arith}
use Rattle.feeding.specs.Below.{gate, bits}
use Rattle.feeding.specs.Networks.{at, is_in}
use Rattle.feeding.proofs.Below.{ltb_suc}
use Rattle.feeding.proofs.Lows.{length_tabulate, at_tabulate, table_ext}

pub bits_table : (w n : ℕ) (f : ℕ → Bool) (xs : List ℕ) → length xs ≡ w → ((x : ℕ) → x < w → at xs x ≡ gate (ltb x n && f x) 1)
    → xs ≡ bits w n f
unfolding bits
bits_table w n f xs long h = table_ext w (λ x. gate (ltb x n && f x) 1) xs long h

pub length_bits : (w n : ℕ) (f : ℕ → Bool) → length (bits w n f) ≡ w
unfolding bits
length_bits w n f = length_tabulate w _

pub at_bits : (w n : ℕ) (f : ℕ → Bool) (x : ℕ) → x < w → at (bits w n f) x ≡ gate (ltb x n && f x) 1
unfolding bits
at_bits w n f x k = at_tabulate w (λ x. gate (ltb x n && f x) 1) x k

pub bits_ext : (w n : ℕ) (f f' : ℕ → Bool) → ((x : ℕ) → x < n → f x ≡ f' x) → bits w n f ≡ bits w n f'
bits_ext w n f f' h = bits_table w n f' (bits w n f) (length_bits w n f) (λ x k. at_bits w n f x k ∙ ap (λ b. gate b 1) (go x (ltb x n) refl))
  where
    go : (x : ℕ) (t : Bool) → ltb x n ≡ t → (t && f x) ≡ (t && f' x)
    go x true e = h x (ltb-true x n e)
    go x false e = refl

-- ---- read

pub is_in_bits : (w n : ℕ) (f : ℕ → Bool) (x : ℕ) → n ≤ w → x < n → is_in (bits w n f) x ≡ f x
is_in_bits w n f x h k = rw (at_bits w n f x (omega arith), lt-ltb x n k) (go (f x))
  where
    go : (t : Bool) → eqb (gate t 1) 1 ≡ t
    go true = refl
    go false = refl

pub is_in_beyond : (w n : ℕ) (f : ℕ → Bool) (x : ℕ) → n ≤ x → is_in (bits w n f) x ≡ false
is_in_beyond w n f x h = go (ltb x w) refl
  where
    go : (t : Bool) → ltb x w ≡ t → is_in (bits w n f) x ≡ false
    go true e = rw (at_bits w n f x (ltb-true x w e), le-ltb x n h)
    go false e = rw (get_or-eq_default (bits w n f) 0 {n = x} (omega (arith, length_bits w n f, ltb-false x w e)))

-- ---- written, for a loop on x

pub bits_none : (w : ℕ) (f : ℕ → Bool) → replicate w 0 ≡ bits w 0 f
bits_none w f = bits_table w 0 f (replicate w 0) (length-replicate w 0)
    (λ x k. get_or-replicate w x 0 0 k ∙ rw (le-ltb x 0 (omega arith)))

-- at the places other than x nothing changes
next : (w x : ℕ) (f : ℕ → Bool) (y : ℕ) → (y ≡ x → ⊥) → y < w → at (bits w x f) y ≡ gate (ltb y (x + 1) && f y) 1
next w x f y h k = at_bits w x f y k ∙ rw (add-one x, ltb_suc y x h)

pub members_off : (w x : ℕ) (f : ℕ → Bool) (out out' : List ℕ) → out ≡ bits w x f → f x ≡ false → out' ≡ out → out' ≡ bits w (x + 1) f
members_off w x f out out' p off q = q ∙ p ∙ bits_table w (x + 1) f (bits w x f) (length_bits w x f) (λ y k. go y k (eqb y x) refl)
  where
    go : (y : ℕ) → y < w → (t : Bool) → eqb y x ≡ t → at (bits w x f) y ≡ gate (ltb y (x + 1) && f y) 1
    go y k true e =
        let z : f y ≡ false = ap f (eqb-true y x e) ∙ off in
        at_bits w x f y k ∙ simp (z, and-false)
    go y k false e = next w x f y (eqb-false y x e) k

pub bits_on : (w x : ℕ) (f : ℕ → Bool) (out out' : List ℕ) (v : ℕ) → x < w → out ≡ bits w x f → f x ≡ true → v ≡ 1 → out' ≡ set out x v
    → out' ≡ bits w (x + 1) f
bits_on w x f out out' v inside p on one q =
    bits_table w (x + 1) f out' (rw (q, p) (length-set (bits w x f) x v ∙ length_bits w x f)) (λ y k. rw (q, p) (go y k (eqb y x) refl))
  where
    go : (y : ℕ) → y < w → (t : Bool) → eqb y x ≡ t → at (set (bits w x f) x v) y ≡ gate (ltb y (x + 1) && f y) 1
    go y k true e =
        rw (eqb-true y x e, lt-ltb x (x + 1) (omega arith), on)
        (get_or-set_same (bits w x f) x v 0 (omega (arith, length_bits w x f)) ∙ one)
    go y k false e = get_or-set_other (bits w x f) x y v 0 (eqb-false y x e) ∙ next w x f y (eqb-false y x e) k

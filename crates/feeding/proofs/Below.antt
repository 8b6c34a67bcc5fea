-- Laws of tests: of two numbers, of one test and of two, and of all numbers below a bound, these by induction on the bound.
-- Assumes nothing.
use Prim.Native.Nat.{ℕ, zero, suc, ◌≤◌, ◌<◌}
use mathlib.Core.Path.{◌≡◌, refl, sym, ap₂}
use mathlib.Core.Bool.{Bool, true, false, not, ◌&&◌, ◌||◌, or-false, false≢true}
use lib.Dec.{eqb, ltb}
use borrow.Author.Tests.{eqb-true, eqb-false, eq-eqb, ne_eqb, ltb-true, ltb-false, lt-ltb, le-ltb}
use native.Mathlib.Omega.{arith}
use Rattle.feeding.specs.Below.{gate, imp, all_to, any_to}

-- ---- two numbers

pub eqb_comm : (a b : ℕ) → eqb a b ≡ eqb b a
eqb_comm a b = go (eqb a b) refl
  where
    go : (t : Bool) → eqb a b ≡ t → t ≡ eqb b a
    go true t = sym (eq-eqb b a (sym (eqb-true a b t)))
    go false t = sym (ne_eqb b a (λ e. eqb-false a b t (sym e)))

pub ltb_suc : (m n : ℕ) → (m ≡ n → ⊥) → ltb m (suc n) ≡ ltb m n
ltb_suc m n h = go (ltb m n) refl
  where
    go : (t : Bool) → ltb m n ≡ t → ltb m (suc n) ≡ t
    go true e = lt-ltb m (suc n) (omega (arith, ltb-true m n e))
    go false e = le-ltb m (suc n) (omega (arith, ltb-false m n e, h))

-- ---- a value where a test passes

pub gate_ext : (b : Bool) (x y : ℕ) → (b ≡ true → x ≡ y) → gate b x ≡ gate b y
gate_ext true x y h = h refl
gate_ext false x y h = refl

pub gate_mono : (b b' : Bool) (x x' : ℕ) → (b ≡ true → b' ≡ true) → x ≤ x' → gate b x ≤ gate b' x'
gate_mono true true x x' i h = h
gate_mono true false x x' i h = absurd (false≢true (i refl))
gate_mono false true x x' i h = omega arith
gate_mono false false x x' i h = omega arith

pub gate_le : (b : Bool) (x : ℕ) → gate b x ≤ x
gate_le true x = omega arith
gate_le false x = omega arith

-- x where the test passed, else z
abbrev pub or_else : ℕ → Bool → ℕ → ℕ
or_else z b x = elim b [ true ↦ x | false ↦ z ]

-- ---- two tests

pub same_test : (s t : Bool) → (s ≡ true → t ≡ true) → (t ≡ true → s ≡ true) → s ≡ t
same_test true t f b = sym (f refl)
same_test false true f b = b refl
same_test false false f b = refl

pub and_left : (a b : Bool) → (a && b) ≡ true → a ≡ true
and_left true b h = refl
and_left false b h = h

pub and_right : (a b : Bool) → (a && b) ≡ true → b ≡ true
and_right true b h = h
and_right false b h = absurd (false≢true h)

pub and_both : (a b : Bool) → a ≡ true → b ≡ true → (a && b) ≡ true
and_both true b h k = k
and_both false b h k = h

pub or_left : (a b : Bool) → a ≡ true → (a || b) ≡ true
or_left true b h = refl
or_left false b h = absurd (false≢true h)

pub or_right : (a b : Bool) → b ≡ true → (a || b) ≡ true
or_right true b h = refl
or_right false b h = h

pub not_in : (b : Bool) → (b ≡ true → ⊥) → not b ≡ true
not_in true h = absurd (h refl)
not_in false h = refl

pub not_out : (b : Bool) → not b ≡ true → b ≡ true → ⊥
not_out true h e = false≢true h
not_out false h e = false≢true e

-- neither passes
pub not_or : (a b : Bool) → not (a || b) ≡ (not a && not b)
not_or true b = refl
not_or false b = refl

pub imp_out : (a b : Bool) → imp a b ≡ true → a ≡ true → b ≡ true
imp_out true b h e = h
imp_out false b h e = absurd (false≢true e)

pub imp_in : (a b : Bool) → (a ≡ true → b ≡ true) → imp a b ≡ true
imp_in true b h = h refl
imp_in false b h = refl

-- ---- every number, and some number

pub all_to_out : (n : ℕ) (f : ℕ → Bool) → all_to n f ≡ true → (l : ℕ) → l < n → f l ≡ true
unfolding all_to
all_to_out zero f h l k = absurd (omega arith)
all_to_out (suc n) f h l k = go (all_to_out n f (and_left (all_to n f) (f n) h) l) (ltb l n) refl
  where
    go : (l < n → f l ≡ true) → (t : Bool) → ltb l n ≡ t → f l ≡ true
    go ih true t = ih (ltb-true l n t)
    go ih false t = let e : l ≡ n = omega (arith, ltb-false l n t) in rw e (and_right (all_to n f) (f n) h)

pub all_to_in : (n : ℕ) (f : ℕ → Bool) → ((l : ℕ) → l < n → f l ≡ true) → all_to n f ≡ true
unfolding all_to
all_to_in zero f h = refl
all_to_in (suc n) f h = and_both (all_to n f) (f n) (all_to_in n f (λ l k. h l (omega arith))) (h n (omega arith))

pub any_to_out : (n : ℕ) (f : ℕ → Bool) → any_to n f ≡ true → (l : ℕ) × (l < n) × (f l ≡ true)
unfolding any_to
any_to_out zero f h = absurd (false≢true h)
any_to_out (suc n) f h = go (λ e. any_to_out n f e) (any_to n f) refl
  where
    up : (l : ℕ) × (l < n) × (f l ≡ true) → (l : ℕ) × (l < suc n) × (f l ≡ true)
    up r = (r.0, omega (arith, r.1), r.2)

    go : (any_to n f ≡ true → (l : ℕ) × (l < n) × (f l ≡ true)) → (t : Bool) → any_to n f ≡ t → (l : ℕ) × (l < suc n) × (f l ≡ true)
    go ih true e = up (ih e)
    go ih false e = (n, omega arith, rw e at h)

pub any_to_in : (n : ℕ) (f : ℕ → Bool) (l : ℕ) → l < n → f l ≡ true → any_to n f ≡ true
unfolding any_to
any_to_in zero f l k h = absurd (omega arith)
any_to_in (suc n) f l k h = go (λ b. any_to_in n f l b h) (ltb l n) refl
  where
    go : (l < n → any_to n f ≡ true) → (t : Bool) → ltb l n ≡ t → (any_to n f || f n) ≡ true
    go ih true t = or_left _ (f n) (ih (ltb-true l n t))
    go ih false t = let e : l ≡ n = omega (arith, ltb-false l n t) in or_right (any_to n f) (f n) (rw e at h)

pub any_to_ext : (n : ℕ) (f g : ℕ → Bool) → ((l : ℕ) → l < n → f l ≡ g l) → any_to n f ≡ any_to n g
unfolding any_to
any_to_ext zero f g h = refl
any_to_ext (suc n) f g h = ap₂ ◌||◌ (any_to_ext n f g (λ l k. h l (omega arith))) (h n (omega arith))

pub any_none : (f : ℕ → Bool) → any_to zero f ≡ false
unfolding any_to
any_none f = refl

pub any_yes : (n : ℕ) (f : ℕ → Bool) → f n ≡ true → any_to (suc n) f ≡ true
any_yes n f h = any_to_in (suc n) f n (omega arith) h

pub any_no : (n : ℕ) (f : ℕ → Bool) → f n ≡ false → any_to (suc n) f ≡ any_to n f
unfolding any_to
any_no n f h = rw h (or-false (any_to n f))

-- The sign of a margin, by whether the load is above the capacity: an element bears a load exactly where that is at most its capacity, and a test
-- tells it.
-- Assumes nothing.
use Prim.Native.Nat.{ℕ, zero, suc, ◌-◌, ◌<◌, ◌≤◌}
use mathlib.Core.Path.{◌≡◌, refl, sym, ap, ◌∙◌, subst}
use mathlib.Core.Bool.{Bool, true, false}
use lib.Dec.{ltb, leb, leb→le, le→leb}
use lib.IntN.{ℤ, pos, negsuc}
use lib.Signed.{le_z, ◌≤ℤ◌}
use borrow.Author.Tests.{ltb-true, ltb-false, lt-ltb, le-ltb, le-leb, lt-leb, leb-true, leb-false}
use native.Mathlib.Omega.{arith}
use Rattle.feeding.specs.Loads.{margin, borne?, Bears, bears?}
use Rattle.feeding.specs.Networks.{Grid}

-- ---- the order of integers

pub le_antisym : (a b : ℤ) → a ≤ℤ b → b ≤ℤ a → a ≡ b
le_antisym (pos a) (pos b) h k = ap pos (omega (arith, leb→le a b h.le, leb→le b a k.le))
le_antisym (pos a) (negsuc b) h k = absurd h.le
le_antisym (negsuc a) (pos b) h k = absurd k.le
le_antisym (negsuc a) (negsuc b) h k = ap negsuc (omega (arith, leb→le b a h.le, leb→le a b k.le))

-- ---- one margin

pub margin_pos : (cap x : ℕ) → x ≤ cap → margin cap x ≡ pos (cap - x)
unfolding margin
margin_pos cap zero h = ap pos (omega arith)
margin_pos cap (suc x) h = rw (le-ltb cap (suc x) h)

pub margin_neg : (cap x : ℕ) → cap < x → margin cap x ≡ negsuc (x - suc cap)
unfolding margin
margin_neg cap zero h = absurd (omega arith)
margin_neg cap (suc x) h = rw (lt-ltb cap (suc x) h)

-- the test of its sign is the comparison of the two
pub borne_test : (cap x : ℕ) → borne? cap x ≡ leb x cap
borne_test cap x = go (ltb cap x) refl
  where
    go : (t : Bool) → ltb cap x ≡ t → le_z (pos 0) (margin cap x) ≡ leb x cap
    go true t = ap (le_z (pos 0)) (margin_neg cap x (ltb-true cap x t)) ∙ sym (lt-leb x cap (ltb-true cap x t))
    go false t =
        ap (le_z (pos 0)) (margin_pos cap x (ltb-false cap x t)) ∙ le-leb 0 (cap - x) (omega arith) ∙ sym (le-leb x cap (ltb-false cap x t))

pub le_borne : (cap x : ℕ) → x ≤ cap → borne? cap x ≡ true
le_borne cap x h = borne_test cap x ∙ le-leb x cap h

pub lt_borne : (cap x : ℕ) → cap < x → borne? cap x ≡ false
lt_borne cap x h = borne_test cap x ∙ lt-leb x cap h

pub borne_true : (cap x : ℕ) → borne? cap x ≡ true → x ≤ cap
borne_true cap x t = leb-true x cap (sym (borne_test cap x) ∙ t)

pub borne_false : (cap x : ℕ) → borne? cap x ≡ false → cap < x
borne_false cap x t = leb-false x cap (sym (borne_test cap x) ∙ t)

-- ---- what an element bears: the margin is not negative exactly where the load is at most the capacity

pub le_bears : (g : Grid) (e x : ℕ) → x ≤ g.capacity e → Bears g e x
le_bears g e x h = rw (margin_pos (g.capacity e) x h) (record { le = le→leb 0 (g.capacity e - x) (omega arith) })

pub bears_le : (g : Grid) (e x : ℕ) → Bears g e x → x ≤ g.capacity e
bears_le g e x h = go (ltb (g.capacity e) x) refl
  where
    go : (t : Bool) → ltb (g.capacity e) x ≡ t → x ≤ g.capacity e
    go true t = absurd (subst (λ (m : ℤ). pos 0 ≤ℤ m) (margin_neg (g.capacity e) x (ltb-true (g.capacity e) x t)) h).le
    go false t = ltb-false (g.capacity e) x t

-- and the test tells it
pub bears?_in : (g : Grid) (e x : ℕ) → bears? g e x ≡ true → Bears g e x
bears?_in g e x t = le_bears g e x (borne_true (g.capacity e) x t)

pub bears?_out : (g : Grid) (e x : ℕ) → bears? g e x ≡ false → ¬ Bears g e x
bears?_out g e x t h = omega (arith, borne_false (g.capacity e) x t, bears_le g e x h)

pub bears?_none : (g : Grid) (e x : ℕ) → ¬ Bears g e x → bears? g e x ≡ false
bears?_none g e x above-it = go (bears? g e x) refl
  where
    go : (t : Bool) → bears? g e x ≡ t → t ≡ false
    go true t = absurd (above-it (bears?_in g e x t))
    go false t = refl

-- `Joined` is an equivalence: a path is followed, put behind another, or gone back, step by step.
-- Assumes nothing.
use Prim.Native.Nat.{ℕ, ◌<◌}
use mathlib.Core.Path.{◌≡◌, refl, sym, ◌∙◌}
use mathlib.Core.Bool.{Bool, true, false, cond, ◌||◌}
use lib.Dec.{eqb}
use borrow.Author.Tests.{eqb-true, eq-eqb}
use Rattle.feeding.specs.Networks.{Grid}
use Rattle.feeding.specs.Parts.{Config, Joined, here, over, touches, far}

-- a link from a to b, in either direction
pub data Spans (g : Grid) (l a b : ℕ) : Type 0 where
  forth : g.end_a l ≡ a → g.end_b l ≡ b → Spans g l a b
  back : g.end_b l ≡ a → g.end_a l ≡ b → Spans g l a b

pub spans_far : (g : Grid) (l a : ℕ) → touches g l a ≡ true → Spans g l a (far g l a)
unfolding touches far
spans_far g l a t = go (eqb (g.end_a l) a) refl
  where
    go : (b : Bool) → eqb (g.end_a l) a ≡ b → Spans g l a (cond b (g.end_b l) (g.end_a l))
    go true e = forth (eqb-true _ _ e) refl
    go false e = back (eqb-true _ _ (rw e at t)) refl

touches_A : (g : Grid) (l : ℕ) → touches g l (g.end_a l) ≡ true
unfolding touches
touches_A g l = rw (eq-eqb (g.end_a l) (g.end_a l) refl)

touches_B : (g : Grid) (l : ℕ) → touches g l (g.end_b l) ≡ true
unfolding touches
touches_B g l = go (eqb (g.end_a l) (g.end_b l))
  where
    go : (b : Bool) → (b || eqb (g.end_b l) (g.end_b l)) ≡ true
    go true = refl
    go false = eq-eqb (g.end_b l) (g.end_b l) refl

far_A : (g : Grid) (l : ℕ) → far g l (g.end_a l) ≡ g.end_b l
unfolding far
far_A g l = rw (eq-eqb (g.end_a l) (g.end_a l) refl)

far_B : (g : Grid) (l : ℕ) → far g l (g.end_b l) ≡ g.end_a l
unfolding far
far_B g l = go (eqb (g.end_a l) (g.end_b l)) refl
  where
    go : (b : Bool) → eqb (g.end_a l) (g.end_b l) ≡ b → cond b (g.end_b l) (g.end_a l) ≡ g.end_a l
    go true e = sym (eqb-true _ _ e)
    go false e = refl

pub spans_touches : (g : Grid) (l a b : ℕ) → Spans g l a b → touches g l a ≡ true
spans_touches g l a b (forth p q) = rw p at (touches_A g l)
spans_touches g l a b (back p q) = rw p at (touches_B g l)

pub spans_is_far : (g : Grid) (l a b : ℕ) → Spans g l a b → far g l a ≡ b
spans_is_far g l a b (forth p q) = rw (← p) (far_A g l ∙ q)
spans_is_far g l a b (back p q) = rw (← p) (far_B g l ∙ q)

pub spans_sym : {g : Grid} {l a b : ℕ} → Spans g l a b → Spans g l b a
spans_sym (forth p q) = back q p
spans_sym (back p q) = forth q p

module _ (g : Grid) (c : Config) where
  -- a step, by the link's two ends
  pub step : {d : ℕ} (l a b : ℕ) → l < g.K → c l ≡ true → Spans g l a b → Joined g c d b → Joined g c d a
  step l a b k h s j = over l k h (spans_touches g l a b s) (rw (spans_is_far g l a b s) j)

  pub joined_trans : {b a d : ℕ} → Joined g c b a → Joined g c d b → Joined g c d a
  joined_trans here j = j
  joined_trans (over l k h t i) j = over l k h t (joined_trans i j)

  pub joined_sym : {d a : ℕ} → Joined g c d a → Joined g c a d
  joined_sym here = here
  joined_sym (over {a = a} l k h t i) = joined_trans (joined_sym i) (step l (far g l a) a k h (spans_sym (spans_far g l a t)) here)

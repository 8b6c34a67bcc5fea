-- `lowest_over` is the lowest overloaded element: the walks meet exactly the fed elements, each with its load at a depth that is enough.
-- Assumes nothing.
use Prim.Native.Nat.{ℕ, zero, suc, ◌*◌, ◌≤◌, ◌<◌, min}
use mathlib.Core.Path.{◌≡◌, refl, sym, ap, ◌∙◌, subst}
use mathlib.Core.Logic.{◌⊎◌, inl, inr}
use mathlib.Core.Bool.{Bool, true, false}
use lib.Dec.{ltb}
use borrow.Author.Tests.{ltb-true, ltb-false}
use native.Mathlib.Omega.{arith}
use Rattle.feeding.specs.Below.{least_to, Lowest}
use Rattle.feeding.specs.Loads.{leads, Fed, at_source, onward, element_load, load_at, Bears, bears?, Within, Overloaded, above, element_over, lowest_over}
use Rattle.feeding.specs.Networks.{Grid, Formed}
use Rattle.feeding.specs.Parts.{Config, far, Sound, sound?}
use Rattle.feeding.proofs.Forest.{Bridges}
use Rattle.feeding.proofs.Load.{same_load, fed_came, fed_in}
use Rattle.feeding.proofs.Lows.{least_to_top, least_to_le, least_to_or, none_below}
use Rattle.feeding.proofs.Margins.{bears?_in, bears?_out, bears?_none}
use Rattle.feeding.proofs.Tests.{sound?_in, sound?_out}
use Rattle.feeding.proofs.Walk.{room, room_le, room_shrinks, room_pos}

above_out : (g : Grid) (e x : ℕ) → above g e x < g.E → (¬ Bears g e x) × (above g e x ≡ e)
unfolding above
above_out g e x = go (bears? g e x) refl
  where
    go : (t : Bool) → bears? g e x ≡ t → elim t [ true ↦ g.E | false ↦ e ] < g.E
        → (¬ Bears g e x) × (elim t [ true ↦ g.E | false ↦ e ] ≡ e)
    go true t h = absurd (omega arith)
    go false t h = (bears?_out g e x t, refl)

pub above_in : (g : Grid) (e x : ℕ) → ¬ Bears g e x → above g e x ≡ e
unfolding above
above_in g e x h = rw (bears?_none g e x h, above)

-- the lower of two numbers is one of them
min_or : (a b : ℕ) → (min a b ≡ a) ⊎ (min a b ≡ b)
min_or a b = go (ltb a b) refl
  where
    go : (t : Bool) → ltb a b ≡ t → (min a b ≡ a) ⊎ (min a b ≡ b)
    go true t = inl (omega (arith, ltb-true a b t))
    go false t = inr (omega (arith, ltb-false a b t))

-- a value where the test passed, else E: below E, the test passed
picked : (b : Bool) (x y z : ℕ) → z ≡ elim b [ true ↦ x | false ↦ y ] → z < y → (b ≡ true) × (z ≡ x)
picked true x y z q h = (refl, q)
picked false x y z q h = absurd (omega arith)

-- what the walk finds over the links that lead on from e
abbrev beyond : Grid → Config → ℕ → ℕ → ℕ → ℕ → ℕ
beyond g c d e via l = elim (leads g c e via l) [ true ↦ element_over g c d (far g l e) l | false ↦ g.E ]

-- two turns of the walk, to the next element
over_step : (g : Grid) (c : Config) (d e via : ℕ)
    → element_over g c (suc (suc d)) e via ≡ min (above g e (element_load g c (suc (suc d)) e via)) (least_to g.K g.E (beyond g c d e via))
unfolding element_over above
over_step g c d e via = refl

module _ (g : Grid) (formed : Formed g) (c : Config) (bridges : Bridges g c) where
  -- at a depth that is enough the load is the load
  load_is : (d e via : ℕ) → Fed g c e via → 2 * room g c e via ≤ d → element_load g c d e via ≡ load_at g c e via
  load_is d e via f h = same_load g formed c bridges d (2 * g.E) e via (fed_in g c formed f) (fed_came g c f) h (omega (arith, room_le g c e via))

  smaller : (e via l : ℕ) → Fed g c e via → l < g.K → leads g c e via l ≡ true → room g c (far g l e) l < room g c e via
  smaller e via l f k p = room_shrinks g formed c bridges e via l (fed_in g c formed f) (fed_came g c f) k p

  -- what the walk finds is overloaded
  abbrev Found : ℕ → ℕ → ℕ → Type 0
  Found d e via = Fed g c e via → 2 * room g c e via ≤ d → element_over g c d e via < g.E → Overloaded g c (element_over g c d e via)

  found : (d e via : ℕ) → Found d e via
  found zero e via f h k = absurd (omega (arith, room_pos g formed c e via (fed_in g c formed f)))
  found (suc zero) e via f h k = absurd (omega (arith, room_pos g formed c e via (fed_in g c formed f)))
  found (suc (suc d)) e via f h k = go (λ l. found d (far g l e) l) (min_or own rest)
    where
      own : ℕ
      own = above g e (element_load g c (suc (suc d)) e via)

      rest : ℕ
      rest = least_to g.K g.E (beyond g c d e via)

      here_over : element_over g c (suc (suc d)) e via ≡ own → Overloaded g c (element_over g c (suc (suc d)) e via)
      here_over q = subst (Overloaded g c) (sym (q ∙ r.1)) (record { via = via; fed = f; above = subst (λ x. ¬ Bears g e x) (load_is (suc (suc d)) e via f h) r.0 })
        where
          r : (¬ Bears g e (element_load g c (suc (suc d)) e via)) × (above g e (element_load g c (suc (suc d)) e via) ≡ e)
          r = above_out g e (element_load g c (suc (suc d)) e via) (subst (λ z. z < g.E) q k)

      onward_over : ((l : ℕ) → Found d (far g l e) l) → element_over g c (suc (suc d)) e via ≡ rest
          → (rest ≡ g.E) ⊎ ((l : ℕ) × (l < g.K) × (rest ≡ beyond g c d e via l)) → Overloaded g c (element_over g c (suc (suc d)) e via)
      onward_over ih q (inl n) = absurd (omega (arith, q, n))
      onward_over ih q (inr r) = subst (Overloaded g c) (sym p.1)
          (ih r.0 (onward r.0 r.1 p.0 f) (omega (arith, smaller e via r.0 f r.1 p.0)) (subst (λ z. z < g.E) p.1 k))
        where
          p : (leads g c e via r.0 ≡ true) × (element_over g c (suc (suc d)) e via ≡ element_over g c d (far g r.0 e) r.0)
          p = picked (leads g c e via r.0) (element_over g c d (far g r.0 e) r.0) g.E (element_over g c (suc (suc d)) e via) (q ∙ r.2) k

      go : ((l : ℕ) → Found d (far g l e) l)
          → (min own rest ≡ own) ⊎ (min own rest ≡ rest) → Overloaded g c (element_over g c (suc (suc d)) e via)
      go ih (inl q) = here_over (over_step g c d e via ∙ q)
      go ih (inr q) = onward_over ih (over_step g c d e via ∙ q) (least_to_or g.K g.E (beyond g c d e via))

  -- the walk that meets e by the link via, with depth enough left
  record Met (e via : ℕ) : Type 0 where
    depth : ℕ
    enough : 2 * room g c e via ≤ depth
    low : lowest_over g c ≤ element_over g c depth e via

  start_low : (s : ℕ) → Sound g s → lowest_over g c ≤ element_over g c (2 * g.E) s g.K
  unfolding lowest_over
  start_low s h = subst (λ z. lowest_over g c ≤ z)
      (ap (λ (t : Bool). elim t [ true ↦ element_over g c (2 * g.E) s g.K | false ↦ g.E ]) (sound?_in g s h))
      (least_to_le g.E g.E (λ s. elim (sound? g s) [ true ↦ element_over g c (2 * g.E) s g.K | false ↦ g.E ]) s h.below)

  meets_next : (e via l : ℕ) → Fed g c e via → l < g.K → leads g c e via l ≡ true → (d : ℕ) → 2 * room g c e via ≤ d
      → lowest_over g c ≤ element_over g c d e via → Met (far g l e) l
  meets_next e via l f k p zero h low = absurd (omega (arith, room_pos g formed c e via (fed_in g c formed f)))
  meets_next e via l f k p (suc zero) h low = absurd (omega (arith, room_pos g formed c e via (fed_in g c formed f)))
  meets_next e via l f k p (suc (suc d)) h low = record {
    depth = d;
    enough = omega (arith, smaller e via l f k p);
    low = omega (arith, over_step g c d e via, low_next);
  }
    where
      low_next : least_to g.K g.E (beyond g c d e via) ≤ element_over g c d (far g l e) l
      low_next = subst (λ z. least_to g.K g.E (beyond g c d e via) ≤ z)
          (ap (λ (t : Bool). elim t [ true ↦ element_over g c d (far g l e) l | false ↦ g.E ]) p)
          (least_to_le g.K g.E (beyond g c d e via) l k)

  -- every fed element is met
  met : {e via : ℕ} → Fed g c e via → Met e via
  met (at_source {s = s} h) = record { depth = 2 * g.E; enough = omega (arith, room_le g c s g.K); low = start_low s h }
  met (onward {e = e} {via = v} l k p f) = go (met f)
    where
      go : Met e v → Met (far g l e) l
      go m = meets_next e v l f k p m.depth m.enough m.low

  own_low : (d e via : ℕ) → element_over g c d e via ≤ above g e (element_load g c d e via)
  unfolding element_over
  own_low zero e via = omega arith
  own_low (suc d) e via = omega arith

  -- and an overloaded one is at least the lowest found
  low_enough : (e : ℕ) → Overloaded g c e → lowest_over g c ≤ e
  low_enough e o = go (met o.fed)
    where
      go : Met e o.via → lowest_over g c ≤ e
      go m = omega (
        arith,
        m.low,
        own_low m.depth e o.via,
        above_in g e (element_load g c m.depth e o.via) (subst (λ x. ¬ Bears g e x) (sym (load_is m.depth e o.via o.fed m.enough)) o.above),
      )

  low_over : lowest_over g c < g.E → Overloaded g c (lowest_over g c)
  unfolding lowest_over
  low_over k = go (least_to_or g.E g.E walk)
    where
      walk : ℕ → ℕ
      walk s = elim (sound? g s) [ true ↦ element_over g c (2 * g.E) s g.K | false ↦ g.E ]

      go : (lowest_over g c ≡ g.E) ⊎ ((s : ℕ) × (s < g.E) × (lowest_over g c ≡ walk s)) → Overloaded g c (lowest_over g c)
      go (inl q) = absurd (omega arith)
      go (inr r) = subst (Overloaded g c) (sym p.1)
          (found (2 * g.E) r.0 g.K (at_source (sound?_out g r.0 r.1 p.0)) (omega (arith, room_le g c r.0 g.K))
          (subst (λ z. z < g.E) p.1 k))
        where
          p : (sound? g r.0 ≡ true) × (lowest_over g c ≡ element_over g c (2 * g.E) r.0 g.K)
          p = picked (sound? g r.0) (element_over g c (2 * g.E) r.0 g.K) g.E (lowest_over g c) r.2 k

  at_most_E : lowest_over g c ≤ g.E
  unfolding lowest_over
  at_most_E = least_to_top g.E g.E _

  pub over_lowest : Lowest g.E (Overloaded g c) (lowest_over g c)
  over_lowest = record {
    at_most = at_most_E;
    has = low_over;
    none_lower = λ y k o. omega (arith, low_enough y o);
  }

-- no element is overloaded where the lowest place is none
pub none_over : (g : Grid) (formed : Formed g) (c : Config) (bridges : Bridges g c) → ltb (lowest_over g c) g.E ≡ false → Within g c
none_over g formed c bridges none e via f = go (bears? g e (load_at g c e via)) refl
  where
    go : (t : Bool) → bears? g e (load_at g c e via) ≡ t → Bears g e (load_at g c e via)
    go true t = bears?_in g e _ t
    go false t = absurd (none_below g.E _ _ (over_lowest g formed c bridges) none e (fed_in g c formed f)
        (record { via = via; fed = f; above = bears?_out g e _ t }))

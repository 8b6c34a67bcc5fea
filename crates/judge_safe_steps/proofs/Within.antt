-- The walk of loads from one sound source meets every element of its part: where it finds none above its capacity, none of the part is.
-- Assumes nothing.
use Prim.Native.Nat.{ℕ, zero, suc, ◌*◌, ◌≤◌, ◌<◌}
use mathlib.Core.Path.{◌≡◌, refl, ap, subst}
use mathlib.Core.Bool.{Bool, true, false, not}
use borrow.Author.Tests.{ltb-false, le-ltb, not-true}
use native.Mathlib.Omega.{arith}
use Rattle.feeding.specs.Below.{least_to}
use Rattle.feeding.specs.Networks.{Grid, Formed}
use Rattle.feeding.specs.Parts.{Config, Joined, far, Sound, sound?}
use Rattle.feeding.specs.Loads.{leads, Fed, at_source, onward, element_load, load_at, Bears, bears?, above, element_over, link_over, lowest_over, within_from?}
use Rattle.feeding.specs.Safety.{Safe}
use Rattle.feeding.proofs.Below.{or_else}
use Rattle.feeding.proofs.Decided.{safe_kept}
use Rattle.feeding.proofs.Forest.{Bridges}
use Rattle.feeding.proofs.Joins.{spans_far, step}
use Rattle.feeding.proofs.Load.{same_load, fed_came, fed_in}
use Rattle.feeding.proofs.Lows.{least_to_le}
use Rattle.feeding.proofs.Margins.{bears?_in, bears?_out}
use Rattle.feeding.proofs.Overloads.{above_in}
use Rattle.feeding.proofs.Tests.{sound?_in}
use Rattle.feeding.proofs.Walk.{room, room_le, room_shrinks, room_pos, leads_on, leads_touches}

module _ (g : Grid) (c : Config) where
  -- the walk from e finds nothing above what it finds at e, nor above what the walk over a link that leads on finds
  own_low : (d e via : ℕ) → element_over g c d e via ≤ above g e (element_load g c d e via)
  unfolding element_over
  own_low zero e via = omega arith
  own_low (suc d) e via = omega arith

  next_low : (d e via l : ℕ) → l < g.K → leads g c e via l ≡ true
      → element_over g c (suc (suc d)) e via ≤ element_over g c d (far g l e) l
  unfolding element_over link_over
  next_low d e via l k p = omega (arith, low)
    where
      rest : ℕ → ℕ
      rest m = or_else g.E (leads g c e via m) (element_over g c d (far g m e) m)

      low : least_to g.K g.E rest ≤ element_over g c d (far g l e) l
      low = subst (λ (z : ℕ). least_to g.K g.E rest ≤ z) (ap (λ (t : Bool). or_else g.E t (element_over g c d (far g l e) l)) p)
          (least_to_le g.K g.E rest l k)

module _ (g : Grid) (formed : Formed g) (c : Config) (bridges : Bridges g c)
    (one : (s t : ℕ) → Sound g s → Sound g t → Joined g c t s → s ≡ t) (s : ℕ) (p : Sound g s) where
  -- the walk from s meets e, come to over the link via, with depth enough left
  record Met (e via : ℕ) : Type 0 where
    depth : ℕ
    enough : 2 * room g c e via ≤ depth
    low : element_over g c (2 * g.E) s g.K ≤ element_over g c depth e via

  meets_next : (e via l : ℕ) → Fed g c e via → l < g.K → leads g c e via l ≡ true → (d : ℕ) → 2 * room g c e via ≤ d
      → element_over g c (2 * g.E) s g.K ≤ element_over g c d e via → Met (far g l e) l
  meets_next e via l f k h zero enough low = absurd (omega (arith, room_pos g formed c e via (fed_in g c formed f)))
  meets_next e via l f k h (suc zero) enough low = absurd (omega (arith, room_pos g formed c e via (fed_in g c formed f)))
  meets_next e via l f k h (suc (suc d)) enough low = record {
    depth = d;
    enough = omega (arith, room_shrinks g formed c bridges e via l (fed_in g c formed f) (fed_came g c f) k h);
    low = omega (arith, next_low g c d e via l k h);
  }

  met : {e via : ℕ} → Fed g c e via → Joined g c s e → Met e via
  met (at_source {s = t} q) j = record {
    depth = 2 * g.E;
    enough = omega (arith, room_le g c t g.K);
    low = let same : t ≡ s = one t s q p j in rw same (omega arith);
  }
  met (onward {e = e} {via = v} l k h f) j =
      go (met f (step g c l e (far g l e) k (leads_on g c e v l h) (spans_far g l e (leads_touches g c e v l h)) j))
    where
      go : Met e v → Met (far g l e) l
      go m = meets_next e v l f k h m.depth m.enough m.low

  pub within_out : within_from? g c s ≡ true → {e via : ℕ} → Fed g c e via → Joined g c s e → Bears g e (load_at g c e via)
  unfolding within_from?
  within_out h {e} {via} f j = go (met f j) (bears? g e (load_at g c e via)) refl
    where
      load_is : (m : Met e via) → element_load g c m.depth e via ≡ load_at g c e via
      load_is m = same_load g formed c bridges m.depth (2 * g.E) e via (fed_in g c formed f) (fed_came g c f) m.enough (omega (arith, room_le g c e via))

      go : Met e via → (t : Bool) → bears? g e (load_at g c e via) ≡ t → Bears g e (load_at g c e via)
      go m true t = bears?_in g e _ t
      go m false t = absurd (omega (
        arith,
        m.low,
        own_low g c m.depth e via,
        above_in g e (element_load g c m.depth e via) (λ x. bears?_out g e _ t (subst (Bears g e) (load_is m) x)),
        fed_in g c formed f,
        ltb-false (element_over g c (2 * g.E) s g.K) g.E (not-true _ h),
      ))

-- in a safe configuration every such walk finds none
pub within_in : (g : Grid) → Formed g → (c : Config) → Safe g c → (s : ℕ) → Sound g s → within_from? g c s ≡ true
unfolding within_from? lowest_over
within_in g formed c safe s p =
    ap not (le-ltb (element_over g c (2 * g.E) s g.K) g.E (omega (
      arith,
      ltb-false (lowest_over g c) g.E (safe_kept g formed c safe).load,
      subst (λ (z : ℕ). least_to g.E g.E walk ≤ z) (ap (λ (t : Bool). or_else g.E t (element_over g c (2 * g.E) s g.K)) (sound?_in g s p))
          (least_to_le g.E g.E walk s p.below),
    )))
  where
    walk : ℕ → ℕ
    walk t = or_else g.E (sound? g t) (element_over g c (2 * g.E) t g.K)

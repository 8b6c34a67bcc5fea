-- The depth is enough for a load, since the room ahead falls at each step; a live element is fed over exactly one link, the one to its source.
-- Assumes nothing.
use Prim.Native.Nat.{ℕ, zero, suc, ◌+◌, ◌*◌, ◌≤◌, ◌<◌}
use mathlib.Core.Path.{◌≡◌, refl, sym, ap, ◌∙◌, subst}
use mathlib.Core.Bool.{Bool, true, false}
use lib.Dec.{eqb}
use borrow.Author.Tests.{eqb-true, eqb-false}
use native.Mathlib.Omega.{arith}
use Rattle.feeding.specs.Below.{sum_to, gate}
use Rattle.feeding.specs.Loads.{leads, Fed, at_source, onward, element_load, link_load, load_at, FedOnce}
use Rattle.feeding.specs.Networks.{Grid, Formed}
use Rattle.feeding.specs.Parts.{Config, Joined, here, over, touches, far, Sound, Live}
use Rattle.feeding.specs.Safety.{without, Safe}
use Rattle.feeding.proofs.Below.{gate_ext}
use Rattle.feeding.proofs.Forest.{Bridges, safe_bridges, without_on}
use Rattle.feeding.proofs.Joins.{Spans, spans_far, spans_sym, spans_is_far, spans_touches, joined_sym, joined_trans, step}
use Rattle.feeding.proofs.Labels.{far_lt}
use Rattle.feeding.proofs.Opening.{joined_mono}
use Rattle.feeding.proofs.Sums.{sum_to_ext}
use Rattle.feeding.proofs.Walk.{Came, start, by, came_on, leads_touches, leads_on, leads_ne, leads_in}
use Rattle.feeding.proofs.Walk.{apart, ahead, room, room_le, room_shrinks, room_pos}

module _ (g : Grid) (formed : Formed g) (c : Config) (bridges : Bridges g c) where
  -- enough depth gives the same load
  pub same_load : (d d' e via : ℕ) → e < g.E → Came g c e via → 2 * room g c e via ≤ d → 2 * room g c e via ≤ d'
      → element_load g c d e via ≡ element_load g c d' e via
  unfolding element_load link_load
  same_load zero d' e via k came h h' = absurd (omega (arith, room_pos g formed c e via k))
  same_load (suc zero) d' e via k came h h' = absurd (omega (arith, room_pos g formed c e via k))
  same_load (suc (suc d)) zero e via k came h h' = absurd (omega (arith, room_pos g formed c e via k))
  same_load (suc (suc d)) (suc zero) e via k came h h' = absurd (omega (arith, room_pos g formed c e via k))
  same_load (suc (suc d)) (suc (suc d')) e via k came h h' =
      ap (λ x. g.load e + x) (sum_to_ext g.K _ _ (λ l kl. gate_ext (leads g c e via l) _ _ (λ p.
      same_load d d' (far g l e) l (far_lt g formed l e kl) (came_on g c e via l kl p)
      (omega (arith, room_shrinks g formed c bridges e via l k came kl p)) (omega (arith, room_shrinks g formed c bridges e via l k came kl p)))))

  -- the load at e is its own and what each closed link away from the source carries; that is the load at the link's far element
  pub load_equation : (e via : ℕ) → e < g.E → Came g c e via
      → load_at g c e via ≡ g.load e + sum_to g.K (λ l. gate (leads g c e via l) (load_at g c (far g l e) l))
  unfolding element_load link_load
  load_equation e via k came =
      same_load (2 * g.E) (suc (suc (2 * g.E))) e via k came (omega (arith, room_le g c e via)) (omega (arith, room_le g c e via))

-- every element of a source's part is fed
pub record FedAt (g : Grid) (c : Config) (e : ℕ) : Type 0 where
  pub via : ℕ
  pub fed : Fed g c e via

module _ (g : Grid) (c : Config) where
  step_back : {e via : ℕ} (l : ℕ) → l < g.K → l ≡ via → Fed g c e via → FedAt g c (far g l e)
  step_back l k q (at_source s) = absurd (omega arith)
  step_back l k q (onward {e = e} {via = v} m km h f) = record { via = v; fed = subst (λ (x : ℕ). Fed g c x v) (sym home) f }
    where
      home : far g l (far g m e) ≡ e
      home = ap (λ (x : ℕ). far g x (far g m e)) q ∙ spans_is_far g m _ _ (spans_sym (spans_far g m e (leads_touches g c e v m h)))

  fed_along : {d a via : ℕ} → Fed g c a via → Joined g c d a → FedAt g c d
  fed_along {via = via} f here = record { via = via; fed = f }
  fed_along {via = via} f (over {a = a} l k h t j) = fed_along (next (eqb l via) refl).fed j
    where
      next : (b : Bool) → eqb l via ≡ b → FedAt g c (far g l a)
      next true e = step_back l k (eqb-true l via e) f
      next false e = record { via = l; fed = onward l k (leads_in g c a via l h t (eqb-false l via e)) f }

  pub live_fed : (s e : ℕ) → Sound g s → Joined g c s e → FedAt g c e
  live_fed s e h j = fed_along (at_source h) (joined_sym g c j)

-- ---- a fed element is fed over one link only

-- what lies behind e: the source, at e or beyond the link that leads to e
data Behind (g : Grid) (c : Config) (s e via : ℕ) : Type 0 where
  at : via ≡ g.K → e ≡ s → Behind g c s e via
  beyond : via < g.K → c via ≡ true → touches g via e ≡ true → Joined g (without c via) s (far g via e) → Behind g c s e via

record Origin (g : Grid) (c : Config) (e via : ℕ) : Type 0 where
  source : ℕ
  sound : Sound g source
  behind : Behind g c source e via

module _ (g : Grid) (c : Config) (bridges : Bridges g c) where
  behind_on : (s e via l : ℕ) → l < g.K → leads g c e via l ≡ true → Behind g c s e via → Joined g (without c l) s e
  behind_on s e via l k h (at q p) = rw p here
  behind_on s e via l k h (beyond kv hv tv j) = ahead g c bridges e l via s (by k (leads_on g c e via l h) (leads_touches g c e via l h)) kv
      (leads_in g c e l via hv tv (λ q. leads_ne g c e via l h (sym q))) j

  origin : {e via : ℕ} → Fed g c e via → Origin g c e via
  origin (at_source {s = s} h) = record { source = s; sound = h; behind = at refl refl }
  origin (onward {e = e} {via = v} l k h f) = go (origin f)
    where
      back_over : Spans g l (far g l e) e
      back_over = spans_sym (spans_far g l e (leads_touches g c e v l h))

      go : Origin g c e v → Origin g c (far g l e) l
      go o = record {
        source = o.source;
        sound = o.sound;
        behind = beyond k (leads_on g c e v l h) (spans_touches g l _ _ back_over)
            (rw (spans_is_far g l _ _ back_over) (behind_on o.source e v l k h o.behind));
      }

  behind_joined : (s e via : ℕ) → Behind g c s e via → Joined g c s e
  behind_joined s e via (at q p) = rw p here
  behind_joined s e via (beyond k h t j) = over via k h t (joined_mono g (without c via) c (without_on c via) j)

  behind_same : (s e v w : ℕ) → Behind g c s e v → Behind g c s e w → (v ≡ w → ⊥) → ⊥
  behind_same s e v w (at p q) (at x y) n = n (p ∙ sym x)
  behind_same s e v w (at p q) (beyond k h t j) n = apart g c bridges w e (far g w e) k h (spans_far g w e t) (rw (sym q) at j)
  behind_same s e v w (beyond k h t j) (at x y) n = apart g c bridges v e (far g v e) k h (spans_far g v e t) (rw (sym y) at j)
  behind_same s e v w (beyond k h t j) (beyond k' h' t' j') n =
      apart g c bridges v e (far g v e) k h (spans_far g v e t)
      (joined_trans g _ j (joined_sym g _ (ahead g c bridges e v w s (by k h t) k' (leads_in g c e v w h' t' (λ q. n (sym q))) j')))

pub fed_once : (g : Grid) → Formed g → (c : Config) → Safe g c → (e v w : ℕ) → Fed g c e v → Fed g c e w → v ≡ w
fed_once g formed c safe e v w f f' = go (origin g c bridges f) (origin g c bridges f') (eqb v w) refl
  where
    bridges : Bridges g c
    bridges = safe_bridges g formed c safe.tree

    go : Origin g c e v → Origin g c e w → (t : Bool) → eqb v w ≡ t → v ≡ w
    go o p true q = eqb-true v w q
    go o p false q = absurd (behind_same g c bridges o.source e v w o.behind (subst (λ (s : ℕ). Behind g c s e w) (sym one) p.behind)
        (eqb-false v w q))
      where
        one : o.source ≡ p.source
        one = safe.one o.source p.source o.sound p.sound
            (joined_trans g c (joined_sym g c (behind_joined g c bridges o.source e v o.behind))
            (behind_joined g c bridges p.source e w p.behind))

-- ---- what feeding says of an element

module _ (g : Grid) (c : Config) where
  pub fed_came : {e via : ℕ} → Fed g c e via → Came g c e via
  fed_came (at_source s) = start refl
  fed_came (onward {e = e} {via = v} l k h f) = came_on g c e v l k h

  pub fed_in : Formed g → {e via : ℕ} → Fed g c e via → e < g.E
  fed_in formed (at_source s) = s.below
  fed_in formed (onward {e = e} {via = v} l k h f) = far_lt g formed l e k

  -- the walk that feeds an element, gone back to its source
  pub fed_live : {e via : ℕ} → Fed g c e via → Live g c e
  fed_live (at_source {s = s} h) = record { source = s; sound = h; joined = here }
  fed_live (onward {e = e} {via = v} l k h f) = go (fed_live f)
    where
      go : Live g c e → Live g c (far g l e)
      go r = record {
        source = r.source;
        sound = r.sound;
        joined = step g c l (far g l e) e k (leads_on g c e v l h) (spans_sym (spans_far g l e (leads_touches g c e v l h))) r.joined;
      }

pub fed_exactly_once : (g : Grid) → Formed g → (c : Config) → Safe g c → (e : ℕ) → e < g.E → Live g c e → FedOnce g c e
fed_exactly_once g formed c safe e k r = go (live_fed g c r.source e r.sound r.joined)
  where
    go : FedAt g c e → FedOnce g c e
    go f = record { via = f.via; fed = f.fed; only = λ w h. fed_once g formed c safe e w f.via h f.fed }

-- the load equation of a safe configuration
pub safe_load : (g : Grid) → Formed g → (c : Config) → Safe g c → {e via : ℕ} → Fed g c e via
    → load_at g c e via ≡ g.load e + sum_to g.K (λ l. gate (leads g c e via l) (load_at g c (far g l e) l))
safe_load g formed c safe {e} {via} f =
    load_equation g formed c (safe_bridges g formed c safe.tree) e via (fed_in g c formed f) (fed_came g c f)

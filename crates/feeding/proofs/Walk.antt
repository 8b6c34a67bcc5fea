-- Where every closed link is a bridge, what lies ahead shrinks with each link gone over, so a walk ends within E elements.
-- Assumes nothing.
use Prim.Native.Nat.{ℕ, zero, ◌≤◌, ◌<◌}
use mathlib.Core.Path.{◌≡◌, refl, sym, ap, ◌∙◌, subst}
use mathlib.Core.Logic.{◌⊎◌, inl, inr}
use mathlib.Core.Bool.{Bool, true, false, not}
use lib.Dec.{eqb}
use borrow.Author.Tests.{eqb-true, eqb-false, ne_eqb, not-true}
use native.Mathlib.Omega.{arith}
use Rattle.feeding.specs.Below.{sum_to, gate}
use Rattle.feeding.specs.Loads.{leads}
use Rattle.feeding.specs.Networks.{Grid, Formed}
use Rattle.feeding.specs.Parts.{Config, Joined, here, over, touches, far, joined?}
use Rattle.feeding.specs.Safety.{without}
use Rattle.feeding.proofs.Below.{gate_mono, gate_le, and_left, and_right, and_both, not_in}
use Rattle.feeding.proofs.Forest.{Bridges, Crossing, split, without_on, without_ne, without_in}
use Rattle.feeding.proofs.Joins.{Spans, forth, back, spans_far, spans_sym, spans_touches, step, joined_trans, joined_sym}
use Rattle.feeding.proofs.Labels.{joined?_sound, joined?_complete, far_lt}
use Rattle.feeding.proofs.Opening.{joined_mono}
use Rattle.feeding.proofs.Sums.{sum_to_strict, sum_to_below}

-- how e was come to
pub data Came (g : Grid) (c : Config) (e via : ℕ) : Type 0 where
  start : via ≡ g.K → Came g c e via
  by : via < g.K → c via ≡ true → touches g via e ≡ true → Came g c e via

pub leads_on : (g : Grid) (c : Config) (e via l : ℕ) → leads g c e via l ≡ true → c l ≡ true
unfolding leads
leads_on g c e via l h = and_left (c l) _ h

pub leads_touches : (g : Grid) (c : Config) (e via l : ℕ) → leads g c e via l ≡ true → touches g l e ≡ true
unfolding leads
leads_touches g c e via l h = and_left (touches g l e) _ (and_right (c l) _ h)

pub leads_ne : (g : Grid) (c : Config) (e via l : ℕ) → leads g c e via l ≡ true → l ≡ via → ⊥
unfolding leads
leads_ne g c e via l h = eqb-false l via (not-true _ (and_right (touches g l e) _ (and_right (c l) _ h)))

pub leads_in : (g : Grid) (c : Config) (e via l : ℕ) → c l ≡ true → touches g l e ≡ true → (l ≡ via → ⊥) → leads g c e via l ≡ true
unfolding leads
leads_in g c e via l h t n = and_both (c l) _ h (and_both (touches g l e) _ t (ap not (ne_eqb l via n)))

pub came_on : (g : Grid) (c : Config) (e via l : ℕ) → l < g.K → leads g c e via l ≡ true → Came g c (far g l e) l
came_on g c e via l k h = by k (leads_on g c e via l h) (spans_touches g l _ _ (spans_sym (spans_far g l e (leads_touches g c e via l h))))

-- one of the two ends that a link spans
pub spans_either : (g : Grid) (l e u v : ℕ) → touches g l e ≡ true → Spans g l u v → (e ≡ u) ⊎ (e ≡ v)
spans_either g l e u v t s = go (spans_far g l e t) s
  where
    go : Spans g l e (far g l e) → Spans g l u v → (e ≡ u) ⊎ (e ≡ v)
    go (forth p q) (forth x y) = inl (sym p ∙ x)
    go (forth p q) (back x y) = inr (sym p ∙ y)
    go (back p q) (forth x y) = inr (sym p ∙ y)
    go (back p q) (back x y) = inl (sym p ∙ x)

module _ (g : Grid) (c : Config) (bridges : Bridges g c) where
  -- a closed link is a bridge, from either end
  pub apart : (l a b : ℕ) → l < g.K → c l ≡ true → Spans g l a b → ¬ Joined g (without c l) a b
  apart l a b k h (forth p q) j = bridges l k h (joined_sym g _ (rw (p, q) j))
  apart l a b k h (back p q) j = bridges l k h (rw (p, q) j)

  -- what lies ahead of the next element lies ahead of this one
  pub ahead : (e via l x : ℕ) → Came g c e via → l < g.K → leads g c e via l ≡ true → Joined g (without c l) x (far g l e)
      → Joined g (without c via) x e
  ahead e via l x came k h j = over l k (without_in c via l (leads_on g c e via l h) (leads_ne g c e via l h)) (leads_touches g c e via l h) (go came)
    where
      b : ℕ
      b = far g l e

      X : Config
      X = without (without c l) via

      lift : {a d : ℕ} → Joined g X d a → Joined g (without c via) d a
      lift j = joined_mono g X (without c via)
          (λ m p. without_in c via m (without_on c l m (without_on (without c l) via m p)) (without_ne (without c l) via m p)) j

      drop : {a d : ℕ} → Joined g X d a → Joined g (without c l) d a
      drop j = joined_mono g X (without c l) (without_on (without c l) via) j

      more : (m : ℕ) → without c l m ≡ true → (X m ≡ true) ⊎ (m ≡ via)
      more m p = pick (eqb m via) refl
        where
          pick : (t : Bool) → eqb m via ≡ t → (X m ≡ true) ⊎ (m ≡ via)
          pick true t = inr (eqb-true m via t)
          pick false t = inl (without_in (without c l) via m p (eqb-false m via t))

      never : ¬ Joined g (without c l) e b
      never i = apart l e b k (leads_on g c e via l h) (spans_far g l e (leads_touches g c e via l h)) i

      plain : via ≡ g.K → {d a : ℕ} → Joined g (without c l) d a → Joined g (without c via) d a
      plain q here = here
      plain q (over m km p t i) = over m km (without_in c via m (without_on c l m p) (λ r. omega arith)) t (plain q i)

      cross : via < g.K → c via ≡ true → touches g via e ≡ true → Crossing g X via x b → ⊥
      cross kv hv tv r = pick (spans_either g via e r.x r.y tv r.spans)
        where
          to_x : Joined g (without c l) r.x b
          to_x = drop r.first

          to_y : Joined g (without c l) r.y b
          to_y = joined_trans g _ to_x
              (step g (without c l) via r.x r.y kv (without_in c l via hv (λ q. leads_ne g c e via l h (sym q))) r.spans here)

          pick : (e ≡ r.x) ⊎ (e ≡ r.y) → ⊥
          pick (inl q) = never (subst (λ (z : ℕ). Joined g (without c l) z b) (sym q) to_x)
          pick (inr q) = never (subst (λ (z : ℕ). Joined g (without c l) z b) (sym q) to_y)

      go : Came g c e via → Joined g (without c via) x b
      go (start q) = plain q j
      go (by kv hv tv) = decide (split g X via (without c l) more j)
        where
          decide : Joined g X x b ⊎ Crossing g X via x b → Joined g (without c via) x b
          decide (inl i) = lift i
          decide (inr r) = absurd (cross kv hv tv r)

-- how many elements lie ahead of e, e among them
unfoldable pub room : Grid → Config → ℕ → ℕ → ℕ
room g c e via = sum_to g.E (λ x. gate (joined? g (without c via) x e) 1)

pub room_le : (g : Grid) (c : Config) (e via : ℕ) → room g c e via ≤ g.E
unfolding room
room_le g c e via = omega (
  arith,
  sum_to_below 1 (λ x. gate (joined? g (without c via) x e) 1) g.E (λ x _. gate_le (joined? g (without c via) x e) 1),
)

module _ (g : Grid) (formed : Formed g) (c : Config) (bridges : Bridges g c) where
  pub room_shrinks : (e via l : ℕ) → e < g.E → Came g c e via → l < g.K → leads g c e via l ≡ true → room g c (far g l e) l < room g c e via
  unfolding room
  room_shrinks e via l ke came k h = sum_to_strict g.E _ _
      (λ x kx. gate_mono (joined? g (without c l) x b) (joined? g (without c via) x e) 1 1
      (λ p. joined?_complete g formed (without c via) x e (ahead g c bridges e via l x came k h (joined?_sound g formed (without c l) x b kx kb p)))
      (omega arith))
      e ke strict
    where
      b : ℕ
      b = far g l e

      kb : b < g.E
      kb = far_lt g formed l e k

      parted : joined? g (without c l) e b ≡ false
      parted = not-true _ (not_in _ (λ p. apart g c bridges l e b k (leads_on g c e via l h) (spans_far g l e (leads_touches g c e via l h))
          (joined?_sound g formed (without c l) e b ke kb p)))

      strict : gate (joined? g (without c l) e b) 1 < gate (joined? g (without c via) e e) 1
      strict = rw (parted, joined?_complete g formed (without c via) e e here) (omega arith)

pub room_pos : (g : Grid) → Formed g → (c : Config) (e via : ℕ) → e < g.E → 0 < room g c e via
unfolding room
room_pos g formed c e via k = omega (
  arith,
  sum_to_strict g.E (λ _. zero) (λ x. gate (joined? g (without c via) x e) 1) (λ l _. omega arith) e k
      (rw (joined?_complete g formed (without c via) e e here) (omega arith)),
)

-- The tests of sound, live, paired, spoiled, restorable, waiting, operable and restored tell what they name: by the labels, which tell the joined.
-- Assumes nothing.
use Prim.Native.Nat.{ℕ, ◌<◌}
use mathlib.Core.Path.{◌≡◌, refl, sym, ap, ◌∙◌}
use mathlib.Core.Logic.{◌⊎◌, inl, inr}
use mathlib.Core.Bool.{Bool, true, false, not, ◌&&◌, ◌||◌, false≢true}
use lib.Dec.{eqb, ltb}
use borrow.Author.Tests.{eqb-true, eqb-false, ne_eqb, ltb-true, lt-ltb, not-true}
use Rattle.feeding.specs.Below.{any_to}
use Rattle.feeding.specs.Networks.{Grid, Net, Formed, is_source, is_faulty}
use Rattle.feeding.specs.Parts.{Config, touches, far, Joined, here, over, Sound, Live, joined?, sound?, live?}
use Rattle.feeding.specs.Restoration.{Spoiled, Restorable, itself, beside, Waits, Operable, Restored}
use Rattle.feeding.specs.Restoration.{spoiled?, clean, restorable?, waits?, operable?, restored?}
use Rattle.feeding.specs.Safety.{Paired, FaultLive, paired?, fault_live?}
use Rattle.feeding.proofs.Below.{and_left, and_right, and_both, or_left, or_right, not_in, not_out, imp_in, imp_out}
use Rattle.feeding.proofs.Below.{all_to_in, all_to_out, any_to_in, any_to_out}
use Rattle.feeding.proofs.Joins.{Spans, forth, back, spans_far}
use Rattle.feeding.proofs.Labels.{joined?_sound, joined?_complete, far_lt}

pub sound?_in : (g : Grid) (s : ℕ) → Sound g s → sound? g s ≡ true
unfolding sound?
sound?_in g s h = and_both (g.source s) _ h.source (ap not h.sound)

pub sound?_out : (g : Grid) (s : ℕ) → s < g.E → sound? g s ≡ true → Sound g s
unfolding sound?
sound?_out g s k h = record { below = k; source = and_left (g.source s) _ h; sound = not-true _ (and_right (g.source s) _ h) }

not_both : (x y : Bool) → (x && not (y || x)) ≡ false
not_both true true = refl
not_both true false = refl
not_both false y = refl

-- flags 1: a source that is not faulty
pub sound_flag : (f : ℕ) → eqb f 1 ≡ (is_source f && not (is_faulty f))
sound_flag f = go (eqb f 1) refl
  where
    go : (t : Bool) → eqb f 1 ≡ t → eqb f 1 ≡ (is_source f && not (is_faulty f))
    go true e = rw (eqb-true f 1 e)
    go false e = rw e (sym (not_both (eqb f 3) (eqb f 2)))

-- ---- in a configuration

module _ (g : Grid) (formed : Formed g) (c : Config) where
  pub live?_out : (e : ℕ) → e < g.E → live? g c e ≡ true → Live g c e
  unfolding live?
  live?_out e k h = go (any_to_out g.E _ h)
    where
      go : (s : ℕ) × (s < g.E) × ((sound? g s && joined? g c s e) ≡ true) → Live g c e
      go (s, b, p) = record {
        source = s;
        sound = sound?_out g s b (and_left (sound? g s) _ p);
        joined = joined?_sound g formed c s e b k (and_right (sound? g s) _ p);
      }

  pub live?_in : (e : ℕ) → Live g c e → live? g c e ≡ true
  unfolding live?
  live?_in e r =
      any_to_in g.E _ r.source r.sound.below
      (and_both (sound? g r.source) _ (sound?_in g _ r.sound) (joined?_complete g formed c r.source e r.joined))

  pub dark_out : (e : ℕ) → e < g.E → live? g c e ≡ false → ¬ Live g c e
  dark_out e k h r = false≢true (sym h ∙ live?_in e r)

  pub paired?_in : (s : ℕ) → Paired g c s → s < g.E → paired? g c s ≡ true
  unfolding paired?
  paired?_in s r k =
      and_both (sound? g s) _ (sound?_in g s r.sound)
      (any_to_in g.E _ r.other r.other_sound.below
      (and_both (sound? g r.other) _ (sound?_in g _ r.other_sound)
      (and_both (not (eqb s r.other)) _ (ap not (ne_eqb s r.other r.apart)) (joined?_complete g formed c r.other s r.joined))))

  pub paired?_out : (s : ℕ) → s < g.E → paired? g c s ≡ true → Paired g c s
  unfolding paired?
  paired?_out s k h = go (any_to_out g.E _ (and_right (sound? g s) _ h))
    where
      go : (t : ℕ) × (t < g.E) × ((sound? g t && (not (eqb s t) && joined? g c t s)) ≡ true) → Paired g c s
      go (t, b, p) = record {
        other = t;
        sound = sound?_out g s k (and_left (sound? g s) _ h);
        other_sound = sound?_out g t b (and_left (sound? g t) _ p);
        joined = joined?_sound g formed c t s b k (and_right (not (eqb s t)) _ (and_right (sound? g t) _ p));
        apart = eqb-false s t (not-true _ (and_left (not (eqb s t)) _ (and_right (sound? g t) _ p)));
      }

  pub fault_live?_in : (e : ℕ) → FaultLive g c e → e < g.E → fault_live? g c e ≡ true
  unfolding fault_live?
  fault_live?_in e r k = and_both (g.faulty e) _ r.faulty (live?_in e r.live)

  pub fault_live?_out : (e : ℕ) → e < g.E → fault_live? g c e ≡ true → FaultLive g c e
  unfolding fault_live?
  fault_live?_out e k h = record { faulty = and_left (g.faulty e) _ h; live = live?_out e k (and_right (g.faulty e) _ h) }

-- ---- in a network

module _ (net : Net) (formed : Formed net.grid) where
  pub spoiled?_in : (e : ℕ) → Spoiled net e → spoiled? net e ≡ true
  unfolding spoiled?
  spoiled?_in e r =
      any_to_in net.grid.E _ r.fault r.below
      (and_both (net.grid.faulty r.fault) _ r.faulty (joined?_complete net.grid formed net.fixed r.fault e r.joined))

  pub spoiled?_out : (e : ℕ) → e < net.grid.E → spoiled? net e ≡ true → Spoiled net e
  unfolding spoiled?
  spoiled?_out e k h = go (any_to_out net.grid.E _ h)
    where
      go : (f : ℕ) × (f < net.grid.E) × ((net.grid.faulty f && joined? net.grid net.fixed f e) ≡ true) → Spoiled net e
      go (f, b, p) = record {
        fault = f;
        below = b;
        faulty = and_left (net.grid.faulty f) _ p;
        joined = joined?_sound net.grid formed net.fixed f e b k (and_right (net.grid.faulty f) _ p);
      }

  unspoiled_out : (e : ℕ) → not (spoiled? net e) ≡ true → ¬ Spoiled net e
  unspoiled_out e h r = not_out _ h (spoiled?_in e r)

  unspoiled_in : (e : ℕ) → e < net.grid.E → ¬ Spoiled net e → not (spoiled? net e) ≡ true
  unspoiled_in e k h = not_in _ (λ p. h (spoiled?_out e k p))

  -- a clean link's ends
  clean_at : (l e : ℕ) → clean net l ≡ true → touches net.grid l e ≡ true → not (spoiled? net e) ≡ true
  unfolding clean
  clean_at l e h t = go (spans_far net.grid l e t)
    where
      go : Spans net.grid l e (far net.grid l e) → not (spoiled? net e) ≡ true
      go (forth p q) = rw p at (and_left (not (spoiled? net (net.grid.end_a l))) _ h)
      go (back p q) = rw p at (and_right (not (spoiled? net (net.grid.end_a l))) _ h)

  clean_in : (l e : ℕ) → touches net.grid l e ≡ true
      → not (spoiled? net e) ≡ true → not (spoiled? net (far net.grid l e)) ≡ true → clean net l ≡ true
  unfolding clean
  clean_in l e t h g = go (spans_far net.grid l e t)
    where
      go : Spans net.grid l e (far net.grid l e)
          → (not (spoiled? net (net.grid.end_a l)) && not (spoiled? net (net.grid.end_b l))) ≡ true
      go (forth p q) = and_both (not (spoiled? net (net.grid.end_a l))) _ (rw p h) (rw q g)
      go (back p q) = and_both (not (spoiled? net (net.grid.end_a l))) _ (rw q g) (rw p h)

  -- clean links lead to an unspoiled source
  restored_by : {s e : ℕ} → s < net.grid.E → net.grid.source s ≡ true → not (spoiled? net s) ≡ true
      → Joined net.grid (clean net) s e → Restorable net e
  restored_by b p u here = itself b p (unspoiled_out _ u)
  restored_by b p u (over l k h t j) = beside l k t (unspoiled_out _ (clean_at l _ h t)) (restored_by b p u j)

  pub restorable?_out : (e : ℕ) → e < net.grid.E → restorable? net e ≡ true → Restorable net e
  unfolding restorable?
  restorable?_out e k h = go (any_to_out net.grid.E _ (and_right (not (spoiled? net e)) _ h))
    where
      go : (s : ℕ) × (s < net.grid.E) × (((net.grid.source s && not (spoiled? net s)) && joined? net.grid (clean net) s e) ≡ true)
          → Restorable net e
      go (s, b, p) =
          restored_by b (and_left (net.grid.source s) _ own) (and_right (net.grid.source s) _ own)
          (joined?_sound net.grid formed (clean net) s e b k (and_right (net.grid.source s && not (spoiled? net s)) _ p))
        where
          own : (net.grid.source s && not (spoiled? net s)) ≡ true
          own = and_left (net.grid.source s && not (spoiled? net s)) _ p

  -- what a restorable element is, by clean links
  record Way (e : ℕ) : Type 0 where
    from : ℕ
    below : from < net.grid.E
    source : net.grid.source from ≡ true
    clear : not (spoiled? net from) ≡ true
    joined : Joined net.grid (clean net) from e
    own : not (spoiled? net e) ≡ true

  way : {e : ℕ} → e < net.grid.E → Restorable net e → Way e
  way k (itself {s = s} b p u) =
      record { from = s; below = b; source = p; clear = unspoiled_in s b u; joined = here; own = unspoiled_in s b u }
  way k (beside {e = e} l kl t u r) = go (way (far_lt net.grid formed l e kl) r)
    where
      go : Way (far net.grid l e) → Way e
      go w = record {
        from = w.from;
        below = w.below;
        source = w.source;
        clear = w.clear;
        joined = over l kl (clean_in l e t (unspoiled_in e k u) w.own) t w.joined;
        own = unspoiled_in e k u;
      }

  pub restorable?_in : (e : ℕ) → e < net.grid.E → Restorable net e → restorable? net e ≡ true
  unfolding restorable?
  restorable?_in e k r = go (way k r)
    where
      go : Way e
          → (not (spoiled? net e)
          && any_to net.grid.E (λ s. (net.grid.source s && not (spoiled? net s)) && joined? net.grid (clean net) s e)) ≡ true
      go w =
          and_both (not (spoiled? net e)) _ w.own
          (any_to_in net.grid.E _ w.from w.below
          (and_both (net.grid.source w.from && not (spoiled? net w.from)) _
          (and_both (net.grid.source w.from) _ w.source w.clear)
          (joined?_complete net.grid formed (clean net) w.from e w.joined)))

  pub waits?_in : (e : ℕ) → e < net.grid.E → Waits net e → waits? net e ≡ true
  unfolding waits?
  waits?_in e k w =
      and_both (restorable? net e) _ (restorable?_in e k w.restorable)
      (not_in _ (λ h. w.dark (live?_out net.grid formed net.start_closed e k h)))

  pub waits?_out : (e : ℕ) → e < net.grid.E → waits? net e ≡ true → Waits net e
  unfolding waits?
  waits?_out e k h = record {
    restorable = restorable?_out e k (and_left (restorable? net e) _ h);
    dark = λ r. not_out _ (and_right (restorable? net e) _ h) (live?_in net.grid formed net.start_closed e r);
  }

  pub operable?_in : (l : ℕ) → Operable net l → operable? net l ≡ true
  unfolding operable?
  operable?_in l o =
      and_both (ltb l net.grid.K) _ (lt-ltb l net.grid.K o.below)
      (and_both (not (net.fixed l)) _ (ap not o.switch) (go o.waits))
    where
      go : Waits net (net.grid.end_a l) ⊎ Waits net (net.grid.end_b l)
          → (waits? net (net.grid.end_a l) || waits? net (net.grid.end_b l)) ≡ true
      go (inl w) = or_left (waits? net (net.grid.end_a l)) _ (waits?_in _ (formed.end_a_lt l o.below) w)
      go (inr w) = or_right (waits? net (net.grid.end_a l)) _ (waits?_in _ (formed.end_b_lt l o.below) w)

  pub operable?_out : (l : ℕ) → operable? net l ≡ true → Operable net l
  unfolding operable?
  operable?_out l h = record {
    below = k;
    switch = not-true _ (and_left (not (net.fixed l)) _ (and_right (ltb l net.grid.K) _ h));
    waits = go (waits? net (net.grid.end_a l)) refl;
  }
    where
      k : l < net.grid.K
      k = ltb-true l net.grid.K (and_left (ltb l net.grid.K) _ h)

      either : (waits? net (net.grid.end_a l) || waits? net (net.grid.end_b l)) ≡ true
      either = and_right (not (net.fixed l)) _ (and_right (ltb l net.grid.K) _ h)

      go : (t : Bool) → waits? net (net.grid.end_a l) ≡ t → Waits net (net.grid.end_a l) ⊎ Waits net (net.grid.end_b l)
      go true e = inl (waits?_out _ (formed.end_a_lt l k) e)
      go false e = inr (waits?_out _ (formed.end_b_lt l k) (rw e at either))

  pub restored?_in : (c : Config) → Restored net c → restored? net c ≡ true
  unfolding restored?
  restored?_in c f =
      all_to_in net.grid.E _
      (λ e k. imp_in (restorable? net e) _ (λ h. live?_in net.grid formed c e (f e k (restorable?_out e k h))))

  pub restored?_out : (c : Config) → restored? net c ≡ true → Restored net c
  unfolding restored?
  restored?_out c h e k r =
      live?_out net.grid formed c e k (imp_out (restorable? net e) _ (all_to_out net.grid.E _ h e k) (restorable?_in e k r))

-- Closing one open link keeps a safe configuration safe exactly where `Closes` holds: the two parts are joined, and nothing else changes.
-- Assumes nothing.
use Prim.Native.Nat.{ℕ, ◌<◌}
use mathlib.Core.Path.{◌≡◌, refl, sym, ap, ◌∙◌, subst}
use mathlib.Core.Logic.{◌⊎◌, inl, inr}
use mathlib.Core.Bool.{Bool, true, false, false≢true}
use Rattle.feeding.specs.Below.{gate}
use Rattle.feeding.specs.Networks.{Grid, Net, Formed}
use Rattle.feeding.specs.Parts.{Config, Joined, here, over, touches, far, Sound, Live, label, joined?, sound?}
use Rattle.feeding.specs.Loads.{Fed, at_source, onward, load_at, Bears}
use Rattle.feeding.specs.Plans.{put}
use Rattle.feeding.specs.Safety.{Safe, without}
use Rattle.feeding.proofs.Below.{same_test}
use Rattle.feeding.proofs.Forest.{Bridges, Crossing, split, safe_bridges, without_on, without_ne, without_in}
use Rattle.feeding.proofs.Hanging.{load_hanging}
use Rattle.feeding.proofs.Joins.{Spans, forth, back, spans_far, spans_sym, step, joined_sym, joined_trans}
use Rattle.feeding.proofs.Labels.{joined?_sound, joined?_complete}
use Rattle.feeding.proofs.Load.{fed_in, fed_came, fed_live}
use Rattle.feeding.proofs.Opening.{joined_mono, without_mono}
use Rattle.feeding.proofs.Sums.{sum_to_ext}
use Rattle.feeding.proofs.Tests.{sound?_out}
use Rattle.feeding.proofs.Walk.{leads_touches, leads_on, leads_ne, leads_in}
use Rattle.plan_stops.specs.Holding.{clash, has_source, has_fault}
use Rattle.plan_stops.proofs.Carried.{part_holds, part_out, holds_source, holds_fault}
use Rattle.plan_stops.proofs.Holdings.{Clashes, sources, source_fault, fault_source, clash_out}
use Rattle.plan_stops.proofs.Merging.{joined_radial}
use Rattle.plan_stops.proofs.OneMore.{put_on, put_more, put_split, label_joined}
use Rattle.plan_stops.proofs.Radial.{Radial}
use Rattle.judge_safe_steps.specs.Closing.{Beside, Joins, Closes}

module _ (g : Grid) (c : Config) (l : ℕ) where
  up : {d a : ℕ} → Joined g c d a → Joined g (put c l true) d a
  up j = joined_mono g c (put c l true) (put_more c l) j

  -- what is joined to an element beside the link is beside it too
  pub beside_on : {e x : ℕ} → Beside g c l e → Joined g c x e → Beside g c l x
  beside_on (inl i) j = inl (joined_trans g c i j)
  beside_on (inr i) j = inr (joined_trans g c i j)

  spans_beside : {e x : ℕ} → Spans g l e x → Beside g c l e
  spans_beside (forth p q) = inl (rw p here)
  spans_beside (back p q) = inr (rw p here)

  -- a path that crosses the link ends beside it
  crossing_beside : {d a : ℕ} → Crossing g c l d a → Beside g c l d
  crossing_beside r = beside_on (spans_beside (spans_sym r.spans)) r.last

  -- with the link closed, what is joined to an element beside it is beside it
  pub joined_beside : {e x : ℕ} → Beside g c l e → Joined g (put c l true) x e → Beside g c l x
  joined_beside {e} {x} b j = go (split g c l (put c l true) (put_split c l) j)
    where
      go : Joined g c x e ⊎ Crossing g c l x e → Beside g c l x
      go (inl i) = beside_on b i
      go (inr r) = crossing_beside r

  -- a path from an element that is not beside the link keeps off it
  unjoined : (via : ℕ) {x e : ℕ} → ¬ Beside g c l e → Joined g (without (put c l true) via) x e → Joined g (without c via) x e
  unjoined via n here = here
  unjoined via {x} {e} n (over m km h t j) = go (λ n'. unjoined via n' j) (put_split c l m (without_on (put c l true) via m h))
    where
      go : (¬ Beside g c l (far g m e) → Joined g (without c via) x (far g m e)) → (c m ≡ true) ⊎ (m ≡ l) → Joined g (without c via) x e
      go ih (inl on) = over m km (without_in c via m on (without_ne (put c l true) via m h)) t
          (ih (λ b. n (beside_on b (step g c m (far g m e) e km on (spans_sym (spans_far g m e t)) here))))
      go ih (inr q) = absurd (n (spans_beside (rw q at (spans_far g m e t))))

  -- and it is fed as before
  fed_before : {e via : ℕ} → Fed g (put c l true) e via → ¬ Beside g c l e → Fed g c e via
  fed_before (at_source s) n = at_source s
  fed_before (onward {e = e} {via = v} m km h f) n = go (λ n'. fed_before f n') (put_split c l m (leads_on g (put c l true) e v m h))
    where
      t : touches g m e ≡ true
      t = leads_touches g (put c l true) e v m h

      go : (¬ Beside g c l e → Fed g c e v) → (c m ≡ true) ⊎ (m ≡ l) → Fed g c (far g m e) m
      go ih (inl on) = onward m km (leads_in g c e v m on t (leads_ne g (put c l true) e v m h))
          (ih (λ b. n (beside_on b (step g c m e (far g m e) km on (spans_far g m e t) here))))
      go ih (inr q) = absurd (n (spans_beside (subst (λ (z : ℕ). Spans g z (far g m e) e) q (spans_sym (spans_far g m e t)))))

module _ (g : Grid) (formed : Formed g) (c : Config) (l : ℕ) where
  -- so an element that is not beside the link has the load that it had
  pub load_before : Bridges g c → Bridges g (put c l true) → {e via : ℕ} → Fed g (put c l true) e via → ¬ Beside g c l e
      → load_at g (put c l true) e via ≡ load_at g c e via
  load_before bridges bridges' {e} {via} f n =
      load_hanging g formed (put c l true) bridges' e via ke (fed_came g (put c l true) f)
      ∙ sum_to_ext g.E _ _ (λ x kx. ap (λ (b : Bool). gate b (g.load x)) (same x kx))
      ∙ sym (load_hanging g formed c bridges e via ke (fed_came g c (fed_before g c l f n)))
    where
      ke : e < g.E
      ke = fed_in g (put c l true) formed f

      same : (x : ℕ) → x < g.E → joined? g (without (put c l true) via) x e ≡ joined? g (without c via) x e
      same x kx = same_test _ _
          (λ h. joined?_complete g formed (without c via) x e
          (unjoined g c l via n (joined?_sound g formed (without (put c l true) via) x e kx ke h)))
          (λ h. joined?_complete g formed (without (put c l true) via) x e
          (joined_mono g (without c via) (without (put c l true) via) (without_mono c (put c l true) via (put_more c l))
          (joined?_sound g formed (without c via) x e kx ke h)))

  module _ (k : l < g.K) where
    pub beside? : (e : ℕ) → e < g.E → Beside g c l e ⊎ (¬ Beside g c l e)
    beside? e ke = go (joined? g c e (g.end_a l)) refl (joined? g c e (g.end_b l)) refl
      where
        go : (t : Bool) → joined? g c e (g.end_a l) ≡ t → (u : Bool) → joined? g c e (g.end_b l) ≡ u → Beside g c l e ⊎ (¬ Beside g c l e)
        go true t u q = inl (inl (joined?_sound g formed c e (g.end_a l) ke (formed.end_a_lt l k) t))
        go false t true q = inl (inr (joined?_sound g formed c e (g.end_b l) ke (formed.end_b_lt l k) q))
        go false t false q = inr none
          where
            none : ¬ Beside g c l e
            none (inl j) = false≢true (sym t ∙ joined?_complete g formed c e (g.end_a l) j)
            none (inr j) = false≢true (sym q ∙ joined?_complete g formed c e (g.end_b l) j)

    -- from either end
    from_first : {e : ℕ} → Beside g c l e → Joined g (put c l true) e (g.end_a l)
    from_first (inl j) = up g c l j
    from_first (inr j) = step g (put c l true) l (g.end_a l) (g.end_b l) k (put_on c l) (forth refl refl) (up g c l j)

    -- elements beside the link are joined where it is closed
    pub beside_joined : {d e : ℕ} → Beside g c l e → Beside g c l d → Joined g (put c l true) d e
    beside_joined b b' = joined_trans g (put c l true) (joined_sym g (put c l true) (from_first b)) (from_first b')

    -- ---- what a safe configuration afterwards asks

    pub safe_closes : c l ≡ false → Safe g (put c l true) → Closes g c l
    safe_closes off safe = record {
      joins = record {
        apart = apart;
        one = one;
        clear = λ s e p b ke f b'. safe.clear e ke f (record { source = s; sound = p; joined = beside_joined b' b });
      };
      within = λ s p b e via b' f. safe.within e via f;
    }
      where
        apart : ¬ Joined g c (g.end_b l) (g.end_a l)
        apart j = safe.tree (g.end_a l) (formed.end_a_lt l k) l k (put_on c l) here
            (joined_mono g c (without (put c l true) l)
            (λ m h. without_in (put c l true) l m (put_more c l m h) (λ e. false≢true (sym off ∙ ap c (sym e) ∙ h))) j)

        one : (s t : ℕ) → Sound g s → Sound g t → Joined g c s (g.end_a l) → ¬ Joined g c t (g.end_b l)
        one s t p q i j =
            let same : t ≡ s = sym (safe.one s t p q (beside_joined (inl i) (inr j))) in
            apart (joined_trans g c i (joined_sym g c (rw same at j)))

    -- ---- and that it is enough

    -- the grid as a network: what `joined_radial` speaks of
    net : Net
    net = record { grid = g; fixed = λ _. false; start_closed = c; cost = λ _. 0; guard = λ _. g.K }

    -- rules 14 to 16 ask nothing of the loads
    pub joins_radial : Radial g c → Joins g c l → Radial g (put c l true)
    unfolding net
    joins_radial r h = joined_radial net formed c l k x y refl refl parted (go (clash (part_holds net c x) (part_holds net c y)) refl) r
      where
        x : ℕ
        x = label g c (g.end_a l)

        y : ℕ
        y = label g c (g.end_b l)

        parted : x ≡ y → ⊥
        parted q = h.apart (label_joined g formed c (g.end_b l) (g.end_a l) (formed.end_b_lt l k) (formed.end_a_lt l k) q)

        first : (e : ℕ) → e < g.E → label g c e ≡ x → Joined g c e (g.end_a l)
        first e ke q = label_joined g formed c e (g.end_a l) ke (formed.end_a_lt l k) (sym q)

        second : (e : ℕ) → e < g.E → label g c e ≡ y → Joined g c e (g.end_b l)
        second e ke q = label_joined g formed c e (g.end_b l) ke (formed.end_b_lt l k) (sym q)

        source : (z : ℕ) → has_source (part_holds net c z) ≡ true → (s : ℕ) × (s < g.E) × (sound? g s ≡ true) × (label g c s ≡ z)
        source z p = part_out net c (sound? g) z (sym (holds_source net c z) ∙ p)

        fault : (z : ℕ) → has_fault (part_holds net c z) ≡ true → (e : ℕ) × (e < g.E) × (g.faulty e ≡ true) × (label g c e ≡ z)
        fault z p = part_out net c g.faulty z (sym (holds_fault net c z) ∙ p)

        none : Clashes (part_holds net c x) (part_holds net c y) → ⊥
        none (sources p q) =
            let s = source x p in
            let t = source y q in
            h.one s.0 t.0 (sound?_out g s.0 s.1 s.2) (sound?_out g t.0 t.1 t.2) (first s.0 s.1 s.3) (second t.0 t.1 t.3)
        none (source_fault p q) =
            let s = source x p in
            let e = fault y q in
            h.clear s.0 e.0 (sound?_out g s.0 s.1 s.2) (inl (first s.0 s.1 s.3)) e.1 e.2 (inr (second e.0 e.1 e.3))
        none (fault_source p q) =
            let s = source y q in
            let e = fault x p in
            h.clear s.0 e.0 (sound?_out g s.0 s.1 s.2) (inr (second s.0 s.1 s.3)) e.1 e.2 (inl (first e.0 e.1 e.3))

        go : (t : Bool) → clash (part_holds net c x) (part_holds net c y) ≡ t → t ≡ false
        go true t = absurd (none (clash_out _ _ t))
        go false t = refl

    pub closes_safe : Safe g c → Closes g c l → Safe g (put c l true)
    closes_safe safe h = record {
      tree = λ e ke m km on i. r.bridges m km on;
      one = r.one;
      clear = r.clear;
      within = λ e via f. within f (beside? e (fed_in g (put c l true) formed f)) (fed_live g (put c l true) f);
    }
      where
        bridges : Bridges g c
        bridges = safe_bridges g formed c safe.tree

        r : Radial g (put c l true)
        r = joins_radial (record { bridges = bridges; one = safe.one; clear = safe.clear }) h.joins

        within : {e via : ℕ} → Fed g (put c l true) e via → Beside g c l e ⊎ (¬ Beside g c l e) → Live g (put c l true) e
            → Bears g e (load_at g (put c l true) e via)
        within {e} {via} f (inl b) v = h.within v.source v.sound (joined_beside g c l b v.joined) e via b f
        within {e} {via} f (inr n) v = rw (load_before bridges r.bridges f n) (safe.within e via (fed_before g c l f n))

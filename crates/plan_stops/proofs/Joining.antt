-- What the search carries along, one link more: joined parts are carried again, and a loop or a clash leaves no radial configuration.
-- Assumes nothing.
use Prim.Native.Nat.{ℕ, ◌+◌, ◌<◌, min, max}
use mathlib.Core.Path.{◌≡◌, refl, sym, ap, ◌∙◌}
use mathlib.Core.Logic.{◌⊎◌, inl, inr}
use mathlib.Core.Bool.{Bool, true, false, not, ◌&&◌, false≢true}
use mathlib.Core.List.{List}
use lib.Dec.{eqb}
use lib.ListN.{set, length-set}
use lib.Seq.{get_or-set_same, get_or-set_other}
use borrow.Author.Tests.{eqb-true, eq-eqb}
use native.Mathlib.Omega.{arith}
use Rattle.feeding.specs.Below.{all_to, gate, imp}
use Rattle.feeding.specs.Networks.{Grid, Net, Formed, at}
use Rattle.feeding.specs.Parts.{Config, Joined, label, relabel, sound?, live?}
use Rattle.feeding.specs.Plans.{put}
use Rattle.feeding.specs.Restoration.{restorable?, restored?}
use Rattle.feeding.specs.Safety.{without}
use Rattle.feeding.proofs.Below.{same_test, imp_in, imp_out}
use Rattle.feeding.proofs.Below.{all_to_in, all_to_out}
use Rattle.feeding.proofs.Forest.{without_in}
use Rattle.feeding.proofs.Joins.{back}
use Rattle.feeding.proofs.Labels.{label_of_label, label_lowest}
use Rattle.feeding.proofs.Opening.{joined_mono}
use Rattle.feeding.proofs.Sums.{sum_to_zero, sum_to_term}
use Rattle.feeding_parts.specs.Labelling.{root_of}
use Rattle.feeding_parts.proofs.Roots.{falls_set, root_is, root_store}
use Rattle.plan_stops.specs.Candidates.{radial?}
use Rattle.plan_stops.specs.Holding.{has_source, has_need, waits_for, clash, serves, together}
use Rattle.plan_stops.proofs.Carried.{part_has?, part_holds, waiting_parts, CarriedParts, part_in, part_out, live_part, holds_source, holds_need}
use Rattle.plan_stops.proofs.Carried.{wait_at, waiting_sum, wait_calm, wait_one}
use Rattle.plan_stops.proofs.Holdings.{Clashes, clash_out}
use Rattle.plan_stops.proofs.OneMore.{same?, Moved, lowers, stays, low_one, high_one, put_on, put_more, label_joined}
use Rattle.plan_stops.proofs.OneMore.{end_lt, end_label, put_label, moved}
use Rattle.plan_stops.proofs.Radial.{radial_in, radial_out}
use Rattle.plan_stops.proofs.Merging.{holds_low, holds_other, waiting_joined, joined_radial, clash_broken}

module _ (net : Net) (formed : Formed net.grid) (c : Config) (total served : ℕ) (p h : List ℕ) (r : CarriedParts net c total served p h)
    (l : ℕ) (k : l < net.grid.K) where
  -- a link between two parts that do not clash: the stores that the search makes carry its parts along
  pub carried_join : c l ≡ false → (x y : ℕ) → x ≡ root_of p (net.grid.end_a l) → y ≡ root_of p (net.grid.end_b l) → (x ≡ y → ⊥)
      → clash (at h x) (at h y) ≡ false
      → CarriedParts net (put c l true) total (served + gate (serves (at h x) (at h y)) 1) (set p (max x y) (min x y))
      (set h (min x y) (together (at h x) (at h y)))
  carried_join off x y ex ey apart calm = record {
    fit = r.fit;
    parent_long = length-set p (max x y) (min x y) ∙ r.parent_long;
    holds_long = length-set h (min x y) _ ∙ r.holds_long;
    falls = falls_set p r.falls (max x y) (min x y) (omega arith);
    roots = roots;
    holds_is = λ z kz own. holds z kz own (same? z (min x y));
    radial = radial_in g formed (put c l true)
        (joined_radial net formed c l k x y is_x is_y apart (rw (hx, hy) at calm) (radial_out g formed c r.radial));
    counted = counted;
  }
    where
      g : Grid
      g = net.grid

      is_x : x ≡ label g c (g.end_a l)
      is_x = ex ∙ r.roots (g.end_a l) (formed.end_a_lt l k)

      is_y : y ≡ label g c (g.end_b l)
      is_y = ey ∙ r.roots (g.end_b l) (formed.end_b_lt l k)

      below : (z : ℕ) → (z ≡ x) ⊎ (z ≡ y) → z < g.E
      below = end_lt g formed c l k x y is_x is_y

      held : (z : ℕ) → (z ≡ x) ⊎ (z ≡ y) → at h z ≡ part_holds net c z
      held z o = r.holds_is z (below z o) (end_label g formed c l k x y is_x is_y z o)

      hx : at h x ≡ part_holds net c x
      hx = held x (inl refl)

      hy : at h y ≡ part_holds net c y
      hy = held y (inr refl)

      own : (z : ℕ) → (z ≡ x) ⊎ (z ≡ y) → at p z ≡ z
      own z (inl o) = rw (o ∙ ex) (root_is p r.falls (g.end_a l))
      own z (inr o) = rw (o ∙ ey) (root_is p r.falls (g.end_b l))

      roots : (z : ℕ) → z < g.E → root_of (set p (max x y) (min x y)) z ≡ label g (put c l true) z
      roots z kz =
          root_store p r.falls (max x y) (min x y)
          (omega (arith, r.parent_long, r.fit, below (max x y) (high_one x y)))
          (own (max x y) (high_one x y)) (own (min x y) (low_one x y)) (omega (arith, apart)) z (omega (arith, r.parent_long, r.fit))
          ∙ ap (relabel (max x y) (min x y)) (r.roots z kz)
          ∙ sym (put_label g formed c l k x y is_x is_y z kz)

      holds : (z : ℕ) → z < g.E → label g (put c l true) z ≡ z → (z ≡ min x y) ⊎ (z ≡ min x y → ⊥)
          → at (set h (min x y) (together (at h x) (at h y))) z ≡ part_holds net (put c l true) z
      holds z kz own (inl e) =
          rw (e, hx, hy) (get_or-set_same h (min x y) _ 0 (omega (arith, r.holds_long, r.fit, below (min x y) (low_one x y)))
          ∙ sym (holds_low net formed c l k x y is_x is_y))
      holds z kz own (inr n) = get_or-set_other h (min x y) z _ 0 n ∙ go (moved g formed c l k x y is_x is_y z kz)
        where
          go : Moved x y (label g c z) (label g (put c l true) z) → at h z ≡ part_holds net (put c l true) z
          go (lowers _ s) = absurd (n (sym own ∙ s))
          go (stays nx ny s) =
              r.holds_is z kz (sym s ∙ own)
              ∙ sym (holds_other net formed c l k x y is_x is_y z (λ e. nx (sym s ∙ own ∙ e)) (λ e. ny (sym s ∙ own ∙ e)))

      counted : (served + gate (serves (at h x) (at h y)) 1) + waiting_parts net (put c l true) ≡ total
      counted = rw (hx, hy) (omega (arith, r.counted, waiting_joined net formed c l k x y is_x is_y apart))

  -- a link within a part closes a loop
  pub carried_loop : c l ≡ false → root_of p (net.grid.end_a l) ≡ root_of p (net.grid.end_b l) → radial? net.grid (put c l true) ≡ false
  carried_loop off same = go (radial? net.grid (put c l true)) refl
    where
      g : Grid
      g = net.grid

      ends : Joined g c (g.end_b l) (g.end_a l)
      ends = label_joined g formed c (g.end_b l) (g.end_a l) (formed.end_b_lt l k) (formed.end_a_lt l k)
          (sym (r.roots (g.end_a l) (formed.end_a_lt l k)) ∙ same ∙ r.roots (g.end_b l) (formed.end_b_lt l k))

      go : (t : Bool) → radial? g (put c l true) ≡ t → t ≡ false
      go true t = absurd ((radial_out g formed (put c l true) t).bridges l k (put_on c l)
          (joined_mono g c (without (put c l true) l)
          (λ m h. without_in (put c l true) l m (put_more c l m h) (λ e. false≢true (sym off ∙ ap c (sym e) ∙ h))) ends))
      go false t = refl

  -- a link between two parts that clash breaks rule 15 or 16
  pub carried_clash : c l ≡ false → clash (at h (root_of p (net.grid.end_a l))) (at h (root_of p (net.grid.end_b l))) ≡ true
      → radial? net.grid (put c l true) ≡ false
  carried_clash off clashes = go (same? x y)
    where
      g : Grid
      g = net.grid

      x : ℕ
      x = root_of p (g.end_a l)

      y : ℕ
      y = root_of p (g.end_b l)

      is_x : x ≡ label g c (g.end_a l)
      is_x = r.roots (g.end_a l) (formed.end_a_lt l k)

      is_y : y ≡ label g c (g.end_b l)
      is_y = r.roots (g.end_b l) (formed.end_b_lt l k)

      held : (z : ℕ) → (z ≡ x) ⊎ (z ≡ y) → at h z ≡ part_holds net c z
      held z o = r.holds_is z (end_lt g formed c l k x y is_x is_y z o) (end_label g formed c l k x y is_x is_y z o)

      both : Clashes (part_holds net c x) (part_holds net c y)
      both = clash_out _ _ (rw (held x (inl refl), held y (inr refl)) at clashes)

      out : (x ≡ y → ⊥) → (t : Bool) → radial? g (put c l true) ≡ t → t ≡ false
      out n true t = absurd (clash_broken net formed c l k x y is_x is_y n both (radial_out g formed (put c l true) t))
      out n false t = refl

      go : (x ≡ y) ⊎ (x ≡ y → ⊥) → radial? g (put c l true) ≡ false
      go (inl e) = carried_loop off e
      go (inr n) = out n (radial? g (put c l true)) refl

-- every restorable element is live exactly where no part waits any more
pub carried_restored : (net : Net) → Formed net.grid → (c : Config) (total served : ℕ) (p h : List ℕ) → CarriedParts net c total served p h
    → restored? net c ≡ eqb served total
unfolding restored?
carried_restored net formed c total served p h r = same_test _ _ there back
  where
    g : Grid
    g = net.grid

    live_all : all_to g.E (λ e. imp (restorable? net e) (live? g c e)) ≡ true → (e : ℕ) → e < g.E → restorable? net e ≡ true
        → part_has? net c (sound? g) (label g c e) ≡ true
    live_all all e ke q = sym (live_part net c e) ∙ imp_out (restorable? net e) _ (all_to_out g.E _ all e ke) q

    still : all_to g.E (λ e. imp (restorable? net e) (live? g c e)) ≡ true → (z : ℕ) → waits_for (part_holds net c z) ≡ false
    still all z = go (has_need (part_holds net c z)) refl
      where
        source : (e : ℕ) × (e < g.E) × (restorable? net e ≡ true) × (label g c e ≡ z) → part_has? net c (sound? g) z ≡ true
        source (e, ke, q, i) = rw i at (live_all all e ke q)

        go : (t : Bool) → has_need (part_holds net c z) ≡ t → (t && not (has_source (part_holds net c z))) ≡ false
        go true t = ap not (holds_source net c z ∙ source (part_out net c (restorable? net) z (sym (holds_need net c z) ∙ t)))
        go false t = refl

    there : all_to g.E (λ e. imp (restorable? net e) (live? g c e)) ≡ true → eqb served total ≡ true
    there all = eq-eqb served total (omega (
      arith,
      r.counted,
      waiting_sum net c,
      sum_to_zero g.E (wait_at net c) (λ z _. wait_calm net c z (still all z)),
    ))

    back : eqb served total ≡ true → all_to g.E (λ e. imp (restorable? net e) (live? g c e)) ≡ true
    back q = all_to_in g.E _ (λ e ke. imp_in (restorable? net e) _ (λ need.
        live_part net c e ∙ go e ke need (part_has? net c (sound? g) (label g c e)) refl))
      where
        go : (e : ℕ) → e < g.E → restorable? net e ≡ true → (t : Bool) → part_has? net c (sound? g) (label g c e) ≡ t → t ≡ true
        go e ke need true t = refl
        go e ke need false t = absurd (out (wait_one net c (label g c e) (label_of_label g c e) (rw (
          holds_need net c (label g c e) ∙ part_in net c (restorable? net) (label g c e) e ke need refl,
          holds_source net c (label g c e) ∙ t,
        ))))
          where
            out : wait_at net c (label g c e) ≡ 1 → ⊥
            out one = omega (
              arith,
              one,
              r.counted,
              eqb-true served total q,
              waiting_sum net c,
              (label_lowest g formed c e ke).0,
              sum_to_term g.E (wait_at net c) (label g c e) (omega (arith, (label_lowest g formed c e ke).0)),
            )

-- A well-formed network in a safe configuration meets what `closing_safe` asks, and is answered what `closes?` answers of its grid.
-- Assumes nothing.
use mathlib.Core.Path.{◌≡◌, refl, sym, ap, ap₂, ◌∙◌}
use mathlib.Core.Bool.{Bool, true, false, not}
use mathlib.Core.List.{List}
use Prim.Native.Nat.{ℕ, suc, ◌+◌, ◌*◌, ◌<◌}
use lib.Dec.{eqb, ltb}
use lib.ListN.{length, set, length-set, replicate}
use lib.Seq.{get_or-set_same, get_or-set_other}
use borrow.Author.Tests.{eqb-true, eqb-false}
use native.Mathlib.Omega.{arith}
use Rattle.network.specs.declared.Network.{Network}
use Rattle.network.specs.Accepted.{WellFormed}
use Rattle.feeding.specs.Below.{gate, tabulate}
use Rattle.feeding.specs.Loads.{element_load, within_from?}
use Rattle.feeding.specs.Networks.{Grid, Formed, net_of, grid_of, at, is_in, is_faulty}
use Rattle.feeding.specs.Parts.{Config, closed_in, sound?}
use Rattle.feeding.specs.Plans.{put}
use Rattle.feeding.specs.Safety.{Safe}
use Rattle.feeding.proofs.Below.{gate_le}
use Rattle.feeding.proofs.Lows.{length_tabulate, at_tabulate}
use Rattle.feeding.proofs.States.{Alike, element_load_alike}
use Rattle.feeding.proofs.Tests.{sound_flag}
use Rattle.feeding.proofs.Views.{formed_net}
use Rattle.feeding_ends.specs.declared.OwnEnds.{OwnEnds}
use Rattle.feeding_ends.specs.Ends.{own_ends}
use Rattle.feeding_loads.specs.Walks.{walk_grid, grid_of_walk, ends_a, ends_b, Lent}
use Rattle.feeding_loads.proofs.Same as Same
use Rattle.feeding_walks.specs.declared.Walk.{Walk}
use Rattle.feeding_walks.specs.Walking.{walk_of}
use Rattle.feeding_part_sums.specs.Sums.{sum_grid}
use Rattle.feeding_restoration.proofs.Sets.{ones}
use Rattle.judge_safe_steps.specs.Tests.{with_loads, part_sum, sign_at, signs, Tells, joining_of, joined_safe, closes?}
use Rattle.judge_safe_steps.specs.declared.Joining.TheVariants.{FedBy}
use Rattle.judge_safe_steps.proofs.Signs.{with_formed, signs_tell, signs_below}
use Rattle.judge_safe_steps.proofs.Tests.{fed_sound, joined_same}
use Rattle.judge_closing.specs.Checks.{sign_of, first_end, second_end, targeted, part_signs, joining_over, closes_over, Joinable, Closable}
use Rattle.judge_steps.proofs.Configurations.{set_put}

-- what the examination makes once of a network
pub record Made (n : Network) (walk : Walk) (sign : List ℕ) : Type 0 where
  pub own : OwnEnds
  pub own_is : own ≡ own_ends (at n.from) (at n.to) (is_in (replicate 96 1)) n.links
  pub walk_is : walk ≡ walk_of n own
  pub sign_is : sign ≡ tabulate 64 (λ x. sign_of (at n.flags x) x)

module _ (n : Network) (w : WellFormed n) (walk : Walk) (sign : List ℕ) (made : Made n walk sign) where
  abbrev g : Grid
  g = (net_of n).grid

  abbrev all : ℕ → Bool
  all = is_in (replicate 96 1)

  -- ---- what walks go over

  own_is : walk.own ≡ made.own
  unfolding walk_of
  own_is = ap (λ (v : Walk). v.own) made.walk_is

  load_is : walk.load ≡ n.load
  unfolding walk_of
  load_is = ap (λ (v : Walk). v.load) made.walk_is

  capacity_is : walk.capacity ≡ n.capacity
  unfolding walk_of
  capacity_is = ap (λ (v : Walk). v.capacity) made.walk_is

  elements_are : walk.elements ≡ n.elements
  unfolding walk_of
  elements_are = ap (λ (v : Walk). v.elements) made.walk_is

  links_are : walk.links ≡ n.links
  unfolding walk_of
  links_are = ap (λ (v : Walk). v.links) made.walk_is

  formed_with : (load capacity : List ℕ) → Formed (grid_of n.elements n.links load capacity n.flags n.from n.to)
  unfolding grid_of
  formed_with load capacity = record { end_a_lt = w.from_in; end_b_lt = w.to_in; differ = w.differ }

  lent_with : (load capacity : List ℕ) → length load ≡ 64 → length capacity ≡ 64 → (states : List ℕ) → length states ≡ 96
      → Lent walk.own.head walk.own.next walk.own.far states load capacity walk.elements walk.links
  lent_with load capacity long long' states long'' = rw (own_is, elements_are, links_are)
      (Same.lent n.elements n.links load capacity n.flags n.from n.to (formed_with load capacity) w.elements_fit w.links_fit
      all made.own made.own_is states (λ l k _. ones l (omega (arith, w.links_fit))) (omega (arith, w.links_fit))
      (omega (arith, w.elements_fit)) (omega (arith, w.elements_fit)))

  ends_a_lem : (l : ℕ) → l < n.links → ends_a walk.own.far l ≡ at n.from l
  ends_a_lem l k = ap (λ (xs : List ℕ). ends_a xs l) (ap (λ (o : OwnEnds). o.far) (own_is ∙ made.own_is))
      ∙ Same.far_a (at n.from) (at n.to) all n.links w.links_fit l k

  ends_b_lem : (l : ℕ) → l < n.links → ends_b walk.own.far l ≡ at n.to l
  ends_b_lem l k = ap (λ (xs : List ℕ). ends_b xs l) (ap (λ (o : OwnEnds). o.far) (own_is ∙ made.own_is))
      ∙ Same.far_b (at n.from) (at n.to) all n.links w.links_fit l k

  first_end_lem : (l : ℕ) → l < n.links → first_end walk l ≡ at n.from l
  first_end_lem = ends_a_lem

  second_end_lem : (l : ℕ) → l < n.links → second_end walk l ≡ at n.to l
  second_end_lem = ends_b_lem

  -- ---- the signs

  sign_long : length sign ≡ 64
  sign_long = ap length made.sign_is ∙ length_tabulate 64 _

  sign_at_lem : (x : ℕ) → x < n.elements → at sign x ≡ gate (sound? g x) (suc x) + gate (g.faulty x) 128
  unfolding net_of grid_of sound? sign_of
  sign_at_lem x k =
      ap (λ (xs : List ℕ). at xs x) made.sign_is ∙ at_tabulate 64 (λ y. sign_of (at n.flags y) y) x (omega (arith, w.elements_fit))
      ∙ ap (λ (b : Bool). gate b (suc x) + gate (is_faulty (at n.flags x)) 128) (sound_flag (at n.flags x))

  module _ (l : ℕ) (k : l < n.links) where
    abbrev aimed : List ℕ
    aimed = targeted walk sign l

    second_lt : second_end walk l < n.elements
    second_lt = rw (second_end_lem l k) (w.to_in l k)

    aimed_at : (x : ℕ) → x < n.elements → at aimed x ≡ sign_at g (g.end_b l) x
    unfolding net_of grid_of sign_at
    aimed_at x kx = go (eqb x (at n.to l)) refl
      where
        m : ℕ
        m = second_end walk l

        go : (t : Bool) → eqb x (at n.to l) ≡ t
            → at aimed x ≡ gate (sound? g x) (suc x) + (gate (g.faulty x) 128 + gate t 16384)
        go true t =
            let same : x ≡ m = eqb-true x (at n.to l) t ∙ sym (second_end_lem l k) in
            omega (
              arith,
              ap (at aimed) same,
              get_or-set_same sign m (at sign m + 16384) 0 (omega (arith, sign_long, second_lt, w.elements_fit)),
              ap (at sign) same,
              sign_at_lem x kx,
            )
        go false t =
            get_or-set_other sign (second_end walk l) x (at sign (second_end walk l) + 16384) 0 (λ q. eqb-false x (at n.to l) t (q ∙ second_end_lem l k))
            ∙ omega (arith, sign_at_lem x kx)

    -- the walk of signs over the lists is that over the grid
    signs_is : (c : Config) (e : ℕ) → e < n.elements
        → part_signs walk aimed c e ≡ signs g c (g.end_b l) e
    unfolding part_signs signs part_sum with_loads walk_grid net_of grid_of
    signs_is c e ke =
        ap₂ (λ (m v : ℕ). element_load (sum_grid walk aimed) c (2 * m) e v) elements_are links_are
        ∙ sym (element_load_alike (with_loads g (sign_at g (g.end_b l))) (sum_grid walk aimed)
        (with_formed g (sign_at g (g.end_b l)) (formed_net n w)) alike c c (λ _ _. refl) (2 * n.elements) e n.links ke)
      where
        alike : Alike (with_loads g (sign_at g (g.end_b l))) (sum_grid walk aimed)
        alike = record {
          elements = sym elements_are;
          links = sym links_are;
          loads = λ x kx. sym (aimed_at x kx);
          capacities = λ x kx. sym (aimed_at x kx);
          ends_a_lem = λ m km. sym (ends_a_lem m km);
          ends_b_lem = λ m km. sym (ends_b_lem m km);
        }

    -- ---- in a safe configuration, with the link open

    module _ (closed : List ℕ) (long : length closed ≡ 96) (safe : Safe g (closed_in closed)) (off : closed_in closed l ≡ false) where
      abbrev c : Config
      c = closed_in closed

      first : ℕ
      first = signs g c (g.end_b l) (g.end_a l)

      second : ℕ
      second = signs g c (g.end_b l) (g.end_b l)

      first_is : part_signs walk aimed (closed_in closed) (first_end walk l) ≡ first
      unfolding first net_of grid_of
      first_is = ap (part_signs walk aimed (closed_in closed)) (first_end_lem l k)
          ∙ signs_is (closed_in closed) (at n.from l) (w.from_in l k)

      second_is : part_signs walk aimed (closed_in closed) (second_end walk l) ≡ second
      unfolding second net_of grid_of
      second_is = ap (part_signs walk aimed (closed_in closed)) (second_end_lem l k)
          ∙ signs_is (closed_in closed) (at n.to l) (w.to_in l k)

      formed : Formed g
      formed = formed_net n w

      first_tells : Tells g c (g.end_b l) (g.end_a l) first
      unfolding first net_of grid_of
      first_tells = signs_tell g formed w.elements_fit c safe (g.end_b l) (g.end_a l) (w.to_in l k) (w.from_in l k)

      second_tells : Tells g c (g.end_b l) (g.end_b l) second
      unfolding second net_of grid_of
      second_tells = signs_tell g formed w.elements_fit c safe (g.end_b l) (g.end_b l) (w.to_in l k) (w.to_in l k)

      first_below : first < 32768
      unfolding first net_of grid_of
      first_below = signs_below g formed w.elements_fit c safe (g.end_b l) (g.end_a l) (w.to_in l k) (w.from_in l k)

      second_below : second < 32768
      unfolding second net_of grid_of
      second_below = signs_below g formed w.elements_fit c safe (g.end_b l) (g.end_b l) (w.to_in l k) (w.to_in l k)

      puts : closed_in (set closed l 1) ≡ put c l true
      puts = set_put closed l true (omega (arith, w.links_fit))

      joining_is : joining_over walk closed sign l ≡ joining_of first second
      unfolding joining_over
      joining_is = ap₂ joining_of first_is second_is

      source_below : (s : ℕ) → joining_of first second ≡ FedBy s → s < n.elements
      unfolding net_of grid_of
      source_below s is = (fed_sound g c (g.end_b l) (g.end_a l) (g.end_b l) first second first_tells second_tells s is).below

      joinable : Joinable walk closed sign l
      joinable = record {
        few = omega (arith, elements_are, w.elements_fit);
        below = omega (arith, w.links_fit);
        first_in = omega (arith, elements_are, first_end_lem l k, w.from_in l k);
        second_in = omega (arith, elements_are, second_lt);
        sign_fits = omega (
          arith,
          sign_at_lem (second_end walk l) second_lt,
          gate_le (sound? g (second_end walk l)) (suc (second_end walk l)),
          gate_le (g.faulty (second_end walk l)) 128,
          second_lt,
          w.elements_fit,
        );
        before = record { few = omega (arith, elements_are, w.elements_fit); lent = lent_with aimed aimed aimed_long aimed_long closed long };
        first_fits = omega (arith, first_is, first_below);
        second_fits = omega (arith, second_is, second_below);
      }
        where
          aimed_long : length aimed ≡ 64
          aimed_long = length-set sign (second_end walk l) (at sign (second_end walk l) + 16384) ∙ sign_long

      pub closable : Closable walk closed sign l
      closable = record {
        joinable = joinable;
        after = rw (load_is, capacity_is) (lent_with n.load n.capacity w.load_long w.capacity_long (set closed l 1) (length-set closed l 1 ∙ long));
        fed_in = λ s q. omega (arith, elements_are, source_below s (sym joining_is ∙ q));
      }

      pub closes_is : closes_over walk closed sign l ≡ closes? g c l
      unfolding closes_over closes? first second within_from? net_of grid_of walk_grid
      closes_is =
          ap (joined_safe lists) joining_is
          ∙ joined_same lists grid first second same
          ∙ ap (λ (c' : Config). joined_safe (within_from? g c') (joining_of first second)) puts
        where
          lists : ℕ → Bool
          lists = within_from? (grid_of_walk walk) (closed_in (set closed l 1))

          grid : ℕ → Bool
          grid = within_from? g (closed_in (set closed l 1))

          same : (s : ℕ) → joining_of first second ≡ FedBy s → lists s ≡ grid s
          same s is =
              ap₂ (λ (load capacity : List ℕ). within_from? (walk_grid walk.elements walk.links walk.own.far load capacity) (closed_in (set closed l 1)) s) load_is capacity_is
              ∙ ap₂ (λ (m v : ℕ). within_from? (walk_grid m v walk.own.far n.load n.capacity) (closed_in (set closed l 1)) s) elements_are links_are
              ∙ ap (λ (x : ℕ). not (ltb x n.elements))
              (Same.element_over_is n.elements n.links n.load n.capacity n.flags n.from n.to (formed_with n.load n.capacity)
              w.elements_fit w.links_fit walk.own.far ends_a_lem ends_b_lem (closed_in (set closed l 1)) (2 * n.elements) s n.links
              (source_below s is))

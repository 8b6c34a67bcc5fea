-- A walk sees of a grid only its ends, loads and capacities below its bounds, so over a network's chained ends it finds what the network's grid has.
-- Assumes nothing.
use Prim.Native.Nat.{ℕ, suc, ◌+◌, ◌*◌, ◌/◌, ◌%◌, ◌≤◌, ◌<◌, ◌^◌}
use mathlib.Core.Path.{◌≡◌, refl, sym, ◌∙◌}
use mathlib.Core.Bool.{Bool, true, false, ◌&&◌, false≢true}
use mathlib.Core.List.{List}
use lib.Dec.{eqb, ltb}
use lib.ListN.{length}
use borrow.Author.Tests.{eqb-true, eqb-false, lt-ltb, ltb-true}
use native.Mathlib.Omega.{arith}
use Rattle.feeding.specs.Below.{gate}
use Rattle.feeding.specs.Networks.{Formed, at, grid_of}
use Rattle.feeding.specs.Parts.{Config, closed_in, sound?}
use Rattle.feeding.specs.Loads.{element_load, element_over, lowest_over}
use Rattle.feeding.specs.Restoration.{total_load}
use Rattle.feeding.proofs.Below.{or_else}
use Rattle.feeding.proofs.Forest.{Bridges}
use Rattle.feeding.proofs.Hanging.{load_at_most}
use Rattle.feeding.proofs.Lows.{length_tabulate, at_tabulate, least_to_ext}
use Rattle.feeding.proofs.States.{Alike, element_load_alike, element_over_alike}
use Rattle.feeding.proofs.Sums.{sum_to_below}
use Rattle.feeding.proofs.Walk.{start}
use Rattle.feeding_ends.specs.Ends.{TwoEnds, end_at, far_at, own, own_end, own_ends}
use Rattle.feeding_loads.specs.Walks.{ends_a, ends_b, walk_grid, Skips, Lent, Carries, over_place}
use Rattle.feeding_ends.specs.declared.OwnEnds.{OwnEnds}
use Rattle.feeding_ends.proofs.Chains.{end_even, end_odd, end_first, end_second, own_yes, own_below, own_at, own_no, own_end_le, own_end_ge, own_end_has, own_end_none}

-- ---- equal ends are skipped alike

module _ (a a' b b' : ℕ → ℕ) (n : ℕ) (p : (l : ℕ) → l < n → a l ≡ a' l) (q : (l : ℕ) → l < n → b l ≡ b' l) where
  pub end_at_ext : (j : ℕ) → j < 2 * n → end_at a b j ≡ end_at a' b' j
  unfolding end_at
  end_at_ext j k = go (eqb (j % 2) 0)
    where
      go : (t : Bool) → or_else (b (j / 2)) t (a (j / 2)) ≡ or_else (b' (j / 2)) t (a' (j / 2))
      go true = p (j / 2) (omega arith)
      go false = q (j / 2) (omega arith)

  own_ext : (has : ℕ → Bool) (e j : ℕ) → own a b has n e j ≡ own a' b' has n e j
  unfolding own
  own_ext has e j = go (ltb j (2 * n)) refl
    where
      go : (t : Bool) → ltb j (2 * n) ≡ t → (t && (eqb (end_at a b j) e && has (j / 2))) ≡ (t && (eqb (end_at a' b' j) e && has (j / 2)))
      go true t = rw (end_at_ext j (ltb-true j (2 * n) t))
      go false t = refl

  skips_ext : (closed : ℕ → Bool) (e i j : ℕ) → Skips a b closed n e i j → Skips a' b' closed n e i j
  skips_ext closed e i j q = record {
    at_least = q.at_least;
    at_most = q.at_most;
    below = q.below;
    near = λ k. sym (end_at_ext j (q.below k)) ∙ q.near k;
    none = λ m h k. sym (own_ext closed e m) ∙ q.none m h k;
  }

-- ---- the chains of a network's ends

module _ (a b : ℕ → ℕ) (has : ℕ → Bool) (K : ℕ) (fit : K ≤ 96) where
  -- they skip no end of a closed link, where all closed links are in the set
  skips_own : (closed : ℕ → Bool) → ((l : ℕ) → l < K → closed l ≡ true → has l ≡ true) → (e i : ℕ) → i ≤ 192
      → Skips a b closed K e i (own_end a b has K e i)
  skips_own closed chained e i h = record {
    at_least = own_end_ge a b has K e i;
    at_most = own_end_le a b has K e i h;
    below = λ k. own_below a b has K e _ (own_end_has a b has K e i h k);
    near = λ k. own_at a b has K e _ (own_end_has a b has K e i h k);
    none = λ m low high. own_no a b closed K e m (λ k r on. false≢true
        (sym (own_end_none a b has K e i m low high) ∙ own_yes a b has K e m k r (chained (m / 2) (omega arith) on)));
  }

  pub far_at_lem : (j : ℕ) → j < 2 * K → at (own_ends a b has K).far j ≡ end_at b a j
  unfolding own_ends far_at
  far_at_lem j k = at_tabulate 192 (λ j. gate (ltb j (2 * K)) (far_at a b j)) j (omega arith) ∙ rw (lt-ltb j (2 * K) k)

  pub head_at : (e : ℕ) → e < 64 → at (own_ends a b has K).head e ≡ own_end a b has K e 0
  unfolding own_ends
  head_at e k = at_tabulate 64 (λ e. own_end a b has K e 0) e k

  pub next_at_lem : (j : ℕ) → j < 2 * K → at (own_ends a b has K).next j ≡ own_end a b has K (end_at a b j) (suc j)
  unfolding own_ends
  next_at_lem j k = at_tabulate 192 (λ j. elim (ltb j (2 * K)) [ true ↦ own_end a b has K (end_at a b j) (suc j) | false ↦ 192 ]) j (omega arith)
      ∙ rw (lt-ltb j (2 * K) k)

  pub head_length : length (own_ends a b has K).head ≡ 64
  unfolding own_ends
  head_length = length_tabulate 64 _

  pub next_length : length (own_ends a b has K).next ≡ 192
  unfolding own_ends
  next_length = length_tabulate 192 _

  pub far_length : length (own_ends a b has K).far ≡ 192
  unfolding own_ends
  far_length = length_tabulate 192 _

  pub far_a : (l : ℕ) → l < K → ends_a (own_ends a b has K).far l ≡ a l
  far_a l k = far_at_lem (2 * l + 1) (omega arith) ∙ end_second b a l

  pub far_b : (l : ℕ) → l < K → ends_b (own_ends a b has K).far l ≡ b l
  far_b l k = far_at_lem (2 * l) (omega arith) ∙ end_first b a l

module _ (E K : ℕ) (load capacity flags from to : List ℕ) (formed : Formed (grid_of E K load capacity flags from to)) (many : E ≤ 64)
    (fit : K ≤ 96) where
  from_lt : (l : ℕ) → l < K → at from l < E
  unfolding grid_of
  from_lt l k = formed.end_a_lt l k

  to_lt : (l : ℕ) → l < K → at to l < E
  unfolding grid_of
  to_lt l k = formed.end_b_lt l k

  ends_differ : (l : ℕ) → l < K → at from l ≡ at to l → ⊥
  unfolding grid_of
  ends_differ l k q = formed.differ l k q

  -- what `own_ends` asks
  pub two_ends : (has : List ℕ) → K ≤ length from → K ≤ length to → K ≤ length has → TwoEnds from to has K
  two_ends has h h' h'' = record {
    fit = fit;
    from_long = h;
    to_long = h';
    has_long = h'';
    from_in = λ l k. omega (arith, from_lt l k);
    to_in = λ l k. omega (arith, to_lt l k);
    differ = ends_differ;
  }

  -- what `element_load`, `link_load` and `over_place` ask of the lists that they are lent, where all closed links are in the set
  pub lent : (has : ℕ → Bool) (r : OwnEnds) → r ≡ own_ends (at from) (at to) has K → (closed : List ℕ)
      → ((l : ℕ) → l < K → closed_in closed l ≡ true → has l ≡ true) → K ≤ length closed → E ≤ length load → E ≤ length capacity
      → Lent r.head r.next r.far closed load capacity E K
  lent has r made closed chained h h' h'' = rw made (record {
    fit = fit;
    head_long = omega (arith, head_length (at from) (at to) has K fit);
    next_long = omega (arith, next_length (at from) (at to) has K fit);
    far_long = omega (arith, far_length (at from) (at to) has K fit);
    closed_long = h;
    load_long = h';
    capacity_long = h'';
    far_in = λ j k. rw (far_at_lem (at from) (at to) has K fit j k) (end_lt j k (eqb (j % 2) 0) refl);
    differ = λ l k q. ends_differ l k (sym (far_a (at from) (at to) has K fit l k) ∙ q ∙ far_b (at from) (at to) has K fit l k);
    heads = λ e k. rw (head_at (at from) (at to) has K fit e (omega arith)) (skips e 0 (omega arith));
    nexts = λ j k. rw (next_at_lem (at from) (at to) has K fit j k, ← end_at_ext (at from) (ends_a fars) (at to) (ends_b fars) K same_a same_b j k)
        (skips (end_at (at from) (at to) j) (suc j) (omega arith));
  })
    where
      fars : List ℕ
      fars = (own_ends (at from) (at to) has K).far

      same_a : (l : ℕ) → l < K → at from l ≡ ends_a fars l
      same_a l k = sym (far_a (at from) (at to) has K fit l k)

      same_b : (l : ℕ) → l < K → at to l ≡ ends_b fars l
      same_b l k = sym (far_b (at from) (at to) has K fit l k)

      skips : (e i : ℕ) → i ≤ 192 → Skips (ends_a fars) (ends_b fars) (closed_in closed) K e i (own_end (at from) (at to) has K e i)
      skips e i k = skips_ext (at from) (ends_a fars) (at to) (ends_b fars) K same_a same_b (closed_in closed) e i _
          (skips_own (at from) (at to) has K fit (closed_in closed) chained e i k)

      end_lt : (j : ℕ) → j < 2 * K → (t : Bool) → eqb (j % 2) 0 ≡ t → end_at (at to) (at from) j < E
      end_lt j k true t = rw (end_even (at to) (at from) j (eqb-true (j % 2) 0 t)) (to_lt (j / 2) (omega arith))
      end_lt j k false t = rw (end_odd (at to) (at from) j (eqb-false (j % 2) 0 t)) (from_lt (j / 2) (omega arith))

  -- a list of far elements whose ends are the links' ends
  module _ (far : List ℕ) (ends_a_lem : (l : ℕ) → l < K → ends_a far l ≡ at from l) (ends_b_lem : (l : ℕ) → l < K → ends_b far l ≡ at to l) where
    alike : Alike (grid_of E K load capacity flags from to) (walk_grid E K far load capacity)
    unfolding grid_of walk_grid
    alike = record {
      elements = refl;
      links = refl;
      loads = λ e k. refl;
      capacities = λ e k. refl;
      ends_a_lem = λ l k. sym (ends_a_lem l k);
      ends_b_lem = λ l k. sym (ends_b_lem l k);
    }

    pub element_over_is : (c : Config) (d e via : ℕ) → e < E
        → element_over (walk_grid E K far load capacity) c d e via ≡ element_over (grid_of E K load capacity flags from to) c d e via
    unfolding grid_of
    element_over_is c d e via k = sym (element_over_alike (grid_of E K load capacity flags from to) _ formed alike c c (λ _ _. refl) d e via k)

    pub element_load_is : (c : Config) (d e via : ℕ) → e < E
        → element_load (walk_grid E K far load capacity) c d e via ≡ element_load (grid_of E K load capacity flags from to) c d e via
    unfolding grid_of
    element_load_is c d e via k = sym (element_load_alike (grid_of E K load capacity flags from to) _ formed alike c c (λ _ _. refl) d e via k)

    -- what `over_place` answers, where the sound sources are marked
    pub over_place_is : (c : Config) (sound : List ℕ) → ((s : ℕ) → s < E → eqb (at sound s) 1 ≡ sound? (grid_of E K load capacity flags from to) s)
        → over_place (walk_grid E K far load capacity) c sound ≡ lowest_over (grid_of E K load capacity flags from to) c
    unfolding over_place lowest_over grid_of walk_grid
    over_place_is c sound is_in = least_to_ext E E
        (λ s. or_else E (eqb (at sound s) 1) (element_over (walk_grid E K far load capacity) c (2 * E) s K))
        (λ s. or_else E (sound? (grid_of E K load capacity flags from to) s) (element_over (grid_of E K load capacity flags from to) c (2 * E) s K))
        (λ s k. rw (is_in s k, element_over_is c (2 * E) s K k))

    total_fits : ((e : ℕ) → e < E → at load e < 2 ^ 32) → total_load (grid_of E K load capacity flags from to) < 2 ^ 63
    unfolding total_load grid_of
    total_fits small = omega (arith, sum_to_below (2 ^ 32) (at load) E (λ e k. omega (arith, small e k)))

    load_fits : (c : Config) → Bridges (grid_of E K load capacity flags from to) c → (s : ℕ) → s < E
        → element_load (grid_of E K load capacity flags from to) c (2 * E) s K ≤ total_load (grid_of E K load capacity flags from to)
    unfolding grid_of
    load_fits c bridges s k = load_at_most (grid_of E K load capacity flags from to) formed c bridges s K k (start refl)

    -- and what it asks of the loads
    pub carries : (c : Config) (sound : List ℕ) → Bridges (grid_of E K load capacity flags from to) c → ((e : ℕ) → e < E → at load e < 2 ^ 32)
        → Carries (walk_grid E K far load capacity) c sound
    unfolding walk_grid
    carries c sound bridges small s k q = omega (arith, element_load_is c (2 * E) s K k, load_fits c bridges s k, total_fits small)

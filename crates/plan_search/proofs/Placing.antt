-- The states carried along: a choice that leaves a switch open changes nothing, one that closes it is one store, and no search sees which of its switches were
-- put already, since every set puts all of them.
-- Assumes nothing.
use mathlib.Core.Path.{◌≡◌, refl, sym, ap, fun_ext, ◌∙◌}
use mathlib.Core.Bool.{Bool, true, false}
use mathlib.Core.List.{List}
use Prim.Native.Nat.{ℕ, ◌+◌, ◌-◌, ◌/◌, ◌%◌, ◌<◌, ◌≤◌}
use native.Mathlib.Numerals.{add-one}
use native.Mathlib.Omega.{arith}
use lib.Dec.{eqb}
use lib.ListN.{set, length-set}
use lib.Seq.{set-set, set-get_or, get_or-set_other}
use Rattle.feeding.specs.Below.{all_to}
use Rattle.feeding.specs.Networks.{at}
use Rattle.feeding.specs.Plans.{differ}
use Rattle.feeding.proofs.Below.{all_to_out}
use Rattle.feeding_loads.specs.Walks.{WalkLent}
use Rattle.plan_problem.specs.declared.Best.{Best}
use Rattle.plan_problem.specs.Sets.{keep, price_of}
use Rattle.plan_switches.specs.Switches.{turned, with_set}
use Rattle.plan_switches.proofs.Columns.{states_set, turned_open, turned_closed}
use Rattle.plan_switches.proofs.States.{states_over, turned_differ}
use Rattle.plan_setting.specs.declared.Setting.{Setting}
use Rattle.plan_setting.specs.Packed.{adds_in}
use Rattle.plan_stops.specs.Searching.{visited, dearer}
use Rattle.plan_search.specs.Searching.{Placed, source_fits, fits_in, states_by, visit_in, switching_in, sought_in}

-- ---- whether a switch ends open

module _ (closed b : ℕ) where
  pub ends_open : closed ≤ 1 → b ≤ 1 → closed ≡ b → differ (eqb closed 1) (eqb b 1) ≡ false
  ends_open h k e = sym (turned_differ closed b h k) ∙ ap (λ (x : ℕ). eqb x 1) (sym (turned_open closed b e))

  pub ends_closed : closed ≤ 1 → b ≤ 1 → (closed ≡ b → ⊥) → differ (eqb closed 1) (eqb b 1) ≡ true
  ends_closed h k e = sym (turned_differ closed b h k) ∙ ap (λ (x : ℕ). eqb x 1) (sym (turned_closed closed b e))

-- ---- the walks in these states

module _ (B : Setting) (states : List ℕ) where
  -- what the walks from the first j sources found
  pub fits_none : true ≡ all_to 0 (source_fits B states)
  unfolding all_to
  fits_none = refl

  pub fits_more : (j : ℕ) (r : Bool) → true ≡ all_to j (source_fits B states) → r ≡ source_fits B states j → r ≡ true → true ≡ all_to (j + 1) (source_fits B states)
  unfolding all_to
  fits_more j r h e t = rw (add-one j, ← h, ← e, t)

  pub fits_not : (j : ℕ) (r : Bool) → j < B.sources.count → r ≡ source_fits B states j → r ≡ false → false ≡ fits_in B states
  unfolding fits_in
  fits_not j r k e f = go (all_to B.sources.count (source_fits B states)) refl
    where
      go : (t : Bool) → all_to B.sources.count (source_fits B states) ≡ t → false ≡ t
      go true t = sym f ∙ e ∙ all_to_out B.sources.count (source_fits B states) t j k
      go false t = refl

  pub fits_all : (j : ℕ) → true ≡ all_to j (source_fits B states) → j ≡ B.sources.count → true ≡ fits_in B states
  unfolding fits_in
  fits_all j h e = h ∙ ap (λ (n : ℕ). all_to n (source_fits B states)) e

-- ---- a switch put

module _ (B : Setting) (states : List ℕ) (i s : ℕ) (p : Placed B states i (s / 2)) (k : i < B.switches.count) where
  abbrev l : ℕ
  l = at B.switches.link i

  off : at states (at B.switches.link i) ≡ 0
  off = p.ahead i (omega arith) k

  pub placed_open : turned (at B.switches.closed i) (s % 2) ≡ 0 → Placed B states (i + 1) s
  unfolding with_set
  placed_open e = record {
    long = p.long;
    chosen = chosen;
    ahead = λ j h b. p.ahead j (omega arith) b;
    lent = p.lent;
  }
    where
      chosen : states_by B (i + 1) s states ≡ states
      chosen =
          ap (λ (n : ℕ). states_by B n s states) (add-one i)
          ∙ ap (λ (xs : List ℕ). set xs l (turned (at B.switches.closed i) (s % 2))) p.chosen
          ∙ ap (set states l) (e ∙ sym off) ∙ set-get_or states l 0

  pub placed_closed : turned (at B.switches.closed i) (s % 2) ≡ 1 → Placed B (set states (at B.switches.link i) 1) (i + 1) s
  unfolding with_set
  placed_closed e = record {
    long = length-set states l 1 ∙ p.long;
    chosen = chosen;
    ahead = λ j h b. get_or-set_other states l (at B.switches.link j) 1 0 (λ q. B.settled.columns.reach.apart i j (omega arith) b (sym q)) ∙ p.ahead j (omega arith) b;
    lent = λ t. rw (over t) (p.lent t);
  }
    where
      over : (t : ℕ) → states_by B B.switches.count t (set states l 1) ≡ states_by B B.switches.count t states
      over t = states_over (at B.switches.link) (at B.switches.closed) B.switches.count B.settled.columns.reach.apart t states i 1 k

      chosen : states_by B (i + 1) s (set states l 1) ≡ set states l 1
      chosen =
          ap (λ (n : ℕ). states_by B n s (set states l 1)) (add-one i)
          ∙ ap (λ (xs : List ℕ). set xs l (turned (at B.switches.closed i) (s % 2)))
          (states_set (at B.switches.link) (at B.switches.closed) i (s / 2) states l 1 (λ j b. B.settled.columns.reach.apart j i b k) ∙ ap (λ (xs : List ℕ). set xs l 1) p.chosen)
          ∙ set-set states l 1 (turned (at B.switches.closed i) (s % 2)) ∙ ap (set states l) e

  visit_over : visit_in B (set states (at B.switches.link i) 1) ≡ visit_in B states
  unfolding visit_in
  visit_over = ap (keep (price_of (adds_in B) B.switches.count))
      (fun_ext (λ t. ap (fits_in B) (states_over (at B.switches.link) (at B.switches.closed) B.switches.count B.settled.columns.reach.apart t states i 1 k)))

  pub sought_over : (j served t : ℕ) (parent holds spare : List ℕ) (b : Best)
      → sought_in B (set states (at B.switches.link i) 1) j served t parent holds spare b ≡ sought_in B states j served t parent holds spare b
  unfolding sought_in
  sought_over j served t parent holds spare b =
      ap (λ (visit : Best → ℕ → Best). visited (dearer (price_of (adds_in B))) visit (switching_in B) B.want (B.switches.count - j) j served t parent holds spare b) visit_over

  -- the switch is opened again
  pub state_undone : (states' : List ℕ) (v : ℕ) → v ≡ 0 → states' ≡ set states (at B.switches.link i) 1 → set states' (at B.switches.link i) v ≡ states
  state_undone states' v e f = ap (λ (xs : List ℕ). set xs l v) f ∙ set-set states l 1 v ∙ ap (set states l) (e ∙ sym off) ∙ set-get_or states l 0

-- at the same switch, with its choice written behind those before
pub placed_next : (B : Setting) (states : List ℕ) (i s : ℕ) → Placed B states i s → (states' : List ℕ) (t : ℕ) → states' ≡ states → t / 2 ≡ s → Placed B states' i (t / 2)
placed_next B states i s p states' t e f = rw (e, f) p

-- all switches are chosen: the states are those of the set
module _ (B : Setting) (states : List ℕ) (i s : ℕ) (p : Placed B states i s) (e : i ≡ B.switches.count) where
  whole : states_by B B.switches.count s states ≡ states
  whole = ap (λ (n : ℕ). states_by B n s states) (sym e) ∙ p.chosen

  pub lent_here : WalkLent B.walk states
  lent_here = rw whole at (p.lent s)

  pub fits_here : (r : Bool) → r ≡ fits_in B states → fits_in B (states_by B B.switches.count s states) ≡ r
  fits_here r q = ap (fits_in B) whole ∙ sym q

-- Where every restorable element is live and every source bears its part, the sources together bear what the restorable elements ask: so where they
-- don't, no set restores the network, which is known before any search.
-- Assumes nothing.
use Prim.Native.Nat.{ℕ, ◌≤◌, ◌<◌}
use mathlib.Core.Path.{◌≡◌, refl, sym, ap, ◌∙◌}
use mathlib.Core.Bool.{Bool, true, false, not, ◌&&◌}
use mathlib.Core.List.{List, [], ◌∷◌}
use lib.Dec.{eqb, ltb}
use lib.ListN.{length}
use borrow.Author.Tests.{eq-eqb, not-true}
use native.Mathlib.Omega.{arith}
use Rattle.feeding.specs.Below.{sum_to, gate}
use Rattle.feeding.specs.Loads.{lowest_over}
use Rattle.feeding.specs.Networks.{Grid, Net, Formed}
use Rattle.feeding.specs.Parts.{Config, Live, label, sound?}
use Rattle.feeding.specs.Restoration.{restorable?, restored?}
use Rattle.feeding.specs.Plans.{flip}
use Rattle.feeding.proofs.Below.{and_left, and_right, all_to_out, imp_out}
use Rattle.feeding.proofs.Sums.{sum_to_ext, sum_to_mono, sum_to_swap, sum_to_term, gate_sum}
use Rattle.feeding.proofs.Tests.{sound?_in, sound?_out, live?_out}
use Rattle.plan_problem.specs.declared.Best.{Best}
use Rattle.plan_problem.specs.Choosing.{works?}
use Rattle.plan_problem.specs.Sets.{sets_from, none, keep, scan, set_in, cheapest_by}
use Rattle.plan_problem.proofs.Scans.{keep_failed}
use Rattle.plan_stops.specs.Candidates.{radial?, passes?, candidate?}
use Rattle.plan_stops.specs.Supply.{part_asks, supplied?, own_ask, demand, supply}
use Rattle.plan_stops.proofs.OneMore.{joined_label}
use Rattle.plan_stops.proofs.Radial.{radial_out}
use Rattle.plan_stops.proofs.Supplied.{supplied_out, within_supplied}
use Rattle.plan_stops.proofs.Works.{works_candidate}

-- where every restorable element is live and every source bears its part, all sources bear what all restorable elements ask
pub supply_enough : (net : Net) → Formed net.grid → (asks : ℕ → ℕ) (c : Config) → restored? net c ≡ true → supplied? net.grid asks c ≡ true
    → demand net asks ≤ supply net.grid
unfolding demand supply restored? part_asks
supply_enough net formed asks c restored supplied = omega (
  arith,
  sum_to_mono g.E (λ e. gate (restorable? net e) (asks e)) (λ e. sum_to g.E (λ s. share s e)) (λ e k. fed e k (restorable? net e) refl),
  sum_to_swap g.E g.E (λ e s. share s e),
  sum_to_ext g.E (λ s. sum_to g.E (λ e. share s e)) (λ s. gate (sound? g s) (part_asks g asks c (label g c s)))
      (λ s k. sym (gate_sum (sound? g s) g.E (λ e. gate (eqb (label g c e) (label g c s)) (asks e)))),
  sum_to_mono g.E (λ s. gate (sound? g s) (part_asks g asks c (label g c s))) (λ s. gate (sound? g s) (g.capacity s))
      (λ s k. borne s k (sound? g s) refl),
)
  where
    g : Grid
    g = net.grid

    share : ℕ → ℕ → ℕ
    share s e = gate (sound? g s) (gate (eqb (label g c e) (label g c s)) (asks e))

    borne : (s : ℕ) → s < g.E → (t : Bool) → sound? g s ≡ t → gate t (part_asks g asks c (label g c s)) ≤ gate t (g.capacity s)
    borne s k true t = (supplied_out g asks c supplied).bears s (sound?_out g s k t)
    borne s k false t = omega arith

    at_source : (e : ℕ) → Live g c e → asks e ≤ sum_to g.E (λ s. share s e)
    at_source e r = omega (arith, sum_to_term g.E (λ s. share s e) r.source r.sound.below, whole)
      where
        whole : share r.source e ≡ asks e
        whole = rw (sound?_in g r.source r.sound, eq-eqb _ _ (joined_label g formed c r.joined))

    fed : (e : ℕ) → e < g.E → (t : Bool) → restorable? net e ≡ t → gate t (asks e) ≤ sum_to g.E (λ s. share s e)
    fed e k true t = at_source e (live?_out g formed c e k (imp_out (restorable? net e) _ (all_to_out g.E _ restored e k) t))
    fed e k false t = omega arith

module _ (net : Net) (formed : Formed net.grid) (top : ℕ) (short : supply net.grid < demand net (own_ask net.grid top)) where
  -- no set works
  short_fails : (D : ℕ → Bool) → works? net D ≡ false
  unfolding passes?
  short_fails D = go (works? net D) refl
    where
      c : Config
      c = flip net.start_closed D

      go : (t : Bool) → works? net D ≡ t → t ≡ false
      go true t = absurd (omega (
        arith,
        short,
        supply_enough net formed (own_ask net.grid top) c (and_right (radial? net.grid c) _ candidate)
            (within_supplied net.grid formed c (radial_out net.grid formed c (and_left (radial? net.grid c) _ candidate)) top within),
      ))
        where
          both : (candidate? net D && not (ltb (lowest_over net.grid c) net.grid.E)) ≡ true
          both = sym (works_candidate net D) ∙ t

          candidate : candidate? net D ≡ true
          candidate = and_left (candidate? net D) _ both

          within : ltb (lowest_over net.grid c) net.grid.E ≡ false
          within = not-true _ (and_right (candidate? net D) _ both)
      go false t = refl

  scan_short : (price : ℕ → ℕ) (set : ℕ → (ℕ → Bool)) (xs : List ℕ) (b : Best) → scan (keep price (λ s. works? net (set s))) xs b ≡ b
  unfolding scan
  scan_short price set [] b = refl
  scan_short price set (s ∷ ss) b =
      ap (scan (keep price (λ s. works? net (set s))) ss) (keep_failed price (λ s. works? net (set s)) b s (short_fails (set s)))
      ∙ scan_short price set ss b

  -- so none is found, over any switches and for any cost
  pub short_none : (ls : List ℕ) (cost : (ℕ → Bool) → ℕ) → cheapest_by ls cost (works? net) ≡ none
  unfolding cheapest_by
  short_none ls cost = scan_short (λ s. cost (set_in ls s)) (set_in ls) (sets_from (length ls) 0) none

-- A set works exactly where it is a candidate, every source bears its part, and all is within capacity: a source that does not bear its part is
-- overloaded, or an element of its part is.
-- Assumes nothing.
use Prim.Native.Nat.{ℕ}
use mathlib.Core.Path.{◌≡◌, refl, sym, ap, ◌∙◌}
use mathlib.Core.Bool.{Bool, true, false, not, ◌&&◌}
use lib.Dec.{ltb}
use Rattle.feeding.specs.Loads.{lowest_over}
use Rattle.feeding.specs.Networks.{Grid, Net, Formed}
use Rattle.feeding.specs.Parts.{Config}
use Rattle.feeding.specs.Plans.{flip}
use Rattle.feeding.specs.Restoration.{restored?}
use Rattle.feeding.specs.Safety.{Safe, safe?, tree_place, pair_place, fault_place}
use Rattle.feeding.proofs.Below.{and_left}
use Rattle.feeding.proofs.Forest.{safe_bridges}
use Rattle.feeding.proofs.Lows.{none_place}
use Rattle.feeding.proofs.Overloads.{over_lowest}
use Rattle.plan_problem.specs.Choosing.{works?, works_by}
use Rattle.plan_stops.specs.Candidates.{radial?, passes?, candidate?}
use Rattle.plan_stops.specs.Supply.{own_ask, supplied?}
use Rattle.plan_stops.proofs.Radial.{Radial, radial_out}
use Rattle.plan_stops.proofs.Supplied.{within_supplied}

-- a set that works is a candidate that overloads nothing
pub works_candidate : (net : Net) (D : ℕ → Bool)
    → works? net D ≡ (candidate? net D && not (ltb (lowest_over net.grid (flip net.start_closed D)) net.grid.E))
unfolding works_by passes? radial? safe?
works_candidate net D =
    go (ltb (tree_place net.grid (flip net.start_closed D)) net.grid.E)
    (ltb (pair_place net.grid (flip net.start_closed D)) net.grid.E)
    (ltb (fault_place net.grid (flip net.start_closed D)) net.grid.E)
    (ltb (lowest_over net.grid (flip net.start_closed D)) net.grid.E)
    (restored? net (flip net.start_closed D))
  where
    safe : (tree pair fault over : Bool) → Bool
    safe tree pair fault over =
        elim tree [ true ↦ false | false ↦ elim pair [ true ↦ false | false ↦ elim fault [ true ↦ false | false ↦ not over ] ] ]

    go : (tree pair fault over live : Bool)
        → elim (safe tree pair fault over) [ true ↦ live | false ↦ false ] ≡ (((not tree && (not pair && not fault)) && live) && not over)
    go true pair fault over live = refl
    go false true fault over live = refl
    go false false true over live = refl
    go false false false true true = refl
    go false false false true false = refl
    go false false false false true = refl
    go false false false false false = refl

-- in a radial configuration a source that does not bear its part is overloaded, or an element of its part is
pub unsupplied_over : (g : Grid) → Formed g → (c : Config) (top : ℕ) → radial? g c ≡ true → supplied? g (own_ask g top) c ≡ false
    → ltb (lowest_over g c) g.E ≡ true
unsupplied_over g formed c top r h = go (ltb (lowest_over g c) g.E) refl
  where
    go : (t : Bool) → ltb (lowest_over g c) g.E ≡ t → t ≡ true
    go true t = refl
    go false t = sym h ∙ within_supplied g formed c (radial_out g formed c r) top t

-- so a set works exactly where it is a candidate, every source bears its part, and all is within capacity: the second test may come before the third
pub supplied_works : (net : Net) → Formed net.grid → (top : ℕ) (D : ℕ → Bool)
    → ((candidate? net D && supplied? net.grid (own_ask net.grid top) (flip net.start_closed D))
    && not (ltb (lowest_over net.grid (flip net.start_closed D)) net.grid.E))
    ≡ works? net D
unfolding passes?
supplied_works net formed top D = go (candidate? net D) refl (supplied? g (own_ask g top) c) refl ∙ sym (works_candidate net D)
  where
    g : Grid
    g = net.grid

    c : Config
    c = flip net.start_closed D

    go : (t : Bool) → candidate? net D ≡ t → (u : Bool) → supplied? g (own_ask g top) c ≡ u
        → ((t && u) && not (ltb (lowest_over g c) g.E)) ≡ (candidate? net D && not (ltb (lowest_over g c) g.E))
    go true t true u = ap (λ (b : Bool). b && not (ltb (lowest_over g c) g.E)) (sym t)
    go true t false u =
        sym (ap (λ (b : Bool). b && not (ltb (lowest_over g c) g.E)) t
        ∙ ap not (unsupplied_over g formed c top (and_left (radial? g c) _ t) u))
    go false t u v = ap (λ (b : Bool). b && not (ltb (lowest_over g c) g.E)) (sym t)

-- in a safe configuration every source bears its part; so also with any links opened
pub safe_supplied : (g : Grid) → Formed g → (c : Config) (top : ℕ) → Safe g c → supplied? g (own_ask g top) c ≡ true
safe_supplied g formed c top safe = within_supplied g formed c radial top
    (none_place g.E _ _ (over_lowest g formed c radial.bridges) (λ e k o. o.above (safe.within e o.via o.fed)))
  where
    radial : Radial g c
    radial = record { bridges = safe_bridges g formed c safe.tree; one = safe.one; clear = safe.clear }

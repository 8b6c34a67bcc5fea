-- The turns of `element_within` and `link_within`: the walk of `feeding_loads` in which nothing above its capacity has been found so far, and no sum is
-- above the room.
-- Assumes nothing.
use Prim.Native.Nat.{ℕ, zero, suc, ◌+◌, ◌*◌, ◌/◌, ◌≤◌, ◌<◌, min}
use mathlib.Core.Path.{◌≡◌, refl, sym, ap, ◌∙◌}
use mathlib.Core.Bool.{Bool, true, false, not, or-true}
use mathlib.Core.Logic.{◌⊎◌, inl, inr, ⊎_elim}
use mathlib.Core.List.{List}
use lib.Dec.{ltb}
use borrow.Author.Tests.{eq-eqb, ne_eqb, lt-ltb, le-ltb, ltb-true, ltb-false}
use native.Mathlib.Omega.{arith}
use Rattle.feeding.specs.Networks.{Grid, at}
use Rattle.feeding.specs.Parts.{Config, closed_in, touches, far}
use Rattle.feeding.specs.Loads.{leads, element_load, link_load, element_over, link_over}
use Rattle.feeding.proofs.Below.{and_both, or_else}
use Rattle.feeding.proofs.Lows.{least_to_le}
use Rattle.feeding.proofs.Margins.{bears_le}
use Rattle.feeding.proofs.Overloads.{above_in}
use Rattle.feeding_loads.specs.Walks.{near_at, walk_grid, Lent, lower_over, element_carried}
use Rattle.feeding_loads.specs.declared.Carried.{Carried}
use Rattle.feeding_loads.proofs.Rounds.{Walked, lower_within, load_none, load_more, over_none, over_more}
use Rattle.feeding_loads.proofs.Lending.{element_load_in, element_over_in, end_touches, far_end_lem}
use Rattle.feeding_loads.proofs.Lending.{turn_none, turn_done, turn_below, turn_near, turn_room}
use Rattle.feeding_capacity.specs.Within.{overloaded, within_or, within_at, link_within}

-- ---- by whether something on the way is above its capacity, and by the room

-- something is
over_stops : (b : Bool) (x room : ℕ) → b ≡ true → overloaded ≡ within_or b x room
unfolding within_or
over_stops b x room h = rw h

-- there is no room
full_stops : (b : Bool) (x room : ℕ) → room < x → overloaded ≡ within_or b x room
unfolding within_or
full_stops b x room h = rw (lt-ltb room x h, or-true b, within_or)

fits : (b : Bool) (x room : ℕ) → b ≡ false → x ≤ room → x ≡ within_or b x room
unfolding within_or
fits b x room h k = rw (h, le-ltb room x k, within_or)

-- no load for which there is room is as high as the answer that says so
stop_so : (b : Bool) (x room : ℕ) → room < overloaded → within_or b x room ≡ overloaded → (b ≡ true) ⊎ (room < x)
unfolding within_or
stop_so true x room k h = inl refl
stop_so false x room k h = go (ltb room x) refl h
  where
    go : (t : Bool) → ltb room x ≡ t → elim t [ true ↦ overloaded | false ↦ x ] ≡ overloaded → (false ≡ true) ⊎ (room < x)
    go true t q = inr (ltb-true room x t)
    go false t q = absurd (omega (arith, ltb-false room x t))

pub record Fits (b : Bool) (x room r : ℕ) : Type 0 where
  pub under : b ≡ false
  pub roomy : x ≤ room
  pub same : r ≡ x

fits_so : (b : Bool) (x room : ℕ) → (within_or b x room ≡ overloaded → ⊥) → Fits b x room (within_or b x room)
unfolding within_or
fits_so true x room h = absurd (h refl)
fits_so false x room h = go (ltb room x) refl h
  where
    go : (t : Bool) → ltb room x ≡ t → (elim t [ true ↦ overloaded | false ↦ x ] ≡ overloaded → ⊥)
        → Fits false x room (elim t [ true ↦ overloaded | false ↦ x ])
    go true t q = absurd (q refl)
    go false t q = record { under = refl; roomy = ltb-false room x t; same = refl }

-- ---- at an element

-- the element itself is found where its load is above its capacity
here_over : (g : Grid) (c : Config) (d e via : ℕ) → e < g.E → g.capacity e < element_load g c d e via → element_over g c d e via < g.E
here_over g c zero e via k h = omega (arith, over_none g c e via, load_none g c e via, above_in g e (g.load e) (λ x. omega (arith, bears_le g e _ x, load_none g c e via)))
here_over g c (suc d) e via k h = omega (arith, over_more g c d e via, above_in g e (element_load g c (suc d) e via) (λ x. omega (arith, bears_le g e _ x)))

-- at least x comes to e, which is above its capacity or the room
too_much : (g : Grid) (c : Config) (d e via room x : ℕ) → e < g.E → x ≤ element_load g c d e via → min (g.capacity e) room < x
    → overloaded ≡ within_at g c d e via room
unfolding within_at
too_much g c d e via room x k h m = go (ltb room (element_load g c d e via)) refl
  where
    go : (t : Bool) → ltb room (element_load g c d e via) ≡ t → overloaded ≡ within_or (ltb (element_over g c d e via) g.E) (element_load g c d e via) room
    go true t = full_stops _ _ room (ltb-true room _ t)
    go false t = over_stops _ _ room (lt-ltb _ _ (here_over g c d e via k (omega (arith, ltb-false room _ t))))

-- x is the load, and nothing beyond e is above its capacity
end_within_lem : (g : Grid) (c : Config) (d e via room x : ℕ) → e < g.E → x ≤ min (g.capacity e) room
    → record { load = x; over = lower_over e x (g.capacity e) g.E } ≡ element_carried g c d e via → x ≡ within_at g c d e via room
unfolding within_at
end_within_lem g c d e via room x k h q =
    let load_is : element_load g c d e via ≡ x = sym (ap (λ (r : Carried). r.load) q ∙ element_load_in g c d e via) in
    let over-is : element_over g c d e via ≡ lower_over e x (g.capacity e) g.E = sym (ap (λ (r : Carried). r.over) q ∙ element_over_in g c d e via) in
    let full : ltb (element_over g c d e via) g.E ≡ false =
    le-ltb (element_over g c d e via) g.E (omega (arith, over-is, lower_within e x (g.capacity e) g.E (omega arith))) in
    sym load_is ∙ fits (ltb (element_over g c d e via) g.E) (element_load g c d e via) room full (omega (arith, load_is))

-- what a walk's answer says of the lowest element above its capacity, where there is as much room as the capacity
pub stopped_over : (g : Grid) (c : Config) (d e via r : ℕ) → e < g.E → g.capacity e < overloaded → r ≡ within_at g c d e via (g.capacity e)
    → r ≡ overloaded → element_over g c d e via < g.E
unfolding within_at
stopped_over g c d e via r k small q f = ⊎_elim (λ h. ltb-true _ _ h) (λ h. here_over g c d e via k h)
    (stop_so _ _ _ small (sym q ∙ f))

pub fitting_over : (g : Grid) (c : Config) (d e via room r : ℕ) → r ≡ within_at g c d e via room → (r ≡ overloaded → ⊥)
    → g.E ≤ element_over g c d e via
unfolding within_at
fitting_over g c d e via room r q f = ltb-false _ _ (fits_so _ _ room (λ h. f (q ∙ h))).under

-- the lowest element found from e onward is no higher than that over a link that leads on
over_on : (g : Grid) (c : Config) (d e via l : ℕ) → l < g.K → leads g c e via l ≡ true → element_over g c (suc d) e via ≤ link_over g c d l e
over_on g c d e via l k h =
    let f : ℕ → ℕ = λ l. or_else g.E (leads g c e via l) (link_over g c d l e) in
    let here : f l ≡ link_over g c d l e = rw h in
    omega (arith, over_more g c d e via, least_to_le g.K g.E f l k, here)

end_leads : (E K : ℕ) (fars closed load capacity : List ℕ) (j e via : ℕ) → near_at fars j ≡ e → at closed (j / 2) ≡ 1 → (j / 2 ≡ via → ⊥)
    → leads (walk_grid E K fars load capacity) (closed_in closed) e via (j / 2) ≡ true
unfolding leads walk_grid
end_leads E K fars closed load capacity j e via q h n =
    and_both (closed_in closed (j / 2)) _ (eq-eqb _ 1 h)
    (and_both (touches (walk_grid E K fars load capacity) (j / 2) e) _ (rw (← q) (end_touches (walk_grid E K fars load capacity) j))
    (ap not (ne_eqb (j / 2) via n)))

-- ---- what is read from the lists has a bound

own_load : (g : Grid) (c : Config) (d e via : ℕ) → g.load e ≤ element_load g c d e via
own_load g c zero e via = omega (arith, load_none g c e via)
own_load g c (suc d) e via = omega (arith, load_more g c d e via)

-- ---- the element's turns

module _ {head next far closed load capacity : List ℕ} {E K : ℕ} (lent : Lent head next far closed load capacity E K)
    (d e via room : ℕ) (inside : e < E) where
  -- its own load is too much
  pub end_full : (depth : ℕ) → min (at capacity e) room < at load e
      → overloaded ≡ within_at (walk_grid E K far load capacity) (closed_in closed) depth e via room
  unfolding walk_grid
  end_full depth h = too_much (walk_grid E K far load capacity) (closed_in closed) depth e via room (at load e) inside
      (own_load (walk_grid E K far load capacity) (closed_in closed) depth e via) h

  -- no depth left
  pub end_none : (depth : ℕ) → depth ≡ 0 → at load e ≤ min (at capacity e) room
      → at load e ≡ within_at (walk_grid E K far load capacity) (closed_in closed) depth e via room
  unfolding walk_grid
  end_none depth z h = end_within_lem (walk_grid E K far load capacity) (closed_in closed) depth e via room (at load e) inside h
      (turn_none head next far closed load capacity E K lent d e via depth _ inside z refl)

  -- every own end is gone by
  pub end_done : (sum j : ℕ) → Walked (walk_grid E K far load capacity) (closed_in closed) d e via sum E j → sum ≤ min (at capacity e) room
      → (depth : ℕ) → 192 ≤ j → suc d ≡ depth
      → sum ≡ within_at (walk_grid E K far load capacity) (closed_in closed) depth e via room
  unfolding walk_grid
  end_done sum j w h depth k z = end_within_lem (walk_grid E K far load capacity) (closed_in closed) depth e via room sum inside h
      (turn_done head next far closed load capacity E K lent d e via sum E j w depth _ k z refl)

  module _ (sum j : ℕ) (w : Walked (walk_grid E K far load capacity) (closed_in closed) d e via sum E j) (k : j < 192)
      (r left : ℕ) (h : at closed (j / 2) ≡ 1) (n : j / 2 ≡ via → ⊥)
      (q : r ≡ link_within (walk_grid E K far load capacity) (closed_in closed) d (j / 2) (near_at far j) left) where
    near : near_at far j ≡ e
    near = turn_near head next far closed load capacity E K lent d e via sum E j w k

    below : j < 2 * K
    below = turn_below head next far closed load capacity E K lent d e via sum E j w k

    -- the link's walk has stopped, and so does this one
    pub stopped : (depth : ℕ) → suc d ≡ depth → sum + left ≡ min (at capacity e) room → left < overloaded → r ≡ overloaded
        → r ≡ within_at (walk_grid E K far load capacity) (closed_in closed) depth e via room
    unfolding walk_grid within_at link_within
    stopped depth z all small f = f ∙ ⊎_elim by_over by_room (stop_so _ _ left small (sym q ∙ f))
      where
        by_over : ltb (link_over (walk_grid E K far load capacity) (closed_in closed) d (j / 2) (near_at far j)) E ≡ true
            → overloaded ≡ within_at (walk_grid E K far load capacity) (closed_in closed) depth e via room
        by_over found =
            let g : Grid = walk_grid E K far load capacity in
            let c : Config = closed_in closed in
            let lead = end_leads E K far closed load capacity j e via near h n in
            let low : element_over g c (suc d) e via < E =
            omega (arith, over_on g c d e via (j / 2) (omega (arith, below)) lead, ltb-true _ E found, ap (link_over g c d (j / 2)) near) in
            rw (← z) (over_stops _ _ room (lt-ltb _ E low))

        by_room : left < link_load (walk_grid E K far load capacity) (closed_in closed) d (j / 2) (near_at far j)
            → overloaded ≡ within_at (walk_grid E K far load capacity) (closed_in closed) depth e via room
        by_room more = too_much (walk_grid E K far load capacity) (closed_in closed) depth e via room _ inside
            (turn_room head next far closed load capacity E K lent d e via sum E j w k depth z h n) (omega arith)

    -- the link's walk has fitted
    pub fits_link : (r ≡ overloaded → ⊥)
        → Fits (ltb (link_over (walk_grid E K far load capacity) (closed_in closed) d (j / 2) (near_at far j)) E)
        (link_load (walk_grid E K far load capacity) (closed_in closed) d (j / 2) (near_at far j)) left r
    unfolding walk_grid link_within
    fits_link f = rw q (fits_so _ _ left (λ x. f (q ∙ x)))

-- ---- the link's turns

pub link_within_none : (E K : ℕ) (fars load capacity : List ℕ) (c : Config) (depth l e room : ℕ) → depth ≡ 0
    → 0 ≡ link_within (walk_grid E K fars load capacity) c depth l e room
unfolding walk_grid link_within link_load link_over
link_within_none E K fars load capacity c depth l e room z = rw z (fits (ltb E E) 0 room (le-ltb E E (omega arith)) (omega arith))

link_within_more : (g : Grid) (c : Config) (d l e room : ℕ) → within_at g c d (far g l e) l room ≡ link_within g c (suc d) l e room
unfolding link_within within_at link_load link_over
link_within_more g c d l e room = refl

pub link_within_turn : {head next fars closed load capacity : List ℕ} {E K : ℕ} → Lent head next fars closed load capacity E K
    → (d depth j room r : ℕ) → suc d ≡ depth → j < 2 * K
    → r ≡ within_at (walk_grid E K fars load capacity) (closed_in closed) d (at fars j) (j / 2) room
    → r ≡ link_within (walk_grid E K fars load capacity) (closed_in closed) depth (j / 2) (near_at fars j) room
link_within_turn {fars = fars} {closed = closed} {load = load} {capacity = capacity} {E = E} {K = K} lent d depth j room r z k q =
    q ∙ ap (λ x. within_at (walk_grid E K fars load capacity) (closed_in closed) d x (j / 2) room)
    (sym (far_end_lem E K fars load capacity lent.differ j k))
    ∙ link_within_more (walk_grid E K fars load capacity) (closed_in closed) d (j / 2) (near_at fars j) room
    ∙ ap (λ x. link_within (walk_grid E K fars load capacity) (closed_in closed) x (j / 2) (near_at fars j) room) z

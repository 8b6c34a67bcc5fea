-- The turns of `element_load` and `link_load` over the lent lists, by the walk over an element's own ends.
-- Assumes nothing.
use Prim.Native.Nat.{ℕ, suc, ◌+◌, ◌*◌, ◌/◌, ◌%◌, ◌≤◌, ◌<◌, min}
use mathlib.Core.Path.{◌≡◌, refl, sym, ap, subst, ◌∙◌}
use mathlib.Core.Bool.{Bool, true, false, ◌||◌, or-true}
use mathlib.Core.List.{List}
use lib.Dec.{eqb}
use borrow.Author.Tests.{eqb-true, eqb-false, eq-eqb, ne_eqb}
use native.Mathlib.Omega.{arith}
use Rattle.feeding.specs.Networks.{Grid, Formed, at}
use Rattle.feeding.specs.Parts.{Config, closed_in, touches, far}
use Rattle.feeding.specs.Loads.{element_load, link_load, element_over, link_over}
use Rattle.feeding_loads.specs.Walks.{ends_a, ends_b, near_at, walk_grid, Skips, Lent, lower_over, element_carried, link_carried}
use Rattle.feeding_loads.specs.declared.Carried.{Carried}
use Rattle.feeding_ends.specs.Ends.{end_at}
use Rattle.feeding_ends.proofs.Chains.{end_even, end_odd}
use Rattle.feeding_loads.proofs.Rounds.{Walked, walked_start, walked_on, walked_open, walked_via, walked_load, load_none}
use Rattle.feeding_loads.proofs.Rounds.{walked_room, walked_done, element_none, link_none, link_more, link_load_lem}

-- what the two answers hold
pub element_load_in : (g : Grid) (c : Config) (d e via : ℕ) → (element_carried g c d e via).load ≡ element_load g c d e via
unfolding element_carried
element_load_in g c d e via = refl

pub element_over_in : (g : Grid) (c : Config) (d e via : ℕ) → (element_carried g c d e via).over ≡ element_over g c d e via
unfolding element_carried
element_over_in g c d e via = refl

pub link_load_in : (g : Grid) (c : Config) (d l e : ℕ) → (link_carried g c d l e).load ≡ link_load g c d l e
unfolding link_carried
link_load_in g c d l e = refl

pub link_over_in : (g : Grid) (c : Config) (d l e : ℕ) → (link_carried g c d l e).over ≡ link_over g c d l e
unfolding link_carried
link_over_in g c d l e = refl

module _ (head next far closed load capacity : List ℕ) (E K : ℕ) (lent : Lent head next far closed load capacity E K) where
  pub lent_formed : Formed (walk_grid E K far load capacity)
  unfolding walk_grid
  lent_formed = record {
    end_a_lt = λ l k. lent.far_in (2 * l + 1) (omega arith);
    end_b_lt = λ l k. lent.far_in (2 * l) (omega arith);
    differ = λ l k. lent.differ l k;
  }

module _ (head next far closed load capacity : List ℕ) (E K : ℕ) (lent : Lent head next far closed load capacity E K) (d e via : ℕ) where
  pub turn_start : e < E → Walked (walk_grid E K far load capacity) (closed_in closed) d e via (at load e) E (at head e)
  unfolding walk_grid
  turn_start k = walked_start (walk_grid E K far load capacity) (lent_formed head next far closed load capacity E K lent)
      (closed_in closed) d e via (at head e) (lent.heads e k)

  pub turn_none : (depth over : ℕ) → e < E → depth ≡ 0 → over ≡ lower_over e (at load e) (at capacity e) E
      → record { load = at load e; over = over } ≡ element_carried (walk_grid E K far load capacity) (closed_in closed) depth e via
  unfolding walk_grid
  turn_none depth over k z q = rw (z, q) (element_none (walk_grid E K far load capacity) (closed_in closed) e via k)

  -- the own load is then the load
  pub turn_own : (depth : ℕ) → depth ≡ 0 → at load e ≡ element_load (walk_grid E K far load capacity) (closed_in closed) depth e via
  unfolding walk_grid
  turn_own depth z = rw z (sym (load_none (walk_grid E K far load capacity) (closed_in closed) e via))

  module _ (sum over j : ℕ) (w : Walked (walk_grid E K far load capacity) (closed_in closed) d e via sum over j) where
    pub turn_done : (depth over' : ℕ) → 192 ≤ j → suc d ≡ depth → over' ≡ lower_over e sum (at capacity e) over
        → record { load = sum; over = over' } ≡ element_carried (walk_grid E K far load capacity) (closed_in closed) depth e via
    unfolding walk_grid
    turn_done depth over' k z q = rw (← z, q) (walked_done (walk_grid E K far load capacity) (lent_formed head next far closed load capacity E K lent)
        (closed_in closed) d e via sum over j w k lent.fit)

    -- the sum is then the load
    pub turn_sum : (depth : ℕ) → 192 ≤ j → suc d ≡ depth
        → sum ≡ element_load (walk_grid E K far load capacity) (closed_in closed) depth e via
    unfolding walk_grid
    turn_sum depth k z = rw (← z) (walked_load (walk_grid E K far load capacity) (lent_formed head next far closed load capacity E K lent)
        (closed_in closed) d e via sum over j w k lent.fit)

  module _ (sum over j : ℕ) (w : Walked (walk_grid E K far load capacity) (closed_in closed) d e via sum over j) (k : j < 192) where
    pub turn_below : j < 2 * K
    unfolding walk_grid
    turn_below = w.below k

    pub turn_near : near_at far j ≡ e
    unfolding walk_grid
    turn_near = w.near k

    turn_next : Skips (ends_a far) (ends_b far) (closed_in closed) K e (suc j) (at next j)
    turn_next = subst (λ z. Skips (ends_a far) (ends_b far) (closed_in closed) K z (suc j) (at next j)) turn_near (lent.nexts j turn_below)

    pub turn_later : j < at next j
    turn_later = omega (arith, turn_next.at_least)

    pub turn_open : (sum' over' : ℕ) → (at closed (j / 2) ≡ 1 → ⊥) → sum' ≡ sum → over' ≡ over
        → Walked (walk_grid E K far load capacity) (closed_in closed) d e via sum' over' (at next j)
    unfolding walk_grid
    turn_open sum' over' h p q = rw (p, q) (walked_open (walk_grid E K far load capacity) (lent_formed head next far closed load capacity E K lent)
        (closed_in closed) d e via sum over j w k (at next j) (ne_eqb _ 1 h) turn_next)

    pub turn_via : (sum' over' : ℕ) → j / 2 ≡ via → sum' ≡ sum → over' ≡ over
        → Walked (walk_grid E K far load capacity) (closed_in closed) d e via sum' over' (at next j)
    unfolding walk_grid
    turn_via sum' over' h p q = rw (p, q) (walked_via (walk_grid E K far load capacity) (lent_formed head next far closed load capacity E K lent)
        (closed_in closed) d e via sum over j w k (at next j) h turn_next)

    turn_more : (x o : ℕ) → at closed (j / 2) ≡ 1 → (j / 2 ≡ via → ⊥)
        → x ≡ link_load (walk_grid E K far load capacity) (closed_in closed) d (j / 2) (near_at far j)
        → o ≡ link_over (walk_grid E K far load capacity) (closed_in closed) d (j / 2) (near_at far j)
        → Walked (walk_grid E K far load capacity) (closed_in closed) d e via (sum + x) (min over o) (at next j)
    unfolding walk_grid
    turn_more x o h n p q = rw (p, q, turn_near) (walked_on (walk_grid E K far load capacity) (lent_formed head next far closed load capacity E K lent)
        (closed_in closed) d e via sum over j w k (at next j) (eq-eqb _ 1 h) n turn_next)

    pub turn_on : (r : Carried) (sum' over' : ℕ) → at closed (j / 2) ≡ 1 → (j / 2 ≡ via → ⊥)
        → r ≡ link_carried (walk_grid E K far load capacity) (closed_in closed) d (j / 2) (near_at far j)
        → sum' ≡ sum + r.load → over' ≡ min over r.over
        → Walked (walk_grid E K far load capacity) (closed_in closed) d e via sum' over' (at next j)
    turn_on r sum' over' h n q s o = rw (s, o) (turn_more r.load r.over h n
        (ap (λ (x : Carried). x.load) q ∙ link_load_in _ _ d _ _) (ap (λ (x : Carried). x.over) q ∙ link_over_in _ _ d _ _))

    -- no partial sum is above the whole
    pub turn_room : (depth : ℕ) → suc d ≡ depth → at closed (j / 2) ≡ 1 → (j / 2 ≡ via → ⊥)
        → sum + link_load (walk_grid E K far load capacity) (closed_in closed) d (j / 2) (near_at far j)
        ≤ element_load (walk_grid E K far load capacity) (closed_in closed) depth e via
    unfolding walk_grid
    turn_room depth z h n = rw (← z, turn_near)
        (walked_room (walk_grid E K far load capacity) (lent_formed head next far closed load capacity E K lent)
        (closed_in closed) d e via sum over j w k lent.fit (eq-eqb _ 1 h) n)

    pub turn_room_by : (depth : ℕ) (r : Carried) → suc d ≡ depth → at closed (j / 2) ≡ 1 → (j / 2 ≡ via → ⊥)
        → r ≡ link_carried (walk_grid E K far load capacity) (closed_in closed) d (j / 2) (near_at far j)
        → sum + r.load ≤ element_load (walk_grid E K far load capacity) (closed_in closed) depth e via
    turn_room_by depth r z h n q = rw (ap (λ (x : Carried). x.load) q ∙ link_load_in _ _ d _ _) (turn_room depth z h n)

-- the link of an end is a link of the element at that end
pub end_touches : (g : Grid) (j : ℕ) → touches g (j / 2) (end_at g.end_a g.end_b j) ≡ true
unfolding touches
end_touches g j = go (eqb (j % 2) 0) refl
  where
    e : ℕ
    e = end_at g.end_a g.end_b j

    go : (t : Bool) → eqb (j % 2) 0 ≡ t → (eqb (g.end_a (j / 2)) e || eqb (g.end_b (j / 2)) e) ≡ true
    go true t = rw (eq-eqb (g.end_a (j / 2)) e (sym (end_even g.end_a g.end_b j (eqb-true _ 0 t))))
    go false t = rw (eq-eqb (g.end_b (j / 2)) e (sym (end_odd g.end_a g.end_b j (eqb-false _ 0 t)))) (or-true (eqb (g.end_a (j / 2)) e))

-- and leads to the one at its other end
pub end_far : (g : Grid) → ((l : ℕ) → l < g.K → g.end_a l ≡ g.end_b l → ⊥) → (j : ℕ) → j < 2 * g.K
    → far g (j / 2) (end_at g.end_a g.end_b j) ≡ end_at g.end_b g.end_a j
unfolding far
end_far g differ j k = go (eqb (j % 2) 0) refl
  where
    go : (t : Bool) → eqb (j % 2) 0 ≡ t → far g (j / 2) (end_at g.end_a g.end_b j) ≡ end_at g.end_b g.end_a j
    go true t =
        let even : j % 2 ≡ 0 = eqb-true _ 0 t in
        rw (end_even g.end_a g.end_b j even, eq-eqb (g.end_a (j / 2)) (g.end_a (j / 2)) refl) (sym (end_even g.end_b g.end_a j even))
    go false t =
        let odd : j % 2 ≡ 0 → ⊥ = eqb-false _ 0 t in
        let apart : eqb (g.end_a (j / 2)) (g.end_b (j / 2)) ≡ false = ne_eqb _ _ (differ (j / 2) (omega arith)) in
        rw (end_odd g.end_a g.end_b j odd, apart) (sym (end_odd g.end_b g.end_a j odd))

-- the element at the far end of an end's link
pub far_end_lem : (E K : ℕ) (fars load capacity : List ℕ) → ((l : ℕ) → l < K → ends_a fars l ≡ ends_b fars l → ⊥) → (j : ℕ) → j < 2 * K
    → far (walk_grid E K fars load capacity) (j / 2) (near_at fars j) ≡ at fars j
unfolding walk_grid
far_end_lem E K fars load capacity differ j k = end_far (walk_grid E K fars load capacity) differ j k ∙ go (eqb (j % 2) 0) refl
  where
    go : (t : Bool) → eqb (j % 2) 0 ≡ t → end_at (ends_b fars) (ends_a fars) j ≡ at fars j
    go true t =
        let even : j % 2 ≡ 0 = eqb-true _ 0 t in
        let same : 2 * (j / 2) ≡ j = omega arith in
        end_even (ends_b fars) (ends_a fars) j even ∙ ap (at fars) same
    go false t =
        let odd : j % 2 ≡ 1 = omega (arith, eqb-false (j % 2) 0 t) in
        let same : 2 * (j / 2) + 1 ≡ j = omega arith in
        end_odd (ends_b fars) (ends_a fars) j (eqb-false _ 0 t) ∙ ap (at fars) same

module _ (head next fars closed load capacity : List ℕ) (E K : ℕ) (lent : Lent head next fars closed load capacity E K) where
  -- the turn of the link of the end j, with no depth left and with some
  pub link_turn_none : (depth l e : ℕ) → depth ≡ 0
      → record { load = 0; over = E } ≡ link_carried (walk_grid E K fars load capacity) (closed_in closed) depth l e
  unfolding walk_grid
  link_turn_none depth l e z = rw z (link_none (walk_grid E K fars load capacity) (closed_in closed) l e)

  pub link_turn : (d depth j : ℕ) (r : Carried) → suc d ≡ depth → j < 2 * K
      → r ≡ element_carried (walk_grid E K fars load capacity) (closed_in closed) d (at fars j) (j / 2)
      → r ≡ link_carried (walk_grid E K fars load capacity) (closed_in closed) depth (j / 2) (near_at fars j)
  link_turn d depth j r z k q =
      q ∙ ap (λ x. element_carried (walk_grid E K fars load capacity) (closed_in closed) d x (j / 2))
      (sym (far_end_lem E K fars load capacity lent.differ j k))
      ∙ link_more (walk_grid E K fars load capacity) (closed_in closed) d (j / 2) (near_at fars j)
      ∙ ap (λ x. link_carried (walk_grid E K fars load capacity) (closed_in closed) x (j / 2) (near_at fars j)) z

  pub link_turn_load : (d depth j : ℕ) → suc d ≡ depth → j < 2 * K
      → element_load (walk_grid E K fars load capacity) (closed_in closed) d (at fars j) (j / 2)
      ≡ link_load (walk_grid E K fars load capacity) (closed_in closed) depth (j / 2) (near_at fars j)
  link_turn_load d depth j z k =
      ap (λ x. element_load (walk_grid E K fars load capacity) (closed_in closed) d x (j / 2)) (sym (far_end_lem E K fars load capacity lent.differ j k))
      ∙ sym (link_load_lem (walk_grid E K fars load capacity) (closed_in closed) d (j / 2) (near_at fars j))
      ∙ ap (λ x. link_load (walk_grid E K fars load capacity) (closed_in closed) x (j / 2) (near_at fars j)) z

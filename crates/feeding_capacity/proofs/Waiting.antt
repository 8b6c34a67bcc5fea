-- The last link that leads on from an element waits until no other does: what has been summed, with what that link will bring, is the walk of `feeding_loads`
-- so far; and answers with what was found before.
-- Assumes nothing.
use Prim.Native.Nat.{ℕ, suc, ◌+◌, ◌*◌, ◌/◌, ◌≤◌, ◌<◌, min}
use mathlib.Core.Path.{◌≡◌, refl, sym, ap, ◌∙◌}
use mathlib.Core.Bool.{Bool, true, false}
use mathlib.Core.List.{List}
use lib.Dec.{eqb, ltb}
use borrow.Author.Tests.{eqb-true, eqb-false, eq-eqb, ne_eqb, lt-ltb, le-ltb, ltb-true, ltb-false}
use native.Mathlib.Nat.{zero-add}
use native.Mathlib.Omega.{arith}
use Rattle.feeding.specs.Below.{gate}
use Rattle.feeding.specs.Networks.{Grid, at}
use Rattle.feeding.specs.Parts.{Config, closed_in}
use Rattle.feeding.specs.Loads.{link_load, link_over}
use Rattle.feeding.proofs.Below.{or_else}
use Rattle.feeding_loads.specs.Walks.{near_at, walk_grid, Lent, link_carried}
use Rattle.feeding_loads.proofs.Rounds.{Walked}
use Rattle.feeding_loads.proofs.Lending.{link_load_in, link_over_in}
use Rattle.feeding_loads.proofs.Lending.{turn_below, turn_later, turn_open, turn_via, turn_on}
use Rattle.feeding_capacity.specs.Within.{overloaded, within_at, link_within, end_within, past}
use Rattle.feeding_capacity.proofs.Room.{end_done, stopped, fits_link, link_within_none, link_within_turn}

-- ---- with what was found before

pub past_over : (b x : ℕ) → x ≡ overloaded → overloaded ≡ past b x
unfolding past
past_over b x h = rw (eq-eqb x overloaded h, past)

pub past_add : (b x : ℕ) → (x ≡ overloaded → ⊥) → b + x ≡ past b x
unfolding past
past_add b x h = rw (ne_eqb x overloaded h, past)

pub past_zero : (x : ℕ) → past 0 x ≡ x
past_zero x = go (eqb x overloaded) refl
  where
    go : (t : Bool) → eqb x overloaded ≡ t → past 0 x ≡ x
    go true t = let h : x ≡ overloaded = eqb-true x overloaded t in sym (past_over 0 x h) ∙ sym h
    go false t = sym (past_add 0 x (eqb-false x overloaded t)) ∙ zero-add x

-- ---- the link that waits: the end `last`, or none where that is no end

end_is : (g : Grid) (c : Config) (d j e room : ℕ) → j < 192 → link_within g c d (j / 2) e room ≡ end_within g c d j e room
unfolding end_within
end_is g c d j e room h = rw (lt-ltb j 192 h, end_within)

no_end : (g : Grid) (c : Config) (d j e room : ℕ) → 192 ≤ j → 0 ≡ end_within g c d j e room
unfolding end_within
no_end g c d j e room h = rw (le-ltb j 192 h, end_within)

module _ (E K : ℕ) (far closed load capacity : List ℕ) (d e via : ℕ) where
  -- what it will bring
  unfoldable pub wait_load : ℕ → ℕ
  wait_load last = gate (ltb last 192) (link_load (walk_grid E K far load capacity) (closed_in closed) d (last / 2) (near_at far last))

  unfoldable pub wait_over : ℕ → ℕ
  wait_over last = or_else E (ltb last 192) (link_over (walk_grid E K far load capacity) (closed_in closed) d (last / 2) (near_at far last))

  wait_load_lem : (last : ℕ) → last < 192 → wait_load last ≡ link_load (walk_grid E K far load capacity) (closed_in closed) d (last / 2) (near_at far last)
  unfolding wait_load
  wait_load_lem last h = rw (lt-ltb last 192 h)

  wait_over_lem : (last : ℕ) → last < 192 → wait_over last ≡ link_over (walk_grid E K far load capacity) (closed_in closed) d (last / 2) (near_at far last)
  unfolding wait_over
  wait_over_lem last h = rw (lt-ltb last 192 h)

  wait_none : (last : ℕ) → 192 ≤ last → (wait_load last ≡ 0) × (wait_over last ≡ E)
  unfolding wait_load wait_over
  wait_none last h = (rw (le-ltb last 192 h), rw (le-ltb last 192 h))

  pub record Waits (sum last : ℕ) : Type 0 where
    pub here : Walked (walk_grid E K far load capacity) (closed_in closed) d e via sum E last
    pub on : at closed (last / 2) ≡ 1
    pub other : last / 2 ≡ via → ⊥

  -- the ends below j are gone by, of which `last` still waits
  pub record Held (sum last j : ℕ) : Type 0 where
    pub ahead : Walked (walk_grid E K far load capacity) (closed_in closed) d e via (sum + wait_load last) (min E (wait_over last)) j
    pub wait : last < 192 → Waits sum last

  shift : {sum sum' over over' j j' : ℕ} → sum ≡ sum' → over ≡ over' → j ≡ j' → Walked (walk_grid E K far load capacity) (closed_in closed) d e via sum over j
      → Walked (walk_grid E K far load capacity) (closed_in closed) d e via sum' over' j'
  shift p q r w = rw (← p, ← q, ← r) w

  pub held_moved : {sum sum' last last' j j' : ℕ} → sum ≡ sum' → last ≡ last' → j ≡ j' → Held sum last j → Held sum' last' j'
  held_moved p q r h = rw (← p, ← q, ← r) h

  pub held_none : {sum last j : ℕ} → 192 ≤ last → Walked (walk_grid E K far load capacity) (closed_in closed) d e via sum E j → Held sum last j
  held_none {last = last} k w = record {
    ahead = shift (omega (arith, (wait_none last k).0)) (omega (arith, (wait_none last k).1)) refl w;
    wait = λ h. absurd (omega arith);
  }

module _ {head next far closed load capacity : List ℕ} {E K : ℕ} (lent : Lent head next far closed load capacity E K) (d e via : ℕ) where
  pub wait_below : {sum last j : ℕ} → Held E K far closed load capacity d e via sum last j → last < 192 → last < 2 * K
  wait_below {sum = sum} {last = last} held k = turn_below head next far closed load capacity E K lent d e via sum E last (held.wait k).here k

  module _ {sum last j : ℕ} (held : Held E K far closed load capacity d e via sum last j) (k : j < 192) where
    pub held_below : j < 2 * K
    held_below = turn_below head next far closed load capacity E K lent d e via _ _ j held.ahead k

    pub held_later : j < at next j
    held_later = turn_later head next far closed load capacity E K lent d e via _ _ j held.ahead k

    pub held_open : (at closed (j / 2) ≡ 1 → ⊥) → Held E K far closed load capacity d e via sum last (at next j)
    held_open h = record {
      ahead = turn_open head next far closed load capacity E K lent d e via _ _ j held.ahead k _ _ h refl refl;
      wait = held.wait;
    }

    pub held_via : j / 2 ≡ via → Held E K far closed load capacity d e via sum last (at next j)
    held_via h = record {
      ahead = turn_via head next far closed load capacity E K lent d e via _ _ j held.ahead k _ _ h refl refl;
      wait = held.wait;
    }

  -- a link that leads on is the next to wait
  held_next : {sum j : ℕ} → Walked (walk_grid E K far load capacity) (closed_in closed) d e via sum E j → j < 192
      → at closed (j / 2) ≡ 1 → (j / 2 ≡ via → ⊥) → Held E K far closed load capacity d e via sum j (at next j)
  held_next {sum = sum} {j = j} w k h n = record {
    ahead = turn_on head next far closed load capacity E K lent d e via sum E j w k
        (link_carried (walk_grid E K far load capacity) (closed_in closed) d (j / 2) (near_at far j)) _ _ h n refl
        (omega (arith, wait_load_lem E K far closed load capacity d e via j k, link_load_in (walk_grid E K far load capacity) (closed_in closed) d (j / 2) (near_at far j)))
        (omega (arith, wait_over_lem E K far closed load capacity d e via j k, link_over_in (walk_grid E K far load capacity) (closed_in closed) d (j / 2) (near_at far j)));
    wait = λ _. record { here = w; on = h; other = n };
  }

  -- the walk over the link that waited has answered x
  module _ {sum last j : ℕ} (held : Held E K far closed load capacity d e via sum last j) (room : ℕ) (inside : e < E) (left x : ℕ)
      (q : x ≡ end_within (walk_grid E K far load capacity) (closed_in closed) d last (near_at far last) left) where
    -- it has stopped, and so does this one
    pub wait_stops : (depth : ℕ) → suc d ≡ depth → sum + left ≡ min (at capacity e) room → left < overloaded → x ≡ overloaded
        → overloaded ≡ within_at (walk_grid E K far load capacity) (closed_in closed) depth e via room
    wait_stops depth z all small f = go (ltb last 192) refl
      where
        go : (t : Bool) → ltb last 192 ≡ t → overloaded ≡ within_at (walk_grid E K far load capacity) (closed_in closed) depth e via room
        go true t =
            let k : last < 192 = ltb-true last 192 t in
            let w = held.wait k in
            sym f ∙ stopped lent d e via room inside sum last w.here k x left w.on w.other
            (q ∙ sym (end_is (walk_grid E K far load capacity) (closed_in closed) d last (near_at far last) left k)) depth z all small f
        go false t = absurd (omega (arith, q, f, no_end (walk_grid E K far load capacity) (closed_in closed) d last (near_at far last) left (ltb-false last 192 t)))

    module _ (f : x ≡ overloaded → ⊥) where
      wait_fits : (x ≡ wait_load E K far closed load capacity d e via last) × ((E ≤ wait_over E K far closed load capacity d e via last) × (x ≤ left))
      wait_fits = go (ltb last 192) refl
        where
          go : (t : Bool) → ltb last 192 ≡ t
              → (x ≡ wait_load E K far closed load capacity d e via last) × ((E ≤ wait_over E K far closed load capacity d e via last) × (x ≤ left))
          go true t =
              let k : last < 192 = ltb-true last 192 t in
              let w = held.wait k in
              let r = fits_link lent d e via room inside sum last w.here k x left w.on w.other
              (q ∙ sym (end_is (walk_grid E K far load capacity) (closed_in closed) d last (near_at far last) left k)) f in (
                r.same ∙ sym (wait_load_lem E K far closed load capacity d e via last k),
                (omega (arith, ltb-false _ E r.under, wait_over_lem E K far closed load capacity d e via last k), omega (arith, r.same, r.roomy)),
              )
          go false t =
              let k : 192 ≤ last = ltb-false last 192 t in
              let none = wait_none E K far closed load capacity d e via last k in
              let zero_is = no_end (walk_grid E K far load capacity) (closed_in closed) d last (near_at far last) left k in
              (omega (arith, q, zero_is, none.0), (omega (arith, none.1), omega (arith, q, zero_is)))

      pub wait_room : x ≤ left
      wait_room = wait_fits.1.1

      -- its load is added
      pub wait_walked : Walked (walk_grid E K far load capacity) (closed_in closed) d e via (sum + x) E j
      wait_walked = shift E K far closed load capacity d e via (omega (arith, wait_fits.0)) (omega (arith, wait_fits.1.0)) refl held.ahead

      -- and the end j waits in its place
      pub wait_next : (sum' : ℕ) → sum' ≡ sum + x → j < 192 → at closed (j / 2) ≡ 1 → (j / 2 ≡ via → ⊥)
          → Held E K far closed load capacity d e via sum' j (at next j)
      wait_next sum' s k h n = rw s (held_next wait_walked k h n)

    -- no other end is left
    pub wait_last : (before depth : ℕ) → 192 ≤ j → suc d ≡ depth → sum + left ≡ min (at capacity e) room → min (at capacity e) room < overloaded
        → past (before + sum) x ≡ past before (within_at (walk_grid E K far load capacity) (closed_in closed) depth e via room)
    wait_last before depth k z all small = go (eqb x overloaded) refl
      where
        go : (t : Bool) → eqb x overloaded ≡ t → past (before + sum) x ≡ past before (within_at (walk_grid E K far load capacity) (closed_in closed) depth e via room)
        go true t =
            let f : x ≡ overloaded = eqb-true x overloaded t in
            sym (past_over (before + sum) x f) ∙ past_over before _ (sym (wait_stops depth z all (omega arith) f))
        go false t =
            let f : x ≡ overloaded → ⊥ = eqb-false x overloaded t in
            let fits : sum + x ≤ min (at capacity e) room = omega (arith, wait_room f) in
            let is : sum + x ≡ within_at (walk_grid E K far load capacity) (closed_in closed) depth e via room =
            end_done lent d e via room inside (sum + x) j (wait_walked f) fits depth k z in
            let sums : before + sum + x ≡ before + (sum + x) = omega arith in
            sym (past_add (before + sum) x f) ∙ sums ∙ past_add before (sum + x) (λ h. omega (arith, fits)) ∙ ap (past before) is

-- ---- the end's turns

pub end_away : (E K : ℕ) (fars load capacity : List ℕ) (c : Config) (depth j e room before : ℕ) → 192 ≤ j
    → before ≡ past before (end_within (walk_grid E K fars load capacity) c depth j e room)
end_away E K fars load capacity c depth j e room before k =
    let sums : before ≡ before + 0 = omega arith in
    sums ∙ past_add before 0 (λ h. omega arith) ∙ ap (past before) (no_end (walk_grid E K fars load capacity) c depth j e room k)

pub end_deep : (E K : ℕ) (fars load capacity : List ℕ) (c : Config) (depth j e room before : ℕ) → j < 192 → depth ≡ 0
    → before ≡ past before (end_within (walk_grid E K fars load capacity) c depth j e room)
end_deep E K fars load capacity c depth j e room before k z =
    let sums : before ≡ before + 0 = omega arith in
    sums ∙ past_add before 0 (λ h. omega arith)
    ∙ ap (past before) (link_within_none E K fars load capacity c depth (j / 2) e room z ∙ end_is (walk_grid E K fars load capacity) c depth j e room k)

pub end_turn : {head next fars closed load capacity : List ℕ} {E K : ℕ} → Lent head next fars closed load capacity E K
    → (d depth j room before r : ℕ) → suc d ≡ depth → j < 192 → j < 2 * K
    → r ≡ past before (within_at (walk_grid E K fars load capacity) (closed_in closed) d (at fars j) (j / 2) room)
    → r ≡ past before (end_within (walk_grid E K fars load capacity) (closed_in closed) depth j (near_at fars j) room)
end_turn {fars = fars} {closed = closed} {load = load} {capacity = capacity} {E = E} {K = K} lent d depth j room before r z k b q =
    q ∙ ap (past before) (link_within_turn lent d depth j room _ z b refl
    ∙ end_is (walk_grid E K fars load capacity) (closed_in closed) depth j (near_at fars j) room k)

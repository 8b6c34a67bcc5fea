-- The turns of `element_sum` and `link_sum`: the walk of `feeding_loads` of which only the sum is kept, with its last link waiting.
-- Assumes nothing.
use Prim.Native.Nat.{ℕ, zero, suc, ◌+◌, ◌*◌, ◌/◌, ◌≤◌, ◌<◌, min}
use mathlib.Core.Path.{◌≡◌, refl, sym, ap, ◌∙◌}
use mathlib.Core.List.{List}
use borrow.Author.Tests.{lt-ltb, le-ltb}
use native.Mathlib.Omega.{arith}
use Rattle.feeding.specs.Networks.{at}
use Rattle.feeding.specs.Parts.{closed_in}
use Rattle.feeding.specs.Loads.{element_load, link_load, link_over}
use Rattle.feeding_loads.specs.declared.Carried.{Carried}
use Rattle.feeding_loads.specs.Walks.{near_at, walk_grid, link_carried}
use Rattle.feeding_loads.proofs.Rounds.{Walked, load_none}
use Rattle.feeding_loads.proofs.Lending.{turn_start, turn_done, turn_below, turn_later, turn_open, turn_via, turn_on, turn_room}
use Rattle.feeding_loads.proofs.Lending.{element_load_in, link_load_in, link_turn_none, link_turn_load}
use Rattle.feeding_walks.specs.declared.Walk.{Walk}
use Rattle.feeding_part_sums.specs.Sums.{sum_grid, end_sum, SumLent}

-- the walk has come to the end j with this sum, whatever it met above a capacity
record Summed (walk : Walk) (closed number : List ℕ) (d e via sum j : ℕ) : Type 0 where
  over : ℕ
  walked : Walked (sum_grid walk number) (closed_in closed) d e via sum over j

module _ {walk : Walk} {closed number : List ℕ} (ok : SumLent walk closed number) (d e via : ℕ) where
  begun : e < walk.elements → Summed walk closed number d e via (at number e) (at walk.own.head e)
  begun k = record {
    over = walk.elements;
    walked = turn_start walk.own.head walk.own.next walk.own.far closed number number walk.elements walk.links ok.lent d e via k;
  }

  pub head_read : e < walk.elements → at walk.own.head e ≤ 192
  head_read k = (ok.lent.heads e k).at_most

  none_load : (depth : ℕ) → depth ≡ 0 → at number e ≡ element_load (sum_grid walk number) (closed_in closed) depth e via
  unfolding walk_grid
  none_load depth z = rw z (sym (load_none (sum_grid walk number) (closed_in closed) e via))

  module _ (sum j : ℕ) (now : Summed walk closed number d e via sum j) where
    done_load : (depth : ℕ) → 192 ≤ j → suc d ≡ depth → sum ≡ element_load (sum_grid walk number) (closed_in closed) depth e via
    done_load depth k z = ap (λ (x : Carried). x.load)
        (turn_done walk.own.head walk.own.next walk.own.far closed number number walk.elements walk.links ok.lent d e via sum now.over j now.walked depth _ k z refl)
        ∙ element_load_in (sum_grid walk number) (closed_in closed) depth e via

    module _ (k : j < 192) where
      below_all : j < 2 * walk.links
      below_all = turn_below walk.own.head walk.own.next walk.own.far closed number number walk.elements walk.links ok.lent d e via sum now.over j now.walked k

      next_small : at walk.own.next j ≤ 192
      next_small = (ok.lent.nexts j below_all).at_most

      next_later : j < at walk.own.next j
      next_later =
          turn_later walk.own.head walk.own.next walk.own.far closed number number walk.elements walk.links ok.lent d e via sum now.over j now.walked k

      past_open : (sum' : ℕ) → (at closed (j / 2) ≡ 1 → ⊥) → sum' ≡ sum → Summed walk closed number d e via sum' (at walk.own.next j)
      past_open sum' h q = record {
        over = now.over;
        walked =
            turn_open walk.own.head walk.own.next walk.own.far closed number number walk.elements walk.links ok.lent d e via sum now.over j now.walked k sum' now.over h q refl;
      }

      past_via : (sum' : ℕ) → j / 2 ≡ via → sum' ≡ sum → Summed walk closed number d e via sum' (at walk.own.next j)
      past_via sum' h q = record {
        over = now.over;
        walked =
            turn_via walk.own.head walk.own.next walk.own.far closed number number walk.elements walk.links ok.lent d e via sum now.over j now.walked k sum' now.over h q refl;
      }

      module _ (on : at closed (j / 2) ≡ 1) (ne : j / 2 ≡ via → ⊥) where
        past_link : (x sum' : ℕ) → x ≡ link_load (sum_grid walk number) (closed_in closed) d (j / 2) (near_at walk.own.far j) → sum' ≡ sum + x
            → Summed walk closed number d e via sum' (at walk.own.next j)
        unfolding link_carried
        past_link x sum' q s = record {
          over = min now.over (link_over (sum_grid walk number) (closed_in closed) d (j / 2) (near_at walk.own.far j));
          walked =
              turn_on walk.own.head walk.own.next walk.own.far closed number number walk.elements walk.links ok.lent d e via sum now.over j now.walked k
              (record { load = x; over = link_over (sum_grid walk number) (closed_in closed) d (j / 2) (near_at walk.own.far j) })
              sum' _ on ne (rw q) s refl;
        }

        room_left : (depth : ℕ) → suc d ≡ depth
            → sum + link_load (sum_grid walk number) (closed_in closed) d (j / 2) (near_at walk.own.far j)
            ≤ element_load (sum_grid walk number) (closed_in closed) depth e via
        room_left depth z =
            turn_room walk.own.head walk.own.next walk.own.far closed number number walk.elements walk.links ok.lent d e via sum now.over j now.walked k depth z on ne

-- ---- the link that waits

-- `before` and what has been met, with what the waiting link will bring, is `sum` and what that link will bring
pub record Held (walk : Walk) (closed number : List ℕ) (d e via before sum last j : ℕ) : Type 0 where
  met : ℕ
  summed : Summed walk closed number d e via met j
  waits : before + met ≡ sum + end_sum walk closed number d last
  pub last_in : last < 192 → last < 2 * walk.links

no_end : (walk : Walk) (closed number : List ℕ) (d j : ℕ) → 192 ≤ j → end_sum walk closed number d j ≡ 0
unfolding end_sum
no_end walk closed number d j h = rw (le-ltb j 192 h, end_sum)

an_end : (walk : Walk) (closed number : List ℕ) (d j : ℕ) → j < 192
    → end_sum walk closed number d j ≡ link_load (sum_grid walk number) (closed_in closed) d (j / 2) (near_at walk.own.far j)
unfolding end_sum
an_end walk closed number d j h = rw (lt-ltb j 192 h, end_sum)

module _ {walk : Walk} {closed number : List ℕ} (ok : SumLent walk closed number) (d e via before : ℕ) where
  pub begins : e < walk.elements → (sum : ℕ) → sum ≡ before + at number e → Held walk closed number d e via before sum 192 (at walk.own.head e)
  begins k sum q = record {
    met = at number e;
    summed = begun ok d e via k;
    waits = omega (arith, q, no_end walk closed number d 192 (omega arith));
    last_in = λ h. absurd (omega arith);
  }

  pub own_fits : (depth : ℕ) → at number e ≤ element_load (sum_grid walk number) (closed_in closed) depth e via
  unfolding element_load walk_grid
  own_fits zero = omega arith
  own_fits (suc depth) = omega arith

  pub none : (depth sum : ℕ) → depth ≡ 0 → sum ≡ before + at number e
      → sum ≡ before + element_load (sum_grid walk number) (closed_in closed) depth e via
  none depth sum z q = omega (arith, q, none_load ok d e via depth z)

  module _ (sum last j : ℕ) (now : Held walk closed number d e via before sum last j) where
    -- the walk over the waiting link ends it
    pub done : (depth : ℕ) → 192 ≤ j → suc d ≡ depth
        → sum + end_sum walk closed number d last ≡ before + element_load (sum_grid walk number) (closed_in closed) depth e via
    done depth k z = omega (arith, now.waits, done_load ok d e via now.met j now.summed depth k z)

    module _ (k : j < 192) where
      pub below : j < 2 * walk.links
      below = below_all ok d e via now.met j now.summed k

      pub next_read : at walk.own.next j ≤ 192
      next_read = next_small ok d e via now.met j now.summed k

      pub later : j < at walk.own.next j
      later = next_later ok d e via now.met j now.summed k

      pub opened : (sum' last' : ℕ) → (at closed (j / 2) ≡ 1 → ⊥) → sum' ≡ sum → last' ≡ last
          → Held walk closed number d e via before sum' last' (at walk.own.next j)
      opened sum' last' h p q = rw (p, q) (record {
        met = now.met;
        summed = past_open ok d e via now.met j now.summed k now.met h refl;
        waits = now.waits;
        last_in = now.last_in;
      })

      pub came_by : (sum' last' : ℕ) → j / 2 ≡ via → sum' ≡ sum → last' ≡ last
          → Held walk closed number d e via before sum' last' (at walk.own.next j)
      came_by sum' last' h p q = rw (p, q) (record {
        met = now.met;
        summed = past_via ok d e via now.met j now.summed k now.met h refl;
        waits = now.waits;
        last_in = now.last_in;
      })

      module _ (on : at closed (j / 2) ≡ 1) (ne : j / 2 ≡ via → ⊥) where
        -- the link that waited has been walked, and this one waits
        pub goes_on : (sum' last' : ℕ) → sum' ≡ sum + end_sum walk closed number d last → last' ≡ j
            → Held walk closed number d e via before sum' last' (at walk.own.next j)
        goes_on sum' last' p q = rw q (record {
          met = now.met + link_load (sum_grid walk number) (closed_in closed) d (j / 2) (near_at walk.own.far j);
          summed = past_link ok d e via now.met j now.summed k on ne _ _ refl refl;
          waits = omega (arith, p, now.waits, an_end walk closed number d j k);
          last_in = λ _. below;
        })

        pub roomy : (depth : ℕ) → suc d ≡ depth
            → sum + end_sum walk closed number d last ≤ before + element_load (sum_grid walk number) (closed_in closed) depth e via
        roomy depth z = omega (arith, now.waits, room_left ok d e via now.met j now.summed k on ne depth z)

-- ---- the link of an end

module _ {walk : Walk} {closed number : List ℕ} (ok : SumLent walk closed number) where
  pub link_no_end : (depth j before : ℕ) → 192 ≤ j → before ≡ before + end_sum walk closed number depth j
  link_no_end depth j before h = omega (arith, no_end walk closed number depth j h)

  module _ (j : ℕ) (h : j < 192) where
    pub link_none : (depth before : ℕ) → depth ≡ 0 → before ≡ before + end_sum walk closed number depth j
    link_none depth before z = omega (
      arith,
      an_end walk closed number depth j h,
      ap (λ (x : Carried). x.load) (link_turn_none walk.own.head walk.own.next walk.own.far closed number number walk.elements walk.links ok.lent depth (j / 2) (near_at walk.own.far j) z)
          ∙ link_load_in (sum_grid walk number) (closed_in closed) depth (j / 2) (near_at walk.own.far j),
    )

    module _ (k : j < 2 * walk.links) where
      pub far_in : at walk.own.far j < walk.elements
      far_in = ok.lent.far_in j k

      pub link_is : (d depth : ℕ) → suc d ≡ depth
          → element_load (sum_grid walk number) (closed_in closed) d (at walk.own.far j) (j / 2) ≡ end_sum walk closed number depth j
      link_is d depth z =
          link_turn_load walk.own.head walk.own.next walk.own.far closed number number walk.elements walk.links ok.lent d depth j z k
          ∙ sym (an_end walk closed number depth j h)

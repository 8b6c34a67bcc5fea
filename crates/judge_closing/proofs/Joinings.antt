-- What two parts are found to be, by the numbers that the code compares; and the answer for a closing by it.
-- Assumes nothing.
use mathlib.Core.Path.{◌≡◌, sym, ap, ap₂, ◌∙◌}
use mathlib.Core.Bool.{Bool, true, false}
use mathlib.Core.List.{List}
use Prim.Native.Nat.{ℕ, ◌+◌, ◌*◌, ◌-◌, ◌/◌, ◌%◌, ◌≤◌, ◌<◌, ◌^◌}
use lib.ListN.{set}
use borrow.Author.Tests.{eq-eqb, ne_eqb, lt-ltb, le-ltb}
use native.Mathlib.Omega.{arith}
use Rattle.feeding.specs.Parts.{closed_in}
use Rattle.feeding.specs.Loads.{element_load, within_from?}
use Rattle.feeding_loads.specs.Walks.{grid_of_walk}
use Rattle.feeding_walks.specs.declared.Walk.{Walk}
use Rattle.feeding_part_sums.specs.Sums.{sum_grid}
use Rattle.judge_safe_steps.specs.declared.Joining.{Joining}
use Rattle.judge_safe_steps.specs.declared.Joining.TheVariants.{Clash, Dark, FedBy}
use Rattle.judge_safe_steps.specs.Tests.{joining_of, joining_by, joined_safe}
use Rattle.judge_closing.specs.Checks.{first_end, second_end, targeted, part_signs, joining_over, closes_over, Joinable}

-- ---- by the signs x and y of two parts

module _ (x y : ℕ) where
  pub one_part : 16384 ≤ x → Clash ≡ joining_of x y
  unfolding joining_of joining_by
  one_part h = rw (le-ltb x 16384 h)

  module _ (h : x < 16384) where
    pub two_sources : (x % 128 ≡ 0 → ⊥) → (y % 128 ≡ 0 → ⊥) → Clash ≡ joining_of x y
    unfolding joining_of joining_by
    two_sources n m = rw (lt-ltb x 16384 h, ne_eqb (x % 128) 0 n, ne_eqb (y % 128) 0 m)

    pub second_faulty : (x % 128 ≡ 0 → ⊥) → y % 128 ≡ 0 → (y / 128 % 128 ≡ 0 → ⊥) → Clash ≡ joining_of x y
    unfolding joining_of joining_by
    second_faulty n m o = rw (lt-ltb x 16384 h, ne_eqb (x % 128) 0 n, eq-eqb (y % 128) 0 m, ne_eqb (y / 128 % 128) 0 o)

    pub fed_first : (s : ℕ) → (x % 128 ≡ 0 → ⊥) → y % 128 ≡ 0 → y / 128 % 128 ≡ 0 → s ≡ x % 128 - 1 → FedBy s ≡ joining_of x y
    unfolding joining_of joining_by
    fed_first s n m o q = rw (lt-ltb x 16384 h, ne_eqb (x % 128) 0 n, eq-eqb (y % 128) 0 m, eq-eqb (y / 128 % 128) 0 o) (ap FedBy q)

    pub first_faulty : x % 128 ≡ 0 → (y % 128 ≡ 0 → ⊥) → (x / 128 % 128 ≡ 0 → ⊥) → Clash ≡ joining_of x y
    unfolding joining_of joining_by
    first_faulty n m o = rw (lt-ltb x 16384 h, eq-eqb (x % 128) 0 n, ne_eqb (y % 128) 0 m, ne_eqb (x / 128 % 128) 0 o)

    pub fed_second : (s : ℕ) → x % 128 ≡ 0 → (y % 128 ≡ 0 → ⊥) → x / 128 % 128 ≡ 0 → s ≡ y % 128 - 1 → FedBy s ≡ joining_of x y
    unfolding joining_of joining_by
    fed_second s n m o q = rw (lt-ltb x 16384 h, eq-eqb (x % 128) 0 n, ne_eqb (y % 128) 0 m, eq-eqb (x / 128 % 128) 0 o) (ap FedBy q)

    pub both_dark : x % 128 ≡ 0 → y % 128 ≡ 0 → Dark ≡ joining_of x y
    unfolding joining_of joining_by
    both_dark n m = rw (lt-ltb x 16384 h, eq-eqb (x % 128) 0 n, eq-eqb (y % 128) 0 m)

-- ---- by the walks over lists

module _ {walk : Walk} {closed sign : List ℕ} {l : ℕ} (ok : Joinable walk closed sign l) where
  -- what the walks are asked to be below
  pub first_walk : 0 + element_load (sum_grid walk (targeted walk sign l)) (closed_in closed) (2 * walk.elements) (first_end walk l) walk.links < 2 ^ 64
  unfolding part_signs
  first_walk = omega (arith, ok.first_fits)

  pub second_walk : 0 + element_load (sum_grid walk (targeted walk sign l)) (closed_in closed) (2 * walk.elements) (second_end walk l) walk.links < 2 ^ 64
  unfolding part_signs
  second_walk = omega (arith, ok.second_fits)

  pub walked : (first second : ℕ)
      → first ≡ 0 + element_load (sum_grid walk (targeted walk sign l)) (closed_in closed) (2 * walk.elements) (first_end walk l) walk.links
      → second ≡ 0 + element_load (sum_grid walk (targeted walk sign l)) (closed_in closed) (2 * walk.elements) (second_end walk l) walk.links
      → (j : Joining) → j ≡ joining_of first second → j ≡ joining_over walk closed sign l
  unfolding joining_over part_signs
  walked first second first_is second_is j q =
      let x : first ≡ part_signs walk (targeted walk sign l) (closed_in closed) (first_end walk l) = omega (arith, first_is) in
      let y : second ≡ part_signs walk (targeted walk sign l) (closed_in closed) (second_end walk l) = omega (arith, second_is) in
      q ∙ ap₂ joining_of x y

-- ---- the answer

module _ (walk : Walk) (closed sign : List ℕ) (l : ℕ) (j : Joining) (is : j ≡ joining_over walk closed sign l) where
  pub clash_answer : j ≡ Clash → false ≡ closes_over walk closed sign l
  unfolding closes_over joined_safe
  clash_answer q = ap (joined_safe (within_from? (grid_of_walk walk) (closed_in (set closed l 1)))) (sym q ∙ is)

  pub dark_answer : j ≡ Dark → true ≡ closes_over walk closed sign l
  unfolding closes_over joined_safe
  dark_answer q = ap (joined_safe (within_from? (grid_of_walk walk) (closed_in (set closed l 1)))) (sym q ∙ is)

  pub fed_answer : (s : ℕ) → j ≡ FedBy s → (r : Bool) → r ≡ within_from? (grid_of_walk walk) (closed_in (set closed l 1)) s
      → r ≡ closes_over walk closed sign l
  unfolding closes_over joined_safe
  fed_answer s q r w = w ∙ ap (joined_safe (within_from? (grid_of_walk walk) (closed_in (set closed l 1)))) (sym q ∙ is)

-- What each part asks, and what a search carries for it, over arrays: in the words of `plan_stops`, by the labels of the parts. Internal: what the arrays hold.
-- Assumes nothing.
use Rattle.std.specs.Prelude.{◌≡◌, true, false, ◌&&◌, List, ℕ, zero, suc, ◌*◌, ◌-◌, ◌^◌, ◌<◌, ◌≤◌, eqb, length}
use Rattle.feeding.specs.Below.{sum_to, gate, tabulate}
use Rattle.feeding.specs.Loads.{borne?}
use Rattle.feeding.specs.Networks.{at, is_in}

-- its load, or 2 ^ 32 where it is too small for that
unfoldable pub ask_of : (load capacity : ℕ) → ℕ
ask_of load capacity = elim (borne? capacity load) [ true ↦ load | false ↦ 4294967296 ]

-- what the first n elements with the label x ask
unfoldable pub asked_at : (label load capacity : List ℕ) → ℕ → ℕ → ℕ
asked_at label load capacity n x = sum_to n (λ e. gate (eqb (at label e) x) (ask_of (at load e) (at capacity e)))

unfoldable pub asks_in : (label load capacity : List ℕ) → ℕ → List ℕ
asks_in label load capacity n = tabulate 64 (asked_at label load capacity n)

-- what is left of the capacity of the last source with the label x among the first n elements; what is asked where there is none
unfoldable pub spare_at : (asked label sound capacity : List ℕ) → ℕ → ℕ → ℕ
spare_at asked label sound capacity zero x = at asked x
spare_at asked label sound capacity (suc n) x =
    elim (is_in sound n && eqb (at label n) x) [ true ↦ at capacity n - at asked x | false ↦ spare_at asked label sound capacity n x ]

unfoldable pub spare_in : (asked label sound capacity : List ℕ) → ℕ → List ℕ
spare_in asked label sound capacity n = tabulate 64 (spare_at asked label sound capacity n)

-- the lists reach over the first n of at most 64 elements
pub record Rated (label load capacity : List ℕ) (n : ℕ) : Type 0 where
  pub fit : n ≤ 64
  pub label_long : n ≤ length label
  pub load_long : n ≤ length load
  pub capacity_long : n ≤ length capacity
  pub label_in : (e : ℕ) → e < n → at label e < 64
  pub load_in_lem : (e : ℕ) → e < n → at load e < 4294967296

-- and each source bears what its part asks
pub record Sourced (asked label sound capacity : List ℕ) (n : ℕ) : Type 0 where
  pub fit : n ≤ 64
  pub asked_long : length asked ≡ 64
  pub label_long : n ≤ length label
  pub sound_long : n ≤ length sound
  pub capacity_long : n ≤ length capacity
  pub label_in : (e : ℕ) → e < n → at label e < 64
  pub capacity_in : (e : ℕ) → e < n → at capacity e < 4294967296
  pub borne : (s : ℕ) → s < n → is_in sound s ≡ true → at asked (at label s) ≤ at capacity s

-- what those of the first n elements that are in the set ask
unfoldable pub demand_in : (has load capacity : List ℕ) → ℕ → ℕ
demand_in has load capacity n = sum_to n (λ e. gate (is_in has e) (ask_of (at load e) (at capacity e)))

pub record Asking (has load capacity : List ℕ) (n : ℕ) : Type 0 where
  pub fit : n ≤ 64
  pub has_long : n ≤ length has
  pub load_long : n ≤ length load
  pub capacity_long : n ≤ length capacity
  pub load_in_lem : (e : ℕ) → e < n → at load e < 4294967296

-- behind i choices the parts' numbers can be added: below 2^40 at the start, and at most twice as much behind each switch
pub record Light (spare : List ℕ) (i : ℕ) : Type 0 where
  pub long : length spare ≡ 64
  pub small : (x : ℕ) → at spare x < 1099511627776 * 2 ^ i

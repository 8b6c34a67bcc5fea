-- A list of switches as arrays, and the states that a set of them, written as a number, leaves.
-- Internal: no promise to a user is said by it.
-- Assumes nothing.
use Rattle.std.specs.Prelude.{◌≡◌, true, false, List, ℕ, zero, suc, ◌/◌, ◌%◌, ◌<◌, ◌≤◌, eqb, ltb, length, set}
use Rattle.network.specs.declared.Network.{Network}
use Rattle.feeding.specs.Below.{gate, tabulate}
use Rattle.feeding.specs.Networks.{at}
use Rattle.plan_switches.specs.declared.Switches.{Switches}

-- 16 entries: f of each member of the list, then 0
unfoldable pub column : List ℕ → (ℕ → ℕ) → List ℕ
column ops f = tabulate 16 (λ i. gate (ltb i (length ops)) (f (at ops i)))

unfoldable pub switch_list : Network → List ℕ → Switches
switch_list n ops =
    record {
      link = column ops (λ l. l);
      from = column ops (at n.from);
      to = column ops (at n.to);
      closed = column ops (λ l. gate (eqb (at n.form l) 2) 1);
      price = column ops (at n.cost);
      count = length ops;
    }

-- at most 16 switches, whose numbers are below 96 and differ
pub record SwitchReach (link : List ℕ) (count : ℕ) : Type 0 where
  pub fit : count ≤ 16
  pub link_in : (i : ℕ) → i < count → at link i < 96
  pub apart : (i j : ℕ) → i < j → j < count → at link i ≡ at link j → ⊥

-- a switch's state, 1 for closed: b is 1 where it is turned over
unfoldable pub turned : (closed b : ℕ) → ℕ
turned closed b = elim (eqb closed b) [ true ↦ 0 | false ↦ 1 ]

-- the states after the first n switches are put as the set s says; the first switch has the highest bit
unfoldable pub with_set : (link closed : ℕ → ℕ) → (n s : ℕ) → List ℕ → List ℕ
with_set link closed zero s states = states
with_set link closed (suc n) s states = set (with_set link closed n (s / 2) states) (link n) (turned (closed n) (s % 2))

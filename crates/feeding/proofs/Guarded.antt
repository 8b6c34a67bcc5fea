-- A tried case: link 0 guards link 1, which guards links 2 and 3; 4 is no link. The costs are 5, 7, 11 and 13.
-- Assumes nothing.
use Prim.Native.Nat.{ℕ, ◌+◌, ◌*◌}
use mathlib.Core.Path.{◌≡◌, refl}
use mathlib.Core.Bool.{true, false, ◌||◌}
use mathlib.Core.List.{[], ◌∷◌}
use lib.Dec.{eqb}
use Rattle.feeding.specs.Below.{any_to, sum_to}
use Rattle.feeding.specs.Networks.{Net, at}
use Rattle.feeding.specs.Plans.{Step, operations}
use Rattle.feeding.specs.Costs.{operated, guards?, guard_cost, cost_of, set_cost, steps_cost, switches_cost}

net : Net
net =
    record {
      grid =
          record {
            E = 5;
            K = 4;
            load = λ _. 0;
            capacity = λ _. 0;
            source = λ _. false;
            faulty = λ _. false;
            end_a = λ l. l;
            end_b = λ _. 4;
          };
      fixed = λ _. false;
      start_closed = λ _. false;
      cost = at (5 ∷ 7 ∷ 11 ∷ 13 ∷ []);
      guard = at (4 ∷ 0 ∷ 1 ∷ 1 ∷ []);
    }

close : ℕ → Step
close l = record { link = l; want = true }

open_again : ℕ → Step
open_again l = record { link = l; want = false }

-- links 3, 2 and 3 again: the guard, link 1, is paid for once, and its own guard is not
once : cost_of net (close 3 ∷ close 2 ∷ open_again 3 ∷ []) ≡ 13 + 11 + 13 + 2 * 7
unfolding cost_of steps_cost guard_cost guards? operated operations any_to sum_to net close open_again
once = refl

-- links 1 and 3: the operated guard costs its own cost too, and its own guard is paid for
operated_guard : cost_of net (close 1 ∷ close 3 ∷ []) ≡ 7 + 13 + 2 * 5 + 2 * 7
unfolding cost_of steps_cost guard_cost guards? operated operations any_to sum_to net close
operated_guard = refl

-- the set of links 2 and 3
as_a_set : set_cost net (λ l. eqb l 2 || eqb l 3) ≡ 11 + 13 + 2 * 7
unfolding set_cost switches_cost guard_cost guards? any_to sum_to net
as_a_set = refl

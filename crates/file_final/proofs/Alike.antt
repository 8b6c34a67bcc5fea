-- A trial final's input that looks at the same bytes has the same reading, each file by its law: so what stands behind the longest input changes nothing.
-- Assumes nothing.
use mathlib.Core.Path.{◌≡◌, refl, ap, ◌∙◌}
use mathlib.Core.List.{List}
use Prim.Native.Nat.{ℕ, ◌+◌, ◌<◌, ◌≤◌}
use native.Mathlib.Omega.{arith}
use lib.ListN.{length, take, length-take}
use Rattle.network.specs.declared.Network.{Network}
use Rattle.file_plan.specs.declared.plan.Plan.{Plan}
use Rattle.file_records.proofs.SameBytes.{SameFrom, same_on, take_same}
use Rattle.file_network.specs.Runs.{Reading, refused, reached, read_on}
use Rattle.file_network.specs.NetworkFiles.{network_file}
use Rattle.file_network.specs.Inputs.{network_input}
use Rattle.file_network.proofs.Sizes.{network_longest, network_size, network_input_size}
use Rattle.file_network.proofs.Looking.{look_then, look_grows, look_most}
use Rattle.file_network.proofs.Alike.{Moved, reached_here, moved_then, moved_equal, then_alike}
use Rattle.file_network.proofs.NetworkAlike.{network_looks, network_looked, network_look_most, network_moved, network_decided}
use Rattle.file_plan.specs.PlanFiles.{plan_file}
use Rattle.file_plan.specs.Inputs.{plan_input}
use Rattle.file_plan.proofs.Sizes.{plan_longest, plan_size, plan_input_size}
use Rattle.file_plan.proofs.Alike.{plan_looks, plan_looked, plan_look_most, plan_alike, plan_input_looks, plan_input_from, plan_input_look_most, plan_input_alike}
use Rattle.file_final.specs.declared.FinalRead.{FinalRead}
use Rattle.file_final.specs.Inputs.{two_plans, counted_on, second_behind, second_behind_by, plans_behind, plans_behind_by, final_input, final_input_by, second_lent, second_lent_by, plans_lent, plans_lent_by, files_input, files_input_by}

-- how far the plan files look, and the whole input
unfoldable pub plans_look : List ℕ → ℕ → ℕ → ℕ
plans_look s links at = look_then (plan_file s links at) (plan_looks s links at) (λ middle stage p. plan_input_looks s links middle)

unfoldable pub final_look : List ℕ → ℕ
final_look s = look_then (network_file s) (network_looks s) (λ at stage n. plans_look s n.links at)

module _ (s : List ℕ) (links : ℕ) where
  second_from : (at middle : ℕ) → plan_looks s links at ≡ middle → plan_looks s links at ≤ plan_input_looks s links middle
  second_from at middle ends = omega (arith, ends, plan_input_from s links middle)

  plans_from : (at : ℕ) → at ≤ plans_look s links at
  unfolding plans_look
  plans_from at =
      omega (
        arith,
        (plan_looked s links at).from,
        look_grows (plan_looks s links at) (λ middle stage p. plan_input_looks s links middle) (plan_file s links at)
            (λ middle stage p e. second_from at middle ((plan_looked s links at).ends middle stage p e)),
      )

  plans_look_most : (at : ℕ) → plans_look s links at ≤ at + plan_longest + plan_longest + 1
  unfolding plans_look
  plans_look_most at =
      look_most (plan_looks s links at) (at + plan_longest + plan_longest + 1) (λ middle stage p. plan_input_looks s links middle) (plan_file s links at)
      (omega (arith, plan_look_most s links at))
      (λ middle stage p e. omega (arith, (plan_size s links at middle stage p e).at_most, plan_input_look_most s links middle))

final_look_most : (s : List ℕ) → final_look s ≤ network_longest + plan_longest + plan_longest + 1
unfolding final_look
final_look_most s =
    look_most (network_looks s) (network_longest + plan_longest + plan_longest + 1) (λ at stage n. plans_look s n.links at) (network_file s)
    (omega (arith, network_look_most s))
    (λ at stage n e. omega (arith, (network_size s at stage n e).at_most, plans_look_most s n.links at))

module _ (s t : List ℕ) (upto : ℕ) where
  -- the second plan file behind the first, and both behind a network
  second_alike : (n : Network) (start middle : ℕ) (p : Plan) → SameFrom s t middle middle upto → plan_input_looks s n.links middle ≤ upto
      → Moved ◌≡◌ middle middle (second_behind s n start middle p) (second_behind t n start middle p)
  unfolding second_behind_by
  second_alike n start middle p same far =
      moved_then middle middle (plan_input s n.links middle) (plan_input t n.links middle) (two_plans n start middle p) (two_plans n start middle p)
      (plan_input_alike s t upto n.links middle middle same far)
      (λ i stage q q' e r. reached_here (middle + i) (middle + i) stage (two (middle + i) q) (two (middle + i) q') (ap (two (middle + i)) r))
    where
      two : ℕ → Plan → FinalRead
      two end q = record { net = n; first = p; second = q; start = start; middle = middle; end = end }

  plans_alike : (n : Network) (at : ℕ) → SameFrom s t at at upto → plans_look s n.links at ≤ upto → Moved ◌≡◌ at at (plans_behind s at n) (plans_behind t at n)
  unfolding plans_behind_by plans_look
  plans_alike n at same =
      then_alike at at upto (plan_looks s n.links at) (λ middle stage p. plan_input_looks s n.links middle) (plan_file s n.links at) (plan_file t n.links at)
      (λ middle stage p. second_behind s n at middle p) (λ middle stage p. second_behind t n at middle p)
      (plan_alike s t upto n.links at at same)
      (λ middle stage p e. second_from s n.links at middle ((plan_looked s n.links at).ends middle stage p e))
      (λ i stage p e far. second_alike n at (at + i) p (same_on same i) far)

  pub final_alike : SameFrom s t 0 0 upto → final_look s ≤ upto → final_input s ≡ final_input t
  unfolding final_input_by final_look
  final_alike same far =
      moved_equal
      (then_alike 0 0 upto (network_looks s) (λ at stage n. plans_look s n.links at) (network_file s) (network_file t)
      (λ at stage n. plans_behind s at n) (λ at stage n. plans_behind t at n)
      (network_moved s t upto same)
      (λ at stage n e. omega (arith, (network_looked s).ends at stage n e, plans_from s n.links at))
      (λ i stage n e seen. plans_alike n (0 + i) (same_on same i) seen) far)

-- any number of bytes above the longest input decides
pub final_decided : (limit : ℕ) → network_longest + plan_longest + plan_longest < limit → (s : List ℕ) → final_input (take limit s) ≡ final_input s
final_decided limit h s = final_alike (take limit s) s limit (take_same limit s 0) (omega (arith, final_look_most (take limit s)))

-- ---- lent apart: so many bytes of each file decide

module _ (limit : ℕ) (h : network_longest + plan_longest + plan_longest < limit) where
  cut_long : (s : List ℕ) → length s < limit → length (take limit s) ≡ length s
  cut_long s k = omega (arith, length-take limit s)

  plan_decided : (s : List ℕ) (links : ℕ) → plan_input (take limit s) links 0 ≡ plan_input s links 0
  plan_decided s links =
      moved_equal (plan_input_alike (take limit s) s limit links 0 0 (take_same limit s 0) (omega (arith, plan_input_look_most (take limit s) links 0)))

  second_decided : (second : List ℕ) (n : Network) (start middle : ℕ) (p : Plan) → second_lent (take limit second) n start middle p ≡ second_lent second n start middle p
  unfolding second_lent_by
  second_decided second n start middle p =
      ap (λ (o : Reading Plan). read_on (counted_on middle o) (two_plans n start middle p)) (plan_decided second n.links)

  plans_decided : (first second : List ℕ) (start : ℕ) (n : Network) → plans_lent (take limit first) (take limit second) start n ≡ plans_lent first second start n
  unfolding plans_lent_by
  plans_decided first second start n =
      ap (λ (o : Reading Plan). read_on (counted_on start o) (λ at stage p. second_lent (take limit second) n start (start + length (take limit first)) p))
      (plan_decided first n.links) ∙ go (plan_input first n.links 0) refl
    where
      go : (o : Reading Plan) → plan_input first n.links 0 ≡ o
          → read_on (counted_on start o) (λ at stage p. second_lent (take limit second) n start (start + length (take limit first)) p)
          ≡ read_on (counted_on start o) (λ at stage p. second_lent second n start (start + length first) p)
      go (refused r) e = refl
      go (reached at stage p) e =
          let size = plan_input_size first n.links 0 at stage p e in
          let few = (plan_size first n.links 0 at stage p size.0).at_most in
          ap (λ (k : ℕ). second_lent (take limit second) n start (start + k) p) (cut_long first (omega (arith, size.1, few)))
          ∙ second_decided second n start (start + length first) p

  pub files_decided : (network first second : List ℕ) → files_input (take limit network) (take limit first) (take limit second) ≡ files_input network first second
  unfolding files_input_by
  files_decided network first second =
      ap (λ (o : Reading Network). read_on o (λ at stage n. plans_lent (take limit first) (take limit second) (length (take limit network)) n))
      (network_decided limit (omega arith) network) ∙ go (network_input network) refl
    where
      go : (o : Reading Network) → network_input network ≡ o
          → read_on o (λ at stage n. plans_lent (take limit first) (take limit second) (length (take limit network)) n)
          ≡ read_on o (λ at stage n. plans_lent first second (length network) n)
      go (refused r) e = refl
      go (reached at stage n) e =
          let few = (network_input_size network at stage n e).2 in
          ap (λ (k : ℕ). plans_lent (take limit first) (take limit second) k n) (cut_long network (omega (arith, few)))
          ∙ plans_decided first second (length network) n

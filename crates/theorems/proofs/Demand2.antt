-- Demand 2, sentence by sentence. What is printed for s is `plan_text s` and `mark_text s` (Demand1).
-- Assumes nothing.
use mathlib.Core.Path.{◌≡◌}
use mathlib.Core.List.{List, ◌++◌}
use mathlib.Core.Logic.{◌↔◌}
use Prim.Native.Nat.{ℕ, ◌+◌, ◌≤◌, ◌<◌}
use lib.ListN.{length, take}
use Rattle.network.specs.declared.Network.{Network}
use Rattle.feeding.specs.Below.{gate, sum_to}
use Rattle.feeding.specs.Networks.{net_of}
use Rattle.feeding.specs.Parts.{Config, Live, far}
use Rattle.feeding.specs.Loads.{leads, Fed, load_at}
use Rattle.feeding.specs.Safety.{Safe}
use Rattle.feeding.proofs.Load.{fed_exactly_once, safe_load}
use Rattle.feeding.proofs.Views.{formed_net}
use Rattle.feeding.specs.Plans.{Step, ValidPlan, run}
use Rattle.plan_problem.specs.Choosing.{NoPlan, NoneCheaper}
use Rattle.plan_sums.specs.declared.Sums.{Sums}
use Rattle.texts.specs.Texts.{feed, line_of}
use Rattle.plan_lines.specs.Lines.{none_word, none_lines}
use Rattle.judge_marks.specs.declared.Mark.{Mark}
use Rattle.judge_marks.specs.Marks.{Marked}
use Rattle.judge_line.specs.MarkLines.{mark_line, valid_word}
use Rattle.plan_outcome.specs.Outcomes.{outcome}
use Rattle.plan_sums.specs.Sums.{LoadsIn}
use Rattle.planner.specs.Replies.{buffer_for}
use Rattle.feeding_acceptance.proofs.Promises.{network_starts}
use Rattle.theorems.proofs.Words.{printed_promises}
use Rattle.theorems.proofs.Way.{valid_way, valid_operates, way_valid}
use Rattle.theorems.proofs.Exactly as Exactly
use Rattle.theorems.proofs.Buffers as Buffers
use Rattle.feeding_acceptance.specs.Reading.{Bytes, AcceptedNetwork}
use Rattle.planner.specs.Replies.{plan_text_of, plan_file_of}
use Rattle.judge.specs.Judging.{AcceptedPlan}
use Rattle.theorems.specs.Words.{plan_text, mark_text, Begins, OnTheWay, Operates}

-- ---- "Planner and judge agree with the restoration problem of source document 000 as document 01 fixes it."

module _ (s : List ℕ) (bytes : Bytes s) where
  -- an accepted submitted plan gets the mark that document 01 gives its steps
  pub judge_marks : (n : Network) (q : List Step) → AcceptedPlan s n q → (m : Mark) → (mark_text s ≡ mark_line m) ↔ Marked (net_of n) q m
  judge_marks = Exactly.mark_printed s bytes

  -- the planner's plan file, as it is left in a lent buffer, directly behind the network file: an accepted plan of the printed steps, and VALID with the
  -- printed cost and excess 0
  pub planner_submits : (q : List Step) (cost : ℕ) (l : Sums) → plan_text s ≡ plan_text_of q cost l → (before : List ℕ) → length (plan_file_of q) ≤ length before
      → (n : Network) → AcceptedNetwork s n → AcceptedPlan (s ++ take (length (plan_file_of q)) (buffer_for (outcome s) before)) n q
  planner_submits q cost l e before room n a = Buffers.file_submitted s bytes q cost l e before n a room

  pub planner_marked : (q : List Step) (cost : ℕ) (l : Sums) → plan_text s ≡ plan_text_of q cost l → (before : List ℕ) → length (plan_file_of q) ≤ length before
      → mark_text (s ++ take (length (plan_file_of q)) (buffer_for (outcome s) before)) ≡ line_of valid_word cost 0
  planner_marked q cost l e before room = Buffers.file_valid s bytes q cost l e before room

  -- the sums that are printed with a plan: "Fed sums the loads of elements live after the plan .. Their sum equals the total of all own loads.", and with NONE
  pub plan_loads : (n : Network) → AcceptedNetwork s n → (q : List Step) (cost : ℕ) (l : Sums) → plan_text s ≡ plan_text_of q cost l
      → LoadsIn (net_of n) (run (net_of n).start_closed q) l
  plan_loads n a q cost l e = (printed_promises s bytes n a q cost l e).loads

  pub none_loads : (n : Network) → AcceptedNetwork s n → (l : Sums) → plan_text s ≡ none_lines l → LoadsIn (net_of n) (net_of n).start_closed l
  none_loads = Exactly.none_loads s bytes

  -- "The load at a live element is its own load plus what each closed link leading away from the source carries; a link carries the load at its far
  -- element": in a safe configuration a live element is fed over exactly one link, a source over none, and its load is this
  pub fed_once : (n : Network) → AcceptedNetwork s n → (c : Config) → Safe (net_of n).grid c → (e : ℕ) → e < (net_of n).grid.E → Live (net_of n).grid c e
      → (via : ℕ) × Fed (net_of n).grid c e via × ((w : ℕ) → Fed (net_of n).grid c e w → w ≡ via)
  fed_once n a c safe e k live =
      let f = fed_exactly_once (net_of n).grid (formed_net n (network_starts s bytes n a).0) c safe e k live in
      (f.via, f.fed, f.only)

  pub load_is : (n : Network) → AcceptedNetwork s n → (c : Config) → Safe (net_of n).grid c → (e via : ℕ) → Fed (net_of n).grid c e via
      → load_at (net_of n).grid c e via
      ≡ (net_of n).grid.load e + sum_to (net_of n).grid.K (λ l. gate (leads (net_of n).grid c e via l) (load_at (net_of n).grid c (far (net_of n).grid l e) l))
  load_is n a c safe e via f = safe_load (net_of n).grid (formed_net n (network_starts s bytes n a).0) c safe f

  -- ---- "A printed plan keeps every configuration on the way radial, clear of the fault and within capacity, and ends with every restorable element fed;"

  pub printed_way : (n : Network) → AcceptedNetwork s n → (q : List Step) (cost : ℕ) (l : Sums) → plan_text s ≡ plan_text_of q cost l → OnTheWay (net_of n) q
  printed_way n a q cost l e =
      valid_way (net_of n) (network_starts s bytes n a).1.safe q (printed_promises s bytes n a q cost l e).promised.valid

  -- such a plan is a valid plan of document 01: the steps operate operable switches that are not yet in the state wanted, and all that is said above holds
  pub such_a_plan : (n : Network) → AcceptedNetwork s n → (q : List Step) → ValidPlan (net_of n) q ↔ (Operates (net_of n) q × OnTheWay (net_of n) q)
  such_a_plan n a q = (
    λ v. (valid_operates (net_of n) q v, valid_way (net_of n) (network_starts s bytes n a).1.safe q v),
    λ x. way_valid (net_of n) q x.0 x.1,
  )

  -- ---- "for an accepted network NONE is printed if and only if no such plan exists."

  pub none_exactly : (n : Network) → AcceptedNetwork s n → Begins (none_word ++ feed) (plan_text s) ↔ NoPlan (net_of n)
  none_exactly = Exactly.none_printed s bytes

  -- ---- "The judge calls an accepted submitted plan valid if and only if it is one."

  pub valid_exactly : (n : Network) (q : List Step) → AcceptedPlan s n q → Begins valid_word (mark_text s) ↔ ValidPlan (net_of n) q
  valid_exactly = Exactly.valid_printed s bytes

  -- and its excess is 0 exactly where no valid plan costs less
  pub excess_exactly : (n : Network) (q : List Step) → AcceptedPlan s n q → (cost excess : ℕ) → mark_text s ≡ line_of valid_word cost excess
      → (excess ≡ 0) ↔ NoneCheaper (net_of n) q
  excess_exactly = Exactly.excess_printed s bytes

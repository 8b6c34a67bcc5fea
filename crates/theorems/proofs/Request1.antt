-- Document 02, item 1, "Loads above 65,535", sentence by sentence, for every sequence of bytes s. `plan_text`, `mark_text`, `outcome` are what planner, judge and
-- library give by their contracts (Demand1); that rules 1 to 13 and 20 are answered both ways, with kind 7 among the kinds, is Demand1's.
-- Assumes nothing.
use mathlib.Core.Path.{◌≡◌, refl, sym, ap, subst, ◌∙◌}
use mathlib.Core.Bool.{true, false}
use mathlib.Core.List.{List, ◌∷◌}
use mathlib.Core.Logic.{◌↔◌}
use Prim.Native.Nat.{ℕ, ◌+◌, ◌*◌, ◌-◌, ◌^◌, ◌<◌, ◌≤◌}
use native.Mathlib.Nat.{add_assoc}
use native.Mathlib.Omega.{arith}
use lib.ListN.{length, get_or, take, replicate}
use borrow.Author.Tests.{le-ltb, ne_eqb}
use Rattle.network.specs.declared.Network.{Network}
use Rattle.network.specs.declared.refusal.Rule.TheVariants.{KindOutOfPlace, WrongLength, UnknownFlags}
use Rattle.file_stages.specs.declared.Stage.{Stage}
use Rattle.file_stages.specs.declared.Stage.TheVariants.{Head, Elements, Links, End, PlanHead, Steps, PlanEnd, Over}
use Rattle.file_stages.specs.Stages.{next_stage}
use Rattle.file_fields.specs.Views.{Seen}
use Rattle.file_fields.specs.Fields.{word, wide_word, length_of}
use Rattle.file_records.specs.Records.{kind_field, length_field, due_by, due_at}
use Rattle.file_records.proofs.Known as Known
use Rattle.file_network.specs.Runs.{refused}
use Rattle.file_network.specs.Inputs.{network_input_by}
use Rattle.std.specs.Prelude.{Result, Err}
use Rattle.network.specs.declared.refusal.Refusal.{Refusal}
use Rattle.file_both.specs.declared.Both.{Both}
use Rattle.file_both.specs.Inputs.{both_input_by}
use Rattle.file_refusals.proofs.Record.{comes_next, in_table, length_only}
use Rattle.file_refusals.specs.Breaking.{ComesNext, KindLength, Lead, wide_element_lem, StatesElement, narrow, wide, BreaksRule}
use Rattle.file_refusals.specs.Files.{Stand, KeepsNetwork, KeepsBoth}
use Rattle.file_refusals.specs.Stated.{ElementIs}
use Rattle.file_refusals.proofs.Reading.{file_formed}
use Rattle.file_written.specs.Rewriting.{Widenings}
use Rattle.file_written.proofs.Widened.{all_network, all_both}
use Rattle.feeding.specs.Networks.{net_of}
use Rattle.feeding.specs.Parts.{Config}
use Rattle.feeding.specs.Loads.{Fed, load_at}
use Rattle.feeding.specs.Safety.{Safe}
use Rattle.feeding.specs.Restoration.{total_load}
use Rattle.feeding.proofs.Hanging.{safe_at_most}
use Rattle.feeding.proofs.Views.{formed_net}
use Rattle.feeding_acceptance.specs.Reading.{Bytes, AcceptedNetwork, accepted_read}
use Rattle.plan_sums.specs.declared.Sums.{Sums}
use Rattle.plan_sums.specs.Sums.{LoadsIn}
use Rattle.plan_outcome.specs.Outcomes.{outcome_read, outcome_by, outcome}
use Rattle.plan_outcome.proofs.Exactly.{outcome_decided}
use Rattle.planner.specs.Replies.{lines_of}
use Rattle.judge_line.specs.MarkLines.{mark_line}
use Rattle.judge.specs.Judging.{mark_of_read, mark_for_by}
use Rattle.judge.proofs.Marking.{mark_decided}
use Rattle.theorems.proofs.AsEver as AsEver
use Rattle.theorems.proofs.Exactly as Exactly
use Rattle.theorems.proofs.Lengths as Lengths
use Rattle.theorems.specs.Words.{plan_text, mark_text, plan_text_by, mark_text_by, document_one, Without}

-- ---- "Kind 7 is an element with load and capacity of four bytes each, then flags, length 14,"

-- a number of four bytes, low byte first
pub four_bytes : (s : List ℕ) (at : ℕ) → wide_word s at ≡ get_or s at 0 + 256 * get_or s (at + 1) 0 + 65536 * get_or s (at + 2) 0 + 16777216 * get_or s (at + 3) 0
unfolding wide_word word
four_bytes s at = rw (add_assoc at 2 1) (omega arith)

module _ (s : List ℕ) (E K at : ℕ) (stage : Stage) (seven : kind_field s at ≡ 7) where
  -- any other length breaks rule 3
  pub length_14 : BreaksRule s E K at stage WrongLength ↔ ¬ (length_field s at ≡ 14)
  unfolding length_of
  length_14 = (λ broken e. broken (rw (seven, e) wide_element_lem), λ other k. other (length_only (subst (λ (x : ℕ). KindLength x (length_field s at)) seven k)))

  -- rule 6 looks at the flags behind load and capacity
  pub flags_refused : BreaksRule s E K at stage UnknownFlags ↔ (3 < word s (at + 12))
  flags_refused = (λ x. exceed x.3 x.4, λ h. (wide_word s (at + 4), wide_word s (at + 8), word s (at + 12), wide seven, h))
    where
      exceed : {load capacity flags : ℕ} → StatesElement s at load capacity flags → 3 < flags → 3 < word s (at + 12)
      exceed (narrow two) h = absurd (omega (arith, seven, two))
      exceed (wide _) h = h

-- what an accepted network has of it
pub element_is : (s : List ℕ) (n : Network) → AcceptedNetwork s n → (i at : ℕ) → i < word s 4
    → Stand s (word s 4) (word s 6) (Head ∷ replicate i Elements) 0 at → kind_field s at ≡ 7
    → ElementIs n i (wide_word s (at + 4)) (wide_word s (at + 8)) (word s (at + 12))
element_is s n a i at lt stand seven = a.file.states.element i at _ _ _ lt stand (wide seven)

-- ---- "and may stand wherever kind 2 may."

pub wherever : (stage next : Stage) → ComesNext stage 7 next ↔ ComesNext stage 2 next
unfolding next_stage
wherever stage next = (λ c. comes_next stage 2 next (sym (same stage) ∙ in_table c), λ c. comes_next stage 7 next (same stage ∙ in_table c))
  where
    same : (st : Stage) → next_stage st 7 ≡ next_stage st 2
    same Head = refl
    same Elements = refl
    same Links = refl
    same End = refl
    same PlanHead = refl
    same Steps = refl
    same PlanEnd = refl
    same Over = refl

-- ---- "All loads and their sums are held wide enough that nothing is lost.": loads below 2 ^ 32 in a u32, their sums below 2 ^ 38 in a u64, and what is printed
-- is the sum itself (`LoadsIn` of `PlannerReply`)

module _ (s : List ℕ) (bytes : Bytes s) (n : Network) (a : AcceptedNetwork s n) where
  pub load_held : (i : ℕ) → i < n.elements → (get_or n.load i 0 < 2 ^ 32) × (get_or n.capacity i 0 < 2 ^ 32)
  load_held i lt = let w = file_formed s bytes n a.file in (w.load_in_lem i lt, w.capacity_in i lt)

  pub sums_held : (c : Config) (l : Sums) → LoadsIn (net_of n) c l → (l.fed + l.dark + l.lost ≡ total_load (net_of n).grid) × (total_load (net_of n).grid < 2 ^ 38)
  sums_held c l x = (x.total, Lengths.total_within n (file_formed s bytes n a.file))

  -- the load that an element bears in a safe configuration
  pub borne_held : (c : Config) → Safe (net_of n).grid c → (e via : ℕ) → Fed (net_of n).grid c e via → load_at (net_of n).grid c e via < 2 ^ 38
  borne_held c safe e via fed =
      let w = file_formed s bytes n a.file in
      omega (arith, safe_at_most (net_of n).grid (formed_net n w) c safe fed, Lengths.total_within n w)

-- ---- "Input may now be longer: the first 8,192 bytes decide, here and in all later items but 14."

pub library_decided : (s : List ℕ) → outcome (take 8192 s) ≡ outcome s
library_decided = outcome_decided

pub planner_decided : (s : List ℕ) → plan_text (take 8192 s) ≡ plan_text s
planner_decided s = ap lines_of (outcome_decided s)

pub judge_decided : (s : List ℕ) → mark_text (take 8192 s) ≡ mark_text s
judge_decided s = ap mark_line (mark_decided s)

-- ---- "A file of kind 2 records gets the plan and marks it always got,": what a reader gives that knows the kinds of document 01 alone, refusals included, but
-- where that refuses a record of a later kind by rule 2

-- a record of a kind of document 01 is found and refused as ever, one of any other is refused by rule 2 where four bytes
-- stand there
pub known_record : (s : List ℕ) (seen : Seen) (at : ℕ) (stage : Stage) → document_one (kind_field s at) ≡ true → due_by document_one s seen at stage ≡ due_at s seen at stage
known_record = Known.known_record document_one

pub unknown_record : (s : List ℕ) (seen : Seen) (at : ℕ) (stage : Stage) → document_one (kind_field s at) ≡ false
    → at + 4 ≤ length s → due_by document_one s seen at stage ≡ Err (record { rule = KindOutOfPlace; place = at })
unknown_record s seen at stage h four =
    Known.unknown_record document_one s seen at stage h (le-ltb (length s - at) 4 (omega arith))

module _ (s : List ℕ) where
  pub library_as_ever : ((place : ℕ) → network_input_by document_one s ≡ refused (record { rule = KindOutOfPlace; place = place }) → document_one (kind_field s place) ≡ true)
      → outcome s ≡ outcome_by document_one s
  library_as_ever = AsEver.library_as_ever document_one s

  pub planner_as_ever : ((place : ℕ) → network_input_by document_one s ≡ refused (record { rule = KindOutOfPlace; place = place }) → document_one (kind_field s place) ≡ true)
      → plan_text s ≡ plan_text_by document_one s
  planner_as_ever = AsEver.planner_as_ever document_one s

  pub judge_as_ever : ((place : ℕ) → both_input_by document_one s ≡ refused (record { rule = KindOutOfPlace; place = place }) → document_one (kind_field s place) ≡ true)
      → mark_text s ≡ mark_text_by document_one s
  judge_as_ever = AsEver.judge_as_ever document_one s

  -- so where no record is of kind 7, nor of item 2's kind 8
  module _ (no-7 : Without 7 s) (no-8 : Without 8 s) where
    known : (n at : ℕ) → Lead s n 0 at → document_one (kind_field s at) ≡ true
    known n at lead = rw (ne_eqb (kind_field s at) 8 (no-8 n at lead), ne_eqb (kind_field s at) 7 (no-7 n at lead))

    pub library_without : outcome s ≡ outcome_by document_one s
    library_without = AsEver.library_of_kinds document_one s known

    pub planner_without : plan_text s ≡ plan_text_by document_one s
    planner_without = AsEver.planner_of_kinds document_one s known

    pub judge_without : mark_text s ≡ mark_text_by document_one s
    judge_without = AsEver.judge_of_kinds document_one s known

-- ---- "and a narrow element rewritten as kind 7 changes no printed line of a file that passes rules 1 to 13.": one after the other, any number of elements;
-- `KeepsNetwork`, `KeepsBoth` ask rule 20 too, as item 2 wishes

module _ (s t : List ℕ) (rewritten : Widenings s t) where
  pub library_narrow_as_wide : KeepsNetwork s → outcome t ≡ outcome s
  unfolding outcome_by
  library_narrow_as_wide keeps = ap (λ (r : Result Network Refusal). outcome_read (accepted_read r)) (all_network s t rewritten keeps)

  pub planner_narrow_as_wide : KeepsNetwork s → plan_text t ≡ plan_text s
  planner_narrow_as_wide keeps = ap lines_of (library_narrow_as_wide keeps)

  pub judge_narrow_as_wide : KeepsBoth s → mark_text t ≡ mark_text s
  unfolding mark_for_by
  judge_narrow_as_wide keeps = ap (λ (r : Result Both Refusal). mark_line (mark_of_read r)) (all_both s t rewritten keeps)

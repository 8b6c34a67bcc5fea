-- What an input always got: the readings where only some kinds are known and where all are give the same network, so the
-- same reply; from the laws of reading, and where each record is of a known kind, since a refusal's place is where a
-- record stands.
-- Assumes nothing.
use mathlib.Core.Path.{◌≡◌, sym, ap}
use mathlib.Core.Bool.{Bool, true}
use mathlib.Core.List.{List}
use Prim.Native.Nat.{ℕ, suc, ◌+◌}
use Rattle.network.specs.declared.Network.{Network}
use Rattle.file_network.specs.Runs.{Reading}
use Rattle.file_network.specs.Inputs.{network_read, network_input_by}
use Rattle.file_records.specs.Records.{kind_field, length_field}
use Rattle.file_network.proofs.Known.{KnownThere, network_input_known, Placed, placed_known, network_input_placed}
use Rattle.file_plan.specs.declared.plan.Plan.{Plan}
use Rattle.file_both.specs.Inputs.{both_input_by, both_read}
use Rattle.file_both.proofs.Known.{both_input_known, both_input_placed}
use Rattle.file_refusals.specs.Breaking.{Lead, none}
use Rattle.file_refusals.proofs.Leads.{lead_more}
use Rattle.feeding_acceptance.specs.Reading.{accepted_read}
use Rattle.plan_outcome.specs.Outcomes.{outcome_read, outcome_by, outcome}
use Rattle.planner.specs.Replies.{lines_of}
use Rattle.judge_line.specs.MarkLines.{mark_line}
use Rattle.judge.specs.Judging.{mark_of_read, mark_for_by}
use Rattle.theorems.specs.Words.{plan_text, mark_text, plan_text_by, mark_text_by}

module _ (known : ℕ → Bool) (s : List ℕ) where
  pub library_as_ever : KnownThere known s (network_input_by known s) → outcome s ≡ outcome_by known s
  unfolding outcome_by
  library_as_ever there = sym (ap (λ (o : Reading Network). outcome_read (accepted_read (network_read o))) (network_input_known known s there))

  pub planner_as_ever : KnownThere known s (network_input_by known s) → plan_text s ≡ plan_text_by known s
  planner_as_ever there = ap lines_of (library_as_ever there)

  pub judge_as_ever : KnownThere known s (both_input_by known s) → mark_text s ≡ mark_text_by known s
  unfolding mark_for_by
  judge_as_ever there = sym (ap (λ (o : Reading (Network × Plan)). mark_line (mark_of_read (both_read o))) (both_input_known known s there))

-- every record, one behind the other by their lengths, is of a known kind
module _ (known : ℕ → Bool) (s : List ℕ) (all : (n at : ℕ) → Lead s n 0 at → known (kind_field s at) ≡ true) where
  abbrev Led : ℕ → Type 0
  Led at = (n : ℕ) × Lead s n 0 at

  on : (at : ℕ) → Led at → Led (at + length_field s at)
  on at (n, lead) = (suc n, lead_more s lead)

  known_there : {A : Type 0} (o : Reading A) → Placed Led o → KnownThere known s o
  known_there o = placed_known Led known s o (λ at led. all led.0 at led.1)

  pub library_of_kinds : outcome s ≡ outcome_by known s
  library_of_kinds =
      library_as_ever known s (known_there (network_input_by known s) (network_input_placed Led known s on (0, none)))

  pub planner_of_kinds : plan_text s ≡ plan_text_by known s
  planner_of_kinds = ap lines_of library_of_kinds

  pub judge_of_kinds : mark_text s ≡ mark_text_by known s
  judge_of_kinds =
      judge_as_ever known s (known_there (both_input_by known s) (both_input_placed Led known s on (0, none)))

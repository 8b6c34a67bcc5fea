-- `file_plan::reader::plan_file` reads the plan head and hands on: a refusal as it is, else the steps behind the head.
use mathlib.Core.Path.{◌≡◌, ap, sym, ◌∙◌}
use native.Mathlib.Omega.{arith}
use Rattle.std.proofs.Common.{rules}
use Rattle.std.specs.Prelude.{Err}
use Rattle.file_fields.specs.Views.{links_seen}
use Rattle.file_stages.specs.declared.Stage.TheVariants.{PlanHead}
use Rattle.file_network.specs.Runs.{always}
use Rattle.file_network.specs.Inputs.{part_of}
use Rattle.file_plan.specs.PlanFiles.{empty_plan, steps_on, plan_file_by}
use Rattle.file_records.proofs.Due.{due_kept, plan_head_kept}
use Rattle.file_network.proofs.Chains.{head_refused, head_found}
use Rattle.file_plan.proofs.reader.plan_file.Goals as goal

pub returns-in_err-head : goal.returns-in_err-head
unfolding plan_file_by links_seen
returns-in_err-head c =
    let a = c.args in
    let seen = links_seen a.links in
    let same : c.from_residual.result ≡ Err (c.in_err-head.field-0.0) = search rules in
    same ∙ ap part_of (head_refused a.s.now (always seen) a.at PlanHead empty_plan (steps_on a.s.now seen a.at) _ c.in_err-head.ensures)

pub overflow_add-after : goal.overflow_add-after
unfolding links_seen
overflow_add-after c =
    let a = c.args in
    omega (arith, (due_kept a.s.now (links_seen a.links) a.at PlanHead (sym c.in_ok-head.ensures)).framed.fits)

pub steps_on-requires : goal.steps_on-requires
unfolding links_seen
steps_on-requires c =
    let a = c.args in
    let w = due_kept a.s.now (links_seen a.links) a.at PlanHead (sym c.in_ok-head.ensures) in
    (omega (arith, w.framed.fits, w.framed.enough), plan_head_kept w, w.framed.next_at_lem)

pub returns : goal.returns
unfolding plan_file_by links_seen
returns c =
    let a = c.args in
    let seen = links_seen a.links in
    c.steps_on.ensures ∙ ap part_of (head_found a.s.now (always seen) a.at PlanHead empty_plan (steps_on a.s.now seen a.at) _ c.in_ok-head.ensures)

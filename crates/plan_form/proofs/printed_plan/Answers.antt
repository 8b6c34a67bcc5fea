-- The printed form: a sweep of openings, and a sweep of closings behind it.
use Rattle.plan_form.proofs.Sweeping.{first_reach, next_reach, form_made}
use Rattle.plan_form.proofs.printed_plan.Goals as goal

pub with_steps-opened-requires : goal.with_steps-opened-requires
with_steps-opened-requires c =
    let the-args = c.args in
    first_reach the-args.operated.now the-args.closed.now the-args.links c.requires c.empty.result c.empty.ensures

pub with_steps-requires : goal.with_steps-requires
with_steps-requires c =
    let the-args = c.args in
    let pre· = c.requires in
    next_reach the-args.operated.now the-args.closed.now the-args.links pre· _ _ c.empty.result c.with_steps-opened.result
    c.empty.ensures c.with_steps-opened.ensures

pub returns : goal.returns
returns c =
    let the-args = c.args in
    form_made the-args.operated.now the-args.closed.now the-args.links c.empty.result c.with_steps-opened.result _
    c.empty.ensures c.with_steps-opened.ensures c.with_steps.ensures

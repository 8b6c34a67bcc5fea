-- The parts before, and where they have a source, the loads from it afterwards.
use mathlib.Core.Path.{refl, sym, ◌∙◌}
use Rattle.judge_closing.proofs.Joinings.{clash_answer, dark_answer, fed_answer}
use Rattle.judge_closing.proofs.closing_safe.Goals as goal

pub joining_at-joining-requires : goal.joining_at-joining-requires
joining_at-joining-requires c =
    c.requires.joinable

pub within_from-requires : goal.within_from-requires
within_from-requires c =
    let pre· = c.requires in
    record { walk_lent = pre·.after; elements_bound = (pre·.joinable.few, pre·.fed_in _ (sym c.joining_at-joining.ensures.value ∙ c.in-FedBy.is)) }

pub returns-in-Clash : goal.returns-in-Clash
returns-in-Clash c =
    let the-args = c.args in
    record { value = clash_answer the-args.walk.now the-args.closed.now the-args.sign.now the-args.l c.joining_at-joining.result c.joining_at-joining.ensures.value c.in-Clash.is; closed_after = refl; sign_unchanged = c.joining_at-joining.ensures.sign_unchanged }

pub returns-in-Dark : goal.returns-in-Dark
returns-in-Dark c =
    let the-args = c.args in
    record { value = dark_answer the-args.walk.now the-args.closed.now the-args.sign.now the-args.l c.joining_at-joining.result c.joining_at-joining.ensures.value c.in-Dark.is; closed_after = refl; sign_unchanged = c.joining_at-joining.ensures.sign_unchanged }

pub returns-in-FedBy : goal.returns-in-FedBy
returns-in-FedBy c =
    let the-args = c.args in
    record { value = fed_answer the-args.walk.now the-args.closed.now the-args.sign.now the-args.l c.joining_at-joining.result c.joining_at-joining.ensures.value _ c.in-FedBy.is _ c.within_from.ensures; closed_after = refl; sign_unchanged = c.joining_at-joining.ensures.sign_unchanged }

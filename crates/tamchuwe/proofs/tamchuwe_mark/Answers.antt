-- The numbers are those of the mark that `mark_of` gives.
use mathlib.Core.Path.{ap, ◌∙◌, subst}
use Rattle.judge_marks.specs.declared.Mark.{Mark}
use Rattle.judge_line.specs.MarkLines.{mark_line}
use Rattle.judge.specs.Judging.{JudgeReply}
use Rattle.host_values.specs.Values.{mark_kind, mark_values}
use Rattle.tamchuwe.proofs.Values.{valued}
use Rattle.network.proofs.Pairs.{both}
use Rattle.tamchuwe.proofs.tamchuwe_mark.Goals as goal

pub returns : goal.returns
returns c =
    let a = c.args in
    let reply = subst (λ (m : Mark). JudgeReply a.input.now (mark_line m)) c.mark_of-mark.ensures.value c.mark_of-mark.ensures.judge_reply in
    record { value = c.mark_kind.ensures ∙ ap mark_kind c.mark_of-mark.ensures.value; values_after = (valued _ _ _ a.values.now _ _ (c.mark_values-found.ensures ∙ ap mark_values c.mark_of-mark.ensures.value) (both c.put_what_fits.ensures.value c.put_what_fits.ensures.lent_after) reply).0; count_after = (valued _ _ _ a.values.now _ _ (c.mark_values-found.ensures ∙ ap mark_values c.mark_of-mark.ensures.value) (both c.put_what_fits.ensures.value c.put_what_fits.ensures.lent_after) reply).1.0; judge_reply = (valued _ _ _ a.values.now _ _ (c.mark_values-found.ensures ∙ ap mark_values c.mark_of-mark.ensures.value) (both c.put_what_fits.ensures.value c.put_what_fits.ensures.lent_after) reply).1.1 }

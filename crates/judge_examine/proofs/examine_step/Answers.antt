-- One step, test by test.
use mathlib.Core.Path.{refl, sym, ◌∙◌}
use native.Mathlib.Omega.{arith}
use Rattle.feeding.specs.Networks.{at}
use Rattle.judge_marks.proofs.Examining.{all_unbad}
use Rattle.judge_examine.proofs.Steps.{not_operable, already_so, opened, closed_safe, closed_unsafe, stored}
use Rattle.judge_examine.proofs.examine_step.Goals as goal

pub returns-then-operable-ne1 : goal.returns-then-operable-ne1
returns-then-operable-ne1 c =
    let the-args = c.args in
    record { value = not_operable the-args.step the-args.operable (at the-args.closed.now the-args.l) the-args.want _ (omega arith) _ refl; closed_after = (λ h. absurd (all_unbad _ (sym h))); sign_unchanged = refl }

pub returns-then-state-want : goal.returns-then-state-want
returns-then-state-want c =
    let the-args = c.args in
    record { value = already_so the-args.step the-args.operable (at the-args.closed.now the-args.l) the-args.want _ (omega arith) (omega arith) _ refl; closed_after = (λ h. absurd (all_unbad _ (sym h))); sign_unchanged = refl }

pub returns-then-want-ne1 : goal.returns-then-want-ne1
returns-then-want-ne1 c =
    let the-args = c.args in
    record { value = opened the-args.step the-args.operable (at the-args.closed.now the-args.l) the-args.want _ (omega arith) (omega arith) (omega arith); closed_after = (λ _. refl); sign_unchanged = refl }

pub closing_safe-requires : goal.closing_safe-requires
closing_safe-requires c =
    let pre· = c.requires in
    pre·.closable (omega arith)

pub returns-then-closing_safe : goal.returns-then-closing_safe
returns-then-closing_safe c =
    let the-args = c.args in
    record { value = closed_safe the-args.step the-args.operable (at the-args.closed.now the-args.l) the-args.want _ (omega arith) (omega arith) (omega arith) c.closing_safe.result c.closing_safe.ensures.value c.if-closing_safe.true; closed_after = (λ _. c.closing_safe.ensures.closed_after ∙ stored the-args.closed.now the-args.l the-args.want (omega arith)); sign_unchanged = c.closing_safe.ensures.sign_unchanged }

pub returns : goal.returns
returns c =
    let the-args = c.args in
    record { value = closed_unsafe the-args.step the-args.operable (at the-args.closed.now the-args.l) the-args.want _ (omega arith) (omega arith) (omega arith) c.closing_safe.result c.closing_safe.ensures.value c.if-closing_safe.false _ refl; closed_after = (λ h. absurd (all_unbad _ (sym h))); sign_unchanged = c.closing_safe.ensures.sign_unchanged }

-- Two walks over the parts of the two ends, with the second end as the target; its sign is put back.
use mathlib.Core.Path.{◌∙◌}
use lib.Seq.{set-set, set-get_or}
use Rattle.judge_closing.proofs.Joinings.{first_walk, second_walk, walked}
use Rattle.judge_closing.proofs.joining_at.Goals as goal

pub element_sum-first-requires : goal.element_sum-first-requires
element_sum-first-requires c =
    let pre· = c.requires in
    record { sum_lent = pre·.before; e_lt_elements = pre·.first_in; via_bound = first_walk pre· }

pub element_sum-second-requires : goal.element_sum-second-requires
element_sum-second-requires c =
    let pre· = c.requires in
    record { sum_lent = pre·.before; e_lt_elements = pre·.second_in; via_bound = second_walk pre· }

pub returns : goal.returns
returns c =
    let pre· = c.requires in
    let the-args = c.args in
    record { value = walked pre· c.element_sum-first.result c.element_sum-second.result c.element_sum-first.ensures c.element_sum-second.ensures _ c.joining_by.ensures; sign_unchanged = set-set the-args.sign.now _ _ _ ∙ set-get_or the-args.sign.now _ 0 }

-- `texts::put_refused` meets its contract: it is the line of the rule's number and the place.
use native.Mathlib.Omega.{arith}
use Rattle.network.specs.Refusals.{rule_number}
use Rattle.texts.specs.Texts.{refused_word, refused_line}
use Rattle.texts.proofs.Pieces.{line_same}
use Rattle.network.proofs.Pairs.{both}
use Rattle.texts.proofs.put_refused.Goals as goal

pub returns : goal.returns
unfolding refused_line
returns c =
    let the-args = c.args in
    record { upper_bound = omega arith; value = (line_same the-args.out.now _ the-args.at _ _ _ (rule_number the-args.refused.rule) the-args.refused.place refused_word (both c.put_line.ensures.value c.put_line.ensures.out_after) (omega arith) (omega arith)).0; out_after = (line_same the-args.out.now _ the-args.at _ _ _ (rule_number the-args.refused.rule) the-args.refused.place refused_word (both c.put_line.ensures.value c.put_line.ensures.out_after) (omega arith) (omega arith)).1 }

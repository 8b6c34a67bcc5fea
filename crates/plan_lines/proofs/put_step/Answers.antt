-- `plan_lines::put_step` meets its contract: word, link and line feed stored one behind the other are the step's line.
use native.Mathlib.Omega.{arith}
use Rattle.texts.proofs.Pieces.{line_one, field_16}
use Rattle.plan_lines.specs.Lines.{step_word, step_line}
use Rattle.plan_lines.proofs.Lines.{word_length, step_length}
use Rattle.network.proofs.Pairs.{both}
use Rattle.plan_lines.proofs.put_step.Goals as goal

pub put_field-first-requires : goal.put_field-first-requires
put_field-first-requires c =
    let a = c.args in
    omega (arith, word_length a.close, field_16 a.link (omega arith))

pub put_feed-requires : goal.put_feed-requires
put_feed-requires c =
    let a = c.args in
    omega (arith, word_length a.close, field_16 a.link (omega arith))

pub returns : goal.returns
unfolding step_line
returns c =
    let a = c.args in
    let line = line_one a.out.now _ _ _ a.at _ _ _ _ a.link (step_word a.close) (both c.put_word-word.ensures.value c.put_word-word.ensures.out_after) (both c.put_field-first.ensures.value c.put_field-first.ensures.out_after)
    (both c.put_feed.ensures.value c.put_feed.ensures.out_after) (omega arith) in
    record { upper_bound = omega (arith, step_length a.link a.close (omega arith), line.0); value = line.0; out_after = line.1 }

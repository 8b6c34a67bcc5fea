-- `plan_lines::put_load` meets its contract: word, three fields and line feed stored one behind the other are the line of the loads.
use native.Mathlib.Omega.{arith}
use Rattle.texts.proofs.Pieces.{line_three, field_64}
use Rattle.plan_lines.specs.Lines.{load_word, load_line}
use Rattle.network.proofs.Pairs.{both}
use Rattle.plan_lines.proofs.put_load.Goals as goal

pub put_field-first-requires : goal.put_field-first-requires
put_field-first-requires c =
    let a = c.args in
    omega (arith, field_64 a.sums.fed (omega arith), field_64 a.sums.dark (omega arith), field_64 a.sums.lost (omega arith))

pub put_field-second-requires : goal.put_field-second-requires
put_field-second-requires c =
    let a = c.args in
    omega (arith, field_64 a.sums.fed (omega arith), field_64 a.sums.dark (omega arith), field_64 a.sums.lost (omega arith))

pub put_field-third-requires : goal.put_field-third-requires
put_field-third-requires c =
    let a = c.args in
    omega (arith, field_64 a.sums.fed (omega arith), field_64 a.sums.dark (omega arith), field_64 a.sums.lost (omega arith))

pub put_feed-requires : goal.put_feed-requires
put_feed-requires c =
    let a = c.args in
    omega (arith, field_64 a.sums.fed (omega arith), field_64 a.sums.dark (omega arith), field_64 a.sums.lost (omega arith))

pub returns : goal.returns
unfolding load_line
returns c = let a = c.args in let whole = line_three a.out.now _ _ _ _ _ a.at _ _ _ _ _ _ _ _ a.sums.fed a.sums.dark a.sums.lost load_word (both c.put_text-word.ensures.value c.put_text-word.ensures.out_after) (both c.put_field-first.ensures.value c.put_field-first.ensures.out_after)
    (both c.put_field-second.ensures.value c.put_field-second.ensures.out_after) (both c.put_field-third.ensures.value c.put_field-third.ensures.out_after) (both c.put_feed.ensures.value c.put_feed.ensures.out_after) (omega arith) (omega arith) (omega arith) in record { value = whole.0; out_after = whole.1 }

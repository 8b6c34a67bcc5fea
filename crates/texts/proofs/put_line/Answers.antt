-- `texts::put_line` meets its contract: word, two fields and line feed stored one behind the other are the line.
use native.Mathlib.Omega.{arith}
use Rattle.texts.proofs.Pieces.{line_of_lem, field_64}
use Rattle.network.proofs.Pairs.{both}
use Rattle.texts.proofs.put_line.Goals as goal

pub put_field-next-requires : goal.put_field-next-requires
put_field-next-requires c =
    let the-args = c.args in
    omega (arith, field_64 the-args.first (omega arith), field_64 the-args.second (omega arith))

pub put_field-last-requires : goal.put_field-last-requires
put_field-last-requires c =
    let the-args = c.args in
    omega (arith, field_64 the-args.first (omega arith), field_64 the-args.second (omega arith))

pub put_feed-requires : goal.put_feed-requires
put_feed-requires c =
    let the-args = c.args in
    omega (arith, field_64 the-args.first (omega arith), field_64 the-args.second (omega arith))

pub returns : goal.returns
returns c =
    let the-args = c.args in
    let put-text· = c.put_text-after in
    let put-field· = c.put_field-next in
    let put-field2· = c.put_field-last in
    let put = line_of_lem the-args.out.now _ _ _ _ the-args.at _ _ _ _ the-args.first the-args.second the-args.word.now (both put-text·.ensures.value put-text·.ensures.out_after) (both put-field·.ensures.value put-field·.ensures.out_after) (both put-field2·.ensures.value put-field2·.ensures.out_after) (both c.put_feed.ensures.value c.put_feed.ensures.out_after) in
    record { upper_bound = omega (arith, field_64 the-args.first (omega arith), field_64 the-args.second (omega arith)); value = put.0; out_after = put.1 }

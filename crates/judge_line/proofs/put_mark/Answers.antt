-- `judge_line::put_mark` meets its contract: each arm puts its case's line, whose length is bounded by the digits of 64 bits.
use native.Mathlib.Omega.{arith}
use Rattle.texts.proofs.Pieces.{field_64}
use Rattle.judge_line.proofs.Lines.{broken_put, short_put, valid_put, refused_put}
use Rattle.network.proofs.Pairs.{both}
use Rattle.judge_line.proofs.put_mark.Goals as goal

pub put_field-next-requires : goal.put_field-next-requires
put_field-next-requires c =
    omega (arith, field_64 c.in-Short.element (omega arith))

pub put_feed-requires : goal.put_feed-requires
put_feed-requires c =
    omega (arith, field_64 c.in-Short.element (omega arith))

pub returns-in-Broken : goal.returns-in-Broken
returns-in-Broken c =
    let the-args = c.args in
    record { upper_bound = omega arith; value = (broken_put the-args.out.now _ the-args.at _ the-args.mark _ _ c.in-Broken.bad c.in-Broken.is (both c.put_line.ensures.value c.put_line.ensures.out_after) (omega arith) (omega arith)).0; out_after = (broken_put the-args.out.now _ the-args.at _ the-args.mark _ _ c.in-Broken.bad c.in-Broken.is (both c.put_line.ensures.value c.put_line.ensures.out_after) (omega arith) (omega arith)).1 }

pub returns-in-Short : goal.returns-in-Short
returns-in-Short c =
    let the-args = c.args in
    record { upper_bound = omega (arith, field_64 c.in-Short.element (omega arith)); value = (short_put the-args.out.now _ the-args.at _ the-args.mark _ _ _ _ _ c.in-Short.element c.in-Short.is (both c.put_text-after.ensures.value c.put_text-after.ensures.out_after) (both c.put_field-next.ensures.value c.put_field-next.ensures.out_after) (both c.put_feed.ensures.value c.put_feed.ensures.out_after) (omega arith)).0; out_after = (short_put the-args.out.now _ the-args.at _ the-args.mark _ _ _ _ _ c.in-Short.element c.in-Short.is (both c.put_text-after.ensures.value c.put_text-after.ensures.out_after) (both c.put_field-next.ensures.value c.put_field-next.ensures.out_after) (both c.put_feed.ensures.value c.put_feed.ensures.out_after) (omega arith)).1 }

pub returns-in-Valid : goal.returns-in-Valid
returns-in-Valid c =
    let the-args = c.args in
    record { upper_bound = omega arith; value = (valid_put the-args.out.now _ the-args.at _ the-args.mark _ _ c.in-Valid.score c.in-Valid.is (both c.put_line-in-Valid.ensures.value c.put_line-in-Valid.ensures.out_after) (omega arith) (omega arith)).0; out_after = (valid_put the-args.out.now _ the-args.at _ the-args.mark _ _ c.in-Valid.score c.in-Valid.is (both c.put_line-in-Valid.ensures.value c.put_line-in-Valid.ensures.out_after) (omega arith) (omega arith)).1 }

pub returns-in-Refused : goal.returns-in-Refused
returns-in-Refused c =
    let the-args = c.args in
    record { upper_bound = omega arith; value = (refused_put the-args.out.now _ the-args.at _ the-args.mark c.in-Refused.refusal c.in-Refused.is (both c.put_refused.ensures.value c.put_refused.ensures.out_after)).0; out_after = (refused_put the-args.out.now _ the-args.at _ the-args.mark c.in-Refused.refusal c.in-Refused.is (both c.put_refused.ensures.value c.put_refused.ensures.out_after)).1 }

-- `plan_lines::put_margin` meets its contract: the pieces stored one behind the other are the line of the margin.
use mathlib.Core.Path.{refl}
use native.Mathlib.Omega.{arith}
use mir.Syntax.{w64}
use mir.Val.{SFits}
use mir.Facts.{to_z-of_z}
use Rattle.std.proofs.Common.{rules}
use Rattle.texts.proofs.Pieces.{field_64, signed_bits}
use Rattle.plan_lines.proofs.Lines.{margin_at_lem, margin_none}
use Rattle.network.proofs.Pairs.{both}
use Rattle.plan_lines.proofs.put_margin.Goals as goal

pub returns-in-None : goal.returns-in-None
returns-in-None c =
    let a = c.args in
    let word = (both c.put_text-word.ensures.value c.put_text-word.ensures.out_after) in
    let mark = (both c.put_text-mark.ensures.value c.put_text-mark.ensures.out_after) in
    let end = (both c.put_feed.ensures.value c.put_feed.ensures.out_after) in
    record { upper_bound = omega arith; value = (margin_none a.out.now _ _ _ a.at _ _ _ a.spot c.in-None.is word mark end).0; out_after = (margin_none a.out.now _ _ _ a.at _ _ _ a.spot c.in-None.is word mark end).1 }

pub put_field-first-requires : goal.put_field-first-requires
put_field-first-requires c =
    let fit : SFits w64 c.in-Some.tightest.margin = search rules in
    let first = field_64 c.in-Some.tightest.element (omega arith) in
    let second = signed_bits c.in-Some.tightest.margin fit in
    omega (arith, first)

pub put_signed-second-requires : goal.put_signed-second-requires
put_signed-second-requires c =
    let fit : SFits w64 c.in-Some.tightest.margin = search rules in
    let first = field_64 c.in-Some.tightest.element (omega arith) in
    let second = signed_bits c.in-Some.tightest.margin fit in
    omega (arith, first, second)

pub put_feed-requires-in-Some : goal.put_feed-requires-in-Some
put_feed-requires-in-Some c =
    let fit : SFits w64 c.in-Some.tightest.margin = search rules in
    let first = field_64 c.in-Some.tightest.element (omega arith) in
    let second = signed_bits c.in-Some.tightest.margin fit in
    omega (arith, first, second)

pub returns-in-Some : goal.returns-in-Some
returns-in-Some c =
    let a = c.args in
    let fit : SFits w64 c.in-Some.tightest.margin = search rules in
    let first = field_64 c.in-Some.tightest.element (omega arith) in
    let second = signed_bits c.in-Some.tightest.margin fit in
    let word = (both c.put_text-word.ensures.value c.put_text-word.ensures.out_after) in
    let element = (both c.put_field-first.ensures.value c.put_field-first.ensures.out_after) in
    let number = (both c.put_signed-second.ensures.value c.put_signed-second.ensures.out_after) in
    let end = (both c.put_feed-in-Some.ensures.value c.put_feed-in-Some.ensures.out_after) in
    let line = margin_at_lem a.out.now _ _ _ _ a.at _ _ _ _ _ _ a.spot c.in-Some.tightest c.in-Some.is word element number end refl (to_z-of_z fit) in
    record { upper_bound = omega (arith, first, second); value = line.0; out_after = line.1 }

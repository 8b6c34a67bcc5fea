-- What a read answers lies within the buffer, and shows what came.
-- Assumes nothing.
use Rattle.std.proofs.Common.{ℕ, ◌+◌, ◌-◌, min, length, take, ◌++◌, List, refl, sym, ap, ◌∙◌, take_all, take_at, length-take-le, arith}
use Rattle.std.proofs.Math.Nat.{min-eq_left}
use Rattle.streams.proofs.Brought.{part_shown, brings}
use borrow.Rule.Slice.PartMut.{put_mid, take_put}
use Rattle.streams.proofs.Answers.{held, grown}
use Rattle.streams.proofs.read_behind.Goals as goal

pub returns-then-at-buffer-clause-held : goal.returns-then-at-buffer-clause-held
returns-then-at-buffer-clause-held g c =
    let after = put_mid c.args.at (length c.args.buffer.now - c.args.at) c.args.buffer.now c.read-got.new.buf in
    held _ _ _ after _ c.input_after.ensures (omega arith)

pub returns-then-at-buffer-clause-grown : goal.returns-then-at-buffer-clause-grown
returns-then-at-buffer-clause-grown g c =
    let after = put_mid c.args.at (length c.args.buffer.now - c.args.at) c.args.buffer.now c.read-got.new.buf in
    grown _ c.args.at _ _ after _ c.input_after.ensures (omega arith)

pub returns-clause-held : goal.returns-clause-held
returns-clause-held g c = held _ _ _ c.args.buffer.now _ c.input_after-2.ensures (omega arith)

pub returns-clause-grown : goal.returns-clause-grown
returns-clause-grown g c = grown _ c.args.at _ _ c.args.buffer.now _ c.input_after-2.ensures (omega arith)

pub returns-then-at-buffer-clause-known : goal.returns-then-at-buffer-clause-known
returns-then-at-buffer-clause-known g c =
    let at = c.args.at in
    let before = c.args.buffer.now in
    let part = c.read-got.new.buf in
    let room = length before - at in
    let after = put_mid at room before part in
    let short = length-take-le at before (omega arith) in
    let start = take_put at room before part (omega arith) ∙ sym (take_all (length after) (take at before) (omega arith)) in
    brings _ at _ (take at before) part after _ _ _ c.input_after.ensures c.read-got.ensures.bound c.read-got.ensures.bytes (omega arith) start (λ k l.
    ap (λ (n : ℕ). take (at + n) after) (min-eq_left (omega (arith, l)))
    ∙ part_shown at k room before part (omega arith) l (omega (arith, l)))

pub returns-clause-known : goal.returns-clause-known
returns-clause-known g c =
    let at = c.args.at in
    let buffer = c.args.buffer.now in
    let came = c.read-got-2.new.buf in
    let whole = take_all at buffer (omega arith) in
    let start = sym (ap (λ (l : List ℕ). take (length buffer) l) whole) in
    brings _ (length buffer) _ (take at buffer) came buffer _ _ _ c.input_after-2.ensures c.read-got-2.ensures.bound c.read-got-2.ensures.bytes (omega arith) start (λ k l.
    take_all (length buffer + min k 0) buffer (omega arith)
    ∙ sym (ap (λ (xs : List ℕ). take (length buffer) (xs ++ take k came)) whole ∙ take_at buffer (take k came) (length buffer) refl))

-- `file_fields::word_at` reads a number of two bytes, each below 256.
use mathlib.Core.Path.{refl}
use Prim.Native.Nat.{◌+◌}
use native.Mathlib.Omega.{arith}
use Rattle.file_fields.specs.Fields.{word}
use Rattle.file_fields.proofs.word_at.Goals as goal

pub overflow_cast-low : goal.overflow_cast-low
overflow_cast-low c = omega (arith, c.type_inv.s c.args.at)

pub overflow_cast-high : goal.overflow_cast-high
overflow_cast-high c =
    let a = c.args in
    omega (arith, c.type_inv.s a.at, c.type_inv.s (a.at + 1))

pub overflow_mul-result : goal.overflow_mul-result
overflow_mul-result c =
    let a = c.args in
    omega (arith, c.type_inv.s a.at, c.type_inv.s (a.at + 1))

pub overflow_add-result : goal.overflow_add-result
overflow_add-result c =
    let a = c.args in
    omega (arith, c.type_inv.s a.at, c.type_inv.s (a.at + 1))

pub returns : goal.returns
unfolding word
returns c = refl

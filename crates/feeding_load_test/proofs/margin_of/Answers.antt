-- `margin_of` is a difference of signed numbers, which fits 64 bits.
use native.Mathlib.Omega.{arith}
use Rattle.feeding_load_test.proofs.Signs.{margin_fits, margin_back}
use Rattle.feeding_load_test.proofs.margin_of.Goals as goal

pub overflow_sub-result : goal.overflow_sub-result
overflow_sub-result c = margin_fits c.args.capacity c.args.load (omega arith) (omega arith)

pub returns : goal.returns
returns c = margin_back c.args.capacity c.args.load (omega arith) (omega arith)

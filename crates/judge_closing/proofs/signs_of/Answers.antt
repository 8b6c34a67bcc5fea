-- The signs of all elements: the loop fills the array from the front.
use mathlib.Core.Path.{refl}
use native.Mathlib.Omega.{arith}
use Rattle.judge_closing.proofs.Filling.{filled_none, filled_more, filled_all}
use Rattle.judge_closing.proofs.signs_of.Goals as goal

pub loop-x-init : goal.loop-x-init
loop-x-init c =
    filled_none 64 _

pub loop-x-preserved : goal.loop-x-preserved
loop-x-preserved c =
    let loop· = c.loop-x in
    filled_more 64 _ loop·.x _ loop·.out _ (omega arith) loop·.invariant c.sign_of.ensures refl

pub returns : goal.returns
returns c =
    let loop· = c.loop-x in
    filled_all 64 _ loop·.x _ (omega arith) loop·.invariant

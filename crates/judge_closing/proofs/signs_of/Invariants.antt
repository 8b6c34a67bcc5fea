-- The signs of all elements: the loop fills the array from the front.
use Rattle.feeding.specs.Networks.{at}
use Rattle.judge_closing.proofs.Filling.{Filled}
use Rattle.judge_closing.specs.Checks.{sign_of}
use Rattle.judge_closing.proofs.signs_of.Given as goal

abbrev pub invariant-loop-x : goal.invariant-loop-x
invariant-loop-x l =
    Filled 64 (λ y. sign_of (at l.flags y) y) l.x l.out

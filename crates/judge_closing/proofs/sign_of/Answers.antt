-- What an element adds, by its flags.
use native.Mathlib.Omega.{arith}
use Rattle.judge_closing.proofs.Signing.{sign_source, sign_faulty, sign_none}
use Rattle.judge_closing.proofs.sign_of.Goals as goal

pub returns-in-1 : goal.returns-in-1
returns-in-1 c = sign_source c.args.flags c.args.x _ (omega arith) (omega arith)

pub returns-in-2 : goal.returns-in-2
returns-in-2 c = sign_faulty c.args.flags c.args.x (omega arith) (omega arith)

pub returns-in_default : goal.returns-in_default
returns-in_default c = sign_none c.args.flags c.args.x (omega arith) (omega arith) (omega arith)

pub returns-in_default-2 : goal.returns-in_default-2
returns-in_default-2 c = sign_none c.args.flags c.args.x (omega arith) (omega arith) (omega arith)

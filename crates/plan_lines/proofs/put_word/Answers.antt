-- `plan_lines::put_word` meets its contract: the word that the step asks for is stored.
use mathlib.Core.Bool.{true, false}
use native.Mathlib.Omega.{arith}
use Rattle.plan_lines.proofs.Lines.{word_put}
use Rattle.plan_lines.proofs.put_word.Goals as goal

pub returns-then-close : goal.returns-then-close
returns-then-close c = let a = c.args in let whole = word_put a.out.now _ a.at _ a.close true c.if-close.true (omega arith) c.put_text.ensures.out_after in record { value = whole.0; out_after = whole.1 }

pub returns : goal.returns
returns c = let a = c.args in let whole = word_put a.out.now _ a.at _ a.close false c.if-close.false (omega arith) c.put_text-2.ensures.out_after in record { value = whole.0; out_after = whole.1 }

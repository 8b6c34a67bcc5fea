-- `marks_of` meets its contract: the marks of what is decided.
use mathlib.Core.Path.{sym, ap}
use Rattle.std.proofs.lemmas.Result.{err_from_is_err_and}
use Rattle.final_judge.specs.Finals.{marks_of}
use Rattle.final_judge.proofs.marks_of.Goals as goal

pub returns-in_err-both : goal.returns-in_err-both
returns-in_err-both c =
    let p = err_from_is_err_and c.from_residual.result c.from_residual.ensures.1 in
    rw (p.1, p.2) (ap marks_of (sym c.in_err-both.was))

pub returns : goal.returns
returns c = ap marks_of (sym c.in_ok-both.was)

-- `final_of_files` meets its contract: what is read is decided.
use mathlib.Core.Path.{sym, ap, ◌∙◌}
use native.Mathlib.Omega.{arith}
use Rattle.std.specs.Prelude.{Err}
use Rattle.std.proofs.lemmas.Result.{err_from_is_err_and}
use Rattle.final_judge.proofs.Forming.{formed_files}
use Rattle.final_judge.proofs.Returning.{files_returned, files_unreadable, files_decided}
use Rattle.final_judge.proofs.final_of_files.Goals as goal

pub decide-requires : goal.decide-requires
decide-requires c =
    let a = c.args in
    formed_files a.network.now a.first.now a.second.now (λ i. omega (arith, c.type_inv.network i)) _ (sym c.read_files.ensures ∙ c.in_ok-read.was)

pub returns-in_err-read : goal.returns-in_err-read
returns-in_err-read c =
    let p = err_from_is_err_and c.from_residual.result c.from_residual.ensures.1 in
    let a = c.args in
    let e = files_unreadable a.network.now a.first.now a.second.now c.read_files.result c.read_files.ensures _ c.in_err-read.was in
    let whole = files_returned a.network.now a.first.now a.second.now (λ i. omega (arith, c.type_inv.network i)) _ (p.1 ∙ ap Err p.2 ∙ e) in
    record { value = whole.0; files_decided = whole.1 }

pub returns : goal.returns
returns c =
    let a = c.args in
    let e = files_decided a.network.now a.first.now a.second.now c.read_files.result c.read_files.ensures _ c.in_ok-read.was _ c.decide.ensures in
    let whole = files_returned a.network.now a.first.now a.second.now (λ i. omega (arith, c.type_inv.network i)) _ e in
    record { value = whole.0; files_decided = whole.1 }

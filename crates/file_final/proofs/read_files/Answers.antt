-- `file_final::read_files` reads the network file, then the plan files behind its length.
use mathlib.Core.Path.{sym, ap, ◌∙◌}
use native.Mathlib.Omega.{arith}
use lib.ListN.{length}
use Rattle.std.proofs.lemmas.Result.{err_from_is_err_and}
use Rattle.network.specs.declared.Network.{Network}
use Rattle.file_network.specs.Runs.{Reading, read_on}
use Rattle.file_network.specs.Inputs.{network_input}
use Rattle.file_network.proofs.Sizes.{network_most}
use Rattle.file_final.specs.Inputs.{plans_lent, files_input_by, final_read}
use Rattle.file_final.proofs.Answers.{none, was_whole}
use Rattle.file_final.proofs.read_files.Goals as goal

pub returns-in_err-net : goal.returns-in_err-net
unfolding files_input_by
returns-in_err-net c =
    let p = err_from_is_err_and c.from_residual.result c.from_residual.ensures.1 in
    let a = c.args in
    rw (p.1, p.2) (none (network_input a.network.now) (λ at stage n. plans_lent a.first.now a.second.now (length a.network.now) n) _
    (sym c.read_network.ensures ∙ c.in_err-net.was))

pub plans_lent-requires : goal.plans_lent-requires
plans_lent-requires c =
    let a = c.args in
    let whole = was_whole (network_input a.network.now) _ (sym c.read_network.ensures ∙ c.in_ok-net.was) in
    omega (arith, network_most a.network.now whole.at whole.stage _ whole.is)

pub returns : goal.returns
unfolding files_input_by
returns c =
    let a = c.args in
    let whole = was_whole (network_input a.network.now) _ (sym c.read_network.ensures ∙ c.in_ok-net.was) in
    c.plans_lent.ensures
    ∙ ap (λ (o : Reading Network). final_read (read_on o (λ at stage n. plans_lent a.first.now a.second.now (length a.network.now) n))) (sym whole.is)

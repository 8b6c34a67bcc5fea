-- Rules 1 to 13 and 20, then 14 to 18: what was read is well formed, so it can be judged.
use mathlib.Core.Path.{sym, ap, ◌∙◌}
use native.Mathlib.Omega.{arith}
use Rattle.std.proofs.lemmas.Result.{err_from_is_err_and}
use Rattle.std.specs.Prelude.{Err}
use Rattle.feeding_acceptance.specs.Reading.{accepted_read}
use Rattle.feeding_acceptance.proofs.Reading.{read_well_formed, read_refused, read_decided}
use Rattle.feeding_acceptance.proofs.Promises.{read_admitted}
use Rattle.feeding_acceptance.proofs.read_accepted.Goals as goal

pub accept-requires : goal.accept-requires
accept-requires c =
    read_well_formed c.args.s.now (λ i. omega (arith, c.type_inv.s i)) _ (sym c.read_network.ensures ∙ c.in_ok-net.was)

pub returns-in_err-net : goal.returns-in_err-net
returns-in_err-net c =
    let p = err_from_is_err_and c.from_residual.result c.from_residual.ensures.1 in
    let e = p.1 ∙ ap Err p.2 ∙ read_refused c.read_network.result _ c.in_err-net.was ∙ ap accepted_read c.read_network.ensures in
    let whole = read_admitted c.args.s.now (λ i. omega (arith, c.type_inv.s i)) _ e in
    record { value = whole.0; admission = whole.1 }

pub returns : goal.returns
returns c =
    let e = read_decided c.read_network.result _ _ c.in_ok-net.was c.accept.ensures ∙ ap accepted_read c.read_network.ensures in
    let whole = read_admitted c.args.s.now (λ i. omega (arith, c.type_inv.s i)) _ e in
    record { value = whole.0; admission = whole.1 }

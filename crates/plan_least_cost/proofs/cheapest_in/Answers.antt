-- The bytes are read and judged, and an accepted network has its cheapest cost.
use native.Mathlib.Omega.{arith}
use Rattle.std.proofs.lemmas.Result.{err_from_is_err_and}
use Rattle.feeding_acceptance.proofs.Promises.{read_begun}
use Rattle.plan_least_cost.proofs.Costing.{cheapest_bytes, cheapest_refused}
use Rattle.plan_least_cost.proofs.cheapest_in.Goals as goal

pub cheapest_cost-requires : goal.cheapest_cost-requires
cheapest_cost-requires c =
    read_begun c.args.s.now (λ i. omega (arith, c.type_inv.s i)) c.read_accepted.result c.read_accepted.ensures.value _ c.in_ok-start.was

pub returns-in_err-start : goal.returns-in_err-start
returns-in_err-start c =
    let p = err_from_is_err_and c.from_residual.result c.from_residual.ensures.1 in
    rw (p.1, p.2) (cheapest_refused c.args.s.now _ c.read_accepted.ensures.admission _ c.in_err-start.was)

pub returns : goal.returns
returns c =
    cheapest_bytes c.args.s.now _ c.read_accepted.ensures.admission _ c.in_ok-start.was c.cheapest_cost.result c.cheapest_cost.ensures

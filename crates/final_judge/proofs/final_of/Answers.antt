-- `final_of` meets its contract: what is read is decided, and the part counted from the front of the input.
use mathlib.Core.Path.{sym, ap, ◌∙◌}
use native.Mathlib.Omega.{arith}
use Rattle.std.specs.Prelude.{Err}
use Rattle.std.proofs.lemmas.Result.{err_from_is_err_and}
use Rattle.final_judge.proofs.Forming.{formed_final}
use Rattle.final_judge.proofs.Returning.{own_offset, final_returned, final_unreadable, final_undecided, final_decided}
use Rattle.final_judge.proofs.final_of.Goals as goal

pub decide-requires : goal.decide-requires
decide-requires c =
    formed_final c.args.s.now (λ i. omega (arith, c.type_inv.s i)) _ (sym c.read_final.ensures ∙ c.in_ok-read.was)

pub part_in-part-requires : goal.part_in-part-requires
part_in-part-requires c =
    let z = formed_final c.args.s.now (λ i. omega (arith, c.type_inv.s i)) _ (sym c.read_final.ensures ∙ c.in_ok-read.was) in
    let offset = own_offset c.in_ok-read.read c.in_ok-own.own (sym c.decide.ensures ∙ c.in_ok-own.was) in
    record {
      offset_bound = omega (arith, z.first_behind, z.second_behind_lem, z.short, offset);
      offset_bound_2 = omega (arith, z.second_behind_lem, z.short, offset);
    }

pub returns-in_err-read : goal.returns-in_err-read
returns-in_err-read c =
    let p = err_from_is_err_and c.from_residual.result c.from_residual.ensures.1 in
    let s = c.args.s.now in
    let e = final_unreadable s c.read_final.result c.read_final.ensures _ c.in_err-read.was in
    let whole = final_returned s (λ i. omega (arith, c.type_inv.s i)) _ (p.1 ∙ ap Err p.2 ∙ e) in
    record { value = whole.0; final_decided = whole.1 }

pub returns-in_err-own : goal.returns-in_err-own
returns-in_err-own c =
    let p = err_from_is_err_and c.from_residual-in_err-own.result c.from_residual-in_err-own.ensures.1 in
    let s = c.args.s.now in
    let e = final_undecided s c.read_final.result c.read_final.ensures _ c.in_ok-read.was c.decide.result c.decide.ensures _ c.in_err-own.was in
    let whole = final_returned s (λ i. omega (arith, c.type_inv.s i)) _ (p.1 ∙ ap Err p.2 ∙ e) in
    record { value = whole.0; final_decided = whole.1 }

pub returns : goal.returns
returns c =
    let s = c.args.s.now in
    let e = final_decided s c.read_final.result c.read_final.ensures _ c.in_ok-read.was c.decide.result c.decide.ensures _ c.in_ok-own.was _ c.part_in-part.ensures in
    let whole = final_returned s (λ i. omega (arith, c.type_inv.s i)) _ e in
    record { value = whole.0; final_decided = whole.1 }

-- The first of rules 14 to 17 that is broken: each search finds the place that the definitions give, and a rule counts where those before it are kept.
use mathlib.Core.Path.{◌≡◌, ◌∙◌}
use native.Mathlib.Omega.{arith}
use Rattle.std.proofs.Common.{rules}
use Rattle.feeding.specs.Networks.{net_of}
use Rattle.feeding_safety.proofs.Networks.{checked_all}
use Rattle.feeding_safety.proofs.Steps.{labels_in, last_asks, over_asks, last_reach, not_a_tree, two_sources, fault_with_source, loads_carried, loads_told}
use Rattle.feeding_safety.proofs.check.Goals as goal

pub returns-in_err-unbroken : goal.returns-in_err-unbroken
unfolding net_of
returns-in_err-unbroken c =
    let r = c.requires in
    let ok = checked_all c.args.net r.well_formed c.args.own c.args.closed.now r.own_value r.closed_len in
    let same : c.from_residual.result ≡ c.unbroken.result = search rules in
    same ∙ not_a_tree ok r.parts_value c.tree_place-tree.ensures c.unbroken.ensures c.in_err-unbroken.was

pub last_of_part-last-requires : goal.last_of_part-last-requires
last_of_part-last-requires c =
    let r = c.requires in
    let ok = checked_all c.args.net r.well_formed c.args.own c.args.closed.now r.own_value r.closed_len in
    record { elements_bound = last_asks ok r.parts_value _ r.sound_value; all_below = labels_in ok r.parts_value }

pub pair_place-pair-requires : goal.pair_place-pair-requires
pair_place-pair-requires c =
    let r = c.requires in
    let ok = checked_all c.args.net r.well_formed c.args.own c.args.closed.now r.own_value r.closed_len in
    last_reach ok r.parts_value _ r.sound_value _ c.last_of_part-last.ensures

pub returns-in_err-unbroken-2 : goal.returns-in_err-unbroken-2
unfolding net_of
returns-in_err-unbroken-2 c =
    let r = c.requires in
    let ok = checked_all c.args.net r.well_formed c.args.own c.args.closed.now r.own_value r.closed_len in
    let same : c.from_residual-in_err-unbroken-2.result ≡ c.unbroken-2.result = search rules in
    same ∙ two_sources ok r.parts_value c.tree_place-tree.ensures c.unbroken.ensures
    c.in_ok-unbroken.was r.sound_value c.last_of_part-last.ensures c.pair_place-pair.ensures c.unbroken-2.ensures c.in_err-unbroken-2.was

pub fault_place-fault-requires : goal.fault_place-fault-requires
fault_place-fault-requires c =
    let r = c.requires in
    let ok = checked_all c.args.net r.well_formed c.args.own c.args.closed.now r.own_value r.closed_len in
    last_reach ok r.parts_value _ r.faulty_value _ c.last_of_part-last.ensures

pub returns-in_err-unbroken-3 : goal.returns-in_err-unbroken-3
unfolding net_of
returns-in_err-unbroken-3 c =
    let r = c.requires in
    let ok = checked_all c.args.net r.well_formed c.args.own c.args.closed.now r.own_value r.closed_len in
    let same : c.from_residual-in_err-unbroken-3.result ≡ c.unbroken-3.result = search rules in
    same ∙ fault_with_source ok r.parts_value c.tree_place-tree.ensures c.unbroken.ensures
    c.in_ok-unbroken.was r.sound_value c.last_of_part-last.ensures c.pair_place-pair.ensures c.unbroken-2.ensures
    c.in_ok-unbroken-2.was r.faulty_value c.fault_place-fault.ensures c.unbroken-3.ensures c.in_err-unbroken-3.was

pub over_place-over-requires : goal.over_place-over-requires
over_place-over-requires c =
    let r = c.requires in
    let ok = checked_all c.args.net r.well_formed c.args.own c.args.closed.now r.own_value r.closed_len in
    record {
      lent = ok.lent;
      elements_bound = over_asks ok r.parts_value _ r.sound_value;
      carries = loads_carried ok r.parts_value c.tree_place-tree.ensures c.unbroken.ensures
          c.in_ok-unbroken.was r.sound_value c.last_of_part-last.ensures c.pair_place-pair.ensures c.unbroken-2.ensures
          c.in_ok-unbroken-2.was r.faulty_value c.fault_place-fault.ensures c.unbroken-3.ensures;
    }

pub returns : goal.returns
unfolding net_of
returns c =
    let r = c.requires in
    let ok = checked_all c.args.net r.well_formed c.args.own c.args.closed.now r.own_value r.closed_len in
    loads_told ok r.parts_value c.tree_place-tree.ensures c.unbroken.ensures
    c.in_ok-unbroken.was r.sound_value c.last_of_part-last.ensures c.pair_place-pair.ensures c.unbroken-2.ensures
    c.in_ok-unbroken-2.was r.faulty_value c.fault_place-fault.ensures c.unbroken-3.ensures
    c.in_ok-unbroken-3.was c.over_place-over.ensures c.unbroken-4.ensures

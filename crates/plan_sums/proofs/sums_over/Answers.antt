-- `sums_over` meets its contract. The loop's invariant: the three sums are those over the elements below e.
use native.Mathlib.Omega.{arith}
use Rattle.feeding.specs.Networks.{at, is_in}
use Rattle.plan_sums.proofs.Totals.{sums_none, fed_fits, dark_fits, lost_fits, fed_on, fed_off, dark_on, dark_live, dark_off, lost_on, lost_off, sums_at}
use Rattle.plan_sums.proofs.sums_over.Goals as goal
use Rattle.plan_sums.proofs.sums_over.Goals.{then-is_live-eq1, else-is_live-eq1, then-is_restorable-eq1+then-is_live-ne1, else-is_restorable-eq1, else-is_restorable-eq1-via-then-is_restorable-eq1+else-is_live-ne1, else-is_restorable-eq1-via-else-is_restorable-eq1, then-is_restorable-ne1, else-is_restorable-ne1}

pub loop-e-init : goal.loop-e-init
loop-e-init c =
    sums_none _ _ _ (omega arith) (omega arith) (omega arith) (omega arith)

pub overflow_cast-own : goal.overflow_cast-own
overflow_cast-own c =
    let below = c.requires.load_in_lem c.loop-e.e (omega arith) in
    omega arith

pub overflow_add-fed : goal.overflow_add-fed
overflow_add-fed c =
    search (fed_fits, arith)

pub overflow_add-dark : goal.overflow_add-dark
overflow_add-dark c =
    search (dark_fits, arith)

pub overflow_add-lost : goal.overflow_add-lost
overflow_add-lost c =
    search (lost_fits, arith)

pub loop-e-preserved : goal.loop-e-preserved
loop-e-preserved c =
    let the-args = c.args in
    let loop· = c.loop-e in
    let load = the-args.load.now in
    let live = the-args.live.now in
    let restorable = the-args.restorable.now in
    let e = loop·.e in
    let sums = loop·.invariant in record {
      fed_is = elim c.if-is_live-eq1.branch [
        | then-is_live-eq1 w ↦ fed_on load live restorable e loop·.fed _ sums.fed_is (omega arith) (omega arith)
        | else-is_live-eq1 w ↦ fed_off load live restorable e loop·.fed _ sums.fed_is (omega arith) (omega arith)
      ];
      dark_is = elim c.if-is_restorable-eq1.branch [
        | then-is_restorable-eq1+then-is_live-ne1 w ↦ dark_on load live restorable e loop·.dark _ sums.dark_is
            (omega arith) (omega arith) (omega arith)
        | else-is_restorable-eq1 w ↦ (elim w.else-is_restorable-eq1.branch [
          | else-is_restorable-eq1-via-then-is_restorable-eq1+else-is_live-ne1 v ↦ dark_live load live restorable e loop·.dark _
              sums.dark_is (omega arith) (omega arith)
          | else-is_restorable-eq1-via-else-is_restorable-eq1 v ↦ dark_off load live restorable e loop·.dark _
              sums.dark_is (omega arith) (omega arith)
        ])
      ];
      lost_is = elim c.if-is_restorable-ne1.branch [
        | then-is_restorable-ne1 w ↦ lost_on load live restorable e loop·.lost _ sums.lost_is (omega arith) (omega arith)
        | else-is_restorable-ne1 w ↦ lost_off load live restorable e loop·.lost _ sums.lost_is (omega arith) (omega arith)
      ];
    }

pub returns : goal.returns
returns c =
    let loop· = c.loop-e in
    let the-args = c.args in
    let sums = loop·.invariant in
    sums_at (at the-args.load.now) (is_in the-args.live.now) (is_in the-args.restorable.now) loop·.e _
    (omega arith) sums.fed_is sums.dark_is sums.lost_is

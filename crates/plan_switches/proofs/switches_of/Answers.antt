-- `switches_of` meets its contract. The loop's invariant: the arrays are the columns of the members below l.
use mathlib.Core.Path.{◌≡◌, refl, sym, ap, ◌∙◌}
use native.Mathlib.Omega.{arith}
use lib.Dec.{eqb}
use Rattle.feeding.specs.Below.{gate}
use Rattle.feeding.specs.Networks.{at}
use Rattle.feeding_sets.specs.Sets.{members}
use Rattle.plan_switches.specs.Switches.{switch_list}
use Rattle.plan_switches.proofs.Columns.{column_none, column_on, column_off, count_none, count_on, count_off, count_fits, closed_is, list_is}
use Rattle.network.proofs.Pairs.{both}
use Rattle.plan_switches.proofs.switches_of.Goals as goal
use Rattle.plan_switches.proofs.switches_of.Goals.{else-operable-l-eq1, then-operable-l-eq1}

pub loop-l-init : goal.loop-l-init
loop-l-init c =
    let the-args = c.args in
    let has = the-args.operable.now in
    let net = the-args.net in (
      sym (count_none has),
      column_none has (λ m. m),
      column_none has (at net.from),
      column_none has (at net.to),
      column_none has (λ m. gate (eqb (at net.form m) 2) 1),
      column_none has (at net.cost),
    )

pub overflow_cast-from : goal.overflow_cast-from
overflow_cast-from c =
    let pre· = (both c.requires.well_formed c.requires.operable_len) in
    let loop· = c.loop-l in
    omega (arith, pre·.0.from_in loop·.l (omega arith))

pub overflow_cast-to : goal.overflow_cast-to
overflow_cast-to c =
    let pre· = (both c.requires.well_formed c.requires.operable_len) in
    let loop· = c.loop-l in
    omega (arith, pre·.0.to_in loop·.l (omega arith))

pub overflow_add-count : goal.overflow_add-count
overflow_add-count c = omega (arith, count_fits c.args.operable.now c.loop-l.l c.args.net.links (omega arith) (omega arith) c.requires.operable_len.1)

pub bounds-link-count : goal.bounds-link-count
bounds-link-count c = omega (arith, count_fits c.args.operable.now c.loop-l.l c.args.net.links (omega arith) (omega arith) c.requires.operable_len.1)

pub bounds-from-count : goal.bounds-from-count
bounds-from-count c = omega (arith, count_fits c.args.operable.now c.loop-l.l c.args.net.links (omega arith) (omega arith) c.requires.operable_len.1)

pub bounds-to-count : goal.bounds-to-count
bounds-to-count c = omega (arith, count_fits c.args.operable.now c.loop-l.l c.args.net.links (omega arith) (omega arith) c.requires.operable_len.1)

pub bounds-closed-count : goal.bounds-closed-count
bounds-closed-count c = omega (arith, count_fits c.args.operable.now c.loop-l.l c.args.net.links (omega arith) (omega arith) c.requires.operable_len.1)

pub offset_bounds-price-count : goal.offset_bounds-price-count
offset_bounds-price-count c = omega (arith, count_fits c.args.operable.now c.loop-l.l c.args.net.links (omega arith) (omega arith) c.requires.operable_len.1)

pub bounds-price-count : goal.bounds-price-count
bounds-price-count c = omega (arith, count_fits c.args.operable.now c.loop-l.l c.args.net.links (omega arith) (omega arith) c.requires.operable_len.1)

pub loop-l-preserved : goal.loop-l-preserved
loop-l-preserved c =
    let the-args = c.args in
    let loop· = c.loop-l in
    let pre· = (both c.requires.well_formed c.requires.operable_len) in
    let has = the-args.operable.now in
    let net = the-args.net in
    let l = loop·.l in
    let count = loop·.count in
    (elim c.if-operable-l-eq1.branch [
      | then-operable-l-eq1 w ↦ let fits = count_fits has l net.links (omega arith) (omega arith) pre·.1.1 in (
        count_on has l count _ loop·.invariant.0 (omega arith) w.count-is,
        column_on has (λ m. m) l count _ loop·.link _ loop·.invariant.1 loop·.invariant.0 fits (omega arith) refl w.link-is,
        column_on has (at net.from) l count _ loop·.from _ loop·.invariant.2 loop·.invariant.0 fits (omega arith) refl w.from-is,
        column_on has (at net.to) l count _ loop·.to _ loop·.invariant.3 loop·.invariant.0 fits (omega arith) refl w.to-is,
        column_on has (λ m. gate (eqb (at net.form m) 2) 1) l count _ loop·.closed _ loop·.invariant.4 loop·.invariant.0 fits (omega arith)
            (w.from.ensures ∙ closed_is (eqb (at net.form l) 2))
            w.closed-is,
        column_on has (at net.cost) l count _ loop·.price _ loop·.invariant.5 loop·.invariant.0 fits (omega arith) refl w.price-is,
      )
      | else-operable-l-eq1 w ↦ (
        count_off has l count _ loop·.invariant.0 (omega arith) w.count-is,
        column_off has (λ m. m) l loop·.link _ loop·.invariant.1 (omega arith) w.link-is,
        column_off has (at net.from) l loop·.from _ loop·.invariant.2 (omega arith) w.from-is,
        column_off has (at net.to) l loop·.to _ loop·.invariant.3 (omega arith) w.to-is,
        column_off has (λ m. gate (eqb (at net.form m) 2) 1) l loop·.closed _ loop·.invariant.4 (omega arith) w.closed-is,
        column_off has (at net.cost) l loop·.price _ loop·.invariant.5 (omega arith) w.price-is,
      )
    ])

pub returns : goal.returns
returns c =
    let the-args = c.args in
    let loop· = c.loop-l in
    let net = the-args.net in
    let has = the-args.operable.now in
    let all : loop·.l ≡ net.links = omega arith in
    let inv = loop·.invariant in
    list_is net (members has loop·.l) loop·.link loop·.from loop·.to loop·.closed loop·.price loop·.count
    inv.1 inv.2 inv.3 inv.4 inv.5 inv.0
    ∙ ap (λ m. switch_list net (members has m)) all

-- `spare_of` meets its contract: it hands what is asked on to what is left over.
use mathlib.Core.Path.{sym, ap, subst, ◌∙◌}
use Rattle.plan_supply.specs.Supply.{Sourced, spare_in}
use Rattle.feeding.proofs.Pairs.{both}
use Rattle.plan_supply.proofs.spare_of.Goals as goal

pub left_over-requires : goal.left_over-requires
left_over-requires c =
    let the-args = c.args in
    let pre· = (both c.requires.rated c.requires.sourced) in
    subst (λ xs. Sourced xs the-args.label.now the-args.sound.now the-args.capacity.now the-args.elements) (sym c.asks_of-asked.ensures) pre·.1

pub returns : goal.returns
returns c =
    let the-args = c.args in
    c.left_over.ensures ∙ ap (λ xs. spare_in xs the-args.label.now the-args.sound.now the-args.capacity.now the-args.elements) c.asks_of-asked.ensures

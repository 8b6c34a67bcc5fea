-- `file_network::reader::element_at` reads an element record of either kind: each return by the test of the kind.
use mathlib.Core.Path.{sym, ◌∙◌}
use borrow.Author.Tests.{ne_eqb}
use Rattle.file_network.specs.NetworkFiles.{element_of}
use Rattle.file_network.proofs.Elements.{element_wide}
use Rattle.file_network.proofs.reader.element_at.Goals as goal

pub wide_element-requires : goal.wide_element-requires
wide_element-requires c = c.requires.wide_fits c.if-kind-eq7.true

pub returns-then-kind-eq7 : goal.returns-then-kind-eq7
returns-then-kind-eq7 c =
    let pre = c.requires in
    c.wide_element.ensures ∙ sym (element_wide _ _ (sym pre.kind_is ∙ c.if-kind-eq7.true))

pub narrow_element-requires : goal.narrow_element-requires
narrow_element-requires c = c.requires.narrow_fits

pub returns : goal.returns
unfolding element_of
returns c =
    let pre = c.requires in
    c.narrow_element.ensures ∙ simp (← pre.kind_is, ne_eqb _ _ c.if-kind-eq7.false)

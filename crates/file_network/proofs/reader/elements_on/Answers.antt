-- `file_network::reader::elements_on` reads the elements and hands on: a refusal as it is, else the links from where the elements end.
use mathlib.Core.Path.{◌≡◌, ap, ◌∙◌}
use native.Mathlib.Omega.{arith}
use Rattle.std.proofs.Common.{rules}
use Rattle.std.specs.Prelude.{Err}
use Rattle.file_network.specs.Inputs.{part_of}
use Rattle.file_network.proofs.Chains.{elements_refused, elements_reached, elements_leave}
use Rattle.file_network.proofs.reader.elements_on.Goals as goal

pub read_elements-requires : goal.read_elements-requires
read_elements-requires c =
    let pre = c.requires in
    (omega (arith, c.word_at-count.ensures, pre.1), pre.3)

pub returns-in_err-part : goal.returns-in_err-part
returns-in_err-part c =
    let a = c.args in
    let same : c.from_residual.result ≡ Err (c.in_err-part.field-0.0) = search rules in
    same ∙ elements_refused a.s.now a.at a.stage _ (rw c.word_at-count.ensures at c.in_err-part.ensures)

pub links_on-requires : goal.links_on-requires
links_on-requires c =
    let a = c.args in
    let pre = c.requires in
    let l = elements_leave a.s.now a.at a.stage _ (rw c.word_at-count.ensures at c.in_ok-part.ensures) pre.3 in
    (pre.0, pre.2, l.0, c.after_last.ensures ∙ l.1)

pub returns : goal.returns
returns c =
    let a = c.args in
    c.links_on.ensures ∙ ap part_of (rw c.after_last.ensures
    (elements_reached a.s.now a.at a.stage _ (rw c.word_at-count.ensures at c.in_ok-part.ensures)))

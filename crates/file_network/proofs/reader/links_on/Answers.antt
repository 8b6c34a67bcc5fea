-- `file_network::reader::links_on` reads the links and hands on: a refusal as it is, else the end from where the links end.
use mathlib.Core.Path.{◌≡◌, ap, ◌∙◌}
use native.Mathlib.Omega.{arith}
use Rattle.std.proofs.Common.{rules}
use Rattle.std.specs.Prelude.{Err}
use Rattle.file_network.specs.Inputs.{part_of}
use Rattle.file_network.proofs.Chains.{links_refused, links_reached}
use Rattle.file_network.proofs.reader.links_on.Goals as goal

pub read_links-requires : goal.read_links-requires
read_links-requires c =
    let pre = c.requires in
    (omega (arith, c.word_at-count.ensures, pre.1), pre.2, pre.3)

pub returns-in_err-part : goal.returns-in_err-part
returns-in_err-part c =
    let a = c.args in
    let same : c.from_residual.result ≡ Err (c.in_err-part.field-0.0) = search rules in
    same ∙ links_refused a.s.now a.at a.stage a.net _ (rw c.word_at-count.ensures at c.in_err-part.ensures)

pub returns : goal.returns
returns c =
    let a = c.args in
    c.end_on.ensures ∙ ap part_of (rw c.after_last.ensures
    (links_reached a.s.now a.at a.stage a.net _ (rw c.word_at-count.ensures at c.in_ok-part.ensures)))

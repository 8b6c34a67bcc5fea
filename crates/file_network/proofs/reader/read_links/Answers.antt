-- `file_network::reader::read_links` reads so many links: at each turn what is left to read gives the whole outcome.
use mathlib.Core.Path.{◌≡◌, refl, ap, ◌∙◌}
use Prim.Native.Nat.{ℕ, ◌-◌}
use native.Mathlib.Omega.{arith}
use Rattle.std.proofs.Common.{rules}
use Rattle.std.specs.Prelude.{Err}
use Rattle.file_stages.specs.declared.Stage.TheVariants.{Links}
use Rattle.file_fields.specs.Views.{network_seen}
use Rattle.file_network.specs.Runs.{records}
use Rattle.file_network.specs.NetworkFiles.{with_link}
use Rattle.file_network.specs.Inputs.{part_of}
use Rattle.file_network.proofs.Outcomes.{run_done, run_refused, run_turn, turn_whole}
use Rattle.file_network.proofs.Links.{link_turn}
use Rattle.file_network.proofs.Taken.{link_taken}
use Rattle.file_network.proofs.reader.read_links.Goals as goal

pub loop-i-init : goal.loop-i-init
loop-i-init c =
    let a = c.args in
    let all : a.count - 0 ≡ a.count = omega arith in
    (c.requires.2, c.requires.1, ap (λ (k : ℕ). records a.s.now network_seen (with_link a.s.now) k a.start a.first a.elements) all)

pub returns-in_err-record : goal.returns-in_err-record
unfolding network_seen
returns-in_err-record c =
    let a = c.args in
    let loop = c.loop-i in
    let same : c.from_residual.result ≡ Err (c.in_err-record.field-0.0) = search rules in
    same ∙
    ap part_of (run_refused a.s.now network_seen (with_link a.s.now) _ (a.count - loop.i) loop.at loop.stage loop.net loop.invariant.2 (omega arith) _ c.in_err-record.ensures)

pub link_at-link-requires : goal.link_at-link-requires
unfolding network_seen
link_at-link-requires c =
    let a = c.args in
    let loop = c.loop-i in
    link_turn a.s.now (network_seen loop.net) loop.at loop.stage _ c.in_ok-record.ensures loop.invariant.0

pub overflow_add-at : goal.overflow_add-at
unfolding network_seen
overflow_add-at c =
    let a = c.args in
    let loop = c.loop-i in
    let w = turn_whole a.s.now (network_seen loop.net) loop.at loop.stage Links _ c.in_ok-record.ensures loop.invariant.0 in
    omega (arith, w.fits)

pub loop-i-preserved : goal.loop-i-preserved
unfolding network_seen
loop-i-preserved c =
    let a = c.args in
    let loop = c.loop-i in
    let due = c.in_ok-record.ensures in
    let w = turn_whole a.s.now (network_seen loop.net) loop.at loop.stage Links _ due loop.invariant.0 in (
      w.next_is,
      refl,
      ap (records a.s.now network_seen (with_link a.s.now) _ _ _)
          (link_taken a.s.now loop.at loop.i loop.net _ loop.invariant.1 c.link_at-link.ensures) ∙
          run_turn a.s.now network_seen (with_link a.s.now) _ (a.count - loop.i) loop.at loop.stage loop.net loop.invariant.2 (omega arith) _ _ due (omega arith),
    )

pub returns : goal.returns
returns c =
    let a = c.args in
    let loop = c.loop-i in
    ap part_of (run_done a.s.now network_seen (with_link a.s.now) _ (a.count - loop.i) loop.at loop.stage loop.net loop.invariant.2 (omega arith))

-- `file_network::reader::read_elements` reads so many elements: at each turn what is left to read gives the whole outcome.
use mathlib.Core.Path.{◌≡◌, refl, ap, ◌∙◌}
use Prim.Native.Nat.{ℕ, ◌-◌}
use native.Mathlib.Omega.{arith}
use Rattle.std.proofs.Common.{rules}
use Rattle.std.specs.Prelude.{Err}
use Rattle.file_stages.specs.declared.Stage.TheVariants.{Elements}
use Rattle.file_fields.specs.Views.{nothing_seen}
use Rattle.file_network.specs.Runs.{records, always}
use Rattle.file_network.specs.NetworkFiles.{with_element}
use Rattle.file_network.specs.Inputs.{part_of}
use Rattle.file_network.proofs.Outcomes.{run_done, run_refused, run_turn, turn_whole}
use Rattle.file_network.proofs.Elements.{element_turn}
use Rattle.file_network.proofs.Taken.{element_taken}
use Rattle.network.specs.declared.Network.{Network}
use Rattle.network.specs.Networks.{empty_network}
use Rattle.file_network.proofs.reader.read_elements.Goals as goal

pub loop-i-init : goal.loop-i-init
unfolding empty_network
loop-i-init c =
    let a = c.args in
    let n = ap (λ (x : Network). x.elements) c.empty-net.ensures in
    let all : a.count - 0 ≡ a.count = omega arith in
    (c.requires.1, omega (arith, n), ap (λ (k : ℕ). records a.s.now (always nothing_seen) (with_element a.s.now) k a.start a.first c.empty-net.result) all)

pub returns-in_err-record : goal.returns-in_err-record
unfolding nothing_seen
returns-in_err-record c =
    let a = c.args in
    let loop = c.loop-i in
    let same : c.from_residual.result ≡ Err (c.in_err-record.field-0.0) = search rules in
    same ∙
    ap part_of (run_refused a.s.now (always nothing_seen) (with_element a.s.now) _ (a.count - loop.i) loop.at loop.stage loop.net loop.invariant.2 (omega arith) _ c.in_err-record.ensures) ∙
    ap (λ (x : Network). part_of (records a.s.now (always nothing_seen) (with_element a.s.now) a.count a.start a.first x)) c.empty-net.ensures

pub element_at-element-requires : goal.element_at-element-requires
unfolding nothing_seen
element_at-element-requires c =
    let a = c.args in
    let loop = c.loop-i in
    element_turn a.s.now nothing_seen loop.at loop.stage _ c.in_ok-record.ensures loop.invariant.0

pub overflow_add-at : goal.overflow_add-at
unfolding nothing_seen
overflow_add-at c =
    let a = c.args in
    let loop = c.loop-i in
    let w = turn_whole a.s.now nothing_seen loop.at loop.stage Elements _ c.in_ok-record.ensures loop.invariant.0 in
    omega (arith, w.fits)

pub loop-i-preserved : goal.loop-i-preserved
unfolding nothing_seen
loop-i-preserved c =
    let a = c.args in
    let loop = c.loop-i in
    let due = c.in_ok-record.ensures in
    let w = turn_whole a.s.now nothing_seen loop.at loop.stage Elements _ due loop.invariant.0 in (
      w.next_is,
      refl,
      ap (records a.s.now (always nothing_seen) (with_element a.s.now) _ _ _)
          (element_taken a.s.now loop.at loop.i loop.net _ loop.invariant.1 c.element_at-element.ensures) ∙
          run_turn a.s.now (always nothing_seen) (with_element a.s.now) _ (a.count - loop.i) loop.at loop.stage loop.net loop.invariant.2 (omega arith) _ _ due (omega arith),
    )

pub returns : goal.returns
returns c =
    let a = c.args in
    let loop = c.loop-i in
    ap part_of (run_done a.s.now (always nothing_seen) (with_element a.s.now) _ (a.count - loop.i) loop.at loop.stage loop.net loop.invariant.2 (omega arith)) ∙
    ap (λ (x : Network). part_of (records a.s.now (always nothing_seen) (with_element a.s.now) a.count a.start a.first x)) c.empty-net.ensures

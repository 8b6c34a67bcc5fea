-- `file_network::reader::guard_at` reads the guard in a link record of either kind: each return by the test of the kind.
use mathlib.Core.Path.{◌≡◌, sym, ◌∙◌}
use native.Mathlib.Omega.{arith}
use borrow.Author.Tests.{ne_eqb}
use Rattle.file_network.specs.NetworkFiles.{guard_of}
use Rattle.file_network.proofs.Links.{guard_stated}
use Rattle.file_network.proofs.reader.guard_at.Goals as goal

pub overflow_add-at : goal.overflow_add-at
overflow_add-at c = omega (arith, c.requires.guarded_fits (omega arith))

pub word_at-requires : goal.word_at-requires
word_at-requires c = omega (arith, c.requires.guarded_fits (omega arith))

pub returns-then-kind-eq8 : goal.returns-then-kind-eq8
returns-then-kind-eq8 c =
    let eight : c.args.kind ≡ 8 = omega arith in
    omega (arith, c.word_at.ensures, guard_stated c.args.s.now c.args.at (sym c.requires.kind_is ∙ eight))

pub returns : goal.returns
unfolding guard_of
returns c =
    simp (← c.requires.kind_is, ne_eqb c.args.kind 8 (omega arith))

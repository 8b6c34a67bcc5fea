-- `file_fields::guarded_link_rules` finds rule 20 behind rules 7 to 9: the first broken of two lists in a row.
use mathlib.Core.Path.{◌≡◌, ◌∙◌, sym, ap}
use mathlib.Core.List.{List}
use Prim.Native.Nat.{ℕ}
use Rattle.std.proofs.Common.{rules}
use Rattle.std.specs.Prelude.{Result, Err}
use Rattle.network.specs.declared.refusal.Rule.{Rule}
use Rattle.network.specs.Refusals.{first_broken}
use Rattle.network.proofs.FirstBroken.{else_first, first_append}
use Rattle.file_fields.specs.Views.{Seen, seen_in}
use Rattle.file_fields.specs.Fields.{link_rules, plain_link_rules, guard_rules}
use Rattle.file_fields.proofs.guarded_link_rules.Goals as goal

in_two : (s : List ℕ) (at : ℕ) (seen : Seen) →
    first_broken (link_rules s at 8 seen) ≡ else_first (first_broken (plain_link_rules s at 8 seen.elements)) (first_broken (guard_rules s at seen))
unfolding link_rules
in_two s at seen = first_append (plain_link_rules s at 8 seen.elements) (guard_rules s at seen)

pub returns-in_err-link_rules : goal.returns-in_err-link_rules
returns-in_err-link_rules c =
    let a = c.args in
    let seen = seen_in a.seen in
    let same : c.from_residual.result ≡ Err (c.in_err-link_rules.field-0.0) = search rules in
    same ∙ sym (in_two a.s.now a.at seen ∙ ap (λ (v : Result Unit Rule). else_first v (first_broken (guard_rules a.s.now a.at seen))) (sym c.in_err-link_rules.ensures))

pub returns-then-bad_guard : goal.returns-then-bad_guard
unfolding guard_rules
returns-then-bad_guard c =
    let a = c.args in
    let seen = seen_in a.seen in
    rw (in_two a.s.now a.at seen, sym c.in_ok-link_rules.ensures) (
    simp (← c.word_at-guard.ensures, ← c.bad_guard.ensures, c.if-bad_guard.true))

pub returns : goal.returns
unfolding guard_rules
returns c =
    let a = c.args in
    let seen = seen_in a.seen in
    rw (in_two a.s.now a.at seen, sym c.in_ok-link_rules.ensures) (
    simp (← c.word_at-guard.ensures, ← c.bad_guard.ensures, c.if-bad_guard.false))

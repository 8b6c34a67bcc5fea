-- The order of the rules: each stands in it once, so a position belongs to one rule, and so does a number; rule 20 stands behind rule 9.
-- Assumes nothing.
use mathlib.Core.Path.{◌≡◌, refl, sym, ap, ◌∙◌}
use Prim.Native.Nat.{ℕ}
use native.Mathlib.Omega.{arith}
use lib.ListN.{get_or}
use Rattle.network.specs.declared.refusal.Rule.{Rule}
use Rattle.network.specs.declared.refusal.Rule.TheVariants.{RecordMissing, KindOutOfPlace, WrongLength, RecordCutOff, HeadOutOfRange, UnknownFlags, BadEnds, UnknownForm, UnsuitedCost, TooManySteps, UnknownLink, UnknownState, ByteAfterEnd, NotATree, TwoSources, FaultWithSource, Overloaded, TooManyOperable, BufferTooShort, BadGuard}
use Rattle.network.specs.Refusals.{rule_number, checked_order, count_before, position, Sooner}

at_position : (r : Rule) → get_or checked_order (position r) RecordMissing ≡ r
unfolding position
at_position RecordMissing = refl
at_position KindOutOfPlace = refl
at_position WrongLength = refl
at_position RecordCutOff = refl
at_position HeadOutOfRange = refl
at_position UnknownFlags = refl
at_position BadEnds = refl
at_position UnknownForm = refl
at_position UnsuitedCost = refl
at_position TooManySteps = refl
at_position UnknownLink = refl
at_position UnknownState = refl
at_position ByteAfterEnd = refl
at_position NotATree = refl
at_position TwoSources = refl
at_position FaultWithSource = refl
at_position Overloaded = refl
at_position TooManyOperable = refl
at_position BufferTooShort = refl
at_position BadGuard = refl

pub position_once : (q r : Rule) → position q ≡ position r → q ≡ r
position_once q r e = sym (at_position q) ∙ ap (λ (n : ℕ). get_or checked_order n RecordMissing) e ∙ at_position r

-- document 02: rule 20 is checked "after 9 in the same record"
pub guard_after_cost : Sooner UnsuitedCost BadGuard
unfolding position
guard_after_cost = omega arith

pub rule_numbered : (q r : Rule) → rule_number q ≡ rule_number r → q ≡ r
unfolding position
rule_numbered q r e = position_once q r (ap (count_before checked_order) e)

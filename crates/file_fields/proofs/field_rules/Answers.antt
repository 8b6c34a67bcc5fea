-- `file_fields::field_rules` finds the first broken of rules 5 to 12 and 20: the kind picks the rules that speak of it.
use native.Mathlib.Omega.{arith}
use borrow.Author.Tests.{ne_eqb}
use Rattle.file_fields.specs.Fields.{length_of, field_rules, head_rules, flags_rules, plain_link_rules, link_rules, guard_rules, plan_head_rules, step_rules}
use Rattle.file_fields.proofs.field_rules.Goals as goal

pub head_rules-requires : goal.head_rules-requires
unfolding length_of
head_rules-requires c = omega (arith, rw c.in-1.is at c.requires)

pub returns-in-1 : goal.returns-in-1
unfolding field_rules head_rules
returns-in-1 c = rw c.in-1.is c.head_rules.ensures

pub overflow_add-at : goal.overflow_add-at
unfolding length_of
overflow_add-at c = omega (arith, rw c.in-2.is at c.requires)

pub flags_rules-requires : goal.flags_rules-requires
unfolding length_of
flags_rules-requires c = omega (arith, rw c.in-2.is at c.requires)

pub returns-in-2 : goal.returns-in-2
unfolding field_rules flags_rules
returns-in-2 c = rw c.in-2.is c.flags_rules.ensures

pub link_rules-requires : goal.link_rules-requires
unfolding length_of
link_rules-requires c = omega (arith, rw c.in-3.is at c.requires)

pub returns-in-3 : goal.returns-in-3
unfolding field_rules link_rules plain_link_rules
returns-in-3 c = rw c.in-3.is c.link_rules.ensures

pub plan_head_rules-requires : goal.plan_head_rules-requires
unfolding length_of
plan_head_rules-requires c = omega (arith, rw c.in-5.is at c.requires)

pub returns-in-5 : goal.returns-in-5
unfolding field_rules plan_head_rules
returns-in-5 c = rw c.in-5.is c.plan_head_rules.ensures

pub step_rules-requires : goal.step_rules-requires
unfolding length_of
step_rules-requires c = omega (arith, rw c.in-6.is at c.requires)

pub returns-in-6 : goal.returns-in-6
unfolding field_rules step_rules
returns-in-6 c = rw c.in-6.is c.step_rules.ensures

pub overflow_add-at-in-7 : goal.overflow_add-at-in-7
unfolding length_of
overflow_add-at-in-7 c = omega (arith, rw c.in-7.is at c.requires)

pub flags_rules-requires-in-7 : goal.flags_rules-requires-in-7
unfolding length_of
flags_rules-requires-in-7 c = omega (arith, rw c.in-7.is at c.requires)

pub returns-in-7 : goal.returns-in-7
unfolding field_rules flags_rules
returns-in-7 c = rw c.in-7.is c.flags_rules-in-7.ensures

pub guarded_link_rules-requires : goal.guarded_link_rules-requires
unfolding length_of
guarded_link_rules-requires c = omega (arith, rw c.in-8.is at c.requires)

pub returns-in-8 : goal.returns-in-8
unfolding field_rules link_rules plain_link_rules guard_rules
returns-in-8 c = rw c.in-8.is c.guarded_link_rules.ensures

pub returns-in_default : goal.returns-in_default
unfolding field_rules
returns-in_default c =
    let k = c.args.kind in
    simp (
      ne_eqb k 1 c.in_default.in_default-own.rest.0.0.0.0.0.0.1,
      ne_eqb k 2 c.in_default.in_default-own.rest.0.0.0.0.0.1,
      ne_eqb k 3 c.in_default.in_default-own.rest.0.0.0.0.1,
      ne_eqb k 5 c.in_default.in_default-own.rest.0.0.0.1,
      ne_eqb k 6 c.in_default.in_default-own.rest.0.0.1,
      ne_eqb k 7 c.in_default.in_default-own.rest.0.1,
      ne_eqb k 8 c.in_default.in_default-own.rest.1,
    )

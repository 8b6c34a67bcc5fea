-- `file_records::length_of` gives each kind its length, and 0 to a number that is no kind.
use borrow.Author.Tests.{ne_eqb}
use Rattle.file_fields.specs.Fields.{length_of}
use Rattle.file_records.proofs.length_of.Goals as goal

pub returns-in-1 : goal.returns-in-1
unfolding length_of
returns-in-1 c = rw c.in-1.is

pub returns-in-2 : goal.returns-in-2
unfolding length_of
returns-in-2 c = rw c.in-2.is

pub returns-in-3 : goal.returns-in-3
unfolding length_of
returns-in-3 c = rw c.in-3.is

pub returns-in-4 : goal.returns-in-4
unfolding length_of
returns-in-4 c = rw c.in-4.is

pub returns-in-5 : goal.returns-in-5
unfolding length_of
returns-in-5 c = rw c.in-5.is

pub returns-in-6 : goal.returns-in-6
unfolding length_of
returns-in-6 c = rw c.in-6.is

pub returns-in-7 : goal.returns-in-7
unfolding length_of
returns-in-7 c = rw c.in-7.is

pub returns-in-8 : goal.returns-in-8
unfolding length_of
returns-in-8 c = rw c.in-8.is

pub returns-in_default : goal.returns-in_default
unfolding length_of
returns-in_default c =
    let k = c.args.kind in
    simp (
      ne_eqb k 1 c.in_default.in_default-own.rest.0.0.0.0.0.0.0.1,
      ne_eqb k 2 c.in_default.in_default-own.rest.0.0.0.0.0.0.1,
      ne_eqb k 3 c.in_default.in_default-own.rest.0.0.0.0.0.1,
      ne_eqb k 4 c.in_default.in_default-own.rest.0.0.0.0.1,
      ne_eqb k 5 c.in_default.in_default-own.rest.0.0.0.1,
      ne_eqb k 6 c.in_default.in_default-own.rest.0.0.1,
      ne_eqb k 7 c.in_default.in_default-own.rest.0.1,
      ne_eqb k 8 c.in_default.in_default-own.rest.1,
    )

-- What each test of the loops tells of the number that it is at: the definitions of `specs/Sets` by their cases.
-- Assumes nothing.
use Prim.Native.Nat.{ℕ, zero, suc, ◌≤◌, ◌<◌}
use mathlib.Core.Path.{◌≡◌, refl, sym, ap, ◌∙◌}
use mathlib.Core.Bool.{Bool, true, false, ◌&&◌, or-true, cond}
use mathlib.Core.List.{List}
use lib.Dec.{ltb}
use lib.ListN.{length, take}
use borrow.Author.Tests.{eq-eqb, ne_eqb, lt-ltb, le-ltb}
use native.Mathlib.Omega.{arith}
use native.Mathlib.Numerals.{add-one}
use Rattle.std.specs.Prelude.{count_by, ◌==◌}
use Rattle.std.proofs.lemmas.List.Sums.{sum_by_more}
use Rattle.feeding.specs.Below.{gate, those}
use Rattle.feeding.specs.Networks.{at, is_in}
use Rattle.feeding.proofs.Below.{eqb_comm, any_to_ext}
use Rattle.feeding.proofs.Lows.{length_those_step}
use Rattle.feeding_parts.specs.Labelling.{last_of_part}
use Rattle.feeding_parts.proofs.Lasts.{last_live}
use Rattle.feeding_sets.specs.Sets.{one_of, but_not, part_has, at_either_end, members}

-- ---- one value or the other

module _ (values : List ℕ) (one other x : ℕ) where
  pub one_first : at values x ≡ one → one_of values one other x ≡ true
  unfolding one_of
  one_first h = rw (eq-eqb (at values x) one h)

  pub one_second : at values x ≡ other → one_of values one other x ≡ true
  unfolding one_of
  one_second h = rw (eq-eqb (at values x) other h, or-true)

  pub one_neither : (at values x ≡ one → ⊥) → (at values x ≡ other → ⊥) → one_of values one other x ≡ false
  unfolding one_of
  one_neither h k = rw (ne_eqb (at values x) one h, ne_eqb (at values x) other k)

-- ---- in the one set and not in the other

module _ (kept left : List ℕ) (x : ℕ) where
  pub but_in : at kept x ≡ 1 → (at left x ≡ 1 → ⊥) → but_not kept left x ≡ true
  unfolding but_not
  but_in h k = rw (eq-eqb (at kept x) 1 h, ne_eqb (at left x) 1 k)

  pub but_other : at kept x ≡ 1 → at left x ≡ 1 → but_not kept left x ≡ false
  unfolding but_not
  but_other h k = rw (eq-eqb (at kept x) 1 h, eq-eqb (at left x) 1 k)

  pub but_out : (at kept x ≡ 1 → ⊥) → but_not kept left x ≡ false
  unfolding but_not
  but_out h = rw (ne_eqb (at kept x) 1 h)

-- ---- the highest marked element of a part: below 64 where there is one

module _ (label has : List ℕ) (n : ℕ) (fit : n ≤ 64) (x : ℕ) (inside : at label x < 64) where
  last_test : ltb (at (last_of_part label has n) (at label x)) 64 ≡ part_has label has n x
  unfolding part_has
  last_test = last_live label has n (at label x) fit inside
      ∙ any_to_ext n _ _ (λ y k. ap (λ b. is_in has y && b) (eqb_comm (at label y) (at label x)))

  pub part_has_lem : (last : List ℕ) → last ≡ last_of_part label has n → at last (at label x) < 64 → part_has label has n x ≡ true
  part_has_lem last e h = sym last_test ∙ lt-ltb _ 64 (rw e at h)

  pub part_lacks : (last : List ℕ) → last ≡ last_of_part label has n → 64 ≤ at last (at label x) → part_has label has n x ≡ false
  part_lacks last e h = sym last_test ∙ le-ltb _ 64 (rw e at h)

-- ---- a link's ends

module _ (from to has : List ℕ) (l : ℕ) where
  pub end_first : at has (at from l) ≡ 1 → at_either_end from to has l ≡ true
  unfolding at_either_end
  end_first h = rw (eq-eqb (at has (at from l)) 1 h)

  pub end_second : at has (at to l) ≡ 1 → at_either_end from to has l ≡ true
  unfolding at_either_end
  end_second h = rw (eq-eqb (at has (at to l)) 1 h, or-true)

  pub end_neither : (at has (at from l) ≡ 1 → ⊥) → (at has (at to l) ≡ 1 → ⊥) → at_either_end from to has l ≡ false
  unfolding at_either_end
  end_neither h k = rw (ne_eqb (at has (at from l)) 1 h, ne_eqb (at has (at to l)) 1 k)

-- ---- the number of members

cond_gate : (t : Bool) → cond t 1 0 ≡ gate t 1
cond_gate true = refl
cond_gate false = refl

pub counted : (has : List ℕ) (n : ℕ) → n ≤ length has → count_by (λ x. x == 1) (take n has) ≡ length (members has n)
unfolding members those
counted has zero k = refl
counted has (suc n) k =
    ap (λ m. count_by (λ x. x == 1) (take m has)) (sym (add-one n))
    ∙ omega (
      arith,
      sum_by_more (λ x. cond (x == 1) 1 0) has n 0 (omega arith),
      counted has n (omega arith),
      length_those_step n (is_in has),
      cond_gate (is_in has n),
    )
    ∙ ap (λ m. length (members has m)) (add-one n)

-- What tests that are asked in turn say together, and what one turn of the loops adds: by cases.
-- Assumes nothing.
use Prim.Native.Nat.{ℕ, ◌+◌, ◌*◌, ◌<◌}
use mathlib.Core.Path.{◌≡◌, refl, sym, ◌∙◌}
use mathlib.Core.Bool.{Bool, true, false, ◌&&◌, ◌||◌}
use mathlib.Core.List.{List}
use lib.Dec.{eqb}
use mir.Val.{bool_byte}
use lib.ListN.{length, set, length-set}
use lib.Seq.{get_or-set_same, get_or-set_other}
use borrow.Author.Tests.{eq-eqb, ne_eqb, eqb-true, eqb-false}
use native.Mathlib.Omega.{arith}
use native.Mathlib.Numerals.{add-one}
use Rattle.feeding.specs.Below.{gate, sum_to}
use Rattle.feeding.specs.Networks.{at, is_in}
use Rattle.feeding.proofs.Lows.{table_ext}
use Rattle.feeding.proofs.Sums.{sum_to_more}
use Rattle.plan_stops.specs.Holding.{holding, has_source, has_fault, has_need, waits_for, together}
use Rattle.plan_holdings.specs.Holdings.{waiting_at, holdings_of}

-- ---- tests in turn: the second is asked only where the first does not decide

pub or_first : {r a : Bool} (b : Bool) → r ≡ a → r ≡ true → r ≡ (a || b)
or_first b e t = t ∙ rw (sym e ∙ t) refl

pub or_second : {r s a b : Bool} → s ≡ a → s ≡ false → r ≡ b → r ≡ (a || b)
or_second e t f = rw (sym e ∙ t) f

pub and_first : {r a : Bool} (b : Bool) → r ≡ a → r ≡ false → r ≡ (a && b)
and_first b e t = t ∙ rw (sym e ∙ t) refl

pub and_second : {r s a b : Bool} → s ≡ a → s ≡ true → r ≡ b → r ≡ (a && b)
and_second e t f = rw (sym e ∙ t) f

-- ---- tests as numbers

pub gate_one : (t : Bool) → bool_byte t ≡ gate t 1
gate_one true = refl
gate_one false = refl

pub held_sum : (s f n : Bool) → bool_byte s + 2 * bool_byte f + 4 * bool_byte n ≡ holding s f n
unfolding holding
held_sum true true true = refl
held_sum true true false = refl
held_sum true false true = refl
held_sum true false false = refl
held_sum false true true = refl
held_sum false true false = refl
held_sum false false true = refl
held_sum false false false = refl

pub held_both : (x y : ℕ) (s f n : Bool) → s ≡ (has_source x || has_source y) → f ≡ (has_fault x || has_fault y) → n ≡ (has_need x || has_need y)
    → holding s f n ≡ together x y
unfolding together
held_both x y s f n p q r = rw (p, q, r)

-- ---- the elements in turn

module _ (live faulty needed : List ℕ) where
  -- the first x entries of out are those of the table
  abbrev pub Filled : (x : ℕ) (out : List ℕ) → Type 0
  Filled x out = (length out ≡ 64) × ((y : ℕ) → y < x → at out y ≡ holding (is_in live y) (is_in faulty y) (is_in needed y))

  pub filled_more : (x v : ℕ) (out : List ℕ) → x < 64 → Filled x out → v ≡ holding (is_in live x) (is_in faulty x) (is_in needed x)
      → Filled (x + 1) (set out x v)
  filled_more x v out h (long, k) e = (simp length-set long, λ y below. go y below (eqb y x) refl)
    where
      go : (y : ℕ) → y < x + 1 → (t : Bool) → eqb y x ≡ t → at (set out x v) y ≡ holding (is_in live y) (is_in faulty y) (is_in needed y)
      go y below true q =
          let same : y ≡ x = eqb-true y x q in
          rw same (get_or-set_same out x v 0 (omega arith) ∙ e)
      go y below false q = get_or-set_other out x y v 0 (eqb-false y x q) ∙ k y (omega (arith, eqb-false y x q))

  pub filled_all : (out : List ℕ) → Filled 64 out → out ≡ holdings_of live faulty needed
  unfolding holdings_of
  filled_all out (long, k) = table_ext 64 _ out long k

module _ (label holds : List ℕ) (x : ℕ) where
  waiting_one : at label x ≡ x → waits_for (at holds x) ≡ true → 1 ≡ waiting_at label holds x
  unfolding waiting_at
  waiting_one p q = rw (eq-eqb (at label x) x p, q)

  waiting_none : at label x ≡ x → waits_for (at holds x) ≡ false → 0 ≡ waiting_at label holds x
  unfolding waiting_at
  waiting_none p q = rw (eq-eqb (at label x) x p, q)

  waiting_other : (at label x ≡ x → ⊥) → 0 ≡ waiting_at label holds x
  unfolding waiting_at
  waiting_other p = rw (ne_eqb (at label x) x p)

module _ (label holds : List ℕ) (x sum sum' : ℕ) (so_far : sum ≡ sum_to x (waiting_at label holds)) where
  waiting_more : sum' ≡ sum + waiting_at label holds x → sum' ≡ sum_to (x + 1) (waiting_at label holds)
  waiting_more r =
      let step : sum_to (x + 1) (waiting_at label holds) ≡ sum_to x (waiting_at label holds) + waiting_at label holds x =
      rw add-one (sum_to_more (waiting_at label holds) x) in
      omega arith

  pub waiting_yes : at label x ≡ x → waits_for (at holds x) ≡ true → sum' ≡ sum + 1 → sum' ≡ sum_to (x + 1) (waiting_at label holds)
  waiting_yes p q r = waiting_more (omega (arith, waiting_one label holds x p q))

  pub waiting_served : at label x ≡ x → waits_for (at holds x) ≡ false → sum' ≡ sum → sum' ≡ sum_to (x + 1) (waiting_at label holds)
  waiting_served p q r = waiting_more (omega (arith, waiting_none label holds x p q))

  pub waiting_member : (at label x ≡ x → ⊥) → sum' ≡ sum → sum' ≡ sum_to (x + 1) (waiting_at label holds)
  waiting_member p r = waiting_more (omega (arith, waiting_other label holds x p))

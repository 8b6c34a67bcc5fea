-- One step by the numbers that the code compares: an opening keeps safe, a closing where its test says so, and so the step is found what the whole
-- configuration afterwards is.
-- Assumes nothing.
use mathlib.Core.Path.{◌≡◌, refl, sym, ap, ◌∙◌}
use mathlib.Core.Bool.{Bool, true, false, not}
use mathlib.Core.List.{List}
use Prim.Native.Nat.{ℕ, ◌≤◌, ◌<◌}
use lib.Dec.{eqb}
use lib.ListN.{length, set}
use borrow.Author.Tests.{eqb-true, eqb-false, eq-eqb, ne_eqb}
use native.Mathlib.Omega.{arith}
use Rattle.std.specs.Prelude.{Result, Ok, Err}
use Rattle.network.specs.declared.Network.{Network}
use Rattle.network.specs.Accepted.{WellFormed}
use Rattle.file_writer.specs.Writing.{state_number}
use Rattle.feeding.specs.Networks.{net_of, grid_of, at}
use Rattle.feeding.specs.Parts.{closed_in}
use Rattle.feeding.specs.Plans.{Step, put, differ}
use Rattle.feeding.specs.Safety.{Safe, safe?}
use Rattle.feeding.proofs.Validity.{differ_out}
use Rattle.feeding.proofs.Views.{formed_net}
use Rattle.judge_marks.specs.declared.Reason.TheVariants.{NotOperable, AlreadySo, Unsafe}
use Rattle.judge_marks.specs.Marks.{examined}
use Rattle.judge_safe_steps.specs.Tests.{keeps_safe?}
use Rattle.judge_safe_steps.proofs.Tests.{keeps_safe}
use Rattle.feeding_walks.specs.declared.Walk.{Walk}
use Rattle.judge_closing.specs.Checks.{closes_over}
use Rattle.judge_examine.specs.Steps.{kept_safe}
use Rattle.judge_examine.proofs.Networks.{Made, closes_is}
use Rattle.judge_marks.specs.declared.BadStep.{BadStep}

-- ---- the answer, test by test

kept_opening : (want : ℕ) (b : Bool) → (want ≡ 1 → ⊥) → kept_safe want b ≡ true
unfolding kept_safe
kept_opening want b h = rw (ne_eqb want 1 h, kept_safe)

kept_closing : (want : ℕ) (b : Bool) → want ≡ 1 → kept_safe want b ≡ b
unfolding kept_safe
kept_closing want b h = rw (eq-eqb want 1 h, kept_safe)

module _ (i operable state want : ℕ) (b : Bool) where
  abbrev answer : Result Unit BadStep
  answer = examined i (eqb operable 1) (not (eqb state want)) (kept_safe want b)

  pub not_operable : (operable ≡ 1 → ⊥) → (r : Result Unit BadStep) → r ≡ Err (record { step = i; reason = NotOperable }) → r ≡ answer
  unfolding examined
  not_operable h r e = e ∙ rw (ne_eqb operable 1 h)

  module _ (op : operable ≡ 1) where
    pub already_so : state ≡ want → (r : Result Unit BadStep) → r ≡ Err (record { step = i; reason = AlreadySo }) → r ≡ answer
    unfolding examined
    already_so k r e = e ∙ rw (eq-eqb operable 1 op, eq-eqb state want k)

    pub opened : (state ≡ want → ⊥) → (want ≡ 1 → ⊥) → Ok tt ≡ answer
    unfolding examined
    opened k h = rw (eq-eqb operable 1 op, ne_eqb state want k, kept_opening want b h)

    pub closed_safe : (state ≡ want → ⊥) → want ≡ 1 → (safe : Bool) → safe ≡ b → safe ≡ true → Ok tt ≡ answer
    unfolding examined
    closed_safe k h safe is t = rw (eq-eqb operable 1 op, ne_eqb state want k, kept_closing want b h ∙ sym is ∙ t)

    pub closed_unsafe : (state ≡ want → ⊥) → want ≡ 1 → (safe : Bool) → safe ≡ b → safe ≡ false
        → (r : Result Unit BadStep) → r ≡ Err (record { step = i; reason = Unsafe }) → r ≡ answer
    unfolding examined
    closed_unsafe k h safe is t r e = e ∙ rw (eq-eqb operable 1 op, ne_eqb state want k, kept_closing want b h ∙ sym is ∙ t)

-- a closing stores the state wanted
pub stored : (closed : List ℕ) (l want : ℕ) → want ≡ 1 → set closed l 1 ≡ set closed l want
stored closed l want h = ap (set closed l) (sym h)

-- the last test counts only where the one before it passed
last_test : (i : ℕ) (a d e e' : Bool) → (d ≡ true → e ≡ e') → examined i a d e ≡ examined i a d e'
unfolding examined
last_test i false d e e' h = refl
last_test i true false e e' h = refl
last_test i true true e e' h = ap (examined i true true) (h refl)

changes_is : (state : ℕ) (w : Bool) → state ≤ 1 → not (eqb state (state_number w)) ≡ differ (eqb state 1) w
changes_is state w h = go (eqb state 1) refl w
  where
    go : (t : Bool) → eqb state 1 ≡ t → (w : Bool) → not (eqb state (state_number w)) ≡ differ t w
    go true t true = ap not t
    go true t false = rw (eqb-true state 1 t)
    go false t true = ap not t
    go false t false = let e : state ≡ 0 = omega (arith, eqb-false state 1 t) in rw e

-- ---- in a network's safe configuration

module _ (n : Network) (w : WellFormed n) (walk : Walk) (sign : List ℕ) (made : Made n walk sign)
    (closed : List ℕ) (long : length closed ≡ 96) (safe : Safe (net_of n).grid (closed_in closed)) (s : Step) (k : s.link < n.links) where
  -- where the state changes, the local test tells what the configuration afterwards is
  kept_is : differ (closed_in closed s.link) s.want ≡ true
      → kept_safe (state_number s.want) (closes_over walk closed sign s.link)
      ≡ safe? (net_of n).grid (put (closed_in closed) s.link s.want)
  unfolding net_of grid_of keeps_safe?
  kept_is d = go s.want (differ_out _ _ d) ∙ keeps_safe (net_of n).grid (formed_net n w) w.elements_fit (closed_in closed) safe s k (differ_out _ _ d)
    where
      go : (b : Bool) → closed_in closed s.link ≡ not b
          → kept_safe (state_number b) (closes_over walk closed sign s.link)
          ≡ keeps_safe? (net_of n).grid (closed_in closed) (record { link = s.link; want = b })
      go true off = kept_closing 1 _ refl ∙ closes_is n w walk sign made s.link k closed long safe off
      go false on = kept_opening 0 _ (λ z. omega arith)

  -- so the step is found what it is found by the whole configuration
  pub found_is : (i operable want : ℕ) → want ≡ state_number s.want → at closed s.link ≤ 1
      → examined i (eqb operable 1) (not (eqb (at closed s.link) want))
      (kept_safe want (closes_over walk closed sign s.link))
      ≡ examined i (eqb operable 1) (differ (closed_in closed s.link) s.want) (safe? (net_of n).grid (put (closed_in closed) s.link s.want))
  found_is i operable want is small = rw (is, changes_is (at closed s.link) s.want small) (last_test i _ _ _ _ kept_is)

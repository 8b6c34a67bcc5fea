-- A spur hangs by its only chained end: any other closed link at it would have an end in the chain.
-- Assumes nothing.
use Prim.Native.Nat.{ℕ, suc, ◌*◌, ◌+◌, ◌/◌, ◌≤◌, ◌<◌}
use mathlib.Core.Path.{◌≡◌, refl, sym, ap, ◌∙◌, subst}
use mathlib.Core.Bool.{Bool, true, false, ◌||◌, false≢true}
use lib.Dec.{eqb, ltb}
use borrow.Author.Tests.{eqb-true, ltb-true, ltb-false}
use native.Mathlib.Omega.{arith}
use Rattle.feeding.specs.Networks.{Grid, Formed, at}
use Rattle.feeding.specs.Parts.{Config, touches, far}
use Rattle.feeding_ends.specs.Ends.{end_at, own, own_end, own_ends}
use Rattle.feeding_ends.specs.declared.OwnEnds.{OwnEnds}
use Rattle.feeding_ends.proofs.Chains.{end_first, end_second, own_yes, own_below, own_at, own_end_has, own_end_none}
use Rattle.feeding_loads.proofs.Lending.{end_touches, end_far}
use Rattle.feeding_loads.proofs.Same.{far_at_lem, head_at, next_at_lem}
use Rattle.plan_spurs.proofs.Spur.{Hangs}

module _ (g : Grid) (formed : Formed g) (fit : g.K ≤ 96) (has : ℕ → Bool) where
  abbrev pub chained : OwnEnds
  chained = own_ends g.end_a g.end_b has g.K

  module _ (e j : ℕ) (inside : e < 64) (first : j ≡ at chained.head e) (some : j < 192) (alone : 192 ≤ at chained.next j) where
    first_is : j ≡ own_end g.end_a g.end_b has g.K e 0
    first_is = first ∙ head_at g.end_a g.end_b has g.K fit e inside

    mine : own g.end_a g.end_b has g.K e j ≡ true
    mine = rw first_is (own_end_has g.end_a g.end_b has g.K e 0 (omega arith) (omega (arith, first_is)))

    pub below : j < 2 * g.K
    below = own_below g.end_a g.end_b has g.K e j mine

    near : end_at g.end_a g.end_b j ≡ e
    near = own_at g.end_a g.end_b has g.K e j mine

    next_is : at chained.next j ≡ own_end g.end_a g.end_b has g.K e (suc j)
    next_is = next_at_lem g.end_a g.end_b has g.K fit j below
        ∙ ap (λ x. own_end g.end_a g.end_b has g.K x (suc j)) near

    -- no other end at e is chained
    only_end : (i : ℕ) → own g.end_a g.end_b has g.K e i ≡ true → i ≡ j
    only_end i h = go (ltb i j) refl (ltb j i) refl
      where
        go : (t : Bool) → ltb i j ≡ t → (u : Bool) → ltb j i ≡ u → i ≡ j
        go true t u q = absurd (false≢true (sym (own_end_none g.end_a g.end_b has g.K e 0 i (omega arith)
            (omega (arith, ltb-true i j t, first_is))) ∙ h))
        go false t true q = absurd (false≢true (sym (own_end_none g.end_a g.end_b has g.K e (suc j) i (omega (arith, ltb-true j i q))
            (omega (arith, next_is, own_below g.end_a g.end_b has g.K e i h))) ∙ h))
        go false t false q = omega (arith, ltb-false i j t, ltb-false j i q)

    touch : touches g (j / 2) e ≡ true
    touch = subst (λ x. touches g (j / 2) x ≡ true) near (end_touches g j)

    far_is : far g (j / 2) e ≡ at chained.far j
    far_is = ap (far g (j / 2)) (sym near) ∙ end_far g formed.differ j below ∙ sym (far_at_lem g.end_a g.end_b has g.K fit j below)

    -- a link at e in the set is the one of that end
    only_link : (m : ℕ) → m < g.K → has m ≡ true → touches g m e ≡ true → m ≡ j / 2
    unfolding touches
    only_link m k h t = go (eqb (g.end_a m) e) refl t
      where
        half : (i : ℕ) → i / 2 ≡ m → i < 2 * g.K → end_at g.end_a g.end_b i ≡ e → m ≡ j / 2
        half i q r at_e = sym q ∙ ap (λ x. x / 2) (only_end i (own_yes g.end_a g.end_b has g.K e i r at_e (ap has q ∙ h)))

        go : (u : Bool) → eqb (g.end_a m) e ≡ u → (u || eqb (g.end_b m) e) ≡ true → m ≡ j / 2
        go true u _ = half (2 * m) (omega arith) (omega arith) (end_first g.end_a g.end_b m ∙ eqb-true _ _ u)
        go false u v = half (2 * m + 1) (omega arith) (omega arith) (end_second g.end_a g.end_b m ∙ eqb-true _ _ v)

    pub spur_hangs : (c : Config) → ((m : ℕ) → m < g.K → c m ≡ true → has m ≡ true) → c (j / 2) ≡ true
        → Hangs g c e (j / 2) (at chained.far j)
    spur_hangs c under on =
        record { below = omega (arith, below); on = on; touch = touch; far_is = far_is; only = λ m k h t. only_link m k (under m k h) t }

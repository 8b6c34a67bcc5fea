-- The walks from the members of a set, one by one from a list, say what those from the whole set say.
-- Assumes nothing.
use mathlib.Core.Path.{◌≡◌, refl, sym, ap, ◌∙◌}
use mathlib.Core.Bool.{Bool, true, false, not}
use mathlib.Core.List.{List}
use mathlib.Core.Logic.{◌⊎◌, inl, inr}
use Prim.Native.Nat.{ℕ, ◌*◌, ◌<◌, ◌≤◌}
use native.Mathlib.Omega.{arith}
use lib.Dec.{eqb, ltb}
use lib.ListN.{length}
use borrow.Author.Tests.{ltb-false, le-ltb, not-true}
use Rattle.feeding.specs.Below.{all_to, least_to}
use Rattle.feeding.specs.Loads.{element_over, within_from?}
use Rattle.feeding.specs.Networks.{Grid, at, is_in}
use Rattle.feeding.specs.Parts.{Config}
use Rattle.feeding.proofs.Below.{or_else, same_test, all_to_in, all_to_out}
use Rattle.feeding.proofs.Lows.{least_to_le, least_to_or, those_in, those_out}
use Rattle.feeding_loads.specs.Walks.{over_place}
use Rattle.plan_problem.proofs.Rising.{at_member, member_at}
use Rattle.feeding_sets.specs.Sets.{members}

module _ (g : Grid) (c : Config) (sound : List ℕ) where
  -- what the walk from x finds, where x is in the set
  abbrev found : ℕ → ℕ
  found x = or_else g.E (eqb (at sound x) 1) (element_over g c (2 * g.E) x g.K)

  abbrev fits : ℕ → Bool
  fits x = within_from? g c x

  fits_in : (x : ℕ) → g.E ≤ element_over g c (2 * g.E) x g.K → within_from? g c x ≡ true
  unfolding within_from?
  fits_in x h = ap not (le-ltb _ g.E h)

  fits_out : (x : ℕ) → within_from? g c x ≡ true → g.E ≤ element_over g c (2 * g.E) x g.K
  unfolding within_from?
  fits_out x h = ltb-false _ g.E (not-true _ h)

  pub walks_listed : (m : ℕ) (f : ℕ → Bool) → m ≡ length (members sound g.E) → ((j : ℕ) → j < m → f j ≡ within_from? g c (at (members sound g.E) j))
      → all_to m f ≡ not (ltb (over_place g c sound) g.E)
  unfolding over_place members
  walks_listed m f e same = same_test _ _ whole each
    where
      list : List ℕ
      list = members sound g.E

      whole : all_to m f ≡ true → not (ltb (least_to g.E g.E found) g.E) ≡ true
      whole h = ap not (le-ltb _ g.E (go (least_to_or g.E g.E found)))
        where
          one : (x : ℕ) → x < g.E → (t : Bool) → eqb (at sound x) 1 ≡ t → g.E ≤ or_else g.E t (element_over g c (2 * g.E) x g.K)
          one x k true t =
              let r = member_at list x (those_in g.E (is_in sound) x k t) in
              let b : r.0 < m = omega (arith, r.1) in
              fits_out x (ap fits r.2 ∙ sym (same r.0 b) ∙ all_to_out m f h r.0 b)
          one x k false t = omega arith

          go : (least_to g.E g.E found ≡ g.E) ⊎ ((x : ℕ) × (x < g.E) × (least_to g.E g.E found ≡ found x)) → g.E ≤ least_to g.E g.E found
          go (inl q) = omega arith
          go (inr (x, k, q)) = omega (arith, q, one x k (eqb (at sound x) 1) refl)

      each : not (ltb (least_to g.E g.E found) g.E) ≡ true → all_to m f ≡ true
      each h = all_to_in m f (λ j k. same j k ∙ fits_in (at list j) (here j k))
        where
          here : (j : ℕ) → j < m → g.E ≤ element_over g c (2 * g.E) (at list j) g.K
          here j k =
              let r = those_out g.E (is_in sound) (at list j) (at_member list j (omega arith)) in
              let on : found (at list j) ≡ element_over g c (2 * g.E) (at list j) g.K = rw r.1 in
              omega (arith, ltb-false _ g.E (not-true _ h), least_to_le g.E g.E found (at list j) r.0, on)

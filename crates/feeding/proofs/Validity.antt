-- The test of a plan says exactly which plans are valid, step by step along the list.
-- Assumes nothing.
use mathlib.Core.Path.{◌≡◌, refl, sym}
use mathlib.Core.Bool.{Bool, true, false, not}
use mathlib.Core.List.{List, [], ◌∷◌}
use Prim.Native.Nat.{ℕ}
use Rattle.feeding.specs.Networks.{Net, Formed}
use Rattle.feeding.specs.Parts.{Config}
use Rattle.feeding.specs.Plans.{Step, put, GoodStep, Good, ValidPlan, differ, good_step?, good?, valid?}
use Rattle.feeding.specs.Restoration.{Operable, operable?}
use Rattle.feeding.proofs.Below.{and_left, and_right, and_both}
use Rattle.feeding.proofs.Decided.{safe?_sound, safe?_complete}
use Rattle.feeding.proofs.Tests.{operable?_in, operable?_out, restored?_in, restored?_out}

differ_in : (a w : Bool) → a ≡ not w → differ a w ≡ true
differ_in true true e = sym e
differ_in true false e = refl
differ_in false true e = refl
differ_in false false e = e

pub differ_out : (a w : Bool) → differ a w ≡ true → a ≡ not w
differ_out true true e = sym e
differ_out true false e = refl
differ_out false true e = refl
differ_out false false e = e

module _ (net : Net) (formed : Formed net.grid) where
  -- the test op? tells the operable switches
  module _ (op : ℕ → Type 0) (op? : ℕ → Bool) (op-in : (l : ℕ) → op l → op? l ≡ true) (op-out : (l : ℕ) → op? l ≡ true → op l) where
    pub good_step?_in : (c : Config) (s : Step) → GoodStep net op c s → good_step? net op? c s ≡ true
    unfolding good_step?
    good_step?_in c s g =
        and_both (op? s.link) _ (op-in s.link g.operable)
        (and_both (differ (c s.link) s.want) _ (differ_in (c s.link) s.want g.changes) (safe?_complete net.grid formed _ g.safe))

    pub good_step?_out : (c : Config) (s : Step) → good_step? net op? c s ≡ true → GoodStep net op c s
    unfolding good_step?
    good_step?_out c s h =
        let rest = and_right (op? s.link) _ h in
        record {
          operable = op-out s.link (and_left (op? s.link) _ h);
          changes = differ_out (c s.link) s.want (and_left (differ (c s.link) s.want) _ rest);
          safe = safe?_sound net.grid formed _ (and_right (differ (c s.link) s.want) _ rest);
        }

    pub good?_in : (c : Config) (q : List Step) → Good net op c q → good? net op? c q ≡ true
    unfolding Good good?
    good?_in c [] g = refl
    good?_in c (s ∷ q) g = and_both (good_step? net op? c s) _ (good_step?_in c s g.0) (good?_in (put c s.link s.want) q g.1)

    pub good?_out : (c : Config) (q : List Step) → good? net op? c q ≡ true → Good net op c q
    unfolding Good good?
    good?_out c [] h = tt
    good?_out c (s ∷ q) h = (
      good_step?_out c s (and_left (good_step? net op? c s) _ h),
      good?_out (put c s.link s.want) q (and_right (good_step? net op? c s) _ h),
    )

  pub valid?_in : (q : List Step) → ValidPlan net q → valid? net q ≡ true
  unfolding valid?
  valid?_in q v =
      and_both (good? net (operable? net) net.start_closed q) _ (good?_in (Operable net) (operable? net) (operable?_in net formed) (operable?_out net formed) net.start_closed q v.good) (restored?_in net formed _ v.meets)

  pub valid?_out : (q : List Step) → valid? net q ≡ true → ValidPlan net q
  unfolding valid?
  valid?_out q h =
      record {
        good = good?_out (Operable net) (operable? net) (operable?_in net formed) (operable?_out net formed) net.start_closed q (and_left (good? net (operable? net) net.start_closed q) _ h);
        meets = restored?_out net formed _ (and_right (good? net (operable? net) net.start_closed q) _ h);
      }

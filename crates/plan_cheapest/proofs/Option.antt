-- What an option of a best set tells of that set.
-- Assumes nothing.
use mathlib.Core.Path.{◌≡◌, refl, sym, ap}
use mathlib.Core.Bool.{Bool, true, false, false≢true}
use Prim.Native.Nat.{◌<◌, ◌≤◌}
use lib.Dec.{ltb}
use native.Mathlib.Omega.{arith}
use borrow.Author.Tests.{lt-ltb, le-ltb, ltb-true, ltb-false}
use Rattle.std.specs.Prelude.{Option, Some, None, is_some, unwrap_or}
use Rattle.plan_problem.specs.declared.Best.{Best}
use Rattle.plan_cheapest.specs.Option.{found_by}

pub found_some : (b : Best) → b.cost < 18446744073709551615 → Some b ≡ found_by b
unfolding found_by
found_some b h = rw (lt-ltb b.cost 18446744073709551615 h, found_by) refl

pub found_none : (b : Best) → 18446744073709551615 ≤ b.cost → None ≡ found_by b
unfolding found_by
found_none b h = rw (le-ltb b.cost 18446744073709551615 h, found_by) refl

pub some_found : (x b : Best) → found_by x ≡ Some b → (b ≡ x) × (b.cost < 18446744073709551615)
unfolding found_by
some_found x b e = go (ltb x.cost 18446744073709551615) refl e
  where
    go : (t : Bool) → ltb x.cost 18446744073709551615 ≡ t → ◌≡◌ {A = Option Best} (elim t [ true ↦ Some x | false ↦ None ]) (Some b) → (b ≡ x) × (b.cost < 18446744073709551615)
    go true t q = (ap (λ (o : Option Best). unwrap_or o x) (sym q), omega (arith, ltb-true x.cost 18446744073709551615 t, ap (λ (o : Option Best). (unwrap_or o x).cost) q))
    go false t q = absurd (false≢true (ap (λ (o : Option Best). is_some o) q))

pub no_set : (x : Best) → found_by x ≡ None → 18446744073709551615 ≤ x.cost
unfolding found_by
no_set x e = go (ltb x.cost 18446744073709551615) refl e
  where
    go : (t : Bool) → ltb x.cost 18446744073709551615 ≡ t → ◌≡◌ {A = Option Best} (elim t [ true ↦ Some x | false ↦ None ]) None → 18446744073709551615 ≤ x.cost
    go true t q = absurd (false≢true (ap (λ (o : Option Best). is_some o) (sym q)))
    go false t q = ltb-false _ _ t

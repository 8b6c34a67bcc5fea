-- A mark stands exactly at the first ends of the links that close a loop: by induction on the links.
-- Assumes nothing.
use Prim.Native.Nat.{ℕ, zero, suc, ◌<◌}
use mathlib.Core.Path.{◌≡◌, refl, sym, ap, ◌∙◌}
use mathlib.Core.Bool.{Bool, true, false, ◌&&◌}
use mathlib.Core.List.{List}
use lib.Dec.{eqb}
use lib.ListN.{length, set, replicate, length-set, length-replicate, get_or-replicate}
use lib.Seq.{get_or-set_same, get_or-set_other}
use borrow.Author.Tests.{eqb-true, eqb-false, eq-eqb}
use native.Mathlib.Omega.{arith}
use Rattle.feeding.specs.Below.{any_to}
use Rattle.feeding.specs.Networks.{at}
use Rattle.feeding.specs.Parts.{Config, labels}
use Rattle.feeding_parts.specs.Labelling.{loop_set}
use Rattle.feeding.proofs.Below.{any_none, any_yes, any_no}

module _ (m : ℕ) (a b : ℕ → ℕ) (c : Config) where
  pub loops_none : loop_set m a b c zero ≡ replicate m 0
  unfolding loop_set
  loops_none = refl

  pub loops_on : (n : ℕ) → (c n && eqb (at (labels m a b c n) (a n)) (at (labels m a b c n) (b n))) ≡ true
      → loop_set m a b c (suc n) ≡ set (loop_set m a b c n) (a n) 1
  unfolding loop_set
  loops_on n h = rw (h, loop_set)

  pub loops_off : (n : ℕ) → (c n && eqb (at (labels m a b c n) (a n)) (at (labels m a b c n) (b n))) ≡ false
      → loop_set m a b c (suc n) ≡ loop_set m a b c n
  unfolding loop_set
  loops_off n h = rw (h, loop_set)

  pub length_loops : (n : ℕ) → length (loop_set m a b c n) ≡ m
  length_loops zero = ap length loops_none ∙ length-replicate m 0
  length_loops (suc n) = go (length_loops n) (c n && eqb (at (labels m a b c n) (a n)) (at (labels m a b c n) (b n))) refl
    where
      go : length (loop_set m a b c n) ≡ m → (t : Bool) → (c n && eqb (at (labels m a b c n) (a n)) (at (labels m a b c n) (b n))) ≡ t
          → length (loop_set m a b c (suc n)) ≡ m
      go ih true t = ap length (loops_on n t) ∙ length-set (loop_set m a b c n) (a n) 1 ∙ ih
      go ih false t = ap length (loops_off n t) ∙ ih

  pub loop_mark : (n x : ℕ) → x < m
      → eqb (at (loop_set m a b c n) x) 1 ≡ any_to n (λ l. (c l && eqb (at (labels m a b c l) (a l)) (at (labels m a b c l) (b l))) && eqb (a l) x)
  loop_mark zero x h = ap (λ (k : ℕ). eqb k 1) (ap (λ (ls : List ℕ). at ls x) loops_none ∙ get_or-replicate m x 0 0 h) ∙ sym (any_none _)
  loop_mark (suc n) x h = go (loop_mark n x h) (c n && eqb (at (labels m a b c n) (a n)) (at (labels m a b c n) (b n))) refl (eqb (a n) x) refl
    where
      f : ℕ → Bool
      f l = (c l && eqb (at (labels m a b c l) (a l)) (at (labels m a b c l) (b l))) && eqb (a l) x

      go : eqb (at (loop_set m a b c n) x) 1 ≡ any_to n f
          → (t : Bool) → (c n && eqb (at (labels m a b c n) (a n)) (at (labels m a b c n) (b n))) ≡ t
          → (u : Bool) → eqb (a n) x ≡ u → eqb (at (loop_set m a b c (suc n)) x) 1 ≡ any_to (suc n) f
      go ih true t true u =
          eq-eqb (at (loop_set m a b c (suc n)) x) 1
          (ap (λ (ls : List ℕ). at ls x) (loops_on n t) ∙ rw (← eqb-true (a n) x u)
          (get_or-set_same (loop_set m a b c n) (a n) 1 0 (omega (arith, length_loops n, eqb-true (a n) x u))))
          ∙ sym (any_yes n f (rw t u))
      go ih true t false u =
          ap (λ (ls : List ℕ). eqb (at ls x) 1) (loops_on n t)
          ∙ ap (λ (k : ℕ). eqb k 1) (get_or-set_other (loop_set m a b c n) (a n) x 1 0 (λ e. eqb-false (a n) x u (sym e)))
          ∙ ih
          ∙ sym (any_no n f (rw t u))
      go ih false t v u = ap (λ (ls : List ℕ). eqb (at ls x) 1) (loops_off n t) ∙ ih ∙ sym (any_no n f (rw t refl))

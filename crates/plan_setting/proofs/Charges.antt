-- The charges and fellows, switch by switch: one entry more in each.
-- Assumes nothing.
use Prim.Native.Nat.{ℕ, ◌+◌, ◌*◌, ◌≤◌, ◌<◌}
use mathlib.Core.Path.{◌≡◌, refl, sym, ◌∙◌}
use mathlib.Core.Bool.{Bool, true, false}
use mathlib.Core.List.{List}
use lib.Dec.{eqb, ltb}
use lib.ListN.{length, set, length-set, replicate, length-replicate}
use lib.Seq.{get_or-set_same, get_or-set_other}
use borrow.Author.Tests.{eqb-true, eqb-false, lt-ltb, le-ltb}
use native.Mathlib.Omega.{arith}
use Rattle.std.proofs.lemmas.List.{get_or-replicate}
use Rattle.feeding.proofs.Below.{gate_le}
use Rattle.feeding.specs.Networks.{at}
use Rattle.plan_problem.specs.Sets.{mask_of, charge_of, fellows_of}
use Rattle.plan_setting.specs.declared.Guards.{Guards}
use Rattle.plan_setting.specs.Setting.{Charging}

-- one entry more of a column; an entry that is not put is 0
pub record ColumnTo (f : ℕ → ℕ) (i : ℕ) (xs : List ℕ) : Type 0 where
  pub long : length xs ≡ 16
  pub entry_at : (j : ℕ) → j < i → at xs j ≡ f j
  pub rest_at : (j : ℕ) → i ≤ j → j < 16 → at xs j ≡ 0

pub column_none : (f : ℕ → ℕ) → ColumnTo f 0 (replicate 16 0)
column_none f = record {
  long = length-replicate {A = ℕ} 16 0;
  entry_at = λ j k. absurd (omega arith);
  rest_at = λ j h k. get_or-replicate 16 j 0 0 k;
}

module _ (f : ℕ → ℕ) (i : ℕ) (xs : List ℕ) (z : ColumnTo f i xs) (few : i < 16) where
  pub column_more : (ys : List ℕ) (v : ℕ) → v ≡ f i → ys ≡ set xs i v → ColumnTo f (i + 1) ys
  column_more ys v e g = rw g (record {
    long = length-set xs i v ∙ z.long;
    entry_at = λ j k. go j k (eqb j i) refl;
    rest_at = λ j h k. get_or-set_other xs i j v 0 (λ q. omega arith) ∙ z.rest_at j (omega arith) k;
  })
    where
      go : (j : ℕ) → j < i + 1 → (t : Bool) → eqb j i ≡ t → at (set xs i v) j ≡ f j
      go j k true t =
          let q : j ≡ i = eqb-true j i t in
          rw q (get_or-set_same xs i v 0 (omega (arith, z.long)) ∙ e)
      go j k false t =
          let b : j < i = omega (arith, eqb-false j i t) in
          get_or-set_other xs i j v 0 (λ q. omega arith) ∙ z.entry_at j b

  -- an entry that is left out
  pub column_kept : (ys : List ℕ) → f i ≡ 0 → ys ≡ xs → ColumnTo f (i + 1) ys
  column_kept ys e g = rw g (record {
    long = z.long;
    entry_at = λ j k. go j k (eqb j i) refl;
    rest_at = λ j h k. z.rest_at j (omega arith) k;
  })
    where
      go : (j : ℕ) → j < i + 1 → (t : Bool) → eqb j i ≡ t → at xs j ≡ f j
      go j k true t =
          let q : j ≡ i = eqb-true j i t in
          rw q (z.rest_at i (omega arith) few ∙ sym e)
      go j k false t = z.entry_at j (omega (arith, eqb-false j i t))

-- what the entries of switch i are
module _ (guard cost : List ℕ) (K : ℕ) (link : List ℕ) where
  abbrev pub charge_in : ℕ → ℕ
  charge_in i = charge_of (at guard) (at cost) K (at link i)

  abbrev pub fellows_in : ℕ → ℕ
  fellows_in i = fellows_of (λ j. at guard (at link j)) K i

  pub guarded_charge : (i : ℕ) → at guard (at link i) < K → 2 * at cost (at guard (at link i)) ≡ charge_in i
  unfolding charge_of
  guarded_charge i h = rw (lt-ltb (at guard (at link i)) K h) refl

  pub guarded_fellows : (i f : ℕ) → at guard (at link i) < K → f ≡ mask_of (λ j. eqb (at guard (at link j)) (at guard (at link i))) i → f ≡ fellows_in i
  unfolding fellows_of
  guarded_fellows i f h q = rw (lt-ltb (at guard (at link i)) K h) q

  pub free_charge : (i : ℕ) → K ≤ at guard (at link i) → charge_in i ≡ 0
  unfolding charge_of
  free_charge i h = rw (le-ltb (at guard (at link i)) K h) refl

  pub free_fellows : (i : ℕ) → K ≤ at guard (at link i) → fellows_in i ≡ 0
  unfolding fellows_of
  free_fellows i h = rw (le-ltb (at guard (at link i)) K h) refl

  -- where costs are below 65536
  pub charges_small : (count : ℕ) (r : Guards) → Charging guard cost K link count r → ((l : ℕ) → at cost l < 65536) → (i : ℕ) → i < count → at r.charge i < 131072
  unfolding charge_of
  charges_small count r c small i k =
      omega (arith, c.charge_at i k, gate_le (ltb (at guard (at link i)) K) (2 * at cost (at guard (at link i))), small (at guard (at link i)))

-- An array that is filled from the front: its entries are what a function says, by one entry more at a time.
-- Assumes nothing.
use mathlib.Core.Path.{◌≡◌, refl, ◌∙◌}
use mathlib.Core.Bool.{Bool, true, false}
use mathlib.Core.List.{List}
use Prim.Native.Nat.{ℕ, ◌+◌, ◌≤◌, ◌<◌}
use lib.Dec.{eqb}
use lib.ListN.{length, set, length-set, replicate, length-replicate}
use lib.Seq.{get_or-set_same, get_or-set_other}
use borrow.Author.Tests.{eqb-true, eqb-false}
use native.Mathlib.Omega.{arith}
use Rattle.feeding.specs.Below.{tabulate}
use Rattle.feeding.specs.Networks.{at}
use Rattle.feeding.proofs.Lows.{table_ext}

-- the entries below i are what f says
pub record Filled (w : ℕ) (f : ℕ → ℕ) (i : ℕ) (xs : List ℕ) : Type 0 where
  pub long : length xs ≡ w
  pub upto : (k : ℕ) → k < i → at xs k ≡ f k

pub filled_none : (w : ℕ) (f : ℕ → ℕ) → Filled w f 0 (replicate w 0)
filled_none w f = record { long = length-replicate {A = ℕ} w 0; upto = λ k h. absurd (omega arith) }

pub filled_more : (w : ℕ) (f : ℕ → ℕ) (i x : ℕ) (xs ys : List ℕ) → i < w → Filled w f i xs → x ≡ f i → ys ≡ set xs i x → Filled w f (i + 1) ys
filled_more w f i x xs ys h r q e = rw e (record { long = length-set xs i x ∙ r.long; upto = λ k b. go k b (eqb k i) refl })
  where
    go : (k : ℕ) → k < i + 1 → (t : Bool) → eqb k i ≡ t → at (set xs i x) k ≡ f k
    go k b true t = let same : k ≡ i = eqb-true k i t in rw same (get_or-set_same xs i x 0 (omega (arith, r.long)) ∙ q)
    go k b false t = get_or-set_other xs i k x 0 (eqb-false k i t) ∙ r.upto k (omega (arith, eqb-false k i t))

pub filled_all : (w : ℕ) (f : ℕ → ℕ) (i : ℕ) (xs : List ℕ) → w ≤ i → Filled w f i xs → xs ≡ tabulate w f
filled_all w f i xs h r = table_ext w f xs r.long (λ k b. r.upto k (omega arith))

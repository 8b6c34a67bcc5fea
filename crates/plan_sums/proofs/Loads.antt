-- The sums that are computed are those that the papers ask for, and no others are: a sum of loads does not hang on which test tells its elements.
-- Assumes nothing.
use mathlib.Core.Path.{◌≡◌, refl, sym, ap, ◌∙◌}
use mathlib.Core.Bool.{Bool, true, false, not, ◌&&◌}
use Prim.Native.Nat.{ℕ, ◌+◌, ◌<◌, ◌≤◌}
use native.Mathlib.Omega.{arith}
use Rattle.feeding.specs.Below.{gate, sum_to}
use Rattle.feeding.specs.Networks.{Net, Formed}
use Rattle.feeding.specs.Parts.{Config, live?}
use Rattle.feeding.specs.Safety.{Safe}
use Rattle.feeding.specs.Restoration.{FixedClosed, restorable?, total_load}
use Rattle.feeding.proofs.Balance.{live_restorable}
use Rattle.feeding.proofs.Below.{and_left, and_right, and_both, not_in, not_out}
use Rattle.feeding.proofs.Sums.{sum_to_add, sum_to_ext, sum_to_zero}
use Rattle.feeding.proofs.Tests.{live?_in, live?_out, restorable?_in, restorable?_out}
use Rattle.plan_sums.specs.declared.Sums.{Sums}
use Rattle.plan_sums.specs.Sums.{load_over, LoadOf, LoadsOver, FirstLoads, LoadsIn, sums_over, sums_after}

-- ---- there is one such triple

-- two tests of one thing agree
tests_same : (a b : Bool) → (a ≡ true → b ≡ true) → (b ≡ true → a ≡ true) → a ≡ b
tests_same true b f g = sym (f refl)
tests_same false true f g = g refl
tests_same false false f g = refl

load_same : (load : ℕ → ℕ) (P : ℕ → Type 0) (n x y : ℕ) → LoadOf load P n x → LoadOf load P n y → x ≡ y
load_same load P n x y a b =
    a.sum
    ∙ sum_to_ext n _ _ (λ e k. ap (λ (t : Bool). gate t (load e))
    (tests_same (a.test e) (b.test e) (λ h. b.told e k (a.tells e k h)) (λ h. a.told e k (b.tells e k h))))
    ∙ sym b.sum

pub loads_same : {load : ℕ → ℕ} {L R : ℕ → Type 0} {n : ℕ} {l m : Sums} → LoadsOver load L R n l → LoadsOver load L R n m → l ≡ m
loads_same {load} {L} {R} {n} {l} {m} a b = λ i. record { fed = fed i; dark = dark i; lost = lost i }
  where
    fed : l.fed ≡ m.fed
    fed = load_same load _ n l.fed m.fed a.fed b.fed

    dark : l.dark ≡ m.dark
    dark = load_same load _ n l.dark m.dark a.dark b.dark

    lost : l.lost ≡ m.lost
    lost = load_same load _ n l.lost m.lost a.lost b.lost

-- a configuration has one triple of sums
pub sums_same : {net : Net} {c : Config} {l m : Sums} → LoadsIn net c l → LoadsIn net c m → l ≡ m
sums_same a b = loads_same a.sums b.sums

-- ---- what is computed is one

module _ (load : ℕ → ℕ) (L R : ℕ → Type 0) (live restorable : ℕ → Bool) (n : ℕ)
    (live-tells : (e : ℕ) → e < n → live e ≡ true → L e) (live-told : (e : ℕ) → e < n → L e → live e ≡ true)
    (restorable-tells : (e : ℕ) → e < n → restorable e ≡ true → R e) (restorable-told : (e : ℕ) → e < n → R e → restorable e ≡ true) where
  pub loads_over : LoadsOver load L R n (sums_over load live restorable n)
  unfolding sums_over
  loads_over = record {
    fed = record { test = live; tells = live-tells; told = live-told; sum = refl };
    dark = record {
      test = λ e. restorable e && not (live e);
      tells = λ e k h. (
        restorable-tells e k (and_left (restorable e) _ h),
        λ l. not_out _ (and_right (restorable e) _ h) (live-told e k l),
      );
      told = λ e k h. and_both (restorable e) _ (restorable-told e k h.0) (not_in _ (λ t. h.1 (live-tells e k t)));
      sum = refl;
    };
    lost = record {
      test = λ e. not (restorable e);
      tells = λ e k h r. not_out _ h (restorable-told e k r);
      told = λ e k h. not_in _ (λ t. h (restorable-tells e k t));
      sum = refl;
    };
  }

-- in a configuration of a network
pub first_loads : (net : Net) → Formed net.grid → (c : Config) (n : ℕ) → n ≤ net.grid.E
    → FirstLoads net c n (sums_over net.grid.load (live? net.grid c) (restorable? net) n)
first_loads net formed c n h =
    loads_over net.grid.load _ _ (live? net.grid c) (restorable? net) n
    (λ e k. live?_out net.grid formed c e (omega arith))
    (λ e k. live?_in net.grid formed c e)
    (λ e k. restorable?_out net formed e (omega arith))
    (λ e k. restorable?_in net formed e (omega arith))

-- ---- the three add up

-- of any sets: each element has one share, and one that is live and not restorable has two
pub shares : (load : ℕ → ℕ) (live restorable : ℕ → Bool) (n : ℕ)
    → (sums_over load live restorable n).fed + (sums_over load live restorable n).dark + (sums_over load live restorable n).lost
    ≡ sum_to n load + load_over load (λ e. live e && not (restorable e)) n
unfolding sums_over
shares load live restorable n =
    omega (
      arith,
      sum_to_add n fed dark,
      sum_to_add n (λ e. fed e + dark e) lost,
      sum_to_add n load twice,
      sum_to_ext n (λ e. (fed e + dark e) + lost e) (λ e. load e + twice e) (λ e k. one e (live e) refl (restorable e) refl),
    )
  where
    fed : ℕ → ℕ
    fed e = gate (live e) (load e)

    dark : ℕ → ℕ
    dark e = gate (restorable e && not (live e)) (load e)

    lost : ℕ → ℕ
    lost e = gate (not (restorable e)) (load e)

    twice : ℕ → ℕ
    twice e = gate (live e && not (restorable e)) (load e)

    one : (e : ℕ) (t : Bool) → live e ≡ t → (u : Bool) → restorable e ≡ u → (fed e + dark e) + lost e ≡ load e + twice e
    one e true p true q = rw (p, q) (omega arith)
    one e false p true q = rw (p, q) (omega arith)
    one e false p false q = rw (p, q) (omega arith)
    one e true p false q = rw (p, q) (omega arith)

module _ (net : Net) (formed : Formed net.grid) (c : Config) (kept : FixedClosed net c) (safe : Safe net.grid c) where
  -- what a safe configuration feeds is restorable
  none_twice : (n : ℕ) → n ≤ net.grid.E → load_over net.grid.load (λ e. live? net.grid c e && not (restorable? net e)) n ≡ 0
  none_twice n h = sum_to_zero n _ (λ e k. go e (omega arith) (live? net.grid c e) refl)
    where
      go : (e : ℕ) → e < net.grid.E → (t : Bool) → live? net.grid c e ≡ t → gate (t && not (restorable? net e)) (net.grid.load e) ≡ 0
      go e k false p = refl
      go e k true p = rw (restorable?_in net formed e k (live_restorable net formed c kept safe e k (live?_out net.grid formed c e k p)))

  first_shares : (n : ℕ) → n ≤ net.grid.E → (l : Sums) → l ≡ sums_over net.grid.load (live? net.grid c) (restorable? net) n
      → l.fed + l.dark + l.lost ≡ sum_to n net.grid.load
  first_shares n h l e =
      ap (λ (m : Sums). m.fed + m.dark + m.lost) e ∙ omega (arith, shares net.grid.load (live? net.grid c) (restorable? net) n, none_twice n h)

  -- of the first n elements, for any n up to E
  pub balance : (n : ℕ) → n ≤ net.grid.E → (l : Sums) → FirstLoads net c n l → l.fed + l.dark + l.lost ≡ sum_to n net.grid.load
  balance n h l x = first_shares n h l (loads_same x (first_loads net formed c n h))

  -- the sums of the LOAD line
  pub sums_in : LoadsIn net c (sums_after net c)
  unfolding sums_after total_load
  sums_in = record { sums = first_loads net formed c net.grid.E (omega arith); total = first_shares net.grid.E (omega arith) _ refl }

-- Laws of sums below a bound, by induction on the bound.
-- Assumes nothing.
use Prim.Native.Nat.{ℕ, zero, suc, ◌+◌, ◌*◌, ◌≤◌, ◌<◌}
use mathlib.Core.Path.{◌≡◌, refl, sym, ap, ◌∙◌}
use mathlib.Core.Bool.{Bool, true, false}
use lib.Dec.{eqb, ltb}
use borrow.Author.Tests.{eqb-true, eqb-false, ltb-true, ltb-false, lt-ltb, le-ltb}
use native.Mathlib.Omega.{arith}
use Rattle.feeding.specs.Below.{gate, sum_to}
use Rattle.feeding.proofs.Below.{ltb_suc}

pub sum_to_no : (f : ℕ → ℕ) → sum_to 0 f ≡ 0
unfolding sum_to
sum_to_no f = refl

pub sum_to_more : (f : ℕ → ℕ) (n : ℕ) → sum_to (suc n) f ≡ sum_to n f + f n
unfolding sum_to
sum_to_more f n = refl

-- ---- two sums

pub sum_to_ext : (n : ℕ) (f g : ℕ → ℕ) → ((l : ℕ) → l < n → f l ≡ g l) → sum_to n f ≡ sum_to n g
unfolding sum_to
sum_to_ext zero f g h = refl
sum_to_ext (suc n) f g h = omega (arith, sum_to_ext n f g (λ l k. h l (omega arith)), h n (omega arith))

pub sum_to_mono : (n : ℕ) (f g : ℕ → ℕ) → ((l : ℕ) → l < n → f l ≤ g l) → sum_to n f ≤ sum_to n g
unfolding sum_to
sum_to_mono zero f g h = omega arith
sum_to_mono (suc n) f g h = omega (arith, sum_to_mono n f g (λ l k. h l (omega arith)), h n (omega arith))

pub sum_to_strict : (n : ℕ) (f g : ℕ → ℕ) → ((l : ℕ) → l < n → f l ≤ g l) → (x : ℕ) → x < n → f x < g x → sum_to n f < sum_to n g
unfolding sum_to
sum_to_strict zero f g h x k s = omega arith
sum_to_strict (suc n) f g h x k s = go (λ k. sum_to_strict n f g (λ l b. h l (omega arith)) x k s) (ltb x n) refl
  where
    go : (x < n → sum_to n f < sum_to n g) → (t : Bool) → ltb x n ≡ t → sum_to n f + f n < sum_to n g + g n
    go ih true t = omega (arith, ih (ltb-true x n t), h n (omega arith))
    go ih false t = let e : x ≡ n = omega (arith, ltb-false x n t) in omega (arith, sum_to_mono n f g (λ l b. h l (omega arith)), rw e at s)

pub sum_to_add : (n : ℕ) (f g : ℕ → ℕ) → sum_to n (λ l. f l + g l) ≡ sum_to n f + sum_to n g
unfolding sum_to
sum_to_add zero f g = omega arith
sum_to_add (suc n) f g = omega (arith, sum_to_add n f g)

-- ---- terms that are 0, and one term

pub sum_to_none : (n : ℕ) → sum_to n (λ _. zero) ≡ zero
unfolding sum_to
sum_to_none zero = refl
sum_to_none (suc n) = omega (arith, sum_to_none n)

pub sum_to_zero : (n : ℕ) (f : ℕ → ℕ) → ((l : ℕ) → l < n → f l ≡ 0) → sum_to n f ≡ 0
sum_to_zero n f h = sum_to_ext n f (λ _. zero) h ∙ sum_to_none n

-- a sum that has one term at most
pub sum_to_at : (g : ℕ → ℕ) (s n : ℕ) → sum_to n (λ l. gate (eqb l s) (g l)) ≡ gate (ltb s n) (g s)
unfolding sum_to
sum_to_at g s zero = rw (le-ltb s zero (omega arith))
sum_to_at g s (suc n) = rw (sum_to_at g s n) (go (eqb n s) refl)
  where
    go : (t : Bool) → eqb n s ≡ t → gate (ltb s n) (g s) + gate t (g n) ≡ gate (ltb s (suc n)) (g s)
    go true e = rw (le-ltb s n (omega (arith, eqb-true n s e)), lt-ltb s (suc n) (omega (arith, eqb-true n s e)), eqb-true n s e) (omega arith)
    go false e = rw (ltb_suc s n (λ q. eqb-false n s e (sym q))) (omega arith)

-- a sum whose other terms are all 0
pub sum_to_only : (n : ℕ) (f : ℕ → ℕ) (i : ℕ) → i < n → ((l : ℕ) → l < n → (l ≡ i → ⊥) → f l ≡ 0) → sum_to n f ≡ f i
sum_to_only n f i k h = sum_to_ext n f (λ l. gate (eqb l i) (f l)) (λ l kl. go l kl (eqb l i) refl) ∙ sum_to_at f i n ∙ rw (lt-ltb i n k)
  where
    go : (l : ℕ) → l < n → (t : Bool) → eqb l i ≡ t → f l ≡ gate t (f l)
    go l kl true t = refl
    go l kl false t = h l kl (eqb-false l i t)

-- ---- a sum under a test, and a sum of sums

pub gate_sum : (b : Bool) (n : ℕ) (f : ℕ → ℕ) → gate b (sum_to n f) ≡ sum_to n (λ x. gate b (f x))
gate_sum true n f = refl
gate_sum false n f = sym (sum_to_none n)

pub sum_to_swap : (n m : ℕ) (f : ℕ → ℕ → ℕ) → sum_to n (λ i. sum_to m (λ j. f i j)) ≡ sum_to m (λ j. sum_to n (λ i. f i j))
unfolding sum_to
sum_to_swap zero m f = sym (sum_to_none m)
sum_to_swap (suc n) m f = ap (λ x. x + sum_to m (f n)) (sum_to_swap n m f) ∙ sym (sum_to_add m (λ j. sum_to n (λ i. f i j)) (f n))

-- ---- other bounds

pub sum_to_gap : (f : ℕ → ℕ) (i j : ℕ) → i ≤ j → ((k : ℕ) → i ≤ k → k < j → f k ≡ 0) → sum_to j f ≡ sum_to i f
sum_to_gap f i zero h z = let q : 0 ≡ i = omega arith in ap (λ n. sum_to n f) q
sum_to_gap f i (suc j) h z = go (λ k. sum_to_gap f i j k (λ l a b. z l a (omega arith))) (eqb (suc j) i) refl
  where
    go : (i ≤ j → sum_to j f ≡ sum_to i f) → (t : Bool) → eqb (suc j) i ≡ t → sum_to (suc j) f ≡ sum_to i f
    go ih true t = ap (λ n. sum_to n f) (eqb-true (suc j) i t)
    go ih false t = omega (arith, sum_to_more f j, ih (omega (arith, eqb-false (suc j) i t)), z j (omega (arith, eqb-false (suc j) i t)) (omega arith))

pub sum_to_grows : (f : ℕ → ℕ) (i j : ℕ) → i ≤ j → sum_to i f ≤ sum_to j f
sum_to_grows f i zero h = let q : i ≡ 0 = omega arith in rw q (omega arith)
sum_to_grows f i (suc j) h = go (λ k. sum_to_grows f i j k) (eqb (suc j) i) refl
  where
    go : (i ≤ j → sum_to i f ≤ sum_to j f) → (t : Bool) → eqb (suc j) i ≡ t → sum_to i f ≤ sum_to (suc j) f
    go ih true t = omega (arith, ap (λ n. sum_to n f) (eqb-true (suc j) i t))
    go ih false t = omega (arith, sum_to_more f j, ih (omega (arith, eqb-false (suc j) i t)))

pub sum_to_term : (n : ℕ) (f : ℕ → ℕ) (i : ℕ) → i < n → f i ≤ sum_to n f
sum_to_term n f i h = omega (arith, sum_to_more f i, sum_to_grows f (suc i) n h)

pub sum_to_pairs : (f h : ℕ → ℕ) (n : ℕ) → ((l : ℕ) → l < n → f (2 * l) + f (2 * l + 1) ≡ h l) → sum_to (2 * n) f ≡ sum_to n h
sum_to_pairs f h zero p = sum_to_no f ∙ sym (sum_to_no h)
sum_to_pairs f h (suc n) p =
    let two : 2 * suc n ≡ suc (suc (2 * n)) = omega arith in
    let one : suc (2 * n) ≡ 2 * n + 1 = omega arith in
    omega (
      arith,
      ap (λ m. sum_to m f) two,
      sum_to_more f (suc (2 * n)),
      sum_to_more f (2 * n),
      ap f one,
      sum_to_more h n,
      sum_to_pairs f h n (λ l k. p l (omega arith)),
      p n (omega arith),
    )

pub sum_to_below : (b : ℕ) (f : ℕ → ℕ) (n : ℕ) → ((l : ℕ) → l < n → f l ≤ b) → sum_to n f ≤ b * n
sum_to_below b f zero h = omega (arith, sum_to_no f)
sum_to_below b f (suc n) h = omega (arith, sum_to_more f n, sum_to_below b f n (λ l k. h l (omega arith)), h n (omega arith))

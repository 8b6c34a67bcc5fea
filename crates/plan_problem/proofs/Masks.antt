-- A set meets a mask where one of its switches passes the mask's test: digit by digit.
-- Assumes nothing.
use Prim.Native.Nat.{ℕ, zero, suc, ◌+◌, ◌*◌, ◌/◌, ◌%◌, ◌^◌, ◌≤◌, ◌<◌, min}
use mathlib.Core.Path.{◌≡◌, refl, sym, ap, ap₂, ◌∙◌}
use mathlib.Core.Bool.{Bool, true, false, not, ◌&&◌, ◌||◌}
use lib.Bits.{bit_and, and_step, and_zero_r}
use lib.Dec.{eqb, ltb}
use lib.Pow.{pow_mono}
use borrow.Author.Tests.{eqb-true, eqb-false, eq-eqb, ne_eqb}
use native.Mathlib.Nat.{zero-min}
use native.Mathlib.Omega.{arith}
use Rattle.feeding.specs.Below.{gate, any_to}
use Rattle.feeding.specs.Plans.{put}
use Rattle.feeding.proofs.Below.{any_to_ext, any_none}
use Rattle.plan_problem.specs.Sets.{set_of, mask_of, fellows_of}

pub mask_none : (f : ℕ → Bool) → mask_of f 0 ≡ 0
unfolding mask_of
mask_none f = refl

pub mask_more : (f : ℕ → Bool) (n : ℕ) → mask_of f (suc n) ≡ 2 * mask_of f n + gate (f n) 1
unfolding mask_of
mask_more f n = refl

pub mask_below : (f : ℕ → Bool) (n : ℕ) → mask_of f n < 2 ^ n
mask_below f zero = omega (arith, mask_none f)
mask_below f (suc n) = omega (arith, mask_more f n, mask_below f n, bit (f n))
  where
    bit : (b : Bool) → gate b 1 ≤ 1
    bit true = omega arith
    bit false = omega arith

pub mask_fits : (f : ℕ → Bool) (n : ℕ) → n ≤ 16 → mask_of f n < 65536
mask_fits f n h = omega (arith, mask_below f n, pow_mono {i = n} {j = 16} h)

-- ---- a set and a mask

-- which of n switches the number s has, by their places
abbrev pub picked : ℕ → ℕ → ℕ → Bool
picked n s i = set_of (λ j. j) n s i

pub picked_last : (n s : ℕ) → picked (suc n) s n ≡ eqb (s % 2) 1
unfolding set_of put
picked_last n s = rw (eq-eqb n n refl)

pub picked_before : (n s i : ℕ) → (i ≡ n → ⊥) → picked (suc n) s i ≡ picked n (s / 2) i
unfolding set_of put
picked_before n s i h = rw (ne_eqb i n h)

any_more : (n : ℕ) (f : ℕ → Bool) → any_to (suc n) f ≡ (any_to n f || f n)
unfolding any_to
any_more n f = refl

-- one binary digit more
digit_zero : (whole x d : ℕ) (b : Bool) → whole ≡ x * 2 + min d (gate b 1) → d < 2 → not (eqb whole 0) ≡ (not (eqb x 0) || (eqb d 1 && b))
digit_zero whole x d b h k = go (eqb x 0) refl (eqb d 1) refl b h
  where
    go : (t : Bool) → eqb x 0 ≡ t → (u : Bool) → eqb d 1 ≡ u → (b : Bool) → whole ≡ x * 2 + min d (gate b 1)
        → not (eqb whole 0) ≡ (not t || (u && b))
    go true t true u true h = ap not (ne_eqb whole 0 (omega (arith, h, eqb-true d 1 u)))
    go true t true u false h = ap not (eq-eqb whole 0 (omega (arith, h, eqb-true x 0 t)))
    go true t false u b h =
        let zero-digit : d ≡ 0 = omega (arith, eqb-false d 1 u) in
        let none : min d (gate b 1) ≡ 0 = rw zero-digit (zero-min (gate b 1)) in
        ap not (eq-eqb whole 0 (omega (arith, h, eqb-true x 0 t)))
    go false t u v b h = ap not (ne_eqb whole 0 (omega (arith, h, eqb-false x 0 t)))

meets_step : (s m : ℕ) (b : Bool) → not (eqb (bit_and s (2 * m + gate b 1)) 0) ≡ (not (eqb (bit_and (s / 2) m) 0) || (eqb (s % 2) 1 && b))
meets_step s m b = digit_zero (bit_and s (2 * m + gate b 1)) (bit_and (s / 2) m) (s % 2) b whole (omega arith)
  where
    half : (b : Bool) → (2 * m + gate b 1) / 2 ≡ m
    half true = omega arith
    half false = omega arith

    odd : (b : Bool) → (2 * m + gate b 1) % 2 ≡ gate b 1
    odd true = omega arith
    odd false = omega arith

    whole : bit_and s (2 * m + gate b 1) ≡ bit_and (s / 2) m * 2 + min (s % 2) (gate b 1)
    whole = and_step s (2 * m + gate b 1) ∙ ap₂ (λ x y. bit_and (s / 2) x * 2 + min (s % 2) y) (half b) (odd b)

-- the set s of n switches meets the mask of those that pass f
pub mask_meets : (f : ℕ → Bool) (n s : ℕ) → not (eqb (bit_and s (mask_of f n)) 0) ≡ any_to n (λ i. picked n s i && f i)
mask_meets f zero s = ap (λ m. not (eqb (bit_and s m) 0)) (mask_none f) ∙ ap (λ x. not (eqb x 0)) (and_zero_r s) ∙ sym (any_none (λ i. picked 0 s i && f i))
mask_meets f (suc n) s =
    ap (λ m. not (eqb (bit_and s m) 0)) (mask_more f n)
    ∙ meets_step s (mask_of f n) (f n)
    ∙ ap₂ ◌||◌ (mask_meets f n (s / 2) ∙ any_to_ext n _ _ (λ i k. ap (λ b. b && f i) (sym (picked_before n s i (λ e. omega arith)))))
    (ap (λ b. b && f n) (sym (picked_last n s)))
    ∙ sym (any_more n (λ i. picked (suc n) s i && f i))

-- ---- one switch more

pub mask_on : (f : ℕ → Bool) (n mask more : ℕ) → mask ≡ mask_of f n → f n ≡ true → more ≡ 2 * mask + 1 → more ≡ mask_of f (n + 1)
mask_on f n mask more e t q =
    let s : n + 1 ≡ suc n = omega arith in
    omega (arith, ap (mask_of f) s, mask_more f n, ap (λ b. gate b 1) t)

pub mask_off : (f : ℕ → Bool) (n mask more : ℕ) → mask ≡ mask_of f n → f n ≡ false → more ≡ 2 * mask → more ≡ mask_of f (n + 1)
mask_off f n mask more e t q =
    let s : n + 1 ≡ suc n = omega arith in
    omega (arith, ap (mask_of f) s, mask_more f n, ap (λ b. gate b 1) t)

-- ---- a mask reads its test below n alone

pub mask_ext : (f f' : ℕ → Bool) (n : ℕ) → ((i : ℕ) → i < n → f i ≡ f' i) → mask_of f n ≡ mask_of f' n
unfolding mask_of
mask_ext f f' zero h = refl
mask_ext f f' (suc n) h = omega (arith, mask_ext f f' n (λ i k. h i (omega arith)), ap (λ b. gate b 1) (h n (omega arith)))

pub fellows_ext : (guard guard' : ℕ → ℕ) (K i : ℕ) → ((j : ℕ) → j ≤ i → guard j ≡ guard' j) → fellows_of guard K i ≡ fellows_of guard' K i
unfolding fellows_of
fellows_ext guard guard' K i h =
    ap₂ (λ (g m : ℕ). gate (ltb g K) m) (h i (omega arith))
    (mask_ext _ _ i (λ j k. ap₂ eqb (h j (omega arith)) (h i (omega arith))))

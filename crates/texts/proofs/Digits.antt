-- What the digits of a number are: one for a number below ten, and else those of its tenth and one more. By induction over the tenths.
-- Assumes nothing.
use mathlib.Core.Path.{◌≡◌, refl, ap, sym, ◌∙◌}
use mathlib.Core.Bool.{Bool, true, false}
use mathlib.Core.List.{List, [], ◌∷◌, ◌++◌}
use Prim.Native.Nat.{ℕ, zero, suc, ◌+◌, ◌-◌, ◌*◌, ◌/◌, ◌%◌, ◌^◌, ◌<◌, ◌≤◌}
use native.Mathlib.Nat.{pow-suc}
use native.Mathlib.Omega.{arith}
use lib.Dec.{ltb}
use lib.ListN.{length, get_or, length-append, get_or-append}
use lib.Seq.{get_or_at}
use borrow.Author.Tests.{ltb-true, ltb-false, lt-ltb, le-ltb}
use Rattle.texts.specs.Texts.{digits, decimal}

-- ---- one digit more

digits_one : (d n : ℕ) → n < 10 → digits d n ≡ (48 + n) ∷ []
unfolding digits
digits_one zero n h = refl
digits_one (suc d) n h = rw (lt-ltb n 10 h, digits)

digits_more : (d n : ℕ) → 10 ≤ n → digits (suc d) n ≡ digits d (n / 10) ++ ((48 + n % 10) ∷ [])
unfolding digits
digits_more d n h = rw (le-ltb n 10 h, digits)

-- any fuel that is no less than the number gives the same digits
digits_fuel : (d e n : ℕ) → n ≤ d → n ≤ e → digits d n ≡ digits e n
digits_fuel zero e n h k = digits_one zero n (omega arith) ∙ sym (digits_one e n (omega arith))
digits_fuel (suc d) zero n h k = digits_one (suc d) n (omega arith) ∙ sym (digits_one zero n (omega arith))
digits_fuel (suc d) (suc e) n h k = go (ltb n 10) refl (digits_fuel d e (n / 10))
  where
    go :
        (t : Bool) → ltb n 10 ≡ t → (n / 10 ≤ d → n / 10 ≤ e → digits d (n / 10) ≡ digits e (n / 10)) →
        digits (suc d) n ≡ digits (suc e) n
    go true t tenth = digits_one (suc d) n (ltb-true n 10 t) ∙ sym (digits_one (suc e) n (ltb-true n 10 t))
    go false t tenth =
        let big = ltb-false n 10 t in
        digits_more d n big ∙
        ap (λ (xs : List ℕ). xs ++ ((48 + n % 10) ∷ [])) (tenth (omega (arith, big)) (omega (arith, big))) ∙
        sym (digits_more e n big)

pub decimal_one : (n : ℕ) → n < 10 → decimal n ≡ (48 + n) ∷ []
unfolding decimal
decimal_one n h = digits_one n n h

pub decimal_more : (n : ℕ) → 10 ≤ n → decimal n ≡ decimal (n / 10) ++ ((48 + n % 10) ∷ [])
unfolding decimal
decimal_more n h =
    digits_fuel n (suc n) n (omega arith) (omega arith) ∙
    digits_more n n h ∙
    ap (λ (xs : List ℕ). xs ++ ((48 + n % 10) ∷ [])) (digits_fuel n (n / 10) (n / 10) (omega arith) (omega arith))

-- what holds below ten, and for a number where it holds for its tenth, holds for all
by_tens :
    (P : ℕ → Type 0) → ((n : ℕ) → n < 10 → P n) → ((n : ℕ) → 10 ≤ n → P (n / 10) → P n) → (d n : ℕ) → n ≤ d → P n
by_tens P one more zero n h = one n (omega arith)
by_tens P one more (suc d) n h = go (ltb n 10) refl (by_tens P one more d (n / 10))
  where
    go : (t : Bool) → ltb n 10 ≡ t → (n / 10 ≤ d → P (n / 10)) → P n
    go true t tenth = one n (ltb-true n 10 t)
    go false t tenth = let big = ltb-false n 10 t in more n big (tenth (omega (arith, big)))

-- ---- lengths

pub decimal_length : (n : ℕ) → 10 ≤ n → length (decimal n) ≡ length (decimal (n / 10)) + 1
decimal_length n h = ap length (decimal_more n h) ∙ length-append (decimal (n / 10)) ((48 + n % 10) ∷ [])

-- a number below a power of ten
pub decimal_short : (k n : ℕ) → n < 10 ^ suc k → length (decimal n) ≤ suc k
decimal_short zero n h = rw (decimal_one n h) (omega arith)
decimal_short (suc k) n h = go (ltb n 10) refl (decimal_short k (n / 10))
  where
    go : (t : Bool) → ltb n 10 ≡ t → (n / 10 < 10 ^ suc k → length (decimal (n / 10)) ≤ suc k) → length (decimal n) ≤ suc (suc k)
    go true t tenth = rw (decimal_one n (ltb-true n 10 t)) (omega arith)
    go false t tenth =
        let e = pow-suc 10 (suc k) in
        let short : length (decimal (n / 10)) ≤ suc k = tenth (omega (arith, h, e)) in
        omega (arith, short, decimal_length n (ltb-false n 10 t))

pub decimal_16 : (n : ℕ) → n < 65536 → length (decimal n) ≤ 5
decimal_16 n h = decimal_short 4 n (omega (arith, h))

pub decimal_64 : (n : ℕ) → n < 2 ^ 64 → length (decimal n) ≤ 20
decimal_64 n h = decimal_short 19 n (omega (arith, h))

-- ---- what the text of a number says

pub decimal_some : (n : ℕ) → 1 ≤ length (decimal n)
decimal_some n =
    by_tens (λ k. 1 ≤ length (decimal k)) (λ k h. rw (decimal_one k h) (omega arith)) (λ k h tenth. omega (arith, tenth, decimal_length k h)) n n
    (omega arith)

-- the last digit, and the digits before it
last_digit : (n : ℕ) → 10 ≤ n → get_or (decimal n) (length (decimal (n / 10))) 0 ≡ 48 + n % 10
last_digit n h = rw (decimal_more n h) (get_or_at (decimal (n / 10)) (48 + n % 10) [] 0 (length (decimal (n / 10))) refl)

early_digit : (n i : ℕ) → 10 ≤ n → i < length (decimal (n / 10)) → get_or (decimal n) i 0 ≡ get_or (decimal (n / 10)) i 0
early_digit n i h lt = rw (decimal_more n h) (get_or-append (decimal (n / 10)) ((48 + n % 10) ∷ []) 0 i lt)

-- the bytes `0` to `9` only
abbrev Digit : ℕ → Type 0
Digit d = (48 ≤ d) × (d ≤ 57)

pub decimal_digits : (n i : ℕ) → i < length (decimal n) → (48 ≤ get_or (decimal n) i 0) × (get_or (decimal n) i 0 ≤ 57)
decimal_digits n = by_tens (λ k. (i : ℕ) → i < length (decimal k) → Digit (get_or (decimal k) i 0)) one more n n (omega arith)
  where
    one : (k : ℕ) → k < 10 → (i : ℕ) → i < length (decimal k) → Digit (get_or (decimal k) i 0)
    one k h zero lt = rw (decimal_one k h) (omega arith, omega arith)
    one k h (suc i) lt = let e = ap length (decimal_one k h) in absurd (omega (arith, e, lt))

    more : (k : ℕ) → 10 ≤ k → ((i : ℕ) → i < length (decimal (k / 10)) → Digit (get_or (decimal (k / 10)) i 0)) →
        (i : ℕ) → i < length (decimal k) → Digit (get_or (decimal k) i 0)
    more k h tenth i lt = go (ltb i (length (decimal (k / 10)))) refl
      where
        go : (t : Bool) → ltb i (length (decimal (k / 10))) ≡ t → Digit (get_or (decimal k) i 0)
        go true t = let early = ltb-true i (length (decimal (k / 10))) t in rw (early_digit k i h early) (tenth i early)
        go false t =
            let e : i ≡ length (decimal (k / 10)) = omega (arith, lt, decimal_length k h, ltb-false i (length (decimal (k / 10))) t) in
            rw (e, last_digit k h) (omega arith, omega arith)

-- "without leading zeros"
pub decimal_leading : (n : ℕ) → 1 ≤ n → ¬ (get_or (decimal n) 0 0 ≡ 48)
decimal_leading n = by_tens (λ k. 1 ≤ k → ¬ (get_or (decimal k) 0 0 ≡ 48)) one more n n (omega arith)
  where
    one : (k : ℕ) → k < 10 → 1 ≤ k → ¬ (get_or (decimal k) 0 0 ≡ 48)
    one k h some e = let e' : 48 + k ≡ 48 = rw (decimal_one k h) at e in omega (arith, e', some)

    more : (k : ℕ) → 10 ≤ k → (1 ≤ k / 10 → ¬ (get_or (decimal (k / 10)) 0 0 ≡ 48)) → 1 ≤ k → ¬ (get_or (decimal k) 0 0 ≡ 48)
    more k h tenth some e = tenth (omega (arith, h)) (sym (early_digit k 0 h (decimal_some (k / 10))) ∙ e)

-- the number that digits denote, behind those that denote v
unfoldable pub value_behind : ℕ → List ℕ → ℕ
value_behind v [] = v
value_behind v (d ∷ ds) = value_behind (10 * v + (d - 48)) ds

unfoldable pub value_of : List ℕ → ℕ
value_of ds = value_behind 0 ds

value_more : (v : ℕ) (ds : List ℕ) (d : ℕ) → value_behind v (ds ++ (d ∷ [])) ≡ 10 * value_behind v ds + (d - 48)
unfolding value_behind
value_more v [] d = refl
value_more v (e ∷ ds) d = value_more (10 * v + (e - 48)) ds d

-- "in base ten"
pub decimal_value : (n : ℕ) → value_of (decimal n) ≡ n
unfolding value_of value_behind
decimal_value n = by_tens (λ k. value_behind 0 (decimal k) ≡ k) one more n n (omega arith)
  where
    one : (k : ℕ) → k < 10 → value_behind 0 (decimal k) ≡ k
    one k h = rw (decimal_one k h) (omega arith)

    more : (k : ℕ) → 10 ≤ k → value_behind 0 (decimal (k / 10)) ≡ k / 10 → value_behind 0 (decimal k) ≡ k
    more k h tenth = rw (decimal_more k h, value_more 0 (decimal (k / 10)) (48 + k % 10), tenth) (omega arith)

-- Pieces that are put one behind the other are the line, and a line put from the start of a buffer stands in front of it. By the laws of stores.
-- Assumes nothing.
use mathlib.Core.Path.{◌≡◌, refl, ap, sym, ◌∙◌}
use mathlib.Core.Bool.{Bool, true, false, false≢true}
use mathlib.Core.List.{List, [], ◌∷◌, ◌++◌, append_assoc}
use Prim.Native.Nat.{ℕ, suc, ◌+◌, ◌-◌, ◌/◌, ◌%◌, ◌^◌, ◌<◌, ◌≤◌}
use native.Mathlib.Nat.{add_assoc, zero-add}
use native.Mathlib.Numerals.{add-one}
use native.Mathlib.Omega.{arith}
use lib.IntN.{ℤ, pos, negsuc, nat_abs}
use lib.Signed.{lt_z}
use mir.Syntax.{w64}
use mir.Val.{SFits, to_z, of_z}
use mir.Facts.{to_z-of_z}
use borrow.Author.Tests.{ltb-true}
use lib.ListN.{length, take, drop, set, length-append, length-take}
use borrow.Rule.Slice.PartMut.{put_mid}
use lib.Seq.{sets, sets-eq, drop-drop, take_at}
use Rattle.network.proofs.Stores.{stored_behind, sets_front}
use Rattle.texts.specs.Texts.{decimal, field, signed_field, feed, line_of, in_front, Counted}
use Rattle.texts.proofs.Digits.{decimal_one, decimal_more, decimal_16, decimal_64}

-- bytes put at i of a list, with the place behind them
abbrev pub Put : List ℕ → ℕ → List ℕ → ℕ → List ℕ → Type 0
Put l i l' j xs = (j ≡ i + length xs) × (l' ≡ sets l i xs)

pub put_behind :
    (l l' l'' : List ℕ) (i j k : ℕ) (xs ys : List ℕ) → Put l i l' j xs → Put l' j l'' k ys → Put l i l'' k (xs ++ ys)
put_behind l l' l'' i j k xs ys p q = (
  q.0 ∙ ap (λ (n : ℕ). n + length ys) p.0 ∙ add_assoc i (length xs) (length ys) ∙
      ap (λ (n : ℕ). i + n) (sym (length-append xs ys)),
  stored_behind l l' l'' i j xs ys p.1 q.1 p.0,
)

-- ---- a text

-- written over a part of the buffer
pub text_over :
    (l part xs : List ℕ) (at k : ℕ) →
    at + length xs ≤ length l →
    k ≡ at + length xs - at →
    part ≡ xs →
    put_mid at k l part ≡ sets l at xs
text_over l part xs at k h k-is e =
    let long : k ≡ length xs = omega (arith, k-is) in
    rw (long, e, drop-drop (length xs) at l) (sym (append_assoc (take at l) xs (drop (at + length xs) l)) ∙ sym (sets-eq xs l at h))

-- ---- a number

pub number_one : (l : List ℕ) (at n : ℕ) → n < 10 → Put l at (set l at (48 + n)) (at + 1) (decimal n)
number_one l at n h = rw (decimal_one n h) (refl, refl)

pub number_more :
    (l l' : List ℕ) (at j n : ℕ) →
    10 ≤ n →
    Put l at l' j (decimal (n / 10)) →
    Put l at (set l' j (48 + n % 10)) (j + 1) (decimal n)
number_more l l' at j n h p =
    rw (decimal_more n h) (put_behind l l' _ at j _ (decimal (n / 10)) ((48 + n % 10) ∷ []) p (refl, refl))

-- ---- a field

pub field_put : (l l' : List ℕ) (at j n : ℕ) → Put (set l at 32) (at + 1) l' j (decimal n) → Put l at l' j (field n)
unfolding field
field_put l l' at j n p = put_behind l _ l' at (at + 1) j (32 ∷ []) (decimal n) (refl, refl) p

pub field_length : (n : ℕ) → length (field n) ≡ length (decimal n) + 1
unfolding field
field_length n = rw add-one

pub field_64 : (n : ℕ) → n < 2 ^ 64 → length (field n) ≤ 21
field_64 n h = omega (arith, field_length n, decimal_64 n h)

pub field_16 : (n : ℕ) → n < 65536 → length (field n) ≤ 6
field_16 n h = omega (arith, field_length n, decimal_16 n h)

-- ---- a signed number

-- what the test of its sign on its bits tells
module _ (z : ℤ) (fit : SFits w64 z) where
  sign_of_lem : (t : Bool) → lt_z (to_z w64 (of_z w64 z)) (pos 0) ≡ t → lt_z z (pos 0) ≡ t
  sign_of_lem t e = ap (λ (y : ℤ). lt_z y (pos 0)) (sym (to_z-of_z fit)) ∙ e

  -- below 0
  module _ (below : lt_z (to_z w64 (of_z w64 z)) (pos 0) ≡ true) where
    pub signed_minus : signed_field z ≡ (32 ∷ 45 ∷ []) ++ decimal (nat_abs z)
    unfolding signed_field
    signed_minus = go z (sign_of_lem true below)
      where
        go : (y : ℤ) → lt_z y (pos 0) ≡ true → signed_field y ≡ (32 ∷ 45 ∷ []) ++ decimal (nat_abs y)
        go (pos n) h = absurd (omega (arith, ltb-true n 0 h))
        go (negsuc n) h = refl

  -- not below 0
  module _ (above : lt_z (to_z w64 (of_z w64 z)) (pos 0) ≡ false) where
    pub signed_plus : signed_field z ≡ field (nat_abs z)
    unfolding signed_field
    signed_plus = go z (sign_of_lem false above)
      where
        go : (y : ℤ) → lt_z y (pos 0) ≡ false → signed_field y ≡ field (nat_abs y)
        go (pos n) h = refl
        go (negsuc n) h = absurd (false≢true (sym h))

pub minus_length : (z : ℤ) → signed_field z ≡ (32 ∷ 45 ∷ []) ++ decimal (nat_abs z) → length (signed_field z) ≡ 2 + length (decimal (nat_abs z))
minus_length z is = ap length is ∙ length-append (32 ∷ 45 ∷ []) (decimal (nat_abs z))

-- put by pieces; x is the size that the writer hands on
pub minus_put : (l l₁ l₂ : List ℕ) (at i j x : ℕ) (z : ℤ) → signed_field z ≡ (32 ∷ 45 ∷ []) ++ decimal (nat_abs z) → x ≡ nat_abs z
    → Put l at l₁ i (32 ∷ 45 ∷ []) → Put l₁ i l₂ j (decimal x) → Put l at l₂ j (signed_field z)
minus_put l l₁ l₂ at i j x z is e sign number = rw is (put_behind l l₁ l₂ at i j (32 ∷ 45 ∷ []) (decimal (nat_abs z)) sign (rw e at number))

pub plus_put : (l l' : List ℕ) (at j x : ℕ) (z : ℤ) → signed_field z ≡ field (nat_abs z) → x ≡ nat_abs z → Put l at l' j (field x) → Put l at l' j (signed_field z)
plus_put l l' at j x z is e put = rw is (rw e at put)

-- at most 22 bytes
signed_64 : (z : ℤ) → SFits w64 z → length (signed_field z) ≤ 22
unfolding signed_field
signed_64 (pos n) f = omega (arith, field_64 n (omega (arith, f.sfits)))
signed_64 (negsuc n) f = omega (arith, decimal_64 (suc n) (omega (arith, f.sfits)))

-- read back from its bits
pub signed_bits : (z : ℤ) → SFits w64 z → length (signed_field (to_z w64 (of_z w64 z))) ≤ 22
signed_bits z f = rw (to_z-of_z f) (signed_64 z f)

-- ---- a line: a word, one to three fields and the line feed; x, y and z are the numbers that the writer hands on

pub line_one :
    (l l₁ l₂ l₃ : List ℕ) (at i j k x a : ℕ) (word : List ℕ) →
    Put l at l₁ i word →
    Put l₁ i l₂ j (field x) →
    Put l₂ j l₃ k feed →
    x ≡ a →
    Put l at l₃ k (word ++ field a ++ feed)
line_one l l₁ l₂ l₃ at i j k x a word put first end e =
    let two = put_behind l l₁ l₂ at i j word (field a) put (rw e at first) in
    put_behind l l₂ l₃ at j k (word ++ field a) feed two end

pub line_two :
    (l l₁ l₂ l₃ l₄ : List ℕ) (at i j k m x y a b : ℕ) (word : List ℕ) →
    Put l at l₁ i word →
    Put l₁ i l₂ j (field x) →
    Put l₂ j l₃ k (field y) →
    Put l₃ k l₄ m feed →
    x ≡ a →
    y ≡ b →
    Put l at l₄ m (word ++ field a ++ field b ++ feed)
line_two l l₁ l₂ l₃ l₄ at i j k m x y a b word put first second end e e' =
    let two = put_behind l l₁ l₂ at i j word (field a) put (rw e at first) in
    line_one l l₂ l₃ l₄ at j k m y b (word ++ field a) two second end e'

pub line_three :
    (l l₁ l₂ l₃ l₄ l₅ : List ℕ) (at i j k m n x y z a b c : ℕ) (word : List ℕ) →
    Put l at l₁ i word →
    Put l₁ i l₂ j (field x) →
    Put l₂ j l₃ k (field y) →
    Put l₃ k l₄ m (field z) →
    Put l₄ m l₅ n feed →
    x ≡ a →
    y ≡ b →
    z ≡ c →
    Put l at l₅ n (word ++ field a ++ field b ++ field c ++ feed)
line_three l l₁ l₂ l₃ l₄ l₅ at i j k m n x y z a b c word put first second third end e e' e'' =
    let two = put_behind l l₁ l₂ at i j word (field a) put (rw e at first) in
    line_two l l₂ l₃ l₄ l₅ at j k m n y z b c (word ++ field a) two second third end e' e''

-- ---- lines in front of a buffer

-- text that is put from the start of a buffer and does not pass its end
pub put_front : (l l' : List ℕ) (j : ℕ) (xs : List ℕ) → j ≤ length l → Put l 0 l' j xs → (j ≡ length xs) × (l' ≡ in_front xs l)
unfolding in_front
put_front l l' j xs h p = (p.0 ∙ zero-add (length xs), p.1 ∙ sets_front xs l (omega (arith, h, p.0)))

-- ---- a line of a word and two numbers

pub line_of_lem : (l l₁ l₂ l₃ l₄ : List ℕ) (at i j k m a b : ℕ) (word : List ℕ) → Put l at l₁ i word → Put l₁ i l₂ j (field a) → Put l₂ j l₃ k (field b)
    → Put l₃ k l₄ m feed → Put l at l₄ m (line_of word a b)
unfolding line_of
line_of_lem l l₁ l₂ l₃ l₄ at i j k m a b word put first second end = line_two l l₁ l₂ l₃ l₄ at i j k m a b a b word put first second end refl refl

-- with numbers that the writer hands on
pub line_same : (l l' : List ℕ) (at k x y a b : ℕ) (word : List ℕ) → Put l at l' k (line_of word x y) → x ≡ a → y ≡ b → Put l at l' k (line_of word a b)
line_same l l' at k x y a b word put e e' = rw (e, e') at put

-- the text in front of a buffer is counted by its length
pub front_counted : (text buffer : List ℕ) → Counted (length text) (in_front text buffer)
unfolding in_front
front_counted text buffer =
    let long = length-append text (drop (length text) buffer) in
    (omega (arith, long), omega (arith, long, length-take (length text) (text ++ drop (length text) buffer)))

-- and can be taken from there
pub text_in_front : (text buffer after : List ℕ) (r : ℕ) → r ≡ length text → after ≡ in_front text buffer → take r after ≡ text
unfolding in_front
text_in_front text buffer after r count put = ap (take r) put ∙ take_at text (drop (length text) buffer) r (sym count)

-- Bytes that stand at an offset of a list, byte for byte: their parts stand there too, and a number that is read there is the number written.
-- Assumes nothing.
use mathlib.Core.Path.{◌≡◌, ap, ◌∙◌}
use mathlib.Core.List.{List, ◌++◌, append_assoc}
use Prim.Native.Nat.{ℕ, ◌+◌, ◌*◌, ◌/◌, ◌%◌, ◌<◌, ◌≤◌}
use native.Mathlib.Nat.{add_assoc}
use native.Mathlib.Omega.{arith}
use lib.ListN.{length, get_or, length-append, get_or-append}
use lib.Seq.{get_or-append-add}
use Rattle.file_fields.specs.Fields.{word}

pub record Stands (s : List ℕ) (at : ℕ) (xs : List ℕ) : Type 0 where
  pub whole : at + length xs ≤ length s
  pub each : (i : ℕ) → i < length xs → get_or s (at + i) 0 ≡ get_or xs i 0

pub stands_between : (pre xs post : List ℕ) → Stands (pre ++ xs ++ post) (length pre) xs
stands_between pre xs post =
    record {
      whole = simp length-append (omega arith);
      each = λ i h. rw append_assoc (get_or-append-add pre (xs ++ post) i 0 ∙ get_or-append xs post 0 i h);
    }

pub stands_left : {s : List ℕ} {at : ℕ} (xs ys : List ℕ) → Stands s at (xs ++ ys) → Stands s at xs
stands_left xs ys h =
    let long = length-append xs ys in
    record {
      whole = omega (arith, h.whole);
      each = λ i lt. h.each i (omega arith) ∙ get_or-append xs ys 0 i lt;
    }

pub stands_right : {s : List ℕ} {at : ℕ} (xs ys : List ℕ) → Stands s at (xs ++ ys) → Stands s (at + length xs) ys
stands_right {s} {at} xs ys h =
    let long = length-append xs ys in
    record {
      whole = omega (arith, h.whole);
      each =
          λ i lt.
          ap (λ (k : ℕ). get_or s k 0) (add_assoc at (length xs) i) ∙
          h.each (length xs + i) (omega arith) ∙
          get_or-append-add xs ys i 0;
    }

pub stands_word : {s : List ℕ} {at : ℕ} (xs : List ℕ) → Stands s at xs → (i : ℕ) → i + 1 < length xs → word s (at + i) ≡ word xs i
unfolding word
stands_word {s} {at} xs h i lt =
    rw (add_assoc at i 1, h.each i (omega arith), h.each (i + 1) lt)

-- the two bytes of a number give it back
pub number_back : (n : ℕ) → n % 256 + 256 * (n / 256) ≡ n
number_back n = omega arith

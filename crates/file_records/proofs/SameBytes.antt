-- The bytes of one input from an offset on and those of another from its own: what reading asks of them is the same up to an offset, by the bytes that stand there.
-- Assumes nothing.
use mathlib.Core.Path.{◌≡◌, refl, sym}
use mathlib.Core.Bool.{Bool, true, false}
use mathlib.Core.List.{List, [], ◌++◌, append-nil}
use Prim.Native.Nat.{ℕ, zero, suc, ◌+◌, ◌-◌, ◌<◌, ◌≤◌}
use native.Mathlib.Nat.{add-zero, add_assoc}
use native.Mathlib.Omega.{arith}
use lib.Dec.{ltb}
use lib.ListN.{length, take, length-take, length-append, get_or-append}
use lib.Seq.{get_or-take, get_or-append-add}
use borrow.Author.Tests.{ltb-true, ltb-false, lt-ltb, le-ltb}
use Rattle.file_fields.specs.Fields.{word, wide_word}

-- the bytes of s from `at` on and those of t from `at'` on are the same up to an offset of s: each number is, and so is whether so many bytes remain
pub record SameFrom (s t : List ℕ) (at at' upto : ℕ) : Type 0 where
  pub words : (i : ℕ) → at + i + 2 ≤ upto → word s (at + i) ≡ word t (at' + i)
  pub remain : (n : ℕ) → at + n ≤ upto → at + n ≤ length s → at' + n ≤ length t
  pub lack : (n : ℕ) → at + n ≤ upto → length s < at + n → length t < at' + n

less_alike : (a b c d : ℕ) → (a < b → c < d) → (b ≤ a → d ≤ c) → ltb a b ≡ ltb c d
less_alike a b c d less not-less = go (ltb a b) refl
  where
    go : (t : Bool) → ltb a b ≡ t → t ≡ ltb c d
    go true e = sym (lt-ltb c d (less (ltb-true a b e)))
    go false e = sym (le-ltb c d (not-less (ltb-false a b e)))

-- What follows of it.

module _ {s t : List ℕ} {at at' upto : ℕ} (same : SameFrom s t at at' upto) where
  -- further on
  pub same_on : (k : ℕ) → SameFrom s t (at + k) (at' + k) upto
  same_on k =
      record {
        words = λ i h. rw (add_assoc at k i, add_assoc at' k i) (same.words (k + i) (omega arith));
        remain = λ n h r. let f = same.remain (k + n) (omega arith) (omega arith) in omega arith;
        lack = λ n h l. let f = same.lack (k + n) (omega arith) (omega arith) in omega arith;
      }

  pub first_word : at + 2 ≤ upto → word s at ≡ word t at'
  first_word h = rw (add-zero at, add-zero at') at (same.words 0 (omega arith))

  pub wide_words : (i : ℕ) → at + i + 4 ≤ upto → wide_word s (at + i) ≡ wide_word t (at' + i)
  unfolding wide_word
  wide_words i h =
      rw (add_assoc at i 2, add_assoc at' i 2, same.words i (omega arith), same.words (i + 2) (omega arith))

  -- rules 1 and 4
  pub left_same : (n : ℕ) → at + n ≤ upto → ltb (length s - at) n ≡ ltb (length t - at') n
  left_same zero h = less_alike (length s - at) 0 (length t - at') 0 (λ lt. omega arith) (λ le. omega arith)
  left_same (suc n) h =
      less_alike (length s - at) (suc n) (length t - at') (suc n)
      (λ lt. let f = same.lack (suc n) h (omega arith) in omega arith)
      (λ le. let f = same.remain (suc n) h (omega arith) in omega arith)

  -- rule 13
  pub past_same : at + 1 ≤ upto → ltb at (length s) ≡ ltb at' (length t)
  past_same h =
      less_alike at (length s) at' (length t)
      (λ lt. let f = same.remain 1 h (omega arith) in omega arith)
      (λ le. let f = same.lack 1 h (omega arith) in omega arith)

-- Where it comes from.

-- the first bytes of a list
pub take_same : (limit : ℕ) (s : List ℕ) (at : ℕ) → SameFrom (take limit s) s at at limit
unfolding word
take_same limit s at =
    let long = length-take limit s in
    record {
      words = λ i h. rw (get_or-take limit s (at + i) 0 (omega arith), get_or-take limit s (at + i + 1) 0 (omega arith));
      remain = λ n h r. omega arith;
      lack = λ n h l. omega arith;
    }

-- the same bytes with others behind them
pub front_same : (front x y : List ℕ) (at : ℕ) → SameFrom (front ++ x) (front ++ y) at at (length front)
unfolding word
front_same front x y at =
    let longx = length-append front x in
    let longy = length-append front y in
    record {
      words =
          λ i h.
          rw (
            get_or-append front x 0 (at + i) (omega arith),
            get_or-append front x 0 (at + i + 1) (omega arith),
            get_or-append front y 0 (at + i) (omega arith),
            get_or-append front y 0 (at + i + 1) (omega arith),
          );
      remain = λ n h r. omega arith;
      lack = λ n h l. omega arith;
    }

pub append_same : (s x : List ℕ) (at : ℕ) → SameFrom s (s ++ x) at at (length s)
append_same s x at = rw append-nil at (front_same s [] x at)

-- the same bytes behind others
pub back_same : (pre pre' back : List ℕ) (upto : ℕ) → SameFrom (pre ++ back) (pre' ++ back) (length pre) (length pre') upto
unfolding word
back_same pre pre' back upto =
    let long = length-append pre back in
    let long' = length-append pre' back in
    record {
      words =
          λ i h.
          rw (
            add_assoc (length pre) i 1,
            add_assoc (length pre') i 1,
            get_or-append-add pre back i 0,
            get_or-append-add pre back (i + 1) 0,
            get_or-append-add pre' back i 0,
            get_or-append-add pre' back (i + 1) 0,
          );
      remain = λ n h r. omega arith;
      lack = λ n h l. omega arith;
    }

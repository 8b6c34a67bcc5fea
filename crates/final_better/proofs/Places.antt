-- Where the part stands: the bytes at its offset, in its file and in one input, are the part. By cases on the better file, and on whether it has room for a head.
-- Assumes nothing.
use mathlib.Core.Path.{◌≡◌, refl, sym, ap, ◌∙◌}
use mathlib.Core.Bool.{Bool, true, false}
use mathlib.Core.List.{List}
use Prim.Native.Nat.{ℕ, ◌+◌, ◌-◌, ◌≤◌, ◌<◌}
use native.Mathlib.Omega.{arith}
use lib.Dec.{ltb}
use lib.ListN.{length, take, drop, length-drop}
use lib.Seq.{length-take-le, take-take, take-add, drop_at, drop-drop}
use borrow.Author.Tests.{lt-ltb, le-ltb, ltb-true, ltb-false}
use Rattle.network.specs.Refusals.{pick}
use Rattle.final_better.specs.declared.Better.{Better}
use Rattle.final_better.specs.declared.Better.TheVariants.{First, Second, Neither}
use Rattle.final_better.specs.declared.Part.{Part}
use Rattle.final_better.specs.Better.{step_records, better_part, file_of, first_step, part_of, start_of, part_in}

-- ---- the ways through the functions

module _ (bytes : ℕ) where
  pub no_head : bytes < 6 → 0 ≡ first_step bytes
  unfolding first_step
  no_head h = rw (lt-ltb bytes 6 h)

  pub behind_head : 6 ≤ bytes → 6 ≡ first_step bytes
  unfolding first_step
  behind_head h = rw (le-ltb bytes 6 h)

pub first_step_least : (bytes : ℕ) → (first_step bytes ≤ 6) × (first_step bytes ≤ bytes)
unfolding first_step
first_step_least bytes = go (ltb bytes 6) refl
  where
    go : (t : Bool) → ltb bytes 6 ≡ t → (pick t 0 6 ≤ 6) × (pick t 0 6 ≤ bytes)
    go true e = (omega arith, omega arith)
    go false e = (omega arith, omega (arith, ltb-false bytes 6 e))

module _ (first second : ℕ) (b : Better) (offset length : ℕ) where
  pub place_first : b ≡ First → offset ≡ first_step first → length ≡ first - 10 → record { better = b; offset = offset; length = length } ≡ part_of first second b
  unfolding part_of
  place_first e h k = rw (e, h, k)

  pub place_second : b ≡ Second → offset ≡ first_step second → length ≡ second - 10 → record { better = b; offset = offset; length = length } ≡ part_of first second b
  unfolding part_of
  place_second e h k = rw (e, h, k)

  pub place_none : b ≡ Neither → offset ≡ first_step first → length ≡ 0 → record { better = b; offset = offset; length = length } ≡ part_of first second b
  unfolding part_of
  place_none e h k = rw (e, h, k)

module _ (start middle : ℕ) (p : Part) (offset : ℕ) where
  moved : (from : ℕ) → start_of start middle p.better ≡ from → offset ≡ from + p.offset
      → record { better = p.better; offset = offset; length = p.length } ≡ part_in start middle p
  unfolding part_in
  moved from e h = rw (e, h)

  pub moved_second : p.better ≡ Second → offset ≡ middle + p.offset → record { better = p.better; offset = offset; length = p.length } ≡ part_in start middle p
  unfolding start_of
  moved_second e = moved middle (ap (start_of start middle) e)

  pub moved_other : (p.better ≡ Second → ⊥) → offset ≡ start + p.offset → record { better = p.better; offset = offset; length = p.length } ≡ part_in start middle p
  unfolding start_of
  moved_other h = moved start (go p.better h)
    where
      go : (b : Better) → (b ≡ Second → ⊥) → start_of start middle b ≡ start
      go First h = refl
      go Second h = absurd (h refl)
      go Neither h = refl

-- ---- in its file

records_at : (file : List ℕ) → take (length file - 10) (drop (first_step (length file)) file) ≡ step_records file
unfolding step_records first_step
records_at file = go (ltb (length file) 6) refl
  where
    go : (t : Bool) → ltb (length file) 6 ≡ t → take (length file - 10) (drop (pick t 0 6) file) ≡ take (length file - 10) (drop 6 file)
    go true e = let none : length file - 10 ≡ 0 = omega (arith, ltb-true (length file) 6 e) in rw none
    go false e = refl

pub part_bytes : (first second : List ℕ) (b : Better)
    → take (part_of (length first) (length second) b).length (drop (part_of (length first) (length second) b).offset (file_of first second b)) ≡ better_part first second b
unfolding part_of file_of better_part
part_bytes first second First = records_at first
part_bytes first second Second = records_at second
part_bytes first second Neither = refl

-- the offset is at most 6
pub part_offset : (first second : ℕ) (b : Better) → (part_of first second b).offset ≤ 6
unfolding part_of
part_offset first second First = (first_step_least first).0
part_offset first second Second = (first_step_least second).0
part_offset first second Neither = (first_step_least first).0

-- the part lies in its file
inside : (bytes offset : ℕ) → (offset ≤ 6) × (offset ≤ bytes) → offset + (bytes - 10) ≤ bytes
inside bytes offset h = omega (arith, h.0, h.1)

pub part_inside : (first second : List ℕ) (b : Better)
    → (part_of (length first) (length second) b).offset + (part_of (length first) (length second) b).length ≤ length (file_of first second b)
unfolding part_of file_of
part_inside first second First = inside (length first) _ (first_step_least (length first))
part_inside first second Second = inside (length second) _ (first_step_least (length second))
part_inside first second Neither = omega (arith, (first_step_least (length first)).1)

-- ---- in one input

drop_take : (k m n : ℕ) (l : List ℕ) → n ≡ k + m → k ≤ length l → drop k (take n l) ≡ take m (drop k l)
drop_take k m n l e h = rw (e, take-add k m l) (drop_at (take k l) (take m (drop k l)) k (length-take-le k l h))

module _ (s : List ℕ) (from n : ℕ) (h : from + n ≤ length s) where
  records_in : take (n - 10) (drop (from + first_step n) s) ≡ step_records (take n (drop from s))
  unfolding step_records
  records_in = go (ltb n 10) refl
    where
      room : n ≤ length (drop from s)
      room = omega (arith, length-drop from s)

      long : length (take n (drop from s)) ≡ n
      long = length-take-le n (drop from s) room

      go : (t : Bool) → ltb n 10 ≡ t → take (n - 10) (drop (from + first_step n) s) ≡ take (length (take n (drop from s)) - 10) (drop 6 (take n (drop from s)))
      go true e = let none : n - 10 ≡ 0 = omega (arith, ltb-true n 10 e) in rw (long, none)
      go false e =
          let ten : 10 ≤ n = ltb-false n 10 e in
          let cut : drop 6 (take n (drop from s)) ≡ take (n - 6) (drop (from + 6) s) =
          drop_take 6 (n - 6) n (drop from s) (omega arith) (omega (arith, room)) ∙ rw (drop-drop 6 from s) in
          rw (long, cut, sym (behind_head n (omega arith))) (sym (take-take (n - 10) (n - 6) (drop (from + 6) s) (omega arith)))

pub part_in_input : (s : List ℕ) (start middle end : ℕ) → start ≤ middle → middle ≤ end → end ≤ length s → (b : Better) (p : Part)
    → p ≡ part_in start middle (part_of (middle - start) (end - middle) b)
    → take p.length (drop p.offset s) ≡ better_part (take (middle - start) (drop start s)) (take (end - middle) (drop middle s)) b
unfolding part_in part_of start_of better_part
part_in_input s start middle end h k l First p e = rw e (records_in s start (middle - start) (omega arith))
part_in_input s start middle end h k l Second p e = rw e (records_in s middle (end - middle) (omega arith))
part_in_input s start middle end h k l Neither p e = rw e refl

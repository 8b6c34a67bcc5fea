-- Pieces that are put one behind the other are the planner's lines, and its lines stand in front of the buffer. By the laws of `texts`.
-- Assumes nothing.
use mathlib.Core.Path.{◌≡◌, refl, ◌∙◌}
use mathlib.Core.Bool.{Bool, true, false}
use mathlib.Core.List.{List, [], ◌∷◌, ◌++◌}
use Prim.Native.Nat.{ℕ, ◌+◌, ◌^◌, ◌<◌, ◌≤◌}
use native.Mathlib.Numerals.{add-one}
use native.Mathlib.Omega.{arith}
use lib.IntN.{ℤ}
use lib.ListN.{length, get_or, length-append}
use lib.Seq.{sets}
use Rattle.file_plan.specs.declared.plan.Plan.{Plan}
use Rattle.plan_sums.specs.declared.Sums.{Sums}
use Rattle.texts.specs.Texts.{field, signed_field, feed, in_front}
use Rattle.texts.proofs.Pieces.{Put, put_behind, field_16, field_64, put_front}
use Rattle.feeding_margins.specs.declared.Spot.{Spot}
use Rattle.std.specs.Prelude.{Option, Some, None}
use Rattle.plan_lines.specs.Lines.{none_word, step_word, margin_word, none_mark, margin_line}
use Rattle.plan_lines.specs.Lines.{step_line, step_lines, plan_line, load_line}
use Rattle.plan_lines.specs.Lines.{text_of, reply_text, tail_lines, tail_room, plan_lines, none_lines}

-- ---- a step's line

pub word_length : (close : Bool) → length (step_word close) ≤ 5
word_length true = omega arith
word_length false = omega arith

pub word_put :
    (l l' : List ℕ) (at j : ℕ) (close t : Bool) →
    close ≡ t →
    j ≡ at + length (step_word t) →
    l' ≡ sets l at (step_word t) →
    Put l at l' j (step_word close)
word_put l l' at j close t e place stored = rw e (place, stored)

pub step_length : (link : ℕ) (close : Bool) → link < 65536 → length (step_line link close) ≤ 12
unfolding step_line
step_length link true h = simp length-append (omega (arith, field_16 link h))
step_length link false h = simp length-append (omega (arith, field_16 link h))

steps_none : (p : Plan) → step_lines p 0 ≡ []
unfolding step_lines
steps_none p = refl

pub steps_start : (p : Plan) (l : List ℕ) (at : ℕ) → Put l at l at (step_lines p 0)
steps_start p l at = rw (steps_none p) (omega arith, refl)

steps_more : (p : Plan) (n : ℕ) → step_lines p (n + 1) ≡ step_lines p n ++ step_line (get_or p.link n 0) (get_or p.close n false)
unfolding step_lines
steps_more p n = rw add-one

-- one turn of the loop over the steps
pub steps_put :
    (p : Plan) (l l' l'' : List ℕ) (at j k n : ℕ) →
    Put l at l' j (step_lines p n) →
    Put l' j l'' k (step_line (get_or p.link n 0) (get_or p.close n false)) →
    Put l at l'' k (step_lines p (n + 1))
steps_put p l l' l'' at j k n e e' =
    rw (steps_more p n) (put_behind l l' l'' at j k (step_lines p n) (step_line (get_or p.link n 0) (get_or p.close n false)) e e')

-- ---- the line of the loads

pub load_length : (s : Sums) → s.fed < 2 ^ 64 → s.dark < 2 ^ 64 → s.lost < 2 ^ 64 → length (load_line s) ≤ 68
unfolding load_line
load_length s f d l = simp length-append (omega (arith, field_64 s.fed f, field_64 s.dark d, field_64 s.lost l))

-- ---- the line of the margin

pub margin_at_lem :
    (l l₁ l₂ l₃ l₄ : List ℕ) (at i j k n x : ℕ) (m : ℤ) (spot : Option Spot) (s : Spot) →
    spot ≡ Some s →
    Put l at l₁ i margin_word →
    Put l₁ i l₂ j (field x) →
    Put l₂ j l₃ k (signed_field m) →
    Put l₃ k l₄ n feed →
    x ≡ s.element →
    m ≡ s.margin →
    Put l at l₄ n (margin_line spot)
unfolding margin_line
margin_at_lem l l₁ l₂ l₃ l₄ at i j k n x m spot s is word first second end q q' =
    let two = put_behind l l₁ l₂ at i j margin_word (field s.element) word (rw q at first) in
    let three = put_behind l l₂ l₃ at j k (margin_word ++ field s.element) (signed_field s.margin) two (rw q' at second) in
    rw is (put_behind l l₃ l₄ at k n (margin_word ++ field s.element ++ signed_field s.margin) feed three end)

pub margin_none :
    (l l₁ l₂ l₃ : List ℕ) (at i j k : ℕ) (spot : Option Spot) →
    spot ≡ None →
    Put l at l₁ i margin_word →
    Put l₁ i l₂ j none_mark →
    Put l₂ j l₃ k feed →
    Put l at l₃ k (margin_line spot)
unfolding margin_line
margin_none l l₁ l₂ l₃ at i j k spot is word mark end =
    rw is (put_behind l l₂ l₃ at j k (margin_word ++ none_mark) feed (put_behind l l₁ l₂ at i j margin_word none_mark word mark) end)

-- ---- the tail

-- one line more, behind which others may follow
pub tail_more :
    (l l' l'' : List ℕ) (at j k : ℕ) (line : List ℕ) (lines : List (List ℕ)) →
    Put l at l' j line →
    Put l' j l'' k (text_of lines) →
    Put l at l'' k (text_of (line ∷ lines))
unfolding text_of
tail_more l l' l'' at j k line lines first rest = put_behind l l' l'' at j k line (text_of lines) first rest

pub tail_none : (l : List ℕ) (at : ℕ) → Put l at l at (text_of [])
unfolding text_of
tail_none l at = (omega arith, refl)

pub tail_put : (l l' : List ℕ) (at j : ℕ) (s : Sums) → Put l at l' j (load_line s) → Put l at l' j (text_of (tail_lines s))
unfolding tail_lines
tail_put l l' at j s load = tail_more l l' l' at j j (load_line s) [] load (tail_none l' j)

pub tail_length : (s : Sums) → s.fed < 2 ^ 64 → s.dark < 2 ^ 64 → s.lost < 2 ^ 64 → length (text_of (tail_lines s)) ≤ tail_room
unfolding tail_lines text_of
tail_length s f d l = omega (arith, length-append (load_line s) [], load_length s f d l)

-- ---- the lines in front of the buffer

pub reply_put :
    (l l₁ l₂ l₃ : List ℕ) (i j k : ℕ) (head steps : List ℕ) (tail : List (List ℕ)) →
    k ≤ length l →
    Put l 0 l₁ i head →
    Put l₁ i l₂ j steps →
    Put l₂ j l₃ k (text_of tail) →
    (k ≡ length (reply_text head steps tail)) × (l₃ ≡ in_front (reply_text head steps tail) l)
unfolding reply_text
reply_put l l₁ l₂ l₃ i j k head steps tail h one two three =
    let both = put_behind l l₁ l₂ 0 i j head steps one two in
    put_front l l₃ k (head ++ steps ++ text_of tail) h (put_behind l l₂ l₃ 0 j k (head ++ steps) (text_of tail) both three)

pub plan_lines_put :
    (l l₁ l₂ l₃ : List ℕ) (i j k x y : ℕ) (p : Plan) (cost : ℕ) (s : Sums) →
    k ≤ length l →
    Put l 0 l₁ i (plan_line x y) →
    Put l₁ i l₂ j (step_lines p p.steps) →
    Put l₂ j l₃ k (text_of (tail_lines s)) →
    x ≡ p.steps →
    y ≡ cost →
    (k ≡ length (plan_lines p cost s)) × (l₃ ≡ in_front (plan_lines p cost s) l)
unfolding plan_lines
plan_lines_put l l₁ l₂ l₃ i j k x y p cost s h head steps tail e e' =
    reply_put l l₁ l₂ l₃ i j k (plan_line p.steps cost) (step_lines p p.steps) (tail_lines s) h (rw (e, e') at head) steps tail

pub none_lines_put :
    (l l₁ l₂ l₃ : List ℕ) (i j j' k r : ℕ) (s : Sums) →
    k ≤ length l →
    Put l 0 l₁ i none_word →
    Put l₁ i l₂ j feed →
    Put l₂ j' l₃ k (text_of (tail_lines s)) →
    j' ≡ 5 →
    r ≡ k →
    (r ≡ length (none_lines s)) × (l₃ ≡ in_front (none_lines s) l)
unfolding none_lines
none_lines_put l l₁ l₂ l₃ i j j' k r s h word end tail e all =
    let place : j' ≡ j = omega (arith, e, word.0, end.0) in
    let head = put_behind l l₁ l₂ 0 i j none_word feed word end in
    let put = reply_put l l₂ l₂ l₃ j j k (none_word ++ feed) [] (tail_lines s) h head (omega arith, refl) (rw place at tail) in
    (all ∙ put.0, put.1)

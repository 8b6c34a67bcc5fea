-- The records that the writer puts down are the plan's file: stores one behind the other from the front on are the bytes before the rest.
-- Assumes nothing.
use mathlib.Core.Path.{◌≡◌, refl, ap, sym, ◌∙◌}
use mathlib.Core.Bool.{Bool, true, false}
use mathlib.Core.List.{List, [], ◌++◌}
use Prim.Native.Nat.{ℕ, zero, suc, ◌+◌, ◌-◌, ◌*◌, ◌<◌, ◌≤◌}
use native.Mathlib.Nat.{zero-add}
use native.Mathlib.Numerals.{add-one}
use native.Mathlib.Omega.{arith}
use lib.ListN.{length, get_or, length-append}
use lib.Seq.{sets}
use lib.Dec.{ltb}
use borrow.Author.Tests.{lt-ltb, le-ltb}
use Rattle.network.specs.declared.refusal.Rule.TheVariants.{BufferTooShort}
use Rattle.network.proofs.Stores.{stored_behind, sets_front}
use Rattle.file_plan.specs.declared.plan.Plan.{Plan}
use Rattle.std.specs.Prelude.{Ok, Err}
use Rattle.file_writer.specs.Writing.{plan_head_bytes, step_bytes, steps_bytes, end_bytes, plan_bytes, plan_length, written, buffer_after}

-- ---- records

pub steps_none : (p : Plan) → steps_bytes p 0 ≡ []
unfolding steps_bytes
steps_none p = refl

pub steps_more :
    (p : Plan) (n : ℕ) → steps_bytes p (n + 1) ≡ steps_bytes p n ++ step_bytes (get_or p.link n 0) (get_or p.close n false)
unfolding steps_bytes
steps_more p n = rw add-one

pub head_length : (n : ℕ) → length (plan_head_bytes n) ≡ 6
unfolding plan_head_bytes
head_length n = refl

pub step_length : (l : ℕ) (c : Bool) → length (step_bytes l c) ≡ 8
unfolding step_bytes
step_length l c = refl

pub end_length : length end_bytes ≡ 4
unfolding end_bytes
end_length = refl

pub steps_length : (p : Plan) (n : ℕ) → length (steps_bytes p n) ≡ 8 * n
unfolding steps_bytes
steps_length p zero = refl
steps_length p (suc n) =
    length-append (steps_bytes p n) (step_bytes (get_or p.link n 0) (get_or p.close n false)) ∙
    rw (steps_length p n, step_length (get_or p.link n 0) (get_or p.close n false)) (omega arith)

pub plan_bytes_length : (p : Plan) → length (plan_bytes p) ≡ plan_length p
unfolding plan_bytes plan_length
plan_bytes_length p = simp (length-append, head_length, end_length, steps_length) (omega arith)

-- one turn of the loop over the steps
pub step_stored :
    (p : Plan) (l l' l'' : List ℕ) (n : ℕ) →
    l' ≡ sets l 6 (steps_bytes p n) →
    l'' ≡ sets l' (6 + 8 * n) (step_bytes (get_or p.link n 0) (get_or p.close n false)) →
    l'' ≡ sets l 6 (steps_bytes p (n + 1))
step_stored p l l' l'' n e e' =
    stored_behind l l' l'' 6 (6 + 8 * n) (steps_bytes p n) _ e e' (rw (steps_length p n)) ∙
    ap (λ (xs : List ℕ). sets l 6 xs) (sym (steps_more p n))

-- the head, the steps and the end
pub plan_stored :
    (p : Plan) (l l' l'' l''' : List ℕ) (at : ℕ) →
    plan_length p ≤ length l →
    l' ≡ sets l 0 (plan_head_bytes p.steps) →
    l'' ≡ sets l' 6 (steps_bytes p p.steps) →
    l''' ≡ sets l'' at end_bytes →
    at ≡ plan_length p - 4 →
    l''' ≡ buffer_after p l
unfolding buffer_after plan_bytes plan_length
plan_stored p l l' l'' l''' at le e e' e'' h =
    let two : l'' ≡ sets l 0 (plan_head_bytes p.steps ++ steps_bytes p p.steps) =
    stored_behind l l' l'' 0 6 (plan_head_bytes p.steps) (steps_bytes p p.steps) e e'
    (sym (zero-add (length (plan_head_bytes p.steps)) ∙ head_length p.steps))
    in
    let long : length (plan_head_bytes p.steps ++ steps_bytes p p.steps) ≡ 6 + 8 * p.steps =
    simp (length-append, head_length, steps_length) in
    stored_behind l l'' l''' 0 at (plan_head_bytes p.steps ++ steps_bytes p p.steps) end_bytes two e'' (rw long (omega arith)) ∙
    sets_front (plan_head_bytes p.steps ++ steps_bytes p p.steps ++ end_bytes) l (rw (plan_bytes_length p) (omega arith)) ∙
    rw (plan_bytes_length p, le-ltb (length l) (10 + 8 * p.steps) le)

-- rule 19, either way
pub too_short :
    (p : Plan) (l : List ℕ) (n : ℕ) →
    n ≡ plan_length p →
    length l < n →
    (Err (record { rule = BufferTooShort; place = n }) ≡ written p l) × (l ≡ buffer_after p l)
unfolding written buffer_after
too_short p l n e lt = let t : ltb (length l) (plan_length p) ≡ true = lt-ltb (length l) (plan_length p) (omega arith) in (rw (t, e), rw t)

pub long_enough : (p : Plan) (l : List ℕ) (n : ℕ) → n ≡ plan_length p → n ≤ length l → Ok n ≡ written p l
unfolding written
long_enough p l n e le = rw (le-ltb (length l) (plan_length p) (omega arith), e)

-- The round_trip law: wherever a plan's file stands, the reader reads that plan back and ends behind it. By what each record's bytes say, and by induction over the steps.
-- Assumes nothing.
use mathlib.Core.Path.{◌≡◌, refl, ap, sym, ◌∙◌}
use mathlib.Core.Bool.{Bool, true, false}
use mathlib.Core.List.{List, [], ◌++◌, append-nil}
use mathlib.Core.Logic.{⊎_elim}
use Prim.Native.Nat.{ℕ, zero, suc, ◌+◌, ◌*◌, ◌<◌, ◌≤◌}
use native.Mathlib.Nat.{add-zero, zero-add, le_of_suc-le-suc, not-suc-le-zero, eq-or-lt_of_le}
use native.Mathlib.Numerals.{add-one}
use native.Mathlib.Omega.{arith}
use lib.ListN.{length, get_or, set, take, drop, replicate, length-append, take-append-drop, get_or-append}
use lib.Seq.{paste, paste-suc, get_or-take, length-take-le, take_at}
use lib.Dec.{eqb}
use borrow.Author.Tests.{le-ltb, lt-leb}
use Rattle.file_stages.specs.declared.Stage.TheVariants.{PlanHead, Steps, PlanEnd, Over}
use Rattle.file_plan.specs.declared.plan.Plan.{Plan}
use Rattle.file_stages.specs.Stages.{next_stage}
use Rattle.file_fields.specs.Views.{Seen, links_seen}
use Rattle.file_fields.specs.Fields.{word, length_of, field_rules, plan_head_rules, step_rules}
use Rattle.file_records.specs.Records.{due_at, recorded}
use Rattle.file_network.specs.Runs.{reached, records, always, as_is}
use Rattle.file_plan.specs.PlanFiles.{empty_plan, with_step, steps_on, steps_on_by, plan_end_on, plan_end_on_by, plan_file, plan_file_by}
use Rattle.file_plan.specs.Inputs.{plan_input, plan_input_by}
use Rattle.file_writer.specs.Writing.{state_number, plan_head_bytes, step_bytes, steps_bytes, end_bytes, plan_bytes, plan_length, buffer_after}
use Rattle.file_writer.proofs.Files.{head_length, step_length, end_length, steps_length, plan_bytes_length}
use Rattle.file_writer.proofs.Stands.{Stands, stands_between, stands_left, stands_right, stands_word, number_back}
use Rattle.file_records.proofs.Reader.{due_found}
use Rattle.file_network.proofs.Runs.{records_none, records_suc}

-- ---- what the numbers of a plan's records say

pub state_small : (c : Bool) → state_number c ≤ 1
state_small true = omega arith
state_small false = omega arith

pub state_back : (c : Bool) → eqb (state_number c) 1 ≡ c
state_back true = refl
state_back false = refl

pub head_words :
    {s : List ℕ} {at : ℕ} (n : ℕ) →
    Stands s at (plan_head_bytes n) →
    (word s at ≡ 6) × (word s (at + 2) ≡ 5) × (word s (at + 4) ≡ n)
unfolding plan_head_bytes word
head_words {s} {at} n h = (
  ap (word s) (sym (add-zero at)) ∙ stands_word (plan_head_bytes n) h 0 (omega arith),
  stands_word (plan_head_bytes n) h 2 (omega arith),
  stands_word (plan_head_bytes n) h 4 (omega arith) ∙ number_back n,
)

pub step_words :
    {s : List ℕ} {at : ℕ} (l : ℕ) (c : Bool) →
    Stands s at (step_bytes l c) →
    (word s at ≡ 8) × (word s (at + 2) ≡ 6) × (word s (at + 4) ≡ l) × (word s (at + 6) ≡ state_number c)
unfolding step_bytes word
step_words {s} {at} l c h = (
  ap (word s) (sym (add-zero at)) ∙ stands_word (step_bytes l c) h 0 (omega arith),
  stands_word (step_bytes l c) h 2 (omega arith),
  stands_word (step_bytes l c) h 4 (omega arith) ∙ number_back l,
  stands_word (step_bytes l c) h 6 (omega arith) ∙ number_back (state_number c),
)

pub end_words : {s : List ℕ} {at : ℕ} → Stands s at end_bytes → (word s at ≡ 4) × (word s (at + 2) ≡ 4)
unfolding end_bytes word
end_words {s} {at} h = (
  ap (word s) (sym (add-zero at)) ∙ stands_word end_bytes h 0 (omega arith),
  stands_word end_bytes h 2 (omega arith),
)

-- ---- each record is what is due

pub head_due :
    {s : List ℕ} {at : ℕ} (seen : Seen) (n : ℕ) →
    n ≤ 255 →
    Stands s at (plan_head_bytes n) →
    due_at s seen at PlanHead ≡ recorded 5 6 Steps
unfolding next_stage length_of field_rules plan_head_rules
head_due {s} {at} seen n few h =
    let w = head_words n h in
    due_found s seen at 5 6 PlanHead Steps w.0 w.1 (omega (arith, h.whole, head_length n)) (omega arith) refl refl
    (rw (le-ltb 255 (word s (at + 4)) (omega arith)))

pub step_due :
    {s : List ℕ} {at : ℕ} (seen : Seen) (l : ℕ) (c : Bool) →
    l < seen.links →
    Stands s at (step_bytes l c) →
    due_at s seen at Steps ≡ recorded 6 8 Steps
unfolding next_stage length_of field_rules step_rules
step_due {s} {at} seen l c known h =
    let w = step_words l c h in
    due_found s seen at 6 8 Steps Steps w.0 w.1 (omega (arith, h.whole, step_length l c)) (omega arith) refl refl
    (rw (lt-leb seen.links (word s (at + 4)) (omega arith), le-ltb 1 (word s (at + 6)) (omega (arith, state_small c))))

pub end_due :
    {s : List ℕ} {at : ℕ} (seen : Seen) → Stands s at end_bytes → due_at s seen at PlanEnd ≡ recorded 4 4 Over
unfolding next_stage length_of field_rules
end_due {s} {at} seen h =
    let w = end_words h in
    due_found s seen at 4 4 PlanEnd Over w.0 w.1 (omega (arith, h.whole, end_length)) (omega arith) refl refl refl

-- ---- the plan that is read

-- the first steps of a plan, and behind them what is empty
unfoldable pub first_steps : Plan → ℕ → Plan
first_steps p n =
    record {
      link = take n p.link ++ drop n empty_plan.link;
      close = take n p.close ++ drop n empty_plan.close;
      steps = n;
    }

-- one more element copied over the front of a list
pub front_more :
    {A : Type 0} (d l : List A) (n : ℕ) (z : A) →
    n < length d →
    n < length l →
    set (take n l ++ drop n d) n (get_or l n z) ≡ take (n + 1) l ++ drop (n + 1) d
front_more d l n z hd hl =
    let e : set (paste d 0 l n) (0 + n) (get_or l n z) ≡ paste d 0 l (suc n) = paste-suc d 0 l n z (omega arith) hl in
    rw add-one (simp zero-add at e)

front_kept :
    {A : Type 0} (l r : List A) (n i : ℕ) (z : A) → n ≤ length l → i < n → get_or (take n l ++ drop n r) i z ≡ get_or l i z
front_kept l r n i z le lt =
    get_or-append (take n l) (drop n r) z i (rw (length-take-le n l le) lt) ∙ get_or-take n l i z lt

pub first_none : (p : Plan) → first_steps p 0 ≡ empty_plan
unfolding first_steps empty_plan
first_none p = refl

pub first_more :
    {s : List ℕ} {at : ℕ} (p : Plan) (n : ℕ) →
    length p.link ≡ 255 →
    length p.close ≡ 255 →
    n < 255 →
    Stands s at (step_bytes (get_or p.link n 0) (get_or p.close n false)) →
    with_step s at (first_steps p n) ≡ first_steps p (n + 1)
unfolding first_steps empty_plan with_step
first_more {s} {at} p n ll lc lt h =
    let w = step_words (get_or p.link n 0) (get_or p.close n false) h in
    let a = front_more (replicate 255 0) p.link n 0 (omega arith) (omega arith) in
    let b = front_more (replicate 255 false) p.close n false (omega arith) (omega arith) in
    rw (w.2, w.3, state_back (get_or p.close n false), a, b)

-- the steps of two plans are the same
pub record SameSteps (p q : Plan) : Type 0 where
  pub steps : q.steps ≡ p.steps
  pub link : (i : ℕ) → i < p.steps → get_or q.link i 0 ≡ get_or p.link i 0
  pub close : (i : ℕ) → i < p.steps → get_or q.close i false ≡ get_or p.close i false

pub first_same : (p : Plan) → p.steps ≤ length p.link → p.steps ≤ length p.close → SameSteps p (first_steps p p.steps)
unfolding first_steps
first_same p hl hc =
    record {
      steps = refl;
      link = λ i lt. front_kept p.link empty_plan.link p.steps i 0 hl lt;
      close = λ i lt. front_kept p.close empty_plan.close p.steps i false hc lt;
    }

-- a plan that is empty behind its steps is its first steps
pub first_all :
    (p : Plan) →
    drop p.steps p.link ≡ drop p.steps empty_plan.link →
    drop p.steps p.close ≡ drop p.steps empty_plan.close →
    first_steps p p.steps ≡ p
unfolding first_steps
first_all p hl hc = rw (← hl, ← hc, take-append-drop p.steps p.link, take-append-drop p.steps p.close)

-- ---- the steps

pub step_stands :
    {s : List ℕ} {at : ℕ} (p : Plan) (n k : ℕ) →
    k < n →
    Stands s at (steps_bytes p n) →
    Stands s (at + 8 * k) (step_bytes (get_or p.link k 0) (get_or p.close k false))
unfolding steps_bytes
step_stands p zero k lt h = absurd (not-suc-le-zero lt)
step_stands {s} {at} p (suc n) k lt h =
    ⊎_elim
    (λ e.
    rw e
    (rw (steps_length p n) at
    (stands_right (steps_bytes p n) (step_bytes (get_or p.link n 0) (get_or p.close n false)) h)))
    (λ less. step_stands p n k less (stands_left (steps_bytes p n) (step_bytes (get_or p.link n 0) (get_or p.close n false)) h))
    (eq-or-lt_of_le (le_of_suc-le-suc lt))

-- ---- the plan's file

module _
    (p : Plan)
    (links : ℕ)
    (few : p.steps ≤ 255)
    (link_long : length p.link ≡ 255)
    (close_long : length p.close ≡ 255)
    (known : (i : ℕ) → i < p.steps → get_or p.link i 0 < links)
  where
    -- from the k-th step on
    steps_read :
        {s : List ℕ} {at : ℕ} (n k : ℕ) →
        k + n ≡ p.steps →
        Stands s at (steps_bytes p p.steps) →
        records s (always (links_seen links)) (with_step s) n (at + 8 * k) Steps (first_steps p k) ≡
        reached (at + 8 * p.steps) Steps (first_steps p p.steps)
    unfolding links_seen
    steps_read {s} {at} zero k e h =
        let e' : k ≡ p.steps = omega arith in
        records_none s (always (links_seen links)) (with_step s) (at + 8 * k) Steps (first_steps p k) ∙ rw e'
    steps_read {s} {at} (suc n) k e h =
        let here = step_stands p p.steps k (omega arith) h in
        let next : at + 8 * k + 8 ≡ at + 8 * (k + 1) = omega arith in
        records_suc s (always (links_seen links)) (with_step s) n (at + 8 * k) Steps (first_steps p k) 6 8 Steps
        (step_due (links_seen links) (get_or p.link k 0) (get_or p.close k false) (known k (omega arith)) here) ∙
        rw (first_more p k link_long close_long (omega arith) here, next) (steps_read n (k + 1) (omega arith) h)

    -- wherever the plan's file stands
    pub reads_back :
        {s : List ℕ} {at : ℕ} →
        Stands s at (plan_bytes p) →
        plan_file s links at ≡ reached (at + plan_length p) Over (first_steps p p.steps)
    unfolding plan_file_by steps_on_by plan_end_on_by plan_bytes plan_length
    reads_back {s} {at} h =
        let head-and-steps = stands_left (plan_head_bytes p.steps ++ steps_bytes p p.steps) end_bytes h in
        let head : Stands s at (plan_head_bytes p.steps) = stands_left (plan_head_bytes p.steps) (steps_bytes p p.steps) head-and-steps in
        let steps : Stands s (at + 6) (steps_bytes p p.steps) =
        rw (head_length p.steps) at (stands_right (plan_head_bytes p.steps) (steps_bytes p p.steps) head-and-steps) in
        let long : at + length (plan_head_bytes p.steps ++ steps_bytes p p.steps) ≡ at + 6 + 8 * p.steps =
        simp (length-append, head_length, steps_length) (omega arith) in
        let end : Stands s (at + 6 + 8 * p.steps) end_bytes =
        rw long at (stands_right (plan_head_bytes p.steps ++ steps_bytes p p.steps) end_bytes h) in
        let first =
        records_suc s (always (links_seen links)) as_is 0 at PlanHead empty_plan 5 6 Steps (head_due (links_seen links) p.steps few head) ∙
        records_none s (always (links_seen links)) as_is (at + 6) Steps empty_plan in
        let middle : records s (always (links_seen links)) (with_step s) p.steps (at + 6) Steps empty_plan ≡ reached (at + 6 + 8 * p.steps) Steps
        (first_steps p p.steps) =
        rw (add-zero (at + 6), first_none p) at (steps_read p.steps 0 (zero-add p.steps) steps) in
        let last =
        records_suc s (always (links_seen links)) as_is 0 (at + 6 + 8 * p.steps) PlanEnd (first_steps p p.steps) 4 4 Over (end_due (links_seen links) end) ∙
        records_none s (always (links_seen links)) as_is (at + 6 + 8 * p.steps + 4) Over (first_steps p p.steps) in
        let over : at + 6 + 8 * p.steps + 4 ≡ at + (10 + 8 * p.steps) = omega arith in
        rw (first, (head_words p.steps head).2, middle, last, over)

    -- between any bytes
    pub round_trip :
        (pre post : List ℕ) →
        plan_file (pre ++ plan_bytes p ++ post) links (length pre) ≡
        reached (length pre + plan_length p) Over (first_steps p p.steps)
    round_trip pre post = reads_back (stands_between pre (plan_bytes p) post)

    -- as the end of an input: no byte follows
    pub round_trip_input :
        (pre : List ℕ) →
        plan_input (pre ++ plan_bytes p) links (length pre) ≡
        reached (length pre + plan_length p) Over (first_steps p p.steps)
    unfolding plan_input_by
    round_trip_input pre =
        let long : length (pre ++ plan_bytes p) ≡ length pre + plan_length p = simp (length-append, plan_bytes_length) in
        let read : plan_file (pre ++ plan_bytes p) links (length pre) ≡ reached (length pre + plan_length p) Over (first_steps p p.steps) =
        rw append-nil at (round_trip pre []) in
        rw (read, le-ltb (length pre + plan_length p) (length (pre ++ plan_bytes p)) (omega arith))

    -- a plan's file alone is accepted
    pub accepted : plan_input (plan_bytes p) links 0 ≡ reached (plan_length p) Over (first_steps p p.steps)
    accepted = round_trip_input [] ∙ rw zero-add

    -- in the front of the buffer that the writer leaves
    pub buffer_read :
        (b : List ℕ) →
        plan_length p ≤ length b →
        plan_file (buffer_after p b) links 0 ≡ reached (plan_length p) Over (first_steps p p.steps)
    unfolding buffer_after
    buffer_read b le = rw (le-ltb (length b) (plan_length p) le) (round_trip [] (drop (plan_length p) b) ∙ rw zero-add)

    pub buffer_accepted :
        (b : List ℕ) →
        plan_length p ≤ length b →
        plan_input (take (plan_length p) (buffer_after p b)) links 0 ≡ reached (plan_length p) Over (first_steps p p.steps)
    unfolding buffer_after
    buffer_accepted b le =
        rw (
          le-ltb (length b) (plan_length p) le,
          take_at (plan_bytes p) (drop (plan_length p) b) (plan_length p) (plan_bytes_length p),
        )
        accepted

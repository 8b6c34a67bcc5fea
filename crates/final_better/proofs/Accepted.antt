-- Of an accepted plan file, the bytes between head and end are the records of the plan that it states: each step's record has 8 bytes, which say its link and its state.
-- Assumes nothing.
use mathlib.Core.Path.{◌≡◌, refl, ap, sym, ◌∙◌}
use mathlib.Core.Bool.{Bool, true, false}
use mathlib.Core.List.{List, [], ◌∷◌, ◌++◌}
use Prim.Native.Nat.{ℕ, zero, suc, ◌+◌, ◌-◌, ◌*◌, ◌/◌, ◌%◌, ◌≤◌, ◌<◌}
use native.Mathlib.Omega.{arith}
use lib.Dec.{eqb}
use lib.ListN.{length, get_or, take, drop, length-drop}
use lib.Seq.{take_all, take-take, drop_at, ext_get_or, length-take-le, get_or-take, get_or-drop, take-add, drop-drop}
use borrow.Author.Tests.{eqb-true, eqb-false}
use Rattle.file_stages.specs.declared.Stage.{Stage}
use Rattle.file_stages.specs.declared.Stage.TheVariants.{Steps, PlanEnd}
use Rattle.file_records.specs.Records.{recorded, due_at}
use Rattle.file_fields.specs.Fields.{word}
use Rattle.file_records.proofs.Due.{due_kept, kind_there, step_kept}
use Rattle.file_fields.specs.Views.{links_seen}
use Rattle.file_network.specs.Runs.{reached, records, always, as_is}
use Rattle.file_network.proofs.Runs.{records_keep, one_record}
use Rattle.file_network.proofs.Parts.{then_reached}
use Rattle.file_plan.specs.declared.plan.Plan.{Plan}
use Rattle.file_plan.specs.PlanFiles.{empty_plan, with_step, plan_file}
use Rattle.file_plan.specs.Inputs.{plan_input}
use Rattle.file_plan.proofs.Parts.{plan_end_run, with_steps, plan_chain}
use Rattle.file_plan.proofs.Sizes.{steps_read, plan_size, plan_input_size}
use Rattle.file_plan.proofs.Contents.{StepAt, plan_holds}
use Rattle.file_writer.specs.Writing.{state_number, step_bytes, steps_bytes}
use Rattle.file_writer.proofs.Files.{step_length}
use Rattle.file_writer.proofs.Stands.{Stands}
use Rattle.final_better.specs.declared.Better.{Better}
use Rattle.final_better.specs.declared.Better.TheVariants.{First, Second, Neither}
use Rattle.final_better.specs.Better.{better_steps, step_records, better_part}

-- ---- where the records end

-- each step's record has 8 bytes
pub steps_end :
    (s : List ℕ) (links n at : ℕ) (p : Plan) (end : ℕ) (last : Stage) (q : Plan) →
    records s (always (links_seen links)) (with_step s) n at Steps p ≡ reached end last q → end ≡ at + 8 * n
steps_end s links n at p end last q run =
    let r =
    records_keep s (always (links_seen links)) (with_step s) (λ m at' stage' p'. (stage' ≡ Steps) × (at' + 8 * m ≡ at + 8 * n)) step n at Steps p end last q (refl, refl) run in
    omega (arith, r.1)
  where
    step : (m at' : ℕ) (stage' : Stage) (p' : Plan) (kind long : ℕ) (next : Stage) →
        due_at s (links_seen links) at' stage' ≡ recorded kind long next → (stage' ≡ Steps) × (at' + 8 * suc m ≡ at + 8 * n) →
        (next ≡ Steps) × (at' + long + 8 * m ≡ at + 8 * n)
    step m at' stage' p' kind long next d h =
        let here : due_at s (links_seen links) at' Steps ≡ recorded kind long next = rw h.0 at d in
        let w = due_kept s (links_seen links) at' Steps here in
        (w.framed.next_at_lem, omega (arith, h.1, w.framed.enough, w.framed.most))

-- the whole file at an offset: 10 bytes, and 8 for each step
pub file_long :
    (s : List ℕ) (links head at : ℕ) (stage : Stage) (p : Plan) → plan_file s links head ≡ reached at stage p → at ≡ head + 10 + 8 * p.steps
file_long s links head at stage p h =
    let b = then_reached (plan_end_run s links head) (with_steps s links head) at stage p (sym (plan_chain s links head) ∙ h) in
    let before = steps_read s links head b.at b.stage b.value b.first in
    let run : records s (always (links_seen links)) as_is 1 b.at PlanEnd b.value ≡ reached at stage p = rw before.stage_is at b.then in
    let one = one_record s (always (links_seen links)) as_is b.at PlanEnd b.value at stage p run in
    let same : p.steps ≡ b.value.steps = ap (λ (x : Plan). x.steps) one.value_is in
    let ends = steps_end s links (word s (head + 4)) (head + 6) empty_plan b.at b.stage b.value before.run in
    omega (arith, one.ends, one.whole.framed.enough, one.whole.framed.most, before.steps_are)

-- ---- what stands in them

-- the two bytes of a number
low_byte : (s : List ℕ) (at w : ℕ) → ((i : ℕ) → get_or s i 0 < 256) → word s at ≡ w → get_or s at 0 ≡ w % 256
unfolding word
low_byte s at w bytes e = omega (arith, bytes at, bytes (at + 1))

high_byte : (s : List ℕ) (at w : ℕ) → ((i : ℕ) → get_or s i 0 < 256) → word s at ≡ w → get_or s (at + 1) 0 ≡ w / 256
unfolding word
high_byte s at w bytes e = omega (arith, bytes at, bytes (at + 1))

zero_of : (w : ℕ) → w ≤ 1 → (w ≡ 1 → ⊥) → w ≡ 0
zero_of zero le ne = refl
zero_of (suc zero) le ne = absurd (ne refl)
zero_of (suc (suc w)) le ne = absurd (omega arith)

state_is : (w : ℕ) → w ≤ 1 → w ≡ state_number (eqb w 1)
state_is w le = go (eqb w 1) refl
  where
    go : (t : Bool) → eqb w 1 ≡ t → w ≡ state_number t
    go true t = eqb-true w 1 t
    go false t = zero_of w le (eqb-false w 1 t)

-- eight bytes by their four numbers
four_words :
    (s : List ℕ) (k a b c d : ℕ) → ((i : ℕ) → get_or s i 0 < 256) → word s k ≡ a → word s (k + 2) ≡ b → word s (k + 4) ≡ c → word s (k + 6) ≡ d →
    (j : ℕ) → j < 8 → get_or s (k + j) 0 ≡ get_or (a % 256 ∷ a / 256 ∷ b % 256 ∷ b / 256 ∷ c % 256 ∷ c / 256 ∷ d % 256 ∷ d / 256 ∷ []) j 0
four_words s k a b c d bytes e₀ e₂ e₄ e₆ j lt = go j lt
  where
    by : (j i : ℕ) → k + j ≡ i → get_or s (k + j) 0 ≡ get_or s i 0
    by j i e = ap (λ (n : ℕ). get_or s n 0) e

    go : (j : ℕ) → j < 8 → get_or s (k + j) 0 ≡ get_or (a % 256 ∷ a / 256 ∷ b % 256 ∷ b / 256 ∷ c % 256 ∷ c / 256 ∷ d % 256 ∷ d / 256 ∷ []) j 0
    go zero lt = by 0 k (omega arith) ∙ low_byte s k a bytes e₀
    go (suc zero) lt = high_byte s k a bytes e₀
    go (suc (suc zero)) lt = low_byte s (k + 2) b bytes e₂
    go (suc (suc (suc zero))) lt = by 3 (k + 2 + 1) (omega arith) ∙ high_byte s (k + 2) b bytes e₂
    go (suc (suc (suc (suc zero)))) lt = low_byte s (k + 4) c bytes e₄
    go (suc (suc (suc (suc (suc zero))))) lt = by 5 (k + 4 + 1) (omega arith) ∙ high_byte s (k + 4) c bytes e₄
    go (suc (suc (suc (suc (suc (suc zero)))))) lt = low_byte s (k + 6) d bytes e₆
    go (suc (suc (suc (suc (suc (suc (suc zero))))))) lt = by 7 (k + 6 + 1) (omega arith) ∙ high_byte s (k + 6) d bytes e₆
    go (suc (suc (suc (suc (suc (suc (suc (suc j)))))))) lt = absurd (omega arith)

-- a step's record
pub step_stands :
    (s : List ℕ) (links head : ℕ) (p : Plan) → ((i : ℕ) → get_or s i 0 < 256) → (i : ℕ) → StepAt s links head p i →
    Stands s (head + 6 + 8 * i) (step_bytes (get_or p.link i 0) (get_or p.close i false))
unfolding step_bytes
step_stands s links head p bytes i h =
    let place : h.found.place ≡ head + 6 + 8 * i =
    steps_end s links i (head + 6) empty_plan h.found.place Steps h.found.value h.found.before in
    let w = h.found.whole in
    let kept = step_kept w in
    let k = head + 6 + 8 * i in
    let long : word s k ≡ 8 = rw (sym place) (omega (arith, w.framed.long_is, w.framed.enough, w.framed.most)) in
    let kind : word s (k + 2) ≡ 6 = rw (sym place) (sym w.framed.kind_is ∙ kind_there w) in
    let link : word s (k + 4) ≡ get_or p.link i 0 = rw (sym place) (sym h.link_is) in
    let state : word s (k + 6) ≡ state_number (get_or p.close i false) =
    rw (sym place) (state_is (word s (h.found.place + 6)) kept.state_in ∙ ap state_number (sym h.close_is)) in
    record {
      whole = rw (sym place) (omega (arith, w.framed.fits, w.framed.enough, w.framed.most));
      each = four_words s k 8 6 (get_or p.link i 0) (state_number (get_or p.close i false)) bytes long kind link state;
    }

-- ---- all of them

-- bytes that stand somewhere are that part of the list
stands_part : {s : List ℕ} {at : ℕ} (xs : List ℕ) → Stands s at xs → take (length xs) (drop at s) ≡ xs
stands_part {s} {at} xs h =
    ext_get_or 0 (take (length xs) (drop at s)) xs long
    (λ i lt. let lt' : i < length xs = omega (arith, long) in
    get_or-take (length xs) (drop at s) i 0 lt' ∙ get_or-drop at s i 0 ∙ h.each i lt')
  where
    long : length (take (length xs) (drop at s)) ≡ length xs
    long = length-take-le (length xs) (drop at s) (omega (arith, length-drop at s, h.whole))

pub steps_part :
    (s : List ℕ) (links head : ℕ) (p : Plan) → ((i : ℕ) → get_or s i 0 < 256) → (n : ℕ) → ((i : ℕ) → i < n → StepAt s links head p i) →
    take (8 * n) (drop (head + 6) s) ≡ steps_bytes p n
unfolding steps_bytes
steps_part s links head p bytes zero h = refl
steps_part s links head p bytes (suc n) h =
    let before = steps_part s links head p bytes n (λ i lt. h i (omega arith)) in
    let one = stands_part (step_bytes (get_or p.link n 0) (get_or p.close n false)) (step_stands s links head p bytes n (h n (omega arith))) in
    let long = step_length (get_or p.link n 0) (get_or p.close n false) in
    let more : 8 * suc n ≡ 8 * n + 8 = omega arith in
    rw more
    (take-add (8 * n) 8 (drop (head + 6) s) ∙
    rw (before, drop-drop (8 * n) (head + 6) s) (ap (λ (l : List ℕ). steps_bytes p n ++ l) (rw long at one)))

-- of a plan file that stands in an input, the step records are those of the plan that it states
pub of_file :
    (s : List ℕ) (links head at : ℕ) (stage : Stage) (p : Plan) → ((i : ℕ) → get_or s i 0 < 256) → plan_file s links head ≡ reached at stage p →
    step_records (take (at - head) (drop head s)) ≡ steps_bytes p p.steps
unfolding step_records
of_file s links head at stage p bytes h =
    let holds = plan_holds s links head at stage p h in
    let size = plan_size s links head at stage p h in
    let ends = file_long s links head at stage p h in
    let long : length (take (at - head) (drop head s)) ≡ at - head =
    length-take-le (at - head) (drop head s) (omega (arith, length-drop head s, size.inside)) in
    let few : length (take (at - head) (drop head s)) - 10 ≡ 8 * p.steps = omega arith in
    let whole : at - head ≡ 6 + (8 * p.steps + 4) = omega arith in
    rw (few, whole, take-add 6 (8 * p.steps + 4) (drop head s), drop_at (take 6 (drop head s)) (take (8 * p.steps + 4) (drop 6 (drop head s))) 6 six, take-take (8 * p.steps) (8 * p.steps + 4) (drop 6 (drop head s)) (omega arith), drop-drop 6 head s)
    (steps_part s links head p bytes p.steps holds.step)
  where
    six : length (take 6 (drop head s)) ≡ 6
    six =
        let size = plan_size s links head at stage p h in
        let ends = file_long s links head at stage p h in
        length-take-le 6 (drop head s) (omega (arith, length-drop head s, size.inside))

-- of a plan file alone
pub of_accepted :
    (s : List ℕ) (links at : ℕ) (stage : Stage) (p : Plan) → ((i : ℕ) → get_or s i 0 < 256) → plan_input s links 0 ≡ reached at stage p →
    step_records s ≡ steps_bytes p p.steps
of_accepted s links at stage p bytes h =
    let c = plan_input_size s links 0 at stage p h in
    let all : take (at - 0) (drop 0 s) ≡ s = take_all (at - 0) s (omega (arith, c.1)) in
    rw all at (of_file s links 0 at stage p bytes c.0)

-- ---- of two files

-- that stand in one input, one behind the other
pub of_files :
    (s : List ℕ) (links start middle end : ℕ) (stage last : Stage) (p q : Plan) → ((i : ℕ) → get_or s i 0 < 256) →
    plan_file s links start ≡ reached middle stage p → plan_file s links middle ≡ reached end last q → (b : Better) →
    better_part (take (middle - start) (drop start s)) (take (end - middle) (drop middle s)) b ≡ better_steps p q b
unfolding better_part better_steps
of_files s links start middle end stage last p q bytes h k First = of_file s links start middle stage p bytes h
of_files s links start middle end stage last p q bytes h k Second = of_file s links middle end last q bytes k
of_files s links start middle end stage last p q bytes h k Neither = refl

-- that are lent apart
pub of_apart :
    (s t : List ℕ) (links at end : ℕ) (stage last : Stage) (p q : Plan) → ((i : ℕ) → get_or s i 0 < 256) → ((i : ℕ) → get_or t i 0 < 256) →
    plan_input s links 0 ≡ reached at stage p → plan_input t links 0 ≡ reached end last q → (b : Better) → better_part s t b ≡ better_steps p q b
unfolding better_part better_steps
of_apart s t links at end stage last p q bytes more h k First = of_accepted s links at stage p bytes h
of_apart s t links at end stage last p q bytes more h k Second = of_accepted t links end last q more k
of_apart s t links at end stage last p q bytes more h k Neither = refl

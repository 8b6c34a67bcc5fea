-- A plan's lines and its file are the text and the file of its list of steps: both are made step by step.
-- Assumes nothing.
use mathlib.Core.Path.{◌≡◌, refl, sym, ap, ap₂, ◌∙◌}
use mathlib.Core.Bool.{false}
use mathlib.Core.List.{List, [], ◌∷◌, ◌++◌, append_assoc, append-nil}
use Prim.Native.Nat.{ℕ, zero, suc, ◌+◌, ◌*◌}
use native.Mathlib.Omega.{arith}
use lib.ListN.{length, get_or, length-append}
use Rattle.feeding.specs.Plans.{Step}
use Rattle.file_plan.specs.declared.plan.Plan.{Plan}
use Rattle.file_writer.specs.Writing.{plan_head_bytes, step_bytes, end_bytes, steps_bytes, plan_bytes, plan_length}
use Rattle.file_writer.proofs.Files.{head_length, step_length, end_length}
use Rattle.plan_form.specs.Printing.{steps_to, steps_of}
use Rattle.plan_form.proofs.Steps.{steps_length}
use Rattle.plan_sums.specs.declared.Sums.{Sums}
use Rattle.plan_lines.specs.Lines.{plan_line, step_line, step_lines, reply_text, tail_lines, plan_lines}
use Rattle.planner.specs.Replies.{step_texts, plan_text_of, step_files, plan_file_of}

texts_append : (q r : List Step) → step_texts (q ++ r) ≡ step_texts q ++ step_texts r
unfolding step_texts
texts_append [] r = refl
texts_append (s ∷ q) r = ap (λ (t : List ℕ). step_line s.link s.want ++ t) (texts_append q r) ∙ sym (append_assoc (step_line s.link s.want) (step_texts q) (step_texts r))

lines_texts : (p : Plan) (n : ℕ) → step_lines p n ≡ step_texts (steps_to p n)
unfolding step_lines steps_to step_texts
lines_texts p zero = refl
lines_texts p (suc n) =
    ap₂ ◌++◌ (lines_texts p n) (sym (append-nil (step_line (get_or p.link n 0) (get_or p.close n false))))
    ∙ sym (texts_append (steps_to p n) (record { link = get_or p.link n 0; want = get_or p.close n false } ∷ []))

pub plan_lines_text : (p : Plan) (c : ℕ) (l : Sums) → plan_lines p c l ≡ plan_text_of (steps_of p) c l
unfolding plan_lines plan_text_of steps_of
plan_lines_text p c l =
    ap₂ (λ (k : ℕ) (t : List ℕ). reply_text (plan_line k c) t (tail_lines l)) (sym (steps_length p)) (lines_texts p p.steps)

-- ---- and its file is the file of its steps

files_append : (q r : List Step) → step_files (q ++ r) ≡ step_files q ++ step_files r
unfolding step_files
files_append [] r = refl
files_append (s ∷ q) r = ap (λ (t : List ℕ). step_bytes s.link s.want ++ t) (files_append q r) ∙ sym (append_assoc (step_bytes s.link s.want) (step_files q) (step_files r))

bytes_files : (p : Plan) (n : ℕ) → steps_bytes p n ≡ step_files (steps_to p n)
unfolding steps_bytes steps_to step_files
bytes_files p zero = refl
bytes_files p (suc n) =
    ap₂ ◌++◌ (bytes_files p n) (sym (append-nil (step_bytes (get_or p.link n 0) (get_or p.close n false))))
    ∙ sym (files_append (steps_to p n) (record { link = get_or p.link n 0; want = get_or p.close n false } ∷ []))

pub plan_bytes_file : (p : Plan) → plan_bytes p ≡ plan_file_of (steps_of p)
unfolding plan_bytes plan_file_of steps_of
plan_bytes_file p =
    ap₂ (λ (k : ℕ) (t : List ℕ). plan_head_bytes k ++ t ++ end_bytes) (sym (steps_length p)) (bytes_files p p.steps)

files_length : (q : List Step) → length (step_files q) ≡ 8 * length q
unfolding step_files
files_length [] = refl
files_length (s ∷ q) = omega (arith, length-append (step_bytes s.link s.want) (step_files q), step_length s.link s.want, files_length q)

pub plan_file_length : (q : List Step) → length (plan_file_of q) ≡ 10 + 8 * length q
unfolding plan_file_of
plan_file_length q =
    omega (
      arith,
      length-append (plan_head_bytes (length q) ++ step_files q) end_bytes,
      length-append (plan_head_bytes (length q)) (step_files q),
      head_length (length q),
      files_length q,
      end_length,
    )

-- the length that the writer asks for
pub plan_length_lem : (p : Plan) → plan_length p ≡ length (plan_file_of (steps_of p))
unfolding plan_length
plan_length_lem p = omega (arith, plan_file_length (steps_of p), steps_length p)

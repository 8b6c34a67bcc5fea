-- What the two entry points return is the definition's, and what the paper asks for: what is read whole is what the files state.
-- Assumes nothing.
use mathlib.Core.Path.{◌≡◌, refl, sym, ap, subst, ◌∙◌}
use mathlib.Core.List.{List}
use mathlib.Core.Logic.{◌↔◌}
use Prim.Native.Nat.{ℕ, ◌-◌, ◌<◌}
use native.Mathlib.Omega.{arith}
use lib.ListN.{length, take}
use Rattle.network.specs.declared.Network.{Network}
use Rattle.network.specs.declared.refusal.Refusal.{Refusal}
use Rattle.std.specs.Prelude.{Result, Ok, Err}
use Rattle.file_plan.specs.declared.plan.Plan.{Plan}
use Rattle.texts.specs.Texts.{in_front, Counted}
use Rattle.texts.proofs.Pieces.{text_in_front}
use Rattle.file_final.specs.declared.FinalRead.{FinalRead}
use Rattle.file_final.specs.Inputs.{final_input, files_input, final_read}
use Rattle.file_final.specs.Finals.{FirstBrokenFinal, FinalOf, FirstBrokenFiles, FilesOf}
use Rattle.file_final.proofs.Sizes.{final_files, apart_files, final_size}
use Rattle.file_final.proofs.Stated.{final_unread, final_read_lem, files_unread, files_read}
use Rattle.feeding_acceptance.specs.Reading.{Bytes}
use Rattle.feeding.specs.Acceptance.{answer_to}
use Rattle.final_better.specs.declared.Part.{Part}
use Rattle.judge_marks.specs.declared.BothMarks.{BothMarks}
use Rattle.final_lines.specs.FinalLines.{final_lines}
use Rattle.file_final.proofs.Answers.{was_whole}
use Rattle.final_better.specs.Better.{better_of, part_in}
use Rattle.final_better.proofs.Places.{part_offset}
use Rattle.final_judge.specs.declared.Decided.{Decided}
use Rattle.final_judge.specs.Finals.{StatesFinal, FirstRuleFinal, DecidedBy, FinalDecided, FilesDecided, PrintedBy, marks_of, decided_lines, marked_final, both_marks, final_accepted, decided_read, in_input, decided_in_input, final_for, files_for}
use Rattle.final_judge.proofs.Forming.{formed_final, formed_files}
use Rattle.final_judge.proofs.Deciding.{decided_by, placed_by, refused_exactly, refused_in_input}

-- the offset of a part in its own file is at most 6
pub own_offset : (r : FinalRead) (d : Decided) → final_accepted r (answer_to r.net) ≡ Ok d → d.part.offset < 7
unfolding final_accepted marked_final
own_offset r d e = go (answer_to r.net) e
  where
    go : (a : Result Unit Refusal) → final_accepted r a ≡ Ok d → d.part.offset < 7
    go (Ok u) h =
        let same : marked_final r (both_marks r) ≡ d = cc in
        subst (λ (x : Decided). x.part.offset < 7) same (omega (arith, part_offset (r.middle - r.start) (r.end - r.middle) (better_of (both_marks r).first (both_marks r).second)))
    go (Err f) h = let z : ◌≡◌ {A = ℕ} 0 1 = cc in absurd (omega arith)

-- what is read whole is what the files state
final_stated : (s : List ℕ) (r : FinalRead) → final_read (final_input s) ≡ Ok r → FinalOf s r.net r.first r.second r.start r.middle
final_stated s r e =
    let w = was_whole (final_input s) r e in
    let z = final_size s w.at w.stage r (final_files s w.at w.stage r w.is) in
    (final_read_lem s r.net r.first r.second r.start r.middle).0
    (e ∙ ap (λ (x : ℕ). Ok (record { net = r.net; first = r.first; second = r.second; start = r.start; middle = r.middle; end = x })) z.ends)

final_whole : (s : List ℕ) (r : FinalRead) → final_read (final_input s) ≡ Ok r → StatesFinal s r.net r.first r.second
final_whole s r e = (r.start, r.middle, final_stated s r e)

files_whole : (network first second : List ℕ) (r : FinalRead) → final_read (files_input network first second) ≡ Ok r → FilesOf network first second r.net r.first r.second
files_whole network first second r e =
    let w = was_whole (files_input network first second) r e in
    let f = apart_files network first second w.at w.stage r w.is in
    (files_read network first second r.net r.first r.second).0
    (e ∙ (λ i. Ok (record { net = r.net; first = r.first; second = r.second; start = f.start_is i; middle = f.middle_is i; end = f.end_is i })))

-- what computes is what the paper asks for
pub final_is : (s : List ℕ) → Bytes s → FinalDecided s (final_for s)
unfolding final_for
final_is s bytes = placed_by _ _ (final_read (final_input s)) (formed_final s bytes) (final_whole s) (λ f. (final_unread s f).0)

pub files_is : (network first second : List ℕ) → Bytes network → FilesDecided network first second (files_for network first second)
unfolding files_for
files_is network first second bytes =
    decided_by _ _ (final_read (files_input network first second)) (formed_files network first second bytes) (files_whole network first second)
    (λ f. (files_unread network first second f).0)

-- refused exactly by the first rule broken
pub final_refused_exactly : (s : List ℕ) → Bytes s → (f : Refusal)
    → (final_for s ≡ Err f) ↔ FirstRuleFinal (StatesFinal s) (FirstBrokenFinal s) f
unfolding final_for
final_refused_exactly s bytes =
    refused_in_input _ _ (final_read (final_input s)) (formed_final s bytes) (final_whole s) (λ f. (final_unread s f).0)
    (λ n p q x. (_, (final_read_lem s n p q x.0 x.1).1 x.2, refl))
    (λ f. (final_unread s f).1)

pub files_refused_exactly : (network first second : List ℕ) → Bytes network → (f : Refusal)
    → (files_for network first second ≡ Err f) ↔ FirstRuleFinal (FilesOf network first second) (FirstBrokenFiles network first second) f
unfolding files_for
files_refused_exactly network first second bytes =
    refused_exactly _ _ (final_read (files_input network first second)) (formed_files network first second bytes) (files_whole network first second)
    (λ f. (files_unread network first second f).0)
    (λ n p q x. (_, (files_read network first second n p q).1 x, refl))
    (λ f. (files_unread network first second f).1)

-- what the entry points return
pub final_returned : (s : List ℕ) → Bytes s → (d : Result Decided Refusal) → d ≡ final_for s → (d ≡ final_for s) × FinalDecided s d
final_returned s bytes d whole = (whole, subst (FinalDecided s) (sym whole) (final_is s bytes))

pub files_returned : (network first second : List ℕ) → Bytes network → (d : Result Decided Refusal) → d ≡ files_for network first second
    → (d ≡ files_for network first second) × FilesDecided network first second d
files_returned network first second bytes d whole = (whole, subst (FilesDecided network first second) (sym whole) (files_is network first second bytes))

-- by what was read, and what was decided of it
module _ (s : List ℕ) (read : Result FinalRead Refusal) (is : read ≡ final_read (final_input s)) where
  pub final_unreadable : (f : Refusal) → read ≡ Err f → Err f ≡ final_for s
  unfolding final_for decided_in_input
  final_unreadable f e = ap decided_in_input (sym e ∙ is)

  module _ (r : FinalRead) (ok : read ≡ Ok r) (own : Result Decided Refusal) (own-is : own ≡ final_accepted r (answer_to r.net)) where
    own_final : in_input r own ≡ final_for s
    unfolding final_for decided_in_input decided_read
    own_final = ap (in_input r) own-is ∙ ap decided_in_input (sym ok ∙ is)

    pub final_undecided : (f : Refusal) → own ≡ Err f → Err f ≡ final_for s
    unfolding in_input
    final_undecided f e = ap (in_input r) (sym e) ∙ own_final

    pub final_decided : (d : Decided) → own ≡ Ok d → (p : Part) → p ≡ part_in r.start r.middle d.part → Ok (record { marks = d.marks; part = p }) ≡ final_for s
    unfolding in_input
    final_decided d e p h = ap (λ (x : Part). Ok (record { marks = d.marks; part = x })) h ∙ ap (in_input r) (sym e) ∙ own_final

module _ (network first second : List ℕ) (read : Result FinalRead Refusal) (is : read ≡ final_read (files_input network first second)) where
  pub files_unreadable : (f : Refusal) → read ≡ Err f → Err f ≡ files_for network first second
  unfolding files_for decided_read
  files_unreadable f e = ap decided_read (sym e ∙ is)

  pub files_decided : (r : FinalRead) → read ≡ Ok r → (d : Result Decided Refusal) → d ≡ final_accepted r (answer_to r.net) → d ≡ files_for network first second
  unfolding files_for decided_read
  files_decided r ok d h = h ∙ ap decided_read (sym ok ∙ is)

-- the lines of what is decided are what the paper asks for
pub printed_decided : (States : Network → Plan → Plan → Type 0) (Broken : Refusal → Type 0) (d e : Result Decided Refusal)
    → (d ≡ e) × DecidedBy States Broken d → (m : Result BothMarks Refusal) → m ≡ marks_of d → (before after : List ℕ) (n : ℕ)
    → (n ≡ length (final_lines m)) × ((after ≡ in_front (final_lines m) before) × Counted n after)
    → (n ≡ length (decided_lines e)) × ((after ≡ in_front (decided_lines e) before) × (Counted n after × PrintedBy States Broken (take n after)))
printed_decided States Broken d e is m m-is before after n put = (
  put.0 ∙ ap (λ (x : Result BothMarks Refusal). length (final_lines x)) m-is ∙ ap (λ (x : Result Decided Refusal). length (decided_lines x)) is.0,
  (
    put.1.0 ∙ ap (λ (x : Result BothMarks Refusal). in_front (final_lines x) before) m-is ∙ ap (λ (x : Result Decided Refusal). in_front (decided_lines x) before) is.0,
    (
      put.1.1,
      record {
        reply = d;
        decided = is.1;
        lines = text_in_front (final_lines m) before after n put.0 put.1.0 ∙ ap final_lines m-is;
      },
    ),
  ),
)

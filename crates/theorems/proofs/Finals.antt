-- A trial final as texts and as a part of the lent bytes: a refusal is told by its first letter, each mark is the judge's since each file is read as it is
-- behind the network alone, and the part is found by where the files stand.
-- Assumes nothing.
use mathlib.Core.Path.{◌≡◌, refl, sym, ap, ap₂, subst, ◌∙◌}
use mathlib.Core.List.{List, ◌++◌}
use mathlib.Core.Logic.{◌↔◌}
use Prim.Native.Nat.{ℕ, ◌+◌, ◌-◌, ◌*◌, ◌≤◌}
use native.Mathlib.Omega.{arith}
use lib.ListN.{length, take, drop}
use Rattle.network.specs.declared.Network.{Network}
use Rattle.network.specs.declared.refusal.Refusal.{Refusal}
use Rattle.std.specs.Prelude.{Result, Ok, Err}
use Rattle.file_network.specs.Runs.{Reading, reached}
use Rattle.file_plan.specs.declared.plan.Plan.{Plan}
use Rattle.file_both.specs.Inputs.{both_read}
use Rattle.file_final.specs.declared.FinalRead.{FinalRead}
use Rattle.file_final.specs.Inputs.{final_input, files_input, final_read}
use Rattle.file_final.specs.Finals.{FinalOf, FilesOf, FirstBrokenFinal, FirstBrokenFiles}
use Rattle.file_final.proofs.Stated.{final_stated, final_read_lem, files_stated, files_read}
use Rattle.file_plan.proofs.Sizes.{plan_input_size}
use Rattle.file_final.proofs.Sizes.{final_files, apart_files, final_size, apart_size}
use Rattle.file_final.proofs.Apart.{ReadAlone, final_judged, files_judged}
use Rattle.feeding.specs.Networks.{Net, net_of}
use Rattle.feeding.specs.Plans.{Step}
use Rattle.feeding.specs.Acceptance.{Answered, answer_to}
use Rattle.feeding.proofs.Views.{answered_network, formed_net, accepted_starts}
use Rattle.plan_form.specs.Printing.{steps_of}
use Rattle.texts.specs.Texts.{refused_word, refused_line}
use Rattle.judge_marks.specs.declared.Mark.{Mark}
use Rattle.judge_marks.specs.declared.Mark.TheVariants as Mark·
use Rattle.judge_marks.specs.declared.BothMarks.{BothMarks}
use Rattle.judge_marks.specs.Marks.{Marked, mark_of}
use Rattle.judge_marks.specs.Marks as Marks
use Rattle.judge_marks.proofs.Marking.{marked_mark}
use Rattle.judge_line.specs.MarkLines.{mark_line}
use Rattle.judge.specs.Judging.{mark_accepted, mark_of_read, mark_for_by, mark_for}
use Rattle.final_better.specs.declared.Better.{Better}
use Rattle.final_better.specs.declared.Better.TheVariants.{First, Second, Neither}
use Rattle.final_better.specs.declared.Part.{Part}
use Rattle.final_better.specs.Better.{BetterBy, StandsAt, of_first, of_second, of_neither, better_of, better_part, better_steps, file_of, first_step, part_of, start_of, part_in}
use Rattle.final_better.proofs.Marks.{better_of_lem}
use Rattle.final_better.proofs.Places.{behind_head, part_bytes, part_in_input}
use Rattle.final_better.proofs.Accepted.{of_files, of_apart}
use Rattle.final_lines.specs.FinalLines.{mark_lines, final_lines}
use Rattle.final_judge.specs.declared.Decided.{Decided}
use Rattle.final_judge.specs.Finals.{StatesFinal, FirstRuleFinal, DecidedBy, marked, refused, ReadFormed, both_marks, marked_final, decided_read, in_input, marks_of, decided_in_input, final_for, files_for, decided_lines}
use Rattle.final_judge.proofs.Forming.{formed_final, formed_files}
use Rattle.final_judge.proofs.Deciding.{part_better, decided_marked}
use Rattle.final_judge.proofs.Returning.{final_is, files_is, final_refused_exactly, files_refused_exactly}
use Rattle.feeding_acceptance.specs.Reading.{Bytes}
use Rattle.theorems.proofs.Texts.{refused_same}
use Rattle.theorems.proofs.Words.{refused_begins, refused_letter}
use Rattle.theorems.specs.Words.{final_text, files_text, mark_text, Begins}

-- ---- refusals

-- no mark is a refusal
not_refused : (net : Net) (q : List Step) {m : Mark} (f : Refusal) → Marked net q m → m ≡ Mark·.Refused f → ⊥
not_refused net q f (Marks.broken b) e = let z : ◌≡◌ {A = ℕ} 0 1 = cc in absurd (omega arith)
not_refused net q f (Marks.short b) e = let z : ◌≡◌ {A = ℕ} 0 1 = cc in absurd (omega arith)
not_refused net q f (Marks.valid b) e = let z : ◌≡◌ {A = ℕ} 0 1 = cc in absurd (omega arith)

-- the lines of a refusal alone begin with its word
printed_answer : (States : Network → Plan → Plan → Type 0) (Broken : Refusal → Type 0) (d : Result Decided Refusal) (f : Refusal)
    → DecidedBy States Broken d → decided_lines d ≡ refused_line f → d ≡ Err f
unfolding final_lines mark_lines
printed_answer States Broken _ f (marked n p q x a b better) e =
    let r = refused_letter _ _ (subst (Begins refused_word) (sym e) (refused_begins f)) in absurd (not_refused (net_of n) (steps_of p) r.0 a r.1)
printed_answer States Broken _ f (refused {f = g} b) e = ap Err (refused_same g f e)

answer_printed : (d : Result Decided Refusal) (f : Refusal) → d ≡ Err f → decided_lines d ≡ refused_line f
unfolding final_lines
answer_printed d f e = ap decided_lines e

pub final_printed : (s : List ℕ) → Bytes s → (f : Refusal) → (final_text s ≡ refused_line f) ↔ FirstRuleFinal (StatesFinal s) (FirstBrokenFinal s) f
final_printed s bytes f = (
  λ e. (final_refused_exactly s bytes f).0 (printed_answer _ _ _ f (final_is s bytes) e),
  λ b. answer_printed (final_for s) f ((final_refused_exactly s bytes f).1 b),
)

pub files_printed : (network first second : List ℕ) → Bytes network → (f : Refusal)
    → (files_text network first second ≡ refused_line f) ↔ FirstRuleFinal (FilesOf network first second) (FirstBrokenFiles network first second) f
files_printed network first second bytes f = (
  λ e. (files_refused_exactly network first second bytes f).0 (printed_answer _ _ _ f (files_is network first second bytes) e),
  λ b. answer_printed (files_for network first second) f ((files_refused_exactly network first second bytes f).1 b),
)

-- ---- a refusal hands out no mark and no part

pub nothing_decided : (x : Result Decided Refusal) (f : Refusal) → x ≡ Err f → (d : Decided) → x ≡ Ok d → ⊥
nothing_decided x f e d h = let z : ◌≡◌ {A = ℕ} 0 1 = cc in absurd (omega arith)

-- ---- marks

-- the judge's mark of an input that is read as an accepted network with a plan
alone_marked : (t : List ℕ) (n : Network) (p : Plan) → ReadAlone t n p → answer_to n ≡ Ok tt → mark_of (net_of n) (steps_of p) ≡ mark_for t
unfolding mark_for_by mark_of_read mark_accepted
alone_marked t n p alone kept =
    sym (ap (λ (o : Reading (Network × Plan)). mark_of_read (both_read o)) alone.is ∙ ap (mark_accepted n p) kept)

pub record MarkedAlone (d : Decided) (first second : List ℕ) : Type 0 where
  pub first_mark : d.marks.first ≡ mark_for first
  pub second_mark : d.marks.second ≡ mark_for second

pub marks_printed : (x : Result Decided Refusal) (d : Decided) → x ≡ Ok d → (first second : List ℕ) → MarkedAlone d first second
    → decided_lines x ≡ mark_text first ++ mark_text second
unfolding final_lines mark_lines
marks_printed x d e first second m =
    ap decided_lines e ∙ ap₂ (λ (a b : Mark). mark_line a ++ mark_line b) m.first_mark m.second_mark

-- where all rules are kept, whatever the files were read from: what is decided, printed and handed back
module _ (r : FinalRead) (formed : ReadFormed r) (kept : Answered (net_of r.net) (Ok tt)) where
  accepts : answer_to r.net ≡ Ok tt
  accepts = sym (answered_network r.net formed.net (Ok tt) kept)

  decided_is : decided_read (Ok r) ≡ Ok (marked_final r (both_marks r))
  decided_is = decided_marked r accepts

  -- both marks are the judge's, of inputs that are read as the network with one plan
  marks_alone : (first second : List ℕ) → ReadAlone first r.net r.first → ReadAlone second r.net r.second
      → MarkedAlone (marked_final r (both_marks r)) first second
  unfolding marked_final both_marks
  marks_alone first second one other =
      record {
        first_mark = alone_marked first r.net r.first one accepts;
        second_mark = alone_marked second r.net r.second other accepts;
      }

  -- the better file by any marks that the plans have, which are one each
  pub better_told : (a b : Mark) → Marked (net_of r.net) (steps_of r.first) a → Marked (net_of r.net) (steps_of r.second) b
      → BetterBy a b (marked_final r (both_marks r)).part.better
  unfolding marked_final both_marks
  better_told a b x y =
      let safe = (accepted_starts r.net formed.net accepts).safe in
      let one = marked_mark (net_of r.net) (formed_net r.net formed.net) safe (steps_of r.first) a x in
      let other = marked_mark (net_of r.net) (formed_net r.net formed.net) safe (steps_of r.second) b y in
      subst (BetterBy a b) (sym (part_better _ _ _ ∙ sym (ap₂ better_of one other))) (better_of_lem a b)

  -- the part by the better file
  pub part_told : (marked_final r (both_marks r)).part ≡ part_of (r.middle - r.start) (r.end - r.middle) (marked_final r (both_marks r)).part.better
  unfolding marked_final
  part_told = ap (part_of (r.middle - r.start) (r.end - r.middle)) (sym (part_better _ _ _))

-- ---- the empty part

-- the first step of a plan file stands behind the 6 bytes of its head
empty_at : (first second : ℕ) (p : Part) → 10 ≤ first → p ≡ part_of first second p.better → p.better ≡ Neither → (p.offset ≡ 6) × (p.length ≡ 0)
unfolding part_of
empty_at first second p h e neither =
    let is = e ∙ ap (part_of first second) neither in
    (ap (λ (x : Part). x.offset) is ∙ sym (behind_head first (omega arith)), ap (λ (x : Part). x.length) is)

-- where the part stands
stands : (start middle a b : ℕ) (p q : Plan) → a ≡ 10 + 8 * p.steps → b ≡ 10 + 8 * q.steps → (w : Better) (x : Part) → x ≡ part_in start middle (part_of a b w)
    → StandsAt start middle p q x
unfolding part_in part_of start_of
stands start middle a b p q long other First x e =
    let six = behind_head a (omega arith) in
    let eight : a - 10 ≡ 8 * p.steps = omega arith in
    subst (StandsAt start middle p q) (sym (e ∙ (λ i. record { better = First; offset = start + sym six i; length = eight i }))) of_first
stands start middle a b p q long other Second x e =
    let six = behind_head b (omega arith) in
    let eight : b - 10 ≡ 8 * q.steps = omega arith in
    subst (StandsAt start middle p q) (sym (e ∙ (λ i. record { better = Second; offset = middle + sym six i; length = eight i }))) of_second
stands start middle a b p q long other Neither x e =
    let six = behind_head a (omega arith) in
    subst (StandsAt start middle p q) (sym (e ∙ (λ i. record { better = Neither; offset = start + sym six i; length = 0 }))) of_neither

-- a file lent by itself stands at 0
own_part : (a b : ℕ) (w : Better) (x : Part) → x ≡ part_of a b w → x ≡ part_in 0 0 (part_of a b w)
unfolding part_in part_of start_of
own_part a b First x e = let z : first_step a ≡ 0 + first_step a = omega arith in e ∙ (λ i. record { better = First; offset = z i; length = a - 10 })
own_part a b Second x e = let z : first_step b ≡ 0 + first_step b = omega arith in e ∙ (λ i. record { better = Second; offset = z i; length = b - 10 })
own_part a b Neither x e = let z : first_step a ≡ 0 + first_step a = omega arith in e ∙ (λ i. record { better = Neither; offset = z i; length = 0 })

-- ---- what is decided is one

pub ok_same : {d e : Decided} → ◌≡◌ {A = Result Decided Refusal} (Ok d) (Ok e) → d ≡ e
ok_same h = cc

-- ---- one input

module _ (s : List ℕ) (bytes : Bytes s) (n : Network) (p q : Plan) (start middle : ℕ) (files : FinalOf s n p q start middle) (kept : Answered (net_of n) (Ok tt)) where
  abbrev whole_read : FinalRead
  whole_read = record { net = n; first = p; second = q; start = start; middle = middle; end = length s }

  -- both marks, with the part by its offset in that file
  abbrev own : Decided
  own = marked_final whole_read (both_marks whole_read)

  read_is : final_read (final_input s) ≡ Ok whole_read
  read_is = (final_read_lem s n p q start middle).1 files

  formed : ReadFormed whole_read
  formed = formed_final s bytes whole_read read_is

  abbrev in_front_of : Decided
  in_front_of = record { marks = own.marks; part = part_in start middle own.part }

  final_read_is : final_for s ≡ Ok in_front_of
  unfolding final_for decided_in_input in_input
  final_read_is = ap decided_in_input read_is ∙ ap (in_input whole_read) (decided_is whole_read formed kept)

  -- it is decided
  pub final_accepts : (d : Decided) × (final_for s ≡ Ok d)
  final_accepts = (in_front_of, final_read_is)

  stated : (stage : _) × (final_input s ≡ reached (length s) stage (record { net = n; first = p; second = q; start = start; middle = middle; end = length s }))
  stated = final_stated s n p q start middle files

  module _ (d : Decided) (is : final_for s ≡ Ok d) where
    same : in_front_of ≡ d
    same = ok_same (sym final_read_is ∙ is)

    pub final_marks : MarkedAlone d (take middle s) (take start s ++ drop middle s)
    final_marks =
        let judged = final_judged s (length s) stated.0 _ stated.1 in
        let m = marks_alone whole_read formed kept (take middle s) (take start s ++ drop middle s) judged.first_judged judged.second_judged in
        subst (λ (x : Decided). MarkedAlone x (take middle s) (take start s ++ drop middle s)) same
        (record { first_mark = m.first_mark; second_mark = m.second_mark })

    pub final_better : (a b : Mark) → Marked (net_of n) (steps_of p) a → Marked (net_of n) (steps_of q) b → BetterBy a b d.part.better
    unfolding part_in
    final_better a b x y = subst (λ (v : Decided). BetterBy a b v.part.better) same (better_told whole_read formed kept a b x y)

    final_part_is : d.part ≡ part_in start middle (part_of (middle - start) (length s - middle) d.part.better)
    unfolding part_in
    final_part_is =
        subst (λ (v : Decided). v.part ≡ part_in start middle (part_of (middle - start) (length s - middle) v.part.better)) same
        (ap (part_in start middle) (part_told whole_read formed kept))

    -- the part's bytes are the records of the better plan's steps
    pub final_records : take d.part.length (drop d.part.offset s) ≡ better_steps p q d.part.better
    final_records =
        let f = final_files s (length s) stated.0 _ stated.1 in
        part_in_input s start middle (length s) formed.first_behind formed.second_behind_lem (omega arith) d.part.better d.part final_part_is
        ∙ of_files s n.links start middle (length s) f.due_second stated.0 p q bytes f.first (plan_input_size s n.links middle (length s) stated.0 q f.second).0 d.part.better

    pub final_stands : StandsAt start middle p q d.part
    final_stands =
        let size = final_size s (length s) stated.0 _ (final_files s (length s) stated.0 _ stated.1) in
        stands start middle (middle - start) (length s - middle) p q (omega (arith, size.first_long)) (omega (arith, size.second_long)) _ _ final_part_is

    pub final_empty : d.part.better ≡ Neither → (d.part.offset ≡ start + 6) × (d.part.length ≡ 0)
    unfolding part_in start_of
    final_empty neither =
        let long = (final_size s (length s) stated.0 _ (final_files s (length s) stated.0 _ stated.1)).first_long in
        let better : own.part.better ≡ Neither = ap (λ (v : Decided). v.part.better) same ∙ neither in
        let at = empty_at (middle - start) (length s - middle) own.part (omega arith) (part_told whole_read formed kept) better in
        let is = ap (λ (v : Decided). v.part) (sym same) in (
          ap (λ (x : Part). x.offset) is ∙ ap (λ (w : Better). start_of start middle w + own.part.offset) better ∙ ap (λ (k : ℕ). start + k) at.0,
          ap (λ (x : Part). x.length) is ∙ at.1,
        )

-- ---- files lent apart

module _ (network first second : List ℕ) (bytes : Bytes network) (n : Network) (p q : Plan) (files : FilesOf network first second n p q) (kept : Answered (net_of n) (Ok tt)) where
  abbrev apart_read : FinalRead
  apart_read =
      record {
        net = n;
        first = p;
        second = q;
        start = length network;
        middle = length network + length first;
        end = length network + length first + length second;
      }

  abbrev apart_own : Decided
  apart_own = marked_final apart_read (both_marks apart_read)

  apart_is : final_read (files_input network first second) ≡ Ok apart_read
  apart_is = (files_read network first second n p q).1 files

  apart_formed : ReadFormed apart_read
  apart_formed = formed_files network first second bytes apart_read apart_is

  files_read_is : files_for network first second ≡ Ok apart_own
  unfolding files_for
  files_read_is = ap decided_read apart_is ∙ decided_is apart_read apart_formed kept

  pub files_accept : (d : Decided) × (files_for network first second ≡ Ok d)
  files_accept = (apart_own, files_read_is)

  apart_stated : (stage : _) × (files_input network first second ≡ reached (length network + length first + length second) stage
      (record { net = n; first = p; second = q; start = length network; middle = length network + length first; end = length network + length first + length second }))
  apart_stated = files_stated network first second n p q files

  module _ (d : Decided) (is : files_for network first second ≡ Ok d) where
    apart_same : apart_own ≡ d
    apart_same = ok_same (sym files_read_is ∙ is)

    pub files_marks : MarkedAlone d (network ++ first) (network ++ second)
    files_marks =
        let judged = files_judged network first second _ apart_stated.0 _ apart_stated.1 in
        subst (λ (x : Decided). MarkedAlone x (network ++ first) (network ++ second)) apart_same
        (marks_alone apart_read apart_formed kept (network ++ first) (network ++ second) judged.first_judged judged.second_judged)

    pub files_better : (a b : Mark) → Marked (net_of n) (steps_of p) a → Marked (net_of n) (steps_of q) b → BetterBy a b d.part.better
    files_better a b x y = subst (λ (v : Decided). BetterBy a b v.part.better) apart_same (better_told apart_read apart_formed kept a b x y)

    files_part_is : d.part ≡ part_of (length first) (length second) d.part.better
    files_part_is =
        let one : length network + length first - length network ≡ length first = omega arith in
        let other : length network + length first + length second - (length network + length first) ≡ length second = omega arith in
        let told : d.part ≡ part_of (length network + length first - length network) (length network + length first + length second - (length network + length first)) d.part.better =
        subst (λ (v : Decided). v.part ≡ part_of (length network + length first - length network) (length network + length first + length second - (length network + length first)) v.part.better)
        apart_same (part_told apart_read apart_formed kept) in
        told ∙ ap₂ (λ (a b : ℕ). part_of a b d.part.better) one other

    -- of the better file, the bytes at the part's offset are what `better_part` hands back, and these are the records of the better plan's steps
    pub files_part : (b : Better) → b ≡ d.part.better
        → take d.part.length (drop d.part.offset (file_of first second b)) ≡ better_part first second b
    files_part b e =
        ap (λ (x : Part). take x.length (drop x.offset (file_of first second b))) (files_part_is ∙ ap (part_of (length first) (length second)) (sym e))
        ∙ part_bytes first second b

    pub files_records : Bytes first → Bytes second → better_part first second d.part.better ≡ better_steps p q d.part.better
    files_records one other =
        let f = apart_files network first second _ apart_stated.0 _ apart_stated.1 in
        of_apart first second n.links (length first) (length second) f.due_second apart_stated.0 p q one other f.first_is f.second_is d.part.better

    pub files_stand : StandsAt 0 0 p q d.part
    files_stand =
        let size = apart_size network first second _ apart_stated.0 _ (apart_files network first second _ apart_stated.0 _ apart_stated.1) in
        stands 0 0 (length first) (length second) p q (omega (arith, size.first_long)) (omega (arith, size.second_long)) _ _ (own_part _ _ _ _ files_part_is)

    pub files_empty : d.part.better ≡ Neither → (d.part.offset ≡ 6) × (d.part.length ≡ 0)
    files_empty =
        let long = (apart_size network first second _ apart_stated.0 _ (apart_files network first second _ apart_stated.0 _ apart_stated.1)).first_long in
        empty_at (length first) (length second) d.part (omega arith) files_part_is

-- ---- one input and files lent apart: the part differs in its offset alone

placed_marks : (r : FinalRead) (x : Result Decided Refusal) → marks_of (in_input r x) ≡ marks_of x
unfolding in_input
placed_marks r (Ok d) = refl
placed_marks r (Err f) = refl

pub in_input_marks : (x : Result FinalRead Refusal) → marks_of (decided_in_input x) ≡ marks_of (decided_read x)
unfolding decided_in_input decided_read
in_input_marks (Ok r) = placed_marks r (decided_read (Ok r))
in_input_marks (Err f) = refl

pub in_input_part : (x : Result FinalRead Refusal) (d e : Decided) → decided_read x ≡ Ok d → decided_in_input x ≡ Ok e
    → (d.part.better ≡ e.part.better) × (d.part.length ≡ e.part.length)
unfolding decided_in_input in_input part_in
in_input_part (Ok r) d e hd he =
    let same : record { marks = d.marks; part = part_in r.start r.middle d.part } ≡ e = ok_same (ap (in_input r) (sym hd) ∙ he) in
    (ap (λ (v : Decided). v.part.better) same, ap (λ (v : Decided). v.part.length) same)
in_input_part (Err f) d e hd he = let z : ◌≡◌ {A = ℕ} 0 1 = cc in absurd (omega arith)

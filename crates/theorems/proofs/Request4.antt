-- Document 02, item 4, "Two controllers head to head", sentence by sentence, for every sequence of bytes. Of one input s program and library give `final_text` and
-- `final_for` by the contracts of `final_text` and `final_of`; of files lent apart `files_text` and `files_for`.
-- Assumes nothing.
use mathlib.Core.Path.{◌≡◌, refl, ap, sym, subst, ◌∙◌}
use mathlib.Core.List.{List, [], ◌∷◌, ◌++◌}
use mathlib.Core.Logic.{◌↔◌}
use Prim.Native.Nat.{ℕ, ◌+◌, ◌<◌, ◌≤◌}
use native.Mathlib.Omega.{arith}
use lib.ListN.{length, take, drop}
use Rattle.network.specs.declared.Network.{Network}
use Rattle.network.specs.declared.refusal.Rule.TheVariants.{ByteAfterEnd}
use Rattle.network.specs.declared.refusal.Refusal.{Refusal}
use Rattle.network.specs.Refusals.{rule_number}
use Rattle.std.specs.Prelude.{Ok, Err}
use Rattle.file_fields.specs.Fields.{word}
use Rattle.file_network.specs.Runs.{Reading}
use Rattle.file_plan.specs.declared.plan.Plan.{Plan}
use Rattle.file_refusals.specs.Files.{Stand, plan_stages, NetworkStands, KeepsNetwork}
use Rattle.file_refusals.specs.Files as Files
use Rattle.file_final.specs.Inputs.{final_input, final_read}
use Rattle.file_final.specs.declared.FinalRead.{FinalRead}
use Rattle.final_judge.specs.declared.Decided.{Decided}
use Rattle.final_lines.specs.FinalLines.{final_lines}
use Rattle.file_final.specs.Finals.{FinalOf, FilesOf, FirstBrokenFinal, FirstBrokenFiles, in_network_file, in_first_file, in_second_file, behind_plan_file, KeepsPlan}
use Rattle.file_final.proofs.Alike.{final_decided, files_decided}
use Rattle.file_final.proofs.Refusals.{kept_same_reply}
use Rattle.file_final.proofs.Sizes.{final_most, files_most}
use Rattle.file_final.proofs.Stated.{final_stated, files_stated}
use Rattle.feeding.specs.Networks.{net_of}
use Rattle.feeding.specs.Acceptance.{Answered}
use Rattle.feeding_acceptance.specs.Reading.{Bytes}
use Rattle.plan_form.specs.Printing.{steps_of}
use Rattle.texts.specs.Texts.{refused_line}
use Rattle.judge_marks.specs.declared.Mark.{Mark}
use Rattle.judge_marks.specs.declared.Mark.TheVariants as Mark·
use Rattle.judge_marks.specs.Marks.{Marked}
use Rattle.judge.specs.Judging.{mark_for}
use Rattle.final_better.specs.declared.Better.{Better}
use Rattle.final_better.specs.declared.Better.TheVariants.{Neither}
use Rattle.final_better.specs.Better.{BetterBy, StandsAt, better_part, better_steps, file_of, part_in}
use Rattle.final_better.proofs.Marks.{better_only}
use Rattle.final_judge.specs.Finals.{FirstRuleFinal, in_files, in_network, StatesFinal, FinalReply, FilesReply, marks_of, decided_read, decided_in_input, final_for, files_for, decided_lines}
use Rattle.host_values.specs.Values.{final_values}
use Rattle.final_judge.proofs.Returning.{final_is, files_is, final_refused_exactly, files_refused_exactly}
use Rattle.theorems.proofs.Finals as Finals
use Rattle.theorems.specs.Words.{mark_text, final_text, files_text}

-- ---- "A trial final, a program of its own like the weak planner and level 2 below, sets two plan files against one network. The judge prints both marks in file
-- order": each line is what the judge prints of the network with that file alone

pub final_prints : (s : List ℕ) → Bytes s → FinalReply s (final_text s)
final_prints s bytes = record { reply = _; decided = final_is s bytes; lines = refl }

pub files_print : (network first second : List ℕ) → Bytes network → FilesReply network first second (files_text network first second)
files_print network first second bytes = record { reply = _; decided = files_is network first second bytes; lines = refl }

-- one input in which the plan files start at start and middle, and that keeps rules 1 to 18 and 20
module _ (s : List ℕ) (bytes : Bytes s) (n : Network) (p q : Plan) (start middle : ℕ) (files : FinalOf s n p q start middle) (kept : Answered (net_of n) (Ok tt)) where
  pub decided_one : (d : Decided) × (final_for s ≡ Ok d)
  decided_one = Finals.final_accepts s bytes n p q start middle files kept

  pub marks_in_order : final_text s ≡ mark_text (take middle s) ++ mark_text (take start s ++ drop middle s)
  marks_in_order =
      Finals.marks_printed (final_for s) decided_one.0 decided_one.1 (take middle s) (take start s ++ drop middle s)
      (Finals.final_marks s bytes n p q start middle files kept decided_one.0 decided_one.1)

  -- what it is decided
  module _ (d : Decided) (is : final_for s ≡ Ok d) where
    pub first_mark : d.marks.first ≡ mark_for (take middle s)
    first_mark = (Finals.final_marks s bytes n p q start middle files kept d is).first_mark

    pub second_mark : d.marks.second ≡ mark_for (take start s ++ drop middle s)
    second_mark = (Finals.final_marks s bytes n p q start middle files kept d is).second_mark

    -- ---- "and hands back the step records of the better file, a part of the lent bytes.": by the contract of `part_bytes`, these bytes of s

    pub part_is : take d.part.length (drop d.part.offset s) ≡ better_steps p q d.part.better
    part_is = Finals.final_records s bytes n p q start middle files kept d is

    -- and where they stand: which file, offset and length
    pub part_at : StandsAt start middle p q d.part
    part_at = Finals.final_stands s bytes n p q start middle files kept d is

    -- ---- "VALID beats the rest, then the lower cost; an equal cost goes to the first file."

    pub better_is : (a b : Mark) → Marked (net_of n) (steps_of p) a → Marked (net_of n) (steps_of q) b → (w : Better) → (d.part.better ≡ w) ↔ BetterBy a b w
    better_is a b x y w =
        let told = Finals.final_better s bytes n p q start middle files kept d is a b x y in (λ e. subst (BetterBy a b) e told, λ other. better_only told other)

    -- ---- "If neither is valid, the part is the first file's, empty.": at its first step

    pub neither_empty : d.part.better ≡ Neither → (d.part.offset ≡ start + 6) × (d.part.length ≡ 0)
    neither_empty = Finals.final_empty s bytes n p q start middle files kept d is

-- the same of files lent apart
module _ (network first second : List ℕ) (bytes : Bytes network) (n : Network) (p q : Plan) (files : FilesOf network first second n p q) (kept : Answered (net_of n) (Ok tt)) where
  pub apart_decided_one : (d : Decided) × (files_for network first second ≡ Ok d)
  apart_decided_one = Finals.files_accept network first second bytes n p q files kept

  pub apart_in_order : files_text network first second ≡ mark_text (network ++ first) ++ mark_text (network ++ second)
  apart_in_order =
      Finals.marks_printed (files_for network first second) apart_decided_one.0 apart_decided_one.1 (network ++ first) (network ++ second)
      (Finals.files_marks network first second bytes n p q files kept apart_decided_one.0 apart_decided_one.1)

  module _ (d : Decided) (is : files_for network first second ≡ Ok d) where
    pub apart_first_mark : d.marks.first ≡ mark_for (network ++ first)
    apart_first_mark = (Finals.files_marks network first second bytes n p q files kept d is).first_mark

    pub apart_second_mark : d.marks.second ≡ mark_for (network ++ second)
    apart_second_mark = (Finals.files_marks network first second bytes n p q files kept d is).second_mark

    -- by the contract of `better_part`, `better_part first second` of the better file is handed back: the records of its plan's steps, which stand at the part's offset
    pub apart_part_is : Bytes first → Bytes second → better_part first second d.part.better ≡ better_steps p q d.part.better
    apart_part_is = Finals.files_records network first second bytes n p q files kept d is

    pub apart_part_bytes : (w : Better) → w ≡ d.part.better → take d.part.length (drop d.part.offset (file_of first second w)) ≡ better_part first second w
    apart_part_bytes = Finals.files_part network first second bytes n p q files kept d is

    pub apart_part_at : StandsAt 0 0 p q d.part
    apart_part_at = Finals.files_stand network first second bytes n p q files kept d is

    pub apart_better_is : (a b : Mark) → Marked (net_of n) (steps_of p) a → Marked (net_of n) (steps_of q) b → (w : Better) → (d.part.better ≡ w) ↔ BetterBy a b w
    apart_better_is a b x y w =
        let told = Finals.files_better network first second bytes n p q files kept d is a b x y in (λ e. subst (BetterBy a b) e told, λ other. better_only told other)

    pub apart_neither_empty : d.part.better ≡ Neither → (d.part.offset ≡ 6) × (d.part.length ≡ 0)
    apart_neither_empty = Finals.files_empty network first second bytes n p q files kept d is

-- ---- "Both files keep their own refusals, the first file's checked before the second's, and places count on through network, first and second file."

-- one REFUSED line exactly for the first rule that is broken, with its place; nothing else is printed then
pub refused_exactly : (s : List ℕ) → Bytes s → (f : Refusal) → (final_text s ≡ refused_line f) ↔ FirstRuleFinal (StatesFinal s) (FirstBrokenFinal s) f
refused_exactly = Finals.final_printed

pub apart_refused_exactly : (network first second : List ℕ) → Bytes network → (f : Refusal)
    → (files_text network first second ≡ refused_line f) ↔ FirstRuleFinal (FilesOf network first second) (FirstBrokenFiles network first second) f
apart_refused_exactly = Finals.files_printed

-- and so is the answer that the library gives
pub answer_exactly : (s : List ℕ) → Bytes s → (f : Refusal) → (final_for s ≡ Err f) ↔ FirstRuleFinal (StatesFinal s) (FirstBrokenFinal s) f
answer_exactly = final_refused_exactly

pub apart_answer_exactly : (network first second : List ℕ) → Bytes network → (f : Refusal)
    → (files_for network first second ≡ Err f) ↔ FirstRuleFinal (FilesOf network first second) (FirstBrokenFiles network first second) f
apart_answer_exactly = files_refused_exactly

-- "A refusal hands out no plan, mark or partial network."
pub refused_hands_nothing : (s : List ℕ) (f : Refusal) → final_for s ≡ Err f → (d : Decided) → ¬ (final_for s ≡ Ok d)
refused_hands_nothing s = Finals.nothing_decided (final_for s)

pub apart_refused_hands_nothing : (network first second : List ℕ) (f : Refusal) → files_for network first second ≡ Err f → (d : Decided)
    → ¬ (files_for network first second ≡ Ok d)
apart_refused_hands_nothing network first second = Finals.nothing_decided (files_for network first second)

-- and of the nine values of a final a host is handed the rule, the place and seven zeros
pub refused_values : (s : List ℕ) (f : Refusal) → final_for s ≡ Err f
    → final_values (final_for s) ≡ rule_number f.rule ∷ f.place ∷ 0 ∷ 0 ∷ 0 ∷ 0 ∷ 0 ∷ 0 ∷ 0 ∷ []
unfolding final_values
refused_values s f e = ap final_values e

pub apart_refused_values : (network first second : List ℕ) (f : Refusal) → files_for network first second ≡ Err f
    → final_values (files_for network first second) ≡ rule_number f.rule ∷ f.place ∷ 0 ∷ 0 ∷ 0 ∷ 0 ∷ 0 ∷ 0 ∷ 0 ∷ []
unfolding final_values
apart_refused_values network first second f e = ap final_values e

-- ---- "Rules 14 to 18 come after both;"

pub network_after_both : (s : List ℕ) → Bytes s → (n : Network) (p q : Plan) (start middle : ℕ) → FinalOf s n p q start middle → (f : Refusal)
    → Answered (net_of n) (Err f) → final_text s ≡ refused_line f
network_after_both s bytes n p q start middle files f broken = (refused_exactly s bytes f).1 (in_network n p q (start, middle, files) broken)

pub files_before_network : (s : List ℕ) → Bytes s → (f : Refusal) → FirstBrokenFinal s f → final_text s ≡ refused_line f
files_before_network s bytes f broken = (refused_exactly s bytes f).1 (in_files broken)

pub apart_network_after_both : (network first second : List ℕ) → Bytes network → (n : Network) (p q : Plan) → FilesOf network first second n p q → (f : Refusal)
    → Answered (net_of n) (Err f) → files_text network first second ≡ refused_line f
apart_network_after_both network first second bytes n p q files f broken = (apart_refused_exactly network first second bytes f).1 (in_network n p q files broken)

pub apart_files_before_network : (network first second : List ℕ) → Bytes network → (f : Refusal) → FirstBrokenFiles network first second f
    → files_text network first second ≡ refused_line f
apart_files_before_network network first second bytes f broken = (apart_refused_exactly network first second bytes f).1 (in_files broken)

-- ---- "files lent apart each meet rule 13."

module _ (network first second : List ℕ) (bytes : Bytes network) (end : ℕ) where
  pub network_meets_13 : NetworkStands network end → end < length network → files_text network first second ≡ refused_line (record { rule = ByteAfterEnd; place = end })
  network_meets_13 stands behind = (apart_refused_exactly network first second bytes _).1 (in_files (in_network_file (Files.behind stands behind)))

  module _ (keeps : KeepsNetwork network) where
    pub first_meets_13 : Stand first (word network 4) (word network 6) (plan_stages (word first 4)) 0 end → end < length first
        → files_text network first second ≡ refused_line (record { rule = ByteAfterEnd; place = length network + end })
    first_meets_13 stands behind = (apart_refused_exactly network first second bytes _).1 (in_files (in_first_file keeps (behind_plan_file stands behind)))

    pub second_meets_13 : KeepsPlan first (word network 4) (word network 6) → Stand second (word network 4) (word network 6) (plan_stages (word second 4)) 0 end
        → end < length second → files_text network first second ≡ refused_line (record { rule = ByteAfterEnd; place = length network + length first + end })
    second_meets_13 kept stands behind = (apart_refused_exactly network first second bytes _).1 (in_files (in_second_file keeps kept (behind_plan_file stands behind)))

-- where network and first file, lent apart, keep their rules, the reply is that of the one input made of the three, whatever the second is
pub same_reply : (network first second : List ℕ) → KeepsNetwork network → KeepsPlan first (word network 4) (word network 6)
    → files_text network first second ≡ final_text (network ++ first ++ second)
unfolding files_for final_for
same_reply network first second keeps kept =
    ap (λ (o : Reading FinalRead). decided_lines (decided_read (final_read o))) (kept_same_reply network first second keeps kept)
    ∙ ap final_lines (sym (Finals.in_input_marks (final_read (final_input (network ++ first ++ second)))))

-- with the same refusal, or the same marks, better file and length of its part
pub same_decided : (network first second : List ℕ) → KeepsNetwork network → KeepsPlan first (word network 4) (word network 6)
    → (marks_of (files_for network first second) ≡ marks_of (final_for (network ++ first ++ second)))
    × ((d e : Decided) → files_for network first second ≡ Ok d → final_for (network ++ first ++ second) ≡ Ok e
    → (d.part.better ≡ e.part.better) × (d.part.length ≡ e.part.length))
unfolding files_for final_for
same_decided network first second keeps kept =
    let same = kept_same_reply network first second keeps kept in
    let one = final_read (final_input (network ++ first ++ second)) in (
      ap (λ (o : Reading FinalRead). marks_of (decided_read (final_read o))) same ∙ sym (Finals.in_input_marks one),
      λ d e is other. Finals.in_input_part one d e (sym (ap (λ (o : Reading FinalRead). decided_read (final_read o)) same) ∙ is) other,
    )

-- ---- item 1: "the first 8,192 bytes decide, here and in all later items but 14."

pub final_bytes_decide : (s : List ℕ) → final_for (take 8192 s) ≡ final_for s
unfolding final_for
final_bytes_decide s = ap (λ (o : Reading FinalRead). decided_in_input (final_read o)) (final_decided 8192 (omega arith) s)

-- so many of each file, where they are lent apart
pub files_bytes_decide : (network first second : List ℕ) → files_for (take 8192 network) (take 8192 first) (take 8192 second) ≡ files_for network first second
unfolding files_for
files_bytes_decide network first second = ap (λ (o : Reading FinalRead). decided_read (final_read o)) (files_decided 8192 (omega arith) network first second)

-- and at most 6,352 are accepted
pub final_at_most : (s : List ℕ) (n : Network) (p q : Plan) (start middle : ℕ) → FinalOf s n p q start middle → length s ≤ 6352
final_at_most s n p q start middle files = let x = final_stated s n p q start middle files in final_most s (length s) x.0 _ x.1

pub files_at_most : (network first second : List ℕ) (n : Network) (p q : Plan) → FilesOf network first second n p q → length network + length first + length second ≤ 6352
files_at_most network first second n p q files = let x = files_stated network first second n p q files in files_most network first second _ x.0 _ x.1

-- A record that looks at the same bytes elsewhere is found alike there: its rules read no word outside it, and rule 4 looks as far as its length only where rules 1 to 3 are kept.
-- Assumes nothing.
use mathlib.Core.Path.{◌≡◌, refl, sym, ap, ◌∙◌}
use mathlib.Core.Bool.{Bool, true, false, not}
use mathlib.Core.List.{List}
use Prim.Native.Nat.{ℕ, ◌+◌, ◌-◌, ◌≤◌}
use native.Mathlib.Omega.{arith}
use lib.Dec.{eqb, ltb}
use lib.ListN.{length}
use borrow.Author.Tests.{le-ltb, eq-eqb, eqb-true}
use Rattle.std.specs.Prelude.{Result, Ok, Err}
use Rattle.network.specs.declared.refusal.Refusal.{Refusal}
use Rattle.network.specs.declared.refusal.Rule.{Rule}
use Rattle.file_records.specs.declared.Record.{Record}
use Rattle.network.specs.declared.refusal.Rule.TheVariants.{RecordMissing, KindOutOfPlace, WrongLength, RecordCutOff}
use Rattle.file_stages.specs.declared.Stage.{Stage}
use Rattle.network.specs.Refusals.{pick, first_broken}
use Rattle.file_stages.specs.Stages.{next_stage}
use Rattle.file_fields.specs.Views.{Seen}
use Rattle.file_fields.specs.Fields.{word, length_of, head_rules, flags_rules, plain_link_rules, guard_rules, link_rules, plan_head_rules, step_rules, field_rules}
use Rattle.file_records.specs.Records.{length_field, kind_field, is_refused, found_by, frame_rules, frame_rules_by, record_rules, record_rules_by, record_at, due_at, due_by}
use Rattle.network.proofs.FirstBroken.{else_first, first_append}
use Rattle.file_records.proofs.Due.{Framed, longest, of_kind, goes_one_way, not_refused, length_at, frame_kept}
use Rattle.file_records.proofs.SameBytes.{SameFrom, first_word, left_same}

-- How far a record is looked at.

-- rules 1 to 3 are kept
unfoldable pub length_known : List ℕ → ℕ → Stage → Bool
length_known s at stage =
    pick (ltb (length s - at) 4) false
    (pick (is_refused (next_stage stage (kind_field s at))) false (eqb (length_field s at) (length_of (kind_field s at))))

-- how many bytes from its first on are looked at for one record: its length where that is the kind's, else the four of rule 1
unfoldable pub looks_at : List ℕ → ℕ → Stage → ℕ
looks_at s at stage = pick (length_known s at stage) (length_field s at) 4

-- a record that is found is looked at as a whole
pub framed_looks : (s : List ℕ) (at : ℕ) (stage : Stage) (kind long : ℕ) (next : Stage) → Framed s at stage kind long next → looks_at s at stage ≡ long
unfolding looks_at length_known
framed_looks s at stage kind long next f =
    simp (le-ltb (length s - at) 4 (omega (arith, f.fits, f.least)), ← f.kind_is, f.goes, ← f.long_is, eq-eqb long (length_of kind) f.long_of)

known_kept : (c d e : Bool) → pick c false (pick d false e) ≡ true → (d ≡ false) × (e ≡ true)
known_kept true d e h = let z : ◌≡◌ {A = ℕ} 0 1 = cc in absurd (omega arith)
known_kept false true e h = let z : ◌≡◌ {A = ℕ} 0 1 = cc in absurd (omega arith)
known_kept false false e h = (refl, h)

-- a length that is known is within the bounds of its stage
known_bounds : (s : List ℕ) (at : ℕ) (stage : Stage) → length_known s at stage ≡ true → (4 ≤ length_field s at) × (length_field s at ≤ longest stage)
unfolding length_known
known_bounds s at stage h =
    let k = known_kept (ltb (length s - at) 4) (is_refused (next_stage stage (kind_field s at))) _ h in
    let one = goes_one_way stage (kind_field s at) _ (not_refused (next_stage stage (kind_field s at)) stage k.0) in
    let bounds = length_at stage (kind_field s at) one.0 in
    let long : length_field s at ≡ length_of (kind_field s at) = eqb-true _ _ k.1 in
    (omega (arith, bounds.0), omega (arith, bounds.2))

pick_by : {A : Type 0} (P : A → Type 0) (c : Bool) (x y : A) → (c ≡ true → P x) → P y → P (pick c x y)
pick_by P true x y h k = h refl
pick_by P false x y h k = k

looks_four : (s : List ℕ) (at : ℕ) (stage : Stage) → 4 ≤ looks_at s at stage
unfolding looks_at
looks_four s at stage =
    pick_by (λ (n : ℕ). 4 ≤ n) (length_known s at stage) (length_field s at) 4 (λ h. (known_bounds s at stage h).0) (omega arith)

pub looks_longest : (s : List ℕ) (at : ℕ) (stage : Stage) → 4 ≤ longest stage → looks_at s at stage ≤ longest stage
unfolding looks_at
looks_longest s at stage four =
    pick_by (λ (n : ℕ). n ≤ longest stage) (length_known s at stage) (length_field s at) 4 (λ h. (known_bounds s at stage h).1) four

-- Rules 5 to 12 and 20 read no word outside the record.

pub fields_alike :
    (s t : List ℕ) (at at' kind : ℕ) (seen : Seen) →
    ((i : ℕ) → i + 2 ≤ length_of kind → word s (at + i) ≡ word t (at' + i)) →
    field_rules s at kind seen ≡ field_rules t at' kind seen
unfolding field_rules head_rules flags_rules link_rules plain_link_rules guard_rules plan_head_rules step_rules length_of
fields_alike s t at at' kind seen =
    let Same : ℕ → Type 0 =
    λ k.
    ((i : ℕ) → i + 2 ≤ length_of k → word s (at + i) ≡ word t (at' + i)) → field_rules s at k seen ≡ field_rules t at' k seen in
    of_kind Same kind 1 (λ w. rw (w 4 (omega arith), w 6 (omega arith)))
    (λ e1.
    of_kind Same kind 2 (λ w. rw (w 8 (omega arith)))
    (λ e2.
    of_kind Same kind 3 (λ w. rw (w 4 (omega arith), w 6 (omega arith), w 8 (omega arith), w 10 (omega arith)))
    (λ e3.
    of_kind Same kind 5 (λ w. rw (w 4 (omega arith)))
    (λ e5.
    of_kind Same kind 6 (λ w. rw (w 4 (omega arith), w 6 (omega arith)))
    (λ e6.
    of_kind Same kind 7 (λ w. rw (w 12 (omega arith)))
    (λ e7.
    of_kind Same kind 8
    (λ w. rw (w 4 (omega arith), w 6 (omega arith), w 8 (omega arith), w 10 (omega arith), w 12 (omega arith)))
    (λ e8 w. rw (e1, e2, e3, e5, e6, e7, e8))))))))

-- One record, due at two places.

-- the same find at another place
abbrev pub placed : ℕ → Result Record Refusal → Result Record Refusal
placed at (Ok r) = Ok r
placed at (Err r) = Err (record { rule = r.rule; place = at })

-- a test behind three others matters only where those let it come to that
behind_three :
    (c d e f f' : Bool) (w x y z : Result Unit Rule) →
    (pick c false (pick d false e) ≡ true → f ≡ f') →
    pick c w (pick d x (pick (not e) y (pick f z (Ok tt)))) ≡ pick c w (pick d x (pick (not e) y (pick f' z (Ok tt))))
behind_three true d e f f' w x y z h = refl
behind_three false true e f f' w x y z h = refl
behind_three false false true f f' w x y z h = ap (λ (q : Bool). pick q z (Ok tt)) (h refl)
behind_three false false false f f' w x y z h = refl

or_else_same : (u v w : Result Unit Rule) → (u ≡ Ok tt → v ≡ w) → else_first u v ≡ else_first u w
or_else_same (Ok t) v w h = h refl
or_else_same (Err r) v w h = refl

module _ (s t : List ℕ) (at at' upto : ℕ) (stage : Stage) (same : SameFrom s t at at' upto) (far : at + looks_at s at stage ≤ upto) where
  four : at + 4 ≤ upto
  four = omega (arith, looks_four s at stage)

  frame_alike : first_broken (frame_rules s at stage) ≡ first_broken (frame_rules t at' stage)
  unfolding frame_rules_by looks_at length_known
  frame_alike =
      rw (← first_word same (omega (arith, four)), ← same.words 2 (omega (arith, four)), ← left_same same 4 four)
      (behind_three (ltb (length s - at) 4) (is_refused (next_stage stage (kind_field s at))) (eqb (length_field s at) (length_of (kind_field s at)))
      (ltb (length s - at) (length_field s at)) (ltb (length t - at') (length_field s at))
      (Err RecordMissing) (Err KindOutOfPlace) (Err WrongLength) (Err RecordCutOff)
      (λ h. left_same same (length_field s at) (rw h at far)))

  verdict_alike : (seen : Seen) → first_broken (record_rules s seen at stage) ≡ first_broken (record_rules t seen at' stage)
  unfolding record_rules_by record_at
  verdict_alike seen =
      first_append (frame_rules s at stage) (field_rules s at (kind_field s at) seen) ∙
      or_else_same (first_broken (frame_rules s at stage)) _ _
      (λ kept.
      let f = frame_kept s at stage (ap (found_by s at stage) kept) in
      let long = framed_looks s at stage _ _ _ f in
      ap first_broken
      (fields_alike s t at at' (kind_field s at) seen (λ i h. same.words i (omega (arith, f.long_of, far))) ∙
      ap (λ (k : ℕ). field_rules t at' k seen) (same.words 2 (omega (arith, four))))) ∙
      ap (λ (v : Result Unit Rule). else_first v (first_broken (field_rules t at' (kind_field t at') seen))) frame_alike ∙
      sym (first_append (frame_rules t at' stage) (field_rules t at' (kind_field t at') seen))

  found_alike : (v : Result Unit Rule) → found_by t at' stage v ≡ placed at' (found_by s at stage v)
  found_alike (Ok t) = rw (first_word same (omega (arith, four)), same.words 2 (omega (arith, four)))
  found_alike (Err r) = refl

  -- where the bytes are the same as far as the record looks, the same is found
  pub due_alike : (seen : Seen) → due_at t seen at' stage ≡ placed at' (due_at s seen at stage)
  unfolding due_by
  due_alike seen =
      ap (found_by t at' stage) (sym (verdict_alike seen)) ∙ found_alike (first_broken (record_rules s seen at stage))

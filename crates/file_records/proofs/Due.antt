-- What `record_at` and `due_at` promise of the record they find or refuse: each test of its rules is false, and the stage decides which kinds may come and how long they are.
-- Assumes nothing.
use mathlib.Core.Path.{◌≡◌, refl, sym, ap, subst, ◌∙◌}
use mathlib.Core.Bool.{Bool, true, false, not, ◌&&◌}
use mathlib.Core.List.{List}
use mathlib.Core.Logic.{◌⊎◌, inl, inr}
use Prim.Native.Nat.{ℕ, ◌+◌, ◌-◌, ◌<◌, ◌≤◌}
use native.Mathlib.Omega.{arith}
use lib.Dec.{eqb, ltb, leb}
use lib.ListN.{length, get_or}
use borrow.Author.Tests.{ltb-false, leb-false, eqb-true, eqb-false, not-false}
use Rattle.std.specs.Prelude.{Result, Ok, Err, Option, Some, None}
use Rattle.network.specs.declared.refusal.Refusal.{Refusal}
use Rattle.network.specs.declared.refusal.Rule.{Rule}
use Rattle.file_records.specs.declared.Record.{Record}
use Rattle.file_stages.specs.declared.Stage.{Stage}
use Rattle.file_stages.specs.declared.Stage.TheVariants.{Head, Elements, Links, End, PlanHead, Steps, PlanEnd, Over}
use Rattle.network.specs.Refusals.{first_broken}
pub use Rattle.network.proofs.FirstBroken.{else_first, first_append, AllKept, all_kept, first_append_kept}
use Rattle.file_stages.specs.Stages.{goes_to, next_stage, pick as Next·pick}
use Rattle.network.specs.Accepted.{suits}
use Rattle.file_fields.specs.Views.{Seen}
use Rattle.file_fields.specs.Fields.{word, length_of, either, head_rules, flags_rules, unknown_form, plain_link_rules, guard_rules, link_rules, plan_head_rules, step_rules, field_rules}
use Rattle.file_records.specs.Records.{length_field, kind_field, is_refused, named, found_by, frame_rules, frame_rules_by, record_rules, record_rules_by, record_at, due_at, due_by, recorded}

pub either_false : (a b : Bool) → either a b ≡ false → (a ≡ false) × (b ≡ false)
either_false true b h = let z : ◌≡◌ {A = ℕ} 0 1 = cc in absurd (omega arith)
either_false false b h = (refl, h)

-- What may come at each stage: its kinds, and the stage that all of them lead to. A second kind at a stage is a second way in `KindAt`.

abbrev pub KindAt : Stage → ℕ → Type 0
KindAt Head k = k ≡ 1
KindAt Elements k = (k ≡ 2) ⊎ (k ≡ 7)
KindAt Links k = (k ≡ 3) ⊎ (k ≡ 8)
KindAt End k = k ≡ 4
KindAt PlanHead k = k ≡ 5
KindAt Steps k = k ≡ 6
KindAt PlanEnd k = k ≡ 4
KindAt Over k = ⊥

abbrev pub next_at : Stage → Stage
next_at Head = Elements
next_at Elements = Elements
next_at Links = Links
next_at End = PlanHead
next_at PlanHead = Steps
next_at Steps = Steps
next_at PlanEnd = Over
next_at Over = Over

-- the least and the largest length of the kinds at a stage

abbrev pub shortest : Stage → ℕ
shortest Head = 8
shortest Elements = 10
shortest Links = 12
shortest End = 4
shortest PlanHead = 6
shortest Steps = 8
shortest PlanEnd = 4
shortest Over = 0

abbrev pub longest : Stage → ℕ
longest Head = 8
longest Elements = 14
longest Links = 14
longest End = 4
longest PlanHead = 6
longest Steps = 8
longest PlanEnd = 4
longest Over = 0

leads_go : (t : Bool) (st next : Stage) → goes_to t st ≡ Some next → (t ≡ true) × (next ≡ st)
leads_go true st next h = (refl, cc)
leads_go false st next h = let z : ◌≡◌ {A = ℕ} 0 1 = cc in absurd (omega arith)

leads_one : (k n : ℕ) (st next : Stage) → goes_to (eqb k n) st ≡ Some next → (k ≡ n) × (next ≡ st)
leads_one k n st next h = let l = leads_go (eqb k n) st next h in (eqb-true k n l.0, l.1)

leads_two : (k m n : ℕ) (st next : Stage) → Next·pick (eqb k n) (Some st) (goes_to (eqb k m) st) ≡ Some next → ((k ≡ m) ⊎ (k ≡ n)) × (next ≡ st)
leads_two k m n st next h = one_of (eqb k n) refl h
  where
    one_of : (t : Bool) → eqb k n ≡ t → Next·pick t (Some st) (goes_to (eqb k m) st) ≡ Some next → ((k ≡ m) ⊎ (k ≡ n)) × (next ≡ st)
    one_of true e h = (inr (eqb-true k n e), cc)
    one_of false e h = let l = leads_one k m st next h in (inl l.0, l.1)

pub goes_one_way : (st : Stage) (k : ℕ) (next : Stage) → next_stage st k ≡ Some next → KindAt st k × (next ≡ next_at st)
unfolding next_stage
goes_one_way Head k next h = leads_one k 1 Elements next h
goes_one_way Elements k next h = leads_two k 2 7 Elements next h
goes_one_way Links k next h = leads_two k 3 8 Links next h
goes_one_way End k next h = leads_one k 4 PlanHead next h
goes_one_way PlanHead k next h = leads_one k 5 Steps next h
goes_one_way Steps k next h = leads_one k 6 Steps next h
goes_one_way PlanEnd k next h = leads_one k 4 Over next h
goes_one_way Over k next h = let z : ◌≡◌ {A = ℕ} 0 1 = cc in absurd (omega arith)

-- by cases on the kind: of this kind, or of another
pub of_kind : (P : ℕ → Type 0) (kind k : ℕ) → P k → (eqb kind k ≡ false → P kind) → P kind
of_kind P kind k this other = go (eqb kind k) refl
  where
    go : (t : Bool) → eqb kind k ≡ t → P kind
    go true e = rw (eqb-true kind k e) this
    go false e = other e

-- how long a record at a stage is: at least an end record, and within the stage's bounds
abbrev pub LengthAt : Stage → ℕ → Type 0
LengthAt st long = (4 ≤ long) × (shortest st ≤ long) × (long ≤ longest st)

pub length_at : (st : Stage) (k : ℕ) → KindAt st k → LengthAt st (length_of k)
unfolding length_of
length_at Head k e = rw e (omega arith)
length_at Elements k (inl e) = rw e (omega arith)
length_at Elements k (inr e) = rw e (omega arith)
length_at Links k (inl e) = rw e (omega arith)
length_at Links k (inr e) = rw e (omega arith)
length_at End k e = rw e (omega arith)
length_at PlanHead k e = rw e (omega arith)
length_at Steps k e = rw e (omega arith)
length_at PlanEnd k e = rw e (omega arith)
length_at Over k e = absurd e

-- What rules 1 to 4 promise of a record.
pub record Framed (s : List ℕ) (at : ℕ) (stage : Stage) (kind long : ℕ) (next : Stage) : Type 0 where
  pub kind_is : kind ≡ kind_field s at
  pub long_is : long ≡ length_field s at
  pub long_of : long ≡ length_of kind
  pub goes : next_stage stage kind ≡ Some next
  pub fits : at + long ≤ length s
  pub least : 4 ≤ long
  pub enough : shortest stage ≤ long
  pub most : long ≤ longest stage
  pub next_at_lem : next ≡ next_at stage

-- What rules 1 to 12 and 20 promise: the tests of rules 5 to 12 and 20 that speak of the record's kind are false too.
pub record Whole (s : List ℕ) (seen : Seen) (at : ℕ) (stage : Stage) (kind long : ℕ) (next : Stage) : Type 0 where
  pub framed : Framed s at stage kind long next
  pub kept : first_broken (record_rules s seen at stage) ≡ Ok tt
  pub fields : AllKept (field_rules s at kind seen)

-- what a record that is found says
abbrev kind_of : Result Record Refusal → ℕ
kind_of (Ok r) = r.kind
kind_of (Err r) = 0

abbrev long_of : Result Record Refusal → ℕ
long_of (Ok r) = r.length
long_of (Err r) = 0

abbrev next_of : Result Record Refusal → Stage
next_of (Ok r) = r.next
next_of (Err r) = Head

found_kept :
    (s : List ℕ) (at : ℕ) (stage : Stage) (v : Result Unit Rule) (kind long : ℕ) (next : Stage) →
    found_by s at stage v ≡ recorded kind long next →
    (v ≡ Ok tt) × (kind_field s at ≡ kind) × (length_field s at ≡ long) × (named (next_stage stage (kind_field s at)) stage ≡ next)
found_kept s at stage (Ok t) kind long next h = (refl, ap kind_of h, ap long_of h, ap next_of h)
found_kept s at stage (Err r) kind long next h = let z : ◌≡◌ {A = ℕ} 0 1 = cc in absurd (omega arith)

found_refused :
    (s : List ℕ) (at : ℕ) (stage : Stage) (v : Result Unit Rule) (r : Refusal) →
    found_by s at stage v ≡ Err r →
    (v ≡ Err r.rule) × (r.place ≡ at)
found_refused s at stage (Ok t) r h = let z : ◌≡◌ {A = ℕ} 0 1 = cc in absurd (omega arith)
found_refused s at stage (Err x) r h =
    let q : ◌≡◌ {A = Refusal} (record { rule = x; place = at }) r = cc in
    (ap Err (ap (λ (y : Refusal). y.rule) q), sym (ap (λ (y : Refusal). y.place) q))

pub not_refused : (n : Option Stage) (other : Stage) → is_refused n ≡ false → n ≡ Some (named n other)
not_refused (Some st) other h = refl
not_refused None other h = let z : ◌≡◌ {A = ℕ} 0 1 = cc in absurd (omega arith)

framed_of :
    (s : List ℕ) (at : ℕ) (stage : Stage) (kind long : ℕ) (next : Stage) →
    AllKept (frame_rules s at stage) →
    kind_field s at ≡ kind →
    length_field s at ≡ long →
    named (next_stage stage (kind_field s at)) stage ≡ next →
    Framed s at stage kind long next
unfolding frame_rules_by
framed_of s at stage kind long next h hk hl hn =
    let goes : next_stage stage kind ≡ Some next = cc (not_refused (next_stage stage (kind_field s at)) stage h.1.0) in
    let one = goes_one_way stage kind next goes in
    let right : length_field s at ≡ length_of (kind_field s at) = eqb-true _ _ (not-false _ h.1.1.0) in
    let long_of : long ≡ length_of kind = cc in
    let bounds : LengthAt stage long = rw long_of (length_at stage kind one.0) in
    let enough : length_field s at ≤ length s - at = ltb-false (length s - at) (length_field s at) h.1.1.1.0 in
    record {
      kind_is = sym hk;
      long_is = sym hl;
      long_of = long_of;
      goes = goes;
      fits = omega (arith, bounds.0);
      least = bounds.0;
      enough = bounds.1;
      most = bounds.2;
      next_at_lem = one.1;
    }

module _ (s : List ℕ) (at : ℕ) (stage : Stage) where
  pub frame_kept : {kind long : ℕ} {next : Stage} → record_at s at stage ≡ recorded kind long next → Framed s at stage kind long next
  unfolding record_at
  frame_kept {kind} {long} {next} h =
      let f = found_kept s at stage (first_broken (frame_rules s at stage)) kind long next h in
      framed_of s at stage kind long next (all_kept (frame_rules s at stage) f.0) f.1 f.2 f.3

  pub frame_refused :
      {r : Refusal} → record_at s at stage ≡ Err r → (first_broken (frame_rules s at stage) ≡ Err r.rule) × (r.place ≡ at)
  unfolding record_at
  frame_refused {r} h = found_refused s at stage (first_broken (frame_rules s at stage)) r h

module _ (s : List ℕ) (seen : Seen) (at : ℕ) (stage : Stage) where
  pub due_kept : {kind long : ℕ} {next : Stage} → due_at s seen at stage ≡ recorded kind long next → Whole s seen at stage kind long
      next
  unfolding due_by record_rules_by
  due_kept {kind} {long} {next} h =
      let f = found_kept s at stage (first_broken (record_rules s seen at stage)) kind long next h in
      let both = first_append_kept (frame_rules s at stage) (field_rules s at (kind_field s at) seen) f.0 in
      let frame = framed_of s at stage kind long next (all_kept (frame_rules s at stage) both.0) f.1 f.2 f.3 in
      record {
        framed = frame;
        kept = f.0;
        fields =
            subst (λ (k : ℕ). AllKept (field_rules s at k seen)) f.1
            (all_kept (field_rules s at (kind_field s at) seen) both.1);
      }

  pub due_refused :
      {r : Refusal} →
      due_at s seen at stage ≡ Err r →
      (first_broken (record_rules s seen at stage) ≡ Err r.rule) × (r.place ≡ at)
  unfolding due_by
  due_refused {r} h = found_refused s at stage (first_broken (record_rules s seen at stage)) r h

  -- `due_at` is `record_at`, then the rules of the kind
  pub due_frame_refused : (r : Refusal) → record_at s at stage ≡ Err r → due_at s seen at stage ≡ Err r
  unfolding record_at due_by record_rules_by
  due_frame_refused r h =
      let f = found_refused s at stage (first_broken (frame_rules s at stage)) r h in
      ap (found_by s at stage)
      (first_append (frame_rules s at stage) (field_rules s at (kind_field s at) seen) ∙
      ap (λ (v : Result Unit Rule). else_first v (first_broken (field_rules s at (kind_field s at) seen))) f.0) ∙
      ap (λ (p : ℕ). Err (record { rule = r.rule; place = p })) (sym f.1)

  pub due_fields :
      (kind long : ℕ) (next : Stage) →
      record_at s at stage ≡ recorded kind long next →
      due_at s seen at stage ≡ found_by s at stage (first_broken (field_rules s at kind seen))
  unfolding record_at due_by record_rules_by
  due_fields kind long next h =
      let f = found_kept s at stage (first_broken (frame_rules s at stage)) kind long next h in
      ap (found_by s at stage)
      (first_append (frame_rules s at stage) (field_rules s at (kind_field s at) seen) ∙
      ap (λ (v : Result Unit Rule). else_first v (first_broken (field_rules s at (kind_field s at) seen))) f.0 ∙
      ap (λ (k : ℕ). first_broken (field_rules s at k seen)) f.1)

  pub due_fields_kept :
      (kind long : ℕ) (next : Stage) →
      record_at s at stage ≡ recorded kind long next →
      first_broken (field_rules s at kind seen) ≡ Ok tt →
      due_at s seen at stage ≡ recorded kind long next
  unfolding record_at
  due_fields_kept kind long next h e =
      let f = found_kept s at stage (first_broken (frame_rules s at stage)) kind long next h in
      due_fields kind long next h ∙ ap (found_by s at stage) (e ∙ sym f.0) ∙ h

  pub due_fields_broken :
      (kind long : ℕ) (next : Stage) (r : Rule) →
      record_at s at stage ≡ recorded kind long next →
      first_broken (field_rules s at kind seen) ≡ Err r →
      due_at s seen at stage ≡ Err (record { rule = r; place = at })
  due_fields_broken kind long next r h e = due_fields kind long next h ∙ ap (found_by s at stage) e

-- a record that breaks no rule is found
pub whole_found :
    {s : List ℕ} {seen : Seen} {at : ℕ} {stage : Stage} {kind long : ℕ} {next : Stage} →
    Whole s seen at stage kind long next →
    due_at s seen at stage ≡ recorded kind long next
unfolding due_by
whole_found {s} {seen} {at} {stage} {kind} {long} {next} w =
    let f = w.framed in
    let n : named (next_stage stage (kind_field s at)) stage ≡ next =
    ap (λ (k : ℕ). named (next_stage stage k) stage) (sym f.kind_is) ∙ ap (λ (x : Option Stage). named x stage) f.goes in
    let here : found_by s at stage (Ok tt) ≡ recorded kind long next = cc (f.kind_is, f.long_is, n) in
    ap (found_by s at stage) w.kept ∙ here

-- What rules 5 to 12 and 20 promise of a record: at each stage one of its kinds, and of each kind its own rules.

module _ {s : List ℕ} {seen : Seen} {at : ℕ} {stage : Stage} {kind long : ℕ} {next : Stage} where
  pub kind_there : Whole s seen at stage kind long next → KindAt stage kind
  kind_there w = (goes_one_way stage kind next w.framed.goes).0

  -- a record of a kind that is known
  pub as_kind : {k : ℕ} → kind ≡ k → Whole s seen at stage kind long next → Whole s seen at stage k long next
  as_kind e w = rw e at w

module _ {s : List ℕ} {seen : Seen} {at kind long : ℕ} {next : Stage} where
  pub head_kept :
      Whole s seen at Head kind long next →
      record { some : 1 ≤ word s (at + 4); elements_fit : word s (at + 4) ≤ 64; links_fit : word s (at + 6) ≤ 96 }
  unfolding field_rules head_rules
  head_kept w =
      let fields = (as_kind (kind_there w) w).fields in
      let t = either_false (eqb (word s (at + 4)) 0) (either (ltb 64 (word s (at + 4))) (ltb 96 (word s (at + 6)))) fields.0 in
      let u = either_false (ltb 64 (word s (at + 4))) (ltb 96 (word s (at + 6))) t.1 in
      let ne : (word s (at + 4) ≡ 0) → ⊥ = eqb-false (word s (at + 4)) 0 t.0 in
      record {
        some = omega arith;
        elements_fit = ltb-false 64 (word s (at + 4)) u.0;
        links_fit = ltb-false 96 (word s (at + 6)) u.1;
      }

  pub plan_head_kept : Whole s seen at PlanHead kind long next → word s (at + 4) ≤ 255
  unfolding field_rules plan_head_rules
  plan_head_kept w = ltb-false 255 (word s (at + 4)) (as_kind (kind_there w) w).fields.0

  pub step_kept :
      Whole s seen at Steps kind long next →
      record { link_in : word s (at + 4) < seen.links; state_in : word s (at + 6) ≤ 1 }
  unfolding field_rules step_rules
  step_kept w =
      let fields = (as_kind (kind_there w) w).fields in
      record {
        link_in = leb-false seen.links (word s (at + 4)) fields.0;
        state_in = ltb-false 1 (word s (at + 6)) fields.1.0;
      }

-- what rules 7 to 9 promise of a link of either kind
pub record LinkKept (s : List ℕ) (at elements : ℕ) : Type 0 where
  pub from_in : word s (at + 4) < elements
  pub to_in : word s (at + 6) < elements
  pub differ : word s (at + 4) ≡ word s (at + 6) → ⊥
  pub form_in : word s (at + 8) ≤ 2
  pub suited : suits (word s (at + 8)) (word s (at + 10)) ≡ true

-- what rules 8 and 20 promise of a guarded switch
pub record GuardKept (s : List ℕ) (at : ℕ) (seen : Seen) : Type 0 where
  pub switch : word s (at + 8) ≡ 0 → ⊥
  pub earlier : word s (at + 12) < seen.links
  pub guards : get_or seen.form (word s (at + 12)) 0 ≡ 0 → ⊥

link_by :
    (s : List ℕ) (at elements kind : ℕ) →
    either (leb elements (word s (at + 4))) (either (leb elements (word s (at + 6))) (eqb (word s (at + 4)) (word s (at + 6)))) ≡ false →
    unknown_form kind (word s (at + 8)) ≡ false →
    not (suits (word s (at + 8)) (word s (at + 10))) ≡ false →
    LinkKept s at elements
link_by s at elements kind ends form cost =
    let a = word s (at + 4) in
    let b = word s (at + 6) in
    let t = either_false (leb elements a) (either (leb elements b) (eqb a b)) ends in
    let u = either_false (leb elements b) (eqb a b) t.1 in
    record {
      from_in = leb-false elements a t.0;
      to_in = leb-false elements b u.0;
      differ = eqb-false a b u.1;
      form_in = ltb-false 2 (word s (at + 8)) (either_false (ltb 2 (word s (at + 8))) (eqb kind 8 && eqb (word s (at + 8)) 0) form).0;
      suited = not-false (suits (word s (at + 8)) (word s (at + 10))) cost;
    }

-- at the stages of elements and links, of each kind by itself
module _ {s : List ℕ} {seen : Seen} {at : ℕ} {stage : Stage} {long : ℕ} {next : Stage} where
  pub element_kept : Whole s seen at stage 2 long next → word s (at + 8) ≤ 3
  unfolding field_rules flags_rules
  element_kept w = ltb-false 3 (word s (at + 8)) w.fields.0

  pub wide_kept : Whole s seen at stage 7 long next → word s (at + 12) ≤ 3
  unfolding field_rules flags_rules
  wide_kept w = ltb-false 3 (word s (at + 12)) w.fields.0

  -- rules 7 to 9, and rule 8 of kind 8 with rule 20
  pub link_kept : Whole s seen at stage 3 long next → LinkKept s at seen.elements
  unfolding field_rules link_rules plain_link_rules
  link_kept w = link_by s at seen.elements 3 w.fields.0 w.fields.1.0 w.fields.1.1.0

  pub guarded_link_kept : Whole s seen at stage 8 long next → LinkKept s at seen.elements × GuardKept s at seen
  unfolding field_rules link_rules plain_link_rules guard_rules
  guarded_link_kept w =
      let form = word s (at + 8) in
      let guard = word s (at + 12) in
      let t = either_false (leb seen.links guard) (eqb (get_or seen.form guard 0) 0) w.fields.1.1.1.0 in (
        link_by s at seen.elements 8 w.fields.0 w.fields.1.0 w.fields.1.1.0,
        record {
          switch = eqb-false form 0 (either_false (ltb 2 form) (eqb form 0) w.fields.1.0).1;
          earlier = leb-false seen.links guard t.0;
          guards = eqb-false (get_or seen.form guard 0) 0 t.1;
        },
      )

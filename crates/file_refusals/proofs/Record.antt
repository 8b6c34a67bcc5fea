-- The record that is due: the reader's tests, one after the other, find the first rule that it breaks. Each test is shown to be its rule where the rules before it are kept, rule 20's by what is seen of the links before.
-- Assumes nothing.
use mathlib.Core.Path.{◌≡◌, refl, sym, ap, ap₂, subst, ◌∙◌}
use mathlib.Core.Bool.{Bool, true, false, not, ◌&&◌}
use mathlib.Core.List.{List, [], ◌∷◌, ◌++◌}
use mathlib.Core.Logic.{◌↔◌, ◌⊎◌, inl, inr, ⊎_elim}
use Prim.Native.Nat.{ℕ, ◌+◌, ◌-◌, ◌<◌, ◌≤◌}
use native.Mathlib.Omega.{arith}
use lib.Dec.{eqb, ltb, leb}
use lib.ListN.{length, get_or}
use borrow.Author.Tests.{ltb-true, ltb-false, leb-true, leb-false, eqb-true, eqb-false, not-false, eq-eqb}
use Rattle.std.specs.Prelude.{Result, Ok, Err, Option, Some, None}
use Rattle.file_records.specs.declared.Record.{Record}
use Rattle.network.specs.declared.refusal.Refusal.{Refusal}
use Rattle.network.specs.declared.refusal.Rule.{Rule}
use Rattle.network.specs.declared.refusal.Rule.TheVariants.{RecordMissing, KindOutOfPlace, WrongLength, RecordCutOff, HeadOutOfRange, UnknownFlags, BadEnds, UnknownForm, UnsuitedCost, TooManySteps, UnknownLink, UnknownState, ByteAfterEnd, NotATree, TwoSources, FaultWithSource, Overloaded, TooManyOperable, BufferTooShort, BadGuard}
use Rattle.file_stages.specs.declared.Stage.{Stage}
use Rattle.file_stages.specs.declared.Stage.TheVariants.{Head, Elements, Links, End, PlanHead, Steps, PlanEnd, Over}
use Rattle.file_stages.specs.Stages.{next_stage}
use Rattle.network.specs.Refusals.{position, Sooner, Check, check, pick, first_broken}
use Rattle.network.proofs.Order.{position_once}
use Rattle.network.specs.Accepted.{suits}
use Rattle.file_fields.specs.Views.{Seen}
use Rattle.file_fields.specs.Fields.{word, length_of, either, only, element_kind, flags_at, link_kind, unknown_form, bad_guard, head_rules, flags_rules, guard_rules, plain_link_rules, link_rules, plan_head_rules, step_rules, field_rules}
use Rattle.file_records.specs.Records.{length_field, kind_field, is_refused, named, frame_rules, frame_rules_by, record_rules, record_rules_by, due_at, recorded}
use Rattle.file_records.proofs.Due.{first_append, either_false, else_first, goes_one_way, due_kept, due_refused}
use Rattle.file_refusals.specs.Breaking.{ComesNext, behind_head, behind_element, behind_wide_element, behind_link, behind_guarded_link, behind_end, behind_plan_head, behind_step, behind_plan_end, MayCome, KindLength, network_head, element, link, end, plan_head, step, wide_element_lem, guarded_link, IsLink, InRange, CostSuits, BreaksRule, Keeps, BreaksFirst}
use Rattle.file_refusals.specs.Seeing.{SwitchSeen, SeesSwitches}
use Rattle.file_refusals.proofs.Elements.{states_kind, states_flags, kind_stating}
use Rattle.file_refusals.proofs.Links.{link_kind_lem, kind_link}

-- ---- a list of tests decides which of the rules from one position up to another is the first that is broken

module _ (P : Rule → Type 0) where
  abbrev KeptTo : ℕ → Type 0
  KeptTo m = (r : Rule) → position r < m → ¬ P r

  record First (r : Rule) : Type 0 where
    pub broken : P r
    pub sooner : (q : Rule) → Sooner q r → ¬ P q

  abbrev Judged : ℕ → Result Unit Rule → Type 0
  Judged hi (Ok t) = KeptTo hi
  Judged hi (Err r) = First r

  record Decides (lo hi : ℕ) (cs : List Check) : Type 0 where
    pub judged : KeptTo lo → Judged hi (first_broken cs)

  -- one rule more is kept
  kept_more : (r : Rule) → KeptTo (position r) → ¬ P r → KeptTo (position r + 1)
  kept_more r kept unbroken q h p = go (ltb (position q) (position r)) refl
    where
      go : (t : Bool) → ltb (position q) (position r) ≡ t → ⊥
      go true t = kept q (ltb-true (position q) (position r) t) p
      go false t =
          let above = ltb-false (position q) (position r) t in
          unbroken (subst P (position_once q r (omega (arith, above, h))) p)

  decides_none : (lo : ℕ) → Decides lo lo []
  decides_none lo = record { judged = λ kept. kept }

  decides_one : (r : Rule) (t : Bool) → (KeptTo (position r) → t ≡ true → P r) → (KeptTo (position r) → t ≡ false → ¬ P r)
      → {hi : ℕ} {cs : List Check} → Decides (position r + 1) hi cs → Decides (position r) hi (check r t ∷ cs)
  decides_one r true breaks keeps rest = record { judged = λ kept. record { broken = breaks kept refl; sooner = kept } }
  decides_one r false breaks keeps rest = record { judged = λ kept. rest.judged (kept_more r kept (keeps kept refl)) }

  decides_append : (lo mid hi : ℕ) (a b : List Check) → Decides lo mid a → Decides mid hi b → Decides lo hi (a ++ b)
  decides_append lo mid hi a b first second =
      record { judged = λ kept. subst (Judged hi) (sym (first_append a b)) (go (first_broken a) (first.judged kept)) }
    where
      go : (v : Result Unit Rule) → Judged mid v → Judged hi (else_first v (first_broken b))
      go (Ok t) h = second.judged h
      go (Err r) h = h

  -- the rules of a kind: their tests where the record is of that kind, else none is broken
  decides_only : (lo hi : ℕ) (t : Bool) (cs : List Check) → (t ≡ true → Decides lo hi cs) → (t ≡ false → KeptTo lo → KeptTo hi)
      → Decides lo hi (only t cs)
  decides_only lo hi true cs of other = of refl
  decides_only lo hi false cs of other = record { judged = other refl }

-- ---- what the tests of rules 2, 3, 5, 7, 8, 9 and 20 say

-- the table that is computed is the paper's
pub comes_next : (stage : Stage) (kind : ℕ) (next : Stage) → next_stage stage kind ≡ Some next → ComesNext stage kind next
comes_next Head kind next h = let g = goes_one_way Head kind next h in rw (g.0, g.1) behind_head
comes_next Elements kind next h = let g = goes_one_way Elements kind next h in rw g.1 (either_way g.0)
  where
    either_way : (kind ≡ 2) ⊎ (kind ≡ 7) → ComesNext Elements kind Elements
    either_way (inl e) = rw e behind_element
    either_way (inr e) = rw e behind_wide_element
comes_next Links kind next h = let g = goes_one_way Links kind next h in rw g.1 (either_way g.0)
  where
    either_way : (kind ≡ 3) ⊎ (kind ≡ 8) → ComesNext Links kind Links
    either_way (inl e) = rw e behind_link
    either_way (inr e) = rw e behind_guarded_link
comes_next End kind next h = let g = goes_one_way End kind next h in rw (g.0, g.1) behind_end
comes_next PlanHead kind next h = let g = goes_one_way PlanHead kind next h in rw (g.0, g.1) behind_plan_head
comes_next Steps kind next h = let g = goes_one_way Steps kind next h in rw (g.0, g.1) behind_step
comes_next PlanEnd kind next h = let g = goes_one_way PlanEnd kind next h in rw (g.0, g.1) behind_plan_end
comes_next Over kind next h = absurd (goes_one_way Over kind next h).0

pub in_table : {stage : Stage} {kind : ℕ} {next : Stage} → ComesNext stage kind next → next_stage stage kind ≡ Some next
unfolding next_stage
in_table behind_head = refl
in_table behind_element = refl
in_table behind_wide_element = refl
in_table behind_link = refl
in_table behind_guarded_link = refl
in_table behind_end = refl
in_table behind_plan_head = refl
in_table behind_step = refl
in_table behind_plan_end = refl

comes_once : {stage : Stage} {kind : ℕ} {a b : Stage} → ComesNext stage kind a → ComesNext stage kind b → a ≡ b
comes_once {stage} p q = ap (λ (n : Option Stage). named n stage) (sym (in_table p) ∙ in_table q)

pub may_come : (stage : Stage) (kind : ℕ) → is_refused (next_stage stage kind) ≡ false → MayCome stage kind
may_come stage kind e = go (next_stage stage kind) refl e
  where
    go : (n : Option Stage) → next_stage stage kind ≡ n → is_refused n ≡ false → MayCome stage kind
    go (Some next) h e = (next, comes_next stage kind next h)
    go None h e = let z : ◌≡◌ {A = ℕ} 0 1 = cc in absurd (omega arith)

pub may_not_come : (stage : Stage) (kind : ℕ) → is_refused (next_stage stage kind) ≡ true → ¬ MayCome stage kind
may_not_come stage kind e (next, c) =
    let same : false ≡ true = ap is_refused (sym (in_table c)) ∙ e in
    let z : ◌≡◌ {A = ℕ} 0 1 = cc in
    absurd (omega arith)

-- a kind that may come has a length, the one of `length_of`
comes_long : (stage : Stage) (kind : ℕ) → MayCome stage kind → KindLength kind (length_of kind)
unfolding length_of
comes_long stage kind (next, c) = go c
  where
    go : {stage : Stage} {kind : ℕ} {next : Stage} → ComesNext stage kind next → KindLength kind (length_of kind)
    go behind_head = network_head
    go behind_element = element
    go behind_wide_element = wide_element_lem
    go behind_link = link
    go behind_guarded_link = guarded_link
    go behind_end = end
    go behind_plan_head = plan_head
    go behind_step = step
    go behind_plan_end = end

pub length_only : {kind long : ℕ} → KindLength kind long → long ≡ length_of kind
unfolding length_of
length_only network_head = refl
length_only element = refl
length_only link = refl
length_only end = refl
length_only plan_head = refl
length_only step = refl
length_only wide_element_lem = refl
length_only guarded_link = refl

truly : true ≡ false → ⊥
truly z = let y : ◌≡◌ {A = ℕ} 0 1 = cc in absurd (omega arith)

both_true : (a b : Bool) → (a && b) ≡ true → (a ≡ true) × (b ≡ true)
both_true true b e = (refl, e)
both_true false b e = absurd (truly (sym e))

either_true : (a b : Bool) → either a b ≡ true → (a ≡ true) ⊎ (b ≡ true)
either_true true b e = inl refl
either_true false b e = inr e

not-true : (t : Bool) → not t ≡ true → t ≡ false
not-true true e = sym e
not-true false e = refl

range_out : (E K : ℕ) → either (eqb E 0) (either (ltb 64 E) (ltb 96 K)) ≡ true → ¬ InRange E K
range_out E K e r =
    ⊎_elim (λ a. let z = eqb-true E 0 a in omega (arith, r.some))
    (λ b. ⊎_elim (λ c. omega (arith, ltb-true 64 E c, r.elements_fit)) (λ d. omega (arith, ltb-true 96 K d, r.links_fit)) (either_true (ltb 64 E) (ltb 96 K) b))
    (either_true (eqb E 0) (either (ltb 64 E) (ltb 96 K)) e)

range_in : (E K : ℕ) → either (eqb E 0) (either (ltb 64 E) (ltb 96 K)) ≡ false → InRange E K
range_in E K e =
    let t = either_false (eqb E 0) (either (ltb 64 E) (ltb 96 K)) e in
    let u = either_false (ltb 64 E) (ltb 96 K) t.1 in
    let ne : (E ≡ 0) → ⊥ = eqb-false E 0 t.0 in
    record { some = omega arith; elements_fit = ltb-false 64 E u.0; links_fit = ltb-false 96 K u.1 }

suits_in : (form cost : ℕ) → suits form cost ≡ true → CostSuits form cost
suits_in form cost e = go (eqb form 0) refl e
  where
    go : (t : Bool) → eqb form 0 ≡ t → pick t (eqb cost 0) (not (eqb cost 0)) ≡ true → CostSuits form cost
    go true t h = record { fixed = λ _. eqb-true cost 0 h; switch = λ x. absurd (x (eqb-true form 0 t)) }
    go false t h =
        let ne : (cost ≡ 0) → ⊥ = eqb-false cost 0 (not-true (eqb cost 0) h) in
        record { fixed = λ x. absurd (eqb-false form 0 t x); switch = λ _. omega arith }

suits_out : (form cost : ℕ) → suits form cost ≡ false → ¬ CostSuits form cost
suits_out form cost e c = go (eqb form 0) refl e
  where
    go : (t : Bool) → eqb form 0 ≡ t → pick t (eqb cost 0) (not (eqb cost 0)) ≡ false → ⊥
    go true t h = eqb-false cost 0 h (c.fixed (eqb-true form 0 t))
    go false t h = let z : cost ≡ 0 = eqb-true cost 0 (not-false (eqb cost 0) h) in omega (arith, c.switch (eqb-false form 0 t))

-- the test of a guard, by what is seen
guard_good : (seen : Seen) (g : ℕ) → bad_guard seen g ≡ false → SwitchSeen seen g
guard_good seen g e =
    let t = either_false (leb seen.links g) (eqb (get_or seen.form g 0) 0) e in
    record { below = leb-false seen.links g t.0; switch = eqb-false (get_or seen.form g 0) 0 t.1 }

guard_bad : (seen : Seen) (g : ℕ) → bad_guard seen g ≡ true → ¬ SwitchSeen seen g
guard_bad seen g e x =
    ⊎_elim (λ a. omega (arith, x.below, leb-true seen.links g a)) (λ b. x.switch (eqb-true (get_or seen.form g 0) 0 b))
    (either_true (leb seen.links g) (eqb (get_or seen.form g 0) 0) e)

-- ---- what is seen of what stands before a record

-- what a record's rules ask is what the paper says of its network: of a link the elements and the earlier switches, of a step the links
abbrev pub Told : (s : List ℕ) (E K at : ℕ) → Stage → Seen → Type 0
Told s E K at Head seen = Unit
Told s E K at Elements seen = Unit
Told s E K at Links seen = (seen.elements ≡ E) × SeesSwitches s E at seen
Told s E K at End seen = Unit
Told s E K at PlanHead seen = Unit
Told s E K at Steps seen = seen.links ≡ K
Told s E K at PlanEnd seen = Unit
Told s E K at Over seen = Unit

-- what is seen tells of its own counts, and of the links before where these are what it sees
pub own_told :
    (s : List ℕ) (seen : Seen) (at : ℕ) (stage : Stage) → (stage ≡ Links → SeesSwitches s seen.elements at seen) →
    Told s seen.elements seen.links at stage seen
own_told s seen at Head sees = tt
own_told s seen at Elements sees = tt
own_told s seen at Links sees = (refl, sees refl)
own_told s seen at End sees = tt
own_told s seen at PlanHead sees = tt
own_told s seen at Steps sees = refl
own_told s seen at PlanEnd sees = tt
own_told s seen at Over sees = tt

-- links and steps each have a stage of their own
pub link_stage : {stage : Stage} {kind : ℕ} → MayCome stage kind → (kind ≡ 3) ⊎ (kind ≡ 8) → stage ≡ Links
link_stage (next, c) e = go c e
  where
    neither : {A : Type 0} {kind : ℕ} → ¬ (kind ≡ 3) → ¬ (kind ≡ 8) → (kind ≡ 3) ⊎ (kind ≡ 8) → A
    neither p q (inl e) = absurd (p e)
    neither p q (inr e) = absurd (q e)

    go : {stage : Stage} {kind : ℕ} {next : Stage} → ComesNext stage kind next → (kind ≡ 3) ⊎ (kind ≡ 8) → stage ≡ Links
    go behind_head e = neither (omega arith) (omega arith) e
    go behind_element e = neither (omega arith) (omega arith) e
    go behind_wide_element e = neither (omega arith) (omega arith) e
    go behind_link e = refl
    go behind_guarded_link e = refl
    go behind_end e = neither (omega arith) (omega arith) e
    go behind_plan_head e = neither (omega arith) (omega arith) e
    go behind_step e = neither (omega arith) (omega arith) e
    go behind_plan_end e = neither (omega arith) (omega arith) e

step_stage : {stage : Stage} {kind : ℕ} → MayCome stage kind → kind ≡ 6 → stage ≡ Steps
step_stage (next, c) e = go c e
  where
    go : {stage : Stage} {kind : ℕ} {next : Stage} → ComesNext stage kind next → kind ≡ 6 → stage ≡ Steps
    go behind_head e = absurd (omega (arith, e))
    go behind_element e = absurd (omega (arith, e))
    go behind_wide_element e = absurd (omega (arith, e))
    go behind_link e = absurd (omega (arith, e))
    go behind_guarded_link e = absurd (omega (arith, e))
    go behind_end e = absurd (omega (arith, e))
    go behind_plan_head e = absurd (omega (arith, e))
    go behind_step e = refl
    go behind_plan_end e = absurd (omega (arith, e))

-- ---- the record

module _ (s : List ℕ) (E K at : ℕ) (stage : Stage) where
  abbrev P : Rule → Type 0
  P r = BreaksRule s E K at stage r

  -- where rule 2 is kept, the kind is one that may come
  comes : (m : ℕ) → position KindOutOfPlace < m → KeptTo P m → MayCome stage (kind_field s at)
  comes m far kept = go (is_refused (next_stage stage (kind_field s at))) refl
    where
      go : (t : Bool) → is_refused (next_stage stage (kind_field s at)) ≡ t → MayCome stage (kind_field s at)
      go true t = absurd (kept KindOutOfPlace far (may_not_come stage (kind_field s at) t))
      go false t = may_come stage (kind_field s at) t

  frame_decides : Decides P (position RecordMissing) (position HeadOutOfRange) (frame_rules s at stage)
  unfolding frame_rules_by position
  frame_decides =
      decides_one P RecordMissing (ltb (length s - at) 4) (λ _ t. ltb-true (length s - at) 4 t)
      (λ _ t h. omega (arith, ltb-false (length s - at) 4 t))
      (decides_one P KindOutOfPlace (is_refused (next_stage stage (kind_field s at))) (λ _ t. may_not_come stage (kind_field s at) t)
      (λ _ t h. h (may_come stage (kind_field s at) t))
      (decides_one P WrongLength (not (eqb (length_field s at) (length_of (kind_field s at))))
      (λ _ t h. eqb-false (length_field s at) (length_of (kind_field s at)) (not-true (eqb (length_field s at) (length_of (kind_field s at))) t) (length_only h))
      (λ kept t h. h (long kept t))
      (decides_one P RecordCutOff (ltb (length s - at) (length_field s at)) (λ _ t. ltb-true (length s - at) (length_field s at) t)
      (λ _ t h. omega (arith, ltb-false (length s - at) (length_field s at) t))
      (decides_none P (position HeadOutOfRange)))))
    where
      long : KeptTo P (position WrongLength) → not (eqb (length_field s at) (length_of (kind_field s at))) ≡ false → KindLength (kind_field s at) (length_field s at)
      long kept t =
          subst (KindLength (kind_field s at))
          (sym (eqb-true (length_field s at) (length_of (kind_field s at)) (not-false (eqb (length_field s at) (length_of (kind_field s at))) t)))
          (comes_long stage (kind_field s at) (comes (position WrongLength) (omega arith) kept))

  -- rules 5 to 12 and 20, by the kind
  abbrev heads : List Check
  heads = only (eqb (kind_field s at) 1) (head_rules s at)

  abbrev elements : List Check
  elements = only (element_kind (kind_field s at)) (flags_rules s (at + flags_at (kind_field s at)))

  abbrev plans : List Check
  plans = only (eqb (kind_field s at) 5) (plan_head_rules s at)

  head_part : Decides P (position HeadOutOfRange) (position UnknownFlags) heads
  unfolding head_rules position
  head_part =
      decides_only P (position HeadOutOfRange) (position UnknownFlags) (eqb (kind_field s at) 1) (head_rules s at)
      (λ t. decides_one P HeadOutOfRange (either (eqb (word s (at + 4)) 0) (either (ltb 64 (word s (at + 4))) (ltb 96 (word s (at + 6)))))
      (λ _ h. (eqb-true (kind_field s at) 1 t, range_out (word s (at + 4)) (word s (at + 6)) h))
      (λ _ h p. p.1 (range_in (word s (at + 4)) (word s (at + 6)) h)) (decides_none P (position UnknownFlags)))
      (λ t kept. kept_more P HeadOutOfRange kept (λ p. eqb-false (kind_field s at) 1 t p.0))

  element_part : Decides P (position UnknownFlags) (position BadEnds) elements
  unfolding flags_rules position
  element_part =
      decides_only P (position UnknownFlags) (position BadEnds) (element_kind (kind_field s at)) (flags_rules s flags)
      (λ t. decides_one P UnknownFlags (ltb 3 (word s flags))
      (λ _ h.
      let x = kind_stating t in
      (x.load, x.capacity, x.flags, x.states, omega (arith, states_flags x.states, ltb-true 3 (word s flags) h)))
      (λ _ h p. omega (arith, ltb-false 3 (word s flags) h, states_flags p.3, p.4)) (decides_none P (position BadEnds)))
      (λ t kept. kept_more P UnknownFlags kept (λ p. let z : true ≡ false = sym (states_kind p.3) ∙ t in truly z))
    where
      flags : ℕ
      flags = at + flags_at (kind_field s at)

  plan_part_lem : Decides P (position TooManySteps) (position UnknownLink) plans
  unfolding plan_head_rules position
  plan_part_lem =
      decides_only P (position TooManySteps) (position UnknownLink) (eqb (kind_field s at) 5) (plan_head_rules s at)
      (λ t. decides_one P TooManySteps (ltb 255 (word s (at + 4)))
      (λ _ h. (eqb-true (kind_field s at) 5 t, ltb-true 255 (word s (at + 4)) h))
      (λ _ h p. omega (arith, ltb-false 255 (word s (at + 4)) h, p.1)) (decides_none P (position UnknownLink)))
      (λ t kept. kept_more P TooManySteps kept (λ p. eqb-false (kind_field s at) 5 t p.0))

  -- rules 13 to 19, which are behind these, speak of no record
  beyond : (r : Rule) → position ByteAfterEnd ≤ position r → ¬ P r
  unfolding position
  beyond RecordMissing h = absurd (omega arith)
  beyond KindOutOfPlace h = absurd (omega arith)
  beyond WrongLength h = absurd (omega arith)
  beyond RecordCutOff h = absurd (omega arith)
  beyond HeadOutOfRange h = absurd (omega arith)
  beyond UnknownFlags h = absurd (omega arith)
  beyond BadEnds h = absurd (omega arith)
  beyond UnknownForm h = absurd (omega arith)
  beyond UnsuitedCost h = absurd (omega arith)
  beyond BadGuard h = absurd (omega arith)
  beyond TooManySteps h = absurd (omega arith)
  beyond UnknownLink h = absurd (omega arith)
  beyond UnknownState h = absurd (omega arith)
  beyond ByteAfterEnd h = λ x. x
  beyond NotATree h = λ x. x
  beyond TwoSources h = λ x. x
  beyond FaultWithSource h = λ x. x
  beyond Overloaded h = λ x. x
  beyond TooManyOperable h = λ x. x
  beyond BufferTooShort h = λ x. x

  pub keeps_to : KeptTo P (position ByteAfterEnd) → Keeps s E K at stage
  keeps_to kept r = go (ltb (position r) (position ByteAfterEnd)) refl
    where
      go : (t : Bool) → ltb (position r) (position ByteAfterEnd) ≡ t → ¬ P r
      go true t = kept r (ltb-true (position r) (position ByteAfterEnd) t)
      go false t = beyond r (ltb-false (position r) (position ByteAfterEnd) t)

  -- one first rule
  pub breaks_once : (q r : Rule) → BreaksFirst s E K at stage q → BreaksFirst s E K at stage r → q ≡ r
  breaks_once q r a b = position_once q r (go (ltb (position q) (position r)) refl (ltb (position r) (position q)) refl)
    where
      go : (t : Bool) → ltb (position q) (position r) ≡ t → (u : Bool) → ltb (position r) (position q) ≡ u → position q ≡ position r
      go true t u e = absurd (b.sooner q (ltb-true (position q) (position r) t) a.broken)
      go false t true u = absurd (a.sooner r (ltb-true (position r) (position q) u) b.broken)
      go false t false u = omega (arith, ltb-false (position q) (position r) t, ltb-false (position r) (position q) u)

  pub keeps_unbroken : (r : Rule) → Keeps s E K at stage → ¬ BreaksFirst s E K at stage r
  keeps_unbroken r kept b = kept r b.broken

  -- rule 7 in a network of n elements
  abbrev BadEndsIn : ℕ → Type 0
  BadEndsIn n = (n ≤ word s (at + 4)) ⊎ ((n ≤ word s (at + 6)) ⊎ (word s (at + 4) ≡ word s (at + 6)))

  ends_out : (n : ℕ) → either (leb n (word s (at + 4))) (either (leb n (word s (at + 6))) (eqb (word s (at + 4)) (word s (at + 6)))) ≡ true
      → BadEndsIn n
  ends_out n e =
      ⊎_elim (λ a. inl (leb-true n (word s (at + 4)) a))
      (λ b. ⊎_elim (λ c. inr (inl (leb-true n (word s (at + 6)) c))) (λ d. inr (inr (eqb-true (word s (at + 4)) (word s (at + 6)) d)))
      (either_true (leb n (word s (at + 6))) (eqb (word s (at + 4)) (word s (at + 6))) b))
      (either_true (leb n (word s (at + 4))) (either (leb n (word s (at + 6))) (eqb (word s (at + 4)) (word s (at + 6)))) e)

  ends_in : (n : ℕ) → either (leb n (word s (at + 4))) (either (leb n (word s (at + 6))) (eqb (word s (at + 4)) (word s (at + 6)))) ≡ false
      → ¬ BadEndsIn n
  ends_in n e x =
      let t = either_false (leb n (word s (at + 4))) (either (leb n (word s (at + 6))) (eqb (word s (at + 4)) (word s (at + 6)))) e in
      let u = either_false (leb n (word s (at + 6))) (eqb (word s (at + 4)) (word s (at + 6))) t.1 in
      ⊎_elim (λ (a : n ≤ word s (at + 4)). omega (arith, leb-false n (word s (at + 4)) t.0))
      (λ b. ⊎_elim (λ (c : n ≤ word s (at + 6)). omega (arith, leb-false n (word s (at + 6)) u.0))
      (eqb-false (word s (at + 4)) (word s (at + 6)) u.1) b) x

  -- ---- the record as the reader finds it, by what it has seen

  module _ (seen : Seen) (told : Told s E K at stage seen) where
    link_told : (m : ℕ) → position KindOutOfPlace < m → KeptTo P m → IsLink s at → (seen.elements ≡ E) × SeesSwitches s E at seen
    link_told m far kept e = subst (λ (st : Stage). Told s E K at st seen) (link_stage (comes m far kept) e) told

    links_told : KeptTo P (position UnknownLink) → kind_field s at ≡ 6 → seen.links ≡ K
    unfolding position
    links_told kept e = subst (λ (st : Stage). Told s E K at st seen) (step_stage (comes (position UnknownLink) (omega arith) kept) e) told

    abbrev links : List Check
    links = only (link_kind (kind_field s at)) (link_rules s at (kind_field s at) seen)

    abbrev steps : List Check
    steps = only (eqb (kind_field s at) 6) (step_rules s at seen.links)

    -- rules 7 to 9
    plain_part : IsLink s at → Decides P (position BadEnds) (position BadGuard) (plain_link_rules s at (kind_field s at) seen.elements)
    unfolding plain_link_rules position
    plain_part one =
        decides_one P BadEnds (either (leb seen.elements (word s (at + 4))) (either (leb seen.elements (word s (at + 6))) (eqb (word s (at + 4)) (word s (at + 6)))))
        (λ kept h. (one, subst BadEndsIn (elements_told kept) (ends_out seen.elements h)))
        (λ kept h p. ends_in seen.elements h (subst BadEndsIn (sym (elements_told kept)) p.1))
        (decides_one P UnknownForm (unknown_form (kind_field s at) (word s (at + 8)))
        (λ _ h. form_out h)
        (λ _ h p. form_in h p)
        (decides_one P UnsuitedCost (not (suits (word s (at + 8)) (word s (at + 10))))
        (λ _ h. (one, suits_out (word s (at + 8)) (word s (at + 10)) (not-true (suits (word s (at + 8)) (word s (at + 10))) h)))
        (λ _ h p. p.1 (suits_in (word s (at + 8)) (word s (at + 10)) (not-false (suits (word s (at + 8)) (word s (at + 10))) h)))
        (decides_none P (position BadGuard))))
      where
        elements_told : KeptTo P (position BadEnds) → seen.elements ≡ E
        elements_told kept = (link_told (position BadEnds) (omega arith) kept one).0

        form_out : unknown_form (kind_field s at) (word s (at + 8)) ≡ true → P UnknownForm
        form_out h =
            ⊎_elim (λ a. inl (one, ltb-true 2 (word s (at + 8)) a))
            (λ b.
            let c = both_true (eqb (kind_field s at) 8) (eqb (word s (at + 8)) 0) b in
            inr (eqb-true (kind_field s at) 8 c.0, omega (arith, eqb-true (word s (at + 8)) 0 c.1)))
            (either_true (ltb 2 (word s (at + 8))) (eqb (kind_field s at) 8 && eqb (word s (at + 8)) 0) h)

        form_in : unknown_form (kind_field s at) (word s (at + 8)) ≡ false → ¬ P UnknownForm
        form_in h (inl p) =
            omega (arith, ltb-false 2 (word s (at + 8)) (either_false (ltb 2 (word s (at + 8))) (eqb (kind_field s at) 8 && eqb (word s (at + 8)) 0) h).0, p.1)
        form_in h (inr p) =
            truly (ap₂ ◌&&◌ (sym (eq-eqb (kind_field s at) 8 p.0)) (sym (eq-eqb (word s (at + 8)) 0 (omega (arith, p.1)))) ∙
            (either_false (ltb 2 (word s (at + 8))) (eqb (kind_field s at) 8 && eqb (word s (at + 8)) 0) h).1)

    -- rule 20, of kind 8
    guard_part : Decides P (position BadGuard) (position TooManySteps) (only (eqb (kind_field s at) 8) (guard_rules s at seen))
    unfolding guard_rules position
    guard_part =
        decides_only P (position BadGuard) (position TooManySteps) (eqb (kind_field s at) 8) (guard_rules s at seen)
        (λ t.
        let eight = eqb-true (kind_field s at) 8 t in
        decides_one P BadGuard (bad_guard seen (word s (at + 12)))
        (λ kept h. (eight, λ x. guard_bad seen (word s (at + 12)) h ((sees kept eight).sees (word s (at + 12)) x)))
        (λ kept h p. p.1 ((sees kept eight).stands (word s (at + 12)) (guard_good seen (word s (at + 12)) h)))
        (decides_none P (position TooManySteps)))
        (λ t kept. kept_more P BadGuard kept (λ p. eqb-false (kind_field s at) 8 t p.0))
      where
        sees : KeptTo P (position BadGuard) → kind_field s at ≡ 8 → SeesSwitches s E at seen
        sees kept e = (link_told (position BadGuard) (omega arith) kept (inr e)).1

    link_part : Decides P (position BadEnds) (position TooManySteps) links
    unfolding link_rules position
    link_part =
        decides_only P (position BadEnds) (position TooManySteps) (link_kind (kind_field s at)) (link_rules s at (kind_field s at) seen)
        (λ t.
        decides_append P (position BadEnds) (position BadGuard) (position TooManySteps) (plain_link_rules s at (kind_field s at) seen.elements)
        (only (eqb (kind_field s at) 8) (guard_rules s at seen)) (plain_part (kind_link s at t)) guard_part)
        (λ t kept.
        let no : ¬ IsLink s at = λ p. truly (sym (link_kind_lem s at p) ∙ t) in
        kept_more P BadGuard
        (kept_more P UnsuitedCost
        (kept_more P UnknownForm
        (kept_more P BadEnds kept (λ p. no p.0))
        (λ p. ⊎_elim (λ a. no a.0) (λ b. no (inr b.0)) p))
        (λ p. no p.0))
        (λ p. no (inr p.0)))

    step_part : Decides P (position UnknownLink) (position ByteAfterEnd) steps
    unfolding step_rules position
    step_part =
        decides_only P (position UnknownLink) (position ByteAfterEnd) (eqb (kind_field s at) 6) (step_rules s at seen.links)
        (λ t. decides_one P UnknownLink (leb seen.links (word s (at + 4)))
        (λ kept h.
        let step = eqb-true (kind_field s at) 6 t in
        (step, omega (arith, links_told kept step, leb-true seen.links (word s (at + 4)) h)))
        (λ kept h p. omega (arith, links_told kept p.0, leb-false seen.links (word s (at + 4)) h, p.1))
        (decides_one P UnknownState (ltb 1 (word s (at + 6)))
        (λ _ h. (eqb-true (kind_field s at) 6 t, ltb-true 1 (word s (at + 6)) h))
        (λ _ h p. omega (arith, ltb-false 1 (word s (at + 6)) h, p.1))
        (decides_none P (position ByteAfterEnd))))
        (λ t kept.
        kept_more P UnknownState
        (kept_more P UnknownLink kept (λ p. eqb-false (kind_field s at) 6 t p.0))
        (λ p. eqb-false (kind_field s at) 6 t p.0))

    fields_decide : Decides P (position HeadOutOfRange) (position ByteAfterEnd) (field_rules s at (kind_field s at) seen)
    unfolding field_rules
    fields_decide =
        decides_append P (position HeadOutOfRange) (position UnknownLink) (position ByteAfterEnd) (heads ++ elements ++ links ++ plans) steps
        (decides_append P (position HeadOutOfRange) (position TooManySteps) (position UnknownLink) (heads ++ elements ++ links) plans
        (decides_append P (position HeadOutOfRange) (position BadEnds) (position TooManySteps) (heads ++ elements) links
        (decides_append P (position HeadOutOfRange) (position UnknownFlags) (position BadEnds) heads elements head_part element_part)
        link_part)
        plan_part_lem)
        step_part

    rules_decide : Decides P (position RecordMissing) (position ByteAfterEnd) (record_rules s seen at stage)
    unfolding record_rules_by
    rules_decide =
        decides_append P (position RecordMissing) (position HeadOutOfRange) (position ByteAfterEnd) (frame_rules s at stage)
        (field_rules s at (kind_field s at) seen) frame_decides fields_decide

    abbrev Verdicts : Result Unit Rule → Type 0
    Verdicts (Ok t) = Keeps s E K at stage
    Verdicts (Err r) = BreaksFirst s E K at stage r

    -- what the reader's tests find is what the record breaks
    rules_judged : Verdicts (first_broken (record_rules s seen at stage))
    unfolding position
    rules_judged = go (first_broken (record_rules s seen at stage)) (rules_decide.judged (λ r h p. omega (arith, h)))
      where
        go : (v : Result Unit Rule) → Judged P (position ByteAfterEnd) v → Verdicts v
        go (Ok t) h = keeps_to h
        go (Err r) h = record { broken = h.broken; sooner = h.sooner }

    pub due_breaks : (f : Refusal) → due_at s seen at stage ≡ Err f → BreaksFirst s E K at stage f.rule × (f.place ≡ at)
    due_breaks f e =
        let d = due_refused s seen at stage e in
        (subst Verdicts d.0 rules_judged, d.1)

    pub due_keeps : {kind long : ℕ} {next : Stage} → due_at s seen at stage ≡ recorded kind long next → Keeps s E K at stage
    due_keeps e = subst Verdicts (due_kept s seen at stage e).kept rules_judged

    -- and both ways: the contract of `due_at`, `Reader::due` and `Reader::next` in the paper's words
    pub record_refused : (f : Refusal) → (due_at s seen at stage ≡ Err f) ↔ (BreaksFirst s E K at stage f.rule × (f.place ≡ at))
    record_refused f = (due_breaks f, λ b. go b (due_at s seen at stage) refl)
      where
        go : BreaksFirst s E K at stage f.rule × (f.place ≡ at) → (d : Result Record Refusal) → due_at s seen at stage ≡ d → due_at s seen at stage ≡ Err f
        go b (Ok found) e = absurd (keeps_unbroken f.rule (due_keeps e) b.0)
        go b (Err g) e =
            let d = due_breaks g e in
            e ∙ (λ i. Err (record { rule = breaks_once g.rule f.rule d.0 b.0 i; place = (d.1 ∙ sym b.1) i }))

    -- what is found: the fields of the record that is due, and the stage that follows
    pub record_found : (kind long : ℕ) (next : Stage)
        → (due_at s seen at stage ≡ recorded kind long next) ↔ (Keeps s E K at stage × (kind ≡ kind_field s at) × (long ≡ length_field s at) × ComesNext stage kind next)
    record_found kind long next = (
      λ e. let k = due_kept s seen at stage e in (due_keeps e, k.framed.kind_is, k.framed.long_is, comes_next stage kind next k.framed.goes),
      λ x. go x (due_at s seen at stage) refl,
    )
      where
        go : Keeps s E K at stage × (kind ≡ kind_field s at) × (long ≡ length_field s at) × ComesNext stage kind next
            → (d : Result Record Refusal) → due_at s seen at stage ≡ d → due_at s seen at stage ≡ recorded kind long next
        go (keeps, k, l, f) (Err r) e = absurd (keeps_unbroken r.rule keeps (due_breaks r e).0)
        go (keeps, k, l, f) (Ok found) e =
            let d = due_kept s seen at stage e in
            e ∙ (λ i. recorded ((d.framed.kind_is ∙ sym k) i) ((d.framed.long_is ∙ sym l) i) (comes_once (subst (λ (x : ℕ). ComesNext stage x found.next) (d.framed.kind_is ∙ sym k) (comes_next stage found.kind found.next d.framed.goes)) f i))

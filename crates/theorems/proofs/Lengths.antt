-- A printed plan has at most as many steps as switches may be operable, and texts are at most as long as the C header states: by rule 18, by the widths of the fields, and by the places, which lie in the bytes that decide.
-- Assumes nothing.
use mathlib.Core.Path.{◌≡◌, refl, sym, ap, ap₂, subst, ◌∙◌}
use mathlib.Core.Bool.{Bool, true, false, not, ◌&&◌}
use mathlib.Core.List.{List, [], ◌∷◌, ◌++◌}
use Prim.Native.Nat.{ℕ, zero, suc, ◌+◌, ◌*◌, ◌-◌, ◌^◌, ◌<◌, ◌≤◌}
use native.Mathlib.Omega.{arith}
use lib.ListN.{length, get_or, take, length-append}
use Rattle.network.specs.declared.Network.{Network}
use Rattle.network.specs.declared.refusal.Refusal.{Refusal}
use Rattle.network.specs.declared.refusal.Rule.{Rule}
use Rattle.network.specs.declared.refusal.Rule.TheVariants.{RecordMissing, KindOutOfPlace, WrongLength, RecordCutOff, HeadOutOfRange, UnknownFlags, BadEnds, UnknownForm, UnsuitedCost, TooManySteps, UnknownLink, UnknownState, ByteAfterEnd, NotATree, TwoSources, FaultWithSource, Overloaded, TooManyOperable, BufferTooShort, BadGuard}
use Rattle.std.specs.Prelude.{Result, Ok, Err}
use Rattle.network.specs.Accepted.{WellFormed}
use Rattle.network.specs.Refusals.{rule_number}
use Rattle.file_stages.specs.declared.Stage.{Stage}
use Rattle.file_fields.specs.Fields.{word}
use Rattle.file_records.specs.Records.{length_field}
use Rattle.feeding.specs.Below.{gate, sum_to}
use Rattle.feeding.specs.Networks.{Net, Formed, net_of, grid_of}
use Rattle.feeding.specs.Acceptance.{Answered, Starts}
use Rattle.feeding.specs.Acceptance as Acceptance
use Rattle.feeding.specs.Parts.{Config}
use Rattle.feeding.specs.Restoration.{Operable, Operables, operable?, operables, operables_by, total_load}
use Rattle.feeding.specs.Tasks.{most_operable, restoration}
use Rattle.feeding.specs.Plans.{Step, put, Good, sweep, printed_form, run}
use Rattle.feeding.specs.Costs.{steps_cost, operated, cost_of}
use Rattle.feeding.proofs.Guards.{guard_cost_below}
use Rattle.feeding.proofs.Below.{gate_mono, gate_le}
use Rattle.feeding.proofs.Sums.{sum_to_add, sum_to_mono, sum_to_ext, sum_to_below}
use Rattle.feeding.proofs.Lows.{length_those}
use Rattle.feeding.proofs.Tests.{operable?_in}
use Rattle.feeding.proofs.Answers.{operables_counted, operables_unique}
use Rattle.feeding.proofs.Views.{formed_net, lawful}
use Rattle.plan_problem.specs.Choosing.{Promised}
use Rattle.plan_sums.specs.declared.Sums.{Sums}
use Rattle.texts.specs.Texts.{field, feed, line_of, refused_word, refused_line}
use Rattle.texts.proofs.Pieces.{field_16, field_64}
use Rattle.plan_lines.specs.Lines.{plan_word, none_word, plan_line, step_line, text_of, reply_text, tail_lines, tail_room, none_lines}
use Rattle.plan_lines.proofs.Lines.{step_length, tail_length}
use Rattle.judge_marks.specs.declared.Reason.{Reason}
use Rattle.judge_marks.specs.declared.Reason.TheVariants.{NotOperable, AlreadySo, Unsafe}
use Rattle.judge_marks.specs.declared.Mark.{Mark}
use Rattle.judge_marks.specs.Marks.{Marked, reason_number}
use Rattle.judge_marks.specs.Marks as Marks
use Rattle.judge_line.specs.MarkLines.{mark_line, broken_word, short_word, valid_word}
use Rattle.plan_sums.specs.Sums.{LoadsIn}
use Rattle.plan_outcome.proofs.Exactly.{outcome_decided}
use Rattle.planner.specs.Replies.{lines_of}
use Rattle.judge.proofs.Marking.{mark_decided, files_formed, judge_replies}
use Rattle.judge.specs.Judging as Judging
use Rattle.plan_form.proofs.Steps.{length_sweep}
use Rattle.plan_form.proofs.Steps as Steps
use Rattle.planner.proofs.Promises.{planner_replies}
use Rattle.planner.specs.Replies as Replies
use Rattle.judge.proofs.Read.{BothFormed}
use Rattle.feeding_acceptance.proofs.Promises.{network_starts}
use Rattle.file_network.specs.Deciding.{decides}
use Rattle.file_refusals.proofs.Reading.{file_formed}
use Rattle.feeding_acceptance.specs.Reading as Reading
use Rattle.file_refusals.specs.Files.{Stand, none, next, FirstBreak, here, later, FirstBroken, in_file, behind, FirstBrokenBoth, in_network, in_plan, behind_plan}
use Rattle.feeding_acceptance.specs.Reading.{Bytes, FirstRule}
use Rattle.planner.specs.Replies.{plan_text_of, step_texts, PlannerReply}
use Rattle.judge.specs.Judging.{AcceptedPlan, FirstRuleBoth, JudgeReply}
use Rattle.theorems.specs.Words.{plan_text, mark_text}

-- ---- at most as many steps as switches may be operable

one_group : (d s : Bool) → gate (d && s) 1 + gate (d && not s) 1 ≡ gate d 1
one_group false s = refl
one_group true true = refl
one_group true false = refl

form_length : (net : Net) (D : ℕ → Bool) → length (printed_form net D) ≡ sum_to net.grid.K (λ l. gate (D l) 1)
unfolding printed_form
form_length net D =
    length-append (sweep false (λ l. D l && net.start_closed l) net.grid.K) _
    ∙ ap₂ ◌+◌ (length_sweep false (λ l. D l && net.start_closed l) net.grid.K) (length_sweep true (λ l. D l && not (net.start_closed l)) net.grid.K)
    ∙ sym (sum_to_add net.grid.K (λ l. gate (D l && net.start_closed l) 1) (λ l. gate (D l && not (net.start_closed l)) 1))
    ∙ sum_to_ext net.grid.K _ _ (λ l _. one_group (D l) (net.start_closed l))

pub promised_few : (net : Net) → Formed net.grid → Starts net → (q : List Step) (cost : ℕ) → Promised net q cost → length q ≤ most_operable
unfolding operables_by
promised_few net formed starts q cost p =
    let all = sum_to_mono net.grid.K (λ l. gate (p.set l) 1) (λ l. gate (operable? net l) 1)
    (λ l _. gate_mono (p.set l) (operable? net l) 1 1 (λ e. operable?_in net formed l (p.picked.restores.operable l e)) (omega arith)) in
    omega (arith, ap length p.form, form_length net p.set, all, length_those net.grid.K (operable? net), starts.few)

numbers : (r : Rule) → rule_number r ≤ 20
numbers RecordMissing = omega arith
numbers KindOutOfPlace = omega arith
numbers WrongLength = omega arith
numbers RecordCutOff = omega arith
numbers HeadOutOfRange = omega arith
numbers UnknownFlags = omega arith
numbers BadEnds = omega arith
numbers UnknownForm = omega arith
numbers UnsuitedCost = omega arith
numbers TooManySteps = omega arith
numbers UnknownLink = omega arith
numbers UnknownState = omega arith
numbers ByteAfterEnd = omega arith
numbers NotATree = omega arith
numbers TwoSources = omega arith
numbers FaultWithSource = omega arith
numbers Overloaded = omega arith
numbers TooManyOperable = omega arith
numbers BufferTooShort = omega arith
numbers BadGuard = omega arith

reasons : (r : Reason) → reason_number r ≤ 3
reasons NotOperable = omega arith
reasons AlreadySo = omega arith
reasons Unsafe = omega arith

-- ---- places

module _ (s : List ℕ) (E K : ℕ) where
  stand_within : {stages : List Stage} {at end : ℕ} → at ≤ length s → Stand s E K stages at end → end ≤ length s
  stand_within h none = h
  stand_within h (next {at = at} k x) =
      let fits : (length s - at < length_field s at) → ⊥ = k RecordCutOff in
      stand_within (omega arith) x

  break_within : {stages : List Stage} {at : ℕ} {f : Refusal} → at ≤ length s → FirstBreak s E K stages at f → f.place ≤ length s
  break_within h (here x) = h
  break_within h (later {at = at} k x) =
      let fits : (length s - at < length_field s at) → ⊥ = k RecordCutOff in
      break_within (omega arith) x

first_within : (s : List ℕ) {f : Refusal} → FirstBroken s f → f.place ≤ length s
first_within s (in_file x) = break_within s (word s 4) (word s 6) (omega arith) x
first_within s (behind x h) = omega (arith, h)

both_within : (s : List ℕ) {f : Refusal} → FirstBrokenBoth s f → f.place ≤ length s
both_within s (in_network x) = break_within s (word s 4) (word s 6) (omega arith) x
both_within s (in_plan m x) = break_within s (word s 4) (word s 6) (stand_within s (word s 4) (word s 6) (omega arith) m) x
both_within s (behind_plan m x h) = omega (arith, h)

module _ (n : Network) (w : WellFormed n) where
  elements_few : (net_of n).grid.E ≤ 64
  unfolding net_of grid_of
  elements_few = w.elements_fit

  links_few : (net_of n).grid.K ≤ 96
  unfolding net_of grid_of
  links_few = w.links_fit

  operables_few : (m : ℕ) → Operables (Operable (net_of n)) m → m ≤ 96
  unfolding operables_by
  operables_few m o =
      let is = operables_unique (Operable (net_of n)) m (length (operables (net_of n))) o (operables_counted (net_of n) (restoration (net_of n)) (lawful n w)) in
      omega (
        arith,
        is,
        length_those (net_of n).grid.K (operable? (net_of n)),
        sum_to_below 1 (λ l. gate (operable? (net_of n) l) 1) (net_of n).grid.K (λ l _. gate_le (operable? (net_of n) l) 1),
        links_few,
      )

  answered_within : (f : Refusal) → Answered (net_of n) (Err f) → f.place ≤ 96
  answered_within f h = go _ h refl
    where
      held : Result Unit Refusal → ℕ
      held (Ok u) = 0
      held (Err g) = g.place

      go : (a : Result Unit Refusal) → Answered (net_of n) a → a ≡ Err f → f.place ≤ 96
      go _ (Acceptance.not_a_tree lt _) e = omega (arith, ap held e, lt, elements_few)
      go _ (Acceptance.two_sources _ lt _) e = omega (arith, ap held e, lt, elements_few)
      go _ (Acceptance.fault_with_source _ _ lt _) e = omega (arith, ap held e, lt, elements_few)
      go _ (Acceptance.overloaded _ _ _ lt _) e = omega (arith, ap held e, lt, elements_few)
      go _ (Acceptance.too_many {n = m} _ o _) e = omega (arith, ap held e, operables_few m o)
      go _ (Acceptance.accepted _ _ _) e = let z : ◌≡◌ {A = ℕ} 0 1 = cc in absurd (omega arith)

  -- ---- costs and loads

  cost_within : (l : ℕ) → Operable (net_of n) l → (net_of n).cost l ≤ 65535
  unfolding net_of grid_of
  cost_within l o = omega (arith, w.cost_in_lem l o.below)

  steps_within : (c : Config) (q : List Step) → Good (net_of n) (Operable (net_of n)) c q → steps_cost (net_of n) q ≤ 65535 * length q
  unfolding Good steps_cost
  steps_within c [] g = omega arith
  steps_within c (s ∷ q) g = omega (arith, cost_within s.link g.0.operable, steps_within (put c s.link s.want) q g.1)

  -- and twice the cost of each of at most 96 guards
  costs_within : (c : Config) (q : List Step) → Good (net_of n) (Operable (net_of n)) c q → cost_of (net_of n) q ≤ 65535 * length q + 12582720
  unfolding cost_of net_of grid_of
  costs_within c q g = omega (arith, steps_within c q g, guard_cost_below (net_of n) w.cost_in_lem (operated q), links_few)

  pub total_within : total_load (net_of n).grid < 2 ^ 38
  unfolding total_load net_of grid_of
  total_within =
      omega (arith, sum_to_below (2 ^ 32 - 1) (λ e. get_or n.load e 0) n.elements (λ e k. omega (arith, w.load_in_lem e k)), w.elements_fit)

-- ---- lines

line_length : (w : List ℕ) (a b : ℕ) → length (line_of w a b) ≡ length w + length (field a) + length (field b) + 1
unfolding line_of
line_length w a b = simp length-append (omega arith)

refused_length : (f : Refusal) → f.place < 65536 → length (refused_line f) ≤ 20
unfolding refused_line
refused_length f h =
    omega (arith, line_length refused_word (rule_number f.rule) f.place, field_16 (rule_number f.rule) (omega (arith, numbers f.rule)), field_16 f.place h)

loads_length : (n : Network) → WellFormed n → (c : Config) (l : Sums) → LoadsIn (net_of n) c l → length (text_of (tail_lines l)) ≤ tail_room
loads_length n w c l h =
    tail_length l (omega (arith, h.total, total_within n w)) (omega (arith, h.total, total_within n w)) (omega (arith, h.total, total_within n w))

steps_length : (n : Network) → WellFormed n → (c : Config) (q : List Step) → Good (net_of n) (Operable (net_of n)) c q → length (step_texts q) ≤ 12 * length q
unfolding Good step_texts
steps_length n w c [] g = omega arith
steps_length n w c (s ∷ q) g =
    omega (
      arith,
      length-append (step_line s.link s.want) (step_texts q),
      step_length s.link s.want (omega (arith, g.0.operable.below, links_few n w)),
      steps_length n w (put c s.link s.want) q g.1,
    )

-- ---- the planner's text

plan_length_lem : (n : Network) → WellFormed n → Starts (net_of n) → (q : List Step) (cost : ℕ) (l : Sums) → Promised (net_of n) q cost
    → LoadsIn (net_of n) (run (net_of n).start_closed q) l → length (plan_text_of q cost l) ≤ 512
unfolding plan_text_of reply_text plan_line
plan_length_lem n w starts q cost l p h =
    let few = promised_few (net_of n) (formed_net n w) starts q cost p in
    let paid : cost ≤ 65535 * most_operable + 12582720 = omega (arith, p.own, costs_within n w (net_of n).start_closed q p.valid.good, few) in
    omega (
      arith,
      length-append (line_of plan_word (length q) cost ++ step_texts q) (text_of (tail_lines l)),
      length-append (line_of plan_word (length q) cost) (step_texts q),
      line_length plan_word (length q) cost,
      field_16 (length q) (omega (arith, few)),
      field_64 cost (omega (arith, paid)),
      steps_length n w (net_of n).start_closed q p.valid.good,
      few,
      loads_length n w (run (net_of n).start_closed q) l h,
    )

none_length : (n : Network) → WellFormed n → (l : Sums) → LoadsIn (net_of n) (net_of n).start_closed l → length (none_lines l) ≤ 512
unfolding none_lines reply_text
none_length n w l h = omega (arith, length-append (none_word ++ feed) (text_of (tail_lines l)), loads_length n w (net_of n).start_closed l h)

module _ (s : List ℕ) (bytes : Bytes s) (short : length s ≤ decides) where
  first_length : (f : Refusal) → FirstRule s f → length (refused_line f) ≤ 20
  first_length f (Reading.FirstRule.in_bytes b) = refused_length f (omega (arith, first_within s b))
  first_length f (Reading.FirstRule.in_network n file h) = refused_length f (omega (arith, answered_within n (file_formed s bytes n file) f h))

  reply_length : (t : List ℕ) → PlannerReply s t → length t ≤ 512
  reply_length _ (Replies.PlannerReply.plan n q cost l a p h) =
      let starts = network_starts s bytes n a in
      plan_length_lem n starts.0 starts.1 q cost l p h
  reply_length _ (Replies.PlannerReply.none n l a p h) = none_length n (file_formed s bytes n a.file) l h
  reply_length _ (Replies.PlannerReply.refused {f = f} b) = omega (arith, first_length f b)

  -- ---- the judge's line

  both_length : (f : Refusal) → FirstRuleBoth s f → length (refused_line f) ≤ 20
  both_length f (Judging.FirstRuleBoth.in_bytes b) = refused_length f (omega (arith, both_within s b))
  both_length f (Judging.FirstRuleBoth.in_network n p files h) = refused_length f (omega (arith, answered_within n (files_formed s bytes n p files).net f h))

  mark_length : (n : Network) (q : List Step) (m : Mark) → AcceptedPlan s n q → Marked (net_of n) q m → length (mark_line m) ≤ 64
  unfolding mark_line
  mark_length n q m a h = go m h
    where
      formed : BothFormed (record { net = n; plan = a.plan })
      formed = files_formed s bytes n a.plan a.files

      steps : length q ≤ 255
      steps = omega (arith, ap length a.steps, Steps.steps_length a.plan, formed.plan.steps_fit)

      go : (m : Mark) → Marked (net_of n) q m → length (mark_line m) ≤ 64
      go _ (Marks.broken {b = b} x) =
          let cut : length q ≡ length x.front + suc (length x.rest) = ap length x.whole ∙ length-append x.front (x.bad ∷ x.rest) in
          omega (
            arith,
            line_length broken_word b.step (reason_number b.reason),
            field_16 b.step (omega (arith, x.number, cut, steps)),
            field_16 (reason_number b.reason) (omega (arith, reasons b.reason)),
          )
      go _ (Marks.short {e = e} x) =
          omega (
            arith,
            length-append (short_word ++ field e) feed,
            length-append short_word (field e),
            field_16 e (omega (arith, x.below, elements_few n formed.net)),
          )
      go _ (Marks.valid {v = v} x) =
          let paid : v.cost ≤ 65535 * 255 + 12582720 = omega (arith, x.own, costs_within n formed.net (net_of n).start_closed q x.valid.good, steps) in
          omega (
            arith,
            line_length valid_word v.cost v.excess,
            field_64 v.cost (omega (arith, paid)),
            field_64 v.excess (omega (arith, paid, x.above)),
          )

  judged_length : (t : List ℕ) → JudgeReply s t → length t ≤ 64
  judged_length _ (Judging.marked n q {m = m} a h) = mark_length n q m a h
  judged_length _ (Judging.JudgeReply.refused {f = f} b) = omega (arith, both_length f b)

-- ---- for all bytes

take_bytes : (n : ℕ) (s : List ℕ) → Bytes s → Bytes (take n s)
take_bytes zero s bytes zero = omega arith
take_bytes zero s bytes (suc i) = omega arith
take_bytes (suc n) [] bytes zero = omega arith
take_bytes (suc n) [] bytes (suc i) = omega arith
take_bytes (suc n) (x ∷ xs) bytes zero = bytes 0
take_bytes (suc n) (x ∷ xs) bytes (suc i) = take_bytes n xs (λ k. bytes (suc k)) i

take_most : (n : ℕ) (s : List ℕ) → length (take n s) ≤ n
take_most zero s = omega arith
take_most (suc n) [] = omega arith
take_most (suc n) (x ∷ xs) = omega (arith, take_most n xs)

pub plan_text_short : (s : List ℕ) → Bytes s → length (plan_text s) ≤ 512
plan_text_short s bytes =
    subst (λ (t : List ℕ). length t ≤ 512) (ap lines_of (outcome_decided s))
    (reply_length (take decides s) (take_bytes decides s bytes) (take_most decides s) (plan_text (take decides s)) (planner_replies (take decides s) (take_bytes decides s bytes)))

pub mark_text_short : (s : List ℕ) → Bytes s → length (mark_text s) ≤ 64
mark_text_short s bytes =
    subst (λ (t : List ℕ). length t ≤ 64) (ap mark_line (mark_decided s))
    (judged_length (take decides s) (take_bytes decides s bytes) (take_most decides s) (mark_text (take decides s)) (judge_replies (take decides s) (take_bytes decides s bytes)))

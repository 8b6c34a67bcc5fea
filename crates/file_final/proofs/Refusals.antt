-- The rules of a trial final's input and what is read of it, both ways: each file's records end at one place or break one rule first, so what the paper says of a file gives what is read of it, and the other way round.
-- Assumes nothing.
use mathlib.Core.Path.{◌≡◌, refl, sym, ap, subst, ◌∙◌}
use mathlib.Core.Bool.{Bool, true, false}
use mathlib.Core.List.{List, ◌++◌}
use mathlib.Core.Logic.{◌↔◌}
use Prim.Native.Nat.{ℕ, ◌+◌, ◌<◌}
use native.Mathlib.Omega.{arith}
use lib.Dec.{ltb}
use lib.ListN.{length}
use borrow.Author.Tests.{ltb-true, ltb-false, lt-ltb}
use Rattle.network.specs.declared.Network.{Network}
use Rattle.network.specs.declared.refusal.Refusal.{Refusal}
use Rattle.network.specs.declared.refusal.Rule.TheVariants.{ByteAfterEnd}
use Rattle.network.specs.Refusals.{pick}
use Rattle.file_stages.specs.declared.Stage.{Stage}
use Rattle.file_fields.specs.Fields.{word}
use Rattle.file_network.specs.Runs.{Reading, refused, reached, read_on}
use Rattle.file_network.specs.NetworkFiles.{network_file}
use Rattle.file_network.specs.Inputs.{closed, network_input}
use Rattle.file_network.proofs.Sizes.{network_size, network_input_size}
use Rattle.file_plan.specs.declared.plan.Plan.{Plan}
use Rattle.file_plan.specs.PlanFiles.{plan_file}
use Rattle.file_plan.specs.Inputs.{plan_input, plan_input_by}
use Rattle.file_plan.proofs.Sizes.{plan_size}
use Rattle.file_refusals.specs.Files.{Stand, FirstBreak, network_stages, plan_stages, NetworkStands, PlanStands, PlanBreaks, KeepsNetwork}
use Rattle.file_refusals.proofs.Files.{stand_once, break_once, stand_unbroken, Ran}
use Rattle.file_refusals.proofs.Inputs.{network_ran, plan_ran, network_refused, network_kept, reached_keeps}
use Rattle.file_final.specs.declared.FinalRead.{FinalRead}
use Rattle.file_final.specs.Inputs.{two_plans, counted_on, second_behind_by, plans_behind, plans_behind_by, final_input, final_input_by, second_lent_by, plans_lent, plans_lent_by, files_input, files_input_by}
use Rattle.file_final.specs.Finals.{FirstBrokenFinal, in_network_part, in_first_part, in_second_part, behind_second, FirstBrokenPlan, in_plan_file, behind_plan_file, KeepsPlan, FirstBrokenFiles, in_network_file, in_first_file, in_second_file}
use Rattle.file_final.proofs.Apart.{closed_at, same_reply}

-- ---- what the paper says of records gives what is read of them

-- read whole, to this offset
pub record ReadTo {A : Type 0} (o : Reading A) (end : ℕ) : Type 0 where
  pub stage : Stage
  pub value : A
  pub is : o ≡ reached end stage value

module _ (s : List ℕ) (E K : ℕ) {A : Type 0} where
  ran_broken : {stages : List Stage} {at : ℕ} {f : Refusal} (o : Reading A) → Ran s E K stages at o → FirstBreak s E K stages at f → o ≡ refused f
  ran_broken (refused g) x b = ap refused (break_once s E K x b)
  ran_broken (reached end stage a) x b = absurd (stand_unbroken s E K x b)

  ran_stood : {stages : List Stage} {at end : ℕ} (o : Reading A) → Ran s E K stages at o → Stand s E K stages at end → ReadTo o end
  ran_stood (refused g) x b = absurd (stand_unbroken s E K b x)
  ran_stood (reached end stage a) x b = record { stage = stage; value = a; is = ap (λ (k : ℕ). reached k stage a) (stand_once s E K x b) }

-- rule 13
closed_before : {A : Type 0} (s : List ℕ) (end : ℕ) (stage : Stage) (a : A) → end < length s → closed s end stage a ≡ refused (record { rule = ByteAfterEnd; place = end })
closed_before s end stage a h = rw (lt-ltb end (length s) h)

-- ---- one input

module _ (s : List ℕ) where
  pub network_stood : {end : ℕ} → NetworkStands s end → ReadTo (network_file s) end
  network_stood x = ran_stood s (word s 4) (word s 6) (network_file s) (network_ran s) x

  pub plan_stood : {at end : ℕ} → PlanStands s at end → ReadTo (plan_file s (word s 6) at) end
  plan_stood {at} x = ran_stood s (word s 4) (word s 6) (plan_file s (word s 6) at) (plan_ran s (word s 4) (word s 6) at) x

  plan_broken : {at : ℕ} {f : Refusal} → PlanBreaks s at f → plan_file s (word s 6) at ≡ refused f
  plan_broken {at} x = ran_broken s (word s 4) (word s 6) (plan_file s (word s 6) at) (plan_ran s (word s 4) (word s 6) at) x

  -- the plan files in the network of the head's counts
  plans_in : {start : ℕ} (w : ReadTo (network_file s) start) (o : Reading FinalRead)
      → read_on (plan_file s (word s 6) start) (λ middle stage p. read_on (read_on (plan_file s (word s 6) middle) (closed s)) (two_plans w.value start middle p)) ≡ o
      → final_input s ≡ o
  unfolding final_input_by plans_behind_by second_behind_by plan_input_by
  plans_in {start} w o e =
      ap (λ (x : Reading Network). read_on x (λ start stage n. plans_behind s start n)) w.is
      ∙ subst (λ (k : ℕ). read_on (plan_file s k start) (λ middle stage p. read_on (read_on (plan_file s k middle) (closed s)) (two_plans w.value start middle p)) ≡ o)
      (sym (network_size s start w.stage w.value w.is).links.links_are) e

  pub second_in : {start middle : ℕ} (w : ReadTo (network_file s) start) (x : ReadTo (plan_file s (word s 6) start) middle) (o : Reading FinalRead)
      → read_on (read_on (plan_file s (word s 6) middle) (closed s)) (two_plans w.value start middle x.value) ≡ o → final_input s ≡ o
  second_in {start} w x o e =
      plans_in w o
      (ap (λ (y : Reading Plan). read_on y (λ middle stage p. read_on (read_on (plan_file s (word s 6) middle) (closed s)) (two_plans w.value start middle p))) x.is ∙ e)

  final_broken : {f : Refusal} → FirstBrokenFinal s f → final_input s ≡ refused f
  unfolding final_input_by
  final_broken (in_network_part x) =
      ap (λ (o : Reading Network). read_on o (λ start stage n. plans_behind s start n)) (ran_broken s (word s 4) (word s 6) (network_file s) (network_ran s) x)
  final_broken (in_first_part {start} {f} m x) =
      let w = network_stood m in
      plans_in w (refused f)
      (ap (λ (y : Reading Plan). read_on y (λ middle stage p. read_on (read_on (plan_file s (word s 6) middle) (closed s)) (two_plans w.value start middle p))) (plan_broken x))
  final_broken (in_second_part {start} {middle} {f} m x y) =
      let w = network_stood m in
      let v = plan_stood x in
      second_in w v (refused f) (ap (λ (z : Reading Plan). read_on (read_on z (closed s)) (two_plans w.value start middle v.value)) (plan_broken y))
  final_broken (behind_second {start} {middle} {end} m x y h) =
      let w = network_stood m in
      let v = plan_stood x in
      let u = plan_stood y in
      second_in w v (refused (record { rule = ByteAfterEnd; place = end }))
      (ap (λ (z : Reading Plan). read_on (read_on z (closed s)) (two_plans w.value start middle v.value)) u.is
      ∙ ap (λ (z : Reading Plan). read_on z (two_plans w.value start middle v.value)) (closed_before s end u.stage u.value h))

  -- what is read, in the paper's words: the first rule broken, or the places at which the files end
  record KeepsFinal (start middle : ℕ) : Type 0 where
    pub network : NetworkStands s start
    pub first : PlanStands s start middle
    pub second : PlanStands s middle (length s)

  abbrev FinalAs : Reading FinalRead → Type 0
  FinalAs (refused f) = FirstBrokenFinal s f
  FinalAs (reached at stage v) = KeepsFinal v.start v.middle

  final_read_as : FinalAs (final_input s)
  unfolding final_input_by plans_behind_by second_behind_by plan_input_by
  final_read_as = go (network_file s) refl (network_ran s)
    where
      second : (start middle : ℕ) (n : Network) (p : Plan) → NetworkStands s start → PlanStands s start middle → (o : Reading Plan) → plan_file s (word s 6) middle ≡ o
          → Ran s (word s 4) (word s 6) (plan_stages (word s (middle + 4))) middle o → FinalAs (read_on (read_on o (closed s)) (two_plans n start middle p))
      second start middle n p m x (refused f) e y = in_second_part m x y
      second start middle n p m x (reached end stage q) e y = ends (ltb end (length s)) refl
        where
          ends : (t : Bool) → ltb end (length s) ≡ t
              → FinalAs (read_on (pick t (refused (record { rule = ByteAfterEnd; place = end })) (reached end stage q)) (two_plans n start middle p))
          ends true t = behind_second m x y (ltb-true end (length s) t)
          ends false t =
              let whole : end ≡ length s = omega (arith, ltb-false end (length s) t, (plan_size s (word s 6) middle end stage q e).inside) in
              record { network = m; first = x; second = subst (PlanStands s middle) whole y }

      first : (start : ℕ) (n : Network) → NetworkStands s start → (o : Reading Plan) → plan_file s (word s 6) start ≡ o
          → Ran s (word s 4) (word s 6) (plan_stages (word s (start + 4))) start o
          → FinalAs (read_on o (λ middle stage p. read_on (read_on (plan_file s (word s 6) middle) (closed s)) (two_plans n start middle p)))
      first start n m (refused f) e x = in_first_part m x
      first start n m (reached middle stage p) e x =
          second start middle n p m x (plan_file s (word s 6) middle) refl (plan_ran s (word s 4) (word s 6) middle)

      go : (o : Reading Network) → network_file s ≡ o → Ran s (word s 4) (word s 6) (network_stages (word s 4) (word s 6)) 0 o
          → FinalAs (read_on o (λ start stage n. plans_behind s start n))
      go (refused f) e x = in_network_part x
      go (reached start stage n) e x =
          subst (λ (k : ℕ). FinalAs (read_on (plan_file s k start) (λ middle stage p. read_on (read_on (plan_file s k middle) (closed s)) (two_plans n start middle p))))
          (sym (network_size s start stage n e).links.links_are)
          (first start n x (plan_file s (word s 6) start) refl (plan_ran s (word s 4) (word s 6) start))

  -- an input is refused with this rule and place exactly where it is the first that it breaks
  pub final_refused : (f : Refusal) → (final_input s ≡ refused f) ↔ FirstBrokenFinal s f
  final_refused f = (λ e. subst FinalAs e final_read_as, final_broken)

-- ---- a plan file lent alone

module _ (t : List ℕ) (E K : ℕ) where
  plan_alone_ran : Ran t E K (plan_stages (word t 4)) 0 (plan_file t K 0)
  plan_alone_ran = plan_ran t E K 0

  pub keeps_read : KeepsPlan t E K → ReadTo (plan_input t K 0) (length t)
  unfolding plan_input_by
  keeps_read k =
      let w = ran_stood t E K (plan_file t K 0) plan_alone_ran k in
      record {
        stage = w.stage;
        value = w.value;
        is = ap (λ (o : Reading Plan). read_on o (closed t)) w.is ∙ closed_at t (length t) w.stage w.value (omega arith);
      }

  plan_alone_broken : {f : Refusal} → FirstBrokenPlan t E K f → plan_input t K 0 ≡ refused f
  unfolding plan_input_by
  plan_alone_broken (in_plan_file x) = ap (λ (o : Reading Plan). read_on o (closed t)) (ran_broken t E K (plan_file t K 0) plan_alone_ran x)
  plan_alone_broken (behind_plan_file {end} x h) =
      let w = ran_stood t E K (plan_file t K 0) plan_alone_ran x in
      ap (λ (o : Reading Plan). read_on o (closed t)) w.is ∙ closed_before t end w.stage w.value h

  abbrev PlanAs : Reading Plan → Type 0
  PlanAs (refused f) = FirstBrokenPlan t E K f
  PlanAs (reached at stage p) = KeepsPlan t E K

  plan_read_as : PlanAs (plan_input t K 0)
  unfolding plan_input_by
  plan_read_as = go (plan_file t K 0) refl plan_alone_ran
    where
      go : (o : Reading Plan) → plan_file t K 0 ≡ o → Ran t E K (plan_stages (word t 4)) 0 o → PlanAs (read_on o (closed t))
      go (refused f) e x = in_plan_file x
      go (reached end stage p) e x = ends (ltb end (length t)) refl
        where
          ends : (b : Bool) → ltb end (length t) ≡ b → PlanAs (pick b (refused (record { rule = ByteAfterEnd; place = end })) (reached end stage p))
          ends true b = behind_plan_file x (ltb-true end (length t) b)
          ends false b =
              let whole : end ≡ length t = omega (arith, ltb-false end (length t) b, (plan_size t K 0 end stage p e).inside) in
              subst (Stand t E K (plan_stages (word t 4)) 0) whole x

  pub plan_alone_refused : (f : Refusal) → (plan_input t K 0 ≡ refused f) ↔ FirstBrokenPlan t E K f
  plan_alone_refused f = (λ e. subst PlanAs e plan_read_as, plan_alone_broken)

  pub plan_alone_keeps : (at : ℕ) (stage : Stage) (p : Plan) → plan_input t K 0 ≡ reached at stage p → KeepsPlan t E K
  plan_alone_keeps at stage p e = subst PlanAs e plan_read_as

-- ---- files lent apart

-- the counts of a network that is read are those of its head
pub links_stated : (network : List ℕ) (at : ℕ) (stage : Stage) (n : Network) → network_input network ≡ reached at stage n → n.links ≡ word network 6
links_stated network at stage n e =
    (network_size network at stage n (network_input_size network at stage n e).0).links.links_are

module _ (network first second : List ℕ) where
  -- the plan files behind a network file that is read
  plans_apart : (at : ℕ) (stage : Stage) (n : Network) → network_input network ≡ reached at stage n → (o : Reading FinalRead)
      → read_on (counted_on (length network) (plan_input first (word network 6) 0))
      (λ at stage p. read_on (counted_on (length network + length first) (plan_input second (word network 6) 0)) (two_plans n (length network) (length network + length first) p)) ≡ o
      → files_input network first second ≡ o
  unfolding files_input_by plans_lent_by second_lent_by
  plans_apart at stage n e o h =
      ap (λ (x : Reading Network). read_on x (λ at stage n. plans_lent first second (length network) n)) e
      ∙ subst (λ (k : ℕ). read_on (counted_on (length network) (plan_input first k 0))
      (λ at stage p. read_on (counted_on (length network + length first) (plan_input second k 0)) (two_plans n (length network) (length network + length first) p)) ≡ o)
      (sym (links_stated network at stage n e)) h

  pub second_apart : (at : ℕ) (stage : Stage) (n : Network) → network_input network ≡ reached at stage n → (x : ReadTo (plan_input first (word network 6) 0) (length first))
      → (o : Reading FinalRead)
      → read_on (counted_on (length network + length first) (plan_input second (word network 6) 0)) (two_plans n (length network) (length network + length first) x.value) ≡ o
      → files_input network first second ≡ o
  second_apart at stage n e x o h =
      plans_apart at stage n e o
      (ap (λ (y : Reading Plan). read_on (counted_on (length network) y)
      (λ at stage p. read_on (counted_on (length network + length first) (plan_input second (word network 6) 0)) (two_plans n (length network) (length network + length first) p)))
      x.is ∙ h)

  files_broken : {f : Refusal} → FirstBrokenFiles network first second f → files_input network first second ≡ refused f
  unfolding files_input_by
  files_broken {f} (in_network_file x) =
      ap (λ (o : Reading Network). read_on o (λ at stage n. plans_lent first second (length network) n)) ((network_refused network f).1 x)
  files_broken (in_first_file {f} k x) =
      let r = network_kept network k in
      plans_apart r.0 r.1 r.2 r.3 (refused (record { rule = f.rule; place = length network + f.place }))
      (ap (λ (y : Reading Plan). read_on (counted_on (length network) y)
      (λ at stage p. read_on (counted_on (length network + length first) (plan_input second (word network 6) 0)) (two_plans r.2 (length network) (length network + length first) p)))
      (plan_alone_broken first (word network 4) (word network 6) x))
  files_broken (in_second_file {f} k j x) =
      let r = network_kept network k in
      let w = keeps_read first (word network 4) (word network 6) j in
      second_apart r.0 r.1 r.2 r.3 w (refused (record { rule = f.rule; place = length network + length first + f.place }))
      (ap (λ (y : Reading Plan). read_on (counted_on (length network + length first) y) (two_plans r.2 (length network) (length network + length first) w.value))
      (plan_alone_broken second (word network 4) (word network 6) x))

  abbrev FilesAs : Reading FinalRead → Type 0
  FilesAs (refused f) = FirstBrokenFiles network first second f
  FilesAs (reached at stage v) = Unit {0}

  files_read_as : FilesAs (files_input network first second)
  unfolding files_input_by plans_lent_by second_lent_by
  files_read_as = go (network_input network) refl
    where
      third : (n : Network) (p : Plan) → KeepsNetwork network → KeepsPlan first (word network 4) (word network 6) → (o : Reading Plan)
          → plan_input second (word network 6) 0 ≡ o
          → FilesAs (read_on (counted_on (length network + length first) o) (two_plans n (length network) (length network + length first) p))
      third n p k j (refused f) e = in_second_file k j ((plan_alone_refused second (word network 4) (word network 6) f).0 e)
      third n p k j (reached at stage q) e = tt

      next : (n : Network) → KeepsNetwork network → (o : Reading Plan) → plan_input first (word network 6) 0 ≡ o
          → FilesAs (read_on (counted_on (length network) o)
          (λ at stage p. read_on (counted_on (length network + length first) (plan_input second (word network 6) 0)) (two_plans n (length network) (length network + length first) p)))
      next n k (refused f) e = in_first_file k ((plan_alone_refused first (word network 4) (word network 6) f).0 e)
      next n k (reached at stage p) e =
          third n p k (plan_alone_keeps first (word network 4) (word network 6) at stage p e) (plan_input second (word network 6) 0) refl

      go : (o : Reading Network) → network_input network ≡ o → FilesAs (read_on o (λ at stage n. plans_lent first second (length network) n))
      go (refused f) e = in_network_file ((network_refused network f).0 e)
      go (reached at stage n) e =
          subst (λ (k : ℕ). FilesAs (read_on (counted_on (length network) (plan_input first k 0))
          (λ at stage p. read_on (counted_on (length network + length first) (plan_input second k 0)) (two_plans n (length network) (length network + length first) p))))
          (sym (links_stated network at stage n e))
          (next n (reached_keeps network at stage n e) (plan_input first (word network 6) 0) refl)

  pub files_refused : (f : Refusal) → (files_input network first second ≡ refused f) ↔ FirstBrokenFiles network first second f
  files_refused f = (λ e. subst FilesAs e files_read_as, files_broken)

  -- where the network file and the first plan file, lent apart, keep rules 1 to 13 and 20, the reading is that of the one input made of the three
  pub kept_same_reply : KeepsNetwork network → KeepsPlan first (word network 4) (word network 6) → files_input network first second ≡ final_input (network ++ first ++ second)
  kept_same_reply k j =
      let r = network_kept network k in
      let w = keeps_read first (word network 4) (word network 6) j in
      let whole : plan_input first r.2.links 0 ≡ reached (length first) w.stage w.value =
      subst (λ (x : ℕ). plan_input first x 0 ≡ reached (length first) w.stage w.value) (sym (links_stated network r.0 r.1 r.2 r.3)) w.is in
      same_reply network r.0 r.1 r.2 r.3 first (length first) w.stage w.value whole second

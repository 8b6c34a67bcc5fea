-- What a trial final's reader hands out is what the files state, and a refusal hands out nothing: both ways, by what is read of each file.
-- Assumes nothing.
use mathlib.Core.Path.{◌≡◌, refl, sym, ap, subst, ◌∙◌}
use mathlib.Core.List.{List}
use mathlib.Core.Logic.{◌↔◌}
use Prim.Native.Nat.{ℕ, ◌+◌}
use native.Mathlib.Omega.{arith}
use lib.ListN.{length}
use Rattle.std.specs.Prelude.{Ok, Err}
use Rattle.network.specs.declared.Network.{Network}
use Rattle.network.specs.declared.refusal.Refusal.{Refusal}
use Rattle.file_stages.specs.declared.Stage.{Stage}
use Rattle.file_fields.specs.Fields.{word}
use Rattle.file_network.specs.Runs.{Reading, reached, read_on}
use Rattle.file_network.specs.NetworkFiles.{network_file}
use Rattle.file_network.specs.Inputs.{closed}
use Rattle.file_network.proofs.Sizes.{network_size, network_input_size}
use Rattle.file_plan.specs.declared.plan.Plan.{Plan}
use Rattle.file_plan.specs.PlanFiles.{plan_file}
use Rattle.file_plan.specs.Inputs.{plan_input}
use Rattle.file_plan.proofs.Sizes.{plan_input_size}
use Rattle.file_refusals.specs.Files.{network_stages, plan_stages, PlanStands}
use Rattle.file_refusals.proofs.Files.{Ran}
use Rattle.file_refusals.proofs.Inputs.{network_ran, plan_ran, reached_keeps}
use Rattle.file_refusals.proofs.Stated.{file_states, states_once}
use Rattle.file_refusals.proofs.StatedPlan.{plan_states, plan_states_once}
use Rattle.file_refusals.proofs.Reading.{stated_read}
use Rattle.file_final.specs.declared.FinalRead.{FinalRead}
use Rattle.file_final.specs.Inputs.{two_plans, counted_on, final_input, files_input, final_read}
use Rattle.file_final.specs.Finals.{FirstBrokenFinal, FinalOf, PlanOf, FirstBrokenFiles, FilesOf}
use Rattle.file_final.proofs.Sizes.{FinalFiles, final_files, ApartFiles, apart_files}
use Rattle.file_final.proofs.Answers.{was_refused, was_whole}
use Rattle.file_final.proofs.Apart.{closed_at}
use Rattle.file_final.proofs.Refusals.{ReadTo, network_stood, plan_stood, second_in, final_refused, keeps_read, plan_alone_keeps, links_stated, second_apart, files_refused}

-- ---- one input

module _ (s : List ℕ) where
  -- the files that are read, in the paper's words
  final_of : (at : ℕ) (stage : Stage) (v : FinalRead) → FinalFiles s at stage v → FinalOf s v.net v.first v.second v.start v.middle
  final_of at stage v f =
      let links = (network_size s v.start f.due v.net f.network).links.links_are in
      let first : plan_file s (word s 6) v.start ≡ reached v.middle f.due_second v.first =
      subst (λ (k : ℕ). plan_file s k v.start ≡ reached v.middle f.due_second v.first) links f.first in
      let whole = plan_input_size s v.net.links v.middle at stage v.second f.second in
      let second : plan_file s (word s 6) v.middle ≡ reached at stage v.second =
      subst (λ (k : ℕ). plan_file s k v.middle ≡ reached at stage v.second) links whole.0 in
      record {
        network = subst (Ran s (word s 4) (word s 6) (network_stages (word s 4) (word s 6)) 0) f.network (network_ran s);
        first = subst (Ran s (word s 4) (word s 6) (plan_stages (word s (v.start + 4))) v.start) first (plan_ran s (word s 4) (word s 6) v.start);
        second = subst (PlanStands s v.middle) (sym whole.1)
            (subst (Ran s (word s 4) (word s 6) (plan_stages (word s (v.middle + 4))) v.middle) second (plan_ran s (word s 4) (word s 6) v.middle));
        states = file_states s v.start f.due v.net f.network;
        states_first = plan_states s (word s 4) (word s 6) v.start v.middle f.due_second v.first first;
        states_second = plan_states s (word s 4) (word s 6) v.middle at stage v.second second;
      }

  -- what the files state is what is read
  pub final_stated : (n : Network) (p q : Plan) (start middle : ℕ) → FinalOf s n p q start middle
      → (stage : Stage) × (final_input s ≡ reached (length s) stage (record { net = n; first = p; second = q; start = start; middle = middle; end = length s }))
  final_stated n p q start middle x =
      let w = network_stood s x.network in
      let v = plan_stood s x.first in
      let u = plan_stood s x.second in
      let net : ReadTo (network_file s) start =
      record { stage = w.stage; value = n; is = w.is ∙ ap (reached start w.stage) (states_once s start w.stage w.value w.is n x.states) } in
      let first : ReadTo (plan_file s (word s 6) start) middle =
      record {
        stage = v.stage;
        value = p;
        is = v.is ∙ ap (reached middle v.stage) (plan_states_once s (word s 4) (word s 6) start middle v.stage v.value v.is p x.states_first);
      } in
      let second : plan_file s (word s 6) middle ≡ reached (length s) u.stage q =
      u.is ∙ ap (reached (length s) u.stage) (plan_states_once s (word s 4) (word s 6) middle (length s) u.stage u.value u.is q x.states_second) in (
        u.stage,
        second_in s net first (two_plans n start middle p (length s) u.stage q)
            (ap (λ (z : Reading Plan). read_on (read_on z (closed s)) (two_plans n start middle p)) second
            ∙ ap (λ (z : Reading Plan). read_on z (two_plans n start middle p)) (closed_at s (length s) u.stage q (omega arith))),
      )

  -- refused with this rule and place exactly where it is the first that s breaks
  pub final_unread : (f : Refusal) → (final_read (final_input s) ≡ Err f) ↔ FirstBrokenFinal s f
  final_unread f = (λ e. (final_refused s f).0 (was_refused (final_input s) f e), λ b. ap final_read ((final_refused s f).1 b))

  -- read as this network with these plans exactly where s is their files
  pub final_read_lem : (n : Network) (p q : Plan) (start middle : ℕ) → (final_read (final_input s) ≡
      Ok (record { net = n; first = p; second = q; start = start; middle = middle; end = length s })) ↔ FinalOf s n p q start middle
  final_read_lem n p q start middle = (
    λ e.
        let w = was_whole (final_input s) _ e in
        final_of w.at w.stage _ (final_files s w.at w.stage _ w.is),
    λ x. ap final_read (final_stated n p q start middle x).1,
  )

-- ---- a plan file lent alone

module _ (t : List ℕ) (E K : ℕ) where
  plan_of : (at : ℕ) (stage : Stage) (p : Plan) → plan_input t K 0 ≡ reached at stage p → PlanOf t E K p
  plan_of at stage p e =
      record {
        keeps = plan_alone_keeps t E K at stage p e;
        states = plan_states t E K 0 at stage p (plan_input_size t K 0 at stage p e).0;
      }

  plan_stated : (p : Plan) (x : PlanOf t E K p) → (stage : Stage) × (plan_input t K 0 ≡ reached (length t) stage p)
  plan_stated p x =
      let w = keeps_read t E K x.keeps in
      let file = (plan_input_size t K 0 (length t) w.stage w.value w.is).0 in
      (w.stage, w.is ∙ ap (reached (length t) w.stage) (plan_states_once t E K 0 (length t) w.stage w.value file p x.states))

-- ---- files lent apart

module _ (network first second : List ℕ) where
  files_of : (at : ℕ) (stage : Stage) (v : FinalRead) → ApartFiles network first second at stage v → FilesOf network first second v.net v.first v.second
  files_of at stage v f =
      let links = links_stated network (length network) f.due v.net f.network_is in
      record {
        network_of_lem = record {
          keeps = reached_keeps network (length network) f.due v.net f.network_is;
          states = file_states network (length network) f.due v.net (network_input_size network (length network) f.due v.net f.network_is).0;
        };
        first_of = plan_of first (word network 4) (word network 6) (length first) f.due_second v.first
            (subst (λ (k : ℕ). plan_input first k 0 ≡ reached (length first) f.due_second v.first) links f.first_is);
        second_of = plan_of second (word network 4) (word network 6) (length second) stage v.second
            (subst (λ (k : ℕ). plan_input second k 0 ≡ reached (length second) stage v.second) links f.second_is);
      }

  abbrev stated : Network → Plan → Plan → FinalRead
  stated n p q =
      record { net = n; first = p; second = q; start = length network; middle = length network + length first; end = length network + length first + length second }

  pub files_stated : (n : Network) (p q : Plan) → FilesOf network first second n p q
      → (stage : Stage) × (files_input network first second ≡ reached (length network + length first + length second) stage (stated n p q))
  files_stated n p q x =
      let r = stated_read network n x.network_of_lem in
      let w = plan_stated first (word network 4) (word network 6) p x.first_of in
      let u = plan_stated second (word network 4) (word network 6) q x.second_of in (
        u.0,
        second_apart network first second r.0 r.1 n r.2 (record { stage = w.0; value = p; is = w.1 })
            (reached (length network + length first + length second) u.0 (stated n p q))
            (ap (λ (y : Reading Plan). read_on (counted_on (length network + length first) y) (two_plans n (length network) (length network + length first) p)) u.1),
      )

  pub files_unread : (f : Refusal) → (final_read (files_input network first second) ≡ Err f) ↔ FirstBrokenFiles network first second f
  files_unread f = (
    λ e. (files_refused network first second f).0 (was_refused (files_input network first second) f e),
    λ b. ap final_read ((files_refused network first second f).1 b),
  )

  pub files_read : (n : Network) (p q : Plan) → (final_read (files_input network first second) ≡ Ok (stated n p q)) ↔ FilesOf network first second n p q
  files_read n p q = (
    λ e.
        let w = was_whole (files_input network first second) _ e in
        files_of w.at w.stage _ (apart_files network first second w.at w.stage _ w.is),
    λ x. ap final_read (files_stated n p q x).1,
  )

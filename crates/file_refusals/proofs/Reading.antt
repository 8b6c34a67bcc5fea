-- Rules 1 to 13 and 20 and what is read, both ways, as the programs' readers answer them.
-- Assumes nothing.
use mathlib.Core.Path.{◌≡◌, refl, sym, ap, ap₂, subst, ◌∙◌}
use mathlib.Core.List.{List}
use mathlib.Core.Logic.{◌↔◌}
use Prim.Native.Nat.{ℕ, ◌+◌, ◌<◌}
use native.Mathlib.Omega.{arith}
use lib.ListN.{get_or}
use Rattle.std.specs.Prelude.{Ok, Err}
use Rattle.network.specs.declared.Network.{Network}
use Rattle.network.specs.Accepted.{WellFormed}
use Rattle.network.specs.declared.refusal.Refusal.{Refusal}
use Rattle.file_stages.specs.declared.Stage.{Stage}
use Rattle.file_fields.specs.Fields.{word}
use Rattle.file_network.specs.Runs.{Reading, refused, reached}
use Rattle.file_network.specs.Inputs.{network_input, network_read}
use Rattle.file_network.proofs.Sizes.{network_input_size, network_size}
use Rattle.file_network.proofs.Accepted.{network_well_formed}
use Rattle.file_plan.specs.declared.plan.Plan.{Plan}
use Rattle.file_plan.specs.PlanFiles.{plan_file}
use Rattle.file_both.specs.declared.Both.{Both}
use Rattle.file_both.specs.Inputs.{both_of, both_input, both_read}
use Rattle.file_both.proofs.Sizes.{BothSize, both_size}
use Rattle.file_refusals.specs.Files.{network_stages, plan_stages, NetworkStands, PlanStands, FirstBroken, FirstBrokenBoth}
use Rattle.file_refusals.specs.Stated.{States, StatesPlan, NetworkOf, BothOf}
use Rattle.file_refusals.proofs.Files.{stand_once, Ran}
use Rattle.file_refusals.proofs.Inputs.{network_ran, plan_ran, network_refused, network_kept, reached_keeps, both_refused, both_kept}
use Rattle.file_refusals.proofs.Stated.{file_states, states_once}
use Rattle.file_refusals.proofs.StatedPlan.{plan_states, plan_states_once}

-- ---- the planner's input

module _ (s : List ℕ) where
  -- refused with this rule and place exactly where it is the first that s breaks
  pub network_unread : (f : Refusal) → (network_read (network_input s) ≡ Err f) ↔ FirstBroken s f
  network_unread f = (λ e. go (network_input s) refl e, λ b. ap network_read ((network_refused s f).1 b))
    where
      go : (o : Reading Network) → network_input s ≡ o → network_read o ≡ Err f → FirstBroken s f
      go (refused g) e k = let same : g ≡ f = cc in (network_refused s f).0 (e ∙ ap refused same)
      go (reached at stage n) e k = let z : ◌≡◌ {A = ℕ} 0 1 = cc in absurd (omega arith)

  -- what s states is what is read, and it is well formed where s is bytes
  pub stated_read : (n : Network) → NetworkOf s n → (at : ℕ) × (stage : Stage) × (network_input s ≡ reached at stage n)
  stated_read n x =
      let k = network_kept s x.keeps in
      let same = states_once s k.0 k.1 k.2 (network_input_size s k.0 k.1 k.2 k.3).0 n x.states in
      (k.0, k.1, k.3 ∙ ap (reached k.0 k.1) same)

  pub file_formed : ((i : ℕ) → get_or s i 0 < 256) → (n : Network) → NetworkOf s n → WellFormed n
  file_formed bytes n x =
      let r = stated_read n x in
      network_well_formed s r.0 r.1 n bytes (network_input_size s r.0 r.1 n r.2).0

  -- read as n exactly where s is a network file that states n
  pub network_read_lem : (n : Network) → (network_read (network_input s) ≡ Ok n) ↔ NetworkOf s n
  network_read_lem n = (λ e. go (network_input s) refl e, λ x. ap network_read (stated_read n x).2)
    where
      go : (o : Reading Network) → network_input s ≡ o → network_read o ≡ Ok n → NetworkOf s n
      go (refused g) e k = let z : ◌≡◌ {A = ℕ} 0 1 = cc in absurd (omega arith)
      go (reached at stage m) e k =
          let same : m ≡ n = cc in
          record {
            keeps = reached_keeps s at stage m e;
            states = subst (States s) same (file_states s at stage m (network_input_size s at stage m e).0);
          }

-- ---- the judge's input

module _ (s : List ℕ) where
  pub both_unread : (f : Refusal) → (both_read (both_input s) ≡ Err f) ↔ FirstBrokenBoth s f
  both_unread f = (λ e. go (both_input s) refl e, λ b. ap both_read ((both_refused s f).1 b))
    where
      go : (o : Reading (Network × Plan)) → both_input s ≡ o → both_read o ≡ Err f → FirstBrokenBoth s f
      go (refused g) e k = let same : g ≡ f = cc in (both_refused s f).0 (e ∙ ap refused same)
      go (reached at stage x) e k = let z : ◌≡◌ {A = ℕ} 0 1 = cc in absurd (omega arith)

  -- the plan file, in the network of the head's counts
  plan_is : {at : ℕ} {stage : Stage} {n : Network} {p : Plan} (size : BothSize s at stage n p) → plan_file s (word s 6) size.middle ≡ reached at stage p
  plan_is {at} {stage} {n} {p} size =
      subst (λ (k : ℕ). plan_file s k size.middle ≡ reached at stage p)
      (network_size s size.middle size.due n size.network).links.links_are size.plan

  size_network : {at : ℕ} {stage : Stage} {n : Network} {p : Plan} (size : BothSize s at stage n p) → NetworkStands s size.middle
  size_network size = subst (Ran s (word s 4) (word s 6) (network_stages (word s 4) (word s 6)) 0) size.network (network_ran s)

  size_both : {at : ℕ} {stage : Stage} {n : Network} {p : Plan} → BothSize s at stage n p → BothOf s n p
  size_both {at} {stage} {n} {p} size =
      record {
        middle = size.middle;
        network = size_network size;
        plan = subst (PlanStands s size.middle) (sym size.ends)
            (subst (Ran s (word s 4) (word s 6) (plan_stages (word s (size.middle + 4))) size.middle) (plan_is size) (plan_ran s (word s 4) (word s 6) size.middle));
        states = file_states s size.middle size.due n size.network;
        states_plan = plan_states s (word s 4) (word s 6) size.middle at stage p (plan_is size);
      }

  -- what is read is what they state
  both_same : {at : ℕ} {stage : Stage} {m n : Network} {q p : Plan} → BothSize s at stage m q → BothOf s n p → (m ≡ n) × (q ≡ p)
  both_same {at} {stage} {m} {n} {q} {p} size x = (
    states_once s size.middle size.due m size.network n x.states,
    plan_states_once s (word s 4) (word s 6) size.middle at stage q (plan_is size) p
        (subst (λ (h : ℕ). StatesPlan s h p) (stand_once s (word s 4) (word s 6) x.network (size_network size)) x.states_plan),
  )

  pub both_read_lem : (n : Network) (p : Plan) → (both_read (both_input s) ≡ Ok (both_of (n, p))) ↔ BothOf s n p
  both_read_lem n p = (λ e. go (both_input s) refl e, back)
    where
      go : (o : Reading (Network × Plan)) → both_input s ≡ o → both_read o ≡ Ok (both_of (n, p)) → BothOf s n p
      go (refused g) e k = let z : ◌≡◌ {A = ℕ} 0 1 = cc in absurd (omega arith)
      go (reached at stage x) e k =
          let same : both_of x ≡ both_of (n, p) = cc in
          subst (λ (m : Network). BothOf s m p) (ap (λ (r : Both). r.net) same)
          (subst (BothOf s x.0) (ap (λ (r : Both). r.plan) same) (size_both (both_size s at stage x.0 x.1 e)))

      back : BothOf s n p → both_read (both_input s) ≡ Ok (both_of (n, p))
      back x =
          let k = both_kept s (record { middle = x.middle; network = x.network; plan = x.plan }) in
          let same = both_same (both_size s k.0 k.1 k.2.0 k.2.1 k.3) x in
          ap both_read k.3 ∙ ap₂ (λ (m : Network) (q : Plan). Ok (both_of (m, q))) same.0 same.1

-- Demands 1 and 2 as equivalences, and one answer for each: the outcome has three cases, and the promise of each refutes the other two.
-- Assumes nothing.
use mathlib.Core.Path.{◌≡◌, refl, sym, ap, ◌∙◌, subst}
use mathlib.Core.Bool.{Bool}
use mathlib.Core.List.{List}
use Prim.Native.Nat.{ℕ, ◌≤◌}
use native.Mathlib.Omega.{arith}
use lib.ListN.{take}
use Rattle.network.specs.declared.Network.{Network}
use Rattle.network.specs.declared.refusal.Refusal.{Refusal}
use Rattle.std.specs.Prelude.{Result}
use Rattle.feeding_start.specs.declared.Start.{Start}
use Rattle.file_network.specs.Deciding.{decides}
use Rattle.file_network.specs.Inputs.{network_read}
use Rattle.file_network.proofs.NetworkAlike.{network_decided}
use Rattle.file_network.specs.Runs as Runs
use Rattle.feeding.specs.Networks.{Net, net_of}
use Rattle.feeding.specs.Plans.{Step, ValidPlan, printed_form}
use Rattle.feeding.specs.Costs.{cost_of}
use Rattle.feeding_acceptance.specs.Reading.{accepted_read, Bytes, AcceptedNetwork, FirstRule}
use Rattle.feeding_acceptance.proofs.Promises as Admissions
use Rattle.feeding_acceptance.proofs.Promises.{admission_only, network_once, accepted_unrefused}
use Rattle.plan_problem.specs.Choosing.{Promised, NoPlan}
use Rattle.plan_problem.proofs.Preferring.{first_same}
use Rattle.plan_form.specs.Printing.{steps_of}
use Rattle.plan_sums.specs.declared.Sums.{Sums}
use Rattle.plan_outcome.specs.declared.Planned.{Planned}
use Rattle.plan_outcome.specs.declared.Reply.{Reply}
use Rattle.plan_outcome.specs.declared.Reply.TheVariants as Reply·
use Rattle.plan_outcome.specs.Outcomes.{outcome_read, outcome, outcome_by}
use Rattle.plan_outcome.proofs.Promises.{outcome_kept}

-- ---- exactly which outcome

module _ (s : List ℕ) (bytes : Bytes s) where
  -- "for an accepted network NONE is printed if and only if no such plan exists"
  pub none_exactly : (n : Network) → AcceptedNetwork s n
      → (((l : Sums) × ((outcome s).reply ≡ Reply·.NoPlan l)) → NoPlan (net_of n)) × (NoPlan (net_of n) → (l : Sums) × ((outcome s).reply ≡ Reply·.NoPlan l))
  none_exactly n a = (
    λ h. let kept = (outcome_kept s bytes).none h.0 h.1 in
        subst (λ (m : Network). NoPlan (net_of m)) (network_once s bytes kept.net n kept.accepted a) kept.no_plan,
    λ none. go none (outcome s).reply refl,
  )
    where
      go : NoPlan (net_of n) → (r : Reply) → (outcome s).reply ≡ r → (l : Sums) × ((outcome s).reply ≡ Reply·.NoPlan l)
      go none (Reply·.Plan p) e =
          let kept = (outcome_kept s bytes).plan p e in
          absurd (subst (λ (m : Network). NoPlan (net_of m)) (network_once s bytes n kept.net a kept.accepted) none (steps_of (outcome s).plan)
          kept.promised.valid)
      go none (Reply·.NoPlan l) e = (l, e)
      go none (Reply·.Refused f) e = absurd (accepted_unrefused s bytes n f a ((outcome_kept s bytes).refused f e))

  -- "by demand 2 every accepted one that has a valid plan"
  pub plan_exactly : (n : Network) → AcceptedNetwork s n → (q : List Step) → ValidPlan (net_of n) q → (p : Planned) × ((outcome s).reply ≡ Reply·.Plan p)
  plan_exactly n a q v = go (outcome s).reply refl
    where
      go : (r : Reply) → (outcome s).reply ≡ r → (p : Planned) × ((outcome s).reply ≡ Reply·.Plan p)
      go (Reply·.Plan p) e = (p, e)
      go (Reply·.NoPlan l) e = absurd ((none_exactly n a).0 (l, e) q v)
      go (Reply·.Refused f) e = absurd (accepted_unrefused s bytes n f a ((outcome_kept s bytes).refused f e))

  -- demand 1: what breaks a rule is refused by its first broken rule, with its place, and nothing else is refused
  pub refused_exactly : (f : Refusal) → (FirstRule s f → (outcome s).reply ≡ Reply·.Refused f) × ((outcome s).reply ≡ Reply·.Refused f → FirstRule s f)
  unfolding outcome_by outcome_read
  refused_exactly f = (
    λ r. ap (λ (x : Result Start Refusal). (outcome_read x).reply) (sym (admission_only s bytes _ (Admissions.refused r))),
    λ e. (outcome_kept s bytes).refused f e,
  )

-- "the first 8,192 bytes decide"
pub outcome_decided : (s : List ℕ) → outcome (take decides s) ≡ outcome s
unfolding outcome_by
outcome_decided s = ap (λ (o : Runs.Reading Network). outcome_read (accepted_read (network_read o))) (network_decided decides (omega arith) s)

-- ---- one promised plan

pub promised_unique : (net : Net) (p q : List Step) (a b : ℕ) → Promised net p a → Promised net q b → (a ≡ b) × (p ≡ q)
promised_unique net p q a b x y = (
  omega (arith, p_cost, q_cost, p_least, q_least),
  x.form ∙ ap (printed_form net) same ∙ sym y.form,
)
  where
    D : ℕ → Bool
    D = x.set

    D' : ℕ → Bool
    D' = y.set

    p_cost : a ≡ cost_of net p
    p_cost = x.own

    q_cost : b ≡ cost_of net q
    q_cost = y.own

    p_least : a ≤ cost_of net q
    p_least = (x.every q y.valid).at_least

    q_least : b ≤ cost_of net p
    q_least = (y.every p x.valid).at_least

    alike : cost_of net (printed_form net D') ≡ cost_of net (printed_form net D)
    alike = ap (cost_of net) (sym y.form) ∙ omega (arith, p_cost, q_cost, p_least, q_least) ∙ ap (cost_of net) x.form

    same : D ≡ D'
    same = first_same D D' (x.picked.first D' y.picked.restores alike) (y.picked.first D x.picked.restores (sym alike))

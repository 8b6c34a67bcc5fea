-- The same network with other guards has the same valid plans: no definition but those of cost reads a guard. Each law
-- goes one way; the first network is the second with the first one's guards, so the same law goes back.
-- Assumes nothing.
use mathlib.Core.List.{List, [], ◌∷◌}
use mathlib.Core.Logic.{◌↔◌, ◌⊎◌, inl, inr}
use Prim.Native.Nat.{ℕ}
use Rattle.feeding.specs.Networks.{Net, with_guards}
use Rattle.feeding.specs.Parts.{Config}
use Rattle.feeding.specs.Restoration.{Spoiled, Restorable, itself, beside, Waits, Operable}
use Rattle.feeding.specs.Plans.{Step, put, Good, ValidPlan}

spoiled_to : (net : Net) (guard : ℕ → ℕ) {e : ℕ} → Spoiled net e → Spoiled (with_guards net guard) e
spoiled_to net guard x = record { fault = x.fault; below = x.below; faulty = x.faulty; joined = x.joined }

module _ (net : Net) (guard : ℕ → ℕ) where
  abbrev other : Net
  other = with_guards net guard

  restorable_to : {e : ℕ} → Restorable net e → Restorable other e
  restorable_to (itself k s clean) = itself k s (λ x. clean (spoiled_to other net.guard x))
  restorable_to (beside l k t clean r) = beside l k t (λ x. clean (spoiled_to other net.guard x)) (restorable_to r)

  waits_to : {e : ℕ} → Waits net e → Waits other e
  waits_to w = record { dark = w.dark; restorable = restorable_to w.restorable }

  operable_to : {l : ℕ} → Operable net l → Operable other l
  operable_to o = record { below = o.below; switch = o.switch; waits = either o.waits }
    where
      either : {a b : ℕ} → Waits net a ⊎ Waits net b → Waits other a ⊎ Waits other b
      either (inl w) = inl (waits_to w)
      either (inr w) = inr (waits_to w)

  good_to : (c : Config) (q : List Step) → Good net (Operable net) c q → Good other (Operable other) c q
  unfolding Good
  good_to c [] h = h
  good_to c (s ∷ q) (g, rest) = (
    record { operable = operable_to g.operable; changes = g.changes; safe = g.safe },
    good_to (put c s.link s.want) q rest,
  )

valid_to : (net : Net) (guard : ℕ → ℕ) (q : List Step) → ValidPlan net q → ValidPlan (with_guards net guard) q
valid_to net guard q v = record {
  good = good_to net guard net.start_closed q v.good;
  meets = λ e k r. v.meets e k (restorable_to (with_guards net guard) net.guard r);
}

pub same_plans : (net : Net) (guard : ℕ → ℕ) (q : List Step) → ValidPlan net q ↔ ValidPlan (with_guards net guard) q
same_plans net guard q = (valid_to net guard q, valid_to (with_guards net guard) net.guard q)

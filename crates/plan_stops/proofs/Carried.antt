-- What the search carries along: the parts of a configuration by parents, and what each part holds; of these, the parts that wait.
-- Assumes nothing.
use Prim.Native.Nat.{ℕ, ◌+◌, ◌≤◌, ◌<◌}
use mathlib.Core.Path.{◌≡◌, refl, ap, ap₂, ◌∙◌}
use mathlib.Core.Bool.{Bool, true, false, ◌&&◌, and-false}
use mathlib.Core.List.{List}
use lib.Dec.{eqb}
use lib.ListN.{length}
use borrow.Author.Tests.{eqb-true, eq-eqb, ne_eqb}
use Rattle.feeding.specs.Below.{any_to, sum_to, gate}
use Rattle.feeding.specs.Networks.{Net, at}
use Rattle.feeding.specs.Parts.{Config, label, joined?, sound?, live?}
use Rattle.feeding.specs.Restoration.{restorable?}
use Rattle.feeding.proofs.Below.{eqb_comm, and_left, and_right, and_both}
use Rattle.feeding.proofs.Below.{any_to_in, any_to_out, any_to_ext}
use Rattle.feeding_parts.specs.Labelling.{Falls, root_of}
use Rattle.plan_stops.specs.Candidates.{radial?}
use Rattle.plan_stops.specs.Holding.{holding, has_source, has_fault, has_need, waits_for}
use Rattle.plan_stops.proofs.Holdings.{source_held, fault_held, need_held}

-- one of the elements that pass the test has the label x
unfoldable pub part_has? : Net → Config → (ℕ → Bool) → ℕ → Bool
part_has? net c f x = any_to net.grid.E (λ y. f y && eqb (label net.grid c y) x)

-- what the part with the label x holds
unfoldable pub part_holds : Net → Config → ℕ → ℕ
part_holds net c x = holding (part_has? net c (sound? net.grid) x) (part_has? net c net.grid.faulty x) (part_has? net c (restorable? net) x)

-- how many parts wait
unfoldable pub waiting_parts : Net → Config → ℕ
waiting_parts net c = sum_to net.grid.E (λ x. gate (eqb (label net.grid c x) x && waits_for (part_holds net c x)) 1)

-- parents and holdings stand for the parts of the radial configuration c; of `total` parts that waited, `served` no longer do
pub record CarriedParts (net : Net) (c : Config) (total served : ℕ) (parent holds : List ℕ) : Type 0 where
  pub fit : net.grid.E ≤ 64
  pub parent_long : length parent ≡ 64
  pub holds_long : length holds ≡ 64
  pub falls : Falls parent
  pub roots : (x : ℕ) → x < net.grid.E → root_of parent x ≡ label net.grid c x
  pub holds_is : (x : ℕ) → x < net.grid.E → label net.grid c x ≡ x → at holds x ≡ part_holds net c x
  pub radial : radial? net.grid c ≡ true
  pub counted : served + waiting_parts net c ≡ total

-- ---- what a part holds

module _ (net : Net) (c : Config) where
  pub part_in : (f : ℕ → Bool) (z e : ℕ) → e < net.grid.E → f e ≡ true → label net.grid c e ≡ z → part_has? net c f z ≡ true
  unfolding part_has?
  part_in f z e h p q = any_to_in net.grid.E _ e h (and_both (f e) _ p (eq-eqb _ _ q))

  pub part_out : (f : ℕ → Bool) (z : ℕ) → part_has? net c f z ≡ true
      → (e : ℕ) × (e < net.grid.E) × (f e ≡ true) × (label net.grid c e ≡ z)
  unfolding part_has?
  part_out f z h = go (any_to_out net.grid.E (λ y. f y && eqb (label net.grid c y) z) h)
    where
      go : (e : ℕ) × (e < net.grid.E) × ((f e && eqb (label net.grid c e) z) ≡ true)
          → (e : ℕ) × (e < net.grid.E) × (f e ≡ true) × (label net.grid c e ≡ z)
      go (e, k, p) = (e, k, and_left (f e) _ p, eqb-true _ _ (and_right (f e) _ p))

  -- an element is live where its part has a sound source
  pub live_part : (e : ℕ) → live? net.grid c e ≡ part_has? net c (sound? net.grid) (label net.grid c e)
  unfolding live? joined? part_has?
  live_part e = any_to_ext net.grid.E _ _ (λ s k.
      ap (λ (b : Bool). sound? net.grid s && b) (eqb_comm (label net.grid c e) (label net.grid c s)))

  pub holds_source : (z : ℕ) → has_source (part_holds net c z) ≡ part_has? net c (sound? net.grid) z
  unfolding part_holds
  holds_source z = source_held _ _ _

  pub holds_fault : (z : ℕ) → has_fault (part_holds net c z) ≡ part_has? net c net.grid.faulty z
  unfolding part_holds
  holds_fault z = fault_held _ _ _

  pub holds_need : (z : ℕ) → has_need (part_holds net c z) ≡ part_has? net c (restorable? net) z
  unfolding part_holds
  holds_need z = need_held _ _ _

  -- a part counts 1 where it waits, at its label
  unfoldable pub wait_at : ℕ → ℕ
  wait_at z = gate (eqb (label net.grid c z) z && waits_for (part_holds net c z)) 1

  pub waiting_sum : waiting_parts net c ≡ sum_to net.grid.E wait_at
  unfolding waiting_parts wait_at
  waiting_sum = refl

  pub wait_own : (z : ℕ) → label net.grid c z ≡ z → wait_at z ≡ gate (waits_for (part_holds net c z)) 1
  unfolding wait_at
  wait_own z h = rw (eq-eqb (label net.grid c z) z h)

  pub wait_none : (z : ℕ) → (label net.grid c z ≡ z → ⊥) → wait_at z ≡ 0
  unfolding wait_at
  wait_none z h = rw (ne_eqb (label net.grid c z) z h)

-- no part that waits at z, and one
pub wait_calm : (net : Net) (c : Config) (z : ℕ) → waits_for (part_holds net c z) ≡ false → wait_at net c z ≡ 0
unfolding wait_at
wait_calm net c z h = rw (h, and-false (eqb (label net.grid c z) z))

pub wait_one : (net : Net) (c : Config) (z : ℕ) → label net.grid c z ≡ z → waits_for (part_holds net c z) ≡ true → wait_at net c z ≡ 1
wait_one net c z own h = wait_own net c z own ∙ ap (λ (b : Bool). gate b 1) h

pub wait_same : (net : Net) (c c' : Config) (z : ℕ) → eqb (label net.grid c z) z ≡ eqb (label net.grid c' z) z
    → part_holds net c z ≡ part_holds net c' z → wait_at net c z ≡ wait_at net c' z
unfolding wait_at
wait_same net c c' z p q = ap₂ (λ (b : Bool) (h : ℕ). gate (b && waits_for h) 1) p q

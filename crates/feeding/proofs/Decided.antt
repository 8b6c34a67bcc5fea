-- The test of safety tells the safe configurations, and so do rules 14 to 17: each place is the lowest that breaks its rule, and E where none does.
-- Assumes nothing.
use Prim.Native.Nat.{ℕ, ◌<◌}
use mathlib.Core.Path.{◌≡◌, refl, sym, ◌∙◌}
use mathlib.Core.Bool.{Bool, true, false, not, false≢true}
use lib.Dec.{eqb, ltb}
use borrow.Author.Tests.{eqb-true, eqb-false, not-true}
use native.Mathlib.Omega.{arith}
use Rattle.std.specs.Prelude.{Result, Ok, Err}
use Rattle.network.specs.declared.refusal.Refusal.{Refusal}
use Rattle.network.specs.declared.refusal.Rule.{Rule}
use Rattle.network.specs.declared.refusal.Rule.TheVariants.{NotATree, TwoSources, FaultWithSource, Overloaded}
use Rattle.feeding.specs.Acceptance.{broken_at, safety}
use Rattle.feeding.specs.Below.{Lowest}
use Rattle.feeding.specs.Loads.{lowest_over}
use Rattle.feeding.specs.Networks.{Grid, Formed}
use Rattle.feeding.specs.Parts.{Config, Joined, Sound}
use Rattle.feeding.specs.Safety.{Tree, Paired, FaultLive, Safe, looped?, tree_place, pair_place, fault_place, safe?}
use Rattle.feeding.proofs.Forest.{safe_bridges}
use Rattle.feeding.proofs.Lows.{lowest_is, lowest_map, lowest_all, none_below, none_place}
use Rattle.feeding.proofs.Overloads.{over_lowest, none_over}
use Rattle.feeding.proofs.Tests.{paired?_in, paired?_out, fault_live?_in, fault_live?_out}
use Rattle.feeding.proofs.Trees.{looped_in, looped_out}

-- ---- the places of rules 14 to 16 (of rule 17: over_lowest)

module _ (g : Grid) (formed : Formed g) (c : Config) where
  pub tree_place_lem : Lowest g.E (λ e. ¬ Tree g c e) (tree_place g c)
  unfolding tree_place
  tree_place_lem = lowest_map g.E _ _ _ (looped_out g formed c) (λ e k h. go e h (looped? g c e) refl) (lowest_is g.E (looped? g c))
    where
      go : (e : ℕ) → ¬ Tree g c e → (t : Bool) → looped? g c e ≡ t → t ≡ true
      go e h true t = refl
      go e h false t = absurd (h (looped_in g formed c e t))

  pub pair_place_lem : Lowest g.E (Paired g c) (pair_place g c)
  unfolding pair_place
  pair_place_lem = lowest_map g.E _ _ _ (paired?_out g formed c) (λ e k r. paired?_in g formed c e r k) (lowest_is g.E _)

  pub fault_place_lem : Lowest g.E (FaultLive g c) (fault_place g c)
  unfolding fault_place
  fault_place_lem = lowest_map g.E _ _ _ (fault_live?_out g formed c) (λ e k r. fault_live?_in g formed c e r k) (lowest_is g.E _)

  pub trees_kept : ltb (tree_place g c) g.E ≡ false → (e : ℕ) → e < g.E → Tree g c e
  unfolding tree_place
  trees_kept h e k = looped_in g formed c e (lowest_all g.E (looped? g c) h e k)

-- ---- rules 14 to 17 are kept

pub record Kept (g : Grid) (c : Config) : Type 0 where
  pub tree : ltb (tree_place g c) g.E ≡ false
  pub pair : ltb (pair_place g c) g.E ≡ false
  pub fault : ltb (fault_place g c) g.E ≡ false
  pub load : ltb (lowest_over g c) g.E ≡ false

module _ (g : Grid) (formed : Formed g) (c : Config) where
  pub kept_safe_lem : Kept g c → Safe g c
  kept_safe_lem r = record {
    tree = trees;
    one = one;
    clear = λ e k f l. none_below g.E _ _ (fault_place_lem g formed c) r.fault e k (record { faulty = f; live = l });
    within = none_over g formed c (safe_bridges g formed c trees) r.load;
  }
    where
      trees : (e : ℕ) → e < g.E → Tree g c e
      trees = trees_kept g formed c r.tree

      one : (s t : ℕ) → Sound g s → Sound g t → Joined g c t s → s ≡ t
      one s t p q j = go (eqb s t) refl
        where
          go : (u : Bool) → eqb s t ≡ u → s ≡ t
          go true u = eqb-true s t u
          go false u = absurd (none_below g.E _ _ (pair_place_lem g formed c) r.pair s p.below
              (record { other = t; sound = p; other_sound = q; joined = j; apart = eqb-false s t u }))

  pub safe_kept : Safe g c → Kept g c
  safe_kept s = record {
    tree = none_place g.E _ _ (tree_place_lem g formed c) (λ e k no. no (s.tree e k));
    pair = none_place g.E _ _ (pair_place_lem g formed c) (λ e k r. r.apart (s.one e r.other r.sound r.other_sound r.joined));
    fault = none_place g.E _ _ (fault_place_lem g formed c) (λ e k r. s.clear e k r.faulty r.live);
    load = none_place g.E _ _ (over_lowest g formed c (safe_bridges g formed c s.tree))
        (λ e k r. r.above (s.within e r.via r.fed));
  }

-- ---- the test of safety, and the answer by rules 14 to 17

pub safe?_kept : (g : Grid) (c : Config) → safe? g c ≡ true → Kept g c
unfolding safe?
safe?_kept g c h = go (ltb (tree_place g c) g.E) refl (ltb (pair_place g c) g.E) refl (ltb (fault_place g c) g.E) refl h
  where
    go : (t : Bool) → ltb (tree_place g c) g.E ≡ t → (u : Bool) → ltb (pair_place g c) g.E ≡ u → (v : Bool) → ltb (fault_place g c) g.E ≡ v
        → elim t [ true ↦ false | false ↦ elim u [ true ↦ false | false ↦ elim v [ true ↦ false | false ↦ not (ltb (lowest_over g c) g.E) ] ] ] ≡ true
        → Kept g c
    go true t u p v q h = absurd (false≢true h)
    go false t true p v q h = absurd (false≢true h)
    go false t false p true q h = absurd (false≢true h)
    go false t false p false q h = record { tree = t; pair = p; fault = q; load = not-true _ h }

pub kept_safe? : (g : Grid) (c : Config) → Kept g c → safe? g c ≡ true
unfolding safe?
kept_safe? g c r = cc

pub broken : (g : Grid) (r : Rule) (p : ℕ) (rest : Result Unit Refusal) → ltb p g.E ≡ true → broken_at g r p rest ≡ Err (record { rule = r; place = p })
unfolding broken_at
broken g r p rest h = rw (h, broken_at)

pub unbroken : (g : Grid) (r : Rule) (p : ℕ) (rest : Result Unit Refusal) → ltb p g.E ≡ false → broken_at g r p rest ≡ rest
unfolding broken_at
unbroken g r p rest h = rw (h, broken_at)

accepts : (g : Grid) (r : Rule) (p : ℕ) (rest : Result Unit Refusal) → broken_at g r p rest ≡ Ok tt → (ltb p g.E ≡ false) × (rest ≡ Ok tt)
accepts g r p rest h = go (ltb p g.E) refl
  where
    go : (t : Bool) → ltb p g.E ≡ t → (t ≡ false) × (rest ≡ Ok tt)
    go true t = let q = broken g r p rest t in let z : ◌≡◌ {A = ℕ} 0 1 = cc in absurd (omega arith)
    go false t = (refl, sym (unbroken g r p rest t) ∙ h)

pub safety_kept : (g : Grid) (c : Config) → safety g c ≡ Ok tt → Kept g c
unfolding safety
safety_kept g c h =
    let t = accepts g NotATree (tree_place g c) _ h in
    let p = accepts g TwoSources (pair_place g c) _ t.1 in
    let f = accepts g FaultWithSource (fault_place g c) _ p.1 in
    record { tree = t.0; pair = p.0; fault = f.0; load = (accepts g Overloaded (lowest_over g c) _ f.1).0 }

pub kept_safety : (g : Grid) (c : Config) → Kept g c → safety g c ≡ Ok tt
unfolding safety
kept_safety g c r =
    unbroken g _ _ _ r.tree ∙ unbroken g _ _ _ r.pair ∙ unbroken g _ _ _ r.fault ∙ unbroken g _ _ _ r.load

pub safe?_sound : (g : Grid) → Formed g → (c : Config) → safe? g c ≡ true → Safe g c
safe?_sound g formed c h = kept_safe_lem g formed c (safe?_kept g c h)

pub safe?_complete : (g : Grid) → Formed g → (c : Config) → Safe g c → safe? g c ≡ true
safe?_complete g formed c s = kept_safe? g c (safe_kept g formed c s)

pub safety_safe : (g : Grid) (c : Config) → safety g c ≡ Ok tt → safe? g c ≡ true
safety_safe g c h = kept_safe? g c (safety_kept g c h)

pub safe_safety : (g : Grid) (c : Config) → safe? g c ≡ true → safety g c ≡ Ok tt
safe_safety g c h = kept_safety g c (safe?_kept g c h)

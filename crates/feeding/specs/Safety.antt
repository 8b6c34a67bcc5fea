-- Document 01, "Feeding": a safe configuration, and the places of refusals 14 to 17 in a configuration.
-- Assumes nothing.
use Rattle.std.specs.Prelude.{◌≡◌, Bool, true, false, not, ◌&&◌, ℕ, ◌<◌, eqb, ltb}
use Rattle.feeding.specs.Below.{any_to, lowest}
use Rattle.feeding.specs.Networks.{Grid, at}
use Rattle.feeding.specs.Parts.{Config, Joined, Sound, Live, labels_after, joined?, sound?, live?}
use Rattle.feeding.specs.Loads.{Within, lowest_over}

-- the configuration with the link l open
unfoldable pub without : Config → ℕ → Config
without c l m = c m && not (eqb m l)

-- the part of e "is a tree": each of its closed links is a bridge, that is, its ends are not joined without it
abbrev pub Tree : Grid → Config → ℕ → Type 0
Tree g c e = (l : ℕ) → l < g.K → c l ≡ true → Joined g c e (g.end_a l) → ¬ Joined g (without c l) (g.end_b l) (g.end_a l)

-- s is one of two sound sources of a part
pub record Paired (g : Grid) (c : Config) (s : ℕ) : Type 0 where
  pub other : ℕ
  pub sound : Sound g s
  pub other_sound : Sound g other
  pub joined : Joined g c other s
  pub apart : s ≡ other → ⊥

-- a faulty element in a part with a sound source
pub record FaultLive (g : Grid) (c : Config) (e : ℕ) : Type 0 where
  pub faulty : g.faulty e ≡ true
  pub live : Live g c e

-- "A configuration is safe if every part is a tree, no part has two sound sources, no part has both a faulty element and a sound source,
-- and (judged only where those three hold) the load at each live element is at most its capacity."
pub record Safe (g : Grid) (c : Config) : Type 0 where
  pub tree : (e : ℕ) → e < g.E → Tree g c e
  pub one : (s t : ℕ) → Sound g s → Sound g t → Joined g c t s → s ≡ t
  pub clear : (e : ℕ) → e < g.E → g.faulty e ≡ true → ¬ Live g c e
  pub within : Within g c

-- ---- what computes

-- the closed link l joins two elements that the closed links before it joined already
unfoldable pub loop_at : Grid → Config → ℕ → Bool
loop_at g c l = c l && eqb (at (labels_after g c l) (g.end_a l)) (at (labels_after g c l) (g.end_b l))

-- the part of e has such a link, so it is no tree
unfoldable pub looped? : Grid → Config → ℕ → Bool
looped? g c e = any_to g.K (λ l. loop_at g c l && joined? g c e (g.end_a l))

unfoldable pub paired? : Grid → Config → ℕ → Bool
paired? g c s = sound? g s && any_to g.E (λ t. sound? g t && (not (eqb s t) && joined? g c t s))

unfoldable pub fault_live? : Grid → Config → ℕ → Bool
fault_live? g c e = g.faulty e && live? g c e

-- the places of refusals 14 to 17; E where the rule is kept
unfoldable pub tree_place : Grid → Config → ℕ
tree_place g c = lowest g.E (looped? g c)

unfoldable pub pair_place : Grid → Config → ℕ
pair_place g c = lowest g.E (paired? g c)

unfoldable pub fault_place : Grid → Config → ℕ
fault_place g c = lowest g.E (fault_live? g c)

-- the capacities are judged only where the three others hold
unfoldable pub safe? : Grid → Config → Bool
safe? g c = elim (ltb (tree_place g c) g.E) [
  | true ↦ false
  | false ↦ elim (ltb (pair_place g c) g.E) [
    | true ↦ false
    | false ↦ elim (ltb (fault_place g c) g.E) [ true ↦ false | false ↦ not (ltb (lowest_over g c) g.E) ]
  ]
]

-- Document 01, "Feeding", and reason 3, "unsafe afterwards": when closing one open link of a safe configuration keeps it safe, said of the two parts that it joins.
-- Internal: the judge promises `Safe` of each configuration, and `safe_closes` and `closes_safe` say that this is the same.
-- Assumes nothing.
use Rattle.std.specs.Prelude.{◌≡◌, true, ◌⊎◌, ℕ, ◌<◌}
use Rattle.feeding.specs.Networks.{Grid}
use Rattle.feeding.specs.Parts.{Config, Joined, Sound}
use Rattle.feeding.specs.Loads.{Fed, load_at, Bears}
use Rattle.feeding.specs.Plans.{put}

-- e is in the part of one of the two ends of the link l
abbrev pub Beside : Grid → Config → ℕ → ℕ → Type 0
Beside g c l e = Joined g c e (g.end_a l) ⊎ Joined g c e (g.end_b l)

-- what "A configuration is safe if .." asks, without the loads, of the two parts that closing the open link l of c joins
pub record Joins (g : Grid) (c : Config) (l : ℕ) : Type 0 where
  -- "every part is a tree": the two ends are in different parts
  pub apart : ¬ Joined g c (g.end_b l) (g.end_a l)
  -- "no part has two sound sources": not both parts have one
  pub one : (s t : ℕ) → Sound g s → Sound g t → Joined g c s (g.end_a l) → ¬ Joined g c t (g.end_b l)
  -- "no part has both a faulty element and a sound source": where one of the parts has a sound source, neither has a faulty element
  pub clear : (s e : ℕ) → Sound g s → Beside g c l s → e < g.E → g.faulty e ≡ true → ¬ Beside g c l e

-- and with the loads
pub record Closes (g : Grid) (c : Config) (l : ℕ) : Type 0 where
  pub joins : Joins g c l
  -- "(judged only where those three hold) the load at each live element is at most its capacity": where one of the parts has a sound source, at
  -- each element of the joined part
  pub within : (s : ℕ) → Sound g s → Beside g c l s → (e via : ℕ) → Beside g c l e → Fed g (put c l true) e via
      → Bears g e (load_at g (put c l true) e via)

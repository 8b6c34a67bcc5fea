-- Document 01, "Feeding": configuration, part, sound source, live.
-- Assumes nothing.
use Rattle.std.specs.Prelude.{◌≡◌, Bool, true, false, not, cond, ◌&&◌, ◌||◌, List, map, ℕ, zero, suc, ◌<◌, eqb, leb}
use Rattle.feeding.specs.Below.{any_to, tabulate}
use Rattle.feeding.specs.Networks.{Grid, at, is_in}

-- "A configuration says of each switch whether it is closed". "Fixed links are always closed": they are at the start (`is_closed`), and no step opens one (`Operable`)
abbrev pub Config : Type 0
Config = ℕ → Bool

-- c' closes no link that c leaves open
abbrev pub Opened : Config → Config → Type 0
Opened c' c = (l : ℕ) → c' l ≡ true → c l ≡ true

-- states held as numbers, 1 for closed
abbrev pub closed_in : List ℕ → Config
closed_in states l = is_in states l

-- e is an end of the link l, and the other end then
unfoldable pub touches : Grid → ℕ → ℕ → Bool
touches g l e = eqb (g.end_a l) e || eqb (g.end_b l) e

unfoldable pub far : Grid → ℕ → ℕ → ℕ
far g l e = cond (eqb (g.end_a l) e) (g.end_b l) (g.end_a l)

-- "A part is a maximal set of elements joined by closed links": closed links lead from a to d
pub data Joined (g : Grid) (c : Config) (d : ℕ) : ℕ → Type 0 where
  here : Joined g c d d
  over : {a : ℕ} (l : ℕ) → l < g.K → c l ≡ true → touches g l a ≡ true → Joined g c d (far g l a) → Joined g c d a

-- "A sound source is a source that isn't faulty."
pub record Sound (g : Grid) (s : ℕ) : Type 0 where
  pub below : s < g.E
  pub source : g.source s ≡ true
  pub sound : g.faulty s ≡ false

-- "An element is live if its part has a sound source, else dark."
pub record Live (g : Grid) (c : Config) (e : ℕ) : Type 0 where
  pub source : ℕ
  pub sound : Sound g source
  pub joined : Joined g c source e

-- ---- what computes

-- Each closed link in turn gives the lower label of its two ends' parts to both parts; at first each element is a part of its own.
-- So the label is the lowest element of the part.
unfoldable pub relabel : ℕ → ℕ → ℕ → ℕ
relabel x y z = cond (eqb z x) y z

-- the labels x and y become the lower of the two
unfoldable pub merge : ℕ → ℕ → List ℕ → List ℕ
merge x y ls = elim (leb x y) [ true ↦ map (relabel y x) ls | false ↦ map (relabel x y) ls ]

-- a closed link between the elements i and j
unfoldable pub link : ℕ → ℕ → List ℕ → List ℕ
link i j ls = merge (at ls i) (at ls j) ls

-- the labels of m elements after the first n links, where link l joins a l and b l
unfoldable pub labels : (m : ℕ) (a b : ℕ → ℕ) → Config → ℕ → List ℕ
labels m a b c zero = tabulate m (λ e. e)
labels m a b c (suc n) = elim (c n) [ true ↦ link (a n) (b n) (labels m a b c n) | false ↦ labels m a b c n ]

abbrev pub labels_after : Grid → Config → ℕ → List ℕ
labels_after g c n = labels g.E g.end_a g.end_b c n

unfoldable pub label : Grid → Config → ℕ → ℕ
label g c e = at (labels_after g c g.K) e

unfoldable pub joined? : Grid → Config → ℕ → ℕ → Bool
joined? g c d a = eqb (label g c a) (label g c d)

unfoldable pub sound? : Grid → ℕ → Bool
sound? g s = g.source s && not (g.faulty s)

unfoldable pub live? : Grid → Config → ℕ → Bool
live? g c e = any_to g.E (λ s. sound? g s && joined? g c s e)

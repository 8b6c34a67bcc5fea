-- Document 01, "Feeding": the load at a live element, and what a link carries.
-- Assumes nothing.
use Rattle.std.specs.Prelude.{◌≡◌, Bool, true, false, not, ◌&&◌, ℕ, zero, suc, ◌+◌, ◌*◌, ◌<◌, ◌≤◌, min, eqb, ltb, ℤ, pos, ◌-ℤ◌, ◌≤ℤ◌}
use Rattle.std.specs.Int.Signed.{le_z}
use Rattle.feeding.specs.Below.{sum_to, least_to}
use Rattle.feeding.specs.Networks.{Grid}
use Rattle.feeding.specs.Parts.{Config, touches, far, Sound, sound?}

-- "each closed link leading away from the source": a closed link of e other than the one that leads to it
unfoldable pub leads : Grid → Config → ℕ → ℕ → ℕ → Bool
leads g c e via l = c l && (touches g l e && not (eqb l via))

-- e is reached from a sound source over the link `via`; the source itself by none, which is the number K
pub data Fed (g : Grid) (c : Config) : ℕ → ℕ → Type 0 where
  at_source : {s : ℕ} → Sound g s → Fed g c s g.K
  onward : {e via : ℕ} (l : ℕ) → l < g.K → leads g c e via l ≡ true → Fed g c e via → Fed g c (far g l e) l

-- "The load at a live element is its own load plus what each closed link leading away from the source carries; a link carries the load
-- at its far element": the load at e, reached over `via`, and what the link l carries away from e. Each call takes one off the depth;
-- `load_equation` says that a depth of 2 * E is enough.
unfoldable mutual
  pub element_load : Grid → Config → ℕ → ℕ → ℕ → ℕ
  element_load g c zero e via = g.load e
  element_load g c (suc d) e via = g.load e + sum_to g.K (λ l. elim (leads g c e via l) [ true ↦ link_load g c d l e | false ↦ zero ])

  pub link_load : Grid → Config → ℕ → ℕ → ℕ → ℕ
  link_load g c zero l e = zero
  link_load g c (suc d) l e = element_load g c d (far g l e) l

abbrev pub load_at : Grid → Config → ℕ → ℕ → ℕ
load_at g c e via = element_load g c (2 * g.E) e via

-- e is fed over exactly one link, or is a source and fed over none
pub record FedOnce (g : Grid) (c : Config) (e : ℕ) : Type 0 where
  pub via : ℕ
  pub fed : Fed g c e via
  pub only : (w : ℕ) → Fed g c e w → w ≡ via

-- Document 02, item 5: "The load test of an element .. gives capacity minus load as a signed number". The one place where a load
-- meets a capacity.
unfoldable pub margin : (capacity load : ℕ) → ℤ
margin capacity load = pos capacity -ℤ pos load

-- it is not negative
abbrev pub borne? : (capacity load : ℕ) → Bool
borne? capacity load = le_z (pos 0) (margin capacity load)

-- the element e bears the load x; `bears_le` and `le_bears` say that the load is then at most the capacity, and the other way round
abbrev pub Bears : Grid → ℕ → ℕ → Type 0
Bears g e x = pos 0 ≤ℤ margin (g.capacity e) x

abbrev pub bears? : Grid → ℕ → ℕ → Bool
bears? g e x = borne? (g.capacity e) x

-- "the load at each live element is at most its capacity"
abbrev pub Within : Grid → Config → Type 0
Within g c = (e via : ℕ) → Fed g c e via → Bears g e (load_at g c e via)

-- a live element that is loaded above its capacity
pub record Overloaded (g : Grid) (c : Config) (e : ℕ) : Type 0 where
  pub via : ℕ
  pub fed : Fed g c e via
  pub above : ¬ Bears g e (load_at g c e via)

-- the margin of e, reached over `via`
abbrev pub margin_at : Grid → Config → ℕ → ℕ → ℤ
margin_at g c e via = margin (g.capacity e) (load_at g c e via)

-- e is live, and its margin is m
pub record MarginOf (g : Grid) (c : Config) (e : ℕ) (m : ℤ) : Type 0 where
  pub via : ℕ
  pub fed : Fed g c e via
  pub is : m ≡ margin_at g c e via

-- "the live element with the least margin .., lowest element on a tie"
pub record Tightest (g : Grid) (c : Config) (e : ℕ) (m : ℤ) : Type 0 where
  pub own : MarginOf g c e m
  pub least : (x : ℕ) (k : ℤ) → MarginOf g c x k → m ≤ℤ k
  pub lowest : (x : ℕ) → MarginOf g c x m → e ≤ x

-- ---- what computes: the lowest overloaded element from e onward, and over the link l away from e; E where there is none

-- e where it does not bear the load x, else E
unfoldable pub above : Grid → ℕ → ℕ → ℕ
above g e x = elim (bears? g e x) [ true ↦ g.E | false ↦ e ]

unfoldable mutual
  pub element_over : Grid → Config → ℕ → ℕ → ℕ → ℕ
  element_over g c zero e via = above g e (element_load g c zero e via)
  element_over g c (suc d) e via =
      min (above g e (element_load g c (suc d) e via))
      (least_to g.K g.E (λ l. elim (leads g c e via l) [ true ↦ link_over g c d l e | false ↦ g.E ]))

  pub link_over : Grid → Config → ℕ → ℕ → ℕ → ℕ
  link_over g c zero l e = g.E
  link_over g c (suc d) l e = element_over g c d (far g l e) l

-- the walk from the source s meets no element above its capacity
unfoldable pub within_from? : Grid → Config → ℕ → Bool
within_from? g c s = not (ltb (element_over g c (2 * g.E) s g.K) g.E)

-- over the walks from all sound sources
unfoldable pub lowest_over : Grid → Config → ℕ
lowest_over g c = least_to g.E g.E (λ s. elim (sound? g s) [ true ↦ element_over g c (2 * g.E) s g.K | false ↦ g.E ])

-- The numbers that a search carries for the parts, one link more: joined parts are carried again, and where a source does not bear what is joined to it,
-- no configuration with these links closed is supplied.
-- Assumes nothing.
use Prim.Native.Nat.{ℕ, ◌+◌, ◌-◌, ◌≤◌, ◌<◌, min}
use mathlib.Core.Path.{◌≡◌, refl, sym, ap, ap₂, ◌∙◌}
use mathlib.Core.Logic.{◌⊎◌, inl, inr}
use mathlib.Core.Bool.{Bool, true, false, ◌||◌, false≢true}
use mathlib.Core.List.{List}
use lib.Dec.{leb}
use lib.ListN.{length, set, length-set}
use lib.Seq.{get_or-set_same, get_or-set_other}
use borrow.Author.Tests.{leb-true, leb-false}
use native.Mathlib.Omega.{arith}
use Rattle.feeding.specs.Networks.{Grid, Net, Formed, at}
use Rattle.feeding.specs.Parts.{Config, Sound, label, sound?}
use Rattle.feeding.specs.Plans.{put}
use Rattle.feeding.proofs.Tests.{sound?_in, sound?_out}
use Rattle.plan_stops.specs.Holding.{has_source, clash, together}
use Rattle.plan_stops.proofs.Carried.{part_holds, part_in, part_out, holds_source}
use Rattle.plan_stops.proofs.Holdings.{source_held, sources, clash_in}
use Rattle.plan_stops.proofs.Merging.{holds_low, holds_other}
use Rattle.plan_stops.proofs.OneMore.{same?, Moved, lowers, stays, low_one, end_lt, end_label, moved, to_low}
use Rattle.plan_stops.specs.Supply.{part_asks, supplied?}
use Rattle.plan_stops.specs.Searching.{bears, carried_on}
use Rattle.plan_stops.proofs.Supplied.{supplied_in, supplied_not, asks_low, asks_other}

-- the numbers stand for the parts of c: without a source what the part asks, with one what is left of the source's capacity
pub record Weighed (net : Net) (asks : ℕ → ℕ) (c : Config) (spare : List ℕ) : Type 0 where
  pub long : length spare ≡ 64
  pub dark : (x : ℕ) → x < net.grid.E → label net.grid c x ≡ x → has_source (part_holds net c x) ≡ false
      → at spare x ≡ part_asks net.grid asks c x
  pub fed : (s : ℕ) → Sound net.grid s
      → at spare (label net.grid c s) + part_asks net.grid asks c (label net.grid c s) ≡ net.grid.capacity s

-- so every source bears its part
pub weighed_supplied : (net : Net) (asks : ℕ → ℕ) (c : Config) (spare : List ℕ) → Weighed net asks c spare → supplied? net.grid asks c ≡ true
weighed_supplied net asks c spare r = supplied_in net.grid asks c (record { bears = λ s p. omega (arith, r.fed s p) })

-- ---- by what the two parts hold

module _ (x y a b : ℕ) where
  bears_first : has_source x ≡ true → bears x y a b ≡ leb b a
  unfolding bears
  bears_first h = rw (h, bears)

  bears_second : has_source x ≡ false → has_source y ≡ true → bears x y a b ≡ leb a b
  unfolding bears
  bears_second h k = rw (h, k, bears)

  bears_neither : has_source x ≡ false → has_source y ≡ false → bears x y a b ≡ true
  unfolding bears
  bears_neither h k = rw (h, k, bears)

  on_first : has_source x ≡ true → carried_on x y a b ≡ a - b
  unfolding carried_on
  on_first h = rw (h, carried_on)

  on_second : has_source x ≡ false → has_source y ≡ true → carried_on x y a b ≡ b - a
  unfolding carried_on
  on_second h k = rw (h, k, carried_on)

  on_neither : has_source x ≡ false → has_source y ≡ false → carried_on x y a b ≡ a + b
  unfolding carried_on
  on_neither h k = rw (h, k, carried_on)

together_source : (x y : ℕ) → has_source (together x y) ≡ (has_source x || has_source y)
unfolding together
together_source x y = source_held _ _ _

or_none : (a b : Bool) → (a || b) ≡ false → (a ≡ false) × (b ≡ false)
or_none true b h = absurd (false≢true (sym h))
or_none false b h = (refl, h)

-- ---- one link more

module _ (net : Net) (formed : Formed net.grid) (asks : ℕ → ℕ) (c : Config) (spare : List ℕ) (r : Weighed net asks c spare)
    (fit : net.grid.E ≤ 64) (l : ℕ) (k : l < net.grid.K) (x y : ℕ)
    (is_x : x ≡ label net.grid c (net.grid.end_a l)) (is_y : y ≡ label net.grid c (net.grid.end_b l))
    (apart : x ≡ y → ⊥) (calm : clash (part_holds net c x) (part_holds net c y) ≡ false) where
  abbrev g : Grid
  g = net.grid

  abbrev hx : ℕ
  hx = part_holds net c x

  abbrev hy : ℕ
  hy = part_holds net c y

  abbrev a : ℕ
  a = at spare x

  abbrev b : ℕ
  b = at spare y

  below : (z : ℕ) → (z ≡ x) ⊎ (z ≡ y) → z < g.E
  below = end_lt g formed c l k x y is_x is_y

  own : (z : ℕ) → (z ≡ x) ⊎ (z ≡ y) → label g c z ≡ z
  own = end_label g formed c l k x y is_x is_y

  -- a part without a source has the number that it asks
  dark_x : has_source hx ≡ false → a ≡ part_asks g asks c x
  dark_x h = r.dark x (below x (inl refl)) (own x (inl refl)) h

  dark_y : has_source hy ≡ false → b ≡ part_asks g asks c y
  dark_y h = r.dark y (below y (inr refl)) (own y (inr refl)) h

  -- one of them has no source
  single : has_source hx ≡ true → has_source hy ≡ false
  single h = go (has_source hy) refl
    where
      go : (t : Bool) → has_source hy ≡ t → t ≡ false
      go true t = absurd (false≢true (sym calm ∙ clash_in _ _ (sources h t)))
      go false t = refl

  holds : (z s : ℕ) → Sound g s → label g c s ≡ z → has_source (part_holds net c z) ≡ true
  holds z s p q = holds_source net c z ∙ part_in net c (sound? g) z s p.below (sound?_in g s p) q

  low_asks : part_asks g asks (put c l true) (min x y) ≡ part_asks g asks c x + part_asks g asks c y
  low_asks = asks_low g formed asks c l k x y is_x is_y apart

  -- what the source s of x, or of y, has to bear then
  at_first : (s : ℕ) → Sound g s → label g c s ≡ x → a + part_asks g asks c x ≡ g.capacity s
  at_first s p o = ap (λ (z : ℕ). at spare z + part_asks g asks c z) (sym o) ∙ r.fed s p

  at_second : (s : ℕ) → Sound g s → label g c s ≡ y → b + part_asks g asks c y ≡ g.capacity s
  at_second s p o = ap (λ (z : ℕ). at spare z + part_asks g asks c z) (sym o) ∙ r.fed s p

  pub weighed_join : bears (part_holds net c x) (part_holds net c y) (at spare x) (at spare y) ≡ true
      → Weighed net asks (put c l true) (set spare (min x y) (carried_on (part_holds net c x) (part_holds net c y) (at spare x) (at spare y)))
  weighed_join fits = record {
    long = length-set spare (min x y) _ ∙ r.long;
    dark = λ z kz o h. dark z kz o h (same? z (min x y));
    fed = λ s p. fed s p (moved g formed c l k x y is_x is_y s p.below);
  }
    where
      new : List ℕ
      new = set spare (min x y) (carried_on hx hy a b)

      at_low : at new (min x y) ≡ carried_on hx hy a b
      at_low = get_or-set_same spare (min x y) _ 0 (omega (arith, r.long, fit, below (min x y) (low_one x y)))

      at_other : (z : ℕ) → (z ≡ min x y → ⊥) → at new z ≡ at spare z
      at_other z n = get_or-set_other spare (min x y) z _ 0 n

      dark : (z : ℕ) → z < g.E → label g (put c l true) z ≡ z → has_source (part_holds net (put c l true) z) ≡ false → (z ≡ min x y) ⊎ (z ≡ min x y → ⊥)
          → at new z ≡ part_asks g asks (put c l true) z
      dark z kz o h (inl e) = rw e (at_low ∙ on_neither hx hy a b none.0 none.1 ∙ ap₂ ◌+◌ (dark_x none.0) (dark_y none.1) ∙ sym low_asks)
        where
          none : (has_source hx ≡ false) × (has_source hy ≡ false)
          none = or_none _ _ (sym (together_source hx hy) ∙ sym (ap has_source (holds_low net formed c l k x y is_x is_y)) ∙ ap (λ (w : ℕ). has_source (part_holds net (put c l true) w)) (sym e) ∙ h)
      dark z kz o h (inr n) = go (moved g formed c l k x y is_x is_y z kz)
        where
          go : Moved x y (label g c z) (label g (put c l true) z) → at new z ≡ part_asks g asks (put c l true) z
          go (lowers _ q) = absurd (n (sym o ∙ q))
          go (stays nx ny q) =
              at_other z n
              ∙ r.dark z kz (sym q ∙ o) (ap has_source (sym (holds_other net formed c l k x y is_x is_y z zx zy)) ∙ h)
              ∙ sym (asks_other g formed asks c l k x y is_x is_y z zx zy)
            where
              zx : z ≡ x → ⊥
              zx e = nx (sym q ∙ o ∙ e)

              zy : z ≡ y → ⊥
              zy e = ny (sym q ∙ o ∙ e)

      fed : (s : ℕ) → Sound g s → Moved x y (label g c s) (label g (put c l true) s)
          → at new (label g (put c l true) s) + part_asks g asks (put c l true) (label g (put c l true) s) ≡ g.capacity s
      fed s p (lowers (inl o) q) =
          rw q (omega (
            arith,
            at_low,
            on_first hx hy a b first,
            low_asks,
            at_first s p o,
            dark_y (single first),
            leb-true b a (sym (bears_first hx hy a b first) ∙ fits),
          ))
        where
          first : has_source hx ≡ true
          first = holds x s p o
      fed s p (lowers (inr o) q) = go (has_source hx) refl
        where
          second : has_source hy ≡ true
          second = holds y s p o

          go : (t : Bool) → has_source hx ≡ t
              → at new (label g (put c l true) s) + part_asks g asks (put c l true) (label g (put c l true) s) ≡ g.capacity s
          go true t = absurd (false≢true (sym (single t) ∙ second))
          go false t =
              rw q (omega (
                arith,
                at_low,
                on_second hx hy a b t second,
                low_asks,
                at_second s p o,
                dark_x t,
                leb-true a b (sym (bears_second hx hy a b t second) ∙ fits),
              ))
      fed s p (stays nx ny q) =
          rw q (ap₂ ◌+◌ (at_other (label g c s) (λ e. low (low_one x y) e)) (asks_other g formed asks c l k x y is_x is_y (label g c s) nx ny) ∙ r.fed s p)
        where
          low : (min x y ≡ x) ⊎ (min x y ≡ y) → label g c s ≡ min x y → ⊥
          low (inl o) e = nx (e ∙ o)
          low (inr o) e = ny (e ∙ o)

  -- a source that does not bear what is joined to it
  pub joined_unsupplied : bears (part_holds net c x) (part_holds net c y) (at spare x) (at spare y) ≡ false → supplied? net.grid asks (put c l true) ≡ false
  joined_unsupplied heavy = go (has_source hx) refl (has_source hy) refl
    where
      source : (z : ℕ) → has_source (part_holds net c z) ≡ true → (s : ℕ) × (s < g.E) × (sound? g s ≡ true) × (label g c s ≡ z)
      source z h = part_out net c (sound? g) z (sym (holds_source net c z) ∙ h)

      too_much : (s : ℕ) → s < g.E → sound? g s ≡ true → (label g c s ≡ x) ⊎ (label g c s ≡ y)
          → g.capacity s < part_asks g asks c x + part_asks g asks c y → supplied? g asks (put c l true) ≡ false
      too_much s ks p o h = supplied_not g asks (put c l true) s (sound?_out g s ks p)
          (rw (to_low g formed c l k x y is_x is_y s ks o) (omega (arith, h, low_asks)))

      first : has_source hx ≡ true → (s : ℕ) × (s < g.E) × (sound? g s ≡ true) × (label g c s ≡ x) → supplied? g asks (put c l true) ≡ false
      first h (s, ks, p, o) = too_much s ks p (inl o) (omega (
        arith,
        at_first s (sound?_out g s ks p) o,
        dark_y (single h),
        leb-false b a (sym (bears_first hx hy a b h) ∙ heavy),
      ))

      second : has_source hx ≡ false → has_source hy ≡ true → (s : ℕ) × (s < g.E) × (sound? g s ≡ true) × (label g c s ≡ y)
          → supplied? g asks (put c l true) ≡ false
      second n h (s, ks, p, o) = too_much s ks p (inr o) (omega (
        arith,
        at_second s (sound?_out g s ks p) o,
        dark_x n,
        leb-false a b (sym (bears_second hx hy a b n h) ∙ heavy),
      ))

      go : (t : Bool) → has_source hx ≡ t → (u : Bool) → has_source hy ≡ u → supplied? g asks (put c l true) ≡ false
      go true t u v = first t (source x t)
      go false t true v = second t v (source y v)
      go false t false v = absurd (false≢true (sym heavy ∙ bears_neither hx hy a b t v))

-- The turns of `hangs_by`, `bears` and `lump_spurs`: a test that fails leaves no spur, and one element more is one step of the definition.
-- Assumes nothing.
use Prim.Native.Nat.{ℕ, zero, suc, ◌+◌, ◌/◌, ◌<◌, ◌≤◌}
use mathlib.Core.Path.{◌≡◌, refl, sym, ap, ◌∙◌}
use mathlib.Core.Bool.{Bool, true, false, not, ◌&&◌, and-false}
use mathlib.Core.List.{List}
use native.Mathlib.Omega.{arith}
use lib.Dec.{ltb}
use lib.ListN.{length, set, length-set}
use borrow.Author.Tests.{lt-ltb, le-ltb, eq-eqb, ne_eqb}
use Rattle.feeding.proofs.Below.{and_both, and_left, and_right}
use Rattle.feeding.proofs.Margins.{le_borne, lt_borne, borne_true}
use Rattle.feeding.specs.Loads.{borne?}
use Rattle.feeding.specs.Networks.{at, is_in}
use Rattle.feeding_ends.specs.declared.OwnEnds.{OwnEnds}
use Rattle.plan_spurs.specs.declared.Lumped.{Lumped}
use Rattle.plan_spurs.specs.Spurs.{spur?, hangs_by, bears_both, lumped_by, lumped_at, lumped_to}

-- ---- the end by which an element hangs

module _ (head next sound base : List ℕ) (e : ℕ) where
  no_spur : spur? next sound base e (at head e) ≡ false → 192 ≡ hangs_by head next sound base e
  unfolding hangs_by
  no_spur h = rw (h, hangs_by)

  one_spur : spur? next sound base e (at head e) ≡ true → at head e ≡ hangs_by head next sound base e
  unfolding hangs_by
  one_spur h = rw (h, hangs_by)

  pub no_end : 192 ≤ at head e → 192 ≡ hangs_by head next sound base e
  unfolding spur?
  no_end h = no_spur (rw (le-ltb (at head e) 192 h))

  pub more_ends : at next (at head e) < 192 → 192 ≡ hangs_by head next sound base e
  unfolding spur?
  more_ends h = no_spur (rw (lt-ltb (at next (at head e)) 192 h) (and-false (ltb (at head e) 192)))

  pub at_source : at sound e ≡ 1 → 192 ≡ hangs_by head next sound base e
  unfolding spur?
  at_source h = no_spur (rw (eq-eqb (at sound e) 1 h, and-false (not (ltb (at next (at head e)) 192))) (and-false (ltb (at head e) 192)))

  pub by_switch : (at base (at head e / 2) ≡ 1 → ⊥) → 192 ≡ hangs_by head next sound base e
  unfolding spur?
  by_switch h = no_spur (rw (
    ne_eqb (at base (at head e / 2)) 1 h,
    and-false (not (is_in sound e)),
    and-false (not (ltb (at next (at head e)) 192)),
  ) (and-false (ltb (at head e) 192)))

  pub is_spur : at head e < 192 → 192 ≤ at next (at head e) → (at sound e ≡ 1 → ⊥) → at base (at head e / 2) ≡ 1
      → at head e ≡ hangs_by head next sound base e
  unfolding spur?
  is_spur h k n b = one_spur
      (and_both (ltb (at head e) 192) _ (lt-ltb (at head e) 192 h)
      (and_both (not (ltb (at next (at head e)) 192)) _ (ap not (le-ltb (at next (at head e)) 192 k))
      (and_both (not (is_in sound e)) _ (ap not (ne_eqb (at sound e) 1 n)) (eq-eqb (at base (at head e / 2)) 1 b))))

-- ---- two loads

pub too_much : (x y u v : ℕ) → y < x → false ≡ bears_both x y u v
unfolding bears_both
too_much x y u v h = rw (lt_borne y x h)

pub both_borne : (x y u v : ℕ) → x ≤ y → borne? v (u + x) ≡ bears_both x y u v
unfolding bears_both
both_borne x y u v h = rw (le_borne y x h)

-- ---- one element more

pub both : {base base' load load' : List ℕ} → base ≡ base' → load ≡ load'
    → ◌≡◌ {A = Lumped} (record { base = base; load = load }) (record { base = base'; load = load' })
both p q = rw (p, q)

-- both lists keep their lengths
abbrev pub AsLong : Lumped → Lumped → Type 0
AsLong s t = (length t.base ≡ length s.base) × (length t.load ≡ length s.load)

pub as_long : (r s t : Lumped) → AsLong s t → AsLong r s → AsLong r t
as_long r s t p q = (p.0 ∙ q.0, p.1 ∙ q.1)

module _ (capacity : List ℕ) (e j to : ℕ) (s : Lumped) where
  by_none : 192 ≤ j → lumped_by capacity e j to s ≡ s
  unfolding lumped_by
  by_none h = rw (le-ltb j 192 h, lumped_by)

  by_over : j < 192 → bears_both (at s.load e) (at capacity e) (at s.load to) (at capacity to) ≡ false → lumped_by capacity e j to s ≡ s
  unfolding lumped_by
  by_over h f = rw (lt-ltb j 192 h, f, lumped_by)

  by_spur : j < 192 → bears_both (at s.load e) (at capacity e) (at s.load to) (at capacity to) ≡ true
      → lumped_by capacity e j to s ≡ record { base = set s.base (j / 2) 0; load = set s.load to (at s.load to + at s.load e) }
  unfolding lumped_by
  by_spur h f = rw (lt-ltb j 192 h, f, lumped_by)

  by_long : AsLong s (lumped_by capacity e j to s)
  unfolding lumped_by
  by_long = go (ltb j 192 && bears_both (at s.load e) (at capacity e) (at s.load to) (at capacity to))
    where
      pick : Bool → Lumped
      pick b = elim b [
        | true ↦ record { base = set s.base (j / 2) 0; load = set s.load to (at s.load to + at s.load e) }
        | false ↦ s
      ]

      go : (b : Bool) → AsLong s (pick b)
      go true = (length-set s.base (j / 2) 0, length-set s.load to (at s.load to + at s.load e))
      go false = (refl, refl)

module _ (own : OwnEnds) (sound capacity : List ℕ) where
  -- e, which hangs by the end j
  at_end : (e j : ℕ) (s : Lumped) → j ≡ hangs_by own.head own.next sound s.base e
      → lumped_at own sound capacity e s ≡ lumped_by capacity e j (at own.far j) s
  unfolding lumped_at
  at_end e j s p = ap (λ i. lumped_by capacity e i (at own.far i) s) (sym p)

  at_long : (e : ℕ) (s : Lumped) → AsLong s (lumped_at own sound capacity e s)
  unfolding lumped_at
  at_long e s =
      let j = hangs_by own.head own.next sound s.base e in
      by_long capacity e j (at own.far j) s

  -- in the definition's own words
  module _ (e : ℕ) (s : Lumped) where
    pub at_none : spur? own.next sound s.base e (at own.head e) ≡ false → lumped_at own sound capacity e s ≡ s
    at_none h = at_end e 192 s (no_spur own.head own.next sound s.base e h) ∙ by_none capacity e 192 _ s (omega arith)

    module _ (h : spur? own.next sound s.base e (at own.head e) ≡ true) (k : at own.head e < 192) where
      at_head : lumped_at own sound capacity e s ≡ lumped_by capacity e (at own.head e) (at own.far (at own.head e)) s
      at_head = at_end e _ s (one_spur own.head own.next sound s.base e h)

      pub at_over : bears_both (at s.load e) (at capacity e) (at s.load (at own.far (at own.head e))) (at capacity (at own.far (at own.head e))) ≡ false
          → lumped_at own sound capacity e s ≡ s
      at_over f = at_head ∙ by_over capacity e _ _ s k f

      pub at_spur : bears_both (at s.load e) (at capacity e) (at s.load (at own.far (at own.head e))) (at capacity (at own.far (at own.head e))) ≡ true
          → lumped_at own sound capacity e s ≡ record {
            base = set s.base (at own.head e / 2) 0;
            load = set s.load (at own.far (at own.head e)) (at s.load (at own.far (at own.head e)) + at s.load e);
          }
      at_spur f = at_head ∙ by_spur capacity e _ _ s k f

  module _ (before : Lumped) where
    pub none_lumped : before ≡ lumped_to own sound capacity before 0
    unfolding lumped_to
    none_lumped = refl

    pub one_more : (n : ℕ) → lumped_to own sound capacity before (suc n) ≡ lumped_at own sound capacity n (lumped_to own sound capacity before n)
    unfolding lumped_to
    one_more n = refl

    pub to_long : (n : ℕ) → AsLong before (lumped_to own sound capacity before n)
    unfolding lumped_to
    to_long zero = (refl, refl)
    to_long (suc n) = as_long before (lumped_to own sound capacity before n) (lumped_to own sound capacity before (suc n))
        (at_long n (lumped_to own sound capacity before n)) (to_long n)

    module _ (n j : ℕ) (s : Lumped) (q : s ≡ lumped_to own sound capacity before n) (p : j ≡ hangs_by own.head own.next sound s.base n) where
      step_is : lumped_by capacity n j (at own.far j) s ≡ lumped_to own sound capacity before (n + 1)
      step_is =
          let more : suc n ≡ n + 1 = omega arith in
          sym (at_end n j s p) ∙ ap (lumped_at own sound capacity n) q ∙ sym (one_more n) ∙ ap (lumped_to own sound capacity before) more

      -- it is no spur
      pub left_alone : 192 ≤ j → s ≡ lumped_to own sound capacity before (n + 1)
      left_alone h = sym (by_none capacity n j _ s h) ∙ step_is

      module _ (h : j < 192) (b : Bool)
          (borne : b ≡ bears_both (at s.load n) (at capacity n) (at s.load (at own.far j)) (at capacity (at own.far j))) where
        -- it overloads something by itself
        pub left_over : b ≡ false → s ≡ lumped_to own sound capacity before (n + 1)
        left_over f = sym (by_over capacity n j _ s h (sym borne ∙ f)) ∙ step_is

        pub lumped : b ≡ true → record {
          base = set s.base (j / 2) 0;
          load = set s.load (at own.far j) (at s.load (at own.far j) + at s.load n);
        } ≡ lumped_to own sound capacity before (n + 1)
        lumped f = sym (by_spur capacity n j _ s h (sym borne ∙ f)) ∙ step_is

-- what both bear fits where the capacity does
pub borne_fits : (x y u v : ℕ) → bears_both x y u v ≡ true → (x ≤ y) × (u + x ≤ v)
unfolding bears_both
borne_fits x y u v h = (borne_true y x (and_left (borne? y x) _ h), borne_true v (u + x) (and_right (borne? y x) _ h))

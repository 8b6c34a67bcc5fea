-- The sum of what a part asks: two parts joined ask what they asked together, opening links makes no source bear more, and a source that is within
-- capacity bears its part, since the load at a source is the sum of the own loads of its part.
-- Assumes nothing.
use Prim.Native.Nat.{ℕ, ◌+◌, ◌≤◌, ◌<◌, min}
use mathlib.Core.Path.{◌≡◌, refl, sym, ap, ◌∙◌}
use mathlib.Core.Logic.{◌⊎◌, inl, inr}
use mathlib.Core.Bool.{Bool, true, false}
use lib.Dec.{eqb, ltb}
use borrow.Author.Tests.{eqb-true, eq-eqb, ne_eqb, leb-true, le-leb}
use native.Mathlib.Omega.{arith}
use Rattle.feeding.specs.Below.{gate}
use Rattle.feeding.specs.Loads.{at_source, load_at, lowest_over, Within}
use Rattle.feeding.specs.Networks.{Grid, Formed}
use Rattle.feeding.specs.Parts.{Config, Opened, Joined, here, over, Sound, label, joined?, sound?}
use Rattle.feeding.specs.Plans.{put}
use Rattle.feeding.specs.Safety.{without}
use Rattle.feeding.proofs.Below.{gate_ext, gate_mono, same_test, imp_in, imp_out, all_to_in, all_to_out}
use Rattle.feeding.proofs.Forest.{without_on, without_in}
use Rattle.feeding.proofs.Hanging.{load_hanging}
use Rattle.feeding.proofs.Joins.{joined_sym}
use Rattle.feeding.proofs.Labels.{joined?_sound, joined?_complete}
use Rattle.feeding.proofs.Load.{FedAt, live_fed, load_equation, fed_in, fed_came}
use Rattle.feeding.proofs.Opening.{joined_mono}
use Rattle.feeding.proofs.Margins.{bears_le, le_borne}
use Rattle.feeding.proofs.Overloads.{none_over}
use Rattle.feeding.proofs.Sums.{sum_to_ext, sum_to_add, sum_to_mono}
use Rattle.feeding.proofs.Tests.{sound?_in, sound?_out}
use Rattle.feeding.proofs.Walk.{start}
use Rattle.plan_stops.proofs.OneMore.{Moved, lowers, stays, low_one, moved, joined_label, label_joined}
use Rattle.plan_stops.proofs.Radial.{Radial}
use Rattle.plan_stops.specs.Supply.{part_asks, Supplied, own_ask, supplied?}

-- ---- the two layers

module _ (g : Grid) (asks : ℕ → ℕ) (c : Config) where
  pub supplied_in : Supplied g asks c → supplied? g asks c ≡ true
  unfolding supplied?
  supplied_in r = all_to_in g.E _ (λ s k. imp_in (sound? g s) _ (λ h. le-leb _ _ (r.bears s (sound?_out g s k h))))

  pub supplied_out : supplied? g asks c ≡ true → Supplied g asks c
  unfolding supplied?
  supplied_out h = record { bears = λ s p. leb-true _ _ (imp_out (sound? g s) _ (all_to_out g.E _ h s p.below) (sound?_in g s p)) }

  -- a source that bears too little
  pub supplied_not : (s : ℕ) → Sound g s → g.capacity s < part_asks g asks c (label g c s) → supplied? g asks c ≡ false
  supplied_not s p h = go (supplied? g asks c) refl
    where
      go : (t : Bool) → supplied? g asks c ≡ t → t ≡ false
      go true t = absurd (omega (arith, h, (supplied_out t).bears s p))
      go false t = refl

-- ---- one link more between two parts

module _ (g : Grid) (formed : Formed g) (asks : ℕ → ℕ) (c : Config) (l : ℕ) (k : l < g.K) (x y : ℕ)
    (is_x : x ≡ label g c (g.end_a l)) (is_y : y ≡ label g c (g.end_b l)) where
  new_label : (e : ℕ) → e < g.E → Moved x y (label g c e) (label g (put c l true) e)
  new_label = moved g formed c l k x y is_x is_y

  -- no label but x and y becomes the lower of the two
  low_other : (z : ℕ) → (z ≡ x → ⊥) → (z ≡ y → ⊥) → min x y ≡ z → ⊥
  low_other z n m e = go (low_one x y)
    where
      go : (min x y ≡ x) ⊎ (min x y ≡ y) → ⊥
      go (inl o) = n (sym e ∙ o)
      go (inr o) = m (sym e ∙ o)

  -- they ask what both asked
  pub asks_low : (x ≡ y → ⊥) → part_asks g asks (put c l true) (min x y) ≡ part_asks g asks c x + part_asks g asks c y
  unfolding part_asks
  asks_low apart = sum_to_ext g.E _ _ (λ e h. go e (new_label e h)) ∙ sum_to_add g.E _ _
    where
      go : (e : ℕ) → Moved x y (label g c e) (label g (put c l true) e)
          → gate (eqb (label g (put c l true) e) (min x y)) (asks e) ≡ gate (eqb (label g c e) x) (asks e) + gate (eqb (label g c e) y) (asks e)
      go e (lowers (inl o) q) =
          rw (eq-eqb _ _ q, eq-eqb _ _ o, ne_eqb (label g c e) y (λ p. apart (sym o ∙ p))) (omega arith)
      go e (lowers (inr o) q) =
          rw (eq-eqb _ _ q, ne_eqb (label g c e) x (λ p. apart (sym p ∙ o)), eq-eqb _ _ o) (omega arith)
      go e (stays n m q) =
          rw (ne_eqb (label g (put c l true) e) (min x y) (λ p. low_other (label g c e) n m (sym p ∙ q)), ne_eqb (label g c e) x n, ne_eqb (label g c e) y m)
          (omega arith)

  -- a part that the link does not touch asks what it asked
  pub asks_other : (z : ℕ) → (z ≡ x → ⊥) → (z ≡ y → ⊥) → part_asks g asks (put c l true) z ≡ part_asks g asks c z
  unfolding part_asks
  asks_other z n m = sum_to_ext g.E _ _ (λ e h. ap (λ (b : Bool). gate b (asks e)) (go e (new_label e h)))
    where
      other : (w : ℕ) → (w ≡ x) ⊎ (w ≡ y) → eqb w z ≡ false
      other w (inl o) = ne_eqb w z (λ p. n (sym p ∙ o))
      other w (inr o) = ne_eqb w z (λ p. m (sym p ∙ o))

      go : (e : ℕ) → Moved x y (label g c e) (label g (put c l true) e) → eqb (label g (put c l true) e) z ≡ eqb (label g c e) z
      go e (lowers o q) = ne_eqb _ z (λ p. low_other z n m (sym q ∙ p)) ∙ sym (other (label g c e) o)
      go e (stays _ _ q) = ap (λ (w : ℕ). eqb w z) q

-- ---- links opened

module _ (g : Grid) (formed : Formed g) (asks : ℕ → ℕ) (c' c : Config) (sub : Opened c' c) where
  asks_opened : (s : ℕ) → s < g.E → part_asks g asks c' (label g c' s) ≤ part_asks g asks c (label g c s)
  unfolding part_asks
  asks_opened s k = sum_to_mono g.E _ _ (λ e h. gate_mono (eqb (label g c' e) (label g c' s)) (eqb (label g c e) (label g c s)) (asks e) (asks e)
      (λ p. eq-eqb _ _ (joined_label g formed c (joined_mono g c' c sub (label_joined g formed c' s e k h (eqb-true _ _ p))))) (omega arith))

  pub supplied_opened : supplied? g asks c ≡ true → supplied? g asks c' ≡ true
  supplied_opened h = supplied_in g asks c' (record {
    bears = λ s p. omega (arith, asks_opened s p.below, (supplied_out g asks c h).bears s p);
  })

-- ---- within capacity, a source bears its part

module _ (g : Grid) (formed : Formed g) (c : Config) (radial : Radial g c) (top : ℕ) (within : ltb (lowest_over g c) g.E ≡ false) where
  fits : Within g c
  fits = none_over g formed c radial.bridges within

  -- a live element bears its own load, so it asks that
  own : (s e : ℕ) → Sound g s → Joined g c s e → own_ask g top e ≡ g.load e
  unfolding own_ask
  own s e p j = rw (le_borne (g.capacity e) (g.load e) (small (live_fed g c s e p j)), own_ask)
    where
      small : FedAt g c e → g.load e ≤ g.capacity e
      small f = omega (arith, bears_le g e _ (fits e f.via f.fed), load_equation g formed c radial.bridges e f.via (fed_in g c formed f.fed) (fed_came g c f.fed))

  -- no link has the number K, so nothing changes without it
  with_all : {d a : ℕ} → Joined g c d a → Joined g (without c g.K) d a
  with_all here = here
  with_all (over l k h t j) = over l k (without_in c g.K l h (λ e. omega arith)) t (with_all j)

  -- the load at a source is what its part asks
  pub source_load : (s : ℕ) → Sound g s → part_asks g (own_ask g top) c (label g c s) ≡ load_at g c s g.K
  unfolding part_asks
  source_load s p =
      sum_to_ext g.E _ _ (λ e h. gate_ext (eqb (label g c e) (label g c s)) _ _ (λ q. own s e p (to_source e h q))
      ∙ ap (λ (b : Bool). gate b (g.load e)) (same e h))
      ∙ sym (load_hanging g formed c radial.bridges s g.K p.below (start refl))
    where
      to_source : (e : ℕ) → e < g.E → eqb (label g c e) (label g c s) ≡ true → Joined g c s e
      to_source e h q = label_joined g formed c s e p.below h (eqb-true _ _ q)

      same : (e : ℕ) → e < g.E → eqb (label g c e) (label g c s) ≡ joined? g (without c g.K) e s
      same e h = same_test _ _
          (λ q. joined?_complete g formed (without c g.K) e s (with_all (joined_sym g c (to_source e h q))))
          (λ q. eq-eqb _ _ (sym (joined_label g formed c (joined_mono g (without c g.K) c (without_on c g.K)
          (joined?_sound g formed (without c g.K) e s h p.below q)))))

  pub within_supplied : supplied? g (own_ask g top) c ≡ true
  within_supplied = supplied_in g (own_ask g top) c (record {
    bears = λ s p. omega (arith, source_load s p, bears_le g s _ (fits s g.K (at_source p)));
  })

-- One link more: the parts of its two ends become one, and their labels the lower of the two. A path that uses the link crosses it once.
-- Assumes nothing.
use Prim.Native.Nat.{ℕ, ◌≤◌, ◌<◌, min, max}
use mathlib.Core.Path.{◌≡◌, refl, sym, ap, ◌∙◌}
use mathlib.Core.Logic.{◌⊎◌, inl, inr}
use mathlib.Core.Bool.{Bool, true, false, cond}
use lib.Dec.{eqb, leb}
use borrow.Author.Tests.{eqb-true, eqb-false, eq-eqb, leb-true, leb-false}
use native.Mathlib.Omega.{arith}
use Rattle.feeding.specs.Networks.{Grid, Formed}
use Rattle.feeding.specs.Parts.{Config, Joined, here, label, joined?, relabel}
use Rattle.feeding.specs.Plans.{put}
use Rattle.feeding.proofs.Forest.{Crossing, split}
use Rattle.feeding.proofs.Joins.{Spans, forth, back, step, joined_trans, joined_sym}
use Rattle.feeding.proofs.Labels.{relabel_at, relabel_off, joined?_sound, joined?_complete, label_of_label, label_lowest, label_least}
use Rattle.feeding.proofs.Opening.{joined_mono}

pub same? : (x y : ℕ) → (x ≡ y) ⊎ (x ≡ y → ⊥)
same? x y = go (eqb x y) refl
  where
    go : (t : Bool) → eqb x y ≡ t → (x ≡ y) ⊎ (x ≡ y → ⊥)
    go true e = inl (eqb-true x y e)
    go false e = inr (eqb-false x y e)

-- ---- the lower of two labels

-- the label z becomes w where the labels x and y become the lower of the two
pub data Moved (x y z w : ℕ) : Type 0 where
  lowers : (z ≡ x) ⊎ (z ≡ y) → w ≡ min x y → Moved x y z w
  stays : (z ≡ x → ⊥) → (z ≡ y → ⊥) → w ≡ z → Moved x y z w

lowered : (x y z : ℕ) → Moved x y z (relabel (max x y) (min x y) z)
lowered x y z = go (same? z x) (same? z y)
  where
    low : (z ≡ x) ⊎ (z ≡ y) → (z ≡ max x y) ⊎ (z ≡ max x y → ⊥) → relabel (max x y) (min x y) z ≡ min x y
    low o (inl e) = rw e (relabel_at (max x y) (min x y))
    low (inl o) (inr e) = let q : z ≡ min x y = omega arith in relabel_off (max x y) (min x y) z e ∙ q
    low (inr o) (inr e) = let q : z ≡ min x y = omega arith in relabel_off (max x y) (min x y) z e ∙ q

    go : (z ≡ x) ⊎ (z ≡ x → ⊥) → (z ≡ y) ⊎ (z ≡ y → ⊥) → Moved x y z (relabel (max x y) (min x y) z)
    go (inl e) q = lowers (inl e) (low (inl e) (same? z (max x y)))
    go (inr e) (inl q) = lowers (inr q) (low (inr q) (same? z (max x y)))
    go (inr e) (inr q) = stays e q (relabel_off (max x y) (min x y) z (omega arith))

pub low_one : (x y : ℕ) → (min x y ≡ x) ⊎ (min x y ≡ y)
low_one x y = go (leb x y) refl
  where
    go : (t : Bool) → leb x y ≡ t → (min x y ≡ x) ⊎ (min x y ≡ y)
    go true t = inl (omega (arith, leb-true x y t))
    go false t = inr (omega (arith, leb-false x y t))

pub high_one : (x y : ℕ) → (max x y ≡ x) ⊎ (max x y ≡ y)
high_one x y = go (leb x y) refl
  where
    go : (t : Bool) → leb x y ≡ t → (max x y ≡ x) ⊎ (max x y ≡ y)
    go true t = inr (omega (arith, leb-true x y t))
    go false t = inl (omega (arith, leb-false x y t))

-- ---- one link more

module _ (c : Config) (l : ℕ) where
  pub put_on : put c l true l ≡ true
  unfolding put
  put_on = rw (eq-eqb l l refl)

  pub put_more : (m : ℕ) → c m ≡ true → put c l true m ≡ true
  unfolding put
  put_more m h = go (eqb m l)
    where
      go : (t : Bool) → cond t true (c m) ≡ true
      go true = refl
      go false = h

  pub put_split : (m : ℕ) → put c l true m ≡ true → (c m ≡ true) ⊎ (m ≡ l)
  unfolding put
  put_split m h = go (eqb m l) refl h
    where
      go : (t : Bool) → eqb m l ≡ t → cond t true (c m) ≡ true → (c m ≡ true) ⊎ (m ≡ l)
      go true e h = inr (eqb-true m l e)
      go false e h = inl h

module _ (g : Grid) (formed : Formed g) where
  -- joined elements have one label
  pub joined_label : (c : Config) {d a : ℕ} → Joined g c d a → label g c a ≡ label g c d
  unfolding joined?
  joined_label c {d} {a} j = eqb-true _ _ (joined?_complete g formed c d a j)

  pub label_joined : (c : Config) (d a : ℕ) → d < g.E → a < g.E → label g c a ≡ label g c d → Joined g c d a
  unfolding joined?
  label_joined c d a kd ka e = joined?_sound g formed c d a kd ka (eq-eqb _ _ e)

-- one of the two numbers is x, the other y
abbrev pub Both : ℕ → ℕ → ℕ → ℕ → Type 0
Both x y z w = ((z ≡ x) × (w ≡ y)) ⊎ ((z ≡ y) × (w ≡ x))

module _ (g : Grid) (formed : Formed g) (c : Config) (l : ℕ) (k : l < g.K) (x y : ℕ)
    (is_x : x ≡ label g c (g.end_a l)) (is_y : y ≡ label g c (g.end_b l)) where
  pub end_lt : (z : ℕ) → (z ≡ x) ⊎ (z ≡ y) → z < g.E
  end_lt z (inl e) = omega (arith, (label_lowest g formed c (g.end_a l) (formed.end_a_lt l k)).0, formed.end_a_lt l k)
  end_lt z (inr e) = omega (arith, (label_lowest g formed c (g.end_b l) (formed.end_b_lt l k)).0, formed.end_b_lt l k)

  pub end_label : (z : ℕ) → (z ≡ x) ⊎ (z ≡ y) → label g c z ≡ z
  end_label z (inl e) = rw (e ∙ is_x) (label_of_label g c (g.end_a l))
  end_label z (inr e) = rw (e ∙ is_y) (label_of_label g c (g.end_b l))

  -- the labels of the ends of a path that crosses the link
  pub crossed : {d a : ℕ} → Crossing g c l d a → Both x y (label g c a) (label g c d)
  crossed {d} {a} r = go r.spans
    where
      a_is : label g c a ≡ label g c r.x
      a_is = joined_label g formed c r.first

      d_is : label g c d ≡ label g c r.y
      d_is = sym (joined_label g formed c r.last)

      go : Spans g l r.x r.y → Both x y (label g c a) (label g c d)
      go (forth p q) = inl (a_is ∙ ap (label g c) (sym p) ∙ sym is_x, d_is ∙ ap (label g c) (sym q) ∙ sym is_y)
      go (back p q) = inr (a_is ∙ ap (label g c) (sym p) ∙ sym is_y, d_is ∙ ap (label g c) (sym q) ∙ sym is_x)

  up : {d a : ℕ} → Joined g c d a → Joined g (put c l true) d a
  up j = joined_mono g c (put c l true) (put_more c l) j

  near : (e : ℕ) → e < g.E → Joined g (put c l true) (label g c e) e
  near e h = up (label_lowest g formed c e h).1

  -- the labels of its ends are joined
  ends_joined : Joined g (put c l true) y x
  ends_joined = rw (is_x, is_y) (joined_trans g _ (joined_sym g _ (near (g.end_a l) (formed.end_a_lt l k)))
      (step g _ l (g.end_a l) (g.end_b l) k (put_on c l) (forth refl refl) (near (g.end_b l) (formed.end_b_lt l k))))

  meets : (z w : ℕ) → (z ≡ x) ⊎ (z ≡ y) → (w ≡ x) ⊎ (w ≡ y) → Joined g (put c l true) w z
  meets z w (inl p) (inl q) = rw (p, q) here
  meets z w (inl p) (inr q) = rw (p, q) ends_joined
  meets z w (inr p) (inl q) = rw (p, q) (joined_sym g _ ends_joined)
  meets z w (inr p) (inr q) = rw (p, q) here

  pub put_label : (e : ℕ) → e < g.E → label g (put c l true) e ≡ relabel (max x y) (min x y) (label g c e)
  put_label e h = omega (
    arith,
    label_least g formed (put c l true) _ e (reached (lowered x y (label g c e))),
    least (label g (put c l true) e) (label_lowest g formed (put c l true) e h).1,
  )
    where
      reached : Moved x y (label g c e) (relabel (max x y) (min x y) (label g c e))
          → Joined g (put c l true) (relabel (max x y) (min x y) (label g c e)) e
      reached (lowers o q) = rw q (joined_trans g _ (near e h) (meets (label g c e) (min x y) o (low_one x y)))
      reached (stays _ _ q) = rw q (near e h)

      below : Moved x y (label g c e) (relabel (max x y) (min x y) (label g c e)) → relabel (max x y) (min x y) (label g c e) ≤ label g c e
      below (lowers (inl o) q) = omega arith
      below (lowers (inr o) q) = omega arith
      below (stays _ _ q) = omega arith

      over : (d : ℕ) → Both x y (label g c e) (label g c d)
          → Moved x y (label g c e) (relabel (max x y) (min x y) (label g c e)) → relabel (max x y) (min x y) (label g c e) ≤ d
      over d (inl p) (lowers o q) = omega (arith, p.1, label_least g formed c d d here)
      over d (inr p) (lowers o q) = omega (arith, p.1, label_least g formed c d d here)
      over d (inl p) (stays n _ q) = absurd (n p.0)
      over d (inr p) (stays _ n q) = absurd (n p.0)

      least : (d : ℕ) → Joined g (put c l true) d e → relabel (max x y) (min x y) (label g c e) ≤ d
      least d j = go (split g c l (put c l true) (put_split c l) j)
        where
          go : Joined g c d e ⊎ Crossing g c l d e → relabel (max x y) (min x y) (label g c e) ≤ d
          go (inl i) = omega (arith, below (lowered x y (label g c e)), label_least g formed c d e i)
          go (inr r) = over d (crossed r) (lowered x y (label g c e))

  pub moved : (e : ℕ) → e < g.E → Moved x y (label g c e) (label g (put c l true) e)
  moved e h = rw (put_label e h) (lowered x y (label g c e))

  pub to_low : (e : ℕ) → e < g.E → (label g c e ≡ x) ⊎ (label g c e ≡ y) → label g (put c l true) e ≡ min x y
  to_low e h o = go o (moved e h)
    where
      go : (label g c e ≡ x) ⊎ (label g c e ≡ y) → Moved x y (label g c e) (label g (put c l true) e) → label g (put c l true) e ≡ min x y
      go _ (lowers _ q) = q
      go (inl o) (stays n _ _) = absurd (n o)
      go (inr o) (stays _ n _) = absurd (n o)

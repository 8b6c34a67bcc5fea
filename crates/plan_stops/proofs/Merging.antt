-- One link more between two parts: they hold together what either held, and rules 14 to 16 stay kept exactly where the two do not clash.
-- Assumes nothing.
use Prim.Native.Nat.{ℕ, ◌+◌, ◌<◌, min}
use mathlib.Core.Path.{◌≡◌, refl, sym, ap, ◌∙◌}
use mathlib.Core.Logic.{◌⊎◌, inl, inr}
use mathlib.Core.Bool.{Bool, true, false, ◌||◌, false≢true}
use lib.Dec.{eqb}
use borrow.Author.Tests.{eqb-true, eqb-false, ne_eqb, lt-ltb}
use native.Mathlib.Omega.{arith}
use Rattle.feeding.specs.Below.{sum_to, gate}
use Rattle.feeding.specs.Networks.{Grid, Net, Formed}
use Rattle.feeding.specs.Parts.{Config, Joined, Sound, Live, label, sound?}
use Rattle.feeding.specs.Plans.{put}
use Rattle.feeding.specs.Restoration.{restorable?}
use Rattle.feeding.specs.Safety.{without}
use Rattle.feeding.proofs.Below.{same_test, or_left, or_right}
use Rattle.feeding.proofs.Forest.{Bridges, Crossing, split, without_on, without_ne, without_in}
use Rattle.feeding.proofs.Joins.{Spans, forth, back, step, joined_trans, joined_sym}
use Rattle.feeding.proofs.Opening.{joined_mono}
use Rattle.feeding.proofs.Sums.{sum_to_ext, sum_to_add, sum_to_at}
use Rattle.feeding.proofs.Tests.{sound?_in, sound?_out}
use Rattle.plan_stops.specs.Holding.{has_source, has_fault, waits_for, clash, serves, together}
use Rattle.plan_stops.proofs.Carried.{part_has?, part_holds, waiting_parts, part_in, part_out, holds_source, holds_fault}
use Rattle.plan_stops.proofs.Carried.{wait_at, waiting_sum, wait_own, wait_none, wait_same}
use Rattle.plan_stops.proofs.Holdings.{together_held, served_held}
use Rattle.plan_stops.proofs.Holdings.{Clashes, sources, source_fault, fault_source, clash_in}
use Rattle.plan_stops.proofs.OneMore.{same?, Moved, lowers, stays, low_one, put_split, joined_label, label_joined}
use Rattle.plan_stops.proofs.OneMore.{Both, end_lt, end_label, crossed, moved, to_low}
use Rattle.plan_stops.proofs.Radial.{Radial}

-- ---- two terms of a sum

with_two : (n : ℕ) (f h : ℕ → ℕ) (i j : ℕ) → i < n → j < n
    → sum_to n (λ z. f z + (gate (eqb z i) (h z) + gate (eqb z j) (h z))) ≡ sum_to n f + (h i + h j)
with_two n f h i j ki kj =
    omega (
      arith,
      sum_to_add n f (λ z. gate (eqb z i) (h z) + gate (eqb z j) (h z)),
      sum_to_add n (λ z. gate (eqb z i) (h z)) (λ z. gate (eqb z j) (h z)),
      rw (lt-ltb i n ki) at (sum_to_at h i n),
      rw (lt-ltb j n kj) at (sum_to_at h j n),
    )

-- two sums that agree but for two terms
sum_two : (n : ℕ) (f h : ℕ → ℕ) (i j : ℕ) → i < n → j < n → (i ≡ j → ⊥) → ((z : ℕ) → z < n → (z ≡ i → ⊥) → (z ≡ j → ⊥) → f z ≡ h z)
    → sum_to n f + (h i + h j) ≡ sum_to n h + (f i + f j)
sum_two n f h i j ki kj apart same =
    sym (with_two n f h i j ki kj) ∙ sum_to_ext n _ _ (λ z k. go z k (eqb z i) refl (eqb z j) refl) ∙ with_two n h f i j ki kj
  where
    go : (z : ℕ) → z < n → (t : Bool) → eqb z i ≡ t → (u : Bool) → eqb z j ≡ u
        → f z + (gate t (h z) + gate u (h z)) ≡ h z + (gate t (f z) + gate u (f z))
    go z k true t true u = absurd (apart (sym (eqb-true z i t) ∙ eqb-true z j u))
    go z k true t false u = omega arith
    go z k false t true u = omega arith
    go z k false t false u = ap (λ (m : ℕ). m + (0 + 0)) (same z k (eqb-false z i t) (eqb-false z j u))

-- ---- one link more

module _ (net : Net) (formed : Formed net.grid) (c : Config) (l : ℕ) (k : l < net.grid.K) (x y : ℕ)
    (is_x : x ≡ label net.grid c (net.grid.end_a l)) (is_y : y ≡ label net.grid c (net.grid.end_b l)) where
  -- the joined part has what either had
  has_low : (f : ℕ → Bool) → part_has? net (put c l true) f (min x y) ≡ (part_has? net c f x || part_has? net c f y)
  has_low f = same_test _ _ (λ h. there (part_out net (put c l true) f (min x y) h)) (λ h. back (part_has? net c f x) refl h)
    where
      new_label : (e : ℕ) → e < net.grid.E → Moved x y (label net.grid c e) (label net.grid (put c l true) e)
      new_label = moved net.grid formed c l k x y is_x is_y

      there : (e : ℕ) × (e < net.grid.E) × (f e ≡ true) × (label net.grid (put c l true) e ≡ min x y)
          → (part_has? net c f x || part_has? net c f y) ≡ true
      there (e, h, p, q) = go (new_label e h)
        where
          go : Moved x y (label net.grid c e) (label net.grid (put c l true) e) → (part_has? net c f x || part_has? net c f y) ≡ true
          go (lowers (inl o) _) = or_left (part_has? net c f x) _ (part_in net c f x e h p o)
          go (lowers (inr o) _) = or_right (part_has? net c f x) _ (part_in net c f y e h p o)
          go (stays n m s) = absurd (out (low_one x y))
            where
              out : (min x y ≡ x) ⊎ (min x y ≡ y) → ⊥
              out (inl o) = n (sym s ∙ q ∙ o)
              out (inr o) = m (sym s ∙ q ∙ o)

      from : (z : ℕ) → (z ≡ x) ⊎ (z ≡ y) → part_has? net c f z ≡ true → part_has? net (put c l true) f (min x y) ≡ true
      from z o h = go (part_out net c f z h)
        where
          by : (w : ℕ) → w ≡ z → (z ≡ x) ⊎ (z ≡ y) → (w ≡ x) ⊎ (w ≡ y)
          by w e (inl o) = inl (e ∙ o)
          by w e (inr o) = inr (e ∙ o)

          go : (e : ℕ) × (e < net.grid.E) × (f e ≡ true) × (label net.grid c e ≡ z) → part_has? net (put c l true) f (min x y) ≡ true
          go (e, h, p, q) =
              part_in net (put c l true) f (min x y) e h p (to_low net.grid formed c l k x y is_x is_y e h (by _ q o))

      back : (t : Bool) → part_has? net c f x ≡ t → (t || part_has? net c f y) ≡ true → part_has? net (put c l true) f (min x y) ≡ true
      back true t h = from x (inl refl) t
      back false t h = from y (inr refl) h

  -- a part that the link does not touch has what it had
  has_other : (f : ℕ → Bool) (z : ℕ) → (z ≡ x → ⊥) → (z ≡ y → ⊥) → part_has? net (put c l true) f z ≡ part_has? net c f z
  has_other f z n m = same_test _ _ (λ h. there (part_out net (put c l true) f z h)) (λ h. from (part_out net c f z h))
    where
      there : (e : ℕ) × (e < net.grid.E) × (f e ≡ true) × (label net.grid (put c l true) e ≡ z) → part_has? net c f z ≡ true
      there (e, h, p, q) = go (moved net.grid formed c l k x y is_x is_y e h)
        where
          go : Moved x y (label net.grid c e) (label net.grid (put c l true) e) → part_has? net c f z ≡ true
          go (stays _ _ s) = part_in net c f z e h p (sym s ∙ q)
          go (lowers _ s) = absurd (out (low_one x y))
            where
              out : (min x y ≡ x) ⊎ (min x y ≡ y) → ⊥
              out (inl o) = n (sym q ∙ s ∙ o)
              out (inr o) = m (sym q ∙ s ∙ o)

      from : (e : ℕ) × (e < net.grid.E) × (f e ≡ true) × (label net.grid c e ≡ z) → part_has? net (put c l true) f z ≡ true
      from (e, h, p, q) = go (moved net.grid formed c l k x y is_x is_y e h)
        where
          go : Moved x y (label net.grid c e) (label net.grid (put c l true) e) → part_has? net (put c l true) f z ≡ true
          go (stays _ _ s) = part_in net (put c l true) f z e h p (s ∙ q)
          go (lowers (inl o) _) = absurd (n (sym q ∙ o))
          go (lowers (inr o) _) = absurd (m (sym q ∙ o))

  pub holds_low : part_holds net (put c l true) (min x y) ≡ together (part_holds net c x) (part_holds net c y)
  unfolding part_holds
  holds_low = rw (has_low (sound? net.grid), has_low net.grid.faulty, has_low (restorable? net)) (sym (together_held _ _ _ _ _ _))

  pub holds_other : (z : ℕ) → (z ≡ x → ⊥) → (z ≡ y → ⊥) → part_holds net (put c l true) z ≡ part_holds net c z
  unfolding part_holds
  holds_other z n m = rw (has_other (sound? net.grid) z n m, has_other net.grid.faulty z n m, has_other (restorable? net) z n m)

  -- of the labels, only the higher one of the two is none any more
  own_end_lem : (z : ℕ) → (z ≡ x) ⊎ (z ≡ y) → label net.grid (put c l true) z ≡ min x y
  own_end_lem z o =
      to_low net.grid formed c l k x y is_x is_y z (end_lt net.grid formed c l k x y is_x is_y z o)
      (go o)
    where
      own : label net.grid c z ≡ z
      own = end_label net.grid formed c l k x y is_x is_y z o

      go : (z ≡ x) ⊎ (z ≡ y) → (label net.grid c z ≡ x) ⊎ (label net.grid c z ≡ y)
      go (inl e) = inl (own ∙ e)
      go (inr e) = inr (own ∙ e)

  own_other : (z : ℕ) → z < net.grid.E → (z ≡ x → ⊥) → (z ≡ y → ⊥)
      → eqb (label net.grid c z) z ≡ eqb (label net.grid (put c l true) z) z
  own_other z h n m = go (moved net.grid formed c l k x y is_x is_y z h)
    where
      other : (w : ℕ) → (w ≡ x) ⊎ (w ≡ y) → eqb w z ≡ false
      other w (inl o) = ne_eqb w z (λ e. n (sym e ∙ o))
      other w (inr o) = ne_eqb w z (λ e. m (sym e ∙ o))

      go : Moved x y (label net.grid c z) (label net.grid (put c l true) z)
          → eqb (label net.grid c z) z ≡ eqb (label net.grid (put c l true) z) z
      go (lowers o s) = other (label net.grid c z) o ∙ sym (ap (λ (w : ℕ). eqb w z) s ∙ other (min x y) (low_one x y))
      go (stays _ _ s) = ap (λ (w : ℕ). eqb w z) (sym s)

  -- the two parts wait as one, or one of them no longer waits
  waits_two : gate (waits_for (part_holds net c x)) 1 + gate (waits_for (part_holds net c y)) 1
      ≡ gate (waits_for (part_holds net (put c l true) (min x y))) 1 + gate (serves (part_holds net c x) (part_holds net c y)) 1
  unfolding part_holds
  waits_two = rw (has_low (sound? net.grid), has_low net.grid.faulty, has_low (restorable? net)) (served_held _ _ _ _ _ _)

  pub waiting_joined : (x ≡ y → ⊥) → waiting_parts net c ≡ waiting_parts net (put c l true) + gate (serves (part_holds net c x) (part_holds net c y)) 1
  waiting_joined apart =
      omega (
        arith,
        waiting_sum net c,
        waiting_sum net (put c l true),
        sum_two net.grid.E (wait_at net c) (wait_at net (put c l true)) x y (below x (inl refl)) (below y (inr refl)) apart other,
        wait_own net c x (own x (inl refl)),
        wait_own net c y (own y (inr refl)),
        new (low_one x y),
        waits_two,
      )
    where
      below : (z : ℕ) → (z ≡ x) ⊎ (z ≡ y) → z < net.grid.E
      below = end_lt net.grid formed c l k x y is_x is_y

      own : (z : ℕ) → (z ≡ x) ⊎ (z ≡ y) → label net.grid c z ≡ z
      own = end_label net.grid formed c l k x y is_x is_y

      other : (z : ℕ) → z < net.grid.E → (z ≡ x → ⊥) → (z ≡ y → ⊥) → wait_at net c z ≡ wait_at net (put c l true) z
      other z h n m = wait_same net c (put c l true) z (own_other z h n m) (sym (holds_other z n m))

      new : (min x y ≡ x) ⊎ (min x y ≡ y)
          → wait_at net (put c l true) x + wait_at net (put c l true) y ≡ gate (waits_for (part_holds net (put c l true) (min x y))) 1
      new (inl e) = rw e (omega (
        arith,
        wait_own net (put c l true) x (own_end_lem x (inl refl) ∙ e),
        wait_none net (put c l true) y (λ q. apart (sym e ∙ sym (own_end_lem y (inr refl)) ∙ q)),
      ))
      new (inr e) = rw e (omega (
        arith,
        wait_own net (put c l true) y (own_end_lem y (inr refl) ∙ e),
        wait_none net (put c l true) x (λ q. apart (sym q ∙ own_end_lem x (inl refl) ∙ e)),
      ))

  -- two parts that do not clash: joined, they are radial
  pub joined_radial : (x ≡ y → ⊥) → clash (part_holds net c x) (part_holds net c y) ≡ false → Radial net.grid c → Radial net.grid (put c l true)
  joined_radial apart calm r = record { bridges = bridges; one = one; clear = clear }
    where
      g : Grid
      g = net.grid

      -- what the ends of a path that crosses the link can't be
      none : Clashes (part_holds net c x) (part_holds net c y) → ⊥
      none t = false≢true (sym calm ∙ clash_in _ _ t)

      source : (z s : ℕ) → Sound g s → label g c s ≡ z → has_source (part_holds net c z) ≡ true
      source z s p q = holds_source net c z ∙ part_in net c (sound? g) z s p.below (sound?_in g s p) q

      fault : (z e : ℕ) → e < g.E → g.faulty e ≡ true → label g c e ≡ z → has_fault (part_holds net c z) ≡ true
      fault z e h p q = holds_fault net c z ∙ part_in net c g.faulty z e h p q

      ends_apart : Joined g c (g.end_b l) (g.end_a l) → ⊥
      ends_apart j = apart (is_x ∙ joined_label g formed c j ∙ sym is_y)

      over : (m : ℕ) → m < g.K → c m ≡ true → Crossing g (without c m) l (g.end_b m) (g.end_a m) → ⊥
      over m km h q = go q.spans
        where
          down : {d a : ℕ} → Joined g (without c m) d a → Joined g c d a
          down j = joined_mono g (without c m) c (without_on c m) j

          ends : Joined g c q.y q.x
          ends = joined_trans g c (joined_sym g c (down q.first))
              (step g c m (g.end_a m) (g.end_b m) km h (forth refl refl) (joined_sym g c (down q.last)))

          go : Spans g l q.x q.y → ⊥
          go (forth u v) = ends_apart (rw (u, v) ends)
          go (back u v) = ends_apart (rw (u, v) (joined_sym g c ends))

      bridges : Bridges g (put c l true)
      bridges m km h j = go (same? m l) (put_split c l m h)
        where
          less : (n : ℕ) → without (put c l true) m n ≡ true → (without c m n ≡ true) ⊎ (n ≡ l)
          less n w = out (put_split c l n (without_on (put c l true) m n w))
            where
              out : (c n ≡ true) ⊎ (n ≡ l) → (without c m n ≡ true) ⊎ (n ≡ l)
              out (inl i) = inl (without_in c m n i (without_ne (put c l true) m n w))
              out (inr e) = inr e

          itself : m ≡ l → (n : ℕ) → without (put c l true) m n ≡ true → c n ≡ true
          itself e n w = out (put_split c l n (without_on (put c l true) m n w))
            where
              out : (c n ≡ true) ⊎ (n ≡ l) → c n ≡ true
              out (inl i) = i
              out (inr q) = absurd (without_ne (put c l true) m n w (q ∙ sym e))

          path : c m ≡ true → Joined g (without c m) (g.end_b m) (g.end_a m) ⊎ Crossing g (without c m) l (g.end_b m) (g.end_a m) → ⊥
          path on (inl i) = r.bridges m km on i
          path on (inr q) = over m km on q

          go : (m ≡ l) ⊎ (m ≡ l → ⊥) → (c m ≡ true) ⊎ (m ≡ l) → ⊥
          go (inl e) _ = ends_apart (rw (sym e) (joined_mono g (without (put c l true) m) c (itself e) j))
          go (inr n) (inr e) = n e
          go (inr n) (inl on) = path on (split g (without c m) l (without (put c l true) m) less j)

      one : (s t : ℕ) → Sound g s → Sound g t → Joined g (put c l true) t s → s ≡ t
      one s t p q j = go (split g c l (put c l true) (put_split c l) j)
        where
          go : Joined g c t s ⊎ Crossing g c l t s → s ≡ t
          go (inl i) = r.one s t p q i
          go (inr w) = absurd (out (crossed g formed c l k x y is_x is_y w))
            where
              out : Both x y (label g c s) (label g c t) → ⊥
              out (inl b) = none (sources (source x s p b.0) (source y t q b.1))
              out (inr b) = none (sources (source x t q b.1) (source y s p b.0))

      clear : (e : ℕ) → e < g.E → g.faulty e ≡ true → ¬ Live g (put c l true) e
      clear e h p v = go (split g c l (put c l true) (put_split c l) v.joined)
        where
          go : Joined g c v.source e ⊎ Crossing g c l v.source e → ⊥
          go (inl i) = r.clear e h p (record { source = v.source; sound = v.sound; joined = i })
          go (inr w) = out (crossed g formed c l k x y is_x is_y w)
            where
              out : Both x y (label g c e) (label g c v.source) → ⊥
              out (inl b) = none (fault_source (fault x e h p b.0) (source y v.source v.sound b.1))
              out (inr b) = none (source_fault (source x v.source v.sound b.1) (fault y e h p b.0))

  -- two parts that clash: joined, they are not
  pub clash_broken : (x ≡ y → ⊥) → Clashes (part_holds net c x) (part_holds net c y) → ¬ Radial net.grid (put c l true)
  clash_broken apart clashes r = go clashes
    where
      g : Grid
      g = net.grid

      meet : (a b : ℕ) → a < g.E → b < g.E → (label g c a ≡ x) ⊎ (label g c a ≡ y) → (label g c b ≡ x) ⊎ (label g c b ≡ y)
          → Joined g (put c l true) b a
      meet a b ka kb p q = label_joined g formed (put c l true) b a kb ka
          (to_low g formed c l k x y is_x is_y a ka p ∙ sym (to_low g formed c l k x y is_x is_y b kb q))

      two : (s : ℕ) × (s < g.E) × (sound? g s ≡ true) × (label g c s ≡ x) → (t : ℕ) × (t < g.E) × (sound? g t ≡ true) × (label g c t ≡ y) → ⊥
      two (s, ks, p, i) (t, kt, q, j) =
          apart (sym i ∙ ap (label g c) (r.one s t (sound?_out g s ks p) (sound?_out g t kt q) (meet s t ks kt (inl i) (inr j))) ∙ j)

      fed : (z w : ℕ) → (z ≡ x) ⊎ (z ≡ y) → (w ≡ x) ⊎ (w ≡ y)
          → (s : ℕ) × (s < g.E) × (sound? g s ≡ true) × (label g c s ≡ z) → (e : ℕ) × (e < g.E) × (g.faulty e ≡ true) × (label g c e ≡ w) → ⊥
      fed z w oz ow (s, ks, p, i) (e, ke, q, j) =
          r.clear e ke q (record { source = s; sound = sound?_out g s ks p; joined = meet e s ke ks (by e w j ow) (by s z i oz) })
        where
          by : (a v : ℕ) → label g c a ≡ v → (v ≡ x) ⊎ (v ≡ y) → (label g c a ≡ x) ⊎ (label g c a ≡ y)
          by a v i (inl o) = inl (i ∙ o)
          by a v i (inr o) = inr (i ∙ o)

      source : (z : ℕ) → has_source (part_holds net c z) ≡ true → (s : ℕ) × (s < g.E) × (sound? g s ≡ true) × (label g c s ≡ z)
      source z h = part_out net c (sound? g) z (sym (holds_source net c z) ∙ h)

      fault : (z : ℕ) → has_fault (part_holds net c z) ≡ true → (e : ℕ) × (e < g.E) × (g.faulty e ≡ true) × (label g c e ≡ z)
      fault z h = part_out net c g.faulty z (sym (holds_fault net c z) ∙ h)

      go : Clashes (part_holds net c x) (part_holds net c y) → ⊥
      go (sources p q) = two (source x p) (source y q)
      go (source_fault p q) = fed x y (inl refl) (inr refl) (source x p) (fault y q)
      go (fault_source p q) = fed y x (inr refl) (inl refl) (source y q) (fault x p)

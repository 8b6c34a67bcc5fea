-- Links put in one by one, each between two parts, make a forest: every closed link is a bridge.
-- Assumes nothing.
use Prim.Native.Nat.{ℕ, zero, suc, ◌≤◌, ◌<◌}
use mathlib.Core.Path.{◌≡◌, refl, sym, ap, ◌∙◌, subst}
use mathlib.Core.Logic.{◌⊎◌, inl, inr}
use mathlib.Core.Bool.{Bool, true, false, not, false≢true}
use lib.Dec.{eqb, ltb}
use borrow.Author.Tests.{eqb-true, eqb-false, ne_eqb, ltb-true, not-true}
use native.Mathlib.Omega.{arith}
use Rattle.feeding.specs.Networks.{Grid, Formed}
use Rattle.feeding.specs.Parts.{Config, Joined, here, over, touches, far}
use Rattle.feeding.specs.Safety.{without, Tree}
use Rattle.feeding.proofs.Below.{and_left, and_right, and_both}
use Rattle.feeding.proofs.Joins.{Spans, forth, back, spans_far, step, joined_trans, joined_sym}
use Rattle.feeding.proofs.Labels.{below, below_in}
use Rattle.feeding.proofs.Opening.{joined_mono}

-- a path that crosses the link n, from x to y
pub record Crossing (g : Grid) (c : Config) (n d a : ℕ) : Type 0 where
  pub x : ℕ
  pub y : ℕ
  pub spans : Spans g n x y
  pub first : Joined g c x a
  pub last : Joined g c d y

-- one more link: a path that goes without it, or one that crosses it once
module _ (g : Grid) (c : Config) (n : ℕ) where
  meet : {a b d : ℕ} → Spans g n a b → Joined g c d b ⊎ Crossing g c n d b → Joined g c d a ⊎ Crossing g c n d a
  meet {a} {b} {d} s (inl j) = inr (record { x = a; y = b; spans = s; first = here; last = j })
  meet {a} {b} {d} (forth p q) (inr r) = go r.spans
    where
      go : Spans g n r.x r.y → Joined g c d a ⊎ Crossing g c n d a
      go (forth u v) = inr (record { x = a; y = b; spans = forth p q; first = here; last = rw (sym v ∙ q) at r.last })
      go (back u v) = inl (rw (sym v ∙ p) at r.last)
  meet {a} {b} {d} (back p q) (inr r) = go r.spans
    where
      go : Spans g n r.x r.y → Joined g c d a ⊎ Crossing g c n d a
      go (back u v) = inr (record { x = a; y = b; spans = back p q; first = here; last = rw (sym v ∙ q) at r.last })
      go (forth u v) = inl (rw (sym v ∙ p) at r.last)

  along : {a d : ℕ} (l : ℕ) → l < g.K → c l ≡ true → touches g l a ≡ true → Joined g c d (far g l a) ⊎ Crossing g c n d (far g l a)
      → Joined g c d a ⊎ Crossing g c n d a
  along l k h t (inl j) = inl (over l k h t j)
  along l k h t (inr r) = inr (record { x = r.x; y = r.y; spans = r.spans; first = over l k h t r.first; last = r.last })

  pub split : (c' : Config) → ((l : ℕ) → c' l ≡ true → (c l ≡ true) ⊎ (l ≡ n))
      → {d a : ℕ} → Joined g c' d a → Joined g c d a ⊎ Crossing g c n d a
  split c' more here = inl here
  split c' more {d = d} (over {a = a} l k h t j) = go (more l h) (split c' more j)
    where
      go : (c l ≡ true) ⊎ (l ≡ n) → Joined g c d (far g l a) ⊎ Crossing g c n d (far g l a) → Joined g c d a ⊎ Crossing g c n d a
      go (inl i) r = along l k i t r
      go (inr e) r = meet (subst (λ (m : ℕ). Spans g m a (far g l a)) e (spans_far g l a t)) r

-- each closed link below n joins two parts that the links before it leave apart
abbrev pub Grows : Grid → Config → ℕ → Type 0
Grows g c n = (l : ℕ) → l < n → c l ≡ true → ¬ Joined g (below c l) (g.end_b l) (g.end_a l)

-- every closed link is a bridge
abbrev pub Bridges : Grid → Config → Type 0
Bridges g c = (l : ℕ) → l < g.K → c l ≡ true → ¬ Joined g (without c l) (g.end_b l) (g.end_a l)

BridgesTo : Grid → Config → ℕ → Type 0
BridgesTo g c n = (l : ℕ) → l < n → c l ≡ true → ¬ Joined g (without (below c n) l) (g.end_b l) (g.end_a l)

pub below_out : (c : Config) (n l : ℕ) → below c n l ≡ true → l < n
unfolding below
below_out c n l h = ltb-true l n (and_left _ (c l) h)

pub below_on : (c : Config) (n l : ℕ) → below c n l ≡ true → c l ≡ true
unfolding below
below_on c n l h = and_right (ltb l n) (c l) h

pub without_on : (c : Config) (n l : ℕ) → without c n l ≡ true → c l ≡ true
unfolding without
without_on c n l h = and_left (c l) _ h

pub without_ne : (c : Config) (n l : ℕ) → without c n l ≡ true → l ≡ n → ⊥
unfolding without
without_ne c n l h = eqb-false l n (not-true _ (and_right (c l) _ h))

pub without_in : (c : Config) (n l : ℕ) → c l ≡ true → (l ≡ n → ⊥) → without c n l ≡ true
unfolding without
without_in c n l h e = and_both (c l) _ h (ap not (ne_eqb l n e))

module _ (g : Grid) (c : Config) where
  -- the links below n, without l, and with n
  with_n : (n l m : ℕ) → without (below c (suc n)) l m ≡ true → (without (below c n) l m ≡ true) ⊎ (m ≡ n)
  with_n n l m h = go (eqb m n) refl
    where
      go : (t : Bool) → eqb m n ≡ t → (without (below c n) l m ≡ true) ⊎ (m ≡ n)
      go true e = inr (eqb-true m n e)
      go false e = inl (without_in (below c n) l m
          (below_in c n m (omega (arith, eqb-false m n e, below_out c (suc n) m (without_on (below c (suc n)) l m h)))
          (below_on c (suc n) m (without_on (below c (suc n)) l m h)))
          (without_ne (below c (suc n)) l m h))

  -- a path that crosses n closes a circle with the link l
  circle : (n l : ℕ) → l < g.K → l < n → c l ≡ true → ¬ Joined g (below c n) (g.end_b n) (g.end_a n)
      → Crossing g (without (below c n) l) n (g.end_b l) (g.end_a l) → ⊥
  circle n l k h e apart r = go r.spans
    where
      up : {a d : ℕ} → Joined g (without (below c n) l) d a → Joined g (below c n) d a
      up j = joined_mono g (without (below c n) l) (below c n) (without_on (below c n) l) j

      xy : Joined g (below c n) r.y r.x
      xy = joined_trans g _ (joined_sym g _ (up r.first))
          (step g _ l (g.end_a l) (g.end_b l) k (below_in c n l h e) (forth refl refl) (joined_sym g _ (up r.last)))

      go : Spans g n r.x r.y → ⊥
      go (forth p q) = apart (rw (p, q) xy)
      go (back p q) = apart (rw (p, q) (joined_sym g _ xy))

  grows_bridges : (n : ℕ) → n ≤ g.K → Grows g c n → BridgesTo g c n
  unfolding BridgesTo
  grows_bridges zero k f l h e j = omega arith
  grows_bridges (suc n) k f l h e j = go (grows_bridges n (omega arith) (λ m b. f m (omega arith)) l) (eqb l n) refl (c n) refl
    where
      below_suc_out : (m : ℕ) → without (below c (suc n)) l m ≡ true → m < suc n
      below_suc_out m b = below_out c (suc n) m (without_on (below c (suc n)) l m b)

      below_suc_on : (m : ℕ) → without (below c (suc n)) l m ≡ true → c m ≡ true
      below_suc_on m b = below_on c (suc n) m (without_on (below c (suc n)) l m b)

      go : (l < n → c l ≡ true → ¬ Joined g (without (below c n) l) (g.end_b l) (g.end_a l))
          → (t : Bool) → eqb l n ≡ t → (u : Bool) → c n ≡ u → ⊥
      go ih true t u p = f l h e (joined_mono g (without (below c (suc n)) l) (below c l)
          (λ m b. below_in c l m (omega (arith, eqb-true l n t, without_ne (below c (suc n)) l m b, below_suc_out m b)) (below_suc_on m b)) j)
      go ih false t true p = last (split g (without (below c n) l) n (without (below c (suc n)) l) (with_n n l) j)
        where
          last : Joined g (without (below c n) l) (g.end_b l) (g.end_a l) ⊎ Crossing g (without (below c n) l) n (g.end_b l) (g.end_a l) → ⊥
          last (inl i) = ih (omega (arith, eqb-false l n t)) e i
          last (inr r) = circle n l (omega arith) (omega (arith, eqb-false l n t)) e (f n (omega arith) p) r
      go ih false t false p = ih (omega (arith, eqb-false l n t)) e (joined_mono g (without (below c (suc n)) l) (without (below c n) l) same j)
        where
          same : (m : ℕ) → without (below c (suc n)) l m ≡ true → without (below c n) l m ≡ true
          same m b = out (with_n n l m b)
            where
              out : (without (below c n) l m ≡ true) ⊎ (m ≡ n) → without (below c n) l m ≡ true
              out (inl i) = i
              out (inr q) = absurd (false≢true (sym p ∙ ap c (sym q) ∙ below_suc_on m b))

  pub grows_tree : Grows g c g.K → Bridges g c
  unfolding BridgesTo
  grows_tree f l k h j = grows_bridges g.K (omega arith) f l k h (all j)
    where
      all : {d a : ℕ} → Joined g (without c l) d a → Joined g (without (below c g.K) l) d a
      all here = here
      all (over m k h t j) =
          over m k (without_in (below c g.K) l m (below_in c g.K m k (without_on c l m h)) (without_ne c l m h)) t (all j)

  pub tree_grows : Bridges g c → Grows g c g.K
  tree_grows f l k h j = f l k h (joined_mono g (below c l) (without c l)
      (λ m b. without_in c l m (below_on c l m b) (λ q. omega (arith, below_out c l m b))) j)

-- every part is a tree: every closed link is a bridge, in the part of its first end
pub safe_bridges : (g : Grid) → Formed g → (c : Config) → ((e : ℕ) → e < g.E → Tree g c e) → Bridges g c
safe_bridges g formed c trees l k h = trees (g.end_a l) (formed.end_a_lt l k) l k h here

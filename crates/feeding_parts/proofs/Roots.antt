-- Roots where no entry is above its own number: a root is found by following the entries, and what a store does to the roots.
-- Assumes nothing.
use Prim.Native.Nat.{ℕ, zero, suc, ◌+◌, ◌≤◌, ◌<◌}
use mathlib.Core.Path.{◌≡◌, refl, sym, ap, ◌∙◌}
use mathlib.Core.Logic.{◌⊎◌, inl, inr}
use mathlib.Core.Bool.{Bool, true, false}
use mathlib.Core.List.{List}
use lib.Dec.{eqb, ltb}
use lib.ListN.{length, set, length-set, get_or-eq_default}
use lib.Seq.{get_or-set_same, get_or-set_other}
use borrow.Author.Tests.{eqb-true, eqb-false, eq-eqb, ne_eqb, ltb-true, ltb-false}
use native.Mathlib.Omega.{arith}
use Rattle.feeding.specs.Networks.{at}
use Rattle.feeding.specs.Parts.{relabel}
use Rattle.feeding.proofs.Labels.{relabel_at, relabel_off}
use Rattle.feeding.proofs.Lows.{table_ext}
use Rattle.feeding_parts.specs.Labelling.{Falls, root_from, root_of, roots_of}

same? : (x y : ℕ) → (x ≡ y) ⊎ (x ≡ y → ⊥)
same? x y = go (eqb x y) refl
  where
    go : (t : Bool) → eqb x y ≡ t → (x ≡ y) ⊎ (x ≡ y → ⊥)
    go true e = inl (eqb-true x y e)
    go false e = inr (eqb-false x y e)

-- ---- the entries

pub falls_all : (p : List ℕ) → Falls p → (x : ℕ) → at p x ≤ x
falls_all p f x = go (ltb x (length p)) refl
  where
    go : (t : Bool) → ltb x (length p) ≡ t → at p x ≤ x
    go true e = f x (ltb-true x (length p) e)
    go false e = omega (arith, get_or-eq_default p 0 (ltb-false x (length p) e))

module _ (p : List ℕ) where
  from_own : (n x : ℕ) → at p x ≡ x → root_from n p x ≡ x
  unfolding root_from
  from_own zero x h = refl
  from_own (suc n) x h = rw (eq-eqb (at p x) x h, root_from)

  from_other : (n x : ℕ) → (at p x ≡ x → ⊥) → root_from (suc n) p x ≡ root_from n p (at p x)
  unfolding root_from
  from_other n x h = rw (ne_eqb (at p x) x h, root_from)

  from_step : (n x : ℕ) → root_from (suc n) p x ≡ root_from n p (at p x)
  from_step n x = go (same? (at p x) x)
    where
      go : (at p x ≡ x) ⊎ (at p x ≡ x → ⊥) → root_from (suc n) p x ≡ root_from n p (at p x)
      go (inl h) = from_own (suc n) x h ∙ sym (from_own n x h) ∙ ap (root_from n p) (sym h)
      go (inr h) = from_other n x h

  from_none : (x : ℕ) → root_from zero p x ≡ x
  unfolding root_from
  from_none x = refl

  pub root_own : (x : ℕ) → at p x ≡ x → root_of p x ≡ x
  unfolding root_of
  root_own x h = from_own x x h

module _ (p : List ℕ) (f : Falls p) where
  -- one step more than enough changes nothing
  more : (n x : ℕ) → x ≤ n → root_from (suc n) p x ≡ root_from n p x
  more zero x h = let own : at p x ≡ x = omega (arith, falls_all p f x) in from_own p 1 x own ∙ sym (from_own p 0 x own)
  more (suc n) x h = go (more n (at p x)) (same? (at p x) x)
    where
      go : (at p x ≤ n → root_from (suc n) p (at p x) ≡ root_from n p (at p x)) → (at p x ≡ x) ⊎ (at p x ≡ x → ⊥)
          → root_from (suc (suc n)) p x ≡ root_from (suc n) p x
      go ih (inl e) = from_own p (suc (suc n)) x e ∙ sym (from_own p (suc n) x e)
      go ih (inr e) = from_step p (suc n) x ∙ ih (omega (arith, falls_all p f x)) ∙ sym (from_step p n x)

  enough : (n x : ℕ) → x ≤ n → root_from n p x ≡ root_of p x
  unfolding root_of
  enough zero x h = let z : x ≡ 0 = omega arith in ap (λ (n : ℕ). root_from n p x) (sym z)
  enough (suc n) x h = go (enough n x) (same? x (suc n))
    where
      go : (x ≤ n → root_from n p x ≡ root_of p x) → (x ≡ suc n) ⊎ (x ≡ suc n → ⊥) → root_from (suc n) p x ≡ root_of p x
      go ih (inl e) = ap (λ (n : ℕ). root_from n p x) (sym e)
      go ih (inr e) = let k : x ≤ n = omega arith in more n x k ∙ ih k

  -- an element and its entry have one root
  pub root_up : (x : ℕ) → root_of p (at p x) ≡ root_of p x
  root_up x = sym (enough x (at p x) (falls_all p f x)) ∙ sym (from_step p x x) ∙ enough (suc x) x (omega arith)

  from_le : (n x : ℕ) → root_from n p x ≤ x
  from_le zero x = omega (arith, from_none p x)
  from_le (suc n) x = omega (arith, from_le n (at p x), from_step p n x, falls_all p f x)

  pub root_le : (x : ℕ) → root_of p x ≤ x
  unfolding root_of
  root_le x = from_le x x

  pub root_in : (i x : ℕ) → i < 64 → x ≡ root_of p i → x < 64
  root_in i x h e = omega (arith, root_le i)

  from_is : (n x : ℕ) → x ≤ n → at p (root_from n p x) ≡ root_from n p x
  from_is zero x h = let own : at p x ≡ x = omega (arith, falls_all p f x) in rw (from_none p x) own
  from_is (suc n) x h = go (from_is n (at p x)) (same? (at p x) x)
    where
      go : (at p x ≤ n → at p (root_from n p (at p x)) ≡ root_from n p (at p x)) → (at p x ≡ x) ⊎ (at p x ≡ x → ⊥)
          → at p (root_from (suc n) p x) ≡ root_from (suc n) p x
      go ih (inl e) = rw (from_own p (suc n) x e) e
      go ih (inr e) = rw (from_step p n x) (ih (omega (arith, falls_all p f x)))

  -- a root is its own entry
  pub root_is : (x : ℕ) → at p (root_of p x) ≡ root_of p x
  unfolding root_of
  root_is x = from_is x x (omega arith)

  -- a function that an element shares with its entry, and that leaves the roots as they are, gives the root
  kept_from : (m : ℕ) (g : ℕ → ℕ) → ((x : ℕ) → x < m → g (at p x) ≡ g x) → (n x : ℕ) → x < m → g (root_from n p x) ≡ g x
  kept_from m g up zero x h = ap g (from_none p x)
  kept_from m g up (suc n) x h = ap g (from_step p n x) ∙ kept_from m g up n (at p x) (omega (arith, falls_all p f x)) ∙ up x h

  pub root_unique : (m : ℕ) (g : ℕ → ℕ) → ((x : ℕ) → x < m → g (at p x) ≡ g x) → ((x : ℕ) → x < m → at p x ≡ x → g x ≡ x)
      → (x : ℕ) → x < m → root_of p x ≡ g x
  unfolding root_of
  root_unique m g up own x h =
      sym (own (root_of p x) (omega (arith, root_le x)) (root_is x)) ∙ kept_from m g up x x h

-- ---- a store

pub falls_set : (p : List ℕ) → Falls p → (y v : ℕ) → v ≤ y → Falls (set p y v)
falls_set p f y v h x k = go (same? x y)
  where
    go : (x ≡ y) ⊎ (x ≡ y → ⊥) → at (set p y v) x ≤ x
    go (inl e) =
        let i : y < length p = omega (arith, length-set p y v) in
        rw e (omega (arith, get_or-set_same p y v 0 i))
    go (inr e) = omega (arith, get_or-set_other p y x v 0 e, falls_all p f x)

-- a lower root stored at a root: its elements get the lower root
module _ (p : List ℕ) (f : Falls p) (hi lo : ℕ) (in-hi : hi < length p) (own-hi : at p hi ≡ hi) (own-lo : at p lo ≡ lo) (lt : lo < hi) where
  pub root_store : (x : ℕ) → x < length p → root_of (set p hi lo) x ≡ relabel hi lo (root_of p x)
  root_store x h =
      root_unique (set p hi lo) (falls_set p f hi lo (omega arith)) (length p) (λ x. relabel hi lo (root_of p x))
      (λ x k. up x (same? x hi)) (λ x k. own x (same? x hi)) x h
    where
      up : (x : ℕ) → (x ≡ hi) ⊎ (x ≡ hi → ⊥) → relabel hi lo (root_of p (at (set p hi lo) x)) ≡ relabel hi lo (root_of p x)
      up x (inl e) =
          rw (e, get_or-set_same p hi lo 0 in-hi, root_own p lo own-lo, root_own p hi own-hi)
          (relabel_off hi lo lo (omega arith) ∙ sym (relabel_at hi lo))
      up x (inr e) = ap (λ (y : ℕ). relabel hi lo (root_of p y)) (get_or-set_other p hi x lo 0 e) ∙ ap (relabel hi lo) (root_up p f x)

      own : (x : ℕ) → (x ≡ hi) ⊎ (x ≡ hi → ⊥) → at (set p hi lo) x ≡ x → relabel hi lo (root_of p x) ≡ x
      own x (inl e) h = absurd (omega (arith, get_or-set_same p hi lo 0 in-hi, ap (at (set p hi lo)) e))
      own x (inr e) h =
          let r : root_of p x ≡ x = root_own p x (sym (get_or-set_other p hi x lo 0 e) ∙ h) in
          ap (relabel hi lo) r ∙ relabel_off hi lo x e

-- an element's own root stored at it: no root changes
pub root_shorter : (p : List ℕ) → Falls p → (y : ℕ) → y < length p → (x : ℕ) → x < length p → root_of (set p y (root_of p y)) x ≡ root_of p x
root_shorter p f y k x h =
    root_unique (set p y r) (falls_set p f y r (root_le p f y)) (length p) (root_of p) (λ x k. up x (same? x y)) (λ x k. own x (same? x y)) x h
  where
    r : ℕ
    r = root_of p y

    up : (x : ℕ) → (x ≡ y) ⊎ (x ≡ y → ⊥) → root_of p (at (set p y r) x) ≡ root_of p x
    up x (inl e) = rw e (ap (root_of p) (get_or-set_same p y r 0 k) ∙ root_own p r (root_is p f y))
    up x (inr e) = ap (root_of p) (get_or-set_other p y x r 0 e) ∙ root_up p f x

    own : (x : ℕ) → (x ≡ y) ⊎ (x ≡ y → ⊥) → at (set p y r) x ≡ x → root_of p x ≡ x
    own x (inl e) h = rw e (sym (get_or-set_same p y r 0 k) ∙ ap (at (set p y r)) (sym e) ∙ h ∙ e)
    own x (inr e) h = root_own p x (sym (get_or-set_other p y x r 0 e) ∙ h)

-- ---- each element with its root

-- the first n entries are the roots, the others as in p
pub record FlatTo (p : List ℕ) (n : ℕ) (label : List ℕ) : Type 0 where
  pub long : length label ≡ length p
  pub done : (x : ℕ) → x < n → at label x ≡ root_of p x
  pub left : (x : ℕ) → n ≤ x → at label x ≡ at p x

pub flat_none : (p : List ℕ) → FlatTo p 0 p
flat_none p = record { long = refl; done = λ x h. absurd (omega arith); left = λ x h. refl }

module _ (p : List ℕ) (f : Falls p) (n : ℕ) (label : List ℕ) (inv : FlatTo p n label) where
  -- what is stored at n: the root of n
  flat_next : at label (at label n) ≡ root_of p n
  flat_next = go (same? (at p n) n)
    where
      here : at label n ≡ at p n
      here = inv.left n (omega arith)

      go : (at p n ≡ n) ⊎ (at p n ≡ n → ⊥) → at label (at label n) ≡ root_of p n
      go (inl e) = ap (at label) (here ∙ e) ∙ here ∙ e ∙ sym (root_own p n e)
      go (inr e) = ap (at label) here ∙ inv.done (at p n) (omega (arith, falls_all p f n)) ∙ root_up p f n

  pub flat_turn : n < length p → FlatTo p (n + 1) (set label n (at label (at label n)))
  flat_turn k = record {
    long = length-set label n _ ∙ inv.long;
    done = λ x h. done x h (same? x n);
    left = λ x h. get_or-set_other label n x _ 0 (omega arith) ∙ inv.left x (omega arith);
  }
    where
      done : (x : ℕ) → x < n + 1 → (x ≡ n) ⊎ (x ≡ n → ⊥) → at (set label n (at label (at label n))) x ≡ root_of p x
      done x h (inl e) = rw e (get_or-set_same label n (at label (at label n)) 0 (omega (arith, inv.long)) ∙ flat_next)
      done x h (inr e) = get_or-set_other label n x (at label (at label n)) 0 e ∙ inv.done x (omega arith)

  pub flat_in : n < 64 → at label n < 64
  flat_in k = omega (arith, inv.left n (omega arith), falls_all p f n)

pub flat_all : (p label : List ℕ) (n : ℕ) → 64 ≤ n → length p ≡ 64 → FlatTo p n label → label ≡ roots_of p
unfolding roots_of
flat_all p label n k h inv = table_ext 64 (root_of p) label (inv.long ∙ h) (λ x l. inv.done x (omega arith))

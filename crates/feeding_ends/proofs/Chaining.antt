-- What `own_ends` makes by one end after another, from the last down: each end of a link in the set goes to the head of its element's chain.
-- Assumes nothing.
use Prim.Native.Nat.{ℕ, suc, ◌+◌, ◌-◌, ◌*◌, ◌/◌, ◌≤◌, ◌<◌}
use mathlib.Core.Path.{◌≡◌, refl, sym, ap, ◌∙◌, subst}
use mathlib.Core.Bool.{Bool, true, false}
use mathlib.Core.List.{List}
use lib.Dec.{eqb, ltb}
use lib.ListN.{length, set, length-set, replicate, length-replicate, get_or-replicate}
use lib.Seq.{get_or-set_same, get_or-set_other}
use borrow.Author.Tests.{eq-eqb, eqb-true, eqb-false, ltb-true, ltb-false, lt-ltb, le-ltb}
use native.Mathlib.Omega.{arith}
use Rattle.feeding.specs.Below.{gate}
use Rattle.feeding.specs.Networks.{at, is_in}
use Rattle.feeding.proofs.Below.{ltb_suc}
use Rattle.feeding.proofs.Lows.{table_ext}
use Rattle.feeding_ends.specs.Ends.{TwoEnds, end_at, far_at, own_end, own_ends}
use Rattle.feeding_ends.proofs.Chains.{own_yes, own_no, own_end_in, own_end_out, own_end_past, end_first, end_second}

-- what stands at j in the end, for the ends of the first n links
unfoldable pub next_end : (a b : ℕ → ℕ) (has : ℕ → Bool) (n : ℕ) → ℕ → ℕ
next_end a b has n j = elim (ltb j (2 * n)) [ true ↦ own_end a b has n (end_at a b j) (suc j) | false ↦ 192 ]

unfoldable pub far_end : (a b : ℕ → ℕ) (n : ℕ) → ℕ → ℕ
far_end a b n j = gate (ltb j (2 * n)) (far_at a b j)

-- z below i, as it ends from i on
unfoldable pub from_on : (i z : ℕ) → (ℕ → ℕ) → ℕ → ℕ
from_on i z f j = elim (ltb j i) [ true ↦ z | false ↦ f j ]

on_below : (i z : ℕ) (f : ℕ → ℕ) (j : ℕ) → j < i → from_on i z f j ≡ z
unfolding from_on
on_below i z f j h = rw (lt-ltb j i h, from_on)

on_past : (i z : ℕ) (f : ℕ → ℕ) (j : ℕ) → i ≤ j → from_on i z f j ≡ f j
unfolding from_on
on_past i z f j h = rw (le-ltb j i h, from_on)

on_other : (i z : ℕ) (f : ℕ → ℕ) (j : ℕ) → (j ≡ i → ⊥) → from_on (suc i) z f j ≡ from_on i z f j
unfolding from_on
on_other i z f j h = rw (ltb_suc j i h, from_on)

-- the lists once the ends from i on are chained
pub record Chained (a b : ℕ → ℕ) (has : ℕ → Bool) (n i : ℕ) (head next far : List ℕ) : Type 0 where
  pub head_length : length head ≡ 64
  pub next_length : length next ≡ 192
  pub far_length : length far ≡ 192
  pub heads : (e : ℕ) → e < 64 → at head e ≡ own_end a b has n e i
  pub nexts : (j : ℕ) → j < 192 → at next j ≡ from_on i 192 (next_end a b has n) j
  pub fars : (j : ℕ) → j < 192 → at far j ≡ from_on i 0 (far_end a b n) j

-- none chained yet
pub chained_none : (a b : ℕ → ℕ) (has : ℕ → Bool) (n : ℕ) → n ≤ 96 → (head next far : List ℕ) → length head ≡ 64 → length next ≡ 192 → length far ≡ 192
    → ((e : ℕ) → e < 64 → at head e ≡ 192) → ((j : ℕ) → j < 192 → at next j ≡ 192) → ((j : ℕ) → j < 192 → at far j ≡ 0)
    → Chained a b has n (2 * n) head next far
unfolding next_end far_end
chained_none a b has n k head next far p q r h x f = record {
  head_length = p;
  next_length = q;
  far_length = r;
  heads = λ e ke. h e ke ∙ sym (own_end_past a b has n e (2 * n) (omega arith) (omega arith));
  nexts = λ j kj. x j kj ∙ sym (next_at_lem j (ltb j (2 * n)) refl);
  fars = λ j kj. f j kj ∙ sym (far_at_lem j (ltb j (2 * n)) refl);
}
  where
    next_at_lem : (j : ℕ) (t : Bool) → ltb j (2 * n) ≡ t → from_on (2 * n) 192 (next_end a b has n) j ≡ 192
    next_at_lem j true t = on_below (2 * n) 192 (next_end a b has n) j (ltb-true j _ t)
    next_at_lem j false t = on_past (2 * n) 192 (next_end a b has n) j (ltb-false j _ t) ∙ rw (t, next_end)

    far_at_lem : (j : ℕ) (t : Bool) → ltb j (2 * n) ≡ t → from_on (2 * n) 0 (far_end a b n) j ≡ 0
    far_at_lem j true t = on_below (2 * n) 0 (far_end a b n) j (ltb-true j _ t)
    far_at_lem j false t = on_past (2 * n) 0 (far_end a b n) j (ltb-false j _ t) ∙ rw (t, far_end)

-- a list with one entry set, where it changes from f to g at that entry only
set_step : (xs : List ℕ) (w i x : ℕ) (f g : ℕ → ℕ) → length xs ≡ w → i < w → ((j : ℕ) → j < w → at xs j ≡ f j) → x ≡ g i
    → ((j : ℕ) → (j ≡ i → ⊥) → f j ≡ g j) → (j : ℕ) → j < w → at (set xs i x) j ≡ g j
set_step xs w i x f g len ki old here else j kj = go (eqb j i) refl
  where
    go : (t : Bool) → eqb j i ≡ t → at (set xs i x) j ≡ g j
    go true t = let q : j ≡ i = eqb-true j i t in rw q (get_or-set_same xs i x 0 (omega arith) ∙ here)
    go false t = get_or-set_other xs i j x 0 (eqb-false j i t) ∙ old j kj ∙ else j (eqb-false j i t)

module _ (a b : ℕ → ℕ) (has : ℕ → Bool) (n : ℕ) where
  -- the end i, at the element x with the element y beyond: its next is what was the head, and the head is as it should be
  chained_end : (i x y z : ℕ) (head head' next far : List ℕ) → i < 2 * n → n ≤ 96 → end_at a b i ≡ x → end_at b a i ≡ y → x < 64 → z ≡ at head x
      → length head' ≡ 64 → ((e : ℕ) → e < 64 → at head' e ≡ own_end a b has n e i)
      → Chained a b has n (suc i) head next far → Chained a b has n i head' (set next i z) (set far i y)
  unfolding next_end far_end far_at
  chained_end i x y z head head' next far k fit p q kx zx long heads r = record {
    head_length = long;
    next_length = length-set next i z ∙ r.next_length;
    far_length = length-set far i y ∙ r.far_length;
    heads = heads;
    nexts = set_step next 192 i z (from_on (suc i) 192 (next_end a b has n)) (from_on i 192 (next_end a b has n)) r.next_length
        (omega arith) r.nexts
        (zx ∙ r.heads x kx ∙ sym (on_past i 192 (next_end a b has n) i (omega arith) ∙ next_at_lem))
        (λ j d. on_other i 192 (next_end a b has n) j d);
    fars = set_step far 192 i y (from_on (suc i) 0 (far_end a b n)) (from_on i 0 (far_end a b n)) r.far_length (omega arith) r.fars
        (sym (on_past i 0 (far_end a b n) i (omega arith) ∙ far_at_lem))
        (λ j d. on_other i 0 (far_end a b n) j d);
  }
    where
      next_at_lem : next_end a b has n i ≡ own_end a b has n x (suc i)
      next_at_lem = rw (lt-ltb i (2 * n) k, next_end) (ap (λ z. own_end a b has n z (suc i)) p)

      far_at_lem : far_end a b n i ≡ y
      far_at_lem = rw (lt-ltb i (2 * n) k, far_end) q

  -- the end's link is in the set: it goes to the head of its element's chain
  end_in : (i x y z : ℕ) (head next far : List ℕ) → i < 2 * n → n ≤ 96 → end_at a b i ≡ x → end_at b a i ≡ y → x < 64 → z ≡ at head x
      → has (i / 2) ≡ true
      → Chained a b has n (suc i) head next far → Chained a b has n i (set head x i) (set next i z) (set far i y)
  end_in i x y z head next far k fit p q kx zx h r = chained_end i x y z head (set head x i) next far k fit p q kx zx (length-set head x i ∙ r.head_length)
      (set_step head 64 x i (λ e. own_end a b has n e (suc i)) (λ e. own_end a b has n e i) r.head_length kx r.heads
      (sym (own_end_in a b has n x i (omega arith) (own_yes a b has n x i k p h)))
      (λ e d. sym (own_end_out a b has n e i (omega arith) (own_no a b has n e i (λ _ z _. d (sym z ∙ p))))))
      r

  -- it is not: the heads stay
  end_out : (i x y : ℕ) (head next far : List ℕ) → i < 2 * n → n ≤ 96 → end_at a b i ≡ x → end_at b a i ≡ y → x < 64
      → (has (i / 2) ≡ true → ⊥)
      → Chained a b has n (suc i) head next far → Chained a b has n i head (set next i (at head x)) (set far i y)
  end_out i x y head next far k fit p q kx h r = chained_end i x y (at head x) head head next far k fit p q kx refl r.head_length
      (λ e ke. r.heads e ke ∙ sym (own_end_out a b has n e i (omega arith) (own_no a b has n e i (λ _ _ m. h m))))
      r

  -- the two ends of the link l, which joins x and y
  module _ (l x y : ℕ) (head next far : List ℕ) (k : l < n) (fit : n ≤ 96) (p : a l ≡ x) (q : b l ≡ y) (kx : x < 64) (ky : y < 64) (apart : x ≡ y → ⊥)
      (r : Chained a b has n (2 * l + 2) head next far) where
    odd : 2 * l + 1 ≡ suc (2 * l)
    odd = omega arith

    even : 2 * l + 2 ≡ suc (2 * l + 1)
    even = omega arith

    first : 2 * l / 2 ≡ l
    first = omega arith

    second : (2 * l + 1) / 2 ≡ l
    second = omega arith

    link_in : has l ≡ true
        → Chained a b has n (2 * l) (set (set head y (2 * l + 1)) x (2 * l))
        (set (set next (2 * l + 1) (at head y)) (2 * l) (at head x))
        (set (set far (2 * l + 1) x) (2 * l) y)
    link_in h =
        end_in (2 * l) x y (at head x) _ _ _ (omega arith) fit (end_first a b l ∙ p) (end_first b a l ∙ q) kx
        (sym (get_or-set_other head y x (2 * l + 1) 0 apart)) (ap has first ∙ h)
        (subst (λ z. Chained a b has n z (set head y (2 * l + 1)) (set next (2 * l + 1) (at head y)) (set far (2 * l + 1) x)) odd
        (end_in (2 * l + 1) y x (at head y) head next far (omega arith) fit (end_second a b l ∙ q) (end_second b a l ∙ p) ky refl (ap has second ∙ h)
        (subst (λ z. Chained a b has n z head next far) even r)))

    link_out : (has l ≡ true → ⊥)
        → Chained a b has n (2 * l) head (set (set next (2 * l + 1) (at head y)) (2 * l) (at head x)) (set (set far (2 * l + 1) x) (2 * l) y)
    link_out h =
        end_out (2 * l) x y head _ _ (omega arith) fit (end_first a b l ∙ p) (end_first b a l ∙ q) kx (λ z. h (ap has (sym first) ∙ z))
        (subst (λ z. Chained a b has n z head (set next (2 * l + 1) (at head y)) (set far (2 * l + 1) x)) odd
        (end_out (2 * l + 1) y x head next far (omega arith) fit (end_second a b l ∙ q) (end_second b a l ∙ p) ky (λ z. h (ap has (sym second) ∙ z))
        (subst (λ z. Chained a b has n z head next far) even r)))

  -- all chained
  pub chained_all : (head next far : List ℕ) → Chained a b has n 0 head next far → record { head = head; next = next; far = far } ≡ own_ends a b has n
  unfolding own_ends next_end far_end
  chained_all head next far r = cc (
    table_ext 64 (λ e. own_end a b has n e 0) head r.head_length r.heads,
    table_ext 192 (next_end a b has n) next r.next_length (λ j k. r.nexts j k ∙ on_past 0 192 (next_end a b has n) j (omega arith)),
    table_ext 192 (far_end a b n) far r.far_length (λ j k. r.fars j k ∙ on_past 0 0 (far_end a b n) j (omega arith)),
  )

pub chained_start : (a b : ℕ → ℕ) (has : ℕ → Bool) (n : ℕ) → n ≤ 96
    → Chained a b has n (2 * n) (replicate 64 192) (replicate 192 192) (replicate 192 0)
chained_start a b has n k = chained_none a b has n k (replicate 64 192) (replicate 192 192) (replicate 192 0)
    (length-replicate {A = ℕ} 64 192) (length-replicate {A = ℕ} 192 192) (length-replicate {A = ℕ} 192 0)
    (λ e h. get_or-replicate 64 e 192 0 h) (λ j h. get_or-replicate 192 j 192 0 h) (λ j h. get_or-replicate 192 j 0 0 h)

-- one turn, from the link after it
module _ (from to has : List ℕ) (n l : ℕ) (head next far : List ℕ) (w : TwoEnds from to has n) (some : 0 < l) (most : l ≤ n)
    (r : Chained (at from) (at to) (is_in has) n (2 * l) head next far) where
  before : Chained (at from) (at to) (is_in has) n (2 * (l - 1) + 2) head next far
  before = let same : 2 * l ≡ 2 * (l - 1) + 2 = omega arith in subst (λ z. Chained (at from) (at to) (is_in has) n z head next far) same r

  -- x and y are the numbers of the link's ends
  pub turn_in : (x y : ℕ) → x ≡ 2 * (l - 1) + 1 → y ≡ 2 * (l - 1) → at has (l - 1) ≡ 1
      → Chained (at from) (at to) (is_in has) n (2 * (l - 1)) (set (set head (at to (l - 1)) x) (at from (l - 1)) y)
      (set (set next (2 * (l - 1) + 1) (at head (at to (l - 1)))) (2 * (l - 1)) (at head (at from (l - 1))))
      (set (set far (2 * (l - 1) + 1) (at from (l - 1))) (2 * (l - 1)) (at to (l - 1)))
  turn_in x y p q h = rw (p, q)
      (link_in (at from) (at to) (is_in has) n (l - 1) (at from (l - 1)) (at to (l - 1)) head next far (omega arith) w.fit refl refl
      (w.from_in (l - 1) (omega arith)) (w.to_in (l - 1) (omega arith)) (w.differ (l - 1) (omega arith)) before (eq-eqb _ 1 h))

  pub turn_out : (at has (l - 1) ≡ 1 → ⊥)
      → Chained (at from) (at to) (is_in has) n (2 * (l - 1)) head
      (set (set next (2 * (l - 1) + 1) (at head (at to (l - 1)))) (2 * (l - 1)) (at head (at from (l - 1))))
      (set (set far (2 * (l - 1) + 1) (at from (l - 1))) (2 * (l - 1)) (at to (l - 1)))
  turn_out h = link_out (at from) (at to) (is_in has) n (l - 1) (at from (l - 1)) (at to (l - 1)) head next far (omega arith) w.fit refl refl
      (w.from_in (l - 1) (omega arith)) (w.to_in (l - 1) (omega arith)) (w.differ (l - 1) (omega arith)) before (λ z. h (eqb-true _ 1 z))

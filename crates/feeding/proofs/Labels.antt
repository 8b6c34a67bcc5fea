-- Two elements are joined exactly where their labels agree, and a label is the lowest element of its part: by induction on the links.
-- Assumes nothing.
use Prim.Native.Nat.{ℕ, zero, suc, ◌≤◌, ◌<◌}
use mathlib.Core.Path.{◌≡◌, refl, sym, ap, ◌∙◌, subst}
use mathlib.Core.Logic.{◌⊎◌, inl, inr}
use mathlib.Core.Bool.{Bool, true, false, cond, ◌&&◌, false≢true}
use mathlib.Core.List.{List, map}
use lib.ListN.{length, get_or, length-map, get_or-map, get_or-eq_default}
use lib.Dec.{eqb, ltb, leb}
use borrow.Author.Tests.{eqb-true, eqb-false, eq-eqb, ne_eqb, ltb-true, ltb-false, lt-ltb, leb-true, leb-false, le-leb, lt-leb}
use native.Mathlib.Omega.{arith}
use Rattle.feeding.specs.Below.{tabulate}
use Rattle.feeding.specs.Networks.{Grid, Formed, at}
use Rattle.feeding.specs.Parts.{Config, Joined, here, over, far, relabel, merge, link, labels, labels_after, label, joined?}
use Rattle.feeding.proofs.Below.{and_left, and_right, and_both}
use Rattle.feeding.proofs.Joins.{Spans, forth, back, spans_far, step, joined_trans}
use Rattle.feeding.proofs.Lows.{length_tabulate, at_tabulate}
use Rattle.feeding.proofs.Opening.{joined_mono}

-- the links below n only
unfoldable pub below : Config → ℕ → Config
below c n l = ltb l n && c l

-- ---- one label

pub relabel_at : (x y : ℕ) → relabel x y x ≡ y
unfolding relabel
relabel_at x y = rw (eq-eqb x x refl)

pub relabel_off : (x y z : ℕ) → (z ≡ x → ⊥) → relabel x y z ≡ z
unfolding relabel
relabel_off x y z h = rw (ne_eqb z x h)

relabel_or : (x y z : ℕ) → (relabel x y z ≡ z) ⊎ ((z ≡ x) × (relabel x y z ≡ y))
unfolding relabel
relabel_or x y z = go (eqb z x) refl
  where
    go : (t : Bool) → eqb z x ≡ t → (cond t y z ≡ z) ⊎ ((z ≡ x) × (cond t y z ≡ y))
    go true t = inr (eqb-true z x t, refl)
    go false t = inl refl

relabel_to : (x y : ℕ) → relabel x y y ≡ y
relabel_to x y = go (relabel_or x y y)
  where
    go : (relabel x y y ≡ y) ⊎ ((y ≡ x) × (relabel x y y ≡ y)) → relabel x y y ≡ y
    go (inl e) = e
    go (inr e) = e.1

pub relabel_self : (x z : ℕ) → relabel x x z ≡ z
relabel_self x z = go (relabel_or x x z)
  where
    go : (relabel x x z ≡ z) ⊎ ((z ≡ x) × (relabel x x z ≡ x)) → relabel x x z ≡ z
    go (inl e) = e
    go (inr e) = e.1 ∙ sym e.0

-- two labels that become one: they were one, or they are the two that the link joins
abbrev Alike : ℕ → ℕ → ℕ → ℕ → Type 0
Alike x y z w = (z ≡ w) ⊎ (((z ≡ x) × (w ≡ y)) ⊎ ((z ≡ y) × (w ≡ x)))

relabel_alike : (x y z w : ℕ) → relabel x y z ≡ relabel x y w → Alike x y z w
relabel_alike x y z w e = go (relabel_or x y z) (relabel_or x y w)
  where
    go : (relabel x y z ≡ z) ⊎ ((z ≡ x) × (relabel x y z ≡ y)) → (relabel x y w ≡ w) ⊎ ((w ≡ x) × (relabel x y w ≡ y)) → Alike x y z w
    go (inl p) (inl q) = inl (sym p ∙ e ∙ q)
    go (inl p) (inr q) = inr (inr (sym p ∙ e ∙ q.1, q.0))
    go (inr p) (inl q) = inr (inl (p.0, sym q ∙ sym e ∙ p.1))
    go (inr p) (inr q) = inl (p.0 ∙ sym q.0)

-- what the label z becomes where the labels x and y become the lower of the two
unfoldable merged : ℕ → ℕ → ℕ → ℕ
merged x y z = cond (leb x y) (relabel y x z) (relabel x y z)

merged_alike : (x y z w : ℕ) → merged x y z ≡ merged x y w → Alike x y z w
unfolding merged
merged_alike x y z w = go (leb x y)
  where
    turn : Alike y x z w → Alike x y z w
    turn (inl e) = inl e
    turn (inr (inl e)) = inr (inr e)
    turn (inr (inr e)) = inr (inl e)

    go : (t : Bool) → cond t (relabel y x z) (relabel x y z) ≡ cond t (relabel y x w) (relabel x y w) → Alike x y z w
    go true e = turn (relabel_alike y x z w e)
    go false e = relabel_alike x y z w e

merged_ends : (x y : ℕ) → merged x y x ≡ merged x y y
unfolding merged
merged_ends x y = go (leb x y)
  where
    go : (t : Bool) → cond t (relabel y x x) (relabel x y x) ≡ cond t (relabel y x y) (relabel x y y)
    go true = relabel_to y x ∙ sym (relabel_at y x)
    go false = relabel_at x y ∙ sym (relabel_to x y)

merged_le : (x y z : ℕ) → merged x y z ≤ z
unfolding merged
merged_le x y z = go (leb x y) refl
  where
    least : (x y : ℕ) → y ≤ x → (relabel x y z ≡ z) ⊎ ((z ≡ x) × (relabel x y z ≡ y)) → relabel x y z ≤ z
    least x y h (inl e) = omega arith
    least x y h (inr e) = omega (arith, e.0, e.1)

    go : (t : Bool) → leb x y ≡ t → cond t (relabel y x z) (relabel x y z) ≤ z
    go true t = least y x (leb-true x y t) (relabel_or y x z)
    go false t = least x y (omega (arith, leb-false x y t)) (relabel_or x y z)

merged_one : (x y z : ℕ) → (merged x y z ≡ z) ⊎ ((merged x y z ≡ x) ⊎ (merged x y z ≡ y))
unfolding merged
merged_one x y z = go (leb x y)
  where
    one : (x y : ℕ) → (relabel x y z ≡ z) ⊎ ((z ≡ x) × (relabel x y z ≡ y)) → (relabel x y z ≡ z) ⊎ (relabel x y z ≡ y)
    one x y (inl e) = inl e
    one x y (inr e) = inr e.1

    left : (w : ℕ) → (w ≡ z) ⊎ (w ≡ x) → (w ≡ z) ⊎ ((w ≡ x) ⊎ (w ≡ y))
    left w (inl e) = inl e
    left w (inr e) = inr (inl e)

    right : (w : ℕ) → (w ≡ z) ⊎ (w ≡ y) → (w ≡ z) ⊎ ((w ≡ x) ⊎ (w ≡ y))
    right w (inl e) = inl e
    right w (inr e) = inr (inr e)

    go : (t : Bool) → (cond t (relabel y x z) (relabel x y z) ≡ z)
        ⊎ ((cond t (relabel y x z) (relabel x y z) ≡ x) ⊎ (cond t (relabel y x z) (relabel x y z) ≡ y))
    go true = left _ (one y x (relabel_or y x z))
    go false = right _ (one x y (relabel_or x y z))

merged_twice : (x y z : ℕ) → merged x y (merged x y z) ≡ merged x y z
unfolding merged
merged_twice x y z = go (leb x y)
  where
    twice : (x y : ℕ) → (relabel x y z ≡ z) ⊎ ((z ≡ x) × (relabel x y z ≡ y)) → relabel x y (relabel x y z) ≡ relabel x y z
    twice x y (inl e) = ap (relabel x y) e
    twice x y (inr e) = ap (relabel x y) e.1 ∙ relabel_to x y ∙ sym e.1

    go : (t : Bool) → cond t (relabel y x (cond t (relabel y x z) (relabel x y z))) (relabel x y (cond t (relabel y x z) (relabel x y z)))
        ≡ cond t (relabel y x z) (relabel x y z)
    go true = twice y x (relabel_or y x z)
    go false = twice x y (relabel_or x y z)

-- ---- the list

at_merge : (x y : ℕ) (ls : List ℕ) (e : ℕ) → at (merge x y ls) e ≡ merged x y (at ls e)
unfolding merge merged
at_merge x y ls e = go (leb x y) refl
  where
    each : (f : ℕ → ℕ) → f 0 ≤ 0 → at (map f ls) e ≡ f (at ls e)
    each f h = let z : f 0 ≡ 0 = omega arith in ap (get_or (map f ls) e) (sym z) ∙ get_or-map f ls e 0

    go : (t : Bool) → leb x y ≡ t → at (elim t [ true ↦ map (relabel y x) ls | false ↦ map (relabel x y) ls ]) e
        ≡ cond t (relabel y x (at ls e)) (relabel x y (at ls e))
    go true t = each (relabel y x) (subst (λ (b : Bool). cond b (relabel y x 0) (relabel x y 0) ≤ 0) t (merged_le x y 0))
    go false t = each (relabel x y) (subst (λ (b : Bool). cond b (relabel y x 0) (relabel x y 0) ≤ 0) t (merged_le x y 0))

length_merge : (x y : ℕ) (ls : List ℕ) → length (merge x y ls) ≡ length ls
unfolding merge
length_merge x y ls = go (leb x y)
  where
    go : (t : Bool) → length {A = ℕ} (elim t [ true ↦ map (relabel y x) ls | false ↦ map (relabel x y) ls ]) ≡ length ls
    go true = length-map ls _
    go false = length-map ls _

-- one more link, by which of its two labels is the lower
module _ (ls : List ℕ) (i j e : ℕ) where
  pub link_low : at ls i ≤ at ls j → at (link i j ls) e ≡ relabel (at ls j) (at ls i) (at ls e)
  unfolding link merged
  link_low h = at_merge (at ls i) (at ls j) ls e ∙ rw (le-leb (at ls i) (at ls j) h)

  pub link_high : at ls j < at ls i → at (link i j ls) e ≡ relabel (at ls i) (at ls j) (at ls e)
  unfolding link merged
  link_high h = at_merge (at ls i) (at ls j) ls e ∙ rw (lt-leb (at ls i) (at ls j) h)

module _ (m : ℕ) (a b : ℕ → ℕ) (c : Config) where
  pub labels_open : (n : ℕ) → c n ≡ false → labels m a b c (suc n) ≡ labels m a b c n
  unfolding labels
  labels_open n h = rw (h, labels)

  pub labels_closed : (n : ℕ) → c n ≡ true → labels m a b c (suc n) ≡ link (a n) (b n) (labels m a b c n)
  unfolding labels
  labels_closed n h = rw (h, labels)

  at_closed : (n e : ℕ) → c n ≡ true
      → at (labels m a b c (suc n)) e ≡ merged (at (labels m a b c n) (a n)) (at (labels m a b c n) (b n)) (at (labels m a b c n) e)
  unfolding link
  at_closed n e h = rw (labels_closed n h) (at_merge _ _ (labels m a b c n) e)

  at_open : (n e : ℕ) → c n ≡ false → at (labels m a b c (suc n)) e ≡ at (labels m a b c n) e
  at_open n e h = rw (labels_open n h)

  pub labels_none : labels m a b c zero ≡ tabulate m (λ e. e)
  unfolding labels
  labels_none = refl

  at_none : (e : ℕ) → e < m → at (labels m a b c zero) e ≡ e
  unfolding labels
  at_none e h = at_tabulate m (λ e. e) e h

  pub length_labels : (n : ℕ) → length (labels m a b c n) ≡ m
  unfolding labels link
  length_labels zero = length_tabulate m (λ e. e)
  length_labels (suc n) = go (length_labels n) (c n) refl
    where
      go : length (labels m a b c n) ≡ m → (t : Bool) → c n ≡ t → length (labels m a b c (suc n)) ≡ m
      go ih true t = ap length (labels_closed n t) ∙ length_merge _ _ (labels m a b c n) ∙ ih
      go ih false t = ap length (labels_open n t) ∙ ih

  pub labels_le : (n e : ℕ) → at (labels m a b c n) e ≤ e
  labels_le zero e = go (ltb e m) refl
    where
      go : (t : Bool) → ltb e m ≡ t → at (labels m a b c zero) e ≤ e
      go true t = omega (arith, at_none e (ltb-true e m t))
      go false t =
          let out : length (labels m a b c zero) ≤ e = omega (arith, length_labels zero, ltb-false e m t) in
          omega (arith, get_or-eq_default (labels m a b c zero) 0 out)
  labels_le (suc n) e = go (labels_le n e) (c n) refl
    where
      go : at (labels m a b c n) e ≤ e → (t : Bool) → c n ≡ t → at (labels m a b c (suc n)) e ≤ e
      go ih true t =
          omega (arith, at_closed n e t, merged_le (at (labels m a b c n) (a n)) (at (labels m a b c n) (b n)) (at (labels m a b c n) e))
      go ih false t = omega (arith, at_open n e t)

  -- a label is an element with that label
  labels_twice : (n e : ℕ) → at (labels m a b c n) (at (labels m a b c n) e) ≡ at (labels m a b c n) e
  labels_twice zero e = go (ltb e m) refl
    where
      go : (t : Bool) → ltb e m ≡ t → at (labels m a b c zero) (at (labels m a b c zero) e) ≡ at (labels m a b c zero) e
      go true t = ap (at (labels m a b c zero)) (at_none e (ltb-true e m t))
      go false t =
          let out : length (labels m a b c zero) ≤ e = omega (arith, length_labels zero, ltb-false e m t) in
          let z : at (labels m a b c zero) e ≡ 0 = get_or-eq_default (labels m a b c zero) 0 out in
          rw z (omega (arith, labels_le zero 0))
  labels_twice (suc n) e = go (labels_twice n) (c n) refl
    where
      ls : List ℕ
      ls = labels m a b c n

      put : ℕ → ℕ
      put z = merged (at ls (a n)) (at ls (b n)) z

      same : ((e : ℕ) → at ls (at ls e) ≡ at ls e) → (w : ℕ) → (w ≡ at ls e) ⊎ ((w ≡ at ls (a n)) ⊎ (w ≡ at ls (b n))) → at ls w ≡ w
      same ih w (inl p) = rw p (ih e)
      same ih w (inr (inl p)) = rw p (ih (a n))
      same ih w (inr (inr p)) = rw p (ih (b n))

      go : ((e : ℕ) → at ls (at ls e) ≡ at ls e) → (t : Bool) → c n ≡ t
          → at (labels m a b c (suc n)) (at (labels m a b c (suc n)) e) ≡ at (labels m a b c (suc n)) e
      go ih true t = at_closed n _ t ∙ ap (λ w. put (at ls w)) (at_closed n e t)
          ∙ ap put (same ih (put (at ls e)) (merged_one (at ls (a n)) (at ls (b n)) (at ls e)))
          ∙ merged_twice (at ls (a n)) (at ls (b n)) (at ls e) ∙ sym (at_closed n e t)
      go ih false t = at_open n _ t ∙ ap (at ls) (at_open n e t) ∙ ih e ∙ sym (at_open n e t)

-- more elements, with links among the first m only: the labels of these are the same
pub labels_wider : (m m' : ℕ) → m ≤ m' → (a b : ℕ → ℕ) (c : Config) (n : ℕ) → ((l : ℕ) → l < n → (a l < m) × (b l < m))
    → (e : ℕ) → e < m → at (labels m' a b c n) e ≡ at (labels m a b c n) e
labels_wider m m' k a b c zero ends e h = at_none m' a b c e (omega arith) ∙ sym (at_none m a b c e h)
labels_wider m m' k a b c (suc n) ends e h = go (labels_wider m m' k a b c n (λ l b. ends l (omega arith))) (c n) refl
  where
    go : ((e : ℕ) → e < m → at (labels m' a b c n) e ≡ at (labels m a b c n) e) → (t : Bool) → c n ≡ t
        → at (labels m' a b c (suc n)) e ≡ at (labels m a b c (suc n)) e
    go ih true t = at_closed m' a b c n e t
        ∙ rw (ih (a n) (ends n (omega arith)).0, ih (b n) (ends n (omega arith)).1, ih e h) (sym (at_closed m a b c n e t))
    go ih false t = at_open m' a b c n e t ∙ ih e h ∙ sym (at_open m a b c n e t)

-- the labels after n links depend on these only
pub labels_ext : (m : ℕ) (a a' b b' : ℕ → ℕ) (c c' : Config) (n : ℕ) → ((l : ℕ) → l < n → a l ≡ a' l) → ((l : ℕ) → l < n → b l ≡ b' l)
    → ((l : ℕ) → l < n → c l ≡ c' l) → labels m a b c n ≡ labels m a' b' c' n
labels_ext m a a' b b' c c' zero p q r = labels_none m a b c ∙ sym (labels_none m a' b' c')
labels_ext m a a' b b' c c' (suc n) p q r =
    go (labels_ext m a a' b b' c c' n (λ l k. p l (omega arith)) (λ l k. q l (omega arith)) (λ l k. r l (omega arith))) (c n) refl
  where
    go : labels m a b c n ≡ labels m a' b' c' n → (t : Bool) → c n ≡ t → labels m a b c (suc n) ≡ labels m a' b' c' (suc n)
    go ih true t = labels_closed m a b c n t
        ∙ rw (p n (omega arith), q n (omega arith), ih) (sym (labels_closed m a' b' c' n (sym (r n (omega arith)) ∙ t)))
    go ih false t = labels_open m a b c n t ∙ ih ∙ sym (labels_open m a' b' c' n (sym (r n (omega arith)) ∙ t))

-- ---- the far element of a link

pub far_lt : (g : Grid) → Formed g → (l e : ℕ) → l < g.K → far g l e < g.E
unfolding far
far_lt g formed l e k = go (eqb (g.end_a l) e)
  where
    go : (t : Bool) → cond t (g.end_b l) (g.end_a l) < g.E
    go true = formed.end_b_lt l k
    go false = formed.end_a_lt l k

-- ---- one more link

below_suc : (c : Config) (n l : ℕ) → below c n l ≡ true → below c (suc n) l ≡ true
unfolding below
below_suc c n l h =
    and_both (ltb l (suc n)) (c l) (lt-ltb l (suc n) (omega (arith, ltb-true l n (and_left _ (c l) h)))) (and_right (ltb l n) (c l) h)

below_at : (c : Config) (n : ℕ) → c n ≡ true → below c (suc n) n ≡ true
unfolding below
below_at c n h = and_both (ltb n (suc n)) (c n) (lt-ltb n (suc n) (omega arith)) h

pub below_in : (c : Config) (n l : ℕ) → l < n → c l ≡ true → below c n l ≡ true
unfolding below
below_in c n l k h = and_both (ltb l n) (c l) (lt-ltb l n k) h

module _ (g : Grid) (formed : Formed g) (c : Config) where
  -- equal labels: joined
  pub labels_sound : (n : ℕ) → n ≤ g.K → (a d : ℕ) → a < g.E → d < g.E
      → at (labels_after g c n) a ≡ at (labels_after g c n) d → Joined g (below c n) d a
  labels_sound zero k a d ka kd e =
      rw (sym (at_none g.E g.end_a g.end_b c a ka) ∙ e ∙ at_none g.E g.end_a g.end_b c d kd) here
  labels_sound (suc n) k a d ka kd e = go (labels_sound n (omega arith)) (c n) refl
    where
      ls : List ℕ
      ls = labels_after g c n

      old : {a d : ℕ} → Joined g (below c n) d a → Joined g (below c (suc n)) d a
      old j = joined_mono g (below c n) (below c (suc n)) (below_suc c n) j

      go : ((a d : ℕ) → a < g.E → d < g.E → at ls a ≡ at ls d → Joined g (below c n) d a) → (t : Bool) → c n ≡ t → Joined g (below c (suc n)) d a
      go ih false t = old (ih a d ka kd (sym (at_open g.E g.end_a g.end_b c n a t) ∙ e ∙ at_open g.E g.end_a g.end_b c n d t))
      go ih true t = out (merged_alike (at ls (g.end_a n)) (at ls (g.end_b n)) (at ls a) (at ls d)
          (sym (at_closed g.E g.end_a g.end_b c n a t) ∙ e ∙ at_closed g.E g.end_a g.end_b c n d t))
        where
          over_n : {a d : ℕ} → Spans g n a d → Joined g (below c (suc n)) d a
          over_n {a} {d} s = step g (below c (suc n)) n a d k (below_at c n t) s here

          out : Alike (at ls (g.end_a n)) (at ls (g.end_b n)) (at ls a) (at ls d) → Joined g (below c (suc n)) d a
          out (inl p) = old (ih a d ka kd p)
          out (inr (inl p)) = joined_trans g _ (old (ih a (g.end_a n) ka (formed.end_a_lt n k) p.0))
              (joined_trans g _ (over_n (forth refl refl)) (old (ih (g.end_b n) d (formed.end_b_lt n k) kd (sym p.1))))
          out (inr (inr p)) = joined_trans g _ (old (ih a (g.end_b n) ka (formed.end_b_lt n k) p.0))
              (joined_trans g _ (over_n (back refl refl)) (old (ih (g.end_a n) d (formed.end_a_lt n k) kd (sym p.1))))

  -- joined: equal labels
  ends_alike : (n l : ℕ) → l < n → c l ≡ true → at (labels_after g c n) (g.end_a l) ≡ at (labels_after g c n) (g.end_b l)
  ends_alike zero l h e = absurd (omega arith)
  ends_alike (suc n) l h e = go (ends_alike n l) (c n) refl (eqb l n) refl
    where
      ls : List ℕ
      ls = labels_after g c n

      x : ℕ
      x = at ls (g.end_a n)

      y : ℕ
      y = at ls (g.end_b n)

      go : (l < n → c l ≡ true → at ls (g.end_a l) ≡ at ls (g.end_b l)) → (t : Bool) → c n ≡ t → (u : Bool) → eqb l n ≡ u
          → at (labels_after g c (suc n)) (g.end_a l) ≡ at (labels_after g c (suc n)) (g.end_b l)
      go ih true p u q = at_closed g.E g.end_a g.end_b c n (g.end_a l) p ∙ out u q
          ∙ sym (at_closed g.E g.end_a g.end_b c n (g.end_b l) p)
        where
          out : (u : Bool) → eqb l n ≡ u → merged x y (at ls (g.end_a l)) ≡ merged x y (at ls (g.end_b l))
          out true q = rw (eqb-true l n q) (merged_ends x y)
          out false q = ap (merged x y) (ih (omega (arith, eqb-false l n q)) e)
      go ih false p true q = absurd (false≢true (sym p ∙ ap c (sym (eqb-true l n q)) ∙ e))
      go ih false p false q =
          at_open g.E g.end_a g.end_b c n (g.end_a l) p
          ∙ ih (omega (arith, eqb-false l n q)) e
          ∙ sym (at_open g.E g.end_a g.end_b c n (g.end_b l) p)

  pub labels_complete : (n : ℕ) → n ≤ g.K → {d a : ℕ} → Joined g (below c n) d a → at (labels_after g c n) a ≡ at (labels_after g c n) d
  unfolding below
  labels_complete n b here = refl
  labels_complete n b (over {a = a} l k h t j) = go (spans_far g l a t) ∙ labels_complete n b j
    where
      alike : at (labels_after g c n) (g.end_a l) ≡ at (labels_after g c n) (g.end_b l)
      alike = ends_alike n l (ltb-true l n (and_left (ltb l n) (c l) h)) (and_right (ltb l n) (c l) h)

      go : Spans g l a (far g l a) → at (labels_after g c n) a ≡ at (labels_after g c n) (far g l a)
      go (forth p q) = ap (at (labels_after g c n)) (sym p) ∙ alike ∙ ap (at (labels_after g c n)) q
      go (back p q) = ap (at (labels_after g c n)) (sym p) ∙ sym alike ∙ ap (at (labels_after g c n)) q

  joined_label : {d a : ℕ} → Joined g c d a → label g c a ≡ label g c d
  unfolding label
  joined_label j = labels_complete g.K (omega arith) (below_all j)
    where
      below_all : {d a : ℕ} → Joined g c d a → Joined g (below c g.K) d a
      below_all here = here
      below_all (over l k h t j) = over l k (below_in c g.K l k h) t (below_all j)

  pub joined?_complete : (d a : ℕ) → Joined g c d a → joined? g c d a ≡ true
  unfolding joined?
  joined?_complete d a j = eq-eqb _ _ (joined_label j)

  label_joined : (d a : ℕ) → d < g.E → a < g.E → label g c a ≡ label g c d → Joined g c d a
  unfolding label below
  label_joined d a kd ka e =
      joined_mono g (below c g.K) c (λ l h. and_right (ltb l g.K) (c l) h) (labels_sound g.K (omega arith) a d ka kd e)

  pub joined?_sound : (d a : ℕ) → d < g.E → a < g.E → joined? g c d a ≡ true → Joined g c d a
  unfolding joined?
  joined?_sound d a kd ka e = label_joined d a kd ka (eqb-true _ _ e)

pub label_of_label : (g : Grid) (c : Config) (e : ℕ) → label g c (label g c e) ≡ label g c e
unfolding label
label_of_label g c e = labels_twice g.E g.end_a g.end_b c g.K e

label_le : (g : Grid) (c : Config) (e : ℕ) → label g c e ≤ e
unfolding label
label_le g c e = labels_le g.E g.end_a g.end_b c g.K e

-- the label is an element of the part, and the lowest
pub label_lowest : (g : Grid) → Formed g → (c : Config) (e : ℕ) → e < g.E → (label g c e ≤ e) × Joined g c (label g c e) e
label_lowest g formed c e k =
    (label_le g c e, label_joined g formed c (label g c e) e (omega (arith, label_le g c e)) k (sym (label_of_label g c e)))

pub label_least : (g : Grid) → Formed g → (c : Config) (x e : ℕ) → Joined g c x e → label g c e ≤ x
label_least g formed c x e j = omega (arith, joined_label g formed c j, label_le g c x)

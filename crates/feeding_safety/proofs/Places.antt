-- The places that the searches by labels and marks find are the lowest that break rules 14 to 16: each is the lowest with the same property.
-- Assumes nothing.
use mathlib.Core.Path.{◌≡◌, refl, sym, ap, ap₂, ◌∙◌}
use mathlib.Core.Bool.{Bool, true, false, not, ◌&&◌}
use mathlib.Core.Logic.{◌⊎◌, inl, inr}
use mathlib.Core.List.{List}
use Prim.Native.Nat.{ℕ, ◌<◌, ◌≤◌}
use native.Mathlib.Omega.{arith}
use lib.Dec.{eqb, ltb}
use borrow.Author.Tests.{eqb-true, eq-eqb, ne_eqb, ltb-true, ltb-false, lt-ltb}
use Rattle.feeding.specs.Below.{any_to, least_to, lowest, Lowest}
use Rattle.feeding.specs.Networks.{Grid, Formed, at, is_in}
use Rattle.feeding.specs.Parts.{Config, label, joined?, sound?, live?}
use Rattle.feeding.specs.Safety.{loop_at, looped?, paired?, fault_live?, tree_place, pair_place, fault_place}
use Rattle.feeding.proofs.Below.{and_left, and_right, and_both, not_out, any_to_out, any_to_in, any_to_ext, eqb_comm}
use Rattle.feeding.proofs.Labels.{label_of_label, label_lowest}
use Rattle.feeding.proofs.Lows.{lowest_ext, lowest_is, lowest_unique, least_to_top, least_to_le, least_to_or}
use Rattle.feeding_parts.specs.Labelling.{last_of_part}
use Rattle.feeding_parts.proofs.Lasts.{last_live, last_other}
use Rattle.feeding_places.specs.Places.{least_looped, not_last, with_last}

-- one of two sound sources with one label
record Two (g : Grid) (c : Config) (s : ℕ) : Type 0 where
  other : ℕ
  below : other < g.E
  sound : sound? g s ≡ true
  other_sound : sound? g other ≡ true
  apart : s ≡ other → ⊥
  alike : label g c s ≡ label g c other

paired_two : (g : Grid) (c : Config) (s : ℕ) → paired? g c s ≡ true → Two g c s
unfolding paired? joined?
paired_two g c s h =
    let r = any_to_out g.E (λ t. sound? g t && (not (eqb s t) && eqb (label g c s) (label g c t))) (and_right (sound? g s) _ h) in
    let t = r.0 in
    let m = and_right (sound? g t) _ r.2 in
    record {
      other = t;
      below = r.1;
      sound = and_left (sound? g s) _ h;
      other_sound = and_left (sound? g t) _ r.2;
      apart = λ e. not_out (eqb s t) (and_left (not (eqb s t)) _ m) (eq-eqb s t e);
      alike = eqb-true _ _ (and_right (not (eqb s t)) _ m);
    }

two_paired : (g : Grid) (c : Config) (s : ℕ) → Two g c s → paired? g c s ≡ true
unfolding paired? joined?
two_paired g c s r =
    and_both (sound? g s) _ r.sound
    (any_to_in g.E _ r.other r.below (and_both (sound? g r.other) _ r.other_sound
    (and_both (not (eqb s r.other)) _ (ap not (ne_eqb s r.other r.apart)) (eq-eqb _ _ r.alike))))

-- the labels are those of the grid
module _ (g : Grid) (formed : Formed g) (c : Config) (lab : List ℕ) (Label-is : (e : ℕ) → e < g.E → at lab e ≡ label g c e) where
  label_le : (e : ℕ) → e < g.E → at lab e ≤ e
  label_le e k = omega (arith, Label-is e k, (label_lowest g formed c e k).0)

  -- ---- rule 14: the least label of a marked element, where an element is marked that has a link that closes a loop from it

  module _ (loo : List ℕ) (loo_is : (x : ℕ) → x < g.E → is_in loo x ≡ any_to g.K (λ l. loop_at g c l && eqb (g.end_a l) x)) where
    -- the label of a marked element is in a part with a loop
    looped_label : (x : ℕ) → x < g.E → is_in loo x ≡ true → looped? g c (at lab x) ≡ true
    unfolding looped? joined?
    looped_label x k m =
        let r = any_to_out g.K (λ l. loop_at g c l && eqb (g.end_a l) x) (sym (loo_is x k) ∙ m) in
        let l = r.0 in
        let from-x : g.end_a l ≡ x = eqb-true _ _ (and_right (loop_at g c l) _ r.2) in
        let alike : label g c (g.end_a l) ≡ label g c (at lab x) =
        ap (label g c) from-x ∙ sym (label_of_label g c x) ∙ ap (label g c) (sym (Label-is x k)) in
        any_to_in g.K _ l r.1 (and_both (loop_at g c l) _ (and_left (loop_at g c l) _ r.2) (eq-eqb _ _ alike))

    -- a part with a loop has a marked element with its label
    looped_marked : (e : ℕ) → e < g.E → looped? g c e ≡ true → (x : ℕ) × (x < g.E) × (is_in loo x ≡ true) × (at lab x ≡ at lab e)
    unfolding looped? joined?
    looped_marked e k h =
        let r = any_to_out g.K (λ l. loop_at g c l && eqb (label g c (g.end_a l)) (label g c e)) h in
        let l = r.0 in
        let low : g.end_a l < g.E = formed.end_a_lt l r.1 in (
          g.end_a l,
          low,
          loo_is (g.end_a l) low
              ∙ any_to_in g.K _ l r.1 (and_both (loop_at g c l) _ (and_left (loop_at g c l) _ r.2) (eq-eqb (g.end_a l) (g.end_a l) refl)),
          Label-is (g.end_a l) low ∙ eqb-true _ _ (and_right (loop_at g c l) _ r.2) ∙ sym (Label-is e k),
        )

    term : ℕ → ℕ
    term x = elim (is_in loo x) [ true ↦ at lab x | false ↦ g.E ]

    term_on : (x : ℕ) → is_in loo x ≡ true → term x ≡ at lab x
    unfolding term
    term_on x m = rw (m, term)

    term_off : (x : ℕ) → is_in loo x ≡ false → term x ≡ g.E
    unfolding term
    term_off x m = rw (m, term)

    pub tree_place_is : least_looped lab loo g.E ≡ tree_place g c
    unfolding least_looped tree_place term
    tree_place_is = lowest_unique g.E (λ e. looped? g c e ≡ true) _ _ (record {
      at_most = least_to_top g.E g.E term;
      has = λ k. found k (least_to_or g.E g.E term);
      none_lower = λ y k p. none y k p;
    }) (lowest_is g.E (looped? g c))
      where
        found : least_to g.E g.E term < g.E
            → (least_to g.E g.E term ≡ g.E) ⊎ ((x : ℕ) × (x < g.E) × (least_to g.E g.E term ≡ term x))
            → looped? g c (least_to g.E g.E term) ≡ true
        found k (inl e) = absurd (omega arith)
        found k (inr r) = go (is_in loo r.0) refl
          where
            go : (t : Bool) → is_in loo r.0 ≡ t → looped? g c (least_to g.E g.E term) ≡ true
            go true t = ap (looped? g c) (r.2 ∙ term_on r.0 t) ∙ looped_label r.0 r.1 t
            go false t = absurd (omega (arith, r.2, term_off r.0 t))

        none : (y : ℕ) → y < least_to g.E g.E term → looped? g c y ≡ true → ⊥
        none y k p =
            let low : y < g.E = omega (arith, least_to_top g.E g.E term) in
            let r = looped_marked y low p in
            omega (arith, least_to_le g.E g.E term r.0 r.1, term_on r.0 r.2, r.3, label_le y low)

  -- ---- rules 15 and 16: the last sound source of each part

  module _ (small : g.E ≤ 64) (sound : List ℕ) (sound_is : (s : ℕ) → s < g.E → is_in sound s ≡ sound? g s) where
    abbrev last : List ℕ
    last = last_of_part lab sound g.E

    label_in : (e : ℕ) → e < g.E → at lab e < 64
    label_in e k = omega (arith, label_le e k)

    on : (s : ℕ) → s < g.E → sound? g s ≡ true → at sound s ≡ 1
    on s k h = eqb-true (at sound s) 1 (sound_is s k ∙ h)

    -- the lower of two sound sources of a part is not the last
    not_last_lower : (s t : ℕ) → s < t → t < g.E → sound? g s ≡ true → sound? g t ≡ true
        → label g c s ≡ label g c t → not_last lab sound last s ≡ true
    unfolding not_last
    not_last_lower s t h k p q e =
        let ks : s < g.E = omega arith in
        and_both (is_in sound s) _ (sound_is s ks ∙ p)
        (last_other lab sound g.E s small (label_in s ks) ks (on s ks p)
        ∙ any_to_in g.E _ t k (and_both (ltb s t) _ (lt-ltb s t h) (and_both (is_in sound t) _ (sound_is t k ∙ q)
        (eq-eqb (at lab t) (at lab s) (Label-is t k ∙ sym e ∙ sym (Label-is s ks))))))

    -- one that is not the last is one of two
    not_last_two : (s : ℕ) → s < g.E → not_last lab sound last s ≡ true → Two g c s
    unfolding not_last
    not_last_two s k h =
        let p : sound? g s ≡ true = sym (sound_is s k) ∙ and_left (is_in sound s) _ h in
        let r = any_to_out g.E (λ y. ltb s y && (eqb (at sound y) 1 && eqb (at lab y) (at lab s)))
        (sym (last_other lab sound g.E s small (label_in s k) k (on s k p)) ∙ and_right (is_in sound s) _ h) in
        let t = r.0 in
        let m = and_right (ltb s t) _ r.2 in
        record {
          other = t;
          below = r.1;
          sound = p;
          other_sound = sym (sound_is t r.1) ∙ and_left (eqb (at sound t) 1) _ m;
          apart = let h = ltb-true s t (and_left (ltb s t) _ r.2) in omega arith;
          alike = sym (Label-is s k) ∙ sym (eqb-true _ _ (and_right (eqb (at sound t) 1) _ m)) ∙ Label-is t r.1;
        }

    pub pair_place_is : lowest g.E (not_last lab sound last) ≡ pair_place g c
    unfolding pair_place
    pair_place_is = lowest_unique g.E (λ e. paired? g c e ≡ true) _ _ (record {
      at_most = r.at_most;
      has = λ k. two_paired g c _ (not_last_two _ k (r.has k));
      none_lower = none;
    }) (lowest_is g.E (paired? g c))
      where
        r : Lowest g.E (λ e. not_last lab sound last e ≡ true) (lowest g.E (not_last lab sound last))
        r = lowest_is g.E (not_last lab sound last)

        -- whichever of the two is lower is not the last
        either : (s t : ℕ) → s < lowest g.E (not_last lab sound last) → t < g.E → sound? g s ≡ true → sound? g t ≡ true → (s ≡ t → ⊥)
            → label g c s ≡ label g c t → ⊥
        either s t k b p q apart e = go (ltb s t) refl
          where
            go : (u : Bool) → ltb s t ≡ u → ⊥
            go true u = r.none_lower s k (not_last_lower s t (ltb-true s t u) b p q e)
            go false u =
                let h : t < s = omega (arith, ltb-false s t u, apart) in
                r.none_lower t (omega arith) (not_last_lower t s h (omega (arith, r.at_most)) q p (sym e))

        none : (s : ℕ) → s < lowest g.E (not_last lab sound last) → paired? g c s ≡ true → ⊥
        none s k h = let p = paired_two g c s h in either s p.other k p.below p.sound p.other_sound p.apart p.alike

    pub fault_place_is : (faulty : List ℕ) → ((e : ℕ) → e < g.E → is_in faulty e ≡ g.faulty e)
        → lowest g.E (with_last lab faulty last) ≡ fault_place g c
    unfolding fault_place with_last fault_live? live? joined?
    fault_place_is faulty faulty_is = lowest_ext g.E _ _ (λ e k. ap₂ ◌&&◌ (faulty_is e k)
        (last_live lab sound g.E (at lab e) small (label_in e k)
        ∙ any_to_ext g.E _ _ (λ s b. ap₂ ◌&&◌ (sound_is s b) (ap₂ eqb (Label-is s b) (Label-is e k) ∙ eqb_comm (label g c s) (label g c e)))))

-- The highest marked element of each part: a store at each marked element keeps the table, and what callers read off it.
-- Assumes nothing.
use Prim.Native.Nat.{ℕ, suc, ◌+◌, ◌≤◌, ◌<◌}
use mathlib.Core.Path.{◌≡◌, refl, sym, ap, ◌∙◌}
use mathlib.Core.Bool.{Bool, true, false, not, ◌&&◌, false≢true}
use mathlib.Core.List.{List}
use lib.Dec.{eqb, ltb}
use lib.ListN.{length, set, replicate, length-set}
use lib.Seq.{get_or-set_same, get_or-set_other}
use borrow.Author.Tests.{eqb-true, eqb-false, eq-eqb, ne_eqb, ltb-true, lt-ltb}
use native.Mathlib.Omega.{arith}
use native.Mathlib.Numerals.{add-one}
use Rattle.feeding.specs.Below.{tabulate, highest, any_to}
use Rattle.feeding.specs.Networks.{at}
use Rattle.feeding.proofs.Below.{and_left, and_right, and_both, any_to_out, any_to_in}
use Rattle.feeding.proofs.Lows.{length_tabulate, at_tabulate, table_ext, highest_some, highest_none, highest_lt, highest_passes, highest_least}
use Rattle.feeding_parts.specs.Labelling.{last_of_part}

-- ---- the table

module _ (label has : List ℕ) where
  pub length_lasts : (n : ℕ) → length (last_of_part label has n) ≡ 64
  unfolding last_of_part
  length_lasts n = length_tabulate 64 _

  pub last_at : (n k : ℕ) → k < 64 → at (last_of_part label has n) k ≡ highest n 64 (λ x. eqb (at has x) 1 && eqb (at label x) k)
  unfolding last_of_part
  last_at n k h = at_tabulate 64 (λ k. highest n 64 (λ x. eqb (at has x) 1 && eqb (at label x) k)) k h

  pub lasts_none : replicate 64 64 ≡ last_of_part label has 0
  unfolding last_of_part tabulate highest
  lasts_none = refl

  lasts_ext : (n : ℕ) (last : List ℕ) → length last ≡ 64
      → ((k : ℕ) → k < 64 → at last k ≡ highest n 64 (λ x. eqb (at has x) 1 && eqb (at label x) k)) → last ≡ last_of_part label has n
  unfolding last_of_part
  lasts_ext n last l h = table_ext 64 (λ k. highest n 64 (λ x. eqb (at has x) 1 && eqb (at label x) k)) last l h

  pub lasts_on : (n : ℕ) (last : List ℕ) → last ≡ last_of_part label has n → at has n ≡ 1 → at label n < 64
      → set last (at label n) n ≡ last_of_part label has (n + 1)
  lasts_on n last inv on low =
      rw add-one
      (lasts_ext (suc n) (set last (at label n) n) (length-set last (at label n) n ∙ long) (λ k b. go k b (eqb (at label n) k) refl))
    where
      long : length last ≡ 64
      long = ap length inv ∙ length_lasts n

      go : (k : ℕ) → k < 64 → (t : Bool) → eqb (at label n) k ≡ t
          → at (set last (at label n) n) k ≡ highest (suc n) 64 (λ x. eqb (at has x) 1 && eqb (at label x) k)
      go k b true t =
          rw (← eqb-true (at label n) k t) (get_or-set_same last (at label n) n 0 (omega (arith, long)))
          ∙ sym (highest_some n 64 _ (and_both _ _ (eq-eqb (at has n) 1 on) t))
      go k b false t =
          get_or-set_other last (at label n) k n 0 (λ e. eqb-false (at label n) k t (sym e))
          ∙ ap (λ (m : List ℕ). at m k) inv
          ∙ last_at n k b
          ∙ sym (highest_none n 64 _ (rw (eq-eqb (at has n) 1 on) t))

  pub lasts_off : (n : ℕ) (last : List ℕ) → last ≡ last_of_part label has n → (at has n ≡ 1 → ⊥) → last ≡ last_of_part label has (n + 1)
  lasts_off n last inv off =
      rw add-one
      (lasts_ext (suc n) last (ap length inv ∙ length_lasts n)
      (λ k b. ap (λ (m : List ℕ). at m k) inv ∙ last_at n k b ∙ sym (highest_none n 64 _ (rw (ne_eqb (at has n) 1 off)))))

  -- ---- for callers

  -- a part has an entry below 64 exactly where it has a marked element
  pub last_live : (n k : ℕ) → n ≤ 64 → k < 64 → ltb (at (last_of_part label has n) k) 64 ≡ any_to n (λ x. eqb (at has x) 1 && eqb (at label x) k)
  last_live n k h b = ap (λ (x : ℕ). ltb x 64) (last_at n k b) ∙ highest_lt n 64 (λ x. eqb (at has x) 1 && eqb (at label x) k) h

  -- such an entry is a marked element of the part, and none above it is
  pub last_member : (n k : ℕ) → n ≤ 64 → k < 64 → at (last_of_part label has n) k < 64
      → (at (last_of_part label has n) k < n) × (at has (at (last_of_part label has n) k) ≡ 1) × (at label (at (last_of_part label has n) k) ≡ k)
  last_member n k h b low = rw (last_at n k b) (r.0, eqb-true _ _ (and_left _ _ r.1), eqb-true _ _ (and_right (eqb (at has x) 1) _ r.1))
    where
      f : ℕ → Bool
      f x = eqb (at has x) 1 && eqb (at label x) k

      x : ℕ
      x = highest n 64 f

      r : (x < n) × (f x ≡ true)
      r = highest_passes n 64 f h (rw (last_at n k b) at low)

  pub last_least : (n y : ℕ) → n ≤ 64 → at label y < 64 → y < n → at has y ≡ 1 → y ≤ at (last_of_part label has n) (at label y)
  last_least n y h b k on =
      rw (last_at n (at label y) b)
      (highest_least n 64 (λ x. eqb (at has x) 1 && eqb (at label x) (at label y)) y k
      (and_both _ _ (eq-eqb _ _ on) (eq-eqb (at label y) (at label y) refl)))

  -- x is the last marked element of its part: none above it is marked and in it
  pub last_alone : (n x : ℕ) → n ≤ 64 → at label x < 64 → at (last_of_part label has n) (at label x) ≡ x
      → (y : ℕ) → x < y → y < n → at has y ≡ 1 → at label y ≡ at label x → ⊥
  last_alone n x h b e y u k on same =
      omega (arith, last_least n y h (omega arith) k on, ap (at (last_of_part label has n)) same)

  pub last_is : (n x : ℕ) → n ≤ 64 → at label x < 64 → x < n → at has x ≡ 1
      → ((y : ℕ) → x < y → y < n → at has y ≡ 1 → at label y ≡ at label x → ⊥) → at (last_of_part label has n) (at label x) ≡ x
  last_is n x h b k on none = go (eqb (at (last_of_part label has n) (at label x)) x) refl
    where
      y : ℕ
      y = at (last_of_part label has n) (at label x)

      low : y < 64
      low =
          ltb-true y 64
          (last_live n (at label x) h b
          ∙ any_to_in n (λ z. eqb (at has z) 1 && eqb (at label z) (at label x)) x k
          (and_both (eqb (at has x) 1) (eqb (at label x) (at label x)) (eq-eqb (at has x) 1 on) (eq-eqb (at label x) (at label x) refl)))

      m : (y < n) × (at has y ≡ 1) × (at label y ≡ at label x)
      m = last_member n (at label x) h b low

      go : (t : Bool) → eqb y x ≡ t → y ≡ x
      go true t = eqb-true y x t
      go false t = absurd (none y (omega (arith, last_least n x h b k on, eqb-false y x t)) m.0 m.1 m.2)

  -- the same as a test: x is not the last where some higher element is marked and in its part
  pub last_other : (n x : ℕ) → n ≤ 64 → at label x < 64 → x < n → at has x ≡ 1
      → not (eqb (at (last_of_part label has n) (at label x)) x) ≡ any_to n (λ y. ltb x y && (eqb (at has y) 1 && eqb (at label y) (at label x)))
  last_other n x h b k on = go (any_to n f) refl
    where
      f : ℕ → Bool
      f y = ltb x y && (eqb (at has y) 1 && eqb (at label y) (at label x))

      none : any_to n f ≡ false → (y : ℕ) → x < y → y < n → at has y ≡ 1 → at label y ≡ at label x → ⊥
      none t y u v o s = false≢true (sym t ∙ any_to_in n f y v (and_both _ _ (lt-ltb _ _ u) (and_both _ _ (eq-eqb _ _ o) (eq-eqb _ _ s))))

      some : (y : ℕ) → y < n → f y ≡ true → at (last_of_part label has n) (at label x) ≡ x → ⊥
      some y v p e =
          let q : (eqb (at has y) 1 && eqb (at label y) (at label x)) ≡ true = and_right (ltb x y) _ p in
          last_alone n x h b e y (ltb-true _ _ (and_left (ltb x y) _ p)) v (eqb-true _ _ (and_left (eqb (at has y) 1) _ q))
          (eqb-true _ _ (and_right (eqb (at has y) 1) _ q))

      go : (t : Bool) → any_to n f ≡ t → not (eqb (at (last_of_part label has n) (at label x)) x) ≡ any_to n f
      go true t = let r = any_to_out n f t in ap not (ne_eqb _ _ (some r.0 r.1 r.2)) ∙ sym t
      go false t = ap not (eq-eqb _ _ (last_is n x h b k on (none t))) ∙ sym t

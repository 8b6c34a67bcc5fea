-- The scan over the elements finds the least margin of those that pass the test, at the lowest such element: by induction on their number.
-- Assumes nothing.
use mathlib.Core.Path.{◌≡◌, refl, sym, ap, ap₂, ◌∙◌, subst}
use mathlib.Core.Bool.{Bool, true, false, not, cond, false≢true}
use mathlib.Core.List.{List}
use Prim.Native.Nat.{ℕ, zero, suc, ◌+◌, ◌^◌, ◌<◌, ◌≤◌}
use native.Mathlib.Numerals.{add-one}
use native.Mathlib.Omega.{arith}
use lib.Dec.{T, eqb, le→leb, ltb→lt}
use lib.IntN.{ℤ, pos, negsuc}
use lib.Signed.{◌≤ℤ◌, ◌<ℤ◌, lt_z, lt_z_yes, lt_z_no, ≤ℤ_refl, <ℤ-≤ℤ_trans, clash_ℤ}
use borrow.Author.Tests.{eqb-true, eqb-false, eq-eqb, ne_eqb}
use Rattle.feeding.specs.Networks.{at}
use mir.Syntax.{w64}
use mir.Val.{SFits, to_z, of_z}
use mir.Facts.{to_z-of_z}
use Rattle.feeding_margins.specs.declared.Spot.{Spot}
use Rattle.std.specs.Prelude.{Option, Some, None}
use Rattle.feeding.specs.Loads.{margin}
use Rattle.feeding_load_test.proofs.Signs.{margin_small}
use Rattle.feeding_margins.specs.Margins.{unfed, spot_at, tighter, tightest_to, tightest_in}

-- ---- the order of integers

true_T : (b : Bool) → b ≡ true → T b
true_T true e = tt
true_T false e = absurd (false≢true e)

lt_in : (a b : ℤ) → lt_z a b ≡ true → a <ℤ b
lt_in a b h = lt_z_yes (true_T (lt_z a b) h)

le_in : (a b : ℤ) → lt_z b a ≡ false → a ≤ℤ b
le_in a b h = lt_z_no {a = b} {b = a} (true_T (not (lt_z b a)) (ap not h))

lt_le : (a b : ℤ) → a <ℤ b → a ≤ℤ b
lt_le (pos a) (pos b) h = record { le = le→leb a b (omega (arith, ltb→lt a b h.lt)) }
lt_le (pos a) (negsuc b) h = absurd h.lt
lt_le (negsuc a) (pos b) h = record { le = tt }
lt_le (negsuc a) (negsuc b) h = record { le = le→leb b a (omega (arith, ltb→lt b a h.lt)) }

-- ---- the tighter of two, as the machine compares signed numbers

module _ (s : Option Spot) (e : ℕ) (m : ℤ) (fit : SFits w64 m) where
  pub tighter_first : s ≡ None → spot_at e (to_z w64 (of_z w64 m)) ≡ tighter s e m
  unfolding tighter
  tighter_first q = rw (q, to_z-of_z fit)

  module _ (old : Spot) (is : s ≡ Some old) (fits : SFits w64 old.margin) where
    pub tighter_less : lt_z (to_z w64 (of_z w64 m)) (to_z w64 (of_z w64 old.margin)) ≡ true → spot_at e (to_z w64 (of_z w64 m)) ≡ tighter s e m
    unfolding tighter
    tighter_less h =
        ap (spot_at e) (to_z-of_z fit) ∙ ap (λ (t : Bool). cond t (spot_at e m) (Some old)) (sym h ∙ ap₂ lt_z (to_z-of_z fit) (to_z-of_z fits))
        ∙ ap (λ (y : Option Spot). tighter y e m) (sym is)

    pub tighter_more : lt_z (to_z w64 (of_z w64 m)) (to_z w64 (of_z w64 old.margin)) ≡ false → Some old ≡ tighter s e m
    unfolding tighter
    tighter_more h =
        ap (λ (t : Bool). cond t (spot_at e m) (Some old)) (sym h ∙ ap₂ lt_z (to_z-of_z fit) (to_z-of_z fits))
        ∙ ap (λ (y : Option Spot). tighter y e m) (sym is)

-- what the scan of the first n elements answers
pub data Scanned (n : ℕ) (test : ℕ → Bool) (m : ℕ → ℤ) : Option Spot → Type 0 where
  none : ((x : ℕ) → x < n → test x ≡ false) → Scanned n test m None
  least : {e : ℕ} {k : ℤ} → e < n → test e ≡ true → k ≡ m e → ((x : ℕ) → x < n → test x ≡ true → k ≤ℤ m x)
      → ((x : ℕ) → x < n → test x ≡ true → m x ≡ k → e ≤ x) → Scanned n test m (spot_at e k)

module _ (test : ℕ → Bool) (m : ℕ → ℤ) where
  -- the numbers below n + 1
  each : (n : ℕ) (P : ℕ → Type 0) → ((x : ℕ) → x < n → P x) → P n → (x : ℕ) → x < suc n → P x
  each n P h k x b = go (eqb x n) refl
    where
      go : (t : Bool) → eqb x n ≡ t → P x
      go true t = subst P (sym (eqb-true x n t)) k
      go false t = h x (omega (arith, eqb-false x n t))

  scan_off : (n : ℕ) (s : Option Spot) → test n ≡ false → Scanned n test m s → Scanned (suc n) test m s
  scan_off n _ f (none h) = none (each n (λ x. test x ≡ false) h f)
  scan_off n _ f (least {e = e} {k = k} b t q l o) =
      least {e = e} (omega arith) t q
      (each n (λ x. test x ≡ true → k ≤ℤ m x) l (λ u. absurd (false≢true (sym f ∙ u))))
      (each n (λ x. test x ≡ true → m x ≡ k → e ≤ x) o (λ u _. absurd (false≢true (sym f ∙ u))))

  scan_on : (n : ℕ) (s : Option Spot) → test n ≡ true → Scanned n test m s → Scanned (suc n) test m (tighter s n (m n))
  unfolding tighter
  scan_on n _ f (none h) =
      least {e = n} (omega arith) f refl
      (each n (λ x. test x ≡ true → m n ≤ℤ m x) (λ x b u. absurd (false≢true (sym (h x b) ∙ u))) (λ _. ≤ℤ_refl (m n)))
      (each n (λ x. test x ≡ true → m x ≡ m n → n ≤ x) (λ x b u. absurd (false≢true (sym (h x b) ∙ u))) (λ _ _. omega arith))
  scan_on n _ f (least {e = e} {k = k} b t q l o) = go (lt_z (m n) k) refl
    where
      go : (u : Bool) → lt_z (m n) k ≡ u → Scanned (suc n) test m (cond u (spot_at n (m n)) (spot_at e k))
      go true u = least {e = n} (omega arith) f refl
          (each n (λ x. test x ≡ true → m n ≤ℤ m x) (λ x c v. lt_le (m n) (m x) (<ℤ-≤ℤ_trans (lt_in (m n) k u) (l x c v))) (λ _. ≤ℤ_refl (m n)))
          (each n (λ x. test x ≡ true → m x ≡ m n → n ≤ x)
          (λ x c v w. clash_ℤ (lt_in (m n) k u) (subst (λ (y : ℤ). k ≤ℤ y) w (l x c v))) (λ _ _. omega arith))
      go false u = least {e = e} (omega arith) t q
          (each n (λ x. test x ≡ true → k ≤ℤ m x) l (λ _. le_in k (m n) u))
          (each n (λ x. test x ≡ true → m x ≡ k → e ≤ x) o (λ _ _. omega arith))

  pub scanned : (n : ℕ) → Scanned n test m (tightest_to n test m)
  unfolding tightest_to
  scanned zero = none (λ x b. absurd (omega arith))
  scanned (suc n) = go (scanned n) (test n) refl
    where
      go : Scanned n test m (tightest_to n test m) → (t : Bool) → test n ≡ t
          → Scanned (suc n) test m (elim t [ true ↦ tighter (tightest_to n test m) n (m n) | false ↦ tightest_to n test m ])
      go ih true t = scan_on n (tightest_to n test m) t ih
      go ih false t = scan_off n (tightest_to n test m) t ih

-- ---- the turns of `least_margin`

module _ (capacity loads : List ℕ) where
  pub spot_none : None ≡ tightest_in 0 (at capacity) (at loads)
  unfolding tightest_in tightest_to
  spot_none = refl

  pub spot_on : (e : ℕ) (s r : Option Spot) (m : ℤ) → (at loads e ≡ unfed → ⊥) → at capacity e < 2 ^ 63 → at loads e < 2 ^ 63
      → s ≡ tightest_in e (at capacity) (at loads) → m ≡ margin (at capacity e) (at loads e)
      → r ≡ tighter s e (to_z w64 (of_z w64 m)) → r ≡ tightest_in (e + 1) (at capacity) (at loads)
  unfolding tightest_in tightest_to
  spot_on e s r m h cap load p q t =
      t ∙ ap₂ (λ (x : Option Spot) (y : ℤ). tighter x e y) p
      (ap (λ (y : ℤ). to_z w64 (of_z w64 y)) q ∙ to_z-of_z (margin_small (at capacity e) (at loads e) cap load))
      ∙ ap (λ (b : Bool). elim b [
        | true ↦ tighter (tightest_to e (λ x. not (eqb (at loads x) unfed)) (λ x. margin (at capacity x) (at loads x))) e (margin (at capacity e) (at loads e))
        | false ↦ tightest_to e (λ x. not (eqb (at loads x) unfed)) (λ x. margin (at capacity x) (at loads x))
      ]) (sym (ap not (ne_eqb (at loads e) unfed h)))
      ∙ ap (λ (n : ℕ). tightest_in n (at capacity) (at loads)) (sym (add-one e))

  pub spot_off : (e : ℕ) (s : Option Spot) → at loads e ≡ unfed → s ≡ tightest_in e (at capacity) (at loads) → s ≡ tightest_in (e + 1) (at capacity) (at loads)
  unfolding tightest_in tightest_to
  spot_off e s h p =
      p ∙ ap (λ (b : Bool). elim b [
        | true ↦ tighter (tightest_to e (λ x. not (eqb (at loads x) unfed)) (λ x. margin (at capacity x) (at loads x))) e (margin (at capacity e) (at loads e))
        | false ↦ tightest_to e (λ x. not (eqb (at loads x) unfed)) (λ x. margin (at capacity x) (at loads x))
      ]) (sym (ap not (eq-eqb (at loads e) unfed h)))
      ∙ ap (λ (n : ℕ). tightest_in n (at capacity) (at loads)) (sym (add-one e))

  pub spot_all : (n e : ℕ) (s : Option Spot) → e ≡ n → s ≡ tightest_in e (at capacity) (at loads) → s ≡ tightest_in n (at capacity) (at loads)
  spot_all n e s q p = p ∙ ap (λ (x : ℕ). tightest_in x (at capacity) (at loads)) q

-- One element more: what is asked at its label, and what its label's source bears beyond that.
-- Assumes nothing.
use mathlib.Core.Path.{◌≡◌, refl, sym, ap, ◌∙◌}
use mathlib.Core.Bool.{Bool, true, false, and-false}
use mathlib.Core.List.{List}
use mathlib.Core.Logic.{◌⊎◌, inl, inr}
use Prim.Native.Nat.{ℕ, zero, suc, ◌+◌, ◌*◌, ◌-◌, ◌<◌, ◌≤◌}
use native.Mathlib.Numerals.{add-one}
use native.Mathlib.Omega.{arith}
use lib.Dec.{eqb}
use lib.ListN.{length, set, length-set, replicate, length-replicate, get_or-replicate}
use lib.Seq.{get_or-set_same, get_or-set_other}
use borrow.Author.Tests.{eq-eqb, ne_eqb}
use Rattle.feeding.specs.Below.{gate}
use Rattle.feeding.specs.Loads.{borne?}
use Rattle.feeding.specs.Networks.{at, is_in}
use Rattle.feeding.proofs.Below.{gate_le}
use Rattle.feeding.proofs.Lows.{length_tabulate, at_tabulate, table_ext}
use Rattle.feeding.proofs.Margins.{le_borne, lt_borne}
use Rattle.feeding.proofs.Sums.{sum_to_no, sum_to_more, sum_to_below}
use Rattle.plan_stops.proofs.OneMore.{same?}
use Rattle.plan_supply.specs.Supply.{ask_of, asked_at, asks_in, spare_at, spare_in, demand_in}

-- ---- one element

pub ask_small : (load capacity : ℕ) → load ≤ capacity → load ≡ ask_of load capacity
unfolding ask_of
ask_small load capacity h = rw (le_borne capacity load h, ask_of)

pub ask_large : (load capacity : ℕ) → capacity < load → 4294967296 ≡ ask_of load capacity
unfolding ask_of
ask_large load capacity h = rw (lt_borne capacity load h, ask_of)

pub ask_most : (load capacity : ℕ) → load < 4294967296 → ask_of load capacity ≤ 4294967296
unfolding ask_of
ask_most load capacity h = go (borne? capacity load) refl
  where
    go : (t : Bool) → borne? capacity load ≡ t → ask_of load capacity ≤ 4294967296
    go true t = rw (t, ask_of) (omega arith)
    go false t = rw (t, ask_of) (omega arith)

-- ---- what is asked

module _ (label load capacity : List ℕ) where
  asked_no : (x : ℕ) → asked_at label load capacity 0 x ≡ 0
  unfolding asked_at
  asked_no x = sum_to_no _

  asked_more : (n x : ℕ) → asked_at label load capacity (suc n) x
      ≡ asked_at label load capacity n x + gate (eqb (at label n) x) (ask_of (at load n) (at capacity n))
  unfolding asked_at
  asked_more n x = sum_to_more _ n

  pub asks_long : (n : ℕ) → length (asks_in label load capacity n) ≡ 64
  unfolding asks_in
  asks_long n = length_tabulate 64 _

  pub asks_at : (n x : ℕ) → x < 64 → at (asks_in label load capacity n) x ≡ asked_at label load capacity n x
  unfolding asks_in
  asks_at n x h = at_tabulate 64 _ x h

  pub asks_none : replicate 64 0 ≡ asks_in label load capacity 0
  unfolding asks_in
  asks_none = table_ext 64 (asked_at label load capacity 0) (replicate 64 0) (length-replicate {A = ℕ} 64 0)
      (λ x h. get_or-replicate 64 x 0 0 h ∙ sym (asked_no x))

  -- no more than 2 ^ 32 for each element
  pub asked_most : (n x : ℕ) → ((e : ℕ) → e < n → at load e < 4294967296) → asked_at label load capacity n x ≤ 4294967296 * n
  unfolding asked_at
  asked_most n x h = sum_to_below 4294967296 _ n (λ e k. omega (arith, gate_le (eqb (at label e) x) (ask_of (at load e) (at capacity e)), ask_most (at load e) (at capacity e) (h e k)))

  pub asks_step : (n : ℕ) (out : List ℕ) (x v : ℕ) → out ≡ asks_in label load capacity n → x ≡ at label n → x < 64
      → v ≡ at out x + ask_of (at load n) (at capacity n) → set out x v ≡ asks_in label load capacity (n + 1)
  unfolding asks_in
  asks_step n out x v e q k w = rw (add-one n)
      (table_ext 64 (asked_at label load capacity (suc n)) (set out x v) (length-set out x v ∙ long) (λ z h. go z h (same? z x)))
    where
      long : length out ≡ 64
      long = ap length e ∙ asks_long n

      was : (z : ℕ) → z < 64 → at out z ≡ asked_at label load capacity n z
      was z h = ap (λ (xs : List ℕ). at xs z) e ∙ asks_at n z h

      go : (z : ℕ) → z < 64 → (z ≡ x) ⊎ (z ≡ x → ⊥) → at (set out x v) z ≡ asked_at label load capacity (suc n) z
      go z h (inl s) = rw s (get_or-set_same out x v 0 (omega (arith, long)) ∙ w
          ∙ rw (was x k) (sym (asked_more n x ∙ rw (eq-eqb (at label n) x (sym q)))))
      go z h (inr d) = get_or-set_other out x z v 0 d ∙ was z h
          ∙ sym (asked_more n z ∙ rw (ne_eqb (at label n) z (λ s. d (sym s ∙ sym q))) (omega arith))

-- ---- what the members of a set ask

module _ (has load capacity : List ℕ) where
  pub demand_none : 0 ≡ demand_in has load capacity 0
  unfolding demand_in
  demand_none = sym (sum_to_no _)

  demand_more : (n : ℕ) → demand_in has load capacity (suc n) ≡ demand_in has load capacity n + gate (is_in has n) (ask_of (at load n) (at capacity n))
  unfolding demand_in
  demand_more n = sum_to_more _ n

  pub demand_most : (n : ℕ) → ((e : ℕ) → e < n → at load e < 4294967296) → demand_in has load capacity n ≤ 4294967296 * n
  unfolding demand_in
  demand_most n h = sum_to_below 4294967296 _ n (λ e k.
      omega (arith, gate_le (is_in has e) (ask_of (at load e) (at capacity e)), ask_most (at load e) (at capacity e) (h e k)))

  pub demand_on : (n sum more new : ℕ) → sum ≡ demand_in has load capacity n → is_in has n ≡ true → more ≡ ask_of (at load n) (at capacity n) → new ≡ sum + more
      → new ≡ demand_in has load capacity (n + 1)
  demand_on n sum more new e h q w = rw (add-one n) (sym (demand_more n ∙ rw h (omega (arith, e, q, w))))

  pub demand_off : (n sum new : ℕ) → sum ≡ demand_in has load capacity n → is_in has n ≡ false → new ≡ sum → new ≡ demand_in has load capacity (n + 1)
  demand_off n sum new e h w = rw (add-one n) (sym (demand_more n ∙ rw h (omega (arith, e, w))))

-- ---- what is left of a source's capacity

module _ (asked label sound capacity : List ℕ) where
  spare_no : (x : ℕ) → spare_at asked label sound capacity 0 x ≡ at asked x
  unfolding spare_at
  spare_no x = refl

  pub spare_here : (n x : ℕ) → is_in sound n ≡ true → at label n ≡ x → spare_at asked label sound capacity (suc n) x ≡ at capacity n - at asked x
  unfolding spare_at
  spare_here n x h q = rw (h, eq-eqb (at label n) x q, spare_at)

  pub spare_off : (n x : ℕ) → is_in sound n ≡ false → spare_at asked label sound capacity (suc n) x ≡ spare_at asked label sound capacity n x
  unfolding spare_at
  spare_off n x h = rw (h, spare_at)

  pub spare_other : (n x : ℕ) → (at label n ≡ x → ⊥) → spare_at asked label sound capacity (suc n) x ≡ spare_at asked label sound capacity n x
  unfolding spare_at
  spare_other n x d = rw (ne_eqb (at label n) x d, and-false (is_in sound n), spare_at)

  pub spare_long : (n : ℕ) → length (spare_in asked label sound capacity n) ≡ 64
  unfolding spare_in
  spare_long n = length_tabulate 64 _

  pub spare_at_lem : (n x : ℕ) → x < 64 → at (spare_in asked label sound capacity n) x ≡ spare_at asked label sound capacity n x
  unfolding spare_in
  spare_at_lem n x h = at_tabulate 64 _ x h

  pub spare_none : length asked ≡ 64 → asked ≡ spare_in asked label sound capacity 0
  unfolding spare_in
  spare_none long = table_ext 64 (spare_at asked label sound capacity 0) asked long (λ x h. sym (spare_no x))

  pub spare_skip : (n : ℕ) (out : List ℕ) → out ≡ spare_in asked label sound capacity n → is_in sound n ≡ false
      → out ≡ spare_in asked label sound capacity (n + 1)
  unfolding spare_in
  spare_skip n out e h = rw (add-one n)
      (table_ext 64 (spare_at asked label sound capacity (suc n)) out (ap length e ∙ spare_long n)
      (λ z k. ap (λ (xs : List ℕ). at xs z) e ∙ spare_at_lem n z k ∙ sym (spare_off n z h)))

  pub spare_step : (n : ℕ) (out : List ℕ) (x v : ℕ) → out ≡ spare_in asked label sound capacity n → is_in sound n ≡ true → x ≡ at label n → x < 64
      → v ≡ at capacity n - at asked x → set out x v ≡ spare_in asked label sound capacity (n + 1)
  unfolding spare_in
  spare_step n out x v e h q k w = rw (add-one n)
      (table_ext 64 (spare_at asked label sound capacity (suc n)) (set out x v) (length-set out x v ∙ long) (λ z b. go z b (same? z x)))
    where
      long : length out ≡ 64
      long = ap length e ∙ spare_long n

      go : (z : ℕ) → z < 64 → (z ≡ x) ⊎ (z ≡ x → ⊥) → at (set out x v) z ≡ spare_at asked label sound capacity (suc n) z
      go z b (inl s) = rw s (get_or-set_same out x v 0 (omega (arith, long)) ∙ w ∙ sym (spare_here n x h (sym q)))
      go z b (inr d) = get_or-set_other out x z v 0 d ∙ ap (λ (xs : List ℕ). at xs z) e ∙ spare_at_lem n z b ∙ sym (spare_other n z (λ s. d (sym s ∙ sym q)))

  -- no more than is asked and a capacity
  pub spare_most : (n x : ℕ) → ((e : ℕ) → e < n → at capacity e < 4294967296) → spare_at asked label sound capacity n x ≤ at asked x + 4294967296
  spare_most zero x h = omega (arith, spare_no x)
  spare_most (suc n) x h = go (spare_most n x (λ e k. h e (omega arith))) (is_in sound n) refl (same? (at label n) x)
    where
      go : spare_at asked label sound capacity n x ≤ at asked x + 4294967296 → (t : Bool) → is_in sound n ≡ t → (at label n ≡ x) ⊎ (at label n ≡ x → ⊥)
          → spare_at asked label sound capacity (suc n) x ≤ at asked x + 4294967296
      go rest true t (inl q) = omega (arith, spare_here n x t q, h n (omega arith))
      go rest true t (inr d) = omega (arith, rest, spare_other n x d)
      go rest false t o = omega (arith, rest, spare_off n x t)

  -- by the sources: none with the label x, or one
  pub spare_dark : (n x : ℕ) → ((s : ℕ) → s < n → is_in sound s ≡ true → at label s ≡ x → ⊥) → spare_at asked label sound capacity n x ≡ at asked x
  spare_dark zero x none = spare_no x
  spare_dark (suc n) x none = go (spare_dark n x (λ s k. none s (omega arith))) (is_in sound n) refl
    where
      go : spare_at asked label sound capacity n x ≡ at asked x → (t : Bool) → is_in sound n ≡ t → spare_at asked label sound capacity (suc n) x ≡ at asked x
      go rest true t = spare_other n x (none n (omega arith) t) ∙ rest
      go rest false t = spare_off n x t ∙ rest

  pub spare_fed : (n x s : ℕ) → s < n → is_in sound s ≡ true → at label s ≡ x → ((t : ℕ) → t < n → is_in sound t ≡ true → at label t ≡ x → t ≡ s)
      → spare_at asked label sound capacity n x ≡ at capacity s - at asked x
  spare_fed zero x s k h q only = absurd (omega arith)
  spare_fed (suc n) x s k h q only = go (λ b. spare_fed n x s b h q (λ t c. only t (omega arith))) (same? n s)
    where
      skip : (s < n → spare_at asked label sound capacity n x ≡ at capacity s - at asked x) → (n ≡ s → ⊥) → (t : Bool) → is_in sound n ≡ t
          → spare_at asked label sound capacity (suc n) x ≡ at capacity s - at asked x
      skip rest d true t = spare_other n x (λ e. d (only n (omega arith) t e)) ∙ rest (omega (arith, d))
      skip rest d false t = spare_off n x t ∙ rest (omega (arith, d))

      go : (s < n → spare_at asked label sound capacity n x ≡ at capacity s - at asked x) → (n ≡ s) ⊎ (n ≡ s → ⊥)
          → spare_at asked label sound capacity (suc n) x ≡ at capacity s - at asked x
      go rest (inl e) = spare_here n x (ap (is_in sound) e ∙ h) (ap (at label) e ∙ q) ∙ ap (λ (m : ℕ). at capacity m - at asked x) e
      go rest (inr d) = skip rest d (is_in sound n) refl

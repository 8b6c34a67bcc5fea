-- Scans of sets as numbers: what a scan of a list keeps, which of two ways to keep give the same, and how the numbers run.
-- Assumes nothing.
use Prim.Native.Nat.{ℕ, zero, suc, ◌+◌, ◌*◌, ◌/◌, ◌%◌, ◌^◌, ◌≤◌, ◌<◌}
use mathlib.Core.Path.{◌≡◌, refl, sym, ap, ap₂, ◌∙◌, fun_ext}
use mathlib.Core.Bool.{Bool, true, false, ◌&&◌}
use mathlib.Core.List.{List, [], ◌∷◌, ◌++◌}
use lib.Dec.{ltb}
use borrow.Author.Tests.{ltb-true, ltb-false, lt-ltb, le-ltb}
use native.Mathlib.Omega.{arith}
use Rattle.feeding.specs.Plans.{put}
use Rattle.plan_problem.specs.declared.Best.{Best}
use Rattle.plan_problem.specs.Sets.{set_of, sets_from, passing, keep, scan}

-- ---- one choice more

-- the choices s with one more behind them
abbrev pub next : Bool → ℕ → ℕ
next b s = elim b [ true ↦ 2 * s + 1 | false ↦ 2 * s ]

pub set_next : (op : ℕ → ℕ) (i s : ℕ) (b : Bool) → set_of op (suc i) (next b s) ≡ put (set_of op i s) (op i) b
unfolding set_of
set_next op i s true =
    let d : (2 * s + 1) / 2 ≡ s = omega arith in
    let r : (2 * s + 1) % 2 ≡ 1 = omega arith in
    rw (d, r)
set_next op i s false =
    let d : (2 * s) / 2 ≡ s = omega arith in
    let r : (2 * s) % 2 ≡ 0 = omega arith in
    rw (d, r)

-- ---- the members that pass

pub passing_append : (ok : ℕ → Bool) (xs ys : List ℕ) → passing ok (xs ++ ys) ≡ passing ok xs ++ passing ok ys
unfolding passing
passing_append ok [] ys = refl
passing_append ok (x ∷ xs) ys = go (ok x) (passing_append ok xs ys)
  where
    go : (t : Bool) → passing ok (xs ++ ys) ≡ passing ok xs ++ passing ok ys
        → elim t [ true ↦ x ∷ passing ok (xs ++ ys) | false ↦ passing ok (xs ++ ys) ]
        ≡ elim t [ true ↦ x ∷ passing ok xs | false ↦ passing ok xs ] ++ passing ok ys
    go true ih = ap (λ zs. x ∷ zs) ih
    go false ih = ih

pub passing_end : (ok : ℕ → Bool) (s : ℕ) → passing ok (sets_from zero s) ≡ elim (ok s) [ true ↦ s ∷ [] | false ↦ [] ]
unfolding passing sets_from
passing_end ok s = refl

pub passing_next : (ok : ℕ → Bool) (n s : ℕ)
    → passing ok (sets_from (suc n) s) ≡ passing ok (sets_from n (next true s)) ++ passing ok (sets_from n (next false s))
unfolding sets_from
passing_next ok n s = passing_append ok (sets_from n (next true s)) (sets_from n (next false s))

pub passing_none : (ok : ℕ → Bool) (n s : ℕ) → ((b : Bool) → passing ok (sets_from n (next b s)) ≡ []) → passing ok (sets_from (suc n) s) ≡ []
passing_none ok n s h = passing_next ok n s ∙ ap₂ ◌++◌ (h true) (h false)

pub passing_ext : (ok ok' : ℕ → Bool) → ((s : ℕ) → ok s ≡ ok' s) → (xs : List ℕ) → passing ok xs ≡ passing ok' xs
passing_ext ok ok' same xs = ap (λ f. passing f xs) (fun_ext same)

-- ---- scans

module _ {S : Type 0} (visit : S → ℕ → S) where
  pub scan_append : (xs ys : List ℕ) (b : S) → scan visit (xs ++ ys) b ≡ scan visit ys (scan visit xs b)
  unfolding scan
  scan_append [] ys b = refl
  scan_append (x ∷ xs) ys b = scan_append xs ys (visit b x)

  pub scan_more : (s : ℕ) (ss : List ℕ) (b : S) → scan visit (s ∷ ss) b ≡ scan visit ss (visit b s)
  unfolding scan
  scan_more s ss b = refl

  -- a set that fails a test is left out where it would not have been kept
  pub scan_passing : (ok : ℕ → Bool) → ((b : S) (s : ℕ) → ok s ≡ false → visit b s ≡ b)
      → (xs : List ℕ) (b : S) → scan visit (passing ok xs) b ≡ scan visit xs b
  unfolding scan passing
  scan_passing ok skips [] b = refl
  scan_passing ok skips (s ∷ ss) b = go (ok s) refl (scan_passing ok skips ss)
    where
      go : (t : Bool) → ok s ≡ t → ((b : S) → scan visit (passing ok ss) b ≡ scan visit ss b)
          → scan visit (elim t [ true ↦ s ∷ passing ok ss | false ↦ passing ok ss ]) b ≡ scan visit ss (visit b s)
      go true t ih = ih (visit b s)
      go false t ih = ih b ∙ ap (scan visit ss) (sym (skips b s t))

-- two ways to visit that agree on the sets that pass
pub scan_same : {S : Type 0} (visit visit' : S → ℕ → S) (ok : ℕ → Bool) → ((b : S) (s : ℕ) → ok s ≡ true → visit b s ≡ visit' b s)
    → (xs : List ℕ) (b : S) → scan visit (passing ok xs) b ≡ scan visit' (passing ok xs) b
unfolding scan passing
scan_same visit visit' ok same [] b = refl
scan_same {S} visit visit' ok same (s ∷ ss) b = go (ok s) refl (scan_same visit visit' ok same ss)
  where
    go : (t : Bool) → ok s ≡ t → ((b : S) → scan visit (passing ok ss) b ≡ scan visit' (passing ok ss) b)
        → scan visit (elim t [ true ↦ s ∷ passing ok ss | false ↦ passing ok ss ]) b
        ≡ scan visit' (elim t [ true ↦ s ∷ passing ok ss | false ↦ passing ok ss ]) b
    go true t ih = ap (λ x. scan visit (passing ok ss) x) (same b s t) ∙ ih (visit' b s)
    go false t ih = ih b

-- ---- one set in the place of another, by its cost and test

pub keep_dear : (cost : ℕ → ℕ) (ok : ℕ → Bool) (b : Best) (s : ℕ) → b.cost ≤ cost s → keep cost ok b s ≡ b
unfolding keep
keep_dear cost ok b s h = rw (le-ltb (cost s) b.cost h, keep)

pub keep_taken : (cost : ℕ → ℕ) (ok : ℕ → Bool) (b : Best) (s : ℕ) → cost s < b.cost → ok s ≡ true → keep cost ok b s ≡ record { cost = cost s; set = s }
unfolding keep
keep_taken cost ok b s h k = rw (lt-ltb (cost s) b.cost h, k, keep)

pub keep_failed : (cost : ℕ → ℕ) (ok : ℕ → Bool) (b : Best) (s : ℕ) → ok s ≡ false → keep cost ok b s ≡ b
unfolding keep
keep_failed cost ok b s k = go (ltb (cost s) b.cost) refl
  where
    go : (t : Bool) → ltb (cost s) b.cost ≡ t → keep cost ok b s ≡ b
    go true t = rw (t, k, keep)
    go false t = rw (t, keep)

pub scan_ext : (cost cost' : ℕ → ℕ) (ok ok' : ℕ → Bool) → ((s : ℕ) → cost s ≡ cost' s) → ((s : ℕ) → ok s ≡ ok' s)
    → (xs : List ℕ) (b : Best) → scan (keep cost ok) xs b ≡ scan (keep cost' ok') xs b
scan_ext cost cost' ok ok' e f xs b = ap₂ (λ c t. scan (keep c t) xs b) (fun_ext e) (fun_ext f)

-- a test that comes before the scan may come within it
pub scan_tested : (cost : ℕ → ℕ) (ok ok' : ℕ → Bool) (xs : List ℕ) (b : Best)
    → scan (keep cost ok) (passing ok' xs) b ≡ scan (keep cost (λ s. ok' s && ok s)) xs b
unfolding keep
scan_tested cost ok ok' xs b =
    scan_same (keep cost ok) (keep cost (λ s. ok' s && ok s)) ok' same xs b
    ∙ scan_passing (keep cost (λ s. ok' s && ok s)) ok' (λ d s h. keep_failed cost (λ s. ok' s && ok s) d s (ap (λ t. t && ok s) h)) xs b
  where
    same : (d : Best) (s : ℕ) → ok' s ≡ true → keep cost ok d s ≡ keep cost (λ s. ok' s && ok s) d s
    same d s h = ap (λ t. elim (ltb (cost s) d.cost) [ true ↦ elim (t && ok s) [ true ↦ record { cost = cost s; set = s } | false ↦ d ] | false ↦ d ]) (sym h)

-- ---- how high the numbers are

keep_below : (cost : ℕ → ℕ) (ok : ℕ → Bool) (b : Best) (s top : ℕ) → b.set < top → s < top → (keep cost ok b s).set < top
keep_below cost ok b s top h k = go (ltb (cost s) b.cost) refl (ok s) refl
  where
    go : (t : Bool) → ltb (cost s) b.cost ≡ t → (u : Bool) → ok s ≡ u → (keep cost ok b s).set < top
    go true t true u = rw (keep_taken cost ok b s (ltb-true (cost s) b.cost t) u) k
    go true t false u = rw (keep_failed cost ok b s u) h
    go false t u v = rw (keep_dear cost ok b s (ltb-false (cost s) b.cost t)) h

pub scan_below : (cost : ℕ → ℕ) (ok : ℕ → Bool) (top n s : ℕ) (b : Best) → b.set < top → (s + 1) * 2 ^ n ≤ top
    → (scan (keep cost ok) (sets_from n s) b).set < top
unfolding sets_from scan
scan_below cost ok top zero s b h k = keep_below cost ok b s top h (omega arith)
scan_below cost ok top (suc n) s b h k =
    let e : 2 ^ suc n ≡ 2 * 2 ^ n = omega arith in
    let k' : (s + 1) * (2 * 2 ^ n) ≤ top = rw e at k in
    rw (scan_append (keep cost ok) (sets_from n (2 * s + 1)) (sets_from n (2 * s)) b)
    (scan_below cost ok top n (2 * s) (scan (keep cost ok) (sets_from n (2 * s + 1)) b)
    (scan_below cost ok top n (2 * s + 1) b h (omega (arith, k')))
    (omega (arith, k')))

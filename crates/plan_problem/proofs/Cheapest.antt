-- Scanning all sets as numbers in the set order gives what the plain recursion gives: both take the first of the best of one list.
-- Assumes nothing.
use Prim.Native.Nat.{ℕ, suc, ◌+◌, ◌*◌, ◌^◌, ◌≤◌, ◌<◌}
use mathlib.Core.Path.{◌≡◌, refl, sym, ap, ap₂, ◌∙◌, subst}
use mathlib.Core.Bool.{Bool, true, false, false≢true}
use mathlib.Core.List.{List, [], ◌∷◌, ◌++◌}
use mathlib.Core.Logic.{◌⊎◌, inl, inr}
use lib.Dec.{ltb}
use lib.ListN.{length}
use lib.Pow.{pow_pos}
use borrow.Author.Tests.{ltb-true, ltb-false, lt-ltb, le-ltb, lt-leb}
use native.Mathlib.Omega.{arith}
use Rattle.feeding.specs.Networks.{at}
use Rattle.feeding.specs.Plans.{put}
use Rattle.plan_problem.specs.declared.Best.{Best}
use Rattle.plan_problem.specs.Choosing.{Choice, nothing, chosen, first_if, Preference, no_dearer, better, best}
use Rattle.plan_problem.specs.Sets.{set_of, sets_from, none, keep, scan, set_in, cheapest_by, choice_by}
use Rattle.plan_problem.proofs.Preferring.{Orders, no_dearer_in, no_dearer_orders}
use Rattle.plan_problem.proofs.Scans.{set_next, keep_dear, keep_taken, keep_failed, scan_below}

-- ---- the better of two

module _ (prefers : Preference) where
  pub better_none : (y : Choice) → better prefers nothing y ≡ y
  unfolding better
  better_none y = refl

  pub better_alone : (x : Choice) → better prefers x nothing ≡ x
  unfolding better
  better_alone nothing = refl
  better_alone (chosen a) = refl

  pub better_first : (a b : ℕ → Bool) → prefers a b ≡ true → better prefers (chosen a) (chosen b) ≡ chosen a
  unfolding better first_if
  better_first a b h = rw (h, better, first_if)

  pub better_second : (a b : ℕ → Bool) → prefers a b ≡ false → better prefers (chosen a) (chosen b) ≡ chosen b
  unfolding better first_if
  better_second a b h = rw (h, better, first_if)

  better_assoc : Orders prefers → (x y z : Choice) → better prefers (better prefers x y) z ≡ better prefers x (better prefers y z)
  better_assoc orders nothing y z = ap (λ w. better prefers w z) (better_none y) ∙ sym (better_none (better prefers y z))
  better_assoc orders (chosen a) nothing z =
      ap (λ w. better prefers w z) (better_alone (chosen a)) ∙ ap (better prefers (chosen a)) (sym (better_none z))
  better_assoc orders (chosen a) (chosen b) nothing =
      better_alone (better prefers (chosen a) (chosen b)) ∙ ap (better prefers (chosen a)) (sym (better_alone (chosen b)))
  better_assoc orders (chosen a) (chosen b) (chosen c) = go (prefers a b) refl (prefers b c) refl (prefers a c) refl
    where
      go : (t : Bool) → prefers a b ≡ t → (u : Bool) → prefers b c ≡ u → (v : Bool) → prefers a c ≡ v
          → better prefers (better prefers (chosen a) (chosen b)) (chosen c) ≡ better prefers (chosen a) (better prefers (chosen b) (chosen c))
      go true t true u v w =
          rw (better_first a b t, better_first b c u, better_first a c (orders.trans a b c t u), better_first a b t)
      go true t false u v w = rw (better_first a b t, better_second b c u)
      go false t true u v w = rw (better_second a b t, better_first b c u, better_second a b t)
      go false t false u true w = absurd (false≢true (sym u ∙ orders.trans b a c (orders.total a b t) w))
      go false t false u false w = rw (better_second a b t, better_second b c u, better_second a c w)

-- ---- numbers in the set order are the plain recursion

-- the best of the listed sets that work: `set` gives the set that a number writes
over : Preference → (works : (ℕ → Bool) → Bool) (set : ℕ → (ℕ → Bool)) → List ℕ → Choice
over prefers works set [] = nothing
over prefers works set (s ∷ ss) = better prefers (best prefers works (set s) []) (over prefers works set ss)

module _ (prefers : Preference) (orders : Orders prefers) (works : (ℕ → Bool) → Bool) (ls : List ℕ) where
  -- the switches by their place, and the sets that numbers write
  abbrev op : ℕ → ℕ
  op = at ls

  abbrev set_at : ℕ → (ℕ → Bool)
  set_at = set_in ls

  over_append : (xs ys : List ℕ) → over prefers works set_at (xs ++ ys) ≡ better prefers (over prefers works set_at xs) (over prefers works set_at ys)
  unfolding over
  over_append [] ys = sym (better_none prefers (over prefers works set_at ys))
  over_append (s ∷ ss) ys =
      ap (better prefers (best prefers works (set_at s) [])) (over_append ss ys)
      ∙ sym (better_assoc prefers orders (best prefers works (set_at s) []) (over prefers works set_at ss) (over prefers works set_at ys))

  best_more : (D : ℕ → Bool) (l : ℕ) (ks : List ℕ)
      → best prefers works D (l ∷ ks) ≡ better prefers (best prefers works (put D l true) ks) (best prefers works (put D l false) ks)
  unfolding best
  best_more D l ks = refl

  -- the switches of ks are those from the place i onward
  over_from : (ks : List ℕ) (i s : ℕ) → i + length ks ≡ length ls → ((j : ℕ) → j < length ks → at ks j ≡ at ls (i + j))
      → over prefers works set_at (sets_from (length ks) s) ≡ best prefers works (set_of op i s) ks
  unfolding sets_from over set_in
  over_from [] i s h e =
      let q : length ls ≡ i = omega arith in
      better_alone prefers (best prefers works (set_at s) []) ∙ ap (λ n. best prefers works (set_of op n s) []) q
  over_from (l ∷ ks) i s h e =
      over_append (sets_from (length ks) (2 * s + 1)) (sets_from (length ks) (2 * s))
      ∙ ap₂ (better prefers) (over_from ks (suc i) (2 * s + 1) (omega arith) later) (over_from ks (suc i) (2 * s) (omega arith) later)
      ∙ step
    where
      first : op i ≡ l
      first = let q : i ≡ i + 0 = omega arith in ap op q ∙ sym (e 0 (omega arith))

      later : (j : ℕ) → j < length ks → at ks j ≡ op (suc i + j)
      later j k = let q : i + suc j ≡ suc i + j = omega arith in e (suc j) (omega arith) ∙ ap op q

      step : better prefers (best prefers works (set_of op (suc i) (2 * s + 1)) ks) (best prefers works (set_of op (suc i) (2 * s)) ks)
          ≡ best prefers works (set_of op i s) (l ∷ ks)
      step =
          ap₂ (λ D D'. better prefers (best prefers works D ks) (best prefers works D' ks))
          (set_next op i s true ∙ ap (λ m. put (set_of op i s) m true) first)
          (set_next op i s false ∙ ap (λ m. put (set_of op i s) m false) first)
          ∙ sym (best_more (set_of op i s) l ks)

  over_best : over prefers works (set_in ls) (sets_from (length ls) 0) ≡ best prefers works (λ _. false) ls
  unfolding set_of
  over_best = over_from ls 0 0 (omega arith) (λ j k. let q : j ≡ 0 + j = omega arith in ap op q)

  -- a scan takes the best: what was found stands for a choice, `Fair` holds of it, and one set more gives the better of the two
  module _ {S : Type 0} (visit : S → ℕ → S) (choice : S → Choice) (Fair : S → Type 0)
      (fair : (b : S) (s : ℕ) → Fair b → Fair (visit b s))
      (keeps : (b : S) (s : ℕ) → Fair b → choice (visit b s) ≡ better prefers (choice b) (best prefers works (set_in ls s) [])) where
    pub scan_fair : (xs : List ℕ) (b : S) → Fair b → Fair (scan visit xs b)
    unfolding scan
    scan_fair [] b f = f
    scan_fair (s ∷ ss) b f = scan_fair ss (visit b s) (fair b s f)

    scan_over : (xs : List ℕ) (b : S) → Fair b → choice (scan visit xs b) ≡ better prefers (choice b) (over prefers works set_at xs)
    unfolding scan over
    scan_over [] b f = sym (better_alone prefers (choice b))
    scan_over (s ∷ ss) b f =
        scan_over ss (visit b s) (fair b s f)
        ∙ ap (λ c. better prefers c (over prefers works set_at ss)) (keeps b s f)
        ∙ better_assoc prefers orders (choice b) (best prefers works (set_at s) []) (over prefers works set_at ss)

    pub scan_best : (b : S) → Fair b → choice b ≡ nothing → choice (scan visit (sets_from (length ls) 0) b) ≡ best prefers works (λ _. false) ls
    scan_best b f none =
        scan_over (sets_from (length ls) 0) b f
        ∙ ap (λ c. better prefers c (over prefers works set_at (sets_from (length ls) 0))) none
        ∙ better_none prefers (over prefers works set_at (sets_from (length ls) 0))
        ∙ over_best

-- a set alone
module _ (prefers : Preference) (works : (ℕ → Bool) → Bool) (D : ℕ → Bool) where
  pub alone_works : works D ≡ true → best prefers works D [] ≡ chosen D
  unfolding best first_if
  alone_works h = rw (h, best, first_if)

  pub alone_fails : works D ≡ false → best prefers works D [] ≡ nothing
  unfolding best first_if
  alone_fails h = rw (h, best, first_if)

-- ---- the cheapest set over the switches of a list

-- the choice that a set found stands for
module _ (ls : List ℕ) (b : Best) where
  pub choice_nothing : 18446744073709551615 ≤ b.cost → choice_by ls b ≡ nothing
  unfolding choice_by
  choice_nothing h = rw (le-ltb b.cost 18446744073709551615 h, choice_by)

  pub choice_chosen : b.cost < 18446744073709551615 → choice_by ls b ≡ chosen (set_in ls b.set)
  unfolding choice_by
  choice_chosen h = rw (lt-ltb b.cost 18446744073709551615 h, choice_by)

module _ (ls : List ℕ) (cost : (ℕ → Bool) → ℕ) (below : (D : ℕ → Bool) → cost D < 18446744073709551615) (works : (ℕ → Bool) → Bool) where
  -- by the number that writes a set
  abbrev price : ℕ → ℕ
  price s = cost (set_in ls s)

  abbrev ok : ℕ → Bool
  ok s = works (set_in ls s)

  -- the cost is none, or that of its set
  abbrev Fair : Best → Type 0
  Fair b = (b.cost ≡ 18446744073709551615) ⊎ (b.cost ≡ cost (set_in ls b.set))

  keep_fair : (b : Best) (s : ℕ) → Fair b → Fair (keep price ok b s)
  keep_fair b s f = go (ok s) refl (ltb (price s) b.cost) refl
    where
      go : (t : Bool) → ok s ≡ t → (u : Bool) → ltb (price s) b.cost ≡ u → Fair (keep price ok b s)
      go false t u v = subst Fair (sym (keep_failed price ok b s t)) f
      go true t true v = subst Fair (sym (keep_taken price ok b s (ltb-true (price s) b.cost v) t)) (inr refl)
      go true t false v = subst Fair (sym (keep_dear price ok b s (ltb-false (price s) b.cost v))) f

  alone : (s : ℕ) → Choice
  alone s = best (no_dearer cost) works (set_in ls s) []

  first : (a b : ℕ → Bool) → cost a ≤ cost b → better (no_dearer cost) (chosen a) (chosen b) ≡ chosen a
  first a b h = better_first (no_dearer cost) a b (no_dearer_in cost a b h)

  second : (a b : ℕ → Bool) → cost b < cost a → better (no_dearer cost) (chosen a) (chosen b) ≡ chosen b
  unfolding no_dearer
  second a b h = better_second (no_dearer cost) a b (lt-leb (cost a) (cost b) h)

  keep_choice : (b : Best) (s : ℕ) → Fair b → choice_by ls (keep price ok b s) ≡ better (no_dearer cost) (choice_by ls b) (alone s)
  unfolding alone
  keep_choice b s f = go (ok s) refl f (ltb (price s) b.cost) refl
    where
      go : (t : Bool) → ok s ≡ t → Fair b → (u : Bool) → ltb (price s) b.cost ≡ u
          → choice_by ls (keep price ok b s) ≡ better (no_dearer cost) (choice_by ls b) (alone s)
      go false t f u v =
          ap (choice_by ls) (keep_failed price ok b s t)
          ∙ sym (ap (better (no_dearer cost) (choice_by ls b)) (alone_fails (no_dearer cost) works (set_in ls s) t) ∙ better_alone (no_dearer cost) (choice_by ls b))
      go true t (inl e) u v =
          ap (choice_by ls) (keep_taken price ok b s (omega (arith, below (set_in ls s))) t)
          ∙ choice_chosen ls (record { cost = price s; set = s }) (below (set_in ls s))
          ∙ sym
          (ap₂ (better (no_dearer cost)) (choice_nothing ls b (omega (arith, e))) (alone_works (no_dearer cost) works (set_in ls s) t)
          ∙ better_none (no_dearer cost) (chosen (set_in ls s)))
      go true t (inr e) true v =
          ap (choice_by ls) (keep_taken price ok b s (ltb-true _ _ v) t)
          ∙ choice_chosen ls (record { cost = price s; set = s }) (below (set_in ls s))
          ∙ sym
          (ap₂ (better (no_dearer cost)) (choice_chosen ls b (omega (arith, below (set_in ls b.set))))
          (alone_works (no_dearer cost) works (set_in ls s) t)
          ∙ second (set_in ls b.set) (set_in ls s) (omega (arith, ltb-true (price s) b.cost v)))
      go true t (inr e) false v =
          ap (choice_by ls) (keep_dear price ok b s (ltb-false _ _ v))
          ∙ choice_chosen ls b (omega (arith, below (set_in ls b.set)))
          ∙ sym
          (ap₂ (better (no_dearer cost)) (choice_chosen ls b (omega (arith, below (set_in ls b.set))))
          (alone_works (no_dearer cost) works (set_in ls s) t)
          ∙ first (set_in ls b.set) (set_in ls s) (omega (arith, ltb-false (price s) b.cost v)))

  none_fair : Fair none
  unfolding none
  none_fair = inl refl

  none_nothing : choice_by ls none ≡ nothing
  unfolding none
  none_nothing = choice_nothing ls none (omega arith)

  -- the scan of all sets is the plain recursion over the switches
  pub cheapest_best : choice_by ls (cheapest_by ls cost works) ≡ best (no_dearer cost) works (λ _. false) ls
  unfolding cheapest_by alone
  cheapest_best =
      scan_best (no_dearer cost) (no_dearer_orders cost) works ls (keep price ok) (choice_by ls) Fair keep_fair keep_choice none none_fair none_nothing

  fair_found : Fair (cheapest_by ls cost works)
  unfolding cheapest_by alone
  fair_found =
      scan_fair (no_dearer cost) (no_dearer_orders cost) works ls (keep price ok) (choice_by ls) Fair keep_fair keep_choice (sets_from (length ls) 0) none none_fair

  -- and the cost found is that of the set found
  pub cheapest_own : (cheapest_by ls cost works).cost < 18446744073709551615
      → (cheapest_by ls cost works).cost ≡ cost (set_in ls (cheapest_by ls cost works).set)
  cheapest_own h = go fair_found
    where
      go : Fair (cheapest_by ls cost works) → (cheapest_by ls cost works).cost ≡ cost (set_in ls (cheapest_by ls cost works).set)
      go (inl e) = absurd (omega arith)
      go (inr e) = e

-- its number is one of the sets'
pub cheapest_below : (ls : List ℕ) (cost : (ℕ → Bool) → ℕ) (works : (ℕ → Bool) → Bool) → (cheapest_by ls cost works).set < 2 ^ length ls
unfolding cheapest_by none
cheapest_below ls cost works = scan_below _ _ (2 ^ length ls) (length ls) 0 none (pow_pos (length ls)) (omega arith)

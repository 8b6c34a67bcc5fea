-- What is surely closed after the choices for the first switches: one choice more puts one switch into its state, and after the last choice it is the
-- last configuration.
-- Assumes nothing.
use mathlib.Core.Path.{◌≡◌, refl, ap, fun_ext}
use mathlib.Core.Bool.{Bool, true, false, not, ◌&&◌, ◌||◌, and-false, and-true, false≢true}
use mathlib.Core.List.{List, [], ◌∷◌}
use mathlib.Core.Logic.{◌⊎◌, inl, inr}
use Prim.Native.Nat.{ℕ, zero, suc, ◌+◌, ◌<◌, ◌≤◌}
use lib.Dec.{eqb}
use lib.ListN.{length}
use borrow.Author.Tests.{eqb-true, eq-eqb, ne_eqb}
use native.Mathlib.Omega.{arith}
use Rattle.feeding.specs.Below.{Member, those}
use Rattle.feeding.specs.Networks.{Net, at}
use Rattle.feeding.specs.Parts.{Config}
use Rattle.feeding.specs.Plans.{put, differ, flip}
use Rattle.feeding.proofs.Below.{same_test}
use Rattle.feeding.proofs.Lows.{those_in, those_out, those_rising}
use Rattle.plan_problem.specs.Sets.{set_of}
use Rattle.plan_problem.proofs.Rising.{at_member, at_rising}
use Rattle.plan_problem.proofs.Scans.{next, set_next}
use Rattle.plan_stops.specs.Candidates.{opened_by}

-- l is one of the n switches from the place i on
ahead : (op : ℕ → ℕ) (n i l : ℕ) → Bool
ahead op zero i l = false
ahead op (suc n) i l = eqb l (op i) || ahead op n (suc i) l

-- what is surely closed after the choices s for the first i switches, with n further ones to choose: these are open
pub settled : (start : Config) (op : ℕ → ℕ) (n i s : ℕ) → Config
settled start op n i s l = flip start (set_of op i s) l && not (ahead op n i l)

-- ---- the switches ahead

ahead_none : (op : ℕ → ℕ) (n i l : ℕ) → ((j : ℕ) → i ≤ j → j < i + n → l ≡ op j → ⊥) → ahead op n i l ≡ false
unfolding ahead
ahead_none op zero i l h = refl
ahead_none op (suc n) i l h =
    rw (ne_eqb l (op i) (h i (omega arith) (omega arith))) (ahead_none op n (suc i) l (λ j a b. h j (omega arith) (omega arith)))

ahead_shift : (x : ℕ) (xs : List ℕ) (n i l : ℕ) → ahead (at (x ∷ xs)) n (suc i) l ≡ ahead (at xs) n i l
unfolding ahead
ahead_shift x xs zero i l = refl
ahead_shift x xs (suc n) i l = ap (λ b. eqb l (at xs i) || b) (ahead_shift x xs n (suc i) l)

ahead_member : (xs : List ℕ) (l : ℕ) → ahead (at xs) (length xs) 0 l ≡ true → Member l xs
unfolding ahead Member
ahead_member [] l h = absurd (false≢true h)
ahead_member (x ∷ xs) l h = go (ahead_member xs l) (eqb l x) refl (rw (ahead_shift x xs (length xs) 0 l) at h)
  where
    go : (ahead (at xs) (length xs) 0 l ≡ true → Member l xs) → (t : Bool) → eqb l x ≡ t → (t || ahead (at xs) (length xs) 0 l) ≡ true
        → (l ≡ x) ⊎ Member l xs
    go ih true t k = inl (eqb-true l x t)
    go ih false t k = inr (ih k)

member_ahead : (xs : List ℕ) (l : ℕ) → Member l xs → ahead (at xs) (length xs) 0 l ≡ true
unfolding ahead Member
member_ahead [] l m = absurd m
member_ahead (x ∷ xs) l (inl e) = rw (eq-eqb l x e)
member_ahead (x ∷ xs) l (inr m) = rw (ahead_shift x xs (length xs) 0 l) (go (eqb l x) (member_ahead xs l m))
  where
    go : (t : Bool) → ahead (at xs) (length xs) 0 l ≡ true → (t || ahead (at xs) (length xs) 0 l) ≡ true
    go true k = refl
    go false k = k

-- ---- one choice more

module _ (start : Config) (op : ℕ → ℕ) where
  pub settled_open : (n i s : ℕ) → settled start op (suc n) i s (op i) ≡ false
  unfolding settled ahead
  settled_open n i s = rw (eq-eqb (op i) (op i) refl) (and-false (flip start (set_of op i s) (op i)))

  pub settled_end : (i s : ℕ) → settled start op zero i s ≡ flip start (set_of op i s)
  unfolding settled ahead
  settled_end i s = fun_ext (λ l. and-true (flip start (set_of op i s) l))

  pub settled_next : (n i s : ℕ) (b : Bool) → ((j : ℕ) → suc i ≤ j → j < suc i + n → op i ≡ op j → ⊥)
      → settled start op n (suc i) (next b s) ≡ put (settled start op (suc n) i s) (op i) (differ (start (op i)) b)
  unfolding settled ahead put flip
  settled_next n i s b distinct = fun_ext (λ l. rw (set_next op i s b) (go l (eqb l (op i)) refl))
    where
      go : (l : ℕ) (t : Bool) → eqb l (op i) ≡ t → (flip start (put (set_of op i s) (op i) b) l && not (ahead op n (suc i) l))
          ≡ put (settled start op (suc n) i s) (op i) (differ (start (op i)) b) l
      go l true t = rw (t, eqb-true l (op i) t, ahead_none op n (suc i) (op i) distinct) (and-true (differ (start (op i)) b))
      go l false t = rw t

-- ---- the switches by their place

module _ (net : Net) (op? : ℕ → Bool) where
  pub switch_below : (i : ℕ) → i < length (those net.grid.K op?) → at (those net.grid.K op?) i < net.grid.K
  switch_below i k = (those_out net.grid.K op? (at (those net.grid.K op?) i) (at_member (those net.grid.K op?) i k)).0

  pub switch_distinct : (i j : ℕ) → i < j → j < length (those net.grid.K op?) → at (those net.grid.K op?) i ≡ at (those net.grid.K op?) j → ⊥
  switch_distinct i j h k e = omega (arith, at_rising (those net.grid.K op?) (those_rising net.grid.K op?) i j h k)

  module _ (inside : (l : ℕ) → op? l ≡ true → l < net.grid.K) where
    ahead_all : (l : ℕ) → ahead (at (those net.grid.K op?)) (length (those net.grid.K op?)) 0 l ≡ op? l
    ahead_all l = same_test _ _
        (λ h. (those_out net.grid.K op? l (ahead_member (those net.grid.K op?) l h)).1)
        (λ h. member_ahead (those net.grid.K op?) l (those_in net.grid.K op? l (inside l h) h))

    pub settled_none : settled net.start_closed (at (those net.grid.K op?)) (length (those net.grid.K op?)) 0 0 ≡ opened_by net op?
    unfolding settled opened_by flip set_of
    settled_none = fun_ext (λ l. rw (ahead_all l) (ap (λ b. b && not (op? l)) (plain (net.start_closed l))))
      where
        plain : (b : Bool) → differ b false ≡ b
        plain true = refl
        plain false = refl

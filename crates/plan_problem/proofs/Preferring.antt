-- The recursion over all sets finds a set that works wherever one does; none that works is preferred to it, and of the equal ones it comes first.
-- Assumes nothing.
use Prim.Native.Nat.{ℕ, ◌≤◌, ◌<◌}
use mathlib.Core.Path.{◌≡◌, refl, sym, ap, ◌∙◌, subst, fun_ext}
use mathlib.Core.Logic.{◌⊎◌, inl, inr}
use mathlib.Core.Bool.{Bool, true, false, cond, false≢true}
use mathlib.Core.List.{List, [], ◌∷◌}
use lib.Dec.{eqb, ltb}
use borrow.Author.Tests.{eqb-true, eqb-false, eq-eqb, ne_eqb, ltb-true, ltb-false, leb-true, leb-false, le-leb}
use native.Mathlib.Omega.{arith}
use Rattle.feeding.specs.Below.{Member, Rising}
use Rattle.feeding.specs.Plans.{put}
use Rattle.plan_problem.specs.Choosing.{Before, Choice, nothing, chosen, first_if, Preference, no_dearer, better, best}

-- a preference orders all sets: of two one is taken before the other, and what is taken before a set is taken before all that follow it
pub record Orders (prefers : Preference) : Type 0 where
  pub total : (a b : ℕ → Bool) → prefers a b ≡ false → prefers b a ≡ true
  pub trans : (a b c : ℕ → Bool) → prefers a b ≡ true → prefers b c ≡ true → prefers a c ≡ true

-- the switches listed are the operable ones, by rising number
pub record Lists (op : ℕ → Type 0) (ls : List ℕ) : Type 0 where
  pub rising : Rising ls
  pub only : (l : ℕ) → Member l ls → op l
  pub all : (l : ℕ) → op l → Member l ls

-- what holds of either of two choices under its answer holds of the one taken
pub pick_either : (t : Bool) (P : Choice → Type 0) (x y : Choice) → (t ≡ true → P x) → (t ≡ false → P y) → P (first_if t x y)
unfolding first_if
pick_either true P x y p q = p refl
pick_either false P x y p q = q refl

-- ---- the sets that the recursion goes through

-- D' is like D but for the switches of the list
abbrev pub Like : (ℕ → Bool) → List ℕ → (ℕ → Bool) → Type 0
Like D ls D' = (l : ℕ) → ¬ Member l ls → D' l ≡ D l

like_put : (D D' : ℕ → Bool) (l : ℕ) (ls : List ℕ) (b : Bool) → D' l ≡ b → Like D (l ∷ ls) D' → Like (put D l b) ls D'
unfolding put Member
like_put D D' l ls b e like m h = go (eqb m l) refl
  where
    neither : eqb m l ≡ false → (m ≡ l) ⊎ Member m ls → ⊥
    neither t (inl p) = eqb-false m l t p
    neither t (inr p) = h p

    go : (t : Bool) → eqb m l ≡ t → D' m ≡ cond t b (D m)
    go true t = ap D' (eqb-true m l t) ∙ e
    go false t = like m (neither t)

like_cons : (D D' : ℕ → Bool) (l : ℕ) (ls : List ℕ) (b : Bool) → Like (put D l b) ls D' → Like D (l ∷ ls) D'
unfolding put Member
like_cons D D' l ls b like m h = like m (λ p. h (inr p)) ∙ rw (ne_eqb m l (λ e. h (inl e)))

-- a link is on a list or not
listed_or_not : (l : ℕ) (ls : List ℕ) → Member l ls ⊎ (¬ Member l ls)
unfolding Member
listed_or_not l [] = inr (λ m. m)
listed_or_not l (x ∷ xs) = go (eqb l x) refl (listed_or_not l xs)
  where
    neither : eqb l x ≡ false → (¬ Member l xs) → (l ≡ x) ⊎ Member l xs → ⊥
    neither e n (inl p) = eqb-false l x e p
    neither e n (inr m) = n m

    go : (t : Bool) → eqb l x ≡ t → Member l xs ⊎ (¬ Member l xs) → ((l ≡ x) ⊎ Member l xs) ⊎ (¬ ((l ≡ x) ⊎ Member l xs))
    go true e d = inl (inl (eqb-true l x e))
    go false e (inl m) = inl (inr m)
    go false e (inr n) = inr (neither e n)

-- the sets of operable switches are those like the empty one but for the list
module _ (op : ℕ → Type 0) (ls : List ℕ) (lists : Lists op ls) (D : ℕ → Bool) where
  pub like_operable : ((l : ℕ) → D l ≡ true → op l) → Like (λ _. false) ls D
  like_operable ops l h = go (D l) refl
    where
      go : (t : Bool) → D l ≡ t → t ≡ false
      go true e = absurd (h (lists.all l (ops l e)))
      go false e = refl

  pub operable_like : Like (λ _. false) ls D → (l : ℕ) → D l ≡ true → op l
  operable_like like l d = go (listed_or_not l ls)
    where
      go : Member l ls ⊎ (¬ Member l ls) → op l
      go (inl m) = lists.only l m
      go (inr n) = absurd (false≢true (sym (like l n) ∙ d))

-- of two sets that differ at the switch l, and are alike below it, the one that has it comes before
before_at : (D D' a : ℕ → Bool) (l : ℕ) (ls : List ℕ) → ((k : ℕ) → Member k ls → l < k)
    → Like (put D l true) ls a → Like (put D l false) ls D' → Before a D'
unfolding put
before_at D D' a l ls above p q = record {
  at = l;
  has = p l (outside l (omega arith)) ∙ rw (eq-eqb l l refl);
  lacks = q l (outside l (omega arith)) ∙ rw (eq-eqb l l refl);
  alike = λ m h. p m (outside m (omega arith))
      ∙ rw (ne_eqb m l (λ e. omega arith)) (sym (q m (outside m (omega arith)) ∙ rw (ne_eqb m l (λ e. omega arith))));
}
  where
    outside : (m : ℕ) → m ≤ l → ¬ Member m ls
    outside m h k = omega (arith, above m k)

-- no two sets come before each other
before_once : (D D' : ℕ → Bool) → Before D D' → ¬ Before D' D
before_once D D' x y = go (ltb x.at y.at) refl (ltb y.at x.at) refl
  where
    go : (t : Bool) → ltb x.at y.at ≡ t → (u : Bool) → ltb y.at x.at ≡ u → ⊥
    go true t _ _ = false≢true (sym x.lacks ∙ y.alike x.at (ltb-true x.at y.at t) ∙ x.has)
    go false t true u = false≢true (sym y.lacks ∙ x.alike y.at (ltb-true y.at x.at u) ∙ y.has)
    go false t false u = false≢true (sym x.lacks ∙ subst (λ (m : ℕ). D' m ≡ true) meet y.has)
      where
        meet : y.at ≡ x.at
        meet = omega (arith, ltb-false x.at y.at t, ltb-false y.at x.at u)

-- two sets that both come first are the same
pub first_same : (D D' : ℕ → Bool) → (D ≡ D') ⊎ Before D D' → (D' ≡ D) ⊎ Before D' D → D ≡ D'
first_same D D' (inl e) _ = e
first_same D D' (inr _) (inl e) = sym e
first_same D D' (inr f) (inr g) = absurd (before_once D D' f g)

-- ---- what holds of the set that is chosen, if one is, and of one that is chosen

abbrev pub IfChosen : ((ℕ → Bool) → Type 0) → Choice → Type 0
IfChosen P nothing = Unit {0}
IfChosen P (chosen D) = P D

if_map : (P Q : (ℕ → Bool) → Type 0) (c : Choice) → ((D : ℕ → Bool) → P D → Q D) → IfChosen P c → IfChosen Q c
if_map P Q nothing f p = p
if_map P Q (chosen D) f p = f D p

-- one is chosen, and D' is not better
abbrev pub Reaches : Preference → (ℕ → Bool) → Choice → Type 0
Reaches prefers D' nothing = ⊥
Reaches prefers D' (chosen D) = prefers D D' ≡ true

module _ (prefers : Preference) (orders : Orders prefers) where
  prefers_self : (a : ℕ → Bool) → prefers a a ≡ true
  prefers_self a = go (prefers a a) refl
    where
      go : (t : Bool) → prefers a a ≡ t → prefers a a ≡ true
      go true t = t
      go false t = orders.total a a t

  better_left : (D' : ℕ → Bool) (x y : Choice) → Reaches prefers D' x → Reaches prefers D' (better prefers x y)
  unfolding better
  better_left D' nothing y p = absurd p
  better_left D' (chosen a) nothing p = p
  better_left D' (chosen a) (chosen b) p =
      pick_either _ (Reaches prefers D') _ _ (λ e. p) (λ e. orders.trans b a D' (orders.total a b e) p)

  better_right : (D' : ℕ → Bool) (x y : Choice) → Reaches prefers D' y → Reaches prefers D' (better prefers x y)
  unfolding better
  better_right D' nothing y p = p
  better_right D' (chosen a) nothing p = absurd p
  better_right D' (chosen a) (chosen b) p =
      pick_either _ (Reaches prefers D') _ _ (λ e. orders.trans a b D' e p) (λ e. p)

  better_either : (P : (ℕ → Bool) → Type 0) (x y : Choice) → IfChosen P x → IfChosen P y → IfChosen P (better prefers x y)
  unfolding better
  better_either P nothing y p q = q
  better_either P (chosen a) nothing p q = p
  better_either P (chosen a) (chosen b) p q = pick_either _ (IfChosen P) _ _ (λ _. p) (λ _. q)

  module _ (works : (ℕ → Bool) → Bool) where
    -- what is found is of the right form, and works
    pub record Fits (D : ℕ → Bool) (ls : List ℕ) (D₀ : ℕ → Bool) : Type 0 where
      pub like : Like D ls D₀
      pub passes : works D₀ ≡ true

    pub best_fits : (D : ℕ → Bool) (ls : List ℕ) → IfChosen (Fits D ls) (best prefers works D ls)
    unfolding best
    best_fits D [] = pick_either _ (IfChosen (Fits D [])) _ _ (λ e. record { like = λ l h. refl; passes = e }) (λ _. tt)
    best_fits D (l ∷ ls) = better_either (Fits D (l ∷ ls)) _ _ (go true (best_fits (put D l true) ls)) (go false (best_fits (put D l false) ls))
      where
        go : (b : Bool) → IfChosen (Fits (put D l b) ls) (best prefers works (put D l b) ls)
            → IfChosen (Fits D (l ∷ ls)) (best prefers works (put D l b) ls)
        go b ih =
            if_map (Fits (put D l b) ls) (Fits D (l ∷ ls)) (best prefers works (put D l b) ls)
            (λ E r. record { like = like_cons D E l ls b r.like; passes = r.passes }) ih

    -- where a set works, one is chosen, and that set is not better
    pub best_reaches : (D : ℕ → Bool) (ls : List ℕ) (D' : ℕ → Bool) → Like D ls D' → works D' ≡ true
        → Reaches prefers D' (best prefers works D ls)
    unfolding best first_if Member
    best_reaches D [] D' like w =
        subst (λ E. Reaches prefers D' (first_if (works E) (chosen E) nothing)) (fun_ext (λ l. like l (λ p. p)))
        (rw (w, first_if) (prefers_self D'))
    best_reaches D (l ∷ ls) D' like w = go (D' l) refl (λ b. best_reaches (put D l b) ls D')
      where
        go : (t : Bool) → D' l ≡ t
            → ((b : Bool) → Like (put D l b) ls D' → works D' ≡ true → Reaches prefers D' (best prefers works (put D l b) ls))
            → Reaches prefers D' (better prefers (best prefers works (put D l true) ls) (best prefers works (put D l false) ls))
        go true e ih = better_left D' _ _ (ih true (like_put D D' l ls true e like) w)
        go false e ih = better_right D' _ _ (ih false (like_put D D' l ls false e like) w)

    -- which of several equal sets comes first: where D' is as good as D, D is D' or comes before it
    abbrev pub First : (ℕ → Bool) → (ℕ → Bool) → Type 0
    First D' D = prefers D' D ≡ true → (D ≡ D') ⊎ Before D D'

    first_left : (D' : ℕ → Bool) (x y : Choice) → Reaches prefers D' x → IfChosen (First D') x → IfChosen (First D') (better prefers x y)
    unfolding better
    first_left D' nothing y p q = absurd p
    first_left D' (chosen a) nothing p q = q
    first_left D' (chosen a) (chosen b) p q =
        pick_either _ (IfChosen (First D')) _ _ (λ _. q) (λ e h. absurd (false≢true (sym e ∙ orders.trans a D' b p h)))

    pub best_first : (D : ℕ → Bool) (ls : List ℕ) (D' : ℕ → Bool) → Rising ls → Like D ls D' → works D' ≡ true
        → IfChosen (First D') (best prefers works D ls)
    unfolding best Member Rising
    best_first D [] D' r like w =
        pick_either _ (IfChosen (First D')) _ _ (λ _ h. inl (fun_ext (λ l. sym (like l (λ p. p))))) (λ _. tt)
    best_first D (l ∷ ls) D' r like w = go (D' l) refl (λ b. best_first (put D l b) ls D' r.1)
      where
        go : (t : Bool) → D' l ≡ t
            → ((b : Bool) → Like (put D l b) ls D' → works D' ≡ true → IfChosen (First D') (best prefers works (put D l b) ls))
            → IfChosen (First D') (better prefers (best prefers works (put D l true) ls) (best prefers works (put D l false) ls))
        go true e ih =
            first_left D' _ _ (best_reaches (put D l true) ls D' (like_put D D' l ls true e like) w) (ih true (like_put D D' l ls true e like) w)
        go false e ih =
            better_either (First D') (best prefers works (put D l true) ls) (best prefers works (put D l false) ls)
            (if_map (Fits (put D l true) ls) (First D') (best prefers works (put D l true) ls)
            (λ a f h. inr (before_at D D' a l ls r.0 f.like (like_put D D' l ls false e like))) (best_fits (put D l true) ls))
            (ih false (like_put D D' l ls false e like) w)

-- ---- by the least cost

module _ (cost : (ℕ → Bool) → ℕ) where
  pub no_dearer_in : (a b : ℕ → Bool) → cost a ≤ cost b → no_dearer cost a b ≡ true
  unfolding no_dearer
  no_dearer_in a b h = le-leb (cost a) (cost b) h

  pub no_dearer_out : (a b : ℕ → Bool) → no_dearer cost a b ≡ true → cost a ≤ cost b
  unfolding no_dearer
  no_dearer_out a b h = leb-true (cost a) (cost b) h

  pub dearer_out : (a b : ℕ → Bool) → no_dearer cost a b ≡ false → cost b < cost a
  unfolding no_dearer
  dearer_out a b h = leb-false (cost a) (cost b) h

  pub no_dearer_orders : Orders (no_dearer cost)
  no_dearer_orders = record {
    total = λ a b h. no_dearer_in b a (omega (arith, dearer_out a b h));
    trans = λ a b c h k. no_dearer_in a c (omega (arith, no_dearer_out a b h, no_dearer_out b c k));
  }

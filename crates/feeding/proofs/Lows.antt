-- Laws of lowest and highest numbers, least values, picked numbers and tables, by induction on the bound.
-- Assumes nothing.
use Prim.Native.Nat.{ℕ, zero, suc, ◌+◌, ◌-◌, ◌*◌, ◌≤◌, ◌<◌, min}
use mathlib.Core.Path.{◌≡◌, refl, sym, ap, ap₂, ◌∙◌, subst}
use mathlib.Core.Logic.{◌⊎◌, inl, inr}
use mathlib.Core.Bool.{Bool, true, false, ◌||◌, or-true, or-false, true≢false}
use mathlib.Core.List.{List, [], ◌∷◌, ◌++◌}
use lib.Dec.{eqb, ltb}
use lib.ListN.{length, length-append, get_or-append}
use lib.Seq.{ext_get_or, get_or_at}
use borrow.Author.Tests.{eqb-true, eqb-false, ltb-true, ltb-false, lt-ltb, le-ltb}
use native.Mathlib.Nat.{sub-zero}
use native.Mathlib.Numerals.{add-one}
use native.Mathlib.Omega.{arith}
use Rattle.std.specs.Prelude.{Some, None}
use Rattle.feeding.specs.Below.{gate, sum_to, any_to, least_to, lowest_from, lowest, some_below, highest, those, tabulate, Member, Rising, Lowest}
use Rattle.feeding.specs.Networks.{at}
use Rattle.feeding.proofs.Below.{any_to_in, any_to_out}

-- ---- tables

pub length_tabulate : (n : ℕ) (f : ℕ → ℕ) → length (tabulate n f) ≡ n
unfolding tabulate
length_tabulate zero f = refl
length_tabulate (suc n) f = length-append (tabulate n f) (f n ∷ []) ∙ omega (arith, length_tabulate n f)

pub at_tabulate : (n : ℕ) (f : ℕ → ℕ) (i : ℕ) → i < n → at (tabulate n f) i ≡ f i
unfolding tabulate
at_tabulate zero f i h = absurd (omega arith)
at_tabulate (suc n) f i h = go (at_tabulate n f i) (ltb i n) refl
  where
    go : (i < n → at (tabulate n f) i ≡ f i) → (t : Bool) → ltb i n ≡ t → at (tabulate n f ++ (f n ∷ [])) i ≡ f i
    go ih true t = get_or-append (tabulate n f) (f n ∷ []) 0 i (omega (arith, length_tabulate n f, ltb-true i n t)) ∙ ih (ltb-true i n t)
    go ih false t =
        let e : i ≡ n = omega (arith, ltb-false i n t) in
        get_or_at (tabulate n f) (f n) [] 0 i (omega (arith, length_tabulate n f)) ∙ ap f (sym e)

pub tabulate_step : (n : ℕ) (f : ℕ → ℕ) → tabulate (n + 1) f ≡ tabulate n f ++ (f n ∷ [])
unfolding tabulate
tabulate_step n f = rw add-one

-- a list is the table of its entries
pub table_ext : (w : ℕ) (f : ℕ → ℕ) (xs : List ℕ) → length xs ≡ w → ((x : ℕ) → x < w → at xs x ≡ f x) → xs ≡ tabulate w f
table_ext w f xs long h =
    ext_get_or 0 xs (tabulate w f) (long ∙ sym (length_tabulate w f))
    (λ x k. let b : x < w = omega arith in h x b ∙ sym (at_tabulate w f x b))

-- ---- the lowest

pub lowest_here : (n i : ℕ) (f : ℕ → Bool) → f i ≡ true → lowest_from (suc n) i f ≡ i
unfolding lowest_from
lowest_here n i f h = rw (h, lowest_from)

pub lowest_next : (n i : ℕ) (f : ℕ → Bool) → f i ≡ false → lowest_from (suc n) i f ≡ lowest_from n (suc i) f
unfolding lowest_from
lowest_next n i f h = rw (h, lowest_from)

pub lowest_none : (i : ℕ) (f : ℕ → Bool) → lowest_from zero i f ≡ i
unfolding lowest_from
lowest_none i f = refl

pub lowest_from_ext : (n i : ℕ) (f g : ℕ → Bool) → ((l : ℕ) → l < i + n → f l ≡ g l) → lowest_from n i f ≡ lowest_from n i g
lowest_from_ext zero i f g h = lowest_none i f ∙ sym (lowest_none i g)
lowest_from_ext (suc n) i f g h = go (lowest_from_ext n (suc i) f g (λ l k. h l (omega arith))) (f i) refl
  where
    go : lowest_from n (suc i) f ≡ lowest_from n (suc i) g → (t : Bool) → f i ≡ t → lowest_from (suc n) i f ≡ lowest_from (suc n) i g
    go ih true t = lowest_here n i f t ∙ sym (lowest_here n i g (sym (h i (omega arith)) ∙ t))
    go ih false t = lowest_next n i f t ∙ ih ∙ sym (lowest_next n i g (sym (h i (omega arith)) ∙ t))

pub lowest_ext : (n : ℕ) (f g : ℕ → Bool) → ((l : ℕ) → l < n → f l ≡ g l) → lowest n f ≡ lowest n g
unfolding lowest
lowest_ext n f g h = lowest_from_ext n zero f g (λ l k. h l (omega arith))

-- for a loop on i, below n
pub lowest_start : (n : ℕ) (f : ℕ → Bool) → lowest n f ≡ lowest_from (n - 0) 0 f
unfolding lowest
lowest_start n f = rw sub-zero

pub lowest_stop : (n i : ℕ) (f : ℕ → Bool) → i < n → f i ≡ true → lowest_from (n - i) i f ≡ i
lowest_stop n i f k h = let e : n - i ≡ suc (n - (i + 1)) = omega arith in rw e (lowest_here (n - (i + 1)) i f h)

pub lowest_step : (n i : ℕ) (f : ℕ → Bool) → i < n → f i ≡ false → lowest_from (n - i) i f ≡ lowest_from (n - (i + 1)) (i + 1) f
lowest_step n i f k h =
    let e : n - i ≡ suc (n - (i + 1)) = omega arith in
    ap (λ d. lowest_from d i f) e ∙ lowest_next (n - (i + 1)) i f h ∙ ap (λ j. lowest_from (n - (i + 1)) j f) (sym (add-one i))

pub lowest_end : (n i : ℕ) (f : ℕ → Bool) → n ≤ i → i ≤ n → lowest_from (n - i) i f ≡ n
lowest_end n i f h k = let e : n - i ≡ zero = omega arith in ap (λ d. lowest_from d i f) e ∙ lowest_none i f ∙ omega arith

-- a search's number as an option
pub some_found : (n x : ℕ) → x < n → some_below n x ≡ Some x
unfolding some_below
some_found n x h = rw (lt-ltb x n h, some_below)

pub none_found : (n x : ℕ) → n ≤ x → some_below n x ≡ None
unfolding some_below
none_found n x h = rw (le-ltb x n h, some_below)

-- what `lowest_from` says
pub record From (n i : ℕ) (f : ℕ → Bool) (x : ℕ) : Type 0 where
  pub at_least : i ≤ x
  pub at_most : x ≤ i + n
  pub has : x < i + n → f x ≡ true
  pub none : (y : ℕ) → i ≤ y → y < x → f y ≡ false

pub lowest_from_is : (n i : ℕ) (f : ℕ → Bool) → From n i f (lowest_from n i f)
lowest_from_is zero i f =
    rw (lowest_none i f)
    (record { at_least = omega arith; at_most = omega arith; has = λ h. absurd (omega arith); none = λ y h k. absurd (omega arith) })
lowest_from_is (suc n) i f = go (lowest_from_is n (suc i) f) (f i) refl
  where
    go : From n (suc i) f (lowest_from n (suc i) f) → (t : Bool) → f i ≡ t → From (suc n) i f (lowest_from (suc n) i f)
    go ih true t =
        rw (lowest_here n i f t)
        (record { at_least = omega arith; at_most = omega arith; has = λ h. t; none = λ y h k. absurd (omega arith) })
    go ih false t = rw (lowest_next n i f t) (record {
      at_least = omega (arith, ih.at_least);
      at_most = omega (arith, ih.at_most);
      has = λ h. ih.has (omega arith);
      none = λ y h k. next y h k (eqb y i) refl;
    })
      where
        next : (y : ℕ) → i ≤ y → y < lowest_from n (suc i) f → (u : Bool) → eqb y i ≡ u → f y ≡ false
        next y h k true u = ap f (eqb-true y i u) ∙ t
        next y h k false u = ih.none y (omega (arith, eqb-false y i u)) k

pub lowest_is : (n : ℕ) (f : ℕ → Bool) → Lowest n (λ x. f x ≡ true) (lowest n f)
unfolding lowest
lowest_is n f = record {
  at_most = omega (arith, r.at_most);
  has = λ h. r.has (omega arith);
  none_lower = λ y h e. true≢false (sym e ∙ r.none y (omega arith) h);
}
  where
    r : From n zero f (lowest_from n zero f)
    r = lowest_from_is n zero f

pub lowest_unique : (n : ℕ) (P : ℕ → Type 0) (x y : ℕ) → Lowest n P x → Lowest n P y → x ≡ y
lowest_unique n P x y p q = go (ltb x y) refl (ltb y x) refl
  where
    go : (t : Bool) → ltb x y ≡ t → (u : Bool) → ltb y x ≡ u → x ≡ y
    go true t u h = let k : x < y = ltb-true x y t in absurd (q.none_lower x k (p.has (omega (arith, q.at_most))))
    go false t true u = let k : y < x = ltb-true y x u in absurd (p.none_lower y k (q.has (omega (arith, p.at_most))))
    go false t false u = omega (arith, ltb-false x y t, ltb-false y x u)

pub lowest_map : (n : ℕ) (P Q : ℕ → Type 0) (x : ℕ) → ((e : ℕ) → e < n → P e → Q e) → ((e : ℕ) → e < n → Q e → P e)
    → Lowest n P x → Lowest n Q x
lowest_map n P Q x to from p = record {
  at_most = p.at_most;
  has = λ h. to x h (p.has h);
  none_lower = λ y h q. p.none_lower y h (from y (omega (arith, p.at_most)) q);
}

pub lowest_all : (n : ℕ) (f : ℕ → Bool) → ltb (lowest n f) n ≡ false → (l : ℕ) → l < n → f l ≡ false
lowest_all n f h l k = go (f l) refl
  where
    go : (t : Bool) → f l ≡ t → f l ≡ false
    go true t = absurd ((lowest_is n f).none_lower l (omega (arith, ltb-false (lowest n f) n h)) t)
    go false t = t

pub lowest_any : (n : ℕ) (f : ℕ → Bool) → ltb (lowest n f) n ≡ any_to n f
lowest_any n f = go (ltb (lowest n f) n) refl (any_to n f) refl
  where
    go : (t : Bool) → ltb (lowest n f) n ≡ t → (u : Bool) → any_to n f ≡ u → t ≡ u
    go true t true u = refl
    go true t false u = let k : lowest n f < n = ltb-true (lowest n f) n t in sym (any_to_in n f (lowest n f) k ((lowest_is n f).has k)) ∙ u
    go false t true u = let r = any_to_out n f u in sym (lowest_all n f t r.0 r.1) ∙ r.2
    go false t false u = refl

-- ---- a lowest number is the bound exactly where no number below it has the property

pub none_below : (n : ℕ) (P : ℕ → Type 0) (x : ℕ) → Lowest n P x → ltb x n ≡ false → (e : ℕ) → e < n → ¬ P e
none_below n P x low h e k = low.none_lower e (omega (arith, ltb-false x n h))

pub none_place : (n : ℕ) (P : ℕ → Type 0) (x : ℕ) → Lowest n P x → ((e : ℕ) → e < n → ¬ P e) → ltb x n ≡ false
none_place n P x low none = go (ltb x n) refl
  where
    go : (t : Bool) → ltb x n ≡ t → t ≡ false
    go true t = absurd (none x (ltb-true x n t) (low.has (ltb-true x n t)))
    go false t = refl

-- ---- the highest

pub highest_none : (n z : ℕ) (f : ℕ → Bool) → f n ≡ false → highest (suc n) z f ≡ highest n z f
unfolding highest
highest_none n z f h = rw (h, highest)

pub highest_some : (n z : ℕ) (f : ℕ → Bool) → f n ≡ true → highest (suc n) z f ≡ n
unfolding highest
highest_some n z f h = rw (h, highest)

pub highest_none' : (n z : ℕ) (f : ℕ → Bool) → f n ≡ false → highest (n + 1) z f ≡ highest n z f
highest_none' n z f h = rw add-one (highest_none n z f h)

pub highest_some' : (n z : ℕ) (f : ℕ → Bool) → f n ≡ true → highest (n + 1) z f ≡ n
highest_some' n z f h = rw add-one (highest_some n z f h)

pub highest_zero : (z : ℕ) (f : ℕ → Bool) → highest zero z f ≡ z
unfolding highest
highest_zero z f = refl

pub highest_lt : (n z : ℕ) (f : ℕ → Bool) → n ≤ z → ltb (highest n z f) z ≡ any_to n f
unfolding any_to
highest_lt zero z f h = rw (highest_zero z f) (le-ltb z z (omega arith))
highest_lt (suc n) z f h = go (highest_lt n z f (omega arith)) (f n) refl
  where
    go : ltb (highest n z f) z ≡ any_to n f → (t : Bool) → f n ≡ t → ltb (highest (suc n) z f) z ≡ (any_to n f || f n)
    go ih true t = rw (highest_some n z f t, t, or-true) (lt-ltb n z h)
    go ih false t = rw (highest_none n z f t, t, or-false) ih

pub highest_or : (n z : ℕ) (f : ℕ → Bool) → (highest n z f ≡ z) ⊎ (highest n z f < n)
highest_or zero z f = inl (highest_zero z f)
highest_or (suc n) z f = go (highest_or n z f) (f n) refl
  where
    go : (highest n z f ≡ z) ⊎ (highest n z f < n) → (t : Bool) → f n ≡ t → (highest (suc n) z f ≡ z) ⊎ (highest (suc n) z f < suc n)
    go ih true t = inr (omega (arith, highest_some n z f t))
    go (inl e) false t = inl (highest_none n z f t ∙ e)
    go (inr e) false t = inr (omega (arith, highest_none n z f t))

pub highest_is : (n z : ℕ) (f : ℕ → Bool) → n ≤ z → highest n z f < n → f (highest n z f) ≡ true
highest_is zero z f h k = absurd (omega arith)
highest_is (suc n) z f h k = go (highest_is n z f (omega arith)) (highest_or n z f) (f n) refl
  where
    go : (highest n z f < n → f (highest n z f) ≡ true) → (highest n z f ≡ z) ⊎ (highest n z f < n) → (t : Bool) → f n ≡ t
        → f (highest (suc n) z f) ≡ true
    go ih r true t = rw (highest_some n z f t) t
    go ih (inl e) false t = absurd (omega (arith, highest_none n z f t))
    go ih (inr e) false t = rw (highest_none n z f t) (ih e)

-- a highest number below z passes
pub highest_passes : (n z : ℕ) (f : ℕ → Bool) → n ≤ z → highest n z f < z → (highest n z f < n) × (f (highest n z f) ≡ true)
highest_passes n z f h k = go (highest_or n z f)
  where
    go : (highest n z f ≡ z) ⊎ (highest n z f < n) → (highest n z f < n) × (f (highest n z f) ≡ true)
    go (inl e) = absurd (omega arith)
    go (inr b) = (b, highest_is n z f h b)

-- none above it passes
pub highest_above : (n z : ℕ) (f : ℕ → Bool) (l : ℕ) → l < n → highest n z f < l → f l ≡ false
highest_above zero z f l h k = absurd (omega arith)
highest_above (suc n) z f l h k = go (highest_above n z f l) (f n) refl (eqb l n) refl
  where
    go : (l < n → highest n z f < l → f l ≡ false) → (t : Bool) → f n ≡ t → (u : Bool) → eqb l n ≡ u → f l ≡ false
    go ih true t u e = absurd (omega (arith, highest_some n z f t))
    go ih false t true e = ap f (eqb-true l n e) ∙ t
    go ih false t false e = ih (omega (arith, eqb-false l n e)) (omega (arith, highest_none n z f t))

pub highest_least : (n z : ℕ) (f : ℕ → Bool) (y : ℕ) → y < n → f y ≡ true → y ≤ highest n z f
highest_least n z f y k e = go (ltb (highest n z f) y) refl
  where
    go : (t : Bool) → ltb (highest n z f) y ≡ t → y ≤ highest n z f
    go true t = absurd (true≢false (sym e ∙ highest_above n z f y k (ltb-true _ y t)))
    go false t = ltb-false (highest n z f) y t

-- ---- the least value

pub least_to_no : (z : ℕ) (f : ℕ → ℕ) → least_to 0 z f ≡ z
unfolding least_to
least_to_no z f = refl

pub least_to_more : (z : ℕ) (f : ℕ → ℕ) (n : ℕ) → least_to (suc n) z f ≡ min (least_to n z f) (f n)
unfolding least_to
least_to_more z f n = refl

pub least_to_step : (n z : ℕ) (f : ℕ → ℕ) → least_to (n + 1) z f ≡ min (least_to n z f) (f n)
unfolding least_to
least_to_step n z f = rw add-one

pub least_to_ext : (n z : ℕ) (f g : ℕ → ℕ) → ((l : ℕ) → l < n → f l ≡ g l) → least_to n z f ≡ least_to n z g
unfolding least_to
least_to_ext zero z f g h = refl
least_to_ext (suc n) z f g h = ap₂ min (least_to_ext n z f g (λ l k. h l (omega arith))) (h n (omega arith))

-- the least value is at most each of them, and is one of them
pub least_to_top : (n z : ℕ) (f : ℕ → ℕ) → least_to n z f ≤ z
unfolding least_to
least_to_top zero z f = omega arith
least_to_top (suc n) z f = omega (arith, least_to_top n z f)

pub least_to_le : (n z : ℕ) (f : ℕ → ℕ) (l : ℕ) → l < n → least_to n z f ≤ f l
unfolding least_to
least_to_le zero z f l k = absurd (omega arith)
least_to_le (suc n) z f l k = go (least_to_le n z f l) (ltb l n) refl
  where
    go : (l < n → least_to n z f ≤ f l) → (t : Bool) → ltb l n ≡ t → min (least_to n z f) (f n) ≤ f l
    go ih true t = omega (arith, ih (ltb-true l n t))
    go ih false t = let e : l ≡ n = omega (arith, ltb-false l n t) in omega (arith, ap f e)

pub least_to_or : (n z : ℕ) (f : ℕ → ℕ) → (least_to n z f ≡ z) ⊎ ((l : ℕ) × (l < n) × (least_to n z f ≡ f l))
unfolding least_to
least_to_or zero z f = inl refl
least_to_or (suc n) z f = go (least_to_or n z f) (ltb (f n) (least_to n z f)) refl
  where
    go : (least_to n z f ≡ z) ⊎ ((l : ℕ) × (l < n) × (least_to n z f ≡ f l)) → (t : Bool) → ltb (f n) (least_to n z f) ≡ t
        → (min (least_to n z f) (f n) ≡ z) ⊎ ((l : ℕ) × (l < suc n) × (min (least_to n z f) (f n) ≡ f l))
    go ih true t = inr (n, omega arith, omega (arith, ltb-true (f n) (least_to n z f) t))
    go (inl e) false t = inl (omega (arith, ltb-false (f n) (least_to n z f) t))
    go (inr r) false t = inr (r.0, omega (arith, r.1), omega (arith, r.2, ltb-false (f n) (least_to n z f) t))

pub least_to_gap : (z : ℕ) (f : ℕ → ℕ) (i j : ℕ) → i ≤ j → ((k : ℕ) → i ≤ k → k < j → z ≤ f k) → least_to j z f ≡ least_to i z f
least_to_gap z f i zero h w = let q : 0 ≡ i = omega arith in ap (λ n. least_to n z f) q
least_to_gap z f i (suc j) h w = go (λ k. least_to_gap z f i j k (λ l a b. w l a (omega arith))) (eqb (suc j) i) refl
  where
    go : (i ≤ j → least_to j z f ≡ least_to i z f) → (t : Bool) → eqb (suc j) i ≡ t → least_to (suc j) z f ≡ least_to i z f
    go ih true t = ap (λ n. least_to n z f) (eqb-true (suc j) i t)
    go ih false t =
        let k : i ≤ j = omega (arith, eqb-false (suc j) i t) in
        omega (arith, least_to_more z f j, ih k, w j k (omega arith), least_to_top j z f)

pub least_to_pairs : (z : ℕ) (f h : ℕ → ℕ) (n : ℕ) → ((l : ℕ) → l < n → min (f (2 * l)) (f (2 * l + 1)) ≡ h l) → least_to (2 * n) z f ≡ least_to n z h
least_to_pairs z f h zero p = least_to_no z f ∙ sym (least_to_no z h)
least_to_pairs z f h (suc n) p =
    let two : 2 * suc n ≡ suc (suc (2 * n)) = omega arith in
    let one : suc (2 * n) ≡ 2 * n + 1 = omega arith in
    omega (
      arith,
      ap (λ m. least_to m z f) two,
      least_to_more z f (suc (2 * n)),
      least_to_more z f (2 * n),
      ap f one,
      least_to_more z h n,
      least_to_pairs z f h n (λ l k. p l (omega arith)),
      p n (omega arith),
    )

-- ---- those that pass

some : (n : ℕ) (f : ℕ → Bool) → f n ≡ true → those (suc n) f ≡ those n f ++ (n ∷ [])
unfolding those
some n f h = rw (h, those)

none : (n : ℕ) (f : ℕ → Bool) → f n ≡ false → those (suc n) f ≡ those n f
unfolding those
none n f h = rw (h, those)

pub those_some : (n : ℕ) (f : ℕ → Bool) → f n ≡ true → those (n + 1) f ≡ those n f ++ (n ∷ [])
those_some n f h = rw add-one (some n f h)

pub those_none : (n : ℕ) (f : ℕ → Bool) → f n ≡ false → those (n + 1) f ≡ those n f
those_none n f h = rw add-one (none n f h)

pub length_those_step : (n : ℕ) (f : ℕ → Bool) → length (those (n + 1) f) ≡ length (those n f) + gate (f n) 1
length_those_step n f = go (f n) refl
  where
    go : (t : Bool) → f n ≡ t → length (those (n + 1) f) ≡ length (those n f) + gate t 1
    go true t = ap length (those_some n f t) ∙ length-append (those n f) (n ∷ [])
    go false t = ap length (those_none n f t) ∙ omega arith

pub length_those : (n : ℕ) (f : ℕ → Bool) → length (those n f) ≡ sum_to n (λ l. gate (f l) 1)
unfolding those sum_to
length_those zero f = refl
length_those (suc n) f = ap (λ m. length (those m f)) (sym (add-one n)) ∙ length_those_step n f ∙ ap (λ x. x + gate (f n) 1) (length_those n f)

-- an entry behind the others
member_snoc : (xs : List ℕ) (x l : ℕ) → Member l xs ⊎ (l ≡ x) → Member l (xs ++ (x ∷ []))
unfolding Member
member_snoc [] x l (inl h) = absurd h
member_snoc [] x l (inr e) = inl e
member_snoc (y ∷ xs) x l (inl (inl e)) = inl e
member_snoc (y ∷ xs) x l (inl (inr h)) = inr (member_snoc xs x l (inl h))
member_snoc (y ∷ xs) x l (inr e) = inr (member_snoc xs x l (inr e))

snoc_member : (xs : List ℕ) (x l : ℕ) → Member l (xs ++ (x ∷ [])) → Member l xs ⊎ (l ≡ x)
unfolding Member
snoc_member [] x l (inl e) = inr e
snoc_member [] x l (inr h) = absurd h
snoc_member (y ∷ xs) x l (inl e) = inl (inl e)
snoc_member (y ∷ xs) x l (inr h) = go (snoc_member xs x l h)
  where
    go : Member l xs ⊎ (l ≡ x) → Member l (y ∷ xs) ⊎ (l ≡ x)
    go (inl m) = inl (inr m)
    go (inr e) = inr e

rising_snoc : (xs : List ℕ) (x : ℕ) → Rising xs → ((l : ℕ) → Member l xs → l < x) → Rising (xs ++ (x ∷ []))
unfolding Member Rising
rising_snoc [] x r h = (λ l m. absurd m, tt)
rising_snoc (y ∷ xs) x r h = (λ l m. go l (snoc_member xs x l m), rising_snoc xs x r.1 (λ l m. h l (inr m)))
  where
    go : (l : ℕ) → Member l xs ⊎ (l ≡ x) → y < l
    go l (inl m) = r.0 l m
    go l (inr e) = rw e (h y (inl refl))

pub those_in : (n : ℕ) (f : ℕ → Bool) (l : ℕ) → l < n → f l ≡ true → Member l (those n f)
those_in zero f l k h = absurd (omega arith)
those_in (suc n) f l k h = go (λ b. those_in n f l b h) (f n) refl (eqb l n) refl
  where
    go : (l < n → Member l (those n f)) → (t : Bool) → f n ≡ t → (u : Bool) → eqb l n ≡ u → Member l (those (suc n) f)
    go ih true t true u = rw (some n f t) (member_snoc (those n f) n l (inr (eqb-true l n u)))
    go ih true t false u = rw (some n f t) (member_snoc (those n f) n l (inl (ih (omega (arith, eqb-false l n u)))))
    go ih false t true u = absurd (true≢false (sym h ∙ ap f (eqb-true l n u) ∙ t))
    go ih false t false u = rw (none n f t) (ih (omega (arith, eqb-false l n u)))

pub those_out : (n : ℕ) (f : ℕ → Bool) (l : ℕ) → Member l (those n f) → (l < n) × (f l ≡ true)
unfolding those Member
those_out zero f l m = absurd m
those_out (suc n) f l m = go (those_out n f l) (f n) refl
  where
    up : (l < n) × (f l ≡ true) → (l < suc n) × (f l ≡ true)
    up r = (omega (arith, r.0), r.1)

    last : f n ≡ true → (Member l (those n f) → (l < n) × (f l ≡ true)) → Member l (those n f) ⊎ (l ≡ n) → (l < suc n) × (f l ≡ true)
    last t ih (inl k) = up (ih k)
    last t ih (inr e) = (omega arith, ap f e ∙ t)

    go : (Member l (those n f) → (l < n) × (f l ≡ true)) → (t : Bool) → f n ≡ t → (l < suc n) × (f l ≡ true)
    go ih true t = last t ih (snoc_member (those n f) n l (subst (Member l) (some n f t) m))
    go ih false t = up (ih (subst (Member l) (none n f t) m))

pub those_rising : (n : ℕ) (f : ℕ → Bool) → Rising (those n f)
unfolding those Rising
those_rising zero f = tt
those_rising (suc n) f = go (those_rising n f) (f n) refl
  where
    go : Rising (those n f) → (t : Bool) → f n ≡ t → Rising (those (suc n) f)
    go ih true t = subst Rising (sym (some n f t)) (rising_snoc (those n f) n ih (λ l m. (those_out n f l m).0))
    go ih false t = subst Rising (sym (none n f t)) ih

-- two rising lists with the same entries are equal
pub rising_unique : (xs ys : List ℕ) → Rising xs → Rising ys
    → ((l : ℕ) → Member l xs → Member l ys) → ((l : ℕ) → Member l ys → Member l xs) → xs ≡ ys
unfolding Member Rising
rising_unique [] [] r s to from = refl
rising_unique [] (y ∷ ys) r s to from = absurd (from y (inl refl))
rising_unique (x ∷ xs) [] r s to from = absurd (to x (inl refl))
rising_unique (x ∷ xs) (y ∷ ys) r s to from =
    ap₂ ◌∷◌ same (rising_unique xs ys r.1 s.1 (λ l m. tail_to l m (to l (inr m))) (λ l m. tail_from l m (from l (inr m))))
  where
    heads : (x ≡ y) ⊎ Member x ys → (y ≡ x) ⊎ Member y xs → x ≡ y
    heads (inl e) k = e
    heads (inr m) (inl e) = sym e
    heads (inr m) (inr k) = absurd (omega (arith, s.0 x m, r.0 y k))

    same : x ≡ y
    same = heads (to x (inl refl)) (from y (inl refl))

    tail_to : (l : ℕ) → Member l xs → (l ≡ y) ⊎ Member l ys → Member l ys
    tail_to l m (inl e) = absurd (omega (arith, same, r.0 l m))
    tail_to l m (inr k) = k

    tail_from : (l : ℕ) → Member l ys → (l ≡ x) ⊎ Member l xs → Member l xs
    tail_from l m (inl e) = absurd (omega (arith, same, s.0 l m))
    tail_from l m (inr k) = k

pub those_ext : (n : ℕ) (f g : ℕ → Bool) → ((l : ℕ) → l < n → f l ≡ g l) → those n f ≡ those n g
unfolding those
those_ext zero f g h = refl
those_ext (suc n) f g h =
    ap₂ (λ (b : Bool) (xs : List ℕ). elim b [ true ↦ xs ++ (n ∷ []) | false ↦ xs ]) (h n (omega arith)) (those_ext n f g (λ l k. h l (omega arith)))

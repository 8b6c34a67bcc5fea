-- What one turn of each loop does: a set's states by their last switch, and columns that grow by one link.
-- Assumes nothing.
use Prim.Native.Nat.{ℕ, zero, suc, ◌+◌, ◌-◌, ◌/◌, ◌%◌, ◌≤◌, ◌<◌}
use mathlib.Core.Path.{◌≡◌, refl, sym, ap, ap₂, ◌∙◌}
use mathlib.Core.Bool.{Bool, true, false, not}
use mathlib.Core.List.{List, [], ◌∷◌, ◌++◌}
use lib.Dec.{eqb, ltb}
use mir.Val.{bool_byte}
use lib.ListN.{length, set, replicate, length-set, length-append, length-replicate, get_or-replicate, get_or-append}
use lib.Seq.{get_or-set_same, get_or-set_other, get_or_at, set_comm}
use borrow.Author.Tests.{eqb-true, eqb-false, eq-eqb, ne_eqb, ltb-true, lt-ltb, le-ltb}
use native.Mathlib.Omega.{arith}
use Rattle.feeding.specs.Below.{gate, those}
use Rattle.feeding.specs.Networks.{at, is_in}
use Rattle.feeding.proofs.Below.{ltb_suc}
use Rattle.feeding.proofs.Lows.{length_tabulate, at_tabulate, table_ext, those_some, those_none, length_those_step}
use Rattle.network.specs.declared.Network.{Network}
use Rattle.feeding_sets.specs.Sets.{members}
use Rattle.plan_switches.specs.declared.Switches.{Switches}
use Rattle.plan_switches.specs.Switches.{column, switch_list, turned, with_set}

-- ---- the states that a set leaves: the last switch, and those before it

pub states_end : (link closed : ℕ → ℕ) (s : ℕ) (out whole : List ℕ) → with_set link closed 0 s out ≡ whole → out ≡ whole
unfolding with_set
states_end link closed s out whole h = h

-- a link that is none of the switches can be put before or after them
pub states_set : (link closed : ℕ → ℕ) (n s : ℕ) (states : List ℕ) (l v : ℕ) → ((j : ℕ) → j < n → link j ≡ l → ⊥)
    → with_set link closed n s (set states l v) ≡ set (with_set link closed n s states) l v
unfolding with_set
states_set link closed zero s states l v h = refl
states_set link closed (suc n) s states l v h =
    ap (λ (xs : List ℕ). set xs (link n) (turned (closed n) (s % 2))) (states_set link closed n (s / 2) states l v (λ j k. h j (omega arith)))
    ∙ set_comm (with_set link closed n (s / 2) states) l (link n) v (turned (closed n) (s % 2)) (λ e. h n (omega arith) (sym e))

pub states_step : (link closed : ℕ → ℕ) (i j rest v : ℕ) (out out' whole : List ℕ) → ((k : ℕ) → k < j → link k ≡ link j → ⊥)
    → with_set link closed i rest out ≡ whole → i ≡ j + 1 → v ≡ turned (closed j) (rest % 2) → out' ≡ set out (link j) v
    → with_set link closed j (rest / 2) out' ≡ whole
unfolding with_set
states_step link closed i j rest v out out' whole apart h e p q =
    let d : suc j ≡ i = omega arith in
    ap (with_set link closed j (rest / 2)) (q ∙ ap (set out (link j)) p)
    ∙ states_set link closed j (rest / 2) out (link j) (turned (closed j) (rest % 2)) apart
    ∙ ap (λ n. with_set link closed n rest out) d ∙ h

pub turned_open : (closed b : ℕ) → closed ≡ b → 0 ≡ turned closed b
unfolding turned
turned_open closed b h = rw (eq-eqb closed b h, turned)

pub turned_closed : (closed b : ℕ) → (closed ≡ b → ⊥) → 1 ≡ turned closed b
unfolding turned
turned_closed closed b h = rw (ne_eqb closed b h, turned)

pub turned_is : (closed b : ℕ) → bool_byte (not (eqb closed b)) ≡ turned closed b
unfolding turned
turned_is closed b = go (eqb closed b)
  where
    go : (t : Bool) → bool_byte (not t) ≡ elim t [ true ↦ 0 | false ↦ 1 ]
    go true = refl
    go false = refl

-- ---- columns

pub length_column : (ops : List ℕ) (f : ℕ → ℕ) → length (column ops f) ≡ 16
unfolding column
length_column ops f = length_tabulate 16 _

pub at_column : (ops : List ℕ) (f : ℕ → ℕ) (i : ℕ) → i < 16 → at (column ops f) i ≡ gate (ltb i (length ops)) (f (at ops i))
unfolding column
at_column ops f i k = at_tabulate 16 (λ i. gate (ltb i (length ops)) (f (at ops i))) i k

column_table : (ops : List ℕ) (f : ℕ → ℕ) (xs : List ℕ) → length xs ≡ 16
    → ((i : ℕ) → i < 16 → at xs i ≡ gate (ltb i (length ops)) (f (at ops i))) → xs ≡ column ops f
unfolding column
column_table ops f xs long h = table_ext 16 (λ i. gate (ltb i (length ops)) (f (at ops i))) xs long h

-- one more behind the others
column_more : (ops : List ℕ) (f : ℕ → ℕ) (l v : ℕ) → length ops < 16 → v ≡ f l → set (column ops f) (length ops) v ≡ column (ops ++ (l ∷ [])) f
column_more ops f l v k p =
    column_table (ops ++ (l ∷ [])) f (set (column ops f) (length ops) v) (length-set (column ops f) (length ops) v ∙ length_column ops f)
    (λ i h. go i h (eqb i (length ops)) refl)
  where
    long : length (ops ++ (l ∷ [])) ≡ suc (length ops)
    long = omega (arith, length-append ops (l ∷ []))

    at_end : at (ops ++ (l ∷ [])) (length ops) ≡ l
    at_end = get_or_at ops l [] 0 (length ops) refl

    before : (i : ℕ) (t : Bool) → ltb i (length ops) ≡ t → gate t (f (at ops i)) ≡ gate t (f (at (ops ++ (l ∷ [])) i))
    before i true t = ap f (sym (get_or-append ops (l ∷ []) 0 i (ltb-true i (length ops) t)))
    before i false t = refl

    go : (i : ℕ) → i < 16 → (t : Bool) → eqb i (length ops) ≡ t
        → at (set (column ops f) (length ops) v) i ≡ gate (ltb i (length (ops ++ (l ∷ [])))) (f (at (ops ++ (l ∷ [])) i))
    go i h true t =
        rw (eqb-true i (length ops) t, long, lt-ltb (length ops) (suc (length ops)) (omega arith), at_end)
        (get_or-set_same (column ops f) (length ops) v 0 (omega (arith, length_column ops f)) ∙ p)
    go i h false t =
        get_or-set_other (column ops f) (length ops) i v 0 (eqb-false i (length ops) t)
        ∙ at_column ops f i h
        ∙ before i (ltb i (length ops)) refl
        ∙ ap (λ b. gate b (f (at (ops ++ (l ∷ [])) i))) (sym (ltb_suc i (length ops) (eqb-false i (length ops) t)) ∙ ap (ltb i) (sym long))

pub column_none : (has : List ℕ) (f : ℕ → ℕ) → replicate 16 0 ≡ column (members has 0) f
unfolding members those
column_none has f = column_table [] f (replicate 16 0) (length-replicate {A = ℕ} 16 0)
    (λ i k. get_or-replicate {A = ℕ} 16 i 0 0 k ∙ rw (le-ltb i 0 (omega arith)))

pub column_on : (has : List ℕ) (f : ℕ → ℕ) (l count v : ℕ) (xs xs' : List ℕ) → xs ≡ column (members has l) f → count ≡ length (members has l)
    → length (members has l) < 16 → at has l ≡ 1 → v ≡ f l → xs' ≡ set xs count v → xs' ≡ column (members has (l + 1)) f
unfolding members
column_on has f l count v xs xs' p c k on e q =
    q ∙ ap₂ (λ ys i. set ys i v) p c ∙ column_more (those l (is_in has)) f l v k e
    ∙ ap (λ ops. column ops f) (sym (those_some l (is_in has) (eq-eqb (at has l) 1 on)))

pub column_off : (has : List ℕ) (f : ℕ → ℕ) (l : ℕ) (xs xs' : List ℕ) → xs ≡ column (members has l) f → (at has l ≡ 1 → ⊥) → xs' ≡ xs
    → xs' ≡ column (members has (l + 1)) f
unfolding members
column_off has f l xs xs' p off q =
    q ∙ p ∙ ap (λ ops. column ops f) (sym (those_none l (is_in has) (ne_eqb (at has l) 1 off)))

-- ---- how many there are

those_grow : (f : ℕ → Bool) (m d : ℕ) → length (those m f) ≤ length (those (m + d) f)
those_grow f m zero = let e : m ≡ m + 0 = omega arith in let q = ap (λ n. length (those n f)) e in omega arith
those_grow f m (suc d) =
    let e : m + suc d ≡ m + d + 1 = omega arith in
    let q = ap (λ n. length (those n f)) e in
    omega (arith, q, length_those_step (m + d) f, those_grow f m d)

-- a member that is ahead is one more than those before it
pub count_fits : (has : List ℕ) (l n : ℕ) → l < n → at has l ≡ 1 → length (members has n) ≤ 16 → length (members has l) < 16
unfolding members
count_fits has l n k on fit =
    let step : length (those (l + 1) (is_in has)) ≡ length (those l (is_in has)) + 1 =
    rw (eq-eqb (at has l) 1 on) at (length_those_step l (is_in has)) in
    let e : l + 1 + (n - (l + 1)) ≡ n = omega arith in
    let q = ap (λ m. length (those m (is_in has))) e in
    omega (arith, q, those_grow (is_in has) (l + 1) (n - (l + 1)))

-- 1 for a closed switch
pub closed_is : (t : Bool) → bool_byte t ≡ gate t 1
closed_is true = refl
closed_is false = refl

-- ---- the whole list

pub list_is : (n : Network) (ops link from to closed price : List ℕ) (count : ℕ) → link ≡ column ops (λ l. l) → from ≡ column ops (at n.from)
    → to ≡ column ops (at n.to) → closed ≡ column ops (λ l. gate (eqb (at n.form l) 2) 1) → price ≡ column ops (at n.cost)
    → count ≡ length ops
    → ◌≡◌ {A = Switches} (record { link = link; from = from; to = to; closed = closed; price = price; count = count }) (switch_list n ops)
unfolding switch_list
list_is n ops link from to closed price count a b c d e f = rw (a, b, c, d, e, f)

-- ---- the count, by what a link turns out to be

module _ (has : List ℕ) where
  pub count_none : length (members has 0) ≡ 0
  unfolding members those
  count_none = refl

  pub count_on : (x sum sum' : ℕ) → sum ≡ length (members has x) → at has x ≡ 1 → sum' ≡ sum + 1 → sum' ≡ length (members has (x + 1))
  unfolding members
  count_on x sum sum' p on q =
      let step : length (those (x + 1) (is_in has)) ≡ length (those x (is_in has)) + 1 =
      rw (eq-eqb (at has x) 1 on) at (length_those_step x (is_in has)) in
      omega arith

  pub count_off : (x sum sum' : ℕ) → sum ≡ length (members has x) → (at has x ≡ 1 → ⊥) → sum' ≡ sum → sum' ≡ length (members has (x + 1))
  unfolding members
  count_off x sum sum' p off q =
      let step : length (those (x + 1) (is_in has)) ≡ length (those x (is_in has)) + 0 =
      rw (ne_eqb (at has x) 1 off) at (length_those_step x (is_in has)) in
      omega arith

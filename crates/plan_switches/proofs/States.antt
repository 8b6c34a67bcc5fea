-- The list of the operable switches, for callers: its columns are the network's, and a set as a number has its switches' states and cost.
-- Assumes nothing.
use Prim.Native.Nat.{ℕ, zero, suc, ◌/◌, ◌%◌, ◌≤◌, ◌<◌}
use mathlib.Core.Path.{◌≡◌, refl, sym, ap, ap₂, ◌∙◌}
use mathlib.Core.Bool.{Bool, true, false, cond, ◌||◌}
use mathlib.Core.List.{List}
use lib.Dec.{eqb, ltb}
use lib.ListN.{length, set, replicate, length-set, length-replicate, get_or-replicate, get_or-eq_default}
use lib.Seq.{get_or-set_same, get_or-set_other, set-set}
use borrow.Author.Tests.{eqb-true, eqb-false, ltb-true, ltb-false, lt-ltb}
use native.Mathlib.Omega.{arith}
use Rattle.network.specs.declared.Network.{Network}
use Rattle.network.specs.Accepted.{WellFormed}
use Rattle.feeding.specs.Below.{gate}
use Rattle.feeding.specs.Networks.{at, is_in, net_of, grid_of}
use Rattle.feeding.specs.Plans.{put, differ, flip}
use Rattle.feeding.specs.Restoration.{operables_by}
use Rattle.feeding.proofs.Lows.{those_in, those_out, those_rising}
use Rattle.plan_problem.specs.Sets.{set_of, price_of, set_in}
use Rattle.plan_problem.proofs.Rising.{at_member, member_at, at_rising}
use Rattle.plan_switches.specs.declared.Switches.{Switches}
use Rattle.plan_switches.specs.Switches.{SwitchReach, column, switch_list, turned, with_set}
use Rattle.plan_switches.proofs.Columns.{length_column, at_column, states_set}

-- ---- bits

gate_bit : (b : Bool) → eqb (gate b 1) 1 ≡ b
gate_bit true = refl
gate_bit false = refl

zero_at : (n i : ℕ) → at (replicate n 0) i ≡ 0
zero_at n i = go (ltb i n) refl
  where
    go : (t : Bool) → ltb i n ≡ t → at (replicate n 0) i ≡ 0
    go true t = get_or-replicate {A = ℕ} n i 0 0 (ltb-true i n t)
    go false t = get_or-eq_default (replicate {A = ℕ} n 0) 0 {n = i} (omega (arith, length-replicate {A = ℕ} n 0, ltb-false i n t))

differ_false : (b : Bool) → differ b false ≡ b
differ_false true = refl
differ_false false = refl

-- ---- a switch turned over

pub turned_differ : (closed b : ℕ) → closed ≤ 1 → b ≤ 1 → eqb (turned closed b) 1 ≡ differ (eqb closed 1) (eqb b 1)
unfolding turned
turned_differ zero zero h k = refl
turned_differ zero (suc zero) h k = refl
turned_differ zero (suc (suc b)) h k = absurd (omega arith)
turned_differ (suc zero) zero h k = refl
turned_differ (suc zero) (suc zero) h k = refl
turned_differ (suc zero) (suc (suc b)) h k = absurd (omega arith)
turned_differ (suc (suc c)) b h k = absurd (omega arith)

-- ---- the states that a set leaves

pub length_states : (link closed : ℕ → ℕ) (n s : ℕ) (states : List ℕ) → length (with_set link closed n s states) ≡ length states
unfolding with_set
length_states link closed zero s states = refl
length_states link closed (suc n) s states =
    length-set (with_set link closed n (s / 2) states) (link n) (turned (closed n) (s % 2)) ∙ length_states link closed n (s / 2) states

-- the last switch is put as the set says, and any other link is as before
module _ (link closed : ℕ → ℕ) (n s : ℕ) (states : List ℕ) where
  states_here : (l : ℕ) → link n < length states → l ≡ link n → at (with_set link closed (suc n) s states) l ≡ turned (closed n) (s % 2)
  unfolding with_set
  states_here l k e = ap (at (with_set link closed (suc n) s states)) e
      ∙ get_or-set_same (with_set link closed n (s / 2) states) (link n) (turned (closed n) (s % 2)) 0 (omega (arith, length_states link closed n (s / 2) states))

  states_there : (l : ℕ) → (l ≡ link n → ⊥) → at (with_set link closed (suc n) s states) l ≡ at (with_set link closed n (s / 2) states) l
  unfolding with_set
  states_there l e = get_or-set_other (with_set link closed n (s / 2) states) (link n) l (turned (closed n) (s % 2)) 0 e

-- a link that is none of the switches keeps its state
pub states_other : (link closed : ℕ → ℕ) (n s : ℕ) (states : List ℕ) (l : ℕ) → ((j : ℕ) → j < n → l ≡ link j → ⊥)
    → at (with_set link closed n s states) l ≡ at states l
unfolding with_set
states_other link closed zero s states l h = refl
states_other link closed (suc n) s states l h =
    states_there link closed n s states l (h n (omega arith)) ∙ states_other link closed n (s / 2) states l (λ j k. h j (omega arith))

-- what a set leaves of a link depends on nothing but that link's state before
pub states_same : (link closed : ℕ → ℕ) (n s l : ℕ) (xs ys : List ℕ) → ((j : ℕ) → j < n → link j < length xs) → ((j : ℕ) → j < n → link j < length ys)
    → at xs l ≡ at ys l → at (with_set link closed n s xs) l ≡ at (with_set link closed n s ys) l
unfolding with_set
states_same link closed zero s l xs ys inside inside' q = q
states_same link closed (suc n) s l xs ys inside inside' q =
    go (states_same link closed n (s / 2) l xs ys (λ j k. inside j (omega arith)) (λ j k. inside' j (omega arith)) q) (eqb l (link n)) refl
  where
    go : at (with_set link closed n (s / 2) xs) l ≡ at (with_set link closed n (s / 2) ys) l → (t : Bool) → eqb l (link n) ≡ t
        → at (with_set link closed (suc n) s xs) l ≡ at (with_set link closed (suc n) s ys) l
    go ih true t = states_here link closed n s xs l (inside n (omega arith)) (eqb-true l (link n) t)
        ∙ sym (states_here link closed n s ys l (inside' n (omega arith)) (eqb-true l (link n) t))
    go ih false t = states_there link closed n s xs l (eqb-false l (link n) t) ∙ ih ∙ sym (states_there link closed n s ys l (eqb-false l (link n) t))

-- a set puts every switch, so what a switch was before does not matter
pub states_over : (link closed : ℕ → ℕ) (n : ℕ) → ((i j : ℕ) → i < j → j < n → link i ≡ link j → ⊥) → (s : ℕ) (states : List ℕ) (j v : ℕ) → j < n
    → with_set link closed n s (set states (link j) v) ≡ with_set link closed n s states
unfolding with_set
states_over link closed zero apart s states j v k = absurd (omega arith)
states_over link closed (suc n) apart s states j v k =
    go (states_over link closed n (λ i j h b. apart i j h (omega arith)) (s / 2) states j v) (eqb j n) refl
  where
    w : ℕ
    w = turned (closed n) (s % 2)

    go : (j < n → with_set link closed n (s / 2) (set states (link j) v) ≡ with_set link closed n (s / 2) states) → (t : Bool) → eqb j n ≡ t
        → set (with_set link closed n (s / 2) (set states (link j) v)) (link n) w ≡ set (with_set link closed n (s / 2) states) (link n) w
    go ih true t =
        ap (λ (i : ℕ). set (with_set link closed n (s / 2) (set states (link i) v)) (link n) w) (eqb-true j n t)
        ∙ ap (λ (xs : List ℕ). set xs (link n) w) (states_set link closed n (s / 2) states (link n) v (λ i b. apart i n b (omega arith)))
        ∙ set-set (with_set link closed n (s / 2) states) (link n) v w
    go ih false t = ap (λ (xs : List ℕ). set xs (link n) w) (ih (omega (arith, eqb-false j n t)))

-- what any set leaves closed is closed where every switch is
pub states_within : (link closed ones : ℕ → ℕ) (n : ℕ) → ((j : ℕ) → j < n → ones j ≡ 1) → (s l : ℕ) (xs ys : List ℕ)
    → ((j : ℕ) → j < n → link j < length ys) → (at xs l ≡ 1 → at ys l ≡ 1)
    → at (with_set link closed n s xs) l ≡ 1 → at (with_set link ones n 0 ys) l ≡ 1
unfolding with_set turned
states_within link closed ones zero one s l xs ys inside sub h = sub h
states_within link closed ones (suc n) one s l xs ys inside sub h =
    go (states_within link closed ones n (λ j k. one j (omega arith)) (s / 2) l xs ys (λ j k. inside j (omega arith)) sub) (eqb l (link n)) refl
  where
    go : (at (with_set link closed n (s / 2) xs) l ≡ 1 → at (with_set link ones n 0 ys) l ≡ 1) → (t : Bool) → eqb l (link n) ≡ t
        → at (with_set link ones (suc n) 0 ys) l ≡ 1
    go ih true t = states_here link ones n 0 ys l (inside n (omega arith)) (eqb-true l (link n) t) ∙ ap (λ x. turned x 0) (one n (omega arith))
    go ih false t = states_there link ones n 0 ys l (eqb-false l (link n) t) ∙ ih (sym (states_there link closed n s xs l (eqb-false l (link n) t)) ∙ h)

-- a switch of the set is turned over, and any other is as at the start
module _ (start : ℕ → Bool) (link closed : ℕ → ℕ) where
  states_differ : (n : ℕ) → ((j : ℕ) → j < n → (closed j ≤ 1) × (eqb (closed j) 1 ≡ start (link j)))
      → (s l : ℕ) (states : List ℕ) → ((j : ℕ) → j < n → link j < length states)
      → (((j : ℕ) → j < n → l ≡ link j → ⊥) → is_in states l ≡ start l)
      → is_in (with_set link closed n s states) l ≡ differ (start l) (set_of link n s l)
  unfolding with_set set_of put
  states_differ zero at-start s l states inside others = others (λ j k. absurd (omega arith)) ∙ sym (differ_false (start l))
  states_differ (suc n) at-start s l states inside others =
      go (states_differ n (λ j k. at-start j (omega arith)) (s / 2) l states (λ j k. inside j (omega arith))) (eqb l (link n)) refl
    where
      go : ((((j : ℕ) → j < n → l ≡ link j → ⊥) → is_in states l ≡ start l)
          → is_in (with_set link closed n (s / 2) states) l ≡ differ (start l) (set_of link n (s / 2) l))
          → (t : Bool) → eqb l (link n) ≡ t
          → is_in (with_set link closed (suc n) s states) l ≡ differ (start l) (cond t (eqb (s % 2) 1) (set_of link n (s / 2) l))
      go ih true t =
          let e : l ≡ link n = eqb-true l (link n) t in
          ap (λ x. eqb x 1) (states_here link closed n s states l (inside n (omega arith)) e)
          ∙ turned_differ (closed n) (s % 2) (at-start n (omega arith)).0 (omega arith)
          ∙ ap (λ b. differ b (eqb (s % 2) 1)) ((at-start n (omega arith)).1 ∙ ap start (sym e))
      go ih false t =
          ap (λ x. eqb x 1) (states_there link closed n s states l (eqb-false l (link n) t)) ∙ ih (λ h. others (λ j k. none h j k (eqb j n) refl))
        where
          none : ((j : ℕ) → j < n → l ≡ link j → ⊥) → (j : ℕ) → j < suc n → (u : Bool) → eqb j n ≡ u → l ≡ link j → ⊥
          none h j k true u q = eqb-false l (link n) t (q ∙ ap link (eqb-true j n u))
          none h j k false u q = h j (omega (arith, eqb-false j n u)) q

-- ---- states, sets and prices by the switches below the count

pub states_ext : (link link' closed closed' : ℕ → ℕ) (n s : ℕ) (states : List ℕ) → ((j : ℕ) → j < n → (link j ≡ link' j) × (closed j ≡ closed' j))
    → with_set link closed n s states ≡ with_set link' closed' n s states
unfolding with_set
states_ext link link' closed closed' zero s states h = refl
states_ext link link' closed closed' (suc n) s states h =
    rw ((h n (omega arith)).0, (h n (omega arith)).1, states_ext link link' closed closed' n (s / 2) states (λ j k. h j (omega arith)))

set_ext : (op op' : ℕ → ℕ) (n s l : ℕ) → ((j : ℕ) → j < n → op j ≡ op' j) → set_of op n s l ≡ set_of op' n s l
unfolding set_of put
set_ext op op' zero s l h = refl
set_ext op op' (suc n) s l h =
    ap₂ (λ m b. cond (eqb l m) (eqb (s % 2) 1) b) (h n (omega arith)) (set_ext op op' n (s / 2) l (λ j k. h j (omega arith)))

pub price_ext : (adds adds' : ℕ → ℕ → ℕ) (n s : ℕ) → ((j t : ℕ) → j < n → adds j t ≡ adds' j t) → price_of adds n s ≡ price_of adds' n s
unfolding price_of
price_ext adds adds' zero s h = refl
price_ext adds adds' (suc n) s h =
    omega (arith, price_ext adds adds' n (s / 2) (λ j t k. h j t (omega arith)), ap (gate (eqb (s % 2) 1)) (h n (s / 2) (omega arith)))

-- ---- columns

column_in : (ops : List ℕ) (f : ℕ → ℕ) → length ops ≤ 16 → (i : ℕ) → i < length ops → at (column ops f) i ≡ f (at ops i)
column_in ops f few i k = at_column ops f i (omega arith) ∙ ap (λ b. gate b (f (at ops i))) (lt-ltb i (length ops) k)

column_below : (ops : List ℕ) (f : ℕ → ℕ) (top : ℕ) → 0 < top → ((i : ℕ) → i < length ops → f (at ops i) < top) → (i : ℕ) → at (column ops f) i < top
column_below ops f top some h i = go (ltb i 16) refl
  where
    part : (t : Bool) → ltb i (length ops) ≡ t → gate t (f (at ops i)) < top
    part true t = h i (ltb-true i (length ops) t)
    part false t = some

    go : (t : Bool) → ltb i 16 ≡ t → at (column ops f) i < top
    go true t = omega (arith, at_column ops f i (ltb-true i 16 t), part (ltb i (length ops)) refl)
    go false t = omega (arith, get_or-eq_default (column ops f) 0 {n = i} (omega (arith, length_column ops f, ltb-false i 16 t)))

-- ---- the switches of a network that pass a test, none of which is fixed

module _ (n : Network) (well : WellFormed n) (op : ℕ → Bool) (free : (l : ℕ) → op l ≡ true → (net_of n).fixed l ≡ false) where
  abbrev ops : List ℕ
  ops = operables_by (net_of n) op

  abbrev sw : Switches
  sw = switch_list n (operables_by (net_of n) op)

  pub operable_in_lem : (i : ℕ) → i < length ops → (at ops i < n.links) × (op (at ops i) ≡ true)
  unfolding operables_by net_of grid_of
  operable_in_lem i k = those_out n.links op (at ops i) (at_member ops i k)

  ops_rising : (i j : ℕ) → i < j → j < length ops → at ops i < at ops j
  unfolding operables_by
  ops_rising = at_rising ops (those_rising (net_of n).grid.K op)

  -- a link that is none of them is not operable
  others_fixed : (l : ℕ) → l < n.links → ((j : ℕ) → j < length ops → l ≡ at ops j → ⊥) → op l ≡ false
  unfolding operables_by net_of grid_of
  others_fixed l k h = go (op l) refl
    where
      go : (t : Bool) → op l ≡ t → op l ≡ false
      go true t = let r = member_at ops l (those_in n.links op l k t) in absurd (h r.0 r.1 r.2)
      go false t = t

  -- ---- the arrays

  pub count_is : sw.count ≡ length ops
  unfolding switch_list
  count_is = refl

  pub from_below : (i : ℕ) → at sw.from i < 64
  unfolding switch_list
  from_below =
      column_below ops (at n.from) 64 (omega arith) (λ i k. omega (arith, well.from_in (at ops i) (operable_in_lem i k).0, well.elements_fit))

  pub to_below : (i : ℕ) → at sw.to i < 64
  unfolding switch_list
  to_below =
      column_below ops (at n.to) 64 (omega arith) (λ i k. omega (arith, well.to_in (at ops i) (operable_in_lem i k).0, well.elements_fit))

  pub closed_bit : (i : ℕ) → at sw.closed i ≤ 1
  unfolding switch_list
  closed_bit i =
      omega (arith, column_below ops (λ l. gate (eqb (at n.form l) 2) 1) 2 (omega arith) (λ j k. bit (eqb (at n.form (at ops j)) 2)) i)
    where
      bit : (b : Bool) → gate b 1 < 2
      bit true = omega arith
      bit false = omega arith

  -- at most 16 of them, so that the arrays hold all
  module _ (few : length ops ≤ 16) where
    pub link_at : (i : ℕ) → i < length ops → at sw.link i ≡ at ops i
    unfolding switch_list
    link_at i k = column_in ops (λ l. l) few i k

    pub from_at : (i : ℕ) → i < length ops → at sw.from i ≡ (net_of n).grid.end_a (at ops i)
    unfolding switch_list net_of grid_of
    from_at i k = column_in ops (at n.from) few i k

    pub to_at : (i : ℕ) → i < length ops → at sw.to i ≡ (net_of n).grid.end_b (at ops i)
    unfolding switch_list net_of grid_of
    to_at i k = column_in ops (at n.to) few i k

    pub closed_at : (i : ℕ) → i < length ops → is_in sw.closed i ≡ (net_of n).start_closed (at ops i)
    unfolding switch_list net_of
    closed_at i k =
        ap (λ x. eqb x 1) (column_in ops (λ l. gate (eqb (at n.form l) 2) 1) few i k)
        ∙ gate_bit (eqb (at n.form (at ops i)) 2)
        ∙ ap (λ b. b || eqb (at n.form (at ops i)) 2) (sym (free (at ops i) (operable_in_lem i k).1))

    pub price_at : (i : ℕ) → i < length ops → at sw.price i ≡ (net_of n).cost (at ops i)
    unfolding switch_list net_of
    price_at i k = column_in ops (at n.cost) few i k

    pub link_reach : SwitchReach sw.link (length ops)
    link_reach = record {
      fit = few;
      link_in = λ i k. omega (arith, link_at i k, (operable_in_lem i k).0, well.links_fit);
      apart = λ i j h k q. omega (arith, q, ops_rising i j h k, link_at i (omega arith), link_at j k);
    }

    set_same : (s l : ℕ) → set_of (at sw.link) (length ops) s l ≡ set_in ops s l
    unfolding set_in
    set_same s l = set_ext (at sw.link) (at ops) (length ops) s l link_at

    -- the states of the set: those at the start, with its switches turned over
    pub states_flipped : (states : List ℕ) → length states ≡ 96
        → ((l : ℕ) → l < n.links → op l ≡ false → is_in states l ≡ (net_of n).start_closed l)
        → (s l : ℕ) → l < n.links
        → is_in (with_set (at sw.link) (at sw.closed) (length ops) s states) l ≡ flip (net_of n).start_closed (set_in ops s) l
    unfolding flip
    states_flipped states long others s l k =
        states_differ (net_of n).start_closed (at sw.link) (at sw.closed) (length ops)
        (λ j h. (closed_bit j, closed_at j h ∙ ap (net_of n).start_closed (sym (link_at j h))))
        s l states (λ j h. omega (arith, link_reach.link_in j h))
        (λ h. others l k (others_fixed l k (λ j b e. h j b (e ∙ sym (link_at j b)))))
        ∙ ap (differ ((net_of n).start_closed l)) (set_same s l)

    -- the switches of the set, as states from none
    pub set_operated : (s l : ℕ) → l < n.links
        → is_in (with_set (at sw.link) (at (replicate 16 0)) (length ops) s (replicate 96 0)) l ≡ set_in ops s l
    set_operated s l k =
        states_differ (λ _. false) (at sw.link) (at (replicate 16 0)) (length ops)
        (λ j h. (omega (arith, zero_at 16 j), ap (λ x. eqb x 1) (zero_at 16 j)))
        s l (replicate 96 0) (λ j h. omega (arith, length-replicate {A = ℕ} 96 0, link_reach.link_in j h))
        (λ h. ap (λ x. eqb x 1) (zero_at 96 l))
        ∙ set_same s l

-- The search over arrays by the cases of the code: what each return leaves, what a join and its undoing leave, and that the numbers fit.
-- Assumes nothing.
use mathlib.Core.Path.{◌≡◌, refl, sym, ap, ◌∙◌}
use mathlib.Core.Bool.{Bool, true, false, not}
use mathlib.Core.List.{List}
use Prim.Native.Nat.{ℕ, zero, suc, ◌+◌, ◌*◌, ◌-◌, ◌/◌, ◌%◌, ◌^◌, ◌<◌, ◌≤◌, min, max}
use native.Mathlib.Nat.{pow-le-pow_right}
use native.Mathlib.Numerals.{add-one}
use native.Mathlib.Omega.{arith}
use lib.Bits.{bit_and}
use lib.Dec.{ltb, eqb}
use lib.ListN.{set, length-set}
use lib.Seq.{set-set, set-get_or}
use borrow.Author.Tests.{eq-eqb, ne_eqb, lt-ltb, le-ltb, le-leb, lt-leb, ltb-true, ltb-false, not-true}
use Rattle.feeding.specs.Below.{gate}
use Rattle.feeding.specs.Networks.{at}
use Rattle.feeding.proofs.Below.{gate_le}
use Rattle.feeding_parts.specs.Labelling.{root_of}
use Rattle.feeding_parts.proofs.Roots.{root_in, root_is, falls_set}
use Rattle.plan_problem.specs.declared.Best.{Best}
use Rattle.plan_stops.specs.Holding.{clash, together, serves}
use Rattle.plan_problem.specs.Sets.{keep, price_of, charge_by, adds_by}
use Rattle.plan_setting.specs.declared.Setting.{Setting}
use Rattle.plan_setting.specs.Packed.{adds_in}
use Rattle.plan_problem.proofs.Scans.{keep_dear, keep_failed}
use Rattle.plan_stops.specs.Searching.{bears, carried_on, joining, dearer}
use Rattle.plan_stops.proofs.Searched.{decides_open, decides_closed, joins_loop, joins_clash, joins_heavy, joins_on}
use Rattle.plan_stops.proofs.Searched.{visited_end, visited_short, visited_stops, visited_next}
use Rattle.plan_search.specs.declared.Search.{Search}
use Rattle.plan_search.specs.Searching.{Seeks, Placed, fits_in, states_by, visit_in, switching_in, sought_from, sought_in, decided_in, joined_in, sought, decided, joined}
use Rattle.plan_search.proofs.Placing.{ends_open, ends_closed, fits_here, sought_over, state_undone}

-- what a function leaves whose result is X
abbrev pub Leaves : (X : Best) (before after : Search) → Type 0
Leaves X before after = after ≡ record before { best = X }

put : (before : Search) (X Y : Best) → X ≡ Y → Leaves X before (record before { best = Y })
put before X Y e = ap (λ (b : Best). record before { best = b }) (sym e)

-- one that is searched on as another finds it
as_found : (X Y : Best) (before after : Search) → X ≡ Y → Leaves X before after → Leaves Y before after
as_found X Y before after e l = l ∙ ap (λ (b : Best). record before { best = b }) e

-- ---- the numbers fit

module _ (B : Setting) (st : Search) (i served s cost : ℕ) (k : Seeks B st i served s cost) where
  -- a set of at most 16 switches is below 65536
  pub set_small : s < 65536
  set_small =
      let few : i ≤ 16 = omega (arith, B.settled.columns.reach.fit, k.reached) in
      let top : 2 ^ i ≤ 2 ^ 16 = pow-le-pow_right {n = 2} (omega arith) few in
      omega (arith, k.set_in_lem)

  -- a switch adds at most its price and its guard's charge
  pub added_most : (n t : ℕ) → n < B.switches.count → adds_in B n t ≤ 196606
  unfolding adds_by charge_by
  added_most n t k = omega (arith, gate_le (eqb (bit_and t (at B.guards.fellows n)) 0) (at B.guards.charge n), B.settled.columns.price_in n k, B.settled.charge_in_lem n k)

  price_most : (n t : ℕ) → n ≤ B.switches.count → price_of (adds_in B) n t ≤ 196606 * n
  unfolding price_of
  price_most zero t few = omega arith
  price_most (suc n) t few = omega (arith, price_most n (t / 2) (omega arith), gate_le (eqb (t % 2) 1) (adds_in B n (t / 2)), added_most n (t / 2) (omega arith))

  pub cost_small : cost ≤ 3145696
  cost_small = omega (arith, k.cost_is, price_most i s k.reached, k.reached, B.settled.columns.reach.fit)

  next_in : (t : ℕ) → t ≤ 2 * s + 1 → t < 2 ^ (i + 1)
  next_in t q = rw (add-one i) (omega (arith, k.set_in_lem))

  price_operated : price_of (adds_in B) (i + 1) (2 * s + 1) ≡ price_of (adds_in B) i s + adds_in B i s
  unfolding price_of
  price_operated =
      let d : (2 * s + 1) / 2 ≡ s = omega arith in
      let r : (2 * s + 1) % 2 ≡ 1 = omega arith in
      rw (add-one i, d, r)

  price_left : price_of (adds_in B) (i + 1) (2 * s) ≡ price_of (adds_in B) i s
  unfolding price_of
  price_left =
      let d : (2 * s) / 2 ≡ s = omega arith in
      let r : (2 * s) % 2 ≡ 0 = omega arith in
      rw (add-one i, d, r) (omega arith)

  -- at the next switch, operated and not
  pub seeks_operated : (t more : ℕ) → i < B.switches.count → t ≡ 2 * s + 1 → more ≡ cost + adds_in B i s → Seeks B st (i + 1) served t more
  seeks_operated t more b f e = record {
    reached = omega arith;
    parent_long = k.parent_long;
    holds_long = k.holds_long;
    falls = k.falls;
    served_few = omega (arith, k.served_few);
    set_in_lem = next_in t (omega arith);
    cost_is = omega (arith, e, k.cost_is, price_operated, ap (price_of (adds_in B) (i + 1)) f);
  }

  pub seeks_left : (X : Best) (after : Search) (t : ℕ) → Leaves X st after → i < B.switches.count → t ≡ 2 * s → Seeks B after (i + 1) served t cost
  seeks_left X after t e b q = rw e (record {
    reached = omega arith;
    parent_long = k.parent_long;
    holds_long = k.holds_long;
    falls = k.falls;
    served_few = omega (arith, k.served_few);
    set_in_lem = next_in t (omega arith);
    cost_is = omega (arith, k.cost_is, price_left, ap (price_of (adds_in B) (i + 1)) q);
  })

-- ---- the search, by its cases

module _ (B : Setting) (st : Search) (i served s : ℕ) (reached : i ≤ B.switches.count) where
  abbrev stop : ℕ → ℕ → Best → Bool
  stop = dearer (price_of (adds_in B))

  abbrev fitting : ℕ → Bool
  fitting t = fits_in B (states_by B B.switches.count t st.states)

  stays : sought B st i served s ≡ st.best → Leaves (sought B st i served s) st st
  stays e = put st (sought B st i served s) st.best e

  -- too few switches are left for the parts that wait
  pub few_leaves : served + (B.switches.count - i) < B.want → Leaves (sought B st i served s) st st
  unfolding sought_in
  few_leaves few = stays (go (B.switches.count - i) refl)
    where
      go : (n : ℕ) → B.switches.count - i ≡ n → sought_from B st.states (B.switches.count - i) i served s st.parent st.holds st.spare st.best ≡ st.best
      go zero e = rw e (visited_end stop (visit_in B st.states) (switching_in B) B.want i served s st.parent st.holds st.spare st.best ∙ rw (lt-ltb served B.want (omega arith)))
      go (suc n) e = rw e (visited_short stop (visit_in B st.states) (switching_in B) B.want n i served s st.parent st.holds st.spare st.best (lt-ltb _ B.want (omega arith)))

  module _ (enough : B.want ≤ served + (B.switches.count - i)) (cost : ℕ) (cost_is : cost ≡ price_of (adds_in B) i s) where
    -- nothing behind is cheaper
    pub dear_leaves : st.best.cost ≤ cost → Leaves (sought B st i served s) st st
    unfolding sought_in visit_in dearer
    dear_leaves q = stays (go (B.switches.count - i) refl)
      where
        go : (n : ℕ) → B.switches.count - i ≡ n → sought_from B st.states (B.switches.count - i) i served s st.parent st.holds st.spare st.best ≡ st.best
        go zero e =
            let f : i ≡ B.switches.count = omega arith in
            rw e (visited_end stop (visit_in B st.states) (switching_in B) B.want i served s st.parent st.holds st.spare st.best ∙ rw (le-ltb served B.want (omega arith))
            (keep_dear (price_of (adds_in B) B.switches.count) fitting st.best s (omega (arith, q, cost_is, ap (λ (n : ℕ). price_of (adds_in B) n s) f))))
        go (suc n) e = rw e (visited_stops stop (visit_in B st.states) (switching_in B) B.want n i served s st.parent st.holds st.spare st.best
            (le-ltb _ B.want (omega arith)) (le-leb (st.best.cost) (price_of (adds_in B) i s) (omega (arith, q, cost_is))))

    -- all switches are chosen
    module _ (cheap : cost < st.best.cost) (last : B.switches.count - i ≡ 0) (placed : Placed B st.states i s) (r : Bool) (r-is : r ≡ fits_in B st.states) where
      all : i ≡ B.switches.count
      all = omega arith

      last_is : sought B st i served s ≡ keep (price_of (adds_in B) B.switches.count) fitting st.best s
      unfolding sought_in visit_in
      last_is = rw last (visited_end stop (visit_in B st.states) (switching_in B) B.want i served s st.parent st.holds st.spare st.best ∙ rw (le-ltb served B.want (omega arith)))

      price_is : price_of (adds_in B) B.switches.count s ≡ cost
      price_is = ap (λ (n : ℕ). price_of (adds_in B) n s) (sym all) ∙ sym cost_is

      pub failed_leaves : r ≡ false → Leaves (sought B st i served s) st st
      failed_leaves f = stays (last_is ∙ keep_failed (price_of (adds_in B) B.switches.count) fitting st.best s (fits_here B st.states i s placed all r r-is ∙ f))

      taken : r ≡ true → keep (price_of (adds_in B) B.switches.count) fitting st.best s ≡ record { cost = cost; set = s }
      unfolding keep
      taken f = rw (price_is, lt-ltb cost (st.best.cost) cheap, fits_here B st.states i s placed all r r-is, f, keep) (ap (λ (x : ℕ). record { cost = x; set = s }) price_is)

      pub taken_leaves : r ≡ true → Leaves (sought B st i served s) st (record st { best = record { cost = cost; set = s } })
      taken_leaves f = put st (sought B st i served s) (record { cost = cost; set = s }) (last_is ∙ taken f)

    -- the next switch, operated and not
    next_is : (b : Best) → cost < b.cost → i < B.switches.count
        → sought_in B st.states i served s st.parent st.holds st.spare b
        ≡ decided_in B st.states i served (2 * s) st.parent st.holds st.spare (decided_in B st.states i served (2 * s + 1) st.parent st.holds st.spare b)
    unfolding sought_in decided_in dearer
    next_is b q k =
        let n : B.switches.count - i ≡ suc (B.switches.count - suc i) = omega arith in
        let even : (2 * s) % 2 ≡ 0 = omega arith in
        let odd : (2 * s + 1) % 2 ≡ 1 = omega arith in
        rw (n, add-one i, even, odd) (visited_next stop (visit_in B st.states) (switching_in B) B.want (B.switches.count - suc i) i served s st.parent st.holds st.spare b
        (le-ltb _ B.want (omega arith)) (lt-leb b.cost (price_of (adds_in B) i s) (omega (arith, q, cost_is))))

    pub both_leave : (st' st'' : Search) → cost < st.best.cost → i < B.switches.count → Leaves (decided B st i served (2 * s + 1)) st st'
        → Leaves (decided B st' i served (2 * s)) st' st'' → Leaves (sought B st i served s) st st''
    both_leave st' st'' q k a b = as_found _ _ st st'' (sym (next_is st.best q k))
        (b ∙ ap (λ (y : Search). record y { best = decided B y i served (2 * s) }) a)

-- ---- a switch that ends open, or closed

module _ (B : Setting) (st : Search) (i served s : ℕ) (k : i < B.switches.count) (st' : Search) where
  abbrev onward : (served s : ℕ) (parent holds spare : List ℕ) → Best → Best
  onward = sought_from B st.states (B.switches.count - (i + 1)) (i + 1)

  pub open_leaves : at B.switches.closed i ≡ s % 2 → Leaves (sought B st (i + 1) served s) st st' → Leaves (decided B st i served s) st st'
  unfolding decided_in sought_in
  open_leaves e =
      let ends = ends_open (at B.switches.closed i) (s % 2) (B.settled.columns.closed_bit i k) (omega arith) e in
      as_found _ _ st st' (sym (ap (λ (f : Best → Best). f st.best)
      (decides_open (switching_in B) onward i (eqb (s % 2) 1) served s st.parent st.holds st.spare ends)))

  pub closed_leaves : (at B.switches.closed i ≡ s % 2 → ⊥) → Leaves (joined B st i served s) st st' → Leaves (decided B st i served s) st st'
  unfolding decided_in joined_in
  closed_leaves e =
      let ends = ends_closed (at B.switches.closed i) (s % 2) (B.settled.columns.closed_bit i k) (omega arith) e in
      as_found _ _ st st' (sym (ap (λ (f : Best → Best). f st.best)
      (decides_closed (switching_in B) onward i (eqb (s % 2) 1) served s st.parent st.holds st.spare ends)))

-- ---- a join of the parts with the roots x and y

module _ (B : Setting) (st : Search) (i served s cost : ℕ) (k : Seeks B st (i + 1) served s cost) (x y : ℕ)
    (root-x : x ≡ root_of st.parent (at B.switches.from i)) (root-y : y ≡ root_of st.parent (at B.switches.to i)) where
  pub root_a_in : x < 64
  root_a_in = root_in st.parent k.falls (at B.switches.from i) x (B.settled.columns.from_in i (omega (arith, k.reached))) root-x

  pub root_b_in : y < 64
  root_b_in = root_in st.parent k.falls (at B.switches.to i) y (B.settled.columns.to_in i (omega (arith, k.reached))) root-y

  pub lower_in : (lo : ℕ) → lo ≡ min x y → lo < 64
  lower_in lo e = omega (arith, root_a_in, root_b_in)

  pub higher_in : (hi : ℕ) → hi ≡ max x y → hi < 64
  higher_in hi e = omega (arith, root_a_in, root_b_in)

-- what a join leaves before it is searched on
abbrev pub joining_up : Search → (hi lo w u l : ℕ) → Search
joining_up st hi lo w u l =
    record st { states = set st.states l 1; parent = set st.parent hi lo; holds = set st.holds lo w; spare = set st.spare lo u }

module _ (B : Setting) (st : Search) (i served s cost : ℕ) (k : Seeks B st (i + 1) served s cost) (x y : ℕ)
    (root-x : x ≡ root_of st.parent (at B.switches.from i)) (root-y : y ≡ root_of st.parent (at B.switches.to i)) where
  abbrev further : (served s : ℕ) (parent holds spare : List ℕ) → Best → Best
  further = sought_from B st.states (B.switches.count - (i + 1)) (i + 1)

  pub join_seeks : (lo hi w u l n : ℕ) → (x ≡ y → ⊥) → lo ≡ min x y → hi ≡ max x y → n ≡ gate (serves (at st.holds x) (at st.holds y)) 1 → served ≤ i
      → Seeks B (joining_up st hi lo w u l) (i + 1) (served + n) s cost
  join_seeks lo hi w u l n d a b c few = record {
    reached = k.reached;
    parent_long = length-set st.parent hi lo ∙ k.parent_long;
    holds_long = length-set st.holds lo w ∙ k.holds_long;
    falls = falls_set st.parent k.falls hi lo (omega arith);
    served_few = omega (arith, gate_le (serves (at st.holds x) (at st.holds y)) 1);
    set_in_lem = k.set_in_lem;
    cost_is = k.cost_is;
  }

  joined_is : joined B st i served s ≡ joining further x y served s st.parent st.holds st.spare st.best
  unfolding joined_in
  joined_is = rw (root-x, root-y)

  stopped : joining further x y served s st.parent st.holds st.spare ≡ (λ d. d) → Leaves (joined B st i served s) st st
  stopped e = put st (joined B st i served s) st.best (joined_is ∙ ap (λ (f : Best → Best). f st.best) e)

  pub loop_leaves : x ≡ y → Leaves (joined B st i served s) st st
  loop_leaves e = stopped (joins_loop further x y served s st.parent st.holds st.spare (eq-eqb x y e))

  pub clash_leaves : (x ≡ y → ⊥) → clash (at st.holds x) (at st.holds y) ≡ true → Leaves (joined B st i served s) st st
  clash_leaves e c = stopped (joins_clash further x y served s st.parent st.holds st.spare (ne_eqb x y e) c)

  pub heavy_leaves : (x ≡ y → ⊥) → clash (at st.holds x) (at st.holds y) ≡ false
      → not (bears (at st.holds x) (at st.holds y) (at st.spare x) (at st.spare y)) ≡ true → Leaves (joined B st i served s) st st
  heavy_leaves e c b = stopped (joins_heavy further x y served s st.parent st.holds st.spare (ne_eqb x y e) c (not-true _ b))

  module _ (apart : x ≡ y → ⊥) (agree : clash (at st.holds x) (at st.holds y) ≡ false)
      (fits : bears (at st.holds x) (at st.holds y) (at st.spare x) (at st.spare y) ≡ true) (lo hi w n u : ℕ) (lo-is : lo ≡ min x y) (hi-is : hi ≡ max x y)
      (w-is : w ≡ together (at st.holds x) (at st.holds y)) (n-is : n ≡ gate (serves (at st.holds x) (at st.holds y)) 1)
      (u-is : u ≡ carried_on (at st.holds x) (at st.holds y) (at st.spare x) (at st.spare y)) where
    join_is : joined B st i served s ≡ sought_in B st.states (i + 1) (served + n) s (set st.parent hi lo) (set st.holds lo w) (set st.spare lo u) st.best
    unfolding sought_in
    join_is = rw (lo-is, hi-is, w-is, n-is, u-is)
        (joined_is ∙ ap (λ (f : Best → Best). f st.best) (joins_on further x y served s st.parent st.holds st.spare (ne_eqb x y apart) agree fits))

    -- the four stores are taken back
    pub join_undone : Placed B st.states i (s / 2) → i < B.switches.count → (st' : Search) (own old rest off : ℕ)
        → own ≡ hi → old ≡ at st.holds lo → rest ≡ at st.spare lo → off ≡ 0
        → Leaves (sought B (joining_up st hi lo w u (at B.switches.link i)) (i + 1) (served + n) s) (joining_up st hi lo w u (at B.switches.link i)) st'
        → Leaves (joined B st i served s) st
        (record st' {
          states = set st'.states (at B.switches.link i) off;
          parent = set st'.parent hi own;
          holds = set st'.holds lo old;
          spare = set st'.spare lo rest;
        })
    join_undone placed b st' own old rest off e f g o a = rw a (rw (states_again, parent_again, holds_again, spare_again) (put st _ _ found))
      where
        found : joined B st i served s ≡ sought B (joining_up st hi lo w u (at B.switches.link i)) (i + 1) (served + n) s
        found = join_is ∙ sym (sought_over B st.states i s placed b (i + 1) (served + n) s (set st.parent hi lo) (set st.holds lo w) (set st.spare lo u) st.best)

        states_again : set (set st.states (at B.switches.link i) 1) (at B.switches.link i) off ≡ st.states
        states_again = state_undone B st.states i s placed b (set st.states (at B.switches.link i) 1) off o refl

        -- the higher root was its own parent
        root_again : at st.parent hi ≡ hi
        root_again = go (ltb x y) refl
          where
            go : (t : Bool) → ltb x y ≡ t → at st.parent hi ≡ hi
            go true t =
                let q : hi ≡ root_of st.parent (at B.switches.to i) = omega (arith, ltb-true x y t, root-y) in
                rw q (root_is st.parent k.falls (at B.switches.to i))
            go false t =
                let q : hi ≡ root_of st.parent (at B.switches.from i) = omega (arith, ltb-false x y t, root-x) in
                rw q (root_is st.parent k.falls (at B.switches.from i))

        parent_again : set (set st.parent hi lo) hi own ≡ st.parent
        parent_again = set-set st.parent hi lo own ∙ ap (set st.parent hi) (e ∙ sym root_again) ∙ set-get_or st.parent hi 0

        holds_again : set (set st.holds lo w) lo old ≡ st.holds
        holds_again = set-set st.holds lo w old ∙ ap (set st.holds lo) f ∙ set-get_or st.holds lo 0

        spare_again : set (set st.spare lo u) lo rest ≡ st.spare
        spare_again = set-set st.spare lo u rest ∙ ap (set st.spare lo) g ∙ set-get_or st.spare lo 0

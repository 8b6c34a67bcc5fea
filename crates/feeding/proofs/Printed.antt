-- A valid list of steps is matched by the printed form of what it leaves changed: each configuration on the way opens the first or the last one.
-- Assumes nothing.
use Prim.Native.Nat.{ℕ, zero, suc, ◌+◌, ◌≤◌, ◌<◌}
use mathlib.Core.Path.{subst, ◌≡◌, refl, sym, ap₂, ◌∙◌, fun_ext}
use mathlib.Core.Bool.{Bool, true, false, not, cond, ◌&&◌, false≢true}
use mathlib.Core.List.{List, [], ◌∷◌, ◌++◌}
use lib.Dec.{eqb, ltb}
use borrow.Author.Tests.{eqb-true, eqb-false, ne_eqb, lt-ltb, le-ltb}
use native.Mathlib.Omega.{arith}
use Rattle.feeding.specs.Below.{gate, sum_to}
use Rattle.feeding.specs.Networks.{Net}
use Rattle.feeding.specs.Parts.{Config}
use Rattle.feeding.specs.Plans.{Step, put, run, Good, Valid, operations, sweep, printed_form, differ, flip, changed, Matched}
use Rattle.feeding.specs.Costs.{steps_cost, switches_cost}
use Rattle.feeding.specs.Safety.{Safe}
use Rattle.feeding.specs.Tasks.{Task, Lawful}
use Rattle.feeding.proofs.Below.{and_left, and_right, ltb_suc, gate_le}
use Rattle.feeding.proofs.Sums.{sum_to_add, sum_to_none, sum_to_at, sum_to_mono, sum_to_ext}
use Rattle.feeding.proofs.Opening.{opening_safe}

-- ---- lists of steps, one behind the other

pub run_append : (c : Config) (p q : List Step) → run c (p ++ q) ≡ run (run c p) q
unfolding run
run_append c [] q = refl
run_append c (s ∷ p) q = run_append (put c s.link s.want) p q

pub good_append : (net : Net) (op : ℕ → Type 0) (c : Config) (p q : List Step) → Good net op c p → Good net op (run c p) q → Good net op c (p ++ q)
unfolding run Good
good_append net op c [] q g h = h
good_append net op c (s ∷ p) q g h = (g.0, good_append net op (put c s.link s.want) p q g.1 h)

cost_append : (net : Net) (p q : List Step) → steps_cost net (p ++ q) ≡ steps_cost net p + steps_cost net q
unfolding steps_cost
cost_append net [] q = omega arith
cost_append net (s ∷ p) q = omega (arith, cost_append net p q)

operations_append : (l : ℕ) (p q : List Step) → operations l (p ++ q) ≡ operations l p + operations l q
unfolding operations
operations_append l [] q = omega arith
operations_append l (s ∷ p) q = omega (arith, operations_append l p q)

-- ---- a sweep

-- the configuration after a sweep below n
swept : Bool → (ℕ → Bool) → ℕ → Config → Config
swept w pick n c m = cond (ltb m n && pick m) w (c m)

-- one more link: a picked one is put, and one that is not picked stays
swept_pick : (w : Bool) (pick : ℕ → Bool) (n : ℕ) (c : Config) → pick n ≡ true → put (swept w pick n c) n w ≡ swept w pick (suc n) c
unfolding swept put
swept_pick w pick n c e = fun_ext (λ m. go m (eqb m n) refl)
  where
    go : (m : ℕ) (t : Bool) → eqb m n ≡ t → put (swept w pick n c) n w m ≡ swept w pick (suc n) c m
    go m true t = rw (t, lt-ltb m (suc n) (omega (arith, eqb-true m n t)), eqb-true m n t, e)
    go m false t = rw (t, ltb_suc m n (eqb-false m n t))

swept_skip : (w : Bool) (pick : ℕ → Bool) (n : ℕ) (c : Config) → pick n ≡ false → swept w pick n c ≡ swept w pick (suc n) c
unfolding swept
swept_skip w pick n c e = fun_ext (λ m. go m (eqb m n) refl)
  where
    go : (m : ℕ) (t : Bool) → eqb m n ≡ t → swept w pick n c m ≡ swept w pick (suc n) c m
    go m true t =
        rw (lt-ltb m (suc n) (omega (arith, eqb-true m n t)), le-ltb m n (omega (arith, eqb-true m n t)), eqb-true m n t, e)
    go m false t = rw (ltb_suc m n (eqb-false m n t))

swept_zero : (w : Bool) (pick : ℕ → Bool) (c : Config) → swept w pick zero c ≡ c
unfolding swept
swept_zero w pick c = fun_ext (λ m. rw (le-ltb m zero (omega arith)))

run_sweep : (w : Bool) (pick : ℕ → Bool) (n : ℕ) (c : Config) → run c (sweep w pick n) ≡ swept w pick n c
unfolding run sweep
run_sweep w pick zero c = sym (swept_zero w pick c)
run_sweep w pick (suc n) c = rw (run_append c (sweep w pick n), run_sweep w pick n c) (go (pick n) refl)
  where
    go : (t : Bool) → pick n ≡ t → run (swept w pick n c) (cond t (record { link = n; want = w } ∷ []) []) ≡ swept w pick (suc n) c
    go true e = swept_pick w pick n c e
    go false e = swept_skip w pick n c e

swept_at : (w : Bool) (pick : ℕ → Bool) (n : ℕ) (c : Config) → swept w pick n c n ≡ c n
unfolding swept
swept_at w pick n c = rw (le-ltb n n (omega arith))

-- a sweep is good where each switch picked is operable and in the other state, and every configuration on the way is safe
sweep_good : (net : Net) (op : ℕ → Type 0) (w : Bool) (pick : ℕ → Bool) (c : Config)
    → ((l : ℕ) → pick l ≡ true → op l) → ((l : ℕ) → pick l ≡ true → c l ≡ not w)
    → ((k : ℕ) → Safe net.grid (swept w pick k c)) → (n : ℕ) → Good net op c (sweep w pick n)
unfolding sweep Good
sweep_good net op w pick c ops states safes zero = tt
sweep_good net op w pick c ops states safes (suc n) =
    good_append net op c (sweep w pick n) _ (sweep_good net op w pick c ops states safes n) (rw (run_sweep w pick n c) (go (pick n) refl))
  where
    go : (t : Bool) → pick n ≡ t → Good net op (swept w pick n c) (cond t (record { link = n; want = w } ∷ []) [])
    go true e = (
      record { operable = ops n e; changes = swept_at w pick n c ∙ states n e; safe = rw (swept_pick w pick n c e) (safes (suc n)) },
      tt,
    )
    go false e = tt

cost_sweep : (net : Net) (w : Bool) (pick : ℕ → Bool) (n : ℕ) → steps_cost net (sweep w pick n) ≡ sum_to n (λ l. gate (pick l) (net.cost l))
unfolding steps_cost sweep sum_to
cost_sweep net w pick zero = refl
cost_sweep net w pick (suc n) = rw (cost_append net (sweep w pick n), cost_sweep net w pick n) (go (pick n))
  where
    go : (t : Bool) → sum_to n (λ l. gate (pick l) (net.cost l)) + steps_cost net (cond t (record { link = n; want = w } ∷ []) [])
        ≡ sum_to n (λ l. gate (pick l) (net.cost l)) + gate t (net.cost n)
    go true = omega arith
    go false = omega arith

-- a sweep operates each switch that it picks once
operations_sweep : (w : Bool) (pick : ℕ → Bool) (l n : ℕ) → operations l (sweep w pick n) ≡ gate (ltb l n && pick l) 1
unfolding operations sweep
operations_sweep w pick l zero = rw (le-ltb l zero (omega arith))
operations_sweep w pick l (suc n) =
    rw (operations_append l (sweep w pick n), operations_sweep w pick l n) (go (pick n) refl (eqb n l) refl)
  where
    go : (t : Bool) → pick n ≡ t → (u : Bool) → eqb n l ≡ u
        → gate (ltb l n && pick l) 1 + operations l (cond t (record { link = n; want = w } ∷ []) []) ≡ gate (ltb l (suc n) && pick l) 1
    go true e true q =
        rw (q, le-ltb l n (omega (arith, eqb-true n l q)), lt-ltb l (suc n) (omega (arith, eqb-true n l q)), ← eqb-true n l q, e)
    go false e true q =
        rw (le-ltb l n (omega (arith, eqb-true n l q)), lt-ltb l (suc n) (omega (arith, eqb-true n l q)), ← eqb-true n l q, e)
    go true e false q = rw (q, ltb_suc l n (λ r. eqb-false n l q (sym r))) (omega arith)
    go false e false q = rw (ltb_suc l n (λ r. eqb-false n l q (sym r))) (omega arith)

-- ---- what any good list of steps does

pub run_safe : (net : Net) (op : ℕ → Type 0) (c : Config) (q : List Step) → Safe net.grid c → Good net op c q → Safe net.grid (run c q)
unfolding run Good
run_safe net op c [] s g = s
run_safe net op c (x ∷ q) s g = run_safe net op (put c x.link x.want) q g.0.safe g.1

-- only operable switches change
pub run_keeps : (net : Net) (op : ℕ → Type 0) (c : Config) (q : List Step) (l : ℕ) → (op l → ⊥) → Good net op c q → run c q l ≡ c l
unfolding run Good put
run_keeps net op c [] l h g = refl
run_keeps net op c (x ∷ q) l h g =
    run_keeps net op (put c x.link x.want) q l h g.1
    ∙ rw (ne_eqb l x.link (λ e. h (subst op (sym e) g.0.operable)))

differ_self : (b : Bool) → differ b b ≡ false
differ_self true = refl
differ_self false = refl

differ_differ : (s f : Bool) → differ s (differ s f) ≡ f
differ_differ true true = refl
differ_differ true false = refl
differ_differ false f = refl

-- the switches changed, operated at the start, give what the steps reach
pub flip_changed : (net : Net) (q : List Step) → flip net.start_closed (changed net q) ≡ run net.start_closed q
unfolding flip changed
flip_changed net q = fun_ext (λ l. differ_differ (net.start_closed l) (run net.start_closed q l))

differs_operable : (net : Net) (op : ℕ → Type 0) (c : Config) (q : List Step) (l : ℕ) → Good net op c q → differ (c l) (run c q l) ≡ true → op l
unfolding run Good put
differs_operable net op c [] l g d = absurd (false≢true (sym (differ_self (c l)) ∙ d))
differs_operable net op c (x ∷ q) l g d = go (eqb l x.link) refl (differs_operable net op (put c x.link x.want) q l g.1)
  where
    go : (t : Bool) → eqb l x.link ≡ t → (differ (put c x.link x.want l) (run (put c x.link x.want) q l) ≡ true → op l) → op l
    go true e ih = subst op (sym (eqb-true l x.link e)) g.0.operable
    go false e ih = ih (rw e d)

pub changed_operable : (net : Net) (op : ℕ → Type 0) (q : List Step) → Good net op net.start_closed q
    → (l : ℕ) → changed net q l ≡ true → op l
unfolding changed
changed_operable net op q g l d = differs_operable net op net.start_closed q l g d

-- the switches whose state two configurations differ in cost no more than the steps between the two
differ_cost : (net : Net) (c : Config) (q : List Step) → sum_to net.grid.K (λ l. gate (differ (c l) (run c q l)) (net.cost l)) ≤ steps_cost net q
unfolding run steps_cost put
differ_cost net c [] = simp (differ_self, sum_to_none) (omega arith)
differ_cost net c (s ∷ q) =
    omega (
      arith,
      differ_cost net c' q,
      sum_to_mono net.grid.K before (λ l. after l + now l) (λ l _. point l (eqb l s.link) refl),
      sum_to_add net.grid.K after now,
      sum_to_at net.cost s.link net.grid.K,
      gate_le (ltb s.link net.grid.K) (net.cost s.link),
    )
  where
    c' : Config
    c' = put c s.link s.want

    before : ℕ → ℕ
    before l = gate (differ (c l) (run c' q l)) (net.cost l)

    after : ℕ → ℕ
    after l = gate (differ (c' l) (run c' q l)) (net.cost l)

    now : ℕ → ℕ
    now l = gate (eqb l s.link) (net.cost l)

    point : (l : ℕ) (t : Bool) → eqb l s.link ≡ t → before l ≤ after l + now l
    point l true e = rw e (omega (arith, gate_le (differ (c l) (run c' q l)) (net.cost l)))
    point l false e = rw e (omega arith)

pub changed_steps_cost : (net : Net) (q : List Step) → switches_cost net (changed net q) ≤ steps_cost net q
unfolding switches_cost changed
changed_steps_cost net q = differ_cost net net.start_closed q

-- ---- the printed form of a set

-- a switch's state on the way: t and u say whether it is below the bound of the closings and of the openings, s is its state at the start,
-- d whether it is operated
end_state : (t s d : Bool) → (d ≡ true → t ≡ true) → cond (t && (d && not s)) true (cond (t && (d && s)) false s) ≡ differ s d
end_state true true true h = refl
end_state true true false h = refl
end_state true false true h = refl
end_state true false false h = refl
end_state false true true h = absurd (false≢true (h refl))
end_state false true false h = refl
end_state false false true h = h refl
end_state false false false h = refl

closing_state : (t u s d : Bool) → (d ≡ true → u ≡ true)
    → cond (t && (d && not s)) true (cond (u && (d && s)) false s) ≡ true → differ s d ≡ true
closing_state t u true false h e = refl
closing_state t u false true h e = refl
closing_state true true false false h e = e
closing_state true false false false h e = e
closing_state false true false false h e = e
closing_state false false false false h e = e
closing_state true true true true h e = e
closing_state false true true true h e = e
closing_state true false true true h e = h refl
closing_state false false true true h e = h refl

opening_state : (b s : Bool) → cond b false s ≡ true → s ≡ true
opening_state true s e = absurd (false≢true e)
opening_state false s e = e

opened_state : (b s : Bool) → not s ≡ true → cond b false s ≡ false
opened_state true s e = refl
opened_state false true e = sym e
opened_state false false e = refl

split_cost : (d s : Bool) (x : ℕ) → gate (d && s) x + gate (d && not s) x ≡ gate d x
split_cost true true x = omega arith
split_cost true false x = omega arith
split_cost false s x = omega arith

split_once : (t d s : Bool) → gate (t && (d && s)) 1 + gate (t && (d && not s)) 1 ≡ gate (d && t) 1
split_once true true s = split_cost true s 1
split_once true false s = refl
split_once false true s = refl
split_once false false s = refl

opens : Net → (ℕ → Bool) → ℕ → Bool
opens net D l = D l && net.start_closed l

closes : Net → (ℕ → Bool) → ℕ → Bool
closes net D l = D l && not (net.start_closed l)

opened : Net → (ℕ → Bool) → Config
opened net D = swept false (opens net D) net.grid.K net.start_closed

-- "It operates each of its switches once"
pub printed_once : (net : Net) (D : ℕ → Bool) (l : ℕ) → operations l (printed_form net D) ≡ gate (D l && ltb l net.grid.K) 1
unfolding printed_form opens closes
printed_once net D l =
    operations_append l (sweep false (opens net D) net.grid.K) (sweep true (closes net D) net.grid.K)
    ∙ ap₂ ◌+◌ (operations_sweep false (opens net D) l net.grid.K) (operations_sweep true (closes net D) l net.grid.K)
    ∙ split_once (ltb l net.grid.K) (D l) (net.start_closed l)

module _ (net : Net) (D : ℕ → Bool) (inside : (l : ℕ) → D l ≡ true → l < net.grid.K) where
  swept_all : swept true (closes net D) net.grid.K (opened net D) ≡ flip net.start_closed D
  unfolding swept flip opens closes opened
  swept_all = fun_ext (λ l. end_state (ltb l net.grid.K) (net.start_closed l) (D l) (λ d. lt-ltb l net.grid.K (inside l d)))

  pub printed_run : run net.start_closed (printed_form net D) ≡ flip net.start_closed D
  unfolding printed_form opens closes opened
  printed_run =
      rw (
        run_append net.start_closed,
        run_sweep false (opens net D) net.grid.K net.start_closed,
        run_sweep true (closes net D) net.grid.K (opened net D),
      ) swept_all

  pub printed_good : (op : ℕ → Type 0) → ((l : ℕ) → D l ≡ true → op l)
      → Safe net.grid net.start_closed → Safe net.grid (flip net.start_closed D) → Good net op net.start_closed (printed_form net D)
  unfolding printed_form opens closes opened swept flip
  printed_good op ops start-safe end-safe =
      good_append net op _ _ _
      (sweep_good net op false (opens net D) net.start_closed (λ l h. ops l (and_left (D l) _ h)) (λ l h. and_right (D l) _ h)
      (λ k. opening_safe net.grid _ _ (λ l e. opening_state (ltb l k && opens net D l) (net.start_closed l) e) start-safe) net.grid.K)
      (rw (run_sweep false (opens net D) net.grid.K net.start_closed)
      (sweep_good net op true (closes net D) (opened net D) (λ l h. ops l (and_left (D l) _ h))
      (λ l h. opened_state (ltb l net.grid.K && opens net D l) (net.start_closed l) (and_right (D l) _ h))
      (λ k. opening_safe net.grid _ _
      (λ l e. closing_state (ltb l k) (ltb l net.grid.K) (net.start_closed l) (D l) (λ d. lt-ltb l net.grid.K (inside l d)) e) end-safe)
      net.grid.K))

  pub printed_steps_cost : steps_cost net (printed_form net D) ≡ switches_cost net D
  unfolding printed_form opens closes switches_cost
  printed_steps_cost =
      cost_append net (sweep false (opens net D) net.grid.K) (sweep true (closes net D) net.grid.K)
      ∙ ap₂ ◌+◌ (cost_sweep net false (opens net D) net.grid.K) (cost_sweep net true (closes net D) net.grid.K)
      ∙ sym (sum_to_add net.grid.K _ _)
      ∙ sum_to_ext net.grid.K _ _ (λ l _. split_cost (D l) (net.start_closed l) (net.cost l))

-- ---- the central theorem: for any task, that is any goal, any set of operable switches and any pricing, a valid list of steps, however it goes, is matched by the
-- printed form of the switches that it leaves changed, which is valid, operates each of them once and no other, and costs no more

pub matched : (net : Net) (t : Task net) → Lawful net t → Safe net.grid net.start_closed
    → (q : List Step) → Valid net t.operable t.goal q → Matched net t.operable t.goal t.cost q
matched net task laws safe q v = record {
  valid = record {
    good = printed_good net (changed net q) below task.operable (changed_operable net task.operable q v.good) safe
        (rw (flip_changed net q) (run_safe net task.operable net.start_closed q safe v.good));
    meets = rw (printed_run net (changed net q) below, flip_changed net q) v.meets;
  };
  once = λ l. printed_once net (changed net q) l ∙ counted l (changed net q l) refl;
  cheaper = omega (arith, laws.pricing.printed (changed net q) below, laws.pricing.at_most q);
}
  where
    below : (l : ℕ) → changed net q l ≡ true → l < net.grid.K
    below l d = laws.inside l (changed_operable net task.operable q v.good l d)

    counted : (l : ℕ) (t : Bool) → changed net q l ≡ t → gate (t && ltb l net.grid.K) 1 ≡ gate t 1
    counted l true d = rw (lt-ltb l net.grid.K (below l d))
    counted l false d = refl

-- The recursion over all sets of operable switches keeps the promise: each set that works is compared, and a valid plan's changes are one.
-- Assumes nothing.
use Prim.Native.Nat.{ℕ, ◌≤◌, ◌<◌}
use mathlib.Core.Path.{◌≡◌, refl, sym, ◌∙◌, subst}
use mathlib.Core.Bool.{Bool, true, false, ◌&&◌}
use mathlib.Core.List.{List}
use lib.Dec.{ltb}
use borrow.Author.Tests.{lt-ltb}
use native.Mathlib.Omega.{arith}
use Rattle.feeding.specs.Below.{gate}
use Rattle.feeding.specs.Networks.{Net, Formed}
use Rattle.feeding.specs.Parts.{Config}
use Rattle.feeding.specs.Safety.{Safe, safe?}
use Rattle.feeding.specs.Restoration.{operables_by}
use Rattle.feeding.specs.Plans.{Step, Valid, run, operations, printed_form, flip, changed, Matched}
use Rattle.feeding.specs.Costs.{set_cost}
use Rattle.feeding.proofs.Below.{and_left, and_right, and_both}
use Rattle.feeding.proofs.Decided.{safe?_sound, safe?_complete}
use Rattle.feeding.proofs.Lows.{those_in, those_out, those_rising}
use Rattle.feeding.proofs.Printed.{printed_once, printed_run, printed_good, changed_operable, run_safe, matched}
use Rattle.feeding.specs.Tasks.{Task, Lawful, restoration}
use Rattle.feeding.proofs.Tasks.{restoration_lawful}
use Rattle.plan_problem.specs.Choosing.{RestoresBy, PickedBy, NoCheaperThanBy, PromisedBy, Promised, NoPlanBy, NoPlan, CostsLeastBy}
use Rattle.plan_problem.specs.Choosing.{Choice, nothing, chosen, Preference, no_dearer, best, works_by, planned_by, planned}
use Rattle.plan_problem.proofs.Preferring.{Lists, like_operable, operable_like, IfChosen, Reaches, Fits, First, best_fits, best_reaches, best_first}
use Rattle.plan_problem.proofs.Preferring.{no_dearer_in, no_dearer_out, no_dearer_orders}

-- ---- the promise, for any task

-- what a choice promises
abbrev pub PromisedChoiceBy : (net : Net) → Task net → Choice → Type 0
PromisedChoiceBy net t nothing = NoPlanBy net t.operable t.goal
PromisedChoiceBy net t (chosen D) = PromisedBy net t.operable t.goal t.cost (printed_form net D) (t.set_cost D)

-- the test passes a set exactly when the configuration with its switches operated is safe and meets the goal
pub record Tests (net : Net) (goal : Config → Type 0) (works : (ℕ → Bool) → Bool) : Type 0 where
  pub safe : (D : ℕ → Bool) → works D ≡ true → Safe net.grid (flip net.start_closed D)
  pub meets : (D : ℕ → Bool) → works D ≡ true → goal (flip net.start_closed D)
  pub complete : (D : ℕ → Bool) → Safe net.grid (flip net.start_closed D) → goal (flip net.start_closed D) → works D ≡ true

-- the two tests of `works_by`
works_both : (net : Net) (meets : Config → Bool) (D : ℕ → Bool)
    → works_by net meets D ≡ (safe? net.grid (flip net.start_closed D) && meets (flip net.start_closed D))
unfolding works_by
works_both net meets D = go (safe? net.grid (flip net.start_closed D))
  where
    go : (t : Bool) → elim t [ true ↦ meets (flip net.start_closed D) | false ↦ false ] ≡ (t && meets (flip net.start_closed D))
    go true = refl
    go false = refl

works_tests : (net : Net) → Formed net.grid → (t : Task net) → Lawful net t → Tests net t.goal (works_by net t.meets?)
works_tests net formed task laws = record {
  safe = λ D w. safe?_sound net.grid formed _ (and_left (safe? net.grid (flip net.start_closed D)) _ (sym (works_both net task.meets? D) ∙ w));
  meets = λ D w. laws.meets _ (and_right (safe? net.grid (flip net.start_closed D)) _ (sym (works_both net task.meets? D) ∙ w));
  complete = λ D s r. works_both net task.meets? D
      ∙ and_both (safe? net.grid (flip net.start_closed D)) _ (safe?_complete net.grid formed _ s) (laws.met _ r);
}

operables_listed : (net : Net) (t : Task net) → Lawful net t → Lists t.operable (operables_by net t.operable?)
unfolding operables_by
operables_listed net t laws = record {
  rising = those_rising net.grid.K t.operable?;
  only = λ l m. laws.tells l (those_out net.grid.K t.operable? l m).1;
  all = λ l o. those_in net.grid.K t.operable? l (laws.inside l o) (laws.told l o);
}

module _ (net : Net) (formed : Formed net.grid) (task : Task net) (laws : Lawful net task) (start-safe : Safe net.grid net.start_closed) where
  abbrev works : (ℕ → Bool) → Bool
  works = works_by net task.meets?

  abbrev ls : List ℕ
  ls = operables_by net task.operable?

  tests : Tests net task.goal works
  tests = works_tests net formed task laws

  listed : Lists task.operable ls
  listed = operables_listed net task laws

  -- by the least cost
  abbrev prefers : Preference
  prefers = no_dearer task.set_cost

  -- the recursion's choice
  abbrev found : Choice
  found = best prefers works (λ _. false) ls

  -- the set of a valid printed form works
  restores_works : (D : ℕ → Bool) → RestoresBy net task.operable task.goal D → works D ≡ true
  restores_works D r =
      tests.complete D (subst (Safe net.grid) last (run_safe net task.operable net.start_closed (printed_form net D) start-safe r.valid.good))
      (subst task.goal last r.valid.meets)
    where
      last : run net.start_closed (printed_form net D) ≡ flip net.start_closed D
      last = printed_run net D (λ l d. laws.inside l (r.operable l d))

  -- and the printed form of a set of operable switches that works is valid
  works_restores : (D : ℕ → Bool) → ((l : ℕ) → D l ≡ true → task.operable l) → works D ≡ true → RestoresBy net task.operable task.goal D
  works_restores D ops w = record {
    operable = ops;
    valid = record {
      good = printed_good net D below task.operable ops start-safe (tests.safe D w);
      meets = subst task.goal (sym (printed_run net D below)) (tests.meets D w);
    };
  }
    where
      below : (l : ℕ) → D l ≡ true → l < net.grid.K
      below l d = laws.inside l (ops l d)

  -- a valid plan is matched by the printed form of what it leaves changed
  match : (q : List Step) → Valid net task.operable task.goal q → Matched net task.operable task.goal task.cost q
  match q v = matched net task laws start-safe q v

  changed_restores : (q : List Step) → Valid net task.operable task.goal q → RestoresBy net task.operable task.goal (changed net q)
  changed_restores q v = record { operable = changed_operable net task.operable q v.good; valid = (match q v).valid }

  -- where the printed form of a set is valid, one is chosen, and is no dearer than that set
  restores_least : (D : ℕ → Bool) → RestoresBy net task.operable task.goal D → Reaches prefers D found
  restores_least D r =
      best_reaches prefers (no_dearer_orders task.set_cost) works (λ _. false) ls D (like_operable task.operable ls listed D r.operable) (restores_works D r)

  restores_cost : (D : ℕ → Bool) → RestoresBy net task.operable task.goal D → task.cost (printed_form net D) ≡ task.set_cost D
  restores_cost D r = laws.pricing.printed D (λ l d. laws.inside l (r.operable l d))

  module _ (D : ℕ → Bool) (is : found ≡ chosen D) where
    fits : Fits prefers (no_dearer_orders task.set_cost) works (λ _. false) ls D
    fits = subst (IfChosen (Fits prefers (no_dearer_orders task.set_cost) works (λ _. false) ls)) is
        (best_fits prefers (no_dearer_orders task.set_cost) works (λ _. false) ls)

    restores : RestoresBy net task.operable task.goal D
    restores = works_restores D (operable_like task.operable ls listed D fits.like) fits.passes

    own_cost : task.cost (printed_form net D) ≡ task.set_cost D
    own_cost = restores_cost D restores

    -- no valid plan is cheaper
    none_less : (q : List Step) → Valid net task.operable task.goal q → task.set_cost D ≤ task.cost q
    none_less q v = omega (arith, least, restores_cost (changed net q) (changed_restores q v), (match q v).cheaper)
      where
        least : task.set_cost D ≤ task.set_cost (changed net q)
        least = no_dearer_out task.set_cost D (changed net q) (subst (Reaches prefers (changed net q)) is (restores_least (changed net q) (changed_restores q v)))

    once : (l : ℕ) → operations l (printed_form net D) ≡ gate (D l) 1
    once l = printed_once net D l ∙ go (D l) refl
      where
        go : (t : Bool) → D l ≡ t → gate (t && ltb l net.grid.K) 1 ≡ gate t 1
        go true d = rw (lt-ltb l net.grid.K (laws.inside l (restores.operable l d)))
        go false d = refl

    picked : PickedBy net task.operable task.goal task.cost D
    picked = record {
      restores = restores;
      cheapest = λ D' r. omega (arith, own_cost, none_less (printed_form net D') r.valid);
      first = λ D' r e. before D' r (no_dearer_in task.set_cost D' D (omega (arith, e, own_cost, restores_cost D' r)));
    }
      where
        before : (D' : ℕ → Bool) → RestoresBy net task.operable task.goal D' → First prefers (no_dearer_orders task.set_cost) works D' D
        before D' r =
            subst (IfChosen (First prefers (no_dearer_orders task.set_cost) works D')) is
            (best_first prefers (no_dearer_orders task.set_cost) works (λ _. false) ls D' listed.rising (like_operable task.operable ls listed D' r.operable) (restores_works D' r))

    every : (q : List Step) → Valid net task.operable task.goal q → NoCheaperThanBy net task.operable task.goal task.cost (task.set_cost D) q
    every q v = record {
      at_least = none_less q v;
      none_cheaper = λ e q' v'. omega (arith, e, none_less q' v');
      equal = λ f. omega (arith, f (printed_form net D) restores.valid, own_cost, none_less q v);
    }

    promised : PromisedBy net task.operable task.goal task.cost (printed_form net D) (task.set_cost D)
    promised = record { valid = restores.valid; set = D; form = refl; once = once; own = sym own_cost; picked = picked; every = every }

  pub best_promised : PromisedChoiceBy net task (planned_by net task)
  unfolding planned_by
  best_promised = go found refl
    where
      go : (c : Choice) → found ≡ c → PromisedChoiceBy net task c
      go nothing e = λ q v. subst (Reaches prefers (changed net q)) e (restores_least (changed net q) (changed_restores q v))
      go (chosen D) e = promised D e

-- ---- document 01

abbrev pub PromisedChoice : Net → Choice → Type 0
PromisedChoice net nothing = NoPlan net
PromisedChoice net (chosen D) = Promised net (printed_form net D) (set_cost net D)

pub planned_promised : (net : Net) → Formed net.grid → Safe net.grid net.start_closed → PromisedChoice net (planned net)
planned_promised net formed start-safe = go (planned net) (best_promised net formed (restoration net) (restoration_lawful net formed) start-safe)
  where
    go : (c : Choice) → PromisedChoiceBy net (restoration net) c → PromisedChoice net c
    go nothing p = p
    go (chosen D) p = p

-- there is one cheapest cost
pub cheapest_unique : (net : Net) (op : ℕ → Type 0) (goal : Config → Type 0) (price : List Step → ℕ) (a b : ℕ) → CostsLeastBy net op goal price a
    → CostsLeastBy net op goal price b → a ≡ b
cheapest_unique net op goal price a b x y = omega (arith, x.own, y.own, x.least y.plan y.valid, y.least x.plan x.valid)

-- a printed plan's cost is the cheapest one
pub promised_least : (net : Net) (op : ℕ → Type 0) (goal : Config → Type 0) (price : List Step → ℕ) (q : List Step) (cost : ℕ)
    → PromisedBy net op goal price q cost → CostsLeastBy net op goal price cost
promised_least net op goal price q cost p = record { plan = q; valid = p.valid; own = sym p.own; least = λ q' v. (p.every q' v).at_least }

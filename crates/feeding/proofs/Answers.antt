-- Rules 14 to 18 exactly: `acceptance` gives the answer that the paper asks for, and that answer is the only one. Each place is the one lowest.
-- Assumes nothing.
use Prim.Native.Nat.{ℕ, ◌<◌}
use mathlib.Core.Path.{◌≡◌, refl, sym, ap, ◌∙◌, subst}
use mathlib.Core.Bool.{Bool, true, false}
use lib.Dec.{ltb}
use lib.ListN.{length}
use borrow.Author.Tests.{ltb-true, ltb-false, lt-ltb, le-ltb}
use native.Mathlib.Omega.{arith}
use Rattle.std.specs.Prelude.{Result, Ok, Err}
use Rattle.network.specs.declared.refusal.Refusal.{Refusal}
use Rattle.network.specs.declared.refusal.Rule.{Rule}
use Rattle.network.specs.declared.refusal.Rule.TheVariants.{NotATree, TwoSources, FaultWithSource, Overloaded, TooManyOperable}
use Rattle.feeding.specs.Acceptance.{AnsweredBy, not_a_tree, two_sources, fault_with_source, overloaded, too_many, accepted}
use Rattle.feeding.specs.Acceptance.{safety, limited, and_then, acceptance_by}
use Rattle.feeding.specs.Below.{Lowest}
use Rattle.feeding.specs.Loads.{lowest_over}
use Rattle.feeding.specs.Loads as Loads
use Rattle.feeding.specs.Networks.{Net, Formed}
use Rattle.feeding.specs.Restoration.{Operables, operables_by}
use Rattle.feeding.specs.Safety.{Tree, Paired, FaultLive, tree_place, pair_place, fault_place}
use Rattle.feeding.proofs.Decided.{tree_place_lem, pair_place_lem, fault_place_lem, trees_kept}
use Rattle.feeding.proofs.Decided.{Kept, kept_safe_lem, safe_kept, kept_safety, broken, unbroken}
use Rattle.feeding.proofs.Forest.{safe_bridges}
use Rattle.feeding.proofs.Lows.{lowest_unique, those_in, those_out, those_rising, rising_unique, none_below, none_place}
use Rattle.feeding.proofs.Overloads.{over_lowest}
use Rattle.feeding.specs.Tasks.{Task, Lawful}

-- ---- the operable switches are counted

pub operables_counted : (net : Net) (task : Task net) → Lawful net task → Operables task.operable (length (operables_by net task.operable?))
unfolding operables_by
operables_counted net task laws = record {
  list = operables_by net task.operable?;
  rising = those_rising net.grid.K task.operable?;
  only = λ l m. laws.tells l (those_out net.grid.K task.operable? l m).1;
  all = λ l o. those_in net.grid.K task.operable? l (laws.inside l o) (laws.told l o);
  count = refl;
}

pub operables_unique : (op : ℕ → Type 0) (n m : ℕ) → Operables op n → Operables op m → n ≡ m
operables_unique op n m a b = a.count ∙ ap length same ∙ sym b.count
  where
    same : a.list ≡ b.list
    same = rising_unique a.list b.list a.rising b.rising (λ l k. b.all l (a.only l k)) (λ l k. a.all l (b.only l k))

-- ---- what `acceptance` gives, by the rules that are kept

abbrev refused : Rule → ℕ → Result Unit Refusal
refused r p = Err (record { rule = r; place = p })

-- the places of rules 14 to 17 at the start
abbrev tree : Net → ℕ
tree net = tree_place net.grid net.start_closed

abbrev pair : Net → ℕ
pair net = pair_place net.grid net.start_closed

abbrev fault : Net → ℕ
fault net = fault_place net.grid net.start_closed

abbrev over : Net → ℕ
over net = lowest_over net.grid net.start_closed

module _ (net : Net) (task : Task net) where
  -- whether a place is an element
  abbrev In : ℕ → Bool → Type 0
  In p t = ltb p net.grid.E ≡ t

  -- a refusal by rules 14 to 17 stands
  first : (r : Rule) (p : ℕ) → safety net.grid net.start_closed ≡ refused r p → acceptance_by net task ≡ refused r p
  unfolding acceptance_by and_then
  first r p h = ap (λ a. and_then a (limited task.limit (length (operables_by net task.operable?)))) h

  gives_14 : In (tree net) true → acceptance_by net task ≡ refused NotATree (tree net)
  unfolding safety
  gives_14 t = first NotATree _ (broken net.grid _ _ _ t)

  gives_15 : In (tree net) false → In (pair net) true → acceptance_by net task ≡ refused TwoSources (pair net)
  unfolding safety
  gives_15 t p = first TwoSources _ (unbroken net.grid _ _ _ t ∙ broken net.grid _ _ _ p)

  gives_16 : In (tree net) false → In (pair net) false → In (fault net) true → acceptance_by net task ≡ refused FaultWithSource (fault net)
  unfolding safety
  gives_16 t p f = first FaultWithSource _ (unbroken net.grid _ _ _ t ∙ unbroken net.grid _ _ _ p ∙ broken net.grid _ _ _ f)

  gives_17 : In (tree net) false → In (pair net) false → In (fault net) false → In (over net) true
      → acceptance_by net task ≡ refused Overloaded (over net)
  unfolding safety
  gives_17 t p f o = first Overloaded _
      (unbroken net.grid _ _ _ t ∙ unbroken net.grid _ _ _ p ∙ unbroken net.grid _ _ _ f ∙ broken net.grid _ _ _ o)

  gives_limited : Kept net.grid net.start_closed → acceptance_by net task ≡ limited task.limit (length (operables_by net task.operable?))
  unfolding acceptance_by and_then
  gives_limited k = ap (λ a. and_then a (limited task.limit (length (operables_by net task.operable?)))) (kept_safety net.grid net.start_closed k)

  gives_18 : Kept net.grid net.start_closed → ltb task.limit (length (operables_by net task.operable?)) ≡ true
      → acceptance_by net task ≡ refused TooManyOperable (length (operables_by net task.operable?))
  unfolding limited
  gives_18 k h = gives_limited k ∙ rw (h, limited)

  gives_accepted : Kept net.grid net.start_closed → ltb task.limit (length (operables_by net task.operable?)) ≡ false → acceptance_by net task ≡ Ok tt
  unfolding limited
  gives_accepted k h = gives_limited k ∙ rw (h, limited)

-- ---- the answer is as the paper says

module _ (net : Net) (formed : Formed net.grid) (task : Task net) (laws : Lawful net task) where
  abbrev Trees : Type 0
  Trees = (e : ℕ) → e < net.grid.E → Tree net.grid net.start_closed e

  trees : In net task (tree net) false → Trees
  trees = trees_kept net.grid formed net.start_closed

  low_tree : Lowest net.grid.E (λ e. ¬ Tree net.grid net.start_closed e) (tree net)
  low_tree = tree_place_lem net.grid formed net.start_closed

  low_pair : Lowest net.grid.E (Paired net.grid net.start_closed) (pair net)
  low_pair = pair_place_lem net.grid formed net.start_closed

  low_fault : Lowest net.grid.E (FaultLive net.grid net.start_closed) (fault net)
  low_fault = fault_place_lem net.grid formed net.start_closed

  low_over : Trees → Lowest net.grid.E (Loads.Overloaded net.grid net.start_closed) (over net)
  low_over t = over_lowest net.grid formed net.start_closed (safe_bridges net.grid formed net.start_closed t)

  -- no element breaks the rule where its place is none
  clear : {P : ℕ → Type 0} {x : ℕ} → Lowest net.grid.E P x → In net task x false → (e : ℕ) → e < net.grid.E → ¬ P e
  clear {P} {x} = none_below net.grid.E P x

  pub acceptance_answered : AnsweredBy net task.operable task.limit (acceptance_by net task)
  acceptance_answered =
      go (ltb (tree net) net.grid.E) refl (ltb (pair net) net.grid.E) refl
      (ltb (fault net) net.grid.E) refl (ltb (over net) net.grid.E) refl
    where
      counted : Kept net.grid net.start_closed → (x : Bool) → ltb task.limit (length (operables_by net task.operable?)) ≡ x → AnsweredBy net task.operable task.limit (acceptance_by net task)
      counted k true n =
          subst (AnsweredBy net task.operable task.limit) (sym (gives_18 net task k n))
          (too_many (kept_safe_lem net.grid formed net.start_closed k) (operables_counted net task laws) (ltb-true _ _ n))
      counted k false n =
          subst (AnsweredBy net task.operable task.limit) (sym (gives_accepted net task k n))
          (accepted (kept_safe_lem net.grid formed net.start_closed k) (operables_counted net task laws) (ltb-false _ _ n))

      go : (t : Bool) → In net task (tree net) t → (u : Bool) → In net task (pair net) u → (v : Bool) → In net task (fault net) v
          → (w : Bool) → In net task (over net) w → AnsweredBy net task.operable task.limit (acceptance_by net task)
      go true t u p v f w o = subst (AnsweredBy net task.operable task.limit) (sym (gives_14 net task t)) (not_a_tree (ltb-true _ _ t) low_tree)
      go false t true p v f w o = subst (AnsweredBy net task.operable task.limit) (sym (gives_15 net task t p)) (two_sources (trees t) (ltb-true _ _ p) low_pair)
      go false t false p true f w o =
          subst (AnsweredBy net task.operable task.limit) (sym (gives_16 net task t p f)) (fault_with_source (trees t) (clear low_pair p) (ltb-true _ _ f) low_fault)
      go false t false p false f true o =
          subst (AnsweredBy net task.operable task.limit) (sym (gives_17 net task t p f o))
          (overloaded (trees t) (clear low_pair p) (clear low_fault f) (ltb-true _ _ o) (low_over (trees t)))
      go false t false p false f false o = counted (record { tree = t; pair = p; fault = f; load = o }) (ltb task.limit (length (operables_by net task.operable?))) refl

  -- and the other way round: the place is none where no element breaks the rule
  kept : {P : ℕ → Type 0} {x : ℕ} → Lowest net.grid.E P x → ((e : ℕ) → e < net.grid.E → ¬ P e) → In net task x false
  kept {P} {x} = none_place net.grid.E P x

  grown : Trees → In net task (tree net) false
  grown t = kept low_tree (λ e k no. no (t e k))

  -- the lowest place is the computed one
  placed : {P : ℕ → Type 0} {x p : ℕ} → Lowest net.grid.E P x → Lowest net.grid.E P p → p < net.grid.E → (p ≡ x) × In net task x true
  placed {P} {x} {p} low low' k = let e : p ≡ x = lowest_unique net.grid.E P p x low' low in (e, lt-ltb x net.grid.E (omega arith))

  all_counted : {n : ℕ} → Operables task.operable n → n ≡ length (operables_by net task.operable?)
  all_counted {n} o = operables_unique task.operable n (length (operables_by net task.operable?)) o (operables_counted net task laws)

  pub answered_acceptance : (a : Result Unit Refusal) → AnsweredBy net task.operable task.limit a → a ≡ acceptance_by net task
  answered_acceptance _ (not_a_tree k low) =
      let r = placed low_tree low k in
      ap (refused NotATree) r.0 ∙ sym (gives_14 net task r.1)
  answered_acceptance _ (two_sources t k low) =
      let r = placed low_pair low k in
      ap (refused TwoSources) r.0 ∙ sym (gives_15 net task (grown t) r.1)
  answered_acceptance _ (fault_with_source t p k low) =
      let r = placed low_fault low k in
      ap (refused FaultWithSource) r.0 ∙ sym (gives_16 net task (grown t) (kept low_pair p) r.1)
  answered_acceptance _ (overloaded t p f k low) =
      let r = placed (low_over t) low k in
      ap (refused Overloaded) r.0 ∙ sym (gives_17 net task (grown t) (kept low_pair p) (kept low_fault f) r.1)
  answered_acceptance _ (too_many safe count more) =
      let e = all_counted count in
      ap (refused TooManyOperable) e ∙ sym (gives_18 net task (safe_kept net.grid formed net.start_closed safe) (lt-ltb _ _ (rw e at more)))
  answered_acceptance _ (accepted safe count few) =
      sym (gives_accepted net task (safe_kept net.grid formed net.start_closed safe) (le-ltb _ _ (rw (all_counted count) at few)))

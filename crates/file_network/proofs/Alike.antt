-- The law of reading: a run of records that looks at the same bytes elsewhere has the same outcome there, each record by the law of one record, the run by induction; and so has what is read behind it.
-- Assumes nothing.
use mathlib.Core.Path.{◌≡◌, refl, sym, ap, subst, ◌∙◌}
use mathlib.Core.Bool.{Bool, true, false}
use mathlib.Core.List.{List}
use Prim.Native.Nat.{ℕ, zero, suc, ◌+◌, ◌≤◌}
use native.Mathlib.Nat.{add-zero, add_assoc}
use native.Mathlib.Omega.{arith}
use lib.Dec.{ltb}
use lib.ListN.{length}
use Rattle.std.specs.Prelude.{Result, Err, Ok}
use Rattle.network.specs.declared.refusal.Refusal.{Refusal}
use Rattle.file_records.specs.declared.Record.{Record}
use Rattle.network.specs.declared.refusal.Rule.{Rule}
use Rattle.network.specs.declared.refusal.Rule.TheVariants.{ByteAfterEnd}
use Rattle.network.specs.Refusals.{pick}
use Rattle.file_stages.specs.declared.Stage.{Stage}
use Rattle.file_fields.specs.Views.{Seen}
use Rattle.file_records.specs.Records.{due_at, recorded}
use Rattle.file_records.proofs.Due.{Whole, next_at, due_kept, due_refused}
use Rattle.file_records.proofs.SameBytes.{SameFrom, same_on, past_same}
use Rattle.file_records.proofs.Alike.{looks_at, framed_looks, placed, due_alike}
use Rattle.file_network.specs.Runs.{Reading, refused, reached, read_on, records, as_is}
use Rattle.file_network.specs.Inputs.{closed}
use Rattle.file_network.proofs.Runs.{records_none, records_refused, records_suc}
use Rattle.file_network.proofs.Looking.{looks, look_then, look_grows, looks_suc, looks_refused, run_looked}

-- the same rule as far behind `at` as behind `at'`, or the same stage there with related values
pub data Moved {A B : Type 0} (R : A → B → Type 0) (at at' : ℕ) (o : Reading A) (o' : Reading B) : Type 0 where
  both_refused :
      (rule : Rule) (i : ℕ) →
      o ≡ refused (record { rule = rule; place = at + i }) →
      o' ≡ refused (record { rule = rule; place = at' + i }) →
      Moved R at at' o o'
  both_reached :
      (i : ℕ) (stage : Stage) (a : A) (b : B) → o ≡ reached (at + i) stage a → o' ≡ reached (at' + i) stage b → R a b → Moved R at at' o o'

module _ {A B : Type 0} {R : A → B → Type 0} where
  pub moved_by : {at at' : ℕ} {o p : Reading A} {o' p' : Reading B} → o ≡ p → o' ≡ p' → Moved R at at' p p' → Moved R at at' o o'
  moved_by e e' (both_refused rule i h h') = both_refused rule i (e ∙ h) (e' ∙ h')
  moved_by e e' (both_reached i stage a b h h' r) = both_reached i stage a b (e ∙ h) (e' ∙ h') r

  -- from a place further on
  pub moved_from : {at at' : ℕ} {o : Reading A} {o' : Reading B} (k : ℕ) → Moved R (at + k) (at' + k) o o' → Moved R at at' o o'
  moved_from {at} {at'} k (both_refused rule i h h') = both_refused rule (k + i) (rw add_assoc at h) (rw add_assoc at h')
  moved_from {at} {at'} k (both_reached i stage a b h h' r) = both_reached (k + i) stage a b (rw add_assoc at h) (rw add_assoc at h') r

  -- at the place itself
  pub refused_here : (rule : Rule) (at at' : ℕ) → Moved R at at' (refused (record { rule = rule; place = at })) (refused (record { rule = rule; place = at' }))
  refused_here rule at at' =
      both_refused rule 0 (ap (λ (k : ℕ). refused (record { rule = rule; place = k })) (sym (add-zero at)))
      (ap (λ (k : ℕ). refused (record { rule = rule; place = k })) (sym (add-zero at')))

  pub reached_here : (at at' : ℕ) (stage : Stage) (a : A) (b : B) → R a b → Moved R at at' (reached at stage a) (reached at' stage b)
  reached_here at at' stage a b =
      both_reached 0 stage a b (ap (λ (k : ℕ). reached k stage a) (sym (add-zero at))) (ap (λ (k : ℕ). reached k stage b) (sym (add-zero at')))

-- one step after another
pub moved_then :
    {A B C D : Type 0} {R : A → B → Type 0} {S : C → D → Type 0} (at at' : ℕ) (o : Reading A) (o' : Reading B) (f : ℕ → Stage → A → Reading C)
    (g : ℕ → Stage → B → Reading D) →
    Moved R at at' o o' →
    ((i : ℕ) (stage : Stage) (a : A) (b : B) →
    o ≡ reached (at + i) stage a → R a b → Moved S (at + i) (at' + i) (f (at + i) stage a) (g (at' + i) stage b)) →
    Moved S at at' (read_on o f) (read_on o' g)
moved_then {A} {B} at at' o o' f g (both_refused rule i h h') then =
    both_refused rule i (ap (λ (x : Reading A). read_on x f) h) (ap (λ (x : Reading B). read_on x g) h')
moved_then {A} {B} at at' o o' f g (both_reached i stage a b h h' r) then =
    moved_by (ap (λ (x : Reading A). read_on x f) h) (ap (λ (x : Reading B). read_on x g) h') (moved_from i (then i stage a b h r))

-- from one place, with equal values, they are equal
pub moved_equal : {A : Type 0} {at : ℕ} {o o' : Reading A} → Moved ◌≡◌ at at o o' → o ≡ o'
moved_equal (both_refused rule i h h') = h ∙ sym h'
moved_equal {A} {at} (both_reached i stage a b h h' r) = h ∙ ap (reached (at + i) stage) r ∙ sym h'

module _ {A B : Type 0} (R : A → B → Type 0) (s t : List ℕ) (seen : A → Seen) (seen' : B → Seen) (into : ℕ → A → A) (into' : ℕ → B → B) (upto : ℕ)
    (views : (a : A) (b : B) → R a b → seen a ≡ seen' b) (P : Stage → Type 0) (stays : (st : Stage) → P st → P (next_at st))
    (taken : (at at' : ℕ) (st : Stage) (kind long : ℕ) (next : Stage) (a : A) (b : B)
    → P st → Whole s (seen a) at st kind long next → SameFrom s t at at' upto → at + long ≤ upto → R a b → R (into at a) (into' at' b)) where
  -- the same record is due where the values read before it are related: their views are equal
  due_there : (at at' : ℕ) (stage : Stage) (a : A) (b : B) → SameFrom s t at at' upto → at + looks_at s at stage ≤ upto → R a b
      → due_at t (seen' b) at' stage ≡ placed at' (due_at s (seen a) at stage)
  due_there at at' stage a b same far r =
      ap (λ (v : Seen). due_at t v at' stage) (sym (views a b r)) ∙ due_alike s t at at' upto stage same far (seen a)

  -- the same bytes as far as the run looks: the same outcome, moved, with related values, where related values have equal views and each record of the
  -- stages that P names is taken in alike
  pub alike : (n at at' : ℕ) (stage : Stage) (a : A) (b : B) → P stage → SameFrom s t at at' upto → looks s seen into n at stage a ≤ upto
      → R a b → Moved R at at' (records s seen into n at stage a) (records t seen' into' n at' stage b)
  alike zero at at' stage a b p same far r =
      moved_by (records_none s seen into at stage a) (records_none t seen' into' at' stage b) (reached_here at at' stage a b r)
  alike (suc n) at at' stage a b p same far r =
      go (due_at s (seen a) at stage) refl (λ long next a' b'. alike n (at + long) (at' + long) next a' b')
    where
      go : (f : Result Record Refusal) → due_at s (seen a) at stage ≡ f
          → ((long : ℕ) (next : Stage) (a' : A) (b' : B) → P next → SameFrom s t (at + long) (at' + long) upto
          → looks s seen into n (at + long) next a' ≤ upto → R a' b'
          → Moved R (at + long) (at' + long) (records s seen into n (at + long) next a') (records t seen' into' n (at' + long) next b'))
          → Moved R at at' (records s seen into (suc n) at stage a) (records t seen' into' (suc n) at' stage b)
      go (Ok found) d further =
          let w = due_kept s (seen a) at stage d in
          let whole = framed_looks s at stage found.kind found.length found.next w.framed in
          let rest : looks s seen into n (at + found.length) found.next (into at a) ≤ upto = rw (looks_suc s seen into n at stage a found.kind found.length found.next d) at far in
          let room : at + found.length ≤ upto = omega (arith, (run_looked s seen into n (at + found.length) found.next (into at a)).from) in
          let there : due_at t (seen' b) at' stage ≡ recorded found.kind found.length found.next =
          due_there at at' stage a b same (omega arith) r ∙ ap (placed at') d in
          let on : P found.next = subst P (sym w.framed.next_at_lem) (stays stage p) in
          moved_by (records_suc s seen into n at stage a found.kind found.length found.next d)
          (records_suc t seen' into' n at' stage b found.kind found.length found.next there)
          (moved_from found.length
          (further found.length found.next (into at a) (into' at' b) on (same_on same found.length) rest
          (taken at at' stage found.kind found.length found.next a b p w same room r)))
      go (Err x) d further =
          let looked : at + looks_at s at stage ≤ upto = rw (looks_refused s seen into n at stage a x d) at far in
          let there = due_there at at' stage a b same looked r ∙ ap (placed at') d in
          let place_is : x ≡ record { rule = x.rule; place = at } = ap (λ (k : ℕ). record { rule = x.rule; place = k }) (due_refused s (seen a) at stage d).1 in
          moved_by (records_refused s seen into (suc n) at stage a x (omega arith) d ∙ ap refused place_is)
          (records_refused t seen' into' (suc n) at' stage b _ (omega arith) there)
          (refused_here x.rule at at')

-- two parts, one behind the other, that look at the same bytes elsewhere
pub then_alike :
    {A C : Type 0} (at at' upto l : ℕ) (look : ℕ → Stage → A → ℕ) (o o' : Reading A) (f g : ℕ → Stage → A → Reading C) →
    (l ≤ upto → Moved ◌≡◌ at at' o o') →
    ((p : ℕ) (stage : Stage) (a : A) → o ≡ reached p stage a → l ≤ look p stage a) →
    ((i : ℕ) (stage : Stage) (a : A) →
    o ≡ reached (at + i) stage a → look (at + i) stage a ≤ upto → Moved ◌≡◌ (at + i) (at' + i) (f (at + i) stage a) (g (at' + i) stage a)) →
    look_then o l look ≤ upto →
    Moved ◌≡◌ at at' (read_on o f) (read_on o' g)
then_alike {A} at at' upto l look o o' f g first grows then far =
    moved_then at at' o o' f g (first (omega (arith, look_grows l look o grows)))
    (λ i stage a b h r.
    subst (λ (x : A). Moved ◌≡◌ (at + i) (at' + i) (f (at + i) stage a) (g (at' + i) stage x)) r (then i stage a h (rw h at far)))

module _ (s t : List ℕ) (upto : ℕ) where
  -- a head or an end record
  pub one_alike : {A : Type 0} (seen : A → Seen) (at at' : ℕ) (stage : Stage) (a : A) → SameFrom s t at at' upto → looks s seen as_is 1 at stage a ≤ upto
      → Moved ◌≡◌ at at' (records s seen as_is 1 at stage a) (records t seen as_is 1 at' stage a)
  one_alike seen at at' stage a same far =
      alike ◌≡◌ s t seen seen as_is as_is upto (λ a b r. ap seen r) (λ st. Unit {0}) (λ st p. tt) (λ at at' st kind long next a b p w same room r. r)
      1 at at' stage a a tt same far refl

  -- rule 13
  pub closed_alike : {A : Type 0} (at at' : ℕ) (stage : Stage) (a : A) → SameFrom s t at at' upto → at + 1 ≤ upto
      → Moved ◌≡◌ at at' (closed s at stage a) (closed t at' stage a)
  closed_alike {A} at at' stage a same far = rw (← past_same same far) (go (ltb at (length s)))
    where
      go : (b : Bool) → Moved ◌≡◌ at at' (pick b (refused (record { rule = ByteAfterEnd; place = at })) (reached at stage a))
          (pick b (refused (record { rule = ByteAfterEnd; place = at' })) (reached at' stage a))
      go true = refused_here ByteAfterEnd at at'
      go false = reached_here at at' stage a a refl

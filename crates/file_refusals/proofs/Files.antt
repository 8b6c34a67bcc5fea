-- The records of a list of stages, one behind the other: what the reader's runs reach or refuse, by induction over the records; and that there is one end, or one first break, and not both.
-- Assumes nothing.
use mathlib.Core.Path.{◌≡◌, refl, sym, ap, subst, ◌∙◌}
use mathlib.Core.List.{List, [], ◌∷◌, ◌++◌}
use Prim.Native.Nat.{ℕ, zero, suc, ◌+◌}
use lib.ListN.{replicate}
use Rattle.std.specs.Prelude.{Result, Err, Ok}
use Rattle.file_records.specs.declared.Record.{Record}
use Rattle.network.specs.declared.refusal.Refusal.{Refusal}
use Rattle.file_stages.specs.declared.Stage.{Stage}
use Rattle.file_fields.specs.Views.{Seen}
use Rattle.file_records.specs.Records.{length_field, due_at, recorded}
use Rattle.file_records.proofs.Due.{next_at, due_kept}
use Rattle.file_network.specs.Runs.{Reading, refused, reached, read_on, on_found, records, records_by}
use Rattle.file_refusals.specs.Breaking.{Keeps}
use Rattle.file_refusals.specs.Files.{Stand, none, next, FirstBreak, here, later}
use Rattle.file_refusals.proofs.Record.{Told, breaks_once, keeps_unbroken, due_breaks, due_keeps}

module _ (s : List ℕ) (E K : ℕ) where
  -- ---- one behind the other

  pub stand_append : {a b : List Stage} {at mid end : ℕ} → Stand s E K a at mid → Stand s E K b mid end → Stand s E K (a ++ b) at end
  stand_append none y = y
  stand_append (next k x) y = next k (stand_append x y)

  pub stand_split : (a b : List Stage) {at end : ℕ} → Stand s E K (a ++ b) at end
      → (mid : ℕ) × Stand s E K a at mid × Stand s E K b mid end
  stand_split [] b {at = at} st = (at, none, st)
  stand_split (x ∷ a) b (next k st) = let r = stand_split a b st in (r.0, next k r.1, r.2)

  pub break_front : (b : List Stage) {a : List Stage} {at : ℕ} {f : Refusal} → FirstBreak s E K a at f → FirstBreak s E K (a ++ b) at f
  break_front b (here x) = here x
  break_front b (later k x) = later k (break_front b x)

  pub break_behind : {a b : List Stage} {at mid : ℕ} {f : Refusal} → Stand s E K a at mid → FirstBreak s E K b mid f → FirstBreak s E K (a ++ b) at f
  break_behind none y = y
  break_behind (next k x) y = later k (break_behind x y)

  -- ---- one end, or one first break, and not both

  pub stand_once : {a : List Stage} {at e e' : ℕ} → Stand s E K a at e → Stand s E K a at e' → e ≡ e'
  stand_once none none = refl
  stand_once (next k x) (next k' y) = stand_once x y

  pub break_once : {a : List Stage} {at : ℕ} {f g : Refusal} → FirstBreak s E K a at f → FirstBreak s E K a at g → f ≡ g
  break_once {at = at} (here {r = q} x) (here {r = r} y) = ap (λ z. record { rule = z; place = at }) (breaks_once s E K at _ q r x y)
  break_once (here x) (later k y) = absurd (keeps_unbroken s E K _ _ _ k x)
  break_once (later k x) (here y) = absurd (keeps_unbroken s E K _ _ _ k y)
  break_once (later k x) (later k' y) = break_once x y

  pub stand_unbroken : {a : List Stage} {at end : ℕ} {f : Refusal} → Stand s E K a at end → ¬ FirstBreak s E K a at f
  stand_unbroken {f = f} (none {at = at}) x5 = elim x5 [ ]
  stand_unbroken (next k x) (here y) = keeps_unbroken s E K _ _ _ k y
  stand_unbroken (next k x) (later k' y) = stand_unbroken x y

  -- ---- the reader's runs

  -- what reading gives, in the paper's words: where these records end, or the first break of one
  abbrev pub Ran : {A : Type 0} → List Stage → ℕ → Reading A → Type 0
  Ran stages at (refused f) = FirstBreak s E K stages at f
  Ran stages at (reached end last a) = Stand s E K stages at end

  ran_next : {A : Type 0} (at : ℕ) (stage : Stage) (rest : List Stage) (o : Reading A) → Keeps s E K at stage
      → Ran rest (at + length_field s at) o → Ran (stage ∷ rest) at o
  ran_next at stage rest (refused f) k x = later k x
  ran_next at stage rest (reached end last a) k x = next k x

  ran_behind : {B : Type 0} (a b : List Stage) (at mid : ℕ) (o : Reading B) → Stand s E K a at mid → Ran b mid o → Ran (a ++ b) at o
  ran_behind a b at mid (refused g) y z = break_behind y z
  ran_behind a b at mid (reached end last w) y z = stand_append y z

  pub ran_then : {A B : Type 0} (a b : List Stage) (at : ℕ) (o : Reading A) (f : ℕ → Stage → A → Reading B) → Ran a at o
      → ((end : ℕ) (last : Stage) (v : A) → o ≡ reached end last v → Ran b end (f end last v)) → Ran (a ++ b) at (read_on o f)
  ran_then a b at (refused g) f x rest = break_front b x
  ran_then a b at (reached end last v) f x rest = ran_behind a b at end (f end last v) x (rest end last v refl)

  -- one record, and what is read behind it
  then_ran : {A : Type 0} (seen : Seen) (at : ℕ) (stage : Stage) (rest : List Stage) (f : ℕ → Stage → Reading A) → Told s E K at stage seen
      → ((kind long : ℕ) (after : Stage) → due_at s seen at stage ≡ recorded kind long after → Ran rest (at + long) (f long after))
      → Ran (stage ∷ rest) at (on_found (due_at s seen at stage) f)
  then_ran seen at stage rest f told more = go (due_at s seen at stage) refl
    where
      go : (d : Result Record Refusal) → due_at s seen at stage ≡ d → Ran (stage ∷ rest) at (on_found d f)
      go (Ok found) d =
          ran_next at stage rest (f found.length found.next) (due_keeps s E K at stage seen told d)
          (subst (λ (l : ℕ). Ran rest (at + l) (f found.length found.next)) (due_kept s seen at stage d).framed.long_is (more found.kind found.length found.next d))
      go (Err g) d =
          let b = due_breaks s E K at stage seen told g d in
          subst (FirstBreak s E K (stage ∷ rest) at) (ap (λ (p : ℕ). record { rule = g.rule; place = p }) (sym b.1)) (here b.0)

  pub one_ran : {A : Type 0} (seen : A → Seen) (into : ℕ → A → A) (at : ℕ) (stage : Stage) (a : A) → Told s E K at stage (seen a)
      → Ran (stage ∷ []) at (records s seen into 1 at stage a)
  unfolding records_by
  one_ran seen into at stage a told =
      then_ran (seen a) at stage [] (λ long after. records s seen into 0 (at + long) after (into at a)) told (λ kind long after d. none)

  -- records of one stage: Q is what is kept of how many are left, of an offset and of what was read before it, and tells what their rules ask
  pub many_ran : {A : Type 0} (seen : A → Seen) (into : ℕ → A → A) (stage : Stage) (Q : (left at : ℕ) → A → Type 0) → next_at stage ≡ stage
      → ((left at : ℕ) (a : A) → Q left at a → Told s E K at stage (seen a))
      → ((left at : ℕ) (a : A) (kind long : ℕ) (after : Stage) → due_at s (seen a) at stage ≡ recorded kind long after → Q (suc left) at a
      → Q left (at + long) (into at a))
      → (n at : ℕ) (a : A) → Q n at a → Ran (replicate n stage) at (records s seen into n at stage a)
  unfolding records_by
  many_ran seen into stage Q back told keeps zero at a q = none
  many_ran seen into stage Q back told keeps (suc n) at a q =
      then_ran (seen a) at stage (replicate n stage) (λ long after. records s seen into n (at + long) after (into at a)) (told (suc n) at a q)
      (λ kind long after d.
      subst (λ (st : Stage). Ran (replicate n stage) (at + long) (records s seen into n (at + long) st (into at a)))
      (sym ((due_kept s (seen a) at stage d).framed.next_at_lem ∙ back))
      (many_ran seen into stage Q back told keeps n (at + long) (into at a) (keeps n at a kind long after d q)))

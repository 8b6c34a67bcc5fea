-- How far a run of records looks at the bytes: as far as each of its records, by induction over them; what is read behind it looks on from its end.
-- Assumes nothing.
use mathlib.Core.Path.{◌≡◌, refl, ap, ◌∙◌}
use mathlib.Core.List.{List}
use Prim.Native.Nat.{ℕ, zero, suc, ◌+◌, ◌*◌, ◌≤◌}
use native.Mathlib.Nat.{mul-suc}
use native.Mathlib.Omega.{arith}
use Rattle.std.specs.Prelude.{Result, Err, Ok}
use Rattle.file_records.specs.declared.Record.{Record}
use Rattle.network.specs.declared.refusal.Refusal.{Refusal}
use Rattle.file_stages.specs.declared.Stage.{Stage}
use Rattle.file_fields.specs.Views.{Seen}
use Rattle.file_records.specs.Records.{due_at, recorded}
use Rattle.file_records.proofs.Due.{next_at, longest, due_kept}
use Rattle.file_records.proofs.Alike.{looks_at, looks_longest}
use Rattle.file_network.specs.Runs.{Reading, refused, reached, read_on, records}
use Rattle.file_network.proofs.Runs.{records_none, records_refused, records_suc}

abbrev pub looks_on : Result Record Refusal → ℕ → (ℕ → Stage → ℕ) → ℕ
looks_on (Ok found) l f = f found.length found.next
looks_on (Err r) l f = l

-- the offset up to which a run of so many records looks
unfoldable pub looks : {A : Type 0} (s : List ℕ) (seen : A → Seen) (into : ℕ → A → A) → ℕ → ℕ → Stage → A → ℕ
looks s seen into zero at stage a = at
looks s seen into (suc count) at stage a =
    looks_on (due_at s (seen a) at stage) (at + looks_at s at stage) (λ long next. looks s seen into count (at + long) next (into at a))

-- the offset up to which two parts look, one behind the other
abbrev pub look_then : {A : Type 0} → Reading A → ℕ → (ℕ → Stage → A → ℕ) → ℕ
look_then (refused r) l f = l
look_then (reached at stage a) l f = f at stage a

-- rule 13 looks one byte further
abbrev pub look_behind : {A : Type 0} → ℕ → Stage → A → ℕ
look_behind at stage a = at + 1

-- what is read from an offset on looks no less far than that, and up to its end where it is whole
pub record Looked {A : Type 0} (at : ℕ) (o : Reading A) (l : ℕ) : Type 0 where
  pub from : at ≤ l
  pub ends : (end : ℕ) (last : Stage) (a : A) → o ≡ reached end last a → l ≡ end

pub then_looked :
    {A B : Type 0} (at l : ℕ) (look : ℕ → Stage → A → ℕ) (o : Reading A) (f : ℕ → Stage → A → Reading B) →
    Looked at o l →
    ((p : ℕ) (stage : Stage) (a : A) → Looked p (f p stage a) (look p stage a)) →
    Looked at (read_on o f) (look_then o l look)
then_looked at l look (refused r) f first then =
    record { from = first.from; ends = λ end last b e. let z : ◌≡◌ {A = ℕ} 0 1 = cc in absurd (omega arith) }
then_looked at l look (reached p stage a) f first then =
    record { from = omega (arith, first.from, first.ends p stage a refl, (then p stage a).from); ends = (then p stage a).ends }

-- no less far than the first
pub look_grows :
    {A : Type 0} (l : ℕ) (look : ℕ → Stage → A → ℕ) (o : Reading A) →
    ((at : ℕ) (stage : Stage) (a : A) → o ≡ reached at stage a → l ≤ look at stage a) →
    l ≤ look_then o l look
look_grows l look (refused r) grows = omega arith
look_grows l look (reached at stage a) grows = grows at stage a refl

-- no further than a bound of both
pub look_most :
    {A : Type 0} (l bound : ℕ) (look : ℕ → Stage → A → ℕ) (o : Reading A) →
    l ≤ bound →
    ((at : ℕ) (stage : Stage) (a : A) → o ≡ reached at stage a → look at stage a ≤ bound) →
    look_then o l look ≤ bound
look_most l bound look (refused r) first then = first
look_most l bound look (reached at stage a) first then = then at stage a refl

module _ {A : Type 0} (s : List ℕ) (seen : A → Seen) (into : ℕ → A → A) where
  looks_none : (at : ℕ) (stage : Stage) (a : A) → looks s seen into 0 at stage a ≡ at
  unfolding looks
  looks_none at stage a = refl

  pub looks_suc :
      (n at : ℕ) (stage : Stage) (a : A) (kind long : ℕ) (next : Stage) →
      due_at s (seen a) at stage ≡ recorded kind long next →
      looks s seen into (suc n) at stage a ≡ looks s seen into n (at + long) next (into at a)
  unfolding looks
  looks_suc n at stage a kind long next d =
      ap (λ (f : Result Record Refusal). looks_on f (at + looks_at s at stage) (λ long next. looks s seen into n (at + long) next (into at a))) d

  pub looks_refused :
      (n at : ℕ) (stage : Stage) (a : A) (r : Refusal) →
      due_at s (seen a) at stage ≡ Err r →
      looks s seen into (suc n) at stage a ≡ at + looks_at s at stage
  unfolding looks
  looks_refused n at stage a r d =
      ap (λ (f : Result Record Refusal). looks_on f (at + looks_at s at stage) (λ long next. looks s seen into n (at + long) next (into at a))) d

  pub run_looked : (n at : ℕ) (stage : Stage) (a : A) → Looked at (records s seen into n at stage a) (looks s seen into n at stage a)
  run_looked zero at stage a =
      rw (records_none s seen into at stage a, looks_none at stage a) (record { from = omega arith; ends = λ end last b e. cc })
  run_looked (suc n) at stage a = go (due_at s (seen a) at stage) refl (run_looked n)
    where
      go : (f : Result Record Refusal) →
          due_at s (seen a) at stage ≡ f →
          ((at' : ℕ) (stage' : Stage) (a' : A) → Looked at' (records s seen into n at' stage' a') (looks s seen into n at' stage' a')) →
          Looked at (records s seen into (suc n) at stage a) (looks s seen into (suc n) at stage a)
      go (Ok found) d rest =
          let further = rest (at + found.length) found.next (into at a) in
          rw (records_suc s seen into n at stage a found.kind found.length found.next d, looks_suc n at stage a found.kind found.length found.next d)
          (record { from = omega (arith, further.from); ends = further.ends })
      go (Err r) d rest =
          rw (records_refused s seen into (suc n) at stage a r (omega arith) d, looks_refused n at stage a r d)
          (record { from = omega arith; ends = λ end last b e. let z : ◌≡◌ {A = ℕ} 0 1 = cc in absurd (omega arith) })

  -- no further than the longest records of its stage
  pub looks_one : (at : ℕ) (stage : Stage) (a : A) → 4 ≤ longest stage → looks s seen into 1 at stage a ≤ at + longest stage
  looks_one at stage a four = go (due_at s (seen a) at stage) refl
    where
      go : (f : Result Record Refusal) → due_at s (seen a) at stage ≡ f → looks s seen into 1 at stage a ≤ at + longest stage
      go (Ok found) d =
          omega (
            arith,
            looks_suc 0 at stage a found.kind found.length found.next d,
            looks_none (at + found.length) found.next (into at a),
            (due_kept s (seen a) at stage d).framed.most,
          )
      go (Err r) d = omega (arith, looks_refused 0 at stage a r d, looks_longest s at stage four)

  pub looks_most :
      (stage : Stage) → next_at stage ≡ stage → 4 ≤ longest stage → (n at : ℕ) (a : A) → looks s seen into n at stage a ≤ at + longest stage * n
  looks_most stage back four zero at a = omega (arith, looks_none at stage a)
  looks_most stage back four (suc n) at a = go (due_at s (seen a) at stage) refl (looks_most stage back four n)
    where
      go : (f : Result Record Refusal) →
          due_at s (seen a) at stage ≡ f →
          ((at' : ℕ) (a' : A) → looks s seen into n at' stage a' ≤ at' + longest stage * n) →
          looks s seen into (suc n) at stage a ≤ at + longest stage * suc n
      go (Ok found) d more =
          let f = (due_kept s (seen a) at stage d).framed in
          let next_is : found.next ≡ stage = f.next_at_lem ∙ back in
          let rest : looks s seen into n (at + found.length) found.next (into at a) ≤ at + found.length + longest stage * n = rw next_is (more (at + found.length) (into at a)) in
          omega (arith, looks_suc n at stage a found.kind found.length found.next d, f.most, mul-suc (longest stage) n)
      go (Err r) d more = omega (arith, looks_refused n at stage a r d, looks_longest s at stage four, mul-suc (longest stage) n)

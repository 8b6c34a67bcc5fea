-- What a run of records gives, a record at a time, and what it keeps, counts and ends at: by induction, what each record found keeps.
-- Assumes nothing.
use mathlib.Core.Path.{◌≡◌, refl, sym, ap, ◌∙◌}
use mathlib.Core.List.{List}
use Prim.Native.Nat.{ℕ, zero, suc, ◌+◌, ◌-◌, ◌*◌, ◌<◌, ◌≤◌}
use native.Mathlib.Nat.{not-suc-le-zero, mul-suc, mul-zero}
use native.Mathlib.Omega.{arith}
use Rattle.std.specs.Prelude.{Result, Err, Ok}
use Rattle.file_records.specs.declared.Record.{Record}
use Rattle.network.specs.declared.refusal.Refusal.{Refusal}
use Rattle.file_stages.specs.declared.Stage.{Stage}
use Rattle.file_fields.specs.Views.{Seen}
use Rattle.file_records.specs.Records.{due_at, recorded}
use Rattle.file_network.specs.Runs.{refused, reached, on_found, records, records_by}
use Rattle.file_records.proofs.Due.{Whole, next_at, longest, due_kept}

module _ {A : Type 0} (s : List ℕ) (seen : A → Seen) (into : ℕ → A → A) where
  pub records_none : (at : ℕ) (stage : Stage) (a : A) → records s seen into 0 at stage a ≡ reached at stage a
  unfolding records_by
  records_none at stage a = refl

  pub records_refused :
      (n at : ℕ) (stage : Stage) (a : A) (r : Refusal) →
      0 < n →
      due_at s (seen a) at stage ≡ Err r →
      records s seen into n at stage a ≡ refused r
  unfolding records_by
  records_refused zero at stage a r h e = absurd (not-suc-le-zero h)
  records_refused (suc n) at stage a r h e =
      ap (λ (f : Result Record Refusal). on_found f (λ long next. records s seen into n (at + long) next (into at a))) e

  pub records_suc :
      (n at : ℕ) (stage : Stage) (a : A) (kind long : ℕ) (next : Stage) →
      due_at s (seen a) at stage ≡ recorded kind long next →
      records s seen into (suc n) at stage a ≡ records s seen into n (at + long) next (into at a)
  unfolding records_by
  records_suc n at stage a kind long next e =
      ap (λ (f : Result Record Refusal). on_found f (λ long next. records s seen into n (at + long) next (into at a))) e

  pub records_more :
      (n at : ℕ) (stage : Stage) (a : A) (kind long : ℕ) (next : Stage) →
      0 < n →
      due_at s (seen a) at stage ≡ recorded kind long next →
      records s seen into n at stage a ≡ records s seen into (n - 1) (at + long) next (into at a)
  records_more zero at stage a kind long next h e = absurd (not-suc-le-zero h)
  records_more (suc n) at stage a kind long next h e =
      let less : suc n - 1 ≡ n = omega arith in
      rw less (records_suc n at stage a kind long next e)

  -- one record more, behind a run
  pub records_behind :
      (n at : ℕ) (stage : Stage) (a : A) (at' : ℕ) (stage' : Stage) (a' : A) (kind long : ℕ) (next : Stage) →
      records s seen into n at stage a ≡ reached at' stage' a' →
      due_at s (seen a') at' stage' ≡ recorded kind long next →
      records s seen into (suc n) at stage a ≡ reached (at' + long) next (into at' a')
  records_behind zero at stage a at' stage' a' kind long next e d =
      let q = sym (records_none at stage a) ∙ e in
      let at_is : at ≡ at' = cc in
      let stage_is : stage ≡ stage' = cc in
      let a_is : a ≡ a' = cc in
      rw (at_is, stage_is, a_is)
      (records_suc 0 at' stage' a' kind long next d ∙ records_none (at' + long) next (into at' a'))
  records_behind (suc n) at stage a at' stage' a' kind long next e d =
      go (due_at s (seen a) at stage) refl
      (λ at'' stage'' a'' e'. records_behind n at'' stage'' a'' at' stage' a' kind long next e' d)
    where
      go : (f : Result Record Refusal) →
          due_at s (seen a) at stage ≡ f →
          ((at'' : ℕ) (stage'' : Stage) (a'' : A) →
          records s seen into n at'' stage'' a'' ≡ reached at' stage' a' →
          records s seen into (suc n) at'' stage'' a'' ≡ reached (at' + long) next (into at' a')) →
          records s seen into (suc (suc n)) at stage a ≡ reached (at' + long) next (into at' a')
      go (Ok found) d' rest =
          records_suc (suc n) at stage a found.kind found.length found.next d' ∙
          rest (at + found.length) found.next (into at a) (sym (records_suc n at stage a found.kind found.length found.next d') ∙ e)
      go (Err r) d' rest =
          let none = records_refused (suc n) at stage a r (omega arith) d' in
          let z : ◌≡◌ {A = ℕ} 0 1 = cc in
          absurd (omega arith)

  -- a property of the records left, the offset, the stage and the value
  pub records_keep :
      (P : ℕ → ℕ → Stage → A → Type 0) →
      ((n at : ℕ) (stage : Stage) (a : A) (kind long : ℕ) (next : Stage) →
      due_at s (seen a) at stage ≡ recorded kind long next → P (suc n) at stage a → P n (at + long) next (into at a)) →
      (n at : ℕ) (stage : Stage) (a : A) (end : ℕ) (last : Stage) (b : A) →
      P n at stage a →
      records s seen into n at stage a ≡ reached end last b →
      P 0 end last b
  records_keep P step zero at stage a end last b p e =
      let q = sym (records_none at stage a) ∙ e in
      let at_end : at ≡ end = cc in
      let st-end : stage ≡ last = cc in
      let a-end : a ≡ b = cc in
      rw (at_end, st-end, a-end) at p
  records_keep P step (suc n) at stage a end last b p e =
      go (due_at s (seen a) at stage) refl (λ at' stage' a'. records_keep P step n at' stage' a' end last b)
    where
      go : (f : Result Record Refusal) →
          due_at s (seen a) at stage ≡ f →
          ((at' : ℕ) (stage' : Stage) (a' : A) → P n at' stage' a' → records s seen into n at' stage' a' ≡ reached end last b → P 0 end last
          b) →
          P 0 end last b
      go (Ok found) d rest =
          rest (at + found.length) found.next (into at a) (step n at stage a found.kind found.length found.next d p)
          (sym (records_suc n at stage a found.kind found.length found.next d) ∙ e)
      go (Err r) d rest =
          let none = records_refused (suc n) at stage a r (omega arith) d in
          let z : ◌≡◌ {A = ℕ} 0 1 = cc in
          absurd (omega arith)

  -- the record of a number in a run at one stage: the records before it end at it, and it breaks no rule
  pub record Nth (at : ℕ) (stage : Stage) (a : A) (j : ℕ) : Type 0 where
    pub place : ℕ
    pub value : A
    pub before : records s seen into j at stage a ≡ reached place stage value
    pub kind : ℕ
    pub long : ℕ
    pub whole : Whole s (seen value) place stage kind long stage

  -- so many records of a stage are read, so many are left
  record SoFar (done n at : ℕ) (stage : Stage) (a : A) (left at' : ℕ) (stage' : Stage) (a' : A) : Type 0 where
    pub counted : done + left ≡ n
    pub before : records s seen into done at stage a ≡ reached at' stage a'
    pub at_most : at' ≤ at + longest stage * done
    pub stage_is : stage' ≡ stage

  module _ (n at : ℕ) (stage : Stage) (a : A) (end : ℕ) (last : Stage) (b : A)
      (run : records s seen into n at stage a ≡ reached end last b) where
    -- what no record changes, and what each record counts
    pub run_same : {B : Type 0} (f : A → B) → ((at : ℕ) (a : A) → f (into at a) ≡ f a) → f b ≡ f a
    run_same f same =
        records_keep (λ m at' stage' a'. f a' ≡ f a) (λ m at' stage' a' kind long next d p. same at' a' ∙ p) n at stage a end last b refl run

    pub run_count : (f : A → ℕ) → ((at : ℕ) (a : A) → f (into at a) ≡ f a + 1) → f b ≡ f a + n
    run_count f more =
        let left : f b + 0 ≡ f a + n =
        records_keep (λ m at' stage' a'. f a' + m ≡ f a + n)
        (λ m at' stage' a' kind long next d p. omega (arith, more at' a')) n at stage a end last b refl run
        in omega arith

    -- at a stage that its kinds lead back to
    module _ (back : next_at stage ≡ stage) where
      -- no record is longer than the stage's longest
      run_counted :
          (I : ℕ → A → Type 0) →
          I 0 a →
          ((done : ℕ) → done < n → (r : Nth at stage a done) → I done r.value → I (suc done) (into r.place r.value)) →
          (end ≤ at + longest stage * n) × (last ≡ stage) × I n b
      run_counted I first more =
          let r =
          records_keep
          (λ left at' stage' a'. (done : ℕ) × SoFar done n at stage a left at' stage' a' × I done a')
          (λ left at' stage' a' kind long next d p. step left at' stage' a' kind long next d p.0 p.1 p.2)
          n at stage a end last b (
            0,
            record { counted = omega arith; before = records_none at stage a; at_most = omega (arith, mul-zero (longest stage)); stage_is = refl },
            first,
          ) run
          in
          let all : r.0 ≡ n = omega (arith, r.1.counted) in
          let ends : end ≤ at + longest stage * n = rw (sym all) r.1.at_most in
          (ends, r.1.stage_is, rw all at r.2)
        where
          step : (left at' : ℕ) (stage' : Stage) (a' : A) (kind long : ℕ) (next : Stage) →
              due_at s (seen a') at' stage' ≡ recorded kind long next →
              (done : ℕ) →
              SoFar done n at stage a (suc left) at' stage' a' →
              I done a' →
              (done : ℕ) × SoFar done n at stage a left (at' + long) next (into at' a') × I done (into at' a')
          step left at' stage' a' kind long next d done p old =
              let here : due_at s (seen a') at' stage ≡ recorded kind long next = rw p.stage_is at d in
              let w = due_kept s (seen a') at' stage here in
              let next_is : next ≡ stage = w.framed.next_at_lem ∙ back in (
                suc done,
                record {
                  counted = omega (arith, p.counted);
                  before = rw next_is at (records_behind done at stage a at' stage a' kind long next p.before here);
                  at_most = omega (arith, p.at_most, w.framed.most, mul-suc (longest stage) done);
                  stage_is = next_is;
                },
                more done (omega (arith, p.counted))
                    (record { place = at'; value = a'; before = p.before; kind = kind; long = long; whole = rw next_is at w }) old,
              )

      -- what holds after so many records
      pub run_keeps :
          (I : ℕ → A → Type 0) →
          I 0 a →
          ((done : ℕ) → done < n → (r : Nth at stage a done) → I done r.value → I (suc done) (into r.place r.value)) →
          I n b
      run_keeps I first more = (run_counted I first more).2

      pub run_ends : (end ≤ at + longest stage * n) × (last ≡ stage)
      run_ends = let r = run_counted (λ k a'. Unit {0}) tt (λ done lt r old. tt) in (r.0, r.1)

  -- a run of one record
  pub record One (at : ℕ) (stage : Stage) (a : A) (end : ℕ) (last : Stage) (b : A) : Type 0 where
    pub kind : ℕ
    pub long : ℕ
    pub whole : Whole s (seen a) at stage kind long last
    pub ends : end ≡ at + long
    pub last_is : last ≡ next_at stage
    pub value_is : b ≡ into at a

  pub one_record :
      (at : ℕ) (stage : Stage) (a : A) (end : ℕ) (last : Stage) (b : A) →
      records s seen into 1 at stage a ≡ reached end last b →
      One at stage a end last b
  one_record at stage a end last b run = go (due_at s (seen a) at stage) refl
    where
      go : (f : Result Record Refusal) → due_at s (seen a) at stage ≡ f → One at stage a end last b
      go (Ok found) d =
          let w = due_kept s (seen a) at stage d in
          let only = records_suc 0 at stage a found.kind found.length found.next d ∙ records_none (at + found.length) found.next (into at a) in
          let next_is : found.next ≡ last = cc in
          record {
            kind = found.kind;
            long = found.length;
            whole = rw next_is at w;
            ends = cc;
            last_is = cc w.framed.next_at_lem;
            value_is = cc;
          }
      go (Err r) d =
          let none = records_refused 1 at stage a r (omega arith) d in
          let z : ◌≡◌ {A = ℕ} 0 1 = cc in
          absurd (omega arith)

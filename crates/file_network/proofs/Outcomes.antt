-- How far reading came decides what follows it, by cases on the outcome: laws of `read_on`, and of a run's turns as a loop makes them.
-- Assumes nothing.
use mathlib.Core.List.{List}
use mathlib.Core.Path.{◌≡◌, ap, sym, ◌∙◌}
use Prim.Native.Nat.{ℕ, ◌+◌, ◌-◌, ◌<◌, ◌≤◌}
use native.Mathlib.Omega.{arith}
use Rattle.std.specs.Prelude.{Ok, Err}
use Rattle.network.specs.declared.refusal.Refusal.{Refusal}
use Rattle.file_stages.specs.declared.Stage.{Stage}
use Rattle.file_fields.specs.Views.{Seen}
use Rattle.file_records.specs.declared.Record.{Record}
use Rattle.file_network.specs.declared.reader.Part.{Part}
use Rattle.file_records.specs.Records.{due_at}
use Rattle.file_network.specs.Runs.{Reading, refused, reached, read_on, records}
use Rattle.file_network.specs.Inputs.{part_of}
use lib.ListN.{length}
use Rattle.file_records.proofs.Due.{shortest, next_at, due_kept}
use Rattle.file_network.proofs.Runs.{records_none, records_refused, records_more}

module _ {A B : Type 0} (o : Reading A) (f : ℕ → Stage → A → Reading B) where
  -- a refusal is handed on
  pub part_refused : (r : Refusal) → Err r ≡ part_of o → refused r ≡ read_on o f
  part_refused r = go o
    where
      go : (p : Reading A) → Err r ≡ part_of p → refused r ≡ read_on p f
      go (refused q) h = let e : r ≡ q = cc in ap refused e
      go (reached at stage a) h = let z : ◌≡◌ {A = ℕ} 0 1 = cc in absurd (omega arith)

  -- what follows starts where reading came to
  pub part_reached :
      (part : Part A) →
      Ok part ≡ part_of o →
      (o ≡ reached part.at part.stage part.value) × (f part.at part.stage part.value ≡ read_on o f)
  part_reached part = go o
    where
      go : (p : Reading A) →
          Ok part ≡ part_of p →
          (p ≡ reached part.at part.stage part.value) × (f part.at part.stage part.value ≡ read_on p f)
      go (refused q) h = let z : ◌≡◌ {A = ℕ} 0 1 = cc in absurd (omega arith)
      go (reached at stage a) h =
          let e : ◌≡◌ {A = Part A} part (record { value = a; at = at; stage = stage }) = cc in (
            ap (λ (x : Part A). reached x.at x.stage x.value) (sym e),
            ap (λ (x : Part A). f x.at x.stage x.value) e,
          )

-- a loop over records keeps "what is left to read gives the whole outcome"
module _ {A : Type 0} (s : List ℕ) (seen : A → Seen) (into : ℕ → A → A) (o : Reading A) (left at : ℕ) (stage : Stage) (a : A)
    (inv : records s seen into left at stage a ≡ o) where
  pub run_done : left ≤ 0 → reached at stage a ≡ o
  run_done h = let z : left ≡ 0 = omega arith in sym (records_none s seen into at stage a) ∙ rw z at inv

  module _ (some : 0 < left) where
    pub run_refused : (r : Refusal) → Err r ≡ due_at s (seen a) at stage → refused r ≡ o
    run_refused r due = sym (records_refused s seen into left at stage a r some (sym due)) ∙ inv

    pub run_turn :
        (found : Record) (less : ℕ) →
        Ok found ≡ due_at s (seen a) at stage →
        less ≡ left - 1 →
        records s seen into less (at + found.length) found.next (into at a) ≡ o
    run_turn found less due e =
        rw e (sym (records_more s seen into left at stage a found.kind found.length found.next some (sym due)) ∙ inv)

-- a record found at a known stage: it fits, it is as long as the shortest there, and the stage gives what comes next
pub record Turn (s : List ℕ) (at : ℕ) (known : Stage) (long : ℕ) (next : Stage) : Type 0 where
  pub enough : at + shortest known ≤ length s
  pub fits : at + long ≤ length s
  pub next_is : next ≡ next_at known

pub turn_whole :
    (s : List ℕ) (seen : Seen) (at : ℕ) (stage known : Stage) (found : Record) →
    Ok found ≡ due_at s seen at stage →
    stage ≡ known →
    Turn s at known found.length found.next
turn_whole s seen at stage known found due e =
    let f = (due_kept s seen at known (rw e at (sym due))).framed in
    record { enough = omega (arith, f.enough, f.fits); fits = f.fits; next_is = f.next_at_lem }

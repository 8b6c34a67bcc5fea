-- Rule 13 behind a file: what the reading gives, by cases on how far it came.
-- Assumes nothing.
use mathlib.Core.Bool.{Bool, true, false}
use mathlib.Core.List.{List}
use mathlib.Core.Path.{◌≡◌, refl, ap}
use Prim.Native.Nat.{ℕ}
use native.Mathlib.Omega.{arith}
use lib.Dec.{ltb}
use lib.ListN.{length}
use Rattle.std.specs.Prelude.{Result, Ok, Err}
use Rattle.network.specs.declared.refusal.Refusal.{Refusal}
use Rattle.network.specs.declared.refusal.Rule.TheVariants.{ByteAfterEnd}
use Rattle.network.specs.Refusals.{pick}
use Rattle.file_network.specs.declared.reader.Part.{Part}
use Rattle.file_network.specs.Runs.{Reading, refused, reached, read_on}
use Rattle.file_network.specs.Inputs.{part_of, read_of, closed, ended_by}
use Rattle.file_network.proofs.Outcomes.{part_refused, part_reached}

-- a file that is refused gives that refusal, one that rule 13 passes what was read, one that it breaks its refusal
module _ {A : Type 0} (s : List ℕ) (o : Reading A) where
  pub unread : (r : Refusal) → Err r ≡ part_of o → Err r ≡ read_of (read_on o (closed s))
  unread r h = ap read_of (part_refused o (closed s) r h)

  module _ (part : Part A) (h : Ok part ≡ part_of o) where
    pub ended_accepted : (u : Unit) → Ok u ≡ ended_by s part.at → Ok part.value ≡ read_of (read_on o (closed s))
    ended_accepted u e = rw (← (part_reached o (closed s) part h).1) (by (ltb part.at (length s)) e)
      where
        by : (t : Bool) → Ok u ≡ pick {A = Result Unit Refusal} t (Err (record { rule = ByteAfterEnd; place = part.at })) (Ok tt) →
            Ok part.value ≡ read_of (pick t (refused (record { rule = ByteAfterEnd; place = part.at })) (reached part.at part.stage part.value))
        by true e = let z : ◌≡◌ {A = ℕ} 0 1 = cc in absurd (omega arith)
        by false e = refl

    pub ended_refused : (r : Refusal) → Err r ≡ ended_by s part.at → Err r ≡ read_of (read_on o (closed s))
    ended_refused r e = rw (← (part_reached o (closed s) part h).1) (by (ltb part.at (length s)) e)
      where
        by : (t : Bool) → Err r ≡ pick {A = Result Unit Refusal} t (Err (record { rule = ByteAfterEnd; place = part.at })) (Ok tt) →
            Err r ≡ read_of (pick t (refused (record { rule = ByteAfterEnd; place = part.at })) (reached part.at part.stage part.value))
        by true e = let same : r ≡ record { rule = ByteAfterEnd; place = part.at } = cc in ap Err same
        by false e = let z : ◌≡◌ {A = ℕ} 0 1 = cc in absurd (omega arith)

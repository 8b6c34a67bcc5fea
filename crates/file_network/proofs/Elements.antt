-- What a record of each kind of element states, and that it has the room for it: by the kind that the record has.
-- Assumes nothing.
use mathlib.Core.Path.{◌≡◌, sym}
use mathlib.Core.List.{List}
use Prim.Native.Nat.{ℕ}
use native.Mathlib.Omega.{arith}
use Rattle.std.specs.Prelude.{Ok}
use Rattle.file_stages.specs.declared.Stage.{Stage}
use Rattle.file_stages.specs.declared.Stage.TheVariants.{Elements}
use Rattle.file_fields.specs.Views.{Seen}
use Rattle.file_fields.specs.Fields.{length_of}
use Rattle.file_records.specs.Records.{kind_field, due_at}
use Rattle.file_records.proofs.Due.{Framed, due_kept}
use Rattle.file_records.specs.declared.Record.{Record}
use Rattle.file_network.specs.NetworkFiles.{narrow_element, wide_element, element_of, ElementThere}

pub element_narrow : (s : List ℕ) (at : ℕ) → kind_field s at ≡ 2 → element_of s at ≡ narrow_element s at
unfolding element_of
element_narrow s at h = rw h

pub element_wide : (s : List ℕ) (at : ℕ) → kind_field s at ≡ 7 → element_of s at ≡ wide_element s at
unfolding element_of
element_wide s at h = rw h

pub element_there : {s : List ℕ} {at kind long : ℕ} {next : Stage} → Framed s at Elements kind long next → ElementThere s at kind
unfolding length_of
element_there {s} {at} {kind} {long} f =
    record {
      kind_is = f.kind_is;
      narrow_fits = omega (arith, f.enough, f.fits);
      wide_fits = λ e. let long_is : long ≡ 14 = rw e at f.long_of in omega (arith, long_is, f.fits);
    }

-- the record found in a turn of the loop over the elements
pub element_turn :
    (s : List ℕ) (seen : Seen) (at : ℕ) (stage : Stage) (found : Record) →
    Ok found ≡ due_at s seen at stage →
    stage ≡ Elements →
    ElementThere s at found.kind
element_turn s seen at stage found due e = element_there (due_kept s seen at Elements (rw e at (sym due))).framed

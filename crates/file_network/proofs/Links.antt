-- What a record of each kind of link states as its guard, and that it has the room for it: by the kind that the record has.
-- Assumes nothing.
use mathlib.Core.Path.{◌≡◌, sym}
use mathlib.Core.List.{List}
use Prim.Native.Nat.{ℕ, ◌+◌}
use native.Mathlib.Omega.{arith}
use Rattle.std.specs.Prelude.{Ok}
use Rattle.file_records.specs.declared.Record.{Record}
use Rattle.network.specs.Networks.{no_guard}
use Rattle.file_stages.specs.declared.Stage.{Stage}
use Rattle.file_stages.specs.declared.Stage.TheVariants.{Links}
use Rattle.file_fields.specs.Views.{Seen}
use Rattle.file_fields.specs.Fields.{word, length_of}
use Rattle.file_records.specs.Records.{kind_field, due_at}
use Rattle.file_records.proofs.Due.{Framed, due_kept}
use Rattle.file_network.specs.NetworkFiles.{guard_of, LinkThere}

pub guard_none : (s : List ℕ) (at : ℕ) → kind_field s at ≡ 3 → guard_of s at ≡ no_guard
unfolding guard_of
guard_none s at h = rw h

pub guard_stated : (s : List ℕ) (at : ℕ) → kind_field s at ≡ 8 → guard_of s at ≡ word s (at + 12)
unfolding guard_of
guard_stated s at h = rw h

pub link_there : {s : List ℕ} {at kind long : ℕ} {next : Stage} → Framed s at Links kind long next → LinkThere s at kind
unfolding length_of
link_there {s} {at} {kind} {long} f =
    record {
      kind_is = f.kind_is;
      plain_fits = omega (arith, f.enough, f.fits);
      guarded_fits = λ e. let long_is : long ≡ 14 = rw e at f.long_of in omega (arith, long_is, f.fits);
    }

-- the record found in a turn of the loop over the links
pub link_turn :
    (s : List ℕ) (seen : Seen) (at : ℕ) (stage : Stage) (found : Record) →
    Ok found ≡ due_at s seen at stage →
    stage ≡ Links →
    LinkThere s at found.kind
link_turn s seen at stage found due e = link_there (due_kept s seen at Links (rw e at (sym due))).framed

-- What is read of a trial final is well formed, and its files stand behind one another: by the laws of reading.
-- Assumes nothing.
use mathlib.Core.Path.{◌≡◌}
use mathlib.Core.List.{List}
use Prim.Native.Nat.{ℕ, ◌≤◌}
use native.Mathlib.Omega.{arith}
use lib.ListN.{length}
use Rattle.std.specs.Prelude.{Ok}
use Rattle.file_stages.specs.declared.Stage.{Stage}
use Rattle.file_network.specs.Runs.{Reading, reached}
use Rattle.file_final.specs.declared.FinalRead.{FinalRead}
use Rattle.file_final.specs.Inputs.{final_input, files_input, final_read}
use Rattle.file_final.proofs.Answers.{was_whole}
use Rattle.file_final.proofs.Sizes.{TwoFormed, FinalSize, final_files, apart_files, final_size, apart_size, final_most, files_most, final_formed, files_formed}
use Rattle.feeding_acceptance.specs.Reading.{Bytes}
use Rattle.final_judge.specs.Finals.{ReadFormed}

formed_of : (o : Reading FinalRead) → ((at : ℕ) (stage : Stage) (v : FinalRead) → o ≡ reached at stage v → TwoFormed v × ((all : ℕ) × FinalSize all v × (all ≤ 6352)))
    → (r : FinalRead) → final_read o ≡ Ok r → ReadFormed r
formed_of o whole r e =
    let read = was_whole o r e in
    let w = whole read.at read.stage r read.is in
    record {
      net = w.0.net;
      first = w.0.first;
      second = w.0.second;
      first_behind = omega (arith, w.1.1.first_long);
      second_behind_lem = omega (arith, w.1.1.second_long);
      short = omega (arith, w.1.1.ends, w.1.2);
    }

pub formed_final : (s : List ℕ) → Bytes s → (r : FinalRead) → final_read (final_input s) ≡ Ok r → ReadFormed r
formed_final s bytes = formed_of (final_input s) (λ at stage v e.
    (final_formed s bytes at stage v e, (length s, final_size s at stage v (final_files s at stage v e), final_most s at stage v e)))

pub formed_files : (network first second : List ℕ) → Bytes network → (r : FinalRead) → final_read (files_input network first second) ≡ Ok r → ReadFormed r
formed_files network first second bytes = formed_of (files_input network first second) (λ at stage v e.
    (files_formed network first second bytes at stage v e, (_, apart_size network first second at stage v (apart_files network first second at stage v e), files_most network first second at stage v e)))

-- A text is put where it fits and leaves the buffer alone where not. By the lengths.
-- Assumes nothing.
use mathlib.Core.Path.{◌≡◌, ◌∙◌}
use mathlib.Core.List.{List}
use Prim.Native.Nat.{ℕ, ◌<◌, ◌≤◌}
use lib.ListN.{length}
use lib.Seq.{sets}
use borrow.Author.Tests.{lt-ltb, le-ltb}
use Rattle.network.proofs.Stores.{sets_front}
use Rattle.texts.specs.Texts.{in_front}
use Rattle.host_texts.specs.Fitting.{text_in}

pub without_room : (text buffer : List ℕ) → length buffer < length text → buffer ≡ text_in text buffer
unfolding text_in
without_room text buffer h = rw (lt-ltb (length buffer) (length text) h, text_in)

pub with_room : (text buffer after : List ℕ) → length text ≤ length buffer → after ≡ sets buffer 0 text → after ≡ text_in text buffer
unfolding text_in in_front
with_room text buffer after h put = put ∙ sets_front text buffer h ∙ rw (le-ltb (length buffer) (length text) h, text_in)

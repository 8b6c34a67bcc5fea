-- How far an input is read, by what a read answers.
-- Internal: no promise to a user is said by it.
-- Assumes nothing.
use Rattle.std.specs.Prelude.{◌≡◌, List, [], ◌++◌, ℕ, zero, suc, ◌+◌, ◌≤◌, min, length, take, Option, Result, Ok, Err}
use Rattle.std.specs.Io.KnownBytes.{Consumes, IsAtEnd}
use Rattle.streams.specs.declared.Input.{Input}
use Rattle.streams.specs.declared.Input.TheVariants as Input·

-- the first n of xs are in bounds, and are n. The second part follows from the first
abbrev pub IsPrefixLen : ℕ → List ℕ → Type 0
IsPrefixLen n xs = (n ≤ length xs) × (n ≡ length (take n xs))

-- where `at` bytes stood in a buffer and room is left for so many: a read answers an error, or 0 at the input's end, or the count of bytes that
-- came
unfoldable pub input_after : {E : Type 0} → Result ℕ E → ℕ → ℕ → Input
input_after (Err e) at room = Input·.Failed
input_after (Ok zero) at room = Input·.Whole at
input_after (Ok (suc k)) at room = Input·.More (at + min (suc k) room)

-- what was read so far stands in front of the buffer
abbrev pub Held : Input → List ℕ → Type 0
Held (Input·.More n) buffer = IsPrefixLen n buffer
Held (Input·.Whole n) buffer = IsPrefixLen n buffer
Held Input·.Failed buffer = Unit {0}

-- what was read before is kept, and is all where the input ends: `at` bytes, of which the buffer holds what fits
abbrev pub Grown : ℕ → Input → List ℕ → Type 0
Grown at (Input·.More n) buffer = min at (length buffer) ≤ n
Grown at (Input·.Whole n) buffer = n ≡ min at (length buffer)
Grown at Input·.Failed buffer = Unit {0}

-- nothing more is to be read: what was read stands in front of the buffer, or a read failed
abbrev pub Ended : Input → List ℕ → Type 0
Ended (Input·.More n) buffer = ⊥
Ended (Input·.Whole n) buffer = IsPrefixLen n buffer
Ended Input·.Failed buffer = Unit {0}

-- where it is known what a reader gives, before and after one read: the buffer shows the front that was read before and what the read brought
-- behind it, as far as it has room; an input that ended brought nothing, and nothing is left of it
abbrev pub Brings : List ℕ → Option (List ℕ) → Option (List ℕ) → Input → List ℕ → Type 0
Brings front old new (Input·.More n) buffer = (bs : List ℕ) × Consumes old new bs × (take n buffer ≡ take (length buffer) (front ++ bs))
Brings front old new (Input·.Whole n) buffer = IsAtEnd new × Consumes old new [] × (take n buffer ≡ take (length buffer) front)
Brings front old new Input·.Failed buffer = Unit {0}

-- a whole input stands in front of the buffer, as far as the buffer has room: all that the reader had
abbrev pub Shows : Input → List ℕ → List ℕ → Type 0
Shows (Input·.More n) buffer all = Unit {0}
Shows (Input·.Whole n) buffer all = take n buffer ≡ take (length buffer) all
Shows Input·.Failed buffer all = Unit {0}

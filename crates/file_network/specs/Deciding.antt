-- Document 02, item 1: how many bytes of an input decide its reply. Laws and contracts say `decides` where the document says the number.
-- Internal: `Request1` of `theorems` says the number.
-- Assumes nothing.
use Rattle.std.specs.Prelude.{ℕ}

-- "Input may now be longer: the first 8,192 bytes decide, here and in all later items but 14."
abbrev pub decides : ℕ
decides = 8192

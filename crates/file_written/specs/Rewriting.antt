-- Document 02, item 1: "a narrow element rewritten as kind 7".
-- Assumes nothing.
use Rattle.std.specs.Prelude.{◌≡◌, List, ◌∷◌, ◌++◌, ℕ, ◌<◌, length, replicate}
use Rattle.file_stages.specs.declared.Stage.TheVariants.{Head, Elements}
use Rattle.file_fields.specs.Fields.{word}
use Rattle.file_records.specs.Records.{kind_field}
use Rattle.file_refusals.specs.Files.{Stand}
use Rattle.file_written.specs.NetworkBytes.{element_bytes}

-- the record of an element is due at an offset of s: behind the head and fewer elements than all
pub record ElementStands (s : List ℕ) (at : ℕ) : Type 0 where
  pub before : ℕ
  pub fewer : before < word s 4
  pub stand : Stand s (word s 4) (word s 6) (Head ∷ replicate before Elements) 0 at

-- the kind 7 record with the load, the capacity and the flags of the kind 2 record r
abbrev pub as_wide : List ℕ → List ℕ
as_wide r = element_bytes (record { load = word r 4; capacity = word r 6; flags = word r 8 })

-- t is s with one narrow element rewritten as kind 7
pub record Widened (s t : List ℕ) : Type 0 where
  pub front : List ℕ
  pub narrow : List ℕ
  pub back : List ℕ
  pub was : s ≡ front ++ narrow ++ back
  pub kind : kind_field narrow 0 ≡ 2
  pub long : length narrow ≡ 10
  pub there : ElementStands s (length front)
  pub is : t ≡ front ++ as_wide narrow ++ back

-- and with any number of them
pub data Widenings : List ℕ → List ℕ → Type 0 where
  none : {s : List ℕ} → Widenings s s
  one_more : {s t u : List ℕ} → Widened s t → Widenings t u → Widenings s u

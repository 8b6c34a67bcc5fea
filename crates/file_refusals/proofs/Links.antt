-- What the record of a link states, of whichever kind it is, is what the reader's definitions read of it: by cases on the kind.
-- Assumes nothing.
use mathlib.Core.Path.{◌≡◌, refl}
use mathlib.Core.Bool.{Bool, true, false}
use mathlib.Core.List.{List}
use mathlib.Core.Logic.{inl, inr}
use Prim.Native.Nat.{ℕ}
use lib.Dec.{eqb}
use borrow.Author.Tests.{eqb-true}
use Rattle.file_fields.specs.Fields.{either, link_kind}
use Rattle.file_records.specs.Records.{kind_field}
use Rattle.file_network.specs.NetworkFiles.{guard_of}
use Rattle.file_network.proofs.Links.{guard_none, guard_stated}
use Rattle.file_refusals.specs.Breaking.{IsLink}
use Rattle.file_refusals.specs.Stated.{StatesGuard, unguarded, guarded}

module _ (s : List ℕ) (at : ℕ) where
  -- it is of one of the two kinds
  pub link_kind_lem : IsLink s at → link_kind (kind_field s at) ≡ true
  link_kind_lem (inl k) = rw k
  link_kind_lem (inr k) = rw k

  pub kind_link : link_kind (kind_field s at) ≡ true → IsLink s at
  kind_link h = go (eqb (kind_field s at) 3) refl h
    where
      go : (t : Bool) → eqb (kind_field s at) 3 ≡ t → either t (eqb (kind_field s at) 8) ≡ true → IsLink s at
      go true e h = inl (eqb-true (kind_field s at) 3 e)
      go false e h = inr (eqb-true (kind_field s at) 8 h)

  -- the guard that is read of it
  pub states_guard : {guard : ℕ} → StatesGuard s at guard → guard_of s at ≡ guard
  states_guard (unguarded k) = guard_none s at k
  states_guard (guarded k) = guard_stated s at k

  pub stating_guard : IsLink s at → StatesGuard s at (guard_of s at)
  stating_guard (inl k) = rw (guard_none s at k) (unguarded k)
  stating_guard (inr k) = rw (guard_stated s at k) (guarded k)

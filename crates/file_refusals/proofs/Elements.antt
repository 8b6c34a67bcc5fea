-- What the record of an element states, of whichever kind it is, is what the reader's definitions read of it: by cases on the kind.
-- Assumes nothing.
use mathlib.Core.Path.{◌≡◌, refl, ap}
use mathlib.Core.Bool.{Bool, true, false}
use mathlib.Core.List.{List}
use mathlib.Core.Logic.{◌⊎◌, inl, inr}
use Prim.Native.Nat.{ℕ, ◌+◌}
use lib.Dec.{eqb}
use borrow.Author.Tests.{eqb-true}
use Rattle.network.specs.declared.Element.{Element}
use Rattle.file_fields.specs.Fields.{word, either, element_kind, flags_at}
use Rattle.file_records.specs.Records.{kind_field}
use Rattle.file_network.specs.NetworkFiles.{narrow_element, wide_element, element_of}
use Rattle.file_network.proofs.Elements.{element_narrow, element_wide}
use Rattle.file_refusals.specs.Breaking.{StatesElement, narrow, wide}

module _ {s : List ℕ} {at : ℕ} where
  -- it is of one of the two kinds, and its flags stand where these have theirs
  pub states_kind : {load capacity flags : ℕ} → StatesElement s at load capacity flags → element_kind (kind_field s at) ≡ true
  states_kind (narrow k) = rw k
  states_kind (wide k) = rw k

  pub states_flags : {load capacity flags : ℕ} → StatesElement s at load capacity flags → flags ≡ word s (at + flags_at (kind_field s at))
  states_flags (narrow k) = rw k
  states_flags (wide k) = rw k

  -- what is read of it
  pub states_fields :
      {load capacity flags : ℕ} → StatesElement s at load capacity flags →
      ((element_of s at).load ≡ load) × ((element_of s at).capacity ≡ capacity) × ((element_of s at).flags ≡ flags)
  unfolding narrow_element wide_element
  states_fields (narrow k) =
      let e = element_narrow s at k in
      (ap (λ (x : Element). x.load) e, ap (λ (x : Element). x.capacity) e, ap (λ (x : Element). x.flags) e)
  states_fields (wide k) =
      let e = element_wide s at k in
      (ap (λ (x : Element). x.load) e, ap (λ (x : Element). x.capacity) e, ap (λ (x : Element). x.flags) e)

-- a record of either kind states an element
pub record Stating (s : List ℕ) (at : ℕ) : Type 0 where
  pub load : ℕ
  pub capacity : ℕ
  pub flags : ℕ
  pub states : StatesElement s at load capacity flags

module _ {s : List ℕ} {at : ℕ} where
  pub stating : (kind_field s at ≡ 2) ⊎ (kind_field s at ≡ 7) → Stating s at
  stating (inl k) = record { load = _; capacity = _; flags = _; states = narrow k }
  stating (inr k) = record { load = _; capacity = _; flags = _; states = wide k }

  pub kind_stating : element_kind (kind_field s at) ≡ true → Stating s at
  kind_stating h = go (eqb (kind_field s at) 2) refl h
    where
      go : (t : Bool) → eqb (kind_field s at) 2 ≡ t → either t (eqb (kind_field s at) 7) ≡ true → Stating s at
      go true e h = stating (inl (eqb-true (kind_field s at) 2 e))
      go false e h = stating (inr (eqb-true (kind_field s at) 7 h))

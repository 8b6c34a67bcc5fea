-- The readers' steps, one behind the other: what each function hands on is what the definition puts behind the run before it, by how far that run came.
-- Assumes nothing.
use mathlib.Core.List.{List}
use mathlib.Core.Path.{◌≡◌, refl, ap, sym, ◌∙◌}
use Prim.Native.Nat.{ℕ, ◌+◌}
use native.Mathlib.Omega.{arith}
use Rattle.std.specs.Prelude.{Ok, Err}
use Rattle.network.specs.declared.refusal.Refusal.{Refusal}
use Rattle.file_stages.specs.declared.Stage.{Stage}
use Rattle.file_stages.specs.declared.Stage.TheVariants.{Elements, Links}
use Rattle.network.specs.declared.Network.{Network}
use Rattle.file_fields.specs.Views.{Seen, nothing_seen, network_seen}
use Rattle.file_records.specs.declared.Record.{Record}
use Rattle.file_network.specs.declared.reader.Part.{Part}
use Rattle.file_stages.specs.Stages.{after_last}
use Rattle.file_fields.specs.Fields.{word}
use Rattle.file_records.specs.Records.{due_at}
use Rattle.network.specs.Networks.{empty_network}
use Rattle.file_network.specs.Runs.{Reading, refused, read_on, records, always, as_is}
use Rattle.file_network.specs.NetworkFiles.{with_element, with_link, elements_on, elements_on_by, links_on, links_on_by, end_on}
use Rattle.file_network.specs.Inputs.{part_of}
use Rattle.file_network.proofs.Runs.{records_none, records_refused, records_suc, run_same, run_ends}
use Rattle.file_network.proofs.Parts.{elements_run}
use Rattle.file_network.proofs.Outcomes.{part_refused, part_reached}

-- a head: one record, then what its stage begins
module _ {A : Type 0} (s : List ℕ) (seen : A → Seen) (at : ℕ) (stage : Stage) (empty : A) (f : ℕ → Stage → A → Reading A) where
  pub head_refused : (r : Refusal) → Err r ≡ due_at s (seen empty) at stage → refused r ≡ read_on (records s seen as_is 1 at stage empty) f
  head_refused r due = ap (λ (o : Reading A). read_on o f) (sym (records_refused s seen as_is 1 at stage empty r (omega arith) (sym due)))

  pub head_found : (found : Record) → Ok found ≡ due_at s (seen empty) at stage → f (at + found.length) found.next empty ≡ read_on
      (records s seen as_is 1 at stage empty) f
  head_found found due =
      ap (λ (o : Reading A). read_on o f)
      (sym (records_suc s seen as_is 0 at stage empty found.kind found.length found.next (sym due) ∙ records_none s seen as_is (at + found.length) found.next empty))

-- the links, then the end
module _ (s : List ℕ) (at : ℕ) (stage : Stage) (n : Network) where
  abbrev links_here : Reading Network
  links_here = records s network_seen (with_link s) (word s 6) at stage n

  abbrev then_end : ℕ → Stage → Network → Reading Network
  then_end after next net = end_on s after (after_last next) net

  pub links_refused : (r : Refusal) → Err r ≡ part_of links_here → Err r ≡ part_of (links_on s at stage n)
  unfolding links_on_by
  links_refused r h = ap part_of (part_refused links_here then_end r h)

  pub links_reached : (part : Part Network) → Ok part ≡ part_of links_here → end_on s part.at (after_last part.stage) part.value ≡ links_on s at stage n
  unfolding links_on_by
  links_reached part h = (part_reached links_here then_end part h).1

-- the elements, then the links
module _ (s : List ℕ) (at : ℕ) (stage : Stage) where
  abbrev then_links : ℕ → Stage → Network → Reading Network
  then_links after next net = links_on s after (after_last next) net

  pub elements_refused : (r : Refusal) → Err r ≡ part_of (elements_run s at stage empty_network) → Err r ≡ part_of (elements_on s at stage empty_network)
  unfolding elements_on_by
  elements_refused r h = ap part_of (part_refused (elements_run s at stage empty_network) then_links r h)

  module _ (part : Part Network) (h : Ok part ≡ part_of (elements_run s at stage empty_network)) where
    pub elements_reached : links_on s part.at (after_last part.stage) part.value ≡ elements_on s at stage empty_network
    unfolding elements_on_by
    elements_reached = (part_reached (elements_run s at stage empty_network) then_links part h).1

    pub elements_leave : stage ≡ Elements → (part.value.links ≡ 0) × (after_last part.stage ≡ Links)
    unfolding with_element empty_network
    elements_leave e =
        let run = (part_reached (elements_run s at stage empty_network) then_links part h).0 in
        let ends = run_ends s (always nothing_seen) (with_element s) (word s 4) at stage empty_network part.at part.stage part.value run (rw e) in (
          run_same s (always nothing_seen) (with_element s) (word s 4) at stage empty_network part.at part.stage part.value run (λ m. m.links) (λ p m. refl),
          ap after_last (ends.1 ∙ e),
        )

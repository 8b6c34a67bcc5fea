-- A network file that is read whole is well formed: what it states is what is kept, and by the rules that each of its records keeps.
-- Assumes nothing.
use mathlib.Core.Path.{◌≡◌, sym, subst, ◌∙◌}
use mathlib.Core.Bool.{true}
use mathlib.Core.List.{List}
use mathlib.Core.Logic.{◌⊎◌, inl, inr}
use Prim.Native.Nat.{ℕ, ◌+◌, ◌^◌, ◌<◌, ◌≤◌}
use native.Mathlib.Omega.{arith}
use lib.ListN.{get_or}
use Rattle.file_stages.specs.declared.Stage.{Stage}
use Rattle.file_stages.specs.declared.Stage.TheVariants.{Elements, Links}
use Rattle.network.specs.declared.Element.{Element}
use Rattle.network.specs.declared.Link.{Link}
use Rattle.network.specs.declared.Network.{Network}
use Rattle.file_fields.specs.Views.{Seen, network_seen}
use Rattle.file_fields.specs.Fields.{word, wide_word}
use Rattle.network.specs.Accepted.{suits}
use Rattle.file_network.specs.Runs.{reached}
use Rattle.file_network.specs.NetworkFiles.{narrow_element, wide_element, element_of, link_of, network_file}
use Rattle.network.specs.Accepted.{WellFormed, GuardSuits}
use Rattle.network.specs.Networks.{no_guard}
use Rattle.file_records.proofs.Due.{Whole, LinkKept, kind_there, as_kind, element_kept, wide_kept, link_kept, guarded_link_kept}
use Rattle.file_network.proofs.Elements.{element_narrow, element_wide}
use Rattle.file_network.proofs.Links.{guard_none, guard_stated}
use Rattle.file_network.proofs.Sizes.{network_size}
use Rattle.file_network.proofs.Contents.{NetworkHolds, network_holds}

-- "Numbers are unsigned, two bytes"
pub word_bound : (s : List ℕ) → ((i : ℕ) → get_or s i 0 < 256) → (at : ℕ) → word s at < 65536
unfolding word
word_bound s bytes at = omega (arith, bytes at, bytes (at + 1))

-- document 02: "four bytes each"
pub wide_word_bound : (s : List ℕ) → ((i : ℕ) → get_or s i 0 < 256) → (at : ℕ) → wide_word s at < 2 ^ 32
unfolding wide_word
wide_word_bound s bytes at = omega (arith, word_bound s bytes at, word_bound s bytes (at + 2))

-- What the rules promise of an element and of a link, of whichever kind its record is.

pub record ElementIn (e : Element) : Type 0 where
  pub load_in_lem : e.load < 2 ^ 32
  pub capacity_in : e.capacity < 2 ^ 32
  pub flags_in : e.flags ≤ 3

pub record LinkIn (elements : ℕ) (l : Link) : Type 0 where
  pub from_in : l.from < elements
  pub to_in : l.to < elements
  pub differ : l.from ≡ l.to → ⊥
  pub form_in : l.form ≤ 2
  pub cost_in_lem : l.cost < 65536
  pub suited : suits l.form l.cost ≡ true

pub record Guarded (seen : Seen) (l : Link) : Type 0 where
  pub switch : l.form ≡ 0 → ⊥
  pub earlier : l.guard < seen.links
  pub guards : get_or seen.form l.guard 0 ≡ 0 → ⊥

abbrev pub GuardIn : Seen → Link → Type 0
GuardIn seen l = (l.guard ≡ no_guard) ⊎ Guarded seen l

module _ {s : List ℕ} {seen : Seen} {at kind long : ℕ} {next : Stage} (bytes : (i : ℕ) → get_or s i 0 < 256) where
  pub element_in_lem : Whole s seen at Elements kind long next → ElementIn (element_of s at)
  unfolding narrow_element wide_element
  element_in_lem w = by_kind (kind_there w)
    where
      narrow_in : word s (at + 8) ≤ 3 → ElementIn (narrow_element s at)
      narrow_in flags =
          record {
            load_in_lem = omega (arith, word_bound s bytes (at + 4));
            capacity_in = omega (arith, word_bound s bytes (at + 6));
            flags_in = flags;
          }

      wide_in : word s (at + 12) ≤ 3 → ElementIn (wide_element s at)
      wide_in flags =
          record {
            load_in_lem = wide_word_bound s bytes (at + 4);
            capacity_in = wide_word_bound s bytes (at + 8);
            flags_in = flags;
          }

      by_kind : (kind ≡ 2) ⊎ (kind ≡ 7) → ElementIn (element_of s at)
      by_kind (inl e) = rw (element_narrow s at (sym w.framed.kind_is ∙ e)) (narrow_in (element_kept (as_kind e w)))
      by_kind (inr e) = rw (element_wide s at (sym w.framed.kind_is ∙ e)) (wide_in (wide_kept (as_kind e w)))

  pub link_in : Whole s seen at Links kind long next → LinkIn seen.elements (link_of s at)
  unfolding link_of
  link_in w = by_kind (kind_there w)
    where
      as_link : LinkKept s at seen.elements → LinkIn seen.elements (link_of s at)
      as_link kept =
          record {
            from_in = kept.from_in;
            to_in = kept.to_in;
            differ = kept.differ;
            form_in = kept.form_in;
            cost_in_lem = word_bound s bytes (at + 10);
            suited = kept.suited;
          }

      by_kind : (kind ≡ 3) ⊎ (kind ≡ 8) → LinkIn seen.elements (link_of s at)
      by_kind (inl e) = as_link (link_kept (as_kind e w))
      by_kind (inr e) = as_link (guarded_link_kept (as_kind e w)).0

-- document 02: no guard, or an earlier switch
pub guard_in :
    {s : List ℕ} {seen : Seen} {at kind long : ℕ} {next : Stage} → Whole s seen at Links kind long next → GuardIn seen (link_of s at)
unfolding link_of
guard_in {s} {seen} {at} {kind} w = by_kind (kind_there w)
  where
    by_kind : (kind ≡ 3) ⊎ (kind ≡ 8) → GuardIn seen (link_of s at)
    by_kind (inl e) = inl (guard_none s at (sym w.framed.kind_is ∙ e))
    by_kind (inr e) =
        let kept = (guarded_link_kept (as_kind e w)).1 in
        let stated = guard_stated s at (sym w.framed.kind_is ∙ e) in
        inr (record {
          switch = kept.switch;
          earlier = rw stated kept.earlier;
          guards = rw stated kept.guards;
        })

pub network_well_formed :
    (s : List ℕ) (at : ℕ) (stage : Stage) (n : Network) →
    ((i : ℕ) → get_or s i 0 < 256) →
    network_file s ≡ reached at stage n →
    WellFormed n
unfolding network_seen
network_well_formed s at stage n bytes h =
    let size = network_size s at stage n h in
    let counts = size.links.elements.counts in
    let element : (i : ℕ) (lt : i < n.elements) → ElementIn (element_of s (holds.element i lt).found.place) =
    λ i lt. element_in_lem bytes (holds.element i lt).found.whole in
    let link : (l : ℕ) (lt : l < n.links) → LinkIn (word s 4) (link_of s (holds.link l lt).found.place) =
    λ l lt. subst (λ (k : ℕ). LinkIn k (link_of s (holds.link l lt).found.place)) (holds.link l lt).elements_are
    (link_in bytes (holds.link l lt).found.whole) in
    record {
      some = omega (arith, counts.some, size.links.elements_are);
      elements_fit = omega (arith, counts.elements_fit, size.links.elements_are);
      links_fit = omega (arith, counts.links_fit, size.links.links_are);
      load_long = holds.long.load_long;
      capacity_long = holds.long.capacity_long;
      flags_long = holds.long.flags_long;
      from_long = holds.long.from_long;
      to_long = holds.long.to_long;
      form_long = holds.long.form_long;
      cost_long = holds.long.cost_long;
      guard_long = holds.long.guard_long;
      load_in_lem = λ i lt. rw (holds.element i lt).load_is (element i lt).load_in_lem;
      capacity_in = λ i lt. rw (holds.element i lt).capacity_is (element i lt).capacity_in;
      flags_in = λ i lt. rw (holds.element i lt).flags_is (element i lt).flags_in;
      from_in = λ l lt. omega (arith, (holds.link l lt).from_is, size.links.elements_are, (link l lt).from_in);
      to_in = λ l lt. omega (arith, (holds.link l lt).to_is, size.links.elements_are, (link l lt).to_in);
      differ = λ l lt e. (link l lt).differ (sym (holds.link l lt).from_is ∙ e ∙ (holds.link l lt).to_is);
      form_in = λ l lt. rw (holds.link l lt).form_is (link l lt).form_in;
      cost_in_lem = λ l lt. rw (holds.link l lt).cost_is (link l lt).cost_in_lem;
      guard_in = λ l lt. rw (holds.link l lt).guard_is (small_guard l lt (guard l lt));
      guarded = λ l lt some. suits_guard l lt some (guard l lt);
      suited = λ l lt. rw ((holds.link l lt).form_is, (holds.link l lt).cost_is) (link l lt).suited;
    }
  where
    holds : NetworkHolds s n
    holds = network_holds s at stage n h

    fit : n.links ≤ 96
    fit = let size = network_size s at stage n h in omega (arith, size.links.elements.counts.links_fit, size.links.links_are)

    -- the link that the record of number l states, and the network read before it
    stated : (l : ℕ) → l < n.links → Link
    stated l lt = link_of s (holds.link l lt).found.place

    seen : (l : ℕ) → l < n.links → Seen
    seen l lt = network_seen (holds.link l lt).found.value

    guard : (l : ℕ) (lt : l < n.links) → GuardIn (seen l lt) (stated l lt)
    guard l lt = guard_in (holds.link l lt).found.whole

    small_guard : (l : ℕ) (lt : l < n.links) → GuardIn (seen l lt) (stated l lt) → (stated l lt).guard ≤ no_guard
    small_guard l lt (inl none) = omega arith
    small_guard l lt (inr g) = omega (arith, g.earlier, (holds.link l lt).links_are, fit)

    suits_guard : (l : ℕ) (lt : l < n.links) → get_or n.guard l 0 < no_guard → GuardIn (seen l lt) (stated l lt) → GuardSuits n l (get_or n.guard l 0)
    suits_guard l lt some (inl none) = absurd (omega (arith, (holds.link l lt).guard_is, none))
    suits_guard l lt some (inr g) =
        let link = holds.link l lt in
        let earlier : (stated l lt).guard < l = omega (arith, g.earlier, link.links_are) in
        record {
          switch = λ e. g.switch (sym link.form_is ∙ e);
          earlier = omega (arith, link.guard_is);
          guards = rw link.guard_is (λ e. g.guards (link.forms_are (stated l lt).guard earlier ∙ e));
        }

-- The file of a network is read back as that network, since its elements and links, added one by one, fill the lists from the front; and the networks that files state are those that have one.
-- Assumes nothing.
use mathlib.Core.Path.{◌≡◌, refl, sym, ap, subst, ◌∙◌}
use mathlib.Core.Bool.{Bool, true, false}
use mathlib.Core.List.{List, ◌++◌, foldl}
use mathlib.Core.Logic.{inl, inr}
use Prim.Native.Nat.{ℕ, zero, suc, ◌+◌, ◌<◌, ◌≤◌}
use native.Mathlib.Numerals.{add-one}
use native.Mathlib.Omega.{arith}
use lib.Dec.{ltb}
use lib.ListN.{length, get_or, take, drop, replicate, length-drop, length-replicate, take-append-drop, get_or-append}
use lib.Seq.{length-take-le, get_or-take, get_or-drop, ext_get_or}
use borrow.Author.Tests.{ltb-true, ltb-false}
use Rattle.network.specs.declared.Element.{Element}
use Rattle.network.specs.declared.Link.{Link}
use Rattle.network.specs.declared.Network.{Network}
use Rattle.network.specs.Networks.{no_guard, empty_network, element_added, link_added}
use Rattle.network.specs.Accepted.{WellFormed}
use Rattle.file_stages.specs.declared.Stage.TheVariants.{PlanHead}
use Rattle.file_fields.specs.Views.{network_seen}
use Rattle.file_network.specs.Runs.{reached}
use Rattle.file_network.specs.Inputs.{network_input}
use Rattle.file_network.proofs.Accepted.{ElementIn, LinkIn, GuardIn}
use Rattle.file_writer.proofs.RoundTrip.{front_more}
use Rattle.file_refusals.proofs.Stated.{filled}
use Rattle.file_written.specs.NetworkBytes.{network_bytes, network_of, element_in, link_in, numbered, network_file_of, Tidy}
use Rattle.file_written.proofs.Each.{each_numbered, numbered_length, numbered_folded}
use Rattle.file_written.proofs.RoundTrip.{LinkKept, LinksKept, round_trip}

-- ---- lists that are filled from the front

-- the first so many elements and links of a network
unfoldable first_of : Network → ℕ → ℕ → Network
first_of n e l =
    record {
      load = take e n.load ++ drop e (replicate 64 0);
      capacity = take e n.capacity ++ drop e (replicate 64 0);
      flags = take e n.flags ++ drop e (replicate 64 0);
      from = take l n.from ++ drop l (replicate 96 0);
      to = take l n.to ++ drop l (replicate 96 0);
      form = take l n.form ++ drop l (replicate 96 0);
      cost = take l n.cost ++ drop l (replicate 96 0);
      guard = take l n.guard ++ drop l (replicate 96 no_guard);
      elements = e;
      links = l;
    }

-- what stands in a front of a list
front_kept : (l r : List ℕ) (n i z : ℕ) → n ≤ length l → i < n → get_or (take n l ++ drop n r) i z ≡ get_or l i z
front_kept l r n i z le lt = get_or-append (take n l) (drop n r) z i (rw (length-take-le n l le) lt) ∙ get_or-take n l i z lt

-- a list with nothing but d behind its first entries
same_behind : (d : ℕ) (l : List ℕ) (k width : ℕ) → length l ≡ width → ((i : ℕ) → k ≤ i → get_or l i d ≡ d) → take k l ++ drop k (replicate width d) ≡ l
same_behind d l k width long none =
    ap (λ (r : List ℕ). take k l ++ r)
    (ext_get_or d (drop k (replicate width d)) (drop k l)
    (length-drop k (replicate width d) ∙ omega (arith, length-replicate {A = ℕ} width d, length-drop k l))
    (λ i _. get_or-drop k (replicate width d) i d ∙ filled d width (k + i) ∙ sym (none (k + i) (omega arith)) ∙ sym (get_or-drop k l i d))) ∙
    take-append-drop k l

module _ (n : Network) (w : WellFormed n) where
  first_none : first_of n 0 0 ≡ empty_network
  unfolding first_of empty_network
  first_none = refl

  element_more : (l k : ℕ) → k < n.elements → element_added (first_of n k l) (element_in n k) ≡ first_of n (suc k) l
  unfolding first_of
  element_more l k lt =
      rw (
        front_more (replicate 64 0) n.load k 0 (omega (arith, w.elements_fit)) (omega (arith, w.elements_fit, w.load_long)),
        front_more (replicate 64 0) n.capacity k 0 (omega (arith, w.elements_fit)) (omega (arith, w.elements_fit, w.capacity_long)),
        front_more (replicate 64 0) n.flags k 0 (omega (arith, w.elements_fit)) (omega (arith, w.elements_fit, w.flags_long)),
        add-one,
      )

  link_more : (e k : ℕ) → k < n.links → link_added (first_of n e k) (link_in n k) ≡ first_of n e (suc k)
  unfolding first_of
  link_more e k lt =
      rw (
        front_more (replicate 96 0) n.from k 0 (omega (arith, w.links_fit)) (omega (arith, w.links_fit, w.from_long)),
        front_more (replicate 96 0) n.to k 0 (omega (arith, w.links_fit)) (omega (arith, w.links_fit, w.to_long)),
        front_more (replicate 96 0) n.form k 0 (omega (arith, w.links_fit)) (omega (arith, w.links_fit, w.form_long)),
        front_more (replicate 96 0) n.cost k 0 (omega (arith, w.links_fit)) (omega (arith, w.links_fit, w.cost_long)),
        front_more (replicate 96 no_guard) n.guard k 0 (omega (arith, w.links_fit)) (omega (arith, w.links_fit, w.guard_long)),
        add-one,
      )

  first_all : Tidy n → first_of n n.elements n.links ≡ n
  unfolding first_of
  first_all tidy =
      rw (
        same_behind 0 n.load n.elements 64 w.load_long (λ i h. (tidy.no_element i (omega arith)).load_is),
        same_behind 0 n.capacity n.elements 64 w.capacity_long (λ i h. (tidy.no_element i (omega arith)).capacity_is),
        same_behind 0 n.flags n.elements 64 w.flags_long (λ i h. (tidy.no_element i (omega arith)).flags_is),
        same_behind 0 n.from n.links 96 w.from_long (λ l h. (tidy.no_link l (omega arith)).from_is),
        same_behind 0 n.to n.links 96 w.to_long (λ l h. (tidy.no_link l (omega arith)).to_is),
        same_behind 0 n.form n.links 96 w.form_long (λ l h. (tidy.no_link l (omega arith)).form_is),
        same_behind 0 n.cost n.links 96 w.cost_long (λ l h. (tidy.no_link l (omega arith)).cost_is),
        same_behind no_guard n.guard n.links 96 w.guard_long (λ l h. (tidy.no_link l (omega arith)).guard_is),
      )

  abbrev es : List Element
  es = numbered (element_in n) 0 n.elements

  abbrev ls : List Link
  ls = numbered (link_in n) 0 n.links

  -- its elements alone
  elements_of : foldl element_added empty_network es ≡ first_of n n.elements 0
  elements_of =
      ap (λ (m : Network). foldl element_added m es) (sym first_none) ∙
      numbered_folded (element_in n) element_added (λ k. first_of n k 0) n.elements (element_more 0) 0 n.elements (omega arith)

  -- its elements and links make the network
  pub network_of_lem : Tidy n → network_of es ls ≡ n
  unfolding network_of
  network_of_lem tidy =
      ap (λ (m : Network). foldl link_added m ls) elements_of ∙
      numbered_folded (link_in n) link_added (first_of n n.elements) n.links (link_more n.elements) 0 n.links (omega arith) ∙
      first_all tidy

  -- and keep rules 5 to 9 and 20
  element_kept : (i : ℕ) → i < n.elements → ElementIn (element_in n i)
  element_kept i lt = record { load_in_lem = w.load_in_lem i lt; capacity_in = w.capacity_in i lt; flags_in = w.flags_in i lt }

  pub link_kept : (l : ℕ) → l < n.links → LinkIn n.elements (link_in n l)
  link_kept l lt =
      record {
        from_in = w.from_in l lt;
        to_in = w.to_in l lt;
        differ = w.differ l lt;
        form_in = w.form_in l lt;
        cost_in_lem = w.cost_in_lem l lt;
        suited = w.suited l lt;
      }

  -- a link's guard is among the links before it
  guard_kept : (k : ℕ) → k < n.links → LinkKept (first_of n n.elements k) (link_in n k)
  unfolding first_of network_seen
  guard_kept k lt = record { in_range = link_kept k lt; guard = go (ltb guard no_guard) refl }
    where
      guard : ℕ
      guard = get_or n.guard k 0

      go : (t : Bool) → ltb guard no_guard ≡ t → GuardIn (network_seen (first_of n n.elements k)) (link_in n k)
      go true t =
          let g = w.guarded k lt (ltb-true guard no_guard t) in
          let there = front_kept n.form (replicate 96 0) k guard 0 (omega (arith, lt, w.links_fit, w.form_long)) g.earlier in
          inr (record { switch = g.switch; earlier = g.earlier; guards = λ e. g.guards (sym there ∙ e) })
      go false t = inl (omega (arith, ltb-false guard no_guard t, w.guard_in k lt))

  links_kept : (k count : ℕ) → k + count ≡ n.links → LinksKept (first_of n n.elements k) (numbered (link_in n) k count)
  unfolding numbered
  links_kept k zero e = tt
  links_kept k (suc count) e = (
    guard_kept k (omega arith),
    subst (λ (m : Network). LinksKept m (numbered (link_in n) (suc k) count)) (sym (link_more n.elements k (omega arith)))
        (links_kept (suc k) count (omega arith)),
  )

  -- a well-formed network with zeros behind its counts: its file is read as that network, is accepted by rules 1 to 13 and 20, and ends at its length
  pub network_written : Tidy n → network_input (network_file_of n) ≡ reached (length (network_file_of n)) PlanHead n
  unfolding network_file_of
  network_written tidy =
      let elements = numbered_length (element_in n) 0 n.elements in
      let links = numbered_length (link_in n) 0 n.links in
      round_trip es ls (omega (arith, w.some)) (omega (arith, w.elements_fit)) (omega (arith, w.links_fit))
      (each_numbered ElementIn (element_in n) 0 n.elements (λ i _ lt. element_kept i (omega arith)))
      (subst (λ (m : Network). LinksKept m ls) (sym elements_of) (links_kept 0 n.links (omega arith))) ∙
      ap (reached (length (network_bytes es ls)) PlanHead) (network_of_lem tidy)

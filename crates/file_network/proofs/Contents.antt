-- The network read is what the file states: each record of a run is whole, and each list that a run fills holds the fields of its records in their order, by induction over the run.
-- Assumes nothing.
use mathlib.Core.Path.{◌≡◌, refl, sym, ap, ◌∙◌}
use mathlib.Core.List.{List}
use mathlib.Core.Logic.{⊎_elim}
use Prim.Native.Nat.{ℕ, suc, ◌+◌, ◌<◌, ◌≤◌}
use native.Mathlib.Nat.{le_of_suc-le-suc, eq-or-lt_of_le, not-suc-le-zero}
use native.Mathlib.Omega.{arith}
use lib.ListN.{length, get_or, set, length-set}
use lib.Seq.{get_or-set_same, get_or-set_other}
use Rattle.file_stages.specs.declared.Stage.{Stage}
use Rattle.file_stages.specs.declared.Stage.TheVariants.{Elements, Links}
use Rattle.network.specs.declared.Network.{Network}
use Rattle.file_fields.specs.Views.{Seen, nothing_seen, network_seen}
use Rattle.file_fields.specs.Fields.{word}
use Rattle.network.specs.Networks.{empty_network}
use Rattle.file_network.specs.Runs.{reached, records, always}
use Rattle.file_network.specs.NetworkFiles.{element_of, link_of, with_element, with_link, network_file}
use Rattle.file_records.proofs.Due.{next_at}
use Rattle.file_network.proofs.Runs.{Nth, run_same, run_count, run_keeps}
use Rattle.file_network.proofs.Sizes.{ElementsRead, LinksRead, NetworkSize, network_size}

upto : (k : ℕ) (Q : ℕ → Type 0) → ((j : ℕ) → j < k → Q j) → Q k → (j : ℕ) → j < suc k → Q j
upto k Q below here j lt = ⊎_elim (λ (e : j ≡ k). rw e here) (below j) (eq-or-lt_of_le (le_of_suc-le-suc lt))

module _ {A : Type 0} (s : List ℕ) (seen : A → Seen) (into : ℕ → A → A) (n at : ℕ) (stage : Stage) (a : A) (end : ℕ) (last : Stage) (b : A)
    (run : records s seen into n at stage a ≡ reached end last b) (back : next_at stage ≡ stage) where
  -- each record of the run breaks no rule
  pub run_nth : (j : ℕ) → j < n → Nth s seen into at stage a j
  run_nth =
      run_keeps s seen into n at stage a end last b run back (λ k a'. (j : ℕ) → j < k → Nth s seen into at stage a j)
      (λ j lt. absurd (not-suc-le-zero lt))
      (λ done lt r old. upto done (Nth s seen into at stage a) old r)

  -- a list that each record adds one entry to, and the count of its entries
  module _ {B : Type 0} (list : A → List B) (count : A → ℕ) (entry : ℕ → B) (d : B)
      (none : count a ≡ 0) (fits : n ≤ length (list a))
      (sets : (at : ℕ) (a : A) → list (into at a) ≡ set (list a) (count a) (entry at))
      (counts : (at : ℕ) (a : A) → count (into at a) ≡ count a + 1) where
    abbrev Held : A → ℕ → Type 0
    Held x j = (r : Nth s seen into at stage a j) → get_or (list x) j d ≡ entry r.place

    filled : (count b ≡ n) × (length (list b) ≡ length (list a)) × ((j : ℕ) → j < n → Held b j)
    filled =
        run_keeps s seen into n at stage a end last b run back
        (λ k a'. (count a' ≡ k) × (length (list a') ≡ length (list a)) × ((j : ℕ) → j < k → Held a' j))
        (none, refl, λ j lt. absurd (not-suc-le-zero lt))
        (λ done lt r old.
        let here = r.place in
        let a' = r.value in
        let into-is : list (into here a') ≡ set (list a') done (entry here) = sets here a' ∙ ap (λ (k : ℕ). set (list a') k (entry here))
        old.0 in (
          omega (arith, counts here a', old.0),
          ap length into-is ∙ length-set (list a') done (entry here) ∙ old.1,
          upto done (Held (into here a'))
              (λ j below r'.
              ap (λ (l : List B). get_or l j d) into-is ∙ get_or-set_other (list a') done j (entry here) d (omega arith) ∙ old.2 j below r')
              (λ r'.
              let both = sym r.before ∙ r'.before in
              let same : here ≡ r'.place = cc in
              ap (λ (l : List B). get_or l done d) into-is ∙
              get_or-set_same (list a') done (entry here) d (omega (arith, old.1)) ∙
              ap entry same),
        ))

    pub run_long : length (list b) ≡ length (list a)
    run_long = filled.1

    pub run_fills : (j : ℕ) → j < n → (r : Nth s seen into at stage a j) → get_or (list b) j d ≡ entry r.place
    run_fills = filled.2

-- The elements and the links of the file: the record of each, behind those before it, and the fields of it that are kept.

pub record ElementAt (s : List ℕ) (n : Network) (i : ℕ) : Type 0 where
  pub found : Nth s (always nothing_seen) (with_element s) 8 Elements empty_network i
  pub load_is : get_or n.load i 0 ≡ (element_of s found.place).load
  pub capacity_is : get_or n.capacity i 0 ≡ (element_of s found.place).capacity
  pub flags_is : get_or n.flags i 0 ≡ (element_of s found.place).flags

pub record LinkAt (s : List ℕ) (n : Network) (l : ℕ) : Type 0 where
  pub start : ℕ
  pub net : Network
  pub elements : records s (always nothing_seen) (with_element s) (word s 4) 8 Elements empty_network ≡ reached start Elements net
  pub found : Nth s network_seen (with_link s) start Links net l
  pub elements_are : found.value.elements ≡ word s 4
  pub links_are : found.value.links ≡ l
  pub forms_are : (g : ℕ) → g < l → get_or found.value.form g 0 ≡ get_or n.form g 0
  pub from_is : get_or n.from l 0 ≡ (link_of s found.place).from
  pub to_is : get_or n.to l 0 ≡ (link_of s found.place).to
  pub form_is : get_or n.form l 0 ≡ (link_of s found.place).form
  pub cost_is : get_or n.cost l 0 ≡ (link_of s found.place).cost
  pub guard_is : get_or n.guard l 0 ≡ (link_of s found.place).guard

-- the lengths of a network's lists
pub record Long (n : Network) : Type 0 where
  pub load_long : length n.load ≡ 64
  pub capacity_long : length n.capacity ≡ 64
  pub flags_long : length n.flags ≡ 64
  pub from_long : length n.from ≡ 96
  pub to_long : length n.to ≡ 96
  pub form_long : length n.form ≡ 96
  pub cost_long : length n.cost ≡ 96
  pub guard_long : length n.guard ≡ 96

pub record ElementsHold (s : List ℕ) (n : Network) : Type 0 where
  pub long : Long n
  pub element : (i : ℕ) → i < word s 4 → ElementAt s n i

empty_long : Long empty_network
unfolding empty_network
empty_long = record {
  load_long = refl;
  capacity_long = refl;
  flags_long = refl;
  from_long = refl;
  to_long = refl;
  form_long = refl;
  cost_long = refl;
  guard_long = refl;
}

pub elements_hold : (s : List ℕ) (at : ℕ) (stage : Stage) (n : Network) → ElementsRead s at stage n → ElementsHold s n
unfolding empty_network with_element
elements_hold s at stage n e =
    record {
      long =
          record {
            load_long = long (λ n. n.load) (λ at. (element_of s at).load) (omega (arith, empty_long, e.counts.elements_fit)) (λ at n. refl);
            capacity_long = long (λ n. n.capacity) (λ at. (element_of s at).capacity) (omega (arith, empty_long, e.counts.elements_fit))
                (λ at n. refl);
            flags_long = long (λ n. n.flags) (λ at. (element_of s at).flags) (omega (arith, empty_long, e.counts.elements_fit)) (λ at n. refl);
            from_long = ap length (same (λ n. n.from) (λ at n. refl));
            to_long = ap length (same (λ n. n.to) (λ at n. refl));
            form_long = ap length (same (λ n. n.form) (λ at n. refl));
            cost_long = ap length (same (λ n. n.cost) (λ at n. refl));
            guard_long = ap length (same (λ n. n.guard) (λ at n. refl));
          };
      element =
          λ i lt.
          let found = run_nth s (always nothing_seen) (with_element s) (word s 4) 8 Elements empty_network at stage n e.run refl i lt in
          record {
            found = found;
            load_is = fills (λ n. n.load) (λ at. (element_of s at).load) (omega (arith, empty_long, e.counts.elements_fit)) (λ at n. refl) i lt
                found;
            capacity_is = fills (λ n. n.capacity) (λ at. (element_of s at).capacity) (omega (arith, empty_long, e.counts.elements_fit))
                (λ at n. refl) i lt found;
            flags_is = fills (λ n. n.flags) (λ at. (element_of s at).flags) (omega (arith, empty_long, e.counts.elements_fit)) (λ at n. refl) i lt
                found;
          };
    }
  where
    same : (list : Network → List ℕ) → ((at : ℕ) (n : Network) → list (with_element s at n) ≡ list n) → list n ≡ list empty_network
    same list h = run_same s (always nothing_seen) (with_element s) (word s 4) 8 Elements empty_network at stage n e.run list h

    long : (list : Network → List ℕ) (entry : ℕ → ℕ) →
        word s 4 ≤ length (list empty_network) →
        ((at : ℕ) (n : Network) → list (with_element s at n) ≡ set (list n) n.elements (entry at)) →
        length (list n) ≡ length (list empty_network)
    long list entry fits sets =
        run_long s (always nothing_seen) (with_element s) (word s 4) 8 Elements empty_network at stage n e.run refl list (λ n. n.elements) entry 0 refl fits sets
        (λ at n. refl)

    fills : (list : Network → List ℕ) (entry : ℕ → ℕ) →
        word s 4 ≤ length (list empty_network) →
        ((at : ℕ) (n : Network) → list (with_element s at n) ≡ set (list n) n.elements (entry at)) →
        (i : ℕ) →
        i < word s 4 →
        (r : Nth s (always nothing_seen) (with_element s) 8 Elements empty_network i) →
        get_or (list n) i 0 ≡ entry r.place
    fills list entry fits sets =
        run_fills s (always nothing_seen) (with_element s) (word s 4) 8 Elements empty_network at stage n e.run refl list (λ n. n.elements) entry 0 refl fits sets
        (λ at n. refl)

pub record NetworkHolds (s : List ℕ) (n : Network) : Type 0 where
  pub long : Long n
  pub element : (i : ℕ) → i < n.elements → ElementAt s n i
  pub link : (l : ℕ) → l < n.links → LinkAt s n l

pub network_holds : (s : List ℕ) (at : ℕ) (stage : Stage) (n : Network) → network_file s ≡ reached at stage n → NetworkHolds s n
unfolding with_link
network_holds s at stage n h =
    record {
      long =
          record {
            load_long = ap length (same (λ n. n.load) (λ at n. refl)) ∙ before.long.load_long;
            capacity_long = ap length (same (λ n. n.capacity) (λ at n. refl)) ∙ before.long.capacity_long;
            flags_long = ap length (same (λ n. n.flags) (λ at n. refl)) ∙ before.long.flags_long;
            from_long = long (λ n. n.from) (λ at. (link_of s at).from) before.long.from_long (λ at n. refl);
            to_long = long (λ n. n.to) (λ at. (link_of s at).to) before.long.to_long (λ at n. refl);
            form_long = long (λ n. n.form) (λ at. (link_of s at).form) before.long.form_long (λ at n. refl);
            cost_long = long (λ n. n.cost) (λ at. (link_of s at).cost) before.long.cost_long (λ at n. refl);
            guard_long = long (λ n. n.guard) (λ at. (link_of s at).guard) before.long.guard_long (λ at n. refl);
          };
      element =
          λ i lt.
          let e = before.element i (omega (arith, size.links.elements_are)) in
          record {
            found = e.found;
            load_is = ap (λ (l : List ℕ). get_or l i 0) (same (λ n. n.load) (λ at n. refl)) ∙ e.load_is;
            capacity_is = ap (λ (l : List ℕ). get_or l i 0) (same (λ n. n.capacity) (λ at n. refl)) ∙ e.capacity_is;
            flags_is = ap (λ (l : List ℕ). get_or l i 0) (same (λ n. n.flags) (λ at n. refl)) ∙ e.flags_is;
          };
      link =
          λ l lt.
          let lt' : l < word s 6 = omega (arith, size.links.links_are) in
          let found = run_nth s network_seen (with_link s) (word s 6) start Links net _ Links n links.run refl l lt' in
          record {
            start = start;
            net = net;
            elements = links.elements.run;
            found = found;
            elements_are =
                run_same s network_seen (with_link s) l start Links net found.place Links found.value found.before (λ n. n.elements)
                (λ at n. refl) ∙ links.elements.elements_are;
            links_are =
                omega (
                  arith,
                  run_count s network_seen (with_link s) l start Links net found.place Links found.value found.before (λ n. n.links)
                      (λ at n. refl),
                  links.elements.links_are,
                );
            forms_are =
                λ g lg.
                let r = run_nth s network_seen (with_link s) l start Links net found.place Links found.value found.before refl g lg in
                run_fills s network_seen (with_link s) l start Links net found.place Links found.value found.before refl (λ n. n.form) (λ n. n.links)
                (λ at. (link_of s at).form) 0 links.elements.links_are (omega (arith, before.long.form_long, links.elements.counts.links_fit))
                (λ at n. refl) (λ at n. refl) g lg r ∙
                sym (fills (λ n. n.form) (λ at. (link_of s at).form) before.long.form_long (λ at n. refl) g (omega arith) r);
            from_is = fills (λ n. n.from) (λ at. (link_of s at).from) before.long.from_long (λ at n. refl) l lt' found;
            to_is = fills (λ n. n.to) (λ at. (link_of s at).to) before.long.to_long (λ at n. refl) l lt' found;
            form_is = fills (λ n. n.form) (λ at. (link_of s at).form) before.long.form_long (λ at n. refl) l lt' found;
            cost_is = fills (λ n. n.cost) (λ at. (link_of s at).cost) before.long.cost_long (λ at n. refl) l lt' found;
            guard_is = fills (λ n. n.guard) (λ at. (link_of s at).guard) before.long.guard_long (λ at n. refl) l lt' found;
          };
    }
  where
    size : NetworkSize s at stage n
    size = network_size s at stage n h

    links : LinksRead s size.links_end Links n
    links = size.links

    start : ℕ
    start = links.start

    net : Network
    net = links.before

    before : ElementsHold s net
    before = elements_hold s start Elements net links.elements

    same : (list : Network → List ℕ) → ((at : ℕ) (n : Network) → list (with_link s at n) ≡ list n) → list n ≡ list net
    same list h = run_same s network_seen (with_link s) (word s 6) start Links net _ Links n links.run list h

    long : (list : Network → List ℕ) (entry : ℕ → ℕ) →
        length (list net) ≡ 96 →
        ((at : ℕ) (n : Network) → list (with_link s at n) ≡ set (list n) n.links (entry at)) →
        length (list n) ≡ 96
    long list entry whole sets =
        run_long s network_seen (with_link s) (word s 6) start Links net _ Links n links.run refl list (λ n. n.links) entry 0
        links.elements.links_are (omega (arith, links.elements.counts.links_fit)) sets (λ at n. refl) ∙ whole

    fills : (list : Network → List ℕ) (entry : ℕ → ℕ) →
        length (list net) ≡ 96 →
        ((at : ℕ) (n : Network) → list (with_link s at n) ≡ set (list n) n.links (entry at)) →
        (l : ℕ) →
        l < word s 6 →
        (r : Nth s network_seen (with_link s) start Links net l) →
        get_or (list n) l 0 ≡ entry r.place
    fills list entry whole sets =
        run_fills s network_seen (with_link s) (word s 6) start Links net _ Links n links.run refl list (λ n. n.links) entry 0
        links.elements.links_are (omega (arith, links.elements.counts.links_fit)) sets (λ at n. refl)

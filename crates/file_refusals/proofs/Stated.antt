-- What the files state is what the reader keeps, and nothing else: each record's fields stand at its number, and zeros behind the last, and no guards.
-- Assumes nothing.
use mathlib.Core.Path.{◌≡◌, refl, sym, ap, subst, ◌∙◌}
use mathlib.Core.Bool.{Bool, true, false}
use mathlib.Core.List.{List, [], ◌∷◌, ◌++◌}
use mathlib.Core.Logic.{◌⊎◌, inl, inr}
use Prim.Native.Nat.{ℕ, zero, suc, ◌+◌, ◌<◌, ◌≤◌}
use native.Mathlib.Omega.{arith}
use lib.Dec.{ltb}
use lib.ListN.{length, get_or, set, replicate}
use lib.Seq.{get_or-set_other, ext_get_or}
use borrow.Author.Tests.{ltb-true, ltb-false}
use Rattle.network.specs.declared.refusal.Refusal.{Refusal}
use Rattle.network.specs.declared.Network.{Network}
use Rattle.network.specs.Networks.{no_guard, empty_network}
use Rattle.file_stages.specs.declared.Stage.{Stage}
use Rattle.file_stages.specs.declared.Stage.TheVariants.{Head, Elements, Links}
use Rattle.file_fields.specs.Views.{Seen, nothing_seen, network_seen}
use Rattle.file_fields.specs.Fields.{word}
use Rattle.file_records.specs.Records.{due_at, recorded}
use Rattle.file_network.specs.Runs.{Reading, refused, reached, read_on, records, always}
use Rattle.file_network.specs.NetworkFiles.{element_of, guard_of, link_of, with_element, with_link, network_file}
use Rattle.file_network.proofs.Runs.{records_keep, run_same}
use Rattle.file_network.proofs.Parts.{head_run, elements_run, links_run, end_run, with_elements, with_links, network_chain}
use Rattle.file_network.proofs.Sizes.{head_read, LinksRead, network_size}
use Rattle.file_network.proofs.Contents.{NetworkHolds, network_holds}
use Rattle.file_records.proofs.Due.{goes_one_way}
use Rattle.file_refusals.specs.Breaking.{StatesElement}
use Rattle.file_refusals.specs.Files.{Stand}
use Rattle.file_refusals.specs.Stated.{ElementIs, LinkIs, StatesGuard, States}
use Rattle.file_refusals.proofs.Elements.{states_fields, stating}
use Rattle.file_refusals.proofs.Links.{states_guard, stating_guard}
use Rattle.file_refusals.proofs.Files.{stand_append, stand_once, Ran}
use Rattle.file_refusals.proofs.Inputs.{head_ran, elements_run_ran, links_run_ran, elements_placed}

-- what fills a list stands at each number, behind its end too
pub filled : {A : Type 0} (d : A) (k i : ℕ) → get_or (replicate k d) i d ≡ d
filled d zero zero = refl
filled d zero (suc i) = refl
filled d (suc k) zero = refl
filled d (suc k) (suc i) = filled d k i

-- what stands within a list does not hang on what stands behind its end
pub within : {A : Type 0} (d d' : A) (l : List A) (i : ℕ) → i < length l → get_or l i d ≡ get_or l i d'
within d d' [] i h = absurd (omega (arith, h))
within d d' (x ∷ xs) zero h = refl
within d d' (x ∷ xs) (suc i) h = within d d' xs i (omega (arith, h))

-- ---- behind the last record nothing is kept

module _ {A B : Type 0} (s : List ℕ) (seen : A → Seen) (into : ℕ → A → A) (list : A → List B) (count : A → ℕ) (entry : ℕ → B) (d : B)
    (sets : (at : ℕ) (a : A) → list (into at a) ≡ set (list a) (count a) (entry at)) (counts : (at : ℕ) (a : A) → count (into at a) ≡ count a + 1) where
  pub run_beyond : (n at : ℕ) (stage : Stage) (a : A) (end : ℕ) (last : Stage) (b : A) → records s seen into n at stage a ≡ reached end last b
      → (i : ℕ) → count a + n ≤ i → get_or (list b) i d ≡ get_or (list a) i d
  run_beyond n at stage a end last b run i h =
      (records_keep s seen into (λ m at' stage' a'. (count a' + m ≡ count a + n) × (get_or (list a') i d ≡ get_or (list a) i d)) step n at stage a end last b (refl, refl) run).1
    where
      step : (m at' : ℕ) (stage' : Stage) (a' : A) (kind long : ℕ) (next : Stage) → due_at s (seen a') at' stage' ≡ recorded kind long next
          → (count a' + suc m ≡ count a + n) × (get_or (list a') i d ≡ get_or (list a) i d)
          → (count (into at' a') + m ≡ count a + n) × (get_or (list (into at' a')) i d ≡ get_or (list a) i d)
      step m at' stage' a' kind long next due p =
          let apart : i ≡ count a' → ⊥ = λ e. omega (arith, e, p.0, h) in (
            omega (arith, counts at' a', p.0),
            ap (λ (l : List B). get_or l i d) (sets at' a') ∙ get_or-set_other (list a') (count a') i (entry at') d apart ∙ p.1,
          )

-- ---- the network

-- the head stands in every file that is whole, or whole up to a part
module _ (s : List ℕ) where
  clash : {A : Type 0} {f : Refusal} {at : ℕ} {stage : Stage} {n : Network} → refused f ≡ reached at stage n → A
  clash e = let z : ◌≡◌ {A = ℕ} 0 1 = cc in absurd (omega arith)

  head_of_elements : {at : ℕ} {stage : Stage} {n : Network} → with_elements s ≡ reached at stage n → Stand s (word s 4) (word s 6) (Head ∷ []) 0 8
  head_of_elements {at} {stage} {n} e = go (head_run s) refl e
    where
      go : (o : Reading Network) → head_run s ≡ o → read_on o (elements_run s) ≡ reached at stage n → Stand s (word s 4) (word s 6) (Head ∷ []) 0 8
      go (refused f) h k = clash k
      go (reached p st m) h k =
          subst (Stand s (word s 4) (word s 6) (Head ∷ []) 0) (head_read s p st m h).ends (subst (Ran s (word s 4) (word s 6) (Head ∷ []) 0) h (head_ran s))

  head_of_links : {at : ℕ} {stage : Stage} {n : Network} → with_links s ≡ reached at stage n → Stand s (word s 4) (word s 6) (Head ∷ []) 0 8
  head_of_links {at} {stage} {n} e = go (with_elements s) refl e
    where
      go : (o : Reading Network) → with_elements s ≡ o → read_on o (links_run s) ≡ reached at stage n → Stand s (word s 4) (word s 6) (Head ∷ []) 0 8
      go (refused f) h k = clash k
      go (reached p st m) h k = head_of_elements h

  head_of_file : {at : ℕ} {stage : Stage} {n : Network} → network_file s ≡ reached at stage n → Stand s (word s 4) (word s 6) (Head ∷ []) 0 8
  head_of_file {at} {stage} {n} e = go (with_links s) refl (sym (network_chain s) ∙ e)
    where
      go : (o : Reading Network) → with_links s ≡ o → read_on o (end_run s) ≡ reached at stage n → Stand s (word s 4) (word s 6) (Head ∷ []) 0 8
      go (refused f) h k = clash k
      go (reached p st m) h k = head_of_links h

module _ (s : List ℕ) (at : ℕ) (stage : Stage) (n : Network) (file : network_file s ≡ reached at stage n) where
  pub elements_stand : (i place : ℕ) (value : Network) → records s (always nothing_seen) (with_element s) i 8 Elements empty_network ≡ reached place Elements value
      → Stand s (word s 4) (word s 6) (Head ∷ replicate i Elements) 0 place
  elements_stand i place value e =
      stand_append s (word s 4) (word s 6) (head_of_file s file)
      (subst (Ran s (word s 4) (word s 6) (replicate i Elements) 8) e
      (elements_run_ran s i 8 empty_network))

  links_stand : (l place from : ℕ) (value m : Network) → l ≤ 96 → records s (always nothing_seen) (with_element s) (word s 4) 8 Elements empty_network ≡ reached from Elements m
      → records s network_seen (with_link s) l from Links m ≡ reached place Links value
      → Stand s (word s 4) (word s 6) ((Head ∷ replicate (word s 4) Elements) ++ replicate l Links) 0 place
  links_stand l place from value m few e f =
      let elements = elements_stand (word s 4) from m e in
      stand_append s (word s 4) (word s 6) elements
      (subst (Ran s (word s 4) (word s 6) (replicate l Links) from) f (links_run_ran s l from m (elements_placed s l from m elements e few)))

  -- what the records leave behind the last of theirs
  module _ {last : ℕ} (links : LinksRead s last Links n) (list : Network → List ℕ) (entry : ℕ → ℕ) (d i : ℕ) where
    -- a list of the elements, which links leave as it is
    element_beyond : ((a : ℕ) (m : Network) → list (with_element s a m) ≡ set (list m) m.elements (entry a))
        → ((a : ℕ) (m : Network) → list (with_link s a m) ≡ list m) → get_or (list empty_network) i d ≡ d → word s 4 ≤ i → get_or (list n) i d ≡ d
    unfolding with_element empty_network
    element_beyond sets keeps none h =
        ap (λ (l : List ℕ). get_or l i d) (run_same s network_seen (with_link s) (word s 6) links.start Links links.before last Links n links.run list keeps)
        ∙ run_beyond s (always nothing_seen) (with_element s) list (λ m. m.elements) entry d sets (λ a m. refl) (word s 4) 8 Elements empty_network links.start Elements links.before links.elements.run i (omega arith)
        ∙ none

    -- a list of the links, which elements leave as it is
    link_beyond : ((a : ℕ) (m : Network) → list (with_link s a m) ≡ set (list m) m.links (entry a))
        → ((a : ℕ) (m : Network) → list (with_element s a m) ≡ list m) → get_or (list empty_network) i d ≡ d → word s 6 ≤ i → get_or (list n) i d ≡ d
    unfolding with_link
    link_beyond sets keeps none h =
        run_beyond s network_seen (with_link s) list (λ m. m.links) entry d sets (λ a m. refl) (word s 6) links.start Links links.before last Links n links.run i
        (omega (arith, links.elements.links_are))
        ∙ ap (λ (l : List ℕ). get_or l i d) (run_same s (always nothing_seen) (with_element s) (word s 4) 8 Elements empty_network links.start Elements links.before links.elements.run list keeps)
        ∙ none

  pub file_states : States s n
  unfolding with_element with_link empty_network link_of
  file_states =
      record {
        elements = links.elements_are;
        links = links.links_are;
        wide = record {
          load_long = holds.long.load_long;
          capacity_long = holds.long.capacity_long;
          flags_long = holds.long.flags_long;
          from_long = holds.long.from_long;
          to_long = holds.long.to_long;
          form_long = holds.long.form_long;
          cost_long = holds.long.cost_long;
          guard_long = holds.long.guard_long;
        };
        element = λ i place load capacity flags lt stand x.
            let e = holds.element i (omega (arith, links.elements_are)) in
            let is : e.found.place ≡ place = stand_once s (word s 4) (word s 6) (elements_stand i e.found.place e.found.value e.found.before) stand in
            let f = states_fields (subst (λ (a : ℕ). StatesElement s a load capacity flags) (sym is) x) in
            record { load_is = e.load_is ∙ f.0; capacity_is = e.capacity_is ∙ f.1; flags_is = e.flags_is ∙ f.2 };
        no_element = λ i h. record {
          load_is = element_beyond links (λ m. m.load) (λ a. (element_of s a).load) 0 i (λ a m. refl) (λ a m. refl) (filled 0 64 i) h;
          capacity_is = element_beyond links (λ m. m.capacity) (λ a. (element_of s a).capacity) 0 i (λ a m. refl) (λ a m. refl) (filled 0 64 i) h;
          flags_is = element_beyond links (λ m. m.flags) (λ a. (element_of s a).flags) 0 i (λ a m. refl) (λ a m. refl) (filled 0 64 i) h;
        };
        link = λ l place guard lt stand x.
            let e = holds.link l (omega (arith, links.links_are)) in
            let is : e.found.place ≡ place =
            stand_once s (word s 4) (word s 6) (links_stand l e.found.place e.start e.found.value e.net (few l lt) e.elements e.found.before) stand in
            let g = states_guard s e.found.place (subst (λ (a : ℕ). StatesGuard s a guard) (sym is) x) in
            subst (λ (a : ℕ). LinkIs n l (word s (a + 4)) (word s (a + 6)) (word s (a + 8)) (word s (a + 10)) guard) is
            (record {
              from_is = e.from_is;
              to_is = e.to_is;
              form_is = e.form_is;
              cost_is = e.cost_is;
              guard_is = within no_guard 0 n.guard l (omega (arith, lt, links.elements.counts.links_fit, holds.long.guard_long)) ∙ e.guard_is ∙ g;
            });
        no_link = λ l h. record {
          from_is = link_beyond links (λ m. m.from) (λ a. (link_of s a).from) 0 l (λ a m. refl) (λ a m. refl) (filled 0 96 l) h;
          to_is = link_beyond links (λ m. m.to) (λ a. (link_of s a).to) 0 l (λ a m. refl) (λ a m. refl) (filled 0 96 l) h;
          form_is = link_beyond links (λ m. m.form) (λ a. (link_of s a).form) 0 l (λ a m. refl) (λ a m. refl) (filled 0 96 l) h;
          cost_is = link_beyond links (λ m. m.cost) (λ a. (link_of s a).cost) 0 l (λ a m. refl) (λ a m. refl) (filled 0 96 l) h;
          guard_is = link_beyond links (λ m. m.guard) (λ a. (link_of s a).guard) no_guard l (λ a m. refl) (λ a m. refl) (filled no_guard 96 l) h;
        };
      }
    where
      links : LinksRead s (network_size s at stage n file).links_end Links n
      links = (network_size s at stage n file).links

      few : (l : ℕ) → l < word s 6 → l ≤ 96
      few l lt = omega (arith, lt, links.elements.counts.links_fit)

      holds : NetworkHolds s n
      holds = network_holds s at stage n file

  -- ---- and nothing else

  record SameElement (m : Network) (i : ℕ) : Type 0 where
    pub load : ℕ
    pub capacity : ℕ
    pub flags : ℕ
    pub one : ElementIs n i load capacity flags
    pub other : ElementIs m i load capacity flags

  record SameLink (m : Network) (l : ℕ) : Type 0 where
    pub from : ℕ
    pub to : ℕ
    pub form : ℕ
    pub cost : ℕ
    pub guard : ℕ
    pub one : LinkIs n l from to form cost guard
    pub other : LinkIs m l from to form cost guard

  module _ (m : Network) (states : States s m) where
    same_element : (i : ℕ) → SameElement m i
    same_element i = go (ltb i (word s 4)) refl
      where
        either_way : {k kind : ℕ} → kind ≡ k → (kind ≡ 2) ⊎ (kind ≡ 7) → (k ≡ 2) ⊎ (k ≡ 7)
        either_way e (inl h) = inl (sym e ∙ h)
        either_way e (inr h) = inr (sym e ∙ h)

        go : (t : Bool) → ltb i (word s 4) ≡ t → SameElement m i
        go true t =
            let lt = ltb-true i (word s 4) t in
            let found = ((network_holds s at stage n file).element i (omega (arith, lt, file_states.elements))).found in
            let stand = elements_stand i found.place found.value found.before in
            let k = (goes_one_way Elements _ _ found.whole.framed.goes).0 in
            let x = stating (either_way found.whole.framed.kind_is k) in
            record {
              load = x.load;
              capacity = x.capacity;
              flags = x.flags;
              one = file_states.element i found.place x.load x.capacity x.flags lt stand x.states;
              other = states.element i found.place x.load x.capacity x.flags lt stand x.states;
            }
        go false t =
            let le = ltb-false i (word s 4) t in
            record { load = 0; capacity = 0; flags = 0; one = file_states.no_element i le; other = states.no_element i le }

    same_link : (l : ℕ) → SameLink m l
    same_link l = go (ltb l (word s 6)) refl
      where
        either_way : {k kind : ℕ} → kind ≡ k → (kind ≡ 3) ⊎ (kind ≡ 8) → (k ≡ 3) ⊎ (k ≡ 8)
        either_way e (inl h) = inl (sym e ∙ h)
        either_way e (inr h) = inr (sym e ∙ h)

        go : (t : Bool) → ltb l (word s 6) ≡ t → SameLink m l
        go true t =
            let lt = ltb-true l (word s 6) t in
            let few : l ≤ 96 = omega (arith, lt, (network_size s at stage n file).links.elements.counts.links_fit) in
            let e = (network_holds s at stage n file).link l (omega (arith, lt, file_states.links)) in
            let place = e.found.place in
            let stand = links_stand l place e.start e.found.value e.net few e.elements e.found.before in
            let k = (goes_one_way Links _ _ e.found.whole.framed.goes).0 in
            let g = stating_guard s place (either_way e.found.whole.framed.kind_is k) in
            record {
              from = _;
              to = _;
              form = _;
              cost = _;
              guard = _;
              one = file_states.link l place (guard_of s place) lt stand g;
              other = states.link l place (guard_of s place) lt stand g;
            }
        go false t =
            let le = ltb-false l (word s 6) t in
            record { from = 0; to = 0; form = 0; cost = 0; guard = no_guard; one = file_states.no_link l le; other = states.no_link l le }

    pub states_once : n ≡ m
    states_once = λ i. record {
      load = load i;
      capacity = capacity i;
      flags = flags i;
      from = from i;
      to = to i;
      form = form i;
      cost = cost i;
      guard = guard i;
      elements = elements i;
      links = links i;
    }
      where
        load : n.load ≡ m.load
        load = ext_get_or 0 n.load m.load (file_states.wide.load_long ∙ sym states.wide.load_long)
            (λ i _. (same_element i).one.load_is ∙ sym (same_element i).other.load_is)

        capacity : n.capacity ≡ m.capacity
        capacity = ext_get_or 0 n.capacity m.capacity (file_states.wide.capacity_long ∙ sym states.wide.capacity_long)
            (λ i _. (same_element i).one.capacity_is ∙ sym (same_element i).other.capacity_is)

        flags : n.flags ≡ m.flags
        flags = ext_get_or 0 n.flags m.flags (file_states.wide.flags_long ∙ sym states.wide.flags_long)
            (λ i _. (same_element i).one.flags_is ∙ sym (same_element i).other.flags_is)

        from : n.from ≡ m.from
        from = ext_get_or 0 n.from m.from (file_states.wide.from_long ∙ sym states.wide.from_long)
            (λ l _. (same_link l).one.from_is ∙ sym (same_link l).other.from_is)

        to : n.to ≡ m.to
        to = ext_get_or 0 n.to m.to (file_states.wide.to_long ∙ sym states.wide.to_long)
            (λ l _. (same_link l).one.to_is ∙ sym (same_link l).other.to_is)

        form : n.form ≡ m.form
        form = ext_get_or 0 n.form m.form (file_states.wide.form_long ∙ sym states.wide.form_long)
            (λ l _. (same_link l).one.form_is ∙ sym (same_link l).other.form_is)

        cost : n.cost ≡ m.cost
        cost = ext_get_or 0 n.cost m.cost (file_states.wide.cost_long ∙ sym states.wide.cost_long)
            (λ l _. (same_link l).one.cost_is ∙ sym (same_link l).other.cost_is)

        guard : n.guard ≡ m.guard
        guard = ext_get_or no_guard n.guard m.guard (file_states.wide.guard_long ∙ sym states.wide.guard_long)
            (λ l _. (same_link l).one.guard_is ∙ sym (same_link l).other.guard_is)

        elements : n.elements ≡ m.elements
        elements = file_states.elements ∙ sym states.elements

        links : n.links ≡ m.links
        links = file_states.links ∙ sym states.links

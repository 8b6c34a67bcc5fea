-- A network file and the planner's input that look at the same bytes have the same reading, part by part, by the law of reading: so what stands behind a file that is read whole, or behind the longest file, changes nothing.
-- Assumes nothing.
use mathlib.Core.Path.{◌≡◌, refl, sym, ap, ap₂, subst, ◌∙◌}
use mathlib.Core.List.{List, ◌++◌}
use mathlib.Core.Logic.{◌⊎◌, inl, inr}
use Prim.Native.Nat.{ℕ, ◌+◌, ◌*◌, ◌<◌, ◌≤◌}
use native.Mathlib.Omega.{arith}
use lib.ListN.{length, take}
use Rattle.network.specs.declared.Network.{Network}
use Rattle.network.specs.Networks.{empty_network, element_added, link_added}
use Rattle.file_stages.specs.declared.Stage.{Stage}
use Rattle.file_stages.specs.declared.Stage.TheVariants.{Head, Elements, Links, End}
use Rattle.file_stages.specs.Stages.{after_last}
use Rattle.file_fields.specs.Fields.{word, length_of}
use Rattle.file_fields.specs.Views.{nothing_seen, network_seen}
use Rattle.file_records.proofs.Due.{Framed, Whole, next_at, longest, goes_one_way}
use Rattle.file_records.specs.Records.{kind_field}
use Rattle.file_records.proofs.SameBytes.{SameFrom, wide_words, same_on, take_same, append_same}
use Rattle.file_network.specs.Runs.{Reading, reached, read_on, records, always, as_is}
use Rattle.file_network.specs.NetworkFiles.{narrow_element, wide_element, element_of, guard_of, link_of, with_element, with_link, end_on, end_on_by, links_on, links_on_by, elements_on_by, network_file, network_file_by}
use Rattle.file_network.specs.Inputs.{closed, network_input, network_input_by}
use Rattle.file_network.proofs.Runs.{run_ends}
use Rattle.file_network.proofs.Elements.{element_narrow, element_wide}
use Rattle.file_network.proofs.Links.{guard_none, guard_stated}
use Rattle.file_network.proofs.Parts.{head_run}
use Rattle.file_network.proofs.Sizes.{head_read, network_longest, network_size}
use Rattle.file_network.proofs.Looking.{looks, look_then, look_behind, Looked, then_looked, look_most, run_looked, looks_one, looks_most}
use Rattle.file_network.proofs.Alike.{Moved, moved_by, moved_equal, alike, then_alike, one_alike, closed_alike}

-- How far each part looks.

-- the links and the end
unfoldable pub links_look : List ℕ → ℕ → Stage → Network → ℕ
links_look s at stage n =
    look_then (records s network_seen (with_link s) (word s 6) at stage n) (looks s network_seen (with_link s) (word s 6) at stage n)
    (λ after next net. looks s (always nothing_seen) as_is 1 after (after_last next) net)

-- so many elements from an offset on, then the links and the end: how they are read, and how far that looks
unfoldable pub rest_on : List ℕ → ℕ → ℕ → Stage → Network → Reading Network
rest_on s count at stage n =
    read_on (records s (always nothing_seen) (with_element s) count at stage n) (λ after next net. links_on s after (after_last next) net)

unfoldable pub rest_looks : List ℕ → ℕ → ℕ → Stage → Network → ℕ
rest_looks s count at stage n =
    look_then (records s (always nothing_seen) (with_element s) count at stage n) (looks s (always nothing_seen) (with_element s) count at stage n)
    (λ after next net. links_look s after (after_last next) net)

unfoldable pub network_looks : List ℕ → ℕ
network_looks s = look_then (head_run s) (looks s (always nothing_seen) as_is 1 0 Head empty_network) (rest_looks s (word s 4))

-- with rule 13
unfoldable pub network_input_looks : List ℕ → ℕ
network_input_looks s = look_then (network_file s) (network_looks s) look_behind

module _ (s : List ℕ) where
  pub links_looked : (at : ℕ) (stage : Stage) (n : Network) → Looked at (links_on s at stage n) (links_look s at stage n)
  unfolding links_on_by links_look end_on_by
  links_looked at stage n =
      then_looked at _ _ (records s network_seen (with_link s) (word s 6) at stage n) (λ p st m. end_on s p (after_last st) m)
      (run_looked s network_seen (with_link s) (word s 6) at stage n) (λ p st m. run_looked s (always nothing_seen) as_is 1 p (after_last st) m)

  pub rest_looked : (count at : ℕ) (stage : Stage) (n : Network) → Looked at (rest_on s count at stage n) (rest_looks s count at stage n)
  unfolding rest_on rest_looks
  rest_looked count at stage n =
      then_looked at _ _ (records s (always nothing_seen) (with_element s) count at stage n) (λ p st m. links_on s p (after_last st) m)
      (run_looked s (always nothing_seen) (with_element s) count at stage n) (λ p st m. links_looked p (after_last st) m)

  pub file_rest : network_file s ≡ read_on (head_run s) (rest_on s (word s 4))
  unfolding network_file_by elements_on_by rest_on
  file_rest = refl

  pub network_looked : Looked 0 (network_file s) (network_looks s)
  unfolding network_looks
  network_looked =
      rw file_rest
      (then_looked 0 _ _ (head_run s) (rest_on s (word s 4)) (run_looked s (always nothing_seen) as_is 1 0 Head empty_network) (rest_looked (word s 4)))

  links_look_most : (at : ℕ) (n : Network) → links_look s at Links n ≤ at + longest Links * word s 6 + longest End
  unfolding links_look
  links_look_most at n =
      look_most (looks s network_seen (with_link s) (word s 6) at Links n) (at + longest Links * word s 6 + longest End) (λ p st m. looks s (always nothing_seen) as_is 1 p (after_last st) m)
      (records s network_seen (with_link s) (word s 6) at Links n)
      (omega (arith, looks_most s network_seen (with_link s) Links refl (omega arith) (word s 6) at n))
      (λ p st m e.
      let ends = run_ends s network_seen (with_link s) (word s 6) at Links n p st m e refl in
      rw ends.1 (omega (arith, ends.0, looks_one s (always nothing_seen) as_is p End m (omega arith))))

  rest_look_most : (count at : ℕ) (n : Network)
      → rest_looks s count at Elements n ≤ at + longest Elements * count + longest Links * word s 6 + longest End
  unfolding rest_looks
  rest_look_most count at n =
      look_most (looks s (always nothing_seen) (with_element s) count at Elements n) (at + longest Elements * count + longest Links * word s 6 + longest End)
      (λ p st m. links_look s p (after_last st) m) (records s (always nothing_seen) (with_element s) count at Elements n)
      (omega (arith, looks_most s (always nothing_seen) (with_element s) Elements refl (omega arith) count at n))
      (λ p st m e.
      let ends = run_ends s (always nothing_seen) (with_element s) count at Elements n p st m e refl in
      rw ends.1 (omega (arith, ends.0, links_look_most p m)))

  -- a network file looks no further than its longest form, whether it is read or refused
  pub network_look_most : network_looks s ≤ network_longest
  unfolding network_looks
  network_look_most =
      look_most (looks s (always nothing_seen) as_is 1 0 Head empty_network) network_longest (rest_looks s (word s 4)) (head_run s) (omega (arith, looks_one s (always nothing_seen) as_is 0 Head empty_network (omega arith)))
      (λ p st m e.
      let before = head_read s p st m e in
      rw before.stage_is
      (omega (arith, before.ends, before.counts.elements_fit, before.counts.links_fit, rest_look_most (word s 4) p m)))

  network_input_look_most : network_input_looks s ≤ network_longest + 1
  unfolding network_input_looks
  network_input_look_most =
      look_most (network_looks s) (network_longest + 1) look_behind (network_file s) (omega (arith, network_look_most))
      (λ p st m e. omega (arith, (network_size s p st m e).at_most))

-- What a record found at a stage states.

module _ {s t : List ℕ} {at at' upto kind long : ℕ} {next : Stage} (same : SameFrom s t at at' upto) (room : at + long ≤ upto) where
  pub element_same : Framed s at Elements kind long next → element_of s at ≡ element_of t at'
  unfolding narrow_element wide_element length_of
  element_same f = by_kind (goes_one_way Elements kind next f.goes).0
    where
      there : {k : ℕ} → kind ≡ k → kind_field t at' ≡ k
      there e = sym (same.words 2 (omega (arith, f.least))) ∙ sym f.kind_is ∙ e

      narrow_same : narrow_element s at ≡ narrow_element t at'
      narrow_same =
          let least = f.enough in
          rw (same.words 4 (omega arith), same.words 6 (omega arith), same.words 8 (omega arith))

      wide_same : 14 ≤ long → wide_element s at ≡ wide_element t at'
      wide_same least =
          rw (wide_words same 4 (omega arith), wide_words same 8 (omega arith), same.words 12 (omega arith))

      by_kind : (kind ≡ 2) ⊎ (kind ≡ 7) → element_of s at ≡ element_of t at'
      by_kind (inl e) = element_narrow s at (sym f.kind_is ∙ e) ∙ narrow_same ∙ sym (element_narrow t at' (there e))
      by_kind (inr e) =
          let long_is : long ≡ 14 = rw e at f.long_of in
          element_wide s at (sym f.kind_is ∙ e) ∙ wide_same (omega arith) ∙ sym (element_wide t at' (there e))

  guard_same : Framed s at Links kind long next → guard_of s at ≡ guard_of t at'
  unfolding length_of
  guard_same f = by_kind (goes_one_way Links kind next f.goes).0
    where
      there : {k : ℕ} → kind ≡ k → kind_field t at' ≡ k
      there e = sym (same.words 2 (omega (arith, f.least))) ∙ sym f.kind_is ∙ e

      by_kind : (kind ≡ 3) ⊎ (kind ≡ 8) → guard_of s at ≡ guard_of t at'
      by_kind (inl e) = guard_none s at (sym f.kind_is ∙ e) ∙ sym (guard_none t at' (there e))
      by_kind (inr e) =
          let long_is : long ≡ 14 = rw e at f.long_of in
          guard_stated s at (sym f.kind_is ∙ e) ∙ same.words 12 (omega arith) ∙ sym (guard_stated t at' (there e))

  pub link_same : Framed s at Links kind long next → link_of s at ≡ link_of t at'
  unfolding link_of
  link_same f =
      let least = f.enough in
      rw (same.words 4 (omega arith), same.words 6 (omega arith), same.words 8 (omega arith), same.words 10 (omega arith), guard_same f)

-- The same bytes, the same reading.

module _ (s t : List ℕ) (upto : ℕ) where
  element_alike : (at at' : ℕ) (st : Stage) (kind long : ℕ) (next : Stage) (n m : Network)
      → st ≡ Elements → Whole s nothing_seen at st kind long next → SameFrom s t at at' upto → at + long ≤ upto → n ≡ m → with_element s at n ≡ with_element t at' m
  unfolding with_element
  element_alike at at' st kind long next n m p w same room r =
      ap₂ element_added r (element_same same room (subst (λ (x : Stage). Framed s at x kind long next) p w.framed))

  link_alike : (at at' : ℕ) (st : Stage) (kind long : ℕ) (next : Stage) (n m : Network)
      → st ≡ Links → Whole s (network_seen n) at st kind long next → SameFrom s t at at' upto → at + long ≤ upto → n ≡ m → with_link s at n ≡ with_link t at' m
  unfolding with_link
  link_alike at at' st kind long next n m p w same room r =
      ap₂ link_added r (link_same same room (subst (λ (x : Stage). Framed s at x kind long next) p w.framed))

  pub elements_alike : (count at at' : ℕ) (n : Network) → SameFrom s t at at' upto → looks s (always nothing_seen) (with_element s) count at Elements n ≤ upto
      → Moved ◌≡◌ at at' (records s (always nothing_seen) (with_element s) count at Elements n) (records t (always nothing_seen) (with_element t) count at' Elements n)
  elements_alike count at at' n same far =
      alike ◌≡◌ s t (always nothing_seen) (always nothing_seen) (with_element s) (with_element t) upto (λ n m r. refl) (λ st. st ≡ Elements) (λ st p. ap next_at p) element_alike count at at' Elements n n refl same far refl

  -- the links and the end, behind heads that state as many links
  module _ (counts : word s 6 ≡ word t 6) where
    pub links_on_alike : (at at' : ℕ) (n : Network) → SameFrom s t at at' upto → links_look s at Links n ≤ upto
        → Moved ◌≡◌ at at' (links_on s at Links n) (links_on t at' Links n)
    unfolding links_on_by links_look end_on_by
    links_on_alike at at' n same =
        let run = run_looked s network_seen (with_link s) (word s 6) at Links n in
        then_alike at at' upto (looks s network_seen (with_link s) (word s 6) at Links n) (λ p st m. looks s (always nothing_seen) as_is 1 p (after_last st) m)
        (records s network_seen (with_link s) (word s 6) at Links n) (records t network_seen (with_link t) (word t 6) at' Links n)
        (λ p st m. end_on s p (after_last st) m) (λ p st m. end_on t p (after_last st) m)
        (λ far.
        rw (← counts)
        (alike ◌≡◌ s t network_seen network_seen (with_link s) (with_link t) upto (λ n m r. ap network_seen r) (λ st. st ≡ Links) (λ st p. ap next_at p) link_alike (word s 6) at at' Links n n
        refl same far refl))
        (λ p st m e. omega (arith, run.ends p st m e, (run_looked s (always nothing_seen) as_is 1 p (after_last st) m).from))
        (λ i st m e far. one_alike s t upto (always nothing_seen) (at + i) (at' + i) (after_last st) m (same_on same i) far)

    -- and so many elements before them
    pub rest_on_alike : (count at at' : ℕ) (n : Network) → SameFrom s t at at' upto → rest_looks s count at Elements n ≤ upto
        → Moved ◌≡◌ at at' (rest_on s count at Elements n) (rest_on t count at' Elements n)
    unfolding rest_on rest_looks
    rest_on_alike count at at' n same =
        let run = run_looked s (always nothing_seen) (with_element s) count at Elements n in
        then_alike at at' upto (looks s (always nothing_seen) (with_element s) count at Elements n) (λ p st m. links_look s p (after_last st) m)
        (records s (always nothing_seen) (with_element s) count at Elements n) (records t (always nothing_seen) (with_element t) count at' Elements n)
        (λ p st m. links_on s p (after_last st) m) (λ p st m. links_on t p (after_last st) m)
        (elements_alike count at at' n same)
        (λ p st m e. omega (arith, run.ends p st m e, (links_looked s p (after_last st) m).from))
        (λ i st m e far.
        let ends = run_ends s (always nothing_seen) (with_element s) count at Elements n (at + i) st m e refl in
        rw ends.1 (links_on_alike (at + i) (at' + i) m (same_on same i) (rw ends.1 at far)))

  -- the network file, and the input with it
  pub network_moved : SameFrom s t 0 0 upto → network_looks s ≤ upto → Moved ◌≡◌ 0 0 (network_file s) (network_file t)
  unfolding network_looks
  network_moved same far =
      let run = run_looked s (always nothing_seen) as_is 1 0 Head empty_network in
      moved_by (file_rest s) (file_rest t)
      (then_alike 0 0 upto (looks s (always nothing_seen) as_is 1 0 Head empty_network) (rest_looks s (word s 4)) (head_run s) (head_run t) (rest_on s (word s 4)) (rest_on t (word t 4))
      (one_alike s t upto (always nothing_seen) 0 0 Head empty_network same)
      (λ p st m e. omega (arith, run.ends p st m e, (rest_looked s (word s 4) p st m).from))
      (λ i st m e seen.
      let before = head_read s (0 + i) st m e in
      let eight : 8 ≤ upto = omega (arith, (rest_looked s (word s 4) (0 + i) st m).from, before.ends) in
      rw (before.stage_is, ← same.words 4 (omega arith))
      (rest_on_alike (same.words 6 (omega arith)) (word s 4) (0 + i) (0 + i) m (same_on same i) (rw before.stage_is at seen)))
      far)

  pub network_alike : SameFrom s t 0 0 upto → network_looks s ≤ upto → network_file s ≡ network_file t
  network_alike same far = moved_equal (network_moved same far)

  pub network_input_alike : SameFrom s t 0 0 upto → network_input_looks s ≤ upto → network_input s ≡ network_input t
  unfolding network_input_by network_input_looks
  network_input_alike same far =
      moved_equal
      (then_alike 0 0 upto (network_looks s) look_behind (network_file s) (network_file t) (closed s) (closed t)
      (network_moved same)
      (λ p st m e. omega (arith, (network_looked s).ends p st m e))
      (λ i st m e seen. closed_alike s t upto (0 + i) (0 + i) st m (same_on same i) seen) far)

-- whatever follows a network file that is read whole
pub network_followed : (s x : List ℕ) (at : ℕ) (stage : Stage) (n : Network) → network_file s ≡ reached at stage n → network_file (s ++ x) ≡ reached at stage n
network_followed s x at stage n h =
    sym (network_alike s (s ++ x) (length s) (append_same s x 0) (omega (arith, (network_looked s).ends at stage n h, (network_size s at stage n h).inside))) ∙ h

-- any number of bytes above the longest network file decides
pub network_decided : (limit : ℕ) → network_longest < limit → (s : List ℕ) → network_input (take limit s) ≡ network_input s
network_decided limit h s =
    network_input_alike (take limit s) s limit (take_same limit s 0) (omega (arith, network_input_look_most (take limit s)))

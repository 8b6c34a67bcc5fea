-- How long the network file and its input are at most: a head counts its records, and each stage has a longest record.
-- Assumes nothing.
use mathlib.Core.Path.{◌≡◌, refl, sym, ◌∙◌}
use mathlib.Core.List.{List}
use Prim.Native.Nat.{ℕ, ◌+◌, ◌*◌, ◌≤◌}
use native.Mathlib.Omega.{arith}
use lib.ListN.{length}
use Rattle.file_stages.specs.declared.Stage.{Stage}
use Rattle.file_stages.specs.declared.Stage.TheVariants.{Head, Elements, Links, End, PlanHead}
use Rattle.network.specs.declared.Network.{Network}
use Rattle.file_fields.specs.Fields.{word}
use Rattle.file_fields.specs.Views.{nothing_seen, network_seen}
use Rattle.network.specs.Networks.{empty_network}
use Rattle.file_network.specs.Runs.{reached, records, always, as_is}
use Rattle.file_network.specs.NetworkFiles.{with_element, with_link, network_file}
use Rattle.file_network.specs.Inputs.{network_input, network_input_by}
use Rattle.file_records.proofs.Due.{longest, head_kept}
use Rattle.file_network.proofs.Runs.{run_same, run_count, run_ends, one_record}
use Rattle.file_network.proofs.Parts.{then_reached, closed_reached, head_run, elements_run, links_run, end_run, with_elements, with_links, network_chain}

-- The counts that a head states.
pub record Counts (s : List ℕ) : Type 0 where
  pub some : 1 ≤ word s 4
  pub elements_fit : word s 4 ≤ 64
  pub links_fit : word s 6 ≤ 96

-- What is read after each part: where it ends, how many of each are read, and the run that read them.

pub record HeadRead (s : List ℕ) (at : ℕ) (stage : Stage) (n : Network) : Type 0 where
  pub counts : Counts s
  pub ends : at ≡ 8
  pub stage_is : stage ≡ Elements
  pub value_is : n ≡ empty_network

pub head_read : (s : List ℕ) (at : ℕ) (stage : Stage) (n : Network) → head_run s ≡ reached at stage n → HeadRead s at stage n
head_read s at stage n h =
    let one = one_record s (always nothing_seen) as_is 0 Head empty_network at stage n h in
    let kept = head_kept one.whole in
    record {
      counts = record { some = kept.some; elements_fit = kept.elements_fit; links_fit = kept.links_fit };
      ends = omega (arith, one.ends, one.whole.framed.enough, one.whole.framed.most);
      stage_is = one.last_is;
      value_is = one.value_is;
    }

pub record ElementsRead (s : List ℕ) (at : ℕ) (stage : Stage) (n : Network) : Type 0 where
  pub counts : Counts s
  pub at_most : at ≤ longest Head + longest Elements * word s 4
  pub stage_is : stage ≡ Elements
  pub elements_are : n.elements ≡ word s 4
  pub links_are : n.links ≡ 0
  pub run : records s (always nothing_seen) (with_element s) (word s 4) 8 Elements empty_network ≡ reached at stage n

pub elements_read :
    (s : List ℕ) (at : ℕ) (stage : Stage) (n : Network) → with_elements s ≡ reached at stage n → ElementsRead s at stage n
unfolding with_element empty_network
elements_read s at stage n h =
    let b = then_reached (elements_run s) (head_run s) at stage n h in
    let before = head_read s b.at b.stage b.value b.first in
    let run : records s (always nothing_seen) (with_element s) (word s 4) 8 Elements empty_network ≡ reached at stage n =
    rw (before.ends, before.stage_is, before.value_is) at b.then
    in
    let ends = run_ends s (always nothing_seen) (with_element s) (word s 4) 8 Elements empty_network at stage n run refl in
    let count = run_count s (always nothing_seen) (with_element s) (word s 4) 8 Elements empty_network at stage n run (λ n. n.elements) (λ at n. refl) in
    record {
      counts = before.counts;
      at_most = ends.0;
      stage_is = ends.1;
      elements_are = omega arith;
      links_are = run_same s (always nothing_seen) (with_element s) (word s 4) 8 Elements empty_network at stage n run (λ n. n.links) (λ at n. refl);
      run = run;
    }

pub record LinksRead (s : List ℕ) (at : ℕ) (stage : Stage) (n : Network) : Type 0 where
  pub start : ℕ
  pub before : Network
  pub elements : ElementsRead s start Elements before
  pub at_most : at ≤ longest Head + longest Elements * word s 4 + longest Links * word s 6
  pub stage_is : stage ≡ Links
  pub elements_are : n.elements ≡ word s 4
  pub links_are : n.links ≡ word s 6
  pub run : records s network_seen (with_link s) (word s 6) start Links before ≡ reached at stage n

pub links_read : (s : List ℕ) (at : ℕ) (stage : Stage) (n : Network) → with_links s ≡ reached at stage n → LinksRead s at stage n
unfolding with_link
links_read s at stage n h =
    let b = then_reached (links_run s) (with_elements s) at stage n h in
    let before = elements_read s b.at b.stage b.value b.first in
    let run : records s network_seen (with_link s) (word s 6) b.at Links b.value ≡ reached at stage n =
    rw before.stage_is at b.then
    in
    let ends = run_ends s network_seen (with_link s) (word s 6) b.at Links b.value at stage n run refl in
    let count = run_count s network_seen (with_link s) (word s 6) b.at Links b.value at stage n run (λ n. n.links) (λ at n. refl) in
    let same = run_same s network_seen (with_link s) (word s 6) b.at Links b.value at stage n run (λ n. n.elements) (λ at n. refl) in
    record {
      start = b.at;
      before = b.value;
      elements = rw before.stage_is at before;
      at_most = omega (arith, before.at_most, ends.0);
      stage_is = ends.1;
      elements_are = same ∙ before.elements_are;
      links_are = omega (arith, before.links_are);
      run = run;
    }

-- A network file is at most 12 bytes, 14 for each element and 14 for each link: 2,252 bytes.

abbrev pub network_longest : ℕ
network_longest = longest Head + longest Elements * 64 + longest Links * 96 + longest End

pub record NetworkSize (s : List ℕ) (at : ℕ) (stage : Stage) (n : Network) : Type 0 where
  pub links_end : ℕ
  pub links : LinksRead s links_end Links n
  pub stage_is : stage ≡ PlanHead
  pub within : at ≤ longest Head + longest Elements * n.elements + longest Links * n.links + longest End
  pub at_most : at ≤ network_longest
  pub inside : at ≤ length s

pub network_size : (s : List ℕ) (at : ℕ) (stage : Stage) (n : Network) → network_file s ≡ reached at stage n → NetworkSize s at stage n
network_size s at stage n h =
    let b = then_reached (end_run s) (with_links s) at stage n (sym (network_chain s) ∙ h) in
    let before = links_read s b.at b.stage b.value b.first in
    let run : records s (always nothing_seen) as_is 1 b.at End b.value ≡ reached at stage n = rw before.stage_is at b.then in
    let one = one_record s (always nothing_seen) as_is b.at End b.value at stage n run in
    let net : b.value ≡ n = sym one.value_is in
    let all : LinksRead s b.at Links n = rw (before.stage_is, net) at before in
    let counts = all.elements.counts in
    let last : at ≤ b.at + longest End = omega (arith, one.ends, one.whole.framed.most) in
    record {
      links_end = b.at;
      links = all;
      stage_is = one.last_is;
      within = omega (arith, last, all.at_most, all.elements_are, all.links_are);
      at_most = omega (arith, last, all.at_most, counts.elements_fit, counts.links_fit);
      inside = omega (arith, one.ends, one.whole.framed.fits);
    }

pub network_input_size :
    (s : List ℕ) (at : ℕ) (stage : Stage) (n : Network) →
    network_input s ≡ reached at stage n →
    (network_file s ≡ reached at stage n) × (length s ≡ at) × (length s ≤ network_longest)
unfolding network_input_by
network_input_size s at stage n h =
    let c = closed_reached s (network_file s) at stage n h in
    let size = network_size s at stage n c.0 in
    (c.0, omega (arith, c.1, size.inside), omega (arith, c.1, size.at_most))

-- an accepted network file has at most 2,252 bytes
pub network_most : (s : List ℕ) (at : ℕ) (stage : Stage) (n : Network) → network_input s ≡ reached at stage n → length s ≤ 2252
network_most s at stage n h = (network_input_size s at stage n h).2

-- The network file as a chain of runs, by cases on the outcome: where a chain is refused or reaches its end, one of its runs is refused, or all are whole.
-- Assumes nothing.
use mathlib.Core.Path.{◌≡◌, refl, sym, ap}
use mathlib.Core.Bool.{Bool, true, false}
use mathlib.Core.List.{List}
use mathlib.Core.Logic.{◌⊎◌, inl, inr}
use Prim.Native.Nat.{ℕ, ◌<◌, ◌≤◌}
use native.Mathlib.Omega.{arith}
use lib.Dec.{ltb}
use lib.ListN.{length}
use borrow.Author.Tests.{ltb-true, ltb-false}
use Rattle.network.specs.declared.refusal.Refusal.{Refusal}
use Rattle.network.specs.declared.refusal.Rule.TheVariants.{ByteAfterEnd}
use Rattle.file_stages.specs.declared.Stage.{Stage}
use Rattle.file_stages.specs.declared.Stage.TheVariants.{Head}
use Rattle.network.specs.declared.Network.{Network}
use Rattle.file_stages.specs.Stages.{after_last}
use Rattle.file_fields.specs.Fields.{word}
use Rattle.file_fields.specs.Views.{nothing_seen, network_seen}
use Rattle.network.specs.Networks.{empty_network}
use Rattle.file_network.specs.Runs.{Reading, refused, reached, read_on, records, always, as_is}
use Rattle.file_network.specs.NetworkFiles.{with_element, with_link, network_file, network_file_by, elements_on, elements_on_by, links_on, links_on_by, end_on, end_on_by}
use Rattle.file_network.specs.Inputs.{closed}

-- Two steps, one after the other.

pub record Behind {A B : Type 0} (o : Reading A) (f : ℕ → Stage → A → Reading B) (result : Reading B) : Type 0 where
  pub at : ℕ
  pub stage : Stage
  pub value : A
  pub first : o ≡ reached at stage value
  pub then : f at stage value ≡ result

module _ {A B : Type 0} (f : ℕ → Stage → A → Reading B) where
  pub then_refused : (o : Reading A) (r : Refusal) → read_on o f ≡ refused r → (o ≡ refused r) ⊎ Behind o f (refused r)
  then_refused (refused x) r h = let same : x ≡ r = cc in inl (ap refused same)
  then_refused (reached at stage a) r h = inr (record { at = at; stage = stage; value = a; first = refl; then = h })

  pub then_reached :
      (o : Reading A) (end : ℕ) (last : Stage) (b : B) → read_on o f ≡ reached end last b → Behind o f (reached end last b)
  then_reached (refused x) end last b h = let z : ◌≡◌ {A = ℕ} 0 1 = cc in absurd (omega arith)
  then_reached (reached at stage a) end last b h = record { at = at; stage = stage; value = a; first = refl; then = h }

-- Rule 13.

pub record AfterEnd {A : Type 0} (s : List ℕ) (file : Reading A) (r : Refusal) : Type 0 where
  pub at : ℕ
  pub stage : Stage
  pub value : A
  pub whole : file ≡ reached at stage value
  pub follows : at < length s
  pub rule_is : r.rule ≡ ByteAfterEnd
  pub place_is : r.place ≡ at

pub closed_refused :
    {A : Type 0} (s : List ℕ) (file : Reading A) (r : Refusal) →
    read_on file (closed s) ≡ refused r →
    (file ≡ refused r) ⊎ AfterEnd s file r
closed_refused s (refused x) r h = let same : x ≡ r = cc in inl (ap refused same)
closed_refused s (reached at stage a) r h = go (ltb at (length s)) refl
  where
    go : (t : Bool) → ltb at (length s) ≡ t → (reached at stage a ≡ refused r) ⊎ AfterEnd s (reached at stage a) r
    go true e =
        let q = rw e at h in
        let same : ◌≡◌ {A = Refusal} (record { rule = ByteAfterEnd; place = at }) r = cc in
        inr (record {
          at = at;
          stage = stage;
          value = a;
          whole = refl;
          follows = ltb-true at (length s) e;
          rule_is = sym (ap (λ (x : Refusal). x.rule) same);
          place_is = sym (ap (λ (x : Refusal). x.place) same);
        })
    go false e = inl (rw e at h)

pub closed_reached :
    {A : Type 0} (s : List ℕ) (file : Reading A) (end : ℕ) (last : Stage) (a : A) →
    read_on file (closed s) ≡ reached end last a →
    (file ≡ reached end last a) × (length s ≤ end)
closed_reached s (refused x) end last a h = let z : ◌≡◌ {A = ℕ} 0 1 = cc in absurd (omega arith)
closed_reached s (reached at stage b) end last a h = go (ltb at (length s)) refl
  where
    go : (t : Bool) → ltb at (length s) ≡ t → (reached at stage b ≡ reached end last a) × (length s ≤ end)
    go true e = let q = rw e at h in let z : ◌≡◌ {A = ℕ} 0 1 = cc in absurd (omega arith)
    go false e =
        let q : reached at stage b ≡ reached end last a = rw e at h in
        let same : at ≡ end = cc in
        (q, omega (arith, ltb-false at (length s) e))

-- The network file: what is read up to the end of each part.

module _ (s : List ℕ) where
  abbrev pub head_run : Reading Network
  head_run = records s (always nothing_seen) as_is 1 0 Head empty_network

  abbrev pub elements_run : ℕ → Stage → Network → Reading Network
  elements_run at stage n = records s (always nothing_seen) (with_element s) (word s 4) at stage n

  abbrev pub links_run : ℕ → Stage → Network → Reading Network
  links_run at stage n = records s network_seen (with_link s) (word s 6) at (after_last stage) n

  abbrev pub end_run : ℕ → Stage → Network → Reading Network
  end_run at stage n = records s (always nothing_seen) as_is 1 at (after_last stage) n

  abbrev pub with_elements : Reading Network
  with_elements = read_on head_run elements_run

  abbrev pub with_links : Reading Network
  with_links = read_on with_elements links_run

  pub network_chain : network_file s ≡ read_on with_links end_run
  unfolding network_file_by elements_on_by links_on_by end_on_by
  network_chain = go head_run
    where
      last : (o : Reading Network) → read_on o (λ after next net. end_on s after (after_last next) net) ≡ read_on o end_run
      last (refused r) = refl
      last (reached at stage n) = refl

      next : (o : Reading Network) →
          read_on o (λ after next net. links_on s after (after_last next) net) ≡ read_on (read_on o links_run) end_run
      next (refused r) = refl
      next (reached at stage n) = last (links_run at stage n)

      go : (o : Reading Network) → read_on o (elements_on s) ≡ read_on (read_on (read_on o elements_run) links_run) end_run
      go (refused r) = refl
      go (reached at stage n) = next (elements_run at stage n)

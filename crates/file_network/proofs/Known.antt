-- Where not every kind is known, a file is read as ever but for a refusal by rule 2 at a record of an unknown kind: one record by its law, a run by induction, and step by step.
-- Assumes nothing.
use mathlib.Core.Path.{◌≡◌, refl, sym, ap, subst, ◌∙◌}
use mathlib.Core.Bool.{Bool, true, false}
use mathlib.Core.List.{List}
use Prim.Native.Nat.{ℕ, zero, suc, ◌+◌}
use native.Mathlib.Omega.{arith}
use lib.Dec.{ltb}
use lib.ListN.{length}
use Rattle.std.specs.Prelude.{Result, Ok, Err}
use Rattle.network.specs.declared.refusal.Refusal.{Refusal}
use Rattle.network.specs.declared.refusal.Rule.{Rule}
use Rattle.file_records.specs.declared.Record.{Record}
use Rattle.network.specs.declared.Network.{Network}
use Rattle.network.specs.Networks.{empty_network}
use Rattle.network.specs.declared.refusal.Rule.TheVariants.{KindOutOfPlace, ByteAfterEnd}
use Rattle.network.specs.Refusals.{pick, first_broken}
use Rattle.file_stages.specs.declared.Stage.{Stage}
use Rattle.file_stages.specs.declared.Stage.TheVariants.{Head}
use Rattle.file_stages.specs.Stages.{after_last}
use Rattle.file_fields.specs.Views.{Seen, nothing_seen, network_seen}
use Rattle.file_fields.specs.Fields.{word}
use Rattle.file_records.specs.Records.{kind_field, length_field, record_rules_by, found_by, due_by, due_at}
use Rattle.file_records.proofs.Known.{due_known}
use Rattle.file_network.specs.Runs.{Reading, refused, reached, read_on, on_found, records_by, records, always, as_is}
use Rattle.file_network.specs.NetworkFiles.{with_element, with_link, end_on_by, end_on, links_on_by, links_on, elements_on_by, elements_on, network_file_by, network_file}
use Rattle.file_network.specs.Inputs.{closed, network_input_by, network_input}

-- where reading is refused by rule 2, the kind of the record is known
abbrev pub KnownThere : {A : Type 0} → (ℕ → Bool) → List ℕ → Reading A → Type 0
KnownThere known s o = (place : ℕ) → o ≡ refused (record { rule = KindOutOfPlace; place = place }) → known (kind_field s place) ≡ true

-- one step after another
pub then_known :
    {A B : Type 0} (known : ℕ → Bool) (s : List ℕ) (o o' : Reading A) (f f' : ℕ → Stage → A → Reading B) →
    (KnownThere known s o → o ≡ o') →
    ((at : ℕ) (stage : Stage) (a : A) → KnownThere known s (f at stage a) → f at stage a ≡ f' at stage a) →
    KnownThere known s (read_on o f) →
    read_on o f ≡ read_on o' f'
then_known {A} {B} known s (refused r) o' f f' first then there =
    let same : refused r ≡ o' = first (λ place e. there place (let q : r ≡ record { rule = KindOutOfPlace; place = place } = cc in ap refused q)) in
    ap (λ (o : Reading A). read_on o f') same
then_known {A} {B} known s (reached at stage a) o' f f' first then there =
    let same : reached at stage a ≡ o' = first (λ place e. let z : ◌≡◌ {A = ℕ} 0 1 = cc in absurd (omega arith)) in
    then at stage a there ∙ ap (λ (o : Reading A). read_on o f') same

module _ (known : ℕ → Bool) (s : List ℕ) where
  -- a run of records
  pub records_known :
      {A : Type 0} (seen : A → Seen) (into : ℕ → A → A) (n at : ℕ) (stage : Stage) (a : A) →
      KnownThere known s (records_by known s seen into n at stage a) →
      records_by known s seen into n at stage a ≡ records s seen into n at stage a
  unfolding records_by
  records_known seen into zero at stage a there = refl
  records_known {A} seen into (suc n) at stage a there = go (due_by known s (seen a) at stage) refl (records_known seen into n)
    where
      on : Result Record Refusal → Reading A
      on f = on_found f (λ long next. records_by known s seen into n (at + long) next (into at a))

      on_ever : Result Record Refusal → Reading A
      on_ever f = on_found f (λ long next. records s seen into n (at + long) next (into at a))

      same : due_by known s (seen a) at stage ≡ due_at s (seen a) at stage
      same =
          due_known known s (seen a) at stage
          (λ unknown e. let z : ◌≡◌ {A = Bool} true false = sym (there at (ap on e)) ∙ unknown in absurd (differ z))
        where
          differ : ◌≡◌ {A = Bool} true false → ⊥
          differ z = let y : ◌≡◌ {A = ℕ} 0 1 = cc in absurd (omega arith)

      go : (f : Result Record Refusal) →
          due_by known s (seen a) at stage ≡ f →
          ((at' : ℕ) (stage' : Stage) (a' : A) → KnownThere known s (records_by known s seen into n at' stage' a')
          → records_by known s seen into n at' stage' a' ≡ records s seen into n at' stage' a') →
          on (due_by known s (seen a) at stage) ≡ on_ever (due_at s (seen a) at stage)
      go (Ok found) d rest =
          ap on d ∙
          rest (at + found.length) found.next (into at a) (λ place e. there place (ap on d ∙ e)) ∙
          ap on_ever (sym d ∙ same)
      go (Err r) d rest = ap on d ∙ ap on_ever (sym d ∙ same)

  pub end_known : (at : ℕ) (stage : Stage) (n : Network) → KnownThere known s (end_on_by known s at stage n) → end_on_by known s at stage n ≡ end_on s at stage n
  unfolding end_on_by
  end_known = records_known (always nothing_seen) as_is 1

  pub links_known : (at : ℕ) (stage : Stage) (n : Network) → KnownThere known s (links_on_by known s at stage n) → links_on_by known s at stage n ≡ links_on s at stage n
  unfolding links_on_by
  links_known at stage n =
      then_known known s (records_by known s network_seen (with_link s) (word s 6) at stage n) (records s network_seen (with_link s) (word s 6) at stage n)
      (λ p st m. end_on_by known s p (after_last st) m) (λ p st m. end_on s p (after_last st) m)
      (records_known network_seen (with_link s) (word s 6) at stage n) (λ p st m. end_known p (after_last st) m)

  pub elements_known : (at : ℕ) (stage : Stage) (n : Network) → KnownThere known s (elements_on_by known s at stage n) → elements_on_by known s at stage n ≡ elements_on s at stage n
  unfolding elements_on_by
  elements_known at stage n =
      then_known known s (records_by known s (always nothing_seen) (with_element s) (word s 4) at stage n) (records s (always nothing_seen) (with_element s) (word s 4) at stage n)
      (λ p st m. links_on_by known s p (after_last st) m) (λ p st m. links_on s p (after_last st) m)
      (records_known (always nothing_seen) (with_element s) (word s 4) at stage n) (λ p st m. links_known p (after_last st) m)

  pub network_known : KnownThere known s (network_file_by known s) → network_file_by known s ≡ network_file s
  unfolding network_file_by
  network_known =
      then_known known s (records_by known s (always nothing_seen) as_is 1 0 Head empty_network) (records s (always nothing_seen) as_is 1 0 Head empty_network)
      (elements_on_by known s) (elements_on s) (records_known (always nothing_seen) as_is 1 0 Head empty_network) elements_known

  pub network_input_known : KnownThere known s (network_input_by known s) → network_input_by known s ≡ network_input s
  unfolding network_input_by
  network_input_known =
      then_known known s (network_file_by known s) (network_file s) (closed s) (closed s) network_known (λ at stage n there. refl)

-- ---- where every record that stands there is of a known kind: P is kept from one record to the next

-- reading is refused at such a place, or has come to one
abbrev pub Placed : {A : Type 0} → (ℕ → Type 0) → Reading A → Type 0
Placed P (refused f) = P f.place
Placed P (reached at stage a) = P at

pub then_placed : {A B : Type 0} (P : ℕ → Type 0) (o : Reading A) (f : ℕ → Stage → A → Reading B) → Placed P o
    → ((at : ℕ) (stage : Stage) (a : A) → P at → Placed P (f at stage a)) → Placed P (read_on o f)
then_placed P (refused r) f h then = h
then_placed P (reached at stage a) f h then = then at stage a h

pub closed_placed : {A : Type 0} (P : ℕ → Type 0) (s : List ℕ) (at : ℕ) (stage : Stage) (a : A) → P at
    → Placed P (closed s at stage a)
closed_placed {A} P s at stage a h = go (ltb at (length s))
  where
    go : (t : Bool)
        → Placed {A = A} P (pick t (refused (record { rule = ByteAfterEnd; place = at })) (reached at stage a))
    go true = h
    go false = h

pub placed_known : {A : Type 0} (P : ℕ → Type 0) (known : ℕ → Bool) (s : List ℕ) (o : Reading A)
    → ((at : ℕ) → P at → known (kind_field s at) ≡ true) → Placed P o → KnownThere known s o
placed_known P known s o all h place e = all place (subst (Placed P) e h)

module _ (P : ℕ → Type 0) (known : ℕ → Bool) (s : List ℕ) (on : (at : ℕ) → P at → P (at + length_field s at)) where
  pub records_placed : {A : Type 0} (seen : A → Seen) (into : ℕ → A → A) (n at : ℕ) (stage : Stage) (a : A) → P at
      → Placed P (records_by known s seen into n at stage a)
  unfolding records_by due_by
  records_placed seen into zero at stage a h = h
  records_placed {A} seen into (suc n) at stage a h =
      go (first_broken (record_rules_by known s (seen a) at stage)) (records_placed seen into n)
    where
      go : (v : Result Unit Rule)
          → ((at' : ℕ) (stage' : Stage) (a' : A) → P at' → Placed P (records_by known s seen into n at' stage' a'))
          → Placed P (on_found (found_by s at stage v)
          (λ long next. records_by known s seen into n (at + long) next (into at a)))
      go (Ok t) rest = rest (at + length_field s at) _ (into at a) (on at h)
      go (Err r) rest = h

  pub network_placed : P 0 → Placed P (network_file_by known s)
  unfolding network_file_by elements_on_by links_on_by end_on_by
  network_placed front =
      then_placed P (records_by known s (always nothing_seen) as_is 1 0 Head empty_network) (elements_on_by known s)
      (records_placed (always nothing_seen) as_is 1 0 Head empty_network front)
      (λ at stage n h. then_placed P (records_by known s (always nothing_seen) (with_element s) (word s 4) at stage n)
      (λ after next m. links_on_by known s after (after_last next) m)
      (records_placed (always nothing_seen) (with_element s) (word s 4) at stage n h)
      (λ at' stage' n' h'.
      then_placed P (records_by known s network_seen (with_link s) (word s 6) at' (after_last stage') n')
      (λ after next m. end_on_by known s after (after_last next) m)
      (records_placed network_seen (with_link s) (word s 6) at' (after_last stage') n' h')
      (λ at'' stage'' n'' h''. records_placed (always nothing_seen) as_is 1 at'' (after_last stage'') n'' h'')))

  pub network_input_placed : P 0 → Placed P (network_input_by known s)
  unfolding network_input_by
  network_input_placed front =
      then_placed P (network_file_by known s) (closed s) (network_placed front) (closed_placed P s)

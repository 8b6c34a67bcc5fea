-- A narrow element rewritten as kind 7: its bytes are a record that states the same element, so input that keeps rules 1 to 13 and 20 is read as the same network and plan.
-- Assumes nothing.
use mathlib.Core.Path.{◌≡◌, refl, sym, ap, subst, ◌∙◌}
use mathlib.Core.List.{List, ◌++◌}
use Prim.Native.Nat.{ℕ, ◌+◌, ◌<◌, ◌≤◌}
use native.Mathlib.Omega.{arith}
use lib.ListN.{length}
use Rattle.network.specs.declared.Element.{Element}
use Rattle.network.specs.declared.Network.{Network}
use Rattle.file_stages.specs.declared.Stage.{Stage}
use Rattle.file_stages.specs.declared.Stage.TheVariants.{Elements}
use Rattle.file_fields.specs.Fields.{word, length_of}
use Rattle.file_fields.specs.Views.{nothing_seen}
use Rattle.file_records.specs.Records.{kind_field, due_at, recorded}
use Rattle.file_records.proofs.Due.{Whole, whole_found, as_kind, element_kept}
use Rattle.file_network.specs.Runs.{Reading, reached}
use Rattle.file_network.specs.NetworkFiles.{narrow_element, element_of, network_file}
use Rattle.file_network.specs.Inputs.{network_input, network_read}
use Rattle.file_network.proofs.Elements.{element_narrow}
use Rattle.file_network.proofs.Sizes.{network_input_size, network_size}
use Rattle.file_network.proofs.Contents.{network_holds}
use Rattle.file_network.proofs.Alike.{Moved, both_refused, both_reached}
use Rattle.file_both.specs.Inputs.{both_input, both_read}
use Rattle.file_both.proofs.Sizes.{both_size}
use Rattle.file_writer.proofs.Stands.{stands_between, stands_word}
use Rattle.file_refusals.specs.Files.{KeepsNetwork, KeepsBoth}
use Rattle.file_refusals.proofs.Files.{stand_once}
use Rattle.file_refusals.proofs.Stated.{elements_stand}
use Rattle.file_refusals.proofs.Inputs.{network_kept, both_kept}
use Rattle.file_refusals.proofs.Reading.{network_read_lem, both_read_lem}
use Rattle.file_written.specs.Rewriting.{ElementStands, as_wide, Widened, Widenings, none, one_more}
use Rattle.file_written.proofs.RoundTrip.{flags_written}
use Rattle.file_written.proofs.Rewritten.{ElementDue, element_due, input_rewritten, both_rewritten}

-- where the record of an element stands in a network file that is read, it is due there and breaks no rule
record Standing (s : List ℕ) (at : ℕ) : Type 0 where
  pub due : ElementDue s at
  pub kind : ℕ
  pub long : ℕ
  pub whole : Whole s nothing_seen at Elements kind long Elements

standing : (s : List ℕ) (end : ℕ) (last : Stage) (n : Network) → network_file s ≡ reached end last n → (at : ℕ) → ElementStands s at → Standing s at
standing s end last n file at x =
    let lt : x.before < n.elements = omega (arith, x.fewer, (network_size s end last n file).links.elements_are) in
    let found = ((network_holds s end last n file).element x.before lt).found in
    let is : found.place ≡ at =
    stand_once s (word s 4) (word s 6) (elements_stand s end last n file x.before found.place found.value found.before) x.stand in
    subst (Standing s) is (record { due = element_due s end last n file x.before lt; kind = found.kind; long = found.long; whole = found.whole })

module _ (front narrow back : List ℕ) (two : kind_field narrow 0 ≡ 2) (ten : length narrow ≡ 10)
    (there : ElementStands (front ++ narrow ++ back) (length front)) where
  abbrev was : List ℕ
  was = front ++ narrow ++ back

  words : (i : ℕ) → i + 1 < length narrow → word was (length front + i) ≡ word narrow i
  words = stands_word narrow (stands_between front narrow back)

  kind_was : kind_field was (length front) ≡ 2
  kind_was = words 2 (omega arith) ∙ two

  -- the element that the record states
  abbrev stated : Element
  stated = record { load = word narrow 4; capacity = word narrow 6; flags = word narrow 8 }

  states : element_of was (length front) ≡ stated
  unfolding narrow_element
  states =
      element_narrow was (length front) kind_was ∙ rw (words 4 (omega arith), words 6 (omega arith), words 8 (omega arith))

  module _ (end : ℕ) (last : Stage) (n : Network) (file : network_file was ≡ reached end last n) where
    stand : Standing was (length front)
    stand = standing was end last n file (length front) there

    found : due_at was nothing_seen (length front) Elements ≡ recorded 2 (length narrow) Elements
    unfolding length_of
    found =
        let w = stand.whole in
        let kind_is : stand.kind ≡ 2 = w.framed.kind_is ∙ kind_was in
        let long_is : stand.long ≡ length narrow = w.framed.long_of ∙ ap length_of kind_is ∙ sym ten in
        rw (kind_is, long_is) at (whole_found w)

    flags_in : stated.flags ≤ 3
    flags_in = rw (words 8 (omega arith)) at (element_kept (as_kind (stand.whole.framed.kind_is ∙ kind_was) stand.whole))

    pub input_widened : Moved ◌≡◌ (length front + length narrow) (length front + length (as_wide narrow)) (network_input was) (network_input (front ++ as_wide narrow ++ back))
    input_widened = input_rewritten front narrow (as_wide narrow) back stated stand.due 2 found states (flags_written n stated flags_in)

    pub both_widened : Moved ◌≡◌ (length front + length narrow) (length front + length (as_wide narrow)) (both_input was) (both_input (front ++ as_wide narrow ++ back))
    both_widened = both_rewritten front narrow (as_wide narrow) back stated stand.due 2 found states (flags_written n stated flags_in)

-- ---- the same answer, network and plan

read_same :
    {A B : Type 0} (read : Reading A → B) → ((at at' : ℕ) (stage : Stage) (a : A) → read (reached at stage a) ≡ read (reached at' stage a)) →
    {old new : ℕ} {o o' : Reading A} → Moved ◌≡◌ old new o o' → (at : ℕ) (stage : Stage) (a : A) → o ≡ reached at stage a → read o' ≡ read o
read_same read places {o = o} (both_refused rule i h h') at stage a e = let f = sym h ∙ e in let z : ◌≡◌ {A = ℕ} 0 1 = cc in absurd (omega arith)
read_same {A} read places {old = old} {new = new} (both_reached i stage a b h h' r) at st x e =
    ap read h' ∙ places (new + i) (old + i) stage b ∙ ap (λ (y : A). read (reached (old + i) stage y)) (sym r) ∙ ap read (sym h)

module _ (t : List ℕ) where
  network_same :
      (s front narrow back : List ℕ) → s ≡ front ++ narrow ++ back → kind_field narrow 0 ≡ 2 → length narrow ≡ 10 → ElementStands s (length front)
      → t ≡ front ++ as_wide narrow ++ back → KeepsNetwork s → network_read (network_input t) ≡ network_read (network_input s)
  network_same s front narrow back was two ten there is =
      subst (λ (x : List ℕ). ElementStands x (length front) → KeepsNetwork x → network_read (network_input t) ≡ network_read (network_input x)) (sym was)
      (λ there keeps.
      let k = network_kept (front ++ narrow ++ back) keeps in
      let file = (network_input_size (front ++ narrow ++ back) k.0 k.1 k.2 k.3).0 in
      ap (λ (x : List ℕ). network_read (network_input x)) is ∙
      read_same network_read (λ at at' stage n. refl) (input_widened front narrow back two ten there k.0 k.1 k.2 file) k.0 k.1 k.2 k.3)
      there

  both_same :
      (s front narrow back : List ℕ) → s ≡ front ++ narrow ++ back → kind_field narrow 0 ≡ 2 → length narrow ≡ 10 → ElementStands s (length front)
      → t ≡ front ++ as_wide narrow ++ back → KeepsBoth s → both_read (both_input t) ≡ both_read (both_input s)
  both_same s front narrow back was two ten there is =
      subst (λ (x : List ℕ). ElementStands x (length front) → KeepsBoth x → both_read (both_input t) ≡ both_read (both_input x)) (sym was)
      (λ there keeps.
      let k = both_kept (front ++ narrow ++ back) keeps in
      let size = both_size (front ++ narrow ++ back) k.0 k.1 k.2.0 k.2.1 k.3 in
      ap (λ (x : List ℕ). both_read (both_input x)) is ∙
      read_same both_read (λ at at' stage n. refl)
      (both_widened front narrow back two ten there size.middle size.due k.2.0 size.network) k.0 k.1 k.2 k.3)
      there

pub widened_network : (s t : List ℕ) → Widened s t → KeepsNetwork s → network_read (network_input t) ≡ network_read (network_input s)
widened_network s t w = network_same t s w.front w.narrow w.back w.was w.kind w.long w.there w.is

pub widened_both : (s t : List ℕ) → Widened s t → KeepsBoth s → both_read (both_input t) ≡ both_read (both_input s)
widened_both s t w = both_same t s w.front w.narrow w.back w.was w.kind w.long w.there w.is

-- ---- one after the other: what is read still keeps rules 1 to 13 and 20

widened_keeps : (s t : List ℕ) → Widened s t → KeepsNetwork s → KeepsNetwork t
widened_keeps s t w keeps =
    let k = network_kept s keeps in
    ((network_read_lem t k.2).0 (widened_network s t w keeps ∙ ap network_read k.3)).keeps

widened_keeps_both : (s t : List ℕ) → Widened s t → KeepsBoth s → KeepsBoth t
widened_keeps_both s t w keeps =
    let k = both_kept s keeps in
    let x = (both_read_lem t k.2.0 k.2.1).0 (widened_both s t w keeps ∙ ap both_read k.3) in
    record { middle = x.middle; network = x.network; plan = x.plan }

pub all_network : (s t : List ℕ) → Widenings s t → KeepsNetwork s → network_read (network_input t) ≡ network_read (network_input s)
all_network s t none keeps = refl
all_network s u (one_more {t = t} w more) keeps = all_network t u more (widened_keeps s t w keeps) ∙ widened_network s t w keeps

pub all_both : (s t : List ℕ) → Widenings s t → KeepsBoth s → both_read (both_input t) ≡ both_read (both_input s)
all_both s t none keeps = refl
all_both s u (one_more {t = t} w more) keeps = all_both t u more (widened_keeps_both s t w keeps) ∙ widened_both s t w keeps

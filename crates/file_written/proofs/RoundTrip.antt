-- The round trip of elements and links: the bytes of each are one record that states it, the same wherever they stand, so the file is read as their network, by induction over the lists.
-- Assumes nothing.
use mathlib.Core.Path.{◌≡◌, refl, sym, ap, ◌∙◌}
use mathlib.Core.Bool.{Bool, true, false}
use mathlib.Core.List.{List, [], ◌∷◌, ◌++◌, append-nil, flat_map, foldl}
use mathlib.Core.Logic.{inl, inr}
use Prim.Native.Nat.{ℕ, ◌+◌, ◌*◌, ◌/◌, ◌%◌, ◌≤◌}
use native.Mathlib.Nat.{add-zero, zero-add}
use native.Mathlib.Omega.{arith}
use lib.Dec.{eqb}
use lib.ListN.{length, get_or, length-append}
use borrow.Author.Tests.{eqb-true, eqb-false, le-ltb, lt-leb, ne_eqb}
use Rattle.network.specs.declared.Element.{Element}
use Rattle.network.specs.declared.Link.{Link}
use Rattle.network.specs.declared.Network.{Network}
use Rattle.network.specs.Networks.{no_guard, empty_network, element_added, link_added}
use Rattle.network.specs.Refusals.{pick}
use Rattle.file_stages.specs.declared.Stage.{Stage}
use Rattle.file_stages.specs.declared.Stage.TheVariants.{Head, Elements, Links, End, PlanHead}
use Rattle.file_stages.specs.Stages.{next_stage, after_last}
use Rattle.file_fields.specs.Views.{Seen, nothing_seen, network_seen}
use Rattle.file_fields.specs.Fields.{word, length_of, field_rules, head_rules, flags_rules, plain_link_rules, guard_rules, link_rules, wide_word}
use Rattle.file_records.specs.Records.{due_at, recorded}
use Rattle.file_records.proofs.Reader.{due_found}
use Rattle.file_records.proofs.Due.{Framed, due_kept}
use Rattle.file_records.proofs.SameBytes.{SameFrom}
use Rattle.file_records.proofs.Alike.{framed_looks, placed, due_alike}
use Rattle.file_network.specs.Runs.{Reading, reached, read_on, records, always, as_is}
use Rattle.file_network.specs.NetworkFiles.{wide_element, element_of, guard_of, link_of, with_element, with_link, end_on, end_on_by, links_on, links_on_by, elements_on, elements_on_by, network_file, network_file_by}
use Rattle.file_network.specs.Inputs.{network_input, network_input_by}
use Rattle.file_network.proofs.Runs.{records_none, records_suc}
use Rattle.file_network.proofs.Parts.{head_run}
use Rattle.file_network.proofs.NetworkAlike.{element_same, link_same}
use Rattle.file_network.proofs.Accepted.{ElementIn, LinkIn, Guarded, GuardIn}
use Rattle.file_writer.specs.Writing.{end_bytes}
use Rattle.file_writer.proofs.Stands.{Stands, stands_between, stands_left, stands_right, stands_word, number_back}
use Rattle.file_written.specs.NetworkBytes.{head_bytes, element_bytes, plain_bytes, guarded_bytes, link_bytes, network_bytes, network_of}
use Rattle.file_written.proofs.Each.{Each}

-- ---- bytes that are one record

-- the bytes r, whole, are one record due at a stage, by what was read before it
abbrev pub IsRecord : (seen : Seen) (stage next : Stage) (r : List ℕ) → Type 0
IsRecord seen stage next r = (kind : ℕ) × (due_at r seen 0 stage ≡ recorded kind (length r) next)

module _ {s : List ℕ} {at : ℕ} (r : List ℕ) (there : Stands s at r) where
  pub stands_same : SameFrom r s 0 at (length r)
  stands_same =
      record {
        words = λ i k. rw (zero-add i) (sym (stands_word r there i (omega arith)));
        remain = λ n k l. omega (arith, there.whole);
        lack = λ n k l. omega arith;
      }

  -- they are that wherever they stand
  pub record_due : (seen : Seen) (stage next : Stage) (h : IsRecord seen stage next r) → due_at s seen at stage ≡ recorded h.0 (length r) next
  record_due seen stage next h =
      let looks = framed_looks r 0 stage h.0 (length r) next (due_kept r seen 0 stage h.1).framed in
      due_alike r s 0 at (length r) stage stands_same (omega arith) seen ∙ ap (placed at) h.1

  -- a head or an end
  pub one_read : {A : Type 0} (stage next : Stage) → IsRecord nothing_seen stage next r → (a : A)
      → records s (always nothing_seen) as_is 1 at stage a ≡ reached (at + length r) next a
  one_read stage next h a =
      records_suc s (always nothing_seen) as_is 0 at stage a h.0 (length r) next (record_due nothing_seen stage next h) ∙
      records_none s (always nothing_seen) as_is (at + length r) next a

-- ---- records one behind the other

module _ {X : Type 0} (seen : Network → Seen) (stage : Stage) (of : List ℕ → ℕ → X) (bytes : X → List ℕ) where
  -- the bytes of x are one record where n was read before it, and x is read of them
  abbrev pub Stated : Network → X → Type 0
  Stated n x = IsRecord (seen n) stage stage (bytes x) × (of (bytes x) 0 ≡ x)

  -- what is read of a record is the same where its bytes are
  abbrev pub StatedAlike : Type 0
  StatedAlike = (r s : List ℕ) (at kind : ℕ) → SameFrom r s 0 at (length r) → Framed r 0 stage kind (length r) stage → of r 0 ≡ of s at

  -- Q is what is kept of what was read and of what is left to read
  module _ (added : Network → X → Network) (same : StatedAlike) (Q : Network → List X → Type 0)
      (keeps : (n : Network) (x : X) (xs : List X) → Q n (x ∷ xs) → Stated n x × Q (added n x) xs) (s : List ℕ) where
    abbrev into : ℕ → Network → Network
    into at n = added n (of s at)

    pub run_read : (xs : List X) (at : ℕ) (n : Network) → Q n xs → Stands s at (flat_map bytes xs)
        → records s seen into (length xs) at stage n ≡ reached (at + length (flat_map bytes xs)) stage (foldl added n xs)
    unfolding flat_map
    run_read [] at n q there = records_none s seen into at stage n ∙ rw (add-zero at)
    run_read (x ∷ xs) at n q there =
        let r = bytes x in
        let rest = flat_map bytes xs in
        let here = stands_left r rest there in
        let k = keeps n x xs q in
        let due = k.0.0 in
        let is : of s at ≡ x = sym (same r s at due.0 (stands_same r here) (due_kept r (seen n) 0 stage due.1).framed) ∙ k.0.1 in
        let ends : at + length r + length rest ≡ at + length (r ++ rest) = rw (length-append r rest) (omega arith) in
        records_suc s seen into (length xs) at stage n due.0 (length r) stage (record_due r here (seen n) stage stage due) ∙
        ap (λ (y : X). records s seen into (length xs) (at + length r) stage (added n y)) is ∙
        run_read xs (at + length r) (added n x) k.1 (stands_right r rest there) ∙
        ap (λ (p : ℕ). reached p stage (foldl added (added n x) xs)) ends

-- ---- what is written for a head, an element, a link and an end

head_written : (elements links : ℕ) → 1 ≤ elements → elements ≤ 64 → links ≤ 96 → IsRecord nothing_seen Head Elements (head_bytes elements links)
unfolding head_bytes word next_stage length_of field_rules head_rules
head_written elements links some few fewer = (
  1,
  due_found (head_bytes elements links) nothing_seen 0 1 8 Head Elements refl refl (omega arith) (omega arith) refl refl
      (rw (number_back elements, number_back links, ne_eqb elements 0 (omega arith), le-ltb 64 elements few, le-ltb 96 links fewer)),
)

-- the two numbers of two bytes of a number of four give it back
wide_back : (n : ℕ) → n % 65536 + 65536 * (n / 65536) ≡ n
wide_back n = omega arith

pub flags_written : (n : Network) (e : Element) → e.flags ≤ 3 → Stated (always nothing_seen) Elements element_of element_bytes n e
unfolding element_bytes word wide_word next_stage length_of field_rules flags_rules element_of wide_element
flags_written n e h = (
  (
    7,
    due_found (element_bytes e) nothing_seen 0 7 14 Elements Elements refl refl (omega arith) (omega arith) refl refl
        (rw (number_back e.flags, le-ltb 3 e.flags h)),
  ),
  rw (
    number_back (e.load % 65536),
    number_back (e.load / 65536),
    wide_back e.load,
    number_back (e.capacity % 65536),
    number_back (e.capacity / 65536),
    wide_back e.capacity,
    number_back e.flags,
  ),
)

pub element_written : (n : Network) (e : Element) → ElementIn e → Stated (always nothing_seen) Elements element_of element_bytes n e
element_written n e h = flags_written n e h.flags_in

-- a link's rules ask of what was read how many elements it has, and of its guard
pub record LinkKept (n : Network) (l : Link) : Type 0 where
  pub in_range : LinkIn n.elements l
  pub guard : GuardIn (network_seen n) l

plain_written : (n : Network) (l : Link) → LinkIn n.elements l → l.guard ≡ no_guard → IsRecord (network_seen n) Links Links (plain_bytes l) × (link_of (plain_bytes l) 0 ≡ l)
unfolding plain_bytes word next_stage length_of field_rules link_rules plain_link_rules link_of guard_of network_seen
plain_written n l h none =
    let from = number_back l.from in
    let to = number_back l.to in
    let form = number_back l.form in
    let cost = number_back l.cost in (
      (
        3,
        due_found (plain_bytes l) (network_seen n) 0 3 12 Links Links refl refl (omega arith) (omega arith) refl refl
            (rw (
              from,
              to,
              form,
              cost,
              lt-leb n.elements l.from h.from_in,
              lt-leb n.elements l.to h.to_in,
              ne_eqb l.from l.to h.differ,
              le-ltb 2 l.form h.form_in,
              h.suited,
            )),
      ),
      rw (from, to, form, cost)
          (ap (λ (g : ℕ). record { from = l.from; to = l.to; form = l.form; cost = l.cost; guard = g }) (sym none)),
    )

guarded_written : (n : Network) (l : Link) → LinkIn n.elements l → Guarded (network_seen n) l → IsRecord (network_seen n) Links Links (guarded_bytes l) × (link_of (guarded_bytes l) 0 ≡ l)
unfolding guarded_bytes word next_stage length_of field_rules link_rules plain_link_rules guard_rules link_of guard_of network_seen
guarded_written n l h g =
    let from = number_back l.from in
    let to = number_back l.to in
    let form = number_back l.form in
    let cost = number_back l.cost in
    let guard : word (guarded_bytes l) 12 ≡ l.guard = omega arith in (
      (
        8,
        due_found (guarded_bytes l) (network_seen n) 0 8 14 Links Links refl refl (omega arith) (omega arith) refl refl
            (rw (
              from,
              to,
              form,
              cost,
              guard,
              lt-leb n.elements l.from h.from_in,
              lt-leb n.elements l.to h.to_in,
              ne_eqb l.from l.to h.differ,
              le-ltb 2 l.form h.form_in,
              h.suited,
              ne_eqb l.form 0 g.switch,
              lt-leb n.links l.guard g.earlier,
              ne_eqb (get_or n.form l.guard 0) 0 g.guards,
            )),
      ),
      rw (from, to, form, cost, guard),
    )

pub link_written : (n : Network) (l : Link) → LinkKept n l → Stated network_seen Links link_of link_bytes n l
unfolding link_bytes
link_written n l h = go (eqb l.guard no_guard) refl
  where
    some : ¬ (l.guard ≡ no_guard) → GuardIn (network_seen n) l → Guarded (network_seen n) l
    some ne (inl none) = absurd (ne none)
    some ne (inr g) = g

    go : (t : Bool) → eqb l.guard no_guard ≡ t
        → IsRecord (network_seen n) Links Links (pick t (plain_bytes l) (guarded_bytes l)) × (link_of (pick t (plain_bytes l) (guarded_bytes l)) 0 ≡ l)
    go true t = plain_written n l h.in_range (eqb-true l.guard no_guard t)
    go false t = guarded_written n l h.in_range (some (eqb-false l.guard no_guard t) h.guard)

-- links one after the other, each by those before it
abbrev pub LinksKept : Network → List Link → Type 0
LinksKept n [] = Unit
LinksKept n (l ∷ ls) = LinkKept n l × LinksKept (link_added n l) ls

end_written : IsRecord nothing_seen End PlanHead end_bytes
unfolding end_bytes word next_stage length_of field_rules
end_written = (4, due_found end_bytes nothing_seen 0 4 4 End PlanHead refl refl (omega arith) (omega arith) refl refl refl)

-- ---- the file

head_words : {s : List ℕ} (elements links : ℕ) → Stands s 0 (head_bytes elements links) → (word s 4 ≡ elements) × (word s 6 ≡ links)
unfolding head_bytes word
head_words elements links h = (
  stands_word (head_bytes elements links) h 4 (omega arith) ∙ number_back elements,
  stands_word (head_bytes elements links) h 6 (omega arith) ∙ number_back links,
)

-- elements and links that keep rules 5 to 9 and 20
module _ (es : List Element) (ls : List Link) (some : 1 ≤ length es) (few : length es ≤ 64) (fewer : length ls ≤ 96)
    (elements-keep : Each ElementIn es) (links-keep : LinksKept (foldl element_added empty_network es) ls) where
  abbrev file : List ℕ
  file = network_bytes es ls

  -- wherever their file stands at the front
  file_stands : {s : List ℕ} → Stands s 0 file → network_file s ≡ reached (length file) PlanHead (network_of es ls)
  unfolding network_bytes network_file_by elements_on_by links_on_by end_on_by network_of empty_network with_element with_link head_bytes end_bytes
  file_stands {s} h =
      let head = head_bytes (length es) (length ls) in
      let xs = flat_map element_bytes es in
      let ys = flat_map link_bytes ls in
      let three = stands_left (head ++ xs ++ ys) end_bytes h in
      let two = stands_left (head ++ xs) ys three in
      let front = stands_left head xs two in
      let words = head_words (length es) (length ls) front in
      let n1 = foldl element_added empty_network es in
      let n2 = foldl link_added n1 ls in
      let long2 = length-append head xs in
      let long3 = length-append (head ++ xs) ys in
      let long4 = length-append (head ++ xs ++ ys) end_bytes in
      let behind : 0 + length (head ++ xs) ≡ 8 + length xs = omega arith in
      let last : 0 + length (head ++ xs ++ ys) ≡ 8 + length xs + length ys = omega arith in
      let ends : 8 + length xs + length ys + 4 ≡ length (head ++ xs ++ ys ++ end_bytes) = omega arith in
      let first : head_run s ≡ reached 8 Elements empty_network = one_read head front Head Elements (head_written (length es) (length ls) some few fewer) empty_network in
      let second : records s (always nothing_seen) (with_element s) (word s 4) 8 Elements empty_network ≡ reached (8 + length xs) Elements n1 =
      rw words.0
      (run_read (always nothing_seen) Elements element_of element_bytes element_added (λ r s at kind same f. element_same same (omega arith) f)
      (λ n es. Each ElementIn es) (λ n e es q. (element_written n e q.0, q.1)) s es 8 empty_network elements-keep (stands_right head xs two)) in
      let third : records s network_seen (with_link s) (word s 6) (8 + length xs) Links n1 ≡ reached (8 + length xs + length ys) Links n2 =
      rw words.1
      (run_read network_seen Links link_of link_bytes link_added (λ r s at kind same f. link_same same (omega arith) f)
      LinksKept (λ n l ls q. (link_written n l q.0, q.1)) s ls (8 + length xs) n1 links-keep
      (rw behind at (stands_right (head ++ xs) ys three))) in
      let fourth : records s (always nothing_seen) as_is 1 (8 + length xs + length ys) End n2 ≡ reached (8 + length xs + length ys + 4) PlanHead n2 =
      one_read end_bytes (rw last at (stands_right (head ++ xs ++ ys) end_bytes h)) End PlanHead end_written n2 in
      ap (λ (o : Reading Network). read_on o (elements_on s)) first ∙
      ap (λ (o : Reading Network). read_on o (λ after next net. links_on s after (after_last next) net)) second ∙
      ap (λ (o : Reading Network). read_on o (λ after next net. end_on s after (after_last next) net)) third ∙
      fourth ∙
      ap (λ (k : ℕ). reached k PlanHead n2) ends

  -- whatever follows it
  pub file_read : (post : List ℕ) → network_file (file ++ post) ≡ reached (length file) PlanHead (network_of es ls)
  file_read post = file_stands (stands_between [] file post)

  -- alone: it is accepted by rules 1 to 13 and 20, as the network that they make, and ends at its length
  pub round_trip : network_input file ≡ reached (length file) PlanHead (network_of es ls)
  unfolding network_input_by
  round_trip =
      let read : network_file file ≡ reached (length file) PlanHead (network_of es ls) = rw append-nil at (file_read []) in
      rw (read, le-ltb (length file) (length file) (omega arith))

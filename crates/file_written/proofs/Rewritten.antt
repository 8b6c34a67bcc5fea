-- An element record put in for another that states the same element: what stands before it is read as before, and what stands behind it is read alike, moved by the difference of the lengths.
-- Assumes nothing.
use mathlib.Core.Path.{◌≡◌, refl, sym, ap, ap₂, ◌∙◌}
use mathlib.Core.List.{List, ◌++◌, append_assoc}
use Prim.Native.Nat.{ℕ, zero, suc, ◌+◌, ◌-◌, ◌<◌, ◌≤◌}
use native.Mathlib.Omega.{arith}
use lib.ListN.{length, length-append}
use Rattle.std.specs.Prelude.{Result, Err, Ok}
use Rattle.network.specs.declared.refusal.Refusal.{Refusal}
use Rattle.file_records.specs.declared.Record.{Record}
use Rattle.network.specs.declared.Element.{Element}
use Rattle.network.specs.declared.Network.{Network}
use Rattle.network.specs.Networks.{empty_network, element_added}
use Rattle.file_stages.specs.declared.Stage.{Stage}
use Rattle.file_stages.specs.declared.Stage.TheVariants.{Head, Elements}
use Rattle.file_stages.specs.Stages.{after_last}
use Rattle.file_fields.specs.Views.{Seen, nothing_seen}
use Rattle.file_fields.specs.Fields.{word}
use Rattle.file_records.specs.Records.{due_at, recorded}
use Rattle.file_records.proofs.Due.{due_kept}
use Rattle.file_records.proofs.SameBytes.{SameFrom, same_on, front_same, back_same}
use Rattle.file_network.specs.Runs.{Reading, reached, read_on, records, always, as_is}
use Rattle.file_network.specs.NetworkFiles.{element_of, with_element, links_on, network_file}
use Rattle.file_network.specs.Inputs.{closed, network_input, network_input_by}
use Rattle.file_network.proofs.Runs.{records_none, records_suc, records_refused}
use Rattle.file_network.proofs.Parts.{head_run, then_reached}
use Rattle.file_network.proofs.Sizes.{head_read, network_size}
use Rattle.file_network.proofs.Contents.{network_holds}
use Rattle.file_network.proofs.Looking.{look_then, look_behind, run_looked}
use Rattle.file_network.proofs.Alike.{Moved, moved_by, moved_equal, then_alike, one_alike, closed_alike}
use Rattle.file_network.proofs.NetworkAlike.{rest_on, rest_looks, network_looks, network_looked, file_rest, element_same, elements_alike, rest_on_alike}
use Rattle.file_plan.proofs.Alike.{plan_input_looks, plan_input_from}
use Rattle.file_both.specs.Inputs.{plan_behind, both_input, both_input_by}
use Rattle.file_both.proofs.Alike.{behind_alike}
use Rattle.file_writer.proofs.Stands.{Stands, stands_between}
use Rattle.file_written.proofs.RoundTrip.{IsRecord, stands_same, record_due}

-- ---- a run of records in two parts

records_split :
    {A : Type 0} (s : List ℕ) (seen : A → Seen) (into : ℕ → A → A) (n done m at : ℕ) (stage : Stage) (a : A) (at' : ℕ) (stage' : Stage) (a' : A) →
    n ≡ done + m →
    records s seen into done at stage a ≡ reached at' stage' a' →
    records s seen into n at stage a ≡ records s seen into m at' stage' a'
records_split s seen into n zero m at stage a at' stage' a' e run =
    let q = sym (records_none s seen into at stage a) ∙ run in
    let at_is : at ≡ at' = cc in
    let stage_is : stage ≡ stage' = cc in
    let a_is : a ≡ a' = cc in
    let n-is : n ≡ m = omega arith in
    rw (n-is, at_is, stage_is, a_is)
records_split s seen into zero (suc done) m at stage a at' stage' a' e run = absurd (omega arith)
records_split {A} s seen into (suc n) (suc done) m at stage a at' stage' a' e run =
    go (due_at s (seen a) at stage) refl
    (λ at'' stage'' a'' run''. records_split s seen into n done m at'' stage'' a'' at' stage' a' (omega arith) run'')
  where
    go : (f : Result Record Refusal) →
        due_at s (seen a) at stage ≡ f →
        ((at'' : ℕ) (stage'' : Stage) (a'' : A) →
        records s seen into done at'' stage'' a'' ≡ reached at' stage' a' →
        records s seen into n at'' stage'' a'' ≡ records s seen into m at' stage' a') →
        records s seen into (suc n) at stage a ≡ records s seen into m at' stage' a'
    go (Ok found) d rest =
        records_suc s seen into n at stage a found.kind found.length found.next d ∙
        rest (at + found.length) found.next (into at a) (sym (records_suc s seen into done at stage a found.kind found.length found.next d) ∙ run)
    go (Err r) d rest =
        let none = records_refused s seen into (suc done) at stage a r (omega arith) d in
        let z : ◌≡◌ {A = ℕ} 0 1 = cc in
        absurd (omega arith)

-- ---- an element is due where its record stands

-- reading of s comes to an offset with so many of its elements read, and another one is due there
pub record ElementDue (s : List ℕ) (at : ℕ) : Type 0 where
  pub done : ℕ
  pub net : Network
  pub fewer : done < word s 4
  pub head : head_run s ≡ reached 8 Elements empty_network
  pub before : records s (always nothing_seen) (with_element s) done 8 Elements empty_network ≡ reached at Elements net

pub element_due : (s : List ℕ) (end : ℕ) (last : Stage) (n : Network) (h : network_file s ≡ reached end last n) (i : ℕ) (lt : i < n.elements)
    → ElementDue s ((network_holds s end last n h).element i lt).found.place
element_due s end last n h i lt =
    let size = network_size s end last n h in
    let found = ((network_holds s end last n h).element i lt).found in
    let b = then_reached (rest_on s (word s 4)) (head_run s) end last n (sym (file_rest s) ∙ h) in
    let head = head_read s b.at b.stage b.value b.first in
    record {
      done = i;
      net = found.value;
      fewer = omega (arith, size.links.elements_are);
      head = rw (head.ends, head.stage_is, head.value_is) at b.first;
      before = found.before;
    }

-- the file goes on with it
due_rest : (s : List ℕ) (at : ℕ) (d : ElementDue s at) → network_file s ≡ rest_on s (suc (word s 4 - suc d.done)) at Elements d.net
unfolding rest_on
due_rest s at d =
    file_rest s ∙
    ap (λ (o : Reading Network). read_on o (rest_on s (word s 4))) d.head ∙
    ap (λ (o : Reading Network). read_on o (λ after next net. links_on s after (after_last next) net))
    (records_split s (always nothing_seen) (with_element s) (word s 4) d.done (suc (word s 4 - suc d.done)) 8 Elements empty_network at Elements d.net
    (omega (arith, d.fewer)) d.before)

-- and behind it where it is whole
rest_next :
    (s : List ℕ) (m at kind long : ℕ) (n : Network) →
    due_at s nothing_seen at Elements ≡ recorded kind long Elements →
    rest_on s (suc m) at Elements n ≡ rest_on s m (at + long) Elements (with_element s at n)
unfolding rest_on
rest_next s m at kind long n d =
    ap (λ (o : Reading Network). read_on o (λ after next net. links_on s after (after_last next) net))
    (records_suc s (always nothing_seen) (with_element s) m at Elements n kind long Elements d)

-- ---- inputs whose network files are read alike, with the same bytes behind

module _ (was is : List ℕ) (old new : ℕ) (file : Moved ◌≡◌ old new (network_file was) (network_file is)) (behind : (upto : ℕ) → SameFrom was is old new upto) where
  pub input_moved : Moved ◌≡◌ old new (network_input was) (network_input is)
  unfolding network_input_by
  input_moved =
      let upto = look_then (network_file was) (network_looks was) look_behind in
      then_alike old new upto (network_looks was) look_behind (network_file was) (network_file is) (closed was) (closed is)
      (λ far. file) (λ p st m e. omega (arith, (network_looked was).ends p st m e))
      (λ i st m h seen. closed_alike was is upto (old + i) (new + i) st m (same_on (behind upto) i) seen) (omega arith)

  pub both_moved : Moved ◌≡◌ old new (both_input was) (both_input is)
  unfolding both_input_by
  both_moved =
      let upto = look_then (network_file was) (network_looks was) (λ at st n. plan_input_looks was n.links at) in
      then_alike old new upto (network_looks was) (λ at st n. plan_input_looks was n.links at) (network_file was) (network_file is)
      (λ at st n. plan_behind was at n) (λ at st n. plan_behind is at n)
      (λ far. file)
      (λ p st m h. omega (arith, (network_looked was).ends p st m h, plan_input_from was m.links p))
      (λ i st m h seen. behind_alike was is upto m (old + i) (new + i) (same_on (behind upto) i) seen) (omega arith)

-- ---- one for another

module _ (front r r' back : List ℕ) (e : Element) (due : ElementDue (front ++ r ++ back) (length front)) (kind : ℕ)
    (found : due_at (front ++ r ++ back) nothing_seen (length front) Elements ≡ recorded kind (length r) Elements)
    (states : element_of (front ++ r ++ back) (length front) ≡ e) (other : IsRecord nothing_seen Elements Elements r' × (element_of r' 0 ≡ e)) where
  abbrev was : List ℕ
  was = front ++ r ++ back

  abbrev is : List ℕ
  is = front ++ r' ++ back

  abbrev old : ℕ
  old = length front + length r

  abbrev new : ℕ
  new = length front + length r'

  before_same : (at : ℕ) → SameFrom was is at at (length front)
  before_same at = rw (append_assoc front r back, append_assoc front r' back) (front_same front (r ++ back) (r' ++ back) at)

  pub behind_same : (upto : ℕ) → SameFrom was is old new upto
  behind_same upto = rw (length-append front r, length-append front r') at (back_same (front ++ r) (front ++ r') back upto)

  eight : 8 ≤ length front
  eight =
      let run = run_looked was (always nothing_seen) (with_element was) due.done 8 Elements empty_network in
      omega (arith, run.from, run.ends (length front) Elements due.net due.before)

  counts_elements : word was 4 ≡ word is 4
  counts_elements = (before_same 0).words 4 (omega (arith, eight))

  counts_links : word was 6 ≡ word is 6
  counts_links = (before_same 0).words 6 (omega (arith, eight))

  -- reading comes to the other record too
  other_due : ElementDue is (length front)
  other_due =
      record {
        done = due.done;
        net = due.net;
        fewer = omega (arith, due.fewer, counts_elements);
        head =
            sym (moved_equal (one_alike was is (length front) (always nothing_seen) 0 0 Head empty_network (before_same 0)
            (omega (arith, eight, (run_looked was (always nothing_seen) as_is 1 0 Head empty_network).ends 8 Elements empty_network due.head)))) ∙ due.head;
        before =
            sym (moved_equal (elements_alike was is (length front) due.done 8 8 empty_network (before_same 8)
            (omega (arith, (run_looked was (always nothing_seen) (with_element was) due.done 8 Elements empty_network).ends (length front) Elements due.net due.before)))) ∙
            due.before;
      }

  abbrev left : ℕ
  left = word was 4 - suc due.done

  abbrev added : Network
  added = element_added due.net e

  was_goes_on : network_file was ≡ rest_on was left old Elements added
  unfolding with_element
  was_goes_on =
      due_rest was (length front) due ∙
      rest_next was left (length front) kind (length r) due.net found ∙
      ap (λ (x : Element). rest_on was left old Elements (element_added due.net x)) states

  there : Stands is (length front) r'
  there = stands_between front r' back

  other_states : element_of is (length front) ≡ e
  other_states =
      sym (element_same (stands_same r' there) (omega arith) (due_kept r' nothing_seen 0 Elements other.0.1).framed) ∙ other.1

  is_goes_on : network_file is ≡ rest_on is left new Elements added
  unfolding other_due with_element
  is_goes_on =
      due_rest is (length front) other_due ∙
      rest_next is (word is 4 - suc due.done) (length front) other.0.0 (length r') due.net (record_due r' there nothing_seen Elements Elements other.0) ∙
      ap₂ (λ (k : ℕ) (x : Element). rest_on is k new Elements (element_added due.net x)) (ap (λ (k : ℕ). k - suc due.done) (sym counts_elements))
      other_states

  -- the network file: the same network, or the same rule, moved by the difference of the lengths
  rewritten : Moved ◌≡◌ old new (network_file was) (network_file is)
  rewritten =
      let upto = rest_looks was left old Elements added in
      moved_by was_goes_on is_goes_on
      (rest_on_alike was is upto counts_links left old new added (behind_same upto) (omega arith))

  -- the planner's input and the judge's
  pub input_rewritten : Moved ◌≡◌ old new (network_input was) (network_input is)
  input_rewritten = input_moved was is old new rewritten behind_same

  pub both_rewritten : Moved ◌≡◌ old new (both_input was) (both_input is)
  both_rewritten = both_moved was is old new rewritten behind_same

-- Files lent apart, and the one input that is made of them: a file is read alike wherever it stands, so the replies are the same; and each plan file is read as it is behind the network file alone.
-- Assumes nothing.
use mathlib.Core.Path.{◌≡◌, sym, ap, ap₂, subst, ◌∙◌}
use mathlib.Core.List.{List, ◌++◌}
use Prim.Native.Nat.{ℕ, ◌+◌, ◌≤◌}
use native.Mathlib.Omega.{arith}
use lib.ListN.{length, take, drop, length-append, take-append-drop}
use lib.Seq.{length-take-le, take-append-le, slice}
use borrow.Author.Tests.{le-ltb}
use Rattle.network.specs.declared.Network.{Network}
use Rattle.file_stages.specs.declared.Stage.{Stage}
use Rattle.file_records.proofs.SameBytes.{SameFrom, take_same}
use Rattle.file_network.specs.Runs.{Reading, refused, reached, read_on}
use Rattle.file_network.specs.NetworkFiles.{network_file}
use Rattle.file_network.specs.Inputs.{closed, network_input, network_input_by}
use Rattle.file_network.proofs.Sizes.{network_input_size}
use Rattle.file_network.proofs.Alike.{Moved, both_refused, both_reached, moved_equal}
use Rattle.file_network.proofs.NetworkAlike.{network_looked, network_alike, network_followed}
use Rattle.file_plan.specs.declared.plan.Plan.{Plan}
use Rattle.file_plan.specs.PlanFiles.{plan_file}
use Rattle.file_plan.specs.Inputs.{plan_input, plan_input_by}
use Rattle.file_plan.proofs.Sizes.{plan_input_size, plan_size}
use Rattle.file_plan.proofs.Alike.{plan_looked, plan_alike, plan_followed, plan_behind_alike}
use Rattle.file_both.specs.Inputs.{paired, plan_behind, plan_behind_by, both_input, both_input_by}
use Rattle.file_final.specs.declared.FinalRead.{FinalRead}
use Rattle.file_final.specs.Inputs.{two_plans, counted_on, second_behind, second_behind_by, plans_behind, plans_behind_by, final_input, final_input_by, second_lent, second_lent_by, plans_lent, plans_lent_by, files_input, files_input_by}
use Rattle.file_final.proofs.Sizes.{counted_reached, FinalFiles, final_files, final_size, apart_files}

-- ---- a file behind others is read as it is alone, its places counted on

moved_counted : {A : Type 0} (k : ℕ) (o o' : Reading A) → Moved ◌≡◌ k 0 o o' → o ≡ counted_on k o'
moved_counted k o o' (both_refused rule i h h') =
    let own : i ≡ 0 + i = omega arith in
    h ∙ ap (λ (x : ℕ). refused (record { rule = rule; place = k + x })) own ∙ sym (ap (counted_on k) h')
moved_counted {A} k o o' (both_reached i stage a b h h' r) =
    let own : i ≡ 0 + i = omega arith in
    h ∙ ap₂ (λ (x : ℕ) (y : A). reached (k + x) stage y) own r ∙ sym (ap (counted_on k) h')

pub plan_counted : (before s : List ℕ) (links : ℕ) → plan_input (before ++ s) links (length before) ≡ counted_on (length before) (plan_input s links 0)
plan_counted before s links =
    moved_counted (length before) (plan_input (before ++ s) links (length before)) (plan_input s links 0) (plan_behind_alike before s links)

-- ---- behind a network file that passes rules 1 to 13 and 20

module _ (network : List ℕ) (at : ℕ) (stage : Stage) (n : Network) (read : network_input network ≡ reached at stage n) where
  network_in_front : (x : List ℕ) → network_file (network ++ x) ≡ reached (length network) stage n
  network_in_front x =
      let size = network_input_size network at stage n read in
      network_followed network x at stage n size.0 ∙ ap (λ (k : ℕ). reached k stage n) (sym size.1)

  -- the judge's input that is made of the network file and a plan file
  pub both_made : (file : List ℕ) → both_input (network ++ file) ≡ read_on (counted_on (length network) (plan_input file n.links 0)) (paired n)
  unfolding both_input_by plan_behind_by
  both_made file =
      ap (λ (o : Reading Network). read_on o (λ at stage n. plan_behind (network ++ file) at n)) (network_in_front file)
      ∙ ap (λ (o : Reading Plan). read_on o (paired n)) (plan_counted network file n.links)

  -- and a first plan file that does
  module _ (first : List ℕ) (at' : ℕ) (stage' : Stage) (p : Plan) (whole : plan_input first n.links 0 ≡ reached at' stage' p) (second : List ℕ) where
    network_there : network_file ((network ++ first) ++ second) ≡ reached (length network) stage n
    network_there = network_followed (network ++ first) second (length network) stage n (network_in_front first)

    first_there : plan_file ((network ++ first) ++ second) n.links (length network) ≡ reached (length network + length first) stage' p
    first_there =
        let here : plan_input (network ++ first) n.links (length network) ≡ reached (length network + at') stage' p =
        plan_counted network first n.links ∙ ap (counted_on (length network)) whole in
        plan_followed (network ++ first) second n.links (length network) (length network + at') stage' p
        (plan_input_size (network ++ first) n.links (length network) (length network + at') stage' p here).0
        ∙ ap (λ (k : ℕ). reached (length network + k) stage' p) (sym (plan_input_size first n.links 0 at' stage' p whole).1)

    second_there :
        plan_input ((network ++ first) ++ second) n.links (length network + length first) ≡ counted_on (length network + length first) (plan_input second n.links 0)
    second_there =
        subst (λ (k : ℕ). plan_input ((network ++ first) ++ second) n.links k ≡ counted_on k (plan_input second n.links 0)) (length-append network first)
        (plan_counted (network ++ first) second n.links)

    -- the reply lent apart is that of the one input made of the three, whatever the second is
    pub same_reply : files_input network first second ≡ final_input (network ++ first ++ second)
    unfolding files_input_by plans_lent_by second_lent_by final_input_by plans_behind_by second_behind_by
    same_reply = apart ∙ sym together
      where
        apart : files_input network first second ≡
            read_on (counted_on (length network + length first) (plan_input second n.links 0)) (two_plans n (length network) (length network + length first) p)
        apart =
            ap (λ (o : Reading Network). read_on o (λ at stage n. plans_lent first second (length network) n)) read
            ∙ ap (λ (o : Reading Plan). read_on (counted_on (length network) o)
            (λ at stage p. second_lent second n (length network) (length network + length first) p)) whole

        together : final_input (network ++ first ++ second) ≡
            read_on (counted_on (length network + length first) (plan_input second n.links 0)) (two_plans n (length network) (length network + length first) p)
        together =
            ap (λ (o : Reading Network). read_on o (λ start stage n. plans_behind (network ++ first ++ second) start n)) network_there
            ∙ ap (λ (o : Reading Plan). read_on o (λ middle stage p. second_behind (network ++ first ++ second) n (length network) middle p)) first_there
            ∙ ap (λ (o : Reading Plan). read_on o (two_plans n (length network) (length network + length first) p)) second_there

-- ---- one input that is read, cut into its files

-- rule 13 at the end
pub closed_at : {A : Type 0} (t : List ℕ) (at : ℕ) (stage : Stage) (a : A) → length t ≤ at → closed t at stage a ≡ reached at stage a
closed_at t at stage a h = rw (le-ltb at (length t) h)

cut_same : (k : ℕ) (s : List ℕ) (at : ℕ) → k ≤ length s → SameFrom s (take k s) at at k
cut_same k s at h =
    let long = length-take-le k s h in
    record {
      words = λ i room. sym ((take_same k s at).words i room);
      remain = λ n room r. omega (arith, long);
      lack = λ n room l. omega (arith, long);
    }

-- the bytes up to an offset and those from there to another are the bytes up to the other
pub parts_join : (s : List ℕ) (start middle : ℕ) → start ≤ middle → middle ≤ length s → take start s ++ slice start middle s ≡ take middle s
parts_join s start middle h k =
    let front : take start s ≡ take start (take middle s) =
    ap (take start) (sym (take-append-drop middle s)) ∙ take-append-le start (take middle s) (drop middle s) (omega (arith, length-take-le middle s k)) in
    ap (λ (x : List ℕ). x ++ slice start middle s) front ∙ take-append-drop start (take middle s)

module _ (s : List ℕ) (at : ℕ) (stage : Stage) (v : FinalRead) (h : final_input s ≡ reached at stage v) where
  files : FinalFiles s at stage v
  files = final_files s at stage v h

  abbrev network_part_lem : List ℕ
  network_part_lem = take v.start s

  abbrev first_part : List ℕ
  first_part = slice v.start v.middle s

  abbrev second_part : List ℕ
  second_part = drop v.middle s

  in_order : v.start ≤ v.middle
  in_order = omega (arith, (final_size s at stage v files).first_long)

  inside : v.middle ≤ length s
  inside = (plan_size s v.net.links v.start v.middle files.due_second v.first files.first).inside

  network_long : length network_part_lem ≡ v.start
  network_long = length-take-le v.start s (omega (arith, in_order, inside))

  network_alone : network_input network_part_lem ≡ reached v.start files.due v.net
  unfolding network_input_by
  network_alone =
      let ends = (network_looked s).ends v.start files.due v.net files.network in
      let there : network_file network_part_lem ≡ reached v.start files.due v.net =
      sym (network_alike s network_part_lem v.start (cut_same v.start s 0 (omega (arith, in_order, inside))) (omega (arith, ends))) ∙ files.network in
      ap (λ (o : Reading Network). read_on o (closed network_part_lem)) there
      ∙ closed_at network_part_lem v.start files.due v.net (omega (arith, network_long))

  two_joined : network_part_lem ++ first_part ≡ take v.middle s
  two_joined = parts_join s v.start v.middle in_order inside

  all_joined : network_part_lem ++ first_part ++ second_part ≡ s
  all_joined = ap (λ (x : List ℕ). x ++ second_part) two_joined ∙ take-append-drop v.middle s

  first_behind : plan_input (take v.middle s) v.net.links v.start ≡ reached v.middle files.due_second v.first
  unfolding plan_input_by
  first_behind =
      let ends = (plan_looked s v.net.links v.start).ends v.middle files.due_second v.first files.first in
      let there : plan_file (take v.middle s) v.net.links v.start ≡ reached v.middle files.due_second v.first =
      sym (moved_equal (plan_alike s (take v.middle s) v.middle v.net.links v.start v.start (cut_same v.middle s v.start inside) (omega (arith, ends)))) ∙ files.first in
      ap (λ (o : Reading Plan). read_on o (closed (take v.middle s))) there
      ∙ closed_at (take v.middle s) v.middle files.due_second v.first (omega (arith, length-take-le v.middle s inside))

  first_alone : (own : ℕ) × (plan_input first_part v.net.links 0 ≡ reached own files.due_second v.first)
  first_alone =
      let made : counted_on (length network_part_lem) (plan_input first_part v.net.links 0) ≡ reached v.middle files.due_second v.first =
      sym (plan_counted network_part_lem first_part v.net.links)
      ∙ ap₂ (λ (x : List ℕ) (k : ℕ). plan_input x v.net.links k) two_joined network_long ∙ first_behind in
      let c = counted_reached (length network_part_lem) (plan_input first_part v.net.links 0) v.middle files.due_second v.first made in
      (c.0, c.1)

  -- its files, lent apart, have the same reading
  pub final_parts : files_input (take v.start s) (slice v.start v.middle s) (drop v.middle s) ≡ reached at stage v
  final_parts =
      same_reply network_part_lem v.start files.due v.net network_alone first_part first_alone.0 files.due_second v.first first_alone.1 second_part
      ∙ ap final_input all_joined ∙ h

-- ---- each plan alone

-- the judge's input is read as this network with this plan
pub record ReadAlone (s : List ℕ) (n : Network) (p : Plan) : Type 0 where
  pub at : ℕ
  pub stage : Stage
  pub is : both_input s ≡ reached at stage (n, p)

made_alone : (network file : List ℕ) (at : ℕ) (stage : Stage) (n : Network) (at' : ℕ) (stage' : Stage) (p : Plan) → network_input network ≡ reached at stage n
    → plan_input file n.links 0 ≡ reached at' stage' p → ReadAlone (network ++ file) n p
made_alone network file at stage n at' stage' p h h' =
    record {
      at = length network + at';
      stage = stage';
      is = both_made network at stage n h file ∙ ap (λ (o : Reading Plan). read_on (counted_on (length network) o) (paired n)) h';
    }

-- "sets two plan files against one network": lent apart, each is read as it is behind the network file
pub record FilesJudged (network first second : List ℕ) (v : FinalRead) : Type 0 where
  pub first_judged : ReadAlone (network ++ first) v.net v.first
  pub second_judged : ReadAlone (network ++ second) v.net v.second

pub files_judged : (network first second : List ℕ) (at : ℕ) (stage : Stage) (v : FinalRead) → files_input network first second ≡ reached at stage v
    → FilesJudged network first second v
files_judged network first second at stage v h =
    let f = apart_files network first second at stage v h in
    record {
      first_judged = made_alone network first (length network) f.due v.net (length first) f.due_second v.first f.network_is f.first_is;
      second_judged = made_alone network second (length network) f.due v.net (length second) stage v.second f.network_is f.second_is;
    }

-- and in one input: the input that has only the first plan file behind the network, and the one that has only the second
pub record FinalJudged (s : List ℕ) (v : FinalRead) : Type 0 where
  pub first_judged : ReadAlone (take v.middle s) v.net v.first
  pub second_judged : ReadAlone (take v.start s ++ drop v.middle s) v.net v.second

pub final_judged : (s : List ℕ) (at : ℕ) (stage : Stage) (v : FinalRead) → final_input s ≡ reached at stage v → FinalJudged s v
final_judged s at stage v h =
    let j = files_judged (take v.start s) (slice v.start v.middle s) (drop v.middle s) at stage v (final_parts s at stage v h) in
    record {
      first_judged = subst (λ (x : List ℕ). ReadAlone x v.net v.first) (two_joined s at stage v h) j.first_judged;
      second_judged = j.second_judged;
    }

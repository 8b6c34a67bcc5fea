-- What is read of a trial final's input, file by file, where each starts and ends, and how long the input is at most.
-- Assumes nothing.
use mathlib.Core.Path.{◌≡◌, refl, sym, ap, ap₂, subst, ◌∙◌}
use mathlib.Core.List.{List}
use Prim.Native.Nat.{ℕ, suc, ◌+◌, ◌*◌, ◌<◌, ◌≤◌}
use native.Mathlib.Nat.{mul-suc, mul-zero}
use native.Mathlib.Omega.{arith}
use lib.ListN.{length, get_or}
use Rattle.network.specs.Accepted.{WellFormed}
use Rattle.file_stages.specs.declared.Stage.{Stage}
use Rattle.file_stages.specs.declared.Stage.TheVariants.{Steps, PlanEnd}
use Rattle.file_fields.specs.Fields.{word}
use Rattle.file_fields.specs.Views.{links_seen}
use Rattle.file_records.specs.Records.{due_at, recorded}
use Rattle.file_records.proofs.Due.{Framed, due_kept}
use Rattle.file_network.specs.Runs.{Reading, refused, reached, records, always, as_is}
use Rattle.file_network.specs.NetworkFiles.{network_file}
use Rattle.file_network.specs.Inputs.{network_input}
use Rattle.file_network.proofs.Runs.{records_keep, one_record}
use Rattle.file_network.proofs.Parts.{then_reached}
use Rattle.file_network.proofs.Sizes.{network_longest, network_size, network_input_size}
use Rattle.file_network.proofs.Accepted.{network_well_formed}
use Rattle.file_plan.specs.declared.plan.Plan.{Plan}
use Rattle.file_plan.specs.Accepted.{WellFormedPlan}
use Rattle.file_plan.specs.PlanFiles.{empty_plan, with_step, plan_file}
use Rattle.file_plan.specs.Inputs.{plan_input}
use Rattle.file_plan.proofs.Parts.{plan_end_run, with_steps, plan_chain}
use Rattle.file_plan.proofs.Sizes.{plan_longest, steps_read, plan_size, plan_input_size}
use Rattle.file_plan.proofs.Accepted.{plan_well_formed}
use Rattle.file_final.specs.declared.FinalRead.{FinalRead}
use Rattle.file_final.specs.Inputs.{two_plans, counted_on, second_behind, second_behind_by, plans_behind, plans_behind_by, final_input, final_input_by, second_lent, second_lent_by, plans_lent, plans_lent_by, files_input, files_input_by}

-- ---- how long a plan file is

module _ (s : List ℕ) (links : ℕ) where
  steps_long : (n at : ℕ) (p : Plan) (end : ℕ) (last : Stage) (q : Plan)
      → records s (always (links_seen links)) (with_step s) n at Steps p ≡ reached end last q → end ≡ at + 8 * n
  steps_long n at p end last q run =
      let kept = records_keep s (always (links_seen links)) (with_step s) (λ left here stage a. (stage ≡ Steps) × (here + 8 * left ≡ at + 8 * n)) step n at Steps p end last q (refl, refl) run in
      omega (arith, kept.1, mul-zero 8)
    where
      step : (left here : ℕ) (stage : Stage) (a : Plan) (kind long : ℕ) (next : Stage) → due_at s (links_seen links) here stage ≡ recorded kind long next
          → (stage ≡ Steps) × (here + 8 * suc left ≡ at + 8 * n) → (next ≡ Steps) × (here + long + 8 * left ≡ at + 8 * n)
      step left here stage a kind long next d k =
          let f : Framed s here Steps kind long next = subst (λ (x : Stage). Framed s here x kind long next) k.0 (due_kept s (links_seen links) here stage d).framed in
          (f.next_at_lem, omega (arith, f.enough, f.most, k.1, mul-suc 8 left))

  -- 10 bytes, and 8 for each step
  pub plan_long : (head at : ℕ) (stage : Stage) (p : Plan) → plan_file s links head ≡ reached at stage p → at ≡ head + 10 + 8 * p.steps
  plan_long head at stage p h =
      let b = then_reached (plan_end_run s links head) (with_steps s links head) at stage p (sym (plan_chain s links head) ∙ h) in
      let before = steps_read s links head b.at b.stage b.value b.first in
      let run : records s (always (links_seen links)) as_is 1 b.at PlanEnd b.value ≡ reached at stage p = rw before.stage_is at b.then in
      let one = one_record s (always (links_seen links)) as_is b.at PlanEnd b.value at stage p run in
      let long = steps_long (word s (head + 4)) (head + 6) empty_plan b.at b.stage b.value before.run in
      let steps : p.steps ≡ word s (head + 4) = ap (λ (x : Plan). x.steps) one.value_is ∙ before.steps_are in
      rw steps (omega (arith, one.ends, one.whole.framed.enough, one.whole.framed.most, long))

-- ---- one input

-- the three files, each directly behind the one before it, and nothing behind the last
pub record FinalFiles (s : List ℕ) (at : ℕ) (stage : Stage) (v : FinalRead) : Type 0 where
  pub due : Stage
  pub due_second : Stage
  pub network : network_file s ≡ reached v.start due v.net
  pub first : plan_file s v.net.links v.start ≡ reached v.middle due_second v.first
  pub second : plan_input s v.net.links v.middle ≡ reached at stage v.second
  pub end_is : v.end ≡ at

pub final_files : (s : List ℕ) (at : ℕ) (stage : Stage) (v : FinalRead) → final_input s ≡ reached at stage v → FinalFiles s at stage v
unfolding final_input_by plans_behind_by second_behind_by
final_files s at stage v h =
    let a = then_reached (λ start stage n. plans_behind s start n) (network_file s) at stage v h in
    let b = then_reached (λ middle stage p. second_behind s a.value a.at middle p) (plan_file s a.value.links a.at) at stage v a.then in
    let c = then_reached (two_plans a.value a.at b.at b.value) (plan_input s a.value.links b.at) at stage v b.then in
    let last = c.then in
    let at_is : c.at ≡ at = cc in
    let stage_is : c.stage ≡ stage = cc in
    let same : ◌≡◌ {A = FinalRead} (record { net = a.value; first = b.value; second = c.value; start = a.at; middle = b.at; end = c.at }) v = cc in
    subst (FinalFiles s at stage) same
    (record {
      due = a.stage;
      due_second = b.stage;
      network = a.first;
      first = b.first;
      second = rw (at_is, stage_is) at c.first;
      end_is = at_is;
    })

-- ---- lent apart

-- each file is read to its own end
pub record ApartFiles (network first second : List ℕ) (at : ℕ) (stage : Stage) (v : FinalRead) : Type 0 where
  pub due : Stage
  pub due_second : Stage
  pub network_is : network_input network ≡ reached (length network) due v.net
  pub first_is : plan_input first v.net.links 0 ≡ reached (length first) due_second v.first
  pub second_is : plan_input second v.net.links 0 ≡ reached (length second) stage v.second
  pub start_is : v.start ≡ length network
  pub middle_is : v.middle ≡ length network + length first
  pub end_is : v.end ≡ length network + length first + length second
  pub at_is : at ≡ v.end

pub counted_reached : {A : Type 0} (before : ℕ) (o : Reading A) (at : ℕ) (stage : Stage) (a : A) → counted_on before o ≡ reached at stage a
    → (own : ℕ) × (o ≡ reached own stage a) × (at ≡ before + own)
counted_reached before (refused r) at stage a h = let z : ◌≡◌ {A = ℕ} 0 1 = cc in absurd (omega arith)
counted_reached before (reached own last b) at stage a h =
    let stage_is : last ≡ stage = cc in
    let value_is : b ≡ a = cc in
    let at_is : before + own ≡ at = cc in
    (own, ap₂ (reached own) stage_is value_is, sym at_is)

pub apart_files : (network first second : List ℕ) (at : ℕ) (stage : Stage) (v : FinalRead) → files_input network first second ≡ reached at stage v
    → ApartFiles network first second at stage v
unfolding files_input_by plans_lent_by second_lent_by
apart_files network first second at stage v h =
    let a = then_reached (λ at stage n. plans_lent first second (length network) n) (network_input network) at stage v h in
    let b = then_reached (λ at stage p. second_lent second a.value (length network) (length network + length first) p)
    (counted_on (length network) (plan_input first a.value.links 0)) at stage v a.then in
    let c = then_reached (two_plans a.value (length network) (length network + length first) b.value)
    (counted_on (length network + length first) (plan_input second a.value.links 0)) at stage v b.then in
    let last = c.then in
    let at_is : c.at ≡ at = cc in
    let stage_is : c.stage ≡ stage = cc in
    let same : ◌≡◌ {A = FinalRead}
    (record { net = a.value; first = b.value; second = c.value; start = length network; middle = length network + length first; end = c.at }) v = cc in
    let p = counted_reached (length network) (plan_input first a.value.links 0) b.at b.stage b.value b.first in
    let q = counted_reached (length network + length first) (plan_input second a.value.links 0) c.at c.stage c.value c.first in
    let net-long : a.at ≡ length network = sym (network_input_size network a.at a.stage a.value a.first).1 in
    let first_long : p.0 ≡ length first = sym (plan_input_size first a.value.links 0 p.0 b.stage b.value p.1).1 in
    let second_long : q.0 ≡ length second = sym (plan_input_size second a.value.links 0 q.0 c.stage c.value q.1).1 in
    subst (ApartFiles network first second at stage) same
    (record {
      due = a.stage;
      due_second = b.stage;
      network_is = rw net-long at a.first;
      first_is = rw first_long at p.1;
      second_is = rw (second_long, stage_is) at q.1;
      start_is = refl;
      middle_is = refl;
      end_is = omega (arith, q.2, second_long);
      at_is = sym at_is;
    })

-- ---- how long they are

-- where the files start and end, in all their bytes: at most 6,352
pub record FinalSize (all : ℕ) (v : FinalRead) : Type 0 where
  pub first_long : v.middle ≡ v.start + 10 + 8 * v.first.steps
  pub second_long : v.end ≡ v.middle + 10 + 8 * v.second.steps
  pub ends : v.end ≡ all
  pub at_most : all ≤ network_longest + plan_longest + plan_longest

module _ (s : List ℕ) (at : ℕ) (stage : Stage) (v : FinalRead) where
  pub final_size : FinalFiles s at stage v → FinalSize (length s) v
  final_size f =
      let n = network_size s v.start f.due v.net f.network in
      let p = plan_size s v.net.links v.start v.middle f.due_second v.first f.first in
      let c = plan_input_size s v.net.links v.middle at stage v.second f.second in
      let q = plan_size s v.net.links v.middle at stage v.second c.0 in
      record {
        first_long = plan_long s v.net.links v.start v.middle f.due_second v.first f.first;
        second_long = f.end_is ∙ plan_long s v.net.links v.middle at stage v.second c.0;
        ends = f.end_is ∙ sym c.1;
        at_most = omega (arith, c.1, n.at_most, p.at_most, q.at_most);
      }

  -- an accepted input has at most 6,352 bytes
  pub final_most : final_input s ≡ reached at stage v → length s ≤ 6352
  final_most h = (final_size (final_files s at stage v h)).at_most

module _ (network first second : List ℕ) (at : ℕ) (stage : Stage) (v : FinalRead) where
  pub apart_size : ApartFiles network first second at stage v → FinalSize (length network + length first + length second) v
  apart_size f =
      let n = network_input_size network (length network) f.due v.net f.network_is in
      let c = plan_input_size first v.net.links 0 (length first) f.due_second v.first f.first_is in
      let p = plan_size first v.net.links 0 (length first) f.due_second v.first c.0 in
      let d = plan_input_size second v.net.links 0 (length second) stage v.second f.second_is in
      let q = plan_size second v.net.links 0 (length second) stage v.second d.0 in
      let first_long = plan_long first v.net.links 0 (length first) f.due_second v.first c.0 in
      let second_long = plan_long second v.net.links 0 (length second) stage v.second d.0 in
      record {
        first_long = omega (arith, f.start_is, f.middle_is, first_long);
        second_long = omega (arith, f.middle_is, f.end_is, second_long);
        ends = f.end_is;
        at_most = omega (arith, n.2, p.at_most, q.at_most);
      }

  pub files_most : files_input network first second ≡ reached at stage v → length network + length first + length second ≤ 6352
  files_most h = (apart_size (apart_files network first second at stage v h)).at_most

-- ---- rules 5 to 12 and 20 are kept by all three

pub record TwoFormed (v : FinalRead) : Type 0 where
  pub net : WellFormed v.net
  pub first : WellFormedPlan v.net.links v.first
  pub second : WellFormedPlan v.net.links v.second

pub final_formed : (s : List ℕ) → ((i : ℕ) → get_or s i 0 < 256) → (at : ℕ) (stage : Stage) (v : FinalRead) → final_input s ≡ reached at stage v → TwoFormed v
final_formed s bytes at stage v h =
    let f = final_files s at stage v h in
    record {
      net = network_well_formed s v.start f.due v.net bytes f.network;
      first = plan_well_formed s v.net.links v.start v.middle f.due_second v.first f.first;
      second = plan_well_formed s v.net.links v.middle at stage v.second
          (plan_input_size s v.net.links v.middle at stage v.second f.second).0;
    }

pub files_formed : (network first second : List ℕ) → ((i : ℕ) → get_or network i 0 < 256) → (at : ℕ) (stage : Stage) (v : FinalRead)
    → files_input network first second ≡ reached at stage v → TwoFormed v
files_formed network first second bytes at stage v h =
    let f = apart_files network first second at stage v h in
    record {
      net = network_well_formed network (length network) f.due v.net bytes
          (network_input_size network (length network) f.due v.net f.network_is).0;
      first = plan_well_formed first v.net.links 0 (length first) f.due_second v.first
          (plan_input_size first v.net.links 0 (length first) f.due_second v.first f.first_is).0;
      second = plan_well_formed second v.net.links 0 (length second) stage v.second
          (plan_input_size second v.net.links 0 (length second) stage v.second f.second_is).0;
    }

-- What a trial final is decided is what the paper asks for, whatever the files are read from: by the answer of reading, then that of rules 14 to 18.
-- Assumes nothing.
use mathlib.Core.Path.{◌≡◌, refl, sym, ap, subst, ◌∙◌}
use mathlib.Core.Logic.{◌↔◌}
use Prim.Native.Nat.{ℕ}
use native.Mathlib.Omega.{arith}
use Rattle.network.specs.declared.Network.{Network}
use Rattle.network.specs.declared.refusal.Refusal.{Refusal}
use Rattle.std.specs.Prelude.{Result, Ok, Err}
use Rattle.file_plan.specs.declared.plan.Plan.{Plan}
use Rattle.file_final.specs.declared.FinalRead.{FinalRead}
use Rattle.feeding.specs.Networks.{net_of}
use Rattle.feeding.specs.Acceptance.{Answered, answer_to}
use Rattle.feeding.proofs.Views.{formed_net, network_answered, answered_network, accepted_starts}
use Rattle.plan_form.specs.Printing.{steps_of}
use Rattle.final_judge.specs.declared.Decided.{Decided}
use Rattle.judge_marks.proofs.Marking.{mark_marked}
use Rattle.final_better.specs.declared.Better.{Better}
use Rattle.final_better.specs.declared.Better.TheVariants.{First, Second, Neither}
use Rattle.final_better.specs.Better.{BetterBy, part_of, part_in}
use Rattle.final_better.proofs.Marks.{better_of_lem}
use Rattle.final_judge.specs.Finals.{FirstRuleFinal, in_files, in_network, DecidedBy, marked, refused, ReadFormed, marked_final, both_marks, final_accepted, decided_read, in_input, decided_in_input}

pub part_better : (a b : ℕ) (w : Better) → (part_of a b w).better ≡ w
unfolding part_of
part_better a b First = refl
part_better a b Second = refl
part_better a b Neither = refl

-- where all rules are kept, both marks and the part of the better file
pub decided_marked : (r : FinalRead) → answer_to r.net ≡ Ok tt → decided_read (Ok r) ≡ Ok (marked_final r (both_marks r))
unfolding decided_read final_accepted
decided_marked r kept = ap (final_accepted r) kept

module _ (States : Network → Plan → Plan → Type 0) (Broken : Refusal → Type 0) where
  -- rules 14 to 18
  by_network : (r : FinalRead) → ReadFormed r → States r.net r.first r.second → (a : Result Unit Refusal) → answer_to r.net ≡ a
      → DecidedBy States Broken (final_accepted r a)
  unfolding final_accepted marked_final both_marks
  by_network r formed stated (Ok u) h =
      let w = formed.net in
      let safe = (accepted_starts r.net w h).safe in
      marked r.net r.first r.second (record { stated = stated; kept = subst (Answered (net_of r.net)) h (network_answered r.net w) })
      (mark_marked (net_of r.net) (formed_net r.net w) safe (steps_of r.first)) (mark_marked (net_of r.net) (formed_net r.net w) safe (steps_of r.second))
      (subst (BetterBy (both_marks r).first (both_marks r).second) (sym (part_better _ _ _)) (better_of_lem _ _))
  by_network r formed stated (Err f) h =
      refused (in_network r.net r.first r.second stated (subst (Answered (net_of r.net)) h (network_answered r.net formed.net)))

  -- the part counted from the front of the input is the part of the same file
  pub placed : (r : FinalRead) (d : Result Decided Refusal) → DecidedBy States Broken d → DecidedBy States Broken (in_input r d)
  unfolding in_input part_in
  placed r _ (marked n p q {d = d} a x y b) = marked n p q a x y b
  placed r _ (refused b) = refused b

  module _ (read : Result FinalRead Refusal) (formed : (r : FinalRead) → read ≡ Ok r → ReadFormed r)
      (whole : (r : FinalRead) → read ≡ Ok r → States r.net r.first r.second) (broken : (f : Refusal) → read ≡ Err f → Broken f) where
    -- rules 1 to 13 and 20
    by_files : (x : Result FinalRead Refusal) → read ≡ x → DecidedBy States Broken (decided_read x)
    unfolding decided_read
    by_files (Ok r) e = by_network r (formed r e) (whole r e) (answer_to r.net) refl
    by_files (Err f) e = refused (in_files (broken f e))

    pub decided_by : DecidedBy States Broken (decided_read read)
    decided_by = by_files read refl

    pub placed_by : DecidedBy States Broken (decided_in_input read)
    unfolding decided_in_input decided_read
    placed_by = go read refl
      where
        go : (x : Result FinalRead Refusal) → read ≡ x → DecidedBy States Broken (decided_in_input x)
        go (Ok r) e = placed r (decided_read (Ok r)) (by_files (Ok r) e)
        go (Err f) e = refused (in_files (broken f e))

    -- nothing else is refused, and each broken rule is
    module _ (stated : (n : Network) (p q : Plan) → States n p q → (r : FinalRead) × (read ≡ Ok r) × (r.net ≡ n)) (unread : (f : Refusal) → Broken f → read ≡ Err f) where
      first_decided : (f : Refusal) → FirstRuleFinal States Broken f → decided_read read ≡ Err f
      unfolding decided_read final_accepted
      first_decided f (in_files b) = ap decided_read (unread f b)
      first_decided f (in_network n p q st h) =
          let e = stated n p q st in
          ap decided_read e.1 ∙ ap (final_accepted e.0)
          (sym (answered_network e.0.net (formed e.0 e.1).net (Err f) (subst (λ (m : Network). Answered (net_of m) (Err f)) (sym e.2) h)))

      first_placed : (f : Refusal) → FirstRuleFinal States Broken f → decided_in_input read ≡ Err f
      unfolding decided_in_input decided_read in_input
      first_placed f b = go read (first_decided f b)
        where
          go : (x : Result FinalRead Refusal) → decided_read x ≡ Err f → decided_in_input x ≡ Err f
          go (Ok r) e = ap (in_input r) e
          go (Err g) e = e

      only_first : (f : Refusal) (d : Result Decided Refusal) → DecidedBy States Broken d → d ≡ Err f → FirstRuleFinal States Broken f
      only_first f _ (marked n p q a x y b) e = let z : ◌≡◌ {A = ℕ} 0 1 = cc in absurd (omega arith)
      only_first f _ (refused {f = g} b) e = let same : g ≡ f = cc in subst (FirstRuleFinal States Broken) same b

      pub refused_exactly : (f : Refusal) → (decided_read read ≡ Err f) ↔ FirstRuleFinal States Broken f
      refused_exactly f = (λ e. only_first f _ decided_by e, first_decided f)

      pub refused_in_input : (f : Refusal) → (decided_in_input read ≡ Err f) ↔ FirstRuleFinal States Broken f
      refused_in_input f = (λ e. only_first f _ placed_by e, first_placed f)

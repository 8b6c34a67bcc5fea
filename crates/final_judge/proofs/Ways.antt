-- Each way through the functions ends in what the definition gives, and that is what the paper asks for, of one input and of files lent apart.
-- Assumes nothing.
use mathlib.Core.Path.{◌≡◌, sym, ap, subst, ◌∙◌}
use Rattle.network.specs.declared.refusal.Refusal.{Refusal}
use Rattle.std.specs.Prelude.{Result, Ok, Err}
use Rattle.file_plan.specs.Accepted.{WellFormedPlan}
use Rattle.file_final.specs.declared.FinalRead.{FinalRead}
use Rattle.feeding.specs.Networks.{net_of}
use Rattle.feeding.specs.Acceptance.{answer_to}
use Rattle.feeding.proofs.Views.{accepted_starts}
use Rattle.feeding_acceptance.specs.Reading.{handed_out}
use Rattle.feeding_acceptance.proofs.Reading.{handed_accepted, handed_refused}
use Rattle.feeding_start.specs.declared.Start.{Start}
use Rattle.feeding_start.specs.Starting.{start_of, start_with, Begun}
use Rattle.feeding_start.proofs.Starts.{begun_network}
use Rattle.plan_form.specs.Printing.{steps_of}
use Rattle.judge_marks.specs.declared.BothMarks.{BothMarks}
use Rattle.judge_marks.specs.Marks.{mark_of}
use Rattle.final_judge.specs.declared.Decided.{Decided}
use Rattle.final_judge.specs.Finals.{ReadFormed, marked_final, both_marks, final_accepted}

-- what was answered for the network that was read
module _ (r : FinalRead) (formed : ReadFormed r) (a : Result Start Refusal) (start : a ≡ handed_out r.net (answer_to r.net)) where
  pub unaccepted_final : (f : Refusal) → a ≡ Err f → Err f ≡ final_accepted r (answer_to r.net)
  unfolding final_accepted
  unaccepted_final f e = ap (final_accepted r) (sym (handed_refused r.net (answer_to r.net) f (sym start ∙ e)))

  module _ (st : Start) (e : a ≡ Ok st) where
    answer_is : answer_to r.net ≡ Ok tt
    answer_is = (handed_accepted r.net (answer_to r.net) st (sym start ∙ e)).0

    start_is : st ≡ start_of r.net
    start_is = (handed_accepted r.net (answer_to r.net) st (sym start ∙ e)).1

    pub read_begun : Begun st
    read_begun = subst Begun (sym start_is) (begun_network r.net formed.net (accepted_starts r.net formed.net answer_is))

    pub read_plans : WellFormedPlan st.net.links r.first × WellFormedPlan st.net.links r.second
    unfolding start_with
    read_plans = subst (λ (x : Start). WellFormedPlan x.net.links r.first × WellFormedPlan x.net.links r.second) (sym start_is) (formed.first, formed.second)

    pub plans_marked : (m : BothMarks) → m.first ≡ mark_of (net_of st.net) (steps_of r.first) → m.second ≡ mark_of (net_of st.net) (steps_of r.second)
        → (d : Decided) → d ≡ marked_final r m → Ok d ≡ final_accepted r (answer_to r.net)
    unfolding final_accepted both_marks start_with
    plans_marked m first second d is =
        ap Ok (is ∙ ap (marked_final r) both) ∙ ap (final_accepted r) (sym answer_is)
      where
        both : m ≡ both_marks r
        both = (λ i. record { first = (first ∙ ap (λ (x : Start). mark_of (net_of x.net) (steps_of r.first)) start_is) i; second = (second ∙ ap (λ (x : Start). mark_of (net_of x.net) (steps_of r.second)) start_is) i })

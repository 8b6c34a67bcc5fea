-- Document 02, item 4: "sets two plan files against one network", in one input and lent apart, and what a refusal hands out.
-- Internal: what computes; `Finals.antt` says what the paper says.
-- Assumes nothing.
use Rattle.std.specs.Prelude.{Bool, List, ℕ, ◌+◌, length, Result}
use Rattle.file_stages.specs.declared.Stage.{Stage}
use Rattle.file_stages.specs.Stages.{every_kind}
use Rattle.network.specs.declared.Network.{Network}
use Rattle.network.specs.declared.refusal.Refusal.{Refusal}
use Rattle.file_network.specs.Runs.{Reading, refused, reached, read_on}
use Rattle.file_network.specs.NetworkFiles.{network_file_by}
use Rattle.file_network.specs.Inputs.{read_of, network_input_by}
use Rattle.file_plan.specs.declared.plan.Plan.{Plan}
use Rattle.file_plan.specs.PlanFiles.{plan_file_by}
use Rattle.file_plan.specs.Inputs.{plan_input_by}
use Rattle.file_final.specs.declared.FinalRead.{FinalRead}

-- the second plan behind a network and a first plan
abbrev pub two_plans : Network → ℕ → ℕ → Plan → ℕ → Stage → Plan → Reading FinalRead
two_plans n start middle p at stage q =
    reached at stage (record { net = n; first = p; second = q; start = start; middle = middle; end = at })

-- One input. "Both files keep their own refusals, the first file's checked before the second's, and places count on through network, first and second
-- file." Rule 13, "A byte follows the last end record", is asked behind the second.
unfoldable pub second_behind_by : (ℕ → Bool) → List ℕ → Network → ℕ → ℕ → Plan → Reading FinalRead
second_behind_by known s n start middle p = read_on (plan_input_by known s n.links middle) (two_plans n start middle p)

unfoldable pub plans_behind_by : (ℕ → Bool) → List ℕ → ℕ → Network → Reading FinalRead
plans_behind_by known s start n =
    read_on (plan_file_by known s n.links start) (λ middle stage p. second_behind_by known s n start middle p)

unfoldable pub final_input_by : (ℕ → Bool) → List ℕ → Reading FinalRead
final_input_by known s = read_on (network_file_by known s) (λ start stage n. plans_behind_by known s start n)

-- "places count on": those of a file that is lent behind so many bytes of others
abbrev pub counted_on : {A : Type 0} → ℕ → Reading A → Reading A
counted_on before (refused r) = refused (record { rule = r.rule; place = before + r.place })
counted_on before (reached at stage a) = reached (before + at) stage a

-- Lent apart. "files lent apart each meet rule 13"
unfoldable pub second_lent_by : (ℕ → Bool) → List ℕ → Network → ℕ → ℕ → Plan → Reading FinalRead
second_lent_by known second n start middle p =
    read_on (counted_on middle (plan_input_by known second n.links 0)) (two_plans n start middle p)

unfoldable pub plans_lent_by : (ℕ → Bool) → (first second : List ℕ) → ℕ → Network → Reading FinalRead
plans_lent_by known first second start n =
    read_on (counted_on start (plan_input_by known first n.links 0)) (λ at stage p. second_lent_by known second n start (start + length first) p)

unfoldable pub files_input_by : (ℕ → Bool) → (network first second : List ℕ) → Reading FinalRead
files_input_by known network first second =
    read_on (network_input_by known network) (λ at stage n. plans_lent_by known first second (length network) n)

-- where every kind is known

abbrev pub second_behind : List ℕ → Network → ℕ → ℕ → Plan → Reading FinalRead
second_behind = second_behind_by every_kind

abbrev pub plans_behind : List ℕ → ℕ → Network → Reading FinalRead
plans_behind = plans_behind_by every_kind

abbrev pub final_input : List ℕ → Reading FinalRead
final_input = final_input_by every_kind

abbrev pub second_lent : List ℕ → Network → ℕ → ℕ → Plan → Reading FinalRead
second_lent = second_lent_by every_kind

abbrev pub plans_lent : (first second : List ℕ) → ℕ → Network → Reading FinalRead
plans_lent = plans_lent_by every_kind

abbrev pub files_input : (network first second : List ℕ) → Reading FinalRead
files_input = files_input_by every_kind

-- "A refusal hands out no plan, mark or partial network."
abbrev pub final_read : Reading FinalRead → Result FinalRead Refusal
final_read = read_of

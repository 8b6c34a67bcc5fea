-- Document 01, the plan file as bytes, and rule 19.
-- Assumes nothing.
use Rattle.std.specs.Prelude.{Bool, true, false, List, [], ◌∷◌, ◌++◌, ℕ, zero, suc, ◌+◌, ◌*◌, ◌/◌, ◌%◌, ltb, length, get_or, drop, Result, Ok, Err}
use Rattle.network.specs.declared.refusal.Rule.TheVariants.{BufferTooShort}
use Rattle.network.specs.declared.refusal.Refusal.{Refusal}
use Rattle.file_plan.specs.declared.plan.Plan.{Plan}
use Rattle.network.specs.Refusals.{pick}

-- "Numbers are unsigned, two bytes, low byte first"
abbrev pub number : ℕ → List ℕ
number n = n % 256 ∷ n / 256 ∷ []

-- "state wanted (0 open, 1 closed)"
abbrev pub state_number : Bool → ℕ
state_number true = 1
state_number false = 0

-- "Kind 5, plan head, length 6: step count"
unfoldable pub plan_head_bytes : ℕ → List ℕ
plan_head_bytes steps = number 6 ++ number 5 ++ number steps

-- "Kind 6, step, length 8: link number, state wanted"
unfoldable pub step_bytes : ℕ → Bool → List ℕ
step_bytes link close = number 8 ++ number 6 ++ number link ++ number (state_number close)

-- "Kind 4, end, length 4."
unfoldable pub end_bytes : List ℕ
end_bytes = number 4 ++ number 4

-- the records of the first steps of a plan
unfoldable pub steps_bytes : Plan → ℕ → List ℕ
steps_bytes p zero = []
steps_bytes p (suc n) = steps_bytes p n ++ step_bytes (get_or p.link n 0) (get_or p.close n false)

-- "A plan file is one plan head, its steps, one end."
unfoldable pub plan_bytes : Plan → List ℕ
plan_bytes p = plan_head_bytes p.steps ++ steps_bytes p p.steps ++ end_bytes

unfoldable pub plan_length : Plan → ℕ
plan_length p = 10 + 8 * p.steps

-- Rule 19: "The buffer lent for the plan file is shorter than that file (the length needed)"
unfoldable pub written : Plan → List ℕ → Result ℕ Refusal
written p buffer =
    pick (ltb (length buffer) (plan_length p)) (Err (record { rule = BufferTooShort; place = plan_length p })) (Ok (plan_length p))

-- "If it fits, the file fills the buffer's front and later bytes keep their values."
unfoldable pub buffer_after : Plan → List ℕ → List ℕ
buffer_after p buffer =
    pick (ltb (length buffer) (plan_length p)) buffer (plan_bytes p ++ drop (plan_length p) buffer)

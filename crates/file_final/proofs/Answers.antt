-- What a reader gives tells what was read, by cases on it: what each function hands on is then what the definition puts behind it.
-- Assumes nothing.
use mathlib.Core.Path.{◌≡◌, sym, ap, ◌∙◌}
use mathlib.Core.List.{List}
use Prim.Native.Nat.{ℕ, ◌+◌, ◌≤◌}
use native.Mathlib.Omega.{arith}
use lib.ListN.{length}
use Rattle.std.specs.Prelude.{Result, Ok, Err}
use Rattle.network.specs.declared.refusal.Refusal.{Refusal}
use Rattle.network.specs.declared.Network.{Network}
use Rattle.file_stages.specs.declared.Stage.{Stage}
use Rattle.file_network.specs.Runs.{Reading, refused, reached, read_on}
use Rattle.file_network.specs.Inputs.{read_of}
use Rattle.file_plan.specs.declared.plan.Plan.{Plan}
use Rattle.file_plan.specs.Inputs.{plan_input}
use Rattle.file_plan.proofs.Sizes.{plan_longest, plan_size, plan_input_size}
use Rattle.file_final.specs.declared.FinalRead.{FinalRead}
use Rattle.file_final.specs.Inputs.{counted_on, two_plans, second_behind, final_read}

-- it was read whole, to some offset
pub record Whole {A : Type 0} (o : Reading A) (a : A) : Type 0 where
  pub at : ℕ
  pub stage : Stage
  pub is : o ≡ reached at stage a

pub was_refused : {A : Type 0} (o : Reading A) (r : Refusal) → read_of o ≡ Err r → o ≡ refused r
was_refused (refused q) r h = let same : q ≡ r = cc in ap refused same
was_refused (reached at stage a) r h = let z : ◌≡◌ {A = ℕ} 0 1 = cc in absurd (omega arith)

pub was_whole : {A : Type 0} (o : Reading A) (a : A) → read_of o ≡ Ok a → Whole o a
was_whole (refused q) a h = let z : ◌≡◌ {A = ℕ} 0 1 = cc in absurd (omega arith)
was_whole (reached at stage b) a h = let same : b ≡ a = cc in record { at = at; stage = stage; is = ap (reached at stage) same }

-- nothing stands behind a refusal
pub none : {A B : Type 0} (o : Reading A) (f : ℕ → Stage → A → Reading B) (r : Refusal) → read_of o ≡ Err r → Err r ≡ read_of (read_on o f)
none o f r h = ap (λ (x : Reading _). read_of (read_on x f)) (sym (was_refused o r h))

-- where its places count on, it was read whole just so
pub was_whole_on : {A : Type 0} (before : ℕ) (o : Reading A) (a : A) → read_of (counted_on before o) ≡ Ok a → Whole o a
was_whole_on before (refused q) a h = let z : ◌≡◌ {A = ℕ} 0 1 = cc in absurd (omega arith)
was_whole_on before (reached at stage b) a h = let same : b ≡ a = cc in record { at = at; stage = stage; is = ap (reached at stage) same }

-- what is handed back where the second plan was read whole
pub both_plans : (o : Reading Plan) (n : Network) (p q : Plan) (start middle end : ℕ) (w : Whole o q) → end ≡ w.at
    → Ok (record { net = n; first = p; second = q; start = start; middle = middle; end = end }) ≡ final_read (read_on o (two_plans n start middle p))
both_plans o n p q start middle end w e = rw (w.is, e)

-- and where its places count on
pub both_plans_on : (before : ℕ) (o : Reading Plan) (n : Network) (p q : Plan) (start middle end : ℕ) (w : Whole o q) → end ≡ before + w.at
    → Ok (record { net = n; first = p; second = q; start = start; middle = middle; end = end })
    ≡ final_read (read_on (counted_on before o) (two_plans n start middle p))
both_plans_on before o n p q start middle end w e = rw (w.is, e)

-- a plan file that was read whole, lent alone, has at most 2,050 bytes
pub plan_whole_most : (s : List ℕ) (links : ℕ) (p : Plan) → Whole (plan_input s links 0) p → length s ≤ plan_longest
plan_whole_most s links p w =
    let size = plan_input_size s links 0 w.at w.stage p w.is in
    omega (arith, size.1, (plan_size s links 0 w.at w.stage p size.0).at_most)

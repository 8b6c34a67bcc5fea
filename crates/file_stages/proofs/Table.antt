-- The rule of the stage table, by one test of all its entries that antt computes; answers are compared by their numbers.
-- Assumes nothing.
use mathlib.Core.Bool.{Bool, true, false}
use mathlib.Core.List.{List, [], ◌∷◌}
use mathlib.Core.Logic.{⊎_elim}
use mathlib.Core.Path.{◌≡◌, refl, ap, subst, sym, ◌∙◌}
use Prim.Native.Nat.{ℕ, zero, suc, ◌<◌, ◌≤◌}
use native.Mathlib.Nat.{le_of_suc-le-suc, not-suc-le-zero, eq-or-lt_of_le}
use native.Mathlib.Omega.{arith}
use lib.Dec.{T, eqb, eqb→eq, lit<}
use lib.ListN.{get_or}
use borrow.Author.Tests.{ne_eqb}
use Rattle.file_stages.specs.declared.Stage.{Stage}
use Rattle.file_stages.specs.declared.Stage.TheVariants.{Head, Elements, Links, End, PlanHead, Steps, PlanEnd, Over}
use Rattle.std.specs.Prelude.{Option, Some, None}
use Rattle.file_stages.specs.Stages.{stage_number, next_stage, pick}

abbrev both : Bool → Bool → Bool
both true b = b
both false b = false

both_left : (a b : Bool) → T (both a b) → T a
both_left true b t = tt
both_left false b t = t

both_right : (a b : Bool) → T (both a b) → T b
both_right true b t = t
both_right false b t = absurd t

-- the test f passes at each number below n
abbrev all : (ℕ → Bool) → ℕ → Bool
all f zero = true
all f (suc n) = both (f n) (all f n)

at : (f : ℕ → Bool) (n : ℕ) → T (all f n) → (k : ℕ) → k < n → T (f k)
at f zero t k h = absurd (not-suc-le-zero h)
at f (suc n) t k h =
    ⊎_elim
    (λ e. subst (λ (m : ℕ). T (f m)) (sym e) (both_left (f n) (all f n) t))
    (λ l. at f n (both_right (f n) (all f n) t) k l)
    (eq-or-lt_of_le (le_of_suc-le-suc h))

pub row_small : (s : Stage) → stage_number s < 8
row_small Head = lit< tt
row_small Elements = lit< tt
row_small Links = lit< tt
row_small End = lit< tt
row_small PlanHead = lit< tt
row_small Steps = lit< tt
row_small PlanEnd = lit< tt
row_small Over = lit< tt

code : Option Stage → ℕ
code None = 8
code (Some s) = stage_number s

-- the stage of a number, none for 8
decode : ℕ → Option Stage
decode n =
    pick (eqb n 0) (Some Head) (pick (eqb n 1) (Some Elements) (pick (eqb n 2) (Some Links) (pick (eqb n 3) (Some End)
    (pick (eqb n 4) (Some PlanHead) (pick (eqb n 5) (Some Steps) (pick (eqb n 6) (Some PlanEnd) (pick (eqb n 7) (Some Over) None)))))))

decoded : (n : Option Stage) → decode (code n) ≡ n
unfolding code decode
decoded None = refl
decoded (Some Head) = refl
decoded (Some Elements) = refl
decoded (Some Links) = refl
decoded (Some End) = refl
decoded (Some PlanHead) = refl
decoded (Some Steps) = refl
decoded (Some PlanEnd) = refl
decoded (Some Over) = refl

same_code : (a b : Option Stage) → code a ≡ code b → a ≡ b
same_code a b e = sym (decoded a) ∙ ap decode e ∙ decoded b

unfoldable pub table : List (List (Option Stage))
table =
    (None ∷ Some Elements ∷ None ∷ None ∷ None ∷ None ∷ None ∷ None ∷ None ∷ []) ∷
    (None ∷ None ∷ Some Elements ∷ None ∷ None ∷ None ∷ None ∷ Some Elements ∷ None ∷ []) ∷
    (None ∷ None ∷ None ∷ Some Links ∷ None ∷ None ∷ None ∷ None ∷ Some Links ∷ []) ∷
    (None ∷ None ∷ None ∷ None ∷ Some PlanHead ∷ None ∷ None ∷ None ∷ None ∷ []) ∷
    (None ∷ None ∷ None ∷ None ∷ None ∷ Some Steps ∷ None ∷ None ∷ None ∷ []) ∷
    (None ∷ None ∷ None ∷ None ∷ None ∷ None ∷ Some Steps ∷ None ∷ None ∷ []) ∷
    (None ∷ None ∷ None ∷ None ∷ Some Over ∷ None ∷ None ∷ None ∷ None ∷ []) ∷
    (None ∷ None ∷ None ∷ None ∷ None ∷ None ∷ None ∷ None ∷ None ∷ []) ∷ []

right : Option Stage → Stage → ℕ → Bool
right d s k = eqb (code (get_or (get_or table (stage_number s) []) k d)) (code (next_stage s k))

row : (d : Option Stage) (s : Stage) → T (all (right d s) 9)
unfolding right table code next_stage
row d Head = tt
row d Elements = tt
row d Links = tt
row d End = tt
row d PlanHead = tt
row d Steps = tt
row d PlanEnd = tt
row d Over = tt

-- each entry of the table, whatever stands past its end
pub entry : (d : Option Stage) (s : Stage) (n k : ℕ) → n ≡ stage_number s → k < 9 → get_or (get_or table n []) k d ≡ next_stage s k
unfolding right
entry d s n k e h =
    rw e (same_code _ _ (eqb→eq (code (get_or (get_or table (stage_number s) []) k d)) (code (next_stage s k)) (at (right d s) 9 (row d s) k h)))

-- a kind past the table
pub past : (s : Stage) (k : ℕ) → 9 ≤ k → None ≡ next_stage s k
unfolding next_stage
past Head k h = simp (ne_eqb k 1 (omega arith))
past Elements k h = simp (ne_eqb k 2 (omega arith), ne_eqb k 7 (omega arith))
past Links k h = simp (ne_eqb k 3 (omega arith), ne_eqb k 8 (omega arith))
past End k h = simp (ne_eqb k 4 (omega arith))
past PlanHead k h = simp (ne_eqb k 5 (omega arith))
past Steps k h = simp (ne_eqb k 6 (omega arith))
past PlanEnd k h = simp (ne_eqb k 4 (omega arith))
past Over k h = refl

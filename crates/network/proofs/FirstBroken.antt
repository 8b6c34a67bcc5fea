-- The first broken of two lists of rules in a row: that of the first, else that of the second; and where none is broken, each test of a list is false.
-- Assumes nothing.
use mathlib.Core.Path.{◌≡◌, refl, sym, ◌∙◌}
use mathlib.Core.Bool.{Bool, true, false}
use mathlib.Core.List.{List, [], ◌∷◌, ◌++◌}
use Prim.Native.Nat.{ℕ}
use native.Mathlib.Omega.{arith}
use Rattle.std.specs.Prelude.{Result, Ok, Err}
use Rattle.network.specs.declared.refusal.Rule.{Rule}
use Rattle.network.specs.Refusals.{Check, pick, first_broken}

abbrev pub else_first : Result Unit Rule → Result Unit Rule → Result Unit Rule
else_first (Ok t) v = v
else_first (Err r) v = Err r

pub first_append : (a b : List Check) → first_broken (a ++ b) ≡ else_first (first_broken a) (first_broken b)
first_append [] b = refl
first_append (c ∷ cs) b = rw (first_append cs b) (under c.broken)
  where
    under : (t : Bool) →
        pick t (Err c.rule) (else_first (first_broken cs) (first_broken b)) ≡
        else_first (pick t (Err c.rule) (first_broken cs)) (first_broken b)
    under true = refl
    under false = refl

-- Every test of a list is false.
abbrev pub AllKept : List Check → Type 0
AllKept [] = Unit
AllKept (c ∷ cs) = (c.broken ≡ false) × AllKept cs

pub all_kept : (cs : List Check) → first_broken cs ≡ (Ok tt) → AllKept cs
all_kept [] h = tt
all_kept (c ∷ cs) h = go c.broken refl (all_kept cs)
  where
    go : (t : Bool) → c.broken ≡ t → (first_broken cs ≡ (Ok tt) → AllKept cs) → AllKept (c ∷ cs)
    go true e rest = let z : ◌≡◌ {A = ℕ} 0 1 = cc (rw e at h) in absurd (omega arith)
    go false e rest = (e, rest (rw e at h))

or_else_kept : (u v : Result Unit Rule) → else_first u v ≡ (Ok tt) → (u ≡ (Ok tt)) × (v ≡ (Ok tt))
or_else_kept (Ok t) v h = (refl, h)
or_else_kept (Err r) v h = let z : ◌≡◌ {A = ℕ} 0 1 = cc in absurd (omega arith)

pub first_append_kept : (a b : List Check) → first_broken (a ++ b) ≡ (Ok tt) → (first_broken a ≡ (Ok tt)) × (first_broken b ≡ (Ok tt))
first_append_kept a b h = or_else_kept (first_broken a) (first_broken b) (sym (first_append a b) ∙ h)

-- Values that were put as far as they fit, and their count, are those of what was found. By the equation between both.
-- Assumes nothing.
use mathlib.Core.Path.{◌≡◌, ap, subst, ◌∙◌}
use mathlib.Core.List.{List}
use Prim.Native.Nat.{ℕ}
use lib.ListN.{length}
use Rattle.std.specs.Prelude.{Result}
use Rattle.network.specs.declared.refusal.Refusal.{Refusal}
use Rattle.final_judge.specs.declared.Decided.{Decided}
use Rattle.host_values.specs.Values.{final_kind, final_values, values_in}

pub valued :
    (Kept : Type 0) (vs found lent after : List ℕ) (n : ℕ) →
    found ≡ vs →
    (n ≡ length found) × (after ≡ values_in found lent) →
    Kept →
    (after ≡ values_in vs lent) × ((n ≡ length vs) × Kept)
valued Kept vs found lent after n same put reply =
    (put.1 ∙ ap (λ (xs : List ℕ). values_in xs lent) same, (put.0 ∙ ap length same, reply))

-- the kind and the values of what a final is decided
pub decided_valued :
    (Is : Result Decided Refusal → Type 0) (d e : Result Decided Refusal) →
    (d ≡ e) × Is d →
    (found lent after : List ℕ) (k n : ℕ) →
    k ≡ final_kind d →
    found ≡ final_values d →
    (n ≡ length found) × (after ≡ values_in found lent) →
    (k ≡ final_kind e) × ((after ≡ values_in (final_values e) lent) × ((n ≡ length (final_values e)) × Is e))
decided_valued Is d e is found lent after k n kind same put = (
  kind ∙ ap final_kind is.0,
  valued (Is e) _ found lent after n (same ∙ ap final_values is.0) put (subst Is is.0 is.1),
)

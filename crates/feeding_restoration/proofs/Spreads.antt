-- Labels that the code leaves are those of the theory, so a set spread over the parts is the theory's test over joined elements.
-- Assumes nothing.
use mathlib.Core.Path.{◌≡◌, refl, ap, ap₂, ◌∙◌}
use mathlib.Core.Bool.{Bool, ◌&&◌}
use mathlib.Core.List.{List}
use Prim.Native.Nat.{ℕ, ◌<◌, ◌≤◌}
use lib.Dec.{eqb}
use Rattle.feeding.specs.Below.{any_to}
use Rattle.feeding.specs.Networks.{grid_of, at, is_in}
use Rattle.feeding.specs.Parts.{Config, closed_in, label, joined?}
use Rattle.feeding.proofs.Below.{any_to_ext}
use Rattle.feeding.proofs.Labels.{labels_wider, labels_ext}
use Rattle.feeding_parts.specs.Labelling.{parts_of}
use Rattle.feeding_sets.specs.Sets.{part_has}

-- the states that the list holds are those of the configuration c
module _ (E K : ℕ) (load capacity flags from to closed : List ℕ) (c : Config) (fit : E ≤ 64)
    (ends : (l : ℕ) → l < K → (at from l < E) × (at to l < E)) (same : (l : ℕ) → l < K → closed_in closed l ≡ c l) where
  pub label_is : (e : ℕ) → e < E → at (parts_of from to closed K).label e ≡ label (grid_of E K load capacity flags from to) c e
  unfolding parts_of label grid_of
  label_is e k =
      labels_wider E 64 fit (at from) (at to) (closed_in closed) K ends e k
      ∙ ap (λ (ls : List ℕ). at ls e) (labels_ext E (at from) (at from) (at to) (at to) (closed_in closed) c K (λ _ _. refl) (λ _ _. refl) same)

  pub spread_is : (has : List ℕ) (h : ℕ → Bool) → ((y : ℕ) → y < E → is_in has y ≡ h y) → (x : ℕ) → x < E
      → part_has (parts_of from to closed K).label has E x ≡ any_to E (λ y. h y && joined? (grid_of E K load capacity flags from to) c y x)
  unfolding part_has joined?
  spread_is has h is x k = any_to_ext E _ _ (λ y ky. ap₂ ◌&&◌ (is y ky) (ap₂ eqb (label_is x k) (label_is y ky)))

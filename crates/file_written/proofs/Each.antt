-- Lists of which each member has a property: put together, numbered, and looked up, by induction over them.
-- Assumes nothing.
use mathlib.Core.Path.{◌≡◌, refl, ap, ◌∙◌}
use mathlib.Core.List.{List, [], ◌∷◌, ◌++◌, flat_map, foldl}
use Prim.Native.Nat.{ℕ, zero, suc, ◌+◌, ◌<◌, ◌≤◌}
use native.Mathlib.Omega.{arith}
use lib.ListN.{length, get_or}
use Rattle.file_written.specs.NetworkBytes.{numbered}

abbrev pub Each : {A : Type 0} → (A → Type 0) → List A → Type 0
Each P [] = Unit
Each P (x ∷ xs) = P x × Each P xs

module _ {A : Type 0} (P : A → Type 0) where
  pub each_as : (Q : A → Type 0) → ((x : A) → P x → Q x) → (xs : List A) → Each P xs → Each Q xs
  each_as Q q [] h = tt
  each_as Q q (x ∷ xs) h = (q x h.0, each_as Q q xs h.1)

  pub each_append : (xs ys : List A) → Each P xs → Each P ys → Each P (xs ++ ys)
  each_append [] ys h k = k
  each_append (x ∷ xs) ys h k = (h.0, each_append xs ys h.1 k)

  pub each_flat : {B : Type 0} (f : B → List A) (bs : List B) → Each (λ b. Each P (f b)) bs → Each P (flat_map f bs)
  unfolding flat_map
  each_flat f [] h = tt
  each_flat f (b ∷ bs) h = each_append (f b) (flat_map f bs) h.0 (each_flat f bs h.1)

  pub each_at : (d : A) → P d → (xs : List A) → Each P xs → (i : ℕ) → P (get_or xs i d)
  each_at d p [] h i = p
  each_at d p (x ∷ xs) h zero = h.0
  each_at d p (x ∷ xs) h (suc i) = each_at d p xs h.1 i

  pub each_numbered : (f : ℕ → A) (from count : ℕ) → ((i : ℕ) → from ≤ i → i < from + count → P (f i)) → Each P (numbered f from count)
  unfolding numbered
  each_numbered f from zero h = tt
  each_numbered f from (suc count) h =
      (h from (omega arith) (omega arith), each_numbered f (suc from) count (λ i least below. h i (omega arith) (omega arith)))

pub numbered_length : {A : Type 0} (f : ℕ → A) (from count : ℕ) → length (numbered f from count) ≡ count
unfolding numbered
numbered_length f from zero = refl
numbered_length f from (suc count) = ap suc (numbered_length f (suc from) count)

-- what takes them in one by one
pub numbered_folded :
    {A B : Type 0} (f : ℕ → A) (add : B → A → B) (after : ℕ → B) (end : ℕ) →
    ((i : ℕ) → i < end → add (after i) (f i) ≡ after (suc i)) →
    (from count : ℕ) →
    from + count ≡ end →
    foldl add (after from) (numbered f from count) ≡ after end
unfolding numbered
numbered_folded f add after end more from zero e = let all : from ≡ end = omega arith in ap after all
numbered_folded {A} f add after end more from (suc count) e =
    ap (λ b. foldl add b (numbered f (suc from) count)) (more from (omega arith)) ∙
    numbered_folded f add after end more (suc from) count (omega arith)

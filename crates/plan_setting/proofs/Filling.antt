-- The list of sources filled: each turn of a loop puts one source behind those before.
-- Assumes nothing.
use mathlib.Core.Path.{◌≡◌, refl, sym, ap, ◌∙◌}
use mathlib.Core.Bool.{Bool, true, false}
use mathlib.Core.List.{List, [], ◌∷◌, ◌++◌}
use Prim.Native.Nat.{ℕ, ◌+◌, ◌<◌, ◌≤◌}
use native.Mathlib.Omega.{arith}
use lib.Dec.{eqb}
use lib.ListN.{length, set, replicate, length-set, length-append, length-replicate, get_or-append}
use lib.Seq.{get_or-set_same, get_or-set_other, get_or_at}
use borrow.Author.Tests.{eqb-true, eqb-false, eq-eqb, ne_eqb}
use Rattle.feeding.specs.Below.{gate, those}
use Rattle.feeding.specs.Networks.{at, is_in}
use Rattle.feeding.proofs.Below.{gate_le}
use Rattle.feeding.proofs.Lows.{those_some, those_none, length_those, those_out}
use Rattle.feeding.proofs.Sums.{sum_to_below}
use Rattle.feeding_sets.specs.Sets.{members}
use Rattle.plan_problem.proofs.Rising.{at_member}
use Rattle.plan_setting.specs.declared.Sources.{Sources}
use Rattle.plan_setting.specs.Setting.{Listed}

-- the members of the set among the first elements, one behind the other
pub record SourcesTo (sound : List ℕ) (s n : ℕ) (xs : List ℕ) : Type 0 where
  pub long : length xs ≡ 64
  pub few : n ≤ s
  pub many : n ≡ length (members sound s)
  pub element_at : (j : ℕ) → j < n → at xs j ≡ at (members sound s) j

pub sources_none : (sound : List ℕ) → SourcesTo sound 0 0 (replicate 64 0)
unfolding members those
sources_none sound = record {
  long = length-replicate {A = ℕ} 64 0;
  few = omega arith;
  many = refl;
  element_at = λ j k. absurd (omega arith);
}

module _ (sound : List ℕ) (s n : ℕ) (xs : List ℕ) (before : SourcesTo sound s n xs) where
  pub sources_on : (ys : List ℕ) (m v : ℕ) → at sound s ≡ 1 → s < 64 → v ≡ s → m ≡ n + 1 → ys ≡ set xs n v → SourcesTo sound (s + 1) m ys
  unfolding members
  sources_on ys m v on k e f g = record {
    long = ap length g ∙ length-set xs n v ∙ before.long;
    few = omega (arith, before.few);
    many = omega (arith, before.many, length-append (those s (is_in sound)) (s ∷ []), ap length more);
    element_at = λ j b. ap (λ (zs : List ℕ). at zs j) (g ∙ ap (set xs n) e) ∙ go j (omega arith) (eqb j n) refl ∙ ap (λ (zs : List ℕ). at zs j) (sym more);
  }
    where
      more : those (s + 1) (is_in sound) ≡ those s (is_in sound) ++ (s ∷ [])
      more = those_some s (is_in sound) (eq-eqb (at sound s) 1 on)

      go : (j : ℕ) → j < n + 1 → (t : Bool) → eqb j n ≡ t → at (set xs n s) j ≡ at (those s (is_in sound) ++ (s ∷ [])) j
      go j b true t =
          let e : j ≡ n = eqb-true j n t in
          rw e (get_or-set_same xs n s 0 (omega (arith, before.long, before.few))
          ∙ sym (get_or_at (those s (is_in sound)) s [] 0 n (sym before.many)))
      go j b false t =
          let d = eqb-false j n t in
          get_or-set_other xs n j s 0 (λ q. d (omega arith))
          ∙ before.element_at j (omega arith)
          ∙ sym (get_or-append (those s (is_in sound)) (s ∷ []) 0 j (omega (arith, before.many)))

  pub sources_off : (ys : List ℕ) (m : ℕ) → (at sound s ≡ 1 → ⊥) → m ≡ n → ys ≡ xs → SourcesTo sound (s + 1) m ys
  unfolding members
  sources_off ys m off f g =
      let same : members sound (s + 1) ≡ members sound s = those_none s (is_in sound) (ne_eqb (at sound s) 1 off) in
      record {
        long = ap length g ∙ before.long;
        few = omega (arith, before.few);
        many = f ∙ before.many ∙ ap length (sym same);
        element_at = λ j k. ap (λ (zs : List ℕ). at zs j) g ∙ before.element_at j (omega arith) ∙ ap (λ (zs : List ℕ). at zs j) (sym same);
      }

  -- all of them
  pub sources_all : (E : ℕ) → s ≡ E → Listed (record { element = xs; count = n }) (members sound E)
  sources_all E e = rw (← e) (record { element_at = λ j k. before.element_at j (omega (arith, before.many)); count_is = before.many })

pub few_members : (sound : List ℕ) (n : ℕ) → length (members sound n) ≤ n
unfolding members
few_members sound n =
    omega (arith, length_those n (is_in sound), sum_to_below 1 (λ l. gate (is_in sound l) 1) n (λ l k. gate_le (is_in sound l) 1))

-- a source is one of the elements
pub listed_in : (sound : List ℕ) (E : ℕ) (r : Sources) → Listed r (members sound E) → (j : ℕ) → j < r.count → at r.element j < E
unfolding members
listed_in sound E r l j k =
    let b : j < length (members sound E) = omega (arith, l.count_is) in
    omega (arith, l.element_at j b, (those_out E (is_in sound) (at (members sound E) j) (at_member (members sound E) j b)).0)

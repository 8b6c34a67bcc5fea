-- The walk of loads over a grid with other own loads adds these up over a part; the signs so added up tell what the part has.
-- Assumes nothing.
use Prim.Native.Nat.{ℕ, zero, suc, ◌+◌, ◌-◌, ◌*◌, ◌/◌, ◌%◌, ◌≤◌, ◌<◌}
use mathlib.Core.Path.{◌≡◌, refl, sym, ap, ap₂, ◌∙◌}
use mathlib.Core.Bool.{Bool, true, false, not, ◌&&◌, false≢true}
use mathlib.Core.List.{List}
use lib.Dec.{eqb}
use borrow.Author.Tests.{eqb-false, ne_eqb, ltb-false, lt-ltb, le-ltb, not-true}
use native.Mathlib.Omega.{arith}
use Rattle.feeding.specs.Below.{sum_to, gate, any_to}
use Rattle.feeding.specs.Networks.{Grid, Formed, at}
use Rattle.feeding.specs.Parts.{Config, Joined, here, over, touches, far, Sound, Live, label, joined?, sound?, live?}
use Rattle.feeding.specs.Safety.{Safe, without}
use Rattle.feeding.proofs.Below.{same_test, and_left, and_right, and_both, any_to_in, any_to_out, gate_le}
use Rattle.feeding.proofs.Forest.{Bridges, safe_bridges, without_on, without_in}
use Rattle.feeding.proofs.Hanging.{load_hanging}
use Rattle.feeding.proofs.Joins.{joined_sym, joined_trans}
use Rattle.feeding.proofs.Labels.{joined?_sound, joined?_complete, labels_ext}
use Rattle.feeding.proofs.Sums.{sum_to_no, sum_to_more, sum_to_ext, sum_to_add, sum_to_at, sum_to_only, sum_to_zero, sum_to_term, sum_to_below}
use Rattle.feeding.proofs.Tests.{sound?_in, sound?_out, live?_in, live?_out}
use Rattle.feeding.proofs.Walk.{start}
use Rattle.judge_safe_steps.specs.Tests.{with_loads, part_sum, sign_at, signs, Tells}

-- ---- other own loads

module _ (g : Grid) (w : ℕ → ℕ) where
  pub with_formed : Formed g → Formed (with_loads g w)
  unfolding with_loads
  with_formed f = record { end_a_lt = f.end_a_lt; end_b_lt = f.end_b_lt; differ = f.differ }

  with_joined : (c : Config) {d a : ℕ} → Joined (with_loads g w) c d a → Joined g c d a
  unfolding with_loads touches far
  with_joined c here = here
  with_joined c (over l k h t j) = over l k h t (with_joined c j)

  with_bridges : (c : Config) → Bridges g c → Bridges (with_loads g w) c
  unfolding with_loads
  with_bridges c bridges l k h j = bridges l k h (with_joined (without c l) j)

  with_parts : (c : Config) (d a : ℕ) → joined? (with_loads g w) c d a ≡ joined? g c d a
  unfolding with_loads joined? label
  with_parts c d a = refl

-- without the link K, which is none, everything is joined as before
none_without : (g : Grid) (c : Config) (d a : ℕ) → joined? g (without c g.K) d a ≡ joined? g c d a
unfolding joined? label
none_without g c d a = ap (λ (ls : List ℕ). eqb (at ls a) (at ls d))
    (labels_ext g.E g.end_a g.end_a g.end_b g.end_b (without c g.K) c g.K (λ _ _. refl) (λ _ _. refl)
    (λ l k. same_test _ _ (without_on c g.K l) (λ h. without_in c g.K l h (λ q. omega arith))))

-- the walk from e adds up w over the part of e, each element once
pub part_sum_lem : (g : Grid) → Formed g → (w : ℕ → ℕ) (c : Config) → Bridges g c → (e : ℕ) → e < g.E
    → part_sum g w c e ≡ sum_to g.E (λ x. gate (joined? g c x e) (w x))
unfolding part_sum with_loads
part_sum_lem g formed w c bridges e k =
    load_hanging (with_loads g w) (with_formed g w formed) c (with_bridges g w c bridges) e g.K k (start refl)
    ∙ sum_to_ext g.E _ _ (λ x _. ap (λ (b : Bool). gate b (w x)) (with_parts g w (without c g.K) x e ∙ none_without g c x e))

-- ---- values under conditions

gate_three : (b : Bool) (x y z : ℕ) → gate b (x + (y + z)) ≡ gate b x + (gate b y + gate b z)
gate_three true x y z = refl
gate_three false x y z = omega arith

gates_swap : (a b : Bool) (x : ℕ) → gate a (gate b x) ≡ gate b (gate a x)
gates_swap true true x = refl
gates_swap true false x = refl
gates_swap false true x = refl
gates_swap false false x = refl

gates_128 : (a b : Bool) → gate a (gate b 128) ≡ 128 * gate (b && a) 1
gates_128 true true = omega arith
gates_128 true false = omega arith
gates_128 false true = omega arith
gates_128 false false = omega arith

sum_to_128 : (n : ℕ) (f : ℕ → ℕ) → sum_to n (λ x. 128 * f x) ≡ 128 * sum_to n f
sum_to_128 zero f = omega (arith, sum_to_no f, sum_to_no (λ x. 128 * f x))
sum_to_128 (suc n) f = omega (arith, sum_to_more f n, sum_to_more (λ x. 128 * f x) n, sum_to_128 n f)

module _ (g : Grid) (formed : Formed g) (few : g.E ≤ 64) (c : Config) (safe : Safe g c) (m e : ℕ) (km : m < g.E) (k : e < g.E) where
  part : ℕ → Bool
  part x = joined? g c x e

  -- the three sums
  source_sum : ℕ
  source_sum = sum_to g.E (λ x. gate (part x) (gate (sound? g x) (suc x)))

  fault_count : ℕ
  fault_count = sum_to g.E (λ x. gate (g.faulty x && part x) 1)

  part_out : (x : ℕ) → x < g.E → part x ≡ true → Joined g c x e
  unfolding part
  part_out x kx h = joined?_sound g formed c x e kx k h

  part_in : (x : ℕ) → Joined g c x e → part x ≡ true
  unfolding part
  part_in x j = joined?_complete g formed c x e j

  signs_sum : signs g c m e ≡ source_sum + (128 * fault_count + gate (part m) 16384)
  unfolding signs sign_at source_sum fault_count part
  signs_sum =
      part_sum_lem g formed (sign_at g m) c (safe_bridges g formed c safe.tree) e k
      ∙ sum_to_ext g.E _ _ (λ x _. gate_three (part x) (gate (sound? g x) (suc x)) (gate (g.faulty x) 128) (gate (eqb x m) 16384))
      ∙ sum_to_add g.E (λ x. gate (part x) (gate (sound? g x) (suc x))) (λ x. gate (part x) (gate (g.faulty x) 128) + gate (part x) (gate (eqb x m) 16384))
      ∙ ap (λ (z : ℕ). source_sum + z)
      (sum_to_add g.E (λ x. gate (part x) (gate (g.faulty x) 128)) (λ x. gate (part x) (gate (eqb x m) 16384)) ∙ ap₂ ◌+◌ faults target)
    where
      faults : sum_to g.E (λ x. gate (part x) (gate (g.faulty x) 128)) ≡ 128 * fault_count
      faults = sum_to_ext g.E _ _ (λ x _. gates_128 (part x) (g.faulty x)) ∙ sum_to_128 g.E (λ x. gate (g.faulty x && part x) 1)

      target : sum_to g.E (λ x. gate (part x) (gate (eqb x m) 16384)) ≡ gate (part m) 16384
      target = sum_to_ext g.E _ _ (λ x _. gates_swap (part x) (eqb x m) 16384) ∙ sum_to_at (λ x. gate (part x) 16384) m g.E ∙ rw (lt-ltb m g.E km)

  faults_few : fault_count ≤ 64
  unfolding fault_count
  faults_few = omega (arith, sum_to_below 1 (λ x. gate (g.faulty x && part x) 1) g.E (λ x _. gate_le (g.faulty x && part x) 1))

  faults_in : (x : ℕ) → x < g.E → g.faulty x ≡ true → Joined g c x e → 0 < fault_count
  unfolding fault_count
  faults_in x kx f j = omega (
    arith,
    sum_to_term g.E (λ y. gate (g.faulty y && part y) 1) x kx,
    ap (λ (b : Bool). gate b 1) (and_both (g.faulty x) (part x) f (part_in x j)),
  )

  faults_out : 0 < fault_count → (x : ℕ) × (x < g.E) × (g.faulty x ≡ true) × Joined g c x e
  unfolding fault_count
  faults_out h = go (any_to g.E (λ x. g.faulty x && part x)) refl
    where
      found : (x : ℕ) × (x < g.E) × ((g.faulty x && part x) ≡ true) → (x : ℕ) × (x < g.E) × (g.faulty x ≡ true) × Joined g c x e
      found (x, kx, q) = (x, kx, and_left (g.faulty x) _ q, part_out x kx (and_right (g.faulty x) _ q))

      none : any_to g.E (λ x. g.faulty x && part x) ≡ false → (x : ℕ) → x < g.E → (t : Bool) → (g.faulty x && part x) ≡ t → gate t 1 ≡ 0
      none q x kx true t = absurd (false≢true (sym q ∙ any_to_in g.E (λ x. g.faulty x && part x) x kx t))
      none q x kx false t = refl

      go : (t : Bool) → any_to g.E (λ x. g.faulty x && part x) ≡ t → (x : ℕ) × (x < g.E) × (g.faulty x ≡ true) × Joined g c x e
      go true t = found (any_to_out g.E (λ x. g.faulty x && part x) t)
      go false t = absurd (omega (arith, sum_to_zero g.E (λ x. gate (g.faulty x && part x) 1) (λ x kx. none t x kx _ refl)))

  -- the one sound source of the part
  source_is : (s : ℕ) → Sound g s → Joined g c s e → source_sum ≡ suc s
  unfolding source_sum
  source_is s p j =
      sum_to_only g.E (λ x. gate (part x) (gate (sound? g x) (suc x))) s p.below (λ x kx n. other x kx n (part x) refl (sound? g x) refl)
      ∙ rw (part_in s j, sound?_in g s p)
    where
      other : (x : ℕ) → x < g.E → (x ≡ s → ⊥) → (t : Bool) → part x ≡ t → (u : Bool) → sound? g x ≡ u → gate t (gate u (suc x)) ≡ 0
      other x kx n true t true u =
          absurd (n (safe.one x s (sound?_out g x kx u) p (joined_trans g c (joined_sym g c (part_out x kx t)) j)))
      other x kx n true t false u = refl
      other x kx n false t u q = refl

  source_none : ¬ Live g c e → source_sum ≡ 0
  unfolding source_sum
  source_none dark = sum_to_zero g.E (λ x. gate (part x) (gate (sound? g x) (suc x))) (λ x kx. other x kx (part x) refl (sound? g x) refl)
    where
      other : (x : ℕ) → x < g.E → (t : Bool) → part x ≡ t → (u : Bool) → sound? g x ≡ u → gate t (gate u (suc x)) ≡ 0
      other x kx true t true u = absurd (dark (record { source = x; sound = sound?_out g x kx u; joined = part_out x kx t }))
      other x kx true t false u = refl
      other x kx false t u q = refl

  source_out : 0 < source_sum → Live g c e
  source_out h = go (live? g c e) refl
    where
      go : (t : Bool) → live? g c e ≡ t → Live g c e
      go true t = live?_out g formed c e k t
      go false t = absurd (omega (arith, source_none (λ v. false≢true (sym t ∙ live?_in g formed c e v))))

  source_few : source_sum ≤ 64
  source_few = go (live? g c e) refl
    where
      one : Live g c e → source_sum ≤ 64
      one v = omega (arith, source_is v.source v.sound v.joined, v.sound.below)

      go : (t : Bool) → live? g c e ≡ t → source_sum ≤ 64
      go true t = one (live?_out g formed c e k t)
      go false t = omega (arith, source_none (λ v. false≢true (sym t ∙ live?_in g formed c e v)))

  -- ---- what the sum tells

  pub signs_below : signs g c m e < 32768
  signs_below = omega (arith, signs_sum, source_few, faults_few, gate_le (part m) 16384)

  source_part : signs g c m e % 128 ≡ source_sum
  source_part = go (part m) refl
    where
      go : (t : Bool) → part m ≡ t → signs g c m e % 128 ≡ source_sum
      go true t = omega (arith, rw t at signs_sum, source_few)
      go false t = omega (arith, rw t at signs_sum, source_few)

  fault_part : signs g c m e / 128 % 128 ≡ fault_count
  fault_part = go (part m) refl
    where
      go : (t : Bool) → part m ≡ t → signs g c m e / 128 % 128 ≡ fault_count
      go true t = omega (arith, rw t at signs_sum, source_few, faults_few)
      go false t = omega (arith, rw t at signs_sum, source_few, faults_few)

  pub signs_tell : Tells g c m e (signs g c m e)
  signs_tell = record {
    target_in = λ j. ap not (le-ltb (signs g c m e) 16384 (omega (arith, rw (part_in m j) at signs_sum)));
    target_out = λ h. target (part m) refl (ltb-false (signs g c m e) 16384 (not-true _ h));
    faulty_in = λ x kx f j. ap not (ne_eqb (signs g c m e / 128 % 128) 0 (λ z. omega (arith, fault_part, faults_in x kx f j)));
    faulty_out = λ h. faults_out (omega (arith, fault_part, eqb-false (signs g c m e / 128 % 128) 0 (not-true _ h)));
    sound_in = λ s p j. (ap not (ne_eqb (signs g c m e % 128) 0 (λ z. omega (arith, source_part, source_is s p j))), omega (arith, source_part, source_is s p j));
    sound_out = λ h. sound (source_out (omega (arith, source_part, eqb-false (signs g c m e % 128) 0 (not-true _ h))));
  }
    where
      target : (t : Bool) → part m ≡ t → 16384 ≤ signs g c m e → Joined g c m e
      target true t h = part_out m km t
      target false t h = absurd (omega (arith, rw t at signs_sum, source_few, faults_few))

      sound : Live g c e → Sound g (signs g c m e % 128 - 1) × Joined g c (signs g c m e % 128 - 1) e
      sound v =
          let is : signs g c m e % 128 - 1 ≡ v.source = omega (arith, source_part, source_is v.source v.sound v.joined) in
          rw is (v.sound, v.joined)

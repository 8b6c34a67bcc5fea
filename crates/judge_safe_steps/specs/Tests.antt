-- What computes `Closes`: a walk over each of the two parts, which adds up a number of each element met, and one walk of loads over the joined part.
-- Internal: no promise cites it; `closes?_in` and `closes?_out` say that it is `Closes`, `keeps_safe` that a step so tested is safe afterwards.
-- Assumes nothing.
use Rattle.std.specs.Prelude.{◌≡◌, Bool, true, false, not, ℕ, suc, ◌+◌, ◌-◌, ◌/◌, ◌%◌, ◌<◌, eqb, ltb}
use Rattle.feeding.specs.Below.{gate}
use Rattle.feeding.specs.Networks.{Grid}
use Rattle.feeding.specs.Parts.{Config, Joined, Sound, sound?}
use Rattle.feeding.specs.Loads.{load_at, within_from?}
use Rattle.feeding.specs.Plans.{Step, put}
use Rattle.judge_safe_steps.specs.declared.Joining.{Joining}
use Rattle.judge_safe_steps.specs.declared.Joining.TheVariants.{Clash, Dark, FedBy}

-- ---- a number of each element, added up over a part

-- the grid with w as the own loads, and as the capacities, which do not enter: over it `element_load` and `link_load` are walks that add up w
unfoldable pub with_loads : Grid → (ℕ → ℕ) → Grid
with_loads g w =
    record {
      E = g.E;
      K = g.K;
      load = w;
      capacity = w;
      source = g.source;
      faulty = g.faulty;
      end_a = g.end_a;
      end_b = g.end_b;
    }

-- what the walk from e over its whole part adds up
unfoldable pub part_sum : Grid → (ℕ → ℕ) → Config → ℕ → ℕ
part_sum g w c e = load_at (with_loads g w) c e g.K

-- ---- the signs of a part

-- what an element adds: x + 1 for the sound source x, 128 for a faulty element, 16,384 for the element `target` that is looked for. No part of a
-- safe configuration has two sound sources, and none has more than 64 elements, so that the sum tells the three apart.
unfoldable pub sign_at : (g : Grid) (target x : ℕ) → ℕ
sign_at g target x = gate (sound? g x) (suc x) + (gate (g.faulty x) 128 + gate (eqb x target) 16384)

-- the signs of the part of e
unfoldable pub signs : (g : Grid) (c : Config) (target e : ℕ) → ℕ
signs g c target e = part_sum g (sign_at g target) c e

-- and what they tell: the part has the target, it has a faulty element, it has a sound source, and which one
abbrev pub has_target : ℕ → Bool
has_target r = not (ltb r 16384)

abbrev pub has_faulty : ℕ → Bool
has_faulty r = not (eqb (r / 128 % 128) 0)

abbrev pub has_sound : ℕ → Bool
has_sound r = not (eqb (r % 128) 0)

abbrev pub sound_sign : ℕ → ℕ
sound_sign r = r % 128 - 1

-- what signs r tell of the part of e, where it is part of a safe configuration: `signs_tell` says that `signs` does
pub record Tells (g : Grid) (c : Config) (target e r : ℕ) : Type 0 where
  pub target_in : Joined g c target e → has_target r ≡ true
  pub target_out : has_target r ≡ true → Joined g c target e
  pub faulty_in : (x : ℕ) → x < g.E → g.faulty x ≡ true → Joined g c x e → has_faulty r ≡ true
  pub faulty_out : has_faulty r ≡ true → (x : ℕ) × (x < g.E) × (g.faulty x ≡ true) × Joined g c x e
  pub sound_in : (s : ℕ) → Sound g s → Joined g c s e → (has_sound r ≡ true) × (sound_sign r ≡ s)
  pub sound_out : has_sound r ≡ true → Sound g (sound_sign r) × Joined g c (sound_sign r) e

-- ---- a closing, and a step

-- what two parts are found to be, by whether they are one, have a sound source each, s and t, and have a faulty element each
unfoldable pub joining_by : (same sound₁ sound₂ faulty₁ faulty₂ : Bool) (s t : ℕ) → Joining
joining_by true sound₁ sound₂ faulty₁ faulty₂ s t = Clash
joining_by false true true faulty₁ faulty₂ s t = Clash
joining_by false true false faulty₁ true s t = Clash
joining_by false true false faulty₁ false s t = FedBy s
joining_by false false true true faulty₂ s t = Clash
joining_by false false true false faulty₂ s t = FedBy t
joining_by false false false faulty₁ faulty₂ s t = Dark

-- by their signs, where an element of the second part is the target
unfoldable pub joining_of : (signs₁ signs₂ : ℕ) → Joining
joining_of x y = joining_by (has_target x) (has_sound x) (has_sound y) (has_faulty x) (has_faulty y) (sound_sign x) (sound_sign y)

-- what is joined is safe; `within s` is asked for its source s only
unfoldable pub joined_safe : (within : ℕ → Bool) → Joining → Bool
joined_safe within Clash = false
joined_safe within Dark = true
joined_safe within (FedBy s) = within s

-- closing the open link l keeps the safe configuration c safe: its two ends' parts before, the loads afterwards
unfoldable pub closes? : Grid → Config → ℕ → Bool
closes? g c l = joined_safe (within_from? g (put c l true)) (joining_of (signs g c (g.end_b l) (g.end_a l)) (signs g c (g.end_b l) (g.end_b l)))

-- a step that changes a link's state keeps the safe configuration c safe: an opening always does
unfoldable pub keeps_safe? : Grid → Config → Step → Bool
keeps_safe? g c s = elim s.want [ true ↦ closes? g c s.link | false ↦ true ]

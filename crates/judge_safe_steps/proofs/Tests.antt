-- The tests of a step by walks over the parts that it touches tell what `safe?` tells of the whole configuration afterwards, where the one before is safe.
-- Assumes nothing.
use Prim.Native.Nat.{ℕ, ◌≤◌, ◌<◌}
use mathlib.Core.Path.{◌≡◌, refl, sym, ◌∙◌}
use mathlib.Core.Logic.{inl, inr}
use mathlib.Core.Bool.{Bool, true, false, not, cond, false≢true}
use lib.Dec.{eqb}
use native.Mathlib.Omega.{arith}
use Rattle.feeding.specs.Loads.{within_from?}
use Rattle.feeding.specs.Networks.{Grid, Formed}
use Rattle.feeding.specs.Parts.{Config, Opened, Joined, Sound}
use Rattle.feeding.specs.Plans.{Step, put}
use Rattle.feeding.specs.Safety.{Safe, safe?}
use Rattle.feeding.proofs.Below.{same_test}
use Rattle.feeding.proofs.Decided.{safe?_sound, safe?_complete}
use Rattle.feeding.proofs.Forest.{safe_bridges}
use Rattle.feeding.proofs.Joins.{joined_sym, joined_trans}
use Rattle.feeding.proofs.Opening.{opening_safe}
use Rattle.plan_stops.proofs.Radial.{Radial}
use Rattle.judge_safe_steps.specs.declared.Joining.{Joining}
use Rattle.judge_safe_steps.specs.declared.Joining.TheVariants.{Clash, Dark, FedBy}
use Rattle.judge_safe_steps.specs.Closing.{Beside, Joins, Closes}
use Rattle.judge_safe_steps.specs.Tests.{signs, has_target, has_faulty, has_sound, sound_sign, Tells, joining_of, joining_by, joined_safe, closes?, keeps_safe?}
use Rattle.judge_safe_steps.proofs.Closing.{beside_joined, safe_closes, joins_radial, closes_safe}
use Rattle.judge_safe_steps.proofs.Signs.{signs_tell}
use Rattle.judge_safe_steps.proofs.Within.{within_in, within_out}

-- ---- an opening

open_less : (c : Config) (l : ℕ) → Opened (put c l false) c
unfolding put
open_less c l m h = go (eqb m l) h
  where
    go : (t : Bool) → cond t false (c m) ≡ true → c m ≡ true
    go true h = absurd (false≢true h)
    go false h = h

pub opened_safe : (g : Grid) (c : Config) (l : ℕ) → Safe g c → Safe g (put c l false)
opened_safe g c l safe = opening_safe g (put c l false) c (open_less c l) safe

-- ---- a closing

module _ (g : Grid) (formed : Formed g) (few : g.E ≤ 64) (c : Config) (safe : Safe g c) (l : ℕ) (k : l < g.K) (off : c l ≡ false) where
  first : ℕ
  first = signs g c (g.end_b l) (g.end_a l)

  second : ℕ
  second = signs g c (g.end_b l) (g.end_b l)

  first_tells : Tells g c (g.end_b l) (g.end_a l) first
  unfolding first
  first_tells = signs_tell g formed few c safe (g.end_b l) (g.end_a l) (formed.end_b_lt l k) (formed.end_a_lt l k)

  second_tells : Tells g c (g.end_b l) (g.end_b l) second
  unfolding second
  second_tells = signs_tell g formed few c safe (g.end_b l) (g.end_b l) (formed.end_b_lt l k) (formed.end_b_lt l k)

  -- the tests by two signs that tell
  module _ (x y : ℕ) (tx : Tells g c (g.end_b l) (g.end_a l) x) (ty : Tells g c (g.end_b l) (g.end_b l) y) where
    joining_in_lem : Closes g c l → joined_safe (within_from? g (put c l true)) (joining_of x y) ≡ true
    unfolding joining_of joining_by joined_safe
    joining_in_lem h = go (has_target x) refl (has_sound x) refl (has_sound y) refl (has_faulty x) refl (has_faulty y) refl
      where
        fits : (s : ℕ) → Sound g s → within_from? g (put c l true) s ≡ true
        fits s p = within_in g formed (put c l true) (closes_safe g formed c l k safe h) s p

        go : (a : Bool) → has_target x ≡ a → (b : Bool) → has_sound x ≡ b → (d : Bool) → has_sound y ≡ d → (f : Bool) → has_faulty x ≡ f → (i : Bool) → has_faulty y ≡ i
            → joined_safe (within_from? g (put c l true)) (joining_by a b d f i (sound_sign x) (sound_sign y)) ≡ true
        go true a b p d q f m i n = absurd (h.joins.apart (tx.target_out a))
        go false a true p true q f m i n =
            let s = tx.sound_out p in
            let t = ty.sound_out q in
            absurd (h.joins.one (sound_sign x) (sound_sign y) s.0 t.0 s.1 t.1)
        go false a true p false q f m true n =
            let s = tx.sound_out p in
            let e = ty.faulty_out n in
            absurd (h.joins.clear (sound_sign x) e.0 s.0 (inl s.1) e.1 e.2 (inr e.3))
        go false a true p false q f m false n = fits (sound_sign x) (tx.sound_out p).0
        go false a false p true q true m i n =
            let s = ty.sound_out q in
            let e = tx.faulty_out m in
            absurd (h.joins.clear (sound_sign y) e.0 s.0 (inr s.1) e.1 e.2 (inl e.3))
        go false a false p true q false m i n = fits (sound_sign y) (ty.sound_out q).0
        go false a false p false q f m i n = refl

    -- whatever is asked of the loads
    module _ (within : ℕ → Bool) (h : joined_safe within (joining_of x y) ≡ true) where
      joining_joins : Joins g c l
      unfolding joining_of joining_by joined_safe
      joining_joins = go (has_target x) refl (has_sound x) refl (has_sound y) refl (has_faulty x) refl (has_faulty y) refl h
        where
          dark_first : has_sound x ≡ false → (s : ℕ) → Sound g s → ¬ Joined g c s (g.end_a l)
          dark_first a s p j = false≢true (sym a ∙ (tx.sound_in s p j).0)

          dark_second : has_sound y ≡ false → (s : ℕ) → Sound g s → ¬ Joined g c s (g.end_b l)
          dark_second a s p j = false≢true (sym a ∙ (ty.sound_in s p j).0)

          -- a part with a sound source has no faulty element
          live_clear : (s a e : ℕ) → Sound g s → Joined g c s a → e < g.E → g.faulty e ≡ true → ¬ Joined g c e a
          live_clear s a e p i ke f j =
              safe.clear e ke f (record { source = s; sound = p; joined = joined_trans g c (joined_sym g c j) i })

          go : (a : Bool) → has_target x ≡ a → (b : Bool) → has_sound x ≡ b → (d : Bool) → has_sound y ≡ d → (f : Bool) → has_faulty x ≡ f → (i : Bool) → has_faulty y ≡ i
              → joined_safe within (joining_by a b d f i (sound_sign x) (sound_sign y)) ≡ true → Joins g c l
          go true a b p d q f m i n h = absurd (false≢true h)
          go false a true p true q f m i n h = absurd (false≢true h)
          go false a true p false q f m true n h = absurd (false≢true h)
          go false a true p false q f m false n h = record {
            apart = λ j. false≢true (sym a ∙ tx.target_in j);
            one = λ _ t _ r _. dark_second q t r;
            clear = λ _ e _ _. clear e;
          }
            where
              clear : (e : ℕ) → e < g.E → g.faulty e ≡ true → ¬ Beside g c l e
              clear e ke f (inl j) = live_clear (sound_sign x) (g.end_a l) e (tx.sound_out p).0 (tx.sound_out p).1 ke f j
              clear e ke f (inr j) = false≢true (sym n ∙ ty.faulty_in e ke f j)
          go false a false p true q true m i n h = absurd (false≢true h)
          go false a false p true q false m i n h = record {
            apart = λ j. false≢true (sym a ∙ tx.target_in j);
            one = λ s _ r _ j. absurd (dark_first p s r j);
            clear = λ _ e _ _. clear e;
          }
            where
              clear : (e : ℕ) → e < g.E → g.faulty e ≡ true → ¬ Beside g c l e
              clear e ke f (inr j) = live_clear (sound_sign y) (g.end_b l) e (ty.sound_out q).0 (ty.sound_out q).1 ke f j
              clear e ke f (inl j) = false≢true (sym m ∙ tx.faulty_in e ke f j)
          go false a false p false q f m i n h = record {
            apart = λ j. false≢true (sym a ∙ tx.target_in j);
            one = λ s _ r _ j. absurd (dark_first p s r j);
            clear = λ s e r b. absurd (dark s r b);
          }
            where
              dark : (s : ℕ) → Sound g s → ¬ Beside g c l s
              dark s r (inl j) = dark_first p s r j
              dark s r (inr j) = dark_second q s r j

      -- and it is asked of the source, where there is one
      joining_within : (s : ℕ) → Sound g s → Beside g c l s → within s ≡ true
      unfolding joining_of joining_by joined_safe
      joining_within s p o = go (has_target x) (has_sound x) refl (has_sound y) refl (has_faulty x) (has_faulty y) h o
        where
          go : (a : Bool) → (b : Bool) → has_sound x ≡ b → (d : Bool) → has_sound y ≡ d → (f i : Bool)
              → joined_safe within (joining_by a b d f i (sound_sign x) (sound_sign y)) ≡ true → Beside g c l s → within s ≡ true
          go true b m d q f i h o = absurd (false≢true h)
          go false true m true q f i h o = absurd (false≢true h)
          go false true m false q f true h o = absurd (false≢true h)
          go false true m false q f false h (inl j) = rw (sym (tx.sound_in s p j).1) h
          go false true m false q f false h (inr j) = absurd (false≢true (sym q ∙ (ty.sound_in s p j).0))
          go false false m true q true i h o = absurd (false≢true h)
          go false false m true q false i h (inl j) = absurd (false≢true (sym m ∙ (tx.sound_in s p j).0))
          go false false m true q false i h (inr j) = rw (sym (ty.sound_in s p j).1) h
          go false false m false q f i h (inl j) = absurd (false≢true (sym m ∙ (tx.sound_in s p j).0))
          go false false m false q f i h (inr j) = absurd (false≢true (sym q ∙ (ty.sound_in s p j).0))

    joining_out : joined_safe (within_from? g (put c l true)) (joining_of x y) ≡ true → Closes g c l
    joining_out h = record {
      joins = joining_joins (within_from? g (put c l true)) h;
      within = λ s p b e via b' f. within_out g formed (put c l true) r.bridges r.one s p (joining_within (within_from? g (put c l true)) h s p b) f
          (beside_joined g formed c l k b' b);
    }
      where
        r : Radial g (put c l true)
        r = joins_radial g formed c l k (record { bridges = safe_bridges g formed c safe.tree; one = safe.one; clear = safe.clear })
            (joining_joins (within_from? g (put c l true)) h)

  pub closes?_in : Closes g c l → closes? g c l ≡ true
  unfolding closes? first second
  closes?_in h = joining_in_lem first second first_tells second_tells h

  pub closes?_out : closes? g c l ≡ true → Closes g c l
  unfolding closes? first second
  closes?_out h = joining_out first second first_tells second_tells h

  -- the walks tell what the test of the whole configuration tells
  pub closing_local : closes? g c l ≡ safe? g (put c l true)
  closing_local = same_test _ _
      (λ h. safe?_complete g formed (put c l true) (closes_safe g formed c l k safe (closes?_out h)))
      (λ h. closes?_in (safe_closes g formed c l k off (safe?_sound g formed (put c l true) h)))

-- ---- a step: for one that changes its link's state, the test tells whether the configuration is safe afterwards

pub keeps_safe : (g : Grid) → Formed g → g.E ≤ 64 → (c : Config) → Safe g c → (s : Step) → s.link < g.K → c s.link ≡ not s.want
    → keeps_safe? g c s ≡ safe? g (put c s.link s.want)
unfolding keeps_safe?
keeps_safe g formed few c safe s k off = go s.want off
  where
    go : (w : Bool) → c s.link ≡ not w → elim w [ true ↦ closes? g c s.link | false ↦ true ] ≡ safe? g (put c s.link w)
    go true q = closing_local g formed few c safe s.link k q
    go false q = sym (safe?_complete g formed (put c s.link false) (opened_safe g c s.link safe))

-- ---- the source from which loads are asked

-- it is the sound source of one of the two parts
pub fed_sound : (g : Grid) (c : Config) (m a b x y : ℕ) → Tells g c m a x → Tells g c m b y → (s : ℕ) → joining_of x y ≡ FedBy s → Sound g s
unfolding joining_of joining_by
fed_sound g c m a b x y tx ty s is = go (has_target x) (has_sound x) refl (has_sound y) refl (has_faulty x) (has_faulty y) is
  where
    go : (o : Bool) (p : Bool) → has_sound x ≡ p → (q : Bool) → has_sound y ≡ q → (f i : Bool) → joining_by o p q f i (sound_sign x) (sound_sign y) ≡ FedBy s → Sound g s
    go true p u q v f i e = let z : ◌≡◌ {A = ℕ} 0 1 = cc in absurd (omega arith)
    go false true u true v f i e = let z : ◌≡◌ {A = ℕ} 0 1 = cc in absurd (omega arith)
    go false true u false v f true e = let z : ◌≡◌ {A = ℕ} 0 1 = cc in absurd (omega arith)
    go false true u false v f false e = let z : sound_sign x ≡ s = cc in rw (sym z) (tx.sound_out u).0
    go false false u true v true i e = let z : ◌≡◌ {A = ℕ} 0 1 = cc in absurd (omega arith)
    go false false u true v false i e = let z : sound_sign y ≡ s = cc in rw (sym z) (ty.sound_out v).0
    go false false u false v f i e = let z : ◌≡◌ {A = ℕ} 0 1 = cc in absurd (omega arith)

-- two tests of a source that agree where it is asked for give one answer
pub joined_same : (within within' : ℕ → Bool) (x y : ℕ) → ((s : ℕ) → joining_of x y ≡ FedBy s → within s ≡ within' s)
    → joined_safe within (joining_of x y) ≡ joined_safe within' (joining_of x y)
unfolding joined_safe
joined_same within within' x y same = go (joining_of x y) refl
  where
    go : (j : Joining) → joining_of x y ≡ j → joined_safe within j ≡ joined_safe within' j
    go Clash q = refl
    go Dark q = refl
    go (FedBy s) q = same s q

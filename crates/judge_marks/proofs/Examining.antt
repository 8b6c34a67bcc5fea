-- The examination finds all steps good where they are, and else the first bad one with its lowest reason: step by step along the list.
-- Assumes nothing.
use Prim.Native.Nat.{ℕ, suc, ◌+◌, ◌≤◌}
use mathlib.Core.Path.{◌≡◌, refl, sym, ap, ap₂, ◌∙◌}
use mathlib.Core.Bool.{Bool, true, false, not, false≢true}
use mathlib.Core.List.{List, [], ◌∷◌, ◌++◌}
use lib.ListN.{length}
use native.Mathlib.Omega.{arith}
use Rattle.std.specs.Prelude.{Result, Ok, Err}
use Rattle.feeding.specs.Networks.{Net, Formed}
use Rattle.feeding.specs.Parts.{Config}
use Rattle.feeding.specs.Plans.{Step, GoodStep, Good, put, run, differ, good_step?}
use Rattle.feeding.specs.Safety.{safe?}
use Rattle.feeding.proofs.Below.{and_both}
use Rattle.feeding.proofs.Decided.{safe?_complete}
use Rattle.feeding.proofs.Validity.{differ_out, good_step?_out}
use Rattle.judge_marks.specs.declared.Reason.{Reason}
use Rattle.judge_marks.specs.declared.Reason.TheVariants.{NotOperable, AlreadySo, Unsafe}
use Rattle.judge_marks.specs.declared.BadStep.{BadStep}
use Rattle.judge_marks.specs.Marks.{reason_number, Fits, LowestReason, BrokenBy, examined, first_bad, step_examined, steps_examined}

-- ---- reasons, states and findings

reason_least : (r : Reason) → 1 ≤ reason_number r
reason_least NotOperable = omega arith
reason_least AlreadySo = omega arith
reason_least Unsafe = omega arith

-- no two reasons have one number
reason_of : (r r' : Reason) → reason_number r ≡ reason_number r' → r ≡ r'
reason_of NotOperable NotOperable e = refl
reason_of NotOperable AlreadySo e = absurd (omega arith)
reason_of NotOperable Unsafe e = absurd (omega arith)
reason_of AlreadySo NotOperable e = absurd (omega arith)
reason_of AlreadySo AlreadySo e = refl
reason_of AlreadySo Unsafe e = absurd (omega arith)
reason_of Unsafe NotOperable e = absurd (omega arith)
reason_of Unsafe AlreadySo e = absurd (omega arith)
reason_of Unsafe Unsafe e = refl

state_same : (a w : Bool) → differ a w ≡ false → a ≡ w
state_same true true e = refl
state_same true false e = e
state_same false true e = sym e
state_same false false e = refl

state_other : (a w : Bool) → a ≡ not w → ¬ (a ≡ w)
state_other a true e f = false≢true (sym e ∙ f)
state_other a false e f = false≢true (sym f ∙ e)

pub all_unbad : (b : BadStep) → ¬ (◌≡◌ {A = Result Unit BadStep} (Ok tt) (Err b))
all_unbad b e = let z : ◌≡◌ {A = ℕ} 0 1 = cc in omega arith

both_good : (x y : Result Unit BadStep) → first_bad x y ≡ Ok tt → (x ≡ Ok tt) × (y ≡ Ok tt)
unfolding first_bad
both_good (Ok tt) y h = (refl, h)
both_good (Err b) y h = absurd (all_unbad b (sym h))

pub all_pass : (i : ℕ) (a d e : Bool) → examined i a d e ≡ Ok tt → (a ≡ true) × (d ≡ true) × (e ≡ true)
unfolding examined
all_pass i false d e h = absurd (all_unbad _ (sym h))
all_pass i true false e h = absurd (all_unbad _ (sym h))
all_pass i true true false h = absurd (all_unbad _ (sym h))
all_pass i true true true h = (refl, refl, refl)

module _ (net : Net) (formed : Formed net.grid) (op : ℕ → Type 0) (op? : ℕ → Bool) (op-in : (l : ℕ) → op l → op? l ≡ true)
    (op-out : (l : ℕ) → op? l ≡ true → op l) where
  -- ---- one step

  tests_good : (c : Config) (s : Step) → op? s.link ≡ true → differ (c s.link) s.want ≡ true
      → safe? net.grid (put c s.link s.want) ≡ true → GoodStep net op c s
  unfolding good_step?
  tests_good c s a d e =
      good_step?_out net formed op op? op-in op-out c s
      (and_both (op? s.link) _ a (and_both (differ (c s.link) s.want) _ d e))

  data Told (c : Config) (i : ℕ) (s : Step) : Result Unit BadStep → Type 0 where
    fine : GoodStep net op c s → Told c i s (Ok tt)
    wrong : (r : Reason) → LowestReason net op c s r → Told c i s (Err (record { step = i; reason = r }))

  told : (c : Config) (i : ℕ) (s : Step) → Told c i s (step_examined net op? c i s)
  unfolding step_examined examined
  told c i s =
      go (op? s.link) refl (differ (c s.link) s.want) refl (safe? net.grid (put c s.link s.want)) refl
    where
      go : (a : Bool) → op? s.link ≡ a → (d : Bool) → differ (c s.link) s.want ≡ d
          → (e : Bool) → safe? net.grid (put c s.link s.want) ≡ e → Told c i s (examined i a d e)
      go false a d f e g = wrong NotOperable (record { fits = λ o. false≢true (sym a ∙ op-in s.link o); lowest = λ r _. reason_least r })
      go true a false f e g = wrong AlreadySo (record { fits = state_same _ _ f; lowest = second })
        where
          second : (r : Reason) → Fits net op c s r → 2 ≤ reason_number r
          second NotOperable h = absurd (h (op-out s.link a))
          second AlreadySo h = omega arith
          second Unsafe h = omega arith
      go true a true f false g = wrong Unsafe (record {
        fits = λ h. false≢true (sym g ∙ safe?_complete net.grid formed _ h);
        lowest = third;
      })
        where
          third : (r : Reason) → Fits net op c s r → 3 ≤ reason_number r
          third NotOperable h = absurd (h (op-out s.link a))
          third AlreadySo h = absurd (state_other _ _ (differ_out _ _ f) h)
          third Unsafe h = omega arith
      go true a true f true g = fine (tests_good c s a f g)

  -- a good step has no reason to be bad
  good_unfit : (c : Config) (s : Step) → GoodStep net op c s → (r : Reason) → ¬ Fits net op c s r
  good_unfit c s g NotOperable f = f g.operable
  good_unfit c s g AlreadySo f = state_other _ _ g.changes f
  good_unfit c s g Unsafe f = f g.safe

  lowest_once : (c : Config) (s : Step) (r r' : Reason) → LowestReason net op c s r → LowestReason net op c s r' → r ≡ r'
  lowest_once c s r r' x y = reason_of r r' (omega (arith, x.lowest r' y.fits, y.lowest r x.fits))

  -- ---- the steps from number i on

  pub examined_good : (c : Config) (i : ℕ) (q : List Step) → steps_examined net op? c i q ≡ Ok tt → Good net op c q
  unfolding Good steps_examined step_examined
  examined_good c i [] h = tt
  examined_good c i (s ∷ q) h =
      let both = both_good _ _ h in
      let tests = all_pass i _ _ _ both.0 in
      (tests_good c s tests.0 tests.1 tests.2, examined_good (put c s.link s.want) (suc i) q both.1)

  pub good_examined : (c : Config) (i : ℕ) (q : List Step) → Good net op c q → steps_examined net op? c i q ≡ Ok tt
  unfolding Good steps_examined first_bad
  good_examined c i [] g = refl
  good_examined c i (s ∷ q) g = go (step_examined net op? c i s) (told c i s) _ (good_examined (put c s.link s.want) (suc i) q g.1)
    where
      go : (x : Result Unit BadStep) → Told c i s x → (y : Result Unit BadStep) → y ≡ Ok tt → first_bad x y ≡ Ok tt
      go _ (fine _) y e = e
      go _ (wrong r l) y e = absurd (good_unfit c s g.0 r l.fits)

  -- as BrokenBy, for the configuration c and a first step with the number i
  record BrokenFrom (c : Config) (i : ℕ) (q : List Step) (b : BadStep) : Type 0 where
    front : List Step
    bad : Step
    rest : List Step
    whole : q ≡ front ++ (bad ∷ rest)
    number : b.step ≡ length front + i
    good : Good net op c front
    reason : LowestReason net op (run c front) bad b.reason

  examined_from : (c : Config) (i : ℕ) (q : List Step) (b : BadStep) → steps_examined net op? c i q ≡ Err b → BrokenFrom c i q b
  unfolding Good steps_examined first_bad run
  examined_from c i [] b h = absurd (all_unbad b h)
  examined_from c i (s ∷ q) b h =
      go (step_examined net op? c i s) (told c i s) _ (examined_from (put c s.link s.want) (suc i) q b) h
    where
      later : GoodStep net op c s → BrokenFrom (put c s.link s.want) (suc i) q b → BrokenFrom c i (s ∷ q) b
      later g r = record {
        front = s ∷ r.front;
        bad = r.bad;
        rest = r.rest;
        whole = ap (λ (p : List Step). s ∷ p) r.whole;
        number = omega (arith, r.number);
        good = (g, r.good);
        reason = r.reason;
      }

      go : (x : Result Unit BadStep) → Told c i s x → (y : Result Unit BadStep) → (y ≡ Err b → BrokenFrom (put c s.link s.want) (suc i) q b)
          → first_bad x y ≡ Err b → BrokenFrom c i (s ∷ q) b
      go _ (fine g) y ih e = later g (ih e)
      go _ (wrong r l) y ih e =
          let is : b ≡ record { step = i; reason = r } = cc in
          rw is (record { front = []; bad = s; rest = q; whole = refl; number = omega arith; good = tt; reason = l })

  from_examined : (c : Config) (i : ℕ) (front : List Step) (bad : Step) (rest : List Step) (b : BadStep) → b.step ≡ length front + i
      → Good net op c front → LowestReason net op (run c front) bad b.reason → steps_examined net op? c i (front ++ (bad ∷ rest)) ≡ Err b
  unfolding Good steps_examined first_bad run
  from_examined c i [] bad rest b n g l = go (step_examined net op? c i bad) (told c i bad) _
    where
      go : (x : Result Unit BadStep) → Told c i bad x → (y : Result Unit BadStep) → first_bad x y ≡ Err b
      go _ (fine f) y = absurd (good_unfit c bad f b.reason l.fits)
      go _ (wrong r k) y =
          let e : i ≡ b.step = omega arith in
          ap₂ (λ (j : ℕ) (m : Reason). Err (record { step = j; reason = m })) e (lowest_once c bad r b.reason k l)
  from_examined c i (s ∷ front) bad rest b n g l =
      go (step_examined net op? c i s) (told c i s) _ (from_examined (put c s.link s.want) (suc i) front bad rest b (omega arith) g.1 l)
    where
      go : (x : Result Unit BadStep) → Told c i s x → (y : Result Unit BadStep) → y ≡ Err b → first_bad x y ≡ Err b
      go _ (fine _) y e = e
      go _ (wrong r k) y e = absurd (good_unfit c s g.0 r k.fits)

  -- ---- from the start on

  pub examined_broken : (q : List Step) (b : BadStep) → steps_examined net op? net.start_closed 1 q ≡ Err b → BrokenBy net op q b
  examined_broken q b h =
      let r = examined_from net.start_closed 1 q b h in
      record { front = r.front; bad = r.bad; rest = r.rest; whole = r.whole; number = r.number; good = r.good; reason = r.reason }

  pub broken_examined : (q : List Step) (b : BadStep) → BrokenBy net op q b → steps_examined net op? net.start_closed 1 q ≡ Err b
  broken_examined q b r = rw r.whole (from_examined net.start_closed 1 r.front r.bad r.rest b r.number r.good r.reason)

-- A good list of steps is good up to each of its steps, so every configuration on the way is safe.
-- Assumes nothing.
use mathlib.Core.Path.{◌≡◌, refl, ap, subst}
use mathlib.Core.Bool.{not}
use mathlib.Core.List.{List, [], ◌∷◌, ◌++◌}
use Prim.Native.Nat.{ℕ}
use Rattle.feeding.specs.Networks.{Net}
use Rattle.feeding.specs.Parts.{Config}
use Rattle.feeding.specs.Safety.{Safe}
use Rattle.feeding.specs.Restoration.{Operable}
use Rattle.feeding.specs.Plans.{Step, GoodStep, Good, ValidPlan, put, run}
use Rattle.feeding.proofs.Margins.{bears_le, le_bears}
use Rattle.feeding.proofs.Printed.{run_safe}
use Rattle.theorems.specs.Words.{OnTheWay, Operates}

good_front : (net : Net) (op : ℕ → Type 0) (c : Config) (p q : List Step) → Good net op c (p ++ q) → Good net op c p
unfolding Good
good_front net op c [] q g = tt
good_front net op c (s ∷ p) q g = (g.0, good_front net op (put c s.link s.want) p q g.1)

pub valid_way : (net : Net) → Safe net.grid net.start_closed → (q : List Step) → ValidPlan net q → OnTheWay net q
valid_way net start q valid = record {
  radial = λ front rest e. (safe front rest e).tree;
  one_source = λ front rest e. (safe front rest e).one;
  clear = λ front rest e. (safe front rest e).clear;
  within = λ front rest e x via f. bears_le net.grid x _ ((safe front rest e).within x via f);
  fed = valid.meets;
}
  where
    safe : (front rest : List Step) → q ≡ front ++ rest → Safe net.grid (run net.start_closed front)
    safe front rest e =
        run_safe net (Operable net) net.start_closed front start
        (good_front net (Operable net) net.start_closed front rest (subst (Good net (Operable net) net.start_closed) e valid.good))

-- ---- and such a list of steps is a valid plan

module _ (net : Net) (op : ℕ → Type 0) where
  -- what is asked of every configuration and every step on the way from c
  record From (c : Config) (q : List Step) : Type 0 where
    pub safe : (front rest : List Step) → q ≡ front ++ rest → Safe net.grid (run c front)
    pub operable : (front rest : List Step) (s : Step) → q ≡ front ++ (s ∷ rest) → op s.link
    pub changes : (front rest : List Step) (s : Step) → q ≡ front ++ (s ∷ rest) → run c front s.link ≡ not s.want

  good_from : (c : Config) (q : List Step) → From c q → Good net op c q
  unfolding Good run
  good_from c [] f = tt
  good_from c (s ∷ q) f = (
    record { operable = f.operable [] q s refl; changes = f.changes [] q s refl; safe = f.safe (s ∷ []) q refl },
    good_from (put c s.link s.want) q (record {
      safe = λ front rest e. f.safe (s ∷ front) rest (ap (λ (r : List Step). s ∷ r) e);
      operable = λ front rest t e. f.operable (s ∷ front) rest t (ap (λ (r : List Step). s ∷ r) e);
      changes = λ front rest t e. f.changes (s ∷ front) rest t (ap (λ (r : List Step). s ∷ r) e);
    }),
  )

  good_operates : (c : Config) (p : List Step) (s : Step) (q : List Step) → Good net op c (p ++ (s ∷ q)) → GoodStep net op (run c p) s
  unfolding Good run
  good_operates c [] s q g = g.0
  good_operates c (t ∷ p) s q g = good_operates (put c t.link t.want) p s q g.1

pub valid_operates : (net : Net) (q : List Step) → ValidPlan net q → Operates net q
valid_operates net q valid = record {
  operable = λ front rest s e. (step front rest s e).operable;
  changes = λ front rest s e. (step front rest s e).changes;
}
  where
    step : (front rest : List Step) (s : Step) → q ≡ front ++ (s ∷ rest) → GoodStep net (Operable net) (run net.start_closed front) s
    step front rest s e =
        good_operates net (Operable net) net.start_closed front s rest (subst (Good net (Operable net) net.start_closed) e valid.good)

pub way_valid : (net : Net) (q : List Step) → Operates net q → OnTheWay net q → ValidPlan net q
way_valid net q o w = record {
  good = good_from net (Operable net) net.start_closed q (record {
    safe = λ front rest e. record { tree = w.radial front rest e; one = w.one_source front rest e; clear = w.clear front rest e; within = λ x via f. le_bears net.grid x _ (w.within front rest e x via f) };
    operable = o.operable;
    changes = o.changes;
  });
  meets = w.fed;
}

-- What parts hold, as numbers: the three flags are read back, and two parts that are joined hold what either held, by cases on the flags.
-- Assumes nothing.
use Prim.Native.Nat.{ℕ, ◌+◌}
use mathlib.Core.Path.{◌≡◌, refl}
use mathlib.Core.Bool.{Bool, true, false, not, ◌&&◌, ◌||◌, false≢true}
use Rattle.feeding.specs.Below.{gate}
use Rattle.feeding.proofs.Below.{or_left, or_right}
use Rattle.plan_stops.specs.Holding.{holding, has_source, has_fault, has_need, waits_for, clash, together, serves}

pub source_held : (s f n : Bool) → has_source (holding s f n) ≡ s
unfolding holding
source_held true true true = refl
source_held true true false = refl
source_held true false true = refl
source_held true false false = refl
source_held false true true = refl
source_held false true false = refl
source_held false false true = refl
source_held false false false = refl

pub fault_held : (s f n : Bool) → has_fault (holding s f n) ≡ f
unfolding holding
fault_held true true true = refl
fault_held true true false = refl
fault_held true false true = refl
fault_held true false false = refl
fault_held false true true = refl
fault_held false true false = refl
fault_held false false true = refl
fault_held false false false = refl

pub need_held : (s f n : Bool) → has_need (holding s f n) ≡ n
unfolding holding
need_held true true true = refl
need_held true true false = refl
need_held true false true = refl
need_held true false false = refl
need_held false true true = refl
need_held false true false = refl
need_held false false true = refl
need_held false false false = refl

waits_held : (s f n : Bool) → waits_for (holding s f n) ≡ (n && not s)
waits_held s f n = rw (source_held s f n, need_held s f n)

or_out : (b : Bool) → (b || false) ≡ true → b ≡ true
or_out true h = refl
or_out false h = h

-- two parts with these flags
module _ (s f n s' f' n' : Bool) where
  pub together_held : together (holding s f n) (holding s' f' n') ≡ holding (s || s') (f || f') (n || n')
  unfolding together
  together_held =
      rw (source_held s f n, source_held s' f' n', fault_held s f n, fault_held s' f' n', need_held s f n, need_held s' f' n')

  serves_held : serves (holding s f n) (holding s' f' n') ≡ (((n && not s) && ((n' && not s') || s')) || ((n' && not s') && s))
  unfolding serves
  serves_held = rw (source_held s f n, source_held s' f' n', need_held s f n, need_held s' f' n')

one_fewer : (s n s' n' : Bool)
    → gate (n && not s) 1 + gate (n' && not s') 1
    ≡ gate ((n || n') && not (s || s')) 1 + gate (((n && not s) && ((n' && not s') || s')) || ((n' && not s') && s)) 1
one_fewer true true true true = refl
one_fewer true true true false = refl
one_fewer true true false true = refl
one_fewer true true false false = refl
one_fewer true false true true = refl
one_fewer true false true false = refl
one_fewer true false false true = refl
one_fewer true false false false = refl
one_fewer false true true true = refl
one_fewer false true true false = refl
one_fewer false true false true = refl
one_fewer false true false false = refl
one_fewer false false true true = refl
one_fewer false false true false = refl
one_fewer false false false true = refl
one_fewer false false false false = refl

-- joined, the two wait as one part, and where that serves one, as one fewer
pub served_held : (s f n s' f' n' : Bool)
    → gate (waits_for (holding s f n)) 1 + gate (waits_for (holding s' f' n')) 1
    ≡ gate (waits_for (holding (s || s') (f || f') (n || n'))) 1 + gate (serves (holding s f n) (holding s' f' n')) 1
served_held s f n s' f' n' =
    rw (waits_held s f n, waits_held s' f' n', waits_held (s || s') (f || f') (n || n'), serves_held s f n s' f' n') (one_fewer s n s' n')

-- ---- two parts that no safe configuration joins

-- two sources, or a source and a fault, in either order
pub data Clashes (h h' : ℕ) : Type 0 where
  sources : has_source h ≡ true → has_source h' ≡ true → Clashes h h'
  source_fault : has_source h ≡ true → has_fault h' ≡ true → Clashes h h'
  fault_source : has_fault h ≡ true → has_source h' ≡ true → Clashes h h'

pub clash_out : (h h' : ℕ) → clash h h' ≡ true → Clashes h h'
unfolding clash
clash_out h h' c = go (has_source h) refl (has_source h') refl c
  where
    go : (t : Bool) → has_source h ≡ t → (u : Bool) → has_source h' ≡ u → ((t && (u || has_fault h')) || (u && has_fault h)) ≡ true → Clashes h h'
    go true t true u c = sources t u
    go true t false u c = source_fault t (or_out (has_fault h') c)
    go false t true u c = fault_source c u
    go false t false u c = absurd (false≢true c)

pub clash_in : (h h' : ℕ) → Clashes h h' → clash h h' ≡ true
unfolding clash
clash_in h h' (sources p q) = rw (p, q)
clash_in h h' (source_fault p q) = rw (p, q) (or_left (has_source h' || true) _ (or_right (has_source h') true refl))
clash_in h h' (fault_source p q) = rw (p, q) (or_right (has_source h && true) true refl)

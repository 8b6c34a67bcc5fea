-- Rule 14: a part is a tree exactly where no link of it closes a loop. The links of the part alone grow a forest, and no path leaves the part.
-- Assumes nothing.
use Prim.Native.Nat.{ℕ, ◌<◌}
use mathlib.Core.Path.{◌≡◌, sym, ◌∙◌}
use mathlib.Core.Bool.{true, false, ◌&&◌, true≢false}
use lib.Dec.{ltb}
use borrow.Author.Tests.{eqb-true, eq-eqb}
use native.Mathlib.Omega.{arith}
use Rattle.feeding.specs.Networks.{Grid, Formed, at}
use Rattle.feeding.specs.Parts.{Config, Joined, here, over, far, labels_after, joined?}
use Rattle.feeding.specs.Safety.{without, Tree, loop_at, looped?}
use Rattle.feeding.proofs.Below.{and_left, and_right, and_both, any_to_in, any_to_out}
use Rattle.feeding.proofs.Joins.{Spans, forth, back, spans_far, spans_sym, step, joined_trans}
use Rattle.feeding.proofs.Labels.{below, labels_sound, labels_complete, joined?_sound, joined?_complete}
use Rattle.feeding.proofs.Forest.{below_on, below_out, without_on, without_ne, without_in, Grows, grows_tree}
use Rattle.feeding.proofs.Opening.{joined_mono}

below_mono : (c' c : Config) (n : ℕ) → ((l : ℕ) → c' l ≡ true → c l ≡ true) → (l : ℕ) → below c' n l ≡ true → below c n l ≡ true
unfolding below
below_mono c' c n sub l h = and_both (ltb l n) (c l) (and_left _ (c' l) h) (sub l (and_right (ltb l n) (c' l) h))

-- the closed links of the part of e
unfoldable in_part : Grid → Config → ℕ → Config
in_part g c e l = c l && joined? g c e (g.end_a l)

module _ (g : Grid) (formed : Formed g) (c : Config) (e : ℕ) where
  in_part_on : (l : ℕ) → in_part g c e l ≡ true → c l ≡ true
  unfolding in_part
  in_part_on l h = and_left (c l) _ h

  in_part_in : (l : ℕ) → c l ≡ true → Joined g c e (g.end_a l) → in_part g c e l ≡ true
  unfolding in_part
  in_part_in l h j = and_both (c l) _ h (joined?_complete g formed c e (g.end_a l) j)

  grows : looped? g c e ≡ false → Grows g (in_part g c e) g.K
  unfolding looped? loop_at in_part
  grows h l k p j = true≢false (sym (any_to_in g.K (λ l. loop_at g c l && joined? g c e (g.end_a l)) l k
      (and_both (loop_at g c l) _ (and_both (c l) _ (and_left (c l) _ p) (eq-eqb _ _ same)) (and_right (c l) _ p))) ∙ h)
    where
      same : at (labels_after g c l) (g.end_a l) ≡ at (labels_after g c l) (g.end_b l)
      same = labels_complete g formed c l (omega arith)
          (joined_mono g (below (in_part g c e) l) (below c l) (below_mono (in_part g c e) c l in_part_on) j)

  -- a path without the link l that starts in the part stays in it
  stays : (l : ℕ) {d a : ℕ} → Joined g c e a → Joined g (without c l) d a → Joined g (without (in_part g c e) l) d a
  stays l i here = here
  stays l i (over {a = a} m k h t j) =
      over m k (without_in (in_part g c e) l m (in_part_in m on (first (spans_far g m a t))) (without_ne c l m h)) t (stays l next j)
    where
      on : c m ≡ true
      on = without_on c l m h

      next : Joined g c e (far g m a)
      next = joined_trans g c (step g c m (far g m a) a k on (spans_sym (spans_far g m a t)) here) i

      first : Spans g m a (far g m a) → Joined g c e (g.end_a m)
      first (forth p q) = rw p i
      first (back p q) = rw q next

  pub looped_in : looped? g c e ≡ false → Tree g c e
  looped_in h l k on i j = grows_tree g (in_part g c e) (grows h) l k (in_part_in l on i) (stays l i j)

  pub looped_out : e < g.E → looped? g c e ≡ true → ¬ Tree g c e
  unfolding looped? loop_at
  looped_out k h tree = go (any_to_out g.K (λ l. loop_at g c l && joined? g c e (g.end_a l)) h)
    where
      go : (l : ℕ) × (l < g.K) × ((loop_at g c l && joined? g c e (g.end_a l)) ≡ true) → ⊥
      go r =
          let l : ℕ = r.0 in
          let kl : l < g.K = r.1 in
          let loop : loop_at g c l ≡ true = and_left (loop_at g c l) _ r.2 in
          let part : joined? g c e (g.end_a l) ≡ true = and_right (loop_at g c l) _ r.2 in
          let same = eqb-true (at (labels_after g c l) (g.end_a l)) (at (labels_after g c l) (g.end_b l)) (and_right (c l) _ loop) in
          tree l kl (and_left (c l) _ loop) (joined?_sound g formed c e (g.end_a l) k (formed.end_a_lt l kl) part)
          (joined_mono g (below c l) (without c l) (λ m b. without_in c l m (below_on c l m b) (λ q. omega (arith, below_out c l m b)))
          (labels_sound g formed c l (omega arith) (g.end_a l) (g.end_b l) (formed.end_a_lt l kl) (formed.end_b_lt l kl) same))

-- A turn of the loop over the links: the roots stay the labels, and the marks stay at the loops, by each of its four ways.
-- Assumes nothing.
use Prim.Native.Nat.{ℕ, suc, ◌+◌, ◌≤◌, ◌<◌}
use mathlib.Core.Path.{◌≡◌, sym, ap, ◌∙◌}
use mathlib.Core.Bool.{true, false}
use mathlib.Core.List.{List}
use lib.ListN.{length, set, replicate, length-set}
use borrow.Author.Tests.{eq-eqb, ne_eqb}
use native.Mathlib.Omega.{arith}
use native.Mathlib.Numerals.{add-one}
use Rattle.feeding.specs.Below.{tabulate}
use Rattle.feeding.specs.Networks.{at}
use Rattle.feeding.specs.Parts.{Config, closed_in, relabel, labels}
use Rattle.feeding.proofs.Below.{and_both}
use Rattle.feeding.proofs.Labels.{relabel_at, relabel_off, relabel_self, link_low, link_high, labels_none, labels_open, labels_closed, length_labels}
use Rattle.feeding.proofs.Lows.{length_tabulate, at_tabulate, table_ext}
use Rattle.feeding_parts.specs.Labelling.{Falls, root_of, roots_of, loop_set, parts_of}
use Rattle.feeding_parts.specs.declared.Parts.{Parts}
use Rattle.feeding_parts.proofs.Loops.{loops_none, loops_on, loops_off}
use Rattle.feeding_parts.proofs.Roots.{falls_set, root_own, root_le, root_is, root_store, root_shorter}

-- ---- the roots after the stores

-- a lower root stored at a root, and at two elements of the two parts
module _ (p : List ℕ) (f : Falls p) (hi lo i j : ℕ) (in-hi : hi < length p) (own-hi : at p hi ≡ hi) (own-lo : at p lo ≡ lo) (lt : lo < hi)
    (in-i : i < length p) (in-j : j < length p) (i-to : relabel hi lo (root_of p i) ≡ lo) (j-to : relabel hi lo (root_of p j) ≡ lo) where
  join_long : length (set (set (set p hi lo) i lo) j lo) ≡ length p
  join_long = length-set (set (set p hi lo) i lo) j lo ∙ length-set (set p hi lo) i lo ∙ length-set p hi lo

  falls₁ : Falls (set p hi lo)
  falls₁ = falls_set p f hi lo (omega arith)

  root_i : root_of (set p hi lo) i ≡ lo
  root_i = root_store p f hi lo in-hi own-hi own-lo lt i in-i ∙ i-to

  falls₂ : Falls (set (set p hi lo) i lo)
  falls₂ = falls_set (set p hi lo) falls₁ i lo (omega (arith, root_i, root_le (set p hi lo) falls₁ i))

  shorter₂ : (x : ℕ) → x < length p → root_of (set (set p hi lo) i lo) x ≡ root_of (set p hi lo) x
  shorter₂ x h =
      ap (λ (r : ℕ). root_of (set (set p hi lo) i r) x) (sym root_i)
      ∙ root_shorter (set p hi lo) falls₁ i (omega (arith, length-set p hi lo)) x (omega (arith, length-set p hi lo))

  long₂ : length (set (set p hi lo) i lo) ≡ length p
  long₂ = length-set (set p hi lo) i lo ∙ length-set p hi lo

  root_j : root_of (set (set p hi lo) i lo) j ≡ lo
  root_j = shorter₂ j in-j ∙ root_store p f hi lo in-hi own-hi own-lo lt j in-j ∙ j-to

  join_falls : Falls (set (set (set p hi lo) i lo) j lo)
  join_falls = falls_set (set (set p hi lo) i lo) falls₂ j lo (omega (arith, root_j, root_le (set (set p hi lo) i lo) falls₂ j))

  join_root : (x : ℕ) → x < length p → root_of (set (set (set p hi lo) i lo) j lo) x ≡ relabel hi lo (root_of p x)
  join_root x h =
      ap (λ (r : ℕ). root_of (set (set (set p hi lo) i lo) j r) x) (sym root_j)
      ∙ root_shorter (set (set p hi lo) i lo) falls₂ j (omega (arith, long₂)) x (omega (arith, long₂))
      ∙ shorter₂ x h
      ∙ root_store p f hi lo in-hi own-hi own-lo lt x h

-- ---- the invariant

-- after l links: the roots are the labels, and the set has the first ends of the links that closed loops
pub record Stands (a b : ℕ → ℕ) (c : Config) (l : ℕ) (parent looped : List ℕ) : Type 0 where
  pub long : length parent ≡ 64
  pub falls : Falls parent
  pub roots : (x : ℕ) → x < 64 → root_of parent x ≡ at (labels 64 a b c l) x
  pub loops : looped ≡ loop_set 64 a b c l

module _ (a b : ℕ → ℕ) (c : Config) where
  loops_closed : (l : ℕ) → c l ≡ true → at (labels 64 a b c l) (a l) ≡ at (labels 64 a b c l) (b l)
      → loop_set 64 a b c (suc l) ≡ set (loop_set 64 a b c l) (a l) 1
  loops_closed l h e = loops_on 64 a b c l (and_both (c l) _ h (eq-eqb _ _ e))

  loops_apart : (l : ℕ) → c l ≡ true → (at (labels 64 a b c l) (a l) ≡ at (labels 64 a b c l) (b l) → ⊥)
      → loop_set 64 a b c (suc l) ≡ loop_set 64 a b c l
  loops_apart l h e = loops_off 64 a b c l (rw h (ne_eqb (at (labels 64 a b c l) (a l)) (at (labels 64 a b c l) (b l)) e))

  loops_open : (l : ℕ) → c l ≡ false → loop_set 64 a b c (suc l) ≡ loop_set 64 a b c l
  loops_open l h = loops_off 64 a b c l (rw h)

module _ (a b : ℕ → ℕ) (c : Config) where
  pub stands_none : (p looped : List ℕ) → p ≡ tabulate 64 (λ e. e) → looped ≡ replicate 64 0 → Stands a b c 0 p looped
  stands_none p looped e m =
      let long : length p ≡ 64 = ap length e ∙ length_tabulate 64 (λ e. e) in
      let each : (x : ℕ) → x < 64 → at p x ≡ x = λ x k. ap (λ (q : List ℕ). at q x) e ∙ at_tabulate 64 (λ e. e) x k in
      record {
        long = long;
        falls = λ x k. omega (arith, each x (omega arith));
        roots = λ x k.
            root_own p x (each x k) ∙ sym (at_tabulate 64 (λ e. e) x k) ∙ ap (λ (q : List ℕ). at q x) (sym (labels_none 64 a b c));
        loops = m ∙ sym (loops_none 64 a b c);
      }

module _ (a b : ℕ → ℕ) (c : Config) (l : ℕ) (p looped : List ℕ) (inv : Stands a b c l p looped) where
  pub turn_open : c l ≡ false → Stands a b c (l + 1) p looped
  turn_open h = rw add-one record {
    long = inv.long;
    falls = inv.falls;
    roots = λ x k. inv.roots x k ∙ ap (λ (ls : List ℕ). at ls x) (sym (labels_open 64 a b c l h));
    loops = inv.loops ∙ sym (loops_open a b c l h);
  }

  module _ (closed : c l ≡ true) (in-a : a l < 64) (in_b : b l < 64) (x y : ℕ) (x-is : x ≡ root_of p (a l)) (y-is : y ≡ root_of p (b l)) where
    x_label : at (labels 64 a b c l) (a l) ≡ x
    x_label = sym (inv.roots (a l) in-a) ∙ sym x-is

    y_label : at (labels 64 a b c l) (b l) ≡ y
    y_label = sym (inv.roots (b l) in_b) ∙ sym y-is

    next_low : x ≤ y → (e : ℕ) → at (labels 64 a b c (suc l)) e ≡ relabel y x (at (labels 64 a b c l) e)
    next_low h e =
        ap (λ (ls : List ℕ). at ls e) (labels_closed 64 a b c l closed)
        ∙ link_low (labels 64 a b c l) (a l) (b l) e (omega (arith, x_label, y_label))
        ∙ rw (x_label, y_label)

    next_high : y < x → (e : ℕ) → at (labels 64 a b c (suc l)) e ≡ relabel x y (at (labels 64 a b c l) e)
    next_high h e =
        ap (λ (ls : List ℕ). at ls e) (labels_closed 64 a b c l closed)
        ∙ link_high (labels 64 a b c l) (a l) (b l) e (omega (arith, x_label, y_label))
        ∙ rw (x_label, y_label)

    pub turn_loop : x ≡ y → Stands a b c (l + 1) p (set looped (a l) 1)
    turn_loop same = rw add-one record {
      long = inv.long;
      falls = inv.falls;
      roots = λ e k.
          inv.roots e k
          ∙ sym (relabel_self x _)
          ∙ ap (λ (y : ℕ). relabel y x (at (labels 64 a b c l) e)) same
          ∙ sym (next_low (omega arith) e);
      loops = ap (λ (m : List ℕ). set m (a l) 1) inv.loops ∙ sym (loops_closed a b c l closed (x_label ∙ same ∙ sym y_label));
    }

    x_own : at p x ≡ x
    x_own = rw x-is (root_is p inv.falls (a l))

    y_own : at p y ≡ y
    y_own = rw y-is (root_is p inv.falls (b l))

    apart : (x ≡ y → ⊥) → looped ≡ loop_set 64 a b c (suc l)
    apart h = inv.loops ∙ sym (loops_apart a b c l closed (λ e. h (sym x_label ∙ e ∙ y_label)))

    pub turn_low : x < y → Stands a b c (l + 1) (set (set (set p y x) (a l) x) (b l) x) looped
    turn_low lt =
        let in-y : y < length p = omega (arith, inv.long, root_le p inv.falls (b l)) in
        let to-a : relabel y x (root_of p (a l)) ≡ x = rw (← x-is) (relabel_off y x x (omega arith)) in
        let to-b : relabel y x (root_of p (b l)) ≡ x = rw (← y-is) (relabel_at y x) in
        let in-i : a l < length p = omega (arith, inv.long) in
        let in-j : b l < length p = omega (arith, inv.long) in
        rw add-one record {
          long = join_long p inv.falls y x (a l) (b l) in-y y_own x_own lt in-i in-j to-a to-b ∙ inv.long;
          falls = join_falls p inv.falls y x (a l) (b l) in-y y_own x_own lt in-i in-j to-a to-b;
          roots = λ e k.
              join_root p inv.falls y x (a l) (b l) in-y y_own x_own lt in-i in-j to-a to-b e (omega (arith, inv.long))
              ∙ ap (relabel y x) (inv.roots e k)
              ∙ sym (next_low (omega arith) e);
          loops = apart (omega arith);
        }

    pub turn_high : y < x → Stands a b c (l + 1) (set (set (set p x y) (a l) y) (b l) y) looped
    turn_high lt =
        let in-x : x < length p = omega (arith, inv.long, root_le p inv.falls (a l)) in
        let to-a : relabel x y (root_of p (a l)) ≡ y = rw (← x-is) (relabel_at x y) in
        let to-b : relabel x y (root_of p (b l)) ≡ y = rw (← y-is) (relabel_off x y y (omega arith)) in
        let in-i : a l < length p = omega (arith, inv.long) in
        let in-j : b l < length p = omega (arith, inv.long) in
        rw add-one record {
          long = join_long p inv.falls x y (a l) (b l) in-x x_own y_own lt in-i in-j to-a to-b ∙ inv.long;
          falls = join_falls p inv.falls x y (a l) (b l) in-x x_own y_own lt in-i in-j to-a to-b;
          roots = λ e k.
              join_root p inv.falls x y (a l) (b l) in-x x_own y_own lt in-i in-j to-a to-b e (omega (arith, inv.long))
              ∙ ap (relabel x y) (inv.roots e k)
              ∙ sym (next_high lt e);
          loops = apart (omega arith);
        }

  -- all links taken: the roots are the labels
  pub roots_labels : roots_of p ≡ labels 64 a b c l
  unfolding roots_of
  roots_labels = sym (table_ext 64 (root_of p) (labels 64 a b c l) (length_labels 64 a b c l) (λ x k. sym (inv.roots x k)))

-- what the function returns
pub parts_done : (from to closed : List ℕ) (l links : ℕ) (p looped label : List ℕ) → Stands (at from) (at to) (closed_in closed) l p looped → l ≡ links
    → label ≡ roots_of p → ◌≡◌ {A = Parts} (record { label = label; looped = looped }) (parts_of from to closed links)
unfolding parts_of
parts_done from to closed l links p looped label inv all e =
    rw (e ∙ roots_labels (at from) (at to) (closed_in closed) l p looped inv, inv.loops, all)

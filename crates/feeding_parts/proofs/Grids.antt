-- What `parts_of` returns, for a grid with these links: the grid's labels, none above its element, and marks where the grid's loops close.
-- Assumes nothing.
use Prim.Native.Nat.{ℕ, ◌≤◌, ◌<◌}
use mathlib.Core.Path.{◌≡◌, refl, sym, ap, ◌∙◌}
use mathlib.Core.Bool.{Bool, true, false, ◌&&◌}
use mathlib.Core.List.{List}
use lib.Dec.{eqb, ltb}
use lib.ListN.{length, get_or-eq_default}
use borrow.Author.Tests.{eqb-true, eq-eqb, ltb-true, ltb-false}
use native.Mathlib.Omega.{arith}
use Rattle.feeding.specs.Below.{any_to}
use Rattle.feeding.specs.Networks.{Grid, Formed, at, grid_of}
use Rattle.feeding.specs.Parts.{closed_in, labels, labels_after, label, joined?}
use Rattle.feeding.specs.Safety.{loop_at, looped?}
use Rattle.feeding.proofs.Below.{same_test, and_left, and_right, and_both, any_to_out, any_to_in, any_to_ext}
use Rattle.feeding.proofs.Labels.{labels_le, length_labels, labels_wider}
use Rattle.feeding_parts.specs.Labelling.{AllBelow, EndsBelow, parts_of, last_of_part}
use Rattle.feeding_parts.proofs.Lasts.{last_live}
use Rattle.feeding_parts.proofs.Loops.{length_loops, loop_mark}

module _ (from to closed : List ℕ) (n : ℕ) where
  pub label_le : (e : ℕ) → at (parts_of from to closed n).label e ≤ e
  unfolding parts_of
  label_le e = labels_le 64 (at from) (at to) (closed_in closed) n e

  pub label_long : length (parts_of from to closed n).label ≡ 64
  unfolding parts_of
  label_long = length_labels 64 (at from) (at to) (closed_in closed) n

  pub looped_long : length (parts_of from to closed n).looped ≡ 64
  unfolding parts_of
  looped_long = length_loops 64 (at from) (at to) (closed_in closed) n

  pub label_below : (e : ℕ) → at (parts_of from to closed n).label e < 64
  label_below e = go (ltb e 64) refl
    where
      go : (t : Bool) → ltb e 64 ≡ t → at (parts_of from to closed n).label e < 64
      go true t = omega (arith, ltb-true e 64 t, label_le e)
      go false t =
          let out : length (parts_of from to closed n).label ≤ e = omega (arith, label_long, ltb-false e 64 t) in
          omega (arith, get_or-eq_default (parts_of from to closed n).label 0 out)

  -- what `last_of_part` asks of the labels
  pub labels_below : (m : ℕ) → AllBelow 64 (parts_of from to closed n).label m
  labels_below m e h = label_below e

  pub looped_mark : (x : ℕ) → x < 64
      → eqb (at (parts_of from to closed n).looped x) 1
      ≡ any_to n (λ l. (closed_in closed l && eqb (at (labels 64 (at from) (at to) (closed_in closed) l) (at from l))
      (at (labels 64 (at from) (at to) (closed_in closed) l) (at to l))) && eqb (at from l) x)
  unfolding parts_of
  looped_mark x h = loop_mark 64 (at from) (at to) (closed_in closed) n x h

-- ---- a grid with these links

module _ (from to closed : List ℕ) (g : Grid) (formed : Formed g) (small : g.E ≤ 64) (a_is : g.end_a ≡ at from) (b-is : g.end_b ≡ at to) where
  pub ends_below : g.K ≤ length from → g.K ≤ length to → g.K ≤ length closed → EndsBelow 64 from to closed g.K
  ends_below hf ht hc = record {
    from_long = hf;
    to_long = ht;
    closed_long = hc;
    from_in = λ l k. omega (arith, formed.end_a_lt l k, ap (λ (f : ℕ → ℕ). f l) a_is);
    to_in = λ l k. omega (arith, formed.end_b_lt l k, ap (λ (f : ℕ → ℕ). f l) b-is);
  }

  pub labels_are : (n : ℕ) → n ≤ g.K → (e : ℕ) → e < g.E
      → at (labels 64 (at from) (at to) (closed_in closed) n) e ≡ at (labels_after g (closed_in closed) n) e
  labels_are n h e k =
      rw (← a_is, ← b-is)
      (labels_wider g.E 64 small g.end_a g.end_b (closed_in closed) n
      (λ l b. (formed.end_a_lt l (omega arith), formed.end_b_lt l (omega arith))) e k)

  pub label_is : (e : ℕ) → e < g.E → at (parts_of from to closed g.K).label e ≡ label g (closed_in closed) e
  unfolding parts_of label
  label_is e k = labels_are g.K (omega arith) e k

  -- a mark stands where a link from there closes a loop
  pub looped_is : (x : ℕ) → x < 64
      → eqb (at (parts_of from to closed g.K).looped x) 1 ≡ any_to g.K (λ l. loop_at g (closed_in closed) l && eqb (g.end_a l) x)
  unfolding loop_at
  looped_is x h = looped_mark from to closed g.K x h ∙ any_to_ext g.K _ _ (λ l k. each l k)
    where
      each : (l : ℕ) → l < g.K
          → ((closed_in closed l && eqb (at (labels 64 (at from) (at to) (closed_in closed) l) (at from l))
          (at (labels 64 (at from) (at to) (closed_in closed) l) (at to l))) && eqb (at from l) x)
          ≡ ((closed_in closed l && eqb (at (labels_after g (closed_in closed) l) (g.end_a l)) (at (labels_after g (closed_in closed) l) (g.end_b l)))
          && eqb (g.end_a l) x)
      each l k =
          let fa : at from l ≡ g.end_a l = ap (λ (f : ℕ → ℕ). f l) (sym a_is) in
          let tb : at to l ≡ g.end_b l = ap (λ (f : ℕ → ℕ). f l) (sym b-is) in
          let p = labels_are l (omega arith) (g.end_a l) (formed.end_a_lt l k) in
          let q = labels_are l (omega arith) (g.end_b l) (formed.end_b_lt l k) in
          rw (fa, tb, p, q)

  -- the part of e has a marked element below E exactly where it has a link that closes a loop
  pub looped_part : (e : ℕ) → e < g.E
      → ltb (at (last_of_part (parts_of from to closed g.K).label (parts_of from to closed g.K).looped g.E)
      (at (parts_of from to closed g.K).label e)) 64
      ≡ looped? g (closed_in closed) e
  unfolding looped? joined?
  looped_part e k =
      last_live lab loo g.E (at lab e) small (label_below from to closed g.K e) ∙ same_test (any_to g.E is_in) (any_to g.K linked) there back
    where
      lab : List ℕ
      lab = (parts_of from to closed g.K).label

      loo : List ℕ
      loo = (parts_of from to closed g.K).looped

      is_in : ℕ → Bool
      is_in x = eqb (at loo x) 1 && eqb (at lab x) (at lab e)

      linked : ℕ → Bool
      linked l = loop_at g (closed_in closed) l && eqb (label g (closed_in closed) (g.end_a l)) (label g (closed_in closed) e)

      there : any_to g.E is_in ≡ true → any_to g.K linked ≡ true
      there h =
          let r = any_to_out g.E is_in h in
          let x = r.0 in
          let on : eqb (at loo x) 1 ≡ true = and_left (eqb (at loo x) 1) _ r.2 in
          let here : at lab x ≡ at lab e = eqb-true _ _ (and_right (eqb (at loo x) 1) _ r.2) in
          let q = any_to_out g.K (λ l. loop_at g (closed_in closed) l && eqb (g.end_a l) x) (sym (looped_is x (omega (arith, r.1))) ∙ on) in
          let l = q.0 in
          let from-x : g.end_a l ≡ x = eqb-true _ _ (and_right (loop_at g (closed_in closed) l) _ q.2) in
          let alike : label g (closed_in closed) (g.end_a l) ≡ label g (closed_in closed) e =
          ap (label g (closed_in closed)) from-x ∙ sym (label_is x r.1) ∙ here ∙ label_is e k in
          any_to_in g.K linked l q.1
          (and_both (loop_at g (closed_in closed) l) _ (and_left (loop_at g (closed_in closed) l) _ q.2) (eq-eqb _ _ alike))

      back : any_to g.K linked ≡ true → any_to g.E is_in ≡ true
      back h =
          let r = any_to_out g.K linked h in
          let l = r.0 in
          let x = g.end_a l in
          let low : x < g.E = formed.end_a_lt l r.1 in
          let loop : loop_at g (closed_in closed) l ≡ true = and_left (loop_at g (closed_in closed) l) _ r.2 in
          let alike : label g (closed_in closed) x ≡ label g (closed_in closed) e = eqb-true _ _ (and_right (loop_at g (closed_in closed) l) _ r.2) in
          let on : eqb (at loo x) 1 ≡ true =
          looped_is x (omega arith)
          ∙ any_to_in g.K (λ l. loop_at g (closed_in closed) l && eqb (g.end_a l) x) l r.1 (and_both _ _ loop (eq-eqb x x refl)) in
          any_to_in g.E is_in x low (and_both (eqb (at loo x) 1) _ on (eq-eqb _ _ (label_is x low ∙ alike ∙ sym (label_is e k))))

module _ (E K : ℕ) (load capacity flags from to closed : List ℕ) (formed : Formed (grid_of E K load capacity flags from to)) (small : E ≤ 64) where
  pub grid_ends : K ≤ length from → K ≤ length to → K ≤ length closed → EndsBelow 64 from to closed K
  unfolding grid_of
  grid_ends hf ht hc = ends_below from to closed (grid_of E K load capacity flags from to) formed small refl refl hf ht hc

  pub grid_label : (e : ℕ) → e < E → at (parts_of from to closed K).label e ≡ label (grid_of E K load capacity flags from to) (closed_in closed) e
  unfolding grid_of
  grid_label e k = label_is from to closed (grid_of E K load capacity flags from to) formed small refl refl e k

  pub grid_looped : (x : ℕ) → x < 64
      → eqb (at (parts_of from to closed K).looped x) 1
      ≡ any_to K (λ l. loop_at (grid_of E K load capacity flags from to) (closed_in closed) l && eqb (at from l) x)
  unfolding grid_of
  grid_looped x h = looped_is from to closed (grid_of E K load capacity flags from to) formed small refl refl x h

  pub grid_looped_part : (e : ℕ) → e < E
      → ltb (at (last_of_part (parts_of from to closed K).label (parts_of from to closed K).looped E) (at (parts_of from to closed K).label e)) 64
      ≡ looped? (grid_of E K load capacity flags from to) (closed_in closed) e
  unfolding grid_of
  grid_looped_part e k = looped_part from to closed (grid_of E K load capacity flags from to) formed small refl refl e k

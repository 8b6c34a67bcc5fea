-- An element that hangs by one link can be lumped with the one it hangs from: its load becomes part of that one's own, its link is left out, and
-- the walks find the same loads and the same overloads. By induction on the depth of the walk, which is enough by the room ahead.
-- Assumes nothing.
use Prim.Native.Nat.{ℕ, zero, suc, ◌+◌, ◌*◌, ◌≤◌, ◌<◌, min}
use mathlib.Core.Path.{◌≡◌, refl, sym, ap, ap₂, ◌∙◌, subst}
use mathlib.Core.Bool.{Bool, true, false, false≢true}
use mathlib.Core.Logic.{◌⊎◌, inl, inr}
use lib.Dec.{eqb}
use borrow.Author.Tests.{eqb-true, eqb-false, eq-eqb, lt-ltb, not-true}
use native.Mathlib.Omega.{arith}
use Rattle.feeding.specs.Below.{sum_to, least_to, gate}
use Rattle.feeding.specs.Loads.{leads, element_load, link_load, above, element_over, link_over, lowest_over}
use Rattle.feeding.specs.Networks.{Grid, Formed}
use Rattle.feeding.specs.Parts.{Config, touches, far, sound?}
use Rattle.feeding.proofs.Below.{or_else, same_test, not_in}
use Rattle.feeding.proofs.Forest.{Bridges}
use Rattle.feeding.proofs.Joins.{Spans, spans_far, spans_sym, spans_is_far, spans_touches}
use Rattle.feeding.proofs.Labels.{far_lt}
use Rattle.feeding.proofs.Lows.{least_to_ext, least_to_gap, least_to_no}
use Rattle.feeding.proofs.Margins.{le_borne}
use Rattle.feeding.proofs.Sums.{sum_to_ext, sum_to_add, sum_to_at, sum_to_zero}
use Rattle.feeding.proofs.Walk.{Came, start, came_on, leads_on, leads_touches, leads_ne, leads_in, spans_either}
use Rattle.feeding.proofs.Walk.{room, room_le, room_shrinks, room_pos}

-- the grid with other loads
unfoldable pub loaded : Grid → (ℕ → ℕ) → Grid
loaded g f =
    record {
      E = g.E;
      K = g.K;
      load = f;
      capacity = g.capacity;
      source = g.source;
      faulty = g.faulty;
      end_a = g.end_a;
      end_b = g.end_b;
    }

-- in the configuration c the element f hangs from p by the link l alone
pub record Hangs (g : Grid) (c : Config) (f l p : ℕ) : Type 0 where
  pub below : l < g.K
  pub on : c l ≡ true
  pub touch : touches g l f ≡ true
  pub far_is : far g l f ≡ p
  pub only : (m : ℕ) → m < g.K → c m ≡ true → touches g m f ≡ true → m ≡ l

or_else_ext : (z : ℕ) (b : Bool) (x y : ℕ) → (b ≡ true → x ≡ y) → or_else z b x ≡ or_else z b y
or_else_ext z true x y h = h refl
or_else_ext z false x y h = refl

or_else_same_lem : (z : ℕ) (b : Bool) → or_else z b z ≡ z
or_else_same_lem z true = refl
or_else_same_lem z false = refl

-- ---- walks over the grid with the loads w, in the words of the grid itself

module _ (g : Grid) (w : ℕ → ℕ) (c : Config) where
  load_turn : (d e via : ℕ) → element_load (loaded g w) c (suc d) e via
      ≡ w e + sum_to g.K (λ m. gate (leads g c e via m) (link_load (loaded g w) c d m e))
  unfolding loaded element_load leads touches
  load_turn d e via = refl

  over_turn : (d e via : ℕ) → element_over (loaded g w) c (suc d) e via
      ≡ min (above g e (element_load (loaded g w) c (suc d) e via))
      (least_to g.K g.E (λ m. or_else g.E (leads g c e via m) (link_over (loaded g w) c d m e)))
  unfolding loaded element_over above leads touches
  over_turn d e via = refl

  load_link : (d m e : ℕ) → link_load (loaded g w) c (suc d) m e ≡ element_load (loaded g w) c d (far g m e) m
  unfolding loaded link_load far
  load_link d m e = refl

  over_link : (d m e : ℕ) → link_over (loaded g w) c (suc d) m e ≡ element_over (loaded g w) c d (far g m e) m
  unfolding loaded link_over far
  over_link d m e = refl

  load_none : (e via : ℕ) → element_load (loaded g w) c zero e via ≡ w e
  unfolding loaded element_load
  load_none e via = refl

  over_none : (e via : ℕ) → element_over (loaded g w) c zero e via ≡ above g e (w e)
  unfolding loaded element_over element_load above
  over_none e via = refl

  low_turn : lowest_over (loaded g w) c ≡ least_to g.E g.E (λ s. or_else g.E (sound? g s) (element_over (loaded g w) c (2 * g.E) s g.K))
  unfolding loaded lowest_over sound?
  low_turn = refl

above_fits : (g : Grid) (e x : ℕ) → x ≤ g.capacity e → above g e x ≡ g.E
unfolding above
above_fits g e x h = rw (le_borne (g.capacity e) x h, above)

-- ---- the element f at the end of the link l

module _ (g : Grid) (f l p : ℕ) (c : Config) (hangs : Hangs g c f l p) where
  spans : Spans g l f p
  spans = subst (λ (x : ℕ). Spans g l f x) hangs.far_is (spans_far g l f hangs.touch)

  -- no link leads on from f
  ends : (m : ℕ) → m < g.K → leads g c f l m ≡ false
  ends m k = not-true _ (not_in _ (λ h.
      leads_ne g c f l m h (hangs.only m k (leads_on g c f l m h) (leads_touches g c f l m h))))

  -- so a walk that comes to f finds its own load there, at any depth, and no overload where that fits
  spur_load : (w : ℕ → ℕ) (d : ℕ) → element_load (loaded g w) c d f l ≡ w f
  spur_load w zero = load_none g w c f l
  spur_load w (suc d) = omega (
    arith,
    load_turn g w c d f l,
    sum_to_zero g.K (λ m. gate (leads g c f l m) (link_load (loaded g w) c d m f)) (λ m k. rw (ends m k)),
  )

  spur_over : (w : ℕ → ℕ) (d : ℕ) → w f ≤ g.capacity f → element_over (loaded g w) c d f l ≡ g.E
  spur_over w zero h = over_none g w c f l ∙ above_fits g f (w f) h
  spur_over w (suc d) h = omega (
    arith,
    over_turn g w c d f l,
    above_fits g f (element_load (loaded g w) c (suc d) f l) (omega (arith, spur_load w (suc d))),
    least_to_gap g.E beyond 0 g.K (omega arith) (λ m _ k. omega (arith, none m k)),
    least_to_no g.E beyond,
  )
    where
      beyond : ℕ → ℕ
      beyond m = or_else g.E (leads g c f l m) (link_over (loaded g w) c d m f)

      none : (m : ℕ) → m < g.K → beyond m ≡ g.E
      none m k = ap (λ (t : Bool). or_else g.E t (link_over (loaded g w) c d m f)) (ends m k)

  -- from elsewhere the link l leads on exactly where f hangs
  leads_spur : (e via : ℕ) → (e ≡ f → ⊥) → (via ≡ l → ⊥) → leads g c e via l ≡ eqb e p
  leads_spur e via n v = same_test _ _ (λ h. eq-eqb e p (pick (spans_either g l e f p (leads_touches g c e via l h) spans)))
      (λ h. leads_in g c e via l hangs.on
      (subst (λ (x : ℕ). touches g l x ≡ true) (sym (eqb-true e p h)) (spans_touches g l p f (spans_sym spans))) (λ q. v (sym q)))
    where
      pick : (e ≡ f) ⊎ (e ≡ p) → e ≡ p
      pick (inl q) = absurd (n q)
      pick (inr q) = q

  -- and then it leads to f
  leads_to : (e : ℕ) → eqb e p ≡ true → far g l e ≡ f
  leads_to e h = ap (far g l) (eqb-true e p h) ∙ spans_is_far g l p f (spans_sym spans)

  -- what the link l carries, and what is found over it
  link_load_lem : (w : ℕ → ℕ) (d e : ℕ) → eqb e p ≡ true → link_load (loaded g w) c (suc d) l e ≡ w f
  link_load_lem w d e h = load_link g w c d l e ∙ ap (λ (x : ℕ). element_load (loaded g w) c d x l) (leads_to e h) ∙ spur_load w d

  link_over_lem : (w : ℕ → ℕ) (d e : ℕ) → w f ≤ g.capacity f → eqb e p ≡ true → link_over (loaded g w) c (suc d) l e ≡ g.E
  link_over_lem w d e k h = over_link g w c d l e ∙ ap (λ (x : ℕ). element_over (loaded g w) c d x l) (leads_to e h) ∙ spur_over w d k

  -- no other link leads to f
  far_off : (e via m : ℕ) → m < g.K → (m ≡ l → ⊥) → leads g c e via m ≡ true → far g m e ≡ f → ⊥
  far_off e via m k n h q = n (hangs.only m k (leads_on g c e via m h) (subst (λ (x : ℕ). touches g m x ≡ true) q
      (spans_touches g m _ _ (spans_sym (spans_far g m e (leads_touches g c e via m h))))))

-- ---- the two walks

module _ (g : Grid) (formed : Formed g) (whole : Config) (bridges : Bridges g whole)
    (f l p : ℕ) (c c' : Config) (load load' : ℕ → ℕ)
    (in_whole : (m : ℕ) → m < g.K → c m ≡ true → whole m ≡ true)
    (hangs : Hangs g c f l p)
    (off : c' l ≡ false) (same : (m : ℕ) → m < g.K → (m ≡ l → ⊥) → c' m ≡ c m)
    (lumped : (e : ℕ) → e < g.E → (e ≡ f → ⊥) → load' e ≡ load e + gate (eqb e p) (load f))
    (fits : load f ≤ g.capacity f) where
  leads_same : (e via m : ℕ) → m < g.K → (m ≡ l → ⊥) → leads g c' e via m ≡ leads g c e via m
  unfolding leads
  leads_same e via m k n = rw (same m k n)

  leads_off : (e via : ℕ) → leads g c' e via l ≡ false
  unfolding leads
  leads_off e via = rw off

  -- over another link both walks go on or neither does
  besides_spur : (z e via m x y : ℕ) → m < g.K → (m ≡ l → ⊥) → (leads g c e via m ≡ true → x ≡ y)
      → or_else z (leads g c' e via m) x ≡ or_else z (leads g c e via m) y
  besides_spur z e via m x y k n h = ap (λ (t : Bool). or_else z t x) (leads_same e via m k n) ∙ or_else_ext z (leads g c e via m) x y h

  -- both walks reach e with depth enough left, and not over the link l
  record Reached (d e via : ℕ) : Type 0 where
    inside : e < g.E
    other : e ≡ f → ⊥
    besides : via ≡ l → ⊥
    came : Came g whole e via
    enough : 2 * room g whole e via ≤ d

  -- that takes a depth of 2 at least
  reached_deep : {A : Type 0} (d e via : ℕ) → d < 2 → Reached d e via → A
  reached_deep d e via h r = absurd (omega (arith, r.enough, room_pos g formed whole e via r.inside))

  reached_on : (d e via m : ℕ) → m < g.K → (m ≡ l → ⊥) → leads g c e via m ≡ true → Reached (suc (suc d)) e via → Reached d (far g m e) m
  reached_on d e via m k n h r = record {
    inside = far_lt g formed m e k;
    other = far_off g f l p c hangs e via m k n h;
    besides = n;
    came = came_on g whole e via m k on;
    enough = omega (arith, r.enough, room_shrinks g formed whole bridges e via m r.inside r.came k on);
  }
    where
      on : leads g whole e via m ≡ true
      on = leads_in g whole e via m (in_whole m k (leads_on g c e via m h)) (leads_touches g c e via m h) (leads_ne g c e via m h)

  -- the loads: the link l brought e what is now part of its own load
  same_loads : (d e via : ℕ) → Reached d e via → element_load (loaded g load') c' d e via ≡ element_load (loaded g load) c d e via
  same_loads zero e via r = reached_deep zero e via (omega arith) r
  same_loads (suc zero) e via r = reached_deep 1 e via (omega arith) r
  same_loads (suc (suc d)) e via r = go (λ m k n h. same_loads d (far g m e) m (reached_on d e via m k n h r))
    where
      old : ℕ → ℕ
      old m = gate (leads g c e via m) (link_load (loaded g load) c (suc d) m e)

      new : ℕ → ℕ
      new m = gate (leads g c' e via m) (link_load (loaded g load') c' (suc d) m e)

      extra : ℕ
      extra = gate (eqb e p) (load f)

      Before : Type 0
      Before = (m : ℕ) → m < g.K → (m ≡ l → ⊥) → leads g c e via m ≡ true
          → element_load (loaded g load') c' d (far g m e) m ≡ element_load (loaded g load) c d (far g m e) m

      at_spur : old l ≡ new l + extra
      at_spur = omega (
        arith,
        ap (λ (t : Bool). gate t (link_load (loaded g load') c' (suc d) l e)) (leads_off e via),
        ap (λ (t : Bool). gate t (link_load (loaded g load) c (suc d) l e)) (leads_spur g f l p c hangs e via r.other r.besides),
        or_else_ext zero (eqb e p) _ _ (link_load_lem g f l p c hangs load d e),
      )

      term : Before → (m : ℕ) → m < g.K → (t : Bool) → eqb m l ≡ t → old m ≡ new m + gate t extra
      term ih m k true t = rw (eqb-true m l t) at_spur
      term ih m k false t = omega (
        arith,
        besides_spur zero e via m _ _ k n (λ h.
            load_link g load' c' d m e ∙ ih m k n h ∙ sym (load_link g load c d m e)),
      )
        where
          n : m ≡ l → ⊥
          n = eqb-false m l t

      go : Before → element_load (loaded g load') c' (suc (suc d)) e via ≡ element_load (loaded g load) c (suc (suc d)) e via
      go ih = omega (
        arith,
        load_turn g load' c' (suc d) e via,
        load_turn g load c (suc d) e via,
        lumped e r.inside r.other,
        sum_to_ext g.K old (λ m. new m + gate (eqb m l) extra) (λ m k. term ih m k (eqb m l) refl),
        sum_to_add g.K new (λ m. gate (eqb m l) extra),
        sum_to_at (λ _. extra) l g.K,
        ap (λ (t : Bool). gate t extra) (lt-ltb l g.K hangs.below),
      )

  -- the overloads: each walk sees the same loads, and f is not overloaded
  same_overs : (d e via : ℕ) → Reached d e via → element_over (loaded g load') c' d e via ≡ element_over (loaded g load) c d e via
  same_overs zero e via r = reached_deep zero e via (omega arith) r
  same_overs (suc zero) e via r = reached_deep 1 e via (omega arith) r
  same_overs (suc (suc d)) e via r = go (λ m k n h. same_overs d (far g m e) m (reached_on d e via m k n h r))
    where
      old : ℕ → ℕ
      old m = or_else g.E (leads g c e via m) (link_over (loaded g load) c (suc d) m e)

      new : ℕ → ℕ
      new m = or_else g.E (leads g c' e via m) (link_over (loaded g load') c' (suc d) m e)

      Before : Type 0
      Before = (m : ℕ) → m < g.K → (m ≡ l → ⊥) → leads g c e via m ≡ true
          → element_over (loaded g load') c' d (far g m e) m ≡ element_over (loaded g load) c d (far g m e) m

      -- where the link l leads on, nothing is overloaded beyond it
      at_spur : new l ≡ old l
      at_spur = omega (
        arith,
        ap (λ (t : Bool). or_else g.E t (link_over (loaded g load') c' (suc d) l e)) (leads_off e via),
        ap (λ (t : Bool). or_else g.E t (link_over (loaded g load) c (suc d) l e)) (leads_spur g f l p c hangs e via r.other r.besides),
        or_else_ext g.E (eqb e p) _ _ (link_over_lem g f l p c hangs load d e fits),
        or_else_same_lem g.E (eqb e p),
      )

      term : Before → (m : ℕ) → m < g.K → (t : Bool) → eqb m l ≡ t → new m ≡ old m
      term ih m k true t = rw (eqb-true m l t) at_spur
      term ih m k false t = besides_spur g.E e via m _ _ k n (λ h.
          over_link g load' c' d m e ∙ ih m k n h ∙ sym (over_link g load c d m e))
        where
          n : m ≡ l → ⊥
          n = eqb-false m l t

      go : Before → element_over (loaded g load') c' (suc (suc d)) e via ≡ element_over (loaded g load) c (suc (suc d)) e via
      go ih = over_turn g load' c' (suc d) e via
          ∙ ap₂ min (ap (above g e) (same_loads (suc (suc d)) e via r)) (least_to_ext g.K g.E new old (λ m k. term ih m k (eqb m l) refl))
          ∙ sym (over_turn g load c (suc d) e via)

  same_lowest : sound? g f ≡ false → lowest_over (loaded g load') c' ≡ lowest_over (loaded g load) c
  same_lowest dark = low_turn g load' c' ∙ least_to_ext g.E g.E _ _ (λ s k. or_else_ext g.E (sound? g s) _ _ (λ h.
      same_overs (2 * g.E) s g.K (reached s k h)))
      ∙ sym (low_turn g load c)
    where
      reached : (s : ℕ) → s < g.E → sound? g s ≡ true → Reached (2 * g.E) s g.K
      reached s k h = record {
        inside = k;
        other = λ q. false≢true (sym dark ∙ ap (sound? g) (sym q) ∙ h);
        besides = λ q. omega (arith, q, hangs.below);
        came = start refl;
        enough = omega (arith, room_le g whole s g.K);
      }

module _ (g : Grid) (formed : Formed g) (whole : Config) (bridges : Bridges g whole) where
  pub spur_same : (f l p : ℕ) (c c' : Config) (load load' : ℕ → ℕ)
      → ((m : ℕ) → m < g.K → c m ≡ true → whole m ≡ true)
      → Hangs g c f l p
      → c' l ≡ false → ((m : ℕ) → m < g.K → (m ≡ l → ⊥) → c' m ≡ c m)
      → ((e : ℕ) → e < g.E → (e ≡ f → ⊥) → load' e ≡ load e + gate (eqb e p) (load f))
      → load f ≤ g.capacity f
      → sound? g f ≡ false
      → lowest_over (loaded g load') c' ≡ lowest_over (loaded g load) c
  spur_same f l p c c' load load' in_whole hangs off same lumped fits dark =
      same_lowest g formed whole bridges f l p c c' load load' in_whole hangs off same lumped fits dark

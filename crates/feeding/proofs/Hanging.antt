-- In a tree the load at an element is the sum of the own loads of what hangs below it: over the links that lead on, the parts ahead are disjoint.
-- Assumes nothing.
use Prim.Native.Nat.{ℕ, zero, suc, ◌+◌, ◌*◌, ◌≤◌, ◌<◌}
use mathlib.Core.Path.{◌≡◌, refl, sym, ap, ◌∙◌, subst}
use mathlib.Core.Logic.{◌⊎◌, inl, inr}
use mathlib.Core.Bool.{Bool, true, false, not, ◌&&◌, false≢true}
use lib.Dec.{eqb}
use borrow.Author.Tests.{eqb-true, eqb-false, lt-ltb}
use native.Mathlib.Nat.{zero-add}
use native.Mathlib.Omega.{arith}
use Rattle.feeding.specs.Below.{sum_to, gate}
use Rattle.feeding.specs.Loads.{leads, Fed, element_load, link_load, load_at}
use Rattle.feeding.specs.Networks.{Grid, Formed}
use Rattle.feeding.specs.Parts.{Config, Joined, here, over, touches, far, joined?}
use Rattle.feeding.specs.Restoration.{total_load}
use Rattle.feeding.specs.Safety.{without, Safe}
use Rattle.feeding.proofs.Below.{gate_ext, gate_mono, and_left, and_right, and_both, not_out, gate_le}
use Rattle.feeding.proofs.Forest.{Bridges, safe_bridges, without_on, without_ne, without_in}
use Rattle.feeding.proofs.Joins.{spans_far, joined_sym, joined_trans}
use Rattle.feeding.proofs.Labels.{joined?_sound, joined?_complete, far_lt}
use Rattle.feeding.proofs.Load.{same_load, load_equation, fed_in, fed_came}
use Rattle.feeding.proofs.Opening.{joined_mono}
use Rattle.feeding.proofs.Sums.{sum_to_add, sum_to_at, sum_to_ext, sum_to_mono, sum_to_zero, sum_to_only, sum_to_swap, gate_sum}
use Rattle.feeding.proofs.Walk.{Came, by, came_on, leads_touches, leads_on, leads_in, spans_either}
use Rattle.feeding.proofs.Walk.{apart, ahead, room, room_le, room_shrinks, room_pos}

-- ---- what lies ahead of e is e itself, or lies ahead of a link that leads on

-- the configuration with the links of e open
unfoldable off : Grid → ℕ → Config → Config
off g e c m = c m && not (touches g m e)

off_in : (g : Grid) (e : ℕ) (c : Config) (m : ℕ) → c m ≡ true → touches g m e ≡ false → off g e c m ≡ true
unfolding off
off_in g e c m h t = and_both (c m) _ h (ap not t)

off_on : (g : Grid) (e : ℕ) (c : Config) (m : ℕ) → off g e c m ≡ true → c m ≡ true
unfolding off
off_on g e c m h = and_left (c m) _ h

off_not : (g : Grid) (e : ℕ) (c : Config) (m : ℕ) → off g e c m ≡ true → touches g m e ≡ true → ⊥
unfolding off
off_not g e c m h = not_out (touches g m e) (and_right (c m) _ h)

-- a path from a on which nothing leads away from a
stays : (g : Grid) (c : Config) {x a : ℕ} → ((m : ℕ) → c m ≡ true → touches g m a ≡ true → ⊥) → Joined g c x a → x ≡ a
stays g c n here = refl
stays g c n (over l k h t j) = absurd (n l h t)

-- a link that leads on from e, with x ahead of it
record Next (g : Grid) (c : Config) (e via x : ℕ) : Type 0 where
  link : ℕ
  below : link < g.K
  leading : leads g c e via link ≡ true
  onward : Joined g (off g e c) x (far g link e)

-- a path from a to x that keeps off e, or ends at e, or leaves e for the last time
data Way (g : Grid) (c : Config) (e via x a : ℕ) : Type 0 where
  clear : Joined g (off g e c) x a → Way g c e via x a
  ends : x ≡ e → Way g c e via x a
  leaves : Next g c e via x → Way g c e via x a

way : (g : Grid) (c : Config) (e via : ℕ) {x a : ℕ} → Joined g (without c via) x a → Way g c e via x a
way g c e via here = clear here
way g c e via {x} (over {a = a} m k h t j) = go (way g c e via j)
  where
    from_e : a ≡ e → Joined g (off g e c) x (far g m a) → Next g c e via x
    from_e q i = record {
      link = m;
      below = k;
      leading = leads_in g c e via m (without_on c via m h) (subst (λ z. touches g m z ≡ true) q t) (without_ne c via m h);
      onward = subst (λ z. Joined g (off g e c) x (far g m z)) q i;
    }

    back_to_e : (a ≡ e → ⊥) → touches g m e ≡ true → Joined g (off g e c) x (far g m a) → x ≡ e
    back_to_e n te i = end (spans_either g m e a (far g m a) te (spans_far g m a t))
      where
        end : (e ≡ a) ⊎ (e ≡ far g m a) → x ≡ e
        end (inl q) = absurd (n (sym q))
        end (inr q) = stays g (off g e c) (off_not g e c) (subst (λ z. Joined g (off g e c) x z) (sym q) i)

    past : (a ≡ e → ⊥) → Joined g (off g e c) x (far g m a) → (u : Bool) → touches g m e ≡ u → Way g c e via x a
    past n i true u = ends (back_to_e n u i)
    past n i false u = clear (over m k (off_in g e c m (without_on c via m h) u) t i)

    decide : Joined g (off g e c) x (far g m a) → (b : Bool) → eqb a e ≡ b → Way g c e via x a
    decide i true b = leaves (from_e (eqb-true a e b) i)
    decide i false b = past (eqb-false a e b) i (touches g m e) refl

    go : Way g c e via x (far g m a) → Way g c e via x a
    go (ends q) = ends q
    go (leaves n) = leaves n
    go (clear i) = decide i (eqb a e) refl

first_link : (g : Grid) (c : Config) (e via x : ℕ) → Joined g (without c via) x e → (x ≡ e) ⊎ Next g c e via x
first_link g c e via x j = go (way g c e via j)
  where
    go : Way g c e via x e → (x ≡ e) ⊎ Next g c e via x
    go (clear i) = inl (stays g (off g e c) (off_not g e c) i)
    go (ends q) = inl q
    go (leaves n) = inr n

-- ---- a value under two conditions

gates_shut : (a b : Bool) (x : ℕ) → (a ≡ true → b ≡ true → ⊥) → gate a (gate b x) ≡ 0
gates_shut true true x h = absurd (h refl refl)
gates_shut true false x h = refl
gates_shut false b x h = refl

gates_open : (a b : Bool) (x : ℕ) → a ≡ true → b ≡ true → gate a (gate b x) ≡ x
gates_open true true x p q = refl
gates_open true false x p q = absurd (false≢true q)
gates_open false b x p q = absurd (false≢true p)

-- ---- a greater depth gives no smaller load

module _ (g : Grid) (c : Config) where
  mutual
    unfolding element_load link_load

    element_load_deeper : (d d' e via : ℕ) → d ≤ d' → element_load g c d e via ≤ element_load g c d' e via
    element_load_deeper zero zero e via h = omega arith
    element_load_deeper zero (suc d') e via h = omega arith
    element_load_deeper (suc d) zero e via h = absurd (omega arith)
    element_load_deeper (suc d) (suc d') e via h = omega (
      arith,
      sum_to_mono g.K _ _ (λ l k. gate_mono (leads g c e via l) (leads g c e via l) (link_load g c d l e) (link_load g c d' l e) (λ p. p)
          (link_load_deeper d d' l e (omega arith))),
    )

    link_load_deeper : (d d' l e : ℕ) → d ≤ d' → link_load g c d l e ≤ link_load g c d' l e
    link_load_deeper zero d' l e h = omega arith
    link_load_deeper (suc d) zero l e h = absurd (omega arith)
    link_load_deeper (suc d) (suc d') l e h = element_load_deeper d d' (far g l e) l (omega arith)

-- ---- the sum

module _ (g : Grid) (formed : Formed g) (c : Config) (bridges : Bridges g c) where
  -- what lies ahead of a link that leads on from e does not hold e
  never_back : (e via l : ℕ) → e < g.E → l < g.K → leads g c e via l ≡ true → joined? g (without c l) e (far g l e) ≡ true → ⊥
  never_back e via l k kl p q = apart g c bridges l e (far g l e) kl (leads_on g c e via l p) (spans_far g l e (leads_touches g c e via l p))
      (joined?_sound g formed (without c l) e (far g l e) k (far_lt g formed l e kl) q)

  -- and two such links have nothing in common
  disjoint : (e via l m x : ℕ) → l < g.K → m < g.K → leads g c e via l ≡ true → leads g c e via m ≡ true → (m ≡ l → ⊥)
      → Joined g (without c l) x (far g l e) → Joined g (without c m) x (far g m e) → ⊥
  disjoint e via l m x kl km p q n i j = apart g c bridges l e (far g l e) kl (leads_on g c e via l p) (spans_far g l e (leads_touches g c e via l p))
      (joined_trans g _ i (joined_sym g _ (ahead g c bridges e l m x (by kl (leads_on g c e via l p) (leads_touches g c e via l p)) km
      (leads_in g c e l m (leads_on g c e via m q) (leads_touches g c e via m q) n) j)))

  -- so the own load of x counts once, where x lies ahead
  share : (e via x : ℕ) → e < g.E → Came g c e via → x < g.E
      → gate (eqb x e) (g.load x) + sum_to g.K (λ l. gate (leads g c e via l) (gate (joined? g (without c l) x (far g l e)) (g.load x)))
      ≡ gate (joined? g (without c via) x e) (g.load x)
  share e via x k came kx = go (joined? g (without c via) x e) refl (eqb x e) refl
    where
      term : ℕ → ℕ
      term l = gate (leads g c e via l) (gate (joined? g (without c l) x (far g l e)) (g.load x))

      sound_on : (l : ℕ) → l < g.K → leads g c e via l ≡ true → joined? g (without c l) x (far g l e) ≡ true → Joined g (without c l) x (far g l e)
      sound_on l kl p q = joined?_sound g formed (without c l) x (far g l e) kx (far_lt g formed l e kl) q

      none : ((l : ℕ) → l < g.K → leads g c e via l ≡ true → joined? g (without c l) x (far g l e) ≡ true → ⊥) → sum_to g.K term ≡ 0
      none h = sum_to_zero g.K term (λ l kl. gates_shut (leads g c e via l) _ (g.load x) (h l kl))

      one : (x ≡ e → ⊥) → (x ≡ e) ⊎ Next g c e via x → sum_to g.K term ≡ g.load x
      one n (inl q) = absurd (n q)
      one n (inr r) = sum_to_only g.K term r.link r.below
          (λ l kl d. gates_shut (leads g c e via l) _ (g.load x)
          (λ p q. disjoint e via r.link l x r.below kl r.leading p d to_x (sound_on l kl p q)))
          ∙ gates_open (leads g c e via r.link) _ (g.load x) r.leading
          (joined?_complete g formed (without c r.link) x (far g r.link e) to_x)
        where
          to_x : Joined g (without c r.link) x (far g r.link e)
          to_x = joined_mono g (off g e c) (without c r.link)
              (λ m h. without_in c r.link m (off_on g e c m h)
              (λ q. off_not g e c m h (subst (λ z. touches g z e ≡ true) (sym q) (leads_touches g c e via r.link r.leading)))) r.onward

      go : (t : Bool) → joined? g (without c via) x e ≡ t → (u : Bool) → eqb x e ≡ u → gate u (g.load x) + sum_to g.K term ≡ gate t (g.load x)
      go true p true q = omega (
        arith,
        none (λ l kl a b. never_back e via l k kl a (subst (λ z. joined? g (without c l) z (far g l e) ≡ true) (eqb-true x e q) b)),
      )
      go true p false q = zero-add _ ∙ one (eqb-false x e q) (first_link g c e via x (joined?_sound g formed (without c via) x e kx k p))
      go false p true q = absurd (false≢true (sym p ∙ joined?_complete g formed (without c via) x e
          (subst (λ z. Joined g (without c via) z e) (sym (eqb-true x e q)) here)))
      go false p false q = zero-add _ ∙ none (λ l kl a b. false≢true (sym p ∙ joined?_complete g formed (without c via) x e
          (ahead g c bridges e via l x came kl a (sound_on l kl a b))))

  hangs : (r e via : ℕ) → room g c e via ≤ r → e < g.E → Came g c e via
      → load_at g c e via ≡ sum_to g.E (λ x. gate (joined? g (without c via) x e) (g.load x))
  hangs zero e via h k came = absurd (omega (arith, room_pos g formed c e via k))
  hangs (suc r) e via h k came =
      load_equation g formed c bridges e via k came
      ∙ ap (λ z. g.load e + z) (sum_to_ext g.K _ _ (λ l kl. gate_ext (leads g c e via l) _ _ (λ p.
      hangs r (far g l e) l (omega (arith, room_shrinks g formed c bridges e via l k came kl p))
      (far_lt g formed l e kl) (came_on g c e via l kl p))
      ∙ gate_sum (leads g c e via l) g.E (λ x. gate (joined? g (without c l) x (far g l e)) (g.load x))))
      ∙ ap (λ z. g.load e + z) (sum_to_swap g.K g.E terms)
      ∙ ap (λ z. z + sum_to g.E (λ x. sum_to g.K (λ l. terms l x))) own
      ∙ sym (sum_to_add g.E (λ x. gate (eqb x e) (g.load x)) (λ x. sum_to g.K (λ l. terms l x)))
      ∙ sum_to_ext g.E _ _ (λ x kx. share e via x k came kx)
    where
      terms : ℕ → ℕ → ℕ
      terms l x = gate (leads g c e via l) (gate (joined? g (without c l) x (far g l e)) (g.load x))

      own : g.load e ≡ sum_to g.E (λ x. gate (eqb x e) (g.load x))
      own = sym (sum_to_at g.load e g.E ∙ rw (lt-ltb e g.E k))

  -- joined without the link come by: exactly what lies ahead
  pub load_hanging : (e via : ℕ) → e < g.E → Came g c e via
      → load_at g c e via ≡ sum_to g.E (λ x. gate (joined? g (without c via) x e) (g.load x))
  load_hanging e via k came = hangs (room g c e via) e via (omega arith) k came

  pub load_at_most : (e via : ℕ) → e < g.E → Came g c e via → load_at g c e via ≤ total_load g
  unfolding total_load
  load_at_most e via k came = rw (load_hanging e via k came) (sum_to_mono g.E _ _ (λ x kx. gate_le (joined? g (without c via) x e) (g.load x)))

  -- at every depth, so at each that a walk meets
  pub element_at_most : (d e via : ℕ) → e < g.E → Came g c e via → element_load g c d e via ≤ total_load g
  element_at_most d e via k came = omega (
    arith,
    element_load_deeper g c d (d + 2 * g.E) e via (omega arith),
    same_load g formed c bridges (d + 2 * g.E) (2 * g.E) e via k came (omega (arith, room_le g c e via)) (omega (arith, room_le g c e via)),
    load_at_most e via k came,
  )

  pub link_at_most : (d l e via : ℕ) → l < g.K → leads g c e via l ≡ true → link_load g c d l e ≤ total_load g
  unfolding link_load
  link_at_most zero l e via k p = omega arith
  link_at_most (suc d) l e via k p = element_at_most d (far g l e) l (far_lt g formed l e k) (came_on g c e via l k p)

-- the same of a safe configuration
module _ (g : Grid) (formed : Formed g) (c : Config) (safe : Safe g c) {e via : ℕ} (fed : Fed g c e via) where
  pub safe_hanging : load_at g c e via ≡ sum_to g.E (λ x. gate (joined? g (without c via) x e) (g.load x))
  safe_hanging = load_hanging g formed c (safe_bridges g formed c safe.tree) e via (fed_in g c formed fed) (fed_came g c fed)

  pub safe_at_most : load_at g c e via ≤ total_load g
  safe_at_most = load_at_most g formed c (safe_bridges g formed c safe.tree) e via (fed_in g c formed fed) (fed_came g c fed)

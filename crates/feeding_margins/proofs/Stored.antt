-- The list of loads after the walks from all sound sources: at each fed element its load, at the others the mark. What is stored is right, since
-- a walk stores only at fed elements and with depth enough; and every fed element is come to, after which its entry is never the mark again.
-- Assumes nothing.
use mathlib.Core.Path.{◌≡◌, refl, sym, ap, ◌∙◌, subst}
use mathlib.Core.Logic.{◌⊎◌, inl, inr}
use mathlib.Core.Bool.{Bool, true, false}
use mathlib.Core.List.{List}
use Prim.Native.Nat.{ℕ, zero, suc, ◌*◌, ◌<◌, ◌≤◌}
use native.Mathlib.Omega.{arith}
use lib.Dec.{eqb}
use lib.ListN.{length, set, replicate, length-set, length-replicate, get_or-replicate}
use lib.Seq.{get_or-set_same, get_or-set_other}
use borrow.Author.Tests.{eqb-true, eqb-false}
use Rattle.feeding.specs.Networks.{Grid, Formed, at}
use Rattle.feeding.specs.Parts.{Config, far, Sound, Live, sound?}
use Rattle.feeding.specs.Loads.{leads, Fed, at_source, onward, element_load, load_at}
use Rattle.feeding.specs.Restoration.{total_load}
use Rattle.feeding.specs.Safety.{Safe}
use Rattle.feeding.proofs.Forest.{Bridges, safe_bridges}
use Rattle.feeding.proofs.Hanging.{element_at_most, safe_at_most}
use Rattle.feeding.proofs.Labels.{far_lt}
use Rattle.feeding.proofs.Load.{same_load, fed_once, fed_came, fed_in, fed_live}
use Rattle.feeding.proofs.Tests.{sound?_in, sound?_out}
use Rattle.feeding.proofs.Walk.{Came, start, came_on, room, room_le, room_pos, room_shrinks}
use Rattle.feeding_margins.specs.Margins.{unfed, fold_to, element_stored, link_stored, loads_stored, loads_of}

-- ---- a fold, stage by stage

pub fold_none : (f : ℕ → List ℕ → List ℕ) (xs : List ℕ) → fold_to zero f xs ≡ xs
unfolding fold_to
fold_none f xs = refl

pub fold_more : (n : ℕ) (f : ℕ → List ℕ → List ℕ) (xs : List ℕ) → fold_to (suc n) f xs ≡ f n (fold_to n f xs)
unfolding fold_to
fold_more n f xs = refl

pub fold_keeps : (P : List ℕ → Type 0) (n : ℕ) (f : ℕ → List ℕ → List ℕ) (xs : List ℕ) → ((l : ℕ) (ys : List ℕ) → l < n → P ys → P (f l ys)) → P xs
    → P (fold_to n f xs)
unfolding fold_to
fold_keeps P zero f xs h p = p
fold_keeps P (suc n) f xs h p = h n (fold_to n f xs) (omega arith) (fold_keeps P n f xs (λ l ys k. h l ys (omega arith)) p)

-- what the stage i has, the end has, where every stage keeps it
pub fold_stage : (P : List ℕ → Type 0) (n : ℕ) (f : ℕ → List ℕ → List ℕ) (xs : List ℕ) → ((l : ℕ) (ys : List ℕ) → l < n → P ys → P (f l ys))
    → (i : ℕ) → i < n → P (f i (fold_to i f xs)) → P (fold_to n f xs)
unfolding fold_to
fold_stage P zero f xs h i k p = absurd (omega arith)
fold_stage P (suc n) f xs h i k p = go (fold_stage P n f xs (λ l ys b. h l ys (omega arith)) i) (eqb i n) refl
  where
    go : (i < n → P (f i (fold_to i f xs)) → P (fold_to n f xs)) → (t : Bool) → eqb i n ≡ t → P (f n (fold_to n f xs))
    go ih true t = subst (λ (j : ℕ). P (f j (fold_to j f xs))) (eqb-true i n t) p
    go ih false t = h n (fold_to n f xs) (omega arith) (ih (omega (arith, eqb-false i n t)) p)

-- a property of a list, kept where a test picks between a change that keeps it and none
only_keeps : (P : List ℕ → Type 0) (t : Bool) (ys xs : List ℕ) → (t ≡ true → P ys) → P xs → P (elim t [ true ↦ ys | false ↦ xs ])
only_keeps P true ys xs h p = h refl
only_keeps P false ys xs h p = p

-- ---- one entry changed

set_cases : (P : ℕ → Type 0) (xs : List ℕ) (i v x : ℕ) → i < length xs → (x ≡ i → P v) → P (at xs x) → P (at (set xs i v) x)
set_cases P xs i v x k h p = go (eqb x i) refl
  where
    go : (t : Bool) → eqb x i ≡ t → P (at (set xs i v) x)
    go true t = subst P (sym (ap (at (set xs i v)) (eqb-true x i t) ∙ get_or-set_same xs i v 0 k)) (h (eqb-true x i t))
    go false t = subst P (sym (get_or-set_other xs i x v 0 (eqb-false x i t))) p

-- ---- the walk

module _ (g : Grid) (c : Config) where
  -- over the links that lead on from e
  unfoldable pub beyond : (d e via : ℕ) → ℕ → List ℕ → List ℕ
  beyond d e via l ys = elim (leads g c e via l) [ true ↦ link_stored g c d l e ys | false ↦ ys ]

  pub stored_none : (e via : ℕ) (xs : List ℕ) → element_stored g c zero e via xs ≡ set xs e (element_load g c zero e via)
  unfolding element_stored
  stored_none e via xs = refl

  pub stored_more : (d e via : ℕ) (xs : List ℕ)
      → element_stored g c (suc d) e via xs ≡ set (fold_to g.K (beyond d e via) xs) e (element_load g c (suc d) e via)
  unfolding element_stored beyond
  stored_more d e via xs = refl

  pub link_more : (d l e : ℕ) (xs : List ℕ) → link_stored g c (suc d) l e xs ≡ element_stored g c d (far g l e) l xs
  unfolding link_stored
  link_more d l e xs = refl

  pub link_none : (l e : ℕ) (xs : List ℕ) → link_stored g c zero l e xs ≡ xs
  unfolding link_stored
  link_none l e xs = refl

  -- ---- lengths

  beyond_length : (d e via l : ℕ) (ys : List ℕ) → length (link_stored g c d l e ys) ≡ length ys → length (beyond d e via l ys) ≡ length ys
  unfolding beyond
  beyond_length d e via l ys h =
      only_keeps (λ zs. length zs ≡ length ys) (leads g c e via l) (link_stored g c d l e ys) ys (λ _. h) refl

  mutual
    pub element_length : (d e via : ℕ) (xs : List ℕ) → length (element_stored g c d e via xs) ≡ length xs
    element_length zero e via xs = ap length (stored_none e via xs) ∙ length-set xs e _
    element_length (suc d) e via xs =
        ap length (stored_more d e via xs) ∙ length-set (fold_to g.K (beyond d e via) xs) e _
        ∙ fold_keeps (λ ys. length ys ≡ length xs) g.K (beyond d e via) xs (λ l ys _ h. beyond_length d e via l ys (link_length d l e ys) ∙ h) refl

    pub link_length : (d l e : ℕ) (ys : List ℕ) → length (link_stored g c d l e ys) ≡ length ys
    link_length zero l e ys = ap length (link_none l e ys)
    link_length (suc d) l e ys = ap length (link_more d l e ys) ∙ element_length d (far g l e) l ys

  pub loads_length : (m : ℕ → Bool) (xs : List ℕ) → length (loads_stored g c m xs) ≡ length xs
  unfolding loads_stored
  loads_length m xs =
      fold_keeps (λ ys. length ys ≡ length xs) g.E (λ s ys. elim (m s) [ true ↦ element_stored g c (2 * g.E) s g.K ys | false ↦ ys ]) xs
      (λ s ys _ h. only_keeps (λ zs. length zs ≡ length xs) (m s) (element_stored g c (2 * g.E) s g.K ys) ys
      (λ _. element_length (2 * g.E) s g.K ys ∙ h) h) refl

-- ---- what is stored stays

-- the entry of x is a load, and not the mark
abbrev Held : List ℕ → ℕ → Type 0
Held xs x = at xs x ≡ unfed → ⊥

module _ (g : Grid) (formed : Formed g) (c : Config) (bridges : Bridges g c) (small : total_load g < unfed) where
  -- a list that reaches over all elements, and holds what xs holds
  record Keeps (xs ys : List ℕ) : Type 0 where
    long : g.E ≤ length ys
    held : (x : ℕ) → Held xs x → Held ys x

  set_keeps : (d e via : ℕ) → e < g.E → Came g c e via → (xs ys : List ℕ) → Keeps xs ys → Keeps xs (set ys e (element_load g c d e via))
  set_keeps d e via k came xs ys h = record {
    long = omega (arith, length-set ys e (element_load g c d e via), h.long);
    held = λ x p. set_cases (λ v. v ≡ unfed → ⊥) ys e (element_load g c d e via) x (omega (arith, h.long))
        (λ _ q. omega (arith, q, element_at_most g formed c bridges d e via k came)) (h.held x p);
  }

  beyond_keeps : (d e via l : ℕ) (xs ys : List ℕ) → (leads g c e via l ≡ true → Keeps xs (link_stored g c d l e ys)) → Keeps xs ys
      → Keeps xs (beyond g c d e via l ys)
  unfolding beyond
  beyond_keeps d e via l xs ys h p = only_keeps (Keeps xs) (leads g c e via l) (link_stored g c d l e ys) ys h p

  -- the walk from e stores a load at e, and unmarks nothing
  mutual
    element_keeps : (d e via : ℕ) → e < g.E → Came g c e via → (xs ys : List ℕ) → Keeps xs ys → Keeps xs (element_stored g c d e via ys)
    element_keeps zero e via k came xs ys h = subst (Keeps xs) (sym (stored_none g c e via ys)) (set_keeps zero e via k came xs ys h)
    element_keeps (suc d) e via k came xs ys h =
        subst (Keeps xs) (sym (stored_more g c d e via ys)) (set_keeps (suc d) e via k came xs (fold_to g.K (beyond g c d e via) ys)
        (fold_keeps (Keeps xs) g.K (beyond g c d e via) ys (λ l zs kl p. beyond_keeps d e via l xs zs (λ t. link_keeps d l e via kl t xs zs p) p) h))

    link_keeps : (d l e via : ℕ) → l < g.K → leads g c e via l ≡ true → (xs ys : List ℕ) → Keeps xs ys → Keeps xs (link_stored g c d l e ys)
    link_keeps zero l e via k t xs ys h = subst (Keeps xs) (sym (link_none g c l e ys)) h
    link_keeps (suc d) l e via k t xs ys h =
        subst (Keeps xs) (sym (link_more g c d l e ys)) (element_keeps d (far g l e) l (far_lt g formed l e k) (came_on g c e via l k t) xs ys h)

  stored_held : (d e via : ℕ) → e < g.E → Came g c e via → (xs ys : List ℕ) → Keeps xs ys → Held (element_stored g c d e via ys) e
  stored_held d e via k came xs ys h = go d refl
    where
      at_own : (zs : List ℕ) (n : ℕ) → g.E ≤ length zs → Held (set zs e (element_load g c n e via)) e
      at_own zs n long q =
          omega (arith, q, get_or-set_same zs e (element_load g c n e via) 0 (omega arith), element_at_most g formed c bridges n e via k came)

      go : (n : ℕ) → d ≡ n → Held (element_stored g c n e via ys) e
      go zero q = subst (λ zs. Held zs e) (sym (stored_none g c e via ys)) (at_own ys zero h.long)
      go (suc n) q = subst (λ zs. Held zs e) (sym (stored_more g c n e via ys))
          (at_own (fold_to g.K (beyond g c n e via) ys) (suc n)
          (omega (
            arith,
            h.long,
            fold_keeps (λ zs. length zs ≡ length ys) g.K (beyond g c n e via) ys
                (λ l zs _ p. beyond_length g c n e via l zs (link_length g c n l e zs) ∙ p) refl,
          )))

  -- ---- what is stored is right

  -- every entry is the mark, or the load at an element that is fed
  record Right (xs : List ℕ) : Type 0 where
    long : g.E ≤ length xs
    right : (x : ℕ) → x < g.E → (at xs x ≡ unfed) ⊎ ((via : ℕ) × Fed g c x via × (at xs x ≡ load_at g c x via))

  load_is : (d e via : ℕ) → Fed g c e via → 2 * room g c e via ≤ d → element_load g c d e via ≡ load_at g c e via
  load_is d e via f h = same_load g formed c bridges d (2 * g.E) e via (fed_in g c formed f) (fed_came g c f) h (omega (arith, room_le g c e via))

  set_right : (d e via : ℕ) → Fed g c e via → 2 * room g c e via ≤ d → (xs : List ℕ) → Right xs → Right (set xs e (element_load g c d e via))
  set_right d e via f h xs r = record {
    long = omega (arith, length-set xs e (element_load g c d e via), r.long);
    right = λ x k. set_cases (λ v. (v ≡ unfed) ⊎ ((w : ℕ) × Fed g c x w × (v ≡ load_at g c x w))) xs e (element_load g c d e via) x
        (omega (arith, r.long, fed_in g c formed f))
        (λ q. inr (via, subst (λ (y : ℕ). Fed g c y via) (sym q) f, load_is d e via f h ∙ ap (λ (y : ℕ). load_at g c y via) (sym q)))
        (r.right x k);
  }

  beyond_right : (d e via l : ℕ) (ys : List ℕ) → (leads g c e via l ≡ true → Right (link_stored g c d l e ys)) → Right ys → Right (beyond g c d e via l ys)
  unfolding beyond
  beyond_right d e via l ys h p = only_keeps Right (leads g c e via l) (link_stored g c d l e ys) ys h p

  smaller : (e via l : ℕ) → Fed g c e via → l < g.K → leads g c e via l ≡ true → room g c (far g l e) l < room g c e via
  smaller e via l f k p = room_shrinks g formed c bridges e via l (fed_in g c formed f) (fed_came g c f) k p

  element_right : (d e via : ℕ) → Fed g c e via → 2 * room g c e via ≤ d → (xs : List ℕ) → Right xs → Right (element_stored g c d e via xs)
  element_right zero e via f h xs r = absurd (omega (arith, room_pos g formed c e via (fed_in g c formed f)))
  element_right (suc zero) e via f h xs r = absurd (omega (arith, room_pos g formed c e via (fed_in g c formed f)))
  element_right (suc (suc d)) e via f h xs r =
      subst Right (sym (stored_more g c (suc d) e via xs)) (set_right (suc (suc d)) e via f h (fold_to g.K (beyond g c (suc d) e via) xs)
      (fold_keeps Right g.K (beyond g c (suc d) e via) xs
      (λ l ys k p. beyond_right (suc d) e via l ys (λ t. subst Right (sym (link_more g c d l e ys))
      (element_right d (far g l e) l (onward l k t f) (omega (arith, smaller e via l f k t)) ys p)) p) r))

  -- ---- the walks from all sound sources

  from_source : ℕ → List ℕ → List ℕ
  from_source s ys = elim (sound? g s) [ true ↦ element_stored g c (2 * g.E) s g.K ys | false ↦ ys ]

  module _ (xs : List ℕ) (fresh : Right xs) where
    source_keeps : (ys : List ℕ) (s : ℕ) (zs : List ℕ) → s < g.E → Keeps ys zs → Keeps ys (from_source s zs)
    unfolding from_source
    source_keeps ys s zs k p = only_keeps (Keeps ys) (sound? g s) (element_stored g c (2 * g.E) s g.K zs) zs
        (λ _. element_keeps (2 * g.E) s g.K k (start refl) ys zs p) p

    source_right : (s : ℕ) (ys : List ℕ) → s < g.E → Right ys → Right (from_source s ys)
    unfolding from_source
    source_right s ys k p = only_keeps Right (sound? g s) (element_stored g c (2 * g.E) s g.K ys) ys
        (λ t. element_right (2 * g.E) s g.K (at_source (sound?_out g s k t)) (omega (arith, room_le g c s g.K)) ys p) p

    final_right : Right (loads_stored g c (sound? g) xs)
    unfolding loads_stored from_source
    final_right = fold_keeps Right g.E from_source xs source_right fresh

    -- a walk that comes to e by the link via, with depth enough left, and of which the end keeps all
    record Met (e via : ℕ) : Type 0 where
      depth : ℕ
      enough : 2 * room g c e via ≤ depth
      list : List ℕ
      long : g.E ≤ length list
      lasts : Keeps (element_stored g c depth e via list) (loads_stored g c (sound? g) xs)

    keeps_self : (ys : List ℕ) → g.E ≤ length ys → Keeps ys ys
    keeps_self ys h = record { long = h; held = λ x p. p }

    source_on : (s : ℕ) (ys : List ℕ) → sound? g s ≡ true → from_source s ys ≡ element_stored g c (2 * g.E) s g.K ys
    unfolding from_source
    source_on s ys h = ap (λ (t : Bool). elim t [ true ↦ element_stored g c (2 * g.E) s g.K ys | false ↦ ys ]) h

    met_source : (s : ℕ) → Sound g s → Met s g.K
    unfolding loads_stored from_source
    met_source s h = record {
      depth = 2 * g.E;
      enough = omega (arith, room_le g c s g.K);
      list = fold_to s from_source xs;
      long = before.long;
      lasts = fold_stage (Keeps (element_stored g c (2 * g.E) s g.K (fold_to s from_source xs))) g.E from_source xs
          (source_keeps (element_stored g c (2 * g.E) s g.K (fold_to s from_source xs))) s h.below
          (subst (Keeps (element_stored g c (2 * g.E) s g.K (fold_to s from_source xs))) (sym (source_on s (fold_to s from_source xs) (sound?_in g s h)))
          (keeps_self _ (omega (arith, before.long, element_length g c (2 * g.E) s g.K (fold_to s from_source xs)))));
    }
      where
        before : Right (fold_to s from_source xs)
        before = fold_keeps Right s from_source xs (λ t ys k p. source_right t ys (omega (arith, k, h.below)) p) fresh

    beyond_on : (d e via l : ℕ) (ys : List ℕ) → leads g c e via l ≡ true → beyond g c d e via l ys ≡ link_stored g c d l e ys
    unfolding beyond
    beyond_on d e via l ys h = ap (λ (t : Bool). elim t [ true ↦ link_stored g c d l e ys | false ↦ ys ]) h

    keeps_trans : (ys zs ws : List ℕ) → Keeps ys zs → Keeps zs ws → Keeps ys ws
    keeps_trans ys zs ws p q = record { long = q.long; held = λ x h. q.held x (p.held x h) }

    -- from e on over the link l
    met_next : (e via l : ℕ) → Fed g c e via → l < g.K → leads g c e via l ≡ true → (d : ℕ) → 2 * room g c e via ≤ d → (ys : List ℕ)
        → g.E ≤ length ys → Keeps (element_stored g c d e via ys) (loads_stored g c (sound? g) xs) → Met (far g l e) l
    met_next e via l f k t zero h ys long p = absurd (omega (arith, room_pos g formed c e via (fed_in g c formed f)))
    met_next e via l f k t (suc zero) h ys long p = absurd (omega (arith, room_pos g formed c e via (fed_in g c formed f)))
    met_next e via l f k t (suc (suc d)) h ys long p = record {
      depth = d;
      enough = omega (arith, smaller e via l f k t);
      list = stage;
      long = stage_long;
      lasts = keeps_trans next (element_stored g c (suc (suc d)) e via ys) (loads_stored g c (sound? g) xs)
          (subst (Keeps next) (sym (stored_more g c (suc d) e via ys)) (set_keeps (suc (suc d)) e via (fed_in g c formed f) (fed_came g c f) next
          (fold_to g.K (beyond g c (suc d) e via) ys) on)) p;
    }
      where
        stage : List ℕ
        stage = fold_to l (beyond g c (suc d) e via) ys

        next : List ℕ
        next = element_stored g c d (far g l e) l stage

        stage_long : g.E ≤ length stage
        stage_long = omega (
          arith,
          long,
          fold_keeps (λ zs. length zs ≡ length ys) l (beyond g c (suc d) e via) ys
              (λ m zs _ q. beyond_length g c (suc d) e via m zs (link_length g c (suc d) m e zs) ∙ q) refl,
        )

        on : Keeps next (fold_to g.K (beyond g c (suc d) e via) ys)
        on = fold_stage (Keeps next) g.K (beyond g c (suc d) e via) ys
            (λ m zs km q. beyond_keeps (suc d) e via m next zs (λ u. link_keeps (suc d) m e via km u next zs q) q) l k
            (subst (Keeps next) (sym (beyond_on (suc d) e via l stage t ∙ link_more g c d l e stage))
            (keeps_self next (omega (arith, stage_long, element_length g c d (far g l e) l stage))))

    -- every fed element is met
    met : {e via : ℕ} → Fed g c e via → Met e via
    met (at_source {s = s} h) = met_source s h
    met (onward {e = e} {via = v} l k t f) = go (met f)
      where
        go : Met e v → Met (far g l e) l
        go m = met_next e v l f k t m.depth m.enough m.list m.long m.lasts

    final_held : {e via : ℕ} → Fed g c e via → Held (loads_stored g c (sound? g) xs) e
    final_held {e} {via} f = go (met f)
      where
        go : Met e via → Held (loads_stored g c (sound? g) xs) e
        go m = m.lasts.held e
            (stored_held m.depth e via (fed_in g c formed f) (fed_came g c f) m.list m.list (keeps_self m.list m.long))

-- ---- the theorem

module _ (g : Grid) (formed : Formed g) (few : g.E ≤ 64) (c : Config) (safe : Safe g c) (small : total_load g < unfed) where
  bridges : Bridges g c
  bridges = safe_bridges g formed c safe.tree

  fresh_right : Right g formed c bridges small (replicate 64 unfed)
  fresh_right = record {
    long = omega (arith, length-replicate {A = ℕ} 64 unfed);
    right = λ x k. inl (get_or-replicate 64 x unfed 0 (omega arith));
  }

  -- at each live element the list has its load
  pub loads_fed : {e via : ℕ} → Fed g c e via → at (loads_of g c) e ≡ load_at g c e via
  unfolding loads_of
  loads_fed {e} {via} f = go ((final_right g formed c bridges small (replicate 64 unfed) fresh_right).right e (fed_in g c formed f))
    where
      go : (at (loads_stored g c (sound? g) (replicate 64 unfed)) e ≡ unfed)
          ⊎ ((w : ℕ) × Fed g c e w × (at (loads_stored g c (sound? g) (replicate 64 unfed)) e ≡ load_at g c e w))
          → at (loads_stored g c (sound? g) (replicate 64 unfed)) e ≡ load_at g c e via
      go (inl q) = absurd (final_held g formed c bridges small (replicate 64 unfed) fresh_right f q)
      go (inr r) = r.2 ∙ ap (load_at g c e) (fed_once g formed c safe e r.0 via r.1 f)

  -- and at a dark one the mark
  pub loads_dark : (e : ℕ) → e < g.E → ¬ Live g c e → at (loads_of g c) e ≡ unfed
  unfolding loads_of
  loads_dark e k dark = go ((final_right g formed c bridges small (replicate 64 unfed) fresh_right).right e k)
    where
      go : (at (loads_stored g c (sound? g) (replicate 64 unfed)) e ≡ unfed)
          ⊎ ((w : ℕ) × Fed g c e w × (at (loads_stored g c (sound? g) (replicate 64 unfed)) e ≡ load_at g c e w))
          → at (loads_stored g c (sound? g) (replicate 64 unfed)) e ≡ unfed
      go (inl q) = q
      go (inr r) = absurd (dark (fed_live g c r.1))

  pub loads_unmarked : {e via : ℕ} → Fed g c e via → at (loads_of g c) e ≡ unfed → ⊥
  loads_unmarked {e} {via} f q = omega (arith, q, loads_fed f, safe_at_most g formed c safe f)

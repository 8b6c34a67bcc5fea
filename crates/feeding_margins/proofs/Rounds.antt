-- A walk over an element's own ends stores what its links lead to, in the order of the links: the ends that are skipped store nothing, and a link
-- that leads on has one own end. The sums are those of `loads`.
-- Assumes nothing.
use Prim.Native.Nat.{ℕ, zero, suc, ◌+◌, ◌*◌, ◌/◌, ◌≤◌, ◌<◌, min}
use mathlib.Core.Path.{◌≡◌, refl, sym, ap, ap₂, ◌∙◌, subst}
use mathlib.Core.Bool.{Bool, true, false, not, ◌&&◌, ◌||◌, and-false, false≢true}
use mathlib.Core.List.{List}
use lib.Dec.{eqb}
use lib.ListN.{set}
use borrow.Author.Tests.{eqb-true, eqb-false, eq-eqb, ne_eqb, lt-ltb}
use native.Mathlib.Omega.{arith}
use Rattle.feeding.specs.Below.{least_to}
use Rattle.feeding.specs.Networks.{Grid, Formed, at}
use Rattle.feeding.specs.Parts.{Config, closed_in, touches}
use Rattle.feeding.specs.Loads.{leads, element_load, link_load, link_over}
use Rattle.feeding.proofs.Below.{and_both}
use Rattle.feeding_ends.specs.Ends.{end_at, own}
use Rattle.feeding_ends.proofs.Chains.{end_first, end_second, own_yes, own_no}
use Rattle.feeding_loads.specs.declared.Carried.{Carried}
use Rattle.feeding_loads.specs.Walks.{ends_a, ends_b, near_at, walk_grid, Skips, Lent, link_carried}
use Rattle.feeding_loads.proofs.Rounds.{lead_end, end_over, Walked, walked_load, load_none}
use Rattle.feeding_loads.proofs.Lending.{lent_formed, turn_start, turn_below, turn_near, turn_open, turn_via, turn_on, turn_room, far_end_lem}
use Rattle.feeding_margins.specs.Margins.{fold_to, element_stored, link_stored}
use Rattle.feeding_margins.proofs.Stored.{fold_none, fold_more, beyond, stored_none, stored_more, link_none, link_more}

-- ---- folds

fold_gap : (f : ℕ → List ℕ → List ℕ) (xs : List ℕ) (i j : ℕ) → i ≤ j → ((k : ℕ) (ys : List ℕ) → i ≤ k → k < j → f k ys ≡ ys)
    → fold_to j f xs ≡ fold_to i f xs
fold_gap f xs i zero h z = let q : 0 ≡ i = omega arith in ap (λ n. fold_to n f xs) q
fold_gap f xs i (suc j) h z = go (λ k. fold_gap f xs i j k (λ l ys a b. z l ys a (omega arith))) (eqb (suc j) i) refl
  where
    go : (i ≤ j → fold_to j f xs ≡ fold_to i f xs) → (t : Bool) → eqb (suc j) i ≡ t → fold_to (suc j) f xs ≡ fold_to i f xs
    go ih true t = ap (λ n. fold_to n f xs) (eqb-true (suc j) i t)
    go ih false t = fold_more j f xs ∙ z j (fold_to j f xs) (omega (arith, eqb-false (suc j) i t)) (omega arith) ∙ ih (omega (arith, eqb-false (suc j) i t))

fold_pairs : (f h : ℕ → List ℕ → List ℕ) (xs : List ℕ) (n : ℕ) → ((l : ℕ) (ys : List ℕ) → l < n → f (2 * l + 1) (f (2 * l) ys) ≡ h l ys)
    → fold_to (2 * n) f xs ≡ fold_to n h xs
fold_pairs f h xs zero p = fold_none f xs ∙ sym (fold_none h xs)
fold_pairs f h xs (suc n) p =
    let two : 2 * suc n ≡ suc (suc (2 * n)) = omega arith in
    let one : suc (2 * n) ≡ 2 * n + 1 = omega arith in
    ap (λ m. fold_to m f xs) two ∙ fold_more (suc (2 * n)) f xs ∙ ap (f (suc (2 * n))) (fold_more (2 * n) f xs)
    ∙ ap (λ m. f m (f (2 * n) (fold_to (2 * n) f xs))) one ∙ p n (fold_to (2 * n) f xs) (omega arith)
    ∙ ap (h n) (fold_pairs f h xs n (λ l ys k. p l ys (omega arith))) ∙ sym (fold_more n h xs)

-- ---- what an own end stores

unfoldable pub end_stored : Grid → Config → (d e via : ℕ) → ℕ → List ℕ → List ℕ
end_stored g c d e via i ys = elim (lead_end g c e via i) [ true ↦ link_stored g c d (i / 2) e ys | false ↦ ys ]

-- one of the two ends at most passes
abbrev when : Bool → List ℕ → List ℕ → List ℕ
when t ys xs = elim t [ true ↦ ys | false ↦ xs ]

pair_store : (p q r s : Bool) (f : List ℕ → List ℕ) (ys : List ℕ) → (p ≡ true → q ≡ true → ⊥)
    → when ((q && r) && s) (f (when ((p && r) && s) (f ys) ys)) (when ((p && r) && s) (f ys) ys) ≡ when (r && ((p || q) && s)) (f ys) ys
pair_store true true r s f ys h = absurd (h refl refl)
pair_store true false true true f ys h = refl
pair_store true false true false f ys h = refl
pair_store true false false s f ys h = refl
pair_store false true true true f ys h = refl
pair_store false true true false f ys h = refl
pair_store false true false s f ys h = refl
pair_store false false true s f ys h = refl
pair_store false false false s f ys h = refl

module _ (g : Grid) (c : Config) where
  lead_first : (e via l : ℕ) → l < g.K → lead_end g c e via (2 * l) ≡ ((eqb (g.end_a l) e && c l) && not (eqb l via))
  unfolding lead_end own
  lead_first e via l k =
      let half : 2 * l / 2 ≡ l = omega arith in
      rw (lt-ltb (2 * l) (2 * g.K) (omega arith), half, end_first g.end_a g.end_b l)

  lead_second : (e via l : ℕ) → l < g.K → lead_end g c e via (2 * l + 1) ≡ ((eqb (g.end_b l) e && c l) && not (eqb l via))
  unfolding lead_end own
  lead_second e via l k =
      let half : (2 * l + 1) / 2 ≡ l = omega arith in
      rw (lt-ltb (2 * l + 1) (2 * g.K) (omega arith), half, end_second g.end_a g.end_b l)

  lead_off : (e via i : ℕ) → own g.end_a g.end_b c g.K e i ≡ false → lead_end g c e via i ≡ false
  unfolding lead_end
  lead_off e via i h = rw h

  lead_on : (e via j : ℕ) → j < 2 * g.K → end_at g.end_a g.end_b j ≡ e → c (j / 2) ≡ true → (j / 2 ≡ via → ⊥) → lead_end g c e via j ≡ true
  unfolding lead_end
  lead_on e via j k near h n = and_both (own g.end_a g.end_b c g.K e j) _ (own_yes g.end_a g.end_b c g.K e j k near h)
      (ap not (ne_eqb (j / 2) via n))

  lead_via : (e via j : ℕ) → j / 2 ≡ via → lead_end g c e via j ≡ false
  unfolding lead_end
  lead_via e via j h = rw (eq-eqb (j / 2) via h) (and-false (own g.end_a g.end_b c g.K e j))

  module _ (d e via : ℕ) where
    end_off : (i : ℕ) (ys : List ℕ) → lead_end g c e via i ≡ false → end_stored g c d e via i ys ≡ ys
    unfolding end_stored
    end_off i ys h = ap (λ (t : Bool). when t (link_stored g c d (i / 2) e ys) ys) h

    end_on : (i : ℕ) (ys : List ℕ) → lead_end g c e via i ≡ true → end_stored g c d e via i ys ≡ link_stored g c d (i / 2) e ys
    unfolding end_stored
    end_on i ys h = ap (λ (t : Bool). when t (link_stored g c d (i / 2) e ys) ys) h

    end_pair : Formed g → (l : ℕ) (ys : List ℕ) → l < g.K
        → end_stored g c d e via (2 * l + 1) (end_stored g c d e via (2 * l) ys) ≡ beyond g c d e via l ys
    unfolding end_stored beyond leads touches
    end_pair formed l ys k =
        let one : 2 * l / 2 ≡ l = omega arith in
        let two : (2 * l + 1) / 2 ≡ l = omega arith in
        ap₂ (λ (x y : ℕ). when (lead_end g c e via (2 * l + 1)) (link_stored g c d y e (when (lead_end g c e via (2 * l)) (link_stored g c d x e ys) ys))
        (when (lead_end g c e via (2 * l)) (link_stored g c d x e ys) ys)) one two
        ∙ ap₂ (λ (p q : Bool). when q (link_stored g c d l e (when p (link_stored g c d l e ys) ys)) (when p (link_stored g c d l e ys) ys))
        (lead_first e via l k) (lead_second e via l k)
        ∙ pair_store (eqb (g.end_a l) e) (eqb (g.end_b l) e) (c l) (not (eqb l via)) (link_stored g c d l e) ys
        (λ p q. formed.differ l k (eqb-true _ e p ∙ sym (eqb-true _ e q)))

    -- over all ends it is what the links store
    all_ends_lem : Formed g → g.K ≤ 96 → (xs : List ℕ) → fold_to 192 (end_stored g c d e via) xs ≡ fold_to g.K (beyond g c d e via) xs
    all_ends_lem formed fit xs =
        fold_gap (end_stored g c d e via) xs (2 * g.K) 192 (omega arith)
        (λ i ys a b. end_off i ys (lead_off e via i (own_no g.end_a g.end_b c g.K e i (λ k _ _. omega arith))))
        ∙ fold_pairs (end_stored g c d e via) (beyond g c d e via) xs g.K (λ l ys k. end_pair formed l ys k)

-- ---- the walk

-- what is added up and stored once the ends below j are gone by; j is an end at e, or 192
pub record Storing (g : Grid) (c : Config) (d e via : ℕ) (xs : List ℕ) (sum : ℕ) (ys : List ℕ) (j : ℕ) : Type 0 where
  pub walked : Walked g c d e via sum (least_to j g.E (end_over g c d e via)) j
  pub stored : ys ≡ fold_to j (end_stored g c d e via) xs

-- the lowest overload does not matter here
renew : (g : Grid) (c : Config) (d e via sum over j : ℕ) → Walked g c d e via sum over j → Walked g c d e via sum (least_to j g.E (end_over g c d e via)) j
renew g c d e via sum over j w = record { at_most = w.at_most; below = w.below; near = w.near; sums = w.sums; lows = refl }

-- the ends from i on to j store nothing
stored_gap : (g : Grid) (c : Config) (d e via : ℕ) (xs : List ℕ) (i j : ℕ) → Skips g.end_a g.end_b c g.K e i j
    → fold_to j (end_stored g c d e via) xs ≡ fold_to i (end_stored g c d e via) xs
stored_gap g c d e via xs i j q =
    fold_gap (end_stored g c d e via) xs i j q.at_least (λ m ys a b. end_off g c d e via m ys (lead_off g c e via m (q.none m a b)))

module _ (head next far closed load : List ℕ) (E K : ℕ) (lent : Lent head next far closed load load E K) (d e via : ℕ) (xs : List ℕ) where
  pub store_start : e < E → Storing (walk_grid E K far load load) (closed_in closed) d e via xs (at load e) xs (at head e)
  unfolding walk_grid
  store_start k = record {
    walked = renew (walk_grid E K far load load) (closed_in closed) d e via (at load e) E (at head e) (turn_start head next far closed load load E K lent d e via k);
    stored = sym (stored_gap (walk_grid E K far load load) (closed_in closed) d e via xs 0 (at head e) (lent.heads e k)
        ∙ fold_none (end_stored (walk_grid E K far load load) (closed_in closed) d e via) xs);
  }

  module _ (sum : ℕ) (ys : List ℕ) (j : ℕ) (s : Storing (walk_grid E K far load load) (closed_in closed) d e via xs sum ys j) where
    -- all ends gone by: the sum is the load, and with it stored the list is what the walk leaves
    pub store_load : (depth : ℕ) → 192 ≤ j → suc d ≡ depth → sum ≡ element_load (walk_grid E K far load load) (closed_in closed) depth e via
    unfolding walk_grid
    store_load depth k z = rw (← z) (walked_load (walk_grid E K far load load) (lent_formed head next far closed load load E K lent) (closed_in closed) d e via sum
        (least_to j E (end_over (walk_grid E K far load load) (closed_in closed) d e via)) j s.walked k lent.fit)

    ended : 192 ≤ j → j ≡ 192
    ended k = omega (arith, s.walked.at_most)

    ends_all : fold_to 192 (end_stored (walk_grid E K far load load) (closed_in closed) d e via) xs
        ≡ fold_to (walk_grid E K far load load).K (beyond (walk_grid E K far load load) (closed_in closed) d e via) xs
    unfolding walk_grid
    ends_all = all_ends_lem (walk_grid E K far load load) (closed_in closed) d e via (lent_formed head next far closed load load E K lent) lent.fit xs

    pub store_done : (depth : ℕ) → 192 ≤ j → suc d ≡ depth → set ys e sum ≡ element_stored (walk_grid E K far load load) (closed_in closed) depth e via xs
    store_done depth k z =
        ap₂ (λ (zs : List ℕ) (x : ℕ). set zs e x)
        (s.stored ∙ ap (λ (i : ℕ). fold_to i (end_stored (walk_grid E K far load load) (closed_in closed) d e via) xs) (ended k) ∙ ends_all)
        (store_load (suc d) k refl)
        ∙ sym (stored_more (walk_grid E K far load load) (closed_in closed) d e via xs)
        ∙ ap (λ (x : ℕ). element_stored (walk_grid E K far load load) (closed_in closed) x e via xs) z

    module _ (k : j < 192) where
      abbrev over : ℕ
      over = least_to j (walk_grid E K far load load).E (end_over (walk_grid E K far load load) (closed_in closed) d e via)

      below : j < 2 * K
      below = turn_below head next far closed load load E K lent d e via sum over j s.walked k

      near : near_at far j ≡ e
      near = turn_near head next far closed load load E K lent d e via sum over j s.walked k

      onward : Skips (ends_a far) (ends_b far) (closed_in closed) K e (suc j) (at next j)
      onward = subst (λ z. Skips (ends_a far) (ends_b far) (closed_in closed) K z (suc j) (at next j)) near (lent.nexts j below)

      gone_by : fold_to (at next j) (end_stored (walk_grid E K far load load) (closed_in closed) d e via) xs
          ≡ end_stored (walk_grid E K far load load) (closed_in closed) d e via j (fold_to j (end_stored (walk_grid E K far load load) (closed_in closed) d e via) xs)
      unfolding walk_grid
      gone_by = stored_gap (walk_grid E K far load load) (closed_in closed) d e via xs (suc j) (at next j) onward
          ∙ fold_more j (end_stored (walk_grid E K far load load) (closed_in closed) d e via) xs

      past : (ys' : List ℕ) → ys' ≡ ys → lead_end (walk_grid E K far load load) (closed_in closed) e via j ≡ false
          → ys' ≡ fold_to (at next j) (end_stored (walk_grid E K far load load) (closed_in closed) d e via) xs
      past ys' q h = q ∙ s.stored ∙ sym (gone_by ∙ end_off (walk_grid E K far load load) (closed_in closed) d e via j _ h)

      leads_on_at : at closed (j / 2) ≡ 1 → (j / 2 ≡ via → ⊥) → lead_end (walk_grid E K far load load) (closed_in closed) e via j ≡ true
      unfolding walk_grid
      leads_on_at h n = lead_on (walk_grid E K far load load) (closed_in closed) e via j below near (eq-eqb _ 1 h) n

      open_at : (at closed (j / 2) ≡ 1 → ⊥) → lead_end (walk_grid E K far load load) (closed_in closed) e via j ≡ false
      unfolding walk_grid
      open_at h = lead_off (walk_grid E K far load load) (closed_in closed) e via j
          (own_no (ends_a far) (ends_b far) (closed_in closed) K e j (λ _ _ m. false≢true (sym (ne_eqb _ 1 h) ∙ m)))

      -- the link of j is open, or the one come by: nothing is stored
      pub store_open : (sum' : ℕ) (ys' : List ℕ) → (at closed (j / 2) ≡ 1 → ⊥) → sum' ≡ sum → ys' ≡ ys
          → Storing (walk_grid E K far load load) (closed_in closed) d e via xs sum' ys' (at next j)
      store_open sum' ys' h p q = record {
        walked = renew (walk_grid E K far load load) (closed_in closed) d e via sum' over (at next j)
            (turn_open head next far closed load load E K lent d e via sum over j s.walked k sum' over h p refl);
        stored = past ys' q (open_at h);
      }

      pub store_via : (sum' : ℕ) (ys' : List ℕ) → j / 2 ≡ via → sum' ≡ sum → ys' ≡ ys
          → Storing (walk_grid E K far load load) (closed_in closed) d e via xs sum' ys' (at next j)
      store_via sum' ys' h p q = record {
        walked = renew (walk_grid E K far load load) (closed_in closed) d e via sum' over (at next j)
            (turn_via head next far closed load load E K lent d e via sum over j s.walked k sum' over h p refl);
        stored = past ys' q (lead_via (walk_grid E K far load load) (closed_in closed) e via j h);
      }

      -- where the next end is, and that the partial sum fits
      pub store_below : j < 2 * K
      store_below = below

      pub store_later : j < at next j
      store_later = omega (arith, onward.at_least)

      pub store_room : (depth : ℕ) → suc d ≡ depth → at closed (j / 2) ≡ 1 → (j / 2 ≡ via → ⊥)
          → sum + link_load (walk_grid E K far load load) (closed_in closed) d (j / 2) (near_at far j)
          ≤ element_load (walk_grid E K far load load) (closed_in closed) depth e via
      store_room depth z h n = turn_room head next far closed load load E K lent d e via sum over j s.walked k depth z h n

      abbrev carried : (x : ℕ) → Carried
      carried x = record { load = x; over = link_over (walk_grid E K far load load) (closed_in closed) d (j / 2) (near_at far j) }

      carried_is : (x : ℕ) → x ≡ link_load (walk_grid E K far load load) (closed_in closed) d (j / 2) (near_at far j)
          → carried x ≡ link_carried (walk_grid E K far load load) (closed_in closed) d (j / 2) (near_at far j)
      unfolding link_carried
      carried_is x q = ap (λ (y : ℕ). record { load = y; over = link_over (walk_grid E K far load load) (closed_in closed) d (j / 2) (near_at far j) }) q

      -- it leads on: what it carries is added, and what its walk stores is stored
      pub store_on : (x sum' : ℕ) (ys' : List ℕ) → at closed (j / 2) ≡ 1 → (j / 2 ≡ via → ⊥)
          → x ≡ link_load (walk_grid E K far load load) (closed_in closed) d (j / 2) (near_at far j) → sum' ≡ sum + x
          → ys' ≡ link_stored (walk_grid E K far load load) (closed_in closed) d (j / 2) (near_at far j) ys
          → Storing (walk_grid E K far load load) (closed_in closed) d e via xs sum' ys' (at next j)
      store_on x sum' ys' h n q p r = record {
        walked = renew (walk_grid E K far load load) (closed_in closed) d e via sum' (min over (carried x).over) (at next j)
            (turn_on head next far closed load load E K lent d e via sum over j s.walked k (carried x) sum' (min over (carried x).over) h n
            (carried_is x q) p refl);
        stored = r ∙ ap₂ (λ (y : ℕ) (zs : List ℕ). link_stored (walk_grid E K far load load) (closed_in closed) d (j / 2) y zs) near s.stored
            ∙ sym (gone_by ∙ end_on (walk_grid E K far load load) (closed_in closed) d e via j _ (leads_on_at h n));
      }

-- ---- no depth left, and the link's turn

module _ (head next far closed load : List ℕ) (E K : ℕ) (lent : Lent head next far closed load load E K) (xs : List ℕ) where
  pub none_load : (depth e via : ℕ) → depth ≡ 0 → at load e ≡ element_load (walk_grid E K far load load) (closed_in closed) depth e via
  unfolding walk_grid
  none_load depth e via z = rw z (sym (load_none (walk_grid E K far load load) (closed_in closed) e via))

  pub none_stored : (depth e via : ℕ) → depth ≡ 0 → set xs e (at load e) ≡ element_stored (walk_grid E K far load load) (closed_in closed) depth e via xs
  none_stored depth e via z =
      ap (set xs e) (none_load 0 e via refl) ∙ sym (stored_none (walk_grid E K far load load) (closed_in closed) e via xs)
      ∙ ap (λ (x : ℕ). element_stored (walk_grid E K far load load) (closed_in closed) x e via xs) (sym z)

  pub link_none_load : (depth l e : ℕ) → depth ≡ 0 → 0 ≡ link_load (walk_grid E K far load load) (closed_in closed) depth l e
  unfolding link_load
  link_none_load depth l e z = rw z

  pub link_none_stored : (depth l e : ℕ) → depth ≡ 0 → xs ≡ link_stored (walk_grid E K far load load) (closed_in closed) depth l e xs
  link_none_stored depth l e z =
      sym (ap (λ (x : ℕ). link_stored (walk_grid E K far load load) (closed_in closed) x l e xs) z
      ∙ link_none (walk_grid E K far load load) (closed_in closed) l e xs)

  pub link_stored_lem : (d depth j : ℕ) → suc d ≡ depth → j < 2 * K
      → element_stored (walk_grid E K far load load) (closed_in closed) d (at far j) (j / 2) xs
      ≡ link_stored (walk_grid E K far load load) (closed_in closed) depth (j / 2) (near_at far j) xs
  link_stored_lem d depth j z k =
      ap (λ (x : ℕ). element_stored (walk_grid E K far load load) (closed_in closed) d x (j / 2) xs) (sym (far_end_lem E K far load load lent.differ j k))
      ∙ sym (link_more (walk_grid E K far load load) (closed_in closed) d (j / 2) (near_at far j) xs)
      ∙ ap (λ (x : ℕ). link_stored (walk_grid E K far load load) (closed_in closed) x (j / 2) (near_at far j) xs) z

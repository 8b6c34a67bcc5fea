-- The search visits exactly the sets that pass and in which every source bears its part, in the set order: links opened keep a configuration radial and
-- relieve its sources, so no stop loses a set.
-- Assumes nothing.
use mathlib.Core.Path.{◌≡◌, refl, sym, ap, ap₂, ◌∙◌, subst, fun_ext}
use mathlib.Core.Bool.{Bool, true, false, not, ◌&&◌, and-false, false≢true}
use mathlib.Core.List.{List, [], ◌∷◌}
use mathlib.Core.Logic.{◌⊎◌, inl, inr}
use Prim.Native.Nat.{ℕ, zero, suc, ◌+◌, ◌<◌, ◌≤◌, min, max}
use lib.Dec.{eqb, ltb}
use lib.ListN.{length, set}
use borrow.Author.Tests.{eqb-true, eqb-false, eq-eqb, ltb-true, ltb-false, lt-ltb, le-ltb}
use native.Mathlib.Omega.{arith}
use Rattle.feeding.specs.Below.{gate, those}
use Rattle.feeding.specs.Networks.{Net, Formed, at}
use Rattle.feeding.specs.Parts.{Config, label}
use Rattle.feeding.specs.Restoration.{operables_by, restored?}
use Rattle.feeding.specs.Plans.{put, differ, flip}
use Rattle.feeding.proofs.Below.{gate_le, same_test, and_left, and_right, and_both}
use Rattle.feeding_parts.specs.Labelling.{root_of}
use Rattle.plan_problem.specs.Sets.{set_of, set_in, sets_from, passing, scan}
use Rattle.plan_problem.proofs.Scans.{next, passing_end, passing_next, passing_none, scan_append}
use Rattle.plan_stops.specs.Candidates.{radial?, passes?, candidate?, opened_by}
use Rattle.plan_stops.specs.Holding.{clash, together, serves}
use Rattle.plan_stops.specs.Supply.{supplied?}
use Rattle.plan_stops.specs.Searching.{Switching, bears, carried_on, Onward, joining, deciding, visited}
use Rattle.plan_stops.proofs.Carried.{CarriedParts, part_holds}
use Rattle.plan_stops.proofs.Joining.{carried_join, carried_loop, carried_clash, carried_restored}
use Rattle.plan_stops.proofs.OneMore.{end_lt, end_label}
use Rattle.plan_stops.proofs.Radial.{radial_opened}
use Rattle.plan_stops.proofs.Settled.{settled, settled_open, settled_end, settled_next, settled_none, switch_below, switch_distinct}
use Rattle.plan_stops.proofs.Supplied.{supplied_opened}
use Rattle.plan_stops.proofs.Weighed.{Weighed, weighed_supplied, weighed_join, joined_unsupplied}

-- ---- a link put into a state

pub put_same : (c : Config) (l : ℕ) → c l ≡ false → put c l false ≡ c
unfolding put
put_same c l h = fun_ext (λ k. go k (eqb k l) refl)
  where
    go : (k : ℕ) (t : Bool) → eqb k l ≡ t → put c l false k ≡ c k
    go k true t = rw (t, eqb-true k l t, h)
    go k false t = rw t

pub put_closes : (c : Config) (l : ℕ) (w : Bool) → c l ≡ false → (k : ℕ) → c k ≡ true → put c l w k ≡ true
unfolding put
put_closes c l w h k e = go (eqb k l) refl
  where
    go : (t : Bool) → eqb k l ≡ t → put c l w k ≡ true
    go true t = absurd (false≢true (sym h ∙ ap c (sym (eqb-true k l t)) ∙ e))
    go false t = rw t e

-- ---- the search, by its cases

module _ {S : Type 0} (w : Switching) (onward : Onward S) (i : ℕ) (operate : Bool) (served s : ℕ) (p h v : List ℕ) where
  pub decides_open : differ (w.closed i) operate ≡ false → deciding w onward i operate served s p h v ≡ onward served s p h v
  unfolding deciding
  decides_open k = rw (k, deciding)

  pub decides_closed : differ (w.closed i) operate ≡ true
      → deciding w onward i operate served s p h v ≡ joining onward (root_of p (w.end_a i)) (root_of p (w.end_b i)) served s p h v
  unfolding deciding
  decides_closed k = rw (k, deciding)

module _ {S : Type 0} (onward : Onward S) (x y served s : ℕ) (p h v : List ℕ) where
  pub joins_loop : eqb x y ≡ true → joining onward x y served s p h v ≡ (λ b. b)
  unfolding joining
  joins_loop k = rw (k, joining)

  pub joins_clash : eqb x y ≡ false → clash (at h x) (at h y) ≡ true → joining onward x y served s p h v ≡ (λ b. b)
  unfolding joining
  joins_clash k c = rw (k, c, joining)

  pub joins_heavy : eqb x y ≡ false → clash (at h x) (at h y) ≡ false → bears (at h x) (at h y) (at v x) (at v y) ≡ false
      → joining onward x y served s p h v ≡ (λ b. b)
  unfolding joining
  joins_heavy k c b = rw (k, c, b, joining)

  pub joins_on : eqb x y ≡ false → clash (at h x) (at h y) ≡ false → bears (at h x) (at h y) (at v x) (at v y) ≡ true
      → joining onward x y served s p h v
      ≡ onward (served + gate (serves (at h x) (at h y)) 1) s (set p (max x y) (min x y)) (set h (min x y) (together (at h x) (at h y)))
      (set v (min x y) (carried_on (at h x) (at h y) (at v x) (at v y)))
  unfolding joining
  joins_on k c b = rw (k, c, b, joining)

module _ {S : Type 0} (stop : ℕ → ℕ → S → Bool) (visit : S → ℕ → S) (w : Switching) (want : ℕ) where
  pub visited_end : (i served s : ℕ) (p h v : List ℕ) (b : S)
      → visited stop visit w want zero i served s p h v b ≡ elim (ltb served want) [ true ↦ b | false ↦ visit b s ]
  unfolding visited
  visited_end i served s p h v b = refl

  pub visited_short : (n i served s : ℕ) (p h v : List ℕ) (b : S) → ltb (served + suc n) want ≡ true → visited stop visit w want (suc n) i served s p h v b ≡ b
  unfolding visited
  visited_short n i served s p h v b k = rw (k, visited)

  pub visited_stops : (n i served s : ℕ) (p h v : List ℕ) (b : S) → ltb (served + suc n) want ≡ false → stop i s b ≡ true
      → visited stop visit w want (suc n) i served s p h v b ≡ b
  unfolding visited
  visited_stops n i served s p h v b k q = rw (k, q, visited)

  pub visited_next : (n i served s : ℕ) (p h v : List ℕ) (b : S) → ltb (served + suc n) want ≡ false → stop i s b ≡ false
      → visited stop visit w want (suc n) i served s p h v b
      ≡ deciding w (visited stop visit w want n (suc i)) i false served (next false s) p h v
      (deciding w (visited stop visit w want n (suc i)) i true served (next true s) p h v b)
  unfolding visited
  visited_next n i served s p h v b k q = rw (k, q, visited)

-- ---- the sets behind choices that no set can follow

-- the switches are those below K that pass `op?`; `meets` is the test of the last configuration; where the parts carried stand for it, it tells whether
-- `want` of `total` parts are served; an element e asks `asks e` of its source
module _ (net : Net) (formed : Formed net.grid) (op? : ℕ → Bool) (total want : ℕ) (meets : Config → Bool)
    (decided : (c : Config) (served : ℕ) (p h : List ℕ) → CarriedParts net c total served p h → meets c ≡ not (ltb served want)) (asks : ℕ → ℕ) where
  abbrev switches : List ℕ
  switches = those net.grid.K op?

  abbrev op : ℕ → ℕ
  op = at switches

  abbrev m : ℕ
  m = length switches

  abbrev last : ℕ → Config
  last t = flip net.start_closed (set_in switches t)

  -- the set that t writes passes, and every source bears its part
  abbrev ok : ℕ → Bool
  ok t = passes? net meets (set_in switches t) && supplied? net.grid asks (last t)

  -- what is surely closed after the choices s for the first i switches
  abbrev closed : ℕ → ℕ → ℕ → Config
  closed = settled net.start_closed op

  -- the state in which the switch i ends, operated or not
  abbrev state : ℕ → Bool → Bool
  state i b = differ (net.start_closed (op i)) b

  -- one choice more puts one switch into its state
  chosen : (n i s : ℕ) (b : Bool) → i + suc n ≡ m → closed n (suc i) (next b s) ≡ put (closed (suc n) i s) (op i) (state i b)
  chosen n i s b e = settled_next net.start_closed op n i s b (λ j h k. switch_distinct net op? i j h (omega arith))

  -- at the end all choices are made
  all_chosen : (i s : ℕ) → i + zero ≡ m → closed zero i s ≡ last s
  unfolding set_in
  all_chosen i s e = let q : i ≡ m = omega arith in settled_end net.start_closed op i s ∙ ap (λ k. flip net.start_closed (set_of op k s)) q

  -- rules 14 to 16 are kept, and every source bears its part: links opened keep both
  abbrev sound : Config → Bool
  sound c = radial? net.grid c && supplied? net.grid asks c

  ok_is : (i s : ℕ) → i + zero ≡ m → ok s ≡ ((radial? net.grid (closed zero i s) && meets (closed zero i s)) && supplied? net.grid asks (closed zero i s))
  unfolding passes?
  ok_is i s e = rw (all_chosen i s e)

  unsound_end : (i s : ℕ) → i + zero ≡ m → sound (closed zero i s) ≡ false → ok s ≡ false
  unsound_end i s e h = ok_is i s e ∙ go (radial? net.grid (closed zero i s)) (meets (closed zero i s)) (supplied? net.grid asks (closed zero i s)) h
    where
      go : (r t u : Bool) → (r && u) ≡ false → ((r && t) && u) ≡ false
      go true true u k = k
      go true false u k = refl
      go false t u k = refl

  -- a link more mends nothing
  still : (c : Config) (l : ℕ) (b : Bool) → c l ≡ false → sound c ≡ false → sound (put c l b) ≡ false
  still c l b was h = go (sound (put c l b)) refl
    where
      kept : sound (put c l b) ≡ true → sound c ≡ true
      kept t = and_both (radial? net.grid c) _
          (radial_opened net.grid formed (put c l b) c (put_closes c l b was) (and_left (radial? net.grid (put c l b)) _ t))
          (supplied_opened net.grid formed asks c (put c l b) (put_closes c l b was) (and_right (radial? net.grid (put c l b)) _ t))

      go : (t : Bool) → sound (put c l b) ≡ t → t ≡ false
      go true t = sym (kept t) ∙ h
      go false t = refl

  fails : (n i s : ℕ) → i + n ≡ m → sound (closed n i s) ≡ false → passing ok (sets_from n s) ≡ []
  fails zero i s e h = passing_end ok s ∙ rw (unsound_end i s e h)
  fails (suc n) i s e h =
      passing_none ok n s (λ b. fails n (suc i) (next b s) (omega arith)
      (rw (chosen n i s b e) (still (closed (suc n) i s) (op i) (state i b) (settled_open net.start_closed op n i s) h)))

  -- ---- the switch i, after choices that the parts carried stand for

  module _ (n i served s : ℕ) (p h : List ℕ) (e : i + suc n ≡ m) (carried : CarriedParts net (closed (suc n) i s) total served p h) (b : Bool) where
    abbrev x : ℕ
    x = root_of p (net.grid.end_a (op i))

    abbrev y : ℕ
    y = root_of p (net.grid.end_b (op i))

    was_open : closed (suc n) i s (op i) ≡ false
    was_open = settled_open net.start_closed op n i s

    below : op i < net.grid.K
    below = switch_below net op? i (omega arith)

    -- it ends open: nothing changes
    stays_open : state i b ≡ false → closed n (suc i) (next b s) ≡ closed (suc n) i s
    stays_open t = chosen n i s b e ∙ ap (put (closed (suc n) i s) (op i)) t ∙ put_same (closed (suc n) i s) (op i) was_open

    left : state i b ≡ false → CarriedParts net (closed n (suc i) (next b s)) total served p h
    left t = subst (λ c. CarriedParts net c total served p h) (sym (stays_open t)) carried

    -- it ends closed: two parts are joined, or no set passes
    now_closed : state i b ≡ true → put (closed (suc n) i s) (op i) true ≡ closed n (suc i) (next b s)
    now_closed t = sym (chosen n i s b e ∙ ap (put (closed (suc n) i s) (op i)) t)

    joined : state i b ≡ true → (x ≡ y → ⊥) → clash (at h x) (at h y) ≡ false
        → CarriedParts net (closed n (suc i) (next b s)) total (served + gate (serves (at h x) (at h y)) 1) (set p (max x y) (min x y))
        (set h (min x y) (together (at h x) (at h y)))
    joined t ne k = rw (← now_closed t) (carried_join net formed _ total served p h carried (op i) below was_open x y refl refl ne k)

    broken : state i b ≡ true → radial? net.grid (put (closed (suc n) i s) (op i) true) ≡ false → passing ok (sets_from n (next b s)) ≡ []
    broken t r = fails n (suc i) (next b s) (omega arith) (ap (λ u. u && supplied? net.grid asks (closed n (suc i) (next b s))) (rw (now_closed t) at r))

    looped : state i b ≡ true → x ≡ y → passing ok (sets_from n (next b s)) ≡ []
    looped t q = broken t (carried_loop net formed _ total served p h carried (op i) below was_open q)

    clashed : state i b ≡ true → clash (at h x) (at h y) ≡ true → passing ok (sets_from n (next b s)) ≡ []
    clashed t k = broken t (carried_clash net formed _ total served p h carried (op i) below was_open k)

    -- and the numbers of the parts
    module _ (v : List ℕ) (weighed : Weighed net asks (closed (suc n) i s) v) where
      same : state i b ≡ false → Weighed net asks (closed n (suc i) (next b s)) v
      same t = subst (λ c. Weighed net asks c v) (sym (stays_open t)) weighed

      is_x : x ≡ label net.grid (closed (suc n) i s) (net.grid.end_a (op i))
      is_x = carried.roots (net.grid.end_a (op i)) (formed.end_a_lt (op i) below)

      is_y : y ≡ label net.grid (closed (suc n) i s) (net.grid.end_b (op i))
      is_y = carried.roots (net.grid.end_b (op i)) (formed.end_b_lt (op i) below)

      held : (z : ℕ) → (z ≡ x) ⊎ (z ≡ y) → at h z ≡ part_holds net (closed (suc n) i s) z
      held z o = carried.holds_is z (end_lt net.grid formed _ (op i) below x y is_x is_y z o) (end_label net.grid formed _ (op i) below x y is_x is_y z o)

      calm : clash (at h x) (at h y) ≡ false → clash (part_holds net (closed (suc n) i s) x) (part_holds net (closed (suc n) i s) y) ≡ false
      calm k = rw (held x (inl refl), held y (inr refl)) at k

      weighed_on : state i b ≡ true → (x ≡ y → ⊥) → clash (at h x) (at h y) ≡ false → bears (at h x) (at h y) (at v x) (at v y) ≡ true
          → Weighed net asks (closed n (suc i) (next b s)) (set v (min x y) (carried_on (at h x) (at h y) (at v x) (at v y)))
      weighed_on t ne k q = rw (← now_closed t, held x (inl refl), held y (inr refl))
          (weighed_join net formed asks _ v weighed carried.fit (op i) below x y is_x is_y ne (calm k) (rw (held x (inl refl), held y (inr refl)) at q))

      heavy : state i b ≡ true → (x ≡ y → ⊥) → clash (at h x) (at h y) ≡ false → bears (at h x) (at h y) (at v x) (at v y) ≡ false
          → passing ok (sets_from n (next b s)) ≡ []
      heavy t ne k q = fails n (suc i) (next b s) (omega arith)
          (ap (λ u. radial? net.grid (closed n (suc i) (next b s)) && u) short ∙ and-false (radial? net.grid (closed n (suc i) (next b s))))
        where
          short : supplied? net.grid asks (closed n (suc i) (next b s)) ≡ false
          short = rw (← now_closed t)
              (joined_unsupplied net formed asks _ v weighed carried.fit (op i) below x y is_x is_y ne (calm k) (rw (held x (inl refl), held y (inr refl)) at q))

  -- nor does a set pass behind choices that leave too few switches for the parts that wait
  short : (n i served s : ℕ) (p h : List ℕ) → i + n ≡ m → CarriedParts net (closed n i s) total served p h → served + n < want
      → passing ok (sets_from n s) ≡ []
  short zero i served s p h e carried few = passing_end ok s ∙ rw none
    where
      waits : meets (closed zero i s) ≡ false
      waits = decided (closed zero i s) served p h carried ∙ ap not (lt-ltb served want (omega arith))

      no_more : (r t u : Bool) → t ≡ false → ((r && t) && u) ≡ false
      no_more true t u k = rw k
      no_more false t u k = refl

      none : ok s ≡ false
      none = ok_is i s e ∙ no_more (radial? net.grid (closed zero i s)) _ _ waits
  short (suc n) i served s p h e carried few =
      passing_none ok n s (λ b. go (short n (suc i)) b (state i b) refl (eqb x y) refl (clash (at h x) (at h y)) refl)
    where
      x : ℕ
      x = root_of p (net.grid.end_a (op i))

      y : ℕ
      y = root_of p (net.grid.end_b (op i))

      go : ((served s : ℕ) (p h : List ℕ) → suc i + n ≡ m → CarriedParts net (closed n (suc i) s) total served p h → served + n < want
          → passing ok (sets_from n s) ≡ [])
          → (b t : Bool) → state i b ≡ t → (u : Bool) → eqb x y ≡ u → (k : Bool) → clash (at h x) (at h y) ≡ k
          → passing ok (sets_from n (next b s)) ≡ []
      go ih b false t u q k c = ih served (next b s) p h (omega arith) (left n i served s p h e carried b t) (omega arith)
      go ih b true t true q k c = looped n i served s p h e carried b t (eqb-true x y q)
      go ih b true t false q true c = clashed n i served s p h e carried b t c
      go ih b true t false q false c =
          ih _ (next b s) _ _ (omega arith) (joined n i served s p h e carried b t (eqb-false x y q) c)
          (omega (arith, gate_le (serves (at h x) (at h y)) 1))

  -- ---- the search is the scan of the sets that pass

  -- what stops, stops behind each further choice too, and at the end nothing would have been kept
  module _ {S : Type 0} (stop : ℕ → ℕ → S → Bool) (visit : S → ℕ → S)
      (goes_on : (i s : ℕ) (b : S) (d : Bool) → i < length (those net.grid.K op?) → stop i s b ≡ true → stop (suc i) (next d s) b ≡ true)
      (unkept : (s : ℕ) (b : S) → stop (length (those net.grid.K op?)) s b ≡ true → visit b s ≡ b) where
    scan_none : (b : S) → scan visit [] b ≡ b
    unfolding scan
    scan_none b = refl

    scan_one : (s : ℕ) (t : Bool) (b : S) → scan visit (elim t [ true ↦ s ∷ [] | false ↦ [] ]) b ≡ elim t [ true ↦ visit b s | false ↦ b ]
    unfolding scan
    scan_one s true b = refl
    scan_one s false b = refl

    scan_next : (n s : ℕ) (b : S) → scan visit (passing ok (sets_from (suc n) s)) b
        ≡ scan visit (passing ok (sets_from n (next false s))) (scan visit (passing ok (sets_from n (next true s))) b)
    scan_next n s b = ap (λ xs. scan visit xs b) (passing_next ok n s) ∙ scan_append visit _ _ b

    -- no set behind choices that stop is kept
    scan_stopped : (n i s : ℕ) (b : S) → i + n ≡ m → stop i s b ≡ true → scan visit (passing ok (sets_from n s)) b ≡ b
    scan_stopped zero i s b e q = ap (λ xs. scan visit xs b) (passing_end ok s) ∙ scan_one s (ok s) b ∙ go (ok s)
      where
        go : (t : Bool) → elim t [ true ↦ visit b s | false ↦ b ] ≡ b
        go true = let f : i ≡ m = omega arith in unkept s b (ap (λ (j : ℕ). stop j s b) (sym f) ∙ q)
        go false = refl
    scan_stopped (suc n) i s b e q =
        scan_next n s b
        ∙ ap (scan visit (passing ok (sets_from n (next false s)))) (scan_stopped n (suc i) (next true s) b (omega arith) (goes_on i s b true (omega arith) q))
        ∙ scan_stopped n (suc i) (next false s) b (omega arith) (goes_on i s b false (omega arith) q)

    module _ (w : Switching)
        (ends_a_lem : (i : ℕ) → i < length (those net.grid.K op?) → w.end_a i ≡ net.grid.end_a (at (those net.grid.K op?) i))
        (ends_b_lem : (i : ℕ) → i < length (those net.grid.K op?) → w.end_b i ≡ net.grid.end_b (at (those net.grid.K op?) i))
        (starts : (i : ℕ) → i < length (those net.grid.K op?) → w.closed i ≡ net.start_closed (at (those net.grid.K op?) i)) where
      -- behind any choices that the parts and numbers carried stand for
      behind : (n i served s : ℕ) (p h v : List ℕ) (b : S) → i + n ≡ m → CarriedParts net (closed n i s) total served p h → Weighed net asks (closed n i s) v
          → visited stop visit w want n i served s p h v b ≡ scan visit (passing ok (sets_from n s)) b
      behind zero i served s p h v b e carried weighed =
          visited_end stop visit w want i served s p h v b ∙ go (ltb served want) (ok s) counts
          ∙ sym (ap (λ xs. scan visit xs b) (passing_end ok s) ∙ scan_one s (ok s) b)
        where
          counts : ok s ≡ not (ltb served want)
          counts = ok_is i s e ∙ rw (carried.radial, weighed_supplied net asks (closed zero i s) v weighed) (all_right (meets (closed zero i s)) ∙ decided (closed zero i s) served p h carried)
            where
              all_right : (t : Bool) → (t && true) ≡ t
              all_right true = refl
              all_right false = refl

          go : (t u : Bool) → u ≡ not t → ◌≡◌ {A = S} (elim t [ true ↦ b | false ↦ visit b s ]) (elim u [ true ↦ visit b s | false ↦ b ])
          go true u q = rw q
          go false u q = rw q
      behind (suc n) i served s p h v b e carried weighed = go (behind n (suc i)) (ltb (served + suc n) want) refl (stop i s b) refl
        where
          x : ℕ
          x = root_of p (net.grid.end_a (op i))

          y : ℕ
          y = root_of p (net.grid.end_b (op i))

          further : Onward S
          further = visited stop visit w want n (suc i)

          Ih : Type 0
          Ih = (served s : ℕ) (p h v : List ℕ) (b : S) → suc i + n ≡ m → CarriedParts net (closed n (suc i) s) total served p h
              → Weighed net asks (closed n (suc i) s) v → further served s p h v b ≡ scan visit (passing ok (sets_from n s)) b

          decides : (d t : Bool) → state i d ≡ t → differ (w.closed i) d ≡ t
          decides d t r = ap (λ c. differ c d) (starts i (omega arith)) ∙ r

          joins : (d : Bool) → state i d ≡ true → deciding w further i d served (next d s) p h v ≡ joining further x y served (next d s) p h v
          joins d t =
              decides_closed w further i d served (next d s) p h v (decides d true t)
              ∙ ap₂ (λ a a'. joining further (root_of p a) (root_of p a') served (next d s) p h v) (ends_a_lem i (omega arith)) (ends_b_lem i (omega arith))

          -- a search that stops leaves what was found, and no set passes
          stopped : (d : Bool) → state i d ≡ true → joining further x y served (next d s) p h v ≡ (λ b. b) → passing ok (sets_from n (next d s)) ≡ []
              → (c : S) → deciding w further i d served (next d s) p h v c ≡ scan visit (passing ok (sets_from n (next d s))) c
          stopped d t r q c = ap (λ (f : S → S). f c) (joins d t ∙ r) ∙ sym (ap (λ xs. scan visit xs c) q ∙ scan_none c)

          one : Ih → (d t : Bool) → state i d ≡ t → (u : Bool) → eqb x y ≡ u → (k : Bool) → clash (at h x) (at h y) ≡ k
              → (q : Bool) → bears (at h x) (at h y) (at v x) (at v y) ≡ q → (c : S)
              → deciding w further i d served (next d s) p h v c ≡ scan visit (passing ok (sets_from n (next d s))) c
          one ih d false t u eu k ek q eq c =
              ap (λ (f : S → S). f c) (decides_open w further i d served (next d s) p h v (decides d false t))
              ∙ ih served (next d s) p h v c (omega arith) (left n i served s p h e carried d t) (same n i served s p h e carried d v weighed t)
          one ih d true t true eu k ek q eq c =
              stopped d t (joins_loop further x y served (next d s) p h v eu) (looped n i served s p h e carried d t (eqb-true x y eu)) c
          one ih d true t false eu true ek q eq c =
              stopped d t (joins_clash further x y served (next d s) p h v eu ek) (clashed n i served s p h e carried d t ek) c
          one ih d true t false eu false ek false eq c =
              stopped d t (joins_heavy further x y served (next d s) p h v eu ek eq)
              (heavy n i served s p h e carried d v weighed t (eqb-false x y eu) ek eq) c
          one ih d true t false eu false ek true eq c =
              ap (λ (f : S → S). f c) (joins d t ∙ joins_on further x y served (next d s) p h v eu ek eq)
              ∙ ih _ (next d s) _ _ _ c (omega arith) (joined n i served s p h e carried d t (eqb-false x y eu) ek)
              (weighed_on n i served s p h e carried d v weighed t (eqb-false x y eu) ek eq)

          go : Ih → (t : Bool) → ltb (served + suc n) want ≡ t → (u : Bool) → stop i s b ≡ u
              → visited stop visit w want (suc n) i served s p h v b ≡ scan visit (passing ok (sets_from (suc n) s)) b
          go ih true t u q =
              visited_short stop visit w want n i served s p h v b t
              ∙ sym (ap (λ xs. scan visit xs b) (short (suc n) i served s p h e carried (ltb-true _ _ t)) ∙ scan_none b)
          go ih false t true q = visited_stops stop visit w want n i served s p h v b t q ∙ sym (scan_stopped (suc n) i s b e q)
          go ih false t false q =
              visited_next stop visit w want n i served s p h v b t q
              ∙ both false _
              ∙ ap (scan visit (passing ok (sets_from n (next false s)))) (both true b)
              ∙ sym (scan_next n s b)
            where
              both : (d : Bool) (c : S) → deciding w further i d served (next d s) p h v c ≡ scan visit (passing ok (sets_from n (next d s))) c
              both d = one ih d (state i d) refl (eqb x y) refl (clash (at h x) (at h y)) refl (bears (at h x) (at h y) (at v x) (at v y)) refl

      -- the theorem, from the parts that stand while every switch is open
      pub searched : ((l : ℕ) → op? l ≡ true → l < net.grid.K) → (p h v : List ℕ) (b : S) → CarriedParts net (opened_by net op?) total 0 p h
          → Weighed net asks (opened_by net op?) v
          → visited stop visit w want (length (those net.grid.K op?)) 0 0 0 p h v b
          ≡ scan visit (passing (λ s. passes? net meets (set_in (those net.grid.K op?) s)
          && supplied? net.grid asks (flip net.start_closed (set_in (those net.grid.K op?) s))) (sets_from (length (those net.grid.K op?)) 0)) b
      searched inside p h v b carried weighed =
          behind m 0 0 0 p h v b (omega arith) (rw (settled_none net op? inside) carried) (rw (settled_none net op? inside) weighed)

-- ---- all parts served

-- want = total: every restorable element is live
all_served : (net : Net) → Formed net.grid → (total : ℕ) (c : Config) (served : ℕ) (p h : List ℕ) → CarriedParts net c total served p h
    → restored? net c ≡ not (ltb served total)
all_served net formed total c served p h carried =
    carried_restored net formed c total served p h carried
    ∙ same_test _ _
    (λ e. ap not (le-ltb served total (omega (arith, eqb-true served total e))))
    (λ e. eq-eqb served total (omega (arith, carried.counted, reached (ltb served total) refl e)))
  where
    reached : (t : Bool) → ltb served total ≡ t → not t ≡ true → total ≤ served
    reached true t e = absurd (false≢true e)
    reached false t e = ltb-false served total t

-- every restorable element live, over the switches that pass any test
module _ (net : Net) (formed : Formed net.grid) (op : ℕ → Bool) (inside : (l : ℕ) → op l ≡ true → l < net.grid.K) (w : Switching)
    (ends_a_lem : (i : ℕ) → i < length (operables_by net op) → w.end_a i ≡ net.grid.end_a (at (operables_by net op) i))
    (ends_b_lem : (i : ℕ) → i < length (operables_by net op) → w.end_b i ≡ net.grid.end_b (at (operables_by net op) i))
    (starts : (i : ℕ) → i < length (operables_by net op) → w.closed i ≡ net.start_closed (at (operables_by net op) i))
    {S : Type 0} (stop : ℕ → ℕ → S → Bool) (visit : S → ℕ → S)
    (goes_on : (i s : ℕ) (b : S) (d : Bool) → i < length (operables_by net op) → stop i s b ≡ true → stop (suc i) (next d s) b ≡ true)
    (unkept : (s : ℕ) (b : S) → stop (length (operables_by net op)) s b ≡ true → visit b s ≡ b) where
  pub searched_restoring : (asks : ℕ → ℕ) (total : ℕ) (p h v : List ℕ) (b : S) → CarriedParts net (opened_by net op) total 0 p h
      → Weighed net asks (opened_by net op) v
      → visited stop visit w total (length (operables_by net op)) 0 0 0 p h v b
      ≡ scan visit (passing (λ s. candidate? net (set_in (operables_by net op) s)
      && supplied? net.grid asks (flip net.start_closed (set_in (operables_by net op) s))) (sets_from (length (operables_by net op)) 0)) b
  unfolding operables_by
  searched_restoring asks total p h v b carried weighed =
      searched net formed op total total (restored? net) (all_served net formed total) asks stop visit goes_on unkept w ends_a_lem ends_b_lem starts
      inside p h v b carried weighed

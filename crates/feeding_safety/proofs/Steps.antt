-- What each step of `check` asks of the lent lists, and what each of its answers is: the first rule of 14 to 17 that is broken.
-- Assumes nothing.
use mathlib.Core.Path.{◌≡◌, refl, sym, ap, ◌∙◌}
use mathlib.Core.Bool.{Bool, true, false, or_self}
use mathlib.Core.List.{List}
use Prim.Native.Nat.{ℕ, ◌<◌, ◌≤◌}
use native.Mathlib.Omega.{arith}
use lib.Dec.{eqb, ltb}
use lib.ListN.{length}
use borrow.Author.Tests.{ltb-true, ltb-false, lt-ltb, le-ltb}
use Rattle.std.specs.Prelude.{Option, Some, None, Result, Ok, Err}
use Rattle.network.specs.declared.refusal.Refusal.{Refusal}
use Rattle.network.specs.declared.refusal.Rule.{Rule}
use Rattle.network.specs.declared.refusal.Rule.TheVariants.{NotATree, TwoSources, FaultWithSource, Overloaded}
use Rattle.feeding.specs.Acceptance.{broken_at, safety}
use Rattle.feeding.specs.Below.{lowest, some_below, bits}
use Rattle.feeding.specs.Loads.{lowest_over}
use Rattle.feeding.specs.Networks.{Grid, grid_of, at, is_in}
use Rattle.feeding.specs.Parts.{Config, closed_in, label, sound?}
use Rattle.feeding.specs.Safety.{tree_place, pair_place, fault_place}
use Rattle.feeding.proofs.Decided.{broken, unbroken as goes_past, trees_kept}
use Rattle.feeding.proofs.Lows.{some_found, none_found}
use Rattle.feeding.proofs.Forest.{safe_bridges}
use Rattle.feeding.proofs.Tests.{sound_flag}
use Rattle.feeding.proofs.Bits.{length_bits, is_in_bits}
use Rattle.feeding_parts.specs.declared.Parts.{Parts}
use Rattle.feeding_parts.specs.Labelling.{AllBelow, parts_of, last_of_part}
use Rattle.feeding_parts.proofs.Grids.{label_long, label_below, grid_label, grid_looped}
use Rattle.feeding_parts.proofs.Lasts.{length_lasts}
use Rattle.feeding_loads.specs.Walks.{walk_grid, Carries, over_place}
use Rattle.feeding_loads.proofs.Same.{over_place_is, carries}
use Rattle.feeding_sets.specs.Sets.{one_of}
use Rattle.feeding_places.specs.Places.{LastReach, least_looped, not_last, with_last}
use Rattle.feeding_safety.specs.Checks.{Checked, refused, unbroken}
use Rattle.feeding_safety.proofs.Places.{tree_place_is, pair_place_is, fault_place_is}

-- ---- an answer by the place that was found

found : (g : Grid) (r : Rule) (p q : ℕ) (rest : Result Unit Refusal) → p ≡ q → p < g.E → refused r p ≡ broken_at g r q rest
found g r p q rest e h = sym (broken g r p rest (lt-ltb p g.E h)) ∙ ap (λ z. broken_at g r z rest) e

passed : (g : Grid) (r : Rule) (p q : ℕ) (rest : Result Unit Refusal) → p ≡ q → g.E ≤ p → broken_at g r q rest ≡ rest
passed g r p q rest e h = goes_past g r q rest (le-ltb q g.E (omega arith))

-- what a rule's answer tells of the number that a search gave
breaks : (r : Rule) (n p : ℕ) {place : Option ℕ} {said : Result Unit Refusal} {why : Refusal}
    → place ≡ some_below n p → said ≡ unbroken r place → said ≡ Err why → (p < n) × (said ≡ refused r p)
unfolding unbroken
breaks r n p {said = said} f a h = go (ltb p n) refl
  where
    go : (t : Bool) → ltb p n ≡ t → (p < n) × (said ≡ refused r p)
    go true t = (ltb-true p n t, a ∙ ap (unbroken r) (f ∙ some_found n p (ltb-true p n t)))
    go false t =
        let q : said ≡ Ok tt = a ∙ ap (unbroken r) (f ∙ none_found n p (ltb-false p n t)) in
        let z : ◌≡◌ {A = ℕ} 0 1 = cc in absurd (omega arith)

keeps : (r : Rule) (n p : ℕ) {place : Option ℕ} {said : Result Unit Refusal} {u : Unit {0}}
    → place ≡ some_below n p → said ≡ unbroken r place → said ≡ Ok u → n ≤ p
unfolding unbroken
keeps r n p {said = said} f a h = go (ltb p n) refl
  where
    go : (t : Bool) → ltb p n ≡ t → n ≤ p
    go true t =
        let q : said ≡ refused r p = a ∙ ap (unbroken r) (f ∙ some_found n p (ltb-true p n t)) in
        let z : ◌≡◌ {A = ℕ} 0 1 = cc in absurd (omega arith)
    go false t = omega (arith, ltb-false p n t)

-- the last rule's answer is what the definitions give where all before it are kept
told : (g : Grid) (r : Rule) (p : ℕ) → unbroken r (some_below g.E p) ≡ broken_at g r p (Ok tt)
unfolding unbroken some_below broken_at
told g r p = go (ltb p g.E)
  where
    go : (t : Bool) → unbroken r (elim t [ true ↦ Some p | false ↦ None ]) ≡ elim t [ true ↦ Err (record { rule = r; place = p }) | false ↦ Ok tt ]
    go true = refl
    go false = refl

module _ {load capacity flags from to head next far closed : List ℕ} {E K : ℕ} (ok : Checked load capacity flags from to head next far closed E K) where
  abbrev grid : Grid
  grid = grid_of E K load capacity flags from to

  abbrev config : Config
  config = closed_in closed

  fit96 : E ≤ 96
  fit96 = omega (arith, ok.elements_fit)

  -- the marks of the sound sources, and of the faulty elements
  sound_at : (sound : List ℕ) → sound ≡ bits 96 E (one_of flags 1 1) → (s : ℕ) → s < E → is_in sound s ≡ sound? grid s
  unfolding one_of sound? grid_of
  sound_at sound e s k = ap (λ (xs : List ℕ). is_in xs s) e ∙ is_in_bits 96 E _ s fit96 k ∙ or_self (eqb (at flags s) 1) ∙ sound_flag (at flags s)

  faulty_at : (faulty : List ℕ) → faulty ≡ bits 96 E (one_of flags 2 3) → (e : ℕ) → e < E → is_in faulty e ≡ grid.faulty e
  unfolding one_of grid_of
  faulty_at faulty q e k = ap (λ (xs : List ℕ). is_in xs e) q ∙ is_in_bits 96 E _ e fit96 k

  -- where every part is a tree, the load at each element is below 2 ^ 63
  pub trees_carried : (sound : List ℕ) → ltb (tree_place grid config) E ≡ false → Carries (walk_grid E K far load capacity) config sound
  unfolding grid_of
  trees_carried sound trees =
      carries E K load capacity flags from to ok.formed ok.elements_fit ok.lent.fit far ok.ends_a_lem ok.ends_b_lem
      config sound (safe_bridges grid ok.formed config (trees_kept grid ok.formed config trees)) ok.load_in_lem

  -- the lowest overloaded element over the lent lists
  pub over_lowest_is : (sound : List ℕ) → sound ≡ bits 96 E (one_of flags 1 1)
      → over_place (walk_grid E K far load capacity) config sound ≡ lowest_over grid config
  over_lowest_is sound sound_is =
      over_place_is E K load capacity flags from to ok.formed ok.elements_fit ok.lent.fit far ok.ends_a_lem ok.ends_b_lem
      config sound (sound_at sound sound_is)

  -- ---- with the parts

  module _ {parts : Parts} (parts_is : parts ≡ parts_of from to closed K) where
    label_wide : length parts.label ≡ 64
    label_wide = ap (λ (p : Parts). length p.label) parts_is ∙ label_long from to closed K

    label_fits : E ≤ length parts.label
    label_fits = omega (arith, ok.elements_fit, label_wide)

    pub labels_in : AllBelow 64 parts.label E
    labels_in x k = omega (arith, ap (λ (p : Parts). at p.label x) parts_is, label_below from to closed K x)

    label_at : (e : ℕ) → e < E → at parts.label e ≡ label grid config e
    label_at e k = ap (λ (p : Parts). at p.label e) parts_is
        ∙ grid_label E K load capacity flags from to closed ok.formed ok.elements_fit e k

    -- the lists that the searches go over: the marks f, and the last of each part
    module _ {has : List ℕ} (f : ℕ → Bool) (has-is : has ≡ bits 96 E f) where
      has_fits : E ≤ length has
      has_fits = omega (arith, fit96, ap length has-is ∙ length_bits 96 E f)

      pub last_asks : (E ≤ 64) × (E ≤ length parts.label) × (E ≤ length has)
      last_asks = (ok.elements_fit, label_fits, has_fits)

      pub over_asks : (E ≤ 64) × (E ≤ length has)
      over_asks = (ok.elements_fit, has_fits)

      pub last_reach : (sound : List ℕ) {last : List ℕ} → last ≡ last_of_part parts.label sound E → LastReach parts.label has last E
      last_reach sound e = record {
        label_long = label_fits;
        has_long = has_fits;
        label_in = λ x k. omega (arith, labels_in x k, ap length e ∙ length_lasts parts.label sound E);
      }

    -- ---- rule 14

    module _ {tree : Option ℕ} (tree_is : tree ≡ some_below E (least_looped parts.label parts.looped E))
        {said : Result Unit Refusal} (says : said ≡ unbroken NotATree tree) where
      tree_found : least_looped parts.label parts.looped E ≡ tree_place grid config
      unfolding grid_of
      tree_found = tree_place_is grid ok.formed config parts.label label_at parts.looped
          (λ x k. ap (λ (p : Parts). is_in p.looped x) parts_is
          ∙ grid_looped E K load capacity flags from to closed ok.formed ok.elements_fit x (omega (arith, ok.elements_fit)))

      pub not_a_tree : {why : Refusal} → said ≡ Err why → said ≡ safety grid config
      unfolding safety grid_of
      not_a_tree h =
          let b = breaks NotATree E (least_looped parts.label parts.looped E) tree_is says h in
          b.1 ∙ found grid NotATree _ (tree_place grid config) _ tree_found b.0

      module _ {u : Unit {0}} (kept : said ≡ Ok u) {sound : List ℕ} (sound_is : sound ≡ bits 96 E (one_of flags 1 1))
          {last : List ℕ} (last_is : last ≡ last_of_part parts.label sound E)
          {pair : Option ℕ} (pair_is : pair ≡ some_below E (lowest E (not_last parts.label sound last)))
          {said_2 : Result Unit Refusal} (says_2 : said_2 ≡ unbroken TwoSources pair) where
        trees : E ≤ least_looped parts.label parts.looped E
        trees = keeps NotATree E (least_looped parts.label parts.looped E) tree_is says kept

        pair_found : lowest E (not_last parts.label sound last) ≡ pair_place grid config
        unfolding grid_of
        pair_found = rw last_is (pair_place_is grid ok.formed config parts.label label_at ok.elements_fit
            sound (sound_at sound sound_is))

        -- ---- rule 15

        pub two_sources : {why : Refusal} → said_2 ≡ Err why → said_2 ≡ safety grid config
        unfolding safety grid_of
        two_sources h =
            let b = breaks TwoSources E (lowest E (not_last parts.label sound last)) pair_is says_2 h in
            b.1 ∙ found grid TwoSources _ (pair_place grid config) _ pair_found b.0
            ∙ sym (passed grid NotATree _ (tree_place grid config) _ tree_found trees)

        module _ {u_2 : Unit {0}} (kept_2 : said_2 ≡ Ok u_2) {faulty : List ℕ} (faulty_is : faulty ≡ bits 96 E (one_of flags 2 3))
            {fault : Option ℕ} (fault_is : fault ≡ some_below E (lowest E (with_last parts.label faulty last)))
            {said_3 : Result Unit Refusal} (says_3 : said_3 ≡ unbroken FaultWithSource fault) where
          lone : E ≤ lowest E (not_last parts.label sound last)
          lone = keeps TwoSources E (lowest E (not_last parts.label sound last)) pair_is says_2 kept_2

          fault_found : lowest E (with_last parts.label faulty last) ≡ fault_place grid config
          unfolding grid_of
          fault_found = rw last_is (fault_place_is grid ok.formed config parts.label label_at ok.elements_fit
              sound (sound_at sound sound_is) faulty (faulty_at faulty faulty_is))

          -- ---- rule 16

          pub fault_with_source : {why : Refusal} → said_3 ≡ Err why → said_3 ≡ safety grid config
          unfolding safety grid_of
          fault_with_source h =
              let b = breaks FaultWithSource E (lowest E (with_last parts.label faulty last)) fault_is says_3 h in
              b.1 ∙ found grid FaultWithSource _ (fault_place grid config) _ fault_found b.0
              ∙ sym (passed grid NotATree _ (tree_place grid config) _ tree_found trees
              ∙ passed grid TwoSources _ (pair_place grid config) _ pair_found lone)

          -- ---- rule 17

          pub loads_carried : Carries (walk_grid E K far load capacity) config sound
          loads_carried = trees_carried sound (le-ltb (tree_place grid config) E (omega (arith, tree_found, trees)))

          module _ {u_3 : Unit {0}} (kept_3 : said_3 ≡ Ok u_3)
              {over : Option ℕ} (over_is : over ≡ some_below E (over_place (walk_grid E K far load capacity) config sound))
              {said_4 : Result Unit Refusal} (says_4 : said_4 ≡ unbroken Overloaded over) where
            loads_left : safety grid config ≡ broken_at grid Overloaded (lowest_over grid config) (Ok tt)
            unfolding safety grid_of
            loads_left =
                passed grid NotATree _ (tree_place grid config) _ tree_found trees
                ∙ passed grid TwoSources _ (pair_place grid config) _ pair_found lone
                ∙ passed grid FaultWithSource _ (fault_place grid config) _ fault_found
                (keeps FaultWithSource E (lowest E (with_last parts.label faulty last)) fault_is says_3 kept_3)

            pub loads_told : said_4 ≡ safety grid config
            unfolding grid_of
            loads_told = says_4 ∙ ap (unbroken Overloaded) (over_is ∙ ap (some_below E) (over_lowest_is sound sound_is))
                ∙ told grid Overloaded (lowest_over grid config) ∙ sym loads_left

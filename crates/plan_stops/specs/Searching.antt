-- The search over the sets of switches that carries the parts along: it lists nothing, hands what was found so far on, looks at each set where it is
-- whole, and stops below a choice that closes a loop, joins two sources, or a fault to a source, or more to a source than it bears; where more parts
-- wait than switches are left; and where what was found says that no set behind the choices would be kept.
-- Internal: no promise to a user is said by it.
-- Assumes nothing.
use Rattle.std.specs.Prelude.{Bool, true, false, List, ℕ, zero, suc, ◌+◌, ◌-◌, ◌*◌, min, max, eqb, ltb, leb, set}
use Rattle.feeding.specs.Below.{gate}
use Rattle.feeding.specs.Networks.{at}
use Rattle.feeding.specs.Plans.{differ}
use Rattle.feeding_parts.specs.Labelling.{root_of}
use Rattle.plan_problem.specs.declared.Best.{Best}
use Rattle.plan_stops.specs.Holding.{has_source, clash, together, serves}

-- the switches that are searched by their place among them: the two ends, and whether it is closed at the start
pub record Switching : Type 0 where
  pub end_a : ℕ → ℕ
  pub end_b : ℕ → ℕ
  pub closed : ℕ → Bool

-- For each part one number is carried: what its source can bear more, or, where it has no source, what it asks.
-- two parts that hold x and y, with the numbers a and b: where one has a source, it bears what the other asks
unfoldable pub bears : (x y a b : ℕ) → Bool
bears x y a b = elim (has_source x) [ true ↦ leb b a | false ↦ elim (has_source y) [ true ↦ leb a b | false ↦ true ] ]

-- the number of the two together
unfoldable pub carried_on : (x y a b : ℕ) → ℕ
carried_on x y a b = elim (has_source x) [ true ↦ a - b | false ↦ elim (has_source y) [ true ↦ b - a | false ↦ a + b ] ]

-- a search goes on from the parts that no longer wait, the set so far, parents, what each part holds, and its number; it turns what was found into
-- what is found
abbrev pub Onward : Type 0 → Type 0
Onward S = (served s : ℕ) (parent holds spare : List ℕ) → S → S

-- over a switch that is closed between the parts with the roots x and y
unfoldable pub joining : {S : Type 0} → Onward S → (x y served s : ℕ) (parent holds spare : List ℕ) → S → S
joining onward x y served s parent holds spare = elim (eqb x y) [
  | true ↦ λ b. b
  | false ↦ elim (clash (at holds x) (at holds y)) [
    | true ↦ λ b. b
    | false ↦ elim (bears (at holds x) (at holds y) (at spare x) (at spare y)) [
      | true ↦ onward (served + gate (serves (at holds x) (at holds y)) 1) s (set parent (max x y) (min x y))
          (set holds (min x y) (together (at holds x) (at holds y)))
          (set spare (min x y) (carried_on (at holds x) (at holds y) (at spare x) (at spare y)))
      | false ↦ λ b. b
    ]
  ]
]

-- with the switch i operated, or left as it was: parts are joined where it ends closed
unfoldable pub deciding : {S : Type 0} → Switching → Onward S → (i : ℕ) (operate : Bool) (served s : ℕ) (parent holds spare : List ℕ) → S → S
deciding w onward i operate served s parent holds spare = elim (differ (w.closed i) operate) [
  | true ↦ joining onward (root_of parent (w.end_a i)) (root_of parent (w.end_b i)) served s parent holds spare
  | false ↦ onward served s parent holds spare
]

-- behind the choices s for the first i switches, n further ones to choose: a set counts where at least `want` of the parts that waited are served, and
-- each further switch serves one at most; `visit` keeps a set or leaves it, and `stop` tells that none behind the choices would be kept
unfoldable pub visited : {S : Type 0} → (stop : ℕ → ℕ → S → Bool) (visit : S → ℕ → S) → Switching
    → (want n i served s : ℕ) (parent holds spare : List ℕ) → S → S
visited stop visit w want zero i served s parent holds spare b = elim (ltb served want) [ true ↦ b | false ↦ visit b s ]
visited stop visit w want (suc n) i served s parent holds spare b = elim (ltb (served + suc n) want) [
  | true ↦ b
  | false ↦ elim (stop i s b) [
    | true ↦ b
    | false ↦ deciding w (visited stop visit w want n (suc i)) i false served (2 * s) parent holds spare
        (deciding w (visited stop visit w want n (suc i)) i true served (2 * s + 1) parent holds spare b)
  ]
]

-- the choices so far cost at least what the best set so far costs: `floor i s` is what those of the first i switches that s operates cost at least
unfoldable pub dearer : (floor : ℕ → ℕ → ℕ) → ℕ → ℕ → Best → Bool
dearer floor i s b = leb b.cost (floor i s)

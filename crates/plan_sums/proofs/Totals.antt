-- A sum over the elements that pass a test by one element more, and the three sums from the sets that the code makes: each set has the theory's elements.
-- Assumes nothing.
use mathlib.Core.Path.{◌≡◌, sym, ap, ap₂, ◌∙◌}
use mathlib.Core.Bool.{Bool, true, false, not, ◌&&◌, and-false}
use mathlib.Core.List.{List}
use Prim.Native.Nat.{ℕ, ◌+◌, ◌*◌, ◌<◌, ◌≤◌}
use lib.ListN.{length}
use native.Mathlib.Numerals.{add-one}
use native.Mathlib.Omega.{arith}
use borrow.Author.Tests.{eq-eqb, ne_eqb}
use Rattle.network.specs.declared.Network.{Network}
use Rattle.network.specs.Accepted.{WellFormed}
use Rattle.feeding.specs.Below.{gate, bits}
use Rattle.feeding.specs.Networks.{net_of, grid_of, at, is_in}
use Rattle.feeding.specs.Parts.{closed_in, live?}
use Rattle.feeding.specs.Restoration.{restorable?}
use Rattle.feeding.proofs.Below.{gate_le}
use Rattle.feeding.proofs.Sums.{sum_to_no, sum_to_more, sum_to_ext, sum_to_below}
use Rattle.feeding_restoration.proofs.Reach.{bits_long}
use Rattle.feeding_restoration.proofs.Sets.{set_at, fits}
use Rattle.feeding_start.specs.declared.Start.{Start}
use Rattle.feeding_start.specs.Starting.{Begun}
use Rattle.feeding_start.proofs.Starts.{restorable_of}
use Rattle.plan_sums.specs.Sums.{load_over, LoadsReach, sums_over, sums_after}
use Rattle.plan_sums.specs.declared.Sums.{Sums}

-- ---- one element more

module _ (load : ℕ → ℕ) (test : ℕ → Bool) where
  pub load_none : load_over load test 0 ≡ 0
  load_none = sum_to_no _

  pub load_more : (x : ℕ) → load_over load test (x + 1) ≡ load_over load test x + gate (test x) (load x)
  load_more x = ap (load_over load test) (add-one x) ∙ sum_to_more _ x

  pub load_most : (x : ℕ) → ((e : ℕ) → e < x → load e < 4294967296) → load_over load test x ≤ 4294967296 * x
  load_most x h = sum_to_below 4294967296 _ x (λ e k. omega (arith, gate_le (test e) (load e), h e k))

  load_on : (x sum sum' : ℕ) → sum ≡ load_over load test x → test x ≡ true → sum' ≡ sum + load x → sum' ≡ load_over load test (x + 1)
  load_on x sum sum' p on q =
      let more : load_over load test (x + 1) ≡ load_over load test x + load x = load_more x ∙ rw on in
      omega arith

  load_off : (x sum sum' : ℕ) → sum ≡ load_over load test x → test x ≡ false → sum' ≡ sum → sum' ≡ load_over load test (x + 1)
  load_off x sum sum' p off q =
      let more : load_over load test (x + 1) ≡ load_over load test x + 0 = load_more x ∙ rw off in
      omega arith

-- of sets as lists: what is asked of element x, in numbers

abbrev pub dark_in : (live restorable : List ℕ) → ℕ → Bool
dark_in live restorable e = is_in restorable e && not (is_in live e)

abbrev pub lost_in : (restorable : List ℕ) → ℕ → Bool
lost_in restorable e = not (is_in restorable e)

-- the three sums over the elements below x
pub record SumsTo (load live restorable : List ℕ) (x fed dark lost : ℕ) : Type 0 where
  pub fed_is : fed ≡ load_over (at load) (is_in live) x
  pub dark_is : dark ≡ load_over (at load) (dark_in live restorable) x
  pub lost_is : lost ≡ load_over (at load) (lost_in restorable) x

pub sums_none : (load live restorable : List ℕ) {x fed dark lost : ℕ} → x ≡ 0 → fed ≡ 0 → dark ≡ 0 → lost ≡ 0
    → SumsTo load live restorable x fed dark lost
sums_none load live restorable none f d l = rw none (record {
  fed_is = f ∙ sym (load_none (at load) (is_in live));
  dark_is = d ∙ sym (load_none (at load) (dark_in live restorable));
  lost_is = l ∙ sym (load_none (at load) (lost_in restorable));
})

-- one load more fits 64 bits
module _ {load live restorable : List ℕ} {n x fed dark lost : ℕ} (reach : LoadsReach load live restorable n)
    (sums : SumsTo load live restorable x fed dark lost) (k : x < n) where
  below : (test : ℕ → Bool) → load_over (at load) test x + at load x < 18446744073709551616
  below test =
      omega (arith, reach.fit, reach.load_in_lem x k, load_most (at load) test x (λ e h. reach.load_in_lem e (omega arith)))

  pub fed_fits : (own : ℕ) → own ≡ at load x → fed + own < 18446744073709551616
  fed_fits own e = omega (arith, sums.fed_is, below (is_in live))

  pub dark_fits : (own : ℕ) → own ≡ at load x → dark + own < 18446744073709551616
  dark_fits own e = omega (arith, sums.dark_is, below (dark_in live restorable))

  pub lost_fits : (own : ℕ) → own ≡ at load x → lost + own < 18446744073709551616
  lost_fits own e = omega (arith, sums.lost_is, below (lost_in restorable))

module _ (load live restorable : List ℕ) (x sum sum' : ℕ) where
  pub fed_on : sum ≡ load_over (at load) (is_in live) x → at live x ≡ 1 → sum' ≡ sum + at load x → sum' ≡ load_over (at load) (is_in live) (x + 1)
  fed_on p on q = load_on (at load) (is_in live) x sum sum' p (eq-eqb (at live x) 1 on) q

  pub fed_off : sum ≡ load_over (at load) (is_in live) x → (at live x ≡ 1 → ⊥) → sum' ≡ sum → sum' ≡ load_over (at load) (is_in live) (x + 1)
  fed_off p off q = load_off (at load) (is_in live) x sum sum' p (ne_eqb (at live x) 1 off) q

  pub dark_on : sum ≡ load_over (at load) (dark_in live restorable) x → at restorable x ≡ 1 → (at live x ≡ 1 → ⊥) → sum' ≡ sum + at load x
      → sum' ≡ load_over (at load) (dark_in live restorable) (x + 1)
  dark_on p can off q = load_on (at load) (dark_in live restorable) x sum sum' p (rw (eq-eqb (at restorable x) 1 can, ne_eqb (at live x) 1 off)) q

  pub dark_live : sum ≡ load_over (at load) (dark_in live restorable) x → at live x ≡ 1 → sum' ≡ sum → sum' ≡ load_over (at load) (dark_in live restorable) (x + 1)
  dark_live p on q = load_off (at load) (dark_in live restorable) x sum sum' p (rw (eq-eqb (at live x) 1 on) (and-false (is_in restorable x))) q

  pub dark_off : sum ≡ load_over (at load) (dark_in live restorable) x → (at restorable x ≡ 1 → ⊥) → sum' ≡ sum
      → sum' ≡ load_over (at load) (dark_in live restorable) (x + 1)
  dark_off p not-can q = load_off (at load) (dark_in live restorable) x sum sum' p (rw (ne_eqb (at restorable x) 1 not-can)) q

  pub lost_on : sum ≡ load_over (at load) (lost_in restorable) x → (at restorable x ≡ 1 → ⊥) → sum' ≡ sum + at load x → sum' ≡ load_over (at load) (lost_in restorable) (x + 1)
  lost_on p not-can q = load_on (at load) (lost_in restorable) x sum sum' p (rw (ne_eqb (at restorable x) 1 not-can)) q

  pub lost_off : sum ≡ load_over (at load) (lost_in restorable) x → at restorable x ≡ 1 → sum' ≡ sum → sum' ≡ load_over (at load) (lost_in restorable) (x + 1)
  lost_off p can q = load_off (at load) (lost_in restorable) x sum sum' p (rw (eq-eqb (at restorable x) 1 can)) q

-- ---- the three sums

same : {fed dark lost fed' dark' lost' : ℕ} → fed ≡ fed' → dark ≡ dark' → lost ≡ lost'
    → ◌≡◌ {A = Sums} (record { fed = fed; dark = dark; lost = lost }) (record { fed = fed'; dark = dark'; lost = lost' })
same a b c = rw (a, b, c)

-- those over the elements below x, where x is n
pub sums_at : (load : ℕ → ℕ) (live restorable : ℕ → Bool) (x n : ℕ) {fed dark lost : ℕ} → x ≡ n → fed ≡ load_over load live x
    → dark ≡ load_over load (λ e. restorable e && not (live e)) x → lost ≡ load_over load (λ e. not (restorable e)) x
    → ◌≡◌ {A = Sums} (record { fed = fed; dark = dark; lost = lost }) (sums_over load live restorable n)
unfolding sums_over
sums_at load live restorable x n e f d l = rw (← e) (same f d l)

pub sums_ext : (load : ℕ → ℕ) (live live' restorable restorable' : ℕ → Bool) (n : ℕ) → ((e : ℕ) → e < n → live e ≡ live' e)
    → ((e : ℕ) → e < n → restorable e ≡ restorable' e) → sums_over load live restorable n ≡ sums_over load live' restorable' n
unfolding sums_over
sums_ext load live live' restorable restorable' n l r = same
    (over live live' l)
    (over (λ e. restorable e && not (live e)) (λ e. restorable' e && not (live' e)) (λ e k. ap₂ (λ (a b : Bool). a && not b) (r e k) (l e k)))
    (over (λ e. not (restorable e)) (λ e. not (restorable' e)) (λ e k. ap not (r e k)))
  where
    over : (f g : ℕ → Bool) → ((e : ℕ) → e < n → f e ≡ g e) → load_over load f n ≡ load_over load g n
    over f g is = sum_to_ext n _ _ (λ e k. ap (λ (b : Bool). gate b (load e)) (is e k))

-- those over one element more
pub sums_more : (load : ℕ → ℕ) (live restorable : ℕ → Bool) (n : ℕ) (l : Sums) → l ≡ sums_over load live restorable n
    → sums_over load live restorable (n + 1) ≡ record {
      fed = l.fed + gate (live n) (load n);
      dark = l.dark + gate (restorable n && not (live n)) (load n);
      lost = l.lost + gate (not (restorable n)) (load n);
    }
unfolding sums_over
sums_more load live restorable n l e = rw e (same (load_more load live n) (load_more load (λ x. restorable x && not (live x)) n) (load_more load (λ x. not (restorable x)) n))

-- the set that is held since the start has 96 entries
pub restorable_long : (s : Start) → Begun s → 96 ≡ length s.restorable
restorable_long s begun = sym (bits_long _ _ _ (restorable_of s _ begun.made))

module _ (n : Network) (w : WellFormed n) where
  pub lists_reach : (live restorable : List ℕ) (m : ℕ) → m ≤ n.elements → m ≤ length live → m ≤ length restorable → LoadsReach n.load live restorable m
  lists_reach live restorable m h live_long restorable_long =
      record {
        fit = omega (arith, w.elements_fit);
        load_long = omega (arith, w.load_long, w.elements_fit);
        live_long = live_long;
        restorable_long = restorable_long;
        load_in_lem = λ e k. w.load_in_lem e (omega arith);
      }

  module _ (closed live restorable : List ℕ) (live_made : live ≡ bits 96 n.elements (live? (net_of n).grid (closed_in closed)))
      (restorable-made : restorable ≡ bits 96 n.elements (restorable? (net_of n))) where
    pub sums_are : sums_over (at n.load) (is_in live) (is_in restorable) n.elements ≡ sums_after (net_of n) (closed_in closed)
    unfolding sums_after net_of grid_of
    sums_are = sums_ext (at n.load) (is_in live) _ (is_in restorable) _ n.elements
        (λ e k. set_at n w n.elements _ live (fits n w) live_made e k)
        (λ e k. set_at n w n.elements _ restorable (fits n w) restorable-made e k)

-- The links that are closed while every operable switch is open, as an array.
-- Assumes nothing.
use mathlib.Core.Path.{◌≡◌, refl, ap, ◌∙◌}
use mathlib.Core.Bool.{Bool, true, not, ◌&&◌, and-false}
use Prim.Native.Nat.{ℕ, ◌<◌}
use native.Mathlib.Omega.{arith}
use lib.Dec.{ltb}
use lib.ListN.{length}
use Rattle.feeding.specs.Below.{bits, gate}
use Rattle.feeding.specs.Networks.{net_of, at, is_in}
use Rattle.feeding.specs.Parts.{sound?}
use Rattle.feeding.proofs.Lows.{at_tabulate}
use Rattle.feeding_sets.specs.Sets.{but_not}
use Rattle.feeding_restoration.proofs.Reach.{bits_long}
use Rattle.feeding_restoration.proofs.Sets.{set_at, fits}
use Rattle.feeding_start.specs.declared.Start.{Start}
use Rattle.feeding_start.specs.Starting.{Searchable}
use Rattle.feeding_start.proofs.Starts.{closed_of, sound_of}
use Rattle.plan_stops.specs.Candidates.{opened_by}
use Rattle.plan_candidates.specs.Candidates.{opened_in, based_on}

module _ (st : Start) (ok : Searchable st) where
  pub opened_long : length (opened_in st) ≡ 96
  unfolding opened_in
  opened_long = bits_long (opened_in st) st.net.links _ refl

  pub opened_at : (l : ℕ) → l < st.net.links → is_in (opened_in st) l ≡ based_on st l
  unfolding opened_in opened_by but_not
  opened_at l k =
      set_at st.net ok.formed st.net.links _ (opened_in st) ok.formed.links_fit refl l k
      ∙ ap (λ (x : Bool). x && not (is_in st.operable l)) (set_at st.net ok.formed st.net.links _ st.closed ok.formed.links_fit (closed_of st _ ok.made) l k)

  -- an operable switch is open
  pub opened_off : (l : ℕ) → is_in st.operable l ≡ true → l < st.net.links → at (opened_in st) l ≡ 0
  unfolding opened_in bits but_not
  opened_off l on k =
      at_tabulate 96 _ l (omega (arith, ok.formed.links_fit))
      ∙ ap (λ (b : Bool). gate (ltb l st.net.links && (is_in st.closed l && not b)) 1) on
      ∙ rw (and-false (is_in st.closed l), and-false (ltb l st.net.links))

  pub sources_at : (e : ℕ) → e < st.net.elements → is_in st.sound e ≡ sound? (net_of st.net).grid e
  sources_at = set_at st.net ok.formed st.net.elements _ st.sound (fits st.net ok.formed) (sound_of st _ ok.made)

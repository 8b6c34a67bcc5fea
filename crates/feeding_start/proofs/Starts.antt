-- What the value of a start holds, field by field, how long its sets are, and what of it a caller's code can use.
-- Assumes nothing.
use mathlib.Core.Path.{◌≡◌, refl, sym, ap, ◌∙◌}
use mathlib.Core.Bool.{Bool, true, false, true≢false}
use mathlib.Core.List.{List}
use Prim.Native.Nat.{ℕ, ◌<◌}
use native.Mathlib.Omega.{arith}
use lib.Dec.{ltb}
use borrow.Author.Tests.{ltb-true, ltb-false}
use lib.ListN.{length}
use Rattle.network.specs.declared.Network.{Network}
use Rattle.network.specs.Accepted.{WellFormed}
use Rattle.feeding.specs.Acceptance.{Starts}
use Rattle.feeding.specs.Below.{bits}
use Rattle.feeding.specs.Networks.{net_of, grid_of, is_in}
use Rattle.feeding.specs.Parts.{closed_in, sound?, live?}
use Rattle.feeding.specs.Restoration.{restorable?, operable?, operables, operables_by}
use Rattle.feeding.proofs.Bits.{bits_ext, is_in_beyond}
use Rattle.feeding.proofs.Tests.{operable?_out}
use Rattle.feeding.proofs.Views.{formed_net}
use Rattle.feeding_ends.specs.declared.OwnEnds.{OwnEnds}
use Rattle.feeding_parts.specs.Labelling.{parts_of}
use Rattle.feeding_sets.specs.Sets.{PartsReach, part_has, members}
use Rattle.feeding_restoration.proofs.Reach.{parts_reach}
use Rattle.feeding_restoration.specs.Joining.{joined_to}
use Rattle.feeding_restoration.proofs.Sets as Sets
use Rattle.feeding_start.specs.declared.Start.{Start}
use Rattle.feeding_start.specs.Starting.{all_ends, start_with, start_of, operable_in, Searchable, Begun}
use Rattle.feeding_start.proofs.Operable.{operables_are}

module _ (n : Network) (w : WellFormed n) where
  -- what `spread` asks of the labels of the starting configuration
  pub label_reach : (label closed has : List ℕ) → label ≡ (parts_of n.from n.to closed n.links).label → length has ≡ 96
      → PartsReach label has n.elements
  label_reach label closed has e long =
      rw e (parts_reach n.elements n.links n.from n.to closed (parts_of n.from n.to closed n.links) has w.elements_fit refl
      (omega (arith, w.elements_fit)))

  -- the sound sources spread over its parts: what is live at the start
  pub live_at : (label closed sound : List ℕ) → closed ≡ bits 96 n.links (net_of n).start_closed
      → label ≡ (parts_of n.from n.to closed n.links).label → sound ≡ bits 96 n.elements (sound? (net_of n).grid)
      → bits 96 n.elements (part_has label sound n.elements) ≡ bits 96 n.elements (live? (net_of n).grid (net_of n).start_closed)
  unfolding joined_to
  live_at label closed sound c e s =
      ap (λ (ls : List ℕ). bits 96 n.elements (part_has ls sound n.elements)) e
      ∙ Sets.live_is n w closed (net_of n).start_closed (Sets.set_at n w n.links _ closed w.links_fit c) sound s

-- a start of which each field is known
pub start_is : (n : Network) (own : OwnEnds) (closed sound faulty live restorable operable : List ℕ) → own ≡ all_ends n
    → closed ≡ bits 96 n.links (net_of n).start_closed
    → sound ≡ bits 96 n.elements (sound? (net_of n).grid)
    → faulty ≡ bits 96 n.elements (net_of n).grid.faulty
    → live ≡ bits 96 n.elements (live? (net_of n).grid (net_of n).start_closed)
    → restorable ≡ bits 96 n.elements (restorable? (net_of n))
    → operable ≡ bits 96 n.links (operable? (net_of n))
    → record { net = n; own = own; closed = closed; sound = sound; faulty = faulty; live = live; restorable = restorable; operable = operable } ≡ start_of n
unfolding start_with
start_is n own closed sound faulty live restorable operable o c s f v r p = rw (o, c, s, f, v, r, p)

-- the fields of a start, whichever switches are operable in it
module _ (s : Start) (op : ℕ → Bool) (made : s ≡ start_with s.net op) where
  pub own_of : s.own ≡ all_ends s.net
  unfolding start_with
  own_of = ap (λ (x : Start). x.own) made

  pub closed_of : s.closed ≡ bits 96 s.net.links (net_of s.net).start_closed
  unfolding start_with
  closed_of = ap (λ (x : Start). x.closed) made

  pub sound_of : s.sound ≡ bits 96 s.net.elements (sound? (net_of s.net).grid)
  unfolding start_with
  sound_of = ap (λ (x : Start). x.sound) made

  pub faulty_of : s.faulty ≡ bits 96 s.net.elements (net_of s.net).grid.faulty
  unfolding start_with
  faulty_of = ap (λ (x : Start). x.faulty) made

  pub live_of : s.live ≡ bits 96 s.net.elements (live? (net_of s.net).grid (net_of s.net).start_closed)
  unfolding start_with
  live_of = ap (λ (x : Start). x.live) made

  pub restorable_of : s.restorable ≡ bits 96 s.net.elements (restorable? (net_of s.net))
  unfolding start_with
  restorable_of = ap (λ (x : Start). x.restorable) made

  pub operable_of : s.operable ≡ bits 96 s.net.links op
  unfolding start_with
  operable_of = ap (λ (x : Start). x.operable) made

-- the same switches by another test
start_ext : (n : Network) (op op' : ℕ → Bool) → ((l : ℕ) → l < n.links → op l ≡ op' l) → start_with n op ≡ start_with n op'
unfolding start_with
start_ext n op op' same = rw (bits_ext 96 n.links op op' same) refl

-- the start of an accepted network
pub begun_network : (n : Network) → WellFormed n → Starts (net_of n) → Begun (start_of n)
unfolding start_with
begun_network n w starts = record { formed = w; starts = starts; made = refl }

module _ (s : Start) (b : Begun s) where
  -- its operable switches as a list
  pub operables_of : operable_in s ≡ operables (net_of s.net)
  unfolding members operables_by net_of grid_of
  operables_of = operables_are s.net b.formed s.operable (operable_of s _ b.made)

  -- a search can begin with it
  pub begun_searchable : Searchable s
  begun_searchable = record {
    formed = b.formed;
    safe = b.starts.safe;
    made = b.made ∙ start_ext s.net _ _ (λ l k. sym (at_link l k));
    inside = λ l on. inside l (ltb l s.net.links) refl on;
    switches = λ l on. (operable?_out (net_of s.net) (formed_net s.net b.formed) l (sym (at_link l (inside l (ltb l s.net.links) refl on)) ∙ on)).switch;
    few = omega (arith, ap length operables_of, b.starts.few);
  }
    where
      set_is : s.operable ≡ bits 96 s.net.links (operable? (net_of s.net))
      set_is = operable_of s _ b.made

      at_link : (l : ℕ) → l < s.net.links → is_in s.operable l ≡ operable? (net_of s.net) l
      at_link = Sets.set_at s.net b.formed s.net.links _ s.operable b.formed.links_fit set_is

      inside : (l : ℕ) (t : Bool) → ltb l s.net.links ≡ t → is_in s.operable l ≡ true → l < s.net.links
      inside l true t on = ltb-true l _ t
      inside l false t on = absurd (true≢false (sym on ∙ ap (λ (xs : List ℕ). is_in xs l) set_is ∙ is_in_beyond 96 s.net.links _ l (ltb-false l _ t)))

-- what is live in another configuration, from a start's sound sources
pub live_after : (s : Start) (op : ℕ → Bool) → s ≡ start_with s.net op → WellFormed s.net → (closed : List ℕ)
    → bits 96 s.net.elements (joined_to s.net.from s.net.to closed s.sound s.net.elements s.net.links)
    ≡ bits 96 s.net.elements (live? (net_of s.net).grid (closed_in closed))
live_after s op made w closed = Sets.live_is s.net w closed (closed_in closed) (λ _ _. refl) s.sound (sound_of s op made)

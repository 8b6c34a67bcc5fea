-- What the calls ask, from a well-formed network: lists are long enough, and ends and labels are elements.
-- Assumes nothing.
use mathlib.Core.Path.{◌≡◌, ap, ◌∙◌}
use mathlib.Core.Bool.{Bool}
use mathlib.Core.List.{List}
use Prim.Native.Nat.{ℕ, ◌≤◌}
use native.Mathlib.Omega.{arith}
use lib.ListN.{length}
use Rattle.network.specs.declared.Network.{Network}
use Rattle.network.specs.Accepted.{WellFormed}
use Rattle.feeding.specs.Below.{bits}
use Rattle.feeding.proofs.Bits.{length_bits}
use Rattle.feeding_parts.specs.declared.Parts.{Parts}
use Rattle.feeding_parts.specs.Labelling.{EndsBelow, parts_of}
use Rattle.feeding_parts.proofs.Grids.{label_below, label_long}
use Rattle.feeding_sets.specs.Sets.{Reach, PartsReach, EndsReach}
use Rattle.feeding_restoration.specs.Joining.{JoinsReach}

pub bits_long : (xs : List ℕ) (m : ℕ) (f : ℕ → Bool) → xs ≡ bits 96 m f → length xs ≡ 96
bits_long xs m f e = ap length e ∙ length_bits 96 m f

pub bits_reach : (xs : List ℕ) (m k : ℕ) (f : ℕ → Bool) → k ≤ 96 → xs ≡ bits 96 m f → Reach xs k
bits_reach xs m k f fit e = record { fit = fit; long = omega (arith, bits_long xs m f e) }

-- parts of any closed links, and a set
pub parts_reach : (E K : ℕ) (from to closed : List ℕ) (parts : Parts) (has : List ℕ) → E ≤ 64 → parts ≡ parts_of from to closed K → E ≤ length has
    → PartsReach parts.label has E
parts_reach E K from to closed parts has fit p h =
    rw p (record {
      fit = fit;
      label_long = omega (arith, label_long from to closed K);
      has_long = h;
      label_in = λ x _. label_below from to closed K x;
    })

pub joins_ends : (from to closed has : List ℕ) (E K : ℕ) → JoinsReach from to closed has E K → EndsBelow 64 from to closed K
joins_ends from to closed has E K r =
    record {
      from_long = r.from_long;
      to_long = r.to_long;
      closed_long = r.closed_long;
      from_in = λ l k. omega (arith, r.from_in l k, r.elements_fit);
      to_in = λ l k. omega (arith, r.to_in l k, r.elements_fit);
    }

module _ (n : Network) (w : WellFormed n) where
  pub network_joins : (closed has : List ℕ) → length closed ≡ 96 → length has ≡ 96 → JoinsReach n.from n.to closed has n.elements n.links
  network_joins closed has h k =
      record {
        elements_fit = w.elements_fit;
        links_fit = w.links_fit;
        from_long = omega (arith, w.from_long, w.links_fit);
        to_long = omega (arith, w.to_long, w.links_fit);
        closed_long = omega (arith, w.links_fit);
        has_long = omega (arith, w.elements_fit);
        from_in = w.from_in;
        to_in = w.to_in;
      }

  pub network_ends : (closed : List ℕ) → length closed ≡ 96 → EndsBelow 64 n.from n.to closed n.links
  network_ends closed h = joins_ends n.from n.to closed closed n.elements n.links (network_joins closed closed h h)

  -- a set of elements, asked at the ends of the links
  pub ends_reach : (has : List ℕ) → length has ≡ 96 → EndsReach n.from n.to has n.links
  ends_reach has h =
      record {
        fit = w.links_fit;
        from_long = omega (arith, w.from_long, w.links_fit);
        to_long = omega (arith, w.to_long, w.links_fit);
        from_in = λ l k. omega (arith, w.from_in l k, w.elements_fit);
        to_in = λ l k. omega (arith, w.to_in l k, w.elements_fit);
      }

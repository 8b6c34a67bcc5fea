-- The switches that the code marks are the operable ones, link by link, and their count is that of the list.
-- Assumes nothing.
use mathlib.Core.Path.{◌≡◌, sym, ap, ap₂, ◌∙◌}
use mathlib.Core.Bool.{Bool, not, ◌&&◌, ◌||◌, and_comm}
use mathlib.Core.List.{List}
use Prim.Native.Nat.{ℕ, ◌<◌}
use borrow.Author.Tests.{lt-ltb}
use Rattle.network.specs.declared.Network.{Network}
use Rattle.network.specs.Accepted.{WellFormed}
use Rattle.feeding.specs.Below.{bits}
use Rattle.feeding.specs.Networks.{net_of, grid_of, at, is_in}
use Rattle.feeding.specs.Parts.{live?}
use Rattle.feeding.specs.Restoration.{restorable?, waits?, operable?, operables, operables_by}
use Rattle.feeding.proofs.Lows.{those_ext}
use Rattle.feeding.proofs.Bits.{bits_ext}
use Rattle.feeding_sets.specs.Sets.{but_not, at_either_end, members}
use Rattle.feeding_restoration.proofs.Sets.{set_at, fits}

module _ (n : Network) (w : WellFormed n) where
  -- the operable switches, from what is fixed, live and restorable
  pub operable_is : (fixed live restorable waiting ends : List ℕ) → fixed ≡ bits 96 n.links (net_of n).fixed
      → live ≡ bits 96 n.elements (live? (net_of n).grid (net_of n).start_closed)
      → restorable ≡ bits 96 n.elements (restorable? (net_of n))
      → waiting ≡ bits 96 n.elements (but_not restorable live)
      → ends ≡ bits 96 n.links (at_either_end n.from n.to waiting)
      → bits 96 n.links (but_not ends fixed) ≡ bits 96 n.links (operable? (net_of n))
  unfolding operable? waits? net_of grid_of but_not at_either_end
  operable_is fixed live restorable waiting ends f v r x d = bits_ext 96 n.links _ _ (λ l k.
      ap₂ (λ (a b : Bool). a && not b)
      (set_at n w n.links _ ends w.links_fit d l k ∙ ap₂ ◌||◌ (waits_at (at n.from l) (w.from_in l k)) (waits_at (at n.to l) (w.to_in l k)))
      (set_at n w n.links _ fixed w.links_fit f l k)
      ∙ and_comm _ (not ((net_of n).fixed l))
      ∙ ap (λ (b : Bool). b && (not ((net_of n).fixed l) && (waits? (net_of n) (at n.from l) || waits? (net_of n) (at n.to l)))) (sym (lt-ltb l n.links k)))
    where
      waits_at : (e : ℕ) → e < n.elements → is_in waiting e ≡ waits? (net_of n) e
      waits_at e k = set_at n w n.elements _ waiting (fits n w) x e k
          ∙ ap₂ (λ (a b : Bool). a && not b) (set_at n w n.elements _ restorable (fits n w) r e k) (set_at n w n.elements _ live (fits n w) v e k)

  pub operables_are : (operable : List ℕ) → operable ≡ bits 96 n.links (operable? (net_of n)) → members operable n.links ≡ operables (net_of n)
  unfolding members operables_by net_of grid_of
  operables_are operable o = those_ext n.links _ _ (λ l k. set_at n w n.links _ operable w.links_fit o l k)

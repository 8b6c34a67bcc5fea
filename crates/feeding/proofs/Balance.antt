-- What a safe configuration feeds is restorable, since fixed links would make a fault live.
-- Assumes nothing.
use Prim.Native.Nat.{ℕ, ◌<◌}
use mathlib.Core.Path.{◌≡◌, sym, ◌∙◌}
use mathlib.Core.Bool.{false, false≢true}
use mathlib.Core.List.{List}
use Rattle.feeding.specs.Networks.{Net, Formed}
use Rattle.feeding.specs.Parts.{Config, Joined, here, over, Sound, Live}
use Rattle.feeding.specs.Plans.{Step, run, Good}
use Rattle.feeding.specs.Restoration.{FixedClosed, Spoiled, Restorable, itself, beside}
use Rattle.feeding.specs.Safety.{Safe}
use Rattle.feeding.proofs.Joins.{joined_trans, joined_sym}
use Rattle.feeding.proofs.Printed.{run_keeps}

-- fixed links stay closed on the way
pub fixed_kept : (net : Net) (op : ℕ → Type 0) → ((l : ℕ) → op l → net.fixed l ≡ false) → FixedClosed net net.start_closed
    → (q : List Step) → Good net op net.start_closed q → FixedClosed net (run net.start_closed q)
fixed_kept net op switches closed q g l k f = run_keeps net op net.start_closed q l (λ o. false≢true (sym (switches l o) ∙ f)) g ∙ closed l k f

module _ (net : Net) (formed : Formed net.grid) (c : Config)
    (kept : FixedClosed net c) (safe : Safe net.grid c) where
  fixed_joined : {d a : ℕ} → Joined net.grid net.fixed d a → Joined net.grid c d a
  fixed_joined here = here
  fixed_joined (over l k h t j) = over l k (kept l k h) t (fixed_joined j)

  -- a live element is not spoiled: the fault would be live
  live_unspoiled : {s e : ℕ} → Sound net.grid s → Joined net.grid c s e → ¬ Spoiled net e
  live_unspoiled {s} sound j r =
      safe.clear r.fault r.below r.faulty
      (record { source = s; sound = sound; joined = joined_trans net.grid c (joined_sym net.grid c (fixed_joined r.joined)) j })

  -- along the path of closed links from the sound source every element is live
  reached : {s e : ℕ} → Sound net.grid s → Joined net.grid c s e → Restorable net e
  reached sound here = itself sound.below sound.source (live_unspoiled sound here)
  reached sound (over l k h t j) = beside l k t (live_unspoiled sound (over l k h t j)) (reached sound j)

  pub live_restorable : (e : ℕ) → e < net.grid.E → Live net.grid c e → Restorable net e
  live_restorable e k r = reached r.sound r.joined

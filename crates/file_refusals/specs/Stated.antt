-- Document 01, "Files", and document 02: what the files of an input state. "Elements and links are numbered from 0 in file order, steps from 1."
-- Assumes nothing.
use Rattle.std.specs.Prelude.{◌≡◌, true, false, List, ◌∷◌, ◌++◌, ℕ, ◌+◌, ◌<◌, ◌≤◌, length, get_or, replicate}
use Rattle.network.specs.declared.Network.{Network}
use Rattle.file_stages.specs.declared.Stage.TheVariants.{Head, Elements, Links, PlanHead, Steps}
use Rattle.network.specs.Networks.{no_guard}
use Rattle.file_fields.specs.Fields.{word}
use Rattle.file_records.specs.Records.{kind_field}
use Rattle.file_plan.specs.declared.plan.Plan.{Plan}
use Rattle.file_refusals.specs.Breaking.{StatesElement}
use Rattle.file_refusals.specs.Files.{Stand, NetworkStands, PlanStands, KeepsNetwork}

-- an element has this own load, this capacity and these flags
pub record ElementIs (n : Network) (i load capacity flags : ℕ) : Type 0 where
  pub load_is : get_or n.load i 0 ≡ load
  pub capacity_is : get_or n.capacity i 0 ≡ capacity
  pub flags_is : get_or n.flags i 0 ≡ flags

-- "Kind 3, link, length 12: two different elements, form .., cost"; document 02: "Kind 8 is a switch laid out as kind 3 .. with one more field, the number of
-- its guard"; a number past the end of the lists has none, as links beyond K have none
pub record LinkIs (n : Network) (l from to form cost guard : ℕ) : Type 0 where
  pub from_is : get_or n.from l 0 ≡ from
  pub to_is : get_or n.to l 0 ≡ to
  pub form_is : get_or n.form l 0 ≡ form
  pub cost_is : get_or n.cost l 0 ≡ cost
  pub guard_is : get_or n.guard l no_guard ≡ guard

-- the guard that the record of a link states: none for kind 3
pub data StatesGuard (s : List ℕ) (at : ℕ) : ℕ → Type 0 where
  unguarded : kind_field s at ≡ 3 → StatesGuard s at no_guard
  guarded : kind_field s at ≡ 8 → StatesGuard s at (word s (at + 12))

-- the lists of a network are 64 elements and 96 links wide
pub record Wide (n : Network) : Type 0 where
  pub load_long : length n.load ≡ 64
  pub capacity_long : length n.capacity ≡ 64
  pub flags_long : length n.flags ≡ 64
  pub from_long : length n.from ≡ 96
  pub to_long : length n.to ≡ 96
  pub form_long : length n.form ≡ 96
  pub cost_long : length n.cost ≡ 96
  pub guard_long : length n.guard ≡ 96

-- The network file at the front of s states n: its head the counts, the records behind it elements and links by number; n has zeros elsewhere, and no guards.
pub record States (s : List ℕ) (n : Network) : Type 0 where
  pub elements : n.elements ≡ word s 4
  pub links : n.links ≡ word s 6
  pub wide : Wide n
  pub element : (i at load capacity flags : ℕ) → i < word s 4 → Stand s (word s 4) (word s 6) (Head ∷ replicate i Elements) 0 at
      → StatesElement s at load capacity flags → ElementIs n i load capacity flags
  pub no_element : (i : ℕ) → word s 4 ≤ i → ElementIs n i 0 0 0
  pub link : (l at guard : ℕ) → l < word s 6 → Stand s (word s 4) (word s 6) ((Head ∷ replicate (word s 4) Elements) ++ replicate l Links) 0 at
      → StatesGuard s at guard → LinkIs n l (word s (at + 4)) (word s (at + 6)) (word s (at + 8)) (word s (at + 10)) guard
  pub no_link : (l : ℕ) → word s 6 ≤ l → LinkIs n l 0 0 0 0 no_guard

-- "Kind 6, step, length 8: link number, state wanted (0 open, 1 closed)"
pub record StepIs (p : Plan) (i link state : ℕ) : Type 0 where
  pub link_is : get_or p.link i 0 ≡ link
  pub opens : state ≡ 0 → get_or p.close i false ≡ false
  pub closes : state ≡ 1 → get_or p.close i false ≡ true

-- the plan file at an offset of s, for a network of E elements and K links, states the plan p, whose lists are 255 steps wide
pub record StatesPlanIn (s : List ℕ) (E K head : ℕ) (p : Plan) : Type 0 where
  pub steps : p.steps ≡ word s (head + 4)
  pub link_long : length p.link ≡ 255
  pub close_long : length p.close ≡ 255
  pub step : (i at : ℕ) → i < word s (head + 4) → Stand s E K (PlanHead ∷ replicate i Steps) head at
      → StepIs p i (word s (at + 4)) (word s (at + 6))
  pub no_step : (i : ℕ) → word s (head + 4) ≤ i → StepIs p i 0 0

-- it stands behind its network file, which is at the front of s
abbrev pub StatesPlan : List ℕ → ℕ → Plan → Type 0
StatesPlan s head p = StatesPlanIn s (word s 4) (word s 6) head p

-- "The planning program reads one network file": s is one that keeps rules 1 to 13 and 20, and n is what it states
pub record NetworkOf (s : List ℕ) (n : Network) : Type 0 where
  pub keeps : KeepsNetwork s
  pub states : States s n

-- "The judging program reads a network file with a plan file directly behind it": they keep rules 1 to 13 and 20, and n and p are what they state
pub record BothOf (s : List ℕ) (n : Network) (p : Plan) : Type 0 where
  pub middle : ℕ
  pub network : NetworkStands s middle
  pub plan : PlanStands s middle (length s)
  pub states : States s n
  pub states_plan : StatesPlan s middle p

-- Documents 01 and 02, "Files": which record kinds may come at each stage of reading, and the stage after them.
-- Internal: what computes; `ComesNext` of `file_refusals` is the paper's table.
-- Assumes nothing.
use Rattle.std.specs.Prelude.{Bool, true, false, ℕ, eqb, Option, Some, None}
use Rattle.file_stages.specs.declared.Stage.{Stage}
use Rattle.file_stages.specs.declared.Stage.TheVariants.{Head, Elements, Links, End, PlanHead, Steps, PlanEnd, Over}

-- the first of two where the answer is true, the second where it is false
abbrev pub pick : Bool → Option Stage → Option Stage → Option Stage
pick true a b = a
pick false a b = b

-- the stages in their order: the rows of the table
abbrev pub stage_number : Stage → ℕ
stage_number Head = 0
stage_number Elements = 1
stage_number Links = 2
stage_number End = 3
stage_number PlanHead = 4
stage_number Steps = 5
stage_number PlanEnd = 6
stage_number Over = 7

-- a kind that may come leads to a stage; any other is refusal 2
abbrev pub goes_to : Bool → Stage → Option Stage
goes_to true s = Some s
goes_to false s = None

-- "A network file is one head, E elements, K links, one end. A plan file is one plan head, its steps, one end."
-- Kinds: 1 network head, 2 element, 3 link, 4 end, 5 plan head, 6 step; document 02: "Kind 7 may stand wherever kind 2 may", kind 8 "in the same
-- places" as kind 3
unfoldable pub next_stage : Stage → ℕ → Option Stage
next_stage Head k = goes_to (eqb k 1) Elements
next_stage Elements k = pick (eqb k 7) (Some Elements) (goes_to (eqb k 2) Elements)
next_stage Links k = pick (eqb k 8) (Some Links) (goes_to (eqb k 3) Links)
next_stage End k = goes_to (eqb k 4) PlanHead
next_stage PlanHead k = goes_to (eqb k 5) Steps
next_stage Steps k = goes_to (eqb k 6) Steps
next_stage PlanEnd k = goes_to (eqb k 4) Over
next_stage Over k = None

-- the kinds that are known; every kind but where what is read is compared with an earlier document's reading
abbrev pub every_kind : ℕ → Bool
every_kind k = true

-- the table where only some kinds are known
abbrev pub next_known : (ℕ → Bool) → Stage → ℕ → Option Stage
next_known known stage k = pick (known k) (next_stage stage k) None

-- the stage that follows once the last element, link or step is read
abbrev pub after_last : Stage → Stage
after_last Head = Head
after_last Elements = Links
after_last Links = End
after_last End = End
after_last PlanHead = PlanHead
after_last Steps = PlanEnd
after_last PlanEnd = PlanEnd
after_last Over = Over

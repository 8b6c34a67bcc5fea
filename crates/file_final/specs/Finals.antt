-- Document 02, item 4, in its own words: the first rule that the input of a trial final breaks, with its place, and what its files state; in one input, and lent apart.
-- Assumes nothing.
use Rattle.std.specs.Prelude.{List, ℕ, ◌+◌, ◌<◌, length}
use Rattle.network.specs.declared.Network.{Network}
use Rattle.network.specs.declared.refusal.Rule.TheVariants.{ByteAfterEnd}
use Rattle.network.specs.declared.refusal.Refusal.{Refusal}
use Rattle.file_fields.specs.Fields.{word}
use Rattle.file_plan.specs.declared.plan.Plan.{Plan}
use Rattle.file_refusals.specs.Files.{Stand, FirstBreak, plan_stages, NetworkStands, PlanStands, NetworkBreaks, PlanBreaks, FirstBroken, KeepsNetwork}
use Rattle.file_refusals.specs.Stated.{States, StatesPlanIn, StatesPlan, NetworkOf}

-- ---- one input: network file, first plan file, second plan file, directly behind one another

-- "Both files keep their own refusals, the first file's checked before the second's, and places count on through network, first and second file."
pub data FirstBrokenFinal (s : List ℕ) : Refusal → Type 0 where
  in_network_part : {f : Refusal} → NetworkBreaks s f → FirstBrokenFinal s f
  in_first_part : {start : ℕ} {f : Refusal} → NetworkStands s start → PlanBreaks s start f → FirstBrokenFinal s f
  in_second_part : {start middle : ℕ} {f : Refusal} → NetworkStands s start → PlanStands s start middle → PlanBreaks s middle f → FirstBrokenFinal s f
  -- "13. A byte follows the last end record (the place is that byte)."
  behind_second : {start middle end : ℕ} → NetworkStands s start → PlanStands s start middle → PlanStands s middle end → end < length s
      → FirstBrokenFinal s (record { rule = ByteAfterEnd; place = end })

-- "sets two plan files against one network": the files keep rules 1 to 13 and 20, n, p and q are what they state, and the plan files start at these offsets
pub record FinalOf (s : List ℕ) (n : Network) (p q : Plan) (start middle : ℕ) : Type 0 where
  pub network : NetworkStands s start
  pub first : PlanStands s start middle
  pub second : PlanStands s middle (length s)
  pub states : States s n
  pub states_first : StatesPlan s start p
  pub states_second : StatesPlan s middle q

-- ---- lent apart

-- a plan file t alone, for a network of E elements and K links: the first of rules 1 to 13 that it breaks, with its place from its own front
pub data FirstBrokenPlan (t : List ℕ) (E K : ℕ) : Refusal → Type 0 where
  in_plan_file : {f : Refusal} → FirstBreak t E K (plan_stages (word t 4)) 0 f → FirstBrokenPlan t E K f
  behind_plan_file : {end : ℕ} → Stand t E K (plan_stages (word t 4)) 0 end → end < length t → FirstBrokenPlan t E K (record { rule = ByteAfterEnd; place = end })

-- it keeps rules 1 to 13: it ends where t ends
abbrev pub KeepsPlan : List ℕ → (E K : ℕ) → Type 0
KeepsPlan t E K = Stand t E K (plan_stages (word t 4)) 0 (length t)

-- it keeps them, and p is what it states
pub record PlanOf (t : List ℕ) (E K : ℕ) (p : Plan) : Type 0 where
  pub keeps : KeepsPlan t E K
  pub states : StatesPlanIn t E K 0 p

-- "files lent apart each meet rule 13", "the first file's checked before the second's, and places count on through network, first and second file"
pub data FirstBrokenFiles (network first second : List ℕ) : Refusal → Type 0 where
  in_network_file : {f : Refusal} → FirstBroken network f → FirstBrokenFiles network first second f
  in_first_file : {f : Refusal} → KeepsNetwork network → FirstBrokenPlan first (word network 4) (word network 6) f
      → FirstBrokenFiles network first second (record { rule = f.rule; place = length network + f.place })
  in_second_file : {f : Refusal} → KeepsNetwork network → KeepsPlan first (word network 4) (word network 6)
      → FirstBrokenPlan second (word network 4) (word network 6) f
      → FirstBrokenFiles network first second (record { rule = f.rule; place = length network + length first + f.place })

-- the files keep rules 1 to 13 and 20, and n, p and q are what they state
pub record FilesOf (network first second : List ℕ) (n : Network) (p q : Plan) : Type 0 where
  pub network_of_lem : NetworkOf network n
  pub first_of : PlanOf first (word network 4) (word network 6) p
  pub second_of : PlanOf second (word network 4) (word network 6) q

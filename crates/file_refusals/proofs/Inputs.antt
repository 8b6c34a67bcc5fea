-- Refusals 1 to 13 and 20 both ways: each way of reading ends in one case of the paper's, and the paper's cases exclude one another.
-- Assumes nothing.
use mathlib.Core.Path.{◌≡◌, refl, sym, ap, subst, ◌∙◌}
use mathlib.Core.Bool.{Bool, true, false}
use mathlib.Core.List.{List, [], ◌∷◌, ◌++◌, append_assoc}
use Prim.Native.Nat.{ℕ, suc, ◌+◌, ◌≤◌}
use native.Mathlib.Omega.{arith}
use lib.Dec.{ltb}
use lib.ListN.{length, replicate, length-replicate}
use borrow.Author.Tests.{ltb-true, ltb-false}
use Rattle.network.specs.declared.refusal.Rule.TheVariants.{ByteAfterEnd}
use Rattle.network.specs.declared.refusal.Refusal.{Refusal}
use Rattle.network.specs.declared.Network.{Network}
use Rattle.network.specs.Networks.{empty_network}
use Rattle.network.specs.Refusals.{pick}
use Rattle.file_stages.specs.declared.Stage.{Stage}
use Rattle.file_stages.specs.declared.Stage.TheVariants.{Head, Elements, Links, End, PlanHead, Steps, PlanEnd}
use Rattle.file_fields.specs.Fields.{word}
use Rattle.file_fields.specs.Views.{nothing_seen, network_seen, links_seen}
use Rattle.file_records.proofs.Due.{due_kept}
use Rattle.file_network.specs.Runs.{Reading, refused, reached, read_on, records, always, as_is}
use Rattle.file_network.specs.NetworkFiles.{with_element, with_link, network_file}
use Rattle.file_network.specs.Inputs.{closed, network_input, network_input_by}
use Rattle.file_network.proofs.Runs.{run_same, run_count}
use Rattle.file_network.proofs.Parts.{head_run, elements_run, links_run, end_run, with_elements, with_links, network_chain}
use Rattle.file_network.proofs.Sizes.{head_read, elements_read, links_read, network_size}
use Rattle.file_plan.specs.declared.plan.Plan.{Plan}
use Rattle.file_plan.specs.PlanFiles.{empty_plan, with_step, plan_file}
use Rattle.file_plan.specs.Inputs.{plan_input_by}
use Rattle.file_plan.proofs.Parts.{plan_head_run, steps_run, plan_end_run, with_steps, plan_chain}
use Rattle.file_plan.proofs.Sizes.{plan_head_read, steps_read, plan_size}
use Rattle.file_both.specs.Inputs.{paired, plan_behind, plan_behind_by, both_input, both_input_by}
use Rattle.file_refusals.specs.Breaking.{Lead}
use Rattle.file_refusals.specs.Files.{Stand, network_stages, plan_stages, NetworkStands, PlanStands, PlanBreaks, FirstBroken, in_file, behind, FirstBrokenBoth, in_network, in_plan, behind_plan, KeepsNetwork, KeepsBoth}
use Rattle.file_refusals.proofs.Leads.{stand_lead, LinksPlaced, placed_sees, placed_next, none_placed}
use Rattle.file_refusals.proofs.Files.{stand_once, break_once, stand_unbroken, Ran, ran_then, one_ran, many_ran}

-- ---- the files

module _ (s : List ℕ) where
  -- the head, and the elements, in the network of the head's counts
  pub head_ran : Ran s (word s 4) (word s 6) (Head ∷ []) 0 (head_run s)
  head_ran = one_ran s (word s 4) (word s 6) (always nothing_seen) as_is 0 Head empty_network tt

  pub elements_run_ran : (i at : ℕ) (n : Network)
      → Ran s (word s 4) (word s 6) (replicate i Elements) at (records s (always nothing_seen) (with_element s) i at Elements n)
  elements_run_ran i at n =
      many_ran s (word s 4) (word s 6) (always nothing_seen) (with_element s) Elements (λ left at n. Unit) refl (λ left at n q. tt) (λ left at n kind long after d q. tt) i at n tt

  -- links behind all elements: the network that is seen has E elements and the links that stand before
  pub links_run_ran : (l at : ℕ) (n : Network) → LinksPlaced s (word s 4) l at n
      → Ran s (word s 4) (word s 6) (replicate l Links) at (records s network_seen (with_link s) l at Links n)
  unfolding network_seen
  links_run_ran =
      many_ran s (word s 4) (word s 6) network_seen (with_link s) Links (LinksPlaced s (word s 4)) refl (λ left at n q. (q.elements, placed_sees q))
      (λ left at n kind long after d q.
      let framed = (due_kept s (network_seen n) at Links d).framed in
      subst (λ (k : ℕ). LinksPlaced s (word s 4) left (at + k) (with_link s at n)) (sym framed.long_is)
      (placed_next (omega (arith, framed.least, framed.long_is)) q))

  -- no link stands before the first
  pub elements_placed : (l at : ℕ) (n : Network) → Stand s (word s 4) (word s 6) (Head ∷ replicate (word s 4) Elements) 0 at
      → records s (always nothing_seen) (with_element s) (word s 4) 8 Elements empty_network ≡ reached at Elements n → l ≤ 96
      → LinksPlaced s (word s 4) l at n
  unfolding with_element empty_network
  elements_placed l at n stand run few =
      let all : suc (length (replicate (word s 4) Elements)) ≡ 1 + word s 4 = omega (arith, length-replicate (word s 4) Elements) in
      let none : n.links ≡ 0 =
      run_same s (always nothing_seen) (with_element s) (word s 4) 8 Elements empty_network at Elements n run (λ m. m.links) (λ a m. refl) in
      let form : length n.form ≡ 96 =
      ap length (run_same s (always nothing_seen) (with_element s) (word s 4) 8 Elements empty_network at Elements n run (λ m. m.form) (λ a m. refl)) in
      let count = run_count s (always nothing_seen) (with_element s) (word s 4) 8 Elements empty_network at Elements n run (λ m. m.elements) (λ a m. refl) in
      none_placed (subst (λ (k : ℕ). Lead s k 0 at) all (stand_lead s stand)) (omega (arith, count)) none (omega (arith, form, few))

  pub elements_ran : Ran s (word s 4) (word s 6) (Head ∷ replicate (word s 4) Elements) 0 (with_elements s)
  elements_ran = ran_then s (word s 4) (word s 6) (Head ∷ []) (replicate (word s 4) Elements) 0 (head_run s) (elements_run s) head_ran more
    where
      more : (at : ℕ) (stage : Stage) (n : Network) → head_run s ≡ reached at stage n
          → Ran s (word s 4) (word s 6) (replicate (word s 4) Elements) at (elements_run s at stage n)
      more at stage n e =
          subst (λ (st : Stage). Ran s (word s 4) (word s 6) (replicate (word s 4) Elements) at (elements_run s at st n)) (sym (head_read s at stage n e).stage_is)
          (elements_run_ran (word s 4) at n)

  pub links_ran : Ran s (word s 4) (word s 6) ((Head ∷ replicate (word s 4) Elements) ++ replicate (word s 6) Links) 0 (with_links s)
  links_ran =
      ran_then s (word s 4) (word s 6) (Head ∷ replicate (word s 4) Elements) (replicate (word s 6) Links) 0 (with_elements s) (links_run s) elements_ran more
    where
      more : (at : ℕ) (stage : Stage) (n : Network) → with_elements s ≡ reached at stage n
          → Ran s (word s 4) (word s 6) (replicate (word s 6) Links) at (links_run s at stage n)
      more at stage n e =
          let read = elements_read s at stage n e in
          let stand = subst (Ran s (word s 4) (word s 6) (Head ∷ replicate (word s 4) Elements) 0) e elements_ran in
          subst (λ (st : Stage). Ran s (word s 4) (word s 6) (replicate (word s 6) Links) at (links_run s at st n)) (sym read.stage_is)
          (links_run_ran (word s 6) at n
          (elements_placed (word s 6) at n stand (rw read.stage_is at read.run) read.counts.links_fit))

  pub network_ran : Ran s (word s 4) (word s 6) (network_stages (word s 4) (word s 6)) 0 (network_file s)
  network_ran =
      subst (Ran s (word s 4) (word s 6) (network_stages (word s 4) (word s 6)) 0) (sym (network_chain s))
      (subst (λ (l : List Stage). Ran s (word s 4) (word s 6) (Head ∷ l) 0 (read_on (with_links s) (end_run s)))
      (append_assoc (replicate (word s 4) Elements) (replicate (word s 6) Links) (End ∷ []))
      (ran_then s (word s 4) (word s 6) ((Head ∷ replicate (word s 4) Elements) ++ replicate (word s 6) Links) (End ∷ []) 0 (with_links s) (end_run s) links_ran more))
    where
      more : (at : ℕ) (stage : Stage) (n : Network) → with_links s ≡ reached at stage n → Ran s (word s 4) (word s 6) (End ∷ []) at (end_run s at stage n)
      more at stage n e =
          subst (λ (st : Stage). Ran s (word s 4) (word s 6) (End ∷ []) at (end_run s at st n)) (sym (links_read s at stage n e).stage_is)
          (one_ran s (word s 4) (word s 6) (always nothing_seen) as_is at End n tt)

-- a plan file, in a network of so many elements and links
module _ (s : List ℕ) (E K : ℕ) where
  pub plan_head_ran : (head : ℕ) → Ran s E K (PlanHead ∷ []) head (plan_head_run s K head)
  plan_head_ran head = one_ran s E K (always (links_seen K)) as_is head PlanHead empty_plan tt

  pub steps_run_ran : (i at : ℕ) (p : Plan)
      → Ran s E K (replicate i Steps) at (records s (always (links_seen K)) (with_step s) i at Steps p)
  unfolding links_seen
  steps_run_ran i at p =
      many_ran s E K (always (links_seen K)) (with_step s) Steps (λ left at p. Unit) refl (λ left at p q. refl)
      (λ left at p kind long after d q. tt) i at p tt

  pub plan_ran : (at : ℕ) → Ran s E K (plan_stages (word s (at + 4))) at (plan_file s K at)
  plan_ran head =
      subst (Ran s E K (plan_stages (word s (head + 4))) head) (sym (plan_chain s K head))
      (ran_then s E K (PlanHead ∷ replicate (word s (head + 4)) Steps) (PlanEnd ∷ []) head (with_steps s K head) (plan_end_run s K head)
      (ran_then s E K (PlanHead ∷ []) (replicate (word s (head + 4)) Steps) head (plan_head_run s K head) (steps_run s K head)
      (plan_head_ran head)
      more)
      last)
    where
      more : (at : ℕ) (stage : Stage) (p : Plan) → plan_head_run s K head ≡ reached at stage p
          → Ran s E K (replicate (word s (head + 4)) Steps) at (steps_run s K head at stage p)
      more at stage p e =
          subst (λ (st : Stage). Ran s E K (replicate (word s (head + 4)) Steps) at (steps_run s K head at st p))
          (sym (plan_head_read s K head at stage p e).stage_is)
          (steps_run_ran (word s (head + 4)) at p)

      last : (at : ℕ) (stage : Stage) (p : Plan) → with_steps s K head ≡ reached at stage p
          → Ran s E K (PlanEnd ∷ []) at (plan_end_run s K head at stage p)
      last at stage p e =
          subst (λ (st : Stage). Ran s E K (PlanEnd ∷ []) at (plan_end_run s K head at st p))
          (sym (steps_read s K head at stage p e).stage_is)
          (one_ran s E K (always (links_seen K)) as_is at PlanEnd p tt)

-- ---- one case, and no other

first_once : (s : List ℕ) {f g : Refusal} → FirstBroken s f → FirstBroken s g → f ≡ g
first_once s (in_file x) (in_file y) = break_once s (word s 4) (word s 6) x y
first_once s (in_file x) (behind y _) = absurd (stand_unbroken s (word s 4) (word s 6) y x)
first_once s (behind x _) (in_file y) = absurd (stand_unbroken s (word s 4) (word s 6) x y)
first_once s (behind x _) (behind y _) = ap (λ (p : ℕ). record { rule = ByteAfterEnd; place = p }) (stand_once s (word s 4) (word s 6) x y)

keeps_unbroken : (s : List ℕ) {f : Refusal} → KeepsNetwork s → ¬ FirstBroken s f
keeps_unbroken s k (in_file x) = stand_unbroken s (word s 4) (word s 6) k x
keeps_unbroken s k (behind x h) = omega (arith, h, stand_once s (word s 4) (word s 6) k x)

both_once : (s : List ℕ) {f g : Refusal} → FirstBrokenBoth s f → FirstBrokenBoth s g → f ≡ g
both_once s (in_network x) (in_network y) = break_once s (word s 4) (word s 6) x y
both_once s (in_network x) (in_plan m y) = absurd (stand_unbroken s (word s 4) (word s 6) m x)
both_once s (in_network x) (behind_plan m y _) = absurd (stand_unbroken s (word s 4) (word s 6) m x)
both_once s (in_plan m x) (in_network y) = absurd (stand_unbroken s (word s 4) (word s 6) m y)
both_once s {f} (in_plan m x) (in_plan n y) =
    break_once s (word s 4) (word s 6) (subst (λ (at : ℕ). PlanBreaks s at f) (stand_once s (word s 4) (word s 6) m n) x) y
both_once s {f} (in_plan m x) (behind_plan n y _) =
    absurd (stand_unbroken s (word s 4) (word s 6) y (subst (λ (at : ℕ). PlanBreaks s at f) (stand_once s (word s 4) (word s 6) m n) x))
both_once s (behind_plan m x _) (in_network y) = absurd (stand_unbroken s (word s 4) (word s 6) m y)
both_once s {g = g} (behind_plan m x _) (in_plan n y) =
    absurd (stand_unbroken s (word s 4) (word s 6) x (subst (λ (at : ℕ). PlanBreaks s at g) (stand_once s (word s 4) (word s 6) n m) y))
both_once s (behind_plan {end = end} m x _) (behind_plan n y _) =
    ap (λ (p : ℕ). record { rule = ByteAfterEnd; place = p })
    (stand_once s (word s 4) (word s 6) (subst (λ (at : ℕ). PlanStands s at end) (stand_once s (word s 4) (word s 6) m n) x) y)

both_unbroken : (s : List ℕ) {f : Refusal} → KeepsBoth s → ¬ FirstBrokenBoth s f
both_unbroken s k (in_network x) = stand_unbroken s (word s 4) (word s 6) k.network x
both_unbroken s {f} k (in_plan m x) =
    stand_unbroken s (word s 4) (word s 6) k.plan (subst (λ (at : ℕ). PlanBreaks s at f) (stand_once s (word s 4) (word s 6) m k.network) x)
both_unbroken s k (behind_plan {end = end} m x h) =
    omega (arith, h, stand_once s (word s 4) (word s 6) k.plan (subst (λ (at : ℕ). PlanStands s at end) (stand_once s (word s 4) (word s 6) m k.network) x))

-- ---- the planner's input

abbrev ReadAs : List ℕ → Reading Network → Type 0
ReadAs s (refused f) = FirstBroken s f
ReadAs s (reached at stage n) = KeepsNetwork s

network_read_as : (s : List ℕ) → ReadAs s (network_input s)
unfolding network_input_by
network_read_as s = go (network_file s) refl (network_ran s)
  where
    go : (o : Reading Network) → network_file s ≡ o → Ran s (word s 4) (word s 6) (network_stages (word s 4) (word s 6)) 0 o → ReadAs s (read_on o (closed s))
    go (refused f) e x = in_file x
    go (reached at stage n) e x = ends (ltb at (length s)) refl
      where
        ends : (t : Bool) → ltb at (length s) ≡ t → ReadAs s (pick t (refused (record { rule = ByteAfterEnd; place = at })) (reached at stage n))
        ends true t = behind x (ltb-true at (length s) t)
        ends false t =
            let whole : at ≡ length s = omega (arith, ltb-false at (length s) t, (network_size s at stage n e).inside) in
            subst (NetworkStands s) whole x

-- an input is refused with this rule and place exactly where it is the first that it breaks
pub network_refused : (s : List ℕ) (f : Refusal) → (network_input s ≡ refused f → FirstBroken s f) × (FirstBroken s f → network_input s ≡ refused f)
network_refused s f = (λ e. subst (ReadAs s) e (network_read_as s), λ b. go (network_input s) refl (network_read_as s) b)
  where
    go : (o : Reading Network) → network_input s ≡ o → ReadAs s o → FirstBroken s f → network_input s ≡ refused f
    go (refused g) e x b = e ∙ ap refused (first_once s x b)
    go (reached at stage n) e x b = absurd (keeps_unbroken s x b)

-- and read exactly where it breaks none
pub network_kept : (s : List ℕ) → KeepsNetwork s → (at : ℕ) × (stage : Stage) × (n : Network) × (network_input s ≡ reached at stage n)
network_kept s k = go (network_input s) refl (network_read_as s)
  where
    go : (o : Reading Network) → network_input s ≡ o → ReadAs s o → (at : ℕ) × (stage : Stage) × (n : Network) × (network_input s ≡ reached at stage n)
    go (refused g) e x = absurd (keeps_unbroken s k x)
    go (reached at stage n) e x = (at, stage, n, e)

pub reached_keeps : (s : List ℕ) (at : ℕ) (stage : Stage) (n : Network) → network_input s ≡ reached at stage n → KeepsNetwork s
reached_keeps s at stage n e = subst (ReadAs s) e (network_read_as s)

-- ---- the judge's input

abbrev BothAs : List ℕ → Reading (Network × Plan) → Type 0
BothAs s (refused f) = FirstBrokenBoth s f
BothAs s (reached at stage x) = KeepsBoth s

both_read_as : (s : List ℕ) → BothAs s (both_input s)
unfolding both_input_by plan_behind_by plan_input_by
both_read_as s = go (network_file s) refl (network_ran s)
  where
    plan : (mid : ℕ) (n : Network) → NetworkStands s mid → (o : Reading Plan) → plan_file s (word s 6) mid ≡ o
        → Ran s (word s 4) (word s 6) (plan_stages (word s (mid + 4))) mid o → BothAs s (read_on (read_on o (closed s)) (paired n))
    plan mid n m (refused f) e x = in_plan m x
    plan mid n m (reached at stage p) e x = ends (ltb at (length s)) refl
      where
        ends : (t : Bool) → ltb at (length s) ≡ t
            → BothAs s (read_on (pick t (refused (record { rule = ByteAfterEnd; place = at })) (reached at stage p)) (paired n))
        ends true t = behind_plan m x (ltb-true at (length s) t)
        ends false t =
            let whole : at ≡ length s = omega (arith, ltb-false at (length s) t, (plan_size s (word s 6) mid at stage p e).inside) in
            record { middle = mid; network = m; plan = subst (PlanStands s mid) whole x }

    go : (o : Reading Network) → network_file s ≡ o → Ran s (word s 4) (word s 6) (network_stages (word s 4) (word s 6)) 0 o
        → BothAs s (read_on o (λ at stage n. plan_behind s at n))
    go (refused f) e x = in_network x
    go (reached mid stage n) e x =
        subst (λ (k : ℕ). BothAs s (read_on (read_on (plan_file s k mid) (closed s)) (paired n))) (sym (network_size s mid stage n e).links.links_are)
        (plan mid n x (plan_file s (word s 6) mid) refl (plan_ran s (word s 4) (word s 6) mid))

pub both_refused : (s : List ℕ) (f : Refusal) → (both_input s ≡ refused f → FirstBrokenBoth s f) × (FirstBrokenBoth s f → both_input s ≡ refused f)
both_refused s f = (λ e. subst (BothAs s) e (both_read_as s), λ b. go (both_input s) refl (both_read_as s) b)
  where
    go : (o : Reading (Network × Plan)) → both_input s ≡ o → BothAs s o → FirstBrokenBoth s f → both_input s ≡ refused f
    go (refused g) e x b = e ∙ ap refused (both_once s x b)
    go (reached at stage n) e x b = absurd (both_unbroken s x b)

pub both_kept : (s : List ℕ) → KeepsBoth s → (at : ℕ) × (stage : Stage) × (x : Network × Plan) × (both_input s ≡ reached at stage x)
both_kept s k = go (both_input s) refl (both_read_as s)
  where
    go : (o : Reading (Network × Plan)) → both_input s ≡ o → BothAs s o → (at : ℕ) × (stage : Stage) × (x : Network × Plan) × (both_input s ≡ reached at stage x)
    go (refused g) e x = absurd (both_unbroken s k x)
    go (reached at stage n) e x = (at, stage, n, e)

pub both_reached_keeps : (s : List ℕ) (at : ℕ) (stage : Stage) (x : Network × Plan) → both_input s ≡ reached at stage x → KeepsBoth s
both_reached_keeps s at stage x e = subst (BothAs s) e (both_read_as s)

-- Records one behind the other, by their lengths alone: they end at one place, and more of them end no sooner. So the
-- links that were read stand where the paper looks for them, and what is seen of them tells which earlier links are
-- switches, those of a lower number that are not fixed; by induction over the links.
-- Assumes nothing.
use mathlib.Core.Path.{◌≡◌, refl, sym, ap, subst, ◌∙◌}
use mathlib.Core.Bool.{Bool, true, false}
use mathlib.Core.List.{List, [], ◌∷◌, ◌++◌, append-nil}
use mathlib.Core.Logic.{◌↔◌, ◌⊎◌, inl, inr}
use Prim.Native.Nat.{ℕ, zero, suc, ◌+◌, ◌<◌, ◌≤◌}
use native.Mathlib.Omega.{arith}
use lib.Dec.{eqb, ltb}
use lib.ListN.{length, get_or, replicate, length-set, length-append, length-replicate}
use lib.Seq.{get_or-set_same, get_or-set_other}
use borrow.Author.Tests.{ltb-true, ltb-false, eqb-true, eqb-false}
use Rattle.network.specs.declared.Network.{Network}
use Rattle.network.specs.declared.refusal.Rule.TheVariants.{WrongLength, BadGuard}
use Rattle.file_stages.specs.declared.Stage.{Stage}
use Rattle.file_stages.specs.declared.Stage.TheVariants.{Head, Elements, Links}
use Rattle.file_fields.specs.Fields.{word}
use Rattle.file_fields.specs.Views.{network_seen}
use Rattle.file_records.specs.Records.{kind_field, length_field}
use Rattle.file_network.specs.NetworkFiles.{link_of, with_link}
use Rattle.file_refusals.specs.Breaking.{KindLength, Lead, none, next, EarlierSwitch, BreaksRule, Keeps}
use Rattle.file_refusals.specs.Breaking as Breaking
use Rattle.file_refusals.specs.Seeing.{SwitchSeen, SeesSwitches}
use Rattle.file_refusals.specs.Files.{Stand}
use Rattle.file_refusals.specs.Files as Files
use Rattle.file_refusals.proofs.Files.{stand_append, stand_split}

-- ---- one behind the other

module _ (s : List ℕ) where
  pub lead_once : {n at e e' : ℕ} → Lead s n at e → Lead s n at e' → e ≡ e'
  lead_once none none = refl
  lead_once (next x) (next y) = lead_once x y

  lead_on : {n at e : ℕ} → Lead s n at e → at ≤ e
  lead_on none = omega arith
  lead_on {at = at} (next x) = omega (arith, lead_on x)

  -- so many records more end no sooner
  pub lead_later : {n m at e e' : ℕ} → n ≤ m → Lead s n at e → Lead s m at e' → e ≤ e'
  lead_later h none y = lead_on y
  lead_later h (next x) none = absurd (omega (arith, h))
  lead_later h (next x) (next y) = lead_later (omega (arith, h)) x y

  -- one record more
  pub lead_more : {n at e : ℕ} → Lead s n at e → Lead s (suc n) at (e + length_field s e)
  lead_more none = next none
  lead_more (next x) = next (lead_more x)

  -- records that keep their rules stand by their lengths
  pub stand_lead : {E K : ℕ} {stages : List Stage} {at end : ℕ} → Stand s E K stages at end → Lead s (length stages) at end
  stand_lead Files.none = none
  stand_lead (Files.next k x) = next (stand_lead x)

-- ---- the links read so far

-- a link that was read stands where the paper looks for it, and its form is kept
pub record LinkPlaced (s : List ℕ) (E at : ℕ) (n : Network) (g : ℕ) : Type 0 where
  pub place : ℕ
  pub stands : Lead s (1 + E + g) 0 place
  pub earlier : place < at
  pub form_is : get_or n.form g 0 ≡ word s (place + 8)

-- behind E elements and the links of n, with room for so many more
pub record LinksPlaced (s : List ℕ) (E left at : ℕ) (n : Network) : Type 0 where
  pub elements : n.elements ≡ E
  pub lead : Lead s (1 + E + n.links) 0 at
  pub room : n.links + left ≤ length n.form
  pub placed : (g : ℕ) → g < n.links → LinkPlaced s E at n g

module _ {s : List ℕ} {E left at : ℕ} {n : Network} where
  -- an earlier link is one of those that were read
  pub placed_sees : LinksPlaced s E left at n → SeesSwitches s E at (network_seen n)
  unfolding network_seen
  placed_sees p =
      record {
        sees = λ g x. go g x (ltb g n.links) refl;
        stands = λ g x.
            let l = p.placed g x.below in
            record { place = l.place; stands = l.stands; earlier = omega (arith, l.earlier); switch = λ z. x.switch (omega (arith, l.form_is, z)) };
      }
    where
      go : (g : ℕ) → EarlierSwitch s E at g → (t : Bool) → ltb g n.links ≡ t → SwitchSeen (network_seen n) g
      go g x true t =
          let lt = ltb-true g n.links t in
          let l = p.placed g lt in
          let same : word s (l.place + 8) ≡ word s (x.place + 8) = ap (λ (a : ℕ). word s (a + 8)) (lead_once s l.stands x.stands) in
          record { below = lt; switch = λ z. x.switch (omega (arith, same, l.form_is, z)) }
      go g x false t =
          let ge = ltb-false g n.links t in
          absurd (omega (arith, x.earlier, lead_later s (omega (arith, ge)) p.lead x.stands))

  -- and one link more
  pub placed_next : 0 < length_field s at → LinksPlaced s E (suc left) at n → LinksPlaced s E left (at + length_field s at) (with_link s at n)
  unfolding with_link link_of
  placed_next long p =
      let more : suc (1 + E + n.links) ≡ 1 + E + (n.links + 1) = omega arith in
      record {
        elements = p.elements;
        lead = subst (λ (k : ℕ). Lead s k 0 (at + length_field s at)) more (lead_more s p.lead);
        room = omega (arith, p.room, length-set n.form n.links (word s (at + 8)));
        placed = λ g lt. go g lt (ltb g n.links) refl;
      }
    where
      go : (g : ℕ) → g < n.links + 1 → (t : Bool) → ltb g n.links ≡ t → LinkPlaced s E (at + length_field s at) (with_link s at n) g
      go g lt true t =
          let below = ltb-true g n.links t in
          let l = p.placed g below in
          record {
            place = l.place;
            stands = l.stands;
            earlier = omega (arith, l.earlier);
            form_is = get_or-set_other n.form n.links g (word s (at + 8)) 0 (omega (arith, below)) ∙ l.form_is;
          }
      go g lt false t =
          let last : n.links ≡ g = omega (arith, ltb-false g n.links t) in
          subst (LinkPlaced s E (at + length_field s at) (with_link s at n)) last
          (record {
            place = at;
            stands = p.lead;
            earlier = omega (arith, long);
            form_is = get_or-set_same n.form n.links (word s (at + 8)) 0 (omega (arith, p.room));
          })

  -- no link was read yet
  pub none_placed : Lead s (1 + E) 0 at → n.elements ≡ E → n.links ≡ 0 → left ≤ length n.form → LinksPlaced s E left at n
  none_placed lead elements unlinked room =
      let all : 1 + E ≡ 1 + E + n.links = omega (arith, unlinked) in
      record {
        elements = elements;
        lead = subst (λ (k : ℕ). Lead s k 0 at) all lead;
        room = omega (arith, unlinked);
        placed = λ g lt. absurd (omega (arith, unlinked, lt));
      }

-- ---- an earlier switch by its number

module _ (s : List ℕ) (E K : ℕ) where
  -- no record that keeps its rules is empty
  keeps_long : (at : ℕ) (stage : Stage) → Keeps s E K at stage → 0 < length_field s at
  keeps_long at stage keeps = go (ltb 0 (length_field s at)) refl
    where
      some : {kind long : ℕ} → KindLength kind long → 0 < long
      some Breaking.network_head = omega arith
      some Breaking.element = omega arith
      some Breaking.link = omega arith
      some Breaking.end = omega arith
      some Breaking.plan_head = omega arith
      some Breaking.step = omega arith
      some Breaking.wide_element_lem = omega arith
      some Breaking.guarded_link = omega arith

      go : (t : Bool) → ltb 0 (length_field s at) ≡ t → 0 < length_field s at
      go true t = ltb-true 0 (length_field s at) t
      go false t = absurd (keeps WrongLength (λ k. omega (arith, some k, ltb-false 0 (length_field s at) t)))

  -- of links one behind the other each keeps its rules, and stands before their end
  pub stand_links : (n l : ℕ) (b : List Stage) {at end : ℕ} → l < n → Stand s E K (replicate n Links ++ b) at end
      → (mid : ℕ) × Stand s E K (replicate l Links) at mid × Keeps s E K mid Links × (mid < end)
  stand_links zero l b h st = absurd (omega arith)
  stand_links (suc n) zero b {at = at} h (Files.next k st) =
      (at, Files.none, k, omega (arith, keeps_long at Links k, lead_on s (stand_lead s st)))
  stand_links (suc n) (suc l) b h (Files.next k st) =
      let r = stand_links n l b (omega arith) st in (r.0, Files.next k r.1, r.2, r.3)

  -- the record of link l stands there
  abbrev LinkStands : ℕ → ℕ → Type 0
  LinkStands l at = Stand s E K ((Head ∷ replicate E Elements) ++ replicate l Links) 0 at

  link_lead : (l at : ℕ) → LinkStands l at → Lead s (1 + E + l) 0 at
  link_lead l at st =
      let long : length ((Head ∷ replicate E Elements) ++ replicate l Links) ≡ 1 + E + l
      = simp (length-append, length-replicate) (omega arith) in
      subst (λ (n : ℕ). Lead s n 0 at) long (stand_lead s st)

  module _ (l at : ℕ) (stand : LinkStands l at) where
    -- a link of a lower number stands before
    lower : (g : ℕ) → g < l → (place : ℕ) × LinkStands g place × (place < at)
    lower g lt =
        let r = stand_split s E K (Head ∷ replicate E Elements) (replicate l Links) stand in
        let all = subst (λ xs. Stand s E K xs r.0 at) (sym (append-nil (replicate l Links))) r.2 in
        let q = stand_links l g [] lt all in
        (q.0, stand_append s E K r.1 q.1, q.3)

    -- "an earlier switch link": its number is lower, and its form is not 0
    pub earlier_number : (g : ℕ) → EarlierSwitch s E at g
        ↔ ((g < l) × ((place : ℕ) → LinkStands g place → ¬ (word s (place + 8) ≡ 0)))
    earlier_number g = (
      λ x. (below x (ltb g l) refl, λ place st. there x place (link_lead g place st)),
      λ h. back h.1 (lower g h.0),
    )
      where
        below : EarlierSwitch s E at g → (t : Bool) → ltb g l ≡ t → g < l
        below x true t = ltb-true g l t
        below x false t =
            let more : 1 + E + l ≤ 1 + E + g = omega (arith, ltb-false g l t) in
            absurd (omega (arith, x.earlier, lead_later s more (link_lead l at stand) x.stands))

        there : EarlierSwitch s E at g → (place : ℕ) → Lead s (1 + E + g) 0 place → ¬ (word s (place + 8) ≡ 0)
        there x place lead z = x.switch (ap (λ (p : ℕ). word s (p + 8)) (lead_once s x.stands lead) ∙ z)

        back : ((place : ℕ) → LinkStands g place → ¬ (word s (place + 8) ≡ 0))
            → ((place : ℕ) × LinkStands g place × (place < at)) → EarlierSwitch s E at g
        back unfixed (place, st, earlier) =
            record { place = place; stands = link_lead g place st; earlier = earlier; switch = unfixed place st }

    -- so rule 20 is broken where the guard's number is not lower, or that link is fixed
    pub guard_number : (stage : Stage) → kind_field s at ≡ 8 → BreaksRule s E K at stage BadGuard
        ↔ ((l ≤ word s (at + 12)) ⊎ ((place : ℕ) × LinkStands (word s (at + 12)) place × (word s (place + 8) ≡ 0)))
    guard_number stage eight = (λ b. go b.1 (ltb g l) refl, λ h. (eight, λ x. back x h))
      where
        g : ℕ
        g = word s (at + 12)

        Fixed : Type 0
        Fixed = (place : ℕ) × LinkStands g place × (word s (place + 8) ≡ 0)

        fixed : ¬ EarlierSwitch s E at g → g < l → (place : ℕ) → LinkStands g place → (t : Bool)
            → eqb (word s (place + 8)) 0 ≡ t → Fixed
        fixed no_switch lt place st true t = (place, st, eqb-true (word s (place + 8)) 0 t)
        fixed no_switch lt place st false t = absurd (no_switch ((earlier_number g).1 (lt, unfixed)))
          where
            unfixed : (p : ℕ) → LinkStands g p → ¬ (word s (p + 8) ≡ 0)
            unfixed p st' z =
                let same = lead_once s (link_lead g place st) (link_lead g p st') in
                eqb-false (word s (place + 8)) 0 t (ap (λ (x : ℕ). word s (x + 8)) same ∙ z)

        go : ¬ EarlierSwitch s E at g → (t : Bool) → ltb g l ≡ t → (l ≤ g) ⊎ Fixed
        go no_switch true t =
            let lt = ltb-true g l t in
            let r = lower g lt in
            inr (fixed no_switch lt r.0 r.1 (eqb (word s (r.0 + 8)) 0) refl)
        go no_switch false t = inl (ltb-false g l t)

        back : EarlierSwitch s E at g → (l ≤ g) ⊎ Fixed → ⊥
        back x (inl h) = omega (arith, h, ((earlier_number g).0 x).0)
        back x (inr (place, st, z)) = ((earlier_number g).0 x).1 place st z

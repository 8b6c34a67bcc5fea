-- What an accepted input promises of its network, and each answer of `accept` and `read_accepted` as its definition gives it.
-- Assumes nothing.
use mathlib.Core.Path.{◌≡◌, refl, sym, ap, ◌∙◌, subst}
use mathlib.Core.List.{List}
use Prim.Native.Nat.{ℕ, ◌<◌, ◌≤◌}
use lib.ListN.{length, get_or}
use borrow.Author.Tests.{lt-ltb, le-ltb}
use native.Mathlib.Omega.{arith}
use Rattle.std.specs.Prelude.{Result, Ok, Err}
use Rattle.network.specs.declared.Network.{Network}
use Rattle.network.specs.declared.refusal.Refusal.{Refusal}
use Rattle.network.specs.declared.refusal.Rule.TheVariants.{TooManyOperable}
use Rattle.network.specs.Accepted.{WellFormed}
use Rattle.file_network.specs.Inputs.{network_input, network_read}
use Rattle.file_refusals.proofs.Reading.{file_formed, network_read_lem}
use Rattle.feeding.specs.Below.{bits}
use Rattle.feeding.specs.Networks.{net_of, grid_of}
use Rattle.feeding.specs.Parts.{closed_in}
use Rattle.feeding.proofs.States.{safety_same}
use Rattle.feeding.proofs.Views.{formed_net}
use Rattle.feeding_restoration.proofs.Sets.{set_at}
use Rattle.feeding.specs.Restoration.{operables}
use Rattle.feeding.specs.Acceptance.{safety, limited, and_then, acceptance_by, answer_to}
use Rattle.feeding.specs.Tasks.{most_operable}
use Rattle.feeding_start.specs.declared.Start.{Start}
use Rattle.feeding_start.specs.Starting.{start_of, start_with}
use Rattle.feeding_acceptance.specs.Reading.{handed_out, accepted_read}

pub read_well_formed : (s : List ℕ) → ((i : ℕ) → get_or s i 0 < 256) → (n : Network) → network_read (network_input s) ≡ Ok n → WellFormed n
read_well_formed s bytes n e = file_formed s bytes n ((network_read_lem s n).0 e)

-- rule 18, by the count
limited_over : (limit count : ℕ) → limit < count → Err (record { rule = TooManyOperable; place = count }) ≡ limited limit count
unfolding limited
limited_over limit count h = rw (limited, lt-ltb limit count h)

limited_within : (limit count : ℕ) → count ≤ limit → Ok tt ≡ limited limit count
unfolding limited
limited_within limit count h = rw (limited, le-ltb limit count h)

module _ (start : Start) (made : start ≡ start_of start.net) (limit count : ℕ) (is : count ≡ length (operables (net_of start.net))) where
  pub over_limit : limit < count → Err (record { rule = TooManyOperable; place = count })
      ≡ handed_out start.net (limited limit (length (operables (net_of start.net))))
  unfolding handed_out
  over_limit h = ap (handed_out start.net) (limited_over limit count h ∙ ap (limited limit) is)

  pub within : count ≤ limit → Ok start ≡ handed_out start.net (limited limit (length (operables (net_of start.net))))
  unfolding handed_out
  within h = ap Ok made ∙ ap (handed_out start.net) (limited_within limit count h ∙ ap (limited limit) is)

-- the states at the start, held as numbers, are the configuration at the start
pub start_safety : (n : Network) → WellFormed n → (closed : List ℕ) → closed ≡ bits 96 n.links (net_of n).start_closed
    → safety (net_of n).grid (closed_in closed) ≡ safety (net_of n).grid (net_of n).start_closed
unfolding net_of grid_of
start_safety n w closed c =
    safety_same (net_of n).grid (formed_net n w) (closed_in closed) (net_of n).start_closed (set_at n w n.links _ closed w.links_fit c)

-- a start that is a network's own
module _ (n : Network) where
  pub start_made : (s : Start) → s ≡ start_of n → s ≡ start_of s.net
  unfolding start_with
  start_made s e = e ∙ ap (λ (x : Start). start_of x.net) (sym e)

  pub start_formed : WellFormed n → (s : Start) → s ≡ start_of n → WellFormed s.net
  unfolding start_with
  start_formed w s e = subst (λ (x : Start). WellFormed x.net) (sym e) w

  pub start_answer : (s : Start) → s ≡ start_of n
      → handed_out s.net (limited most_operable (length (operables (net_of s.net)))) ≡ handed_out n (limited most_operable (length (operables (net_of n))))
  unfolding start_with
  start_answer s e = ap (λ (x : Start). handed_out x.net (limited most_operable (length (operables (net_of x.net))))) e

-- rules 14 to 17 of the starting configuration, then 18
module _ (n : Network) (safe : Result Unit Refusal) (is : safe ≡ safety (net_of n).grid (net_of n).start_closed) where
  pub unsafe_answer : (r : Refusal) → safe ≡ Err r → Err r ≡ handed_out n (answer_to n)
  unfolding acceptance_by and_then handed_out
  unsafe_answer r e = rw (sym is ∙ e)

  pub safe_answer : (a : Result Start Refusal) (u : Unit) → safe ≡ Ok u → a ≡ handed_out n (limited most_operable (length (operables (net_of n)))) → a ≡ handed_out n (answer_to n)
  unfolding acceptance_by and_then
  safe_answer a u e h = rw (sym is ∙ e) h

pub read_refused : (read : Result Network Refusal) (r : Refusal) → read ≡ Err r → Err r ≡ accepted_read read
unfolding accepted_read
read_refused read r e = rw e

pub read_decided : (read : Result Network Refusal) (n : Network) (x : Result Start Refusal) → read ≡ Ok n → x ≡ handed_out n (answer_to n) → x ≡ accepted_read read
unfolding accepted_read
read_decided read n x e k = rw e k

-- what is answered tells whether the network is accepted
pub handed_accepted : (n : Network) (a : Result Unit Refusal) (s : Start) → handed_out n a ≡ Ok s → (a ≡ Ok tt) × (s ≡ start_of n)
unfolding handed_out
handed_accepted n (Ok u) s e = let same : start_of n ≡ s = cc in (refl, sym same)
handed_accepted n (Err r) s e = let z : ◌≡◌ {A = ℕ} 0 1 = cc in absurd (omega arith)

pub handed_refused : (n : Network) (a : Result Unit Refusal) (r : Refusal) → handed_out n a ≡ Err r → a ≡ Err r
unfolding handed_out
handed_refused n (Ok u) r e = let z : ◌≡◌ {A = ℕ} 0 1 = cc in absurd (omega arith)
handed_refused n (Err q) r e = let same : q ≡ r = cc in ap Err same

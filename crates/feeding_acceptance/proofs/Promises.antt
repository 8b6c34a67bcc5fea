-- Rules 1 to 18 and 20 from the bytes to the paper's terms: each way of reading and of judging ends in one case of
-- `Admission`.
-- Assumes nothing.
use mathlib.Core.Path.{◌≡◌, refl, sym, ap, ◌∙◌, subst}
use mathlib.Core.List.{List}
use Prim.Native.Nat.{ℕ}
use native.Mathlib.Omega.{arith}
use Rattle.std.specs.Prelude.{Result, Ok, Err}
use Rattle.network.specs.declared.Network.{Network}
use Rattle.network.specs.declared.refusal.Refusal.{Refusal}
use Rattle.network.specs.Accepted.{WellFormed}
use Rattle.file_network.specs.Inputs.{network_input, network_read}
use Rattle.file_refusals.specs.Stated.{NetworkOf}
use Rattle.file_refusals.proofs.Reading.{network_unread, file_formed, network_read_lem}
use Rattle.feeding.specs.Networks.{net_of}
use Rattle.feeding.specs.Acceptance.{Answered, Starts, answer_to}
use Rattle.feeding.proofs.Views.{network_answered, answered_network, accepted_starts}
use Rattle.feeding_start.specs.declared.Start.{Start}
use Rattle.feeding_start.specs.Starting.{start_of, start_with, Begun}
use Rattle.feeding_start.proofs.Starts.{begun_network}
use Rattle.feeding_acceptance.specs.Reading.{handed_out, accepted_read, Bytes, AcceptedNetwork, FirstRule, in_bytes, in_network, Admission}
use Rattle.feeding_acceptance.specs.Reading as Reading

-- what s is admitted as, with the start: the cases of `Admission`
pub data Admits (s : List ℕ) : Result Start Refusal → Type 0 where
  refused : {f : Refusal} → FirstRule s f → Admits s (Err f)
  accepted : (n : Network) → AcceptedNetwork s n → Admits s (Ok (start_of n))

admits_admission : (s : List ℕ) (r : Result Start Refusal) → Admits s r → Admission s r
unfolding start_with
admits_admission s _ (refused f) = Reading.refused f
admits_admission s _ (accepted n a) = Reading.accepted (start_of n) a

pub same_refusal : {f g : Refusal} → ◌≡◌ {A = Result Start Refusal} (Err f) (Err g) → f ≡ g
same_refusal e = cc

module _ (s : List ℕ) (bytes : Bytes s) where
  -- whatever is admitted of s is what `read_accepted` answers, so bytes have one admission
  pub admission_only : (r : Result Start Refusal) → Admits s r → r ≡ accepted_read (network_read (network_input s))
  unfolding accepted_read handed_out
  admission_only _ (refused {f = f} (in_bytes b)) = ap accepted_read (sym ((network_unread s f).1 b))
  admission_only _ (refused {f = f} (in_network n file h)) =
      ap (handed_out n) (answered_network n (file_formed s bytes n file) (Err f) h) ∙ ap accepted_read (sym ((network_read_lem s n).1 file))
  admission_only _ (accepted n a) =
      ap (handed_out n) (answered_network n (file_formed s bytes n a.file) (Ok tt) a.kept) ∙ ap accepted_read (sym ((network_read_lem s n).1 a.file))

  -- a network that was read and found well formed
  admission_network : (n : Network) → NetworkOf s n → (a : Result Unit Refusal) → Answered (net_of n) a → Admits s (handed_out n a)
  unfolding handed_out
  admission_network n file (Ok u) h = accepted n (record { file = file; kept = h })
  admission_network n file (Err r) h = refused (in_network n file h)

  admission_read : (read : Result Network Refusal) → network_read (network_input s) ≡ read → Admits s (accepted_read read)
  unfolding accepted_read
  admission_read (Ok n) e =
      let file : NetworkOf s n = (network_read_lem s n).0 e in
      admission_network n file (answer_to n) (network_answered n (file_formed s bytes n file))
  admission_read (Err r) e = refused (in_bytes ((network_unread s r).0 e))

  -- the theorem, for what `read_accepted` answers
  pub input_admission : Admits s (accepted_read (network_read (network_input s)))
  input_admission = admission_read (network_read (network_input s)) refl

  -- an accepted input: a well-formed network that starts safe, with no more operable switches than may be
  pub network_starts : (n : Network) → AcceptedNetwork s n → WellFormed n × Starts (net_of n)
  network_starts n a =
      let formed = file_formed s bytes n a.file in
      (formed, accepted_starts n formed (sym (answered_network n formed (Ok tt) a.kept)))

  -- bytes have one accepted network, or one first rule that they break
  pub network_once : (n m : Network) → AcceptedNetwork s n → AcceptedNetwork s m → n ≡ m
  unfolding start_with
  network_once n m a b =
      let same : ◌≡◌ {A = Result Start Refusal} (Ok (start_of n)) (Ok (start_of m)) = admission_only _ (accepted n a) ∙ sym (admission_only _ (accepted m b)) in
      let start : start_of n ≡ start_of m = cc in
      ap (λ (x : Start). x.net) start

  pub first_rule_once : (f g : Refusal) → FirstRule s f → FirstRule s g → f ≡ g
  first_rule_once f g a b = same_refusal (admission_only _ (refused a) ∙ sym (admission_only _ (refused b)))

  pub accepted_unrefused : (n : Network) (f : Refusal) → AcceptedNetwork s n → ¬ FirstRule s f
  accepted_unrefused n f a r =
      let same : ◌≡◌ {A = Result Start Refusal} (Ok (start_of n)) (Err f) = admission_only _ (accepted n a) ∙ sym (admission_only _ (refused r)) in
      let z : ◌≡◌ {A = ℕ} 0 1 = cc in
      absurd (omega arith)

  -- what was read, for the code that calls `read_accepted`
  module _ (read : Result Start Refusal) (is : read ≡ accepted_read (network_read (network_input s))) where
    pub read_admission : Admits s read
    read_admission = subst (Admits s) (sym is) input_admission

    -- both clauses of `read_accepted`
    pub read_admitted : (read ≡ accepted_read (network_read (network_input s))) × Admission s read
    read_admitted = (is, admits_admission s read read_admission)

    -- an accepted file's network is well formed and starts safe, and the start is its own
    pub read_begun : (start : Start) → read ≡ Ok start → Begun start
    read_begun start e = go read read_admission e
      where
        go : (r : Result Start Refusal) → Admits s r → r ≡ Ok start → Begun start
        go _ (refused _) e = let z : ◌≡◌ {A = ℕ} 0 1 = cc in absurd (omega arith)
        go _ (accepted n a) e =
            let same : start_of n ≡ start = cc in
            subst Begun same (begun_network n (network_starts n a).0 (network_starts n a).1)

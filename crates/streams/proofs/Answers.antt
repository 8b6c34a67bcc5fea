-- Each answer of a read is one of three, and what was read lies within the buffer: by cases on the answer.
-- Assumes nothing.
use Rattle.std.proofs.Common.{◌≡◌, ℕ, zero, suc, ◌+◌, ◌<◌, ◌≤◌, min, List, length, take, drop, length-take, length-drop, length-take-le, Result, Ok, Err, sym, ap, subst, ◌∙◌, arith}
use Rattle.std.proofs.Math.Nat.{min-le_right}
use Rattle.streams.specs.declared.Input.{Input}
use Rattle.streams.specs.declared.Input.TheVariants as Input·
use Rattle.streams.specs.Streams.{IsPrefixLen, input_after, Held, Grown, Ended}

pub failed : {E : Type 0} (got : Result ℕ E) (e : E) (at room : ℕ) → got ≡ Err e → Input·.Failed ≡ input_after got at room
unfolding input_after
failed {E} got e at room is = ap (λ (g : Result ℕ E). input_after g at room) (sym is)

pub came : {E : Type 0} (got : Result ℕ E) (k at room n m : ℕ) → got ≡ Ok k → 0 < k → n ≡ min k room → m ≡ at + n → Input·.More m ≡ input_after got at room
unfolding input_after
came {E} got zero at room n m is some e s = absurd (omega arith)
came {E} got (suc k) at room n m is some e s =
    ap Input·.More (s ∙ ap (λ (j : ℕ). at + j) e) ∙ ap (λ (g : Result ℕ E). input_after g at room) (sym is)

pub ended : {E : Type 0} (got : Result ℕ E) (at room : ℕ) → got ≡ Ok 0 → Input·.Whole at ≡ input_after got at room
unfolding input_after
ended {E} got at room is = ap (λ (g : Result ℕ E). input_after g at room) (sym is)

-- ---- what was read lies within the buffer

counted : (n : ℕ) (buffer : List ℕ) → n ≤ length buffer → IsPrefixLen n buffer
counted n buffer h = (h, sym (length-take-le n buffer h))

pub held : {E : Type 0} (got : Result ℕ E) (at room : ℕ) (buffer : List ℕ) (r : Input) → r ≡ input_after got at room → at + room ≤ length buffer → Held r buffer
unfolding input_after
held (Err e) at room buffer r is h = subst (λ (i : Input). Held i buffer) (sym is) tt
held (Ok zero) at room buffer r is h = subst (λ (i : Input). Held i buffer) (sym is) (counted at buffer (omega arith))
held (Ok (suc k)) at room buffer r is h =
    let x = min-le_right (suc k) room in
    subst (λ (i : Input). Held i buffer) (sym is) (counted (at + min (suc k) room) buffer (omega arith))

pub grown : {E : Type 0} (got : Result ℕ E) (from at room : ℕ) (buffer : List ℕ) (r : Input) → r ≡ input_after got at room → at ≡ min from (length buffer) → Grown from r buffer
unfolding input_after
grown (Err e) from at room buffer r is h = subst (λ (i : Input). Grown from i buffer) (sym is) tt
grown (Ok zero) from at room buffer r is h = subst (λ (i : Input). Grown from i buffer) (sym is) h
grown (Ok (suc k)) from at room buffer r is h = subst (λ (i : Input). Grown from i buffer) (sym is) (omega arith)

pub part_within : (at k : ℕ) (buffer : List ℕ) → at ≤ length buffer → at + length (take k (drop at buffer)) ≤ length buffer
part_within at k buffer h =
    let cut = length-take k (drop at buffer) in
    let rest = length-drop at buffer in
    let x = min-le_right k (length (drop at buffer)) in
    omega arith

pub ended_whole : (r : Input) (n : ℕ) (buffer : List ℕ) → r ≡ Input·.Whole n → Held r buffer → Ended r buffer
ended_whole r n buffer e h = subst (λ (i : Input). Ended i buffer) (sym e) (subst (λ (i : Input). Held i buffer) e h)

pub ended_failed : (r : Input) (buffer : List ℕ) → r ≡ Input·.Failed → Ended r buffer
ended_failed r buffer e = subst (λ (i : Input). Ended i buffer) (sym e) tt

-- for a caller that goes on where the input is whole
pub whole_counted : (r : Input) (n : ℕ) (buffer : List ℕ) → Ended r buffer → r ≡ Input·.Whole n → IsPrefixLen n buffer
whole_counted r n buffer h e = subst (λ (i : Input). Ended i buffer) e h

-- What a reader's known bytes are in front of the buffer: by the lengths.
-- Assumes nothing.
use Rattle.std.proofs.Common.{◌≡◌, ℕ, zero, suc, ◌+◌, ◌<◌, ◌≤◌, min, List, [], ◌∷◌, ◌++◌, length, take, length-take-le, length-append, take_all, Option, Result, Ok, Err, refl, sym, ap, ◌∙◌, subst, IfSome, None, Some, append-nil, append_assoc, take-take, arith}
use Rattle.std.proofs.lemmas.List.{take-append-le}
use Rattle.std.proofs.Math.Seq.{take-append-add}
use Rattle.std.specs.Io.{ReadsAtMost}
use Rattle.std.specs.Io.KnownBytes.{Consumes, IsAtEnd, ReadConsumes}
use borrow.Rule.Slice.PartMut.{put_mid, post_of}
use Rattle.streams.specs.declared.Input.{Input}
use Rattle.streams.specs.declared.Input.TheVariants as Input·
use Rattle.streams.specs.Streams.{input_after, Brings, Shows}

-- what comes behind a front that was cut shows as if nothing had been cut
pub cut_front : (n : ℕ) (xs ys : List ℕ) → take n (take n xs ++ ys) ≡ take n (xs ++ ys)
cut_front zero xs ys = refl
cut_front (suc n) [] ys = refl
cut_front (suc n) (x ∷ xs) ys = ap (λ (l : List ℕ). x ∷ l) (cut_front n xs ys)

-- a part that was written behind the front
pub part_put :
    (at k m : ℕ) (before part : List ℕ) →
    at ≤ length before →
    k ≤ length part →
    take (at + k) (put_mid at m before part) ≡ take at before ++ take k part
part_put at k m before part within got =
    let front = length-take-le at before within in
    let cut = take-append-le k part (post_of at m before) got in
    ap (λ (n : ℕ). take (n + k) (put_mid at m before part)) (sym front)
    ∙ (take-append-add (take at before) (part ++ post_of at m before) k ∙ ap (λ (l : List ℕ). take at before ++ l) cut)

pub part_shown :
    (at k m : ℕ) (before part : List ℕ) →
    at ≤ length before →
    k ≤ length part →
    at + k ≤ length (put_mid at m before part) →
    take (at + k) (put_mid at m before part) ≡ take (length (put_mid at m before part)) (take at before ++ take k part)
part_shown at k m before part within got fits =
    let front = length-take-le at before within in
    let long = length-append (take at before) (take k part) in
    let short = length-take-le k part got in
    part_put at k m before part within got
    ∙ sym (take_all (length (put_mid at m before part)) (take at before ++ take k part) (omega arith))

pub brings :
    {E : Type 0} (got : Result ℕ E) (at room : ℕ) (front part buffer : List ℕ) (old new : Option (List ℕ)) (r : Input) →
    r ≡ input_after got at room →
    ReadsAtMost got part →
    ReadConsumes old new got part →
    0 < length part →
    take at buffer ≡ take (length buffer) front →
    ((k : ℕ) → k ≤ length part → take (at + min k room) buffer ≡ take (length buffer) (front ++ take k part)) →
    Brings front old new r buffer
unfolding input_after
brings (Err e) at room front part buffer old new r is bound bytes some start shown =
    subst (λ (i : Input). Brings front old new i buffer) (sym is) tt
brings (Ok zero) at room front part buffer old new r is bound bytes some start shown =
    subst (λ (i : Input). Brings front old new i buffer) (sym is) (bytes.1 refl some, bytes.0, start)
brings (Ok (suc k)) at room front part buffer old new r is bound bytes some start shown =
    subst (λ (i : Input). Brings front old new i buffer) (sym is) (take (suc k) part, bytes.0, shown (suc k) bound.0)

-- two reads behind one another
pub consumes_on : (a b c : Option (List ℕ)) (xs ys zs : List ℕ) → Consumes a b xs → Consumes b c ys → zs ≡ xs ++ ys → Consumes a c zs
consumes_on None b c xs ys zs first second is = tt
consumes_on (Some had) None c xs ys zs first second is = absurd first
consumes_on (Some had) (Some bs) None xs ys zs first second is = absurd second
consumes_on (Some had) (Some bs) (Some cs) xs ys zs first second is =
    first ∙ (ap (λ (l : List ℕ). xs ++ l) second ∙ (sym (append_assoc xs ys cs) ∙ ap (λ (l : List ℕ). l ++ cs) (sym is)))

-- a reader that has nothing left gave all that it had
gave_all : (had moved : List ℕ) (b c : Option (List ℕ)) → Consumes (Some had) b moved → Consumes b c [] → IsAtEnd c → had ≡ moved
gave_all had moved None c first second end = absurd first
gave_all had moved (Some bs) None first second end = absurd second
gave_all had moved (Some bs) (Some cs) first second end = first ∙ (ap (λ (l : List ℕ). moved ++ l) (second ∙ end) ∙ append-nil moved)

-- the last read of an input
pub whole_shown :
    (a b c : Option (List ℕ)) (moved before buffer : List ℕ) (at n : ℕ) (r : Input) →
    Consumes a b moved →
    take at before ≡ take (length before) moved →
    length buffer ≡ length before →
    r ≡ Input·.Whole n →
    Brings (take at before) b c r buffer →
    IfSome a (Shows r buffer)
whole_shown None b c moved before buffer at n r first front same is last = tt
whole_shown (Some had) b c moved before buffer at n r first front same is last =
    let end = subst (λ (i : Input). Brings (take at before) b c i buffer) is last in
    let all = gave_all had moved b c first end.1 end.0 in
    let cut = ap (λ (k : ℕ). take (length buffer) (take k moved)) (sym same) ∙ take-take (length buffer) (length buffer) moved (omega arith) in
    let shown : take n buffer ≡ take (length buffer) had =
    end.2 ∙ (ap (λ (l : List ℕ). take (length buffer) l) front ∙ (cut ∙ ap (λ (l : List ℕ). take (length buffer) l) (sym all))) in
    subst (λ (i : Input). Shows i buffer had) (sym is) shown

-- a read in the middle of an input
pub more_shown :
    (a b c : Option (List ℕ)) (moved before buffer : List ℕ) (at n : ℕ) (r : Input) →
    Consumes a b moved →
    take at before ≡ take (length before) moved →
    length buffer ≡ length before →
    r ≡ Input·.More n →
    Brings (take at before) b c r buffer →
    (all : List ℕ) × Consumes a c all × (take n buffer ≡ take (length buffer) all)
more_shown a b c moved before buffer at n r first front same is last =
    let come = subst (λ (i : Input). Brings (take at before) b c i buffer) is last in
    let bs = come.0 in
    let cut =
    ap (λ (l : List ℕ). take (length buffer) (l ++ bs)) (front ∙ ap (λ (k : ℕ). take k moved) (sym same))
    ∙ cut_front (length buffer) moved bs in
    (moved ++ bs, consumes_on a b c moved bs (moved ++ bs) first come.1 refl, come.2 ∙ cut)

-- The better file by the marks is what document 02 says, and nothing else is.
-- Assumes nothing.
use mathlib.Core.Path.{◌≡◌, refl, sym}
use mathlib.Core.Bool.{Bool, true, false}
use Prim.Native.Nat.{ℕ, ◌≤◌, ◌<◌}
use native.Mathlib.Omega.{arith}
use lib.Dec.{ltb}
use borrow.Author.Tests.{lt-ltb, le-ltb, ltb-true, ltb-false}
use Rattle.judge_marks.specs.declared.Score.{Score}
use Rattle.judge_marks.specs.declared.Mark.{Mark}
use Rattle.judge_marks.specs.declared.Mark.TheVariants as Mark·
use Rattle.final_better.specs.declared.Better.{Better}
use Rattle.final_better.specs.declared.Better.TheVariants.{First, Second, Neither}
use Rattle.final_better.specs.Better.{ValidAt, NotValid, BetterBy, first_alone, second_alone, first_no_dearer as no-dearer, second_cheaper as cheaper, neither, second_or_neither, against_first, better_of}

pub second_cheaper : {m n : Mark} {v w : Score} → m ≡ Mark·.Valid v → n ≡ Mark·.Valid w → w.cost < v.cost → Second ≡ better_of m n
unfolding better_of against_first
second_cheaper {m} {n} {v} {w} e e' lt = rw (e, e', lt-ltb w.cost v.cost lt)

pub first_no_dearer : {m n : Mark} {v w : Score} → m ≡ Mark·.Valid v → n ≡ Mark·.Valid w → v.cost ≤ w.cost → First ≡ better_of m n
unfolding better_of against_first
first_no_dearer {m} {n} {v} {w} e e' le = rw (e, e', le-ltb w.cost v.cost le)

pub first_only : {m n : Mark} {v : Score} → m ≡ Mark·.Valid v → ((w : Score) → n ≡ Mark·.Valid w → ⊥) → First ≡ better_of m n
unfolding better_of against_first
first_only {m} {n} {v} e h = rw e (go n h)
  where
    go : (n : Mark) → ((w : Score) → n ≡ Mark·.Valid w → ⊥) → First ≡ against_first v.cost n
    go (Mark·.Broken b) h = refl
    go (Mark·.Short e) h = refl
    go (Mark·.Valid w) h = absurd (h w refl)
    go (Mark·.Refused f) h = refl

pub first_out : (m n : Mark) → ((v : Score) → m ≡ Mark·.Valid v → ⊥) → second_or_neither n ≡ better_of m n
unfolding better_of
first_out (Mark·.Broken b) n h = refl
first_out (Mark·.Short e) n h = refl
first_out (Mark·.Valid v) n h = absurd (h v refl)
first_out (Mark·.Refused f) n h = refl

pub both_out : (n : Mark) → ((w : Score) → n ≡ Mark·.Valid w → ⊥) → Neither ≡ second_or_neither n
unfolding second_or_neither
both_out (Mark·.Broken b) h = refl
both_out (Mark·.Short e) h = refl
both_out (Mark·.Valid w) h = absurd (h w refl)
both_out (Mark·.Refused f) h = refl

-- ---- a mark is VALID with one cost, or it is another

valid_at : (v : Score) → ValidAt (Mark·.Valid v) v.cost
valid_at v = record { score = v; valid = refl; cost_is = refl }

not_broken : {b : _} → NotValid (Mark·.Broken b)
not_broken c h = let z : ◌≡◌ {A = ℕ} 0 1 = cc h.valid in omega arith

not_short : {e : ℕ} → NotValid (Mark·.Short e)
not_short c h = let z : ◌≡◌ {A = ℕ} 0 1 = cc h.valid in omega arith

not_refused : {f : _} → NotValid (Mark·.Refused f)
not_refused c h = let z : ◌≡◌ {A = ℕ} 0 1 = cc h.valid in omega arith

-- ---- what computes is what the document says

not_first : (m n : Mark) → NotValid m → BetterBy m n (second_or_neither n)
unfolding second_or_neither
not_first m (Mark·.Broken b) h = neither h not_broken
not_first m (Mark·.Short e) h = neither h not_short
not_first m (Mark·.Valid v) h = second_alone h (valid_at v)
not_first m (Mark·.Refused f) h = neither h not_refused

both_valid : (v w : Score) (t : Bool) → ltb w.cost v.cost ≡ t → BetterBy (Mark·.Valid v) (Mark·.Valid w) (better_of (Mark·.Valid v) (Mark·.Valid w))
both_valid v w true e =
    let lt = ltb-true w.cost v.cost e in
    rw (sym (second_cheaper {v = v} {w = w} refl refl lt)) (cheaper (valid_at v) (valid_at w) lt)
both_valid v w false e =
    let le = ltb-false w.cost v.cost e in
    rw (sym (first_no_dearer {v = v} {w = w} refl refl le)) (no-dearer (valid_at v) (valid_at w) le)

pub better_of_lem : (m n : Mark) → BetterBy m n (better_of m n)
unfolding better_of against_first
better_of_lem (Mark·.Broken b) n = not_first (Mark·.Broken b) n not_broken
better_of_lem (Mark·.Short e) n = not_first (Mark·.Short e) n not_short
better_of_lem (Mark·.Refused f) n = not_first (Mark·.Refused f) n not_refused
better_of_lem (Mark·.Valid v) (Mark·.Broken b) = first_alone (valid_at v) not_broken
better_of_lem (Mark·.Valid v) (Mark·.Short e) = first_alone (valid_at v) not_short
better_of_lem (Mark·.Valid v) (Mark·.Refused f) = first_alone (valid_at v) not_refused
better_of_lem (Mark·.Valid v) (Mark·.Valid w) = both_valid v w (ltb w.cost v.cost) refl

-- ---- and nothing else is

same_cost : {m : Mark} {a b : ℕ} → ValidAt m a → ValidAt m b → a ≡ b
same_cost p q = cc (p.valid, q.valid, p.cost_is, q.cost_is)

pub better_only : {m n : Mark} {b b' : Better} → BetterBy m n b → BetterBy m n b' → b ≡ b'
better_only (first_alone p q) (first_alone p' q') = refl
better_only (first_alone p q) (second_alone p' q') = absurd (p' _ p)
better_only (first_alone p q) (no-dearer p' q' h) = refl
better_only (first_alone p q) (cheaper p' q' h) = absurd (q _ q')
better_only (first_alone p q) (neither p' q') = absurd (p' _ p)
better_only (second_alone p q) (first_alone p' q') = absurd (p _ p')
better_only (second_alone p q) (second_alone p' q') = refl
better_only (second_alone p q) (no-dearer p' q' h) = absurd (p _ p')
better_only (second_alone p q) (cheaper p' q' h) = refl
better_only (second_alone p q) (neither p' q') = absurd (q' _ q)
better_only (no-dearer p q h) (first_alone p' q') = refl
better_only (no-dearer p q h) (second_alone p' q') = absurd (p' _ p)
better_only (no-dearer p q h) (no-dearer p' q' h') = refl
better_only (no-dearer p q h) (cheaper p' q' h') = absurd (omega (arith, same_cost p p', same_cost q q'))
better_only (no-dearer p q h) (neither p' q') = absurd (p' _ p)
better_only (cheaper p q h) (first_alone p' q') = absurd (q' _ q)
better_only (cheaper p q h) (second_alone p' q') = refl
better_only (cheaper p q h) (no-dearer p' q' h') = absurd (omega (arith, same_cost p p', same_cost q q'))
better_only (cheaper p q h) (cheaper p' q' h') = refl
better_only (cheaper p q h) (neither p' q') = absurd (p' _ p)
better_only (neither p q) (first_alone p' q') = absurd (p _ p')
better_only (neither p q) (second_alone p' q') = absurd (q _ q')
better_only (neither p q) (no-dearer p' q' h) = absurd (p _ p')
better_only (neither p q) (cheaper p' q' h) = absurd (p _ p')
better_only (neither p q) (neither p' q') = refl

pub better_is : {m n : Mark} {b : Better} → BetterBy m n b → b ≡ better_of m n
better_is {m} {n} h = better_only h (better_of_lem m n)

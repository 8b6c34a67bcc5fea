-- Bytes put into a list change nothing in front of their place.
-- Assumes nothing.
use Rattle.std.proofs.Common.{◌≡◌, ℕ, ◌≤◌, List, length, take, sym, ap, ◌∙◌, take-take}
use borrow.Rule.Slice.PartMut.{put_mid, take_put}

pub front_kept : (at from k : ℕ) (xs ys : List ℕ) → at ≤ from → from ≤ length xs → take at (put_mid from k xs ys) ≡ take at xs
front_kept at from k xs ys before within =
    sym (take-take at from (put_mid from k xs ys) before) ∙ (ap (take at) (take_put from k xs ys within) ∙ take-take at from xs before)

-- What was put in front of an array is its front, and what is put from there is the text. By the lengths.
-- Assumes nothing.
use mathlib.Core.Path.{◌≡◌, ap, ◌∙◌, subst}
use mathlib.Core.List.{List}
use Prim.Native.Nat.{ℕ}
use lib.ListN.{length, take}
use Rattle.texts.specs.Texts.{in_front}
use Rattle.texts.proofs.Pieces.{text_in_front}
use Rattle.host_texts.specs.Fitting.{text_in}

-- what is put from the front of such an array is the text, which is a reply where that front is one
pub fitted :
    (Replies : List ℕ → Type 0) (text array after buffer out : List ℕ) (n r : ℕ) →
    n ≡ length text →
    after ≡ in_front text array →
    Replies (take n after) →
    r ≡ length (take n after) →
    out ≡ text_in (take n after) buffer →
    (r ≡ length text) × ((out ≡ text_in text buffer) × Replies text)
fitted Replies text array after buffer out n r e put reply count copy =
    let same = text_in_front text array after n e put in
    (count ∙ ap length same, (copy ∙ ap (λ (t : List ℕ). text_in t buffer) same, subst Replies same reply))

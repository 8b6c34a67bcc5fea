-- A printed text says its numbers: two texts that are the same have the same fields. A number's digits end where a blank or a line feed stands.
-- Assumes nothing.
use mathlib.Core.Path.{◌≡◌, refl, sym, ap, ap₂, ◌∙◌}
use mathlib.Core.Bool.{Bool, true, false}
use mathlib.Core.List.{List, [], ◌∷◌, ◌++◌, append_assoc}
use Prim.Native.Nat.{ℕ, suc, ◌<◌, ◌≤◌}
use native.Mathlib.Omega.{arith}
use lib.Dec.{eqb}
use lib.ListN.{length, get_or}
use Rattle.network.specs.declared.refusal.Refusal.{Refusal}
use Rattle.network.specs.Refusals.{rule_number, pick}
use Rattle.feeding.specs.Networks.{at}
use Rattle.feeding.specs.Plans.{Step}
use Rattle.plan_sums.specs.declared.Sums.{Sums}
use Rattle.texts.specs.Texts.{decimal, field, feed, line_of, refused_word, refused_line}
use Rattle.texts.proofs.Digits.{decimal_digits, value_of, decimal_value}
use Rattle.plan_lines.specs.Lines.{plan_word, none_word, none_lines, load_word, step_word, plan_line, step_line, load_line, text_of, reply_text, tail_lines}
use Rattle.judge_marks.specs.declared.Reason.{Reason}
use Rattle.judge_marks.specs.declared.Reason.TheVariants.{NotOperable, AlreadySo, Unsafe}
use Rattle.judge_marks.specs.declared.BadStep.{BadStep}
use Rattle.judge_marks.specs.declared.Score.{Score}
use Rattle.judge_marks.specs.declared.Mark.{Mark}
use Rattle.judge_marks.specs.declared.Mark.TheVariants as Mark·
use Rattle.judge_marks.specs.Marks.{reason_number}
use Rattle.judge_line.specs.MarkLines.{mark_line, broken_word, short_word, valid_word}
use Rattle.network.proofs.Order.{rule_numbered}
use Rattle.planner.specs.Replies.{plan_text_of, step_texts}

-- ---- digits, and what stands behind them

abbrev Above : List ℕ → Type 0
Above [] = Unit
Above (x ∷ xs) = (48 ≤ x) × Above xs

above_in : (xs : List ℕ) → ((i : ℕ) → i < length xs → 48 ≤ get_or xs i 0) → Above xs
above_in [] h = tt
above_in (x ∷ xs) h = (h 0 (omega arith), above_in xs (λ i k. h (suc i) (omega arith)))

decimal_above : (n : ℕ) → Above (decimal n)
decimal_above n = above_in (decimal n) (λ i k. (decimal_digits n i k).0)

split_same : (u v : List ℕ) (c d : ℕ) (x y : List ℕ) → Above u → Above v → c < 48 → d < 48 → u ++ (c ∷ x) ≡ v ++ (d ∷ y) → (u ≡ v) × ((c ∷ x) ≡ (d ∷ y))
split_same [] [] c d x y p q hc hd e = (refl, e)
split_same [] (b ∷ v) c d x y p q hc hd e = let same : c ≡ b = cc in absurd (omega (arith, q.0))
split_same (a ∷ u) [] c d x y p q hc hd e = let same : a ≡ d = cc in absurd (omega (arith, p.0))
split_same (a ∷ u) (b ∷ v) c d x y p q hc hd e =
    let same : a ≡ b = cc in
    let rest : u ++ (c ∷ x) ≡ v ++ (d ∷ y) = cc in
    let both = split_same u v c d x y p.1 q.1 hc hd rest in
    (ap₂ (λ (z : ℕ) (zs : List ℕ). z ∷ zs) same both.0, both.1)

cancel : (w x y : List ℕ) → w ++ x ≡ w ++ y → x ≡ y
cancel [] x y e = e
cancel (a ∷ w) x y e = let rest : w ++ x ≡ w ++ y = cc in cancel w x y rest

field_split : (a b c d : ℕ) (x y : List ℕ) → c < 48 → d < 48 → field a ++ (c ∷ x) ≡ field b ++ (d ∷ y) → (a ≡ b) × ((c ∷ x) ≡ (d ∷ y))
unfolding field
field_split a b c d x y hc hd e =
    let rest : decimal a ++ (c ∷ x) ≡ decimal b ++ (d ∷ y) = cc in
    let both = split_same (decimal a) (decimal b) c d x y (decimal_above a) (decimal_above b) hc hd rest in
    (sym (decimal_value a) ∙ ap value_of both.0 ∙ decimal_value b, both.1)

-- a field with the line feed behind it
last_split : (a b : ℕ) (x y : List ℕ) → field a ++ (10 ∷ x) ≡ field b ++ (10 ∷ y) → (a ≡ b) × (x ≡ y)
last_split a b x y e =
    let both = field_split a b 10 10 x y (omega arith) (omega arith) e in
    let tail = both.1 in
    let same : x ≡ y = cc in
    (both.0, same)

-- a field with another behind it
next_split : (a b a' b' : ℕ) (x y : List ℕ) → field a ++ (field a' ++ x) ≡ field b ++ (field b' ++ y) → (a ≡ b) × (field a' ++ x ≡ field b' ++ y)
unfolding field
next_split a b a' b' x y e = field_split a b 32 32 (decimal a' ++ x) (decimal b' ++ y) (omega arith) (omega arith) e

-- ---- lines

pub line_split : (w : List ℕ) (a b a' b' : ℕ) (x y : List ℕ) → line_of w a b ++ x ≡ line_of w a' b' ++ y → (a ≡ a') × (b ≡ b') × (x ≡ y)
unfolding line_of
line_split w a b a' b' x y e =
    let flat : w ++ (field a ++ (field b ++ (10 ∷ x))) ≡ w ++ (field a' ++ (field b' ++ (10 ∷ y))) = simp append_assoc at e in
    let first = next_split a a' b b' (10 ∷ x) (10 ∷ y) (cancel w _ _ flat) in
    let second = last_split b b' x y first.1 in
    (first.0, second.0, second.1)

pub refused_same : (f g : Refusal) → refused_line f ≡ refused_line g → f ≡ g
unfolding refused_line
refused_same f g e =
    let s = line_split refused_word (rule_number f.rule) f.place (rule_number g.rule) g.place [] [] (ap (λ (l : List ℕ). l ++ []) e) in
    let rule = rule_numbered f.rule g.rule s.0 in
    λ i. record { rule = rule i; place = s.1 i }

step_split : (l l' : ℕ) (w w' : Bool) (x y : List ℕ) → step_line l w ++ x ≡ step_line l' w' ++ y → (l ≡ l') × (w ≡ w') × (x ≡ y)
unfolding step_line
step_split l l' true true x y e =
    let flat : step_word true ++ (field l ++ (10 ∷ x)) ≡ step_word true ++ (field l' ++ (10 ∷ y)) = simp append_assoc at e in
    let s = last_split l l' x y (cancel (step_word true) _ _ flat) in
    (s.0, refl, s.1)
step_split l l' false false x y e =
    let flat : step_word false ++ (field l ++ (10 ∷ x)) ≡ step_word false ++ (field l' ++ (10 ∷ y)) = simp append_assoc at e in
    let s = last_split l l' x y (cancel (step_word false) _ _ flat) in
    (s.0, refl, s.1)
step_split l l' true false x y e = let head : ◌≡◌ {A = ℕ} 67 79 = ap (λ (t : List ℕ). get_or t 0 0) e in absurd (omega arith)
step_split l l' false true x y e = let head : ◌≡◌ {A = ℕ} 79 67 = ap (λ (t : List ℕ). get_or t 0 0) e in absurd (omega arith)

-- the LOAD line, with whatever stands behind it
load_split : (l m : Sums) (x y : List ℕ) → load_line l ++ x ≡ load_line m ++ y → (l ≡ m) × (x ≡ y)
unfolding load_line
load_split l m x y e =
    let flat : load_word ++ (field l.fed ++ (field l.dark ++ (field l.lost ++ (10 ∷ x))))
    ≡ load_word ++ (field m.fed ++ (field m.dark ++ (field m.lost ++ (10 ∷ y)))) = simp append_assoc at e in
    let a = next_split l.fed m.fed l.dark m.dark (field l.lost ++ (10 ∷ x)) (field m.lost ++ (10 ∷ y)) (cancel load_word _ _ flat) in
    let b = next_split l.dark m.dark l.lost m.lost (10 ∷ x) (10 ∷ y) a.1 in
    let c = last_split l.lost m.lost x y b.1 in
    ((λ i. record { fed = a.0 i; dark = b.0 i; lost = c.0 i }), c.1)

-- it is no step's
load_no_step : (l : Sums) (k : ℕ) (w : Bool) (x y : List ℕ) → load_line l ++ x ≡ step_line k w ++ y → ⊥
unfolding load_line step_line
load_no_step l k true x y e = let head : ◌≡◌ {A = ℕ} 76 67 = ap (λ (t : List ℕ). get_or t 0 0) e in omega arith
load_no_step l k false x y e = let head : ◌≡◌ {A = ℕ} 76 79 = ap (λ (t : List ℕ). get_or t 0 0) e in omega arith

-- ---- the tail: its first line is LOAD, whatever lines follow

abbrev behind_first : List (List ℕ) → List ℕ
behind_first [] = []
behind_first (line ∷ lines) = text_of lines

tail_first : (l : Sums) → text_of (tail_lines l) ≡ load_line l ++ behind_first (tail_lines l)
unfolding text_of tail_lines
tail_first l = refl

tail_same : (l m : Sums) → text_of (tail_lines l) ≡ text_of (tail_lines m) → l ≡ m
tail_same l m e = (load_split l m (behind_first (tail_lines l)) (behind_first (tail_lines m)) (sym (tail_first l) ∙ e ∙ tail_first m)).0

tail_no_step : (l : Sums) (k : ℕ) (w : Bool) (y : List ℕ) → text_of (tail_lines l) ≡ step_line k w ++ y → ⊥
tail_no_step l k w y e = load_no_step l k w (behind_first (tail_lines l)) y (sym (tail_first l) ∙ e)

-- ---- the planner's texts

steps_split : (q r : List Step) (l m : Sums) → step_texts q ++ text_of (tail_lines l) ≡ step_texts r ++ text_of (tail_lines m) → (q ≡ r) × (l ≡ m)
unfolding step_texts
steps_split [] [] l m e = (refl, tail_same l m e)
steps_split [] (t ∷ r) l m e =
    absurd (tail_no_step l t.link t.want (step_texts r ++ text_of (tail_lines m)) (e ∙ append_assoc (step_line t.link t.want) (step_texts r) (text_of (tail_lines m))))
steps_split (s ∷ q) [] l m e =
    absurd (tail_no_step m s.link s.want (step_texts q ++ text_of (tail_lines l)) (sym e ∙ append_assoc (step_line s.link s.want) (step_texts q) (text_of (tail_lines l))))
steps_split (s ∷ q) (t ∷ r) l m e =
    let tail = text_of (tail_lines l) in
    let tail' = text_of (tail_lines m) in
    let one = step_split s.link t.link s.want t.want (step_texts q ++ tail) (step_texts r ++ tail')
    (sym (append_assoc (step_line s.link s.want) (step_texts q) tail) ∙ e ∙ append_assoc (step_line t.link t.want) (step_texts r) tail') in
    let rest = steps_split q r l m one.2 in
    ((λ i. record { link = one.0 i; want = one.1 i } ∷ rest.0 i), rest.1)

pub none_text_same : (l m : Sums) → none_lines l ≡ none_lines m → l ≡ m
unfolding none_lines reply_text
none_text_same l m e = tail_same l m (cancel (none_word ++ feed) (text_of (tail_lines l)) (text_of (tail_lines m)) e)

pub plan_text_same : (q r : List Step) (c d : ℕ) (l m : Sums) → plan_text_of q c l ≡ plan_text_of r d m → (q ≡ r) × (c ≡ d) × (l ≡ m)
unfolding plan_text_of reply_text plan_line
plan_text_same q r c d l m e =
    let tail = text_of (tail_lines l) in
    let tail' = text_of (tail_lines m) in
    let one = line_split plan_word (length q) c (length r) d (step_texts q ++ tail) (step_texts r ++ tail')
    (sym (append_assoc (line_of plan_word (length q) c) (step_texts q) tail) ∙ e ∙ append_assoc (line_of plan_word (length r) d) (step_texts r) tail') in
    let rest = steps_split q r l m one.2 in
    (rest.0, one.1, rest.1)

-- ---- the judge's lines

reason_at : ℕ → Reason
reason_at n = pick (eqb n 1) NotOperable (pick (eqb n 2) AlreadySo Unsafe)

reason_at_lem : (r : Reason) → reason_at (reason_number r) ≡ r
unfolding reason_at
reason_at_lem NotOperable = refl
reason_at_lem AlreadySo = refl
reason_at_lem Unsafe = refl

broken_same : (b c : BadStep) → line_of broken_word b.step (reason_number b.reason) ≡ line_of broken_word c.step (reason_number c.reason) → Mark·.Broken b ≡ Mark·.Broken c
broken_same b c e =
    let s = line_split broken_word b.step (reason_number b.reason) c.step (reason_number c.reason) [] [] (ap (λ (l : List ℕ). l ++ []) e) in
    let reason : b.reason ≡ c.reason = sym (reason_at_lem b.reason) ∙ ap reason_at s.1 ∙ reason_at_lem c.reason in
    λ i. Mark·.Broken (record { step = s.0 i; reason = reason i })

short_same : (a b : ℕ) → short_word ++ field a ++ feed ≡ short_word ++ field b ++ feed → a ≡ b
short_same a b e =
    let flat : short_word ++ (field a ++ (10 ∷ [])) ≡ short_word ++ (field b ++ (10 ∷ [])) = simp append_assoc at e in
    (last_split a b [] [] (cancel short_word _ _ flat)).0

valid_same : (v w : Score) → line_of valid_word v.cost v.excess ≡ line_of valid_word w.cost w.excess → Mark·.Valid v ≡ Mark·.Valid w
valid_same v w e =
    let s = line_split valid_word v.cost v.excess w.cost w.excess [] [] (ap (λ (l : List ℕ). l ++ []) e) in
    λ i. Mark·.Valid (record { cost = s.0 i; excess = s.1 i })

-- a mark's line is no other mark's
pub mark_line_same : (m m' : Mark) → mark_line m ≡ mark_line m' → m ≡ m'
unfolding mark_line line_of refused_line
mark_line_same (Mark·.Broken b) (Mark·.Broken b') e₀ = broken_same b b' e₀
mark_line_same (Mark·.Broken b) (Mark·.Short e') e₀ = let z : ◌≡◌ {A = ℕ} 66 83 = ap (λ (t : List ℕ). get_or t 0 0) e₀ in absurd (omega arith)
mark_line_same (Mark·.Broken b) (Mark·.Valid v') e₀ = let z : ◌≡◌ {A = ℕ} 66 86 = ap (λ (t : List ℕ). get_or t 0 0) e₀ in absurd (omega arith)
mark_line_same (Mark·.Broken b) (Mark·.Refused f') e₀ = let z : ◌≡◌ {A = ℕ} 66 82 = ap (λ (t : List ℕ). get_or t 0 0) e₀ in absurd (omega arith)
mark_line_same (Mark·.Short e) (Mark·.Broken b') e₀ = let z : ◌≡◌ {A = ℕ} 83 66 = ap (λ (t : List ℕ). get_or t 0 0) e₀ in absurd (omega arith)
mark_line_same (Mark·.Short e) (Mark·.Short e') e₀ = ap Mark·.Short (short_same e e' e₀)
mark_line_same (Mark·.Short e) (Mark·.Valid v') e₀ = let z : ◌≡◌ {A = ℕ} 83 86 = ap (λ (t : List ℕ). get_or t 0 0) e₀ in absurd (omega arith)
mark_line_same (Mark·.Short e) (Mark·.Refused f') e₀ = let z : ◌≡◌ {A = ℕ} 83 82 = ap (λ (t : List ℕ). get_or t 0 0) e₀ in absurd (omega arith)
mark_line_same (Mark·.Valid v) (Mark·.Broken b') e₀ = let z : ◌≡◌ {A = ℕ} 86 66 = ap (λ (t : List ℕ). get_or t 0 0) e₀ in absurd (omega arith)
mark_line_same (Mark·.Valid v) (Mark·.Short e') e₀ = let z : ◌≡◌ {A = ℕ} 86 83 = ap (λ (t : List ℕ). get_or t 0 0) e₀ in absurd (omega arith)
mark_line_same (Mark·.Valid v) (Mark·.Valid v') e₀ = valid_same v v' e₀
mark_line_same (Mark·.Valid v) (Mark·.Refused f') e₀ = let z : ◌≡◌ {A = ℕ} 86 82 = ap (λ (t : List ℕ). get_or t 0 0) e₀ in absurd (omega arith)
mark_line_same (Mark·.Refused f) (Mark·.Broken b') e₀ = let z : ◌≡◌ {A = ℕ} 82 66 = ap (λ (t : List ℕ). get_or t 0 0) e₀ in absurd (omega arith)
mark_line_same (Mark·.Refused f) (Mark·.Short e') e₀ = let z : ◌≡◌ {A = ℕ} 82 83 = ap (λ (t : List ℕ). get_or t 0 0) e₀ in absurd (omega arith)
mark_line_same (Mark·.Refused f) (Mark·.Valid v') e₀ = let z : ◌≡◌ {A = ℕ} 82 86 = ap (λ (t : List ℕ). get_or t 0 0) e₀ in absurd (omega arith)
mark_line_same (Mark·.Refused f) (Mark·.Refused f') e₀ = ap Mark·.Refused (refused_same f f' e₀)

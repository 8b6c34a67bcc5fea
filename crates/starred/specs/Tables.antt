-- Document 01, "Tried networks": the starred cases as one table, each a program, the bytes that it reads and the bytes that it prints.
-- Assumes nothing.
use Rattle.std.specs.Prelude.{true, List, [], ◌∷◌, ◌++◌, ℕ}
use Prim.Native.Char.{code}
use Prim.Native.String.{String, [] as empty, ◌∷◌ as ◌before◌}
use Rattle.file_writer.specs.Writing.{number, plan_head_bytes, step_bytes, end_bytes}
use Rattle.plan_outcome.specs.Outcomes.{outcome}
use Rattle.planner.specs.Replies.{lines_of}
use Rattle.judge_line.specs.MarkLines.{mark_line}
use Rattle.judge.specs.Judging.{mark_for}

-- ---- files

-- "Kind 1, network head, length 8: element count E .., link count K"
unfoldable pub head : ℕ → ℕ → List ℕ
head E K = number 8 ++ number 1 ++ number E ++ number K

-- "Kind 2, element, length 10: own load, capacity, flags"
unfoldable pub element : ℕ → ℕ → ℕ → List ℕ
element load capacity flags = number 10 ++ number 2 ++ number load ++ number capacity ++ number flags

-- "flags (1 = source, 2 = faulty, 3 = both, 0 = neither)"
abbrev pub neither : ℕ
neither = 0

abbrev pub source : ℕ
source = 1

abbrev pub faulty : ℕ
faulty = 2

-- "Kind 3, link, length 12: two different elements, form .., cost"
unfoldable pub joins : ℕ → ℕ → ℕ → ℕ → List ℕ
joins a b form cost = number 12 ++ number 3 ++ number a ++ number b ++ number form ++ number cost

-- "form (0 fixed, 1 open switch, 2 closed switch)"
abbrev pub fixed_link : ℕ
fixed_link = 0

abbrev pub open_switch : ℕ
open_switch = 1

abbrev pub closed_switch : ℕ
closed_switch = 2

-- ---- networks

-- Network B, with what its cases vary: the capacities of elements 0 and 4, the form of link 2, the form and the cost of link 3
unfoldable pub network_b : ℕ → ℕ → ℕ → ℕ → ℕ → List ℕ
network_b capacity0 capacity4 form2 form3 cost3 =
    head 5 5
    ++ element 0 capacity0 source
    ++ element 2 9 neither
    ++ element 1 9 faulty
    ++ element 3 9 neither
    ++ element 0 capacity4 source
    ++ joins 0 1 closed_switch 1
    ++ joins 1 2 open_switch 1
    ++ joins 2 3 form2 1
    ++ joins 3 4 form3 cost3
    ++ joins 1 3 open_switch 2
    ++ end_bytes

-- Network D
unfoldable pub network_d : List ℕ
network_d =
    head 4 3
    ++ element 0 2 source
    ++ element 2 9 neither
    ++ element 2 9 neither
    ++ element 0 2 source
    ++ joins 0 1 open_switch 1
    ++ joins 1 2 closed_switch 1
    ++ joins 2 3 open_switch 1
    ++ end_bytes

-- ---- plans

-- a plan file without steps, and one that closes a link
unfoldable pub no_steps : List ℕ
no_steps = plan_head_bytes 0 ++ end_bytes

unfoldable pub closing : ℕ → List ℕ
closing link = plan_head_bytes 1 ++ step_bytes link true ++ end_bytes

-- ---- cases

-- the bytes of a text of ASCII characters: a character's number is its byte
unfoldable pub text : String → List ℕ
text empty = []
text (c before s) = code c ∷ text s

pub data Program : Type 0 where
  planning : Program
  judging : Program

-- what a program prints for its input
unfoldable pub prints : Program → List ℕ → List ℕ
prints planning s = lines_of (outcome s)
prints judging s = mark_line (mark_for s)

pub record Case : Type 0 where
  pub program : Program
  pub input : List ℕ
  pub printed : List ℕ

-- the planning program's lines for a network file
unfoldable pub plans : List ℕ → String → Case
plans file lines = record { program = planning; input = file; printed = text lines }

-- the judging program's line for a network file with a plan file directly behind it
unfoldable pub marks : List ℕ → List ℕ → String → Case
marks file plan line = record { program = judging; input = file ++ plan; printed = text line }

unfoldable pub cases : List Case
cases =
    -- ★1. B
    plans (network_b 5 3 open_switch open_switch 4) "PLAN 1 2\nCLOSE 4\nLOAD 5 0 1\n"
    -- ★2. B, capacity 4 at element 0: element 0 cannot carry 2 and 3
    ∷ plans (network_b 4 3 open_switch open_switch 4) "PLAN 1 4\nCLOSE 3\nLOAD 5 0 1\n"
    -- ★3. as 2, with capacity 2 at element 4: neither source can carry element 3
    ∷ plans (network_b 4 2 open_switch open_switch 4) "NONE\nLOAD 2 3 1\n"
    -- ★4. B, capacity 1 at element 0, which carries 2 at the start
    ∷ plans (network_b 1 3 open_switch open_switch 4) "REFUSED 17 0\n"
    -- ★5. B, link 3 costing 2: "the tie goes to closing 3"
    ∷ plans (network_b 5 3 open_switch open_switch 2) "PLAN 1 2\nCLOSE 3\nLOAD 5 0 1\n"
    -- ★6. D: link 1 is opened first, since neither source can carry both loads
    ∷ plans network_d "PLAN 3 3\nOPEN 1\nCLOSE 0\nCLOSE 2\nLOAD 4 0 0\n"
    -- ★7. D, submitted: close 0 first, which puts both loads on element 0
    ∷ marks network_d (closing 0) "BROKEN 1 3\n"
    -- ★8. B, submitted: close 3, where closing 4 costs 2
    ∷ marks (network_b 5 3 open_switch open_switch 4) (closing 3) "VALID 4 2\n"
    -- ★9. B, link 2 closed: it is opened first, since it leads to the faulty element
    ∷ plans (network_b 5 3 closed_switch open_switch 4) "PLAN 2 3\nOPEN 2\nCLOSE 4\nLOAD 5 0 1\n"
    -- ★10. B, link 3 fixed, cost 0: element 3 is live at the start
    ∷ plans (network_b 5 3 open_switch fixed_link 0) "PLAN 0 0\nLOAD 5 0 1\n"
    -- ★11. B, empty submitted plan
    ∷ marks (network_b 5 3 open_switch open_switch 4) no_steps "SHORT 3\n"
    ∷ []

-- The file of a network in the paper's words: it is bytes that keep rules 1 to 13 and 20 and state the network; and whatever a file states is such a network.
-- Assumes nothing.
use mathlib.Core.Path.{◌≡◌, ap}
use mathlib.Core.Bool.{Bool, true, false}
use mathlib.Core.List.{List, [], ◌∷◌, ◌++◌, flat_map}
use mathlib.Core.Logic.{◌↔◌}
use Prim.Native.Nat.{ℕ, ◌/◌, ◌%◌, ◌^◌, ◌<◌, ◌≤◌}
use native.Mathlib.Omega.{arith}
use lib.Dec.{eqb}
use lib.ListN.{length, get_or}
use Rattle.network.specs.declared.Element.{Element}
use Rattle.network.specs.declared.Link.{Link}
use Rattle.network.specs.declared.Network.{Network}
use Rattle.network.specs.Networks.{no_guard}
use Rattle.network.specs.Refusals.{pick}
use Rattle.network.specs.Accepted.{WellFormed}
use Rattle.file_stages.specs.declared.Stage.{Stage}
use Rattle.file_network.specs.Runs.{reached}
use Rattle.file_network.specs.NetworkFiles.{network_file}
use Rattle.file_network.specs.Inputs.{network_read}
use Rattle.file_network.proofs.Accepted.{LinkIn}
use Rattle.file_writer.specs.Writing.{number, end_bytes}
use Rattle.file_refusals.specs.Stated.{States, NetworkOf}
use Rattle.file_refusals.proofs.Stated.{file_states}
use Rattle.file_refusals.proofs.Reading.{file_formed, network_read_lem}
use Rattle.file_written.specs.NetworkBytes.{head_bytes, element_bytes, plain_bytes, guarded_bytes, link_bytes, network_bytes, element_in, link_in, numbered, network_file_of, Tidy}
use Rattle.file_written.proofs.Each.{Each, each_as, each_append, each_flat, each_at, each_numbered, numbered_length}
use Rattle.file_written.proofs.OfNetwork.{link_kept, network_written}

-- ---- what is written

-- the file of a network keeps rules 1 to 13 and 20 and states it
pub network_file_lem : (n : Network) → WellFormed n → Tidy n → NetworkOf (network_file_of n) n
network_file_lem n w tidy = (network_read_lem (network_file_of n) n).0 (ap network_read (network_written n w tidy))

abbrev Byte : ℕ → Type 0
Byte b = b < 256

-- numbers of two bytes
words_bytes : (ws : List ℕ) → Each (λ w. w < 65536) ws → Each Byte (flat_map number ws)
words_bytes ws h =
    each_flat Byte number ws (each_as (λ w. w < 65536) (λ w. Each Byte (number w)) (λ w lt. (omega arith, (omega arith, tt))) ws h)

head_bytes_lem : (elements links : ℕ) → elements ≤ 64 → links ≤ 96 → Each Byte (head_bytes elements links)
unfolding head_bytes flat_map
head_bytes_lem elements links few fewer = words_bytes (8 ∷ 1 ∷ elements ∷ links ∷ []) (omega arith, (omega arith, (omega arith, (omega arith, tt))))

element_bytes_lem : (e : Element) → e.load < 2 ^ 32 → e.capacity < 2 ^ 32 → e.flags ≤ 3 → Each Byte (element_bytes e)
unfolding element_bytes flat_map
element_bytes_lem e load capacity flags =
    words_bytes (14 ∷ 7 ∷ e.load % 65536 ∷ e.load / 65536 ∷ e.capacity % 65536 ∷ e.capacity / 65536 ∷ e.flags ∷ [])
    (omega arith, (omega arith, (omega arith, (omega arith, (omega arith, (omega arith, (omega arith, tt)))))))

link_bytes_lem : (elements : ℕ) (l : Link) → elements ≤ 64 → LinkIn elements l → l.guard ≤ no_guard → Each Byte (link_bytes l)
unfolding link_bytes plain_bytes guarded_bytes flat_map
link_bytes_lem elements l few h guard = go (eqb l.guard no_guard)
  where
    go : (t : Bool) → Each Byte (pick t (plain_bytes l) (guarded_bytes l))
    go true =
        words_bytes (12 ∷ 3 ∷ l.from ∷ l.to ∷ l.form ∷ l.cost ∷ [])
        (omega arith, (omega arith, (omega (arith, h.from_in), (omega (arith, h.to_in), (omega (arith, h.form_in), (h.cost_in_lem, tt))))))
    go false =
        words_bytes (14 ∷ 8 ∷ l.from ∷ l.to ∷ l.form ∷ l.cost ∷ l.guard ∷ [])
        (omega arith, (omega arith, (omega (arith, h.from_in), (omega (arith, h.to_in), (omega (arith, h.form_in), (h.cost_in_lem, (omega (arith, guard), tt)))))))

end_bytes_lem : Each Byte end_bytes
unfolding end_bytes flat_map
end_bytes_lem = words_bytes (4 ∷ 4 ∷ []) (omega arith, (omega arith, tt))

-- and is bytes
pub bytes_written : (n : Network) → WellFormed n → (i : ℕ) → get_or (network_file_of n) i 0 < 256
unfolding network_file_of network_bytes
bytes_written n w =
    each_at Byte 0 (omega arith) (head ++ xs ++ ys ++ end_bytes)
    (each_append Byte (head ++ xs ++ ys) end_bytes
    (each_append Byte (head ++ xs) ys
    (each_append Byte head xs
    (head_bytes_lem (length es) (length ls) (omega (arith, w.elements_fit, numbered_length (element_in n) 0 n.elements))
    (omega (arith, w.links_fit, numbered_length (link_in n) 0 n.links)))
    (each_flat Byte element_bytes es
    (each_numbered (λ e. Each Byte (element_bytes e)) (element_in n) 0 n.elements
    (λ i _ lt.
    element_bytes_lem (element_in n i) (w.load_in_lem i (omega arith)) (w.capacity_in i (omega arith)) (w.flags_in i (omega arith))))))
    (each_flat Byte link_bytes ls
    (each_numbered (λ l. Each Byte (link_bytes l)) (link_in n) 0 n.links
    (λ l _ lt. link_bytes_lem n.elements (link_in n l) w.elements_fit (link_kept n w l (omega arith)) (w.guard_in l (omega arith))))))
    end_bytes_lem)
  where
    es : List Element
    es = numbered (element_in n) 0 n.elements

    ls : List Link
    ls = numbered (link_in n) 0 n.links

    head : List ℕ
    head = head_bytes (length es) (length ls)

    xs : List ℕ
    xs = flat_map element_bytes es

    ys : List ℕ
    ys = flat_map link_bytes ls

-- ---- what is stated

states_tidy : (s : List ℕ) (n : Network) → States s n → Tidy n
states_tidy s n x =
    record {
      no_element = λ i h. x.no_element i (omega (arith, x.elements));
      no_link = λ l h. x.no_link l (omega (arith, x.links));
    }

-- what is read has zeros behind its counts
pub network_tidy : (s : List ℕ) (at : ℕ) (stage : Stage) (n : Network) → network_file s ≡ reached at stage n → Tidy n
network_tidy s at stage n h = states_tidy s n (file_states s at stage n h)

-- and so has what a file states
pub stated_tidy : (s : List ℕ) (n : Network) → NetworkOf s n → Tidy n
stated_tidy s n file = states_tidy s n file.states

-- a network is what a file of bytes states exactly where it is well formed and has zeros behind its counts
pub files_state : (n : Network) → ((s : List ℕ) × ((i : ℕ) → get_or s i 0 < 256) × NetworkOf s n) ↔ (WellFormed n × Tidy n)
files_state n = (
  λ x. (file_formed x.0 x.1 n x.2, stated_tidy x.0 n x.2),
  λ w. (network_file_of n, bytes_written n w.0, network_file_lem n w.0 w.1),
)

-- What the walks over a `Reader` share: what it owns gives what its bytes own, its offset fits a usize, and of parameters that can be copied nothing is had at exit.
-- Assumes nothing.
use Prim.Native.Nat.{ℕ, ◌<◌, ◌^◌}
use mathlib.Core.Path.{◌≡◌, refl}
use mathlib.Core.List.{List, [], ◌∷◌}
use lib.Dec.{T as Holds}
use lib.ListN.{length}
use seplogic.Ra.Ura.{Ura}
use mir.Syntax.{named, w64}
use mir.Val.{Val, WT, has_ty, vint}
use base.Logic.{ent}
use types.Logic.{Logic, sem}
use contract.Lifetimes.{Lfts}
use types.Kit.{‵, ◌⊛◌, given, ◌$◌, ◌∵◌, !, qed, move, drop, use1, split, learn, fsplit, fjoin, done}
use denote.RattleType.{RattleType, Denots, Valss, owns}
use denote.Laws.{Is, Tells}
use denote.Plain.{uint_Makes}
use denote.Builtin.{u8, usize}
use denote.Ref.{Bor, NamedLft}
use denote.Signature.{Slot, named_lft}
use denote.Slice.{slice_val, ShrSlice}
use denote.Steps.{owned}
use denote.Struct.Laws as LL
use denote.Struct.Rest.{all_own, field_own, rest, own_open, own_out}
use denote.Triple.End.{Kepts}
use denote.Triple.Walked.{Stays, stay_dropped, Silent, AllGo, Goes-dropped}
use Rattle.file_reader.specs.declared.Reader.{Reader}
use Rattle.file_reader.specs.contracts.Reader as T
use Rattle.file_reader.proofs.Reader.TheLaws as T'

-- a slice's machine value
abbrev pub sliced : Bor (List ℕ) → Val
sliced s = slice_val s.ref_ptr (length s.now)

-- the struct's type at the lifetime of a signature that has one, and how its machine values are spelled
abbrev pub lifetime : Lfts 1 → NamedLft
lifetime κs = named_lft 1 0 tt κs

abbrev pub row : Lfts 1 → RattleType
row κs = T.the_row (lifetime κs)

abbrev pub spelled : Lfts 1 → Reader → List Val
spelled κs = LL.vals (T.the_type (lifetime κs)) (T'.the_laws (lifetime κs))

pub told : (κs : Lfts 1) → Tells (row κs) (Is (row κs)) (spelled κs)
told κs = LL.tells (T.the_type (lifetime κs)) (T'.the_laws (lifetime κs))

-- what whoever holds a Reader knows of its offset and of its machine value
pub at_fits : (α : NamedLft) (d : Reader) → Is (T.the_row α) d (T'.lowered d ∷ []) → d.at < 2 ^ 64
at_fits α d p = (LL.owed (T.the_type α) (T'.the_laws α) d _ p).1.0.1

pub typed : {M : Type 1} {𝓤 : Ura M} (𝓛 : Logic 𝓤) → (α : NamedLft) (d : Reader) → Is (T.the_row α) d (T'.lowered d ∷ []) → Holds (has_ty (T'.mir α.mir) (T'.lowered d)) × WT (T'.lowered d)
typed 𝓛 α d p = ((LL.lawful (T.the_type α) (T'.the_laws α) 𝓛).typed d _ p).0

-- a Reader, and what is passed beside it, own what its bytes, its offset and the same own
module _ {M : Type 1} {𝓤 : Ura M} (𝓛 : Logic 𝓤) (α : NamedLft) (d : Reader) (fits : d.at < 2 ^ 64) (Rs : List RattleType) (xs : Denots Rs) (vss : Valss Rs) where
  pub apart : ent 𝓤 (sem 𝓛 (owns (T.the_row α ∷ Rs) (d, xs) (T'.lowered d ∷ [], vss))) (sem 𝓛 (owns (ShrSlice (named 0) α.lft u8 ∷ usize ∷ Rs) (d.src, (d.at, xs)) (sliced d.src ∷ [], (vint w64 d.at ∷ [], vss))))
  apart =
      let parts = (T.the_type α).parts in
      let laws = T'.the_laws α in
      qed 𝓛 (‵ (owns (T.the_row α ∷ Rs) (d, xs) (T'.lowered d ∷ [], vss)) ∷ []) ∵ fsplit ! $
      use1 𝓛 (given (T'.lowered d ∷ [] ≡ T'.lowered d ∷ []) (‵ (all_own parts laws (d.src, (d.at, tt))))) (own_open 𝓛 (T.the_type α) laws (d.src, (d.at, tt)) (T'.lowered d)) $ learn ! (λ _.
      use1 𝓛 (‵ (field_own parts laws 0 d.src) ⊛ ‵ (rest parts laws 0 (d.src, (d.at, tt)))) (own_out 𝓛 parts laws 0 (d.src, (d.at, tt))) $ split ! $ move ! (1 ∷ []) $ drop ! $
      -- [the bytes; what is passed beside]
      owned ! usize (Is usize) (uint_Makes 𝓛 w64) d.at _ (refl, fits) $ move ! (0 ∷ 2 ∷ []) $ fjoin ! $ move ! (1 ∷ 0 ∷ []) $ fjoin ! $ done !)

-- nothing is had at exit of a list of parameters, and the law for it, where each is plain data or lent by `&`
abbrev pub dropped : {n : ℕ} (ss : List (Slot n)) (ks : Kepts ss) → Stays ss ks
dropped [] ks = tt
dropped (s ∷ ss) ks = (stay_dropped s ks.0, dropped ss ks.1)

module _ {M : Type 1} {𝓤 : Ura M} (𝓛 : Logic 𝓤) (n : ℕ) where
  abbrev pub AllSilent : (ss : List (Slot n)) → Kepts ss → Type 1
  AllSilent [] ks = Unit {1}
  AllSilent (s ∷ ss) ks = Silent 𝓛 n s ks.0 × AllSilent ss ks.1

  pub drops : (ss : List (Slot n)) (ks : Kepts ss) → AllSilent ss ks → AllGo 𝓛 n ss ks (dropped ss ks)
  drops [] ks qs = tt
  drops (s ∷ ss) ks qs = (Goes-dropped 𝓛 n s ks.0 qs.0, drops ss ks.1 qs.1)

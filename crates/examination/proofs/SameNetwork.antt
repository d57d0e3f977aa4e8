-- Two files with the same periods and offsets, in either edition, a file and its archive form among them, are answered alike by better-of-two, mark and
-- the call by a key, as the network's pages and the search's say of the other calls. It holds since these go by what rate and the search answer. Each
-- theorem holds of every two calls that have returned, where they keep the contract in src/, which every call does. Assumes nothing.
use Prim.Native.Nat.{ℕ}
use mathlib.Core.Path.{◌≡◌, refl, sym, ap₂, ◌∙◌}
use mathlib.Core.List.{List, []}
use mathlib.Core.Logic.{◌⊎◌, inl, inr}
use borrow.Fn.World.{ArgsD, ResD}
use borrow.Fn.Kinds.{ended_of}
use contract.Lifetimes.{Lfts}
use denote.Triple.Clauses.{AtExit}
use lib.IntN.{ℤ}
use Rattle.network.specs.Archive.{SameOffsets}
use Rattle.network.specs.Network.{Net}
use Rattle.network.specs.Reading.{accepted, read_file}
use Rattle.examination.specs.ByKey.{key_answer, key_outcome}
use Rattle.examination.specs.Sheets.{Better, first, second, neither, better_of, mark_answer, mark_outcome}
use Rattle.examination.proofs.Laws.Alike.{examined_alike}
use Rattle.examination.specs.contracts.better.better as better
use Rattle.examination.proofs.better.better.Kinds as better_kinds
use Rattle.examination.proofs.better.better.Reads as better_contract
use Rattle.examination.specs.contracts.marking.mark as mark
use Rattle.examination.proofs.marking.mark.Kinds as mark_kinds
use Rattle.examination.proofs.marking.mark.Reads as mark_contract
use Rattle.examination.specs.contracts.by_key.by_key as by_key
use Rattle.examination.proofs.by_key.by_key.Kinds as by_key_kinds
use Rattle.examination.proofs.by_key.by_key.Reads as by_key_contract

-- Better-of-two, with equal sheets lent to both: the parts have equal contents, and are the first row itself of both calls, the second of both, or the
-- empty part at the first one's beginning of both
module _ (κs : Lfts 2) (a : ArgsD better.signature κs) (r : ResD better.signature κs) (s : AtExit (ended_of 2 better_kinds.ps better_kinds.r) κs)
    (kept : better_contract.Post κs a r s) (κs' : Lfts 2) (a' : ArgsD better.signature κs') (r' : ResD better.signature κs')
    (s' : AtExit (ended_of 2 better_kinds.ps better_kinds.r) κs') (kept' : better_contract.Post κs' a' r' s') where
  abbrev SamePart : Type 0
  SamePart =
      ((r ≡ a.1.0) × (r' ≡ a'.1.0))
      ⊎ (((r ≡ a.1.1.0) × (r' ≡ a'.1.1.0))
      ⊎ (((r.ref_ptr ≡ a.1.0.ref_ptr) × (r.now ≡ [])) × ((r'.ref_ptr ≡ a'.1.0.ref_ptr) × (r'.now ≡ []))))

  pub same_network_better_alike : {m n : Net} → read_file a.0.now ≡ accepted m → read_file a'.0.now ≡ accepted n → SameOffsets m n
      → a.1.0.now ≡ a'.1.0.now → a.1.1.0.now ≡ a'.1.1.0.now
      → (r.now ≡ r'.now) × SamePart
  same_network_better_alike reads reads' same sheets sheets' =
      go (better_of (read_file a.0.now) a.1.0.now a.1.1.0.now) refl
      (sym
      ((examined_alike a.0.now a'.0.now kept.1.1.1 kept'.1.1.1 reads reads' same).better_alike a.1.0.now a.1.1.0.now
      ∙ ap₂ (better_of (read_file a'.0.now)) sheets sheets'))
    where
      go : (b : Better) → better_of (read_file a.0.now) a.1.0.now a.1.1.0.now ≡ b
          → better_of (read_file a'.0.now) a'.1.0.now a'.1.1.0.now ≡ better_of (read_file a.0.now) a.1.0.now a.1.1.0.now
          → (r.now ≡ r'.now) × SamePart
      go first e f = let p = kept.0 e in let q = kept'.0 (f ∙ e) in (cc, inl (p, q))
      go second e f = let p = kept.1.0 e in let q = kept'.1.0 (f ∙ e) in (cc, inr (inl (p, q)))
      go neither e f = let p = kept.1.1.0 e in let q = kept'.1.1.0 (f ∙ e) in (p.1 ∙ sym q.1, inr (inr (p, q)))

-- Mark, with the same budget
module _ (κs : Lfts 2) (a : ArgsD mark.signature κs) (r : ResD mark.signature κs) (s : AtExit (ended_of 2 mark_kinds.ps mark_kinds.r) κs)
    (kept : mark_contract.Post κs a r s) (κs' : Lfts 2) (a' : ArgsD mark.signature κs') (r' : ResD mark.signature κs')
    (s' : AtExit (ended_of 2 mark_kinds.ps mark_kinds.r) κs') (kept' : mark_contract.Post κs' a' r' s') where
  pub same_network_marked_alike : {m n : Net} → read_file a.0.now ≡ accepted m → read_file a'.0.now ≡ accepted n → SameOffsets m n
      → a.1.0.now ≡ a'.1.0.now → a.1.1.0 ≡ a'.1.1.0 → mark_answer r ≡ mark_answer r'
  same_network_marked_alike reads reads' same sheets budgets =
      kept.0
      ∙ (examined_alike a.0.now a'.0.now kept.1 kept'.1 reads reads' same).mark_alike a.1.1.0 a.1.0.now
      ∙ ap₂ (λ (sheet : List ℤ) (budget : ℕ). mark_outcome (read_file a'.0.now) sheet budget) sheets budgets
      ∙ sym kept'.0

-- By a key
module _ (κs : Lfts 3) (a : ArgsD by_key.signature κs) (r : ResD by_key.signature κs) (s : AtExit (ended_of 3 by_key_kinds.ps by_key_kinds.r) κs)
    (kept : by_key_contract.Post κs a r s) (κs' : Lfts 3) (a' : ArgsD by_key.signature κs') (r' : ResD by_key.signature κs')
    (s' : AtExit (ended_of 3 by_key_kinds.ps by_key_kinds.r) κs') (kept' : by_key_contract.Post κs' a' r' s') where
  pub same_network_by_key_alike : {m n : Net} → read_file a.0.now ≡ accepted m → read_file a'.0.now ≡ accepted n → SameOffsets m n
      → a.1.0.now ≡ a'.1.0.now → a.1.1.0.now ≡ a'.1.1.0.now → key_answer r ≡ key_answer r'
  same_network_by_key_alike reads reads' same sheets keys =
      kept.0
      ∙ (examined_alike a.0.now a'.0.now kept.1 kept'.1 reads reads' same).key_alike a.1.0.now a.1.1.0.now
      ∙ ap₂ (key_outcome (read_file a'.0.now)) sheets keys
      ∙ sym kept'.0

-- The gaps and the rating depend on the starts only through their residues by the periods, and do not change where all starts move
-- together: neither does the difference of two arrivals, by the greatest common divisor of their periods. Assumes nothing.
use Prim.Native.Nat.{ℕ, ◌<◌}
use mathlib.Core.Path.{◌≡◌, refl, ap, ap₂, ◌∙◌}
use mathlib.Core.List.{List, map}
use native.Mathlib.Omega.{arith}
use native.Mathlib.Decide.{ℕ_discrete}
use lib.IntN.{ℤ, pos, ◌+ℤ◌, ◌*ℤ◌}
use lib.ListN.{length, get_or, set}
use lib.Seq.{get_or-set_same, get_or-set_other}
use Rattle.network.specs.declared.Call.{Call}
use Rattle.network.specs.Network.{Net}
use Rattle.network.specs.Valid.{no_call, Valid}
use Rattle.network.specs.Gap.{residue, gap_of}
use Rattle.network.specs.Rating.{arrival_of, period_of, gap_of_calls, calls_of_stop, stop_gap, rating}
use Rattle.network.proofs.Laws.Lists.{get_d_map}
use Rattle.network.proofs.Laws.Members.{All, AllPairs, keep_pairs}
use Rattle.network.proofs.Laws.Integers.{difference, difference_add, eq_of_difference}
use Rattle.network.proofs.Laws.Gap.{residue_of_add, multiple_of_residue_eq, residue_eq_of_multiple, gap_of_period_left}
use Rattle.network.proofs.Laws.Gap.{gap_of_period_right, gap_of_shift}
use Rattle.network.proofs.Laws.Pairs.{gap_of_stop_cong}
use Rattle.network.proofs.Laws.Rating.{rating_cong}

-- Where the gaps of all pairs of calls agree, so do those of the stops
stop_gap_of_calls : (n : Net) (starts moved : List ℤ)
    → AllPairs no_call (λ c d. gap_of_calls n starts c d ≡ gap_of_calls n moved c d) n.calls
    → (stop : ℕ) → stop_gap n starts stop ≡ stop_gap n moved stop
unfolding stop_gap calls_of_stop
stop_gap_of_calls n starts moved f stop =
    gap_of_stop_cong n n starts moved (calls_of_stop n stop) (λ i h. refl)
    (keep_pairs no_call _ (λ c d. gap_of_calls n starts c d ≡ gap_of_calls n moved c d) n.calls (λ j k h l e g. f j k h l))

-- ---- residues

gap_of_calls_residues : (n : Net) (starts moved : List ℤ) (c d : Call) → 0 < period_of n c → 0 < period_of n d
    → residue (get_or starts c.line (pos 0)) (period_of n c) ≡ residue (get_or moved c.line (pos 0)) (period_of n c)
    → residue (get_or starts d.line (pos 0)) (period_of n d) ≡ residue (get_or moved d.line (pos 0)) (period_of n d)
    → gap_of_calls n starts c d ≡ gap_of_calls n moved c d
unfolding gap_of_calls arrival_of
gap_of_calls_residues n starts moved c d hc hd ec ed =
    let t : ℕ = period_of n c in
    let u : ℕ = period_of n d in
    let a : ℤ = arrival_of moved c in
    let b : ℤ = arrival_of moved d in
    let (k, e) = multiple_of_residue_eq (arrival_of starts c) a t hc (residue_of_add _ _ (pos c.offset) t hc ec) in
    let (l, f) = multiple_of_residue_eq (arrival_of starts d) b u hd (residue_of_add _ _ (pos d.offset) u hd ed) in
    ap₂ (λ x y. gap_of x t y u) e f ∙ gap_of_period_left a t (b +ℤ l *ℤ pos u) u k ∙ gap_of_period_right a t b u l

-- Each line's two starts leave the same residue by its period
abbrev pub SameResidues : Net → List ℤ → List ℤ → Type 0
SameResidues n starts moved =
    (i : ℕ) → i < length n.periods
    → residue (get_or starts i (pos 0)) (get_or n.periods i 0) ≡ residue (get_or moved i (pos 0)) (get_or n.periods i 0)

module _ {n : Net} (valid : Valid n) (starts moved : List ℤ) (same : SameResidues n starts moved) where
  pub stop_gap_residues : (stop : ℕ) → stop_gap n starts stop ≡ stop_gap n moved stop
  unfolding period_of
  stop_gap_residues = stop_gap_of_calls n starts moved
      (λ j k h l.
      let c = valid.call_line j (omega arith) in
      let d = valid.call_line k l in
      gap_of_calls_residues n starts moved _ _ (valid.period_pos _ c) (valid.period_pos _ d) (same _ c) (same _ d))

  pub rating_residues : rating n starts ≡ rating n moved
  rating_residues = rating_cong n n starts moved refl stop_gap_residues

-- ---- all starts moved together (3.4.1)

pub arrival_moved : (starts : List ℤ) (k : ℤ) (c : Call) → c.line < length starts
    → arrival_of (map (λ x. x +ℤ k) starts) c ≡ arrival_of starts c +ℤ k
unfolding arrival_of
arrival_moved starts k c h =
    let start = difference (get_or starts c.line (pos 0)) in
    let offset = difference (pos c.offset) in
    let left = difference_add (difference_add start (difference k)) offset in
    let right = difference_add (difference_add start offset) (difference k) in
    ap (λ (x : ℤ). x +ℤ pos c.offset) (get_d_map (λ x. x +ℤ k) starts c.line (pos 0) (pos 0) h)
    ∙ eq_of_difference left right (omega arith)

gap_of_calls_moved_together : (n : Net) (starts : List ℤ) (k : ℤ) (c d : Call) → c.line < length starts → d.line < length starts
    → gap_of_calls n (map (λ x. x +ℤ k) starts) c d ≡ gap_of_calls n starts c d
unfolding gap_of_calls
gap_of_calls_moved_together n starts k c d h l =
    ap₂ (λ x y. gap_of x (period_of n c) y (period_of n d)) (arrival_moved starts k c h) (arrival_moved starts k d l)
    ∙ gap_of_shift (arrival_of starts c) (period_of n c) (arrival_of starts d) (period_of n d) k

module _ {n : Net} (valid : Valid n) (starts : List ℤ) (fits : length starts ≡ length n.periods) (k : ℤ) where
  pub stop_gap_moved_together : (stop : ℕ) → stop_gap n (map (λ x. x +ℤ k) starts) stop ≡ stop_gap n starts stop
  stop_gap_moved_together = stop_gap_of_calls n (map (λ x. x +ℤ k) starts) starts
      (λ i j h l. gap_of_calls_moved_together n starts k _ _ (stated i (omega arith)) (stated j l))
    where
      stated : All no_call (λ c. c.line < length starts) n.calls
      stated i h = omega (arith, valid.call_line i h)

  pub rating_moved_together : rating n (map (λ x. x +ℤ k) starts) ≡ rating n starts
  rating_moved_together = rating_cong n n (map (λ x. x +ℤ k) starts) starts refl stop_gap_moved_together

-- ---- one start moved by a multiple of its line's period

abbrev pub moved_by_period : Net → List ℤ → ℕ → ℤ → List ℤ
moved_by_period n starts i k = set starts i (get_or starts i (pos 0) +ℤ k *ℤ pos (get_or n.periods i 0))

moved_by_period_residues : (n : Net) (starts : List ℤ) (i : ℕ) → i < length starts → (k : ℤ)
    → SameResidues n (moved_by_period n starts i k) starts
moved_by_period_residues n starts i stated k j h = go (ℕ_discrete j i)
  where
    start : ℤ
    start = get_or starts i (pos 0) +ℤ k *ℤ pos (get_or n.periods i 0)

    go : Dec (j ≡ i) → residue (get_or (set starts i start) j (pos 0)) (get_or n.periods j 0)
        ≡ residue (get_or starts j (pos 0)) (get_or n.periods j 0)
    go (yes e) = rw e (residue_eq_of_multiple _ _ k _ (get_or-set_same starts i start (pos 0) stated))
    go (no f) = ap (λ x. residue x (get_or n.periods j 0)) (get_or-set_other starts i j start (pos 0) f)

module _ {n : Net} (valid : Valid n) (starts : List ℤ) (i : ℕ) (stated : i < length starts) (k : ℤ) where
  pub stop_gap_moved_by_period : (stop : ℕ) → stop_gap n (moved_by_period n starts i k) stop ≡ stop_gap n starts stop
  stop_gap_moved_by_period = stop_gap_residues valid _ starts (moved_by_period_residues n starts i stated k)

  pub rating_moved_by_period : rating n (moved_by_period n starts i k) ≡ rating n starts
  rating_moved_by_period = rating_residues valid _ starts (moved_by_period_residues n starts i stated k)

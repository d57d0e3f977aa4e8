-- `network::board::Due::list_minute` meets its contract. The loop's invariant: behind what stands before the place the rows have the calls passed that are due,
-- and behind them what stood there, and the minutes of the calls passed are one later. Assumes nothing.
use Prim.Native.Nat.{ℕ, ◌+◌, ◌-◌, ◌<◌, ◌≤◌}
use mathlib.Core.Path.{◌≡◌, refl, sym, ap, ap₂, ◌∙◌}
use mathlib.Core.Bool.{Bool, true, false}
use mathlib.Core.List.{List}
use native.Mathlib.Nat.{le_antisymm}
use native.Mathlib.Omega.{arith}
use borrow.Author.Count.{below_more}
use borrow.Author.Tests.{eq-eqb, ne_eqb}
use lib.IntN.{ℤ}
use lib.ListN.{length, get_or, set, length-set}
use lib.Seq.{get_or-set_same, get_or-set_other}
use mir.Syntax.{w64}
use mir.Val.{to_z, of_z}
use mir.Facts.{to_z-of_z}
use Rattle.network.specs.declared.board.Due.{Due}
use Rattle.network.specs.Lists.{pick, count_below}
use Rattle.network.specs.Engine.Due.{due_in, one_later, listed_in}
use Rattle.network.proofs.Laws.Listed.{length_listed_in, listed_in_none, listed_in_skip, listed_in_put}
use Rattle.network.proofs.Laws.Tables.{count_below_next, count_below_add}
use Rattle.network.proofs.board.Due.list_minute.Goals as goal
use Rattle.network.proofs.board.Due.list_minute.Goals.{After-loop-j, In-loop-j, else-passed-self, then-passed-self}

-- At a turn of the loop
module _ (t : In-loop-j) where
  abbrev j : ℕ
  j = t.loop-j.j

  abbrev periods : List ℕ
  periods = t.args.self.now.periods

  abbrev since : List ℕ
  since = t.args.self.now.since

  abbrev due : ℕ → Bool
  due = due_in periods since

  small : j < 32
  small = omega (arith, t.loop-j-test.true, t.requires.within_periods.few)

  -- its minutes are those at the beginning
  since_is : get_or t.loop-j.self.since j 0 ≡ get_or since j 0
  since_is = t.loop-j.invariant.4 j (omega arith)

  low : get_or since j 0 < get_or periods j 0
  low = t.requires.within_periods.since_low j t.loop-j-test.true

  -- of those that are due up to here and those of the whole minute
  few : count_below due (j + 1) ≤ count_below due t.args.self.now.count
  few =
      let rest = t.args.self.now.count - (j + 1) in
      let all : j + 1 + rest ≡ t.args.self.now.count = omega (arith, t.loop-j-test.true) in
      omega (arith, count_below_add due (j + 1) rest, ap (count_below due) all)

  -- a call that is due has room in both rows
  room : due j ≡ true → (t.args.at + count_below due j < length t.args.time_row.now) × (t.args.at + count_below due j < length t.args.line_row.now)
  room e =
      let more : count_below due (j + 1) ≡ count_below due j + 1 = count_below_next due j ∙ ap (λ (b : Bool). count_below due j + pick b 1 0) e in
      (omega (arith, more, few, t.requires.count_in_bounds.0), omega (arith, more, few, t.requires.count_in_bounds.1))

  within : t.args.at + count_below due j ≤ length t.args.time_row.now × (t.args.at + count_below due j ≤ length t.args.line_row.now)
  within = (omega (arith, count_below_next due j, few, t.requires.count_in_bounds.0), omega (arith, count_below_next due j, few, t.requires.count_in_bounds.1))

  times_length : length t.loop-j.time_row ≡ length t.args.time_row.now
  times_length = ap length t.loop-j.invariant.5 ∙ length_listed_in _ _ _ due j within.0

  lines_length : length t.loop-j.line_row ≡ length t.args.line_row.now
  lines_length = ap length t.loop-j.invariant.6 ∙ length_listed_in _ _ _ due j within.1

  -- the row of minutes with those of this call one later
  module _ (passed : ℕ) (is : passed ≡ one_later periods since j) where
    abbrev later : List ℕ
    later = set t.loop-j.self.since j passed

    in_row : j < length t.loop-j.self.since
    in_row = omega (arith, small, t.loop-j.invariant.2)

    later_passed : (i : ℕ) → i < j + 1 → get_or later i 0 ≡ one_later periods since i
    later_passed =
        below_more (λ i. get_or later i 0 ≡ one_later periods since i) j
        (λ i h. get_or-set_other t.loop-j.self.since j i passed 0 (λ e. omega arith) ∙ t.loop-j.invariant.3 i h)
        (get_or-set_same t.loop-j.self.since j passed 0 in_row ∙ is)

    later_left : (i : ℕ) → j + 1 ≤ i → get_or later i 0 ≡ get_or since i 0
    later_left i h = get_or-set_other t.loop-j.self.since j i passed 0 (λ e. omega arith) ∙ t.loop-j.invariant.4 i (omega arith)

-- The call is due, by the test that is taken
is_due : (t : In-loop-j) → get_or t.loop-j.self.since (j t) 0 + 1 ≡ get_or t.loop-j.self.periods (j t) 0 → due t (j t) ≡ true
unfolding due_in
is_due t e =
    eq-eqb (get_or (since t) (j t) 0 + 1) (get_or (periods t) (j t) 0)
    (ap (λ (k : ℕ). k + 1) (sym (since_is t)) ∙ e ∙ ap (λ (l : List ℕ). get_or l (j t) 0) t.loop-j.invariant.9)

pub loop-j-init : goal.loop-j-init
unfolding count_below
loop-j-init c = (
  omega arith,
  omega arith,
  c.requires.within_periods.since_row,
  λ i h. absurd (omega (arith, h)),
  λ i h. refl,
  sym (listed_in_none _ _ _ _),
  sym (listed_in_none _ _ _ _),
  refl,
  refl,
  refl,
)

pub overflow_add-passed : goal.overflow_add-passed
overflow_add-passed c =
    let u = (goal.at.overflow_add-passed c).In-loop-j in
    omega (arith, since_is u, low u, c.requires.within_periods.period_low (j u) c.loop-j-test.true)

pub offset_bounds-time_row-next : goal.offset_bounds-time_row-next
offset_bounds-time_row-next c = omega (arith, room (goal.at.offset_bounds-time_row-next c).In-loop-j (is_due (goal.at.offset_bounds-time_row-next c).In-loop-j c.if-passed-self.true), c.loop-j.invariant.1, c.well_formed)

pub bounds-time_row-next : goal.bounds-time_row-next
bounds-time_row-next c =
    let u = (goal.at.bounds-time_row-next c).In-loop-j in
    omega (arith, room u (is_due u c.if-passed-self.true), c.loop-j.invariant.1, times_length u)

pub bounds-line_row-next : goal.bounds-line_row-next
bounds-line_row-next c =
    let u = (goal.at.bounds-line_row-next c).In-loop-j in
    omega (arith, room u (is_due u c.if-passed-self.true), c.loop-j.invariant.1, lines_length u)

pub overflow_add-next : goal.overflow_add-next
overflow_add-next c = omega (arith, room (goal.at.overflow_add-next c).In-loop-j (is_due (goal.at.overflow_add-next c).In-loop-j c.if-passed-self.true), c.loop-j.invariant.1, c.well_formed)

pub loop-j-smaller : goal.loop-j-smaller
loop-j-smaller c = omega (arith, c.loop-j-test.true)

-- The call isn't due, by the test that is not taken
not_due : (t : In-loop-j) → (get_or t.loop-j.self.since (j t) 0 + 1 ≡ get_or t.loop-j.self.periods (j t) 0 → ⊥) → due t (j t) ≡ false
unfolding due_in
not_due t f =
    ne_eqb (get_or (since t) (j t) 0 + 1) (get_or (periods t) (j t) 0)
    (λ e. f (ap (λ (k : ℕ). k + 1) (since_is t) ∙ e ∙ ap (λ (l : List ℕ). get_or l (j t) 0) (sym t.loop-j.invariant.9)))

pub loop-j-preserved : goal.loop-j-preserved
unfolding one_later
loop-j-preserved c =
    let u = (goal.at.loop-j-preserved c).In-loop-j in
    let inv = c.loop-j.invariant in
    elim c.if-passed-self.branch [
      | then-passed-self w ↦ let e : due u (j u) ≡ true = is_due u w.if-passed-self.true in
          let zero_later : 0 ≡ one_later (periods u) (since u) (j u) = ap (λ (b : Bool). pick b 0 (get_or (since u) (j u) 0 + 1)) (sym e) in
          let more : count_below (due u) (j u + 1) ≡ count_below (due u) (j u) + 1 = count_below_next (due u) (j u) ∙ ap (λ (b : Bool). count_below (due u) (j u) + pick b 1 0) e in (
            omega (arith, c.loop-j-test.true),
            w.next-is ∙ omega (arith, inv.1, more),
            ap (λ (d : Due). length d.since) w.self-is ∙ length-set c.loop-j.self.since (j u) 0 ∙ inv.2,
            λ i h. ap (λ (d : Due). get_or d.since i 0) w.self-is ∙ later_passed u 0 zero_later i h,
            λ i h. ap (λ (d : Due). get_or d.since i 0) w.self-is ∙ later_left u 0 zero_later i h,
            w.time_row-is ∙ ap₂ (λ (l : List ℤ) (k : ℕ). set l k (to_z w64 (of_z w64 c.args.time))) inv.5 inv.1 ∙ listed_in_put _ _ _ (due u) (j u) e (room u e).0,
            w.line_row-is
                ∙ ap (λ (v : ℕ). set c.loop-j.line_row c.loop-j.next v) (ap (λ (l : List ℕ). get_or l (j u) 0) inv.8)
                ∙ ap₂ (λ (l : List ℕ) (k : ℕ). set l k (get_or c.args.self.now.lines (j u) 0)) inv.6 inv.1 ∙ listed_in_put _ _ _ (due u) (j u) e (room u e).1,
            ap (λ (d : Due). d.count) w.self-is ∙ inv.7,
            ap (λ (d : Due). d.lines) w.self-is ∙ inv.8,
            ap (λ (d : Due). d.periods) w.self-is ∙ inv.9,
          )
      | else-passed-self w ↦ let e : due u (j u) ≡ false = not_due u w.if-passed-self.false in
          let one_later : get_or c.loop-j.self.since (j u) 0 + 1 ≡ one_later (periods u) (since u) (j u) =
          ap (λ (k : ℕ). k + 1) (since_is u) ∙ ap (λ (b : Bool). pick b 0 (get_or (since u) (j u) 0 + 1)) (sym e) in
          let same : count_below (due u) (j u + 1) ≡ count_below (due u) (j u) + 0 = count_below_next (due u) (j u) ∙ ap (λ (b : Bool). count_below (due u) (j u) + pick b 1 0) e in (
            omega (arith, c.loop-j-test.true),
            w.next-is ∙ omega (arith, inv.1, same),
            ap (λ (d : Due). length d.since) w.self-is ∙ length-set c.loop-j.self.since (j u) (get_or c.loop-j.self.since (j u) 0 + 1) ∙ inv.2,
            λ i h. ap (λ (d : Due). get_or d.since i 0) w.self-is ∙ later_passed u _ one_later i h,
            λ i h. ap (λ (d : Due). get_or d.since i 0) w.self-is ∙ later_left u _ one_later i h,
            w.time_row-is ∙ inv.5 ∙ sym (listed_in_skip _ _ _ (due u) (j u) e),
            w.line_row-is ∙ inv.6 ∙ sym (listed_in_skip _ _ _ (due u) (j u) e),
            ap (λ (d : Due). d.count) w.self-is ∙ inv.7,
            ap (λ (d : Due). d.lines) w.self-is ∙ inv.8,
            ap (λ (d : Due). d.periods) w.self-is ∙ inv.9,
          )
    ]

-- At the end all calls are passed
module _ (c : After-loop-j) where
  abbrev due_at_start : ℕ → Bool
  due_at_start = due_in c.args.self.now.periods c.args.self.now.since

  all : c.loop-j.j ≡ c.args.self.now.count
  all = le_antisymm c.loop-j.invariant.0 c.loop-j-test.false

  times_are : c.loop-j.time_row
      ≡ listed_in c.args.time_row.now c.args.at (λ (i : ℕ). to_z w64 (of_z w64 c.args.time)) due_at_start c.args.self.now.count
  times_are =
      c.loop-j.invariant.5 ∙ ap (listed_in c.args.time_row.now c.args.at (λ (i : ℕ). to_z w64 (of_z w64 c.args.time)) due_at_start) all

  lines_are : c.loop-j.line_row
      ≡ listed_in c.args.line_row.now c.args.at (λ (i : ℕ). get_or c.args.self.now.lines i 0) due_at_start c.args.self.now.count
  lines_are =
      c.loop-j.invariant.6 ∙ ap (listed_in c.args.line_row.now c.args.at (λ (i : ℕ). get_or c.args.self.now.lines i 0) due_at_start) all

pub shape_of-time_row : goal.shape_of-time_row
shape_of-time_row c = ap length (times_are c) ∙ length_listed_in _ _ _ (due_at_start c) _ c.requires.count_in_bounds.0

pub shape_of-line_row : goal.shape_of-line_row
shape_of-line_row c = ap length (lines_are c) ∙ length_listed_in _ _ _ (due_at_start c) _ c.requires.count_in_bounds.1

pub returns : goal.returns
returns c = let l = c.loop-j in
    let times_listed =
    times_are c ∙ ap (λ (x : ℤ). listed_in c.args.time_row.now c.args.at (λ (i : ℕ). x) (due_at_start c) c.args.self.now.count) (to_z-of_z c.ranges.time) in record {
      next = l.invariant.1 ∙ ap (λ (k : ℕ). c.args.at + count_below (due_at_start c) k) (all c);
      times = times_listed;
      lines = lines_are c;
      since = (l.invariant.2, λ i h. l.invariant.3 i (omega (arith, h, all c)));
      calls = (l.invariant.7, l.invariant.8, l.invariant.9);
    }

-- `search::caps::Bounds::with_call` meets its contract: one call more adds its visits, and its pairs with the calls before where there are any.
-- Assumes nothing.
use Prim.Native.Nat.{ℕ, ◌+◌, ◌/◌, ◌<◌, ◌≤◌}
use mathlib.Core.Path.{◌≡◌, sym, ap, ap₂, ◌∙◌}
use mathlib.Core.List.{List, [], ◌∷◌, ◌++◌, map}
use native.Mathlib.Nat.{pos_of_ne-zero, div-le_self}
use native.Mathlib.Omega.{arith}
use lib.ListN.{length, get_or, length-append}
use Rattle.network.specs.declared.Call.{Call}
use Rattle.network.specs.declared.Rows.{Rows}
use Rattle.network.specs.Rating.{period_of}
use Rattle.network.specs.Lists.{least_from}
use Rattle.network.specs.Engine.Scan.{calls_before}
use Rattle.network.specs.Engine.Stored.{net_of, calls_in}
use Rattle.network.proofs.Laws.Stored.{held_lines, held_period, held_period_pos}
use Rattle.network.proofs.Laws.Gaps.{length_calls_before, period_of_is}
use Rattle.search.specs.declared.caps.Bounds.{Bounds}
use Rattle.search.specs.Caps.{pair_cap}
use Rattle.search.specs.Engine.CapScan.{visits_of, least_pair_cap, bounds_of}
use Rattle.search.proofs.Laws.CapScan.{least_pair_cap_first, least_pair_cap_snoc, visits_of_snoc, visits_of_le, bounds_of_made}
use Rattle.search.proofs.caps.Bounds.with_call.Goals as goal
use Rattle.search.proofs.caps.Bounds.with_call.Goals.{Start}

-- What is handed over, and what the code makes of it, by the definitions
module _ (s : Start) where
  abbrev rows : Rows
  rows = s.args.network.now.rows

  abbrev call : Call
  call = s.args.call

  abbrev calls : List Call
  calls = calls_before call.stop (calls_in rows.list) s.args.at

  abbrev period : ℕ
  period = get_or rows.periods call.line 0

  own_line : call.line < rows.lines
  own_line = omega (arith, s.requires.line_in_bounds.0, held_lines rows s.args.network.now.sound)

  period_is : period ≡ period_of (net_of rows) call
  period_is = sym (period_of_is (net_of rows) call ∙ held_period rows call.line own_line)

  calls_are : s.args.self.calls ≡ length calls
  unfolding bounds_of
  calls_are = ap (λ (b : Bounds). b.calls) s.requires.bounds_value

  calls_few : length calls ≤ 256
  calls_few = omega (arith, length_calls_before call.stop (calls_in rows.list) s.args.at, s.requires.line_in_bounds.1, s.args.network.now.sound.calls)

  visits_are : s.args.self.visits ≡ visits_of (net_of rows) calls
  unfolding bounds_of
  visits_are = ap (λ (b : Bounds). b.visits) s.requires.bounds_value

  visits_few : s.args.self.visits ≤ 2580480
  visits_few =
      omega (arith, visits_are, visits_of_le (net_of rows) 10080 calls s.args.network.now.valid.cycle_max, calls_few)

  visits_next : s.args.self.visits + rows.cycle / period ≡ visits_of (net_of rows) (calls ++ (call ∷ []))
  visits_next =
      ap₂ ◌+◌ visits_are (ap₂ ◌/◌ s.args.network.now.sound.cycle_is period_is) ∙ sym (visits_of_snoc (net_of rows) calls call)

  pair_is : s.args.self.pair ≡ least_pair_cap (net_of rows) calls
  unfolding bounds_of
  pair_is = ap (λ (b : Bounds). b.pair) s.requires.bounds_value

  pair_next :
      (pair : ℕ)
      → (s.args.self.calls ≡ 0 → ⊥)
      → pair ≡ least_from s.args.self.pair (map (λ d. pair_cap (net_of rows) d call) calls)
      → pair ≡ least_pair_cap (net_of rows) (calls ++ (call ∷ []))
  pair_next pair f e =
      e
      ∙ ap (λ (v : ℕ). least_from v (map (λ d. pair_cap (net_of rows) d call) calls)) pair_is
      ∙ sym (least_pair_cap_snoc (net_of rows) calls call (omega (arith, pos_of_ne-zero f, calls_are)))

pub nonzero_div-visits : goal.nonzero_div-visits
nonzero_div-visits c =
    let u = (goal.at.nonzero_div-visits c).Start in
    held_period_pos (rows u) c.args.network.now.sound c.args.network.now.valid (call u).line (own_line u)

pub overflow_add-visits : goal.overflow_add-visits
overflow_add-visits c =
    let u = (goal.at.overflow_add-visits c).Start in
    omega (arith, visits_few u, div-le_self (rows u).cycle (period u), c.args.network.now.sound.cycle_le)

pub returns-then-self-eq0 : goal.returns-then-self-eq0
returns-then-self-eq0 c =
    let u = (goal.at.returns-then-self-eq0 c).Start in
    let none : length (calls u) ≡ 0 = sym (calls_are u) ∙ c.if-self-eq0.true in
    bounds_of_made (net_of (rows u)) _ _ _ (calls u ++ (call u ∷ [])) (omega (arith, none, length-append (calls u) (call u ∷ []))) (visits_next u)
    (period_is u ∙ sym (least_pair_cap_first (net_of (rows u)) (calls u) (call u) none))

pub overflow_add-result : goal.overflow_add-result
overflow_add-result c =
    let u = (goal.at.overflow_add-result c).Start in
    omega (arith, calls_are u, calls_few u)

pub returns : goal.returns
returns c =
    let u = (goal.at.returns c).Start in
    bounds_of_made (net_of (rows u)) _ _ _ (calls u ++ (call u ∷ [])) (omega (arith, calls_are u, length-append (calls u) (call u ∷ []))) (visits_next u)
    (pair_next u _ c.if-self-eq0.false c.least_pair_cap.ensures)

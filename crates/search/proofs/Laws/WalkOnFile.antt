-- Laws of the walk on a file: before the first try each stop's upper value is its cap, the rows in line order hold the network, the walk over
-- a network is the tries of its first line, and what a call makes of its ending. Assumes nothing.
use Prim.Native.Nat.{ℕ, ◌+◌, ◌*◌, ◌<◌, ◌≤◌}
use mathlib.Core.Path.{◌≡◌, refl, sym, ap, ap₂, fun_ext, ◌∙◌}
use mathlib.Core.Bool.{Bool, true, false}
use mathlib.Core.List.{List, [], ◌∷◌, map}
use native.Mathlib.Omega.{arith}
use borrow.Author.Tests.{le-ltb}
use Rattle.std.specs.Prelude.{None, Result, Ok, Err}
use lib.Dec.{ltb}
use lib.IntN.{ℤ}
use lib.ListN.{length, get_or, replicate, length-replicate}
use Rattle.network.specs.declared.Call.{Call}
use Rattle.network.specs.declared.grounds.Refusal.{Refusal}
use Rattle.network.specs.declared.Rows.{Rows}
use Rattle.network.specs.Numbers.{number_of}
use Rattle.network.specs.declared.Rating as held
use Rattle.network.specs.Engine.Rated.{rated, ranked}
use Rattle.network.specs.Divisor.{gcd}
use Rattle.network.specs.Lists.{sum_of, least_of, least_from}
use Rattle.network.specs.Network.{Net, is_served, max_stop, max_period}
use Rattle.network.specs.Rating.{Rating, pair_gaps, calls_of_stop, served_list, counted, rating_by}
use Rattle.network.specs.Reading.{Reading}
use Rattle.network.specs.Engine.Scan.{LeadsBack, counted_stops}
use Rattle.network.specs.Engine.Stored.{net_of, calls_in, Sound, packed}
use Rattle.network.specs.Valid.{Valid, no_call}
use Rattle.network.proofs.Laws.Lists.{get_d_zeros}
use Rattle.network.proofs.Laws.Members.{keep_none}
use Rattle.network.proofs.Laws.Packed.{call_in_row}
use Rattle.network.proofs.Laws.Stored.{held_lines, held_calls, held_period, held_call}
use Rattle.network.proofs.Laws.Gaps.{rating_by_same, counted_of_member, counted_served, rating_by_counted, leads_back_fewer, leads_back_same, leads_back_at}
use Rattle.network.proofs.Laws.Gaps.{least_from_pair_gaps_few, sum_of_served_le}
use Rattle.search.specs.declared.Walk as code
use Rattle.search.specs.Caps.{cap, placed_calls, upper_value, upper_rating}
use Rattle.search.specs.Engine.Representation.{Represents, NetworkRows, first_in, count_in, starts_of, walk_from, try_at, with_reciprocal}
use Rattle.search.specs.Engine.Representation.{state_by, state_of, ended, refusal, ending_of, from_ending}
use Rattle.search.specs.Engine.Layout.{by_line, in_line_order}
use Rattle.search.specs.Search.{start_counts, walked, on_start_row, row_after_walk}
use Rattle.search.specs.Walk.{State, Rule, at_first, each_start}
use Rattle.search.proofs.Laws.CapScan.{cap_le}
use Rattle.search.proofs.Laws.Layout.{length_by_line_all}
use Rattle.search.proofs.Laws.CallRows.{by_line_all}
use Rattle.search.proofs.Laws.StartRow.{on_start_row_made}
use Rattle.search.proofs.Laws.Tries.{walk_from_next}

-- ---- no line placed

upper_value_none : (n : Net) (caps : ℕ → ℕ) (stop : ℕ) → upper_value n caps [] stop ≡ caps stop
unfolding upper_value placed_calls
upper_value_none n caps stop =
    ap (λ (cs : List Call). least_from (caps stop) (pair_gaps n [] cs))
    (keep_none (λ (c : Call). ltb c.line 0) (λ c. le-ltb c.line 0 (omega arith)) (calls_of_stop n stop))
    ∙ least_from_pair_gaps_few n [] (caps stop) [] (omega arith)

module _ (n : Net) (valid : Valid n) where
  abbrev rating_of_caps : Rating
  rating_of_caps = rating_by (cap n) (counted n)

  sum_of_caps_low : sum_of (cap n) (served_list n) ≤ 4194240
  sum_of_caps_low = omega (arith, sum_of_served_le n (cap n) max_period (cap_le n valid))

  caps_rating_is : rating_of_caps ≡ record { some = true; least = least_of (map (cap n) (served_list n)); sum = sum_of (cap n) (served_list n) }
  caps_rating_is = rating_by_counted (cap n) n

  -- the rating that the rows of caps and of served stops give
  pub caps_rating :
      (caps : List ℕ) (served : List Bool) (weights : List ℕ)
      → ((stop : ℕ) → stop < 64 → get_or caps stop 0 ≡ cap n stop)
      → ((stop : ℕ) → stop < 64 → get_or served stop false ≡ is_served stop n.calls)
      → ((stop : ℕ) → stop < 64 → get_or weights stop 0 ≡ 1)
      → rating_by (λ stop. get_or caps stop 0) (counted_stops served weights) ≡ rating_by (cap n) (counted n)
  caps_rating caps served weights h k e =
      rating_by_same (λ stop. get_or caps stop 0) (cap n) (counted_stops served weights) (λ s m. h s.stop (counted_of_member served weights s m).0)
      ∙ ap (rating_by (cap n)) (counted_served n served weights k e)

  -- before the first try
  pub unplaced_represents :
      (caps : List ℕ) (r : held.Rating)
      → length caps ≡ 64
      → ((stop : ℕ) → stop < 64 → get_or caps stop 0 ≡ cap n stop)
      → rated r ≡ rating_by (cap n) (counted n)
      → Represents n 0 (record { starts = replicate 16 0; values = caps; upper = r })
  unfolding upper_rating
  unplaced_represents caps r row h e =
      record {
        starts_row = length-replicate {A = ℕ} 16 0;
        values_row = row;
        starts_low = λ i. omega (arith, get_d_zeros 16 i);
        value_of = λ stop b s. h stop b ∙ sym (upper_value_none n (cap n) stop);
        sum_low = omega (arith, sum_of_caps_low, ap (λ (q : Rating). q.sum) (e ∙ caps_rating_is));
        rating_of =
            ap (λ (q : Rating). record { some = true; least = q.least; sum = q.sum }) (e ∙ caps_rating_is)
            ∙ sym caps_rating_is
            ∙ ap (λ gap. rating_by gap (counted n)) (sym (fun_ext (upper_value_none n (cap n))));
      }

-- ---- the rows of the calls in line order

module _
    (network by : Rows)
    (sound : Sound network)
    (valid : Valid (net_of network))
    (by_sound : Sound by)
    (ordered : net_of by ≡ in_line_order (net_of network) (net_of network).calls (length (net_of network).periods)) where
  abbrev calls_in_order : List Call
  calls_in_order = by_line (net_of network).calls (length (net_of network).periods)

  calls_are : (net_of by).calls ≡ calls_in_order
  unfolding in_line_order
  calls_are = ap (λ (m : Net). m.calls) ordered

  length_in_order : length calls_in_order ≡ length (net_of network).calls
  length_in_order = length_by_line_all (net_of network).calls (length (net_of network).periods) valid.call_line

  pub count_is : by.count ≡ length (net_of network).calls
  count_is = sym (held_calls by by_sound) ∙ ap (λ (cs : List Call). length cs) calls_are ∙ length_in_order

  pub call_at : (i : ℕ) → i < length (net_of network).calls → get_or (calls_in by.list) i no_call ≡ get_or calls_in_order i no_call
  call_at i h = sym (held_call by i (omega (arith, h, count_is))) ∙ ap (λ (cs : List Call). get_or cs i no_call) calls_are

  pub stops_low : (i : ℕ) → i < by.count → (get_or (calls_in by.list) i no_call).stop < 64
  stops_low i h =
      omega (
        arith,
        ap (λ (c : Call). c.stop) (call_at i (omega (arith, h, count_is))),
        by_line_all (λ (c : Call). c.stop ≤ max_stop) (net_of network).calls valid.call_stop (length (net_of network).periods) i
            (omega (arith, h, count_is, length_in_order)),
      )

  -- each number of its row is a call packed
  pub codes_are : (i : ℕ) → i < by.count → get_or by.list i 0 ≡ packed (get_or (calls_in by.list) i no_call)
  codes_are i h = sym (by_sound.packs i h) ∙ ap packed (sym (call_in_row by.list i))

  module _
      (previous divisors lines : List ℕ)
      (leads : LeadsBack previous (calls_in by.list) by.count)
      (divisor_of : (i j : ℕ) → i < 16 → j < 16 → get_or divisors (i * 16 + j) 0 ≡ with_reciprocal (gcd (get_or network.periods j 0) (get_or network.periods i 0)))
      (first_of : (k : ℕ) → k ≤ length (net_of network).periods → first_in (get_or lines k 0) ≡ length (by_line (net_of network).calls k))
      (count_of : (k : ℕ) → k < length (net_of network).periods → count_in (get_or lines k 0) ≡ get_or (start_counts (net_of network).periods) k 0) where
    pub leads_in_order : LeadsBack previous calls_in_order (length (net_of network).calls)
    leads_in_order =
        leads_back_same previous (calls_in by.list) (length (net_of network).calls)
        (leads_back_fewer previous (calls_in by.list) by.count leads (length (net_of network).calls) (omega (arith, count_is))) calls_in_order call_at

    pub divisor_in_order :
        (i j : ℕ)
        → i < length (net_of network).periods
        → j < length (net_of network).periods
        → get_or divisors (i * 16 + j) 0 ≡ with_reciprocal (gcd (get_or (net_of network).periods j 0) (get_or (net_of network).periods i 0))
    divisor_in_order i j h k =
        divisor_of i j (omega (arith, h, valid.lines)) (omega (arith, k, valid.lines))
        ∙ sym
        (ap₂ (λ (a b : ℕ). with_reciprocal (gcd a b)) (held_period network j (omega (arith, k, held_lines network sound))) (held_period network i (omega (arith, h, held_lines network sound))))

    -- they hold the network
    abbrev pub network_rows : NetworkRows (net_of network) by.list previous divisors lines
    network_rows =
        record {
          valid = valid;
          code_of = λ i h. codes_are i (omega (arith, h, count_is)) ∙ ap packed (call_at i h);
          leads = leads_back_at previous calls_in_order (length (net_of network).calls) leads_in_order;
          divisor_of = divisor_in_order;
          first_of = first_of;
          count_of = count_of;
        }

-- ---- the walk

start_counts_first : (periods : List ℕ) → 0 < length periods → get_or (start_counts periods) 0 0 ≡ 1
unfolding start_counts
start_counts_first [] h = absurd (omega (arith, h))
start_counts_first (p ∷ ps) h = refl

-- The walk over a network is the one try of its first line at 0
pub walked_by_tries :
    (n : Net)
    → Valid n
    → (rule : Rule) (budget : ℕ) (starts : List ℕ) (r : code.Walk)
    → state_of n r ≡ each_start (try_at n rule budget 0 []) 0 1 (state_of n (record { tries = 0; stopped = false; best = None; starts = starts }))
    → state_of n r ≡ walked n rule budget
unfolding walked walk_from state_of state_by
walked_by_tries n valid rule budget starts r e =
    e
    ∙ sym
    (walk_from_next n rule budget 0 [] at_first valid.some_line
    ∙ ap (λ (k : ℕ). each_start (try_at n rule budget 0 []) 0 k at_first) (start_counts_first n.periods valid.some_line))

-- ---- what a call makes of the ending of a walk

module _ {A : Type 0} (answers : State → A) (refuses : ℕ → ℕ → A) (walks : Net → State) (read : Reading) (row : ℕ) (e : Result code.Walk Refusal)
    (ends : ending_of row e ≡ on_start_row (λ (n : Net). ended (walks n)) refusal read row) where
  made_of : from_ending answers refuses (ending_of row e) ≡ on_start_row (λ (n : Net). answers (walks n)) refuses read row
  unfolding from_ending
  made_of =
      ap (from_ending answers refuses) ends ∙ on_start_row_made (from_ending answers refuses) (λ (n : Net). ended (walks n)) refusal read row

module _ {A : Type 0} (answers : State → A) (refuses : ℕ → ℕ → A) (walks : Net → State) (read : Reading) (row : ℕ) where
  pub made_of_walk : (w : code.Walk) → ending_of row (Ok w) ≡ on_start_row (λ (n : Net). ended (walks n)) refusal read row
      → answers (state_by row w) ≡ on_start_row (λ (n : Net). answers (walks n)) refuses read row
  unfolding from_ending ending_of
  made_of_walk w ends = made_of answers refuses walks read row (Ok w) ends

  pub made_of_refusal : (r : Refusal) → ending_of row (Err r) ≡ on_start_row (λ (n : Net). ended (walks n)) refusal read row
      → refuses (number_of r.reason) r.place ≡ on_start_row (λ (n : Net). answers (walks n)) refuses read row
  unfolding from_ending ending_of
  made_of_refusal r ends = made_of answers refuses walks read row (Err r) ends

-- ---- what it leaves in a row

module _ (lines : ℕ) (w : code.Walk) (row : List ℤ) where
  pub best_written : (ranked w.best).some ≡ true → starts_of lines w.starts ≡ row_after_walk (state_by lines w) row
  unfolding row_after_walk state_by
  best_written e = rw e refl

  pub none_left_as_is : (ranked w.best).some ≡ false → row ≡ row_after_walk (state_by lines w) row
  unfolding row_after_walk state_by
  none_left_as_is e = rw e refl

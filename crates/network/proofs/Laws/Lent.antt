-- Rows that are lent in place of a network, put together in an edition of their own with the common cycle of their periods: they are the network's
-- rows in that edition, so that they are sound and valid as the network is; and neither a gap nor a rating goes by the edition. Assumes nothing.
use Prim.Native.Nat.{ℕ, ◌<◌, ◌≤◌}
use mathlib.Core.Path.{◌≡◌, refl, sym, ap, ap₂, subst, ◌∙◌}
use mathlib.Core.List.{List}
use lib.Dec.{eqb}
use lib.IntN.{ℤ}
use lib.ListN.{length, get_or, take}
use Rattle.network.specs.declared.Rows.{Rows}
use Rattle.network.specs.Divisor.{common_cycle}
use Rattle.network.specs.Lists.{pick}
use Rattle.network.specs.Network.{Net, with_edition, first_edition, latest_edition, max_lines, max_period, max_cycle, cycle}
use Rattle.network.specs.Rate.{rating_values, on_sheet, rate_outcome}
use Rattle.network.specs.Rating.{Rating, calls_of_stop, stop_gap, served_list, counted, rating}
use Rattle.network.specs.Reading.{accepted, refusal}
use Rattle.network.specs.Valid.{Valid}
use Rattle.network.specs.Engine.Scan.{Lent}
use Rattle.network.specs.Engine.Stored.{net_of, Sound}
use Rattle.network.proofs.Laws.Pairs.{gap_of_stop_periods}
use Rattle.network.proofs.Laws.Rating.{rating_cong}
use Rattle.network.proofs.Laws.Stored.{held_lines, edition_put, edition_put_lem, sound_edition}

-- ---- in another edition

valid_in_edition : {n : Net} → Valid n → (edition : ℕ) → first_edition ≤ edition → edition ≤ latest_edition → Valid (with_edition n edition)
unfolding cycle
valid_in_edition v edition from to =
    record {
      edition_from = from;
      edition_to = to;
      some_line = v.some_line;
      lines = v.lines;
      period_pos = v.period_pos;
      period = v.period;
      cycle_max = v.cycle_max;
      calls = v.calls;
      call_line = v.call_line;
      call_stop = v.call_stop;
      call_offset = v.call_offset;
      often = v.often;
      every_line_calls = v.every_line_calls;
    }

module _ (n : Net) (edition : ℕ) where
  pub stop_gap_in_edition : (starts : List ℤ) (stop : ℕ) → stop_gap (with_edition n edition) starts stop ≡ stop_gap n starts stop
  unfolding stop_gap calls_of_stop
  stop_gap_in_edition starts stop = gap_of_stop_periods (with_edition n edition) n refl starts (calls_of_stop n stop)

  rating_in_edition : (starts : List ℤ) → rating (with_edition n edition) starts ≡ rating n starts
  unfolding counted served_list
  rating_in_edition starts = rating_cong (with_edition n edition) n starts starts refl (stop_gap_in_edition starts)

  pub rate_in_edition : (sheet : List ℤ) → rate_outcome (accepted (with_edition n edition)) sheet ≡ rate_outcome (accepted n) sheet
  unfolding rate_outcome on_sheet
  rate_in_edition sheet =
      ap (λ (r : Rating). pick (eqb (length sheet) (length n.periods)) (rating_values r) (refusal 15 0)) (rating_in_edition sheet)

-- ---- the rows that are lent, put together

module _ {periods list : List ℕ} {lines calls : ℕ} (h : Lent periods list lines calls) where
  lines_lent : lines ≡ h.network.lines
  lines_lent = h.lines_are ∙ held_lines h.network h.sound

  pub lines_le : lines ≤ max_lines
  lines_le = rw lines_lent h.sound.lines

  periods_lent : take lines periods ≡ (net_of h.network).periods
  unfolding net_of
  periods_lent = ap₂ take lines_lent h.periods_are

  pub cycle_lent_le : common_cycle (take lines periods) ≤ max_cycle
  unfolding cycle
  cycle_lent_le = rw periods_lent h.valid.cycle_max

  pub period_lent : (i : ℕ) → i < length (take lines periods)
      → (0 < get_or (take lines periods) i 0) × (get_or (take lines periods) i 0 ≤ max_period)
  period_lent = rw periods_lent (λ i k. (h.valid.period_pos i k, h.valid.period i k))

  module _ (common edition : ℕ) (is : common ≡ common_cycle (take lines periods)) where
    abbrev together : Rows
    together = record { edition = edition; lines = lines; periods = periods; count = calls; list = list; cycle = common }

    together_is : together ≡ edition_put h.network edition
    unfolding cycle
    together_is =
        let e : common ≡ h.network.cycle = is ∙ ap common_cycle periods_lent ∙ sym h.sound.cycle_is in
        rw (lines_lent, h.periods_are, h.calls_are, h.list_is, e) refl

    pub net_of_together : net_of together ≡ with_edition (net_of h.network) edition
    net_of_together = ap net_of together_is ∙ edition_put_lem h.network edition

    pub sound_together : Sound together
    sound_together = subst Sound (sym together_is) (sound_edition h.network edition h.sound)

    pub valid_together : first_edition ≤ edition → edition ≤ latest_edition → Valid (net_of together)
    valid_together from to = subst Valid (sym net_of_together) (valid_in_edition h.valid edition from to)

-- `network::reader::read_network` meets its contract. The loop's invariant is `ReaderTurn`: what the reader keeps fits together, and reading comes to
-- the part that is left with this network. Assumes nothing.
use Prim.Native.Nat.{ℕ, ◌+◌, ◌*◌, ◌-◌, ◌<◌, ◌≤◌}
use mathlib.Core.Path.{◌≡◌, refl, sym, ap, subst, ◌∙◌}
use mathlib.Core.List.{List, [], ◌∷◌}
use native.Mathlib.Nat.{sub_self, sub-zero}
use native.Mathlib.Omega.{arith}
use lib.ListN.{length, get_or, take, drop, length-drop}
use lib.Seq.{drop-cons}
use Rattle.std.specs.Prelude.{Result, Ok, Some}
use Rattle.network.specs.declared.Call.{Call}
use Rattle.network.specs.declared.Stated.{Stated}
use Rattle.network.specs.declared.Stated.TheVariants as stated
use Rattle.network.specs.declared.grounds.Refusal.{Refusal}
use Rattle.network.specs.declared.reader.Reader.{Reader}
use Rattle.network.specs.Numbers.{number_of}
use Rattle.network.specs.Network.{SoFar, so_far, Command, command, ends, unknown, operand_bytes, extend, max_lines, max_calls, max_calls_at_stop}
use Rattle.network.specs.Grounds.{Passes, Refused, first, grounds}
use Rattle.network.specs.Reading.{read_file, accepted, refused}
use Rattle.network.specs.Gives.{Reached, start, runs_out, refuses, accepts}
use Rattle.network.specs.Gives as gives
use Rattle.network.specs.Engine.Commands.{kind_of}
use Rattle.network.specs.Engine.Read.{reading_of, rows_read}
use Rattle.network.specs.Engine.Stored.{net_of, InStep, IsParsed, ComesTo}
use Rattle.network.specs.Valid.{IsBytes}
use Rattle.network.proofs.Laws.Grounds.{first_hit}
use Rattle.network.proofs.Laws.Lists.{take_rest}
use Rattle.network.proofs.Laws.Reading.{passes_operands, gives_what_is_read}
use Rattle.network.proofs.Laws.Stored.{LineParsed, CallParsed, EditionParsed, held_lines, held_calls, line_of_parsed, call_of_parsed, edition_of_parsed}
use Rattle.network.proofs.Laws.Valid.{accepted_valid}
use Rattle.network.proofs.reader.read_network.Goals as goal
use Rattle.network.proofs.reader.read_network.Goals.{After-read_command, After-part_behind-rest, In-End, Joined-stated, in-Calls, in-Edition, in-Line}

-- A part that is left is its first byte and what stands behind that
parted : (rest : List ℕ) → 0 < length rest → rest ≡ get_or rest 0 0 ∷ take (length rest - 1) (drop 1 rest)
parted rest some = drop-cons rest 0 0 some ∙ ap (λ (l : List ℕ). get_or rest 0 0 ∷ l) (sym (take_rest 1 rest))

-- Where a command has been read: the part that was left is the command's byte and what stands behind it
module _ (r : After-read_command) where
  abbrev file : List ℕ
  file = r.args.file.now

  abbrev reader : Reader
  reader = r.loop-rest.reader

  abbrev rest : List ℕ
  rest = r.loop-rest.rest.now

  abbrev behind : List ℕ
  behind = take (length rest - 1) (drop 1 rest)

  abbrev code : Command
  code = command (get_or rest 0 0)

  -- the command that was taken is that byte's
  code_is : kind_of (Some r.in-Some.command) ≡ code
  code_is = r.in-Some.ensures

  abbrev place : ℕ
  place = length file - length rest

  abbrev before : SoFar
  before = so_far (net_of reader.rows)

  abbrev result : Result Stated Refusal
  result = r.read_command.result

  kept : InStep reader.rows reader.often reader.latest
  kept = reader.in_step

  rest_is : rest ≡ get_or rest 0 0 ∷ behind
  rest_is = parted rest r.loop-rest-test.true

  length_behind : length rest ≡ length behind + 1
  length_behind = omega (arith, ap length rest_is)

  comes_here : ComesTo file rest reader.rows
  comes_here = r.loop-rest.invariant.comes_here

  reached_here : Reached file before place (get_or rest 0 0 ∷ behind)
  reached_here = subst (Reached file before place) rest_is comes_here

  -- what the command parsed, once it is known which it is
  parsed_here : (t : Result Stated Refusal) → result ≡ t → IsParsed code before place behind t
  parsed_here t e = subst (IsParsed code before place behind) e (rw code_is at r.read_command.ensures)

  line_parsed : {period common : ℕ} → result ≡ Ok (stated.Line period common) → LineParsed code before place behind period common
  line_parsed e = line_of_parsed code before place behind _ _ (rw (← kept.sound.cycle_is) kept.sound.cycle_pos) (parsed_here _ e)

  call_parsed : {call : Call} → result ≡ Ok (stated.Calls call) → CallParsed code before place behind call
  call_parsed e = call_of_parsed code before place behind _ (parsed_here _ e)

  edition_parsed : {edition : ℕ} → result ≡ Ok (stated.Edition edition) → EditionParsed code before place behind edition
  edition_parsed e = edition_of_parsed code before place behind _ (parsed_here _ e)

  line_room : {period common : ℕ} → result ≡ Ok (stated.Line period common) → reader.rows.lines < max_lines
  line_room e = omega (arith, (line_parsed e).room, held_lines reader.rows kept.sound)

  call_room : {call : Call} → result ≡ Ok (stated.Calls call) → reader.rows.count < max_calls
  call_room e = omega (arith, (call_parsed e).room, held_calls reader.rows kept.sound)

  line_low : {call : Call} → result ≡ Ok (stated.Calls call) → call.line < max_lines
  line_low e = omega (arith, (call_parsed e).line, held_lines reader.rows kept.sound, kept.sound.lines)

  -- ground 9 has passed, so that the call's place has room for one more
  often_low : {call : Call} → result ≡ Ok (stated.Calls call) → get_or reader.often (call.stop * max_lines + call.line) 0 < max_calls_at_stop
  often_low e = omega (arith, (call_parsed e).often, kept.often_is _ _ (line_low e) (call_parsed e).stop)

  -- an edition, a line or a call goes on with the part behind it
  record Next (n : Reader) : Type 0 where
    passes : first (grounds code before place behind) ≡ Passes
    onward : code ≡ ends → ⊥
    extended : so_far (net_of n.rows) ≡ extend code before behind

-- Where an edition, a line or a call has been taken
next : (c : Joined-stated) → Next (goal.at.Joined-stated c).After-read_command c.match-stated.reader
next c =
    let r = (goal.at.Joined-stated c).After-read_command in
    elim c.match-stated.branch [
      | in-Edition w ↦
          let t = edition_parsed r (c.in-Ok.is ∙ ap (λ (s : Stated). Ok s) w.in-Edition.is) in
          record { passes = t.passes; onward = t.onward; extended = ap (λ (n : Reader). so_far (net_of n.rows)) w.reader-is ∙ ap so_far w.set_edition.ensures ∙ t.extended }
      | in-Line w ↦
          let t = line_parsed r (c.in-Ok.is ∙ ap (λ (s : Stated). Ok s) w.in-Line.is) in
          record { passes = t.passes; onward = t.onward; extended = ap (λ (n : Reader). so_far (net_of n.rows)) w.reader-is ∙ ap so_far w.add_line.ensures ∙ t.extended }
      | in-Calls w ↦
          let t = call_parsed r (c.in-Ok.is ∙ ap (λ (s : Stated). Ok s) w.in-Calls.is) in
          record { passes = t.passes; onward = t.onward; extended = ap (λ (n : Reader). so_far (net_of n.rows)) w.reader-is ∙ ap so_far w.add_call.ensures ∙ t.extended }
    ]

-- Where nothing is left, a command is due
runs_out_here : (file : List ℕ) (f : SoFar) (rest : List ℕ) → length rest ≤ 0 → Reached file f (length file - length rest) rest
    → refused 1 (length file) ≡ read_file file
runs_out_here file f [] h r = ap (refused 1) (sym (sub-zero (length file))) ∙ sym (gives_what_is_read (runs_out r))
runs_out_here file f (b ∷ rest) h r = absurd (omega arith)

pub loop-rest-init : goal.loop-rest-init
loop-rest-init c = let file = c.args.file.now in
    record {
      rows = c.new-reader.result.in_step;
      left = omega arith;
      comes_here = rw (c.new-reader.ensures, sub_self (length file)) start;
    }

pub overflow_sub-at : goal.overflow_sub-at
overflow_sub-at c = c.loop-rest.invariant.left

pub returns-in-Err : goal.returns-in-Err
unfolding reading_of rows_read IsParsed
returns-in-Err c =
    let u = (goal.at.returns-in-Err c).After-read_command in (
      (kept u).sound,
      sym (gives_what_is_read (refuses (reached_here u) (parsed_here u _ c.in-Err.is))),
      (rest u, comes_here u),
    )

pub returns-in_default : goal.returns-in_default
unfolding reading_of rows_read number_of kind_of grounds
returns-in_default c =
    let file = c.args.file.now in
    let rest = c.loop-rest.rest.now in
    let n = c.loop-rest.reader in
    let behind = take (length rest - 1) (drop 1 rest) in
    let f = so_far (net_of n.rows) in
    let place : ℕ = length file - length rest in
    let is : unknown ≡ command (get_or rest 0 0) = c.in_default.ensures in
    let here : Reached file f place (get_or rest 0 0 ∷ behind) = subst (Reached file f place) (parted rest c.loop-rest-test.true) c.loop-rest.invariant.comes_here in
    let first_is : first (grounds (command (get_or rest 0 0)) f place behind) ≡ Refused 2 place = rw (← is) (first_hit _ _ _ _ refl) in (
      n.in_step.sound,
      rw c.at.ensures (sym (gives_what_is_read (refuses here first_is))),
      (rest, c.loop-rest.invariant.comes_here),
    )

-- Where the file ends it is accepted
accepted_here : (c : In-End) → read_file c.args.file.now ≡ accepted (net_of c.loop-rest.reader.rows)
unfolding IsParsed
accepted_here c =
    let u = (goal.at.In-End c).After-read_command in
    let t = parsed_here u _ (c.in-Ok.is ∙ ap (λ (s : Stated). Ok s) c.in-End.is) in
    gives_what_is_read (accepts (reached_here u) t.1 t.0)

bytes_here : (c : In-End) → IsBytes c.args.file.now
unfolding IsBytes
bytes_here c i = (c.type_inv.file i).fits

pub invariant_of-result : goal.invariant_of-result
invariant_of-result c =
    let u = (goal.at.invariant_of-result c).In-End in
    record { sound = c.loop-rest.reader.in_step.sound; valid = accepted_valid c.args.file.now _ (bytes_here u) (accepted_here u) }

pub returns-in-End : goal.returns-in-End
unfolding reading_of rows_read
returns-in-End c =
    let u = (goal.at.returns-in-End c).In-End in (
      c.loop-rest.reader.in_step.sound,
      sym (accepted_here u),
      (c.loop-rest.rest.now, c.loop-rest.invariant.comes_here),
    )

pub add_line-requires : goal.add_line-requires
add_line-requires c =
    let u = (goal.at.add_line-requires c).After-read_command in
    let e = c.in-Ok.is ∙ ap (λ (s : Stated). Ok s) c.in-Line.is in
    let t = line_parsed u e in
    (line_room u e, t.cycle_pos, t.cycle_le, t.cycle_is)

pub add_call-requires-clause-room : goal.add_call-requires-clause-room
add_call-requires-clause-room c =
    let u = (goal.at.add_call-requires-clause-room c).After-read_command in
    let e = c.in-Ok.is ∙ ap (λ (s : Stated). Ok s) c.in-Calls.is in
    (call_room u e, often_low u e)

pub add_call-requires-clause-within : goal.add_call-requires-clause-within
add_call-requires-clause-within c =
    let u = (goal.at.add_call-requires-clause-within c).After-read_command in
    let e = c.in-Ok.is ∙ ap (λ (s : Stated). Ok s) c.in-Calls.is in
    (line_low u e, (call_parsed u e).stop)

pub part_behind-rest-requires : goal.part_behind-rest-requires
part_behind-rest-requires c =
    let u = (goal.at.part_behind-rest-requires c).After-read_command in
    rw (code_is u) (passes_operands (code u) (before u) (place u) (behind u) (next (goal.at.part_behind-rest-requires c).Joined-stated).passes)

-- What is left behind the command
left_is : (c : After-part_behind-rest) → c.part_behind-rest.result.now ≡ drop (operand_bytes (code (goal.at.After-part_behind-rest c).After-read_command)) (behind (goal.at.After-part_behind-rest c).After-read_command)
left_is c =
    let u = (goal.at.After-part_behind-rest c).After-read_command in
    c.part_behind-rest.ensures ∙ ap (λ (k : Command). drop (operand_bytes k) (behind u)) (code_is u)

pub loop-rest-smaller : goal.loop-rest-smaller
loop-rest-smaller c =
    let u = (goal.at.loop-rest-smaller c).After-read_command in
    omega (arith, ap length (left_is c), length-drop (operand_bytes (code u)) (behind u), length_behind u)

pub loop-rest-preserved : goal.loop-rest-preserved
loop-rest-preserved c =
    let u = (goal.at.loop-rest-preserved c).After-read_command in
    let k = operand_bytes (code u) in
    let x = next (goal.at.loop-rest-preserved c).Joined-stated in
    let left : length c.part_behind-rest.result.now ≡ length (behind u) - k = ap length (left_is c) ∙ length-drop k (behind u) in
    let fits : k ≤ length (behind u) = passes_operands (code u) (before u) (place u) (behind u) x.passes in
    let within : length (rest u) ≤ length (file u) = c.loop-rest.invariant.left in
    let onto : length (file u) - length c.part_behind-rest.result.now ≡ place u + 1 + k = omega (arith, length_behind u) in
    record {
      rows = c.match-stated.reader.in_step;
      left = omega (arith, length_behind u);
      comes_here = rw (onto, left_is c, x.extended) (gives.next (reached_here u) x.passes x.onward);
    }

pub returns : goal.returns
unfolding reading_of rows_read number_of
returns c = let l = c.loop-rest in
    let file = c.args.file.now in (
      l.reader.in_step.sound,
      rw c.at-2.ensures (runs_out_here file (so_far (net_of l.reader.rows)) l.rest.now (omega (arith, c.loop-rest-test.false)) l.invariant.comes_here),
      (l.rest.now, l.invariant.comes_here),
    )

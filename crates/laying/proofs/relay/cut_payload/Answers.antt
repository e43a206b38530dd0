-- The main data of a frame that isn't lost are within the window and its own area.
use Rattle.std.proofs.Common.{ap, append_assoc, arith, length, length-append, List, refl, subst}
use Rattle.std.proofs.Common.{sym, ℕ, ◌++◌, ◌+◌, ◌-◌, ◌/◌, ◌∙◌, ◌≡◌}
use Rattle.laying.proofs.ReachLemmas.{area-held}
use Rattle.laying.proofs.ReadLemmas.{bits-least, bytes-are, cut-is, IsWithin, lost-is, place-next}
use Rattle.laying.proofs.relay.cut_payload.Goals.{After-from-begin}
use Rattle.reservoir.specs.Window.{AreBitsPacked, main_bits}
use Rattle.side_info.specs.Side.{payload_bytes}
use Rattle.sync_survey.specs.Faults.{survey_view}
use Rattle.laying.proofs.relay.cut_payload.Goals as goal

-- the main data of the frame are within the window and its own area
within : (c : After-from-begin) → IsWithin (survey_view c.args.survey.now).head
    (survey_view c.args.survey.now).frames c.args.i c.args.row.now
within c =
    grind (arith, c.requires.placed c.args.i c.args.row.now c.requires.found, c.if-lost.false)

begin_is : (c : After-from-begin) → c.from-begin.result ≡ c.args.row.now.side.main_data_begin
begin_is c = c.from-begin.ensures ∙ c.requires.begin

-- the number of bytes is the least that holds the bits
size_is : (c : After-from-begin)
    → (c.args.extent.now.bits + 7) / 8 ≡ payload_bytes c.args.row.now.side
size_is c = ap (λ n. (n + 7) / 8) c.requires.bits ∙ sym (bytes-are c.args.row.now.side)

pub main_data_with-requires-clause-held : goal.main_data_with-requires-clause-held
main_data_with-requires-clause-held c = grind (arith, within, begin_is)

pub main_data_with-requires-clause-within : goal.main_data_with-requires-clause-within
main_data_with-requires-clause-within c =
    grind (arith, bits-least c.args.extent.now.bits, size_is, begin_is, within)

pub main_data_with-requires-clause-few : goal.main_data_with-requires-clause-few
main_data_with-requires-clause-few c =
    let at = (goal.at.main_data_with-requires-clause-few c).After-from-begin in
    let row = c.args.row.now in
    omega (
      arith,
      area-held (survey_view c.args.survey.now)
          (c.requires.placed c.args.i row c.requires.found),
      begin_is at,
      c.requires.area,
    )

pub main_data_with-requires-clause-short : goal.main_data_with-requires-clause-short
main_data_with-requires-clause-short c =
    let row = c.args.row.now in
    omega (
      arith,
      area-held (survey_view c.args.survey.now)
          (c.requires.placed c.args.i row c.requires.found),
      c.requires.area,
      c.requires.few,
    )

pub returns-then-lost-clause-told : goal.returns-then-lost-clause-told
returns-then-lost-clause-told c = λ file passed long is. c.empty.ensures ∙ lost-is file
    (survey_view c.args.survey.now) c.args.i c.args.row.now (sym c.lost.ensures ∙ c.if-lost.true)

pub returns-else-lost-clause-size : goal.returns-else-lost-clause-size
returns-else-lost-clause-size c = grind (arith, size_is)

pub returns-else-lost-clause-told : goal.returns-else-lost-clause-told
returns-else-lost-clause-told c = λ file passed long is.
    let at = (goal.at.returns-else-lost-clause-told c).After-from-begin in
    let s = survey_view c.args.survey.now in
    let row = c.args.row.now in
    let own = c.args.held.now.own.now in
    let last = c.args.held.now.before.now in
    let held = passed ++ c.args.held.now.window.now in
    let main = (held ++ last) ++ own in
    let begin = c.from-begin.result in
    let bits = c.args.extent.now.bits in
    let many : length held ≡ length passed + length c.args.held.now.window.now =
    length-append passed c.args.held.now.window.now in
    let all : length main ≡ length held + length last + length own =
    length-append (held ++ last) own ∙ ap (λ n. n + length own) (length-append held last) in
    let start : length held + length last - begin ≡ length main - length own - begin =
    omega (arith, all) in
    cut-is file s c.requires.found (sym c.lost.ensures ∙ c.if-lost.false) (within at)
    (omega (
      arith,
      all,
      many,
      long,
      c.requires.area,
      place-next s.head s.frames c.args.i c.requires.found,
    )) is c.requires.area (begin_is at) c.requires.bits
    (omega (arith, bits-least bits, size_is at)) c.main_data_with.ensures.bytes
    (subst (λ k. AreBitsPacked c.main_data_with.result bits (main_bits main k bits)) start
    (subst (λ (l : List ℕ). AreBitsPacked c.main_data_with.result bits
    (main_bits l (length held + length last - begin) bits)) (sym (append_assoc held last own))
    (c.main_data_with.ensures.payload held (passed, refl))))

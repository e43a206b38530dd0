-- A window that holds no more than later main data can reach.
use Rattle.std.proofs.Common.{ap, append-nil, append_assoc, arith, Bool, cond, drop, false, inl}
use Rattle.std.proofs.Common.{inr, length, length-append, length-drop, List, min, refl, slice_get}
use Rattle.std.proofs.Common.{Some, subst, suc, sym, take, ℕ, ◌++◌, ◌+◌, ◌-◌, ◌<◌, ◌||◌, ◌∙◌, ◌≡◌}
use Rattle.std.proofs.{Common.◌≤◌, lemmas.{Bool.{cases_lt, ltb-false}, List.take-append-drop}}
use Rattle.frame_header.specs.Tables.{class_of, overhead_of}
use Rattle.laying.proofs.NeedsFitLemmas.{end_more, silent_bytes}
use Rattle.laying.proofs.ReadLemmas.{area-at, main-next, place-next, window-holds}
use Rattle.laying.specs.Needs.{need_of}
use Rattle.laying.specs.Passing.{AreGivenBytes, HoldsLastAreas, HoldsLastWithBytes, IsAreaOf}
use Rattle.laying.specs.Passing.{IsWindowOverFrames, KeepsReach}
use Rattle.outside.specs.Files.{Files}
use Rattle.reservoir.proofs.{FrameLemmas.frames-held, WindowLemmas.window-last}
use Rattle.reservoir.specs.Window.{IsWindowOver}
use Rattle.side_info.specs.Side.{payload_bytes, SideFits}
use Rattle.sync_survey.proofs.SurveyPartsLemmas.{data-none_well, StandWell}
use Rattle.sync_survey.specs.Faults.{SurveyFields}
use Rattle.sync_survey.specs.MainData.{data_end_before, end_of_data, is_silent, own_area, place}
use Rattle.sync_survey.specs.{Row.Row, Survey.IsWellPlaced}

-- ---- how far back later main data may begin

-- `taken` of the bytes before a frame's own area are before the end of its main data
abbrev pub IsTaken : (before bytes begin taken : ℕ) → Type 0
IsTaken before bytes begin taken =
    (bytes ≡ 0 → taken ≡ 0) × (0 < bytes → taken ≡ min before (before + bytes - begin))

-- After the frame the bytes from the end of the last main data on are at most
-- those before and the frame's area. If some of the bytes before its area were
-- taken, at most as many are between that end and the area as are left of them.
abbrev LeavesBytes : (place ended behind area bytes begin : ℕ) → Type 0
LeavesBytes place ended behind area bytes begin =
    (place + area - behind ≤ (place - ended) + area) × ((before taken : ℕ)
    → IsTaken before bytes begin taken → 0 < taken → place - behind ≤ before - taken)

leaves_by : {place ended : ℕ} (r : Row) {silent lost : Bool} → is_silent r ≡ silent
    → (lost ≡ false → StandWell place ended r)
    → LeavesBytes place ended (cond (silent || lost) ended (end_of_data place r))
    (own_area r.header) (cond lost 0 (payload_bytes r.side)) r.side.main_data_begin
leaves_by r h5 well = grind (arith, silent_bytes, ltb-false, cases_lt)

leaves : (s : SurveyFields) {i : ℕ} {r : Row} → slice_get s.frames i ≡ Some r
    → IsWellPlaced s.head s.class s.frames i r → LeavesBytes (place s.head s.frames i)
    (data_end_before s.head s.frames i) (data_end_before s.head
    s.frames (i + 1)) (own_area r.header) (need_of r).bytes r.side.main_data_begin
leaves s {i} {r} found is =
    let at = place s.head s.frames i in
    let ended = data_end_before s.head s.frames i in
    let more : i + 1 ≡ suc i = omega arith in
    let behind : data_end_before s.head s.frames (i + 1)
    ≡ cond (is_silent r || r.lost) ended (end_of_data at r) =
    grind (arith, end_more) in
    subst (λ n. LeavesBytes at ended n (own_area r.header) (need_of r).bytes r.side.main_data_begin)
    (sym behind)
    (leaves_by r refl
    (λ none. data-none_well is.sound (sym is.mark ∙ none)))

-- a frame's area and its main_data_begin are at most 1,939 bytes
pub area-held : (s : SurveyFields) {i : ℕ} {r : Row} → IsWellPlaced s.head s.class s.frames i r
    → own_area r.header + r.side.main_data_begin ≤ 1939
area-held s {r = r} is =
    frames-held r.header r.side is.known (subst (λ c. SideFits c r.side) (sym is.class_is) is.fits)

-- ---- a window

-- a window over all areas holds enough
pub over-holds : {window input : List ℕ} {files : Files} {s : SurveyFields} {i : ℕ}
    → IsWindowOverFrames window input files s i → HoldsLastAreas window input files s 0 0 i
over-holds {window} over =
    grind (
      arith,
      window-last {held = window} {main = over.main} over.held,
      length-append,
      window-holds {held = window} over.main over.held,
      append-nil,
    )

-- the bytes after a window are those of the input
pub holds-given : {window last input : List ℕ} {files : Files} {s : SurveyFields} {at count i : ℕ}
    → HoldsLastAreas window input files s at count i → AreGivenBytes last input files at count
    → HoldsLastWithBytes window last input files s i
holds-given over given = grind arith

module _ {before : List ℕ} (after : List ℕ) {last input : List ℕ} {files : Files} {s : SurveyFields}
    {i : ℕ}
    (over : HoldsLastWithBytes before last input files s i) where
  -- the last 2,048 bytes of a list that ends all areas before frame i are the last of these
  holds_by : (front kept : List ℕ) → front ++ kept ≡ over.passed ++ (before ++ last)
      → IsWindowOver after kept
      → (passed : List ℕ) × (length passed + length after ≡ place s.head s.frames i)
      × (min 2048 (length kept) ≤ length after)
      × (passed ++ after ≡ (over.passed ++ before) ++ last)
  holds_by front kept split is =
      let end = window-last {held = after} {main = kept} is in
      let whole : (front ++ end.0) ++ after ≡ (over.passed ++ before) ++ last =
      grind (arith, append_assoc) in (
        front ++ end.0,
        sym (length-append (front ++ end.0) after)
            ∙ ap length whole
            ∙ omega (
              arith,
              length-append (over.passed ++ before) last,
              length-append over.passed before,
              over.long,
            ),
        window-holds {held = after} kept is,
        whole,
      )

  -- with everything before frame i pushed into the window
  pub holds-pushed : {at : ℕ} → at ≤ s.length → IsWindowOver after (before ++ last)
      → HoldsLastAreas after input files s at 0 i
  holds-pushed within is = grind (arith, holds_by, length-append, append-nil)

  -- when the area of frame i was read
  module _ {own : List ℕ} {r : Row} (found : slice_get s.frames i ≡ Some r)
      (has : IsAreaOf own input files r) where
    holds_on : (front kept : List ℕ) → front ++ kept ≡ over.passed ++ (before ++ last)
        → IsWindowOver after kept
        → min 511 (place s.head s.frames (i + 1) - data_end_before s.head s.frames (i + 1))
        ≤ min 2048 (length kept) + length own → IsWellPlaced s.head s.class s.frames i r → {at : ℕ}
        → at ≡ r.offset + overhead_of (class_of r.header) r.header.protected
        → at + length own ≤ s.length → HoldsLastAreas after input files s at (length own) (i + 1)
    holds_on front kept split is many well at_is within =
        grind (arith, holds_by, place-next, area-held, area-at, main-next)

    -- the window holds all that later main data can reach
    pub holds-next : IsWellPlaced s.head s.class s.frames i r → {taken : ℕ}
        → IsTaken (length last) (need_of r).bytes r.side.main_data_begin taken
        → KeepsReach before after last (length own) taken → {at : ℕ}
        → at ≡ r.offset + overhead_of (class_of r.header) r.header.protected
        → at + length own ≤ s.length → HoldsLastAreas after input files s at (length own) (i + 1)
    holds-next well {taken} taken_is keeps {at} at_is within =
        let left = leaves s found well in
        let next = place-next s.head s.frames i found in
        let first = keeps.first in
        elim (cases_lt 0 (taken + first))
        as (λ _. HoldsLastAreas after input files s at (length own) (i + 1)) [
          | inl some ↦
              let split : (over.passed ++ (before ++ take first last)) ++ drop first last
              ≡ over.passed ++ (before ++ last) =
              grind (arith, append_assoc, take-append-drop) in
              holds_on (over.passed ++ (before ++ take first last)) (drop first last) split
              (keeps.rest some)
              (elim (cases_lt 0 taken)
              as (λ _. min 511
              (place s.head s.frames (i + 1) - data_end_before s.head s.frames (i + 1))
              ≤ min 2048 (length (drop first last)) + length own) [
                | inl any ↦ omega (
                  arith,
                  left.1 (length last) taken taken_is any,
                  next,
                  has.long,
                  keeps.many,
                  over.few,
                  length-drop first last,
                )
                | inr none ↦ omega
                    (arith, some, none, keeps.many, keeps.within, over.few, length-drop first last)
              ])
              well at_is within
          | inr none ↦ grind (arith, holds_on, length-append)
        ]

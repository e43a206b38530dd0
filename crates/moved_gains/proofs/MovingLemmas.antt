-- What is written is the edited file.
use Rattle.std.proofs.Common.{ap, append-nil, append_assoc, ap₂, arith, Bool, drop, length}
use Rattle.std.proofs.Common.{length-append, length-drop, List, None, Ok, Option, option_to_list}
use Rattle.std.proofs.Common.{refl, Some, sym, take, take-append-drop, ℕ, [], ◌++◌, ◌+◌, ◌-◌, ◌∙◌}
use Rattle.std.proofs.{Common.{◌∷◌, ◌≡◌, ◌≤◌}, Math.Seq.take-add}
use Rattle.std.proofs.lemmas.List.{drop-drop, drop_all, take_all, take_at}
use Rattle.frame_header.specs.Fields.{HeaderFields}
use Rattle.moved_gains.proofs.EditedItemLemmas.{moved-cons, moved-nil}
use Rattle.moved_gains.proofs.FoundTagLemmas.{survey_fields-length, survey_of-survey_fields}
use Rattle.moved_gains.proofs.LostOffsetLemmas.{EndBy, items_end, rows_by, told_rows}
use Rattle.moved_gains.proofs.ReadFileLemmas.{has_stream}
use Rattle.moved_gains.specs.Edited.{edited_file, is_lost_at, moved_frame_unless_lost, moved_item}
use Rattle.moved_gains.specs.Edited.{moved_items, moved_stream}
use Rattle.moved_gains.specs.Moving.{AreRowsOf, moved_row_bytes, row_end}
use Rattle.outside.specs.Pass.{bytes_between}
use Rattle.requests.specs.declared.shift.Steps.{Steps}
use Rattle.side_info.proofs.FrameLemmas.{side_in-take}
use Rattle.sync_survey.proofs.ChainLemmas.{bytes-ends, cons_list, IsItemOf, item_chain-ends}
use Rattle.sync_survey.proofs.{ChainLemmas.whole_item_at-is, ItemListLemmas.ends-within}
use Rattle.sync_survey.proofs.ItemsLemmas.{header_front-in_range, stands-at}
use Rattle.sync_survey.proofs.SurveyLemmas.{overhead-within}
use Rattle.sync_survey.proofs.SurveyPartsLemmas.{IsRead, survey_fields-parts, told_from}
use Rattle.sync_survey.specs.Chains.{AreEndToEnd, bytes_of_items, frame_of_item, frames_of}
use Rattle.sync_survey.specs.Chains.{item_bytes_in, item_chain, ItemChain, PlacedItem}
use Rattle.sync_survey.specs.{Faults.{survey_fields, SurveyFields}, Items.{item_at, size_of}}
use Rattle.sync_survey.specs.{Row.Row, Survey.survey_of}
use Rattle.sync_survey.specs.Walk.{head_of, numbered_frames, stream_chain}
use Rattle.sync_survey.specs.declared.chains.Region.{Region, TheVariants.{Front, Stream}}
use Rattle.sync_survey.specs.declared.{items.Item.{Item, TheVariants.Frame}, places.Head.Head}
use Rattle.sync_survey.specs.declared.places.{PlacedFrame.PlacedFrame, Start.Start}

-- the bytes of the file from one offset up to another, with the
-- gains of these frames moved, which are between the two in order
abbrev pub moved_to : (ℕ → Steps) → List ℕ → ℕ → ℕ → List Row → List ℕ
moved_to steps file at to [] = bytes_between file at to
moved_to steps file at to (row ∷ rows) = bytes_between file at row.offset
    ++ (moved_row_bytes (steps row.offset) file row ++ moved_to steps file (row_end row) to rows)

-- the bytes from an offset up to the end of the file, with the gains of these frames moved
abbrev pub moved_from : (ℕ → Steps) → List ℕ → ℕ → List Row → List ℕ
moved_from steps file at rows = moved_to steps file at (length file) rows

-- without more frames the rest of the file is left
pub moved_from-nil : (steps : ℕ → Steps) (file : List ℕ) (at : ℕ)
    → moved_from steps file at [] ≡ drop at file
moved_from-nil steps file at = grind (arith, take_all, length-drop)

-- the first of these frames is at this offset or after it
abbrev pub IsBehind : ℕ → List Row → Type 0
IsBehind at [] = Unit {0}
IsBehind at (row ∷ rows) = at ≤ row.offset

-- bytes before the first frame stay
pub moved_from-later : (steps : ℕ → Steps) (file : List ℕ) (at size : ℕ) (rows : List Row)
    → IsBehind (at + size) rows → moved_from steps file at rows
    ≡ take size (drop at file) ++ moved_from steps file (at + size) rows
moved_from-later steps file at size [] behind =
    moved_from-nil steps file at
    ∙ sym (take-append-drop size (drop at file))
    ∙ ap (λ (l : List ℕ). take size (drop at file) ++ l)
    (drop-drop size at file ∙ sym (moved_from-nil steps file (at + size)))
moved_from-later steps file at size (row ∷ rows) behind =
    let rest =
    moved_row_bytes (steps row.offset) file row ++ moved_from steps file (row_end row) rows in
    let sum : row.offset - at ≡ size + (row.offset - (at + size)) = omega (arith, behind) in
    ap (λ n. take n (drop at file) ++ rest) sum
    ∙ ap (λ (l : List ℕ). l ++ rest) (take-add size (row.offset - (at + size)) (drop at file)
    ∙ ap (λ (l : List ℕ). take size (drop at file) ++ take (row.offset - (at + size)) l)
    (drop-drop size at file))
    ∙ append_assoc (take size (drop at file)) (bytes_between file (at + size) row.offset) rest

-- ---- the items, in order

-- frames after an offset are after any earlier one
pub behind_earlier : {at later : ℕ} (rows : List Row) → at ≤ later → IsBehind later rows
    → IsBehind at rows
behind_earlier rows le behind = grind arith

-- frames in order from an offset on are after it
pub is_behind : (at : ℕ) (rows : List Row) (to : ℕ) → EndBy at rows to → IsBehind at rows
is_behind at rows to ends = grind arith

-- the frames of consecutive items
frames_behind : (lost : ℕ → Bool) (file : List ℕ) (part : Region) (ps : List PlacedItem)
    (from to : ℕ) → AreEndToEnd part file from ps to
    → IsBehind from (rows_by lost file (frames_of ps))
frames_behind lost file part ps from to e =
    is_behind from (rows_by lost file (frames_of ps)) to (items_end lost file part from ps to e)

abbrev item_bytes : List ℕ → ℕ → Item → List ℕ
item_bytes file at item = take (size_of item) (drop at file)

module _ (steps : ℕ → Steps) (lost : ℕ → Bool) (part : Region) (file : List ℕ)
    (frames : List PlacedFrame) (at : ℕ) where
  -- a frame
  frame_step : {h : HeaderFields} → IsItemOf part file at (Frame h)
      → moved_from steps file at (rows_by lost file (record { offset = at; header = h } ∷ frames))
      ≡ moved_frame_unless_lost (lost at) (steps at) h (item_bytes file at (Frame h))
      ++ moved_from steps file (at + size_of (Frame h)) (rows_by lost file frames)
  frame_step {h} here =
      grind (
        arith,
        overhead-within (header_front-in_range (drop at file) (stands-at file at
            (Frame h) here.is)),
        header_front-in_range (drop at file) (stands-at file at (Frame h)
            here.is),
        stands-at file,
        side_in-take,
      )

  item_step : {item : Item} → IsItemOf part file at item
      → IsBehind (at + size_of item) (rows_by lost file frames) → moved_from steps file at
      (rows_by lost file (option_to_list (frame_of_item at item) ++ frames))
      ≡ moved_item (steps at) (lost at) item (item_bytes file at item)
      ++ moved_from steps file (at + size_of item) (rows_by lost file frames)
  item_step here behind = grind (arith, frame_step, moved_from-later)

-- consecutive items are written as the moved items
pub moved_from-items : (steps : ℕ → Steps) (lost : ℕ → Bool) (part : Region) (file : List ℕ)
    (ps : List PlacedItem) (from to : ℕ) → AreEndToEnd part file from ps to
    → moved_from steps file from (rows_by lost file (frames_of ps))
    ≡ moved_items steps lost file ps ++ drop to file
moved_from-items steps lost part file [] from to e =
    grind (arith, moved_from-nil steps file from, moved-nil steps lost file)
moved_from-items steps lost part file (p ∷ ps) from to e =
    let here = whole_item_at-is part file p.offset p.item e.1 in
    let next = p.offset + size_of p.item in
    ap₂ (λ n (l : List PlacedFrame). moved_from steps file n (rows_by lost file l)) (sym e.0)
    (cons_list (frame_of_item p.offset p.item) (frames_of ps))
    ∙ item_step steps lost part file (frames_of ps) p.offset here
    (frames_behind lost file part ps next to e.2)
    ∙ ap (λ (l : List ℕ). moved_item (steps p.offset) (lost p.offset) p.item (item_bytes_in file p)
    ++ l)
    (moved_from-items steps lost part file ps next to e.2)
    ∙ sym (append_assoc (moved_item (steps p.offset) (lost p.offset) p.item (item_bytes_in file p))
    (moved_items steps lost file ps) (drop to file))
    ∙ ap (λ (l : List ℕ). l ++ drop to file) (sym (moved-cons steps lost file p ps))

-- ---- the stream

whole : (steps : ℕ → Steps) (lost : ℕ → Bool) (file : List ℕ) (ps : List PlacedItem) (from to : ℕ)
    → AreEndToEnd Stream file from ps to → drop to file ≡ []
    → moved_from steps file from (rows_by lost file (frames_of ps)) ≡ moved_items steps lost file ps
whole steps lost file ps from to e nothing =
    moved_from-items steps lost Stream file ps from to e
    ∙ ap (λ (l : List ℕ). moved_items steps lost file ps ++ l) nothing
    ∙ append-nil (moved_items steps lost file ps)

-- after the head, if the first frame is one
behind_head : (steps : ℕ → Steps) (lost : ℕ → Bool) (file : List ℕ) (head : Option Head)
    (ps : List PlacedItem) (from to : ℕ) {h : HeaderFields} → AreEndToEnd Stream file from ps to
    → drop to file ≡ [] → item_at file from ≡ Frame h
    → moved_from steps file from (rows_by lost file (numbered_frames head (frames_of ps)))
    ≡ moved_stream steps lost file head ps
behind_head steps lost file None ps from to e nothing first = grind (arith, whole)
behind_head steps lost file (Some head) [] from to e nothing first =
    grind (arith, moved_from-nil steps file from, moved-nil steps lost file)
behind_head steps lost file (Some head) (p ∷ ps) from to {h} e nothing first =
    let here = whole_item_at-is Stream file p.offset p.item e.1 in
    let is : p.item ≡ Frame h = sym here.is ∙ ap (item_at file) e.0 ∙ first in
    let size = size_of p.item in
    let one : drop 1 (frames_of (p ∷ ps)) ≡ frames_of ps =
    ap (drop 1) (cons_list (frame_of_item p.offset p.item) (frames_of ps)
    ∙ ap (λ i. option_to_list (frame_of_item p.offset i) ++ frames_of ps) is) in
    ap₂ (λ n l. moved_from steps file n (rows_by lost file l)) (sym e.0) one
    ∙ moved_from-later steps file p.offset size (rows_by lost file (frames_of ps))
    (frames_behind lost file Stream ps (p.offset + size) to e.2)
    ∙ ap₂ (λ (l m : List ℕ). l ++ m) (sym (append-nil (item_bytes_in file p)))
    (whole steps lost file ps (p.offset + size) to e.2 nothing)

-- ---- the front

-- the items of the front are the bytes up to their end
front_bytes : (file : List ℕ)
    → bytes_of_items file (item_chain Front file 0).items ≡ take (item_chain Front file 0).stop file
front_bytes file =
    grind (
      arith,
      bytes-ends,
      item_chain-ends Front file 0,
      ends-within,
      length-append,
      length-drop,
      take_at,
    )

-- ---- the whole file

written_from : (steps : ℕ → Steps) {file : List ℕ} {allowed : ℕ} {start : Start}
    → IsRead file allowed start → take start.front_end file
    ++ moved_from steps file start.first.offset (told_from file start).frames
    ≡ edited_file steps file (told_from file start)
unfolding edited_file
written_from steps {file} {allowed} {start} read =
    let has = has_stream read in
    let stream = stream_chain file start in
    let stop : stream.stop ≡ length file = ap (λ (r : ItemChain). r.stop) has.stream ∙ has.stop in
    ap₂ (λ (l m : List ℕ). l ++ m) (ap (λ n. take n file) (sym has.front) ∙ sym (front_bytes file))
    (ap (moved_from steps file start.first.offset) (told_rows file start)
    ∙ behind_head steps (is_lost_at (told_from file start).frames) file (head_of file start.first)
    stream.items start.first.offset stream.stop
    (item_chain-ends Stream file start.first.offset)
    (drop_all stream.stop file (omega (arith, stop)))
    has.first.is)

-- the bytes up to the junk, and those from the first frame on with moved gains, are the edited file
pub written-edited_file : (steps : ℕ → Steps) (file : List ℕ) (allowed : ℕ) {s : SurveyFields}
    → survey_fields file allowed ≡ Ok s
    → take s.junk file ++ moved_from steps file s.first s.frames ≡ edited_file steps file s
written-edited_file steps file allowed e = grind (arith, survey_fields-parts, written_from)

-- ---- a survey over a folder

-- a survey says how long the file is
pub survey_of-length : (file : List ℕ) (allowed : ℕ) {s : SurveyFields}
    → survey_of file allowed ≡ Ok s → length file ≡ s.length
survey_of-length file allowed e = grind (arith, survey_fields-length, survey_of-survey_fields)

-- ---- the rows are those of the file

are_rows : (lost : ℕ → Bool) (file : List ℕ) (frames : List PlacedFrame)
    → AreRowsOf file (rows_by lost file frames)
are_rows lost file [] = tt
are_rows lost file (p ∷ ps) = (refl, are_rows lost file ps)

-- the rows of a survey are those of frames in the file
pub survey_of-rows : (file : List ℕ) (allowed : ℕ) {s : SurveyFields}
    → survey_of file allowed ≡ Ok s → AreRowsOf file s.frames
survey_of-rows file allowed e =
    grind (arith, survey_fields-parts, survey_of-survey_fields, told_rows, are_rows)

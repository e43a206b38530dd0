-- A file whose gains move by 0 steps, or by some and then by as many the other way, has its own
-- bytes except the junk, and its own stream.
use Rattle.std.proofs.Common.{ap, append-nil, ap₂, arith, Bool, cond, drop, false, inl, inr, length}
use Rattle.std.proofs.Common.{length-drop, List, map, neg_ℤ, None, Ok, Option, pos, refl, Some}
use Rattle.std.proofs.Common.{subst, sym, take, ℕ, ℤ, ◌+ℤ◌, [], ◌++◌, ◌+◌, ◌-◌, ◌∙◌, ◌∷◌, ◌≡◌, ◌≤◌}
use Rattle.std.proofs.lemmas.List.{drop_at, length-take-le, take_all, take_at}
use Rattle.std.specs.{List.enumerate_from, Prelude.{IfSome, ◌⊎◌}}
use Rattle.bit_fields.specs.Bits.{AreBytes}
use Rattle.commands.proofs.RefusingLemmas.{first-cons, first-nil, none_both, none_first}
use Rattle.commands.{proofs.RefusingLemmas.refusal_or-ok, specs.SingleOutput.most_frames}
use Rattle.commands.specs.declared.fault.Refusal.TheVariants.{Joint}
use Rattle.gain_edits.proofs.ProperLemmas.{changed_survey, constant_steps-stream}
use Rattle.gain_edits.proofs.ProperLemmas.{file_with_change-ok, made_of, stream-file_with_change}
use Rattle.gain_edits.proofs.{ProperLemmas.survey_fields-file_with_change, RefusalLemmas.not_there}
use Rattle.gain_edits.specs.Change.{change_result}
use Rattle.gain_edits.specs.Channels.{channel_fault, joint_fault, joint_refusal}
use Rattle.gain_edits.specs.{Channels.single_channel_fault, Gain.gain_change, GainRange.range_fault}
use Rattle.gain_laws.proofs.MovedAgainLemmas.{AllTogether, AreMovedBy, even_together, moved_again}
use Rattle.gain_laws.proofs.MovedAgainLemmas.{StandAgain, stood}
use Rattle.gain_laws.proofs.MovedTwiceLemmas.{AreTogether, GainsFit, IsNoStep, side_none}
use Rattle.gain_laws.proofs.RangeAgainLemmas.{constant_steps-opposite, range_back, row_fits, still}
use Rattle.gain_laws.proofs.WholeFrameLemmas.{AreFramesOf, frame_none, frame_of, frames_there}
use Rattle.gain_laws.proofs.WholeFrameLemmas.{IsFrameOf, row_shaped}
use Rattle.gain_laws.specs.GivenBack.{opposite_shift, OppositeGivesBack}
use Rattle.moved_gains.proofs.EditedSurveyLemmas.{survey_fields-edited_file}
use Rattle.moved_gains.proofs.{LostOffsetLemmas.{end_rises, EndBy}, MovedStreamLemmas.counts_shaped}
use Rattle.moved_gains.proofs.MovingLemmas.{moved_from, moved_to, written-edited_file}
use Rattle.moved_gains.proofs.TagExtentLemmas.{IsAmong, IsInFront, stands_somewhere}
use Rattle.moved_gains.proofs.TagExtentLemmas.{StandsSomewhere}
use Rattle.moved_gains.proofs.WrittenTagLemmas.{parted_among, parted_front}
use Rattle.moved_gains.specs.{Change.{file_with_change, FileChange}, Course.constant_steps}
use Rattle.moved_gains.specs.{Edited.edited_file, Moving.{moved_row_bytes, row_end, row_length}}
use Rattle.moved_gains.specs.Streams.{edited_row, edited_survey, file_without_junk, junk_length}
use Rattle.moved_gains.specs.{Streams.moved_stream_frame, TagExtent.{file_with_tag, IsTagBytes}}
use Rattle.moved_gains.specs.TagLaws.{own_tag_bytes}
use Rattle.outside.{proofs.PassLemmas.between_split, specs.Pass.bytes_between}
use Rattle.requests.specs.Shifts.{left_steps_of, right_steps_of, steps_of}
use Rattle.requests.specs.declared.shift.{Channels.Channels, Shift.Shift, Steps.Steps}
use Rattle.side_info.specs.{Side.no_side, declared.side.Side.Side}
use Rattle.sync_survey.proofs.FoldersLemmas.{survey_of-short}
use Rattle.sync_survey.proofs.SurveyPartsLemmas.{survey_fields-stream}
use Rattle.sync_survey.proofs.SurveyedFileLemmas.{survey_of-parts}
use Rattle.sync_survey.specs.Faults.{HoldsStream, longest_file, stream_of, stream_of_survey}
use Rattle.sync_survey.specs.Faults.{survey_fields, SurveyFields}
use Rattle.sync_survey.specs.{MainData.{main_bytes, stream_frame, stream_frames}, Row.Row}
use Rattle.sync_survey.specs.{Survey.survey_of, declared.places.Head.Head}

-- ---- the bytes

join : (file : List ℕ) {at mid end : ℕ} → at ≤ mid → mid ≤ end
    → bytes_between file at mid ++ bytes_between file mid end ≡ bytes_between file at end
join file {at} {mid} {end} low high =
    let place : at + (mid - at) ≡ mid = omega (arith, low) in
    ap (λ m. bytes_between file at mid ++ bytes_between file m end) (sym place)
    ∙ sym (between_split file at (mid - at) end (omega (arith, low, high)))

-- a frame moved by 0 steps stays the same
still_row : (steps : Steps) → IsNoStep steps → {file : List ℕ} {row : Row} → IsFrameOf file row
    → moved_row_bytes steps file row ≡ frame_of file row
still_row steps none here = grind (arith, frame_of, frame_none)

still_to : (steps : Steps) → IsNoStep steps → (file : List ℕ) (at to : ℕ) (rows : List Row)
    → AreFramesOf file rows → EndBy at rows to
    → moved_to (constant_steps steps) file at to rows ≡ bytes_between file at to
still_to steps none file at to [] frames ends = refl
still_to steps none file at to (row ∷ rows) frames ends =
    let up = end_rises (row_end row) rows ends.2 in
    let size : row_end row - row.offset ≡ row_length row = omega arith in
    let own : moved_row_bytes steps file row ≡ bytes_between file row.offset (row_end row) =
    still_row steps none frames.0 ∙ ap (λ n. take n (drop row.offset file)) (sym size) in
    ap (λ (l : List ℕ). bytes_between file at row.offset ++ l)
    (ap₂ (λ (k l : List ℕ). k ++ l) own (still_to steps none file (row_end row) to rows
    frames.1 ends.2) ∙ join file (omega (arith, ends.1)) up)
    ∙ join file ends.0 (omega (arith, ends.1, up))

-- with 0 steps the edited file is the file without its junk
pub edited_file-still : (steps : Steps) → IsNoStep steps → (file : List ℕ) (allowed : ℕ)
    {s : SurveyFields} → AreBytes file → survey_fields file allowed ≡ Ok s
    → edited_file (constant_steps steps) file s ≡ file_without_junk s file
edited_file-still steps none file allowed {s} are is =
    let known = stands_somewhere (constant_steps steps) allowed is in
    sym (written-edited_file (constant_steps steps) file allowed is)
    ∙ ap (λ (l : List ℕ). take s.junk file ++ l)
    (still_to steps none file s.first (length file) s.frames (frames_there file allowed are is)
    (subst (EndBy s.first s.frames) (sym known.size) known.ends)
    ∙ take_all (length file - s.first) (drop s.first file)
    (omega (arith, length-drop s.first file)))

-- with the bytes of its own tag put back the edited file stays the same
pub own_again : (steps : ℕ → Steps) (file : List ℕ) (allowed : ℕ) {s : SurveyFields}
    → survey_fields file allowed ≡ Ok s
    → file_with_tag (own_tag_bytes file s) (edited_survey steps s) (edited_file steps file s)
    ≡ edited_file steps file s
own_again steps file allowed {s} is = by_place (stands_somewhere steps allowed is).place
  where
    by_place : IsInFront s ⊎ IsAmong s
        → file_with_tag (own_tag_bytes file s) (edited_survey steps s) (edited_file steps file s)
        ≡ edited_file steps file s
    by_place (inl at) = let parted = parted_front steps file allowed is at in
        parted.tagged (own_tag_bytes file s) ∙ sym parted.own
    by_place (inr at) = let parted = parted_among steps file allowed is at in
        parted.tagged (own_tag_bytes file s) ∙ sym parted.own

-- ---- the stream

counts_fit : (lost : Bool) {s : Side} → GainsFit s → GainsFit (cond lost no_side s)
counts_fit lost fits = grind arith

still_frame : (steps : Steps) → IsNoStep steps → {file : List ℕ} (main : List ℕ) (o : Option Head)
    (rows : List Row) (i : ℕ) {row : Row} → IsFrameOf file row
    → moved_stream_frame steps (stream_frame main o rows i row) ≡ stream_frame main o rows i row
still_frame steps none main o rows i here =
    grind (arith, counts_shaped, row_shaped, here, counts_fit, row_fits, side_none)

still_frames : (steps : Steps) → IsNoStep steps
    → (file main : List ℕ) (o : Option Head) (rows : List Row) (n : ℕ) (more : List Row)
    → AreFramesOf file more → map (moved_stream_frame steps)
    (map (λ (p : ℕ × Row). stream_frame main o rows p.0 p.1) (enumerate_from n more))
    ≡ map (λ (p : ℕ × Row). stream_frame main o rows p.0 p.1) (enumerate_from n more)
still_frames steps none file main o rows n [] frames = refl
still_frames steps none file main o rows n (row ∷ more) frames =
    grind (arith, still_frame, still_frames steps none file main o rows (n + 1) more frames.1)

-- with 0 steps the stream of the edited file is the stream of the file
pub stream_still : (steps : Steps) → IsNoStep steps → (file : List ℕ) (allowed : ℕ)
    {s : SurveyFields} → AreBytes file → survey_fields file allowed ≡ Ok s
    → map (moved_stream_frame steps) (stream_of_survey file s) ≡ stream_of_survey file s
unfolding stream_of_survey stream_frames
stream_still steps none file allowed {s} are is = still_frames steps none file (main_bytes file
    s.head s.frames) s.head s.frames 0 s.frames (frames_there file allowed are is)

-- the output of a change by 0 steps holds the stream of the file, whatever tag the change writes
pub still_holds : (steps : Steps) → IsNoStep steps → (o : Option (List ℕ)) → IfSome o IsTagBytes →
    (file : List ℕ) (allowed : ℕ) {s : SurveyFields} → AreBytes file
    → survey_fields file allowed ≡ Ok s → HoldsStream
    (file_with_change (record { steps = constant_steps steps; tag = o }) file s) (stream_of file)
still_holds steps none o tags file allowed {s} are is =
    let change : FileChange = record { steps = constant_steps steps; tag = o } in
    let same : stream_of_survey (file_with_change change file s) (changed_survey change s)
    ≡ stream_of file =
    stream-file_with_change file allowed are is change tags
    ∙ constant_steps-stream steps file s
    ∙ stream_still steps none file allowed are is
    ∙ sym (survey_fields-stream file allowed s is).stream_is in
    subst (HoldsStream (file_with_change change file s)) same
    (survey_fields-stream (file_with_change change file s) allowed (changed_survey change s)
    (survey_fields-file_with_change file allowed are is change tags))

-- ---- the steps

left_back : (channels : Channels) (steps : ℤ)
    → left_steps_of channels steps +ℤ left_steps_of channels (neg_ℤ steps) ≡ pos 0
left_back channels steps = grind arith

right_back : (channels : Channels) (steps : ℤ)
    → right_steps_of channels steps +ℤ right_steps_of channels (neg_ℤ steps) ≡ pos 0
right_back channels steps = grind arith

-- a shift and its opposite together are no step
together : (shift : Shift) → AreTogether (steps_of shift) (steps_of (opposite_shift shift)) still
together shift = grind (arith, left_back, right_back)

-- ---- the channels

joint_back : (steps : ℕ → Steps) (gap : ℕ) (rows : List Row) → joint_fault rows ≡ None
    → joint_fault (map (edited_row steps gap) rows) ≡ None
joint_back steps gap [] none = first-nil joint_refusal
joint_back steps gap (row ∷ rows) none =
    let parts =
    none_first
    (sym (first-cons joint_refusal row rows) ∙ none) in
    first-cons joint_refusal (edited_row steps gap row) (map (edited_row steps gap) rows)
    ∙ none_both
    (ap (λ b. cond b (Some (Joint (row.offset - gap))) None)
    (not_there (Joint row.offset) parts.0))
    (joint_back steps gap rows parts.1)

apart_back : (steps : ℕ → Steps) (s : SurveyFields) → single_channel_fault s ≡ None
    → single_channel_fault (edited_survey steps s) ≡ None
unfolding edited_survey
apart_back steps s none = grind (arith, joint_back)

-- the modes and the class stay, so the opposite change may be made on one channel too
channel_back : (shift : Shift) (s : SurveyFields) → channel_fault shift s ≡ None
    → channel_fault (opposite_shift shift) (edited_survey (constant_steps (steps_of shift)) s)
    ≡ None
channel_back shift s none = grind (arith, apart_back)

-- ---- a change without a note

-- a change without a note that isn't refused can move its channels, and no gain leaves its range
pub plain-parts : (shift : Shift) (file : List ℕ) (s : SurveyFields) {change : FileChange}
    → gain_change shift false file s ≡ Ok change → (channel_fault shift s ≡ None)
    × (range_fault (constant_steps (steps_of shift)) s.frames ≡ None)
    × (record { steps = constant_steps (steps_of shift); tag = None } ≡ change)
unfolding gain_change
plain-parts shift file s e = grind (arith, refusal_or-ok, none_first)

plain-ok : (shift : Shift) (file : List ℕ) (s : SurveyFields) → channel_fault shift s ≡ None
    → range_fault (constant_steps (steps_of shift)) s.frames ≡ None → gain_change shift false file s
    ≡ Ok (record { steps = constant_steps (steps_of shift); tag = None })
unfolding gain_change
plain-ok shift file s apart free = grind (arith, none_both)

-- without a new tag the changed file is the edited file
pub plain-file_with_change : (steps : ℕ → Steps) (file : List ℕ) (s : SurveyFields)
    → file_with_change (record { steps = steps; tag = None }) file s ≡ edited_file steps file s
unfolding file_with_change
plain-file_with_change steps file s = refl

-- ---- the file back

module _ (one two : ℕ → Steps) (file : List ℕ) {s : SurveyFields}
    (sum : AllTogether one two (constant_steps still) (λ x. x - junk_length s) s.frames)
    (are : AreBytes file)
    (short : survey_of file most_frames ≡ Ok s) where
  abbrev moved : List ℕ
  moved = edited_file one file s

  abbrev m : SurveyFields
  m = edited_survey one s

  abbrev gap : ℕ
  gap = junk_length s

  -- where the content at this offset of the file is in the changed file
  abbrev to : ℕ → ℕ
  to x = x - gap

  few : length file ≤ longest_file
  few = (survey_of-parts file most_frames short).0

  is : survey_fields file most_frames ≡ Ok s
  is = (survey_of-parts file most_frames short).1

  new_is : survey_fields moved most_frames ≡ Ok m
  new_is = survey_fields-edited_file one file most_frames are is

  here : StandsSomewhere one file s
  here = stands_somewhere one most_frames is

  there : StandsSomewhere two moved m
  there = stands_somewhere two most_frames new_is

  -- the frames of the file are whole in it
  pub frames : AreFramesOf file s.frames
  frames = frames_there file most_frames are is

  -- the frames of the moved file are the file's frames, moved
  pub new_frames : m.frames ≡ map (stood to one) s.frames
  unfolding edited_survey
  new_frames = refl

  new_places : (m.junk ≡ s.junk) × (m.first ≡ s.junk) × (m.length ≡ s.length - gap)
  unfolding edited_survey
  new_places = (refl, refl, refl)

  size : length moved ≡ length file - gap
  size = omega (arith, there.size, new_places.2, here.size)

  -- the moved file has a survey with these frames
  pub new_survey : survey_of moved most_frames ≡ Ok m
  new_survey = survey_of-short moved most_frames (omega (arith, size, few)) ∙ new_is

  abbrev junk : List ℕ
  junk = take s.junk file

  abbrev rows : List ℕ
  rows = moved_to one file s.first (length file) s.frames

  stands : moved ≡ junk ++ rows
  stands = sym (written-edited_file one file most_frames is)

  junk_long : length junk ≡ s.junk
  junk_long = length-take-le s.junk file (omega (arith, here.size, here.junk, here.first))

  rows_stand : drop s.junk moved ≡ rows ++ []
  rows_stand = ap (drop s.junk) stands ∙ drop_at junk rows s.junk junk_long ∙ sym (append-nil rows)

  by : AreMovedBy to s.first (length file) s.junk
  by x low high = omega (arith, low, here.junk)

  to_end : length file - s.first + s.junk ≡ length moved
  to_end = omega (arith, size, here.size, here.junk, here.first)

  again : StandAgain one two (constant_steps still) file moved to s.first (length file) s.junk
      s.frames []
  again = record {
    sum = sum;
    frames = frames;
    ends = subst (EndBy s.first s.frames) (sym here.size) here.ends;
    within = omega arith;
    place = by;
    is = rows_stand;
  }

  rows_again : moved_from two moved m.first m.frames
      ≡ moved_from (constant_steps still) file s.first s.frames
  rows_again =
      ap₂ (λ k (l : List Row). moved_to two moved k (length moved) l) new_places.1 new_frames
      ∙ ap (λ k. moved_to two moved s.junk k (map (stood to one) s.frames)) (sym to_end)
      ∙ moved_again s.frames again

  junk_again : take m.junk moved ≡ junk
  junk_again = ap (λ k. take k moved) new_places.0 ∙ ap (take s.junk) stands
      ∙ take_at junk rows s.junk junk_long

  -- moved back, the file is the first one without its junk
  pub bytes_again : edited_file two moved m ≡ file_without_junk s file
  bytes_again =
      sym (written-edited_file two moved most_frames new_is)
      ∙ ap₂ (λ (k l : List ℕ). k ++ l) junk_again rows_again
      ∙ written-edited_file (constant_steps still) file most_frames is
      ∙ edited_file-still still (refl, refl) file most_frames are is

edited_file-back : (shift : Shift) (file : List ℕ) {s : SurveyFields} → AreBytes file
    → survey_of file most_frames ≡ Ok s → channel_fault shift s ≡ None
    → range_fault (constant_steps (steps_of shift)) s.frames ≡ None
    → change_result (gain_change (opposite_shift shift) false)
    (edited_file (constant_steps (steps_of shift)) file s)
    ≡ Ok (file_without_junk s file)
edited_file-back shift file {s} are short apart free =
    let first : ℕ → Steps = constant_steps (steps_of shift) in
    let second : ℕ → Steps = constant_steps (steps_of (opposite_shift shift)) in
    let nearer : ℕ → ℕ = λ x. x - junk_length s in
    let both : AllTogether first second (constant_steps still) nearer s.frames =
    even_together (together shift) nearer s.frames in
    let moved = edited_file first file s in
    let m = edited_survey first s in
    let range : range_fault second m.frames ≡ None =
    ap (range_fault second) (new_frames first second file both are short)
    ∙ range_back first second file nearer s.frames
    (constant_steps-opposite (record {
      wraps = refl;
      left = left_back shift.channels shift.steps;
      right = right_back shift.channels shift.steps;
    }) nearer s.frames)
    (frames first second file both are short) free in
    file_with_change-ok (gain_change (opposite_shift shift) false)
    (new_survey first second file both are short)
    (plain-ok (opposite_shift shift) moved m (channel_back shift s apart) range)
    ∙ ap Ok (plain-file_with_change second moved m ∙ bytes_again first second file both are short)

-- after a change without a note the opposite change makes the file again, except its junk
pub steps_back : OppositeGivesBack
steps_back shift file new s are short e =
    let made = made_of short e in
    let parts = plain-parts shift file s made.made in
    let there : edited_file (constant_steps (steps_of shift)) file s ≡ new =
    sym (plain-file_with_change (constant_steps (steps_of shift)) file s)
    ∙ ap (λ (c : FileChange). file_with_change c file s) parts.2 ∙ made.bytes in
    ap (change_result (gain_change (opposite_shift shift) false)) (sym there)
    ∙ edited_file-back shift file are short parts.0 parts.1

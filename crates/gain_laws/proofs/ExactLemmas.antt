-- Exactly which steps a file accepts.
use Rattle.std.proofs.Common.{All, ap, ap₂, arith, Bool, cond, Err, false, is_some, length, List}
use Rattle.std.proofs.Common.{map, None, not, Ok, Option, pos, refl, Result, Some, subst, suc, sym}
use Rattle.std.proofs.Common.{true, zero, ℕ, ℤ, [], ◌&&◌, ◌||◌, ◌∙◌, ◌∷◌, ◌≡◌, ◌≤◌}
use Rattle.std.proofs.lemmas.Bool.{and_parts, both_ways, false_from_ne_true, le-ltb}
use Rattle.std.specs.Prelude.{is_ok, IsTrue, slice_get}
use Rattle.commands.proofs.RefusingLemmas.{first-cons, first-nil}
use Rattle.commands.specs.Refusing.{first_refusal, or_else, refusal_or, then_made}
use Rattle.commands.specs.{Sheet.sheet_read, SingleOutput.{made_file, most_frames, surveyed_result}}
use Rattle.commands.specs.declared.fault.EditFault.{EditFault, TheVariants.Refused}
use Rattle.commands.specs.declared.fault.Refusal.{Refusal, TheVariants.SheetTooLarge}
use Rattle.cue_sheet.specs.Limits.{longest_sheet}
use Rattle.fade_plan.specs.Curves.{curve_of, curve_point, CurvePoint, line_not_rising, steps_at}
use Rattle.fade_plan.specs.{Curves.steps_back, Sheets.{envelope_of, EnvelopePoint}}
use Rattle.frame_header.specs.{Fields.ClassFields, Tables.class_of}
use Rattle.gain_edits.specs.Change.{change_making, change_result, changed_or_fault, Changing}
use Rattle.gain_edits.specs.Channels.{channel_fault, joint_refusal, single_channel_fault}
use Rattle.gain_edits.specs.Fade.{curve_change, fade_change, input_sheet_change, points_curve}
use Rattle.gain_edits.specs.Fade.{sheet_change}
use Rattle.gain_edits.specs.Gain.{gain_change, noted_change, noted_tag_change, plain_change}
use Rattle.gain_edits.specs.GainRange.{out_of_range_refusal, range_fault, row_range_fault}
use Rattle.gain_edits.specs.UndoItem.{noted_undo, number_fault, output_fault, size_fault}
use Rattle.gain_edits.specs.UndoItem.{tag_result, undo_fault}
use Rattle.gain_laws.proofs.TakenStepLemmas.{stuck-cons, stuck-nil, take_steps}
use Rattle.gain_laws.proofs.TakenStepLemmas.{takes_steps-joined_extremes}
use Rattle.gain_laws.proofs.WithinLemmas.{steps_of_one, steps_within, within-opposite}
use Rattle.gain_laws.specs.ExactSteps.{fade_result, gain_result, is_range_refusal, IsMadeIfTaken}
use Rattle.gain_laws.specs.ExactSteps.{leaves_range, StepsAreExact, strict_shift, takes_point}
use Rattle.gain_laws.specs.StepLaws.{AreSidesFitting, is_some_out_of_range, separate_steps}
use Rattle.gain_laws.specs.StepLaws.{TakeSteps}
use Rattle.moved_gains.{proofs.ExtremesLemmas.joined_extremes-append, specs.Change.FileChange}
use Rattle.moved_gains.specs.Course.{constant_steps, equal_steps, number_at, steps_at_offset}
use Rattle.moved_gains.specs.Edited.{row_out_of_range}
use Rattle.moved_gains.specs.GainExtremes.{extremes_of, extremes_of_both, moving_gains, takes_steps}
use Rattle.moved_gains.specs.{TagExtent.tag_offset, TagReading.file_tag}
use Rattle.moved_gains.specs.declared.{course.Course.TheVariants.Along, gain_extremes.Gains.Gains}
use Rattle.moved_gains.specs.declared.gains.OutOfRange.{OutOfRange}
use Rattle.moved_gains.specs.declared.tag_fault.FileTagFault.{FileTagFault}
use Rattle.requests.specs.Shifts.{left_steps_of, right_steps_of, steps_of}
use Rattle.requests.specs.declared.shift.Channels.{Channels, TheVariants.{Both, Left, Right}}
use Rattle.requests.specs.declared.shift.{Shift.Shift, Steps.Steps}
use Rattle.side_info.specs.Side.{SideFits}
use Rattle.sync_survey.proofs.PlacedRowLemmas.{survey_fields-placed}
use Rattle.sync_survey.{proofs.SurveyedFileLemmas.survey_of-parts, specs.Faults.SurveyFields}
use Rattle.sync_survey.specs.{Row.Row, Survey.{AreWellPlaced, survey_of}}
use Rattle.tag_blocks.specs.{Tags.TagFields, declared.undo.{Undo.Undo, UndoItem.UndoItem}}

-- ---- refusals for the range

is_range : Option Refusal → Bool
is_range None = false
is_range (Some refusal) = is_range_refusal refusal

range-refusal_or : {A : Type 0} (o : Option Refusal) (a : A)
    → leaves_range (refusal_or o a) ≡ is_range o
unfolding is_range
range-refusal_or o a = grind arith

range-or : {o : Option Refusal} (later : Option Refusal) → is_range o ≡ false
    → is_range (or_else o later) ≡ true → (o ≡ None) × (is_range later ≡ true)
unfolding is_range
range-or later other is = grind arith

range-none : (o later : Option Refusal) → is_range o ≡ false → is_range later ≡ false
    → is_range (or_else o later) ≡ false
unfolding is_range
range-none o later first rest = grind arith

-- either the first refusal is there, which is one for the range, or a later one counts
range-either : (at : ℕ) (o : Option OutOfRange) (later : Option Refusal)
    → is_range (or_else (out_of_range_refusal at o) later) ≡ (is_some o || is_range later)
unfolding is_range
range-either at o later = grind arith

range-nothing : is_range None ≡ false
unfolding is_range
range-nothing = refl

-- a gain of the frames leaves the range exactly if the first one that does is found
range-some : (steps : ℕ → Steps) (rows : List Row)
    → is_range (range_fault steps rows) ≡ is_some_out_of_range steps rows
range-some steps [] = grind (arith, first-nil, range-nothing, stuck-nil)
range-some steps (row ∷ rows) =
    grind (arith, first-cons, range-either, is_some, stuck-cons, range-some steps rows)

range-free : (steps : ℕ → Steps) (rows : List Row) → is_range (range_fault steps rows) ≡ false
    → range_fault steps rows ≡ None
range-free steps [] free = first-nil (row_range_fault steps)
range-free steps (row ∷ rows) free =
    let parts : (is_some (row_out_of_range (steps row.offset) row)
    || is_range (range_fault steps rows))
    ≡ false = grind (arith, range-either, first-cons) in
    first-cons (row_range_fault steps) row rows
    ∙ by_first (λ rest. range-free steps rows rest) (row_out_of_range (steps row.offset) row) parts
  where
    by_first : (is_range (range_fault steps rows) ≡ false → range_fault steps rows ≡ None)
        → (o : Option OutOfRange) → (is_some o || is_range (range_fault steps rows)) ≡ false
        → or_else (out_of_range_refusal row.offset o) (range_fault steps rows) ≡ None
    by_first later None rest = later rest
    by_first later (Some stuck) rest = absurd cc

-- what is made unless a gain leaves the range is made exactly if none does
made-where : {A : Type 0} (o : Option Refusal) (a : A) → (is_range o ≡ false → o ≡ None)
    → is_ok (refusal_or o a) ≡ not (is_range o)
unfolding is_range
made-where None a free = refl
made-where (Some refusal) a free =
    elim (is_range_refusal refusal) as (λ b. (b ≡ false → Some refusal ≡ None) → false ≡ not b) [
      | true ↦ λ free. refl
      | false ↦ λ free. absurd (some_none (free refl))
    ] free
  where
    some_none : Some refusal ≡ None → ⊥
    some_none e = absurd cc

-- ---- what is made of a file

changed-as : (of : Changing) (file : List ℕ) {s : SurveyFields} → survey_of file most_frames ≡ Ok s
    → change_result of file ≡ changed_or_fault file s (of file s)
unfolding made_file
changed-as of file is = ap (surveyed_result (change_making of) file) is

range-changed : (file : List ℕ) (s : SurveyFields) (r : Result FileChange EditFault)
    → leaves_range (changed_or_fault file s r) ≡ leaves_range r
range-changed file s r = grind arith

ok-changed : (file : List ℕ) (s : SurveyFields) (r : Result FileChange EditFault)
    → is_ok (changed_or_fault file s r) ≡ is_ok r
ok-changed file s r = grind arith

-- a file is made exactly if no gain leaves the range
made-refusal_or : (of : Changing) {file : List ℕ} {s : SurveyFields} (steps : ℕ → Steps)
    (change : FileChange) {taken : Bool} → survey_of file most_frames ≡ Ok s
    → of file s ≡ refusal_or (range_fault steps s.frames) change
    → is_some_out_of_range steps s.frames ≡ not taken → IsMadeIfTaken taken (change_result of file)
made-refusal_or of {file} {s} steps change {taken} is made stuck =
    let o = range_fault steps s.frames in
    let whole : change_result of file ≡ changed_or_fault file s (refusal_or o change) =
    changed-as of file is ∙ ap (changed_or_fault file s) made in
    let range : is_range o ≡ not taken = range-some steps s.frames ∙ stuck in
    record {
      refused = grind (arith, range-changed, range-refusal_or);
      accepted = grind (arith, ok-changed, made-where, range-free);
    }
  where
    twice : (b : Bool) → not (not b) ≡ b
    twice true = refl
    twice false = refl

-- ---- gain

plain-as : (shift : Shift) (file : List ℕ) (s : SurveyFields)
    → gain_change shift false file s ≡ plain_change shift s
unfolding gain_change
plain-as shift file s = refl

noted-as : (shift : Shift) (file : List ℕ) (s : SurveyFields) → gain_change shift true file s
    ≡ then_made (tag_result (file_tag file s)) (noted_tag_change shift s)
unfolding gain_change
noted-as shift file s = refl

-- if the channels may change, only gains that leave the range are refused
alone : (channels : Channels) (steps : ℤ) (file : List ℕ) (s : SurveyFields)
    → channel_fault (strict_shift channels steps) s ≡ None
    → gain_change (strict_shift channels steps) false file s
    ≡ refusal_or (range_fault (constant_steps (steps_of (strict_shift channels steps))) s.frames)
    (record { steps = constant_steps (steps_of (strict_shift channels steps)); tag = None })
alone channels steps file s may = grind (arith, plain-as)

-- ---- refusals of other kinds

range-first : {A : Type 0} (refuse : A → Option Refusal) (list : List A)
    → ((a : A) → is_range (refuse a) ≡ false) → is_range (first_refusal refuse list) ≡ false
range-first refuse [] other = ap is_range (first-nil refuse) ∙ range-nothing
range-first refuse (a ∷ list) other = ap is_range (first-cons refuse a list)
    ∙ range-none (refuse a) (first_refusal refuse list) (other a) (range-first refuse list other)

range-joint : (row : Row) → is_range (joint_refusal row) ≡ false
unfolding is_range
range-joint row = grind arith

range-apart : (s : SurveyFields) → is_range (single_channel_fault s) ≡ false
unfolding is_range
range-apart s = grind (arith, range-first, range-joint)

range-channel : (shift : Shift) (s : SurveyFields) → is_range (channel_fault shift s) ≡ false
unfolding is_range
range-channel shift s = grind (arith, range-apart)

range-number : (number : ℤ) → is_range (number_fault number) ≡ false
unfolding is_range
range-number number = grind arith

range-undo : (undo : Undo) → is_range (undo_fault undo) ≡ false
range-undo undo = grind (arith, range-none, range-number)

range-size : (bytes : List ℕ) → is_range (size_fault bytes) ≡ false
unfolding is_range
range-size bytes = grind arith

range-output : (s : SurveyFields) (bytes : List ℕ) → is_range (output_fault s bytes) ≡ false
unfolding is_range
range-output s bytes = grind arith

-- ---- with a note

-- a change with a note is refused for the range only if the change without it is
noted-plain : (shift : Shift) (s : SurveyFields) (tag : TagFields) (undo : Undo)
    → leaves_range (noted_change shift s tag undo) ≡ true
    → leaves_range (plain_change shift s) ≡ true
noted-plain shift s tag undo is =
    grind (arith, range-or, range-channel, range-refusal_or, range-undo, range-size, range-output)

undo-plain : (shift : Shift) (s : SurveyFields) (tag : TagFields) (item : UndoItem)
    → leaves_range (then_made (noted_undo (tag_offset s) item) (noted_change shift s tag)) ≡ true
    → leaves_range (plain_change shift s) ≡ true
undo-plain shift s tag item is = grind (arith, noted-plain)

tag-plain : (shift : Shift) (s : SurveyFields) (r : Result TagFields FileTagFault)
    → leaves_range (then_made (tag_result r) (noted_tag_change shift s)) ≡ true
    → leaves_range (plain_change shift s) ≡ true
tag-plain shift s r is = grind (arith, undo-plain)

range-gain_result : (shift : Shift) (tags : Bool) (file : List ℕ) {s : SurveyFields}
    → survey_of file most_frames ≡ Ok s
    → leaves_range (gain_result shift tags file) ≡ leaves_range (gain_change shift tags file s)
range-gain_result shift tags file {s} is =
    ap leaves_range (changed-as (gain_change shift tags) file is)
    ∙ range-changed file s (gain_change shift tags file s)

noted-only : (shift : Shift) (file : List ℕ) {s : SurveyFields} → survey_of file most_frames ≡ Ok s
    → leaves_range (gain_result shift true file) ≡ true
    → leaves_range (gain_result shift false file) ≡ true
noted-only shift file {s} is refused =
    range-gain_result shift false file is ∙ ap leaves_range (plain-as shift file s)
    ∙ tag-plain shift s (file_tag file s)
    (sym (range-gain_result shift true file is ∙ ap leaves_range (noted-as shift file s))
    ∙ refused)

-- if no gain leaves the range, no change is refused for it, noted or not
never : (shift : Shift) (tags : Bool) (file : List ℕ) {s : SurveyFields}
    → survey_of file most_frames ≡ Ok s
    → is_some_out_of_range (constant_steps (steps_of shift)) s.frames ≡ false
    → leaves_range (gain_result shift tags file) ≡ false
never shift tags file {s} is free = by_tags tags
  where
    plain : leaves_range (gain_result shift false file) ≡ false
    plain =
        range-gain_result shift false file is ∙ ap leaves_range (plain-as shift file s)
        ∙ range-refusal_or (or_else (channel_fault shift s)
        (range_fault (constant_steps (steps_of shift))
        s.frames)) (record { steps = constant_steps (steps_of shift); tag = None })
        ∙ range-none (channel_fault shift s)
        (range_fault (constant_steps (steps_of shift)) s.frames)
        (range-channel shift s) (range-some (constant_steps (steps_of shift)) s.frames ∙ free)

    by_tags : (tags : Bool) → leaves_range (gain_result shift tags file) ≡ false
    by_tags false = plain
    by_tags true =
        false_from_ne_true (leaves_range (gain_result shift true file)) (λ refused. both_ways
        (leaves_range (gain_result shift false file)) plain (noted-only shift file is refused))

-- ---- files in which no gain moves

takes_steps-each : (rows : List Row) (steps : ℤ) → takes_steps (extremes_of_both rows) steps
    ≡ (takes_steps (extremes_of 0 rows) steps && takes_steps (extremes_of 1 rows) steps)
takes_steps-each rows steps =
    ap (λ g. takes_steps g steps)
    (sym (joined_extremes-append (moving_gains 0 rows) (moving_gains 1 rows)))
    ∙ takes_steps-joined_extremes (extremes_of 0 rows) (extremes_of 1 rows) steps

still-stuck : {rows : List Row} → TakeSteps rows → extremes_of_both rows ≡ None → (shift : Shift)
    → is_some_out_of_range (constant_steps (steps_of shift)) rows ≡ false
still-stuck {rows} law none shift = by_wrap shift.wrap refl
  where
    parts : (steps : ℤ) → (takes_steps (extremes_of 0 rows) steps ≡ true)
        × (takes_steps (extremes_of 1 rows) steps ≡ true)
    parts steps =
        and_parts (takes_steps (extremes_of 0 rows) steps) (takes_steps (extremes_of 1 rows) steps)
        (sym (takes_steps-each rows steps) ∙ ap (λ g. takes_steps g steps) none)

    by_wrap : (b : Bool) → shift.wrap ≡ b
        → is_some_out_of_range (constant_steps (steps_of shift)) rows ≡ false
    by_wrap true wraps = law.wrap (constant_steps (steps_of shift)) (λ at. wraps)
    by_wrap false wraps =
        ap (λ w. is_some_out_of_range (constant_steps (record {
          left = left_steps_of shift.channels shift.steps;
          right = right_steps_of shift.channels shift.steps;
          wrap = w;
        })) rows) wraps
        ∙ law.apart_is (left_steps_of shift.channels shift.steps)
        (right_steps_of shift.channels shift.steps)
        ∙ ap₂ (λ (a b : Bool). not (a && b)) (parts (left_steps_of shift.channels shift.steps)).0
        (parts (right_steps_of shift.channels shift.steps)).1

-- ---- fade

-- a point is accepted if its steps are, or as many the other way
point-taken : (gains : Option Gains) (back : Bool) (steps : ℤ)
    → takes_point gains back steps ≡ takes_steps gains (steps_back back steps)
point-taken gains back steps = grind arith

-- the steps of each frame are accepted if the steps of all points are
curve-taken : (gains : Option Gains) (back : Bool) (points : List CurvePoint)
    → All (λ p. IsTrue (takes_point gains back p.steps)) points → (frame : ℕ)
    → takes_steps gains (steps_back back (steps_at points frame)) ≡ true
curve-taken gains back points all frame = grind (arith, within-opposite, steps_within)

all-mapped : {X Y : Type 0} (P : Y → Type 0) (f : X → Y) (xs : List X) → All (λ x. P (f x)) xs
    → All P (map f xs)
all-mapped P f [] all k d less = absurd (omega (arith, less))
all-mapped P f (x ∷ xs) all zero d less = all 0 x (omega arith)
all-mapped P f (x ∷ xs) all (suc k) d less = all-mapped P f xs
    (λ j e within. all (suc j) e (omega (arith, within))) k d (omega (arith, less))

too-large : (sheet : List ℕ) (make : List ℕ → Result FileChange EditFault)
    → leaves_range (make sheet) ≡ false → leaves_range (then_made (sheet_read sheet) make) ≡ false
too-large sheet make made = grind arith

fade-as : (sheet : List ℕ) (back : Bool) (s : SurveyFields) {points : List EnvelopePoint}
    → envelope_of sheet ≡ Ok points
    → sheet_change sheet back s ≡ then_made (points_curve s points) (curve_change back s)
unfolding sheet_change
fade-as sheet back s e = grind arith

curve-range : (s : SurveyFields) (back : Bool) (points : List EnvelopePoint)
    → ((curve : List CurvePoint) → curve ≡ map (curve_point s.class (length s.frames)) points
    → leaves_range (curve_change back s curve) ≡ false)
    → leaves_range (then_made (points_curve s points) (curve_change back s)) ≡ false
unfolding curve_of
curve-range s back points free = grind arith

fade-free : (file : List ℕ) {s : SurveyFields} → survey_of file most_frames ≡ Ok s
    → TakeSteps s.frames → (sheet : List ℕ) (back : Bool) {points : List EnvelopePoint}
    → envelope_of sheet ≡ Ok points
    → All (λ point. IsTrue (takes_point (extremes_of_both s.frames) back point.steps)) points
    → leaves_range (fade_result sheet back file) ≡ false
fade-free file {s} is law sheet back {points} read all =
    let gains = extremes_of_both s.frames in
    let free : (curve : List CurvePoint)
    → curve ≡ map (curve_point s.class (length s.frames)) points
    → leaves_range (curve_change back s curve) ≡ false =
    λ curve placed.
    let taken : All (λ p. IsTrue (takes_point gains back p.steps)) curve =
    subst (All (λ p. IsTrue (takes_point gains back p.steps))) (sym placed) (all-mapped (λ p.
    IsTrue (takes_point gains back p.steps)) (curve_point s.class (length s.frames)) points all) in
    range-refusal_or (range_fault (steps_at_offset (Along curve back) s.frames) s.frames)
    (record { steps = steps_at_offset (Along curve back) s.frames; tag = None })
    ∙ range-some (steps_at_offset (Along curve back) s.frames) s.frames
    ∙ law.each (λ at. steps_back back (steps_at curve (number_at s.frames at)))
    (λ at. curve-taken gains back curve taken (number_at s.frames at)) in
    ap leaves_range (changed-as (fade_change (Some sheet) back) file is)
    ∙ range-changed file s (input_sheet_change (Some sheet) back s)
    ∙ too-large sheet (λ bytes. sheet_change bytes back s)
    (ap leaves_range (fade-as sheet back s read) ∙ curve-range s back points free)

-- with a single point all frames move by its steps, or by as many the other way
one-as : (sheet : List ℕ) (back : Bool) (s : SurveyFields) {point : EnvelopePoint} → length sheet
    ≤ longest_sheet → envelope_of sheet ≡ Ok (point ∷ []) → input_sheet_change (Some sheet) back s
    ≡ curve_change back s (curve_point s.class (length s.frames) point ∷ [])
unfolding line_not_rising curve_of
one-as sheet back s {point} few read =
    ap (λ b. then_made (cond b (Err (Refused (SheetTooLarge (length sheet)))) (Ok sheet))
    (λ bytes. sheet_change bytes back s)) (le-ltb longest_sheet (length sheet) few)
    ∙ fade-as sheet back s read

fade-one : (file : List ℕ) {s : SurveyFields} → survey_of file most_frames ≡ Ok s
    → TakeSteps s.frames → (sheet : List ℕ) (back : Bool) {point : EnvelopePoint}
    → length sheet ≤ longest_sheet → envelope_of sheet ≡ Ok (point ∷ []) → IsMadeIfTaken
    (takes_point (extremes_of_both s.frames) back point.steps) (fade_result sheet back file)
fade-one file {s} is law sheet back {point} few read =
    let gains = extremes_of_both s.frames in
    let curve = curve_point s.class (length s.frames) point ∷ [] in
    let steps = steps_at_offset (Along curve back) s.frames in
    let same : (at : ℕ) → steps at ≡ equal_steps (steps_back back point.steps) =
    grind (arith, steps_of_one) in
    let whole : steps ≡ constant_steps (equal_steps (steps_back back point.steps)) = grind arith in
    made-refusal_or (fade_change (Some sheet) back) steps
    (record { steps = steps; tag = None }) is
    (one-as sheet back s few read)
    (ap (λ f. is_some_out_of_range f s.frames) whole
    ∙ law.both (steps_back back point.steps)
    ∙ ap not (sym (point-taken gains back point.steps)))

-- ---- the law

-- frames each of which has side fields within their bits
pub sides-fitting : (rows : List Row)
    → ((i : ℕ) (row : Row) → slice_get rows i ≡ Some row → SideFits (class_of row.header) row.side)
    → AreSidesFitting rows
sides-fitting [] fits = tt
sides-fitting (row ∷ rows) fits =
    (fits 0 row refl, sides-fitting rows (λ i r there. fits (suc i) r there))

-- which steps every well-formed file accepts
pub exact-steps : StepsAreExact
exact-steps file s is = record {
  both = λ steps. made-refusal_or (gain_change (strict_shift Both steps) false)
      (constant_steps (equal_steps steps))
      (record { steps = constant_steps (equal_steps steps); tag = None }) is
      (alone Both steps file s refl)
      (law.both steps);
  mono = law.mono s.class (λ i row there. (placed i row there).class_is);
  left = λ may steps. made-refusal_or (gain_change (strict_shift Left steps) false)
      (constant_steps (separate_steps steps (pos 0)))
      (record { steps = constant_steps (separate_steps steps (pos 0)); tag = None }) is
      (alone Left steps file s may)
      (law.left steps);
  right = λ may steps. made-refusal_or (gain_change (strict_shift Right steps) false)
      (constant_steps (separate_steps (pos 0) steps))
      (record { steps = constant_steps (separate_steps (pos 0) steps); tag = None }) is
      (alone Right steps file s may)
      (law.right steps);
  noted = λ shift. noted-only shift file is;
  wrap = λ shift tags wraps. never shift tags file is
      (law.wrap (constant_steps (steps_of shift)) (λ at. wraps));
  still = λ none shift tags. never shift tags file is (still-stuck law none shift);
  fade = fade-free file is law;
  fade_of_one = fade-one file is law;
}
  where
    placed : AreWellPlaced s.head s.class s.frames
    placed = survey_fields-placed file most_frames (survey_of-parts file most_frames is).1

    law : TakeSteps s.frames
    law = take_steps s.frames (sides-fitting s.frames (λ i row there. subst (λ (c : ClassFields).
        SideFits c row.side) (sym (placed i row there).class_is) (placed i row there).fits))

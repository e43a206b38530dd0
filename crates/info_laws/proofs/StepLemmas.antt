-- The lines about gains give the range of the steps that these gains take.
use Rattle.std.proofs.Common.{ap, append_assoc, ap₂, arith, Bool, cond, false, List, None, not, Ok}
use Rattle.std.proofs.Common.{Option, refl, Some, subst, sym, true, ℕ, ℤ, [], ◌&&◌, ◌++◌, ◌-◌, ◌||◌}
use Rattle.std.proofs.{Common.{◌∙◌, ◌∷◌, ◌≡◌}, lemmas.{Bool.eqb-true, List.Concat.concat_is}}
use Rattle.std.specs.{List.list_all, Option.is_none}
use Rattle.std.specs.Prelude.{codes, decimal, flat_map, length, ◌==◌}
use Rattle.commands.{proofs.MadeLemmas.some-frames, specs.SingleOutput.most_frames}
use Rattle.frame_header.{proofs.HeaderLemmas.IsClass-class_of, specs.Fields.{ClassFields, IsClass}}
use Rattle.gain_edits.specs.Channels.{channel_fault}
use Rattle.gain_laws.proofs.{ExactLemmas.{exact-steps, sides-fitting}, TakenStepLemmas.take_steps}
use Rattle.gain_laws.specs.ExactSteps.{gain_result, IsMadeIfTaken, strict_shift, TakesExactly}
use Rattle.gain_laws.specs.StepLaws.{is_some_out_of_range, TakeSteps}
use Rattle.info_header.specs.declared.fields.Info.{Info}
use Rattle.info_laws.specs.StepText.{AreStepLines, EndsWithSteps, has_steps, InfoSaysTheSteps}
use Rattle.info_laws.specs.StepText.{lack_channels, lacks_channel, range_ending, SaysSteps}
use Rattle.info_laws.specs.StepText.{StepRange}
use Rattle.laying.{proofs.LaidLemmas.first-there, specs.KeptFields.fields_of_head}
use Rattle.list_edits.specs.InfoText.{both_text, class_line, frames_line, gain_lines, gains_text}
use Rattle.list_edits.specs.InfoText.{head_line, here_lines, info_lines, main_data_line, mono_lines}
use Rattle.list_edits.specs.InfoText.{played_line, rates_line, stereo_lines}
use Rattle.list_edits.specs.Totals.{file_areas, greatest_rate, least_rate, lost_count, main_data_in}
use Rattle.list_edits.specs.Totals.{stream_length}
use Rattle.moved_gains.proofs.ExtremesLemmas.{extremes-cons, extremes-nil, joined_extremes-append}
use Rattle.moved_gains.{proofs.ExtremesLemmas.moving-nil, specs.Course.constant_steps}
use Rattle.moved_gains.specs.GainExtremes.{extremes, extremes_of, extremes_of_both, joined_extremes}
use Rattle.moved_gains.specs.GainExtremes.{moving_gains, takes_steps}
use Rattle.moved_gains.specs.declared.gain_extremes.Gains.{Gains}
use Rattle.requests.specs.{Shifts.steps_of, declared.shift.Channels.Channels}
use Rattle.requests.specs.declared.shift.Channels.TheVariants.{Both, Left, Right}
use Rattle.side_info.specs.Side.{SideFits}
use Rattle.sync_survey.proofs.PlacedRowLemmas.{survey_fields-placed}
use Rattle.sync_survey.{proofs.SurveyedFileLemmas.survey_of-parts, specs.Faults.SurveyFields}
use Rattle.sync_survey.specs.{Row.Row, Survey.{AreWellPlaced, survey_of}}

-- ---- channels without main data

gains-none : (lost a b : Bool) (x y : ℕ)
    → is_none (extremes (cond lost [] (cond a [] (x ∷ []) ++ cond b [] (y ∷ []))))
    ≡ (lost || (a && b))
unfolding extremes
gains-none lost a b x y = grind arith

joined-none : (f g : Option Gains) → is_none (joined_extremes f g) ≡ (is_none f && is_none g)
joined-none f g = grind arith

-- no gains of a channel move exactly if it has no main data
channel-none : (channel : ℕ) (rows : List Row)
    → is_none (extremes_of channel rows) ≡ list_all (lacks_channel channel) rows
channel-none channel [] = grind (arith, moving-nil, extremes-nil)
channel-none channel (row ∷ rows) =
    grind (arith, extremes-cons, joined-none, gains-none, channel-none channel rows)

both-none : (rows : List Row) → is_none (extremes_of_both rows) ≡ lack_channels Both rows
both-none rows =
    ap is_none (sym (joined_extremes-append (moving_gains 0 rows) (moving_gains 1 rows)))
    ∙ joined-none (extremes_of 0 rows) (extremes_of 1 rows)
    ∙ ap₂ (λ (a b : Bool). a && b) (channel-none 0 rows) (channel-none 1 rows)

-- ---- one line

abbrev range_of : Option Gains → Option StepRange
range_of None = None
range_of (Some g) = Some (record { down = g.least; up = 255 - g.greatest })

range-none : (g : Option Gains) → is_none (range_of g) ≡ is_none g
range-none None = refl
range-none (Some g) = refl

range-takes : (g : Option Gains) (steps : ℤ) → takes_steps g steps ≡ has_steps (range_of g) steps
range-takes None steps = refl
range-takes (Some g) steps = refl

-- what a line says of the gains before it gives the range
abbrev said_of : Option Gains → List ℕ
said_of None = []
said_of (Some g) =
    codes "gains " ++ (decimal g.least ++ (codes " to " ++ (decimal g.greatest ++ codes ", ")))

gains-text : (g : Option Gains) → gains_text g ≡ said_of g ++ range_ending (range_of g)
gains-text None = refl
gains-text (Some g) = grind (arith, append_assoc)

both-text : (g : Option Gains) → both_text g ≡ range_ending (range_of g)
both-text None = refl
both-text (Some g) = refl

module _ {file : List ℕ} {s : SurveyFields} {channels : Channels} (gains : Option Gains)
    (none : is_none gains ≡ lack_channels channels s.frames)
    (stays : (steps : ℤ)
    → is_some_out_of_range (constant_steps (steps_of (strict_shift channels steps))) s.frames
    ≡ not (takes_steps gains steps))
    (taken : (steps : ℤ) → channel_fault (strict_shift channels steps) s ≡ None
    → IsMadeIfTaken (takes_steps gains steps)
    (gain_result (strict_shift channels steps) false file)) where
  says : {name : List ℕ} (between : List ℕ) {line : List ℕ} → line
      ≡ name ++ (between ++ range_ending (range_of gains)) → SaysSteps file s name channels line
  says between text = record {
    range = range_of gains;
    between = between;
    text = text;
    none = range-none gains ∙ none;
    stays = λ steps. stays steps ∙ ap not (range-takes gains steps);
    taken = λ steps may. subst
        (λ b. IsMadeIfTaken b (gain_result (strict_shift channels steps) false file))
        (range-takes gains steps) (taken steps may);
  }

-- ---- all lines

abbrev other_lines : Option Info → SurveyFields → List (List ℕ)
other_lines head s =
    let rows = s.frames in
    let count = length rows in
    class_line s.class ∷ frames_line s.class count (lost_count rows)
    ∷ rates_line (least_rate rows) (greatest_rate rows)
    ∷ main_data_line (main_data_in rows) (file_areas s)
    ∷ head_line head ∷ (here_lines head count (stream_length s)
    ++ (played_line head s.class count ∷ []))

abbrev last_lines : SurveyFields → List (List ℕ)
last_lines s =
    gain_lines s.class.channels (extremes_of 0 s.frames) (extremes_of 1 s.frames)
    (extremes_of_both s.frames)

lines-by : (a b c d e f : List ℕ) (here gains : List (List ℕ))
    → a ∷ b ∷ c ∷ d ∷ e ∷ (here ++ (f ∷ gains))
    ≡ (a ∷ b ∷ c ∷ d ∷ e ∷ (here ++ (f ∷ []))) ++ gains
lines-by a b c d e f here gains =
    ap (λ (l : List (List ℕ)). a ∷ b ∷ c ∷ d ∷ e ∷ l) (sym (append_assoc here (f ∷ []) gains))

lines-are : (head : Option Info) (s : SurveyFields)
    → info_lines head s ≡ other_lines head s ++ last_lines s
unfolding info_lines
lines-are head s = lines-by _ _ _ _ _ _ _ _

-- ---- a file

module _ (file : List ℕ) {s : SurveyFields} (is : survey_of file most_frames ≡ Ok s) where
  placed : AreWellPlaced s.head s.class s.frames
  placed = survey_fields-placed file most_frames (survey_of-parts file most_frames is).1

  law : TakeSteps s.frames
  law = take_steps s.frames (sides-fitting s.frames (λ i row there. subst (λ (c : ClassFields).
      SideFits c row.side) (sym (placed i row there).class_is) (placed i row there).fits))

  exact : TakesExactly file s
  exact = exact-steps file s is

  known : IsClass s.class
  known =
      let first = first-there s.frames 0 (some-frames file most_frames is) in
      let row = placed 0 first.0 first.1 in
      subst IsClass row.class_is (IsClass-class_of row.known)

  left-says : SaysSteps file s (codes "left: ") Left
      (codes "left: " ++ gains_text (extremes_of 0 s.frames))
  left-says =
      let gains = extremes_of 0 s.frames in
      says gains (channel-none 0 s.frames) law.left (λ steps may. exact.left may steps)
      (said_of gains)
      (ap (λ (l : List ℕ). codes "left: " ++ l) (gains-text gains))

  right-says : SaysSteps file s (codes "right: ") Right
      (codes "right: " ++ gains_text (extremes_of 1 s.frames))
  right-says =
      let gains = extremes_of 1 s.frames in
      says gains
      (channel-none 1 s.frames) law.right (λ steps may. exact.right may steps) (said_of gains)
      (ap (λ (l : List ℕ). codes "right: " ++ l) (gains-text gains))

  both-says : SaysSteps file s (codes "both: ") Both
      (codes "both: " ++ both_text (extremes_of_both s.frames))
  both-says =
      let gains = extremes_of_both s.frames in
      says gains (both-none s.frames) law.both (λ steps may. exact.both steps) []
      (ap (λ (l : List ℕ). codes "both: " ++ l) (both-text gains))

  mono-says : s.class.channels ≡ 1 → SaysSteps file s (codes "mono: ") Both
      (codes "mono: " ++ gains_text (extremes_of 0 s.frames))
  mono-says one =
      let gains = extremes_of 0 s.frames in
      let same : extremes_of_both s.frames ≡ gains = exact.mono one in
      says gains (ap is_none (sym same) ∙ both-none s.frames)
      (λ steps. law.both steps ∙ ap (λ g. not (takes_steps g steps)) same)
      (λ steps may. subst
      (λ g. IsMadeIfTaken (takes_steps g steps) (gain_result (strict_shift Both steps) false file))
      same (exact.both steps)) (said_of gains)
      (ap (λ (l : List ℕ). codes "mono: " ++ l) (gains-text gains))

  abbrev last_by : Bool → List (List ℕ)
  last_by one =
      cond one (mono_lines (extremes_of 0 s.frames))
      (stereo_lines (extremes_of 0 s.frames) (extremes_of 1 s.frames) (extremes_of_both s.frames))

  steps-by : (one : Bool) → (s.class.channels == 1) ≡ one → AreStepLines file s (last_by one)
  steps-by true test =
      let one : s.class.channels ≡ 1 = eqb-true s.class.channels 1 test in
      (one, mono-says one)
  steps-by false test =
      let two : s.class.channels ≡ 2 = grind (arith, known) in
      (two, left-says, right-says, both-says)

  ends : EndsWithSteps file s
  ends = record {
    others = other_lines (fields_of_head file s.head) s;
    lines = last_lines s;
    text = ap (flat_map (λ (line : List ℕ). line)) (lines-are (fields_of_head file s.head) s)
        ∙ sym (concat_is (other_lines (fields_of_head file s.head) s ++ last_lines s));
    steps = steps-by (s.class.channels == 1) refl;
  }

-- the text gives exactly the steps that are taken
pub says-steps : InfoSaysTheSteps
says-steps file s is = ends file is

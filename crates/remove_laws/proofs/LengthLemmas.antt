-- Without lead-ins between the parts, as much is heard as was played of the frames that stay.
use Rattle.std.proofs.Common.{ap, arith, Bool, cond, drop, false, length, List, max, min, None}
use Rattle.std.proofs.Common.{Option, refl, Some, subst, sym, true, ℕ, [], ◌*◌, ◌+◌, ◌-◌, ◌<◌, ◌∙◌}
use Rattle.std.proofs.{Common.{◌∷◌, ◌≡◌, ◌≤◌}, lemmas.Bool.{ltb-false, ltb-true}}
use Rattle.std.specs.Prelude.{IfSome, nat_lt, option_map}
use Rattle.cut_edits.{proofs.HeadLemmas.survey_without_head-length, specs.Exact.survey_without_head}
use Rattle.exact_span.proofs.{HeardLemmas.{heard-cons, heard-nil}, PlayedLemmas.played-within}
use Rattle.exact_span.specs.Extensions.{counts_of}
use Rattle.exact_span.specs.Heard.{end_in, first_in, first_to_last, heard_in, heard_of}
use Rattle.exact_span.specs.Heard.{joined_heard, place_in}
use Rattle.exact_span.specs.PlayedPositions.{counted_played, counted_positions, decoder_delay}
use Rattle.exact_span.specs.PlayedPositions.{length_of_played, played_of, played_or_all, samples_in}
use Rattle.exact_span.specs.declared.{extensions.HeadCounts.HeadCounts, played.Played.Played}
use Rattle.exact_span.specs.declared.written.{Heard.Heard, WrittenFrames.WrittenFrames}
use Rattle.frame_header.specs.{Fields.ClassFields, Tables.samples_of}
use Rattle.frame_header.specs.declared.version.Version.{Version}
use Rattle.info_header.specs.declared.fields.Info.{Info}
use Rattle.laying.specs.KeptFields.{fields_of_head}
use Rattle.remove_edits.{proofs.CommandLemmas.left-parts, specs.Ready.ArePartsLeft}
use Rattle.remove_edits.specs.Removed.{all_parts_written, items_left, lead_in_count, parts_written}
use Rattle.remove_edits.specs.Removed.{places_before, plan_of_items, removal_plan}
use Rattle.remove_laws.proofs.LeadInLemmas.{frames-left}
use Rattle.remove_laws.proofs.OrderLemmas.{AreInFile, AreRightBehind, frame-times, HasPositions}
use Rattle.remove_laws.proofs.OrderLemmas.{parts-in_file, parts-right_behind, positions-are}
use Rattle.remove_laws.proofs.PlayLemmas.{of-played, played_as, read-as}
use Rattle.remove_laws.specs.PlayLaws.{HasNoLeadInBehindFirst, LengthIsLeft, played_between}
use Rattle.remove_laws.specs.PlayLaws.{played_in_parts, played_outside, PlaysAllThatIsLeft}
use Rattle.remove_laws.specs.PlayLaws.{PlaysWhatIsLeft}
use Rattle.seam_plan.specs.{PartSplices.SpliceItem, Stretches.AreInOrder}
use Rattle.seam_plan.specs.declared.stretches.Part.{Part}
use Rattle.sync_survey.specs.Faults.{SurveyFields}

-- ---- what is heard of frames that are written right behind one another

module _ (class : ClassFields) (played : Played) where
  abbrev samples : ℕ
  samples = samples_in class

  -- how many positions are played of these frames
  abbrev in_written : List WrittenFrames → ℕ
  in_written [] = 0
  in_written (w ∷ written) = played_between samples played w.from w.to + in_written written

  -- As many positions are heard as were played of frames from number
  -- `least` on, which are written from frame n on. If those before
  -- `least` are played to their end, these are heard from the first.
  record HasLength (least n many : ℕ) (heard : Heard) : Type 0 where
    long : heard.first + many ≡ heard.end
    late : least * samples < played.end
    first : played.start ≤ least * samples → heard.first ≡ n * samples

  abbrev HasLengthIf : ℕ → ℕ → ℕ → Option Heard → Type 0
  HasLengthIf least n many None = many ≡ 0
  HasLengthIf least n many (Some heard) = HasLength least n many heard

  module _ {least : ℕ} (many : ℕ) {w : WrittenFrames}
      (has : HasPositions samples least w.at w) where
    abbrev first : ℕ
    first = first_in samples played w

    abbrev end : ℕ
    end = end_in samples played w

    abbrev here : Heard
    here = record { first = place_in samples w first; end = place_in samples w end }

    -- how many positions are played of these frames and of those behind them
    abbrev all : ℕ
    all = played_between samples played w.from w.to + many

    only-here : first < end → many ≡ 0 → HasLength least w.at all here
    only-here some none = record {
      long = omega (arith, some, none);
      late = omega (arith, some, has.late);
      first = λ started. omega (arith, started, has.late);
    }

    and-later : first < end → {heard : Heard}
        → HasLength w.to (w.at + (w.to - w.from)) many heard
        → HasLength least w.at all (record { first = here.first; end = heard.end })
    and-later some {heard} later =
        let next : heard.first ≡ (w.at + (w.to - w.from)) * samples =
        later.first (omega (arith, some)) in
        record {
          long = omega (arith, some, next, later.long, later.late, has.some, has.next);
          late = omega (arith, some, has.late);
          first = λ started. omega (arith, started, has.late);
        }

    skips : end ≤ first → {heard : Heard} → HasLength w.to (w.at + (w.to - w.from)) many heard
        → HasLength least w.at all heard
    skips none later = record {
      long = omega (arith, none, later.long);
      late = omega (arith, later.late, has.late, has.some);
      first = λ started. absurd (omega (arith, none, started, later.late, has.late, has.some));
    }

    here-and : (o : Option Heard) → HasLengthIf w.to (w.at + (w.to - w.from)) many o
        → HasLengthIf least w.at all (joined_heard (first_to_last (heard_in samples played w)) o)
    unfolding first_to_last
    here-and o later = by (nat_lt first end) refl o later
      where
        by : (b : Bool) → nat_lt first end ≡ b → (r : Option Heard)
            → HasLengthIf w.to (w.at + (w.to - w.from)) many r
            → HasLengthIf least w.at all (joined_heard (first_to_last (cond b (here ∷ []) [])) r)
        by true some None rest = only-here (ltb-true first end some) rest
        by true some (Some heard) rest = and-later (ltb-true first end some) rest
        by false none None rest = omega (arith, ltb-false first end none, rest)
        by false none (Some heard) rest = skips (ltb-false first end none) rest

  heard-long : (least n : ℕ) (written : List WrittenFrames) → AreInFile least written
      → AreRightBehind n written
      → HasLengthIf least n (in_written written) (heard_of class played written)
  heard-long least n [] file behind =
      subst (HasLengthIf least n 0) (sym (heard-nil class played)) refl
  heard-long least n (w ∷ written) file behind =
      let later = heard_of class played written in
      let rest = heard-long w.to (n + (w.to - w.from)) written file.2 behind.1 in
      subst (HasLengthIf least n (in_written (w ∷ written)))
      (sym (heard-cons class played w written))
      (subst (λ at. HasLengthIf least at (in_written (w ∷ written))
      (joined_heard (first_to_last (heard_in samples played w)) later)) behind.0
      (here-and (in_written written)
      (positions-are class.version file.0 file.1 (omega arith)) later
      (subst (λ at. HasLengthIf w.to (at + (w.to - w.from)) (in_written written) later)
      (sym behind.0) rest)))

  in-parts : (at : ℕ) (items : List SpliceItem) (parts : List Part)
      → in_written (parts_written at items parts) ≡ played_in_parts samples played parts
  unfolding parts_written
  in-parts at items [] = refl
  in-parts at items (part ∷ parts) =
      let count = lead_in_count items + (part.to - part.from) in
      ap (λ n. played_between samples played part.from part.to + n)
      (in-parts (at + count) (drop count items) parts)

-- ---- what is played of the parts and of all other frames is all that is played

in-two : (start end : ℕ) {a b c : ℕ} → a ≤ b → b ≤ c
    → (min end b - max start a) + (min end c - max start b) ≡ min end c - max start a
in-two start end first second = omega (arith, first, second)

module _ (v : Version) (played : Played) (frames : ℕ) where
  abbrev between : ℕ → ℕ → ℕ
  between from to = played_between (samples_of v) played from to

  two : {a b c : ℕ} → a ≤ b → b ≤ c → between a b + between b c ≡ between a c
  two {a} {b} {c} first second =
      in-two played.start played.end
      (frame-times v first) (frame-times v second)

  outside-and-in : {from least : ℕ} (parts : List Part) → from ≤ least → from ≤ frames
      → AreInOrder least frames parts
      → played_in_parts (samples_of v) played parts
      + played_outside (samples_of v) played from frames parts ≡ between from frames
  unfolding AreInOrder
  outside-and-in [] low within order = omega arith
  outside-and-in {from} (part ∷ parts) low within order =
      omega (
        arith,
        outside-and-in {from = part.to} {least = part.to + 1} parts (omega arith) order.2 order.3,
        two {a = from} {b = part.from} {c = part.to} (omega (arith, low, order.0))
            (omega (arith, order.1)),
        two {a = from} {b = part.to} {c = frames} (omega (arith, low, order.0, order.1)) order.2,
      )

-- what a head counts is within the frames
counted-within : (head : Option Info) (class : ClassFields) (frames : ℕ) {played : Played}
    → counted_positions head class frames ≡ Some played → played.end ≤ frames * samples_in class
unfolding counted_positions played_of
counted-within head class frames {played} is =
    by (counts_of head) is (played-within head class frames)
  where
    by : (o : Option HeadCounts)
        → option_map (counted_played (samples_in class) frames) o ≡ Some played
        → (played_or_all (samples_in class) frames o).end ≤ frames * samples_in class
        → played.end ≤ frames * samples_in class
    by None none within = absurd cc
    by (Some counts) some within =
        subst (λ o. IfSome o (λ (p : Played). p.end ≤ frames * samples_in class)) some within

-- ---- the parts

module _ {s : SurveyFields} {first : Part} {later : List Part}
    (can : ArePartsLeft s (first ∷ later)) where
  abbrev parts : List Part
  parts = first ∷ later

  abbrev items : List SpliceItem
  items = items_left s parts

  abbrev before : ℕ
  before = places_before items (plan_of_items s items)

  module _ (played : Played) {heard : Heard}
      (within : played.end ≤ length s.frames * samples_in s.class)
      (is : heard_of s.class played (all_parts_written s parts) ≡ Some heard)
      (named : decoder_delay ≤ heard.first) (none : HasNoLeadInBehindFirst (removal_plan s parts))
    where
      heard_long : HasLength s.class played 0 before
          (played_in_parts (samples_in s.class) played parts) heard
      heard_long =
          subst (HasLengthIf s.class played 0 before
          (played_in_parts (samples_in s.class) played parts)) is
          (subst (λ many. HasLengthIf s.class played 0 before many
          (heard_of s.class played (all_parts_written s parts)))
          (in-parts s.class played before items parts)
          (heard-long s.class played 0 before (all_parts_written s parts)
          (parts-in_file before items (length s.frames) parts (omega arith) can.order)
          (parts-right_behind before items parts (frames-left can none))))

      left : length_of_played (played_as heard) ≡ played_in_parts (samples_in s.class) played parts
      left = omega (arith, named, heard_long.long)

      -- as much is played of what is written of these parts as was played of them
      pub what-is-left : PlaysWhatIsLeft s parts played (played_as heard)
      what-is-left = record {
        left = left;
        less = omega (
          arith,
          left,
          within,
          outside-and-in s.class.version played (length s.frames) {from = 0} {least = 0} parts
              (omega arith)
              (omega arith) can.order,
        );
      }

-- the law of the length that is played
pub plays-left : LengthIsLeft
plays-left stretches file s [] kept allowed o is left keeps e =
    absurd (omega (arith, (left-parts stretches file is left).some))
plays-left stretches file s (first ∷ later) kept allowed o is left keeps e =
    let read = read-as file s (first ∷ later) o stretches allowed is left keeps e in
    let apart : SurveyFields = survey_without_head s in
    let can = left-parts stretches file is left in
    let most : read.before.end ≤ length apart.frames * samples_in s.class =
    subst (λ n. read.before.end ≤ n * samples_in s.class) (sym (survey_without_head-length s))
    (counted-within (fields_of_head file s.head) s.class (length s.frames) read.was) in
    of-played file s (first ∷ later) o PlaysAllThatIsLeft read (λ heard are named none.
    let same : heard ≡ read.heard = (let both = sym are ∙ read.are in cc) in
    subst (λ h. PlaysWhatIsLeft apart (first ∷ later) read.before (played_as h)) same
    (what-is-left can read.before most are named none))

-- Giving the ranges to the writer, one more at a time.
use Rattle.std.proofs.Common.{append_assoc, arith, drop, get_or, length, List, map, refl}
use Rattle.std.proofs.Common.{slice_index_or, sym, ℕ, [], ◌++◌, ◌+◌, ◌-◌, ◌<◌, ◌∙◌, ◌∷◌, ◌≡◌, ◌≢◌}
use Rattle.std.proofs.{Common.◌≤◌, lemmas.List.{drop-map, get_or-drop}}
use Rattle.std.specs.Prelude.{flat_map, slice_range, unwrap_or}
use Rattle.frame_header.specs.{Fields.ClassFields, Tables.window_of}
use Rattle.frame_writer.specs.Frames.{Frame, IsNextSettled, reach_of}
use Rattle.frame_writer.specs.Writing.{IsNewQueue, Writing}
use Rattle.joined_inputs.proofs.SourceLemmas.{ranges-beside, source-holds}
use Rattle.joined_inputs.specs.Inputs.{told_contents}
use Rattle.joined_inputs.specs.Ranges.{AreRangeSources, AreRangesWithin, IsSource, range_in}
use Rattle.joined_inputs.specs.Ranges.{range_names, range_rows, RangeFields, ranges_in}
use Rattle.laying.proofs.{HoldLemmas.needs-range, PassLemmas.{lays_none, lays_then, part_then}}
use Rattle.laying.proofs.PlacesLemmas.{fits-append, relaid_frames-append}
use Rattle.laying.proofs.{PlannedFrameLemmas.AreNeedsOf, RangeLemmas.{frames-many, needs-many}}
use Rattle.laying.proofs.RelayLemmas.{begins-left, item-next, lays-all, LaysUpTo, part_more}
use Rattle.laying.{proofs.RelayLemmas.relaid_frames-none, specs.Fits.{FitsFromReach, last_reach}}
use Rattle.laying.specs.Needs.{needs_of_parts}
use Rattle.laying.specs.Passing.{IsRelayReady, LaysFrames, LaysPart, needs_from}
use Rattle.laying.specs.Places.{own_places, places_for}
use Rattle.laying.specs.Relaid.{all_frames, part_frames, relaid_frames}
use Rattle.laying.specs.declared.relay.Relay.{Relay}
use Rattle.outside.proofs.FilesLemmas.{appended_leaves}
use Rattle.outside.{proofs.PassLemmas.{input_held, input_holds, still_there}, specs.Counts.Counts}
use Rattle.outside.specs.{Feed.{Fed, IsFedFrom}, Files.{Files, Holds, IsFileThere, LeavesAllBut}}
use Rattle.outside.specs.{Pass.{HasPassCause, route}, declared.pass.PassFault.PassFault}
use Rattle.slot_plan.specs.declared.needs.{Need.Need, Placed.Placed}
use Rattle.sync_survey.specs.Faults.{survey_view, SurveyFields}

-- ---- one range

-- what a list maps to, from item i on, is what that item maps to, and then what those after it map
-- to
pub map-next : {X Y : Type 0} (f : X → Y) (xs : List X) {i : ℕ} {x : X} → i < length xs
    → x ≡ get_or xs i x → drop i (map f xs) ≡ f x ∷ drop (i + 1) (map f xs)
map-next f xs within is = grind (arith, drop-map, item-next, within)

-- an input is ready to be read beside the output
pub source-ready : {relay : Relay} {files : Files} {fed : Fed}
    → IsSource relay.pass.output.now files relay.pass.input.now (survey_view relay.survey.now)
    → IsFileThere files relay.pass.output.now
    → relay.pass.length ≡ (survey_view relay.survey.now).length
    → IsFedFrom fed files relay.pass.input.now → IsRelayReady relay files fed
source-ready source target long fed_from = grind (arith, target)

-- ---- the frames of ranges

-- the frames of a range, in the slots of their plan
abbrev frames_behind : RangeFields → List Placed → List ℕ → List Frame
frames_behind i placed file =
    relaid_frames (slice_range (all_frames file i.survey) i.from i.to) placed

-- how many bytes before the next area main data may begin after these frames
abbrev reach_behind : ℕ → RangeFields → List Placed → ℕ
reach_behind reach i placed = last_reach (window_of i.survey.class.version) reach
    (needs_from i.survey i.from i.to) placed

-- how many places of the plan these frames take
abbrev places_of : RangeFields → List Placed → ℕ
places_of i placed = places_for (i.to - i.from) placed

needs-append : (needs more : List Need) (fs gs : List Frame) → AreNeedsOf needs fs
    → AreNeedsOf more gs → AreNeedsOf (needs ++ more) (fs ++ gs)
needs-append [] more [] gs are behind = behind
needs-append (need ∷ needs) more (f ∷ fs) gs are behind =
    (are.0, are.1, needs-append needs more fs gs are.2 behind)
needs-append _ more _ gs are behind = absurd are

abbrev pub told_ranges : Files → List RangeFields → List Frame
told_ranges files ranges = flat_map part_frames (ranges_in files ranges)

-- where the contents of the files are known, the ranges' frames are those that the plan was made
-- for
sources-needs : (class : ClassFields) (output : List ℕ) (files : Files) (key file : List ℕ)
    (ranges : List RangeFields) → Holds files key file → AreRangeSources class output files ranges
    → AreNeedsOf (needs_of_parts (range_rows ranges)) (told_ranges files ranges)
unfolding needs_of_parts
sources-needs class output files key file [] holds are = tt
sources-needs class output files key file (i ∷ ranges) holds are =
    let bytes = unwrap_or (told_contents files i.name) [] in
    let has = are.0.0.exact bytes (source-holds key file holds are.0.0) in
    needs-append (needs_from i.survey i.from i.to)
    (needs_of_parts (range_rows ranges)) (part_frames (range_in (told_contents files) i))
    (told_ranges files ranges) (needs-range i.from i.to has)
    (sources-needs class output files key file ranges holds are.1)

-- a range's frames come before the frames of the ranges after it
own-split : (files : Files) (i : RangeFields) (ranges : List RangeFields) (placed : List Placed)
    → i.to ≤ length i.survey.frames
    → relaid_frames (told_ranges files (i ∷ ranges)) placed
    ≡ frames_behind i placed (unwrap_or (told_contents files i.name) [])
    ++ relaid_frames (told_ranges files ranges) (drop (places_of i placed) placed)
own-split files i ranges placed within = grind (arith, relaid_frames-append, frames-many)

told-none : (files : Files) (placed : List Placed)
    → relaid_frames (told_ranges files []) placed ≡ []
told-none files placed = grind (arith, relaid_frames-none)

-- the plan fits the range, and then the ranges after it
fits-range : {class : ClassFields} (reach : ℕ) (i : RangeFields) (ranges : List RangeFields)
    (placed : List Placed) → i.survey.class ≡ class → i.to ≤ length i.survey.frames
    → FitsFromReach (window_of class.version) reach (needs_of_parts (range_rows (i ∷ ranges)))
    placed → FitsFromReach (window_of i.survey.class.version) reach
    (needs_from i.survey i.from i.to)
    (own_places (i.to - i.from) placed)
    × FitsFromReach (window_of class.version) (reach_behind reach i placed)
    (needs_of_parts (range_rows ranges)) (drop (places_of i placed) placed)
unfolding needs_of_parts
fits-range reach i ranges placed same within fits = grind (arith, needs-many, fits-append, fits)

-- ---- range by range

-- The ranges before were given to the writer as planned. Left are these, with these places of the
-- plan.
pub record IsLaidTo (class : ClassFields) (key output : List ℕ) (whole : List ℕ → List Frame)
    (begun now : Writing) (first files : Files) (ranges : List RangeFields)
    (placed : List Placed) : Type 0 where
  pub sources : AreRangeSources class output first ranges
  pub within : AreRangesWithin ranges
  pub target : IsFileThere files output
  pub class_is : now.held.class ≡ class
  pub fits : FitsFromReach (window_of class.version) (reach_of now.held)
      (needs_of_parts (range_rows ranges)) placed
  pub unsettled : IsNextSettled now.held → ⊥
  pub lays : LaysUpTo key output whole (λ _. relaid_frames (told_ranges first ranges) placed)
      begun now first files

-- before the first range nothing was laid
pub laid-none : {class : ClassFields} (key : List ℕ) {output : List ℕ} (w : Writing)
    {files : Files} {ranges : List RangeFields} {placed : List Placed}
    → AreRangeSources class output files ranges → AreRangesWithin ranges
    → IsFileThere files output → IsNewQueue class w.held → FitsFromReach (window_of class.version)
    (reach_of w.held) (needs_of_parts (range_rows ranges)) placed → IsLaidTo class key output
    (λ _. relaid_frames (told_ranges files ranges) placed) w w files files ranges placed
laid-none key {output} w {files} sources within target new fits = record {
  sources = sources;
  within = within;
  target = target;
  class_is = new.class_is;
  fits = fits;
  unsettled = new.unsettled;
  lays = record {
    made = λ file. [];
    lays = lays_none key output {made = λ file. []} w {files = files} target (λ file holds. refl);
    left = λ file holds. refl;
  };
}

-- after the last range all frames were laid
pub laid-all : {class : ClassFields} {key output : List ℕ} {whole : List ℕ → List Frame}
    {begun now : Writing} {first files : Files} {ranges : List RangeFields} {placed : List Placed}
    → ranges ≡ [] → IsLaidTo class key output whole begun now first files ranges placed
    → LaysFrames key output whole begun now first files
laid-all {class} {key} {output} {whole} {begun} {now} {first} {files} {ranges} {placed} none laid =
    lays-all laid.lays (λ file holds. rw none (told-none first placed))

-- the next range, in the first of the places that are left
module _ {class : ClassFields} {key output : List ℕ} {whole : List ℕ → List Frame}
    {begun now : Writing} {first files : Files} {ranges later : List RangeFields} {i : RangeFields}
    {placed left : List Placed} (are : ranges ≡ i ∷ later) (left-is : placed ≡ left)
    (laid : IsLaidTo class key output whole begun now first files ranges placed) where
  abbrev s : SurveyFields
  s = i.survey

  here : IsLaidTo class key output whole begun now first files (i ∷ later) left
  here = rw (are, left-is) at laid

  -- its input is there, and has its survey
  pub next-source : IsSource output files i.name s
  next-source =
      let sofar = here.lays.lays in
      let touches : LeavesAllBut (output ∷ []) first files = grind (arith, appended_leaves) in
      (ranges-beside class output first files (i ∷ later) touches here.sources).0.0

  -- its input has the class of those before it
  pub next-class : now.held.class ≡ s.class
  next-class = here.class_is ∙ sym here.sources.0.1

  -- it ends no earlier than it begins
  pub next-ordered : i.from ≤ i.to
  next-ordered = here.within.0

  -- and within the file
  pub next-within : i.to ≤ length s.frames
  next-within = here.within.1

  abbrev count : ℕ
  count = places_of i left

  -- it fits in its places, and the others fit in the places after them
  pub both-fit :
      FitsFromReach (window_of s.class.version) (reach_of now.held)
      (needs_from s i.from i.to)
      (own_places (i.to - i.from) left)
      × FitsFromReach (window_of class.version) (reach_behind (reach_of now.held) i left)
      (needs_of_parts (range_rows later)) (drop count left)
  both-fit = fits-range (reach_of now.held) i later left here.sources.0.1 next-within here.fits

  abbrev bytes : List ℕ
  bytes = unwrap_or (told_contents first i.name) []

  abbrev own : List ℕ → List Frame
  own _ = frames_behind i left bytes

  abbrev rest : List ℕ → List Frame
  rest _ = relaid_frames (told_ranges first later) (drop count left)

  split : (file : List ℕ) → Holds first key file
      → (here.lays.made file ++ own file) ++ rest file ≡ whole file
  split file holds = grind (arith, append_assoc, own-split, next-within)

  module _ (apart : key ≢ output) (after : Files) where
    -- where the contents of the files are known, the content of its input is
    told : (file : List ℕ) → Holds files key file → Holds files i.name bytes
    told file holds = grind (arith, input_held, input_holds, source-holds)

    -- when it was laid in its places, one more range was laid
    pub next-laid : {new : Writing} {more : List Placed} → drop count left ≡ more
        → LaysFrames i.name output (frames_behind i left) now new files after
        → new.held.class ≡ s.class
        → reach_of new.held ≡ reach_behind (reach_of now.held) i left
        → (IsNextSettled new.held → ⊥)
        → IsLaidTo class key output whole begun new first after later more
    next-laid {new} is lays same reach unsettled =
        rw (← is) (record {
          sources = here.sources.1;
          within = here.within.2;
          target = still_there files output lays.passed output lays.files laid.target;
          class_is = same ∙ here.sources.0.1;
          fits = rw reach both-fit.1;
          unsettled = unsettled;
          lays = record {
            made = λ file. here.lays.made file ++ own file;
            lays = lays_then key output own apart
                here.lays.lays (record {
                  frames = lays.frames;
                  is = λ file holds. lays.is bytes (told file holds);
                  passed = lays.passed;
                  files = lays.files;
                  writer = lays.writer;
                });
            left = λ file holds. sym (split file holds);
          };
        })

    -- a prefix of its bytes, after those before it, is a prefix of all bytes
    pub next-part : {fault : PassFault}
        → LaysPart i.name output (frames_behind i left)
        (reach_behind (reach_of now.held) i left) now files after fault
        → (last : ℕ) × LaysPart key output whole last begun first after fault
    next-part part =
        let reach = reach_behind (reach_of now.held) i left in
        let needs = needs_of_parts (range_rows later) in
        let window = window_of class.version in
        let places = drop count left in
        let last = last_reach window reach needs places in
        let frames = told_ranges first later in (
          last,
          part_more {input = key} {output = output} {made = λ file. here.lays.made file
              ++ own file} rest {whole = whole} {reach = reach} {last = last} {old = begun}
              {before = first} {after = after}
              (λ file holds more begins.
              begins-left window reach needs frames places more
              (sources-needs class output first key file later holds here.sources.1)
              both-fit.1 begins)
              split
              (part_then key output own apart here.lays.lays
              {reach = reach} {after = after} (record {
                settled = part.settled;
                prefix = part.prefix;
                done = part.done;
                held = part.held;
                writer = part.writer;
                is = λ file holds. part.is bytes (told file holds);
              })),
        )

-- ---- why the pass ends early

-- the first range is one of them
pub named-first : {ranges later : List RangeFields} {i : RangeFields} → ranges ≡ i ∷ later
    → 0 < length (range_names ranges)
named-first is = rw is (omega arith)

-- the input with a number has the name with that number
pub cause-at : (names : List (List ℕ)) (number : ℕ) {name : List ℕ} (output : List ℕ)
    {later : List (List ℕ)} (size : ℕ) (files : Files) (before after : Counts) (fault : PassFault)
    → drop number names ≡ name ∷ later → HasPassCause (route name output size) files before after
    fault
    → HasPassCause (route (slice_index_or names number []) output size) files before after fault
cause-at names number {name} output size files before after fault is cause =
    let here : number ≡ number + 0 = omega arith in
    let named : slice_index_or names number [] ≡ name = grind (arith, here, get_or-drop) in
    rw named cause

-- the input of a range is named by the number of the range
pub cause-named : (ranges : List RangeFields) (number : ℕ) {r : RangeFields} (output : List ℕ)
    {later : List RangeFields} (size : ℕ) (files : Files) (before after : Counts)
    (fault : PassFault) → drop number ranges ≡ r ∷ later
    → HasPassCause (route r.name output size) files before after fault
    → HasPassCause (route (slice_index_or (range_names ranges) number []) output size) files before
    after fault
cause-named ranges number {r} output {later} size files before after fault is cause =
    let from : drop number (range_names ranges) ≡ r.name ∷ range_names later =
    grind (arith, drop-map, is) in
    cause-at (range_names ranges) number output size files before after
    fault from cause

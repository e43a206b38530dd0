-- Deciding one more input.
use Rattle.std.proofs.Common.{ap, append-nil, append_assoc, ap₂, arith, drop, length, length-append}
use Rattle.std.proofs.Common.{List, map, Option, refl, slice_get, slice_range, Some, suc, sym, take}
use Rattle.std.proofs.Common.{unwrap_or, zero, ℕ, [], ◌++◌, ◌+◌, ◌-◌, ◌∙◌, ◌∷◌, ◌≡◌, ◌≤◌}
use Rattle.std.proofs.lemmas.List.{drop-map, drop_all, length-drop, length-map, length-take}
use Rattle.std.proofs.lemmas.List.{map-append, take-append-le, take_all}
use Rattle.std.proofs.lemmas.List.Elements.{All-append, All-cons, All-nil}
use Rattle.std.{proofs.lemmas.List.FromFn.length-enumerate_from, specs.List.enumerate_from}
use Rattle.std.specs.Prelude.{zip}
use Rattle.exact_span.specs.{PlayedPositions.counted_positions, declared.overlap.Overlap.Overlap}
use Rattle.frame_header.specs.{Fields.ClassFields, Tables.window_of}
use Rattle.joined_inputs.specs.{Inputs.InputFields, Laying.{AreFromsWithin, rest_rows}}
use Rattle.joined_inputs.specs.Parts.{whole_part}
use Rattle.laying.specs.Needs.{need_of, needs_of_parts}
use Rattle.outside.specs.Files.{Contents, Files, IfTold, Told, Untold}
use Rattle.seam_plan.proofs.FollowLemmas.{joining_frames-sounds}
use Rattle.seam_plan.proofs.SeamLemmas.{joint-adds, joint-by, length-moved}
use Rattle.seam_plan.proofs.SpliceSoundLemmas.{class-append}
use Rattle.seam_plan.specs.Decisions.{alike_overlap, frame_places, IsBroughtInput, IsJoint}
use Rattle.seam_plan.specs.Decisions.{IsSoundSplice, IsSplice, joined_needs, JoinsSplice}
use Rattle.seam_plan.specs.Frames.{Brought, needs_of, SpliceFrame}
use Rattle.seam_plan.specs.Seams.{joint_of, JointFrames, left_out_count}
use Rattle.seam_plan.specs.declared.{input.Input.Input, splice.{FramePlace.FramePlace, Joint.Joint}}
use Rattle.seamless_edits.proofs.DecideLemmas.{class-moved, drop-cons, joints-next, last-next}
use Rattle.seamless_edits.proofs.DecideLemmas.{moved-append, moved-joined, outs-more, sound-here}
use Rattle.seamless_edits.proofs.DecideLemmas.{splice-next, zip-more}
use Rattle.seamless_edits.proofs.FramePlaceLemmas.{get-within, map-get, zip-get}
use Rattle.seamless_edits.specs.Deciding.{BringsNeeds, brought_of, broughts_in, from_places}
use Rattle.seamless_edits.specs.Deciding.{input_needs, IsDecidedTo, IsDecidingTo, IsSharedOverlap}
use Rattle.seamless_edits.specs.{Deciding.left_out_counts, Seamless.{splice_frame, splice_frames}}
use Rattle.seamless_edits.specs.Sounds.{all_splice_frames, AreFramePlaces, IsFramePlace, sound_at}
use Rattle.seamless_edits.specs.{Sounds.whole_in, declared.beginnings.Beginning.Beginning}
use Rattle.seamless_edits.specs.declared.decided.Deciding.{Deciding}
use Rattle.slot_plan.{proofs.PartLemmas.class-drop, specs.Parts.AreNeedsOfClass}
use Rattle.slot_plan.specs.declared.needs.Need.{Need}
use Rattle.sync_survey.specs.Faults.{stream_of_survey, SurveyFields}
use Rattle.sync_survey.specs.{MainData.{stream_frames, StreamFrame}, Row.Row}

-- ---- what an input brings

zip-needs : (class : ClassFields) (rows : List Row) (stream : List StreamFrame) → length rows
    ≡ length stream → needs_of (map (splice_frame class) (zip rows stream)) ≡ map need_of rows
zip-needs class [] [] long = refl
zip-needs class [] (f ∷ stream) long = absurd (omega (arith, long))
zip-needs class (r ∷ rows) [] long = absurd (omega (arith, long))
zip-needs class (r ∷ rows) (f ∷ stream) long =
    ap (λ (l : List Need). need_of r ∷ l) (zip-needs class rows stream (omega (arith, long)))

range-all : {X : Type 0} {n : ℕ} {xs : List X} → n ≡ length xs → slice_range xs 0 n ≡ xs
range-all {n = n} {xs = xs} is = take_all (n - 0) xs (omega (arith, is))

stream-length : (file : List ℕ) (s : SurveyFields)
    → length (stream_of_survey file s) ≡ length s.frames
unfolding stream_of_survey stream_frames
stream-length file s = length-map (enumerate_from 0 s.frames) _ ∙ length-enumerate_from 0 s.frames

-- all frames of the input, each with what it needs
pub brought-needs : (file : List ℕ) (s : SurveyFields)
    → needs_of (splice_frames (whole_part file s)) ≡ input_needs s
brought-needs file s = grind (arith, range-all, stream-length, zip-needs)

-- what an input brings, given its file, has the needs that its survey has
pub brings-told : (f : Contents) (i : InputFields) (b : Beginning)
    → BringsNeeds i.survey b (brought_of f i b)
brings-told f i b = record {
  needs = brought-needs (unwrap_or (f i.name) []) i.survey;
  blank = refl;
  played = refl;
}

-- frames without a sound, for folders whose contents aren't known
abbrev pub silent_frame : Need → SpliceFrame
silent_frame n = record { need = n; sound = [] }

-- frames without a sound have the needs that they were made from
pub silent-needs : (needs : List Need) → needs_of (map silent_frame needs) ≡ needs
silent-needs [] = refl
silent-needs (n ∷ needs) = ap (λ (l : List Need). n ∷ l) (silent-needs needs)

abbrev pub silent_brought : SurveyFields → Beginning → Brought
silent_brought s b = record {
  frames = map silent_frame (input_needs s);
  blank = b.blank;
  played = counted_positions b.head s.class (length s.frames);
}

-- frames without a sound are what the input brings, except for the sounds
pub brings-silent : (s : SurveyFields) (b : Beginning) → BringsNeeds s b (silent_brought s b)
brings-silent s b = record { needs = silent-needs (input_needs s); blank = refl; played = refl }

-- ---- the sounds of frames that join

abbrev map-sounds : List SpliceFrame → List (List ℕ)
map-sounds frames = map (λ (f : SpliceFrame). f.sound) frames

abbrev Keeps : Brought → JointFrames → Type 0
Keeps brought joint =
    map-sounds joint.frames ≡ map-sounds (drop (left_out_count joint.seam) brought.frames)

-- the frames that join have the sounds of the frames that are kept
joint-keeps : (class : ClassFields) (splice : List SpliceFrame) (before brought : Brought)
    → Keeps brought (joint_of class splice before brought)
joint-keeps class splice before brought =
    joint-by class splice before brought (Keeps brought)
    (λ seam frames is.
    joining_frames-sounds (window_of class.version) splice
    (drop (left_out_count seam) brought.frames) is)
    refl

-- ---- lists with one more item

-- one more input with its number
pub places-more : (inputs : List InputFields) (froms : List ℕ) (i : InputFields) (from : ℕ)
    → length froms ≡ length inputs → from_places (inputs ++ i ∷ []) (froms ++ from ∷ [])
    ≡ from_places inputs froms ++ record i { from = from } ∷ []
places-more [] [] i from long = refl
places-more [] (n ∷ froms) i from long = absurd (omega (arith, long))
places-more (j ∷ inputs) [] i from long = absurd (omega (arith, long))
places-more (j ∷ inputs) (n ∷ froms) i from long =
    ap (λ (l : List InputFields). record j { from = n } ∷ l)
    (places-more inputs froms i from (omega (arith, long)))

within-more : (inputs : List InputFields) (i : InputFields) → AreFromsWithin inputs
    → i.from ≤ length i.survey.frames → AreFromsWithin (inputs ++ i ∷ [])
within-more [] i are is = (is, tt)
within-more (j ∷ inputs) i are is = (are.0, within-more inputs i are.1 is)

rows-more : (inputs : List InputFields) (i : InputFields)
    → needs_of_parts (rest_rows (inputs ++ i ∷ [])) ≡ needs_of_parts (rest_rows inputs)
    ++ map need_of (slice_range i.survey.frames i.from (length i.survey.frames))
unfolding needs_of_parts
rows-more [] i =
    append-nil (map need_of (slice_range i.survey.frames i.from (length i.survey.frames)))
rows-more (j ∷ inputs) i = grind (arith, slice_range, append_assoc, rows-more inputs i)

-- the needs of the rows from one on are the needs of all rows but those before it
pub range-behind : (s : SurveyFields) (from : ℕ)
    → map need_of (slice_range s.frames from (length s.frames)) ≡ drop from (input_needs s)
range-behind s from = grind (arith, take_all, length-drop, drop-map)

-- the items up to a place and the one there are one item more
pub take-more : {X : Type 0} (xs : List X) (n : ℕ) {x : X} → slice_get xs n ≡ Some x
    → take (n + 1) xs ≡ take n xs ++ x ∷ []
take-more [] n is = absurd cc
take-more (y ∷ xs) zero is = ap (λ z. z ∷ []) cc
take-more (y ∷ xs) (suc n) {x} is = grind (arith, take-more xs n is)

-- `count` places from one on are places of frames, if the input has that many frames
pub places-at : {inputs : List InputFields} (number : ℕ) {i : InputFields} (from count : ℕ)
    → slice_get inputs number ≡ Some i → from + count ≤ length i.survey.frames
    → AreFramePlaces inputs (frame_places number from count)
places-at {inputs} number from zero is within = All-nil (IsFramePlace inputs)
places-at {inputs} number {i} from (suc count) is within =
    grind (arith, All-cons, places-at number (from + 1) count is (omega (arith, within)))

-- the sounds of the frames of an input from one on
pub places-sound : (lists : List (List SpliceFrame)) (number from count : ℕ)
    {all : List SpliceFrame} → slice_get lists number ≡ Some all → from + count ≡ length all
    → map (sound_at lists) (frame_places number from count) ≡ map-sounds (drop from all)
places-sound lists number from count {all} has is = at count from all has is
  where
    at : (count from : ℕ) (all : List SpliceFrame) → slice_get lists number ≡ Some all
        → from + count ≡ length all
        → map (sound_at lists) (frame_places number from count) ≡ map-sounds (drop from all)
    at zero from all has is = sym (ap map-sounds (drop_all from all (omega (arith, is))))
    at (suc count) from all has is =
        let next = drop-cons from all (omega (arith, is)) in
        ap₂ (λ (x : List ℕ) (l : List (List ℕ)). x ∷ l) (sound-here lists number from has
        next.1) (at count (from + 1) all has (omega (arith, is)))
        ∙ sym (ap map-sounds next.2)

-- what the input with this number brings
pub broughts-get : (f : Contents) (inputs : List InputFields) (bs : List Beginning) (n : ℕ)
    {i : InputFields} {b : Beginning} → slice_get inputs n ≡ Some i → slice_get bs n ≡ Some b
    → slice_get (broughts_in f inputs bs) n ≡ Some (brought_of f i b)
broughts-get f inputs bs n {i} {b} found begun =
    map-get (λ (p : InputFields × Beginning). brought_of f p.0 p.1) (zip inputs bs) n
    (zip-get inputs bs n found begun)

-- the frames of the input with this number
pub frames-get : (f : Contents) (inputs : List InputFields) (n : ℕ) {i : InputFields}
    → slice_get inputs n ≡ Some i
    → slice_get (all_splice_frames f inputs) n ≡ Some (splice_frames (whole_in f i))
frames-get f inputs n {i} found =
    map-get (λ (j : InputFields). splice_frames (whole_in f j)) inputs n found

-- ---- the step

-- what adding the input with this number did
pub record IsAdded (number : ℕ) (input : Input) (alike : Option Overlap) (joint : Joint)
    (old new : Deciding) : Type 0 where
  pub joints : new.joints.items ≡ old.joints.items ++ joint ∷ []
  pub needs : new.needs.items
      ≡ old.needs.items
      ++ joined_needs joint.slot (drop (left_out_count joint.seam) input.needs.now)
  pub out : left_out_count joint.seam ≤ length input.needs.now
  pub sound : IsSoundSplice new.splice
  pub goes : (class : ClassFields) (frames more : List SpliceFrame) (places : List FramePlace)
      (before brought : Brought) → IsSplice class frames places before old.splice
      → IsBroughtInput input brought
      → needs_of more ≡ joined_needs joint.slot (drop (left_out_count joint.seam) input.needs.now)
      → IsSplice class (frames ++ more)
      (places ++ frame_places number (left_out_count joint.seam) (length more)) brought new.splice
  pub joins : (class : ClassFields) (frames : List SpliceFrame) (places : List FramePlace)
      (before brought : Brought) → IsSplice class frames places before old.splice
      → IsBroughtInput input brought → alike ≡ alike_overlap class frames before brought
      → JoinsSplice class number frames places before brought joint new.splice

-- the input with this number is the input with this survey
pub record IsInputOf (inputs : List InputFields) (bs : List Beginning) (number : ℕ)
    (class : ClassFields) (input : Input) : Type 0 where
  pub item : InputFields
  pub found : slice_get inputs number ≡ Some item
  pub beginning : Beginning
  pub begun : slice_get bs number ≡ Some beginning
  pub needs : input.needs.now ≡ input_needs item.survey
  pub blank : input.blank ≡ beginning.blank
  pub played : input.played
      ≡ counted_positions beginning.head item.survey.class (length item.survey.frames)
  pub same : AreNeedsOfClass class input.needs.now

is-brought : {inputs : List InputFields} {bs : List Beginning} {number : ℕ} {class : ClassFields}
    {input : Input} (of : IsInputOf inputs bs number class input) {brought : Brought}
    → BringsNeeds of.item.survey of.beginning brought → IsBroughtInput input brought
is-brought of brings = record {
  needs = of.needs ∙ sym brings.needs;
  blank = of.blank ∙ sym brings.blank;
  played = of.played ∙ sym brings.played;
}

module _ {files : Files} {inputs : List InputFields} {bs : List Beginning}
    {number : ℕ} {input : Input} {alike : Option Overlap} {joint : Joint}
    {old new : Deciding} (so_far : IsDecidingTo files inputs bs number old)
    (of : IsInputOf inputs bs
    number so_far.class input) (added : IsAdded number input alike joint old new) where
  abbrev out : ℕ
  out = left_out_count joint.seam

  abbrev left : List Need
  left = joined_needs joint.slot (drop out input.needs.now)

  many-more : (more : List SpliceFrame) → needs_of more ≡ left
      → out + length more ≡ length of.item.survey.frames
  many-more more adds = grind (arith, length-map, adds, length-moved, out, length-drop)

  outs-next : 0 ∷ left_out_counts new.joints.items
      ≡ (0 ∷ left_out_counts old.joints.items) ++ out ∷ []
  outs-next = grind (arith, outs-more)

  outs-long : length (0 ∷ left_out_counts old.joints.items) ≡ length (take number inputs)
  outs-long = grind (arith, length-map, length-take, get-within)

  abbrev before : List InputFields
  before = from_places (take number inputs) (0 ∷ left_out_counts old.joints.items)

  abbrev here : InputFields
  here = record of.item { from = out }

  inputs-next : from_places (take (number + 1) inputs) (0 ∷ left_out_counts new.joints.items)
      ≡ before ++ here ∷ []
  inputs-next =
      ap₂ (λ (l : List InputFields) (m : List ℕ). from_places l m)
      (take-more inputs number of.found) outs-next
      ∙ places-more (take number inputs) (0 ∷ left_out_counts old.joints.items) of.item out
      outs-long

  out-within : out ≤ length of.item.survey.frames
  out-within =
      omega (arith, added.out, ap length of.needs, length-map of.item.survey.frames need_of)

  -- the state with these frames added
  build : {brought : Brought} (more : List SpliceFrame)
      → BringsNeeds of.item.survey of.beginning brought → needs_of more ≡ left
      → IfTold files (λ f. IsDecidedTo so_far.class (take (number + 1)
      (broughts_in f inputs bs)) (all_splice_frames f inputs) (so_far.frames ++ more)
      (so_far.places ++ frame_places number out (length more)) brought new.joints.items)
      → IsDecidingTo files inputs bs (number + 1) new
  build {brought} more brings adds told = record {
    class = so_far.class;
    class_is = so_far.class_is;
    frames = so_far.frames ++ more;
    places = so_far.places ++ frame_places number out (length more);
    before = brought;
    is_splice = added.goes so_far.class so_far.frames more so_far.places so_far.before brought
        so_far.is_splice (is-brought of brings) adds;
    sound = added.sound;
    needs = grind (arith, adds, map-append);
    at =
        All-append (IsFramePlace inputs) so_far.places (frame_places number out (length more))
        so_far.at (places-at number out
        (length more) of.found (omega (arith, many-more more adds)));
    many = omega
        (arith, ap length added.joints, length-append old.joints.items (joint ∷ []), so_far.many);
    within = rw inputs-next (within-more before here so_far.within out-within);
    moved =
        let behind = needs_of_parts (rest_rows before) in
        let same : needs_of_parts (rest_rows (from_places (take (number + 1) inputs)
        (0 ∷ left_out_counts new.joints.items))) ≡ behind ++ drop out input.needs.now =
        ap (λ (l : List InputFields). needs_of_parts (rest_rows l)) inputs-next
        ∙ rows-more before here
        ∙ ap (λ (l : List Need). behind ++ l)
        (range-behind of.item.survey out ∙ ap (drop out) (sym of.needs)) in
        rw (added.needs, same)
        (moved-append old.needs.items behind left (drop out input.needs.now)
        so_far.moved (moved-joined joint.slot (drop out input.needs.now)));
    same = grind (arith, class-append, class-moved, out, class-drop);
    begins = grind (arith, length-take, length-map, take-append-le);
    told = told;
  }

-- what is decided about inputs whose contents are known
module _ {f : Contents} {inputs : List InputFields} {bs : List Beginning}
    {number : ℕ} {input : Input} {alike : Option Overlap} {joint : Joint}
    {old new : Deciding} (so_far : IsDecidingTo (Told f) inputs bs number old) (of : IsInputOf
    inputs bs number so_far.class input) (added : IsAdded number input alike joint old new)
    (is : IsSharedOverlap (Told f) inputs number old.splice input alike) where
  abbrev next : Brought
  next = brought_of f of.item of.beginning

  abbrev lists : List (List SpliceFrame)
  lists = all_splice_frames f inputs

  abbrev decided : JointFrames
  decided = joint_of so_far.class so_far.frames so_far.before next

  brings : IsBroughtInput input next
  brings = grind (arith, is-brought, brings-told)

  has : slice_get lists number ≡ Some next.frames
  has = frames-get f inputs number of.found

  same : alike ≡ alike_overlap so_far.class so_far.frames so_far.before next
  same = grind (arith, brings, has)

  joined : IsJoint decided joint
  joined = (added.joins so_far.class so_far.frames so_far.places so_far.before next
      so_far.is_splice brings same).joint

  adds : needs_of decided.frames
      ≡ joined_needs joint.slot (drop (left_out_count joint.seam) input.needs.now)
  adds =
      joint-adds so_far.class so_far.frames so_far.before next joint joined
      ∙ ap₂ (λ n (l : List Need). joined_needs joint.slot (drop n l))
      (sym (ap left_out_count joined.seam))
      (sym brings.needs)

  all-sounds : map (sound_at lists)
      (so_far.places ++ frame_places number (left_out_count joint.seam) (length decided.frames))
      ≡ map-sounds (so_far.frames ++ decided.frames)
  all-sounds =
      map-append (sound_at lists)
      so_far.places (frame_places number (left_out_count joint.seam) (length decided.frames))
      ∙ ap₂ (λ (a b : List (List ℕ)). a ++ b) so_far.told.sounds
      (places-sound lists number (left_out_count joint.seam) (length decided.frames) has
      (many-more so_far of added
      decided.frames adds ∙ sym next-length)
      ∙ ap (λ n. map-sounds (drop n next.frames)) (ap left_out_count joined.seam)
      ∙ sym (joint-keeps so_far.class so_far.frames so_far.before next))
      ∙ sym (map-append (λ (x : SpliceFrame). x.sound) so_far.frames decided.frames)
    where
      next-length : length next.frames ≡ length of.item.survey.frames
      next-length = sym (length-map next.frames (λ (x : SpliceFrame). x.need))
          ∙ ap length (brought-needs (unwrap_or (f of.item.name) []) of.item.survey)
          ∙ length-map of.item.survey.frames need_of

  told-next : IsDecidedTo so_far.class (take (number + 1) (broughts_in f inputs bs)) lists
      (so_far.frames ++ decided.frames)
      (so_far.places ++ frame_places number (left_out_count joint.seam) (length decided.frames))
      next
      new.joints.items
  told-next =
      grind (
        arith,
        take-more (broughts_in f inputs bs) number
            (broughts-get f inputs bs number of.found of.begun),
        broughts-get f inputs bs number of.found of.begun,
        last-next,
        splice-next,
        joints-next,
        zip-more,
        joined,
        all-sounds,
      )

  -- where the contents of the files are known, one more input is decided
  pub told-step : IsDecidingTo (Told f) inputs bs (number + 1) new
  told-step = build so_far of added
      decided.frames (brings-told f of.item of.beginning) adds told-next

-- one more input is decided
pub decided-step : (files : Files) {inputs : List InputFields} {bs : List Beginning}
    {number : ℕ} {input : Input} {alike : Option Overlap} {joint : Joint}
    {old new : Deciding} (so_far : IsDecidingTo files inputs bs number old)
    (of : IsInputOf inputs bs number so_far.class input)
    → IsAdded number input alike joint old new
    → IsSharedOverlap files inputs number old.splice input alike
    → IsDecidingTo files inputs bs (number + 1) new
decided-step (Told f)
    {inputs} {bs} {number} {input} {alike} {joint} {old} {new} so_far of added is =
    told-step so_far of added is
decided-step (Untold touched)
    {inputs} {bs} {number} {input} {alike} {joint} {old} {new} so_far of added is =
    let left = joined_needs joint.slot (drop (left_out_count joint.seam) input.needs.now) in
    build so_far of added
    (map silent_frame left)
    (brings-silent of.item.survey of.beginning) (silent-needs left) tt

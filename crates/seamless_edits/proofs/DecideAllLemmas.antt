-- Deciding the first input, and in the end all inputs.
use Rattle.std.proofs.Common.{All, ap, append-nil, arith, drop, get_or, IfSome, length}
use Rattle.std.proofs.Common.{length-append, List, map, refl, slice_get, slice_range, Some, subst}
use Rattle.std.proofs.Common.{suc, sym, take, zero, ℕ, [], ◌++◌, ◌<◌, ◌∙◌, ◌∷◌, ◌≡◌, ◌≤◌}
use Rattle.std.proofs.lemmas.List.{drop-append-le, length-drop, length-map, length-take, take_all}
use Rattle.std.{proofs.lemmas.List.Elements.{All-cons, All-nil}, specs.List.AllZip}
use Rattle.commands.specs.SingleOutput.{most_frames}
use Rattle.exact_span.specs.PlayedPositions.{AreCounted, counted_positions}
use Rattle.frame_header.specs.{Fields.ClassFields, Tables.window_of}
use Rattle.joined_inputs.specs.Inputs.{AreInputsOfClass, CanInputsBeJoined, frames_together}
use Rattle.joined_inputs.specs.{Inputs.InputFields, Laying.{AreFromsWithin, rest_rows}}
use Rattle.laying.{proofs.NeedsFitLemmas.part-fits, specs.Needs.{need_of, needs_of_parts}}
use Rattle.outside.specs.Files.{Contents, Files, IfTold, Told, Untold}
use Rattle.seam_plan.specs.Decisions.{frame_places, IsJoinableInput, IsJoint}
use Rattle.seam_plan.specs.Frames.{Brought, needs_of, SpliceFrame}
use Rattle.seam_plan.specs.Seams.{front_left_out_count, joints_from, seamless_join}
use Rattle.seam_plan.specs.declared.{input.Input.Input, splice.Joint.Joint}
use Rattle.seamless_edits.proofs.DecideLemmas.{moved-drop, moved-same}
use Rattle.seamless_edits.proofs.DecideStepLemmas.{brings-silent, brings-told, IsInputOf, places-at}
use Rattle.seamless_edits.proofs.DecideStepLemmas.{places-sound, range-behind}
use Rattle.seamless_edits.specs.Deciding.{AreMovedNeeds, BringsNeeds, brought_of, broughts_in}
use Rattle.seamless_edits.specs.Deciding.{CanBeDecided, CanBeginSplice, FitAlone, FitsAlone}
use Rattle.seamless_edits.specs.Deciding.{from_places, HasBegunSplice, input_needs, IsDecidedTo}
use Rattle.seamless_edits.specs.Deciding.{IsDecidingTo, IsJoinedOf, IsNextInput, IsSpliceable}
use Rattle.seamless_edits.specs.Deciding.{IsSpliceDecided, left_out_counts}
use Rattle.seamless_edits.specs.Sounds.{all_splice_frames, AreOfOneClass}
use Rattle.seamless_edits.specs.declared.{beginnings.Beginning.Beginning, decided.Decided.Decided}
use Rattle.seamless_edits.specs.declared.decided.Deciding.{Deciding}
use Rattle.slot_plan.proofs.{FreeByteLemmas.{fits-drop, leaves-fit}, PartLemmas.class-drop}
use Rattle.slot_plan.specs.{FreeBytes.FitsBehind, Parts.AreNeedsOfClass, declared.needs.Need.Need}
use Rattle.sync_survey.specs.{Faults.SurveyFields, Survey.IsSurveyLaidOut}

-- ---- an input from which a splice can begin

-- the needs of an input's frames are of its class
pub needs-class : {s : SurveyFields} → IsSurveyLaidOut s → AreNeedsOfClass s.class (input_needs s)
needs-class {s} laid =
    let whole : map need_of (slice_range s.frames 0 (length s.frames)) ≡ input_needs s =
    range-behind s 0 in
    subst (AreNeedsOfClass s.class) whole (part-fits s 0 (length s.frames) laid.placed).0

-- a splice can begin from the first of inputs that can be decided
pub can-begin : {files : Files} {i : InputFields} {inputs : List InputFields}
    {bs : List Beginning} → CanBeDecided files (i ∷ inputs) bs → CanBeginSplice i.survey
unfolding frames_together
can-begin {i = i} can = record {
  some = can.joined.alike.0;
  few = omega (arith, can.joined.frames);
  same = needs-class can.joined.alike.1;
  fits = can.fit.0;
}

-- the same, with the first input given by its place
pub can-begin-at : {files : Files} (inputs : List InputFields) {bs : List Beginning}
    {i : InputFields} {rest : List InputFields} → CanBeDecided files inputs bs
    → drop 0 inputs ≡ i ∷ rest → CanBeginSplice i.survey
can-begin-at [] can e = absurd cc
can-begin-at {files} (j ∷ inputs) {bs} {i} {rest} can e = grind (arith, can-begin can)

-- ---- the first input

module _ {files : Files} {i : InputFields} {inputs : List InputFields}
    {b : Beginning} {bs : List Beginning} {d : Deciding}
    (can : CanBeDecided files (i ∷ inputs) (b ∷ bs)) (begun : HasBegunSplice i.survey b d) where
  abbrev s : SurveyFields
  s = i.survey

  abbrev can-be : CanBeginSplice s
  can-be = can-begin can

  rows-one : (outs : List ℕ)
      → needs_of_parts (rest_rows (from_places (i ∷ []) (0 ∷ outs))) ≡ input_needs s
  unfolding needs_of_parts
  rows-one outs = search (arith, append-nil, range-behind)

  first-is : {first : Brought} → BringsNeeds s b first → IfTold files (λ f.
      IsDecidedTo s.class (take 1 (broughts_in f (i ∷ inputs) (b ∷ bs)))
      (all_splice_frames f (i ∷ inputs)) first.frames (frame_places 0 0 (length first.frames)) first
      d.joints.items) → IsDecidingTo files (i ∷ inputs) (b ∷ bs) 1 d
  first-is {first} brings told =
      let many : length first.frames ≡ length s.frames = grind (arith, length-map) in
      let none = begun.joints in
      record {
        class = s.class;
        class_is = refl;
        frames = first.frames;
        places = frame_places 0 0 (length first.frames);
        before = first;
        is_splice = begun.splice first brings;
        sound = begun.sound;
        needs = begun.needs ∙ sym brings.needs;
        at = places-at 0 0 (length first.frames) refl (omega (arith, many));
        many = omega (arith, ap length none);
        within = (omega arith, tt);
        moved = rw (begun.needs, rows-one []) (moved-same (input_needs s));
        same = subst (AreNeedsOfClass s.class) (sym begun.needs) can-be.same;
        begins = grind (arith, take_all, length-map);
        told = told;
      }

  first-told : (f : Contents) → (let first = brought_of f i b in
      IsDecidedTo s.class (take 1 (broughts_in f (i ∷ inputs) (b ∷ bs)))
      (all_splice_frames f (i ∷ inputs)) first.frames
      (frame_places 0 0 (length first.frames)) first d.joints.items)
  unfolding joints_from
  first-told f =
      let first = brought_of f i b in
      record {
        first = first;
        others = [];
        are = refl;
        last = refl;
        splice = sym (append-nil first.frames);
        joints_are = subst (λ (l : List Joint). AllZip IsJoint [] l) (sym begun.joints) tt;
        sounds = places-sound (all_splice_frames f (i ∷ inputs)) 0 0
            (length first.frames) refl (omega arith);
      }

-- the splice has begun
pub begun-decides : (files : Files) {i : InputFields} {inputs : List InputFields}
    {b : Beginning} {bs : List Beginning} {d : Deciding}
    → CanBeDecided files (i ∷ inputs) (b ∷ bs) → HasBegunSplice i.survey b d
    → IsDecidingTo files (i ∷ inputs) (b ∷ bs) 1 d
begun-decides (Untold touched) {i} {inputs} {b} {bs} {d} can begun =
    first-is can begun (brings-silent i.survey b) tt
begun-decides (Told f) {i} {inputs} {b} {bs} {d} can begun =
    first-is can begun
    (brings-told f i b) (first-told can begun f)

-- the same, with the input and its beginning given by their places
pub begun-at : {files : Files} (inputs : List InputFields)
    (bs : List Beginning) {i : InputFields} {b : Beginning} {d : Deciding}
    → CanBeDecided files inputs bs → slice_get inputs 0 ≡ Some i → slice_get bs 0 ≡ Some b
    → HasBegunSplice i.survey b d → IsDecidingTo files inputs bs 1 d
begun-at [] bs can found there begun = absurd cc
begun-at (j ∷ inputs) [] can found there begun = absurd cc
begun-at {files} (j ∷ inputs) (c ∷ bs) {i} {b} {d} can found there begun =
    let items : i ≡ j = cc in
    let beginnings : b ≡ c = cc in
    begun-decides files can
    (subst (λ (u : InputFields). HasBegunSplice u.survey c d) items
    (subst (λ (e : Beginning). HasBegunSplice i.survey e d) beginnings begun))

-- ---- all inputs

moved-length : (needs others : List Need) → AreMovedNeeds needs others
    → length needs ≡ length others
moved-length [] [] are = refl
moved-length (n ∷ needs) (m ∷ others) are = ap suc (moved-length needs others are.1)
moved-length _ _ are = absurd are

rows-most : (inputs : List InputFields) (froms : List ℕ)
    → length (needs_of_parts (rest_rows (from_places inputs froms))) ≤ frames_together inputs
unfolding needs_of_parts frames_together
rows-most [] [] = omega arith
rows-most [] (n ∷ froms) = omega arith
rows-most (i ∷ inputs) [] = omega arith
rows-most (i ∷ inputs) (n ∷ froms) =
    let s = i.survey in
    let own = map need_of (slice_range s.frames n (length s.frames)) in
    omega (
      arith,
      length-append own (needs_of_parts (rest_rows (from_places inputs froms))),
      rows-most inputs froms,
      ap length (range-behind s n),
      length-drop n (input_needs s),
      length-map s.frames need_of,
    )

rows-drop : (i : InputFields) (inputs : List InputFields) {front : ℕ} (froms : List ℕ)
    → front ≤ length i.survey.frames
    → drop front (needs_of_parts (rest_rows (from_places (i ∷ inputs) (0 ∷ froms))))
    ≡ needs_of_parts (rest_rows (from_places (i ∷ inputs) (front ∷ froms)))
unfolding needs_of_parts
rows-drop i inputs {front} froms within =
    let s = i.survey in
    let rest = needs_of_parts (rest_rows (from_places inputs froms)) in
    ap (λ (l : List Need). drop front (l ++ rest)) (range-behind s 0)
    ∙ drop-append-le front (input_needs s) rest (omega (arith, within, length-map s.frames need_of))
    ∙ ap (λ (l : List Need). l ++ rest) (sym (range-behind s front))

broughts-few : (f : Contents) (inputs : List InputFields) (bs : List Beginning)
    → length (broughts_in f inputs bs) ≤ length inputs
broughts-few f [] bs = omega arith
broughts-few f (i ∷ inputs) [] = omega arith
broughts-few f (i ∷ inputs) (b ∷ bs) = omega (arith, broughts-few f inputs bs)

-- how many frames are left out at the front of the splice, fewer than the first input has
pub record IsFront (s : SurveyFields) (b : Beginning) (needs : List Need) (front : ℕ) : Type 0 where
  pub is : (first : Brought) (frames : List SpliceFrame) → BringsNeeds s b first
      → needs ≡ needs_of frames → front ≡ front_left_out_count s.class first frames
  pub behind : front < length s.frames

module _ {files : Files} {i : InputFields} {inputs : List InputFields}
    {b : Beginning} {bs : List Beginning} {d : Deciding}
    (can : CanBeDecided files (i ∷ inputs) (b ∷ bs))
    (is : IsDecidingTo files (i ∷ inputs) (b ∷ bs) (length (i ∷ inputs)) d) where
  abbrev own : SurveyFields
  own = i.survey

  same-class : is.class ≡ own.class
  same-class = let first = is.class_is in cc

  all-fit : FitsBehind (window_of is.class.version) (window_of is.class.version) d.needs.items
  all-fit = grind (arith, leaves-fit)

  all-moved : AreMovedNeeds
      d.needs.items
      (needs_of_parts (rest_rows (from_places (i ∷ inputs) (0 ∷ left_out_counts d.joints.items))))
  all-moved = grind (arith, take_all)

  all-within : AreFromsWithin (from_places (i ∷ inputs) (0 ∷ left_out_counts d.joints.items))
  all-within = grind (arith, take_all)

  -- the needs of the splice are of the class
  pub front-same : AreNeedsOfClass own.class d.needs.items
  front-same = subst (λ (c : ClassFields). AreNeedsOfClass c d.needs.items) same-class is.same

  -- the needs of the splice fit after a whole window
  pub front-fits : FitsBehind (window_of own.class.version)
      (window_of own.class.version) d.needs.items
  front-fits = grind (arith, same-class, all-fit)

  -- the first needs of the splice are the needs of the first input
  pub front-first : take (length own.frames) d.needs.items ≡ input_needs own
  front-first = is.begins i refl

  module _ {front : ℕ} (known : IsFront own b d.needs.items front) where
    abbrev decided : Decided
    decided = record { front = front; joints = d.joints; needs = d.needs }

    spliceable : IsSpliceable (i ∷ inputs) decided
    spliceable = record {
      class = is.class;
      class_is = is.class_is;
      many = is.many;
      within = (omega (arith, known.behind), all-within.1);
      behind = grind arith;
      some = omega (
        arith,
        known.behind,
        ap length front-first,
        length-take (length own.frames) d.needs.items,
        length-map own.frames need_of,
      );
      few = omega (
        arith,
        moved-length d.needs.items
            (needs_of_parts
            (rest_rows (from_places (i ∷ inputs) (0 ∷ left_out_counts d.joints.items)))) all-moved,
        rows-most (i ∷ inputs) (0 ∷ left_out_counts d.joints.items),
        can.joined.frames,
      );
      same = class-drop is.class d.needs.items front is.same;
      fits = grind (arith, fits-drop, all-fit);
      moved = subst (AreMovedNeeds (drop front d.needs.items))
          (rows-drop i inputs (left_out_counts d.joints.items) (omega (arith, known.behind)))
          (moved-drop front d.needs.items
          (needs_of_parts
          (rest_rows (from_places (i ∷ inputs) (0 ∷ left_out_counts d.joints.items)))) all-moved);
    }

    joined-of : (f : Contents) {all : List Brought} {lists : List (List SpliceFrame)}
        → all ≡ brought_of f i b ∷ drop 1 all
        → IsDecidedTo is.class all lists is.frames is.places is.before d.joints.items
        → IsJoinedOf is.class all decided
    unfolding seamless_join
    joined-of f begins told = grind (arith, brings-told, same-class)

all-told : {f : Contents} {i : InputFields} {inputs : List InputFields}
    {b : Beginning} {bs : List Beginning} {d : Deciding}
    → (can : CanBeDecided (Told f) (i ∷ inputs) (b ∷ bs))
    (is : IsDecidingTo (Told f) (i ∷ inputs) (b ∷ bs) (length (i ∷ inputs)) d) {front : ℕ}
    → IsFront i.survey b d.needs.items front
    → IsJoinedOf is.class (broughts_in f (i ∷ inputs) (b ∷ bs))
    (record { front = front; joints = d.joints; needs = d.needs })
all-told {f} {i} {inputs} {b} {bs} {d} can is {front} known =
    let all = broughts_in f (i ∷ inputs) (b ∷ bs) in
    joined-of can is known f refl
    (subst (λ (l : List Brought). IsDecidedTo is.class l
    (all_splice_frames f (i ∷ inputs)) is.frames is.places is.before d.joints.items)
    (take_all (length (i ∷ inputs)) all (broughts-few f (i ∷ inputs) (b ∷ bs))) is.told)

-- all inputs are decided
pub all-decided : (files : Files) (i : InputFields) (inputs : List InputFields)
    (b : Beginning) (bs : List Beginning) (d : Deciding)
    → CanBeDecided files (i ∷ inputs) (b ∷ bs)
    → IsDecidingTo files (i ∷ inputs) (b ∷ bs) (length (i ∷ inputs)) d → (front : ℕ)
    → IsFront i.survey b d.needs.items front → IsSpliceDecided files (i ∷ inputs) (b ∷ bs)
    (record { front = front; joints = d.joints; needs = d.needs })
unfolding spliceable
all-decided (Untold touched) i inputs b bs d can is front known =
    record { splice = spliceable can is known; told = tt }
all-decided (Told f) i inputs b bs d can is front known = record {
  splice = spliceable can is known;
  told = all-told can is known;
}

-- what is known when all inputs are decided: the needs of the splice are of the first input's class
-- and fit after a whole window, those of the first input come first, and the front decides the join
pub record AreAllDecided (files : Files) (inputs : List InputFields)
    (bs : List Beginning) (s : SurveyFields) (b : Beginning) (d : Deciding) : Type 0 where
  pub same : AreNeedsOfClass s.class d.needs.items
  pub fits : FitsBehind (window_of s.class.version) (window_of s.class.version) d.needs.items
  pub first : take (length s.frames) d.needs.items ≡ input_needs s
  pub joined : (front : ℕ) → IsFront s b d.needs.items front → IsSpliceDecided files inputs bs
      (record { front = front; joints = d.joints; needs = d.needs })

-- all inputs are decided, the first of which is given by its place
pub at-end : (files : Files) {i : InputFields} {b : Beginning}
    {rest : List InputFields} (d : Deciding) (inputs : List InputFields) (bs : List Beginning)
    → CanBeDecided files inputs bs → drop 0 inputs ≡ i ∷ rest → slice_get bs 0 ≡ Some b
    → (count : ℕ) → count ≡ length inputs → IsDecidingTo files inputs bs count d
    → AreAllDecided files inputs bs i.survey b d
at-end files d [] bs can e there count all is = absurd cc
at-end files d (j ∷ inputs) [] can e there count all is = absurd cc
at-end files {i} {b} d (j ∷ inputs) (c ∷ bs) can e there count all is =
    let items : j ≡ i = cc in
    let beginnings : c ≡ b = cc in
    let now : IsDecidingTo files (j ∷ inputs) (c ∷ bs) (length (j ∷ inputs)) d =
    grind (arith, is) in
    subst (λ (u : InputFields). AreAllDecided files (j ∷ inputs) (c ∷ bs) u.survey b d) items
    (subst (λ (e : Beginning). AreAllDecided files (j ∷ inputs) (c ∷ bs) j.survey e d) beginnings
    (record {
      same = front-same can now;
      fits = front-fits can now;
      first = front-first can now;
      joined = all-decided files j inputs c bs d can now;
    }))

-- ---- the next input

alike-at : {class : ClassFields} (inputs : List InputFields) (n : ℕ) {i : InputFields}
    → AreInputsOfClass class inputs → slice_get inputs n ≡ Some i
    → (0 < length i.survey.frames) × IsSurveyLaidOut i.survey × (i.survey.class ≡ class)
alike-at [] n are found = absurd cc
alike-at (j ∷ inputs) zero are found = grind arith
alike-at {class} (j ∷ inputs) (suc n) {i} are found = alike-at inputs n are.3 found

fit-at : (inputs : List InputFields) (n : ℕ) {i : InputFields} → FitAlone inputs
    → slice_get inputs n ≡ Some i → FitsAlone i.survey
fit-at [] n are found = absurd cc
fit-at (j ∷ inputs) zero are found = grind arith
fit-at (j ∷ inputs) (suc n) {i} are found = fit-at inputs n are.1 found

frames-at : (inputs : List InputFields) (n : ℕ) {i : InputFields} → slice_get inputs n ≡ Some i
    → length i.survey.frames ≤ frames_together inputs
unfolding frames_together
frames-at [] n found = absurd cc
frames-at (j ∷ inputs) zero found = grind arith
frames-at (j ∷ inputs) (suc n) {i} found = omega (arith, frames-at inputs n found)

-- an input has no more frames than a join may have
pub input-few : {files : Files} {inputs : List InputFields} {bs : List Beginning} (n : ℕ)
    {i : InputFields} → CanBeDecided files inputs bs → slice_get inputs n ≡ Some i
    → length (input_needs i.survey) ≤ most_frames
input-few n can found = grind (arith, frames-at, length-map)

module _ {files : Files} {inputs : List InputFields} {bs : List Beginning}
    {number : ℕ} {d : Deciding} (can : CanBeDecided files inputs bs)
    (is : IsDecidingTo files inputs bs number d) {i : InputFields}
    (found : slice_get inputs number ≡ Some i) {b : Beginning}
    (begun : slice_get bs number ≡ Some b) (input : Input)
    (needs : input.needs.now ≡ input_needs i.survey) (blank : input.blank ≡ b.blank)
    (played : input.played
    ≡ counted_positions b.head i.survey.class (length i.survey.frames))
    (counted : IfSome input.played (AreCounted i.survey.class (length i.survey.frames))) where
  abbrev next : SurveyFields
  next = i.survey

  known : (0 < length next.frames) × IsSurveyLaidOut next × (next.class ≡ can.joined.class)
  known = alike-at inputs number can.joined.alike found

  class-here : next.class ≡ is.class
  class-here = grind (arith, can.joined.class, is.class, can.joined.first, is.class_is, known.2)

  splice-class : next.class ≡ d.splice.class
  splice-class = class-here ∙ sym is.is_splice.of_class

  long : length input.needs.now ≡ length next.frames
  long = ap length needs ∙ length-map next.frames need_of

  can-join-own : IsJoinableInput next.class input
  can-join-own = record {
    some = omega (arith, known.0, long);
    few = omega (arith, long, frames-at inputs number found, can.joined.frames);
    same = subst (AreNeedsOfClass next.class) (sym needs) (needs-class known.1);
    fits = grind (arith, fit-at);
    counted = subst (λ n. IfSome input.played (AreCounted next.class n)) (sym long) counted;
  }

  -- the input can join the splice
  pub can-join : IsJoinableInput d.splice.class input
  can-join = subst (λ (c : ClassFields). IsJoinableInput c input) splice-class can-join-own

  -- the input is the next of the splice
  pub is-next : IsNextInput inputs number d.splice input
  is-next = grind (arith, can-join)

  -- this is the input with this number, and it begins as that one does
  pub input-of : IsInputOf inputs bs number is.class input
  input-of = record {
    item = i;
    found = found;
    beginning = b;
    begun = begun;
    needs = needs;
    blank = blank;
    played = played;
    same =
        subst (λ (c : ClassFields). AreNeedsOfClass c input.needs.now) class-here can-join-own.same;
  }

-- all inputs are of one class
pub all-of-one : {inputs : List InputFields} → CanInputsBeJoined inputs → AreOfOneClass inputs
all-of-one {inputs} can = (can.class, each can.class inputs can.alike)
  where
    each : (class : ClassFields) (inputs : List InputFields) → AreInputsOfClass class inputs
        → All (λ (i : InputFields). i.survey.class ≡ class) inputs
    each class [] are = All-nil (λ (i : InputFields). i.survey.class ≡ class)
    each class (i ∷ inputs) are =
        All-cons (λ (j : InputFields). j.survey.class ≡ class) i inputs are.2
        (each class inputs are.3)

-- there is an item at each place less than the length
pub get-here : {X : Type 0} (xs : List X) (n : ℕ) (d : X) → n < length xs
    → slice_get xs n ≡ Some (get_or xs n d)
get-here [] n d within = absurd (omega (arith, within))
get-here (x ∷ xs) zero d within = refl
get-here (x ∷ xs) (suc n) d within = get-here xs n d (omega (arith, within))

-- What is left out of an input that doesn't follow the one before it is empty.
use Rattle.std.proofs.Common.{ap, arith, Bool, drop, inl, inr, length, List, map, None, Option}
use Rattle.std.proofs.Common.{refl, Some, subst, suc, sym, take, true, zero, ℕ, [], ◌++◌, ◌+◌, ◌<◌}
use Rattle.std.proofs.{Common.{◌∙◌, ◌∷◌, ◌≡◌}, lemmas.Bool.{and_parts, cases_lt}}
use Rattle.std.proofs.lemmas.List.{length-map, length-take-le, take-append-drop}
use Rattle.std.{proofs.lemmas.Option.slice_get-map, specs.{List.enumerate_from, Option.option_or}}
use Rattle.std.specs.Prelude.{option_and_then, option_map, slice_get, unwrap_or}
use Rattle.chosen_streams.proofs.CaseLemmas.{stream-is}
use Rattle.cut_edits.specs.Exact.{survey_without_head}
use Rattle.exact_span.specs.declared.overlap.Overlap.{Overlap}
use Rattle.frame_header.proofs.HeaderLemmas.{IsClass-class_of}
use Rattle.frame_header.specs.{Fields.{ClassFields, HeaderFields, IsClass}, Tables.window_of}
use Rattle.laying.specs.Relaid.{FilePart, part_stream}
use Rattle.seam_laws.proofs.FollowerLemmas.{followers-on}
use Rattle.seam_laws.proofs.SeamlessFrontLemmas.{begins-first, empty-frame, no-parts, none-zero}
use Rattle.seam_laws.proofs.SeamlessFrontLemmas.{silent_frame, whole-first, zero-side}
use Rattle.seam_laws.proofs.SeamlessInputLemmas.{brought-many, inputs-are, IsInput, Joins}
use Rattle.seam_laws.proofs.SeamlessInputLemmas.{stream-from, stream-many, whole_stream}
use Rattle.seam_laws.proofs.SeamlessPlaceLemmas.{input-at}
use Rattle.seam_laws.proofs.SeamlessSpliceLemmas.{front-few, front-parts, joints-are}
use Rattle.seam_laws.specs.JoinLaws.{IsEmptyFront, IsInputWritten, LeftOutIsEmpty, MayBeLeftOut}
use Rattle.seam_laws.specs.{JoinLaws.seam_at, SpliceLaws.{InputGoesOn, splice_after}}
use Rattle.seam_plan.proofs.SeamLemmas.{follow-is, follows_with, IfWithout, without-led}
use Rattle.seam_plan.specs.{Decisions.alike_overlap, Frames.{Brought, needs_of, SpliceFrame}}
use Rattle.seam_plan.specs.Joins.{has_lead_in, joining_frames, leads_others}
use Rattle.seam_plan.specs.Seams.{following_joint, joint_of, joint_with, joint_without_lead_in}
use Rattle.seam_plan.specs.Seams.{JointFrames, joints_from, joints_of, left_out_count, SeamlessJoin}
use Rattle.seam_plan.specs.{Seams.whole_joint, declared.seam.Seam.Seam}
use Rattle.seam_plan.specs.declared.seam.Seam.TheVariants.{Follows, LeadIn, Whole}
use Rattle.seamless_edits.proofs.FramePlaceLemmas.{get-some, get-within}
use Rattle.seamless_edits.specs.Seamless.{begins_blank, join_of_parts, later_parts, part_brought}
use Rattle.seamless_edits.specs.Seamless.{part_from}
use Rattle.side_info.specs.Side.{no_side}
use Rattle.sync_survey.specs.Faults.{stream_of, stream_of_survey, SurveyFields}
use Rattle.sync_survey.specs.HeadApart.{apart_row, apart_rows, emptied_row, rows_set_apart}
use Rattle.sync_survey.specs.MainData.{granule_lengths, main_bytes, no_slot, row_side, stream_frame}
use Rattle.sync_survey.specs.{MainData.{stream_frames, StreamFrame}, Row.Row}
use Rattle.sync_survey.specs.declared.places.Head.{Head}

-- ---- an input that begins blank

-- the stream of a survey begins with the frame of its first row
stream-first : (file : List ℕ) (s : SurveyFields) {r : Row} {rows : List Row}
    → s.frames ≡ r ∷ rows
    → (more : List StreamFrame) × (stream_of_survey file s
    ≡ stream_frame (main_bytes file s.head s.frames) s.head s.frames 0 r ∷ more)
unfolding stream_of_survey stream_frames
stream-first file s {rows = rows} are =
    let frame : ℕ × Row → StreamFrame =
    λ p. stream_frame (main_bytes file s.head s.frames) s.head s.frames p.0 p.1 in (
      map frame (enumerate_from (0 + 1) rows),
      ap (λ l. map frame (enumerate_from 0 l)) are,
    )

own-none : (r : Row) {lost : Bool} → r.lost ≡ lost → r.side ≡ no_side → row_side r ≡ no_side
own-none r is none = grind arith

emptied-none : (r : Row) {lost : Bool} → r.lost ≡ lost → r.side ≡ no_side
    → (row_side (emptied_row r) ≡ no_side) × ((emptied_row r).header ≡ r.header)
emptied-none r is none = grind arith

-- a first frame with nothing in its side information has nothing in it when the head is set apart
apart-first : (head : Option Head) (q : Row) (rows : List Row) → q.side ≡ no_side
    → (r : Row) × (more : List Row) × (map emptied_row (rows_set_apart head (q ∷ rows)) ≡ r ∷ more)
    × (row_side r ≡ no_side) × (r.header ≡ q.header)
unfolding apart_rows
apart-first None q rows none =
    let is = emptied-none q refl none in
    (emptied_row q, map emptied_row rows, refl, is.0, is.1)
apart-first (Some head) q rows none =
    let r = apart_row (q ∷ rows) 0 q in
    let is = emptied-none r refl none in
    (emptied_row r, map emptied_row (drop 1 (apart_rows (q ∷ rows))), refl, is.0, is.1)

-- of a survey whose first frame has nothing in its side information the stream begins with a
-- silent frame
silent-first : (file : List ℕ) (s : SurveyFields) {r : Row} {rows : List Row} {h : HeaderFields}
    → s.frames ≡ r ∷ rows → row_side r ≡ no_side → r.header ≡ h
    → (more : List StreamFrame)
    × (stream_of_survey file s ≡ silent_frame (record h { slot = no_slot }) ∷ more)
silent-first file s {r} {rows} are none same =
    let begins = stream-first file s are in (
      begins.0,
      begins.1
          ∙ ap (λ f. f ∷ begins.0)
          (empty-frame (main_bytes file s.head s.frames) s.head s.frames 0 r none
          ∙ ap (λ g. silent_frame (record g { slot = no_slot })) same),
    )

module _ {c : ClassFields} {p : FilePart} (is : IsInput c p)
    (blank : begins_blank p.survey.frames ≡ true) where
  begin : (q : Row) × (rows : List Row) × (p.survey.frames ≡ q ∷ rows)
  begin = at p.survey.frames is.some
    where
      at : (rows : List Row) → 0 < length rows → (q : Row) × (more : List Row) × (rows ≡ q ∷ more)
      at [] some = absurd (omega (arith, some))
      at (q ∷ rows) some = (q, rows, refl)

  abbrev q : Row
  q = begin.0

  found : slice_get p.survey.frames 0 ≡ Some q
  found = ap (λ l. slice_get l 0) begin.2

  known : IsClass c
  known =
      let placed = is.has.placed 0 q found in
      subst IsClass (placed.class_is ∙ is.of_class) (IsClass-class_of placed.known)

  none : q.side ≡ no_side
  none =
      let placed = is.has.placed 0 q found in
      let pairs = (whole-first p.survey.frames is.has.rows found).pairs in
      grind (
        arith,
        zero-side,
        q.header,
        q.side,
        IsClass-class_of,
        placed.known,
        pairs,
        placed.class_is,
        placed.fits,
        begins-first,
        p.survey.frames,
      )

  abbrev front : StreamFrame
  front = silent_frame (record q.header { slot = no_slot })

  own-first : (more : List StreamFrame) × (stream_of p.file ≡ front ∷ more)
  own-first =
      let own =
      silent-first p.file p.survey begin.2 (own-none q refl none) refl in
      (own.0, stream-is p.file is.allowed is.surveyed ∙ own.1)

  apart-front : (more : List StreamFrame) × (whole_stream is ≡ front ∷ more)
  apart-front =
      let apart = apart-first p.survey.head q begin.1 none in
      silent-first p.file (survey_without_head p.survey)
      (ap (λ l. map emptied_row (rows_set_apart p.survey.head l)) begin.2 ∙ apart.2)
      apart.3 apart.4

  -- its first frame is empty
  pub empty-front : IsEmptyFront c p.file (take 1 (whole_stream is))
  empty-front = record {
    frame = front;
    one = ap (take 1) apart-front.1;
    first = ap (λ l. slice_get l 0) own-first.1;
    side = none-zero c known;
    main = no-parts (granule_lengths (record q.header { slot = no_slot }) no_side);
  }

-- ---- what becomes of an input

-- the joint, if there is one, is of an input that follows
abbrev IfFollows : Option JointFrames → Type 0
IfFollows None = Unit {0}
IfFollows (Some joint) = (out : ℕ) × (joint.seam ≡ Follows out)

map-follows : (out : ℕ) (o : Option (List SpliceFrame))
    → IfFollows (option_map (joint_with (Follows out)) o)
map-follows out None = tt
map-follows out (Some frames) = (out, refl)

then-follows : (class : ClassFields) (splice : List SpliceFrame) (input : Brought)
    (o : Option Overlap) → IfFollows (option_and_then (follows_with class splice input) o)
then-follows class splice input None = tt
then-follows class splice input (Some overlap) =
    map-follows overlap.frames
    (joining_frames (window_of class.version) splice (drop overlap.frames input.frames))

-- an input that joins without its lead-in has one
joint-led : (class : ClassFields) (splice : List SpliceFrame) (before input : Brought)
    → (joint_of class splice before input).seam ≡ LeadIn
    → has_lead_in (window_of class.version) input ≡ true
joint-led class splice before input is =
    at (following_joint class splice before input)
    (subst IfFollows (sym (follow-is class splice before input))
    (then-follows class splice input (alike_overlap class splice before input)))
    (joint_without_lead_in class splice input) (without-led class splice input) is
  where
    at : (x : Option JointFrames) → IfFollows x
        → (y : Option JointFrames) → IfWithout (window_of class.version) input y
        → (unwrap_or (option_or x y) (whole_joint input)).seam ≡ LeadIn
        → has_lead_in (window_of class.version) input ≡ true
    at (Some joint) follows y without seam =
        let never = sym follows.1 ∙ seam in absurd cc
    at None follows (Some joint) without seam = without.1
    at None follows None without seam = absurd cc

joints-led : (class : ClassFields) (splice : List SpliceFrame) (before : Brought)
    (inputs : List Brought)
    (n : ℕ) {input : Brought} {joint : JointFrames} → slice_get inputs n ≡ Some input
    → slice_get (joints_from class splice before inputs) n ≡ Some joint → joint.seam ≡ LeadIn
    → has_lead_in (window_of class.version) input ≡ true
unfolding joints_from
joints-led class splice before [] n there found is = absurd cc
joints-led class splice before (i ∷ inputs) zero {input} {joint} there found is =
    let same : i ≡ input = cc in
    let here : joint_of class splice before i ≡ joint = cc in
    subst (λ b. has_lead_in (window_of class.version) b ≡ true) same
    (joint-led class splice before i (ap (λ (j : JointFrames). j.seam) here ∙ is))
joints-led class splice before (i ∷ inputs) (suc n) {input} {joint} there found is =
    let here = joint_of class splice before i in
    joints-led class (splice ++ here.frames) i inputs n there found is

-- something becomes of each input
joints-many : (class : ClassFields) (splice : List SpliceFrame) (before : Brought)
    (inputs : List Brought) → length (joints_from class splice before inputs) ≡ length inputs
unfolding joints_from
joints-many class splice before [] = refl
joints-many class splice before (i ∷ inputs) =
    grind (arith, joints-many class (splice ++ (joint_of class splice before i).frames) i inputs)

-- what becomes of the input at a place, and what is written of it
record IsLater (joints : List JointFrames) (parts : List FilePart) (n : ℕ) (p : FilePart) : Type 0
  where
    joint : JointFrames
    found : slice_get joints n ≡ Some joint
    written : slice_get (later_parts joints parts) n
        ≡ Some (part_from (left_out_count joint.seam) p)

later-at : (joints : List JointFrames) (parts : List FilePart) (n : ℕ) {p : FilePart}
    → length joints ≡ length parts → slice_get parts n ≡ Some p → IsLater joints parts n p
later-at joints [] n same is = absurd cc
later-at [] (q ∷ parts) n same is = absurd (omega (arith, same))
later-at (j ∷ joints) (q ∷ parts) zero {p} same is =
    let own : q ≡ p = cc in
    record {
      joint = j;
      found = refl;
      written = ap (λ r. Some (part_from (left_out_count j.seam) r)) own;
    }
later-at (j ∷ joints) (q ∷ parts) (suc n) {p} same is =
    let more = later-at joints parts n (omega (arith, same)) is in
    record { joint = more.joint; found = more.found; written = more.written }

later-many : (joints : List JointFrames) (parts : List FilePart) → length joints ≡ length parts
    → length (later_parts joints parts) ≡ length parts
later-many [] [] same = refl
later-many [] (p ∷ parts) same = absurd (omega (arith, same))
later-many (j ∷ joints) [] same = absurd (omega (arith, same))
later-many (j ∷ joints) (p ∷ parts) same =
    grind (arith, later-many joints parts (omega (arith, same)))

-- ---- the inputs of a join

module _ {first : FilePart} {parts : List FilePart}
    (are : Joins first.survey.class first parts) where
  abbrev c : ClassFields
  c = first.survey.class

  abbrev joined : SeamlessJoin
  joined = join_of_parts first parts

  abbrev begins : Brought
  begins = part_brought first

  abbrev others : List Brought
  others = map part_brought parts

  -- something becomes of each input after the first
  pub joints-count : length joined.joints ≡ length parts
  joints-count =
      ap length (joints-are are)
      ∙ joints-many c begins.frames begins others ∙ length-map parts part_brought

  -- an input without its first k frames, and these
  module _ {p : FilePart} (is : IsInput c p) (k : ℕ) where
    abbrev left : List StreamFrame
    left = take k (whole_stream is)

    both : stream_of_survey p.file (survey_without_head p.survey)
        ≡ left ++ part_stream (part_from k p)
    both =
        sym (take-append-drop k (whole_stream is))
        ∙ ap (left ++◌) (sym (stream-from is k))

  led-front : {p : FilePart} (is : IsInput c p)
      → has_lead_in (window_of c.version) (part_brought p) ≡ true
      → IsEmptyFront p.survey.class p.file (take 1 (whole_stream is))
  unfolding has_lead_in
  led-front {p} is has =
      let blank =
      (and_parts (part_brought p).blank
      (leads_others (window_of c.version) (needs_of (part_brought p).frames)) has).0 in
      subst (λ d. IsEmptyFront d p.file (take 1 (whole_stream is)))
      (sym is.of_class) (empty-front is blank)

  first-written : IsInputWritten first parts 0 first
  first-written =
      elim (cases_lt 0 joined.front) [
        | inl out ↦
            let one : joined.front ≡ 1 = omega (arith, out, front-few are) in
            record {
              part = part_from joined.front first;
              is = refl;
              left_out = left are.head joined.front;
              all = both are.head joined.front;
              may = inr
                  (subst (λ n. IsEmptyFront c first.file (take n (whole_stream are.head)))
                  (sym one) (led-front are.head (front-parts are out).0));
            }
        | inr none ↦
            let zero_is : joined.front ≡ 0 = omega (arith, none) in
            record {
              part = part_from joined.front first;
              is = refl;
              left_out = left are.head joined.front;
              all = both are.head joined.front;
              may = inl (ap (λ n. take n (whole_stream are.head)) zero_is);
            }
      ]

  module _ (n : ℕ) {p : FilePart} (found : slice_get parts n ≡ Some p) where
    is : IsInput c p
    is = input-at parts n are.others found

    later : IsLater joined.joints parts n p
    later = later-at joined.joints parts n joints-count found

    joint_is : slice_get (joints_of c begins others) n ≡ Some later.joint
    joint_is =
        ap (λ js. slice_get js n) (sym (joints-are are))
        ∙ later.found

    brought_is : slice_get others n ≡ Some (part_brought p)
    brought_is = slice_get-map part_brought parts n ∙ ap (option_map part_brought) found

    before : (q : FilePart) × (slice_get (first ∷ parts) n ≡ Some q)
    before = get-some (first ∷ parts) n (omega (arith, get-within parts n found))

    -- an input that follows continues where the one before it ends
    follower : {out : ℕ} → later.joint.seam ≡ Follows out
        → InputGoesOn c (part_brought before.0) (part_brought p)
        (splice_after begins (joints_of c begins others) n)
        (splice_after begins (joints_of c begins others) (n + 1)) out
    follower {out} seam =
        followers-on c begins others n (part_brought before.0) (part_brought p) later.joint out
        (slice_get-map part_brought (first ∷ parts) n ∙ ap (option_map part_brought) before.1)
        brought_is joint_is seam

    -- as many frames are left out as the seam says
    follows-out : {out : ℕ} → later.joint.seam ≡ Follows out
        → length (take out (whole_stream is)) ≡ out
    follows-out {out} seam =
        length-take-le out (whole_stream is)
        (omega (arith, (follower seam).has, brought-many is, stream-many is))

    -- the input with this number, if its seam says that it follows
    pub follower-at : {out : ℕ} → seam_at joined.joints (suc n) ≡ Some (Follows out)
        → (q : Brought) × InputGoesOn c q (part_brought p)
        (splice_after begins (joints_of c begins others) n)
        (splice_after begins (joints_of c begins others) (n + 1)) out
    follower-at {out} seam =
        let own = sym (ap (option_map (λ (j : JointFrames). j.seam)) later.found) ∙ seam in
        (part_brought before.0, follower cc)

    may : (seam : Seam) → later.joint.seam ≡ seam
        → MayBeLeftOut (Some seam) p.survey.class p.file
        (take (left_out_count seam) (whole_stream is))
    may Whole seam = refl
    may LeadIn seam =
        led-front is
        (joints-led c begins.frames begins others n brought_is joint_is
        seam)
    may (Follows out) seam = follows-out seam

    later-written : IsInputWritten first parts (suc n) p
    later-written = record {
      part = part_from (left_out_count later.joint.seam) p;
      is = later.written;
      left_out = left is (left_out_count later.joint.seam);
      all = both is (left_out_count later.joint.seam);
      may = subst (λ o. MayBeLeftOut o p.survey.class p.file
          (left is (left_out_count later.joint.seam)))
          (sym (ap (option_map (λ (j : JointFrames). j.seam)) later.found))
          (may later.joint.seam refl);
    }

  -- each input is written, but for what may be left out of it
  pub written-at : (number : ℕ) {input : FilePart} → slice_get (first ∷ parts) number ≡ Some input
      → IsInputWritten first parts number input
  written-at zero {input} found =
      let same : first ≡ input = cc in
      subst (IsInputWritten first parts 0) same first-written
  written-at (suc n) {input} found = later-written n found

-- what is left out of an input that doesn't follow is empty
pub left-out-empty : LeftOutIsEmpty
left-out-empty files inputs first parts taken =
    let are = inputs-are files inputs taken in
    record {
      inputs = written-at are;
      many = grind (
        arith,
        later-many (join_of_parts first parts).joints parts
            (joints-count are),
      );
    }

-- Where the samples of an input that follows the one before it are in the joined file.
use Rattle.std.proofs.Common.{ap, append_assoc, ap₂, arith, drop, inl, inr, length, List, map, None}
use Rattle.std.proofs.Common.{Option, refl, Some, subst, suc, sym, take, zero, ℕ, [], ◌%◌, ◌*◌}
use Rattle.std.proofs.{Common.{◌++◌, ◌+◌, ◌-◌, ◌/◌, ◌<◌, ◌∙◌, ◌∷◌, ◌≡◌, ◌≤◌}, lemmas.Bool.cases_lt}
use Rattle.std.proofs.lemmas.{List.{take-append-drop, Concat.flat_map-append}, Option.slice_get-map}
use Rattle.std.specs.Prelude.{option_map, slice_get}
use Rattle.exact_span.specs.PlayedPositions.{rest_of, samples_in}
use Rattle.frame_header.specs.{Fields.ClassFields, Tables.samples_of}
use Rattle.frame_header.specs.declared.version.Version.{Version, TheVariants.One}
use Rattle.laying.specs.Relaid.{FilePart, part_stream, silent_lead_in}
use Rattle.seam_laws.proofs.FollowerLemmas.{followers-on, get-drop}
use Rattle.seam_laws.proofs.SeamlessFrontLemmas.{front-alike}
use Rattle.seam_laws.proofs.SeamlessInputLemmas.{AreInputs, brought-many, brought-sounds}
use Rattle.seam_laws.proofs.SeamlessInputLemmas.{inputs-are, IsInput, Joins, played-end}
use Rattle.seam_laws.proofs.SeamlessInputLemmas.{stream-whole}
use Rattle.seam_laws.proofs.SeamlessSpliceLemmas.{all, brought, front-few, front-parts, joined}
use Rattle.seam_laws.proofs.SeamlessSpliceLemmas.{joints-are, leads-many, others, seamless-is}
use Rattle.seam_laws.proofs.SeamlessSpliceLemmas.{splice-is, splice-leads, stream, stream-sounds}
use Rattle.seam_laws.specs.SeamlessLaws.{ComesBehind, FollowingSamplesStay, IsPositionKept}
use Rattle.seam_laws.specs.{SeamlessLaws.splice_end, SpliceLaws.{InputGoesOn, splice_after}}
use Rattle.seam_plan.{proofs.FollowLemmas.{added, sounds}, specs.Frames.{Brought, SpliceFrame}}
use Rattle.seam_plan.specs.{Seams.{JointFrames, joints_of}, declared.seam.Seam.TheVariants.Follows}
use Rattle.seamless_edits.proofs.FramePlaceLemmas.{get-some}
use Rattle.seamless_edits.specs.Seamless.{join_of_parts, part_brought, part_without_head}
use Rattle.seamless_edits.specs.Seamless.{seamless_stream, sound_of, splice_lead_ins}
use Rattle.sync_survey.specs.MainData.{StreamFrame}

-- ---- lists

get-front : {X : Type 0} (xs ys : List X) (i : ℕ) {x : X} → slice_get xs i ≡ Some x
    → slice_get (xs ++ ys) i ≡ Some x
get-front [] ys i is = absurd cc
get-front (z ∷ xs) ys zero is = is
get-front (z ∷ xs) ys (suc i) {x} is = get-front xs ys i is

get-behind : {X : Type 0} (xs ys : List X) (i : ℕ)
    → slice_get (xs ++ ys) (length xs + i) ≡ slice_get ys i
get-behind [] ys i = let none : 0 + i ≡ i = omega arith in ap (slice_get ys) none
get-behind (x ∷ xs) ys i = grind (arith, get-behind xs ys i)

-- a frame of a stream by its sound
record HasSound (class : ClassFields) (stream : List StreamFrame) (i : ℕ) (sound : List ℕ) : Type 0
  where
    frame : StreamFrame
    found : slice_get stream i ≡ Some frame
    is : sound_of class frame ≡ sound

has-sound : {class : ClassFields} (stream : List StreamFrame) (i : ℕ) {sound : List ℕ}
    → slice_get (map (sound_of class) stream) i ≡ Some sound
    → HasSound class stream i sound
has-sound {class} stream i {sound} is =
    at (slice_get stream i) refl (sym (slice_get-map (sound_of class) stream i) ∙ is)
  where
    at : (o : Option StreamFrame) → slice_get stream i ≡ o
        → option_map (sound_of class) o ≡ Some sound → HasSound class stream i sound
    at None found none = absurd cc
    at (Some f) found some = record { frame = f; found = found; is = cc }

sound-at : (frames : List SpliceFrame) (i : ℕ) {f : SpliceFrame} → slice_get frames i ≡ Some f
    → slice_get (sounds frames) i ≡ Some f.sound
sound-at frames i is = grind (arith, slice_get-map, is)

-- ---- positions

-- position x of a file of n frames, and its place in another file: as far from the end of `ends`
-- frames after `leads` others, with `front` frames taken away
record IsPlaced (v : Version) (x n front leads ends : ℕ) : Type 0 where
  place : ℕ
  frame : ℕ
  at : place + (n + front) * samples_of v ≡ x + (leads + ends) * samples_of v
  frame_is : frame + (n + front) ≡ x / samples_of v + (leads + ends)
  in_frame : place / samples_of v ≡ frame
  offset : place % samples_of v ≡ x % samples_of v

placed-by : (v : Version) {x n front leads ends : ℕ} → n + front ≤ x / samples_of v + (leads + ends)
    → IsPlaced v x n front leads ends
placed-by One {x} {n} {front} {leads} {ends} enough = record {
  place = (x / 1152 + (leads + ends) - (n + front)) * 1152 + x % 1152;
  frame = x / 1152 + (leads + ends) - (n + front);
  at = omega (arith, enough);
  frame_is = omega (arith, enough);
  in_frame = omega arith;
  offset = omega arith;
}
placed-by _ {x} {n} {front} {leads} {ends} enough = record {
  place = (x / 576 + (leads + ends) - (n + front)) * 576 + x % 576;
  frame = x / 576 + (leads + ends) - (n + front);
  at = omega (arith, enough);
  frame_is = omega (arith, enough);
  in_frame = omega arith;
  offset = omega arith;
}

-- The first played position of a file of n frames has this place. The positions before it and those
-- behind the end of what a file of m frames plays are `out` whole frames, which both files share.
record IsNext (v : Version) (place start end n m front leads old new out : ℕ) : Type 0 where
  at : place + (n + front) * samples_of v ≡ start + (leads + new) * samples_of v
  meets : start + (m * samples_of v - end) ≡ out * samples_of v
  within : end ≤ m * samples_of v
  longer : new + out ≡ old + n

-- the positions of the next file begin where the positions of one file end
meets-at : {v : Version} {place start end n m front leads old new out : ℕ}
    → IsNext v place start end n m front leads old new out
    → place + (m + front) * samples_of v ≡ end + (leads + old) * samples_of v
meets-at next =
    let at = next.at in
    let meets = next.meets in
    let within = next.within in
    let longer = next.longer in
    grind arith

later-frame : (v : Version) {x y : ℕ} → x ≤ y → x / samples_of v ≤ y / samples_of v
later-frame v less = grind arith

within-frames : (v : Version) {x end n : ℕ} → x < end → end ≤ n * samples_of v
    → x / samples_of v < n
within-frames v before most = grind arith

-- ---- the frames of the splice in the joined file

-- each of the parts of inputs is an input
pub input-at : {class : ClassFields} (parts : List FilePart) (i : ℕ) {p : FilePart}
    → AreInputs class parts → slice_get parts i ≡ Some p → IsInput class p
input-at [] i are is = absurd cc
input-at {class} (q ∷ parts) zero {p} are is = let same : q ≡ p = cc in
    subst (IsInput class) same are.0
input-at {class} (q ∷ parts) (suc i) {p} are is = input-at parts i are.1 is

-- An input of a join follows the one before it, at this joint: it leaves out `out` frames, which
-- both share.
record IsFollower (first : FilePart) (parts : List FilePart) (number out : ℕ)
    (before input : FilePart) (joint : JointFrames) : Type 0 where
  before_at : slice_get (first ∷ parts) number ≡ Some before
  own_at : slice_get parts number ≡ Some input
  joint_at : slice_get (join_of_parts first parts).joints number ≡ Some joint
  seam : joint.seam ≡ Follows out

module _ {first : FilePart} {parts : List FilePart}
    (are : Joins first.survey.class first parts)
  where
    abbrev c : ClassFields
    c = first.survey.class

    abbrev front : ℕ
    front = (joined are).front

    abbrev whole : List SpliceFrame
    whole = all are

    abbrev heard : List StreamFrame
    heard = stream are

    abbrev leads : List StreamFrame
    leads = (splice-leads are).leads

    stays-by : {j : ℕ} (i : ℕ) {g : SpliceFrame} → slice_get whole j ≡ Some g → j ≡ front + i
        → HasSound c (leads ++ heard) (length leads + i) g.sound
    stays-by i {g} found is =
        let there = ap (λ l. slice_get (sounds l) i) (splice-is are)
        ∙ sound-at (drop front whole) i (get-drop front whole i ∙ ap (slice_get whole) (sym is)
        ∙ found) in
        let own =
        has-sound heard i
        (ap (λ l. slice_get l i) (stream-sounds are) ∙ there) in
        record { frame = own.frame; found = get-behind leads heard i ∙ own.found; is = own.is }

    -- the first frame, where it leaves the splice
    leaves-by : {g : SpliceFrame} → slice_get whole 0 ≡ Some g → 0 < front
        → HasSound c (leads ++ heard) 0 g.sound × (length leads ≡ 1)
    leaves-by {g} found out =
        let led = (splice-leads are).led (front-parts are out).1 in
        let f = led.0 in (
          record {
            frame = silent_lead_in f;
            found = ap (λ l. slice_get (l ++ heard) 0) led.3;
            is = front-alike are out found led.2;
          },
          ap length led.3,
        )

    -- where a frame leaves the splice, the splice gets a lead-in
    pub leads-enough : front ≤ length leads
    leads-enough = grind (arith, cases_lt, splice-leads, front-parts, front-few)

    splice-stays : (j : ℕ) {place : ℕ} {g : SpliceFrame} → slice_get whole j ≡ Some g
        → place + front ≡ length leads + j → HasSound c (leads ++ heard) place g.sound
    splice-stays j {place} {g} found is =
        elim (cases_lt j front) [
          | inl early ↦
              let none : j ≡ 0 = omega (arith, early, front-few are) in
              let left =
              leaves-by (subst (λ n. slice_get whole n ≡ Some g) none found)
              (omega (arith, early)) in
              let here : 0 ≡ place =
              omega (arith, early, is, none, left.1, front-few are) in
              subst (λ n. HasSound c (leads ++ heard) n g.sound) here left.0
          | inr late ↦
              let i = j - front in
              let here : length leads + i ≡ place = omega (arith, late, is) in
              subst (λ n. HasSound c (leads ++ heard) n g.sound) here
              (stays-by i found (omega (arith, late)))
        ]

    -- ---- an input that follows

    abbrev begin : Brought
    begin = brought are

    abbrev more : List Brought
    more = others are

    -- the splice after some inputs is the front of the whole splice
    whole-parts : (number : ℕ)
        → splice_after begin (joints_of c begin more) number ++ added
        (drop number (joints_of c begin more)) ≡ whole
    whole-parts number =
        let joints = joints_of c begin more in
        append_assoc begin.frames (added (take number joints)) (added (drop number joints))
        ∙ ap (begin.frames ++◌)
        (sym (flat_map-append (λ (j : JointFrames). j.frames) (take number joints)
        (drop number joints))
        ∙ ap added (take-append-drop number joints))

    module _ {number out : ℕ} {before input : FilePart} {joint : JointFrames}
        (follower : IsFollower first parts number out before input joint) where
      before_is : IsInput c before
      before_is = input-at (first ∷ parts) number (are.head, are.others) follower.before_at

      input_is : IsInput c input
      input_is = input-at parts number are.others follower.own_at

      abbrev old_splice : List SpliceFrame
      old_splice = splice_after begin (joints_of c begin more) number

      abbrev new_splice : List SpliceFrame
      new_splice = splice_after begin (joints_of c begin more) (number + 1)

      goes : InputGoesOn c (part_brought before) (part_brought input) old_splice new_splice out
      goes =
          followers-on c begin more number (part_brought before) (part_brought input) joint out
          (slice_get-map part_brought (first ∷ parts) number
          ∙ ap (option_map part_brought) follower.before_at)
          (slice_get-map part_brought parts number ∙ ap (option_map part_brought) follower.own_at)
          (ap (λ js. slice_get js number) (sym (joints-are are))
          ∙ follower.joint_at) follower.seam

      abbrev n : ℕ
      n = length input.survey.frames

      abbrev own : List SpliceFrame
      own = (part_brought input).frames

      many : length own ≡ n
      many = brought-many input_is

      ends-new : splice_end first parts (number + 1) ≡ length new_splice
      ends-new =
          ap (λ js. length (splice_after begin js (number + 1)))
          (joints-are are)

      ends-old : splice_end first parts number ≡ length old_splice
      ends-old =
          ap (λ js. length (splice_after begin js number))
          (joints-are are)

      enough : (x : ℕ) → goes.played.start ≤ x → n + front
          ≤ x / samples_in c + (splice_lead_ins first parts + splice_end first parts (number + 1))
      enough x late =
          omega (
            arith,
            later-frame c.version late,
            goes.alike.within,
            many,
            ends-new,
            leads-many are,
            leads-enough,
          )

      place-of : {x : ℕ} → goes.played.start ≤ x → IsPlaced c.version x n front
          (splice_lead_ins first parts) (splice_end first parts (number + 1))
      place-of {x} late =
          placed-by c.version
          (enough x late)

      -- ---- one of its samples

      module _ {x : ℕ} (late : goes.played.start ≤ x) (early : x < goes.played.end) where
        placed : IsPlaced c.version x n front (splice_lead_ins first parts)
            (splice_end first parts (number + 1))
        placed = place-of late

        -- the number of its frame in the input
        abbrev i : ℕ
        i = x / samples_in c

        within : i < n
        within =
            within-frames c.version early
            (played-end input_is goes.played_is)

        own_frame : (f : SpliceFrame) × (slice_get own i ≡ Some f)
        own_frame = get-some own i (omega (arith, within, many))

        -- the number of its frame in the splice
        abbrev j : ℕ
        j = i + length new_splice - length own

        splice_frame : (g : SpliceFrame) × (slice_get new_splice j ≡ Some g)
            × (g.sound ≡ own_frame.0.sound)
        splice_frame =
            goes.alike.alike i own_frame.0 (later-frame c.version late)
            own_frame.1

        in_whole : slice_get whole j ≡ Some splice_frame.0
        in_whole =
            ap (λ l. slice_get l j) (sym (whole-parts (number + 1)))
            ∙ get-front new_splice (added (drop (number + 1) (joints_of c begin more))) j
            splice_frame.1

        in_file : placed.frame + front ≡ length leads + j
        in_file =
            omega (
              arith,
              placed.frame_is,
              ends-new,
              many,
              leads-many are,
              goes.alike.within,
              later-frame c.version late,
            )

        heard_frame : HasSound c (leads ++ heard) placed.frame splice_frame.0.sound
        heard_frame = splice-stays j in_whole in_file

        own_stream : HasSound c (part_stream (part_without_head input)) i own_frame.0.sound
        own_stream =
            has-sound (part_stream (part_without_head input)) i
            (ap (λ l. slice_get (map (sound_of c) l) i)
            (stream-whole input_is)
            ∙ ap (λ l. slice_get l i) (sym (brought-sounds input_is))
            ∙ sound-at own i own_frame.1)

        heard_there : slice_get (seamless_stream (first ∷ parts)) (placed.place / samples_in c)
            ≡ Some heard_frame.frame
        heard_there =
            ap₂ (λ (l : List StreamFrame) (k : ℕ). slice_get l k) (seamless-is are)
            placed.in_frame
            ∙ heard_frame.found

        heard_alike : sound_of c heard_frame.frame ≡ sound_of c own_stream.frame
        heard_alike = heard_frame.is ∙ splice_frame.2 ∙ sym own_stream.is

        keeps : IsPositionKept first parts (number + 1) input x
        keeps = record {
          place = placed.place;
          at = placed.at;
          offset = placed.offset;
          frame = record {
            own_frame = own_stream.frame;
            frame = heard_frame.frame;
            found = own_stream.found;
            there = heard_there;
            alike = heard_alike;
          };
        }

      comes-behind : ComesBehind first parts number before input
      comes-behind =
          let place = place-of (omega arith) in
          let next : IsNext c.version place.place goes.played.start goes.ended.end n
          (length before.survey.frames) front (splice_lead_ins first parts)
          (splice_end first parts number) (splice_end first parts (number + 1)) out =
          record {
            at = place.at;
            meets =
                ap (λ m. goes.played.start + rest_of c m goes.ended)
                (sym (brought-many before_is)) ∙ goes.meets;
            within = played-end before_is goes.ended_is;
            longer = omega (arith, goes.longer, ends-new, ends-old, many);
          } in
          record {
            ended = goes.ended;
            played = goes.played;
            ended_is = goes.ended_is;
            played_is = goes.played_is;
            seam = place.place;
            ends = meets-at next;
            starts = place.at;
            samples = λ x late early. keeps late early;
          }

-- an input that follows comes right after the one before it
pub following : FollowingSamplesStay
following files inputs first parts number before input joint out taken old new at seam =
    let follower : IsFollower first parts number out before input joint =
    record { before_at = old; own_at = new; joint_at = at; seam = seam } in
    comes-behind (inputs-are files inputs taken) follower

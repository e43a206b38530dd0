-- A join without seams in whose Info frame numbers are written begins and ends where its inputs do.
use Rattle.std.proofs.Common.{ap, append-nil, ap₂, arith, Bool, cond, drop, false, flat_map, get_or}
use Rattle.std.proofs.Common.{inl, inr, length, List, map, min, None, Ok, Option, refl, replicate}
use Rattle.std.proofs.Common.{Some, subst, suc, sym, true, zero, ℕ, [], ◌*◌, ◌++◌, ◌+◌, ◌-◌, ◌/◌}
use Rattle.std.proofs.{Common.{◌<◌, ◌^◌, ◌∙◌, ◌∷◌, ◌≡◌, ◌≤◌}, Math.Nat.min-eq_right}
use Rattle.std.proofs.lemmas.Bool.{le-leb, le-ltb, leb-true, ltb-false}
use Rattle.std.proofs.lemmas.List.{length-append, length-drop, length-map, nil_from_length}
use Rattle.std.proofs.lemmas.List.{take_all}
use Rattle.std.specs.Prelude.{IfSome, nat_le, nat_lt, option_and_then, option_map, slice_get}
use Rattle.std.specs.Prelude.{unwrap_or, ◌&&◌, ◌⊎◌}
use Rattle.bit_fields.proofs.BitsLemmas.{AreBelow-append, AreBelow-drop, AreBelow-take}
use Rattle.bit_fields.specs.Bits.{AreBytes}
use Rattle.chosen_streams.proofs.JoinCaseLemmas.{more-inputs}
use Rattle.commands.proofs.RefusingLemmas.{then_ok}
use Rattle.exact_span.proofs.PlayedLemmas.{played-within}
use Rattle.exact_span.specs.Extensions.{counts_of, counts_with_frames, delay_in, has_encoder}
use Rattle.exact_span.specs.{Extensions.padding_in, Laws.SaysNumbers}
use Rattle.exact_span.specs.PlayedPositions.{counted_played, counted_positions, decoder_delay}
use Rattle.exact_span.specs.PlayedPositions.{played_of, played_or_all, rest_of, samples_in}
use Rattle.exact_span.specs.declared.{extensions.HeadCounts.HeadCounts, played.Played.Played}
use Rattle.frame_header.specs.{Fields.ClassFields, Limits.most_frames, Tables.samples_of}
use Rattle.frame_header.specs.declared.version.Version.{Version, TheVariants.{One, Two, TwoFive}}
use Rattle.info_header.specs.{Info.{field_offset, flags_in, info_in}, declared.fields.Info.Info}
use Rattle.joined_inputs.{proofs.PartLemmas.part-is, specs.Parts.join_parts_from}
use Rattle.laying.specs.{KeptFields.fields_of_head, Relaid.{FilePart, part_stream}}
use Rattle.laying.specs.Written.{head_info}
use Rattle.outside.specs.Files.{AreOctets, Contents}
use Rattle.pack_edits.proofs.LimitLemmas.{few-rows}
use Rattle.seam_laws.proofs.JoinNumberLemmas.{splice-says}
use Rattle.seam_laws.proofs.JoinReadLemmas.{read-count, read-played, read-says, read_info}
use Rattle.seam_laws.proofs.JoinReadLemmas.{written-says}
use Rattle.seam_laws.proofs.LeftOutLemmas.{follower-at, joints-count, written-at}
use Rattle.seam_laws.proofs.SeamlessInputLemmas.{AreInputs, brought-many, input-whole, inputs-are}
use Rattle.seam_laws.proofs.SeamlessInputLemmas.{inputs-whole, IsInput, Joins, stream-from}
use Rattle.seam_laws.proofs.SeamlessInputLemmas.{stream-many, whole_stream}
use Rattle.seam_laws.proofs.SeamlessPlaceLemmas.{input-at, leads-enough}
use Rattle.seam_laws.proofs.SeamlessSpliceLemmas.{all, front-few, HasLeads, joints-are, leads-many}
use Rattle.seam_laws.proofs.SeamlessSpliceLemmas.{splice, splice-is, splice-leads, stream}
use Rattle.seam_laws.proofs.SeamlessSpliceLemmas.{stream-length}
use Rattle.seam_laws.specs.JoinLaws.{IsInputWritten, JoinsKeepTheirEnds, KeepsEnds, MayBeLeftOut}
use Rattle.seam_laws.specs.{JoinLaws.{part_played, seam_at}, PlayedParts.input_played}
use Rattle.seam_laws.specs.{SeamlessLaws.{IsSamePosition, splice_end}, SpliceLaws.splice_after}
use Rattle.seam_plan.{proofs.FollowLemmas.added, specs.Frames.{Brought, SpliceFrame}}
use Rattle.seam_plan.specs.{Joins.fits_behind, Seams.{JointFrames, joints_of, left_out_count}}
use Rattle.seam_plan.specs.declared.seam.Seam.{Seam, TheVariants.{Follows, LeadIn, Whole}}
use Rattle.seamless_edits.proofs.SplicePartLemmas.{splice-laid}
use Rattle.seamless_edits.specs.Seamless.{delay_of_splice, join_of_parts, last_part, later_parts}
use Rattle.seamless_edits.specs.Seamless.{part_brought, part_from, part_head, seamless_delay}
use Rattle.seamless_edits.specs.Seamless.{seamless_file, seamless_frames, seamless_padding}
use Rattle.seamless_edits.specs.Seamless.{splice_lead_ins, splice_parts}
use Rattle.slot_plan.specs.declared.needs.{Need.Need, Placed.Placed}
use Rattle.sync_survey.proofs.{FaultsLemmas.length-marked_rows, FoldersLemmas.octets_bytes}
use Rattle.sync_survey.proofs.SurveyPartsLemmas.{all_faults-none_sound, frames_from}
use Rattle.sync_survey.proofs.SurveyPartsLemmas.{survey_fields-parts}
use Rattle.sync_survey.proofs.SurveyedFileLemmas.{survey_of-parts}
use Rattle.sync_survey.specs.Faults.{class_from, survey_fields, SurveyFields}
use Rattle.sync_survey.specs.{MainData.{rows_of, StreamFrame}, Survey.survey_of, Walk.head_of}
use Rattle.sync_survey.specs.declared.places.Head.{Head}

-- ---- what heads count

-- what a head counts is what is played by it, and begins after the decoder's delay
counted-played : (head : Option Info) (class : ClassFields) (frames : ℕ) {p : Played}
    → counted_positions head class frames ≡ Some p
    → (played_of head class frames ≡ p) × (decoder_delay ≤ p.start)
unfolding counted_positions played_of
counted-played head class frames {p} is = at (counts_of head) is
  where
    at : (o : Option HeadCounts) → option_map (counted_played (samples_in class) frames) o ≡ Some p
        → (played_or_all (samples_in class) frames o ≡ p) × (decoder_delay ≤ p.start)
    at None none = absurd cc
    at (Some counts) some =
        let same : counted_played (samples_in class) frames counts ≡ p = cc in (
          same,
          subst (λ (q : Played). decoder_delay ≤ q.start) same (omega arith),
        )

-- positions before the end of the frames that are counted
rest-by : (v : Version) (frames counted : ℕ) {padding : ℕ} → padding < 4096 → (b : Bool)
    → nat_lt counted frames ≡ b
    → frames * samples_of v
    - cond b (frames * samples_of v) (min (frames * samples_of v)
    (counted * samples_of v + decoder_delay - padding)) ≤ 3566
rest-by v frames counted small true is = omega arith
rest-by One frames counted small false is = omega (arith, small, ltb-false counted frames is)
rest-by Two frames counted small false is = omega (arith, small, ltb-false counted frames is)
rest-by TwoFive frames counted small false is = omega (arith, small, ltb-false counted frames is)

zeros-small : (n : ℕ) → AreBytes (replicate n 0)
zeros-small zero = tt
zeros-small (suc n) = (omega arith, zeros-small n)

-- the bytes of a head's extension are bytes of the file
extension-bytes : (bytes : List ℕ) → AreBytes bytes → AreBytes (info_in bytes).extension
unfolding info_in
extension-bytes bytes each =
    let rest = drop (field_offset (flags_in bytes) 4) bytes in
    AreBelow-take 256 36 (rest ++ replicate 36 0)
    (AreBelow-append 256 rest (replicate 36 0)
    (AreBelow-drop 256 (field_offset (flags_in bytes) 4) bytes each) (zeros-small 36))

head-bytes : (file : List ℕ) (head : Head) → AreBytes file
    → AreBytes (head_info file (Some head)).extension
unfolding head_info
head-bytes file head each =
    grind (
      arith,
      head.header,
      head.header.slot,
      head.offset,
      extension-bytes,
      head.text_at,
      AreBelow-drop,
      AreBelow-take,
    )

byte-small : (bytes : List ℕ) (i : ℕ) → AreBytes bytes → get_or bytes i 0 < 256
byte-small [] i each = omega arith
byte-small (b ∷ bytes) zero each = each.0
byte-small (b ∷ bytes) (suc i) each = byte-small bytes i each.1

padding-small : (extension : List ℕ) → AreBytes extension → padding_in extension < 4096
padding-small extension each =
    omega (arith, byte-small extension 22 each, byte-small extension 23 each)

counted-small : (info : Info) (n : ℕ) (b : Bool) → AreBytes info.extension
    → IfSome (cond b (Some (record {
      frames = n;
      delay = delay_in info.extension;
      padding = padding_in info.extension;
    })) None) (λ (counts : HeadCounts). counts.padding < 4096)
counted-small info n true each = padding-small info.extension each
counted-small info n false each = tt

counts-small : (info : Info) (frames : Option ℕ) → AreBytes info.extension
    → IfSome (counts_with_frames info frames) (λ (counts : HeadCounts). counts.padding < 4096)
counts-small info None each = tt
counts-small info (Some n) each =
    counted-small info n (nat_le 1 n && has_encoder info.extension) each

-- what the head of a file counts has a padding of 12 bits
file-padding : (file : List ℕ) (head : Option Head) → AreBytes file
    → IfSome (counts_of (fields_of_head file head))
    (λ (counts : HeadCounts). counts.padding < 4096)
file-padding file None each = tt
file-padding file (Some head) each =
    counts-small (head_info file (Some head)) (head_info file (Some head)).frames
    (head-bytes file head each)

-- at most 3,566 positions are after the last played one
rest-small : (head : Option Info) (class : ClassFields) (frames : ℕ)
    → IfSome (counts_of head) (λ (counts : HeadCounts). counts.padding < 4096)
    → rest_of class frames (played_of head class frames) ≤ 3566
unfolding played_of
rest-small head class frames small = at (counts_of head) small
  where
    at : (o : Option HeadCounts) → IfSome o (λ (counts : HeadCounts). counts.padding < 4096)
        → rest_of class frames (played_or_all (samples_in class) frames o) ≤ 3566
    at None small = omega arith
    at (Some counts) small =
        rest-by class.version frames counts.frames small
        (nat_lt counts.frames frames) refl

-- what is played by a head with these numbers
played-by : (class : ClassFields) (info : Info) {frames delay padding : ℕ}
    → info.frames ≡ Some frames → 1 ≤ frames → 529 ≤ padding
    → SaysNumbers delay padding info.extension → played_of (Some info) class frames ≡ record {
      start = delay + decoder_delay;
      end = frames * samples_in class + decoder_delay - padding;
    }
unfolding played_of
played-by class info is some enough says = grind (arith, le-leb, le-ltb, min-eq_right)

-- ---- how many frames there are

-- a survey has no more frames than are allowed
pub frames-few : (file : List ℕ) {allowed : ℕ} {s : SurveyFields}
    → survey_fields file allowed ≡ Ok s → length s.frames ≤ allowed
frames-few file {allowed} {s} e =
    let parts = survey_fields-parts e in
    let head = head_of file parts.0.first in
    let rows = rows_of file (frames_from file parts.0) in
    omega (
      arith,
      few-rows file head rows
          (all_faults-none_sound file head (class_from parts.0) allowed rows parts.1.frames),
      length-marked_rows head rows,
      ap (λ (t : SurveyFields). length t.frames) parts.2,
    )

abbrev frames_in : List FilePart → ℕ
frames_in [] = 0
frames_in (p ∷ parts) = length p.survey.frames + frames_in parts

parts-few : (files : Contents) (place : ℕ) (first : Option ClassFields) {allowed : ℕ}
    (names : List (List ℕ)) {parts : List FilePart}
    → join_parts_from place first allowed files names ≡ Ok parts → frames_in parts ≤ allowed
unfolding join_parts_from
parts-few files place first [] e = grind arith
parts-few files place first {allowed} (name ∷ names) {parts} e =
    let one = then_ok e in
    let part = one.0 in
    let rest =
    more-inputs one.2 in
    let is = part-is place (files name) one.1 in
    let few = frames-few is.file
    (survey_of-parts is.file allowed is.surveyed).1 in
    let same = ap (λ (q : FilePart). length q.survey.frames) is.whole in
    let more =
    parts-few files (place + 1) (Some (unwrap_or first part.survey.class)) names rest.1 in
    subst (λ l. frames_in l ≤ allowed) rest.2 (omega (arith, few, same, more))

-- what is written of an input has no more frames than the input
part-few : {c : ClassFields} {p : FilePart} (is : IsInput c p) (k : ℕ)
    → (length (part_stream (part_from k p)) ≤ length p.survey.frames)
    × (length p.survey.frames ≤ length (part_stream (part_from k p)) + k)
part-few {p = p} is k =
    let own = part_stream (part_from k p) in
    let same = ap length (stream-from is k)
    ∙ length-drop k (whole_stream is)
    ∙ ap (λ n. n - k) (stream-many is) in
    (omega (arith, same), omega (arith, same))

later-few : (c : ClassFields) (joints : List JointFrames) (parts : List FilePart)
    → AreInputs c parts
    → length (flat_map part_stream (later_parts joints parts)) ≤ frames_in parts
later-few c [] parts are = omega arith
later-few c (j ∷ joints) [] are = omega arith
later-few c (j ∷ joints) (p ∷ parts) are =
    let own = part_stream (part_from (left_out_count j.seam) p) in
    omega (
      arith,
      length-append own (flat_map part_stream (later_parts joints parts)),
      (part-few are.0 (left_out_count j.seam)).0,
      later-few c joints parts are.1,
    )

-- a part has no more frames than all parts together
part-among : (parts : List FilePart) (n : ℕ) {p : FilePart} → slice_get parts n ≡ Some p
    → length (part_stream p) ≤ length (flat_map part_stream parts)
part-among [] n is = absurd cc
part-among (q ∷ parts) zero is = grind (arith, length-append)
part-among (q ∷ parts) (suc n) {p} is = grind (arith, length-append, part-among parts n is)

-- the last part is the one at the last place
last-at : (first : FilePart) (parts : List FilePart)
    → slice_get (first ∷ parts) (length parts) ≡ Some (last_part first parts)
last-at first [] = refl
last-at first (p ∷ parts) = last-at p parts

-- ---- positions

begins-at : (v : Version) {start : ℕ} (n : ℕ) {front h delay : ℕ} → decoder_delay ≤ start
    → front ≤ h → start + h * samples_of v - front * samples_of v - decoder_delay ≡ delay
    → delay + decoder_delay + (n + front) * samples_of v ≡ start + (h + n) * samples_of v
begins-at v n late enough is = grind arith

ends-at : (v : Version) {place : ℕ} (n front h many : ℕ) {end : ℕ} (frames : ℕ)
    → end ≤ n * samples_of v → frames + front ≡ h + many
    → place + (n + front) * samples_of v ≡ end + (h + many) * samples_of v → place
    ≡ frames * samples_of v + decoder_delay - (n * samples_of v - end + decoder_delay)
ends-at v n front h many frames within same at = grind arith

there-at : (v : Version) (n front h many : ℕ) {end : ℕ} (frames : ℕ) → end ≤ n * samples_of v
    → frames + front ≡ h + many → n * samples_of v - end ≤ frames * samples_of v
    → frames * samples_of v + decoder_delay - (n * samples_of v - end + decoder_delay)
    + (n + front) * samples_of v
    ≡ end + (h + many) * samples_of v
there-at v n front h many frames within same enough = grind arith

rest-within : (v : Version) {n frames : ℕ} (end : ℕ) → n ≤ frames
    → n * samples_of v - end ≤ frames * samples_of v
rest-within v end few = grind arith

rest-played : (v : Version) {n : ℕ} (frames : ℕ) {start end : ℕ} → start ≤ end
    → n ≤ start / samples_of v + frames
    → n * samples_of v - end ≤ frames * samples_of v
rest-played v frames rises few = grind arith

-- ---- the join

-- the delay of the splice, by the first played position of the first input
delay-parts : (first : FilePart) (parts : List FilePart) {delay : ℕ}
    → delay_of_splice first parts ≡ Some delay
    → (played : Played) × ((part_brought first).played ≡ Some played)
    × (seamless_delay played first parts ≡ delay) × (delay ≤ 4095)
delay-parts first parts {delay} is = at (part_brought first).played refl is
  where
    by : (played : Played) (b : Bool) → nat_le (seamless_delay played first parts) 4095 ≡ b
        → (part_brought first).played ≡ Some played
        → cond b (Some (seamless_delay played first parts)) None ≡ Some delay
        → (played : Played) × ((part_brought first).played ≡ Some played)
        × (seamless_delay played first parts ≡ delay) × (delay ≤ 4095)
    by played b short found some = grind (arith, leb-true)

    at : (o : Option Played) → (part_brought first).played ≡ o
        → option_and_then
        (λ played. let delay = seamless_delay played first parts in
        cond (nat_le delay 4095) (Some delay) None) o ≡ Some delay
        → (played : Played) × ((part_brought first).played ≡ Some played)
        × (seamless_delay played first parts ≡ delay) × (delay ≤ 4095)
    at None found none = absurd cc
    at (Some played) found some =
        by played (nat_le (seamless_delay played first parts) 4095) refl found some

-- the lead-ins are at most one
leads-one : {window : ℕ} {needs : List Need} {placed : List Placed} {stream : List StreamFrame}
    (leads : HasLeads window needs placed stream) → length leads.leads ≤ 1
leads-one {window} {needs} leads = at (fits_behind window 0 needs) refl
  where
    at : (b : Bool) → fits_behind window 0 needs ≡ b → length leads.leads ≤ 1
    at b is = grind (arith, leads)

-- no more than one frame is left out of an input that doesn't follow
few-left : (o : Option Seam) (class : ClassFields) (file : List ℕ) (left : List StreamFrame)
    → MayBeLeftOut o class file left
    → (length left ≤ 1) ⊎ ((out : ℕ) × (o ≡ Some (Follows out)))
few-left None class file left (inl none) = inl (omega (arith, ap length none))
few-left None class file left (inr empty) = inl (omega (arith, ap length empty.one))
few-left (Some Whole) class file left none = inl (omega (arith, ap length none))
few-left (Some LeadIn) class file left empty = inl (omega (arith, ap length empty.one))
few-left (Some (Follows out)) class file left same = inr (out, refl)

module _ {first : FilePart} {parts : List FilePart}
    (are : Joins first.survey.class first parts) where
  abbrev c : ClassFields
  c = first.survey.class

  abbrev front : ℕ
  front = (join_of_parts first parts).front

  abbrev begins : Brought
  begins = part_brought first

  abbrev joints : List JointFrames
  joints = joints_of c begins (map part_brought parts)

  abbrev frames : ℕ
  frames = length (seamless_frames first parts)

  abbrev last : FilePart
  last = last_part first parts

  -- the frames of the first input are the front of the splice
  zero-end : splice_end first parts 0 ≡ length first.survey.frames
  zero-end =
      ap length (append-nil begins.frames)
      ∙ brought-many are.head

  -- all of the splice is up to where the last input ends
  last-end : splice_end first parts (length parts) ≡ length (all are)
  last-end =
      ap (λ js. length (begins.frames ++ added js))
      (take_all (length parts) (join_of_parts first parts).joints
      (omega (arith, joints-count are)))
      ∙ ap (λ js. length (begins.frames ++ added js))
      (joints-are are)

  all-some : 1 ≤ length (all are)
  all-some =
      omega (
        arith,
        length-append begins.frames (added joints),
        brought-many are.head,
        are.head.some,
      )

  stream-parts : length (stream are)
      ≡ length (part_stream (part_from front first))
      + length (flat_map part_stream (later_parts (join_of_parts first parts).joints parts))
  stream-parts =
      length-append (part_stream (part_from front first))
      (flat_map part_stream (later_parts (join_of_parts first parts).joints parts))

  stream-is : frames ≡ splice_lead_ins first parts + length (stream are)
  stream-is =
      let leads = splice-leads are in
      let laid =
      splice-laid parts (input-whole are.head) (inputs-whole c parts are.others) in
      grind (arith, length-map, laid.stream_is, leads.is, length-append, leads.leads, leads-many)

  -- the join has the lead-ins of the splice, and all of it but for what leaves it
  frames-many : frames + front ≡ splice_lead_ins first parts + splice_end first parts (length parts)
  frames-many =
      omega (
        arith,
        stream-is,
        stream-length are,
        length-map (splice are) (λ (f : SpliceFrame). f.need),
        ap length (splice-is are),
        length-drop front (all are),
        front-few are,
        all-some,
        last-end,
      )

  frames-small : frames_in (first ∷ parts) ≤ most_frames → frames < 256 ^ 4
  frames-small few =
      omega (
        arith,
        few,
        stream-is,
        leads-many are,
        leads-one (splice-leads are),
        stream-parts,
        (part-few are.head front).0,
        later-few c (join_of_parts first parts).joints parts are.others,
      )

  frames-some : 1 ≤ frames
  frames-some =
      omega (
        arith,
        frames-many,
        last-end,
        all-some,
        leads-enough are,
        leads-many are,
      )

  last-is : IsInput c last
  last-is = input-at (first ∷ parts) (length parts) (are.head, are.others) (last-at first parts)

  abbrev ended : Played
  ended = part_played last

  abbrev n : ℕ
  n = length last.survey.frames

  ended-within : ended.end ≤ n * samples_in c
  ended-within =
      subst (λ d. ended.end ≤ n * samples_in d) last-is.of_class
      (played-within (part_head last) last.survey.class n)

  padding-is : seamless_padding first parts ≡ n * samples_in c - ended.end + decoder_delay
  padding-is = ap (λ d. n * samples_in d - ended.end + decoder_delay) last-is.of_class

  -- ---- what is after the last played position of the last input

  leads-most : front ≤ splice_lead_ins first parts
  leads-most = omega (arith, leads-enough are, leads-many are)

  written : IsInputWritten first parts (length parts) last
  written = written-at are (length parts) (last-at first parts)

  last-many : n ≡ length written.left_out + length (part_stream written.part)
  last-many =
      sym (stream-many last-is)
      ∙ ap length written.all
      ∙ length-append written.left_out (part_stream written.part)

  -- an input that doesn't follow has no more frames than the join
  few-by : length written.left_out ≤ 1 → (number : ℕ) → length parts ≡ number → n ≤ frames
  few-by one zero same =
      let none = nil_from_length parts same in
      omega (
        arith,
        ap (λ l. length (last_part first l).survey.frames) none,
        ap (λ k. splice_end first parts k) same,
        zero-end,
        frames-many,
        leads-most,
      )
  few-by one (suc m) same =
      let later = later_parts (join_of_parts first parts).joints parts in
      let there =
      subst (λ k. slice_get (splice_parts first parts) k ≡ Some written.part) same written.is in
      omega (
        arith,
        one,
        last-many,
        stream-is,
        leads-most,
        stream-parts,
        (part-few are.head front).1,
        are.head.some,
        part-among later m there,
      )

  -- nor are there more positions after the last played one of an input that follows
  follows-by : {out : ℕ} → ended.start ≤ ended.end → (number : ℕ) → length parts ≡ number
      → seam_at (join_of_parts first parts).joints number ≡ Some (Follows out)
      → n * samples_in c - ended.end ≤ frames * samples_in c
  follows-by rises zero same seam = absurd cc
  follows-by {out} rises (suc m) same seam =
      let there = subst (λ k. slice_get (first ∷ parts) k ≡ Some last) same (last-at first parts) in
      let goes = (follower-at are m there seam).1 in
      let played =
      (counted-played (part_head last) last.survey.class n goes.played_is).0 in
      let next : m + 1 ≡ length parts = omega (arith, same) in
      let many = ap (λ k. length (splice_after begins joints k)) next
      ∙ ap (λ js. length (splice_after begins js (length parts)))
      (sym (joints-are are)) in
      rest-played c.version frames rises
      (omega (
        arith,
        ap (λ (p : Played). p.start / samples_in c) played,
        goes.alike.within,
        brought-many last-is,
        many,
        frames-many,
        leads-most,
      ))

  rest-most : ended.start ≤ ended.end → n * samples_in c - ended.end ≤ frames * samples_in c
  rest-most rises =
      elim (few-left (seam_at (join_of_parts first parts).joints (length parts))
      last.survey.class last.file
      written.left_out written.may) [
        | inl one ↦
            rest-within c.version ended.end (few-by one (length parts) refl)
        | inr follows ↦ follows-by rises (length parts) refl follows.1
      ]

  -- ---- where it is played

  module _ (few : frames_in (first ∷ parts) ≤ most_frames) (octets : AreOctets last.file)
      {delay : ℕ} (delay_is : delay_of_splice first parts ≡ Some delay) where
    padding-most : seamless_padding first parts < 4096
    padding-most =
        omega (
          arith,
          rest-small (part_head last) last.survey.class n
              (file-padding last.file last.survey.head (octets_bytes last.file octets)),
        )

    padding-least : 529 ≤ seamless_padding first parts
    padding-least = omega arith

    parts_of : (played : Played) × ((part_brought first).played ≡ Some played)
        × (seamless_delay played first parts ≡ delay) × (delay ≤ 4095)
    parts_of = delay-parts first parts delay_is

    counted : (part_played first ≡ parts_of.0) × (decoder_delay ≤ parts_of.0.start)
    counted =
        counted-played (part_head first) first.survey.class (length first.survey.frames)
        parts_of.1

    abbrev read : Info
    read = read_info are delay_is

    read-is : (allowed : ℕ) (s : SurveyFields)
        → survey_of (seamless_file (first ∷ parts)) allowed ≡ Ok s
        → input_played (seamless_file (first ∷ parts)) s
        ≡ record {
          start = delay + decoder_delay;
          end = frames * samples_in c + decoder_delay - seamless_padding first parts;
        }
    read-is allowed s e =
        read-played are delay_is allowed e
        ∙ played-by c read
        (read-count are delay_is refl (frames-small few)) frames-some
        padding-least
        (read-says are delay_is
        (written-says are delay_is
        (splice-says first parts delay (omega (arith, parts_of.3)) padding-most)))

    abbrev joined : Played
    joined = record {
      start = delay + decoder_delay;
      end = frames * samples_in c + decoder_delay - seamless_padding first parts;
    }

    start-same : IsSamePosition first parts 0 first (part_played first).start joined.start
    start-same =
        let start = parts_of.0.start in
        let many = length first.survey.frames in
        begins-at c.version many counted.1
        (omega (arith, leads-enough are, leads-many are)) parts_of.2
        ∙ ap₂ (λ (p : Played) (m : ℕ). p.start + (splice_lead_ins first parts + m) * samples_in c)
        (sym counted.0) (sym zero-end)

    end-same : (place : ℕ)
        → IsSamePosition first parts (length parts) last ended.end place → place ≡ joined.end
    end-same place at =
        grind (arith, ends-at, c.version, ended.end, ended-within, frames-many, padding-is)

    there-by : n * samples_in c - ended.end ≤ frames * samples_in c
        → IsSamePosition first parts (length parts) last ended.end joined.end
    there-by enough =
        grind (arith, padding-is, there-at, c.version, ended.end, ended-within, frames-many)

    -- as the file is read, it begins and ends where its inputs do
    pub ends-read : (allowed : ℕ) (s : SurveyFields)
        → survey_of (seamless_file (first ∷ parts)) allowed ≡ Ok s
        → KeepsEnds first parts last (input_played (seamless_file (first ∷ parts)) s)
    ends-read allowed s e =
        subst (KeepsEnds first parts last) (sym (read-is allowed s e))
        (record {
          start = start-same;
          end = end-same;
          there = λ rises. there-by (rest-most rises);
        })

-- a join in whose Info frame numbers are written begins and ends where its inputs do
pub ends-kept : JoinsKeepTheirEnds
ends-kept files inputs first parts delay allowed s taken delay_is octets e =
    ends-read (inputs-are files inputs taken)
    (parts-few files 0 None inputs taken) octets delay_is allowed
    s e

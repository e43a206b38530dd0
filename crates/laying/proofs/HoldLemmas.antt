-- The frames of parts, what a plan is given for them, and the blocks of a file.
use Rattle.std.proofs.Common.{ap₂, arith, Bool, cond, drop, filter, flat_map, length, length-append}
use Rattle.std.proofs.Common.{length-drop, List, map, refl, slice_range, subst, suc, sym, take}
use Rattle.std.proofs.Common.{zero, ℕ, [], ◌++◌, ◌+◌, ◌-◌, ◌<◌, ◌∙◌, ◌∷◌, ◌≡◌, ◌≤◌}
use Rattle.std.proofs.lemmas.List.{drop-map, length-map, length-take, map-append, take-map}
use Rattle.std.{proofs.lemmas.List.FromFn.length-enumerate_from, specs.List.enumerate_from}
use Rattle.frame_header.specs.Fields.{ClassFields, IsHeader}
use Rattle.frame_writer.specs.Frames.{Frame}
use Rattle.laying.proofs.{FitLemmas.{AllHeaders, AreHeaders}, PlannedFrameLemmas.AreNeedsOf}
use Rattle.laying.proofs.SurveyFrameLemmas.{frames-of}
use Rattle.laying.specs.LaidFiles.{AreBlocks, AreStreamEntries, block_bytes, IsBlock, stream_entry}
use Rattle.laying.specs.{Laws.BlocksAreKept, Needs.need_of}
use Rattle.laying.specs.Relaid.{all_frames, AreParts, FilePart, IsPart, part_frames, part_needs}
use Rattle.laying.specs.{Relaid.{part_stream, survey_frame}, Surveys.CanBeRelaid}
use Rattle.side_info.specs.{Side.{no_side, payload_bytes}, declared.side.Side.Side}
use Rattle.slot_plan.specs.declared.needs.Need.{Need}
use Rattle.sync_survey.{proofs.EmptiedLemmas.no_bytes, specs.Faults.SurveyFields}
use Rattle.sync_survey.specs.{MainData.StreamFrame, Row.Row, declared.places.Piece.Piece}

-- ---- some of the frames

entries-take : (c : ClassFields) (n : ℕ) (fs : List Frame) → AreStreamEntries c fs
    → AreStreamEntries c (take n fs)
entries-take c (suc n) (f ∷ fs) are = (are.0, entries-take c n fs are.1)
entries-take c _ _ are = tt

entries-drop : (c : ClassFields) (n : ℕ) (fs : List Frame) → AreStreamEntries c fs
    → AreStreamEntries c (drop n fs)
entries-drop c zero fs are = are
entries-drop c (suc n) [] are = tt
entries-drop c (suc n) (f ∷ fs) are = entries-drop c n fs are.1

needs-take : (n : ℕ) (needs : List Need) (fs : List Frame) → AreNeedsOf needs fs
    → AreNeedsOf (take n needs) (take n fs)
needs-take (suc n) [] (f ∷ fs) are = absurd are
needs-take (suc n) (need ∷ needs) [] are = absurd are
needs-take (suc n) (need ∷ needs) (f ∷ fs) are = (are.0, are.1, needs-take n needs fs are.2)
needs-take _ _ _ are = tt

needs-drop : (n : ℕ) (needs : List Need) (fs : List Frame) → AreNeedsOf needs fs
    → AreNeedsOf (drop n needs) (drop n fs)
needs-drop zero needs fs are = are
needs-drop (suc n) [] [] are = tt
needs-drop (suc n) (need ∷ needs) (f ∷ fs) are = needs-drop n needs fs are.2
needs-drop (suc n) _ _ are = absurd are

range-map : {X Y : Type 0} (f : X → Y) (from to : ℕ) (xs : List X)
    → map f (slice_range xs from to) ≡ slice_range (map f xs) from to
range-map f from to xs = grind (arith, drop-map, take-map)

-- ---- what a plan is given for the frames of a file

bytes_by : (lost : Bool) (s : Side)
    → cond lost 0 (payload_bytes s) ≡ payload_bytes (cond lost no_side s)
bytes_by lost s = grind (arith, no_bytes)

needs-each : (c : ClassFields) (file : List ℕ) (s : SurveyFields) (n : ℕ) (rows : List Row) →
    AreStreamEntries c (map (λ (p : ℕ × Row). survey_frame file s p.0 p.1) (enumerate_from n rows))
    → AreNeedsOf (map need_of rows)
    (map (λ (p : ℕ × Row). survey_frame file s p.0 p.1) (enumerate_from n rows))
needs-each c file s n [] are = tt
needs-each c file s n (r ∷ rows) are =
    (refl, bytes_by r.lost r.side ∙ sym are.0.size, needs-each c file s (n + 1) rows are.1)

needs-all : (c : ClassFields) (file : List ℕ) (s : SurveyFields)
    → AreStreamEntries c (all_frames file s) → AreNeedsOf (map need_of s.frames) (all_frames file s)
unfolding all_frames
needs-all c file s are = needs-each c file s 0 s.frames are

-- ---- a part

-- the frames of a part are frames that can be laid
pub part-entries : {c : ClassFields} {p : FilePart} → IsPart c p
    → AreStreamEntries c (part_frames p)
part-entries is = grind (arith, frames-of, entries-take, entries-drop)

-- the needs of a range of frames are the needs of their rows
pub needs-range : {file : List ℕ} {s : SurveyFields} (from to : ℕ) → CanBeRelaid file s → AreNeedsOf
    (map need_of (slice_range s.frames from to)) (slice_range (all_frames file s) from to)
needs-range {file} {s} from to has =
    let are = frames-of has in
    subst (λ (l : List Need). AreNeedsOf l (slice_range (all_frames file s) from to))
    (sym (range-map need_of from to s.frames))
    (needs-take (to - from) (drop from (map need_of s.frames)) (drop from (all_frames file s))
    (needs-drop from (map need_of s.frames) (all_frames file s)
    (needs-all s.class file s are.entries)))

-- a plan is given the headers and the lengths of the main data of a part's frames
pub part-needs : {c : ClassFields} {p : FilePart} → IsPart c p
    → AreNeedsOf (part_needs p) (part_frames p)
part-needs {p = p} is = needs-range p.from p.to is.has

-- the stream of a part's frames is the stream of the part
pub part-stream : {c : ClassFields} {p : FilePart} → IsPart c p
    → map stream_entry (part_frames p) ≡ part_stream p
part-stream is = grind (arith, frames-of, range-map, slice_range)

-- ---- all parts

entries-append : (c : ClassFields) (fs gs : List Frame) → AreStreamEntries c fs
    → AreStreamEntries c gs → AreStreamEntries c (fs ++ gs)
entries-append c [] gs front back = back
entries-append c (f ∷ fs) gs front back = (front.0, entries-append c fs gs front.1 back)

-- the frames of all parts are frames that can be laid
pub parts-entries : (c : ClassFields) (parts : List FilePart) → AreParts c parts
    → AreStreamEntries c (flat_map part_frames parts)
parts-entries c [] are = tt
parts-entries c (p ∷ parts) are = entries-append c (part_frames p) (flat_map part_frames parts)
    (part-entries are.0) (parts-entries c parts are.1)

needs-append : (needs more : List Need) (fs gs : List Frame) → AreNeedsOf needs fs
    → AreNeedsOf more gs → AreNeedsOf (needs ++ more) (fs ++ gs)
needs-append [] more [] gs front back = back
needs-append (need ∷ needs) more (f ∷ fs) gs front back =
    (front.0, front.1, needs-append needs more fs gs front.2 back)
needs-append _ more _ gs front back = absurd front

-- a plan of all parts is given the headers and the lengths of the main data of their frames
pub parts-needs : (c : ClassFields) (parts : List FilePart) → AreParts c parts → AreNeedsOf
    (flat_map (λ (part : List Need). part) (map part_needs parts)) (flat_map part_frames parts)
parts-needs c [] are = tt
parts-needs c (p ∷ parts) are = search (arith, needs-append, part-needs, parts-needs c parts are.1)

headers-of : (c : ClassFields) (needs : List Need) (fs : List Frame) → AreStreamEntries c fs
    → AreNeedsOf needs fs → AreHeaders needs
headers-of c [] fs are needs_are = tt
headers-of c (need ∷ needs) [] are needs_are = absurd needs_are
headers-of c (need ∷ needs) (f ∷ fs) are needs_are =
    (subst IsHeader (sym needs_are.0) are.0.header, headers-of c needs fs are.1 needs_are.2)

-- all these headers are of the standard
pub parts-headers : (c : ClassFields) (parts : List FilePart) → AreParts c parts
    → AllHeaders (map part_needs parts)
parts-headers c [] are = tt
parts-headers c (p ∷ parts) are =
    search (arith, headers-of, part-entries, part-needs, parts-headers c parts are.1)

-- the stream of all parts is their streams, concatenated
pub parts-stream : (c : ClassFields) (parts : List FilePart) → AreParts c parts
    → map stream_entry (flat_map part_frames parts) ≡ flat_map part_stream parts
parts-stream c [] are = refl
parts-stream c (p ∷ parts) are =
    map-append stream_entry (part_frames p) (flat_map part_frames parts)
    ∙ ap₂ (λ (x y : List StreamFrame). x ++ y) (part-stream are.0) (parts-stream c parts are.1)

-- a survey has as many frames as rows
pub all-length : (file : List ℕ) (s : SurveyFields) → length (all_frames file s) ≡ length s.frames
unfolding all_frames
all-length file s = grind (arith, length-map, length-enumerate_from)

-- a part has at least one frame
pub part-some : {c : ClassFields} {p : FilePart} → IsPart c p → 0 < length (part_frames p)
part-some is = grind (arith, all-length, length-drop, length-take)

-- parts have at least one frame, if there is a part
pub parts-some : (c : ClassFields) (parts : List FilePart) → 1 ≤ length parts → AreParts c parts
    → 0 < length (flat_map part_frames parts)
parts-some c [] some are = absurd (omega (arith, some))
parts-some c (p ∷ parts) some are =
    omega (arith, part-some are.0, length-append (part_frames p) (flat_map part_frames parts))

-- ---- blocks

kept_cons : (keep : Bool) (file : List ℕ) (p : Piece) (ps : List Piece)
    → IsBlock (block_bytes file p) → AreBlocks (map (block_bytes file) ps)
    → AreBlocks (map (block_bytes file) (cond keep (p ∷ ps) ps))
kept_cons keep file p ps is are = grind arith

kept-blocks : (keep : Piece → Bool) (file : List ℕ) (ps : List Piece)
    → AreBlocks (map (block_bytes file) ps) → AreBlocks (map (block_bytes file) (filter keep ps))
kept-blocks keep file [] are = tt
kept-blocks keep file (p ∷ ps) are = grind (arith, kept_cons, kept-blocks keep file ps are.1)

-- the blocks of a file that go before the frames, and all others, are blocks by their bytes
pub blocks-kept : BlocksAreKept
blocks-kept file s has = grind (arith, kept-blocks)

-- Laws of spans, extensions and tag words, independent of the code.
use Rattle.std.specs.List.{range_with_len}
use Rattle.std.specs.Prelude.{IfSome, IsTrue, length, List, Option, Some, ℕ, [], ⊤, ◌%◌, ◌*◌, ◌++◌}
use Rattle.std.specs.Prelude.{◌+◌, ◌-◌, ◌/◌, ◌<◌, ◌∷◌, ◌≡◌, ◌≤◌}
use Rattle.exact_span.specs.Extensions.{delay_in, extension_of, has_encoder, padding_in}
use Rattle.exact_span.specs.PlayedPositions.{decoder_delay, length_of_played, played_of, samples_in}
use Rattle.exact_span.specs.Spans.{AreLeads, delay_of, padding_of, span_of, warm_up}
use Rattle.exact_span.specs.TagWord.{arc_of, sealed_frame, sealed_info, text_offset}
use Rattle.exact_span.specs.declared.{played.Played.Played, span.Span.Span}
use Rattle.frame_header.specs.{Fields.{ClassFields, HeaderFields}, Tables.{class_of, granules_of}}
use Rattle.info_header.specs.{InfoFrame.info_frame, declared.fields.Info.Info}

-- ---- words of 16 bits

-- the word of joined bytes continues the word of the first of them
abbrev pub WordsGoOn : Type 0
WordsGoOn = (word : ℕ) (x y : List ℕ) → arc_of (arc_of word x) y ≡ arc_of word (x ++ y)

-- ---- extensions

-- fields that a struct can have: the lengths of its arrays
pub record AreInfoFields (info : Info) : Type 0 where
  pub table : IfSome info.table (λ table. length table ≡ 100)
  pub extension : length info.extension ≡ 36

-- this extension is of an encoder that counts, and these are its numbers
pub record SaysNumbers (d p : ℕ) (extension : List ℕ) : Type 0 where
  pub encoder : IsTrue (has_encoder extension)
  pub delay : delay_in extension ≡ d
  pub padding : padding_in extension ≡ p

-- the extension that is written has the numbers it was written with
abbrev pub ExtensionsSay : Type 0
ExtensionsSay =
    (info : Option Info) (delay padding : ℕ) → IfSome info AreInfoFields → delay < 4096
    → padding < 4096 → SaysNumbers delay padding (extension_of info delay padding)

-- an Info frame can be sealed, and is then the Info frame of other fields, which differ in music
-- length and tag CRC alone
pub record IsInfoSealed (first : HeaderFields) (info : Info) : Type 0 where
  pub room : text_offset (class_of first) + 156 ≤ length (info_frame first info)
  pub is : sealed_frame (class_of first) (info_frame first info)
      ≡ info_frame first (sealed_info first info)
  -- its extension has the same numbers
  pub says : (d p : ℕ) → SaysNumbers d p info.extension
      → SaysNumbers d p (sealed_info first info).extension

-- every Info frame can be sealed
abbrev pub SealedFrames : Type 0
SealedFrames = (first : HeaderFields) (info : Info) → AreInfoFields info → IsInfoSealed first info

-- ---- spans

-- the file with this head and `frames` frames of this class plays the samples from a to before b,
-- and there is at least one
pub record ArePlayed (head : Option Info) (class : ClassFields) (frames a b : ℕ) : Type 0 where
  pub some : a < b
  pub most : b ≤ length_of_played (played_of head class frames)

-- the span of these samples
abbrev pub played_span : Option Info → ClassFields → ℕ → ℕ → ℕ → Span
played_span head class frames a b =
    let start = (played_of head class frames).start in span_of class (start + a) (start + b)

-- A span has a frame, and no frame that the file lacks. Both numbers have 12 bits and aren't above
-- 3,000: `lame --decode` doesn't believe greater ones. The subtraction in the delay doesn't go
-- below 0.
pub record SpanFits (class : ClassFields) (frames leads : ℕ) (span : Span) : Type 0 where
  pub some : span.first < span.last
  pub most : span.last ≤ frames
  pub delay_least : decoder_delay ≤ leads * samples_in class + span.from
  pub delay_most : delay_of class leads span ≤ 2830
  pub padding_least : 529 ≤ padding_of span
  pub padding_most : padding_of span ≤ 1680

-- the span of any played samples fits
abbrev pub SpansFit : Type 0
SpansFit =
    (head : Option Info) (class : ClassFields) (frames a b leads : ℕ) →
    let span = played_span head class frames a b in
    ArePlayed head class frames a b → AreLeads span leads → SpanFits class frames leads span

-- The head of a piece: the head of `leads` lead-ins and the frames of a span.
pub record IsPieceHead (class : ClassFields) (leads : ℕ) (span : Span) (head : Info) : Type 0 where
  pub frames : head.frames ≡ Some (leads + (span.last - span.first))
  pub numbers : SaysNumbers (delay_of class leads span) (padding_of span) head.extension

-- Position x of a piece and position y of its file are at one offset in one and the same frame: the
-- first frame after the piece's lead-ins is frame `first` of the file.
pub record IsAtOnePlace (class : ClassFields) (leads first : ℕ) (x y : ℕ) : Type 0 where
  pub frame : x / samples_in class + first ≡ y / samples_in class + leads
  pub offset : x % samples_in class ≡ y % samples_in class

-- the played positions of a piece begin and end as far from its frames as the positions from a to
-- before b of the file do, so there are as many, and each has its place
pub record KeepsPlaces (class : ClassFields) (leads first a b : ℕ) (piece file : Played)
    : Type 0 where
  pub start : piece.start + first * samples_in class ≡ file.start + a + leads * samples_in class
  pub end : piece.end + first * samples_in class ≡ file.start + b + leads * samples_in class
  pub length : length_of_played piece ≡ b - a
  pub samples : (k : ℕ) → k < b - a
      → IsAtOnePlace class leads first (piece.start + k) (file.start + a + k)

-- the played samples of a piece are the samples from a to before b of the file, each at its place
-- in its frame
abbrev pub SamplesKeepPlaces : Type 0
SamplesKeepPlaces =
    (file : Option Info) (piece : Info) (class : ClassFields) (frames a b leads : ℕ) →
    let span = played_span file class frames a b in
    ArePlayed file class frames a b → AreLeads span leads → IsPieceHead class leads span piece
    → KeepsPlaces class leads span.first a b
    (played_of (Some piece) class (leads + (span.last - span.first))) (played_of file class frames)

-- the frame in which a granule is
abbrev pub frame_of_granule : ClassFields → ℕ → ℕ
frame_of_granule class granule = granule / granules_of class.version

-- the first granule on which a position depends: the granule before the one in which the
-- filterbank's look-back begins
abbrev pub first_granule : ℕ → ℕ
first_granule y = (y - 480) / 576 - 1

-- Each granule on which a position depends is in the frames of the span. Where the span doesn't
-- begin with the file's first frame, the first position has its whole warm-up.
pub record IsSpanWarm (class : ClassFields) (p q : ℕ) (span : Span) : Type 0 where
  pub granules : (y k : ℕ) → p ≤ y → y < q → first_granule y ≤ k → k ≤ y / 576
      → (span.first ≤ frame_of_granule class k) × (frame_of_granule class k < span.last)
  pub whole : 0 < span.first → span.first * samples_in class + warm_up ≤ p

-- each granule on which the wanted positions depend is in their span
abbrev pub SpansAreWarm : Type 0
SpansAreWarm = (class : ClassFields) (p q : ℕ) → IsSpanWarm class p q (span_of class p q)

-- ---- pieces of a split

-- the samples from a to before b
abbrev pub samples_between : ℕ → ℕ → List ℕ
samples_between a b = range_with_len a (b - a)

-- the samples of the pieces from each point to the next, in order
unfoldable pub pieces_samples : ℕ → List ℕ → List ℕ
pieces_samples a [] = []
pieces_samples a (b ∷ points) = samples_between a b ++ pieces_samples b points

-- the last of a point and the points after it
abbrev pub last_point : ℕ → List ℕ → ℕ
last_point a [] = a
last_point a (b ∷ points) = last_point b points

-- no point is before the point that precedes it in the list
abbrev pub PointsAscend : ℕ → List ℕ → Type 0
PointsAscend a [] = ⊤
PointsAscend a (b ∷ points) = (a ≤ b) × PointsAscend b points

-- the pieces between ascending points have each sample from the first point to the last once, in
-- order
abbrev pub PiecesAreTheWhole : Type 0
PiecesAreTheWhole =
    (a : ℕ) (points : List ℕ) → PointsAscend a points
    → pieces_samples a points ≡ samples_between a (last_point a points)

-- The frames of a file between two numbers, as rows, in its stream and as frames of a splice.
use Rattle.std.proofs.Common.{ap, ap₂, arith, drop, length, length-drop, length-take, List, map}
use Rattle.std.proofs.Common.{slice_range, subst, sym, take, take-add, true, zip, ℕ, [], ◌++◌, ◌+◌}
use Rattle.std.proofs.Common.{◌-◌, ◌∙◌, ◌∷◌, ◌≡◌, ◌≤◌}
use Rattle.std.proofs.lemmas.List.{drop-drop, drop-take, length-map, length-take-le, map-append}
use Rattle.frame_header.specs.Tables.{window_of}
use Rattle.laying.proofs.{HoldLemmas.all-length, NeedsFitLemmas.{AreKnown, part-fits, part-known}}
use Rattle.laying.{proofs.SurveyFrameLemmas.frames-of, specs.LaidFiles.stream_entry}
use Rattle.laying.specs.{Needs.need_of, Relaid.all_frames, Surveys.CanBeRelaid}
use Rattle.seam_laws.proofs.LaidInputLemmas.{frames-same}
use Rattle.seam_laws.proofs.SeamlessInputLemmas.{splice-needs, splice-sounds}
use Rattle.seam_laws.specs.SpliceLaws.{AreHeadersKnown}
use Rattle.seam_plan.proofs.{FitLemmas.fits-tested, FollowLemmas.sounds}
use Rattle.seam_plan.specs.{Frames.{needs_of, SpliceFrame}, Joins.fits_behind}
use Rattle.seamless_edits.specs.Seamless.{sound_of, splice_frame}
use Rattle.slot_plan.specs.FreeBytes.{FitsBehind}
use Rattle.sync_survey.specs.{Faults.{stream_of_survey, SurveyFields}, MainData.StreamFrame}
use Rattle.sync_survey.specs.Row.{Row}

-- ---- lists

-- a range and the one right after it are one range
pub range-append : {X : Type 0} (xs : List X) {a b c : ℕ} → a ≤ b → b ≤ c
    → slice_range xs a b ++ slice_range xs b c ≡ slice_range xs a c
range-append xs {a} {b} {c} first second =
    grind (arith, drop-drop (b - a) a xs, take-add (b - a) (c - b) (drop a xs))

-- a range without its first items is the range from further on
pub range-drop : {X : Type 0} (xs : List X) (from to : ℕ) {k : ℕ} → k ≤ to - from
    → drop k (slice_range xs from to) ≡ slice_range xs (from + k) to
range-drop xs from to {k} few =
    grind (arith, drop-take k (to - (from + k)) (drop from xs), drop-drop k from xs)

-- how many items a range has
pub range-length : {X : Type 0} (xs : List X) (from : ℕ) {to : ℕ} → to ≤ length xs
    → length (slice_range xs from to) ≡ to - from
range-length xs from within = grind (arith, length-take-le, length-drop)

-- nothing is between a place and itself
pub range-none : {X : Type 0} (xs : List X) (a : ℕ) → slice_range xs a a ≡ []
range-none xs a = let none : a - a ≡ 0 = omega arith in ap (λ n. take n (drop a xs)) none

-- ---- the frames between two numbers

module _ (file : List ℕ) (s : SurveyFields) where
  -- all frames of the stream
  abbrev pub all_stream : List StreamFrame
  all_stream = stream_of_survey file s

  -- the frames between two numbers, as frames of a splice
  abbrev pub splice_between : ℕ → ℕ → List SpliceFrame
  splice_between a b =
      map (splice_frame s.class) (zip (slice_range s.frames a b) (slice_range all_stream a b))

module _ {file : List ℕ} {s : SurveyFields} (has : CanBeRelaid file s) where
  abbrev st : List StreamFrame
  st = all_stream file s

  abbrev splice : ℕ → ℕ → List SpliceFrame
  splice a b = splice_between file s a b

  abbrev window : ℕ
  window = window_of s.class.version

  -- the stream has as many frames as there are rows
  pub stream-many : length st ≡ length s.frames
  stream-many =
      let are = frames-of has in
      ap length (sym are.stream_is)
      ∙ length-map (all_frames file s) stream_entry ∙ all-length file s

  -- between two numbers, there are as many frames of the stream as rows
  pub same-many : (a b : ℕ)
      → length (slice_range st a b) ≡ length (slice_range s.frames a b)
  same-many a b = grind (arith, length-take, length-drop, stream-many)

  -- the frames between two numbers need what the rows there do
  pub between-needs : (a b : ℕ)
      → needs_of (splice a b) ≡ map need_of (slice_range s.frames a b)
  between-needs a b = grind (arith, splice-needs, same-many)

  -- the frames between two numbers sound as the stream does
  pub between-sounds : (a b : ℕ)
      → sounds (splice a b) ≡ map (sound_of s.class) (slice_range st a b)
  between-sounds a b = grind (arith, splice-sounds, same-many)

  -- the frames of two neighbouring ranges are the frames from the first number to the last
  pub between-append : {a b c : ℕ} → a ≤ b → b ≤ c
      → splice a b ++ splice b c ≡ splice a c
  between-append {a} {b} {c} first second =
      frames-same (splice a b ++ splice b c) (splice a c)
      (map-append (λ (f : SpliceFrame). f.need) (splice a b) (splice b c)
      ∙ ap₂ ◌++◌ (between-needs a b) (between-needs b c)
      ∙ sym (map-append need_of (slice_range s.frames a b) (slice_range s.frames b c))
      ∙ ap (map need_of) (range-append s.frames first second) ∙ sym (between-needs a c))
      (map-append (λ (f : SpliceFrame). f.sound) (splice a b) (splice b c)
      ∙ ap₂ ◌++◌ (between-sounds a b) (between-sounds b c)
      ∙ sym (map-append (sound_of s.class) (slice_range st a b)
      (slice_range st b c))
      ∙ ap (map (sound_of s.class)) (range-append st first second)
      ∙ sym (between-sounds a c))

  -- there is nothing between a number and itself
  pub between-none : (a : ℕ) → splice a a ≡ []
  between-none a = grind (arith, range-none)

  known-splice : (rows : List Row) (stream : List StreamFrame) → AreKnown rows
      → AreHeadersKnown (map (splice_frame s.class) (zip rows stream))
  known-splice [] stream known = tt
  known-splice (r ∷ rows) [] known = tt
  known-splice (r ∷ rows) (f ∷ stream) known = (known.0, known-splice rows stream known.1)

  -- their headers are headers of the standard
  pub between-known : (a b : ℕ) → AreHeadersKnown (splice a b)
  between-known a b = grind (arith, known-splice, part-known)

  -- they fit after a whole window
  pub between-fits : (a b : ℕ) → fits_behind window window (needs_of (splice a b)) ≡ true
  between-fits a b =
      (fits-tested window window (needs_of (splice a b))).1
      (subst (FitsBehind window window) (sym (between-needs a b)) (part-fits s a b has.placed).1)

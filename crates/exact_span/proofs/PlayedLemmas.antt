-- Laws of the played positions of a file and of a piece of it.
use Rattle.std.proofs.Common.{ap, ap₂, arith, Bool, cond, false, ltb, min, None, Option, Some, true}
use Rattle.std.proofs.Common.{ℕ, ◌%◌, ◌&&◌, ◌*◌, ◌+◌, ◌-◌, ◌/◌, ◌<◌, ◌∙◌, ◌≡◌, ◌≤◌}
use Rattle.std.proofs.{Math.Nat.min-eq_right, lemmas.Bool.{le-leb, le-ltb}}
use Rattle.exact_span.proofs.SpanLemmas.{numbers-in_range}
use Rattle.exact_span.specs.Extensions.{counts_of, counts_with_frames, delay_in, has_encoder}
use Rattle.exact_span.specs.Extensions.{padding_in}
use Rattle.exact_span.specs.Laws.{ArePlayed, IsAtOnePlace, IsPieceHead, KeepsPlaces, played_span}
use Rattle.exact_span.specs.Laws.{SaysNumbers, SpanFits}
use Rattle.exact_span.specs.PlayedPositions.{decoder_delay, played_of, played_or_all, samples_in}
use Rattle.exact_span.specs.Spans.{AreLeads, frames_before, span_of, warm_up_frame}
use Rattle.exact_span.specs.declared.{extensions.HeadCounts.HeadCounts, played.Played.Played}
use Rattle.frame_header.specs.{Fields.ClassFields, Tables.samples_of}
use Rattle.frame_header.specs.declared.version.Version.{Version, TheVariants.{One, Two, TwoFive}}
use Rattle.info_header.specs.declared.fields.Info.{Info}

-- ---- no played position is after the last frame

end_if : (b : Bool) (all counted : ℕ) → cond b all (min all counted) ≤ all
end_if true all counted = omega arith
end_if false all counted = omega arith

end_within : (samples frames : ℕ) (counts : Option HeadCounts)
    → (played_or_all samples frames counts).end ≤ frames * samples
end_within samples frames None = omega arith
end_within samples frames (Some counts) =
    end_if (ltb counts.frames frames) (frames * samples)
    (counts.frames * samples + decoder_delay - counts.padding)

-- no played position is after the last frame
pub played-within : (head : Option Info) (class : ClassFields) (frames : ℕ)
    → (played_of head class frames).end ≤ frames * samples_in class
unfolding played_of
played-within head class frames = end_within (samples_in class) frames (counts_of head)

-- ---- the played positions of a piece

counts-are : (piece : Info) {frames delay padding : ℕ} → piece.frames ≡ Some frames → 1 ≤ frames
    → SaysNumbers delay padding piece.extension
    → counts_of (Some piece) ≡ Some (record { frames = frames; delay = delay; padding = padding })
counts-are piece {frames} {delay} {padding} is some says =
    ap (counts_with_frames piece) is
    ∙ ap (λ b. cond (b && has_encoder piece.extension) (Some (record {
      frames = frames;
      delay = delay_in piece.extension;
      padding = padding_in piece.extension;
    })) None) (le-leb 1 frames some)
    ∙ ap (λ b. cond (true && b) (Some (record {
      frames = frames;
      delay = delay_in piece.extension;
      padding = padding_in piece.extension;
    })) None) says.encoder
    ∙ ap₂ (λ d p. Some (record { frames = frames; delay = d; padding = p })) says.delay says.padding

end-own : (samples frames : ℕ) {padding : ℕ} → 529 ≤ padding →
    cond (ltb frames frames) (frames * samples) (min (frames * samples)
    (frames * samples + decoder_delay - padding)) ≡ frames * samples + decoder_delay - padding
end-own samples frames {padding} enough =
    ap (λ b. cond b (frames * samples) (min (frames * samples)
    (frames * samples + decoder_delay - padding))) (le-ltb frames frames (omega arith))
    ∙ min-eq_right (omega arith)

-- a piece of `frames` frames with these numbers plays the positions from `delay` + 529 on, up to
-- `padding` - 529 before its end
piece-played : (class : ClassFields) (piece : Info) {frames delay padding : ℕ}
    → piece.frames ≡ Some frames → 1 ≤ frames → 529 ≤ padding
    → SaysNumbers delay padding piece.extension → played_of (Some piece) class frames ≡ record {
      start = delay + decoder_delay;
      end = frames * samples_in class + decoder_delay - padding;
    }
unfolding played_of
piece-played class piece {frames} {delay} {padding} is some enough says =
    ap (played_or_all (samples_in class) frames)
    (counts-are piece is some says)
    ∙ ap (λ e. record { start = delay + decoder_delay; end = e })
    (end-own (samples_in class) frames enough)

-- ---- the places of samples

starts-at : (version : Version) (leads p : ℕ) → decoder_delay
    ≤ leads * samples_of version + (p - warm_up_frame (samples_of version) p * samples_of version)
    → leads * samples_of version + (p - warm_up_frame (samples_of version) p * samples_of version)
    - decoder_delay + decoder_delay + warm_up_frame (samples_of version) p * samples_of version
    ≡ p + leads * samples_of version
starts-at One leads p enough = omega arith
starts-at Two leads p enough = omega arith
starts-at TwoFive leads p enough = omega arith

ends-at : (version : Version) (leads : ℕ) {p q : ℕ} → p < q
    → (leads + (frames_before (samples_of version) q - warm_up_frame (samples_of version) p))
    * samples_of version + decoder_delay
    - (frames_before (samples_of version) q * samples_of version - q + decoder_delay)
    + warm_up_frame (samples_of version) p * samples_of version
    ≡ q + leads * samples_of version
ends-at One leads some = omega arith
ends-at Two leads some = omega arith
ends-at TwoFive leads some = omega arith

-- positions that differ by whole frames are at one offset in one and the same frame
at-one-place : (version : Version) (leads first x y : ℕ)
    → x + first * samples_of version ≡ y + leads * samples_of version
    → (x / samples_of version + first ≡ y / samples_of version + leads)
    × (x % samples_of version ≡ y % samples_of version)
at-one-place One leads first x y same = (omega arith, omega arith)
at-one-place Two leads first x y same = (omega arith, omega arith)
at-one-place TwoFive leads first x y same = (omega arith, omega arith)

length-kept : (start end before a b after from : ℕ) → start + before ≡ from + a + after
    → end + before ≡ from + b + after → end - start ≡ b - a
length-kept start end before a b after from first last = omega arith

sample-kept : {class : ClassFields} {leads first : ℕ} (start from a k : ℕ)
    → start + first * samples_in class ≡ from + a + leads * samples_in class
    → IsAtOnePlace class leads first (start + k) (from + a + k)
sample-kept {class} {leads} {first} start from a k same =
    let further : start + k + first * samples_in class ≡ from + a + k + leads * samples_in class =
    omega (arith, same) in
    let place = at-one-place class.version leads first (start + k) (from + a + k) further in
    record { frame = place.0; offset = place.1 }

kept-by : {class : ClassFields} {leads first a b : ℕ} {piece file : Played}
    → piece.start + first * samples_in class ≡ file.start + a + leads * samples_in class
    → piece.end + first * samples_in class ≡ file.start + b + leads * samples_in class
    → KeepsPlaces class leads first a b piece file
kept-by {class} {leads} {first} {a} {b} {piece} {file} start end = record {
  start = start;
  end = end;
  length = length-kept piece.start piece.end (first * samples_in class) a b
      (leads * samples_in class) file.start start end;
  samples = λ k _. sample-kept piece.start file.start a k start;
}

-- ---- spans of played positions

last-within : (version : Version) {frames p q : ℕ} → p < q → q ≤ frames * samples_of version
    → (warm_up_frame (samples_of version) p < frames_before (samples_of version) q)
    × (frames_before (samples_of version) q ≤ frames)
last-within One some most = (omega arith, omega arith)
last-within Two some most = (omega arith, omega arith)
last-within TwoFive some most = (omega arith, omega arith)

module _ (class : ClassFields) (frames p q leads : ℕ) where
  span-fits : p < q → q ≤ frames * samples_in class → AreLeads (span_of class p q) leads
      → SpanFits class frames leads (span_of class p q)
  unfolding span_of
  span-fits some most are =
      let in_range = numbers-in_range {class = class} p q {leads = leads} are in
      let within = last-within class.version {frames = frames} {p = p} {q = q} some most in
      record {
        some = within.0;
        most = within.1;
        delay_least = in_range.delay_least;
        delay_most = in_range.delay_most;
        padding_least = in_range.padding_least;
        padding_most = in_range.padding_most;
      }

  -- the played positions of a piece keep their places
  piece-kept : {piece : Info} → p < q → SpanFits class frames leads (span_of class p q)
      → IsPieceHead class leads (span_of class p q) piece →
      let played = played_of (Some piece) class
      (leads + ((span_of class p q).last - (span_of class p q).first)) in
      let before = (span_of class p q).first * samples_in class in
      (played.start + before ≡ p + leads * samples_in class)
      × (played.end + before ≡ q + leads * samples_in class)
  unfolding span_of
  piece-kept {piece} some fits head =
      let first = warm_up_frame (samples_in class) p in
      let last = frames_before (samples_in class) q in
      let count = leads + (last - first) in
      let delay = leads * samples_in class + (p - first * samples_in class) - decoder_delay in
      let padding = last * samples_in class - q + decoder_delay in
      let is = piece-played class piece head.frames (omega (arith, fits.some))
      (omega arith) head.numbers in (
        ap (λ (played : Played). played.start + first * samples_in class) is
            ∙ starts-at class.version leads p fits.delay_least,
        ap (λ (played : Played). played.end + first * samples_in class) is
            ∙ ends-at class.version leads some,
      )

-- the span of played positions is within the frames, and its numbers are in range
pub spans-fit : (head : Option Info) (class : ClassFields) (frames a b leads : ℕ)
    → ArePlayed head class frames a b → AreLeads (played_span head class frames a b) leads
    → SpanFits class frames leads (played_span head class frames a b)
spans-fit head class frames a b leads played are =
    let start = (played_of head class frames).start in
    span-fits class frames (start + a) (start + b) leads (omega (arith, played.some))
    (omega (arith, played.some, played.most, played-within head class frames)) are

-- the played positions of a piece begin and end as far from its frames as the chosen positions of
-- the file do
pub places-kept : (file : Option Info) (piece : Info) (class : ClassFields) (frames a b leads : ℕ)
    → ArePlayed file class frames a b → AreLeads (played_span file class frames a b) leads
    → IsPieceHead class leads (played_span file class frames a b) piece
    → KeepsPlaces class leads (played_span file class frames a b).first a b
    (played_of (Some piece) class
    (leads
    + ((played_span file class frames a b).last - (played_span file class frames a b).first)))
    (played_of file class frames)
places-kept file piece class frames a b leads played are head =
    let start = (played_of file class frames).start in
    let some : start + a < start + b = omega (arith, played.some) in
    let kept = piece-kept class frames (start + a) (start + b) leads some
    (spans-fit file class frames a b leads played are) head in
    kept-by kept.0 kept.1

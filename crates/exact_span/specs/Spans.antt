-- The frames that a decoder needs for some positions, and the delay and the padding with which a
-- player plays exactly these.
use Rattle.std.specs.Prelude.{IsTrue, nat_lt, ℕ, ◌*◌, ◌+◌, ◌-◌, ◌/◌, ◌<◌, ◌≡◌, ◌≤◌}
use Rattle.exact_span.specs.{PlayedPositions.{decoder_delay, samples_in}, declared.span.Span.Span}
use Rattle.frame_header.specs.Fields.{ClassFields}

-- How many positions before the first wanted one a decoder has to begin: it adds the second half of
-- each granule to the next (576), and its filterbank looks 15 steps of 32 samples back (480); both
-- are in ISO/IEC 11172-3, 2.4.3.
abbrev pub warm_up : ℕ
warm_up = 1056

-- the frame in which the warm-up of position p begins; the first frame if it would begin earlier
abbrev pub warm_up_frame : ℕ → ℕ → ℕ
warm_up_frame samples p = (p - warm_up) / samples

-- how many frames are needed for the positions before q
abbrev pub frames_before : ℕ → ℕ → ℕ
frames_before samples q = (q + samples - 1) / samples

-- The span of the positions from p to before q: its first frame, the frame after its last one,
-- whether there has to be a lead-in before it because p is within the decoder's delay, and how far
-- p is from its beginning and q from its end.
unfoldable pub span_of : ClassFields → ℕ → ℕ → Span
span_of class p q =
    let samples = samples_in class in
    record {
      first = warm_up_frame samples p;
      last = frames_before samples q;
      led = nat_lt p decoder_delay;
      from = p - warm_up_frame samples p * samples;
      to = frames_before samples q * samples - q;
    }

-- this is the span of some positions
pub record IsSpan (class : ClassFields) (span : Span) : Type 0 where
  pub p : ℕ
  pub q : ℕ
  pub some : p < q
  pub is : span ≡ span_of class p q

-- there is at most one lead-in before the span, and one where there has to be one
pub record AreLeads (span : Span) (leads : ℕ) : Type 0 where
  pub one : leads ≤ 1
  pub led : IsTrue span.led → leads ≡ 1

-- the delay to be written: how far the first wanted position is from the beginning of the frames
-- with their lead-in, less what players add
abbrev pub delay_of : ClassFields → ℕ → Span → ℕ
delay_of class leads span = leads * samples_in class + span.from - decoder_delay

-- the padding to be written: how far the last wanted position is from the end of the frames, plus
-- what players take off
abbrev pub padding_of : Span → ℕ
padding_of span = span.to + decoder_delay

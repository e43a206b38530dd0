-- Laws of spans, by the number of samples in a frame.
use Rattle.std.proofs.Common.{arith, inl, inr, IsTrue, ltb, subst, sym, ℕ, ◌*◌, ◌+◌, ◌-◌, ◌/◌, ◌<◌}
use Rattle.std.proofs.{Common.{◌≡◌, ◌≤◌}, lemmas.Bool.{cases_lt, lt-ltb}}
use Rattle.exact_span.specs.Laws.{first_granule, IsSpanWarm}
use Rattle.exact_span.specs.PlayedPositions.{decoder_delay, samples_in}
use Rattle.exact_span.specs.Spans.{AreLeads, delay_of, frames_before, IsSpan, padding_of, span_of}
use Rattle.exact_span.specs.{Spans.{warm_up, warm_up_frame}, declared.span.Span.Span}
use Rattle.frame_header.specs.{Fields.ClassFields, Tables.{granules_of, samples_of}}
use Rattle.frame_header.specs.declared.version.Version.{Version, TheVariants.{One, Two, TwoFive}}

-- each granule on which a position depends is in the frames
granule-in : (version : Version) (p q y k : ℕ) → p ≤ y → y < q → first_granule y ≤ k → k ≤ y / 576
    → (warm_up_frame (samples_of version) p ≤ k / granules_of version)
    × (k / granules_of version < frames_before (samples_of version) q)
granule-in One p q y k after before low high = (omega arith, omega arith)
granule-in Two p q y k after before low high = (omega arith, omega arith)
granule-in TwoFive p q y k after before low high = (omega arith, omega arith)

warm-whole : (version : Version) (p : ℕ) → 0 < warm_up_frame (samples_of version) p
    → warm_up_frame (samples_of version) p * samples_of version + warm_up ≤ p
warm-whole One p some = omega arith
warm-whole Two p some = omega arith
warm-whole TwoFive p some = omega arith

-- a span has the granules of its positions, and its warm-up before them
pub spans-warm : (class : ClassFields) (p q : ℕ) → IsSpanWarm class p q (span_of class p q)
unfolding span_of
spans-warm class p q =
    record { granules = granule-in class.version p q; whole = warm-whole class.version p }

-- ---- the numbers of a span

-- both numbers are in range, and the subtraction in the delay doesn't go below 0
pub record AreInRange (class : ClassFields) (leads : ℕ) (span : Span) : Type 0 where
  pub delay_least : decoder_delay ≤ leads * samples_in class + span.from
  pub delay_most : delay_of class leads span ≤ 2830
  pub padding_least : 529 ≤ padding_of span
  pub padding_most : padding_of span ≤ 1680

-- either the first position is after the decoder's delay, or there is a lead-in
enough : (p : ℕ) {leads : ℕ} → (IsTrue (ltb p decoder_delay) → leads ≡ 1)
    → decoder_delay ≤ leads * 576 + p
enough p led =
    elim (cases_lt p decoder_delay) [
      | inl early ↦ let one = led (lt-ltb p decoder_delay early) in omega (arith, one)
      | inr late ↦ omega (arith, late)
    ]

delay-in_range : (version : Version) (p : ℕ) {leads : ℕ} → leads ≤ 1
    → decoder_delay ≤ leads * 576 + p →
    let from = p - warm_up_frame (samples_of version) p * samples_of version in
    (decoder_delay ≤ leads * samples_of version + from)
    × (leads * samples_of version + from - decoder_delay ≤ 2830)
delay-in_range One p one late = (omega arith, omega arith)
delay-in_range Two p one late = (omega arith, omega arith)
delay-in_range TwoFive p one late = (omega arith, omega arith)

padding-in_range : (version : Version) (q : ℕ)
    → frames_before (samples_of version) q * samples_of version - q + decoder_delay ≤ 1680
padding-in_range One q = omega arith
padding-in_range Two q = omega arith
padding-in_range TwoFive q = omega arith

-- the numbers of a span with its lead-ins are in range
pub numbers-in_range : {class : ClassFields} (p q : ℕ) {leads : ℕ}
    → AreLeads (span_of class p q) leads → AreInRange class leads (span_of class p q)
unfolding span_of
numbers-in_range {class} p q {leads} are =
    let delay = delay-in_range class.version p are.one (enough p are.led) in
    record {
      delay_least = delay.0;
      delay_most = delay.1;
      padding_least = omega arith;
      padding_most =
          padding-in_range class.version q;
    }

-- the numbers of any span of positions are in range too
pub span-in_range : {class : ClassFields} {span : Span} {leads : ℕ} → IsSpan class span
    → AreLeads span leads → AreInRange class leads span
span-in_range {class} {leads = leads} of are =
    let P : Span → Type 0 = λ s. AreInRange class leads s in
    let Q : Span → Type 0 = λ s. AreLeads s leads in
    subst P (sym of.is) (numbers-in_range of.p of.q (subst Q of.is are))

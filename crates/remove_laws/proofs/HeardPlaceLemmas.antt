-- What is heard goes from the place of the first heard position to that of the last.
use Rattle.std.proofs.Common.{arith, Bool, cond, false, inl, inr, length, List, None, Option, refl}
use Rattle.std.proofs.Common.{Some, subst, sym, true, ℕ, [], ◌*◌, ◌+◌, ◌-◌, ◌<◌, ◌∷◌, ◌≡◌, ◌≤◌}
use Rattle.std.{proofs.lemmas.Bool.{ltb-false, ltb-true}, specs.Prelude.nat_lt}
use Rattle.cut_edits.specs.Exact.{survey_without_head}
use Rattle.exact_span.proofs.HeardLemmas.{heard-cons, heard-nil}
use Rattle.exact_span.specs.Heard.{end_in, first_in, first_to_last, heard_in, heard_of}
use Rattle.exact_span.specs.{Heard.{joined_heard, place_in}, PlayedPositions.samples_in}
use Rattle.exact_span.specs.declared.{played.Played.Played, written.Heard.Heard}
use Rattle.exact_span.specs.declared.written.WrittenFrames.{WrittenFrames}
use Rattle.frame_header.specs.{Fields.ClassFields, Tables.samples_of}
use Rattle.frame_header.specs.declared.version.Version.{Version, TheVariants.{One, Two, TwoFive}}
use Rattle.remove_edits.proofs.CommandLemmas.{left-parts}
use Rattle.remove_edits.specs.Removed.{all_parts_written, items_left, places_before, plan_of_items}
use Rattle.remove_laws.proofs.WrittenLemmas.{AreWrittenFrom, parts-from}
use Rattle.remove_laws.specs.NumberLaws.{AreHeard, HeardIsFirstToLast, IsFirstToLast, IsHeardAt}
use Rattle.remove_laws.specs.NumberLaws.{IsHeardIn}
use Rattle.seam_plan.specs.declared.stretches.Part.{Part}
use Rattle.sync_survey.specs.Faults.{SurveyFields}

-- ---- frames and their samples

-- the positions of some frames, in the file and where they are written
record HasSamples (samples n : ℕ) (w : WrittenFrames) : Type 0 where
  before : n * samples ≤ w.at * samples
  long : w.at * samples + (w.to * samples - w.from * samples)
      ≡ (w.at + (w.to - w.from)) * samples
  some : w.from * samples ≤ w.to * samples

samples-are : (v : Version) {n : ℕ} {w : WrittenFrames} → n ≤ w.at → w.from < w.to
    → HasSamples (samples_of v) n w
samples-are One least some =
    record { before = omega (arith, least); long = omega (arith, some); some = omega (arith, some) }
samples-are Two least some =
    record { before = omega (arith, least); long = omega (arith, some); some = omega (arith, some) }
samples-are TwoFive least some =
    record { before = omega (arith, least); long = omega (arith, some); some = omega (arith, some) }

module _ (class : ClassFields) (played : Played) where
  abbrev samples : ℕ
  samples = samples_in class

  -- what is heard of these frames, which begin at frame n or later where they are written
  abbrev HeardFrom : ℕ → List WrittenFrames → Option Heard → Type 0
  HeardFrom n written None = AreHeard class played written None
  HeardFrom n written (Some heard) =
      (n * samples ≤ heard.first) × IsFirstToLast class played written heard

  module _ {n : ℕ} {w : WrittenFrames} (written : List WrittenFrames) (has : HasSamples samples n w)
    where
      abbrev first : ℕ
      first = first_in samples played w

      abbrev end : ℕ
      end = end_in samples played w

      abbrev here : Heard
      here = record { first = place_in samples w first; end = place_in samples w end }

      not-here : end ≤ first → {position place : ℕ} → IsHeardIn class played w position place → ⊥
      not-here none is = omega (arith, none, is.from, is.to, is.start, is.end)

      within : {position place : ℕ} → IsHeardIn class played w position place
          → (here.first ≤ place) × (place < here.end)
      within is =
          (omega (arith, is.is, is.from, is.start), omega (arith, is.is, is.from, is.to, is.end))

      module _ (some : first < end) where
        first-is : IsHeardIn class played w first here.first
        first-is = record {
          from = omega arith;
          to = omega (arith, some);
          start = omega arith;
          end = omega (arith, some);
          is = refl;
        }

        last-is : IsHeardIn class played w (end - 1) (place_in samples w (end - 1))
        last-is = record {
          from = omega (arith, some);
          to = omega (arith, some);
          start = omega (arith, some);
          end = omega (arith, some);
          is = refl;
        }

        last-end : place_in samples w (end - 1) + 1 ≡ here.end
        last-end = omega (arith, some)

        least : n * samples ≤ here.first
        least = omega (arith, has.before)

        most : here.end ≤ (w.at + (w.to - w.from)) * samples
        most = omega (arith, has.long)

        only-here : AreHeard class played written None
            → HeardFrom n (w ∷ written) (Some here)
        only-here none = (
          least,
          record {
            first = (first, inl first-is);
            last = (end - 1, place_in samples w (end - 1), inl last-is, last-end);
            all = all;
          },
        )
          where
            all : (position place : ℕ) → IsHeardAt class played (w ∷ written) position place
                → (here.first ≤ place) × (place < here.end)
            all position place (inl is) = within is
            all position place (inr later) = absurd (none position place later)

        and-later : (heard : Heard)
            → HeardFrom (w.at + (w.to - w.from)) written (Some heard)
            → HeardFrom n (w ∷ written)
            (Some (record { first = here.first; end = heard.end }))
        and-later heard later = (
          least,
          record {
            first = (first, inl first-is);
            last = (later.1.last.0, later.1.last.1, inr later.1.last.2, later.1.last.3);
            all = all;
          },
        )
          where
            rises : heard.first < heard.end
            rises = (later.1.all later.1.first.0 heard.first later.1.first.1).1

            all : (position place : ℕ) → IsHeardAt class played (w ∷ written) position place
                → (here.first ≤ place) × (place < heard.end)
            all position place (inl is) =
                let own = within is in
                (own.0, omega (arith, own.1, most, later.0, rises))
            all position place (inr is) =
                let other = later.1.all position place is in
                (omega (arith, within first-is, most, later.0, other.0), other.1)

      skips : end ≤ first → (heard : Heard)
          → HeardFrom (w.at + (w.to - w.from)) written (Some heard)
          → HeardFrom n (w ∷ written) (Some heard)
      skips none heard later = (
        omega (arith, has.before, has.long, later.0),
        record {
          first = (later.1.first.0, inr later.1.first.1);
          last = (later.1.last.0, later.1.last.1, inr later.1.last.2, later.1.last.3);
          all = all;
        },
      )
        where
          all : (position place : ℕ) → IsHeardAt class played (w ∷ written) position place
              → (heard.first ≤ place) × (place < heard.end)
          all position place (inl is) = absurd (not-here none is)
          all position place (inr is) = later.1.all position place is

      none-heard : end ≤ first → AreHeard class played written None
          → (position place : ℕ) → IsHeardAt class played (w ∷ written) position place → ⊥
      none-heard none later position place (inl is) = not-here none is
      none-heard none later position place (inr is) = later position place is

      here-and : (o : Option Heard) → HeardFrom (w.at + (w.to - w.from)) written o
          → HeardFrom n (w ∷ written) (joined_heard (first_to_last (heard_in samples played w)) o)
      unfolding first_to_last
      here-and o later = by (nat_lt first end) refl o later
        where
          by : (b : Bool) → nat_lt first end ≡ b → (r : Option Heard)
              → HeardFrom (w.at + (w.to - w.from)) written r
              → HeardFrom n (w ∷ written)
              (joined_heard (first_to_last (cond b (here ∷ []) [])) r)
          by true some None rest = only-here (ltb-true first end some) rest
          by true some (Some heard) rest = and-later (ltb-true first end some) heard rest
          by false none None rest = none-heard (ltb-false first end none) rest
          by false none (Some heard) rest = skips (ltb-false first end none) heard rest

  heard-from : (n : ℕ) (written : List WrittenFrames) → AreWrittenFrom n written
      → HeardFrom n written (heard_of class played written)
  heard-from n [] from =
      subst (HeardFrom n []) (sym (heard-nil class played)) (λ position place is. is)
  heard-from n (w ∷ written) from =
      subst (HeardFrom n (w ∷ written)) (sym (heard-cons class played w written))
      (here-and written (samples-are class.version from.0 from.1)
      (heard_of class played written)
      (heard-from (w.at + (w.to - w.from)) written from.2))

  are-heard : (n : ℕ) (written : List WrittenFrames) (o : Option Heard)
      → HeardFrom n written o → AreHeard class played written o
  are-heard n written None is = is
  are-heard n written (Some heard) is = is.1

-- the law of the parts that `remove` leaves
pub first-to-last : HeardIsFirstToLast
first-to-last stretches file s [] played is left =
    absurd (omega (arith, (left-parts stretches file is left).some))
first-to-last stretches file s (first ∷ later) played is left =
    let apart : SurveyFields = survey_without_head s in
    let parts : List Part = first ∷ later in
    let can = left-parts stretches file is left in
    let items = items_left apart parts in
    let at = places_before items (plan_of_items apart items) in
    let written = all_parts_written apart parts in
    are-heard apart.class played at written (heard_of apart.class played written)
    (heard-from apart.class played at written
    (parts-from parts at items 0 (length apart.frames) can.order))

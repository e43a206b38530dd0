-- An exact piece is laid by the first of all plans, and plays its samples as it
-- is read: its file is an input of a join, which is a span of the recording.
use Rattle.std.proofs.Common.{ap, ap₂, arith, Bool, false, inl, length, List, map, Ok, refl, Some}
use Rattle.std.proofs.Common.{subst, sym, true, ℕ, [], ◌++◌, ◌+◌, ◌-◌, ◌∙◌, ◌∷◌, ◌≡◌}
use Rattle.std.{proofs.lemmas.Bool.{both_ways, lt-ltb, ltb-true}, specs.Prelude.nat_lt}
use Rattle.commands.proofs.{MadeLemmas.some-frames, RefusingLemmas.then_ok}
use Rattle.cut_edits.proofs.{ChosenLemmas.the-plan, SpanLemmas.led-is}
use Rattle.cut_edits.specs.Exact.{exact_part, span_lead_ins, span_needs, span_piece, span_plan}
use Rattle.cut_edits.specs.Exact.{survey_without_head}
use Rattle.exact_laws.proofs.ExactFileLemmas.{choice, has-own, head, inside, IsExact, IsFound, laid}
use Rattle.exact_laws.proofs.ExactFileLemmas.{own, piece-is, span, span-found, span-right}
use Rattle.exact_laws.proofs.{ExactSpanLemmas.{has-span, kept}, PlayLemmas.pieces-play}
use Rattle.exact_laws.proofs.RecordingLemmas.{between-plays, pieces-recording}
use Rattle.exact_laws.proofs.SpanSpliceLemmas.{span-many}
use Rattle.exact_laws.specs.PieceLaws.{all_read_samples, AreSurveysOf, ExactPiecesPlayAsRead}
use Rattle.exact_laws.specs.PieceLaws.{ExactPlansAreFirst, first_position, HoldsInTurn, IsExactPlan}
use Rattle.exact_laws.specs.PieceLaws.{IsPlanFrom, piece_file, PlaysAsRead, read_samples}
use Rattle.exact_laws.specs.Recording.{all_piece_samples, piece_played, piece_samples, PlayInTurn}
use Rattle.exact_laws.specs.{Recording.PlaysBetween, SampleLaws.PlaysItsSamples}
use Rattle.exact_span.specs.{Laws.KeepsPlaces, PlayedPositions.played_of, Spans.span_of}
use Rattle.exact_span.specs.declared.{exact_place.ExactPlace.ExactPlace, span.Span.Span}
use Rattle.frame_header.specs.{Fields.ClassFields, Tables.window_of}
use Rattle.laying.{proofs.SurveyFrameLemmas.survey-had, specs.Laid.{info_laid, LaidPart}}
use Rattle.laying.specs.{NeedsFit.own_choice, Relaid.FilePart}
use Rattle.seam_laws.proofs.LaidInputLemmas.{class-same, IsFileOf, laid-whole}
use Rattle.seam_laws.proofs.PieceListLemmas.{Recording, recording}
use Rattle.seam_laws.proofs.PiecePartLemmas.{IsPiece, laid-input, leads, read, read-is}
use Rattle.seam_laws.proofs.SeamlessInputLemmas.{brought-many, IsInput}
use Rattle.seam_laws.specs.PlayedParts.{input_played, piece_lead_ins, sample_named}
use Rattle.slot_plan.specs.{LeastPlan.led_plan, declared.needs.Need.Need}
use Rattle.sync_survey.specs.{Faults.SurveyFields, Survey.survey_of}

-- whether a span has to have a lead-in
led-by : (class : ClassFields) (p q : ℕ) {span : Span} → span_of class p q ≡ span
    → nat_lt p 529 ≡ span.led
unfolding span_of
led-by class p q is = ap (λ (t : Span). t.led) is

module _ {file : List ℕ} {s : SurveyFields} (r : Recording file s) where
  -- ---- one piece

  module _ (from to : ExactPlace) (laid_is : LaidPart) (is : PlaysBetween file s from to laid_is)
    where
      found : IsFound r from to
      found = (span-found r is.found).0

      abbrev t : Span
      t = span r from to

      -- what is laid is the piece of the span
      abbrev piece : LaidPart
      piece = laid r t

      span-same : is.span ≡ t
      span-same = sym (span-found r is.found).1

      same : laid_is ≡ piece
      same =
          is.is ∙ ap (λ sp. span_piece (head r) sp file (own r)) span-same
          ∙ piece-is r found.there

      abbrev window : ℕ
      window = window_of s.class.version

      abbrev needs : List Need
      needs = span_needs t (own r)

      -- its plan, if its first position is before the 529th or not
      planned-by : (led : Bool) → nat_lt (first_position file s from) 529 ≡ led
          → IsPlanFrom (first_position file s from) window needs (span_plan led s.class needs)
      planned-by true test = record {
        early = λ near.
            (led-is (choice r t) (own r) (has-own r).placed (inside r found.there).some
            (inside r found.there).within (led_plan window own_choice needs)).1
            refl;
        late = λ far. absurd (omega (arith, ltb-true (first_position file s from) 529 test, far));
      }
      planned-by false test = record {
        early = λ near.
            absurd (both_ways (nat_lt (first_position file s from) 529) test
            (lt-ltb (first_position file s from) 529 near));
        late = λ far.
            the-plan (choice r t) (own r) (has-own r).placed (inside r found.there).some
            (inside r found.there).within (inl refl);
      }

      planned : IsExactPlan file s from to laid_is
      planned =
          subst (IsExactPlan file s from to) (sym same)
          (planned-by t.led
          (led-by s.class (first_position file s from)
          ((input_played file s).start + sample_named file s to) refl))

      -- ---- its file as it is read

      module _ (allowed : ℕ) {j : SurveyFields}
          (e : survey_of (piece_file file s piece) allowed ≡ Ok j) where
        abbrev bytes : List ℕ
        bytes = piece_file file s piece

        abbrev p : FilePart
        p = record { file = bytes; survey = j; from = 0; to = length j.frames }

        made : IsFileOf piece file (own r) bytes
        made =
            laid-whole piece (has-own r)
            (omega (arith, (inside r found.there).some, (inside r found.there).within))

        input : {c : ClassFields} → j.class ≡ c → IsInput c p
        input of_class = record {
          allowed = allowed;
          surveyed = e;
          has = survey-had allowed e;
          of_class = of_class;
          from = refl;
          to = refl;
          some = some-frames bytes allowed e;
        }

        one : {c : ClassFields} → j.class ≡ c → IsPiece t.led (choice r t) file (own r) c p
        one {c} of_class = record {
          has = has-own r;
          right = span-right r found.there;
          made = made;
          is = input of_class;
        }

        class : j.class ≡ s.class
        class = class-same (laid-input (one refl))

        at : IsExact r from to p
        at = record { there = found; piece = one class }

        many : length j.frames ≡ leads at.piece + (t.last - t.first)
        many =
            let sp = has-span r at in
            sym (brought-many at.piece.is)
            ∙ span-many sp.spans
            ∙ ap₂ (λ m n. m + n) sp.many_is
            (ap₂ (λ m n. n - m) sp.from_is sp.to_is)

        played-is : input_played bytes j
            ≡ played_of (Some (read at.piece)) s.class (leads at.piece + (t.last - t.first))
        played-is =
            ap (λ h. played_of h j.class (length j.frames)) (read-is at.piece)
            ∙ ap₂ (λ (c : ClassFields) (n : ℕ). played_of (Some (read at.piece)) c n) class many

        piece-kept : KeepsPlaces s.class (piece_lead_ins piece)
            piece.from (sample_named file s from)
            (sample_named file s to) (input_played bytes j) (input_played file s)
        piece-kept =
            subst (λ u. KeepsPlaces s.class (leads at.piece) t.first
            (sample_named file s from) (sample_named file s to) u (input_played file s))
            (sym played-is) (kept r at)

      kept-as-read : PlaysAsRead file s from to laid_is
      kept-as-read = subst (PlaysAsRead file s from to) (sym same) piece-kept

      -- its Info frame says the same
      said : KeepsPlaces s.class (piece_lead_ins piece) piece.from (sample_named file s from)
          (sample_named file s to) (piece_played file (survey_without_head s) piece)
          (input_played file s)
      said =
          (subst (λ (l : LaidPart).
          PlaysItsSamples (head r) s (sample_named file s from)
          (sample_named file s to) t (span_lead_ins t l.placed)
          (info_laid l file (survey_without_head s))) (piece-is r found.there)
          (pieces-play file s from to t r.has found.found)).places

      -- what is played of it as it is read is what its Info frame says
      samples-by : (allowed : ℕ) {j : SurveyFields}
          → survey_of (piece_file file s piece) allowed ≡ Ok j
          → read_samples file s piece j ≡ piece_samples file s piece
      unfolding piece_samples
      samples-by allowed e = grind (arith, piece-kept, s.class, said.start, said.length)

      samples-same : (allowed : ℕ) (j : SurveyFields)
          → survey_of (piece_file file s laid_is) allowed ≡ Ok j
          → read_samples file s laid_is j ≡ piece_samples file s laid_is
      samples-same =
          subst (λ l. (allowed : ℕ) (j : SurveyFields)
          → survey_of (piece_file file s l) allowed ≡ Ok j
          → read_samples file s l j ≡ piece_samples file s l) (sym same) samples-by

  -- ---- pieces in order

  cut-plays : {from to : ExactPlace} {laid : LaidPart} → exact_part from to file s ≡ Ok laid
      → PlaysBetween file s from to laid
  unfolding exact_part
  cut-plays e = grind (arith, then_ok, between-plays r.has)

  in-turn : (Holds : ExactPlace → ExactPlace → LaidPart → Type 0)
      → ((from to : ExactPlace) (laid : LaidPart) → PlaysBetween file s from to laid
      → Holds from to laid) → (from : ExactPlace) (tos : List ExactPlace) (laid : List LaidPart)
      → PlayInTurn file s from tos laid → HoldsInTurn Holds from tos laid
  in-turn Holds holds from [] [] are = tt
  in-turn Holds holds from [] (l ∷ laid) are = absurd are
  in-turn Holds holds from (to ∷ tos) [] are = absurd are
  in-turn Holds holds from (to ∷ tos) (l ∷ laid) are =
      (holds from to l are.0, in-turn Holds holds to tos laid are.1)

  all-same : (from : ExactPlace) (tos : List ExactPlace) (laid : List LaidPart)
      (surveys : List SurveyFields) → PlayInTurn file s from tos laid
      → AreSurveysOf (map (piece_file file s) laid) surveys
      → all_read_samples file s laid surveys ≡ all_piece_samples file s laid
  all-same from [] [] [] are read_back = refl
  all-same from [] [] (j ∷ surveys) are read_back = absurd read_back
  all-same from [] (l ∷ laid) surveys are read_back = absurd are
  all-same from (to ∷ tos) [] surveys are read_back = absurd are
  all-same from (to ∷ tos) (l ∷ laid) [] are read_back = absurd read_back
  all-same from (to ∷ tos) (l ∷ laid) (j ∷ surveys) are read_back =
      ap₂ ◌++◌
      (samples-same from to l are.0 read_back.0.0 j read_back.0.1)
      (all-same to tos laid surveys are.1 read_back.1)

-- the plan of each exact piece is the first
pub exact-plans-first : ExactPlansAreFirst
exact-plans-first = record {
  cut = λ from to file s laid surveyed e.
      planned (recording surveyed) from to laid
      (cut-plays (recording surveyed) e);
  split = λ points file s place places laid surveyed e.
      in-turn (recording surveyed) (IsExactPlan file s)
      (planned (recording surveyed)) place places laid
      (pieces-recording points file s place places laid surveyed e).each;
}

-- exact pieces play their samples as they are read
pub exact-pieces-play : ExactPiecesPlayAsRead
exact-pieces-play = record {
  cut = λ from to file s laid surveyed e.
      kept-as-read (recording surveyed) from to laid
      (cut-plays (recording surveyed) e);
  split = λ points file s place places laid surveyed e.
      let turns = pieces-recording points file s place places laid surveyed e in
      record {
        each =
            in-turn (recording surveyed) (PlaysAsRead file s)
            (kept-as-read (recording surveyed)) place places
            laid turns.each;
        all = λ surveys read_back.
            all-same (recording surveyed) place places laid surveys turns.each read_back
            ∙ turns.all;
      };
}

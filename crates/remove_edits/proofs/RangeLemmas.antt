-- The parts that stay as ranges of one input.
use Rattle.std.proofs.Common.{ap, arith, length, List, map, refl, slice_index_or, suc, zero, ℕ, []}
use Rattle.std.{proofs.Common.{◌+◌, ◌<◌, ◌∷◌, ◌≡◌, ◌≤◌}, specs.Prelude.unwrap_or}
use Rattle.joined_inputs.specs.Inputs.{told_contents}
use Rattle.joined_inputs.specs.Ranges.{AreRangeSources, AreRangesWithin, IsRangePass, range_names}
use Rattle.joined_inputs.specs.Ranges.{range_rows, ranges_in}
use Rattle.laying.specs.{Passing.IsRelayReady, declared.relay.Relay.Relay}
use Rattle.outside.specs.{Feed.Fed, Files.{Files, Holds, Told, Untold}}
use Rattle.remove_edits.specs.{Ready.part_range, Removed.{file_parts, part_rows_of}}
use Rattle.seam_plan.specs.{Stretches.AreInOrder, declared.stretches.Part.Part}
use Rattle.sync_survey.specs.Faults.{survey_view, SurveyFields}

module _ (name : List ℕ) (s : SurveyFields) where
  -- their rows are those of the parts
  pub ranges-rows : (parts : List Part)
      → range_rows (map (part_range name s) parts) ≡ map (part_rows_of s) parts
  ranges-rows [] = refl
  ranges-rows (p ∷ parts) = ap (λ l. part_rows_of s p ∷ l) (ranges-rows parts)

  -- all have the name of the input
  pub names-same : (parts : List Part) (place : ℕ)
      → place < length (range_names (map (part_range name s) parts))
      → slice_index_or (range_names (map (part_range name s) parts)) place [] ≡ name
  names-same [] place within = absurd (omega (arith, within))
  names-same (p ∷ parts) zero within = refl
  names-same (p ∷ parts) (suc place) within = names-same parts place (omega (arith, within))

  -- they end within the file, each behind its beginning
  pub ranges-within : (least : ℕ) (parts : List Part) → AreInOrder least (length s.frames) parts
      → AreRangesWithin (map (part_range name s) parts)
  unfolding AreInOrder
  ranges-within least [] order = tt
  ranges-within least (p ∷ parts) order =
      (omega (arith, order.1), order.2, ranges-within (p.to + 1) parts order.3)

told-is : (files : Files) (name : List ℕ) {file : List ℕ} → Holds files name file
    → unwrap_or (told_contents files name) [] ≡ file
told-is (Told f) name holds = rw holds refl
told-is (Untold touched) name holds = absurd holds

-- where the input's content is known, they are parts of it
pub ranges-told : (files : Files) (name file : List ℕ) (s : SurveyFields) (parts : List Part)
    → Holds files name file
    → ranges_in files (map (part_range name s) parts) ≡ file_parts file s parts
ranges-told files name file s [] holds = refl
ranges-told files name file s (p ∷ parts) holds =
    rw (told-is files name holds, ranges-told files name file s parts holds) refl

-- a pass over the input is one over the ranges
pub ranges-pass : {relay : Relay} {files : Files} {fed : Fed} (parts : List Part)
    → IsRelayReady relay files fed → 1 ≤ length parts
    → IsRangePass relay (map (part_range relay.pass.input.now (survey_view relay.survey.now)) parts)
    files
ranges-pass [] ready some = absurd (omega (arith, some))
ranges-pass {relay} {files} (p ∷ parts) ready some = record {
  begins = part_range relay.pass.input.now (survey_view relay.survey.now) p;
  later = map (part_range relay.pass.input.now (survey_view relay.survey.now)) parts;
  are = refl;
  named = refl;
  apart = ready.pass.apart;
  sources = sources (p ∷ parts);
  target = ready.pass.target;
}
  where
    sources : (ps : List Part) → AreRangeSources (survey_view relay.survey.now).class
        relay.pass.output.now files
        (map (part_range relay.pass.input.now (survey_view relay.survey.now)) ps)
    sources [] = tt
    sources (q ∷ ps) = (
      (
        record {
          apart = ready.pass.apart;
          there = ready.pass.source;
          exact = ready.exact;
          laid = ready.laid;
        },
        refl,
      ),
      sources ps,
    )

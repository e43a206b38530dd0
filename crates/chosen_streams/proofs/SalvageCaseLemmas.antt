-- What is left of a damaged file.
use Rattle.std.proofs.Common.{ap, arith, Bool, inl, length, List, map, Ok, Option, refl, Some}
use Rattle.std.proofs.{Common.{subst, suc, zero, ℕ, [], ◌+◌, ◌∙◌, ◌∷◌, ◌≡◌}, lemmas.Bool.false≢true}
use Rattle.std.proofs.lemmas.List.{length-map, FromFn.length-enumerate_from}
use Rattle.std.specs.{List.enumerate_from, Prelude.{slice_get, ◌<◌}}
use Rattle.chosen_streams.{proofs.CaseLemmas.{had-exact, had-plan}, specs.Exact.IsExactly}
use Rattle.chosen_streams.specs.Laws.{AreLeftOf, HoldsChosen, IsLeftOf, SalvagedFramesAreLeft}
use Rattle.chosen_streams.specs.Laws.{SalvagedPlansAreFirst, SalvagedStreamsAreExact}
use Rattle.commands.proofs.{MadeLemmas.makes-parts, TellingLemmas.text-parts}
use Rattle.cut_edits.specs.Chosen.{own_slots_plan}
use Rattle.frame_header.specs.Tables.{window_of}
use Rattle.job_words.specs.Request.{Salvage}
use Rattle.laying.{proofs.PlacesLemmas.range-whole, specs.{Needs.need_of, NeedsFit.own_choice}}
use Rattle.laying.specs.{Relaid.stream_with_lead_ins, Surveys.CanBeRelaid}
use Rattle.salvage.proofs.{LaidOutLemmas.{damaged_of-is, read-laid}, MendedLemmas.survey-mended}
use Rattle.salvage.proofs.StreamLemmas.{payload_none, stream-told}
use Rattle.salvage.specs.DamagedFiles.{damaged_fields, damaged_of, DamagedFields}
use Rattle.salvage.specs.{Progress.IsDamagedLaidOut, Stream.salvaged_stream}
use Rattle.salvage_edits.proofs.{CommandLemmas.read-where, HadLemmas.damaged_fields-relaid}
use Rattle.salvage_edits.{proofs.StreamLemmas.laid-left, specs.Salvaged.{all_chosen, left_stream}}
use Rattle.slot_plan.specs.Plans.{IsPlan}
use Rattle.sync_survey.specs.{Faults.{stream_of_survey, SurveyFields}, HeadApart.emptied_survey}
use Rattle.sync_survey.specs.MainData.{main_bytes, stream_frame, stream_frames, StreamFrame}
use Rattle.sync_survey.specs.{Row.Row, declared.places.Head.Head}

module _ (file : List ℕ) {d : DamagedFields} (read : damaged_of file ≡ Ok d) where
  abbrev own : SurveyFields
  own = emptied_survey d.survey

  whole : damaged_fields file ≡ Ok d
  whole = (damaged_of-is file read).1

  laid : IsDamagedLaidOut d
  laid = read-laid file read

  -- what is left is in the file where its survey says
  pub left-had : CanBeRelaid file own
  left-had = damaged_fields-relaid whole laid

  -- something is left
  pub left-some : 0 < length own.frames
  left-some = (survey-mended laid).some

  -- ---- its frames, and their plan

  left-exact : IsExactly (salvaged_stream file ∷ []) (left_stream file d)
  unfolding left_stream
  left-exact =
      subst (λ (l : List StreamFrame). IsExactly (l ∷ [])
      (stream_with_lead_ins (own_slots_plan (all_chosen own) own) l)) (laid-left file whole laid)
      (had-exact (all_chosen own) left-had left-some (omega arith) (inl refl))

  left-plan : IsPlan (window_of d.survey.class.version) own_choice (map need_of own.frames ∷ [])
      (own_slots_plan (all_chosen own) own)
  left-plan =
      subst (λ (rows : List Row). IsPlan (window_of own.class.version) own_choice
      (map need_of rows ∷ []) (own_slots_plan (all_chosen own) own)) (range-whole own.frames)
      (had-plan (all_chosen own) left-had left-some (omega arith) (inl refl))

-- the stream of a salvage is exactly what is left, after at most one lead-in
pub salvaged-exact : SalvagedStreamsAreExact
salvaged-exact = left-exact

-- its plan is the first of all lists with a layout
pub salvaged-first : SalvagedPlansAreFirst
salvaged-first = left-plan

-- ---- what is left of each frame

left-by : (main : List ℕ) (head : Option Head) (rows : List Row) (i : ℕ) {r : Row} {lost : Bool}
    → r.lost ≡ lost → IsLeftOf r (stream_frame main head rows i r)
left-by main head rows i is = grind (arith, false≢true, payload_none)

numbered-at : {A B : Type 0} (f : ℕ × A → B) (n : ℕ) (xs : List A) (i : ℕ) {x : A}
    → slice_get xs i ≡ Some x → slice_get (map f (enumerate_from n xs)) i ≡ Some (f (n + i, x))
numbered-at f n [] i e = absurd cc
numbered-at f n (y ∷ xs) zero e = grind arith
numbered-at f n (y ∷ xs) (suc i) {x} e = grind (arith, numbered-at f (n + 1) xs i e)

frames-left : (main : List ℕ) (head : Option Head) (rows : List Row)
    → AreLeftOf rows (stream_frames main head rows)
unfolding stream_frames
frames-left main head rows =
    let frame = λ (p : ℕ × Row). stream_frame main head rows p.0 p.1 in
    record {
      many = length-map (enumerate_from 0 rows) frame ∙ length-enumerate_from 0 rows;
      each = λ i r found.
          let here : 0 + i ≡ i = omega arith in (
            stream_frame main head rows i r,
            numbered-at frame 0 rows i found ∙ ap (λ n. Some (frame (n, r))) here,
            left-by main head rows i refl,
          );
    }

-- the frames of the output are the frames that are left, and those that aren't sound are empty
pub salvaged-left : SalvagedFramesAreLeft
unfolding stream_of_survey
salvaged-left file d read = subst (AreLeftOf d.survey.frames)
    (stream-told file (damaged_of-is file read).1 (read-laid file read))
    (frames-left (main_bytes file d.survey.head d.survey.frames) d.survey.head d.survey.frames)

-- ---- the command

-- a salvage holds the frames that its job chooses
pub salvage-holds : (input output : List ℕ)
    → HoldsChosen (Salvage input output)
salvage-holds input output files made e =
    grind (arith, text-parts, makes-parts, read-where, left-exact)

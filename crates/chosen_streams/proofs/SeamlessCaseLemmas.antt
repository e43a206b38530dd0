-- The frames of several files without seams, in one file.
use Rattle.std.proofs.Common.{ap, append-nil, arith, flat_map, List, Ok, Option, sym, true, ℕ, []}
use Rattle.std.proofs.Common.{◌∙◌, ◌∷◌, ◌≡◌}
use Rattle.chosen_streams.{proofs.ExactLemmas.{IsSized, no-frames, part-on}, specs.Exact.IsExactly}
use Rattle.chosen_streams.specs.Laws.{HoldsChosen, SeamlessPlansAreFirst}
use Rattle.command_table.specs.Chosen.{joined_splice_frames}
use Rattle.commands.proofs.{MadeLemmas.makes-parts, RefusingLemmas.then_ok}
use Rattle.commands.proofs.TellingLemmas.{text-parts}
use Rattle.frame_header.specs.{Fields.{HeaderFields, SlotFields}, Tables.window_of}
use Rattle.job_words.specs.Request.{Join}
use Rattle.joined_inputs.specs.Parts.{join_parts, join_parts_from}
use Rattle.laying.specs.{NeedsFit.own_choice, Relaid.{FilePart, part_stream, stream_with_lead_ins}}
use Rattle.outside.specs.Files.{Contents}
use Rattle.seam_plan.specs.{Frames.needs_of, Seams.splice_of}
use Rattle.seamless_edits.proofs.SpliceFileLemmas.{parts-whole}
use Rattle.seamless_edits.proofs.SplicePartLemmas.{AreWholeFiles, IsWholeFile, splice-many}
use Rattle.seamless_edits.proofs.SplicePartLemmas.{splice-planned, splice-some}
use Rattle.seamless_edits.specs.Seamless.{join_of_parts, part_brought, seamless_stream}
use Rattle.seamless_edits.specs.Seamless.{splice_parts, splice_plan}
use Rattle.slot_plan.specs.{Parts.{all_items, AreLeadIns}, Plans.{AreItemSlots, IsPlan}}
use Rattle.slot_plan.specs.declared.needs.{Need.Need, Placed.Placed}
use Rattle.sync_survey.specs.MainData.{StreamFrame}

-- ---- one part, in other slots than its frames have

module _ (window : ℕ) (choices : HeaderFields → List SlotFields) {needs : List Need}
    {fs : List StreamFrame} (placed : List Placed) (sized : IsSized needs fs) where
  exact-by : (lead_ins : List (Option SlotFields)) → AreLeadIns window choices (needs ∷ []) lead_ins
      → AreItemSlots (all_items choices (needs ∷ []) lead_ins) placed
      → IsExactly (fs ∷ []) (stream_with_lead_ins placed fs)
  unfolding AreLeadIns all_items IsExactly
  exact-by [] alone slots = absurd alone
  exact-by (lead_in ∷ lead_ins) alone slots =
      let none = all_items choices [] lead_ins in
      let on = part-on choices none needs lead_in fs [] placed sized slots in
      let stream = ap (stream_with_lead_ins placed) (sym (append-nil fs)) ∙ on.3 in
      (on.0, stream_with_lead_ins on.1 [], on.2, stream, no-frames on.1)

  planned-one : IsPlan window choices (needs ∷ []) placed
      → IsExactly (fs ∷ []) (stream_with_lead_ins placed fs)
  planned-one plan = exact-by plan.lead_ins plan.alone plan.whole.slots

-- ---- the splice

splice-exact : {first : FilePart} (parts : List FilePart) → IsWholeFile first.survey.class first
    → AreWholeFiles first.survey.class parts → IsExactly
    (flat_map part_stream (splice_parts first parts) ∷ []) (seamless_stream (first ∷ parts))
unfolding seamless_stream
splice-exact parts is are =
    grind (arith, flat_map, splice-some, splice-many, planned-one, splice-planned)

-- ---- the command

parts-exact : (files : Contents) (names : List (List ℕ)) {parts : List FilePart}
    → join_parts files names ≡ Ok parts
    → IsExactly (joined_splice_frames (Ok parts) ∷ []) (seamless_stream parts)
unfolding IsExactly seamless_stream join_parts_from
parts-exact files [] e = grind arith
parts-exact files (name ∷ names) {parts} e =
    grind (arith, parts-whole files (name ∷ names) (omega arith) e, splice-exact)

-- a seamless join holds exactly the frames that the job chooses
pub seamless-chosen : (output : List ℕ) (inputs : List (List ℕ))
    → HoldsChosen (Join true output inputs)
seamless-chosen output inputs files made e =
    grind (arith, text-parts, makes-parts, then_ok, parts-exact)

-- the splice is planned as one part
first-planned : {first : FilePart} {parts : List FilePart} {other : FilePart} {more : List FilePart}
    → other ∷ more ≡ first ∷ parts → IsWholeFile other.survey.class other
    → AreWholeFiles other.survey.class more
    → IsPlan (window_of first.survey.class.version) own_choice
    (needs_of (splice_of (part_brought first) (join_of_parts first parts)) ∷ [])
    (splice_plan first parts)
first-planned same is are = grind (arith, splice-planned)

-- the plan of the splice is the first of all its plans
pub seamless-first : SeamlessPlansAreFirst
unfolding join_parts_from
seamless-first files [] first parts e = absurd cc
seamless-first files (name ∷ names) first parts e =
    let is = parts-whole files (name ∷ names) (omega arith) e in
    first-planned is.is is.whole is.all

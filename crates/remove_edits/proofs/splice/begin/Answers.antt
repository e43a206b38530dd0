-- The splice of one part is its frames.
use Rattle.std.proofs.Common.{ap, length, sym, [], ◌++◌, ◌∙◌, ◌∷◌, ◌≡◌}
use Rattle.remove_edits.{proofs.SpliceLemmas.splice-one, specs.Ready.written_last}
use Rattle.remove_edits.specs.Removed.{part_needs_of}
use Rattle.sync_survey.specs.Faults.{survey_view}
use Rattle.remove_edits.proofs.splice.begin.Goals as goal

pub returns : goal.returns
returns c =
    let needs : c.note.new.self.needs.items
    ≡ part_needs_of (survey_view c.args.survey.now) c.args.part.now =
    ap (λ v. v.items) c.note.ensures.needs ∙ c.in_ok-append.ensures.needs
    ∙ ap (λ l. l ++ part_needs_of (survey_view c.args.survey.now) c.args.part.now)
    c.new.ensures.items in
    let lead_ins : c.note.new.self.lead_ins.items ≡ [] =
    ap (λ v. v.items) (c.note.ensures.lead_ins ∙ c.append.ensures.lead_ins) ∙ c.new-2.ensures in
    let written : c.note.new.self.written.items
    ≡ written_last (length c.note.new.self.needs.items) c.args.part.now ∷ [] =
    c.note.ensures.written
    ∙ ap (λ l. l ++ written_last (length c.append.new.self.needs.items) c.args.part.now ∷ [])
    (ap (λ v. v.items) c.append.ensures.written ∙ c.new-3.ensures)
    ∙ ap (λ v. written_last (length v.items) c.args.part.now ∷ []) (sym c.note.ensures.needs) in
    splice-one c.requires.some
    c.requires.part.within needs lead_ins written

-- Where the file begins, or why that isn't known: there is no first frame, or a call failed.
use Rattle.std.proofs.Common.{arith, refl, subst, sym, ◌∙◌}
use Rattle.outside.{proofs.BufferOutputLemmas.err_at, specs.Files.Holds}
use Rattle.salvage.proofs.{ProgressLemmas.no_first, ReadFaultLemmas.{bytes_refusal, look_refusal}}
use Rattle.sync_survey.proofs.FoldersLemmas.{none_read, read_more}
use Rattle.sync_survey.specs.declared.survey_fault.SurveyFault.TheVariants.{NoFrame}
use Rattle.salvage.proofs.reading.begin.Goals as goal

pub returns-in_err-front_end-clause-refused : goal.returns-in_err-front_end-clause-refused
returns-in_err-front_end-clause-refused g c =
    err_at _ _ c.from_residual.ensures.1 (look_refusal (none_read c.requires.fed)
    (c.in_err-front_end.ensures.refused 0) c.in_err-front_end.ensures.outside)

pub returns-in_default-clause-refused : goal.returns-in_default-clause-refused
returns-in_default-clause-refused g c =
    bytes_refusal c.args.name.now (g.D.Folder.seen c.args.folder.now).files
    (g.D.Folder.seen c.args.folder.now).counts (g.D.Folder.seen c.first_frame.new.folder).counts
    (NoFrame c.in_ok-front_end.front_end) c.requires.known
    (c.in_ok-first.ensures.reads.done ∙ c.in_ok-front_end.ensures.reads.done) (refl, tt)
    (λ bytes holds.
    let there =
    subst (λ f. Holds f c.args.name.now bytes) (sym c.in_ok-front_end.ensures.reads.files) holds in
    no_first bytes (c.in_ok-front_end.ensures.front_end bytes holds)
    (omega (arith, c.requires.known.few, c.requires.known.long bytes holds))
    (sym (c.in_ok-first.ensures.first bytes there) ∙ c.in_default.is))

pub returns-in_err-head-clause-refused : goal.returns-in_err-head-clause-refused
returns-in_err-head-clause-refused g c =
    err_at _ _ c.from_residual-in_err-head.ensures.1
    (look_refusal (read_more (read_more (none_read c.requires.fed) c.in_ok-front_end.ensures.reads)
    c.in_ok-first.ensures.reads) (c.in_err-head.ensures.refused 0) c.in_err-head.ensures.outside)

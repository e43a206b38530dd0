-- If the input has no fault with fewer frames allowed, it has none with more.
use Rattle.std.proofs.{Common.{Ok, subst, ◌≡◌}, lemmas.Result.{IfErr-weaker, IfOk-weaker}}
use Rattle.commands.specs.SingleOutput.{IsFileFault}
use Rattle.pack_edits.proofs.LimitLemmas.{survey_of-more}
use Rattle.pack_edits.proofs.ModeLemmas.{allowed-most, mode_survey, mode_survey_numbers}
use Rattle.sync_survey.specs.{Faults.survey_view, Survey.survey_of}
use Rattle.pack_edits.proofs.inputs.survey_packed.Goals as goal

pub returns : goal.returns
returns g c =
    let old = g.D.Folder.seen c.args.folder.now in
    let new = g.D.Folder.seen c.survey_at.new.folder in
    record {
      there = c.survey_at.ensures.there;
      surveyed =
          IfOk-weaker c.survey_at.result _ _
          (λ s is bytes holds. survey_of-more bytes
          (allowed-most c.args.mode)
          (subst (λ n. survey_of bytes n ≡ Ok (survey_view s)) c.allowed.ensures (is bytes holds)))
          c.survey_at.ensures.surveyed;
      limited = rw c.allowed.ensures at c.survey_at.ensures.surveyed;
      laid = c.survey_at.ensures.laid;
      few = rw c.allowed.ensures at c.survey_at.ensures.few;
      octets = c.survey_at.ensures.octets;
      refused =
          IfErr-weaker c.survey_at.result _ _
          (λ fault is. mode_survey c.args.mode c.args.name.now old new fault
          (subst (λ n. IsFileFault 0 n c.args.name.now old new fault) c.allowed.ensures is))
          c.survey_at.ensures.refused;
      numbers = IfErr-weaker c.survey_at.result _ _ (λ fault is.
          mode_survey_numbers c.args.mode c.args.name.now fault is) c.survey_at.ensures.numbers;
      reads = c.survey_at.ensures.reads;
    }

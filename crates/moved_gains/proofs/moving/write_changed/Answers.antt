-- The bytes up to the junk, then those from the first frame on, and what still waits.
use Rattle.std.proofs.Common.{ap, append-nil, ap₂, arith, IfErr, List, Ok, Option, refl, rules}
use Rattle.std.proofs.Common.{subst, sym, ℕ, [], ◌++◌, ◌∙◌, ◌≡◌}
use Rattle.std.proofs.lemmas.Result.{err_from_is_err_and, on_ok_weaker}
use Rattle.moved_gains.proofs.CourseLemmas.{out_classed, out_few, out_numbered}
use Rattle.moved_gains.proofs.MovingLemmas.{survey_of-length, survey_of-rows}
use Rattle.moved_gains.proofs.WrittenTagLemmas.{written-file_with_change}
use Rattle.moved_gains.proofs.moving.write_changed.Goals.{In_ok-move_frames}
use Rattle.moved_gains.specs.Change.{change_in, file_with_change}
use Rattle.moved_gains.specs.Course.{AreRowsNumbered, steps_at_offset}
use Rattle.moved_gains.specs.Moving.{AreFramesOfClass, AreRowsOf, bytes_written_from, copied_bytes}
use Rattle.moved_gains.specs.{Moving.IsNewTag, declared.change.Change.Change}
use Rattle.moved_gains.specs.declared.moving.NewTag.{NewTag}
use Rattle.outside.proofs.BufferOutputLemmas.{err_at, err_by}
use Rattle.outside.proofs.PassLemmas.{cause_behind, causes_behind, part_behind_none, prefix_as}
use Rattle.outside.proofs.PassLemmas.{prefix_then, writes_all, writes_as, writes_behind_none}
use Rattle.outside.proofs.PassLemmas.{writes_end, writes_held, writes_then, writes_there}
use Rattle.outside.specs.Pass.{HasPassCause, route, WritesMadeBytes}
use Rattle.requests.specs.declared.shift.Steps.{Steps}
use Rattle.sync_survey.proofs.{StepLemmas.laid_end, SurveyedFileLemmas.survey_of-parts}
use Rattle.sync_survey.specs.{Faults.{survey_view, SurveyFields}, Limits.most_frames, Row.Row}
use Rattle.sync_survey.specs.Survey.{survey_of}
use Rattle.moved_gains.proofs.moving.write_changed.Given as given
use Rattle.moved_gains.proofs.moving.write_changed.Goals as goal

-- the bytes up to the junk, and those from the first frame on
abbrev both : (ℕ → Steps) → Option NewTag → ℕ → ℕ → List Row → List ℕ → List ℕ
both steps tag junk first rows file =
    copied_bytes tag file 0 junk ++ bytes_written_from steps tag file first rows

are_changed : (change : Change) (tag : Option NewTag) (file : List ℕ) (s : SurveyFields)
    (junk first : ℕ) (rows : List Row) → IsNewTag s (change_in change s) tag → junk ≡ s.junk
    → first ≡ s.first → rows ≡ s.frames → survey_of file most_frames ≡ Ok s
    → both (steps_at_offset change.course rows) tag junk first rows file
    ≡ file_with_change (change_in change s) file s
are_changed change tag file s junk first rows new junk_is first_is rows_are surveyed =
    ap (λ n. both (steps_at_offset change.course rows) tag n first rows file) junk_is
    ∙ ap₂ (λ n (l : List Row). both (steps_at_offset change.course l) tag s.junk n l file) first_is
    rows_are
    ∙ written-file_with_change (change_in change s) tag file most_frames new
    (survey_of-parts file most_frames surveyed).1

pub copy-requires-clause-ready : goal.copy-requires-clause-ready
copy-requires-clause-ready g c = record {
  apart = c.requires.apart;
  source = c.requires.source;
  target = c.requires.target;
  length_is = λ file holds. survey_of-length file most_frames
      (c.requires.exact file holds) ∙ sym c.length.ensures;
  few = omega (arith, c.length.ensures, c.requires.laid.few);
  fed_from = c.requires.fresh.fed;
}

pub copy-requires-clause-within : goal.copy-requires-clause-within
copy-requires-clause-within g c = grind (arith, laid_end)

pub returns-in_err-copy : goal.returns-in_err-copy
returns-in_err-copy g c = record {
  written = search rules;
  prefix = let s = survey_view c.args.survey.now in
      let change = change_in c.args.change.now s in
      err_at c.from_residual.result _ c.from_residual.ensures.1
      (part_behind_none c.requires.fresh.none
      (prefix_as (record { input = c.args.input; output = c.args.output; length = c.length.result })
      (λ file. file_with_change change file s)
      (λ file. bytes_written_from change.steps c.new_tag.result file s.first s.frames)
      (λ file holds. sym (are_changed c.args.change.now c.new_tag.result file s
      c.junk-junk.result.0 s.first s.frames c.new_tag.ensures (ap (λ r. r.0) c.junk-junk.ensures)
      refl refl (c.requires.exact file holds)))
      c.in_err-copy.ensures.prefix));
  done = search rules;
  cause = search rules;
}

pub move_frames-requires-clause-told : goal.move_frames-requires-clause-told
move_frames-requires-clause-told g c file holds =
    let s = survey_view c.args.survey.now in
    let held = writes_held c.requires.apart c.in_ok-copy.ensures.written file holds in
    subst (AreRowsOf file) (sym c.frames.ensures)
    (survey_of-rows file most_frames (c.requires.exact file held))

pub returns-in_err-move_frames : goal.returns-in_err-move_frames
returns-in_err-move_frames g c = record {
  written = search rules;
  prefix = let s = survey_view c.args.survey.now in
      let first = c.first.result in
      let rows = c.frames.result.now in
      let parts = both (steps_at_offset c.args.change.now.course rows)
      c.new_tag.result c.junk-junk.result.0 first rows in
      err_at c.from_residual-in_err-move_frames.result _
      c.from_residual-in_err-move_frames.ensures.1
      (part_behind_none c.requires.fresh.none
      (prefix_as (record { input = c.args.input; output = c.args.output; length = c.length.result })
      (λ file. file_with_change (change_in c.args.change.now s) file s) (λ file. [])
      (λ file holds. sym (append-nil (parts file)
      ∙ are_changed c.args.change.now _ file s _ first rows c.new_tag.ensures (ap (λ r. r.0)
      c.junk-junk.ensures) c.first.ensures c.frames.ensures (c.requires.exact file holds)))
      (prefix_then
      c.requires.apart c.in_ok-copy.ensures.written c.in_err-move_frames.ensures.prefix)));
  done = search rules;
  cause = let p = err_from_is_err_and c.from_residual-in_err-move_frames.result
      c.from_residual-in_err-move_frames.ensures.1 in
      let cause = subst (λ n. HasPassCause (route c.args.input.now c.args.output.now n)
      (g.D.Folder.seen c.copy.new.folder).files (g.D.Folder.seen c.copy.new.folder).counts
      (g.D.Folder.seen c.move_frames.new.folder).counts c.in_err-move_frames.field-0.0)
      c.length.ensures c.in_err-move_frames.ensures.cause in
      rw (p.1, p.2)
      (cause_behind c.in_ok-copy.ensures.written _ _ c.in_ok-copy.ensures.done _ cause);
}

pub finish-requires : goal.finish-requires
finish-requires g c = grind (arith, writes_there)

-- once the frames were passed on, what waits is the end of the changed file
moved : (g : given.Over) (c : In_ok-move_frames g) → WritesMadeBytes
    (record { input = c.args.input; output = c.args.output; length = c.length.result })
    (λ file. file_with_change (change_in c.args.change.now (survey_view c.args.survey.now)) file
    (survey_view c.args.survey.now)) [] c.move_frames.new.buffers.waiting
    (g.D.Folder.seen c.args.folder.now).files (g.D.Folder.seen c.move_frames.new.folder).files
moved g c =
    let s = survey_view c.args.survey.now in
    writes_behind_none c.requires.fresh.none
    (writes_as _
    (λ file holds. are_changed c.args.change.now c.new_tag.result file s c.junk-junk.result.0
    c.first.result c.frames.result.now c.new_tag.ensures (ap (λ r. r.0) c.junk-junk.ensures)
    c.first.ensures c.frames.ensures (c.requires.exact file holds))
    (writes_then
    c.requires.apart c.in_ok-copy.ensures.written c.in_ok-move_frames.ensures.written))

pub returns : goal.returns
returns g c = record {
  written = on_ok_weaker c.finish.result (writes_all
      (moved g (goal.at.returns g c).In_ok-move_frames)) c.finish.ensures.appended;
  prefix = err_by c.finish.result (λ fault. writes_end
      (moved g (goal.at.returns g c).In_ok-move_frames)) c.finish.ensures.prefix;
  done = search rules;
  cause = let cause = subst (λ n. IfErr c.finish.result (HasPassCause (route c.args.input.now
      c.args.output.now n) (g.D.Folder.seen c.move_frames.new.folder).files (g.D.Folder.seen
      c.move_frames.new.folder).counts (g.D.Folder.seen c.finish.new.folder).counts))
      c.length.ensures c.finish.ensures.cause in
      causes_behind c.in_ok-copy.ensures.written _ _ c.in_ok-copy.ensures.done c.finish.result
      (causes_behind c.in_ok-move_frames.ensures.written _ _
      c.in_ok-move_frames.ensures.done c.finish.result cause);
}

pub move_frames-requires-clause-numbered : goal.move_frames-requires-clause-numbered
move_frames-requires-clause-numbered g c = subst AreRowsNumbered (sym c.frames.ensures)
    (out_numbered c.requires.laid)

pub move_frames-requires-clause-few : goal.move_frames-requires-clause-few
move_frames-requires-clause-few g c = grind (arith, out_few c.requires.laid)

pub move_frames-requires-clause-classed : goal.move_frames-requires-clause-classed
move_frames-requires-clause-classed g c =
    let s = survey_view c.args.survey.now in
    subst (λ class. AreFramesOfClass class c.frames.result.now) (sym c.class.ensures)
    (subst (AreFramesOfClass s.class) (sym c.frames.ensures) (out_classed c.requires.laid))

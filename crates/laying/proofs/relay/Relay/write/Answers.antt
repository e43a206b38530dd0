-- The frames with what is before them, then the blocks
-- after them, and then what still waits of these.
use Rattle.std.proofs.Common.{append-nil, List, rules, sym, ℕ, [], ◌++◌, ◌∙◌}
use Rattle.std.{proofs.lemmas.Result.{err_from_is_err_and, on_ok_weaker}, specs.List.concat}
use Rattle.laying.proofs.{LaidLemmas.written-is, PassLemmas.ready-later}
use Rattle.laying.proofs.relay.Relay.write.Goals.{In_ok-copy_blocks}
use Rattle.laying.specs.{Laid.{file_laid, selected_front, selected_part}, Written.back_blocks}
use Rattle.outside.proofs.BufferOutputLemmas.{err_at, err_by}
use Rattle.outside.proofs.PassLemmas.{cause_behind, causes_behind, part_behind_none, prefix_as}
use Rattle.outside.proofs.PassLemmas.{prefix_then, writes_all, writes_as, writes_behind_none}
use Rattle.outside.{proofs.PassLemmas.{writes_end, writes_then}, specs.Files.Files}
use Rattle.outside.specs.Pass.{WritesMadeBytes}
use Rattle.sync_survey.specs.Faults.{survey_view, SurveyFields}
use Rattle.laying.proofs.relay.Relay.write.Given as given
use Rattle.laying.proofs.relay.Relay.write.Goals as goal

-- the other blocks
abbrev back : SurveyFields → List ℕ → List ℕ
back s file = concat (back_blocks file s)

pub returns-in_err-write_frames : goal.returns-in_err-write_frames
returns-in_err-write_frames g c = record {
  written = search rules;
  prefix = let s = survey_view c.args.self.now.survey.now in
      let selected = c.args.selected.now in
      err_at c.from_residual.result _ c.from_residual.ensures.1
      (part_behind_none c.requires.none
      (prefix_as c.args.self.now.pass (λ file. file_laid (selected_part selected) file s) (back s)
      (λ file holds. sym (written-is c.requires.writable
      (c.requires.ready.exact file holds))) c.in_err-write_frames.ensures.prefix));
  none = search rules;
  done = search rules;
  cause = search rules;
  ready = search rules;
}

pub returns-in_err-copy_blocks : goal.returns-in_err-copy_blocks
returns-in_err-copy_blocks g c = record {
  written = search rules;
  prefix = let s = survey_view c.args.self.now.survey.now in
      let selected = c.args.selected.now in
      let pass = c.args.self.now.pass in
      err_at c.from_residual-in_err-copy_blocks.result _
      c.from_residual-in_err-copy_blocks.ensures.1
      (part_behind_none c.requires.none
      (prefix_as pass (λ file. file_laid (selected_part selected) file s) (λ file. [])
      (λ file holds. sym (append-nil (selected_front s selected file ++ back s file)
      ∙ written-is c.requires.writable (c.requires.ready.exact file holds)))
      (prefix_then c.requires.ready.pass.apart c.in_ok-write_frames.ensures.written
      c.in_err-copy_blocks.ensures.prefix)));
  none = search rules;
  done = search rules;
  cause = let p = err_from_is_err_and c.from_residual-in_err-copy_blocks.result
      c.from_residual-in_err-copy_blocks.ensures.1 in
      rw (p.1, p.2) (cause_behind c.in_ok-write_frames.ensures.written _ _
      c.in_ok-write_frames.ensures.done _ c.in_err-copy_blocks.ensures.cause);
  ready = search rules;
}

-- the frames with what is before them, and then the other blocks
module _ (g : given.Over) (c : In_ok-copy_blocks g) where
  abbrev s : SurveyFields
  s = survey_view c.args.self.now.survey.now

  abbrev old : Files
  old = (g.D.Folder.seen c.args.folder.now).files

  abbrev new : Files
  new = (g.D.Folder.seen c.copy_blocks.new.folder).files

  abbrev made : List ℕ → List ℕ
  made file = file_laid (selected_part c.args.selected.now) file s

  both : WritesMadeBytes c.args.self.now.pass (λ file. selected_front s c.args.selected.now file
      ++ back s file) c.args.buffers.now.waiting c.copy_blocks.new.waiting old new
  both = writes_then c.requires.ready.pass.apart
      c.in_ok-write_frames.ensures.written c.in_ok-copy_blocks.ensures.written

  all : WritesMadeBytes c.args.self.now.pass made [] c.copy_blocks.new.waiting old new
  all = writes_behind_none c.requires.none (writes_as c.args.self.now.pass
      (λ file holds. written-is
      c.requires.writable (c.requires.ready.exact file holds)) both)

pub returns : goal.returns
returns g c = record {
  written = on_ok_weaker c.finish.result (λ is. writes_all
      (all g (goal.at.returns g c).In_ok-copy_blocks) is) c.finish.ensures.appended;
  prefix = err_by c.finish.result (λ fault part. writes_end
      (all g (goal.at.returns g c).In_ok-copy_blocks) part) c.finish.ensures.prefix;
  none = search rules;
  done = search rules;
  cause = causes_behind (both g (goal.at.returns g c).In_ok-copy_blocks) _ _
      (c.in_ok-copy_blocks.ensures.done ∙ c.in_ok-write_frames.ensures.done)
      c.finish.result c.finish.ensures.cause;
  ready = on_ok_weaker c.finish.result (λ is. ready-later _ is
      c.in_ok-copy_blocks.ensures.ready) c.finish.ensures.appended;
}

-- The frames with what is before them, then the blocks
-- after them, and then what still waits of these.
use Rattle.std.proofs.{Common.{List, refl, ℕ, [], ◌∙◌}, lemmas.Result.on_ok_weaker}
use Rattle.std.specs.List.{concat}
use Rattle.laying.specs.Written.{back_blocks}
use Rattle.outside.proofs.BufferOutputLemmas.{err_at, err_by}
use Rattle.outside.proofs.PassLemmas.{cause_behind, part_behind_none, prefix_as, prefix_then}
use Rattle.outside.proofs.PassLemmas.{writes_all, writes_behind_none, writes_end, writes_then}
use Rattle.outside.specs.{Files.Files, Pass.WritesMadeBytes}
use Rattle.remove_edits.proofs.PassLemmas.{ready-behind, some-size, some-size-behind}
use Rattle.remove_edits.{proofs.work.write_left.Goals.In_ok-copy_blocks, specs.Ready.parts_file}
use Rattle.sync_survey.specs.Faults.{survey_view}
use Rattle.remove_edits.proofs.work.write_left.Given as given
use Rattle.remove_edits.proofs.work.write_left.Goals as goal

pub returns-in_err-write_parts-clause-prefix : goal.returns-in_err-write_parts-clause-prefix
returns-in_err-write_parts-clause-prefix g c =
    let s = survey_view c.args.relay.now.survey.now in
    err_at c.from_residual.result _ c.from_residual.ensures.1
    (part_behind_none c.requires.none
    (prefix_as c.args.relay.now.pass (parts_file s c.args.parts.now c.args.work.now)
    (λ file. concat (back_blocks file s)) (λ file holds. refl)
    c.in_err-write_parts.ensures.prefix))

pub copy_blocks-requires : goal.copy_blocks-requires
copy_blocks-requires g c = record {
  ready = ready-behind c.in_ok-write_parts.ensures.written
      (c.clear.ensures.fed _ _) c.requires.ready;
}

pub returns-in_err-copy_blocks-clause-prefix : goal.returns-in_err-copy_blocks-clause-prefix
returns-in_err-copy_blocks-clause-prefix g c =
    err_at c.from_residual-in_err-copy_blocks.result _
    c.from_residual-in_err-copy_blocks.ensures.1
    (part_behind_none c.requires.none
    (prefix_then c.requires.ready.pass.apart
    c.in_ok-write_parts.ensures.written c.in_err-copy_blocks.ensures.prefix))

pub returns-in_err-copy_blocks-clause-cause : goal.returns-in_err-copy_blocks-clause-cause
returns-in_err-copy_blocks-clause-cause g c =
    err_at c.from_residual-in_err-copy_blocks.result _
    c.from_residual-in_err-copy_blocks.ensures.1 (
      c.args.relay.now.pass.length,
      cause_behind c.in_ok-write_parts.ensures.written _ _
          c.in_ok-write_parts.ensures.done _ c.in_err-copy_blocks.ensures.cause,
    )

-- the frames with what is before them, and then the other blocks
module _ (g : given.Over) (c : In_ok-copy_blocks g) where
  abbrev old : Files
  old = (g.D.Folder.seen c.args.folder.now).files

  abbrev new : Files
  new = (g.D.Folder.seen c.copy_blocks.new.folder).files

  abbrev made : List ℕ → List ℕ
  made = parts_file (survey_view c.args.relay.now.survey.now) c.args.parts.now c.args.work.now

  both : WritesMadeBytes c.args.relay.now.pass made c.args.work.now.buffers.waiting
      c.copy_blocks.new.waiting old new
  both = writes_then c.requires.ready.pass.apart
      c.in_ok-write_parts.ensures.written c.in_ok-copy_blocks.ensures.written

  all : WritesMadeBytes c.args.relay.now.pass made [] c.copy_blocks.new.waiting old new
  all = writes_behind_none c.requires.none both

pub returns-clause-written : goal.returns-clause-written
returns-clause-written g c =
    on_ok_weaker c.finish.result (λ is. writes_all
    (all g (goal.at.returns-clause-written g c).In_ok-copy_blocks) is) c.finish.ensures.appended

pub returns-clause-prefix : goal.returns-clause-prefix
returns-clause-prefix g c =
    err_by c.finish.result (λ fault part. writes_end
    (all g (goal.at.returns-clause-prefix g c).In_ok-copy_blocks) part) c.finish.ensures.prefix

pub returns-clause-cause : goal.returns-clause-cause
returns-clause-cause g c =
    some-size-behind (both g (goal.at.returns-clause-cause g c).In_ok-copy_blocks)
    (c.in_ok-copy_blocks.ensures.done ∙ c.in_ok-write_parts.ensures.done) _ c.finish.result
    (some-size c.args.relay.now.pass _ _ _ c.finish.result c.finish.ensures.cause)

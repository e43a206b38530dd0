-- One more frame is passed on, with what is before it.
use Rattle.std.proofs.Common.{ap, ap₂, arith, drop, get_or, length, List, Option, refl, rules}
use Rattle.std.proofs.Common.{subst, sym, ℕ, ◌++◌, ◌+◌, ◌<◌, ◌∙◌, ◌∷◌, ◌≡◌, ◌≤◌}
use Rattle.std.proofs.lemmas.{List.{drop_all, drop_more}, Option.slice_get_read}
use Rattle.std.proofs.lemmas.Result.{err_from_is_err_and, on_ok_weaker}
use Rattle.frame_header.specs.Tables.{class_of}
use Rattle.moved_gains.proofs.{CourseLemmas.frame_steps, WrittenLemmas.{left_at, left_behind}}
use Rattle.moved_gains.proofs.moving.GainPass.move_frames.Goals.{After-copy-2, After-from}
use Rattle.moved_gains.specs.Course.{course_steps, steps_at_offset}
use Rattle.moved_gains.specs.Moving.{AreRowsOf, bytes_written_from, copied_bytes, moved_row_bytes}
use Rattle.moved_gains.specs.{Moving.row_end, declared.moving.NewTag.NewTag}
use Rattle.outside.proofs.BufferOutputLemmas.{err_at, err_by}
use Rattle.outside.proofs.PassLemmas.{cause_behind, causes_behind, up_to_begun, up_to_held}
use Rattle.outside.proofs.PassLemmas.{up_to_last, up_to_last_prefix, up_to_more, up_to_prefix}
use Rattle.outside.specs.Files.{Holds}
use Rattle.requests.specs.declared.shift.Steps.{Steps}
use Rattle.sync_survey.{proofs.StepLemmas.laid_end, specs.{Row.Row, Survey.FramesAreLaid}}
use Rattle.moved_gains.proofs.moving.GainPass.move_frames.Given as given
use Rattle.moved_gains.proofs.moving.GainPass.move_frames.Goals as goal

-- the frame at i, and those after it
here : (rows : List Row) (i : ℕ) (row : Row) → i < length rows → row ≡ get_or rows i row
    → drop i rows ≡ row ∷ drop (i + 1) rows
here rows i row lt is = drop_more rows i row lt ∙ ap (λ r. r ∷ drop (i + 1) rows) (sym is)

laid : (at size : ℕ) (rows : List Row) (i : ℕ) (row : Row) → drop i rows ≡ row ∷ drop (i + 1) rows
    → FramesAreLaid at (drop i rows) size → FramesAreLaid at (row ∷ drop (i + 1) rows) size
laid at size rows i row is before = subst (λ l. FramesAreLaid at l size) is before

told : (file : List ℕ) (rows : List Row) (i : ℕ) (row : Row) → drop i rows ≡ row ∷ drop (i + 1) rows
    → AreRowsOf file (drop i rows) → AreRowsOf file (row ∷ drop (i + 1) rows)
told file rows i row is all = subst (AreRowsOf file) is all

-- what is left after the bytes before the frame
abbrev left : (ℕ → Steps) → Option NewTag → List Row → ℕ → Row → List ℕ → List ℕ
left steps tag rows i row file = moved_row_bytes (steps row.offset) file row
    ++ bytes_written_from steps tag file (row_end row) (drop (i + 1) rows)

-- what is left from an offset on, with the bytes up to the frame, whose offset is `to`
left_up_to : (steps : ℕ → Steps) (tag : Option NewTag) (file : List ℕ) (at to : ℕ) (rows : List Row)
    (i : ℕ) (row : Row) → drop i rows ≡ row ∷ drop (i + 1) rows → to ≡ row.offset
    → bytes_written_from steps tag file at (drop i rows)
    ≡ copied_bytes tag file at to ++ left steps tag rows i row file
left_up_to steps tag file at to rows i row is offset = grind (arith, left_at, is)

pub loop-frame-init : goal.loop-frame-init
loop-frame-init g c = record {
  laid = c.requires.laid;
  told = c.requires.told;
  up_to = up_to_begun c.args.self.now.pass
      (λ file. bytes_written_from (steps_at_offset c.args.self.now.course.now c.args.rows.now)
      c.args.self.now.tag file c.args.from c.args.rows.now)
      c.args.buffers.now.waiting c.requires.ready.target;
  ready = c.requires.ready;
  counts = refl;
}

-- the next frame, and those after it
module _ (g : given.Over) (c : After-from g) where
  abbrev rows : List Row
  rows = c.args.rows.now

  abbrev row : Row
  row = c.index-rows-frame.result

  abbrev i : ℕ
  i = c.loop-frame.frame

  abbrev steps : ℕ → Steps
  steps = steps_at_offset c.args.self.now.course.now rows

  is : drop i rows ≡ row ∷ drop (i + 1) rows
  is = here rows i row (omega (arith, c.loop-frame-test.true)) c.index-rows-frame.is

  all_laid : FramesAreLaid c.loop-frame.at (row ∷ drop (i + 1) rows) c.args.self.now.pass.length
  all_laid = grind (arith, laid, is)

  within : row_end row ≤ c.args.self.now.pass.length
  within = laid_end (row_end row) (drop (i + 1) rows) all_laid.2

  abbrev up_to_row : List ℕ → List ℕ
  up_to_row file = copied_bytes c.args.self.now.tag file c.loop-frame.at c.from.result

  abbrev later : List ℕ → List ℕ
  later file = left steps c.args.self.now.tag rows i row file

  next : (file : List ℕ)
      → Holds (g.D.Folder.seen c.args.folder.now).files c.args.self.now.pass.input.now file
      → bytes_written_from steps c.args.self.now.tag file c.loop-frame.at (drop i rows)
      ≡ up_to_row file ++ later file
  next file holds = left_up_to steps c.args.self.now.tag file c.loop-frame.at c.from.result rows i
      row is (c.from.ensures ∙ c.offset.ensures)

  own : steps row.offset ≡ course_steps c.args.self.now.course.now i
  own = grind (arith, frame_steps)

  class : class_of row.header ≡ c.args.self.now.class
  class = grind (arith, slice_get_read)

pub copy-requires-clause-within : goal.copy-requires-clause-within
copy-requires-clause-within g c =
    omega (arith, within g (goal.at.copy-requires-clause-within g c).After-from)

pub returns-in_err-copy : goal.returns-in_err-copy
returns-in_err-copy g c = record {
  written = search rules;
  prefix = let at = (goal.at.returns-in_err-copy g c).After-from in
      err_at c.from_residual.result _ c.from_residual.ensures.1
      (up_to_prefix c.requires.ready.apart c.loop-frame.invariant.up_to
      (up_to_row g at) (later g at) (next g at) c.in_err-copy.ensures.prefix);
  done = search rules;
  cause = let p = err_from_is_err_and c.from_residual.result c.from_residual.ensures.1 in
      rw (p.1, p.2) (cause_behind c.loop-frame.invariant.up_to.written _ _
      c.loop-frame.invariant.counts _ c.in_err-copy.ensures.cause);
}

pub move_frame-requires-clause-class : goal.move_frame-requires-clause-class
move_frame-requires-clause-class g c =
    class g (goal.at.move_frame-requires-clause-class g c).After-from

pub move_frame-requires-clause-within : goal.move_frame-requires-clause-within
move_frame-requires-clause-within g c =
    within g (goal.at.move_frame-requires-clause-within g c).After-from

pub move_frame-requires-clause-told : goal.move_frame-requires-clause-told
move_frame-requires-clause-told g c file holds =
    let at = (goal.at.move_frame-requires-clause-told g c).After-from in
    let before = up_to_more c.requires.ready.apart c.loop-frame.invariant.up_to
    (up_to_row g at) (later g at) (next g at) c.in_ok-copy.ensures.written in
    (told file c.args.rows.now c.loop-frame.frame c.index-rows-frame.result (is g at)
    (c.loop-frame.invariant.told file
    (up_to_held c.requires.ready.apart before file holds))).0

pub returns-in_err-at : goal.returns-in_err-at
returns-in_err-at g c = record {
  written = search rules;
  prefix = let at = (goal.at.returns-in_err-at g c).After-from in
      let self = c.args.self.now in
      let row = c.index-rows-frame.result in
      let before = up_to_more c.requires.ready.apart c.loop-frame.invariant.up_to
      (up_to_row g at) (later g at) (next g at) c.in_ok-copy.ensures.written in
      err_at c.from_residual-in_err-at.result _ c.from_residual-in_err-at.ensures.1
      (up_to_prefix c.requires.ready.apart before
      (λ file. moved_row_bytes c.steps-steps.result file row)
      (λ file. bytes_written_from (steps g at)
      self.tag file (row_end row) (drop (c.loop-frame.frame + 1) c.args.rows.now))
      (λ file holds.
      ap (λ s. moved_row_bytes s file row ++ bytes_written_from (steps g at) self.tag file
      (row_end row) (drop (c.loop-frame.frame + 1) c.args.rows.now))
      (own g at ∙ sym c.steps-steps.ensures)) c.in_err-at.ensures.prefix);
  done = search rules;
  cause = let p =
      err_from_is_err_and c.from_residual-in_err-at.result c.from_residual-in_err-at.ensures.1 in
      rw (p.1, p.2)
      (cause_behind c.loop-frame.invariant.up_to.written _ _ c.loop-frame.invariant.counts _
      (cause_behind c.in_ok-copy.ensures.written _ _ c.in_ok-copy.ensures.done _
      c.in_err-at.ensures.cause));
}

pub loop-frame-preserved : goal.loop-frame-preserved
loop-frame-preserved g c =
    let at = (goal.at.loop-frame-preserved g c).After-from in
    let self = c.args.self.now in
    let row = c.index-rows-frame.result in
    let behind = drop (c.loop-frame.frame + 1) c.args.rows.now in
    let end = c.in_ok-at.at in
    let end_is : row_end row ≡ end = sym c.in_ok-at.ensures.end in
    let before = up_to_more c.requires.ready.apart c.loop-frame.invariant.up_to
    (up_to_row g at) (later g at) (next g at) c.in_ok-copy.ensures.written in
    record {
      laid = subst (λ n. FramesAreLaid n behind self.pass.length) end_is (all_laid g at).2;
      told = grind (arith, told, is g, c.loop-frame.frame, c.loop-frame.invariant.told);
      up_to = up_to_more c.requires.ready.apart before
          (λ file. moved_row_bytes c.steps-steps.result file row)
          (λ file. bytes_written_from (steps g at) self.tag file end behind)
          (λ file holds. ap₂ (λ s n. moved_row_bytes s file row
          ++ bytes_written_from (steps g at) self.tag file n behind)
          (own g at ∙ sym c.steps-steps.ensures) end_is) c.in_ok-at.ensures.written;
      ready = c.in_ok-at.ensures.ready;
      counts = c.in_ok-at.ensures.done ∙ c.in_ok-copy.ensures.done ∙ c.loop-frame.invariant.counts;
    }

-- after the last frame
module _ (g : given.Over) (c : After-copy-2 g) where
  abbrev rest : List ℕ → List ℕ
  rest file = copied_bytes c.args.self.now.tag file c.loop-frame.at c.args.self.now.pass.length

  last : (file : List ℕ)
      → Holds (g.D.Folder.seen c.args.folder.now).files c.args.self.now.pass.input.now file
      → bytes_written_from (steps_at_offset c.args.self.now.course.now c.args.rows.now)
      c.args.self.now.tag file c.loop-frame.at (drop c.loop-frame.frame c.args.rows.now) ≡ rest file
  last file holds = grind (arith, left_behind, drop_all)

pub returns : goal.returns
returns g c = record {
  written = on_ok_weaker c.copy-2.result
      (up_to_last c.requires.ready.apart c.loop-frame.invariant.up_to
      (last g (goal.at.returns g c).After-copy-2)) c.copy-2.ensures.written;
  prefix = err_by c.copy-2.result (λ fault.
      up_to_last_prefix c.requires.ready.apart c.loop-frame.invariant.up_to
      (last g (goal.at.returns g c).After-copy-2)) c.copy-2.ensures.prefix;
  done = search rules;
  cause = causes_behind c.loop-frame.invariant.up_to.written _ _
      c.loop-frame.invariant.counts c.copy-2.result c.copy-2.ensures.cause;
}

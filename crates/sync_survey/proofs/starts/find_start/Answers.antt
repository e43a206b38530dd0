-- The start, given the item at which the front ends.
use Rattle.std.proofs.Common.{ap, List, refl, subst, sym, ℕ, ◌∙◌, ◌≡◌}
use Rattle.outside.{proofs.BufferOutputLemmas.err_at, specs.Files.Holds}
use Rattle.sync_survey.proofs.FoldersLemmas.{none_read, read_more, refusal_after, start_err}
use Rattle.sync_survey.proofs.{FoldersLemmas.{start_ok, start_refusal}, LooksLemmas.item_at-shown}
use Rattle.sync_survey.proofs.{StartLemmas.start_is, starts.find_start.Goals.After-item_front}
use Rattle.sync_survey.specs.{Items.item_front, Looks.Shows}
use Rattle.sync_survey.specs.Start.{front_end_of, start_after_junk, start_at, start_of}
use Rattle.sync_survey.proofs.starts.find_start.Given as given
use Rattle.sync_survey.proofs.starts.find_start.Goals as goal

-- the start of a file, given a look at the end of its front
started : (file front : List ℕ) (at left : ℕ) → at ≡ front_end_of file → Shows file at front left
    → start_of file ≡ start_at file at (item_front front)
started file front at left end shows =
    start_is file at (item_front front) end (sym (item_at-shown shows))

-- the start, given the item that was shown
module _ (g : given.Over) (c : After-item_front g) where
  left_is : (bytes : List ℕ) → Holds (g.D.Folder.seen c.args.folder.now).files c.args.name.now bytes
      → Shows bytes c.args.front_end c.look.new.feed.given c.in_ok-left.left
  left_is bytes holds = c.in_ok-left.ensures.shows bytes holds

  begun : (bytes : List ℕ) → Holds (g.D.Folder.seen c.args.folder.now).files c.args.name.now bytes
      → start_of bytes ≡ start_at bytes c.args.front_end c.item_front.result
  begun bytes holds =
      started bytes c.look.new.feed.given c.args.front_end c.in_ok-left.left
      (c.requires.front bytes holds) (left_is bytes holds) ∙ ap (start_at bytes c.args.front_end)
      (ap item_front (sym c.bytes.ensures) ∙ sym c.item_front.ensures)

pub returns-in-Some-clause-start : goal.returns-in-Some-clause-start
returns-in-Some-clause-start g c =
    let at = (goal.at.returns-in-Some-clause-start g c).After-item_front in
    start_ok (g.D.Folder.seen c.args.folder.now).files c.args.name.now
    (λ bytes holds. begun g at bytes holds
    ∙ c.in-Some.ensures.start bytes (left_is g at bytes holds).left_is)

pub returns-in-Some-clause-refused : goal.returns-in-Some-clause-refused
returns-in-Some-clause-refused g c =
    let at = (goal.at.returns-in-Some-clause-refused g c).After-item_front in
    start_err c.in-Some.start c.requires.known c.in_ok-left.ensures.reads.done
    c.in-Some.ensures.refused (λ bytes holds. begun g at bytes holds
    ∙ c.in-Some.ensures.start bytes (left_is g at bytes holds).left_is)

pub returns-in_err-first-clause-refused : goal.returns-in_err-first-clause-refused
returns-in_err-first-clause-refused g c =
    err_at _ _ c.from_residual-in_err-first.ensures.1 (λ allowed. refusal_after (read_more
    (none_read c.requires.fed) c.in_ok-left.ensures.reads) (c.in_err-first.ensures.refused allowed))

pub returns-in-Some-2-clause-start : goal.returns-in-Some-2-clause-start
returns-in-Some-2-clause-start g c = λ bytes holds.
    let at = (goal.at.returns-in-Some-2-clause-start g c).After-item_front in
    let there =
    subst (λ f. Holds f c.args.name.now bytes) (sym c.in_ok-left.ensures.reads.files) holds in
    begun g at bytes holds ∙ c.in_default.ensures.start bytes (left_is g at bytes holds).left_is
    ∙ ap (start_after_junk c.args.front_end)
    (sym (c.in_ok-first.ensures.first bytes there) ∙ c.in-Some-2.is)

pub returns-in-None-clause-refused : goal.returns-in-None-clause-refused
returns-in-None-clause-refused g c = λ allowed.
    start_refusal c.args.name.now (g.D.Folder.seen c.args.folder.now).files allowed
    (g.D.Folder.seen c.args.folder.now).counts
    (g.D.Folder.seen c.first_anchored.new.folder).counts c.requires.known
    (c.in_ok-first.ensures.reads.done ∙ c.in_ok-left.ensures.reads.done) (refl, tt) (λ bytes holds.
    let at = (goal.at.returns-in-None-clause-refused g c).After-item_front in
    let there =
    subst (λ f. Holds f c.args.name.now bytes) (sym c.in_ok-left.ensures.reads.files) holds in
    begun g at bytes holds ∙ c.in_default.ensures.start bytes (left_is g at bytes holds).left_is
    ∙ ap (start_after_junk c.args.front_end)
    (sym (c.in_ok-first.ensures.first bytes there) ∙ c.in-None.is))

-- The tag of the file is that of the block's bytes.
use Rattle.std.proofs.Common.{ap, arith, length, refl, sym, ◌∙◌, ◌≡◌}
use Rattle.std.proofs.lemmas.Result.{IfErr-weaker, IfOk-weaker}
use Rattle.moved_gains.proofs.FoundTagLemmas.{tag-within}
use Rattle.moved_gains.proofs.TagReadingLemmas.{block-cause, block-tag, place-some}
use Rattle.moved_gains.proofs.TagReadingLemmas.{too_large-refused}
use Rattle.sync_survey.specs.Faults.{survey_view}
use Rattle.moved_gains.proofs.tag_reading.read_piece.Goals as goal

pub returns-then-piece-gt-LONGEST_TAG-clause-cause :
    goal.returns-then-piece-gt-LONGEST_TAG-clause-cause
returns-then-piece-gt-LONGEST_TAG-clause-cause g c =
    let s = survey_view c.args.survey.now in
    let b = c.args.piece.now in (
      too_large-refused c.args.name.now (g.D.Folder.seen c.args.folder.now).files
          c.requires.known.surveyed
          c.requires.tag (omega (arith, c.if-piece-gt-LONGEST_TAG.true)),
      sym (place-some s c.requires.tag).1,
      omega (arith, c.if-piece-gt-LONGEST_TAG.true),
      refl,
    )

pub tag_at_offset-requires-clause-place : goal.tag_at_offset-requires-clause-place
tag_at_offset-requires-clause-place g c =
    grind (
      arith,
      tag-within c.requires.known.laid
          c.requires.tag,
    )

pub returns-clause-exact : goal.returns-clause-exact
returns-clause-exact g c =
    let own = c.deref.result.now in
    let same : own ≡ c.in_ok-block.block.items = c.deref.ensures.value in
    IfOk-weaker c.tag_at_offset.result _ _
    (block-tag c.args.name.now (g.D.Folder.seen c.args.folder.now).files
    c.requires.known.surveyed c.requires.tag (λ bytes holds. same
    ∙ c.in_ok-block.ensures.bytes bytes holds) (ap length same ∙ c.in_ok-block.ensures.length))
    c.tag_at_offset.ensures.tag

pub returns-clause-cause : goal.returns-clause-cause
returns-clause-cause g c = grind (arith, IfErr-weaker, block-cause)

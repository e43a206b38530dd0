-- One more block is copied, if it is chosen.
use Rattle.std.proofs.Common.{arith, drop, List, rules, slice_index_or, ℕ, [], ◌++◌, ◌+◌, ◌∷◌, ◌≡◌}
use Rattle.std.proofs.lemmas.{List.drop_all, Result.err_from_is_err_and}
use Rattle.laying.proofs.CopyLemmas.{block-at, block-within, chosen-next}
use Rattle.laying.proofs.relay.Relay.copy_blocks.Goals.{After-copy_chosen}
use Rattle.laying.specs.Copying.{chosen_bytes}
use Rattle.outside.proofs.BufferOutputLemmas.{err_at}
use Rattle.outside.proofs.PassLemmas.{cause_behind, up_to_begun, up_to_end, up_to_more}
use Rattle.outside.proofs.PassLemmas.{up_to_prefix}
use Rattle.sync_survey.specs.{Faults.{survey_view, SurveyFields}, declared.places.Piece.Piece}
use Rattle.tag_blocks.specs.declared.block.Kind.TheVariants.{Id3v2}
use Rattle.laying.proofs.relay.Relay.copy_blocks.Given as given
use Rattle.laying.proofs.relay.Relay.copy_blocks.Goals as goal

-- the item at any place of an empty list of blocks
abbrev no_block : Piece
no_block = record { offset = 0; block = record { kind = Id3v2; length = 0 } }

pub loop-block-init : goal.loop-block-init
loop-block-init g c = grind (arith, up_to_begun)

pub copy_chosen-requires-clause-within : goal.copy_chosen-requires-clause-within
copy_chosen-requires-clause-within g c = grind (arith, block-at, block-within)

-- the requested block, and those after it
module _ (g : given.Over) (c : After-copy_chosen g) where
  abbrev s : SurveyFields
  s = survey_view c.args.self.now.survey.now

  abbrev k : ℕ
  k = c.loop-block.block-index

  abbrev p : Piece
  p = slice_index_or c.blocks-block-items.result.now k no_block

  abbrev chosen : List Piece → List ℕ → List ℕ
  chosen blocks file = chosen_bytes c.args.in_front s blocks file

  here : drop k s.blocks ≡ p ∷ drop (k + 1) s.blocks
  here = grind (arith, block-at)

  next : (file : List ℕ)
      → chosen (drop k s.blocks) file ≡ chosen (p ∷ []) file ++ chosen (drop (k + 1) s.blocks) file
  next file = grind (arith, here, chosen-next)

pub returns-in_err-copy_chosen : goal.returns-in_err-copy_chosen
returns-in_err-copy_chosen g c = record {
  written = search rules;
  prefix = let at = (goal.at.returns-in_err-copy_chosen g c).After-copy_chosen in
      err_at c.from_residual.result _ c.from_residual.ensures.1
      (up_to_prefix c.requires.ready.pass.apart c.loop-block.invariant.up_to _
      (chosen g at
      (drop (c.loop-block.block-index + 1) (survey_view c.args.self.now.survey.now).blocks))
      (λ file holds. next g at file) c.in_err-copy_chosen.ensures.prefix);
  done = search rules;
  cause = let p = err_from_is_err_and c.from_residual.result c.from_residual.ensures.1 in
      rw (p.1, p.2)
      (cause_behind c.loop-block.invariant.up_to.written _ _ c.loop-block.invariant.counts _
      c.in_err-copy_chosen.ensures.cause);
  ready = search rules;
}

pub loop-block-preserved : goal.loop-block-preserved
loop-block-preserved g c = grind (arith, up_to_more, next g)

pub returns : goal.returns
returns g c = search (rules, drop_all, up_to_end)

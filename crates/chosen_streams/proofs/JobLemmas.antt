-- What is written holds the frames that are chosen, whatever is asked for.
use Rattle.std.proofs.Common.{false, refl, true}
use Rattle.chosen_streams.proofs.ChosenCaseLemmas.{cut-holds, pack-holds}
use Rattle.chosen_streams.proofs.{JoinCaseLemmas.join-holds, RemoveCaseLemmas.remove-holds}
use Rattle.chosen_streams.proofs.SalvageCaseLemmas.{salvage-holds}
use Rattle.chosen_streams.proofs.{SeamlessCaseLemmas.seamless-chosen, SpanCaseLemmas.exact-holds}
use Rattle.chosen_streams.proofs.SplitCaseLemmas.{split_at-holds, split_by-holds, split_exact-holds}
use Rattle.chosen_streams.{proofs.SplitCaseLemmas.split_exact_by-holds, specs.Laws.StreamsAreChosen}
use Rattle.job_words.specs.Request.{Cut, CutExact, Drill, Fade, Gain, Help, InfoFile, Join}
use Rattle.job_words.specs.Request.{ListFile, Pack, Remove, Salvage, SplitAt, SplitBy, SplitExact}
use Rattle.job_words.specs.Request.{Undo, Version}

-- what is written holds the frames that are chosen
pub streams-chosen : StreamsAreChosen
streams-chosen Help = λ files made e. tt
streams-chosen Version = λ files made e. tt
streams-chosen (ListFile input) = λ files made e. tt
streams-chosen (InfoFile input) = λ files made e. tt
streams-chosen (Drill seed count) = λ files made e. tt
streams-chosen (Gain shift tags input output) = λ files made e. (refl, tt)
streams-chosen (Undo input output) = λ files made e. (refl, tt)
streams-chosen (Fade back input output sheet) = λ files made e. (refl, tt)
streams-chosen (Cut from to least input output) = cut-holds from to least input output
streams-chosen (CutExact input from to output) = exact-holds input from to output
streams-chosen (Pack mode input output) = pack-holds mode input output
streams-chosen (SplitAt input prefix places) = split_at-holds input prefix places
streams-chosen (SplitExact input prefix places) = split_exact-holds input prefix places
streams-chosen (SplitBy false input prefix sheet) = split_by-holds input prefix sheet
streams-chosen (SplitBy true input prefix sheet) = split_exact_by-holds input prefix sheet
streams-chosen (Join false output inputs) = join-holds output inputs
streams-chosen (Join true output inputs) = seamless-chosen output inputs
streams-chosen (Remove input output stretches) = remove-holds stretches input output
streams-chosen (Salvage input output) = salvage-holds input output

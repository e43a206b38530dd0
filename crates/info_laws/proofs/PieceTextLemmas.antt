-- The text about an exact piece: its head, as it is read, counts its samples.
use Rattle.std.proofs.Common.{List, subst, ℕ}
use Rattle.commands.specs.SingleOutput.{most_frames}
use Rattle.cut_edits.specs.Exact.{survey_without_head}
use Rattle.exact_laws.proofs.PieceReadLemmas.{exact-pieces-play}
use Rattle.file_laws.proofs.WrittenFrameLemmas.{samples-stay}
use Rattle.info_laws.proofs.CountLemmas.{counted-agree}
use Rattle.info_laws.specs.WrittenText.{PieceTextsAgree, SaysSamples}
use Rattle.laying.specs.Laid.{file_laid}

-- the text of an exact piece says how many samples it plays
pub pieces-agree : PieceTextsAgree
pieces-agree from to file s laid t read e told =
    let piece : List ℕ = file_laid laid file (survey_without_head s) in
    subst (SaysSamples piece t)
    (exact-pieces-play.cut from to file s laid read e most_frames t told).length
    (counted-agree piece (samples-stay from to file read e) t told).plays

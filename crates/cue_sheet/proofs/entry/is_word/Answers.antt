-- The texts are equal exactly if their letters are, ignoring case.
use Rattle.std.proofs.lemmas.{Bool.Decides.same_from_decides, Slice.Eq.bytes_eq-Decides}
use Rattle.std.specs.{Char.to_ascii_lowercase, Prelude.map}
use Rattle.cue_sheet.specs.Entries.{is_word}
use Rattle.cue_sheet.proofs.entry.is_word.Goals as goal

pub returns : goal.returns
unfolding is_word
returns c =
    same_from_decides _ _ c.eq_ignore_ascii_case.ensures.test (bytes_eq-Decides
    (map to_ascii_lowercase c.args.word.now) (map to_ascii_lowercase c.args.keyword.now))

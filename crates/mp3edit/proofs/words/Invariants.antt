-- So far there is a word for each argument.
use Rattle.std.proofs.Common.{map, string_bytes, take, ◌≡◌}
use Rattle.mp3edit.specs.Words.{argument_words}
use Rattle.mp3edit.proofs.words.Given as goal

abbrev pub invariant-loop-argument : goal.invariant-loop-argument
invariant-loop-argument l =
    map string_bytes l.words.items
    ≡ argument_words (map (λ argument. argument.items) (take l.argument-index l.arguments))

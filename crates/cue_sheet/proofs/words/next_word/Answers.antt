-- The word after the blanks.
use Rattle.std.proofs.Common.{ap, ap₂, arith, drop, length, sym, take, ◌-◌, ◌∙◌, ◌∷◌}
use Rattle.std.proofs.lemmas.{Bool.{eqb-false, eqb-true}, List.take_rest}
use Rattle.cue_sheet.{proofs.WordsLemmas.{next_word_is, no_next_word}, specs.Lines.words_of}
use Rattle.cue_sheet.proofs.words.next_word.Goals as goal

pub returns-then-is_empty : goal.returns-then-is_empty
returns-then-is_empty c =
    no_next_word c.args.line.now (take_rest c.args.line.now c.blanks.result
    ∙ ap (λ n. drop n c.args.line.now) c.blanks.ensures.blanks)
    (eqb-true _ 0 (sym c.is_empty.ensures ∙ c.if-is_empty.true))

pub returns : goal.returns
returns c =
    let line = c.args.line.now in
    let t = take (length line - c.blanks.result) (drop c.blanks.result line) in
    let text = take_rest line c.blanks.result ∙ ap (λ n. drop n line) c.blanks.ensures.blanks in
    let some = eqb-false _ 0 (sym c.is_empty.ensures ∙ c.if-is_empty.false) in
    let end = sym c.word_length-end.ensures.word in
    next_word_is line text (omega (arith, some))
    ∙ ap₂ (λ word rest. word ∷ words_of rest) (ap (λ n. take n t) end)
    (ap (λ n. drop n t) end ∙ sym (take_rest t c.word_length-end.result))

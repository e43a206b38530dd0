-- What is after the last played position, if the head counts.
use Rattle.std.proofs.Common.{ap, sym, ◌+◌, ◌∙◌}
use Rattle.seamless_edits.proofs.NumberLemmas.{rest-counted, rest-none}
use Rattle.seamless_edits.proofs.numbers.padding_of.Goals.{in-None, in-Some}
use Rattle.seamless_edits.proofs.numbers.padding_of.Goals as goal

pub returns-clause-padding : goal.returns-clause-padding
returns-clause-padding c =
    elim c.match-counted.branch [
      | in-Some w ↦
          ap (λ n. n + 529) (w.rest-is ∙ w.rest-rest.ensures ∙ sym (rest-counted _ c.args.class
          c.args.frames (sym w.in-Some.is ∙ c.counted.ensures.played)))
      | in-None w ↦ ap (λ n. n + 529) (w.rest-is ∙ sym
          (rest-none _ c.args.class c.args.frames (sym w.in-None.is ∙ c.counted.ensures.played)))
    ]

-- Bits that aren't a header of the version and the frequency aren't a header of the class.
use Rattle.std.proofs.{Common.{ap, sym, ◌∙◌}, lemmas.Bool.true≢false}
use Rattle.frame_header.{proofs.ClassLemmas.none_of_class, specs.Reading.{header_at, header_in}}
use Rattle.frame_header.proofs.header.Header.read_of.Goals as goal

pub returns-then-not-is_header_of : goal.returns-then-not-is_header_of
unfolding header_at
returns-then-not-is_header_of c =
    sym (none_of_class c.args.class _ (λ h is version frequency.
    true≢false (sym (c.is_header_of.ensures.all h (sym (ap header_in c.word_at-word.ensures) ∙ is)
    version frequency) ∙ c.if-not-is_header_of.true)))

-- One more value, a word that doesn't fit, and the end.
use Rattle.std.proofs.Common.{ap, append-nil, append_assoc, arith, drop, length, map, None, Option}
use Rattle.std.proofs.Common.{Some, string_bytes, sym, [], ◌++◌, ◌+◌, ◌∙◌, ◌∷◌, ◌≡◌}
use Rattle.std.{proofs.lemmas.List.map-append, specs.Option.option_map}
use Rattle.job_words.proofs.{FollowLemmas.{ends, goes_on}, forms.read_while_fits.Goals.After-read}
use Rattle.job_words.specs.{Code.{value_said, word_kind}, Kinds.{said_first, values_of}}
use Rattle.job_words.specs.declared.kinds.Value.{Value}
use Rattle.job_words.proofs.forms.read_while_fits.Goals as goal

-- what is read once the word at this place is read, and what is left
next : (c : After-read) (o : Option Value) → c.read.result ≡ o
    → map value_said c.loop-values.values.items ++ said_first (option_map value_said o)
    (values_of (drop (c.len-place.result + 1) (map word_kind c.args.kinds.now))
    (drop (c.len-place.result + 1) (map string_bytes c.args.words.now)))
    ≡ values_of (map word_kind c.args.kinds.now) (map string_bytes c.args.words.now)
next c o is =
    goes_on word_kind string_bytes
    c.args.kinds.now c.args.words.now (map value_said c.loop-values.values.items)
    (rw c.len-place.ensures.value c.loop-values.invariant.0) _
    c.index-words-place.result
    (omega (arith, c.loop-values-test.true, c.len.ensures.value, c.len-place.ensures.value)) (omega
    (arith, c.if-len-words.true, c.len-in-loop-values.ensures.value, c.len-place.ensures.value))
    (c.as_str.ensures.value ∙ ap string_bytes c.index-words-place.is)
    (sym c.read.ensures ∙ ap (option_map value_said) is)

pub loop-values-preserved : goal.loop-values-preserved
loop-values-preserved c =
    let long : length c.push.new.self.items ≡ c.len-place.result + 1 =
    omega (arith, c.push.ensures.len, c.len-place.ensures.value) in (
      rw (
        long,
        c.push.ensures.items,
        map-append value_said c.loop-values.values.items (c.in-Some.value ∷ []),
      )
          (append_assoc (map value_said c.loop-values.values.items)
          (value_said c.in-Some.value ∷ []) _
          ∙ next (goal.at.loop-values-preserved c).After-read (Some c.in-Some.value) c.in-Some.is),
      omega (arith, long, c.loop-values-test.true, c.len.ensures.value, c.len-place.ensures.value),
      omega (
        arith,
        long,
        c.if-len-words.true,
        c.len-in-loop-values.ensures.value,
        c.len-place.ensures.value,
      ),
      c.loop-values.invariant.3,
    )

pub returns-else-len-words : goal.returns-else-len-words
returns-else-len-words c = grind (arith, ends)

pub returns-in_default : goal.returns-in_default
returns-in_default c = sym (append-nil (map value_said c.loop-values.values.items))
    ∙ next (goal.at.returns-in_default c).After-read None c.in_default.is

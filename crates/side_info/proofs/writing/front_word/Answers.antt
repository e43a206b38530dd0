-- The fields are joined to one number.
use Rattle.std.proofs.Common.{ap, arith, rules, sum, sym, ℕ, [], ◌<◌, ◌^◌, ◌∙◌, ◌∷◌, ◌≡◌}
use Rattle.bit_fields.{proofs.GroupsLemmas.joined, specs.{Bits.bits_of, Groups.group_bits}}
use Rattle.side_info.proofs.WriteLemmas.{front-group_bits, front_of_one, front_of_two}
use Rattle.side_info.{proofs.writing.front_word.Goals.After-from-second, specs.Side.front_widths_of}
use Rattle.side_info.proofs.writing.front_word.Goals as goal

-- the number that joins the fields by these widths has the bits of the fields
word_of : (c : After-from-second) (begin private first second n : ℕ)
    → begin ∷ private ∷ first ∷ second ∷ [] ≡ front_widths_of c.args.version c.args.channels
    → (c.from-first.result < 2 ^ first → c.from-second.result < 2 ^ second
    → n ≡ joined (begin ∷ private ∷ first ∷ second ∷ []) (c.from-begin.result
    ∷ c.from-private_bits.result ∷ c.from-first.result ∷ c.from-second.result ∷ []))
    → bits_of (sum (front_widths_of c.args.version c.args.channels)) n
    ≡ group_bits (front_widths_of c.args.version c.args.channels)
    (c.args.side.now.main_data_begin ∷ c.args.side.now.private_bits ∷ c.args.side.now.scfsi)
word_of c begin private first second n is joins = grind (arith, front-group_bits, joined)

pub returns-in-One-true : goal.returns-in-One-true
unfolding joined
returns-in-One-true c = word_of (goal.at.returns-in-One-true c).After-from-second 9 5 4 0 _
    (ap (λ v. front_widths_of v 1) (sym c.in-One-true.is-0)
    ∙ front_of_one c.args.version c.in-One-true.is-1) (λ a b. omega (arith, a, b))

pub returns-in-One-false : goal.returns-in-One-false
unfolding joined
returns-in-One-false c = word_of (goal.at.returns-in-One-false c).After-from-second 9 3 4 4 _
    (ap (λ v. front_widths_of v 2) (sym c.in-One-false.is-0)
    ∙ front_of_two c.args.version c.in-One-false.is-1) (λ a b. omega (arith, a, b))

pub returns-in-Two-true : goal.returns-in-Two-true
unfolding joined
returns-in-Two-true c = word_of (goal.at.returns-in-Two-true c).After-from-second 8 1 0 0 _
    (search rules) (λ a b. omega (arith, a, b))

pub returns-in-Two-false : goal.returns-in-Two-false
unfolding joined
returns-in-Two-false c = word_of (goal.at.returns-in-Two-false c).After-from-second 8 2 0 0 _
    (search rules) (λ a b. omega (arith, a, b))

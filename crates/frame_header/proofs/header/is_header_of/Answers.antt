-- All groups are the groups of a header of the class.
use Rattle.std.proofs.Common.{arith, Bool, leb, true, ◌&&◌, ◌≡◌}
use Rattle.std.proofs.lemmas.Bool.{and_from, and_parts, eq-eqb, eqb-true, le-leb, leb-true}
use Rattle.bit_fields.{proofs.BitsLemmas.AreBits-bits_of, specs.Bits.bits_of}
use Rattle.frame_header.proofs.HeaderLemmas.{IsHeader-read, readable_by, says_class, says_same}
use Rattle.frame_header.proofs.HeaderLemmas.{SaysClass, version_by}
use Rattle.frame_header.proofs.header.is_header_of.Goals.{After-is_same_group-frequency}
use Rattle.frame_header.specs.Fields.{IsHeader}
use Rattle.frame_header.proofs.header.is_header_of.Goals as goal

module _ (c : After-is_same_group-frequency) where
  -- what the bits of the other header say
  own_says : SaysClass (bits_of 32 c.word_of-own.result) c.header_with.result
  own_says = says_class _ _ (AreBits-bits_of 32 c.word_of-own.result) c.word_of-own.ensures.back

  own_is : IsHeader c.header_with.result
  own_is = IsHeader-read _ (AreBits-bits_of 32 c.word_of-own.result) c.word_of-own.ensures.back

  abbrev passes : Bool
  passes = c.is_same_group.result && c.is_same_group-2.result && c.is_same_group-version.result
      && c.is_same_group-frequency.result && leb 1 c.group_of-rate_index.result
      && leb c.group_of-rate_index.result 14

  -- what these bits say if they pass
  says : passes ≡ true → SaysClass (bits_of 32 c.args.word) c.header_with.result
  says pass = grind (arith, and_parts, says_same, own_says, eqb-true, leb-true)

pub returns-clause-readable : goal.returns-clause-readable
returns-clause-readable c = λ pass. readable_by (own_is c) (says c pass)

pub returns-clause-version : goal.returns-clause-version
returns-clause-version c = grind (arith, version_by, says)

pub returns-clause-frequency : goal.returns-clause-frequency
returns-clause-frequency c = grind (arith, says)

pub returns-clause-all : goal.returns-clause-all
returns-clause-all c =
    grind (arith, says_class, AreBits-bits_of, own_says, and_from, eq-eqb, le-leb)

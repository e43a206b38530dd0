-- The fields are joined to one number.
use Rattle.std.proofs.Common.{arith, ◌%◌, ◌*◌, ◌+◌, ◌<◌, ◌^◌, ◌≡◌}
use Rattle.frame_header.specs.HeaderBits.{flag_of}
use Rattle.side_info.proofs.WriteLemmas.{bool_byte-is, upper_fits, word_below, word_bits, word_fits}
use Rattle.side_info.proofs.writing.granule_word.Goals.{After-compress_width, After-preflag_width}
use Rattle.side_info.proofs.writing.granule_word.Goals as goal

first : (c : After-preflag_width) → c.from.result * 131072 + c.from-2.result * 256 + c.from-3.result
    ≡ c.args.granule.now.part2_3_length * 131072 + c.args.granule.now.big_values * 256
    + c.args.granule.now.global_gain
first c = omega (arith, c.from.ensures, c.from-2.ensures, c.from-3.ensures)

middle : (c : After-preflag_width)
    → c.from-4.result * 8388608 + c.from-5.result * 4194304 + c.from-6.result
    ≡ c.args.granule.now.scalefac_compress * 8388608
    + flag_of c.args.granule.now.window_switching * 4194304 + c.args.granule.now.detail
middle c = grind (arith, bool_byte-is)

last : (c : After-preflag_width) → c.from-7.result * 4 + c.from-8.result * 2 + c.from-9.result
    ≡ flag_of c.args.granule.now.preflag * 4 + flag_of c.args.granule.now.scalefac_scale * 2
    + flag_of c.args.granule.now.count1table_select
last c = grind (arith, bool_byte-is)

fits : (c : After-preflag_width)
    → ((c.from.result * 131072 + c.from-2.result * 256 + c.from-3.result)
    * (1 * 2 ^ (c.compress_width.result + 23) % 18446744073709551616)
    + (c.from-4.result * 8388608 + c.from-5.result * 4194304 + c.from-6.result))
    * (1 * 2 ^ (c.preflag_width.result + 2) % 18446744073709551616)
    + (c.from-7.result * 4 + c.from-8.result * 2 + c.from-9.result) < 2 ^ 64
fits c = search (arith, word_fits, first, middle, last)

upper : (c : After-compress_width)
    → (c.from.result * 131072 + c.from-2.result * 256 + c.from-3.result)
    * (1 * 2 ^ (c.compress_width.result + 23) % 18446744073709551616)
    + (c.from-4.result * 8388608 + c.from-5.result * 4194304 + c.from-6.result) < 2 ^ 64
upper c = search (arith, upper_fits, bool_byte-is)

pub overflow_mul-upper : goal.overflow_mul-upper
overflow_mul-upper c = omega (arith, upper (goal.at.overflow_mul-upper c).After-compress_width)

pub overflow_add-upper-2 : goal.overflow_add-upper-2
overflow_add-upper-2 c = omega (arith, upper (goal.at.overflow_add-upper-2 c).After-compress_width)

pub overflow_mul-result : goal.overflow_mul-result
overflow_mul-result c = omega (arith, fits (goal.at.overflow_mul-result c).After-preflag_width)

pub overflow_add-result-2 : goal.overflow_add-result-2
overflow_add-result-2 c = omega (arith, fits (goal.at.overflow_add-result-2 c).After-preflag_width)

pub returns-clause-word : goal.returns-clause-word
returns-clause-word c = grind (arith, word_bits, first, middle)

pub returns-clause-below : goal.returns-clause-below
returns-clause-below c = search (arith, word_below, first, middle, last)

-- Lines as lists of parts, and how they are spelled.
use Rattle.std.specs.{Fmt.signed_decimal, List.flat_map}
use Rattle.std.specs.Prelude.{codes, decimal, List, slice_index, ℕ, ℤ, [], ◌%◌, ◌/◌, ◌∷◌}
use Rattle.program_texts.specs.declared.parts.LinePart.{LinePart as CodePart}
use Rattle.requests.specs.Names.{piece_name}
use Rattle.program_texts.specs.declared.parts.LinePart.TheVariants as code

-- a part of a line
pub data LinePart : Type 0 where
  Text : List ℕ → LinePart
  -- a number, as decimal digits
  Number : ℕ → LinePart
  -- a number, as decimal digits, with `-` before them where it is negative
  Signed : ℤ → LinePart
  -- a check word, as four hexadecimal digits
  Hexadecimal : ℕ → LinePart
  -- the name of a file
  Name : List ℕ → LinePart

-- a number below 16 as a hexadecimal digit
abbrev pub hex_digit : ℕ → ℕ
hex_digit n = slice_index (codes "0123456789abcdef") n

-- a check word as four hexadecimal digits
abbrev pub hex_word : ℕ → List ℕ
hex_word word = hex_digit (word / 4096 % 16) ∷ hex_digit (word / 256 % 16)
    ∷ hex_digit (word / 16 % 16) ∷ hex_digit (word % 16) ∷ []

-- the bytes of a part
abbrev pub part_text : LinePart → List ℕ
part_text (Text text) = text
part_text (Number number) = decimal number
part_text (Signed number) = signed_decimal number
part_text (Hexadecimal word) = hex_word word
part_text (Name name) = name

-- the bytes of a line
abbrev pub text_of_line : List LinePart → List ℕ
text_of_line parts = flat_map part_text parts

-- a part of a line of the code
abbrev pub line_part_of : CodePart → LinePart
line_part_of (code.Text text) = Text text.now
line_part_of (code.Number number) = Number number
line_part_of (code.Signed number) = Signed number
line_part_of (code.Hexadecimal word) = Hexadecimal word
line_part_of (code.Name name) = Name name.now
line_part_of (code.PieceName prefix number) = Name (piece_name prefix.now (number % 100))

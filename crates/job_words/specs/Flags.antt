-- The flags of a form, and the orders in which they can be given.
use Rattle.std.specs.List.{filter, flat_map, list_any}
use Rattle.std.specs.Prelude.{Bool, bytes_eq, codes, drop, find, length, List, map, None, not}
use Rattle.std.specs.Prelude.{Option, slice_index_or, Some, suc, zero, ℕ, [], ◌∷◌}
use Rattle.job_words.specs.{Kinds.{Fixed, Kind}, declared.flags.Flag.Flag}
use Rattle.job_words.specs.declared.flags.Flag.TheVariants.{Back, Least, Seamless, Tagless}
use Rattle.job_words.specs.declared.flags.Flag.TheVariants.{Wrapping}

-- the one or two words of a flag
abbrev pub flag_words : Flag → List (List ℕ)
-- tags are neither read nor changed
flag_words Tagless = codes "-s" ∷ codes "s" ∷ []
-- gains wrap around modulo 256
flag_words Wrapping = codes "-w" ∷ []
-- each frame has the least slot
flag_words Least = codes "--least" ∷ []
-- a fade is undone
flag_words Back = codes "--back" ∷ []
-- frames that only a piece needs are left out
flag_words Seamless = codes "--seamless" ∷ []

-- the kinds of these words, each of which is fixed
abbrev pub flag_kinds : Flag → List Kind
flag_kinds flag = map Fixed (flag_words flag)

-- the kinds of the words of flags, in order
abbrev pub given_kinds : List Flag → List Kind
given_kinds given = flat_map flag_kinds given

-- the first word of a flag
abbrev pub first_word : Flag → List ℕ
first_word flag = slice_index_or (flag_words flag) 0 []

-- the word is the first word of the flag; no two flags have the same first word
abbrev pub begins_flag : List ℕ → Flag → Bool
begins_flag word flag = bytes_eq word (first_word flag)

-- the flag is among those that are given
abbrev pub is_given : List Flag → Flag → Bool
is_given given flag = list_any (begins_flag (first_word flag)) given

-- the flags other than this one
abbrev pub without_flag : Flag → List Flag → List Flag
without_flag flag flags = filter (λ other. not (begins_flag (first_word flag) other)) flags

-- all lists of at most n of the flags, each at most once
abbrev pub orders_up_to : ℕ → List Flag → List (List Flag)
orders_up_to zero flags = [] ∷ []
orders_up_to (suc n) flags =
    []
    ∷ flat_map (λ flag. map (λ rest. flag ∷ rest) (orders_up_to n (without_flag flag flags))) flags

-- all lists of flags, each at most once and in any order
abbrev pub orders : List Flag → List (List Flag)
orders flags = orders_up_to (length flags) flags

-- ---- the flags that words begin with

-- the flag whose first word is the first of these
abbrev pub next_flag : List Flag → List (List ℕ) → Option Flag
next_flag flags [] = None
next_flag flags (word ∷ words) = find (begins_flag word) flags

-- the flag and those after it, if there is one
abbrev pub flag_first : Option Flag → (Flag → List Flag) → List Flag
flag_first None rest = []
flag_first (Some flag) rest = flag ∷ rest flag

-- at most n of the flags, with which the words begin
abbrev pub leading_flags_up_to : ℕ → List Flag → List (List ℕ) → List Flag
leading_flags_up_to zero flags words = []
leading_flags_up_to (suc n) flags words = flag_first (next_flag flags words)
    (λ flag. leading_flags_up_to n (without_flag flag flags)
    (drop (length (flag_words flag)) words))

-- the flags with which the words begin, each at most once
abbrev pub leading_flags : List Flag → List (List ℕ) → List Flag
leading_flags flags words = leading_flags_up_to (length flags) flags words

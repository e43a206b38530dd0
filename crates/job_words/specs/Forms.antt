-- The forms that the program's words have, and what the words of a form ask for. The flags `-s s`,
-- `-w`, `-g N` and `-l C N` are named as in mp3gain, and `-c CUE` as in mp3splt.
use Rattle.std.specs.{Int.div_ceil, List.{flat_map, list_all}}
use Rattle.std.specs.Prelude.{Bool, codes, drop, false, length, List, map, min, not, replicate}
use Rattle.std.specs.Prelude.{slice_index_or, true, ℕ, [], ◌*◌, ◌++◌, ◌+◌, ◌-◌, ◌∷◌, ◌≡◌, ◌≤◌}
use Rattle.job_words.specs.Flags.{first_word, given_kinds, is_given, orders}
use Rattle.job_words.specs.Kinds.{Channel, channel_said, Count, count_said, Exact, exact_said}
use Rattle.job_words.specs.Kinds.{fits_kind, Fixed, Kind, Name, name_at, Place, place_said, Rate}
use Rattle.job_words.specs.Kinds.{rate_said, Said, said_at, Seed, seed_said, Steps, steps_said}
use Rattle.job_words.specs.Kinds.{values_of}
use Rattle.job_words.specs.Request.{Cut, CutExact, Drill, Fade, Gain, Help, InfoFile, Join}
use Rattle.job_words.specs.Request.{ListFile, Pack, Remove, Request, Salvage, SplitAt, SplitBy}
use Rattle.job_words.specs.{Request.{SplitExact, Undo, Version}, declared.flags.Flag.Flag}
use Rattle.job_words.specs.declared.flags.Flag.TheVariants.{Back, Least, Seamless, Tagless}
use Rattle.job_words.specs.declared.{flags.Flag.TheVariants.Wrapping, forms.FormKind.FormKind}
use Rattle.job_words.specs.declared.forms.More.{More, TheVariants.{Pairs, Words}}
use Rattle.requests.specs.declared.mode.PackMode.{PackMode}
use Rattle.requests.specs.declared.mode.PackMode.TheVariants.{Best, Constant, Floor}
use Rattle.requests.specs.declared.mode.PackMode.TheVariants.{Least as LeastMode}
use Rattle.requests.specs.declared.shift.Channels.{Channels, TheVariants.Both}
use Rattle.job_words.specs.declared.forms.FormKind.TheVariants as asks

-- the command's word, the flags that may follow it, the kinds of the words after the flags, how
-- many further words of the last kind there may be, or pairs of them, and what is asked for
pub record Form : Type 0 where
  pub command : List ℕ
  pub flags : List Flag
  pub kinds : List Kind
  pub more : More
  pub asks : FormKind

-- `--help`
abbrev pub help_form : Form
help_form =
    record { command = codes "--help"; flags = []; kinds = []; more = Words 0; asks = asks.Help }

-- `-h`
abbrev pub short_help_form : Form
short_help_form =
    record { command = codes "-h"; flags = []; kinds = []; more = Words 0; asks = asks.Help }

-- `--version`
abbrev pub version_form : Form
version_form =
    record {
      command = codes "--version";
      flags = [];
      kinds = [];
      more = Words 0;
      asks = asks.Version;
    }

-- `list IN`
abbrev pub list_form : Form
list_form =
    record {
      command = codes "list";
      flags = [];
      kinds = Name ∷ [];
      more = Words 0;
      asks = asks.List;
    }

-- `info IN`
abbrev pub info_form : Form
info_form =
    record {
      command = codes "info";
      flags = [];
      kinds = Name ∷ [];
      more = Words 0;
      asks = asks.Info;
    }

-- `gain [-s s] [-w] -g N IN OUT`
abbrev pub gain_form : Form
gain_form = record {
  command = codes "gain";
  flags = Tagless ∷ Wrapping ∷ [];
  kinds = Fixed (codes "-g") ∷ Steps ∷ Name ∷ Name ∷ [];
  more = Words 0;
  asks = asks.Gain;
}

-- `gain [-s s] [-w] -l C N IN OUT`
abbrev pub channel_form : Form
channel_form =
    record {
      command = codes "gain";
      flags = Tagless ∷ Wrapping ∷ [];
      kinds = Fixed (codes "-l") ∷ Channel ∷ Steps ∷ Name ∷ Name ∷ [];
      more = Words 0;
      asks = asks.ChannelGain;
    }

-- `gain -u IN OUT`
abbrev pub undo_form : Form
undo_form = record {
  command = codes "gain";
  flags = [];
  kinds = Fixed (codes "-u") ∷ Name ∷ Name ∷ [];
  more = Words 0;
  asks = asks.Undo;
}

-- `cut [--least] IN FROM TO OUT`
abbrev pub cut_form : Form
cut_form = record {
  command = codes "cut";
  flags = Least ∷ [];
  kinds = Name ∷ Place ∷ Place ∷ Name ∷ [];
  more = Words 0;
  asks = asks.Cut;
}

-- `cut --exact IN FROM TO OUT`
abbrev pub exact_form : Form
exact_form = record {
  command = codes "cut";
  flags = [];
  kinds = Fixed (codes "--exact") ∷ Name ∷ Exact ∷ Exact ∷ Name ∷ [];
  more = Words 0;
  asks = asks.CutExact;
}

-- `pack IN OUT`
abbrev pub pack_form : Form
pack_form = record {
  command = codes "pack";
  flags = [];
  kinds = Name ∷ Name ∷ [];
  more = Words 0;
  asks = asks.Pack;
}

-- `pack --constant B IN OUT`
abbrev pub constant_form : Form
constant_form = record {
  command = codes "pack";
  flags = [];
  kinds = Fixed (codes "--constant") ∷ Rate ∷ Name ∷ Name ∷ [];
  more = Words 0;
  asks = asks.ConstantPack;
}

-- `pack --floor B IN OUT`
abbrev pub floor_form : Form
floor_form = record {
  command = codes "pack";
  flags = [];
  kinds = Fixed (codes "--floor") ∷ Rate ∷ Name ∷ Name ∷ [];
  more = Words 0;
  asks = asks.FloorPack;
}

-- `pack --best IN OUT`
abbrev pub best_form : Form
best_form = record {
  command = codes "pack";
  flags = [];
  kinds = Fixed (codes "--best") ∷ Name ∷ Name ∷ [];
  more = Words 0;
  asks = asks.BestPack;
}

-- `split IN PREFIX P1 P2 [P3 to P100]`
abbrev pub split_form : Form
split_form = record {
  command = codes "split";
  flags = [];
  kinds = Name ∷ Name ∷ Place ∷ Place ∷ [];
  more = Words 98;
  asks =
      asks.SplitAt;
}

-- `split --exact IN PREFIX P1 P2 [P3 to P100]`
abbrev pub exact_split_form : Form
exact_split_form =
    record {
      command = codes "split";
      flags = [];
      kinds = Fixed (codes "--exact") ∷ Name ∷ Name ∷ Exact ∷ Exact ∷ [];
      more = Words 98;
      asks = asks.SplitExact;
    }

-- `split IN PREFIX -c CUE`
abbrev pub sheet_form : Form
sheet_form = record {
  command = codes "split";
  flags = [];
  kinds = Name ∷ Name ∷ Fixed (codes "-c") ∷ Name ∷ [];
  more = Words 0;
  asks = asks.SplitBy;
}

-- `split --exact IN PREFIX -c CUE`
abbrev pub exact_sheet_form : Form
exact_sheet_form =
    record {
      command = codes "split";
      flags = [];
      kinds = Fixed (codes "--exact") ∷ Name ∷ Name
          ∷ Fixed (codes "-c") ∷ Name ∷ [];
      more = Words 0;
      asks = asks.SplitExactBy;
    }

-- `join [--seamless] OUT IN1 [IN2 to IN64]`
abbrev pub join_form : Form
join_form = record {
  command = codes "join";
  flags = Seamless ∷ [];
  kinds = Name ∷ Name ∷ [];
  more = Words 63;
  asks = asks.Join;
}

-- `drill SEED COUNT`
abbrev pub drill_form : Form
drill_form = record {
  command = codes "drill";
  flags = [];
  kinds = Seed ∷ Count ∷ [];
  more = Words 0;
  asks = asks.Drill;
}

-- `fade [--back] IN OUT SHEET`
abbrev pub fade_form : Form
fade_form = record {
  command = codes "fade";
  flags = Back ∷ [];
  kinds = Name ∷ Name ∷ Name ∷ [];
  more = Words 0;
  asks =
      asks.Fade;
}

-- `salvage IN OUT`
abbrev pub salvage_form : Form
salvage_form = record {
  command = codes "salvage";
  flags = [];
  kinds = Name ∷ Name ∷ [];
  more = Words 0;
  asks = asks.Salvage;
}

-- `remove IN OUT FROM TO [FROM TO ..]`, with up to 50 pairs
abbrev pub remove_form : Form
remove_form = record {
  command = codes "remove";
  flags = [];
  kinds = Name ∷ Name ∷ Exact ∷ Exact ∷ [];
  more = Pairs 49;
  asks = asks.Remove;
}

-- all forms
abbrev pub forms : List Form
forms =
    help_form ∷ short_help_form ∷ version_form ∷ list_form ∷ info_form ∷ gain_form ∷ channel_form
    ∷ undo_form
    ∷ cut_form ∷ exact_form ∷ pack_form
    ∷ constant_form ∷ floor_form ∷ best_form ∷ split_form ∷ exact_split_form ∷ sheet_form
    ∷ exact_sheet_form ∷ join_form ∷ drill_form ∷ fade_form ∷ salvage_form ∷ remove_form ∷ []

-- ---- the kinds of a form's words

-- a form with flags that are given, in the order of their words
pub record Shape : Type 0 where
  pub form : Form
  pub given : List Flag

-- the form with these flags
abbrev pub shape_with : Form → List Flag → Shape
shape_with form given = record { form = form; given = given }

-- the form with each list of its flags
abbrev pub shapes_of : Form → List Shape
shapes_of form = map (shape_with form) (orders form.flags)

-- the shapes of all forms of a table
abbrev pub shapes : List Form → List Shape
shapes table = flat_map shapes_of table

-- the last of some kinds
abbrev pub last_kind : List Kind → Kind
last_kind kinds = slice_index_or kinds (length kinds - 1) Name

-- the most further words of the last kind
abbrev pub most_further : More → ℕ
most_further (Words most) = most
most_further (Pairs most) = 2 * most

-- how many further words of the last kind there are where `left` words are left for them: as
-- many, with the second word of a pair that is begun, but at most those that there may be
abbrev pub further_words : More → ℕ → ℕ
further_words (Words most) left = min most left
further_words (Pairs most) left = 2 * min most (div_ceil left 2)

-- the kinds of `count` words after the flags: the last is
-- repeated for the words that are left, as often as it may be
abbrev pub form_kinds : Form → ℕ → List Kind
form_kinds form count =
    form.kinds
    ++ replicate (further_words form.more (count - length form.kinds)) (last_kind form.kinds)

-- the kinds of the command's word and of the flags' words
abbrev pub front_kinds : List ℕ → List Flag → List Kind
front_kinds command given = Fixed command ∷ given_kinds given

-- the kinds of a shape's command and flags
abbrev pub front_kinds_of : Shape → List Kind
front_kinds_of shape = front_kinds shape.form.command shape.given

-- the kinds of `count` words
abbrev pub kinds_for : Shape → ℕ → List Kind
kinds_for shape count =
    front_kinds_of shape ++ form_kinds shape.form (count - length (front_kinds_of shape))

-- ---- what is asked for

-- a change of gains of these channels: the values from
-- this place on are its steps, its input and its output
abbrev pub gain_request : Channels → List Flag → List Said → ℕ → Request
gain_request channels given values place =
    Gain (record {
      channels = channels;
      steps = steps_said (said_at values place);
      wrap = is_given given Wrapping;
    })
    (not (is_given given Tagless)) (name_at values (place + 1)) (name_at values (place + 2))

-- a packing in this mode: the values from this place on are its input and its output
abbrev pub pack_request : PackMode → List Said → ℕ → Request
pack_request mode values place = Pack mode (name_at values place) (name_at values (place + 1))

-- a split by a cue sheet: the values from this place on
-- are its input, its prefix, a fixed word and the sheet
abbrev pub sheet_request : Bool → List Said → ℕ → Request
sheet_request exact values place =
    SplitBy exact (name_at values place) (name_at values (place + 1)) (name_at values (place + 3))

-- the first two of a list, the next two, and so on; a last one without another makes no pair
abbrev pub pairs_of : {X : Type 0} → List X → List (X × X)
pairs_of [] = []
pairs_of (first ∷ []) = []
pairs_of (first ∷ second ∷ rest) = (first, second) ∷ pairs_of rest

-- what is asked for by the flags that are given, by what
-- the words after them say, and by these words themselves
abbrev pub form_request : FormKind → List Flag → List Said → List (List ℕ) → Request
form_request asks.Help given values words = Help
form_request asks.Version given values words = Version
form_request asks.List given values words = ListFile (name_at values 0)
form_request asks.Info given values words = InfoFile (name_at values 0)
form_request asks.Gain given values words = gain_request Both given values 1
form_request asks.ChannelGain given values words =
    gain_request (channel_said (said_at values 1)) given values 2
form_request asks.Undo given values words = Undo (name_at values 1) (name_at values 2)
form_request asks.Cut given values words =
    Cut (place_said (said_at values 1)) (place_said (said_at values 2)) (is_given given Least)
    (name_at values 0) (name_at values 3)
form_request asks.CutExact given values words =
    CutExact (name_at values 1) (exact_said (said_at values 2)) (exact_said (said_at values 3))
    (name_at values 4)
form_request asks.Pack given values words = pack_request LeastMode values 0
form_request asks.ConstantPack given values words =
    pack_request (Constant (rate_said (said_at values 1))) values 2
form_request asks.FloorPack given values words =
    pack_request (Floor (rate_said (said_at values 1))) values 2
form_request asks.BestPack given values words = pack_request Best values 1
form_request asks.SplitAt given values words =
    SplitAt (name_at values 0) (name_at values 1) (map place_said (drop 2 values))
form_request asks.SplitExact given values words =
    SplitExact (name_at values 1) (name_at values 2) (map exact_said (drop 3 values))
form_request asks.SplitBy given values words = sheet_request false values 0
form_request asks.SplitExactBy given values words = sheet_request true values 1
form_request asks.Join given values words =
    Join (is_given given Seamless) (name_at values 0) (drop 1 words)
form_request asks.Drill given values words =
    Drill (seed_said (said_at values 0)) (count_said (said_at values 1))
form_request asks.Fade given values words =
    Fade (is_given given Back) (name_at values 0) (name_at values 1) (name_at values 2)
form_request asks.Salvage given values words = Salvage (name_at values 0) (name_at values 1)
form_request asks.Remove given values words =
    Remove (name_at values 0) (name_at values 1) (pairs_of (map exact_said (drop 2 values)))

-- what words of a shape ask for
abbrev pub shape_request : Shape → List (List ℕ) → Request
shape_request shape words =
    form_request shape.form.asks shape.given (drop (length (front_kinds_of shape))
    (values_of (kinds_for shape (length words)) words))
    (drop (length (front_kinds_of shape)) words)

-- ---- what holds of each form

-- the most words after the flags that may be read for
-- what is asked: 100 places, and the words before them
abbrev pub most_values : FormKind → ℕ
most_values asks.SplitExact = 103
most_values _ = 102

-- no flag's first word can be the first word after the flags
abbrev pub has_clear_flags : Form → Bool
has_clear_flags form = list_all
    (λ flag. not (fits_kind (slice_index_or form.kinds 0 Name) (first_word flag))) form.flags

-- the form is small, and its flags can't be taken for its other words
pub record IsReadable (form : Form) : Type 0 where
  pub flags : length form.flags ≤ 4
  pub kinds : length form.kinds ≤ 5
  pub more : most_further form.more ≤ 98
  pub words : length form.kinds + most_further form.more ≤ most_values form.asks
  pub clear : has_clear_flags form ≡ true

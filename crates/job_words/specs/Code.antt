-- The values of the code, as values of the definitions.
use Rattle.std.specs.Prelude.{map}
use Rattle.job_words.specs.Forms.{Form}
use Rattle.job_words.specs.Kinds.{Channel, ChannelSaid, Count, CountSaid, Exact, ExactSaid, Fixed}
use Rattle.job_words.specs.Kinds.{Itself, Kind, Name, NameSaid, Place, PlaceSaid, Rate, RateSaid}
use Rattle.job_words.specs.Kinds.{Said, Seed, SeedSaid, Steps, StepsSaid}
use Rattle.job_words.specs.declared.{forms.Form.Form as CodeForm, kinds.Value.Value}
use Rattle.job_words.specs.declared.kinds.WordKind.{WordKind}
use Rattle.job_words.specs.declared.kinds.Value.TheVariants as value
use Rattle.job_words.specs.declared.kinds.WordKind.TheVariants as code

-- the kind that a kind of the code is
abbrev pub word_kind : WordKind → Kind
word_kind (code.Fixed text) = Fixed text.now
word_kind code.Name = Name
word_kind code.Steps = Steps
word_kind code.Channel = Channel
word_kind code.Place = Place
word_kind code.Exact = Exact
word_kind code.Rate = Rate
word_kind code.Seed = Seed
word_kind code.Count = Count

-- what a value of the code says
abbrev pub value_said : Value → Said
value_said value.Fixed = Itself
value_said (value.Name name) = NameSaid name.now
value_said (value.Steps steps) = StepsSaid steps
value_said (value.Channel channel) = ChannelSaid channel
value_said (value.Place place) = PlaceSaid place
value_said (value.Exact place) = ExactSaid place
value_said (value.Rate rate) = RateSaid rate
value_said (value.Seed seed) = SeedSaid seed
value_said (value.Count count) = CountSaid count

-- the form that a form of the code is
abbrev pub form_given : CodeForm → Form
form_given form = record {
  command = form.command.now;
  flags = form.flags.now;
  kinds = map word_kind form.kinds.now;
  more = form.more;
  asks = form.asks;
}

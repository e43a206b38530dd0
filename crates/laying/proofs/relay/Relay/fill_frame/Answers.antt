-- Both areas are within the input, and the feed holds all
-- from the beginning of the first to the end of the second.
use Rattle.std.proofs.Common.{arith, length-drop, rules, sym, ◌+◌, ◌-◌, ◌∙◌, ◌≤◌}
use Rattle.std.proofs.lemmas.List.{drop-drop, drop-take, length-take-le, take-take}
use Rattle.laying.proofs.{ReachLemmas.holds-given, ReadLemmas.{area-at, laid-within}}
use Rattle.laying.proofs.relay.Relay.fill_frame.Goals.{After-area_extent-own}
use Rattle.sync_survey.specs.Faults.{survey_view}
use Rattle.laying.proofs.relay.Relay.fill_frame.Given as given
use Rattle.laying.proofs.relay.Relay.fill_frame.Goals as goal

pub area_extent-own-requires : goal.area_extent-own-requires
area_extent-own-requires g c = c.requires.next.known ∙ sym (c.requires.ready.laid.placed
    c.args.reading.now.next c.args.known.now.row.now c.requires.next.found).class_is

-- the area is within the input
area-within : (g : given.Over) (c : After-area_extent-own g)
    → c.area_extent-own.result.at + c.area_extent-own.result.size
    ≤ (survey_view c.args.self.now.survey.now).length
area-within g c = grind (arith, laid-within)

pub first_byte-requires-clause-within : goal.first_byte-requires-clause-within
first_byte-requires-clause-within g c = search (rules, area-within)

pub fill-requires-clause-within : goal.fill-requires-clause-within
fill-requires-clause-within g c = omega (
  arith,
  area-within g (goal.at.fill-requires-clause-within g c).After-area_extent-own,
  c.in_ok-first.ensures.near,
)

pub returns-clause-given : goal.returns-clause-given
returns-clause-given g c = record {
  over = search (arith, holds-given, length-take-le, take-take);
  area = search (arith, length-drop, drop-take, drop-drop, area-at);
  before = search rules;
  skip = search rules;
  at = search rules;
  ends = omega (
    arith,
    area-within g (goal.at.returns-clause-given g c).After-area_extent-own,
    c.in_ok-fill.ensures.given.long,
    length-drop (c.area_extent-own.result.at - c.in_ok-first.first) c.fill.new.feed.given,
  );
}

-- The area is then in the window.
use Rattle.std.proofs.Common.{subst, sym}
use Rattle.laying.{proofs.ReachLemmas.{holds-given, holds-pushed}, specs.Passing.HoldsLastAreas}
use Rattle.sync_survey.specs.Faults.{survey_view}
use Rattle.laying.proofs.relay.Relay.push_last.Goals as goal

pub returns-clause-over : goal.returns-clause-over
returns-clause-over g c = λ at within.
    let files = (g.D.Folder.seen c.fill.new.folder).files in
    let s = survey_view c.args.self.now.survey.now in
    let input = c.args.self.now.pass.input.now in
    let reading = c.args.reading.now in
    let given = c.fill.new.feed.given in
    let over = subst (λ f. HoldsLastAreas c.args.window.now input f s
    reading.at reading.count reading.next) (sym c.fill.ensures.reads.files) c.requires.over in
    holds-pushed c.push_area.new.self (holds-given over c.in_ok-fill.ensures.given) within
    (rw c.bytes.ensures at c.push_area.ensures.held)

-- The areas up to the frame's own are read, and its main data are cut out of them.
use Rattle.std.proofs.Common.{ap, slice_get, Some, subst, sym, true, ◌+◌, ◌∙◌, ◌≡◌}
use Rattle.laying.proofs.{ReadLemmas.lost-is, RelayLemmas.read-at}
use Rattle.laying.specs.Passing.{IsWindowOverFrames}
use Rattle.seamless_edits.proofs.{FramePlaceLemmas.get-one, ReadingLemmas.{holds-data, HoldsData}}
use Rattle.seamless_edits.proofs.main_data.Source.main_data.Goals.{After-from}
use Rattle.sync_survey.specs.{Faults.survey_view, MainData.own_area, Row.Row}
use Rattle.seamless_edits.proofs.main_data.Source.main_data.Given as given
use Rattle.seamless_edits.proofs.main_data.Source.main_data.Goals as goal

pub returns-then-lost-clause-payload : goal.returns-then-lost-clause-payload
returns-then-lost-clause-payload g c = λ file holds r found.
    let s = survey_view c.args.self.now.survey.now in
    let row = c.index-frames-i.result in
    let here : slice_get s.frames c.args.i ≡ Some row =
    read-at c.requires.within c.frames.ensures
    c.index-frames-i.is in
    let lost : r.lost ≡ true =
    subst (λ (x : Row). x.lost ≡ true) (get-one s.frames c.args.i here found)
    (sym c.lost.ensures ∙ c.if-lost.true) in
    c.clear.ensures ∙ lost-is file s c.args.i r lost

-- the window holds the main data
held : (g : given.Over) (c : After-from g) → HoldsData c.read_before.new.window
    c.args.self.now.name.now (g.D.Folder.seen c.args.folder.now).files
    (survey_view c.args.self.now.survey.now) c.args.i c.area-area.result c.from.result
    c.extent-extent.result.bits
held g c =
    let s = survey_view c.args.self.now.survey.now in
    let row = c.index-frames-i.result in
    holds-data c.args.i
    (read-at c.requires.within c.frames.ensures
    c.index-frames-i.is)
    (sym c.lost.ensures ∙ c.if-lost.false) c.requires.held.laid
    (subst (λ f. IsWindowOverFrames c.read_before.new.window c.args.self.now.name.now f s
    (c.args.i + 1)) c.read_before.ensures.reads.files c.in_ok-read_before.ensures.over)
    (c.area-area.ensures.area ∙ ap own_area c.header.ensures)
    (c.from.ensures ∙ c.extent-extent.ensures.begin) c.extent-extent.ensures.bits

pub payload-requires-clause-held : goal.payload-requires-clause-held
payload-requires-clause-held g c =
    (held g (goal.at.payload-requires-clause-held g c).After-from).held c.area-area.ensures.most

pub payload-requires-clause-within : goal.payload-requires-clause-within
payload-requires-clause-within g c =
    (held g (goal.at.payload-requires-clause-within g c).After-from).ends

pub returns-clause-payload : goal.returns-clause-payload
returns-clause-payload g c =
    (held g (goal.at.returns-clause-payload g c).After-from).is c.payload.new.into.items
    c.payload.ensures.payload c.payload.ensures.bytes

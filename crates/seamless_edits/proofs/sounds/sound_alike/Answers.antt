-- Two frames sound alike if header, side information and main data are the same.
use Rattle.std.proofs.Common.{ap, ap₂, bytes_eq, map, subst, sym, ◌∙◌, ◌≡◌}
use Rattle.joined_inputs.specs.Inputs.{input_view}
use Rattle.outside.specs.Files.{IfTold}
use Rattle.seamless_edits.proofs.FramePlaceLemmas.{class-first, class-here, places-compared}
use Rattle.seamless_edits.proofs.FramePlaceLemmas.{places-differ}
use Rattle.seamless_edits.proofs.sounds.sound_alike.Goals.{After-class-class}
use Rattle.seamless_edits.specs.Sounds.{all_splice_frames, payload_at_place, same_front}
use Rattle.seamless_edits.specs.Sounds.{same_sounds}
use Rattle.seamless_edits.proofs.sounds.sound_alike.Given as given
use Rattle.seamless_edits.proofs.sounds.sound_alike.Goals as goal

-- this is the class of all inputs
of-one : (g : given.Over) (c : After-class-class g) → c.class-class.result ≡ c.requires.one.0
of-one g c =
    let one = c.requires.one in
    c.class-class.ensures ∙ ap (λ i. (input_view i).survey.class) (sym c.index-inputs-first.is)
    ∙ class-first input_view c.args.inputs.now
    one.1 c.requires.first c.index-inputs-first.is

pub same_front-requires-clause-first : goal.same_front-requires-clause-first
same_front-requires-clause-first g c =
    let inputs = map input_view c.args.inputs.now in
    let files = (g.D.Folder.seen c.args.folder.now).files in
    let one = c.requires.one in
    let class = of-one g (goal.at.same_front-requires-clause-first g c).After-class-class in
    class-here files c.requires.held one.1
    c.requires.first c.row_at.ensures
    ∙ sym class

pub same_front-requires-clause-second : goal.same_front-requires-clause-second
same_front-requires-clause-second g c =
    let inputs = map input_view c.args.inputs.now in
    let files = (g.D.Folder.seen c.args.folder.now).files in
    let one = c.requires.one in
    let class = of-one g (goal.at.same_front-requires-clause-second g c).After-class-class in
    class-here files c.requires.held one.1
    c.requires.second c.row_at-2.ensures
    ∙ sym class

pub returns-then-not-same_front-clause-same : goal.returns-then-not-same_front-clause-same
returns-then-not-same_front-clause-same g c =
    let inputs = map input_view c.args.inputs.now in
    let files = (g.D.Folder.seen c.args.folder.now).files in
    let one = c.requires.one in
    let class = of-one g (goal.at.returns-then-not-same_front-clause-same g c).After-class-class in
    let differ =
    ap (λ k. same_front k c.row_at.result.now c.row_at-2.result.now) (sym class)
    ∙ sym c.same_front.ensures ∙ c.if-not-same_front.true in
    places-differ
    one.1 c.requires.first c.requires.second c.row_at.ensures c.row_at-2.ensures
    files c.requires.held differ

pub returns-clause-same : goal.returns-clause-same
returns-clause-same g c =
    let inputs = map input_view c.args.inputs.now in
    let files = (g.D.Folder.seen c.args.folder.now).files in
    let one = c.requires.one in
    let class = of-one g (goal.at.returns-clause-same g c).After-class-class in
    let same =
    ap (λ k. same_front k c.row_at.result.now c.row_at-2.result.now) (sym class)
    ∙ sym c.same_front.ensures ∙ c.if-not-same_front.false in
    let first = c.main_data.new.into.items in
    let second = c.main_data-2.new.into.items in
    let tested : c.eq.result ≡ bytes_eq first second =
    c.eq.ensures ∙ ap₂ bytes_eq c.as_slice.ensures.value c.as_slice-2.ensures.value in
    let others =
    subst (λ f. IfTold f (λ told. second ≡ payload_at_place told inputs c.args.second))
    c.main_data.ensures.reads.files c.in_ok-main_data-2.ensures.payload in
    subst
    (λ b. IfTold files
    (λ f. b ≡ same_sounds (all_splice_frames f inputs) c.args.first c.args.second))
    (sym tested)
    (places-compared
    one.1 c.requires.first c.requires.second c.row_at.ensures c.row_at-2.ensures
    files c.requires.held same first second c.in_ok-main_data.ensures.payload others)

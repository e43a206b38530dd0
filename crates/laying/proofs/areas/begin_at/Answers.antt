-- Nothing is read, unless `first` is the first frame of all and there is a head.
use Rattle.std.proofs.{Common.{ap, arith, sym, [], ◌∙◌}, lemmas.Result.on_ok_weaker}
use Rattle.laying.proofs.ReadLemmas.{head-within, last-none, over-head, over-none}
use Rattle.laying.proofs.areas.begin_at.Goals as goal

pub returns-then-first-gt0-clause-over : goal.returns-then-first-gt0-clause-over
returns-then-first-gt0-clause-over g c =
    let source = c.args.source.now in
    let files = (g.D.Folder.seen c.args.folder.now).files in
    last-none
    (λ zeroth. omega (arith, zeroth, c.if-first-gt0.true)) c.requires.none
    (g.met.S.AreaSource.held source files c.args.buffer.now c.requires.ready).exact

pub returns-in_default-clause-over : goal.returns-in_default-clause-over
returns-in_default-clause-over g c =
    let source = c.args.source.now in
    over-none (g.S.AreaSource.way source).input
    (g.D.Folder.seen c.args.folder.now).files
    (omega (arith, c.if-first-gt0.false))
    (ap (λ s. s.head) (sym c.survey.ensures) ∙ sym c.head.ensures ∙ c.in_default.is)
    c.requires.none

pub push_area-requires-clause-within : goal.push_area-requires-clause-within
push_area-requires-clause-within g c =
    let source = c.args.source.now in
    let held =
    g.met.S.AreaSource.held source (g.D.Folder.seen c.args.folder.now).files c.args.buffer.now
    c.requires.ready in
    head-within held.laid
    (ap (λ s. s.head) (sym c.survey.ensures) ∙ sym c.head.ensures ∙ c.in-Some.is)

pub returns-clause-over : goal.returns-clause-over
returns-clause-over g c =
    let source = c.args.source.now in
    let files = (g.D.Folder.seen c.push_area.new.folder).files in
    on_ok_weaker c.push_area.result
    (λ read. over-head
    (omega (arith, c.if-first-gt0.false))
    (ap (λ s. s.head) (sym c.survey.ensures) ∙ sym c.head.ensures ∙ c.in-Some.is) read.long read.is
    (read.over [] c.requires.none)) c.push_area.ensures.area

-- The area of the frame is within the file, after what comes before it in the frame.
use Rattle.std.proofs.Common.{ap, rules, ◌+◌, ◌∙◌}
use Rattle.laying.proofs.ReadLemmas.{area-at, read-counts}
use Rattle.laying.proofs.relay.RelayAreaSource.push_area.Goals.{After-fill}
use Rattle.outside.specs.{Counts.OnlyReads, Pass.route_of}
use Rattle.laying.proofs.relay.RelayAreaSource.push_area.Given as given
use Rattle.laying.proofs.relay.RelayAreaSource.push_area.Goals as goal

-- reads alone were counted
only_read : (g : given.Over) (c : After-fill g) → OnlyReads
    (g.D.Folder.seen c.args.folder.now).counts (g.D.Folder.seen c.fill.new.folder).counts
only_read g c =
    let reads = c.fill.ensures.reads in
    read-counts (route_of c.args.self.now.pass) (g.D.Folder.seen c.args.folder.now)
    (g.D.Folder.seen c.fill.new.folder) c.fill.result reads.done reads.cause reads.read

pub returns-in_err-fill-clause-reads : goal.returns-in_err-fill-clause-reads
returns-in_err-fill-clause-reads g c = record {
  files = c.fill.ensures.reads.files;
  done = search rules;
  counts = only_read g (goal.at.returns-in_err-fill-clause-reads g c).After-fill;
  cause = search rules;
  read = search rules;
}

pub returns-clause-area : goal.returns-clause-area
returns-clause-area g c =
    let header = c.args.header.now in
    let given = c.in_ok-fill.ensures.given in
    let at = ap (λ n. c.args.offset + n) (c.from.ensures ∙ c.overhead.ensures.overhead) in
    record {
      area = c.fill.new.feed.given;
      long = given.long ∙ c.area.ensures.area;
      is = λ file holds. given.is file holds
          ∙ area-at file c.args.offset header at c.area.ensures.area;
      over = rw c.bytes.ensures at c.push_area.ensures.main;
    }

pub returns-clause-reads : goal.returns-clause-reads
returns-clause-reads g c = record {
  files = c.fill.ensures.reads.files;
  done = c.in_ok-fill.ensures.reads.done;
  counts = only_read g (goal.at.returns-clause-reads g c).After-fill;
  cause = search rules;
  read = search rules;
}

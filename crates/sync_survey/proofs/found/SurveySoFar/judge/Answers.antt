-- The later faults of a frame of the class decide on its row.
use Rattle.std.proofs.Common.{ap, arith, inr, length, refl, sym, ◌∙◌, ◌≡◌}
use Rattle.std.proofs.lemmas.Result.{err_from_is_err_and}
use Rattle.frame_header.proofs.ClassLemmas.{same_class-is}
use Rattle.side_info.specs.Frame.{stored_crc}
use Rattle.sync_survey.proofs.FaultsLemmas.{first-mixed, first-same, get_last, set_last}
use Rattle.sync_survey.proofs.found.SurveySoFar.judge.Goals.{After-index_mut-row, After-step}
use Rattle.sync_survey.specs.Faults.{faults_at, first_of, later_faults}
use Rattle.sync_survey.specs.{MainData.{lacks_data, row_in}, Row.Row}
use Rattle.sync_survey.proofs.found.SurveySoFar.judge.Goals as goal

pub returns-then-not-is_same_class : goal.returns-then-not-is_same_class
returns-then-not-is_same_class c = grind (arith, first-mixed)

pub read_in-requires-clause-class : goal.read_in-requires-clause-class
read_in-requires-clause-class c = grind (arith, same_class-is)

count_is : (c : After-index_mut-row) → c.len-count.result ≡ length c.args.self.now.rows.items
count_is c = omega (arith, c.len-count.ensures, c.args.self.now.rows.ok.0)

-- the row that is judged is the one that was pushed
pushed : (c : After-index_mut-row)
    → c.index_mut-row.result.now ≡ row_in c.args.offset c.args.header c.args.bytes.now
pushed c = grind (arith, count_is, get_last)

-- what is judged is the frame of these bytes
faults_are : (c : After-step)
    → c.index_mut-row.result.now ≡ row_in c.args.offset c.args.header c.args.bytes.now
    → c.len-count.result ≡ length c.args.self.now.rows.items → let now = c.args.self.now in
    first_of (later_faults (stored_crc c.args.bytes.now)
    c.from.result now.before.place now.before.ended c.len-count.result c.index_mut-row.result.now)
    ≡ first_of (faults_at (stored_crc c.args.bytes.now) c.args.class c.args.allowed now.before.place
    now.before.ended (length now.rows.items) (row_in c.args.offset c.args.header c.args.bytes.now))
faults_are c is count = grind (arith, first-same)

pub step-requires-clause-class : goal.step-requires-clause-class
step-requires-clause-class c = grind (arith, same_class-is)

pub returns-in_err-behind : goal.returns-in_err-behind
returns-in_err-behind c =
    let p = err_from_is_err_and c.from_residual-in_err-behind.result
    c.from_residual-in_err-behind.ensures.1 in
    let at = (goal.at.returns-in_err-behind c).After-index_mut-row in
    rw (p.1, p.2)
    (inr
    (sym (faults_are (goal.at.returns-in_err-behind c).After-step (pushed at) (count_is at))
    ∙ c.in_err-behind.ensures.fault))

pub returns : goal.returns
returns c =
    let at = (goal.at.returns c).After-index_mut-row in
    let now = c.args.self.now in
    let r = row_in c.args.offset c.args.header c.args.bytes.now in
    let row : c.index_mut-row.result.now ≡ r = pushed at in
    let lost = c.in_ok-behind.ensures.behind.lost
    ∙ ap (λ (q : Row). lacks_data now.before.place now.before.ended q) row in
    record {
      sound = sym (faults_are (goal.at.returns c).After-step (pushed at) (count_is at))
          ∙ c.in_ok-behind.ensures.sound;
      fits = grind arith;
      rows = grind (arith, count_is, set_last);
      pieces = refl;
      place = grind arith;
      ended = grind arith;
    }

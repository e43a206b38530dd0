-- One more item is judged and kept, until the file ends.
use Rattle.std.proofs.Common.{ap, arith, Err, IfSome, length, List, Option, refl, rules, subst, sym}
use Rattle.std.proofs.Common.{vec_len, ℕ, [], ◌+◌, ◌<◌, ◌∙◌, ◌∷◌, ◌≡◌, ◌≤◌}
use Rattle.std.proofs.lemmas.Bool.{eq-eqb, eqb-true, true≢false}
use Rattle.outside.{proofs.BufferOutputLemmas.err_at, specs.Files.Holds}
use Rattle.sync_survey.proofs.FaultsLemmas.{length-marked_rows, marked_rows-none}
use Rattle.sync_survey.proofs.FoldersLemmas.{bytes_refusal, none_read, only_reads_equal, read_more}
use Rattle.sync_survey.proofs.FoldersLemmas.{survey_ends, survey_of-short}
use Rattle.sync_survey.proofs.{FrontLemmas.pieces_later, LooksLemmas.item_at-shown}
use Rattle.sync_survey.proofs.PlacedRowLemmas.{placed_none}
use Rattle.sync_survey.proofs.ProgressLemmas.{IsBegun, IsSurveyedTo, no_frame, stopped_fault}
use Rattle.sync_survey.proofs.ProgressLemmas.{surveyed_none, whole}
use Rattle.sync_survey.proofs.StepLemmas.{few_by, few_more, item_header, kept, laid_later}
use Rattle.sync_survey.proofs.{StepLemmas.{laid_more, pass_refusal, refused}, SurveyLemmas.told_by}
use Rattle.sync_survey.{proofs.folders.judge_frames.Goals.After-bytes, specs.Faults.class_from}
use Rattle.sync_survey.specs.{Items.{item_front, size_of}, Looks.{IsNotPassed, PassesItem, Shows}}
use Rattle.sync_survey.specs.{MainData.marked_rows, Row.Row, Survey.IsWholeHead}
use Rattle.sync_survey.specs.{Walk.{fault_at, IsFrameOf}, WalkBeginning.BeginsAsWalked}
use Rattle.sync_survey.specs.declared.{folders.Walk.Walk, items.Item.TheVariants.Frame}
use Rattle.sync_survey.specs.declared.places.{Head.Head, Start.Start}
use Rattle.sync_survey.specs.declared.survey_fault.SurveyFault.TheVariants.{NoFrame}
use Rattle.sync_survey.proofs.folders.judge_frames.Given as given
use Rattle.sync_survey.proofs.folders.judge_frames.Goals as goal

nothing_in : (rows : List Row) → length rows ≡ 0 → rows ≡ []
nothing_in [] none = refl
nothing_in (r ∷ rows) none = absurd (omega (arith, none))

some_of : (rows : List Row) → (length rows ≡ 0 → ⊥) → 0 < length rows
some_of rows none = grind arith

frames_count : (head : Option Head) (rows frames : List Row) → rows ≡ marked_rows head frames
    → length rows ≡ length frames
frames_count head rows frames marks = ap length marks ∙ length-marked_rows head frames

-- the stream begins as the walk says
begun_as : {file : List ℕ} {walk : Walk} → BeginsAsWalked file walk
    → IsBegun file walk.start walk.head
begun_as told = record { start_is = told.start; head_is = told.head }

pub loop-at-init : goal.loop-at-init
loop-at-init g c = record {
  surveyed = λ bytes holds. record {
    frames = [];
    marks = c.new.ensures.items ∙ sym (marked_rows-none c.args.walk.head);
    surveyed =
        subst (IsSurveyedTo bytes c.args.walk.start c.args.walk.head c.args.allowed []
        c.args.walk.pieces.items c.head_area.result 0) (sym c.numbered_from-at.ensures.at)
        (surveyed_none c.args.allowed
        (begun_as (c.requires.walk.told bytes holds))
        {blocks = c.args.walk.pieces.items} {place_now = c.head_area.result}
        (c.requires.walk.told bytes holds).kept c.head_area.ensures.area);
  };
  laid =
      grind (
        arith,
        pieces_later 0 c.args.walk.pieces.items {to = c.args.walk.start.front_end}
            {later = c.numbered_from-at.result} c.requires.walk.laid (omega (
              arith,
              c.requires.walk.junk,
              c.numbered_from-at.ensures.behind,
            )),
        placed_none {head = c.args.walk.head} (class_from
            c.args.walk.start) {place_now = c.head_area.result} c.head_area.ensures.area,
      );
  few = omega (arith, ap length c.new.ensures.items);
  within = omega (arith, c.numbered_from-at.ensures.within, c.requires.walk.whole);
  read = none_read c.requires.fed;
}

pub returns-in_err-left : goal.returns-in_err-left
returns-in_err-left g c =
    survey_ends c.from_residual.result c.from_residual.ensures.1 c.loop-at.invariant.read
    c.in_err-left.ensures.reads.files c.in_err-left.ensures.reads.counts
    (c.in_err-left.ensures.refused c.args.allowed)

-- what the look shows
shown : (g : given.Over) (c : After-bytes g) (file : List ℕ)
    → Holds (g.D.Folder.seen c.args.folder.now).files c.args.name.now file
    → Shows file c.loop-at.at c.bytes.result.now c.in_ok-left.left
shown g c file holds = grind arith

pub returns-in_err-at : goal.returns-in_err-at
returns-in_err-at g c = record {
  surveyed = search rules;
  done = search rules;
  refused = let now = c.loop-at.found in
      let front = c.bytes.result.now in
      let at = c.loop-at.at in
      let left = c.in_ok-left.left in
      let fault = c.in_err-at.field-0.0 in
      let start = c.args.walk.start in
      let seen = shown g (goal.at.returns-in_err-at g c).After-bytes in
      let begun : (file : List ℕ) → Holds (g.D.Folder.seen c.args.folder.now).files c.args.name.now
      file → IsBegun file start c.args.walk.head = grind (arith, begun_as) in
      err_at _ _ c.from_residual-in_err-at.ensures.1
      (pass_refusal c.args.name.now (g.D.Folder.seen c.args.folder.now).files c.args.allowed
      (g.D.Folder.seen c.args.folder.now).counts (g.D.Folder.seen c.look.new.folder).counts
      c.args.walk.size fault (class_from start) at front left now c.requires.walk.known
      (c.in_ok-left.ensures.reads.done ∙ c.loop-at.invariant.read.counts)
      (λ file holds is.
      refused now
      (c.loop-at.invariant.surveyed file holds) (seen file holds) (begun file holds)
      (item_front front) is.size fault (few_by front (item_front front) refl is.front.most)
      (is.passes file (seen file holds)) is.faulty)
      (λ file holds is.
      let so_far = c.loop-at.invariant.surveyed file holds in
      stopped_fault so_far.surveyed (begun file holds) fault
      (is.none file (seen file holds))
      (ap (fault_at at) (sym (item_at-shown (seen file holds))) ∙ is.why))
      (subst (λ class. IsNotPassed class c.args.allowed at front left now fault)
      c.class-class.ensures c.in_err-at.ensures));
  files = c.in_ok-left.ensures.reads.files ∙ c.loop-at.invariant.read.files;
  counts = only_reads_equal (c.in_ok-left.ensures.reads.done ∙ c.loop-at.invariant.read.counts);
}

pub loop-at-preserved : goal.loop-at-preserved
loop-at-preserved g c =
    let now = c.loop-at.found in
    let front = c.bytes.result.now in
    let item = item_front front in
    let size = c.in_ok-at.field-0 in
    let passed : PassesItem (class_from c.args.walk.start) c.args.allowed c.loop-at.at front
    c.in_ok-left.left now c.pass.new.self size = grind arith in
    let seen = shown g (goal.at.loop-at-preserved g c).After-bytes in
    record {
      surveyed = λ file holds.
          kept now
          (c.loop-at.invariant.surveyed file holds) (seen file holds) item
          c.pass.new.self size (few_by front item refl passed.front.most)
          (passed.passes file (seen file holds)) passed.keeps;
      laid =
          laid_more
          c.args.allowed front c.pass.new.self size c.loop-at.invariant.laid item
          (item_header front item refl) passed.front.least passed.keeps;
      few = grind (arith, few_more);
      within =
          omega (arith, passed.front.within, c.in_ok-left.ensures.left, c.loop-at.invariant.within);
      read = read_more c.loop-at.invariant.read c.in_ok-left.ensures.reads;
    }

pub returns-then-is_empty : goal.returns-then-is_empty
returns-then-is_empty g c = record {
  surveyed = search rules;
  done = search rules;
  refused = bytes_refusal c.args.name.now (g.D.Folder.seen c.args.folder.now).files c.args.allowed
      (g.D.Folder.seen c.args.folder.now).counts
      (g.D.Folder.seen c.loop-at.folder).counts
      c.requires.walk.known c.loop-at.invariant.read.counts
      (refl, tt) (λ bytes holds.
      let now = c.loop-at.found in
      let is_size = c.requires.walk.known.long bytes holds in
      let so_far = c.loop-at.invariant.surveyed bytes holds in
      no_frame so_far.surveyed
      (begun_as (c.requires.walk.told bytes holds)) (omega (arith, c.loop-at-test.false, is_size))
      (nothing_in so_far.frames (omega (
        arith,
        eqb-true (vec_len now.rows) 0 (sym c.is_empty.ensures ∙ c.if-is_empty.true),
        now.rows.ok.0,
        frames_count c.args.walk.head now.rows.items so_far.frames so_far.marks,
      )))
      ∙ ap (λ n. Err (NoFrame n)) (sym is_size));
  files = search rules;
  counts = search rules;
}

-- a head that is the first frame is whole if that frame is
head_within : (start : Start) (size : ℕ) → start.first.offset + size_of (Frame start.first.header)
    ≤ size → (head : Option Head) → IfSome head (IsFrameOf start.first)
    → IfSome head (IsWholeHead start.first.offset (class_from start) size)
head_within start size h head same = grind arith

pub returns : goal.returns
returns g c = record {
  surveyed =
      search (
        arith,
        survey_of-short,
        whole,
        begun_as,
        true≢false,
        eq-eqb,
        vec_len,
        frames_count,
        told_by,
        head_within,
        some_of,
        laid_later,
        pieces_later,
      );
  done = search rules;
  refused = search rules;
  files = search rules;
  counts = search rules;
}

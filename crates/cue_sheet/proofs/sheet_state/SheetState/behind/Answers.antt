-- What each kind of line adds.
use Rattle.std.proofs.Common.{inl, inr, refl}
use Rattle.cue_sheet.proofs.CuesLemmas.{no_more, seen_with}
use Rattle.cue_sheet.proofs.sheet_state.SheetState.behind.Goals as goal

pub returns-in-Passed-clause-seen : goal.returns-in-Passed-clause-seen
returns-in-Passed-clause-seen c before is =
    let s = c.args.self in
    elim c.in-Passed.is [
      | inl passed ↦ seen_with passed is refl refl
          (no_more s.tracks) refl refl
      | inr other ↦ elim other [
        | inl index ↦ seen_with index is refl refl
            (no_more s.tracks) refl refl
        | inr broken ↦ seen_with broken is refl refl
            (no_more s.tracks) refl refl
      ]
    ]

pub returns-in-File-clause-seen : goal.returns-in-File-clause-seen
returns-in-File-clause-seen c before is =
    let s = c.args.self in
    seen_with
    c.in-File.is is refl refl (no_more s.tracks) refl refl

pub returns-in-Track-clause-seen : goal.returns-in-Track-clause-seen
returns-in-Track-clause-seen c before is =
    let s = c.args.self in
    seen_with
    c.in-Track.is is refl refl refl refl refl

pub returns-in-Start-clause-seen : goal.returns-in-Start-clause-seen
returns-in-Start-clause-seen c before is =
    let s = c.args.self in
    seen_with c.in-Start.is is refl refl (no_more s.tracks) refl refl

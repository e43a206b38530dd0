-- How reading a damaged file continues with an item that is read at the offset that was reached.
use Rattle.std.proofs.Common.{arith, Err, inl, inr, length, List, MatchResult, Ok, OnOk, Result}
use Rattle.std.proofs.Common.{Some, subst, sym, true, ℕ, ◌+◌, ◌≡◌, ◌≤◌, ◌⊎◌}
use Rattle.std.specs.Prelude.{IsErrAnd}
use Rattle.outside.specs.{Feed.{Fed, IsFedFrom}, Files.Holds, Seen.Seen}
use Rattle.salvage.proofs.ProgressLemmas.{item_laid, item_more, past_most, past_rightly}
use Rattle.salvage.proofs.ReadFaultLemmas.{bytes_refusal, look_refusal, memory_refusal}
use Rattle.salvage.{proofs.ResultLemmas.{if_err, on_both}, specs.Answers.ThingAnswer}
use Rattle.salvage.specs.DamagedFiles.{IsDamagedRefusal, most_frames}
use Rattle.salvage.specs.JudgedFrames.{AddsItem, IsPastMost}
use Rattle.salvage.specs.{Progress.{begun_class, IsBegunFile, IsDamagedReading}, Steps.admits_item}
use Rattle.salvage.specs.{Walk.item_read, declared.begun.Begun.Begun}
use Rattle.salvage.specs.declared.{found.DamagedSoFar.DamagedSoFar, usable.Role.Role}
use Rattle.salvage.specs.declared.usable.Role.TheVariants.{Later}
use Rattle.sync_survey.{proofs.FoldersLemmas.none_read, specs.Looks.{PassesFront, Shows}}
use Rattle.sync_survey.specs.{Survey.{IsSurveyRefusal, ReadsBy}, SurveyFaultKinds.IsFromOutside}
use Rattle.sync_survey.specs.declared.{items.Item.Item, survey_fault.SurveyFault.SurveyFault}
use Rattle.sync_survey.specs.declared.survey_fault.SurveyFault.TheVariants.{Memory}

-- a look that failed is why nothing more is read
pub look_failed : {T : Type 0} {x : Result T SurveyFault} {feed fed : Fed} {was now : Seen}
    {name : List ℕ} {fault : SurveyFault} {begun : Begun} {old new : DamagedSoFar}
    (r : Result (Unit {0}) SurveyFault) → IsErrAnd r (λ f. f ≡ fault)
    → IsFedFrom feed was.files name → ReadsBy fed name x was now
    → IsSurveyRefusal name was.files 0 was.counts now.counts fault → IsFromOutside fault
    → ThingAnswer name begun old new fed was now r
look_failed (Ok u) is fed reads refused outside = absurd is
look_failed {was = was} {now = now} {name = name} (Err f) is fed reads refused outside = record {
  reading = tt;
  reads = record { done = tt; fed = reads.fed; files = reads.files; counts = reads.counts };
  refused = subst (IsDamagedRefusal name was.files was.counts now.counts) (sym is)
      (look_refusal (none_read fed) refused outside);
}

-- An item was read of the bytes that are shown at the offset that was reached, as a later thing of
-- this file, and ends within the file.
pub record IsReadOn (was : Seen) (name : List ℕ) (begun : Begun) (old : DamagedSoFar) (item : Item)
    (size : ℕ) (front : List ℕ) (left : ℕ) (role : Role) : Type 0 where
  pub shows : (bytes : List ℕ) → Holds was.files name bytes → Shows bytes old.at front left
  pub later : role ≡ Later (begun_class begun)
  pub read : (bytes : List ℕ) → Shows bytes old.at front left
      → item_read bytes role old.at ≡ Some item
  pub begins : IsBegunFile was.files name begun
  pub reading : IsDamagedReading was.files name begun old
  pub usable : admits_item role old.at item front ≡ true
  pub passes : PassesFront front left (record { item = item; size = size })
  pub within : old.at + size ≤ begun.size

module _ {was : Seen} {name : List ℕ} {begun : Begun} {old : DamagedSoFar} {item : Item} {size : ℕ}
    {front : List ℕ} {left : ℕ} {role : Role}
    (on : IsReadOn was name begun old item size front left role) where
  read_there : (bytes : List ℕ) → Holds was.files name bytes
      → item_read bytes (Later (begun_class begun)) old.at ≡ Some item
  read_there bytes holds =
      subst (λ (role : Role). item_read bytes role old.at ≡ Some item) on.later
      (on.read bytes (on.shows bytes holds))

  -- the file is refused if memory ran out, or if the item is a frame too many
  keep_refused : (now : Seen) → now.counts ≡ was.counts → {fault : SurveyFault}
      → (fault ≡ Memory) ⊎ IsPastMost item old fault
      → IsDamagedRefusal name was.files was.counts now.counts fault
  keep_refused now same {fault} is =
      elim is as (λ _. IsDamagedRefusal name was.files was.counts now.counts fault) [
        | inl memory ↦ grind (arith, memory_refusal, on.begins)
        | inr past ↦ grind (
          arith,
          bytes_refusal,
          past_rightly,
          past_most,
          read_there,
          on.begins,
          on.reading,
        )
      ]

  -- the item is kept, or is refused
  pub keeps_on : {now : Seen} {result : Result (Unit {0}) SurveyFault} {new : DamagedSoFar}
      {fed : Fed} → MatchResult result (λ _. AddsItem item size front old new)
      (λ fault. (fault ≡ Memory) ⊎ IsPastMost item old fault)
      → OnOk result (length old.rows.items ≤ most_frames → length new.rows.items ≤ most_frames)
      → now.counts ≡ was.counts → ReadsBy fed name result was now
      → ThingAnswer name begun old new fed was now result
  keeps_on {now} {result} {new} kept few same reads = record {
    reading = on_both result (λ _. AddsItem item size front old new) _ _ _ kept few
        (λ _ adds fewer. record {
          reading = record {
            told = λ bytes holds. item_more bytes begun old new
                (on.reading.told bytes holds) (on.shows bytes holds)
                (read_there bytes holds) on.passes.zeros on.passes.own adds;
            laid = item_laid new on.reading.laid item front fewer on.passes.item
                (subst (λ (role : Role). admits_item role old.at item front ≡ true) on.later
                on.usable)
                on.passes.least on.within adds;
          };
          on = omega (arith, adds.at, on.passes.some);
        });
    reads = reads;
    refused = if_err result (λ _. AddsItem item size front old new) _ _ kept
        (λ _ is. keep_refused now same is);
  }

-- A file that was read without fault: its first frame, and where its items end.
use Rattle.std.proofs.Common.{ap, arith, drop, length, length-append, length-drop, List, Some, sym}
use Rattle.std.proofs.Common.{ℕ, ◌+◌, ◌∙◌, ◌∷◌, ◌≡◌, ◌≤◌}
use Rattle.moved_gains.proofs.WholeFileLemmas.{front_end-is}
use Rattle.sync_survey.proofs.ChainLemmas.{IsItemOf, item_chain-ends, item_chain-next}
use Rattle.sync_survey.proofs.ItemListLemmas.{items-length, kept_items}
use Rattle.sync_survey.proofs.StartLemmas.{start-first, start-front}
use Rattle.sync_survey.proofs.SurveyPartsLemmas.{frames_from, IsRead}
use Rattle.sync_survey.proofs.WalkLemmas.{first_item, reach-end, ReachesTo}
use Rattle.sync_survey.specs.Chains.{AreEndToEnd, bytes_of_items, item_chain, ItemChain, PlacedItem}
use Rattle.sync_survey.specs.{Chains.whole_item_at, Items.size_of, Start.IsLeastStart}
use Rattle.sync_survey.specs.{Walk.stream_chain, declared.chains.Region.TheVariants.{Front, Stream}}
use Rattle.sync_survey.specs.declared.{items.Item.TheVariants.Frame, places.Start.Start}

-- the items after the first frame
abbrev pub later_chain : List ℕ → Start → ItemChain
later_chain file start =
    item_chain Stream file (start.first.offset + size_of (Frame start.first.header))

-- The first frame is whole, and the front ends no later than it begins. It is
-- the first item of the stream; the items after it end with the file.
pub record HasStream (file : List ℕ) (start : Start) : Type 0 where
  pub first : IsItemOf Stream file start.first.offset (Frame start.first.header)
  pub there : whole_item_at Stream file start.first.offset ≡ Some (Frame start.first.header)
  pub low : start.front_end ≤ start.first.offset
  pub front : (item_chain Front file 0).stop ≡ start.front_end
  pub stream : stream_chain file start ≡ record {
    items = record { offset = start.first.offset; item = Frame start.first.header }
        ∷ (later_chain file start).items;
    stop = (later_chain file start).stop;
  }
  pub stop : (later_chain file start).stop ≡ length file

low_cases : (file : List ℕ) (start : Start) → IsLeastStart file start
    → start.front_end ≤ start.first.offset
low_cases file start h = grind arith

-- a file without fault is such a file
pub has_stream : {file : List ℕ} {allowed : ℕ} {start : Start} → IsRead file allowed start
    → HasStream file start
has_stream {file} {start = start} read =
    let at = start.first.offset in
    let item = Frame start.first.header in
    let later = later_chain file start in
    let begins = start-first read.start_is in
    let there = first_item file start.first begins.frame.is begins.frame.within in
    let stream = item_chain-next Stream file there in
    let items : List PlacedItem = record { offset = at; item = item } ∷ later.items in
    let bytes = bytes_of_items file items in
    let ends : AreEndToEnd Stream file at items later.stop =
    grind (arith, there, item_chain-ends) in
    let reached : ReachesTo file start (length file) = grind (arith, reach-end, frames_from) in
    record {
      first = begins.frame;
      there = there;
      low = low_cases file start begins.least;
      front = sym (start-front file read.start_is ∙ front_end-is file);
      stream = stream;
      stop = omega (
        arith,
        items-length Stream file at items bytes ends
            (kept_items Stream file at items later.stop ends),
        ap (λ (r : ItemChain). length (bytes_of_items file r.items)) stream,
        length-append (bytes_of_items file (stream_chain file start).items)
            (drop (length file) file),
        length-drop (length file) file,
        ap length reached,
        length-drop at file,
        begins.frame.within,
        begins.frame.some,
      );
    }

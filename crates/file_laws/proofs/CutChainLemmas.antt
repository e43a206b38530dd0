-- The items of a file that was cut short: the items that are still whole.
use Rattle.std.proofs.Common.{ap, arith, Err, false, inl, inr, length, List, None, Ok, Option, refl}
use Rattle.std.proofs.Common.{Some, subst, sym, true, ℕ, [], ◌++◌, ◌+◌, ◌<◌, ◌∙◌, ◌∷◌, ◌≡◌, ◌≤◌}
use Rattle.std.proofs.{Common.◌⊎◌, lemmas.Bool.{cases_lt, false≢true, le-leb, lt-leb}}
use Rattle.std.proofs.lemmas.List.{drop_all}
use Rattle.file_laws.proofs.CutItemLemmas.{cut, cut-none, IsCutItem, IsCutThrough, item-cut}
use Rattle.file_laws.proofs.{CutItemLemmas.{item-kept, length-cut}, CutStartLemmas.no-start}
use Rattle.file_laws.specs.CutLaws.{IsCutFault}
use Rattle.frame_header.specs.Fields.{HeaderFields}
use Rattle.laying.proofs.LaidChainLemmas.{front_end-is}
use Rattle.sync_survey.proofs.ChainLemmas.{IsItemOf, item_chain-ends, item_chain-only}
use Rattle.sync_survey.proofs.ChainLemmas.{whole_item_at-is, whole_item_at-whole}
use Rattle.sync_survey.proofs.{ItemListLemmas.stream_belongs, OneItemLemmas.stands-only_at}
use Rattle.sync_survey.proofs.StartLemmas.{start-first, start-front, start_is}
use Rattle.sync_survey.specs.Chains.{AreEndToEnd, belongs, item_chain, item_if_whole, PlacedItem}
use Rattle.sync_survey.specs.{Chains.whole_item_at, Items.{item_at, item_fits, size_of}}
use Rattle.sync_survey.specs.{Start.{front_end_of, start_at, start_of}, Walk.fault_at}
use Rattle.sync_survey.specs.declared.chains.Region.{Region, TheVariants.{Front, Stream}}
use Rattle.sync_survey.specs.declared.items.Item.{Item}
use Rattle.sync_survey.specs.declared.items.Item.TheVariants.{Block, End, Frame, Free, Nothing}
use Rattle.sync_survey.specs.declared.{items.Item.TheVariants.Zero, places.Start.Start}
use Rattle.sync_survey.specs.declared.survey_fault.SurveyFault.{SurveyFault}
use Rattle.sync_survey.specs.declared.survey_fault.SurveyFault.TheVariants.{NoFrame, Truncated}

module _ (file : List ℕ) {n : ℕ} (within : n ≤ length file) where
  abbrev now : List ℕ
  now = cut file within

  -- ---- a chain

  -- where the chain stops now: where it did, or at an item that was cut through
  abbrev pub IsStop : Region → ℕ → ℕ → List PlacedItem → Type 0
  IsStop part to stop rest =
      ((stop ≡ to) × (rest ≡ [])) ⊎ ((item : Item) × IsCutThrough file within part stop item)

  -- the items that are still whole, end to end, and where and why the chain stops
  pub record IsCutChain (part : Region) (from : ℕ) (ps : List PlacedItem) (to : ℕ) : Type 0 where
    pub front : List PlacedItem
    pub rest : List PlacedItem
    pub stop : ℕ
    pub split : front ++ rest ≡ ps
    pub ends : AreEndToEnd part now from front stop
    pub low : stop ≤ n
    pub last : IsStop part to stop rest

  chain-more : {part : Region} {from : ℕ} {p : PlacedItem} {ps : List PlacedItem} {to : ℕ}
      → AreEndToEnd part file from (p ∷ ps) to → from ≤ n
      → (p.offset + size_of p.item ≤ n → IsCutChain part (p.offset + size_of p.item) ps to)
      → (n < p.offset + size_of p.item) ⊎ (p.offset + size_of p.item ≤ n)
      → IsCutChain part from (p ∷ ps) to
  chain-more {from = from} {p = p} {ps = ps} ends low later (inl over) = record {
    front = [];
    rest = p ∷ ps;
    stop = from;
    split = refl;
    ends = refl;
    low = low;
    last = grind (arith, low);
  }
  chain-more {part} {p = p} ends low later (inr kept) =
      let behind = later kept in
      record {
        front = p ∷ behind.front;
        rest = behind.rest;
        stop = behind.stop;
        split = ap (λ (qs : List PlacedItem). p ∷ qs) behind.split;
        ends = (ends.0, item-kept file within part p.offset ends.1 kept, behind.ends);
        low = behind.low;
        last = behind.last;
      }

  -- the chain has the items that are still whole, and stops after them
  pub cut-chain : {part : Region} (from : ℕ) (ps : List PlacedItem) {to : ℕ}
      → AreEndToEnd part file from ps to → from ≤ n → IsCutChain part from ps to
  cut-chain from [] ends low = record {
    front = [];
    rest = [];
    stop = from;
    split = refl;
    ends = refl;
    low = low;
    last = grind (arith, ends);
  }
  cut-chain {part} from (p ∷ ps) {to} ends low =
      chain-more ends low (λ kept. cut-chain
      (p.offset + size_of p.item) ps ends.2 kept) (cases_lt n (p.offset + size_of p.item))

  -- ---- where no item of the part is whole

  -- a fault that a cut file may have, or none
  abbrev pub MayBeCut : Option SurveyFault → Type 0
  MayBeCut o = (o ≡ None) ⊎ ((fault : SurveyFault) × (o ≡ Some fault) × IsCutFault fault)

  fault_cases : (at : ℕ) {x item : Item} → belongs Stream item ≡ true → IsCutItem x item
      → MayBeCut (fault_at at x)
  fault_cases at is h = grind arith

  -- where the stream stops now
  pub stop-fault : {at : ℕ} {item : Item} → IsCutThrough file within Stream at item
      → MayBeCut (fault_at at (item_at now at))
  stop-fault through = grind (arith, whole_item_at-is, fault_cases, item-cut)

  -- ---- the start

  front-item : {x : Item} {h : HeaderFields} → IsCutItem x (Frame h) → belongs Front x ≡ false
  front-item h2 = grind arith

  not-in-front : (at : ℕ) {x : Item} → item_at now at ≡ x → belongs Front x ≡ false
      → whole_item_at Front now at ≡ None
  unfolding whole_item_at
  not-in-front at is out = ap (item_if_whole Front now at) is ∙ rw out refl

  abbrev pub IsCutStart : Start → Type 0
  IsCutStart start =
      ((start_of now ≡ Ok start) × (start.first.offset + size_of (Frame start.first.header) ≤ n))
      ⊎ ((fault : SurveyFault) × (start_of now ≡ Err fault) × IsCutFault fault)

  none_starts : {at : ℕ} {item : Item} → IsCutThrough file within Stream at item → {x end : Item}
      → item_at now at ≡ x → x ≡ end → belongs Stream end ≡ false
      → start_at now at end ≡ start_at now at End
      → (fault : SurveyFault) × (start_at now at x ≡ Err fault) × IsCutFault fault
  none_starts {at} {item} through is same apart ends = (
    NoFrame at,
    ap (start_at now at) same ∙ ends ∙ no-start file within through (λ e. false≢true (
        sym apart ∙ ap (belongs Stream) (sym same ∙ sym is ∙ e)
        ∙ (whole_item_at-is Stream file at item through.is).belongs
        )),
    tt,
  )

  -- no start, if the item at which the front ends was cut through
  no_start : {at : ℕ} {item : Item} → IsCutThrough file within Stream at item → {x : Item}
      → item_at now at ≡ x → IsCutItem x item
      → (fault : SurveyFault) × (start_at now at x ≡ Err fault) × IsCutFault fault
  no_start {at} {item} through {x} is (inl same) =
      whole_start item same (whole_item_at-is Stream file at item through.is).belongs through
    where
      unfit : (h : HeaderFields) → n < at + size_of (Frame h)
          → start_at now at (Frame h) ≡ Err (Truncated at)
      unfit h over =
          let not : item_fits now at (Frame h) ≡ false = grind (arith, lt-leb, length-cut) in
          rw not refl

      whole_start : (item : Item) → x ≡ item → belongs Stream item ≡ true
          → IsCutThrough file within Stream at item
          → (fault : SurveyFault) × (start_at now at x ≡ Err fault) × IsCutFault fault
      whole_start (Frame h) same is through =
          (Truncated at, ap (start_at now at) same ∙ unfit h through.over, tt)
      whole_start Free same is through = absurd (false≢true is)
      whole_start (Block b) same is through = (Truncated at, ap (start_at now at) same, tt)
      whole_start Zero same zero through =
          let none : End ≡ item_at now at = stands-only_at now at End
          (drop_all at now (omega (arith, length-cut file within, through.over))) in
          let no : End ≡ Zero = none ∙ is ∙ same in absurd cc
      whole_start End same is through = absurd (false≢true is)
      whole_start Nothing same is through = absurd (false≢true is)
  no_start {at} {item} through {x} is (inr (inl same)) = none_starts through is same refl refl
  no_start {at} {item} through {x} is (inr (inr same)) = none_starts through is same refl refl

  in_stream : {part : Region} {at : ℕ} {item : Item} → IsCutThrough file within part at item
      → IsCutThrough file within Stream at item
  in_stream {part} {at} {item} through =
      let here = whole_item_at-is part file at item through.is in
      record {
        is = grind (arith, whole_item_at-whole, stream_belongs);
        low = through.low;
        over = through.over;
      }

  -- the front ends at this offset now
  front-now : (front : List PlacedItem) {stop : ℕ} → AreEndToEnd Front now 0 front stop
      → whole_item_at Front now stop ≡ None → stop ≡ front_end_of now
  front-now front ends none = grind (arith, item_chain-only, ends, front_end-is)

  module _ {start : Start} (is : start_of file ≡ Ok start)
      (no_junk : start.first.offset ≡ start.front_end) where
    abbrev at : ℕ
    at = start.first.offset

    abbrev h : HeaderFields
    h = start.first.header

    frame : IsItemOf Stream file at (Frame h)
    frame = (start-first is).frame

    at_front : at ≡ front_end_of file
    at_front = no_junk ∙ start-front file is

    -- the first frame isn't whole
    cut_through : {stop : ℕ} {item : Item} → IsCutThrough file within Stream stop item
        → stop ≡ front_end_of now → IsCutStart start
    cut_through {stop} {item} through front =
        let cut_item = item-cut file within
        through.low (whole_item_at-is Stream file stop item through.is).is in
        let none = no_start through refl cut_item in
        inr (none.0, start_is now stop (item_at now stop) front refl ∙ none.1, none.2)

    -- it is whole
    still_there : at + size_of (Frame h) ≤ n → at ≡ front_end_of now → IsCutStart start
    still_there kept front =
        let there = whole_item_at-whole Stream file at (Frame h) frame.is refl frame.within in
        let here = whole_item_at-is Stream now at (Frame h)
        (item-kept file within Stream at there kept) in
        let fit : item_fits now at (Frame h) ≡ true = grind (arith, le-leb, length-cut) in
        let same : Ok (record { front_end = at; first = start.first }) ≡ Ok start = grind arith in
        inl (start_is now at (Frame h) front here.is ∙ rw fit refl ∙ same, kept)

    by_front :
        (r : IsCutChain Front 0 (item_chain Front file 0).items (item_chain Front file 0).stop)
        → IsStop Front (item_chain Front file 0).stop r.stop r.rest → IsCutStart start
    by_front r (inl end) =
        let stop : r.stop ≡ at = end.0 ∙ front_end-is file ∙ sym at_front in
        let none : whole_item_at Front now r.stop ≡ None =
        subst (λ k. whole_item_at Front now k ≡ None) (sym stop)
        (not-in-front at refl (front-item
        (item-cut file within (omega (arith, stop, r.low)) frame.is))) in
        let front : at ≡ front_end_of now = sym stop ∙ front-now r.front r.ends none in
        elim (cases_lt n (at + size_of (Frame h))) as (λ _. IsCutStart start) [
          | inl over ↦ cut_through (record {
            is = whole_item_at-whole Stream file at (Frame h) frame.is refl frame.within;
            low = omega (arith, stop, r.low);
            over = over;
          }) front
          | inr kept ↦ still_there kept front
        ]
    by_front r (inr found) =
        cut_through (in_stream found.1)
        (front-now r.front r.ends (cut-none file within found.1))

    -- the start is the same and its frame still whole, or there is none, with a fault of a cut file
    pub cut-start : IsCutStart start
    cut-start =
        let r = cut-chain 0
        (item_chain Front file 0).items (item_chain-ends Front file 0)
        (omega arith) in
        by_front r r.last

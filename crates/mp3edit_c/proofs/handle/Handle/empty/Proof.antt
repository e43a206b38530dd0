-- `empty` makes a handle at null, which owns nothing.
use Rattle.std.proofs.{Common.{lit<, refl, [], ◌∷◌}, raw_atomic.Walks.proved}
use Rattle.std.specs.declared.option.Option.TheVariants.{None}
use Rattle.mp3edit_c.proofs.HandleLemmas.{handle_in, word}
use Rattle.mp3edit_c.proofs.handle.Handle.empty.Statement.{statement}
use Rattle.mp3edit_c.specs.contracts.handle.Handle.{the_row}
use denote.{RawPtr.{null_ptr, Ptr}, Steps.nothing, Triple.Entry.on_entry}
use denote.Triple.Walked.{ends_at, says, Stays, walk_of}
use types.ByLocal.{alloc_all, free_all, look_at, pass_all, sets}
use types.{Kit.{done, drop, feq_i, qed, raw, suffices, !, ◌$◌, ◌∵◌}, Part.agg}
use types.Run.{and_then, enter, lit, no_more, returns}
use Rattle.mp3edit_c.proofs.handle.Handle.empty.Code as code
use Rattle.mp3edit_c.specs.contracts.handle.Handle.empty as f

pub empty_spec : {M : Type 1} → statement M
empty_spec 𝓤 𝓛 𝓜 𝓡 wired =
    let hs : Stays f.ended.signature.params f.ended.kept = tt in
    let c = f.clauses 𝓛 𝓜.mem 𝓡.returns in let W = walk_of 𝓛 f.ended hs c in
    proved 𝓛 f.ended hs c 𝓜 𝓡 tt
    f.Key.name code.function (code.unfolded 𝓤 𝓛.H 𝓜 𝓡 wired)
    (λ κs. tt) (λ κs. tt) (λ κs qs bounds a g are.
    let y : W.Ghost = ((κs, qs, bounds, a, tt), g) in
    let r : the_row.Denot = record { at = null_ptr; inner = None } in
    qed 𝓛 (raw (on_entry 𝓛 f.signature κs qs a y.0.4) ∷ raw ((c κs a).requires g) ∷ []) ∵
    drop ! $ drop ! $ enter ! _ _ _ _ _ $ alloc_all ! (λ l. pass_all ! refl tt $
    sets ! (agg ! (and_then ! (lit ! tt) (no_more !))) refl
    (tt, (record { fits = lit< tt }, tt)) $
    returns ! (look_at ! 0 refl) $ free_all ! refl $
    suffices ! _ (ends_at 𝓛 f.ended hs c y (word null_ptr) r tt tt) $ says ! refl $
    feq_i ! Ptr null_ptr null_ptr refl $ handle_in ! r $ nothing ! $ nothing ! $ done !))

-- `of_loose` keeps the pointer, and what the box owns goes with it.
use Rattle.std.proofs.{Common.{List, refl, [], ◌++◌, ◌∷◌}, raw_atomic.Walks.proved_at}
use Rattle.std.specs.contracts.impls.GlobalAllocator.TheImpl.{ghosts}
use Rattle.std.specs.declared.option.Option.TheVariants.{Some}
use Rattle.mp3edit_c.proofs.HandleLemmas.{handle_in, word}
use Rattle.mp3edit_c.proofs.LooseLemmas.{both, Loose, loose_good, loose_out, respelled}
use Rattle.mp3edit_c.{proofs.handle.Handle.of_loose.Statement.statement, specs.Handle.handle_owns}
use Rattle.mp3edit_c.specs.contracts.handle.Handle.{the_row}
use base.{Fml.ftrue, Logic.{id⊢, SProp}}
use contract.Running.{tables}
use denote.{Exit.yes, RattleType.owns, RawPtr.block_ptr, Signature.{plain, types_at}, Steps.nothing}
use denote.Triple.Walked.{ends_at, Goes-dropped, says, stay_dropped, Stays, walk_of}
use mir.Val.{Val, vptr}
use prog.Wp.{WpFn}
use types.ByLocal.{alloc_all, free_all, get, get_in, look_at, pass_all, sets}
use types.Kit.{done, fsplit, join, keep, move, qed, raw, split, suffices, use1, !, ‵, ◌$◌, ◌∵◌, ◌⊛◌}
use types.{Part.{agg, sub, whole}, Run.{and_then, enter, fld, no_more, of_opd, returns, stop}}
use Rattle.mp3edit_c.proofs.handle.Handle.of_loose.Code as code
use Rattle.mp3edit_c.specs.contracts.handle.Handle.of_loose as f
use Rattle.session.specs.contracts.held.Session as session
use Rattle.std.proofs.alloc.Global.TheLaws as global_laws
use Rattle.std.specs.contracts.alloc.Global as global

pub of_loose_spec : {M : Type 1} → statement M
of_loose_spec 𝓤 𝓛 𝓜 𝓡 wired =
    let R = session.the_row in let Z = global.the_row in let LZ = global_laws.the_row_laws in
    let From = plain (λ _. Loose R LZ ghosts) in
    let hs : Stays f.ended.signature.params f.ended.kept = (stay_dropped From yes, tt) in
    let c = f.clauses 𝓛 𝓜.mem 𝓡.returns in let W = walk_of 𝓛 f.ended hs c in
    let 𝓣 = tables 𝓤 𝓛.H 𝓜 𝓡 𝓡.env in
    proved_at 𝓛 f.ended hs c 𝓜 𝓡 (Goes-dropped 𝓛 0 From yes (λ κs x w. refl), tt)
    f.Key.name code.function (code.unfolded 𝓤 𝓛.H 𝓜 𝓡 wired) (λ z are.
    let v = z.0.3.0 in let Post : Val → SProp 𝓤 = W.post z in
    let Run : List Val → SProp 𝓤 = λ ws. WpFn 𝓤 𝓛.H 𝓣.C 𝓣.Λ code.function ws Post in
    qed 𝓛 ((‵ ftrue ⊛ ‵ (owns (types_at f.signature.params z.0.0) z.0.3 z.0.4))
    ∷ raw ((c z.0.0 z.0.3).requires z.1) ∷ []) ∵
    split ! $ move ! (1 ∷ []) $ fsplit ! $
    loose_out R LZ ghosts ! v z.0.4.0 (λ b o h e ws fits. keep ! (0 ∷ []) $
    -- [the box]
    let w : Val = both (vptr b o) h in
    let r : the_row.Denot = record { at = block_ptr b o; inner = Some v.value } in
    suffices ! (Run (w ∷ [])) (respelled 𝓤 Run (λ i. ws i ++ [])) $
    enter ! 𝓣.C 𝓣.Λ code.function (w ∷ []) Post $
    alloc_all ! (λ l. pass_all ! refl (loose_good R LZ ghosts b o h fits, tt) $
    sets ! (of_opd ! (get_in ! (fld ! refl (stop !)) (sub ! 0 refl (whole !)))) refl (tt, tt) $
    sets ! (of_opd ! (get ! refl)) refl (tt, tt) $
    sets ! (agg ! (and_then ! (get ! refl) (no_more !))) refl (tt, (tt, tt)) $
    returns ! (look_at ! 0 refl) $ free_all ! refl $
    suffices ! _ (ends_at 𝓛 f.ended hs c z (word (block_ptr b o)) r (tt, tt) (tt, tt)) $
    says ! refl $
    use1 𝓛 (‵ (handle_owns (block_ptr b o) (Some v.value))) (id⊢ 𝓤 _) $ handle_in ! r $
    nothing ! $ nothing ! $ join ! $ nothing ! $ done !)))

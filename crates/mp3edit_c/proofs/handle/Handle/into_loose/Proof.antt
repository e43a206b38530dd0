-- `into_loose` tests the pointer, and the box has what the handle owned.
use Rattle.std.proofs.{Common.{ap, List, lit<, refl, sym, [], ◌++◌, ◌∷◌}, ResultValues.and_tt}
use Rattle.std.proofs.{alloc.{Calls.{Al, handle_tells}, Shapes.after}, cell.Inside.Good}
use Rattle.std.proofs.{option.Made.{none_of, Some-of}, raw_atomic.Walks.proved_at}
use Rattle.std.specs.contracts.impls.GlobalAllocator.TheImpl.{ghosts}
use Rattle.std.specs.declared.option.Option.TheVariants.{None, Some}
use Rattle.mp3edit_c.proofs.HandleLemmas.{either_held, handle_out, word}
use Rattle.mp3edit_c.proofs.LooseLemmas.{both, Loose, loose_good, loose_in, respelled}
use Rattle.mp3edit_c.proofs.handle.Handle.into_loose.Statement.{statement}
use Rattle.mp3edit_c.specs.contracts.handle.Handle.{the_row}
use base.{Fml.ftrue, Logic.SProp}
use contract.Running.{tables}
use denote.{Exit.yes, Param.layout, RattleType.{owns, RattleType}}
use denote.{RawPtr.{block_ptr, null_ptr, Ptr, tests_null}, Signature.{plain, type_at, types_at}}
use denote.Steps.{nothing}
use denote.Triple.Walked.{ends_at, Goes-dropped, says, stay_dropped, Stays, walk_of}
use mir.{Syntax.{dnil, impl, tnil}, Val.{Val, vcons, vnil, vptr}}
use prog.Wp.{WpFn}
use types.ByLocal.{alloc_all, env, free_all, get, get_in, look_at, pass_all, sets}
use types.Kit.{at_ret, done, drop, fsplit, join, keep, move, qed, raw, split, suffices, use0, use1}
use types.{Kit.{ !, ‵, ◌$◌, ◌∵◌, ◌⊛◌}, Match.live, Part.{agg, sub, whole}}
use types.Run.{and_then, bin, branches, enter, exec, first, fld, lit, no_more, of_opd, returns}
use types.Run.{returns_within, skips, stop}
use Rattle.mp3edit_c.proofs.handle.Handle.into_loose.Code as code
use Rattle.mp3edit_c.specs.contracts.handle.Handle.into_loose as f
use Rattle.session.specs.contracts.held.Session as session
use Rattle.std.proofs.alloc.Global.TheLaws as global_laws
use Rattle.std.specs.contracts.alloc.Global as global

pub into_loose_spec : {M : Type 1} → statement M
into_loose_spec 𝓤 𝓛 𝓜 𝓡 wired =
    let R = session.the_row in let Z = global.the_row in let LZ = global_laws.the_row_laws in
    let Lr : RattleType = Loose R LZ ghosts in
    let al : Al = record {
      row = Z;
      laws = LZ;
      g = ghosts;
      d = impl [] tnil dnil;
      drops = impl [] tnil dnil;
    } in
    let hs : Stays f.ended.signature.params f.ended.kept =
    (stay_dropped (plain (λ _. the_row)) yes, (stay_dropped (plain (λ _. Z)) yes, tt)) in
    let c = f.clauses 𝓛 𝓜.mem 𝓡.returns in let W = walk_of 𝓛 f.ended hs c in
    let 𝓣 = tables 𝓤 𝓛.H 𝓜 𝓡 𝓡.env in
    proved_at 𝓛 f.ended hs c 𝓜 𝓡 (
      Goes-dropped 𝓛 0 (plain (λ _. the_row)) yes (λ κs x w. refl),
      (Goes-dropped 𝓛 0 (plain (λ _. Z)) yes (λ κs x w. refl), tt),
    )
    f.Key.name code.function (code.unfolded 𝓤 𝓛.H 𝓜 𝓡 wired) (λ z are.
    let h = z.0.3.0 in let a = z.0.3.1.0 in let Post : Val → SProp 𝓤 = W.post z in
    let Run : List Val → SProp 𝓤 = λ ws. WpFn 𝓤 𝓛.H 𝓣.C 𝓣.Λ code.function ws Post in
    let Out : RattleType = type_at f.signature.result z.0.0 in
    qed 𝓛 ((‵ ftrue ⊛ ‵ (owns (types_at f.signature.params z.0.0) z.0.3 z.0.4))
    ∷ raw ((c z.0.0 z.0.3).requires z.1) ∷ []) ∵
    split ! $ move ! (1 ∷ []) $ fsplit ! $ handle_out ! h z.0.4.0 (λ ws.
    move ! (1 ∷ []) $ fsplit ! $ handle_tells al ! a z.0.4.1.0 (λ u us fits.
    keep ! (2 ∷ 0 ∷ []) $
    -- [what the handle owns; the allocator]
    suffices ! (Run (word h.at ∷ u ∷ [])) (respelled 𝓤 Run (λ i. ws i ++ (us i ++ []))) $
    either_held ! h.at h.inner
    (λ is none.
    suffices ! (Run (word null_ptr ∷ u ∷ []))
    (respelled 𝓤 Run (ap (λ (p : Ptr). word p ∷ u ∷ []) is)) $
    enter ! 𝓣.C 𝓣.Λ code.function (word null_ptr ∷ u ∷ []) Post $
    alloc_all ! (λ l. pass_all ! refl ((tt, (record { fits = lit< tt }, tt)), (fits, tt)) $
    sets ! (of_opd ! (get_in ! (fld ! refl (stop !)) (sub ! 0 refl (whole !)))) refl
    (tt, record { fits = lit< tt }) $
    sets ! (bin ! (get ! refl) (lit ! tt) tt) refl (tt, tt) $
    first ! $ branches ! (get ! refl)
    (λ _. sets ! (agg ! (and_then ! (lit ! tt) (no_more !))) refl
    (tt, (record { fits = lit< tt }, tt)) $
    returns_within ! Post refl (look_at ! 0 refl) $ free_all ! refl $ drop ! $
    suffices ! _
    (ends_at 𝓛 f.ended hs c z (live 0 vnil) None (tt, (tt, tt)) (tt, (tt, tt))) $
    says ! (sym none) $ use0 𝓛 (‵ (Out.own_val None (live 0 vnil ∷ []))) (none_of 𝓛 Lr) $
    nothing ! $ nothing ! $ join ! $ nothing ! $ join ! $ nothing ! $ done !)
    (λ wrong. absurd wrong)))
    (λ b o x is held test.
    let made : Val = both (vptr b o) u in let typed = loose_good R LZ ghosts b o u fits in
    let out : Val = live 1 (vcons made vnil) in
    let d : Lr.Denot = record { at = block_ptr b o; alloc = a; value = x } in
    let good : Good (layout Out) out =
    (and_tt _ typed.0, (record { fits = lit< tt }, (typed.1, tt))) in
    suffices ! (Run (word (block_ptr b o) ∷ u ∷ []))
    (respelled 𝓤 Run (ap (λ (p : Ptr). word p ∷ u ∷ []) is)) $
    enter ! 𝓣.C 𝓣.Λ code.function (word (block_ptr b o) ∷ u ∷ []) Post $
    alloc_all ! (λ l. pass_all ! refl ((tt, (tt, tt)), (fits, tt)) $
    let Ev = env code.function.locals l in
    sets ! (of_opd ! (get_in ! (fld ! refl (stop !)) (sub ! 0 refl (whole !)))) refl (tt, tt) $
    sets ! (bin ! (get ! refl) (lit ! tt) (tests_null (block_ptr b o) test)) refl (tt, tt) $
    first ! $ branches ! (get ! refl) (λ wrong. absurd wrong)
    (λ _. skips ! $ exec ! 𝓣.C 𝓣.Λ Ev (after 3 (code.function).body) (at_ret Ev Post) $
    sets ! (of_opd ! (get ! refl)) refl (tt, tt) $
    sets ! (agg ! (and_then ! (get ! refl) (and_then ! (get ! refl) (no_more !)))) refl typed $
    sets ! (agg ! (and_then ! (lit ! tt) (and_then ! (get ! refl) (no_more !)))) refl good $
    returns ! (look_at ! 0 refl) $ free_all ! refl $
    suffices ! _ (ends_at 𝓛 f.ended hs c z out (Some d) (tt, (tt, tt)) (tt, (tt, tt))) $
    says ! (sym held) $ loose_in R LZ ghosts ! b o u a x $
    use1 𝓛 (‵ (Out.own_val (Some d) (out ∷ []))) (Some-of 𝓛 Lr d made) $
    nothing ! $ nothing ! $ join ! $ nothing ! $ join ! $ nothing ! $ done !))))))

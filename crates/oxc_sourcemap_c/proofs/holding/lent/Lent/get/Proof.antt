-- `get` tests the pointer; if it is not null, it is the reference.
use Rattle.std.proofs.Common.{◌≡◌, ℕ, List, [], ◌∷◌, refl, sym, ap, lit<}
use mir.Syntax.{Body, seq, assign, place, rv_opd, copy, aggregate, int, w8, named}
use mir.Val.{Val, vptr, vcons, vnil}
use base.Logic.{SProp, emp, id⊢}
use base.Fml.{Lft, ftrue, flft, fshr_bor}
use prog.Wp.{Wp, after_seq, at_return}
use types.Kit.{‵, raw, later, ◌⊛◌, at_ret, any_q, ◌$◌, ◌∵◌, !, qed, by, move, keep, drop, split}
use types.Kit.{join}
use types.Kit.{fsplit, fjoin, use0, use1, use2, feq_i, rewrite, await, group}
use types.Run.{stop, fld, lit, addr, load, of_opd, bin, no_more, and_then, first, blocks, branches}
use types.Run.{exec, returns, enter}
use types.ByLocal.{alloc_all, pass_all, free_all, look_at, get, through, sets, sets_last, env}
use types.Part.{agg, sub, whole, look_in}
use types.Match.{live}
use types.Tokens.{shr_bor-open, obor_close}
use contract.Monad.{fact, fact_i}
use contract.Running.{tables}
use denote.Builtin.{RefOf}
use denote.Copied.{told_out, told_in}
use denote.Exit.{yes}
use denote.RattleType.{RattleType, owns}
use denote.Signature.{type_at, types_at, plain}
use denote.Opens.{unhide}
use denote.Ref.{ShrRef, shr_vals, shr_Tells}
use denote.RawPtr.{Ptr, block_ptr, tests_null}
use denote.Steps.{nothing}
use denote.Memory.{cell_at, part_at, hidden_shr}
use denote.Param.{layout}
use denote.Triple.Walked.{Stays, stay_dropped, walk_of, Goes-dropped}
use Rattle.std.specs.Prelude.{None, Some, Option, option_map}
use Rattle.std.proofs.alloc.Shapes.{after}
use Rattle.std.proofs.cell.Inside.{Good}
use Rattle.std.proofs.option.Made.{Some-of, none_of}
use Rattle.std.proofs.raw_atomic.Walks.{proved, leaves}
use Rattle.oxc_sourcemap_c.proofs.holding.lent.Lent.TheLaws.{lowers}
use Rattle.oxc_sourcemap_c.proofs.Lends.{Row, halves, either_lent, lends_on}
use Rattle.oxc_sourcemap_c.proofs.Values.{HeldRow}
use Rattle.oxc_sourcemap_c.specs.contracts.holding.lent.Lent.get.{ended, clauses}
use Rattle.oxc_sourcemap_c.specs.contracts.holding.lent.Lent.get.Key.{name as #self}
use Rattle.oxc_sourcemap_c.proofs.holding.lent.Lent.get.Statement.{statement}
use Rattle.oxc_sourcemap_c.proofs.holding.lent.Lent.get.Code as code

-- the rest of the branch that found a pointer
abbrev wraps : Body
wraps = seq (assign (place 6 []) (rv_opd (copy (place 7 [])))) (assign (place 5 []) (aggregate (int w8 1 ∷ copy (place 6 []) ∷ [])))

abbrev vals : Row.Denot → List Val
vals d = lowers.lowered d ∷ []

pub get_spec : {M : Type 1} → statement M
get_spec 𝓤 𝓛 𝓜 𝓡 wired =
    let H = 𝓛.H in let 𝓣 = tables 𝓤 H 𝓜 𝓡 𝓡.env in let c = clauses 𝓛 𝓜.mem 𝓡.returns in let fn = code.function in
    let self = RefOf (0 ∷ []) tt (plain (λ _. Row)) (λ _. tt) in let hs : Stays ended.signature.params ended.kept = (stay_dropped self yes, tt) in let W = walk_of 𝓛 ended hs c in
    proved 𝓛 ended hs c 𝓜 𝓡 (Goes-dropped 𝓛 1 self yes (λ κs x f. refl), tt) #self fn (code.unfolded 𝓤 H 𝓜 𝓡 wired)
    (λ κs. (shr_vals, tt)) (λ κs. (shr_Tells (named 0) κs.0 Row, tt)) (λ κs qs bounds a g are.
    let κ : Lft = κs.0 in let q = qs.0 in let b : ℕ = a.0.ref_ptr.0 in let o : ℕ = a.0.ref_ptr.1 in let d = a.0.now in let vs = vals d in
    let y : W.Ghost = ((κs, qs, bounds, a, (vptr b o ∷ [], tt)), g) in let Post : Val → SProp 𝓤 = W.post y in let Ref : RattleType = ShrRef (named 0) κ HeldRow in
    let Out : RattleType = type_at ended.signature.result κs in let shown : Out.Denot → Option HeldRow.Denot = option_map (λ r. r.now) in
    qed 𝓛 (((‵ (flft κ q) ⊛ ‵ ftrue) ⊛ ‵ (owns (types_at ended.signature.params κs) a y.0.4)) ∷ ‵ ftrue ∷ []) ∵
    split ! $ split ! $ move ! (2 ∷ []) $ fsplit ! $ fsplit ! $ keep ! (1 ∷ 3 ∷ []) $
    enter ! 𝓣.C 𝓣.Λ fn (vptr b o ∷ []) Post $ alloc_all ! (λ l. pass_all ! refl ((tt, tt), tt) $ let Ev = env fn.locals l in
    unhide ! $ use1 𝓛 (‵ (fshr_bor κ (λ r. part_at Row r d b o))) (id⊢ 𝓤 _) $ shr_bor-open ! tt (halves 𝓛 d b o) (λ s. let Cell = λ (ws : List Val). ‵ (cell_at s Row.mir ws b o) in
    move ! (1 ∷ []) $ use1 𝓛 (‵ (cell_at s Row.mir vs b o) ⊛ ‵ (Row.own_val d vs)) (told_out 𝓛 Row vals lowers.val_is s d b o) $ split ! $ move ! (1 ∷ []) $ fsplit ! $ move ! (1 ∷ []) $
    either_lent ! d.life d.at d.held
    (λ empty nobody. let at_null = ap (λ (p : Ptr). lowers.lowered (record d { at = p }) ∷ []) empty in
    -- [what is lent; the field; the struct's cell; the open borrow]
    rewrite ! 2 Cell at_null refl $ sets ! (of_opd ! (load ! (through ! refl (fld ! refl (stop !))) (look_in ! 2 (sub ! 0 refl (whole !))))) refl (tt, record { fits = lit< tt }) $
    rewrite ! 2 Cell (sym at_null) refl $ move ! (1 ∷ []) $ fjoin ! $ move ! (1 ∷ []) $ use2 𝓛 (‵ (part_at Row s d b o)) (told_in 𝓛 Row vals lowers.val_is s d b o vs) $ move ! (1 ∷ []) $ obor_close ! tt $ drop ! $
    sets ! (of_opd ! (get ! refl)) refl (tt, record { fits = lit< tt }) $
    sets ! (bin ! (get ! refl) (lit ! tt) tt) refl (tt, tt) $ first ! $ branches ! (get ! refl)
    (λ _. sets_last ! (agg ! (and_then ! (lit ! tt) (no_more !))) refl (tt, (record { fits = lit< tt }, tt)) $ exec ! 𝓣.C 𝓣.Λ Ev (after 4 fn.body) (at_ret Ev Post) $ sets ! (of_opd ! (get ! refl)) refl (tt, (record { fits = lit< tt }, tt)) $
    returns ! (look_at ! 0 refl) $ free_all ! refl $
    use0 𝓛 (‵ (Out.own_val None (live 0 vnil ∷ []))) (none_of 𝓛 Ref) $ use0 𝓛 (raw (fact 𝓤 (shown None ≡ d.held))) (fact_i 𝓤 (shown None ≡ d.held) (emp 𝓤) (sym nobody)) $
    -- [the fact; the result; the token]
    move ! (2 ∷ []) $ nothing ! $ move ! (1 ∷ 0 ∷ []) $ join ! $ nothing ! $ nothing ! $ fjoin ! $ keep ! (1 ∷ 0 ∷ 3 ∷ 2 ∷ []) $ by ! (leaves 𝓛 ended hs c y (live 0 vnil) None (tt, tt) (tt, tt)))
    (λ wrong. absurd wrong))
    (λ r pb po x there lends t. let at_block = ap (λ (p : Ptr). lowers.lowered (record d { at = p }) ∷ []) there in
    let lent : Ref.Denot = record { ref_ptr = (pb, po); now = x } in let v : Val = live 1 (vcons (vptr pb po) vnil) in let good : Good (layout Out) v = (tt, (record { fits = lit< tt }, (tt, tt))) in
    let Then = any_q (after_seq 𝓤 H (Wp 𝓤 H 𝓣.C 𝓣.Λ Ev (after 4 fn.body) (at_return 𝓤 H Ev Post)) (at_return 𝓤 H Ev Post)) in
    -- [the share of the token; what is shared; the field; the struct's cell; the open borrow]
    rewrite ! 3 Cell at_block refl $ sets ! (of_opd ! (load ! (through ! refl (fld ! refl (stop !))) (look_in ! 3 (sub ! 0 refl (whole !))))) refl (tt, tt) $
    rewrite ! 3 Cell (sym at_block) refl $ group ! 5 $
    use1 𝓛 (later (‵ (hidden_shr HeldRow κ x pb po) ⊛ ‵ (flft κ q))) (lends_on 𝓛 κ q d vs s r b o pb po x there lends t) $ await ! tt $ split ! $
    -- [what is shared; the token]
    sets ! (of_opd ! (get ! refl)) refl (tt, tt) $ sets ! (bin ! (get ! refl) (lit ! tt) (tests_null (block_ptr pb po) t)) refl (tt, tt) $ first ! $ branches ! (get ! refl) (λ wrong. absurd wrong)
    (λ _. first ! $ blocks ! $ sets ! (of_opd ! (get ! refl)) refl (tt, tt) $ sets ! (of_opd ! (get ! refl)) refl (tt, tt) $ sets_last ! (addr ! (through ! refl (stop !))) refl (tt, tt) $
    exec ! 𝓣.C 𝓣.Λ Ev wraps Then $ sets ! (of_opd ! (get ! refl)) refl (tt, tt) $ sets_last ! (agg ! (and_then ! (lit ! tt) (and_then ! (get ! refl) (no_more !)))) refl good $
    exec ! 𝓣.C 𝓣.Λ Ev (after 4 fn.body) (at_ret Ev Post) $ sets ! (of_opd ! (get ! refl)) refl good $ returns ! (look_at ! 0 refl) $ free_all ! refl $
    feq_i ! (List Val) (vptr pb po ∷ []) (vptr pb po ∷ []) refl $ fjoin ! $ use1 𝓛 (‵ (Out.own_val (Some lent) (v ∷ []))) (Some-of 𝓛 Ref lent (vptr pb po)) $
    use0 𝓛 (raw (fact 𝓤 (shown (Some lent) ≡ d.held))) (fact_i 𝓤 (shown (Some lent) ≡ d.held) (emp 𝓤) (sym lends)) $
    move ! (2 ∷ []) $ nothing ! $ move ! (1 ∷ 0 ∷ []) $ join ! $ nothing ! $ nothing ! $ fjoin ! $ keep ! (1 ∷ 0 ∷ 3 ∷ 2 ∷ []) $ by ! (leaves 𝓛 ended hs c y v (Some lent) (tt, tt) (tt, tt)))))))

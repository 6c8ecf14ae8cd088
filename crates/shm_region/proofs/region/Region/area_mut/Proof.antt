-- The walk of `area_mut`, statement by statement: the region is lent as `&` to the test, comes back, and goes into the block's bytes.
use Rattle.std.proofs.Common.{◌≡◌, ℕ, ◌<◌, ◌^◌, List, [], ◌∷◌, Some, None, length, refl, sym, ap, w32, lit<, MutBor}
use Rattle.std.proofs.raw_atomic.Walks.{proved}
use Rattle.std.specs.Prelude.{slice_get, true, Bool}
use Rattle.region_model.specs.Regions.{is_home, block_at}
use Rattle.shm_region.specs.Lends.{LendsBlock}
use base.Fraction.{full_share}
use base.Logic.{id⊢, emp}
use base.Fml.{Lft, Incl-refl, ftrue, flft, flent, fres}
use mir.Syntax.{named}
use mir.Val.{Val, vptr, of_list}
use contract.Monad.{fact, fact_i}
use contract.Running.{tables}
use types.Kit.{‵, raw, ◌⊛◌, some, later, at_ret, ◌$◌, ◌∵◌, !, qed, done, move, keep, drop, use0, use1, use2, split, join, fsplit, fsplit3, fjoin, fjoin3, feq_i, feq_l, flt_l, pick, await, suffices, frame}
use types.Mut.{open_ref, close_ref}
use types.Tokens.{lft_new, lft_end, lent_back}
use types.Run.{enter, of_opd, lit, addr, stop, no_more, and_then, first, branches, exec, returns}
use types.Part.{agg}
use types.Match.{live}
use types.ByLocal.{alloc_all, pass_all, free_all, look_at, get, through, sets, sets_last, lands_as, env}
use denote.Exit.{yes, no}
use denote.RattleType.{owns}
use denote.Memory.{mem, part_at}
use denote.Builtin.{u8, u32, bool}
use denote.Plain.{uint_vals, uint_Tells, uint_Makes}
use denote.Ref.{Bor, MutRef, ShrRef, mut_vals, mut_Tells, shr_vals}
use denote.Shadow.{pure_i}
use denote.Slice.{MutSlice, slice_val, mut_slice_at}
use denote.Follow.{follows_by}
use denote.Lend.{lends_shr}
use denote.Signature.{plain, mut_ref_to}
use denote.Steps.{nothing, owned, heard, only}
use denote.Triple.Call.{calls_at}
use denote.Triple.Clauses.{lasts}
use denote.Triple.Spec.{triple_of}
use denote.Triple.Walked.{Stays, walk_of, says, stay_dropped, Goes-dropped, Goes-spent_ref, ends_at}
use denote.Triple.Table.{framed}
use Rattle.std.proofs.VecSteps.Element.{Some-of, none_of}
use Rattle.std.specs.contracts.option.Option.{the_row as option_row}
use Rattle.shm_region.specs.contracts.region.Region.area_mut as f
use Rattle.shm_region.proofs.region.Region.area_mut.Statement.{statement}
use Rattle.shm_region.proofs.region.Region.area_mut.Code as code
use Rattle.shm_region.specs.contracts.region.Region.is_home as test
use Rattle.shm_region.proofs.region.Region.is_home.Met as test-thm
use Rattle.shm_region.specs.contracts.region.Region.bytes_at as lend
use Rattle.shm_region.proofs.region.Region.bytes_at.Met as lend-thm
use Rattle.shm_region.specs.contracts.region.Region.{the_row as R}
use Rattle.shm_region.proofs.Area.{home-told, home-none}
use Rattle.shm_region.proofs.region.Region.TheLaws.{the_row_laws, the_within}

abbrev stayed : Stays f.ended.signature.params f.ended.kept
stayed = (stay_dropped (mut_ref_to (0 ∷ []) tt (plain (λ _. R))) no, (stay_dropped (plain (λ _. u32)) yes, tt))

pub area_mut_spec : {M : Type 1} → statement M
unfolding follows_by
area_mut_spec 𝓤 𝓛 𝓜 𝓡 wired =
    let c = f.clauses 𝓛 𝓜.mem 𝓡.returns in let W = walk_of 𝓛 f.ended stayed c in let 𝓣 = tables 𝓤 𝓛.H 𝓜 𝓡 𝓡.env in
    proved 𝓛 f.ended stayed c 𝓜 𝓡 (Goes-spent_ref 𝓛 1 (0 ∷ []) tt (plain (λ _. R)), (Goes-dropped 𝓛 1 (plain (λ _. u32)) yes (λ κs x w. refl), tt))
    f.Key.name code.function (code.unfolded 𝓤 𝓛.H 𝓜 𝓡 wired)
    (λ κs. (mut_vals, (uint_vals w32, tt))) (λ κs. (mut_Tells (named 0) κs.0 R, (uint_Tells w32, tt))) (λ κs qs bounds a _ are.
    let κ = κs.0 in let q = qs.0 in let r = a.0 in let i = a.1.0 in let b = r.ref_ptr.0 in let o = r.ref_ptr.1 in
    let fi : i < 2 ^ 32 = are.1.0.1 in
    let y : W.Ghost = ((κs, qs, bounds, a, (mut_vals r, (uint_vals w32 i, tt))), tt) in
    qed 𝓛 (((‵ (flft κ q) ⊛ ‵ ftrue) ⊛ ‵ (owns (MutRef (named 0) κ R ∷ u32 ∷ []) (r, (i, tt)) (mut_vals r, (uint_vals w32 i, tt)))) ∷ ‵ ftrue ∷ []) ∵
    split ! $ split ! $ move ! (2 ∷ []) $ fsplit ! $ fsplit3 ! $ keep ! (1 ∷ 2 ∷ 4 ∷ []) $
    enter ! _ _ _ _ _ $ alloc_all ! (λ l. pass_all ! refl ((tt, tt), ((tt, record { fits = fi }), tt)) $
    -- [what r is seen at; its borrow; the token of κ]
    sets ! (addr ! (through ! refl (stop !))) refl (tt, tt) $
    open_ref ! tt (mem R) $
    -- [the region; the open borrow; the two halves of r's name]
    lft_new ! tt (λ α.
    let α' : Lft = α ∷ [] in
    let h = r.now in
    let s : Bor R.Denot = record { ref_ptr = (b, o); now = h } in
    move ! (1 ∷ []) $ use1 𝓛 (‵ (part_at R full_share h b o)) (id⊢ 𝓤 _) $
    use2 𝓛 (later ((‵ ((ShrRef (named 0) α' R).own_val s (vptr b o ∷ [])) ⊛ ‵ (flent α' (part_at R full_share h b o))) ⊛ ‵ (flft α' full_share)))
    (lends_shr 𝓛 R (named 0) α' full_share h b o R.lives ((the_row_laws.shares 𝓛) h) ((α', full_share) ∷ []) (the_within α') (Incl-refl α')) $ await ! tt $ split ! $ split ! $
    -- [the `&`; what comes back of it; the token of α; the open borrow; the two halves]
    let G = triple_of 𝓛 test.signature (test.spec 𝓛 𝓜.mem 𝓡.returns) in
    let z : G.Ghost = (((α', tt), (full_share, tt), tt, (s, (i, tt)), (shr_vals s, (uint_vals w32 i, tt))), tt) in
    nothing ! $ owned ! u32 _ (uint_Makes 𝓛 w32) i _ (refl, fi) $ join ! $ move ! (1 ∷ 0 ∷ []) $ join ! $
    nothing ! $ move ! (3 ∷ 0 ∷ []) $ join ! $ join ! $ nothing ! $ move ! (1 ∷ 0 ∷ []) $ use2 𝓛 (raw (G.pre z)) (id⊢ 𝓤 _) $
    calls_at ! (framed 𝓤 𝓛.H 𝓜 𝓣) G (test-thm.met 𝓤 𝓛 𝓜 𝓡 (code.calls-shm_region::region::Region::is_home 𝓡.env wired)) z
    (and_then ! (get ! refl) (and_then ! (get ! refl) (no_more !))) (λ v.
    use1 𝓛 (later (some (λ (t : Bool). ((‵ (flft α' full_share) ⊛ ‵ ftrue) ⊛ ‵ (bool.own_val t (v ∷ []))) ⊛
    some (λ (ws : Unit {0} × (Unit {0} × Unit {0})). ‵ (lasts test.ended z.0.0 z.0.3 ws) ⊛ raw (fact 𝓤 (t ≡ is_home (slice_get h.blocks i))))))) (id⊢ 𝓤 _) $
    await ! tt $ pick ! (λ t. split ! $ split ! $ split ! $ lft_end ! tt $ move ! (2 ∷ []) $ feq_l ! (λ is. lands_as ! (ap only is) refl (tt, tt) $
    move ! (2 ∷ []) $ pick ! (λ ws. split ! $ drop ! $ heard ! _ (λ tells.
    move ! (0 ∷ 2 ∷ []) $ lent_back ! tt $ move ! (0 ∷ 2 ∷ 3 ∷ 4 ∷ []) $ close_ref ! tt (mem R) h $ move ! (3 ∷ []) $ drop ! $
    -- [what r is seen at; its borrow; the token of κ]
    first ! $ branches ! (get ! refl)
    (λ there. sets ! (addr ! (through ! refl (stop !))) refl (tt, tt) $
    let G' = triple_of 𝓛 lend.signature (lend.spec 𝓛 𝓜.mem 𝓡.returns) in
    let z' : G'.Ghost = ((κs, qs, bounds, a, (mut_vals r, (uint_vals w32 i, tt))), tt) in
    let home : is_home (slice_get h.blocks i) ≡ true = home-told h.blocks i t tells there in
    feq_i ! (List Val) (vptr b o ∷ []) (vptr b o ∷ []) refl $ fjoin3 ! $
    nothing ! $ owned ! u32 _ (uint_Makes 𝓛 w32) i _ (refl, fi) $ join ! $ move ! (1 ∷ 0 ∷ []) $ join ! $
    nothing ! $ move ! (2 ∷ 0 ∷ []) $ join ! $ join ! $ use0 𝓛 (raw (fact 𝓤 (is_home (slice_get h.blocks i) ≡ true))) (fact_i 𝓤 _ (emp 𝓤) home) $
    move ! (1 ∷ 0 ∷ []) $ use2 𝓛 (raw (G'.pre z')) (id⊢ 𝓤 _) $
    calls_at ! (framed 𝓤 𝓛.H 𝓜 𝓣) G' (lend-thm.met 𝓤 𝓛 𝓜 𝓡 (code.calls-shm_region::region::Region::bytes_at 𝓡.env wired)) z'
    (and_then ! (get ! refl) (and_then ! (get ! refl) (no_more !))) (λ w.
    use1 𝓛 (later (some (λ (x : MutBor (List ℕ)). ((‵ (flft κ q) ⊛ ‵ ftrue) ⊛ ‵ ((MutSlice (named 0) κ u8).own_val x (w ∷ []))) ⊛
    some (λ (ws : Unit {0} × (Unit {0} × Unit {0})). ‵ (lasts lend.ended κs a ws) ⊛ (‵ (LendsBlock r i x) ⊛ raw (fact 𝓤 (block_at h i ≡ Some x.now))))))) (id⊢ 𝓤 _) $
    await ! tt $ pick ! (λ x. split ! $ split ! $ split ! $ move ! (3 ∷ []) $ pick ! (λ ws'. split ! $ drop ! $ split ! $ move ! (1 ∷ []) $ heard ! _ (λ was.
    move ! (3 ∷ []) $ fsplit ! $ fsplit ! $ feq_l ! (λ is'. fsplit ! $ flt_l ! (λ count. flt_l ! (λ small.
    let x' = slice_val x.ref_ptr (length x.now) in
    lands_as ! (ap only is') refl (tt, (tt, (record { fits = count }, tt))) $
    pure_i ! (mut_slice_at u8 x (x' ∷ [])) (tt, (tt, tt)) (refl, (count, small)) $ fjoin ! $
    sets_last ! (agg ! (and_then ! (lit ! tt) (and_then ! (get ! refl) (no_more !)))) refl (tt, (record { fits = lit< tt }, ((tt, (record { fits = count }, tt)), tt))) $
    exec ! 𝓣.C 𝓣.Λ (env code.Mir.locals l) code.Mir.t-4 (at_ret _ (W.post y)) $
    sets ! (of_opd ! (get ! refl)) refl (tt, (record { fits = lit< tt }, ((tt, (record { fits = count }, tt)), tt))) $
    returns ! (look_at ! 0 refl) $ free_all ! refl $ keep ! (0 ∷ 2 ∷ 1 ∷ []) $
    use1 𝓛 (‵ ((option_row (MutSlice (named 0) κ u8)).own_val (Some x) (live 1 (of_list (x' ∷ [])) ∷ []))) (Some-of 𝓛 (MutSlice (named 0) κ u8) x x') $
    suffices ! _ (ends_at 𝓛 f.ended stayed c y (live 1 (of_list (x' ∷ []))) (Some x) (tt, (tt, tt)) (tt, (tt, tt))) $
    nothing ! $ nothing ! $ fjoin ! $ nothing ! $ fjoin ! $ join ! $ nothing ! $ move ! (2 ∷ 0 ∷ []) $ join ! $ join ! $ frame ! $ says ! (sym was) $ done !))))))))
    (λ away. sets_last ! (agg ! (and_then ! (lit ! tt) (no_more !))) refl (tt, (record { fits = lit< tt }, tt)) $
    exec ! 𝓣.C 𝓣.Λ (env code.Mir.locals l) code.Mir.t-4 (at_ret _ (W.post y)) $
    sets ! (of_opd ! (get ! refl)) refl (tt, (record { fits = lit< tt }, tt)) $
    returns ! (look_at ! 0 refl) $ free_all ! refl $ keep ! (0 ∷ 2 ∷ []) $
    use1 𝓛 (‵ (fres r.ghost_name (R.coded.code h))) (𝓛.names.obs-res r.ghost_name (R.coded.code h)) $ move ! (1 ∷ []) $
    use0 𝓛 (‵ ((option_row (MutSlice (named 0) κ u8)).own_val None (live 0 (of_list []) ∷ []))) (none_of 𝓛 (MutSlice (named 0) κ u8)) $
    suffices ! _ (ends_at 𝓛 f.ended stayed c y (live 0 (of_list [])) None (tt, (tt, tt)) (tt, (tt, tt))) $
    nothing ! $ nothing ! $ fjoin ! $ nothing ! $ fjoin ! $ join ! $ nothing ! $ move ! (2 ∷ 0 ∷ []) $ join ! $ join ! $ frame ! $ says ! (sym (home-none h.blocks i t tells away)) $ done !)))))))))

-- `try_get_or_insert` by hand: it lends the map to `try_find_or_insert`, shares it for good by `shared`, and says what it was then.
use Rattle.litemap.proofs.Common.{◌≡◌, ℕ, ◌+◌, ◌<◌, ◌≤◌, List, [], ◌∷◌, IsNone, IsSome, IsOk, IfOk, OnOk, OnErr, Ok, Some, sym}
use Rattle.litemap.proofs.Common.{refl, ap, subst, length, slice_get, FnOnceReturnsAt, FnOnceTakesAt, Bor, MutBor, at, place, put}
use Rattle.litemap.proofs.Common.{value_at}
use Rattle.std.specs.BTreeMap.Lent.{OrdMembers}
use Rattle.std.proofs.raw_atomic.Walks.{proved_at, leaves}
use Rattle.std.proofs.result.Result.TheLaws.{the_row_laws as result_laws}
use mir.Syntax.{Args, a_type, named, dcons, dnil}
use mir.Val.{Val, vptr}
use mir.MapTy.{inst_fn}
use base.Share
use base.Logic.{SProp, ent, emp, id⊢, apply∗}
use base.Fml.{Lft, GName, Share, Fml, ftrue, fsep, flft, fdead, fres, fbor}
use prog.Wp.{WpFn}
use types.SemTy.{Body as Borrowed}
use types.Kit.{Item, ‵, raw, ◌⊛◌, some, later, ◌$◌, ◌∵◌, !, qed, by, move, keep, drop, use0, use1, use2, use3, split, split3, join, fsplit, fsplit3, fjoin}
use types.Kit.{rewrite, pick, await}
use types.Run.{stop, addr, of_opd, no_more, and_then, returns, enter}
use types.ByLocal.{alloc_all, pass_all, free_all, look_at, get, through, sets, lands_as}
use contract.Lifetimes.{Lfts}
use contract.Running.{tables}
use contract.Monad.{fact, fact_i}
use contract.BorrowLft.{◌⊑◌, ⊑_trans, meet_⊑_right}
use denote.Exit.{no}
use denote.RattleType.{RattleType, owns}
use denote.Memory.{mem}
use denote.Ref.{MutRef, ShrRef}
use denote.Lend.{LentAgain, lends_again, comes_back}
use denote.Laws.{Is, shows}
use denote.Param.{param, layout, bounded}
use denote.Param.Laws.{Laws, param_laws, of_field}
use denote.Param.Shared.{copy_shared}
use denote.Signature.{type_at, types_at, plain, mut_ref_to}
use denote.Steps.{nothing, heard, peeks, only}
use denote.Struct.Field.{u64-field, shr_ref_field}
use denote.Struct.Laws.{u64-laws, u64-copy, shr_ref_laws, shr_ref_copy}
use denote.Struct.Tuple as tuple
use denote.Triple.Call.{calls_at}
use denote.Triple.Clauses.{Lasts, lasts}
use denote.Triple.Spec.{triple_of}
use denote.Triple.Table.{framed}
use denote.Triple.Walked.{Stays, stay_dropped, walk_of, Goes-dropped, Goes-spent_ref}
use Rattle.litemap.specs.Lends as lends
use Rattle.litemap.specs.TryFault.{FailsAs, IfClosure, IsInsertedAt, Shown as IsShown}
use Rattle.litemap.proofs.Placing.{Found, Told, told}
use Rattle.litemap.proofs.Walks.{Ends, alone, begins, weaker_rest}
use Rattle.litemap.proofs.try_fault.TryFault.TheLaws.{the_row_laws as fault_laws}
use Rattle.litemap.specs.contracts.try_fault.TryFault as error
use Rattle.litemap.specs.contracts.map.LiteMap as map
use Rattle.litemap.specs.contracts.map.LiteMap.try_find_or_insert as finds
use Rattle.litemap.specs.contracts.map.LiteMap.shared as shares
use Rattle.litemap.specs.contracts.map.LiteMap.shown as shown
use Rattle.litemap.proofs.map.LiteMap.try_find_or_insert.Met as finds_met
use Rattle.litemap.proofs.map.LiteMap.shared.Met as shares_met
use Rattle.litemap.proofs.map.LiteMap.shown.Met as shown_met
use Rattle.litemap.specs.contracts.map.LiteMap.try_get_or_insert as f
use Rattle.litemap.specs.contracts.map.LiteMap.try_get_or_insert.Key.{name as #self}
use Rattle.litemap.proofs.map.LiteMap.try_get_or_insert.Statement.{statement}
use Rattle.litemap.proofs.map.LiteMap.try_get_or_insert.Code as code

pub try_get_or_insert_spec : {M : Type 1} → statement M
try_get_or_insert_spec 𝓤 𝓛 𝓜 𝓡 wired K V S SA E F LK LV LS LA LE LF cp o od eq eqd pe ped po pod sm smd si sid st std al ald cl cld kd g gd fd mo meq mpe mpo
    msm msi mst mal mcl mkd mg mfd =
    let H = 𝓛.H in let 𝓣 = tables 𝓤 H 𝓜 𝓡 𝓡.env in
    let KR : RattleType = param 0 K in let VR : RattleType = param 1 V in let ER : RattleType = param 4 E in
    let R : RattleType = map.the_row KR VR (param 2 S) o pe po st in
    let En = f.ended K V S SA E F o od eq eqd pe ped po pod sm smd si sid st std al ald cl cld kd g gd fd in let c =
    f.clauses K V S SA E F o od eq eqd pe ped po pod sm smd si sid st std al ald cl cld kd g gd fd 𝓛 𝓜.mem 𝓡.returns in
    let inst : Args = bounded (a_type ∷ a_type ∷ a_type ∷ a_type ∷ a_type ∷ a_type ∷ []) (K, (V, (S, (SA, (E, (F, tt))))))
    (dcons od (dcons eqd (dcons ped (dcons pod (dcons smd (dcons sid (dcons std (dcons ald (dcons cld (dcons kd (dcons gd (dcons fd dnil)))))))))))) in
    let fn = inst_fn inst code.function in let self = mut_ref_to (0 ∷ []) tt (plain (λ _. R)) in
    let hs : Stays En.signature.params En.kept = (stay_dropped self no, (stay_dropped (plain (λ _. KR)) no, (stay_dropped (plain (λ _. param 5 F)) no, tt))) in
    proved_at 𝓛 En hs c 𝓜 𝓡 (
      Goes-spent_ref 𝓛 7 (0 ∷ []) tt (plain (λ _. R)),
      (Goes-dropped 𝓛 7 (plain (λ _. KR)) no (λ κs x h. refl), (Goes-dropped 𝓛 7 (plain (λ _. param 5 F)) no (λ κs x h. refl), tt)),
    )
    (#self inst) fn (code.unfolded 𝓤 H 𝓜 𝓡 wired (K, (V, (S, (SA, (E, (F, tt)))))) od eqd ped pod smd sid std ald cld kd gd fd)
    (λ y₀ are.
    let κs = y₀.0.0 in let qs = y₀.0.1 in let a = y₀.0.3 in let b : ℕ = a.0.ref_ptr.0 in let o' : ℕ = a.0.ref_ptr.1 in let γ : GName =
    a.0.ghost_name in let old = a.0.now in let key = a.1.0 in let call = a.1.1.0 in
    let κ : Lft = κs.0 in let q : Share = qs.0 in let κK : Lft = κs.1.0 in let κV : Lft = κs.1.1.0 in let κS : Lft = κs.1.1.1.0 in
    let κA : Lft = κs.1.1.1.1.0 in let κE : Lft = κs.1.1.1.1.1.0 in let κF : Lft = κs.1.1.1.1.1.1.0 in
    let tK : Fml = flft κK qs.1.0 in let tV : Fml = flft κV qs.1.1.0 in let tS : Fml = flft κS qs.1.1.1.0 in let tA : Fml = flft κA qs.1.1.1.1.0 in
    let tE : Fml = flft κE qs.1.1.1.1.1.0 in let tF : Fml = flft κF qs.1.1.1.1.1.1.0 in
    let toks : Item 𝓤 = ‵ tK ⊛ ‵ tV ⊛ ‵ tS ⊛ ‵ tA ⊛ ‵ tE ⊛ ‵ tF ⊛ ‵ ftrue in
    let inK = κK ⊑ K.lives in let inV = κV ⊑ V.lives in let inS = κS ⊑ S.lives in let inA = κA ⊑ SA.lives in let inE = κE ⊑ E.lives in
    let inF = κF ⊑ F.lives in let asks : Type 0 = IsNone (at o.cmp old.entries key) → FnOnceTakesAt g call key in
    let gk = alone (layout K) y₀.0.4.1.0 (((param_laws 0 K LK).lawful 𝓛).typed key y₀.0.4.1.0 are.1.0) in let gf =
    alone (layout F) y₀.0.4.1.1.0 (((param_laws 5 F LF).lawful 𝓛).typed call y₀.0.4.1.1.0 are.1.1.0) in
    let At : List Val × (List Val × (List Val × Unit {0})) → (walk_of 𝓛 En hs c).Ghost = λ vss. ((κs, qs, y₀.0.2, a, vss), y₀.1) in
    let y : (walk_of 𝓛 En hs c).Ghost = At (vptr b o' ∷ [], (gk.0 ∷ [], (gf.0 ∷ [], tt))) in let Post : Val → SProp 𝓤 = (walk_of 𝓛 En hs c).post y in
    subst (λ (vss : List Val × (List Val × (List Val × Unit {0}))). ent 𝓤 ((walk_of 𝓛 En hs c).pre (At vss))
    (WpFn 𝓤 H 𝓣.C 𝓣.Λ fn ((walk_of 𝓛 En hs c).args (At vss)) ((walk_of 𝓛 En hs c).post (At vss))))
    (λ i. (sym are.0.0 i, (sym gk.1.0 i, (sym gf.1.0 i, tt)))) (
    qed 𝓛 (((‵ (flft κ q) ⊛ toks) ⊛ ‵ (owns (types_at En.signature.params κs) a y.0.4)) ∷ raw (fact 𝓤 inK) ∷ raw (fact 𝓤 inV) ∷ raw (fact 𝓤 inS) ∷
    raw (fact 𝓤 inA) ∷ raw (fact 𝓤 inE) ∷ raw (fact 𝓤 inF) ∷ raw (fact 𝓤 asks) ∷ []) ∵
    keep ! (1 ∷ 2 ∷ 3 ∷ 4 ∷ 5 ∷ 6 ∷ 7 ∷ 0 ∷ [])
    $ heard ! inK (λ hK. heard ! inV (λ hV. heard ! inS (λ hS. heard ! inA (λ hA. heard ! inE (λ hE. heard ! inF (λ hF. heard ! asks (λ may.
    split ! $ split ! $ move ! (2 ∷ []) $ fsplit3 ! $ move ! (2 ∷ []) $ fsplit ! $ keep ! (2 ∷ 3 ∷ 0 ∷ 4 ∷ 5 ∷ []) $
    enter ! 𝓣.C 𝓣.Λ fn (vptr b o' ∷ gk.0 ∷ gf.0 ∷ []) Post $ alloc_all ! (λ l. pass_all ! refl ((tt, tt), (gk.1.1, (gf.1.1, tt))) $
    sets ! (addr ! (through ! refl (stop !))) refl (tt, tt) $ sets ! (of_opd ! (get ! refl)) refl gk.1.1 $ sets ! (of_opd ! (get ! refl)) refl gf.1.1 $
    -- [self; the key; the closure; the token; the others]
    move ! (3 ∷ []) $ use1 𝓛 (‵ (flft κ (Share.left q)) ⊛ ‵ (flft κ (Share.right q))) (𝓛.lfts.lft_split κ q) $ split ! $ move ! (1 ∷ []) $
    use1 𝓛 (later (some (λ (p : ℕ × Share). ‵ (flft (p.0 ∷ κ) p.1) ⊛ raw (Ends 𝓛 κ (Share.right q) p.0 p.1)))) (begins 𝓛 κ (Share.right q)) $ await ! tt
    $ pick ! (λ p. split ! $ let κ₁ : Lft = p.0 ∷ κ in
    let Ref : Lft → GName → R.Denot → Fml =
    λ κ' δ n. (MutRef (named 0) κ' R).own_val (record { ref_ptr = (b, o'); ghost_name = δ; now = n }) (vptr b o' ∷ []) in
    -- [the new token; the way to end it; the token's left; self; the key; the closure; the others]
    move ! (3 ∷ 2 ∷ []) $ use2 𝓛 (later (some (λ (δ : GName). ‵ (Ref κ₁ δ old) ⊛ ‵ (LentAgain R κ κ₁ (Share.left q) γ b o' δ old))))
    (lends_again 𝓛 R (named 0) κ κ₁ (Share.left q) γ b o' (named 0) old) $ await ! tt $ pick ! (λ δ. split ! $
    let Finds = triple_of 𝓛 (finds.signature K V S SA E F o od eq eqd pe ped po pod sm smd si sid st std al ald cl cld kd g gd fd)
    (finds.spec K V S SA E F o od eq eqd pe ped po pod sm smd si sid st std al ald cl cld kd g gd fd 𝓛 𝓜.mem 𝓡.returns) in
    let outer = meet_⊑_right (p.0 ∷ []) κ in
    let z : Finds.Ghost = (
      (
        (κ₁, κs.1),
        (p.1, qs.1),
        (⊑_trans κ₁ κ κK outer y₀.0.2.0, (⊑_trans κ₁ κ κV outer y₀.0.2.1.0, (⊑_trans κ₁ κ κS outer y₀.0.2.1.1.0, tt))),
        (record a.0 { ghost_name = δ }, (key, (call, tt))),
        (vptr b o' ∷ [], (gk.0 ∷ [], (gf.0 ∷ [], tt))),
      ),
      tt,
    ) in
    -- [the loan; what is kept; the new token; the way to end it; the key; the closure; the others]
    nothing ! $ move ! (6 ∷ 0 ∷ []) $ fjoin ! $ move ! (5 ∷ 0 ∷ []) $ fjoin ! $ move ! (1 ∷ 0 ∷ []) $ fjoin ! $ move ! (2 ∷ 4 ∷ []) $ join ! $ join ! $
    use0 𝓛 (raw (fact 𝓤 asks)) (fact_i 𝓤 asks (emp 𝓤) may) $ use0 𝓛 (raw (fact 𝓤 inF)) (fact_i 𝓤 inF (emp 𝓤) hF) $ join !
    $ use0 𝓛 (raw (fact 𝓤 inE)) (fact_i 𝓤 inE (emp 𝓤) hE) $ join ! $ use0 𝓛 (raw (fact 𝓤 inA)) (fact_i 𝓤 inA (emp 𝓤) hA) $ join ! $
    use0 𝓛 (raw (fact 𝓤 inS)) (fact_i 𝓤 inS (emp 𝓤) hS) $ join ! $ use0 𝓛 (raw (fact 𝓤 inV)) (fact_i 𝓤 inV (emp 𝓤) hV) $ join !
    $ use0 𝓛 (raw (fact 𝓤 inK)) (fact_i 𝓤 inK (emp 𝓤) hK) $ join ! $
    move ! (1 ∷ 0 ∷ []) $ join ! $ use1 𝓛 (raw (Finds.pre z)) (id⊢ 𝓤 _) $
    calls_at ! (framed 𝓤 H 𝓜 𝓣) Finds
    (finds_met.met 𝓤 𝓛 𝓜 𝓡 (code.calls-litemap::map::LiteMap::try_find_or_insert 𝓡.env wired) K V S SA E F LK LV LS LA LE LF cp o od eq eqd pe ped po pod sm smd
    si sid st std al ald cl cld kd g gd fd mo meq mpe mpo msm msi mst mal mcl mkd mg mfd) z
    (and_then ! (get ! refl) (and_then ! (get ! refl) (and_then ! (get ! refl) (no_more !)))) (λ v.
    let PR : RattleType =
    type_at {n = 7} (finds.signature K V S SA E F o od eq eqd pe ped po pod sm smd si sid st std al ald cl cld kd g gd fd).result (κ₁, κs.1) in
    let X-laws = fault_laws KR VR ER (param_laws 0 K LK) (param_laws 1 V LV) (param_laws 4 E LE) in let u-laws =
    of_field u64-field u64-laws refl (copy_shared u64-field u64-copy) in
    let P-laws = result_laws u64-field.row (error.the_row KR VR ER) u-laws X-laws in
    let P-place : PR.Denot → R.Denot → Type 0 = λ r n. IfOk r (λ i. i ≡ place o.cmp old.entries key) in
    let P-within : PR.Denot → R.Denot → Type 0 = λ r n. IfOk r (λ i. i < length n.entries) in
    let P-there : PR.Denot → R.Denot → Type 0 = λ r n. IfOk r (λ i. slice_get n.entries i ≡ at o.cmp n.entries key) in
    let P-present : PR.Denot → R.Denot → Type 0 = λ r n. IsSome (at o.cmp old.entries key) → IsOk r × (n ≡ old) in
    let P-put : PR.Denot → R.Denot → Type 0 =
    λ r n. IsNone (at o.cmp old.entries key) → OnOk r ((v' : V.Denot) × FnOnceReturnsAt g call key (Ok v') × (n.entries ≡ put o.cmp old.entries key v')) in
    let P-room : PR.Denot → R.Denot → Type 0 = λ r n. old.room ≤ n.room + 1 in
    let P-errors : PR.Denot → R.Denot → Type 0 = λ r n. FailsAs g call key old.room r in
    let P-refused : PR.Denot → R.Denot → Type 0 = λ r n. OnErr r (n.entries ≡ old.entries) in
    let P-unmoved : PR.Denot → R.Denot → Type 0 = λ r n. IfClosure r (λ _. n ≡ old) in
    use1 𝓛 (later (some (λ (r : PR.Denot). ((‵ (flft κ₁ p.1) ⊛ toks) ⊛ ‵ (PR.own_val r (v ∷ []))) ⊛ some (λ (ws : R.Denot × (Unit {0} × (Unit {0} × Unit {0}))).
    ‵ (fsep (fsep (fres δ (R.coded.code ws.0)) (fbor κ₁ (Borrowed (mem R) b o' δ))) (fsep ftrue (fsep ftrue ftrue))) ⊛ raw (fact 𝓤 (P-place r ws.0)) ⊛ raw
    (fact 𝓤 (P-within r ws.0)) ⊛ raw (fact 𝓤 (P-there r ws.0)) ⊛ raw (fact 𝓤 (P-present r ws.0)) ⊛ raw (fact 𝓤 (P-put r ws.0)) ⊛ raw
    (fact 𝓤 (P-room r ws.0)) ⊛ raw (fact 𝓤 (P-errors r ws.0)) ⊛ raw (fact 𝓤 (P-refused r ws.0)) ⊛ raw (fact 𝓤 (P-unmoved r ws.0)))))) (id⊢ 𝓤 _) $
    await ! tt $ pick ! (λ r. split ! $ move ! (1 ∷ []) $ pick ! (λ ws. let n : R.Denot = ws.0 in split ! $ move ! (1 ∷ []) $
    split ! $ heard ! (P-place r n)
    (λ h-place. split ! $ heard ! (P-within r n)
    (λ h-within. split !
    $ heard ! (P-there r n)
    (λ h-there. split ! $ heard ! (P-present r n)
    (λ h-present. split !
    $ heard ! (P-put r n)
    (λ h-put. split ! $ heard ! (P-room r n)
    (λ h-room. split ! $ heard ! (P-errors r n) (λ h-errors. split ! $ heard ! (P-refused r n) (λ h-refused. heard ! (P-unmoved r n) (λ h-unmoved.
    let found : Found g call o.cmp key old n r =
    record {
      place = h-place;
      within = h-within;
      there = h-there;
      present = h-present;
      put = h-put;
      room = h-room;
      errors = h-errors;
      unchanged = h-refused;
      unchanged_by_closure = h-unmoved;
    } in
    fsplit ! $ fsplit ! $ move ! (1 ∷ []) $ drop ! $ move ! (1 ∷ []) $ drop ! $ move ! (1 ∷ []) $ split ! $ split ! $
    -- [the new token; the others; the result; the last value; what is kept; the way to end it]
    move ! (0 ∷ 5 ∷ []) $ use2 𝓛 (later (‵ (fdead κ₁) ⊛ ‵ (flft κ (Share.right q)))) (apply∗ 𝓤 (𝓛.A.lft κ₁ p.1) _) $ await ! tt $ split ! $
    move ! (0 ∷ 5 ∷ 4 ∷ []) $ use3 𝓛 (later (‵ (Ref κ γ n) ⊛ ‵ (flft κ (Share.left q)))) (comes_back 𝓛 R (named 0) κ κ₁ (Share.left q) γ b o' δ old n)
    $ await ! tt $ split ! $
    move ! (1 ∷ 2 ∷ []) $ use2 𝓛 (‵ (flft κ q)) (𝓛.lfts.lft_join κ q) $
    -- [the token; self; the others; the result]
    move ! (2 ∷ []) $ split3 ! $ move ! (2 ∷ []) $ split3 ! $ move ! (2 ∷ []) $ split3 ! $ move ! (9 ∷ 8 ∷ 7 ∷ 5 ∷ 6 ∷ 3 ∷ 4 ∷ 0 ∷ 1 ∷ 2 ∷ []) $
    -- [the result; self; the tokens, from the first on; nothing]
    peeks ! PR (Is PR) (shows 𝓛 PR) r (v ∷ []) (λ isr. let goodr = ((P-laws.lawful 𝓛).typed r (v ∷ []) isr).0 in
    lands_as ! refl refl goodr $ sets ! (addr ! (through ! refl (stop !))) refl (tt, tt) $
    let lent : MutBor R.Denot = record a.0 { now = n } in
    let whole : OrdMembers K.Denot = record { partial_cmp = po.partial_cmp; eq = pe.eq; cmp = o.cmp } in let Rests : MutBor R.Denot → (R.Denot → Type 0) → Fml =
    lends.RestsAs KR VR (param 2 S) whole st.pairs st.room in
    let Shares = triple_of 𝓛 (shares.signature K V S SA o od eq eqd pe ped po pod sm smd si sid st std al ald cl cld kd)
    (shares.spec K V S SA o od eq eqd pe ped po pod sm smd si sid st std al ald cl cld kd 𝓛 𝓜.mem 𝓡.returns) in
    let z₂ : Shares.Ghost =
    (((κ, (κK, (κV, (κS, (κA, tt))))), (q, (qs.1.0, (qs.1.1.0, (qs.1.1.1.0, (qs.1.1.1.1.0, tt))))), y₀.0.2, (lent, tt), (vptr b o' ∷ [], tt)), tt) in
    nothing ! $ move ! (2 ∷ 0 ∷ []) $ fjoin ! $ nothing ! $ move ! (7 ∷ 0 ∷ []) $ join ! $ move ! (6 ∷ 0 ∷ []) $ join ! $ move ! (5 ∷ 0 ∷ []) $ join ! $
    move ! (4 ∷ 0 ∷ []) $ join ! $ move ! (3 ∷ 0 ∷ []) $ join ! $ join ! $
    nothing ! $ use0 𝓛 (raw (fact 𝓤 inA)) (fact_i 𝓤 inA (emp 𝓤) hA) $ join ! $ use0 𝓛 (raw (fact 𝓤 inS)) (fact_i 𝓤 inS (emp 𝓤) hS) $ join ! $
    use0 𝓛 (raw (fact 𝓤 inV)) (fact_i 𝓤 inV (emp 𝓤) hV) $ join ! $ use0 𝓛 (raw (fact 𝓤 inK)) (fact_i 𝓤 inK (emp 𝓤) hK) $ join ! $
    move ! (1 ∷ 0 ∷ []) $ join ! $ use1 𝓛 (raw (Shares.pre z₂)) (id⊢ 𝓤 _) $
    calls_at ! (framed 𝓤 H 𝓜 𝓣) Shares
    (shares_met.met 𝓤 𝓛 𝓜 𝓡 (code.calls-litemap::map::LiteMap::shared 𝓡.env wired) K V S SA LK LV LS LA cp o od eq eqd pe ped po pod sm smd si sid st std al ald
    cl cld kd mo meq mpe mpo msm msi mst mal mcl mkd) z₂ (and_then ! (get ! refl) (no_more !)) (λ v₂.
    let SR : RattleType = ShrRef (named 0) κ R in
    use1 𝓛 (later (some (λ (m : Bor R.Denot). ((‵ (flft κ q) ⊛ ‵ tK ⊛ ‵ tV ⊛ ‵ tS ⊛ ‵ tA ⊛ ‵ ftrue) ⊛ ‵ (SR.own_val m (v₂ ∷ []))) ⊛ some
    (λ (ws₂ : Unit {0} × Unit {0}).
    ‵ (fsep ftrue ftrue) ⊛ ‵ (Rests lent (λ w. w ≡ n)) ⊛ raw (fact 𝓤 (m.now ≡ n)))))) (id⊢ 𝓤 _) $
    await ! tt $ pick ! (λ m. split ! $ move ! (1 ∷ [])
    $ pick ! (λ ws₂. split3 ! $ drop ! $ move ! (1 ∷ []) $ heard ! (m.now ≡ n) (λ same. move ! (1 ∷ []) $ split ! $ move ! (1 ∷ []) $
    -- [the shared map; four tokens; what it rests as; the result; E's; F's; nothing]
    peeks ! SR (Is SR) (shows 𝓛 SR) m (v₂ ∷ [])
    (λ ism. rewrite ! 0 (λ (us : List Val). ‵ (SR.own_val m us)) ism.0 refl $ lands_as ! (ap only ism.0) refl (tt, tt)
    $ sets ! (of_opd ! (get ! refl)) refl goodr $
    let Shows = triple_of 𝓛 (shown.signature K V S SA E o od eq eqd pe ped po pod sm smd si sid st std al ald cl cld kd)
    (shown.spec K V S SA E o od eq eqd pe ped po pod sm smd si sid st std al ald cl cld kd 𝓛 𝓜.mem 𝓡.returns) in
    let κs₃ : Lfts 6 = (κ, (κK, (κV, (κS, (κA, (κE, tt)))))) in
    let z₃ : Shows.Ghost = (
      (
        κs₃,
        (q, (qs.1.0, (qs.1.1.0, (qs.1.1.1.0, (qs.1.1.1.1.0, (qs.1.1.1.1.1.0, tt)))))),
        y₀.0.2,
        (m, (r, tt)),
        (vptr m.ref_ptr.0 m.ref_ptr.1 ∷ [], (v ∷ [], tt)),
      ),
      tt,
    ) in
    let asked : Type 0 = IfOk r (λ i. i < length m.now.entries) in
    move ! (1 ∷ []) $ split ! $ move ! (1 ∷ []) $ split3 ! $ move ! (2 ∷ []) $ split3 ! $
    move ! (9 ∷ 2 ∷ []) $ join ! $ move ! (2 ∷ 0 ∷ []) $ join ! $ move ! (1 ∷ 0 ∷ []) $ join ! $ move ! (2 ∷ 0 ∷ []) $ join ! $ move ! (1 ∷ 0 ∷ []) $
    join ! $ move ! (1 ∷ 0 ∷ []) $ join ! $ nothing ! $ move ! (4 ∷ 0 ∷ []) $ fjoin ! $ move ! (2 ∷ 0 ∷ []) $ fjoin ! $ move ! (1 ∷ 0 ∷ []) $ join ! $
    use0 𝓛 (raw (fact 𝓤 asked)) (fact_i 𝓤 asked (emp 𝓤) (subst (λ (w : R.Denot). IfOk r (λ i. i < length w.entries)) (sym same) h-within))
    $ use0 𝓛 (raw (fact 𝓤 inE)) (fact_i 𝓤 inE (emp 𝓤) hE) $ join ! $ use0 𝓛 (raw (fact 𝓤 inA)) (fact_i 𝓤 inA (emp 𝓤) hA) $ join ! $
    use0 𝓛 (raw (fact 𝓤 inS)) (fact_i 𝓤 inS (emp 𝓤) hS) $ join !
    $ use0 𝓛 (raw (fact 𝓤 inV)) (fact_i 𝓤 inV (emp 𝓤) hV) $ join ! $ use0 𝓛 (raw (fact 𝓤 inK)) (fact_i 𝓤 inK (emp 𝓤) hK) $ join ! $
    move ! (1 ∷ 0 ∷ []) $ join ! $ use1 𝓛 (raw (Shows.pre z₃)) (id⊢ 𝓤 _) $
    calls_at ! (framed 𝓤 H 𝓜 𝓣) Shows
    (shown_met.met 𝓤 𝓛 𝓜 𝓡 (code.calls-litemap::map::LiteMap::shown 𝓡.env wired) K V S SA E LK LV LS LA LE cp o od eq eqd pe ped po pod sm smd si sid st std al
    ald cl cld kd mo meq mpe mpo msm msi mst mal mcl mkd) z₃ (and_then ! (get ! refl) (and_then ! (get ! refl) (no_more !))) (λ v₃.
    let FR : RattleType = type_at {n = 7} (f.signature K V S SA E F o od eq eqd pe ped po pod sm smd si sid st std al ald cl cld kd g gd fd).result κs in
    let r-laws : Laws (ShrRef (named 0) κ VR) =
    of_field (shr_ref_field (record { mir = named 0; lft = κ }) VR tt) (shr_ref_laws (record { mir = named 0; lft = κ }) VR tt) refl
    (copy_shared (shr_ref_field (record { mir = named 0; lft = κ }) VR tt)
    (shr_ref_copy (record { mir = named 0; lft = κ }) VR tt (param_laws 1 V LV).shr_laws)) in
    let pair : List RattleType = u64-field.row ∷ ShrRef (named 0) κ VR ∷ [] in
    let F-laws = result_laws (tuple.TupleAt (tuple.tuple_name 2) pair) (error.the_row KR VR ER)
    (tuple.laws_at (tuple.tuple_name 2) pair (u-laws, (r-laws, tt))) X-laws in
    use1 𝓛 (later (some (λ (t : FR.Denot). ((‵ (flft κ q) ⊛ ‵ tK ⊛ ‵ tV ⊛ ‵ tS ⊛ ‵ tA ⊛ ‵ tE ⊛ ‵ ftrue) ⊛ ‵ (FR.own_val t (v₃ ∷ []))) ⊛ some
    (λ (ws₃ : Lasts (shown.ended K V S SA E o od eq eqd pe ped po pod sm smd si sid st std al ald cl cld kd) κs₃ z₃.0.3).
    ‵ (lasts (shown.ended K V S SA E o od eq eqd pe ped po pod sm smd si sid st std al ald cl cld kd) κs₃ z₃.0.3 ws₃) ⊛ raw (fact 𝓤 (IsShown m.now.entries r
    t)))))) (id⊢ 𝓤 _) $ await ! tt $ pick ! (λ t. split ! $ move ! (1 ∷ [])
    $ pick ! (λ ws₃. split ! $ drop ! $ heard ! (IsShown m.now.entries r t) (λ is_shown. split ! $ move ! (1 ∷ []) $
    let all : Told g call o.cmp key old n t = told g call o.cmp key old n r found t (subst (λ (w : R.Denot). IsShown w.entries r t) same is_shown) in
    peeks ! FR (Is FR) (shows 𝓛 FR) t (v₃ ∷ [])
    (λ ist. lands_as ! refl refl (((F-laws.lawful 𝓛).typed t (v₃ ∷ []) ist).0) $ returns ! (look_at ! 0 refl) $ free_all ! refl $
    -- [the result; five tokens; what it rests as; F's; nothing]
    move ! (1 ∷ []) $ split ! $ move ! (1 ∷ []) $ split3 ! $ move ! (2 ∷ []) $ split3 ! $ move ! (2 ∷ []) $ split ! $
    move ! (9 ∷ 10 ∷ []) $ join ! $ move ! (1 ∷ 0 ∷ []) $ join ! $ move ! (3 ∷ 0 ∷ []) $ join ! $ move ! (2 ∷ 0 ∷ []) $ join ! $ move ! (3 ∷ 0 ∷ []) $ join !
    $ move ! (2 ∷ 0 ∷ []) $ join ! $ move ! (2 ∷ 0 ∷ []) $ join ! $
    -- [the tokens; nothing; the result; what it rests as]
    let Placed : R.Denot → Type 0 = IsInsertedAt g call o.cmp key old t in
    move ! (3 ∷ []) $ use1 𝓛 (‵ (Rests a.0 Placed))
    (weaker_rest 𝓛 (lends.map_row KR VR (param 2 S) whole st.pairs st.room) γ (λ w. w ≡ n) Placed (λ w e. subst Placed (sym e) all.leaves)) $
    let T-place : Type 0 = IfOk t (λ x. x.0 ≡ place o.cmp old.entries key) in
    let T-present : Type 0 = IsSome (at o.cmp old.entries key) → IsOk t in
    let T-within : Type 0 = IsSome (at o.cmp old.entries key) → IfOk t (λ x. x.0 < length old.entries) in
    let T-value : Type 0 = IsSome (at o.cmp old.entries key) → IfOk t (λ x. Some x.1.now ≡ value_at o.cmp old.entries key) in
    let T-answered : Type 0 = IsNone (at o.cmp old.entries key) → IfOk t (λ x. FnOnceReturnsAt g call key (Ok x.1.now)) in
    let T-errors : Type 0 = FailsAs g call key old.room t in
    use0 𝓛 (raw (fact 𝓤 T-errors)) (fact_i 𝓤 T-errors (emp 𝓤) all.errors) $ use0 𝓛 (raw (fact 𝓤 T-answered)) (fact_i 𝓤 T-answered (emp 𝓤) all.answered) $ join !
    $ use0 𝓛 (raw (fact 𝓤 T-value)) (fact_i 𝓤 T-value (emp 𝓤) all.value) $ join ! $ use0 𝓛 (raw (fact 𝓤 T-within)) (fact_i 𝓤 T-within (emp 𝓤) all.within)
    $ join ! $ use0 𝓛 (raw (fact 𝓤 T-present)) (fact_i 𝓤 T-present (emp 𝓤) all.present) $ join !
    $ use0 𝓛 (raw (fact 𝓤 T-place)) (fact_i 𝓤 T-place (emp 𝓤) all.place) $ join ! $ move ! (1 ∷ 0 ∷ []) $ join ! $
    nothing ! $ nothing ! $ fjoin ! $ nothing ! $ fjoin ! $ nothing ! $ fjoin ! $ keep ! (2 ∷ 0 ∷ 4 ∷ 1 ∷ [])
    $ by ! (leaves 𝓛 En hs c y v₃ t (tt, (tt, (tt, tt))) (tt, (tt, (tt, tt))))
    )))))))))))))))))))))))))))))))))))

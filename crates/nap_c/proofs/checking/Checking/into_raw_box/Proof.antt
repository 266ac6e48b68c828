-- `into_raw_box` tests the pointer, and returns the box at it.
use types.Match.{live}
use Rattle.std.proofs.{option.Made.Some-of, option.Made.none_of, ResultValues.and_tt}
use Rattle.nap_c.proofs.{ !, Goes-dropped, Good, List, None, SProp, Slot, Some, Stays, Val, WpFn, [], after, agg, alloc_all, and_then, ap, at_ret, bin, block_ptr, branches, by, checking.Checking.into_raw_box.Statement.statement, emp, ent, enter, env, exec, fact, fact_i, first, fjoin, fld, free_all, fsplit3, ftrue, get, get_in, ghosts, keep, layout, leaves, lit, lit<, look_at, move, no_more, nothing, null_ptr, of_opd, one, owns, pass_all, plain, proved_at, ptr_val, qed, raw, refl, returns, rewrite, sets, sets_last, split, stay_dropped, stop, sub, suffices, tables, tests_null, type_at, types_at, use0, use1, vcons, vnil, vptr, walk_of, whole, yes, ‵, ◌$◌, ◌++◌, ◌∙◌, ◌∵◌, ◌∷◌, ◌≡◌, ◌⊛◌}
use Rattle.nap_c.proofs.ValueLemmas.{Loose, alone, both, checking_out, kept_out, loose_good, loose_in, ptr_good, runs_alike}
use Rattle.std.specs.contracts.alloc.Global as heap
use Rattle.std.proofs.alloc.Global.TheLaws as heap_laws
use Rattle.nap_c.specs.contracts.pieces.Check as check
use Rattle.nap_c.specs.contracts.checking.Checking as checking
use Rattle.nap_c.specs.contracts.checking.Checking.into_raw_box as f
use f.Key.{name as #self}
use Rattle.nap_c.proofs.checking.Checking.into_raw_box.Code as code

abbrev From : Slot 0
From = plain (λ _. checking.the_row)

abbrev Heap : Slot 0
Heap = plain (λ _. heap.the_row)

abbrev stayed : Stays f.ended.signature.params f.ended.kept
stayed = (stay_dropped From yes, (stay_dropped Heap yes, tt))

pub into_raw_box_spec : {M : Type 1} → statement M
into_raw_box_spec 𝓤 𝓛 𝓜 𝓡 wired =
    let H = 𝓛.H in let 𝓣 = tables 𝓤 H 𝓜 𝓡 𝓡.env in let c = f.clauses 𝓛 𝓜.mem 𝓡.returns in let fn = code.function in
    let R = check.the_row in let Z = heap.the_row in let LZ = heap_laws.the_row_laws in let Lr = Loose R Z LZ ghosts in
    proved_at 𝓛 f.ended stayed c 𝓜 𝓡 (Goes-dropped 𝓛 0 From yes (λ κs x w. refl), (Goes-dropped 𝓛 0 Heap yes (λ κs x w. refl), tt)) #self fn (code.unfolded 𝓤 H 𝓜 𝓡 wired) (λ z are.
    let v = z.0.3.0 in let a = z.0.3.1.0 in let Post = (walk_of 𝓛 f.ended stayed c).post z in let Run : List Val → SProp 𝓤 = λ ws. WpFn 𝓤 H 𝓣.C 𝓣.Λ fn ws Post in
    let Out = type_at f.ended.signature.result z.0.0 in let h = one (layout Z) z.0.4.1.0 ((LZ.lawful 𝓛).typed a z.0.4.1.0 are.1.0) in
    qed 𝓛 ((‵ ftrue ⊛ ‵ (owns (types_at f.ended.signature.params z.0.0) z.0.3 z.0.4)) ∷ raw ((c z.0.0 z.0.3).requires z.1) ∷ []) ∵ split ! $ move ! (1 ∷ []) $ fsplit3 ! $
    rewrite ! 1 (λ us. ‵ (Z.own_val a us)) h.1 refl $ checking_out ! v z.0.4.0 (λ ws. kept_out ! v.at v.check
    (λ is so. let w = alone (ptr_val null_ptr) in let first_is = ws ∙ ap (λ p. alone (ptr_val p) ∷ []) is in
    suffices ! (Run (w ∷ h.0 ∷ [])) (runs_alike 𝓤 Run (λ i. first_is i ++ (h.1 i ++ []))) $
    enter ! 𝓣.C 𝓣.Λ fn (w ∷ h.0 ∷ []) Post $ alloc_all ! (λ l. pass_all ! refl ((tt, (record { fits = lit< tt }, tt)), (h.2, tt)) $ let Ev = env fn.locals l in
    sets ! (of_opd ! (get_in ! (fld ! refl (stop !)) (sub ! 0 refl (whole !)))) refl (ptr_good null_ptr) $
    sets ! (bin ! (get ! refl) (lit ! tt) tt) refl (tt, tt) $ first ! $ branches ! (get ! refl)
    (λ _. sets_last ! (agg ! (and_then ! (lit ! tt) (no_more !))) refl (tt, (record { fits = lit< tt }, tt)) $ exec ! 𝓣.C 𝓣.Λ Ev (after 3 fn.body) (at_ret Ev Post) $
    sets ! (of_opd ! (get ! refl)) refl (tt, (record { fits = lit< tt }, tt)) $
    use0 𝓛 (‵ (Out.own_val None (live 0 vnil ∷ []))) (none_of 𝓛 Lr) $ use0 𝓛 (raw (fact 𝓤 (v.check ≡ None))) (fact_i 𝓤 (v.check ≡ None) (emp 𝓤) so) $ nothing ! $ nothing ! $ fjoin ! $ nothing ! $ fjoin ! $
    returns ! (look_at ! 0 refl) $ free_all ! refl $ keep ! (5 ∷ 0 ∷ 2 ∷ 1 ∷ []) $ by ! (leaves 𝓛 f.ended stayed c z (live 0 vnil) None (tt, (tt, tt)) (tt, (tt, tt)))) (λ wrong. absurd wrong)))
    (λ b o a' x is so may. let w = alone (vptr b o) in let first_is = ws ∙ ap (λ p. alone (ptr_val p) ∷ []) is in
    let made = both (vptr b o) h.0 in let typed = loose_good R Z LZ ghosts b o h.0 h.2 in let v₁ = live 1 (vcons made vnil) in let d : Lr.Denot = record { at = block_ptr b o; alloc = a; value = x } in
    let good : Good (layout Out) v₁ = (and_tt _ typed.0, (record { fits = lit< tt }, (typed.1, tt))) in
    suffices ! (Run (w ∷ h.0 ∷ [])) (runs_alike 𝓤 Run (λ i. first_is i ++ (h.1 i ++ []))) $
    enter ! 𝓣.C 𝓣.Λ fn (w ∷ h.0 ∷ []) Post $ alloc_all ! (λ l. pass_all ! refl ((tt, (tt, tt)), (h.2, tt)) $ let Ev = env fn.locals l in
    sets ! (of_opd ! (get_in ! (fld ! refl (stop !)) (sub ! 0 refl (whole !)))) refl (tt, tt) $
    sets ! (bin ! (get ! refl) (lit ! tt) (tests_null (block_ptr b o) may)) refl (tt, tt) $ first ! $ branches ! (get ! refl) (λ wrong. absurd wrong) (λ _.
    sets ! (of_opd ! (get ! refl)) refl (tt, tt) $
    sets ! (agg ! (and_then ! (get ! refl) (and_then ! (get ! refl) (no_more !)))) refl typed $ sets_last ! (agg ! (and_then ! (lit ! tt) (and_then ! (get ! refl) (no_more !)))) refl good $
    exec ! 𝓣.C 𝓣.Λ Ev (after 3 fn.body) (at_ret Ev Post) $ sets ! (of_opd ! (get ! refl)) refl good $
    loose_in R Z LZ ghosts ! b o h.0 a x $
    use1 𝓛 (‵ (Out.own_val (Some d) (v₁ ∷ []))) (Some-of 𝓛 Lr d made) $ use0 𝓛 (raw (fact 𝓤 (v.check ≡ Some x))) (fact_i 𝓤 (v.check ≡ Some x) (emp 𝓤) so) $ nothing ! $ nothing ! $ fjoin ! $ nothing ! $ fjoin ! $
    returns ! (look_at ! 0 refl) $ free_all ! refl $ keep ! (4 ∷ 0 ∷ 2 ∷ 1 ∷ []) $ by ! (leaves 𝓛 f.ended stayed c z v₁ (Some d) (tt, (tt, tt)) (tt, (tt, tt))))))))

-- `some` moves the pointer, with what is owned at it.
use Rattle.nap_c.proofs.{ !, Goes-dropped, List, Option, SProp, Slot, Some, Stays, Val, WpFn, [], agg, alloc_all, and_then, block_ptr, by, checking.Checking.some.Statement.statement, emp, ent, enter, fact, fact_i, fjoin, fld, free_all, fsplit, ftrue, get, get_in, ghosts, keep, leaves, look_at, move, no_more, nothing, of_opd, owns, pass_all, plain, proved_at, qed, raw, refl, returns, sets, split, stay_dropped, stop, sub, suffices, tables, types_at, use0, vptr, walk_of, whole, yes, ‵, ◌$◌, ◌++◌, ◌∵◌, ◌∷◌, ◌≡◌, ◌⊛◌}
use Rattle.nap_c.proofs.ValueLemmas.{Known, Loose, alone, both, checking_in, loose_good, loose_out, runs_alike, some_kept}
use Rattle.std.specs.contracts.alloc.Global as heap
use Rattle.std.proofs.alloc.Global.TheLaws as heap_laws
use Rattle.nap_c.specs.contracts.pieces.Check as check
use Rattle.nap_c.specs.contracts.checking.Checking.some as f
use f.Key.{name as #self}
use Rattle.nap_c.proofs.checking.Checking.some.Code as code

abbrev From : Slot 0
From = plain (λ _. Loose check.the_row heap.the_row heap_laws.the_row_laws ghosts)

abbrev stayed : Stays f.ended.signature.params f.ended.kept
stayed = (stay_dropped From yes, tt)

pub some_spec : {M : Type 1} → statement M
some_spec 𝓤 𝓛 𝓜 𝓡 wired =
    let H = 𝓛.H in let 𝓣 = tables 𝓤 H 𝓜 𝓡 𝓡.env in let c = f.clauses 𝓛 𝓜.mem 𝓡.returns in let fn = code.function in
    let R = check.the_row in let Z = heap.the_row in let LZ = heap_laws.the_row_laws in
    proved_at 𝓛 f.ended stayed c 𝓜 𝓡 (Goes-dropped 𝓛 0 From yes (λ κs x w. refl), tt) #self fn (code.unfolded 𝓤 H 𝓜 𝓡 wired) (λ z are.
    let v = z.0.3.0 in let Post = (walk_of 𝓛 f.ended stayed c).post z in let Run : List Val → SProp 𝓤 = λ ws. WpFn 𝓤 H 𝓣.C 𝓣.Λ fn ws Post in
    qed 𝓛 ((‵ ftrue ⊛ ‵ (owns (types_at f.ended.signature.params z.0.0) z.0.3 z.0.4)) ∷ raw ((c z.0.0 z.0.3).requires z.1) ∷ []) ∵ split ! $ move ! (1 ∷ []) $ fsplit ! $
    loose_out R Z LZ ghosts ! v z.0.4.0 (λ b o h e ws fits.
    let w = both (vptr b o) h in let made = alone (vptr b o) in let then : Option Known = Some v.value in
    suffices ! (Run (w ∷ [])) (runs_alike 𝓤 Run (λ i. ws i ++ [])) $
    enter ! 𝓣.C 𝓣.Λ fn (w ∷ []) Post $ alloc_all ! (λ l. pass_all ! refl (loose_good R Z LZ ghosts b o h fits, tt) $
    sets ! (of_opd ! (get_in ! (fld ! refl (stop !)) (sub ! 0 refl (whole !)))) refl (tt, tt) $
    sets ! (of_opd ! (get ! refl)) refl (tt, tt) $
    sets ! (agg ! (and_then ! (get ! refl) (no_more !))) refl (tt, (tt, tt)) $
    some_kept ! b o v.alloc v.value $ checking_in ! (block_ptr b o) (Some v.value) $
    use0 𝓛 (raw (fact 𝓤 (then ≡ Some v.value))) (fact_i 𝓤 (then ≡ Some v.value) (emp 𝓤) refl) $ nothing ! $ nothing ! $ fjoin ! $
    returns ! (look_at ! 0 refl) $ free_all ! refl $ keep ! (5 ∷ 0 ∷ 2 ∷ 1 ∷ []) $
    by ! (leaves 𝓛 f.ended stayed c z made (record { at = block_ptr b o; check = Some v.value }) (tt, tt) (tt, tt)))))

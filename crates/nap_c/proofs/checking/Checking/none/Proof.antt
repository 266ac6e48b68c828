-- `none` owns nothing at null.
use Rattle.nap_c.proofs.{ !, None, Option, [], agg, alloc_all, and_then, by, checking.Checking.none.Statement.statement, emp, enter, fact, fact_i, free_all, ftrue, keep, leaves, lit, lit<, look_at, no_more, nothing, null_ptr, owns, pass_all, proved_at, ptr_val, qed, raw, refl, returns, sets, split, tables, types_at, use0, walk_of, ‵, ◌$◌, ◌∵◌, ◌∷◌, ◌≡◌, ◌⊛◌}
use Rattle.nap_c.proofs.ValueLemmas.{Known, alone, checking_in, none_kept}
use Rattle.nap_c.specs.contracts.checking.Checking.none as f
use f.Key.{name as #self}
use Rattle.nap_c.proofs.checking.Checking.none.Code as code

pub none_spec : {M : Type 1} → statement M
none_spec 𝓤 𝓛 𝓜 𝓡 wired =
    let H = 𝓛.H in let 𝓣 = tables 𝓤 H 𝓜 𝓡 𝓡.env in let c = f.clauses 𝓛 𝓜.mem 𝓡.returns in let fn = code.function in
    proved_at 𝓛 f.ended tt c 𝓜 𝓡 tt #self fn (code.unfolded 𝓤 H 𝓜 𝓡 wired) (λ z are.
    let Post = (walk_of 𝓛 f.ended tt c).post z in let nowhere : Option Known = None in
    qed 𝓛 ((‵ ftrue ⊛ ‵ (owns (types_at f.ended.signature.params z.0.0) z.0.3 z.0.4)) ∷ raw ((c z.0.0 z.0.3).requires z.1) ∷ []) ∵ split ! $
    enter ! 𝓣.C 𝓣.Λ fn [] Post $ alloc_all ! (λ l. pass_all ! refl tt $
    sets ! (agg ! (and_then ! (lit ! tt) (no_more !))) refl (tt, (record { fits = lit< tt }, tt)) $
    none_kept ! $ checking_in ! null_ptr None $ use0 𝓛 (raw (fact 𝓤 (nowhere ≡ None))) (fact_i 𝓤 (nowhere ≡ None) (emp 𝓤) refl) $ nothing ! $
    returns ! (look_at ! 0 refl) $ free_all ! refl $ keep ! (3 ∷ 0 ∷ 2 ∷ 1 ∷ []) $ by ! (leaves 𝓛 f.ended tt c z (alone (ptr_val null_ptr)) (record { at = null_ptr; check = None }) tt tt)))

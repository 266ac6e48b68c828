-- The machine values of a `Checking` and of a `RawBox`, taken apart and put together.
use Rattle.nap_c.proofs.{Al, Good, Laws, List, Logic, None, Ptr, RattleType, RawPtr, SProp, Some, Testable, Val, Valss, WT, [], block_ptr, dnil, drop, ent, fact_use, feq_i, feq_l, fjoin, fpick, fsep, fsplit, fst∗, ftrue, ghosts, handle_tells, has_ty, id⊢, impl, in_a_block, layout, lies_at, lit<, move, never, nothing, null_ptr, of_list, ptr_val, refl, sem, subst, sym, tnil, ty_ptr, use1, vcons, vnil, vptr, vstruct, ‵, ℕ, ◌$◌, ◌++◌, ◌∷◌, ◌≡◌}
use mir.Raw.{raw as bare}
use base.Fraction.{full_share}
use Rattle.std.proofs.{GlobalToken.dealloc_token-Testable, ResultValues.and_tt}
use Rattle.std.specs.{declared.alloc.Global.Global, declared.option.Option.Option, declared.alloc.Allocator.Ghosts, Box.Ownership.box_owns}
use Rattle.nap_c.specs.Kept.{as_formula, box_at, page_at}
use mathlib.Core.Bool.{true, ◌&&◌}
use Rattle.nap_c.specs.contracts.pieces.Check as check
use Rattle.nap_c.specs.contracts.checking.Checking as checking
use Rattle.nap_c.specs.contracts.checking.RawBox as loose
use base.Logic.{guard, guard_i, snd∗, via}
use denote.{Memory.lone, Struct.Owning.shape, Struct.Struct.within}
use lib.Dec.{T}
use seplogic.Ra.Ura.{Ura}
use types.Kit.{Goal, Item, Seq, Step, fpack, given, learn, step}

abbrev pub Known : Type 0
Known = check.the_row.Denot

abbrev pub alone : Val → Val
alone v = vstruct (vcons v vnil)

-- a pointer is a value of its type
pub ptr_good : (p : Ptr) → T (has_ty ty_ptr (ptr_val p)) × WT (ptr_val p)
ptr_good (block_ptr b o) = (tt, tt)
ptr_good null_ptr = (tt, record { fits = lit< tt })

-- a run from equal values
pub runs_alike : {M : Type 1} (𝓤 : Ura M) (Run : List Val → SProp 𝓤) {vs ws : List Val} → vs ≡ ws → ent 𝓤 (Run ws) (Run vs)
runs_alike 𝓤 Run {vs} {ws} e = subst (λ us. ent 𝓤 (Run ws) (Run us)) (sym e) (id⊢ 𝓤 _)

module _ {M : Type 1} {𝓤 : Ura M} (𝓛 : Logic 𝓤) (a : Global) where
  -- the start of a block differs from null
  tested : (p : Ptr) (x : Known) → ent 𝓤 (sem 𝓛 (box_at a p x)) (guard 𝓤 (Testable p) (sem 𝓛 (box_at a p x)))
  tested p x =
      let σ = bare (lone (check.the_row).mir) in
      fact_use 𝓤 (Testable p)
      (via 𝓤 _ (snd∗ 𝓤 (sem 𝓛 (lies_at check.the_row full_share p x)) (sem 𝓛 (ghosts.dealloc_token a σ p))) (dealloc_token-Testable 𝓛 a σ p))
      (guard_i 𝓤 (Testable p) (sem 𝓛 (box_at a p x)))

module _ {M : Type 1} {𝓤 : Ura M} {𝓛 : Logic 𝓤} {K : Type 0} {Γ : List (Item 𝓤)} {G : Goal 𝓤 𝓛.H} where
  -- no page at null; else the box at the pointer
  pub kept_out : K → (p : Ptr) (c : Option Known) → (p ≡ null_ptr → c ≡ None → Seq K 𝓛 Γ G)
      → ((b o : ℕ) (a : Global) (x : Known) → p ≡ block_ptr b o → c ≡ Some x → Testable (block_ptr b o) → Seq K 𝓛 (‵ (box_at a (block_ptr b o) x) ∷ Γ) G)
      → Seq K 𝓛 (‵ (page_at p c) ∷ Γ) G
  kept_out t null_ptr c none one = fpick t (λ e. drop t $ none refl e)
  kept_out t (block_ptr b o) c none one = fpick t (λ x. fsplit t $ fpick t (λ e. drop t $
      use1 𝓛 (given (Testable (block_ptr b o)) (‵ (box_at x.0 (block_ptr b o) x.1))) (tested 𝓛 x.0 (block_ptr b o) x.1) $ learn t (λ may. one b o x.0 x.1 refl e may)))

  pub none_kept : K → Step K 𝓛 (‵ (page_at null_ptr None) ∷ Γ) G Γ G
  none_kept t = step (λ s. nothing t $ fpack t (None ≡ None) (λ _. ftrue) refl $ s)

  pub some_kept : K → (b o : ℕ) (a : Global) (x : Known) → Step K 𝓛 (‵ (page_at (block_ptr b o) (Some x)) ∷ Γ) G (‵ (box_at a (block_ptr b o) x) ∷ Γ) G
  some_kept t b o a x = step (λ s. nothing t $ fpack t (Some x ≡ Some x) (λ _. ftrue) refl $ fjoin t $
      fpack t (Global × Known) (λ y. fsep (as_formula (Some x ≡ Some y.1)) (box_at y.0 (block_ptr b o) y.1)) (a, x) $ s)

  pub checking_out : K → (d : checking.the_row.Denot) (vs : List Val)
      → (vs ≡ alone (ptr_val d.at) ∷ [] → Seq K 𝓛 (‵ (page_at d.at d.check) ∷ Γ) G) → Seq K 𝓛 (‵ (checking.the_row.own_val d vs) ∷ Γ) G
  checking_out t d vs k = fsplit t $ fpick t (λ vss. fsplit t $ feq_l t (λ ev. fsplit t $ feq_l t (λ ep. drop t $
      k (subst (λ ps. vs ≡ vstruct (of_list (ps ++ [])) ∷ []) ep ev))))

  pub checking_in : K → (p : Ptr) (c : Option Known)
      → Step K 𝓛 (‵ (checking.the_row.own_val (record { at = p; check = c }) (alone (ptr_val p) ∷ [])) ∷ Γ) G (‵ (page_at p c) ∷ Γ) G
  checking_in t p c = step (λ s. let v = alone (ptr_val p) in
      nothing t $ feq_i t (List Val) (ptr_val p ∷ []) (ptr_val p ∷ []) refl $ fjoin t $ feq_i t (List Val) (v ∷ []) (v ∷ []) refl $ fjoin t $
      fpack t (Valss (RawPtr ∷ [])) (within (shape checking.the_type) (p, tt) (v ∷ [])) (ptr_val p ∷ [], tt) $ fjoin t $ s)

abbrev pub both : Val → Val → Val
both v w = vstruct (vcons v (vcons w vnil))

module _ (R Z : RattleType) (L : Laws Z) (g : Ghosts Z.Denot) where
  abbrev pub Loose : RattleType
  Loose = loose.the_row R Z g

  abbrev al : Al
  al = record { row = Z; laws = L; g = g; d = impl [] tnil dnil; drops = impl [] tnil dnil }

  pub loose_good : (b o : ℕ) (h : Val) → Good (layout Z) h → T (has_ty (layout Z) h && true) × WT (both (vptr b o) h)
  loose_good b o h fits = (and_tt (has_ty (layout Z) h) fits.0, (tt, (fits.1, tt)))

  module _ {M : Type 1} {𝓤 : Ura M} {𝓛 : Logic 𝓤} {K : Type 0} {Γ : List (Item 𝓤)} {G : Goal 𝓤 𝓛.H} where
    pub loose_out : K → (d : Loose.Denot) (vs : List Val)
        → ((b o : ℕ) (h : Val) → d.at ≡ block_ptr b o → vs ≡ both (vptr b o) h ∷ [] → Good (layout Z) h → Seq K 𝓛 (‵ (box_owns (g.dealloc_token d.alloc) R (block_ptr b o) d.value) ∷ ‵ (Z.own_val d.alloc (h ∷ [])) ∷ Γ) G)
        → Seq K 𝓛 (‵ (Loose.own_val d vs) ∷ Γ) G
    loose_out t d vs k =
        fsplit t $ fpick t (λ vss. fsplit t $ feq_l t (λ ev. fsplit t $ feq_l t (λ ep. fsplit t $ handle_tells al t d.alloc vss.1.0 (λ h ea fits. move t (1 ∷ []) $ drop t $ move t (1 ∷ []) $
        in_a_block t d.at (λ p. box_owns (g.dealloc_token d.alloc) R p d.value) (fst∗ 𝓤 (never 𝓤) (sem 𝓛 (g.dealloc_token d.alloc (bare (lone R.mir)) null_ptr))) (λ b o e. k b o h e
        (subst (λ p. vs ≡ vstruct (of_list (ptr_val p ∷ h ∷ [])) ∷ []) e
        (subst (λ ws. vs ≡ vstruct (of_list (ptr_val d.at ∷ (ws ++ []))) ∷ []) ea (subst (λ ps. vs ≡ vstruct (of_list (ps ++ (vss.1.0 ++ []))) ∷ []) ep ev))) fits)))))

    pub loose_in : K → (b o : ℕ) (h : Val) (a : Z.Denot) (x : R.Denot)
        → Step K 𝓛 (‵ (Loose.own_val (record { at = block_ptr b o; alloc = a; value = x }) (both (vptr b o) h ∷ [])) ∷ Γ) G (‵ (box_owns (g.dealloc_token a) R (block_ptr b o) x) ∷ ‵ (Z.own_val a (h ∷ [])) ∷ Γ) G
    loose_in t b o h a x = step (λ s. let v = both (vptr b o) h in
        nothing t $ move t (2 ∷ 0 ∷ []) $ fjoin t $ feq_i t (List Val) (vptr b o ∷ []) (vptr b o ∷ []) refl $ fjoin t $ feq_i t (List Val) (v ∷ []) (v ∷ []) refl $ fjoin t $
        fpack t (Valss (RawPtr ∷ Z ∷ [])) (within (shape (loose.the_type R Z g)) (block_ptr b o, (a, tt)) (v ∷ [])) (vptr b o ∷ [], (h ∷ [], tt)) $ fjoin t $ s)

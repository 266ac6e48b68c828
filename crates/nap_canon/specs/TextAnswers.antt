use Rattle.std.specs.Prelude.{IfOk, IsErrOf, List, Result, Vec, ℕ, ◌↔◌, ◌≡◌}
use Rattle.nap_canon.specs.{Names.AllInRange, Names.Entry, Names.Global, Names.IsIllegalAt, Names.Legal, declared.text.CanonFault.CanonFault, declared.text.Form.Form, Laws.IsReadAs, Plain.IsPlain, Text.text_in}
use Rattle.nap_canon.specs.declared.text.CanonFault.TheVariants.{Illegal, Memory}

-- the answer for a list: its text in this form, which is plain and is read as the list; or where it isn't legal; or
-- lack of memory
pub record IsTextAnswer (form : Form) (es : List Entry) (r : Result (Vec ℕ Global) CanonFault) : Type 0 where
  pub illegal : (index : ℕ) → IsErrOf r (Illegal index) ↔ IsIllegalAt index es
  pub legal : IfOk r (λ bytes. Legal es)
  pub range : IfOk r (λ bytes. AllInRange es)
  pub text : IfOk r (λ bytes. bytes.items ≡ text_in form es)
  pub plain : IfOk r (λ bytes. IsPlain bytes.items)
  pub read_back : IfOk r (λ bytes. (budget : ℕ) → IsReadAs budget bytes.items es)
  pub memory : IsErrOf r Memory → Legal es

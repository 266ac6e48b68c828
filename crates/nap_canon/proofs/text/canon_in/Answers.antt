use Rattle.nap_canon.proofs.{Err, IsPlain, IsReadAs, IsTextAnswer, List, Memory, ReadingBack.text_is_plain, ReadingBack.text_is_read, Texts.illegal_nowhere, Texts.illegal_there, Texts.never_breaks, ap, err_from_is_err_and, refl, subst, sym, ℕ, ◌∙◌, ◌≡◌}
use Rattle.nap_canon.proofs.text.canon_in.Goals as goal

pub returns-in-Err : goal.returns-in-Err
returns-in-Err c = record {
  illegal = illegal_there c.args.entries.now c.in-Err.index c.in-Err.ensures.err;
  legal = tt;
  range = tt;
  text = tt;
  plain = tt;
  read_back = tt;
  memory = λ is. (cc);
}

pub returns-in_err-bytes : goal.returns-in_err-bytes
returns-in_err-bytes c =
    let p = err_from_is_err_and c.from_residual.result c.from_residual.ensures.1 in
    let is : c.from_residual.result ≡ Err Memory = p.1 ∙ ap Err p.2 in
    let all : IsTextAnswer c.args.form c.args.entries.now (Err Memory) = record {
      illegal = illegal_nowhere c.args.entries.now (Err Memory) (λ j was. cc) (never_breaks c.args.entries.now c.in_default.ensures.err);
      legal = tt;
      range = tt;
      text = tt;
      plain = tt;
      read_back = tt;
      memory = λ was. c.in_default.ensures.ok.0 refl;
    } in
    subst (IsTextAnswer c.args.form c.args.entries.now) (sym is) all

pub returns : goal.returns
returns c =
    let legal = c.in_default.ensures.ok.0 refl in
    let range = c.in_ok-bytes.ensures.range in
    let text = c.in_ok-bytes.ensures.text in
    record {
      illegal = illegal_nowhere c.args.entries.now _ (λ j is. cc) (never_breaks c.args.entries.now c.in_default.ensures.err);
      legal = legal;
      range = range;
      text = text;
      plain = subst IsPlain (sym text) (text_is_plain c.args.form c.args.entries.now legal.fit range);
      read_back = λ budget. subst (λ (bytes : List ℕ). IsReadAs budget bytes c.args.entries.now) (sym text) (text_is_read c.args.form budget c.args.entries.now legal range);
      memory = λ is. legal;
    }

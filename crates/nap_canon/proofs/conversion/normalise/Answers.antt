use Rattle.nap_canon.proofs.{IsPageText, arith, subst}
use Rattle.nap_canon.proofs.ReadingBack.{equal_texts, own_text, plain_text, read_as}
use Rattle.nap_canon.proofs.conversion.normalise.Goals as goal

pub returns-in-Ok-Ok : goal.returns-in-Ok-Ok
returns-in-Ok-Ok c =
    let budget = c.args.budget in
    let bytes = c.args.bytes.now in
    let text = c.in-Ok-Ok.found.text.items in
    let made = subst (IsPageText budget bytes) c.in-Ok-Ok.field-0-is c.in-Ok-Ok.ensures in
    let is = made.0 in
    record {
      canonical = rw c.in-Ok-Ok.field-0-is (is);
      plain = rw c.in-Ok-Ok.field-0-is (plain_text budget text bytes is);
      read_again = rw c.in-Ok-Ok.field-0-is (λ other. read_as budget other text bytes is);
      own = rw c.in-Ok-Ok.field-0-is (λ other. own_text budget other text bytes is);
      equal = rw c.in-Ok-Ok.field-0-is (λ other d q. equal_texts budget other text bytes d q is);
      refused = tt;
      memory = tt;
    }

pub returns-in-Ok-Err : goal.returns-in-Ok-Err
returns-in-Ok-Err c = grind arith

use Rattle.nap_c.proofs.{inl}
use Rattle.nap_c.proofs.call.canon_text.Goals as goal

pub returns-in-Ok-Ok : goal.returns-in-Ok-Ok
returns-in-Ok-Ok c = let k = rw c.in-Ok-Ok.field-0-is at c.in-Ok-Ok.ensures in record { accepted = k.0.accepted; text_is = k.0.text_is }

pub returns-in-Ok-Err : goal.returns-in-Ok-Err
returns-in-Ok-Err c = let k = rw c.in-Ok-Err.field-0-is at c.in-Ok-Err.ensures in record { refused = k.refused; memory = λ wants. inl (k.memory wants) }

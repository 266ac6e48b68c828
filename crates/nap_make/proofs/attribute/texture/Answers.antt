use Rattle.nap_make.proofs.ValueLemmas.{both_written, no_byte, no_first, no_second, none_alike, texture_pair, texture_parts, written_alike}
use Rattle.nap_make.proofs.attribute.texture.Goals as goal

pub returns-in_err-number : goal.returns-in_err-number
returns-in_err-number c = rw (c.from_residual.ensures) (none_alike texture_pair (no_byte texture_parts c.in_err-number.ensures))

pub returns-in_err-word : goal.returns-in_err-word
returns-in_err-word c = rw (c.from_residual-in_err-word.ensures) (none_alike texture_pair (no_first texture_parts c.in_ok-number.ensures c.in_err-word.ensures))

pub returns-in_err-mask : goal.returns-in_err-mask
returns-in_err-mask c = rw (c.from_residual-in_err-mask.ensures) (none_alike texture_pair (no_second texture_parts c.in_ok-number.ensures c.in_err-mask.ensures))

pub returns : goal.returns
returns c = written_alike texture_pair _ (both_written texture_parts c.in_ok-number.ensures c.in_ok-word.ensures c.in_ok-mask.ensures)

use Rattle.nap_make.proofs.ValueLemmas.{both_written, look_parts, look_triple, no_byte, no_first, no_second, none_alike, size_modes, written_alike}
use Rattle.nap_make.proofs.attribute.look.Goals as goal

pub returns-in_err-words : goal.returns-in_err-words
returns-in_err-words c = rw (c.from_residual.ensures) (none_alike look_triple (no_byte look_parts c.in_err-words.ensures))

pub returns-in_err-size : goal.returns-in_err-size
returns-in_err-size c = rw (c.from_residual-in_err-size.ensures) (none_alike look_triple (no_second look_parts c.in_ok-words.ensures (no_byte size_modes c.in_err-size.ensures)))

pub returns-in_err-first : goal.returns-in_err-first
returns-in_err-first c = rw (c.from_residual-in_err-first.ensures) (none_alike look_triple (no_first look_parts c.in_ok-words.ensures c.in_err-first.ensures))

pub returns-in_err-size-2 : goal.returns-in_err-size-2
returns-in_err-size-2 c = rw (c.from_residual-in_err-size-2.ensures) (none_alike look_triple (no_second look_parts c.in_ok-words.ensures (no_first size_modes c.in_ok-size.ensures c.in_err-size-2.ensures)))

pub returns-in_err-modes : goal.returns-in_err-modes
returns-in_err-modes c = rw (c.from_residual-in_err-modes.ensures) (none_alike look_triple (no_second look_parts c.in_ok-words.ensures (no_second size_modes c.in_ok-size.ensures c.in_err-modes.ensures)))

pub returns : goal.returns
returns c = written_alike look_triple _ (both_written look_parts c.in_ok-words.ensures c.in_ok-first.ensures (both_written size_modes c.in_ok-size.ensures c.in_ok-size-2.ensures c.in_ok-modes.ensures))

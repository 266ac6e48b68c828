-- The laws that crates above cite.
pub use Rattle.nap_codes.proofs.SpellingLaws.{code_is_spelled, code_ranges, one_byte_opcode, one_byte_operand, opcode_in_gl, refused_is_spelled, unfinished_is_prefix}
pub use Rattle.nap_codes.proofs.TableLemmas.{format_effector_front, format_effector_known}
pub use Rattle.nap_codes.proofs.FrontLemmas.{code_length, code_stays, code_taken, earlier_unfinished, refused_index, refused_stays, refused_taken, unfinished_before}
pub use Rattle.nap_codes.proofs.LexerLemmas.{front-nothing, lex_result-code, lex_result-fault, lex_result-front, on_code, on_fault, on_more, steps_are_lexed, with_code}

-- those that `auto` needs
pub ruleset laws = (code_is_spelled, code_length, code_ranges, code_stays, code_taken, earlier_unfinished, format_effector_front, format_effector_known, refused_index, refused_stays, refused_taken, steps_are_lexed, unfinished_before, unfinished_is_prefix)

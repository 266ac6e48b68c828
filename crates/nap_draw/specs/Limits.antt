use Rattle.std.specs.Prelude.{ℕ}

-- A limit of the profile (PROFILE.md, Limits). The law `limits` says that the constant in the code has this value.

-- the greatest number of operand bytes of one opcode
abbrev pub run_limit : ℕ
run_limit = 16384

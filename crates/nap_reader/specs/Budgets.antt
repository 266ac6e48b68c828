use Rattle.std.specs.Prelude.{ℕ}

-- The number of bytes of bodies that one reading may be charged with (PROFILE.md, Macros).

-- the greatest budget that can be chosen
abbrev pub most_budget : ℕ
most_budget = 67108864

-- the usual budget
abbrev pub usual_budget : ℕ
usual_budget = 1048576

use Rattle.std.specs.Prelude.{ℕ}

-- The limits of the profile (PROFILE.md, Limits). The law `limits` says that the constants in the code have these
-- values.

-- the greatest number of points of an arc or polygon, its start included
abbrev pub points_limit : ℕ
points_limit = 2001

-- the greatest number of displacements of an arc or polygon
abbrev pub steps_limit : ℕ
steps_limit = 2000

-- the greatest number of reads of one input
abbrev pub reads_limit : ℕ
reads_limit = 1048576

-- the greatest number of bytes of one read
abbrev pub read_limit : ℕ
read_limit = 65536

-- the greatest number of known colours
abbrev pub known_limit : ℕ
known_limit = 16

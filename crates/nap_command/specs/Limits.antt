-- The limits of the profile for requests. The law `limits` says that the constants in the code have these values.

-- the greatest number of bytes of a request's line, without LF
use Rattle.std.specs.Prelude.{ℕ}

abbrev pub request_line_limit : ℕ
request_line_limit = 24

-- the greatest number of bytes of a page
abbrev pub page_limit : ℕ
page_limit = 16777216

-- the greatest number of requests of one run
abbrev pub requests_limit : ℕ
requests_limit = 4398046511104

use Rattle.std.specs.Str.Parse.{IsNumeral, digits_value}
use Rattle.nap_reader.specs.Budgets.{most_budget}
use Rattle.nap_make.specs.{Cutting.SplitsAtByte, Numbers.digits_limit}
use Rattle.nap_command.specs.{declared.batch.request.RequestFront.RequestFront, Types.Question, Types.RequestLine, Limits.request_line_limit, Limits.page_limit}
use Rattle.std.specs.Prelude.{All, List, codes, length, ℕ, ◌++◌, ◌+◌, ◌<◌, ◌∷◌, ◌≡◌, ◌≢◌, ◌≤◌, ◌⊎◌}

-- at most eight decimal digits write this number, which is at most `most`
pub record IsNumber (most : ℕ) (digits : List ℕ) (n : ℕ) : Type 0 where
  pub numeral : IsNumeral 10 digits
  pub few : length digits ≤ digits_limit
  pub value : digits_value 10 digits ≡ n
  pub within : n ≤ most

abbrev pub question_name : Question → List ℕ
question_name Question.Check = codes "check"
question_name Question.List = codes "list"
question_name Question.Canon = codes "canon"
question_name Question.Places = codes "places"
question_name Question.Make = codes "make"
question_name Question.Find = codes "find"

-- the line of a request, without LF
pub record IsLine (line : List ℕ) (r : RequestLine) : Type 0 where
  pub budget_digits : List ℕ
  pub size_digits : List ℕ
  pub line_is : line ≡ question_name r.question ++ 32 ∷ (budget_digits ++ 32 ∷ size_digits)
  pub budget : IsNumber most_budget budget_digits r.budget
  pub size : IsNumber page_limit size_digits r.size

abbrev pub line_for : Question → ℕ → List ℕ → RequestLine
line_for q budget page = record { question = q; budget = budget; size = length page }

-- a request: its line and its page
pub record IsRequest (bytes : List ℕ) (q : Question) (budget : ℕ) (page : List ℕ) : Type 0 where
  pub line : List ℕ
  pub says : IsLine line (line_for q budget page)
  pub bytes_are : bytes ≡ line ++ 10 ∷ page

-- the bytes begin with no complete request
abbrev pub StartsNone : List ℕ → Type 0
StartsNone bytes = (asked following : List ℕ) (q : Question) (budget : ℕ) (page : List ℕ) → IsRequest asked q budget page → bytes ≡ asked ++ following → ⊥

-- the bytes, with whatever follows them, begin with no complete request
abbrev pub NeverStarts : List ℕ → Type 0
NeverStarts bytes = (more : List ℕ) → StartsNone (bytes ++ more)

-- the bytes begin with a complete request: its line with LF has n bytes, and its page follows
pub record IsWhole (bytes : List ℕ) (r : RequestLine) (n : ℕ) : Type 0 where
  pub line : List ℕ
  pub following : List ℕ
  pub cut : SplitsAtByte 10 bytes line following
  pub says : IsLine line r
  pub start : n ≡ length line + 1
  pub enough : r.size ≤ length following

-- the bytes begin with a request that lacks the last n bytes of its page
pub record IsCutShort (bytes : List ℕ) (n : ℕ) : Type 0 where
  pub line : List ℕ
  pub following : List ℕ
  pub request : RequestLine
  pub cut : SplitsAtByte 10 bytes line following
  pub says : IsLine line request
  pub missing : length following + n ≡ request.size
  pub some : 0 < n

-- the bytes have no LF, and are no more than a line may have
pub record IsOpen (bytes : List ℕ) : Type 0 where
  pub none : All (λ b. b ≢ 10) bytes
  pub few : length bytes ≤ request_line_limit

-- the bytes begin with an incomplete request: its line has no LF yet, or its page lacks bytes
abbrev pub IsBegun : List ℕ → Type 0
IsBegun bytes = IsOpen bytes ⊎ ((n : ℕ) × IsCutShort bytes n)

-- the bytes begin with an incomplete request: its page lacks n bytes, or its line has no LF yet and n is 0
pub record IsMore (bytes : List ℕ) (n : ℕ) : Type 0 where
  pub endless : n ≡ 0 → IsOpen bytes
  pub short : n ≢ 0 → IsCutShort bytes n

-- what the bytes begin with: a complete request, an incomplete one, or none whatever follows
abbrev pub IsFront : List ℕ → RequestFront → Type 0
IsFront bytes (RequestFront.Whole r n) = IsWhole bytes r n
IsFront bytes (RequestFront.More n) = IsMore bytes n
IsFront bytes RequestFront.Wrong = NeverStarts bytes

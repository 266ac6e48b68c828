use Rattle.nap_command.proofs.{All, All-append, All-cons, All-nil, AllDigits, BegunRequestsAreNone, Buffered, Consumes, Consumes-trans, Ended, Err, FoundRequest, IsAtEnd, IsWhole, Keeps, KeepsWithin, List, None, NoneFailed, Ok, Option, Question, ReadStep, Reading, ReadingEnds, RequestLine, RequestsAreCutOneWay, Result, Some, SplitsAtByte, Stop, TakesMemory, [], ap, append-nil, append_assoc, arith, cases_lt, digit_from_value, drop, drop_at, inl, inr, length, length-append, length-take-le, max, memory_for, most_budget, nil_from_length, page_limit, read_limit, reading, reads_limit, refl, subst, suc, sym, take, take-append-add, take-append-drop, take-append-le, take_at, zero, ℕ, ◌++◌, ◌+◌, ◌-◌, ◌<◌, ◌∙◌, ◌∷◌, ◌≡◌, ◌≢◌, ◌≤◌}
use Rattle.nap_make.proofs.PublicLaws.{no_cut, one_cut}
use Rattle.nap_list.specs.declared.device.Inlet as inlet
use Rattle.nap_command.specs.Requests.{IsBegun, IsCutShort, IsLine, IsMore, IsNumber, IsRequest, NeverStarts, StartsNone, line_for, question_name}
use Rattle.nap_command.specs.Waiting.{FindsRequest, IsFound, IsLast, IsSkipped, IsStep, ReadsOn, Skips, TakesStep, end_of}

-- The requests that bytes begin with, and how the bytes are read.

-- a list is split at the first byte of a value in one way
cut_once : {b : ℕ} {xs f k g l : List ℕ} → SplitsAtByte b xs f k → SplitsAtByte b xs g l → (f ≡ g) × (k ≡ l)
cut_once one two = one_cut _ _ _ _ _ one.first two.first (sym one.joins ∙ two.joins)

-- Names and digits contain no space and no byte below it.

abbrev Above : List ℕ → Type 0
Above [] = Unit {0}
Above (x ∷ xs) = (32 < x) × Above xs

apart : (b : ℕ) (xs : List ℕ) → b ≤ 32 → Above xs → All (λ x. x ≢ b) xs
apart b [] least above = All-nil (λ x. x ≢ b)
apart b (x ∷ xs) least above = All-cons (λ y. y ≢ b) x xs (omega arith) (apart b xs least above.1)

name_above : (c : Question) → Above (question_name c)
name_above c = grind arith

digits_above : (ds : List ℕ) → AllDigits 10 ds → Above ds
digits_above [] all = tt
digits_above (d ∷ ds) all = let range = digit_from_value d all.0 in (omega (arith, range.0), digits_above ds all.1)

name_short : (c : Question) → length (question_name c) ≤ 6
name_short c = grind arith

-- The parts of a line that was split twice are those of the request.
pub record Parts (h : RequestLine) (name budget_digits size_digits : List ℕ) : Type 0 where
  pub name_is : name ≡ question_name h.question
  pub budget : IsNumber most_budget budget_digits h.budget
  pub size : IsNumber page_limit size_digits h.size

module _ {line : List ℕ} {h : RequestLine} (is : IsLine line h) where
  abbrev numbers : List ℕ
  numbers = is.budget_digits ++ 32 ∷ is.size_digits

  -- The splits of a request's line.

  first_cut : SplitsAtByte 32 line (question_name h.question) numbers
  first_cut = record { joins = is.line_is; first = apart 32 (question_name h.question) (omega arith) (name_above h.question) }

  second_cut : SplitsAtByte 32 numbers is.budget_digits is.size_digits
  second_cut = record { joins = refl; first = apart 32 is.budget_digits (omega arith) (digits_above is.budget_digits is.budget.numeral.1) }

  pub parts_of : {name others budget size : List ℕ} → SplitsAtByte 32 line name others → SplitsAtByte 32 others budget size → Parts h name budget size
  parts_of one two =
      let a = cut_once one first_cut in
      let b = cut_once two (rw a.1 second_cut) in
      record { name_is = a.0; budget = rw b.0 is.budget; size = rw b.1 is.size }

  -- a line without two spaces is no request's
  pub no_second : {name others : List ℕ} → SplitsAtByte 32 line name others → ((front back : List ℕ) → SplitsAtByte 32 others front back → ⊥) → ⊥
  no_second one none = none is.budget_digits is.size_digits (rw (cut_once one first_cut).1 second_cut)

  -- it contains no LF
  line_end : All (λ x. x ≢ 10) line
  line_end =
      let size = apart 10 is.size_digits (omega arith) (digits_above is.size_digits is.size.numeral.1) in
      let budget = apart 10 is.budget_digits (omega arith) (digits_above is.budget_digits is.budget.numeral.1) in
      let P : ℕ → Type 0 = λ x. x ≢ 10 in
      rw is.line_is
      (All-append P (question_name h.question) (32 ∷ numbers) (apart 10 (question_name h.question) (omega arith) (name_above h.question))
      (All-cons P 32 numbers (omega arith) (All-append P is.budget_digits (32 ∷ is.size_digits) budget (All-cons P 32 is.size_digits (omega arith) size))))

  line_short : length line ≤ 24
  line_short =
      let budget : length is.budget_digits ≤ 8 = is.budget.few in
      let size : length is.size_digits ≤ 8 = is.size.few in
      omega (arith, ap length is.line_is, length-append (question_name h.question) (32 ∷ numbers), length-append is.budget_digits (32 ∷ is.size_digits), name_short h.question, budget, size)

-- a request is split at the LF after its line
line_cut : {asked page all : List ℕ} {c : Question} {budget : ℕ} (following : List ℕ) (is : IsRequest asked c budget page) → all ≡ asked ++ following → SplitsAtByte 10 all is.line (page ++ following)
line_cut following is same = record { joins = same ∙ ap (◌++ following) is.bytes_are ∙ append_assoc is.line _ following; first = line_end is.says }

-- a split of bytes is one of more bytes
cut_stays : {b : ℕ} {xs front back : List ℕ} (more : List ℕ) → SplitsAtByte b xs front back → SplitsAtByte b (xs ++ more) front (back ++ more)
cut_stays more cut = record { joins = ap (◌++ more) cut.joins ∙ append_assoc _ _ more; first = cut.first }

-- bytes whose line is no request's never begin with a request
pub wrong_line : {buffered line following : List ℕ} → SplitsAtByte 10 buffered line following → ((h : RequestLine) → IsLine line h → ⊥) → NeverStarts buffered
wrong_line cut none more asked rest c budget page is same = none (line_for c budget page) (rw (cut_once (cut_stays more cut) (line_cut rest is same)).0 is.says)

names_apart : (c d : Question) → question_name c ≡ question_name d → c ≡ d
names_apart c d is = grind arith

-- a line is that of one request
one_request : {line : List ℕ} {h k : RequestLine} → IsLine line h → IsLine line k → (h.question ≡ k.question) × (h.budget ≡ k.budget) × (h.size ≡ k.size)
one_request {h} {k} one two =
    let parts = parts_of two (first_cut one) (second_cut one) in
    (names_apart h.question k.question parts.name_is, sym one.budget.value ∙ parts.budget.value, sym one.size.value ∙ parts.size.value)

-- a line is that of a request with a page of its size
with_page : {line : List ℕ} {h : RequestLine} (page : List ℕ) → IsLine line h → h.size ≡ length page → IsLine line (line_for h.question h.budget page)
with_page {line} {h} page says size = subst (λ n. IsLine line (record h { size = n })) size says

-- Bytes that lack the end of a page.
module _ {bytes : List ℕ} {n : ℕ} (h : IsCutShort bytes n) where
  -- they begin with no complete request
  short_front : StartsNone bytes
  short_front asked rest c budget page is same =
      let once = cut_once h.cut (line_cut rest is same) in
      let size = (one_request h.says (rw (← once.0) at is.says)).2 in
      omega (arith, size, h.missing, h.some, ap length once.1, length-append page rest)

  pub is_more : IsMore bytes n
  is_more = record { endless = λ none. absurd (omega (arith, none, h.some)); short = λ _. h }

  module _ (more : List ℕ) where
    -- they aren't empty
    some_front : bytes ++ more ≢ []
    some_front none = omega (arith, ap length none, length-append bytes more, ap length h.cut.joins, length-append h.line (10 ∷ h.following))

    -- with fewer more bytes they still lack some
    still_short : length more < n → IsCutShort (bytes ++ more) (n - length more)
    still_short less = record {
      line = h.line;
      following = h.following ++ more;
      request = h.request;
      cut = cut_stays more h.cut;
      says = h.says;
      missing = omega (arith, h.missing, less, length-append h.following more);
      some = omega (arith, less);
    }

    -- with as many they are a request
    made_whole : length more ≡ n → IsRequest (bytes ++ more) h.request.question h.request.budget (h.following ++ more)
    made_whole all = record {
      line = h.line;
      says = with_page (h.following ++ more) h.says (omega (arith, h.missing, all, length-append h.following more));
      bytes_are = (cut_stays more h.cut).joins;
    }

pub more_begun : (bytes : List ℕ) (n : ℕ) → IsMore bytes n → IsBegun bytes
more_begun bytes zero h = inl (h.endless refl)
more_begun bytes (suc n) h = inr (suc n, h.short (omega arith))

-- The complete request that bytes begin with, and what follows it.
module _ {bytes : List ℕ} {h : RequestLine} {n : ℕ} (whole : IsWhole bytes h n) where
  abbrev front : List ℕ
  front = whole.line ++ 10 ∷ []

  abbrev page_of : List ℕ
  page_of = take h.size whole.following

  begun : bytes ≡ front ++ whole.following
  begun = whole.cut.joins ∙ sym (append_assoc whole.line (10 ∷ []) whole.following)

  start : length front ≡ n
  start = omega (arith, whole.start, length-append whole.line (10 ∷ []))

  pub page_is : take h.size (drop n bytes) ≡ page_of
  page_is = ap (take h.size) (ap (drop n) begun ∙ drop_at front whole.following n start)

  pub whole_request : IsRequest (take (n + h.size) bytes) h.question h.budget page_of
  whole_request = record {
    line = whole.line;
    says = with_page page_of whole.says (sym (length-take-le h.size whole.following whole.enough));
    bytes_are =
        ap (take (n + h.size)) begun ∙ ap (λ k. take (k + h.size) (front ++ whole.following)) (sym start) ∙ take-append-add front whole.following h.size
        ∙ append_assoc whole.line (10 ∷ []) page_of;
  }

pub begun_requests_are_none : BegunRequestsAreNone
begun_requests_are_none bytes (inl endless) asked following c budget page is same = no_cut 10 bytes is.line (page ++ following) endless.none (line_cut following is same).joins
begun_requests_are_none bytes (inr short) asked following c budget page is same = short_front short.1 asked following c budget page is same

-- a list that begins with one that is no longer
front_of : (xs more ys rest : List ℕ) → xs ++ more ≡ ys ++ rest → length ys ≤ length xs → xs ≡ ys ++ drop (length ys) xs
front_of xs more ys rest same less =
    let front : take (length ys) xs ≡ ys = sym (take-append-le (length ys) xs more less) ∙ ap (take (length ys)) same ∙ take_at ys rest (length ys) refl in
    sym (take-append-drop (length ys) xs) ∙ ap (◌++ drop (length ys) xs) front

-- bytes without LF that are longer than a line
pub long_line : (buffered : List ℕ) → ((front back : List ℕ) → SplitsAtByte 10 buffered front back → ⊥) → 24 < length buffered → NeverStarts buffered
long_line buffered none long more asked rest c budget page is same =
    let cut = line_cut rest is same in
    let front = is.line ++ 10 ∷ [] in
    let found = front_of buffered more front (page ++ rest) (cut.joins ∙ sym (append_assoc is.line (10 ∷ []) (page ++ rest)))
    (omega (arith, line_short is.says, long, length-append is.line (10 ∷ []))) in
    none is.line (drop (length front) buffered) (record { joins = found ∙ append_assoc is.line (10 ∷ []) (drop (length front) buffered); first = cut.first })

-- Bytes are split into requests in one way.
pub requests_are_cut_one_way : RequestsAreCutOneWay
requests_are_cut_one_way asked other following rest c d b e page paper one two same =
    let once = cut_once (line_cut following one refl) (line_cut rest two same) in
    let parts = one_request one.says (rw (← once.0) at two.says) in
    let front : page ≡ paper =
    sym (take_at page following (length page) refl) ∙ ap (take (length page)) once.1 ∙ take_at paper rest (length page) (sym parts.2) in
    (one.bytes_are ∙ ap (◌++ 10 ∷ page) once.0 ∙ ap (λ xs. two.line ++ 10 ∷ xs) front ∙ sym two.bytes_are, parts.0, parts.1, front)

-- A read takes no more memory than the request in work and one read need.

-- Bytes that begin with an incomplete request, and the request that they begin with what follows them.
module _ (bytes rest : List ℕ) {asked : List ℕ} (following : List ℕ) {q : Question} {budget : ℕ} {page : List ℕ} (is : IsRequest asked q budget page) (same : bytes ++ rest ≡ asked ++ following) where
  shorter : (n : ℕ) → IsMore bytes n → length bytes < length asked
  shorter n more =
      elim (cases_lt (length bytes) (length asked)) [
        | inl less ↦ less
        | inr long ↦ absurd (begun_requests_are_none bytes (more_begun bytes n more) _ _ _ _ _ is (front_of bytes rest asked following same long))
      ]

  -- all of a page that lacks bytes is the page of the request
  whole_length : (n : ℕ) → IsCutShort bytes n → length bytes + n ≡ length asked
  whole_length n short =
      elim (cases_lt (length rest) n) [
        | inl few ↦ absurd (short_front (still_short short rest few) _ _ _ _ _ is same)
        | inr enough ↦
            let size = length-take-le n rest enough in
            let cut : asked ++ following ≡ (bytes ++ take n rest) ++ drop n rest =
            sym same ∙ ap (bytes ++◌) (sym (take-append-drop n rest)) ∙ sym (append_assoc bytes (take n rest) (drop n rest)) in
            let all = (requests_are_cut_one_way _ _ following (drop n rest) _ _ _ _ _ _ is (made_whole short (take n rest) size) cut).0 in
            omega (arith, ap length all, length-append bytes (take n rest), size)
      ]

  needed_within : (n : ℕ) → IsMore bytes n → memory_for (length bytes) n ≤ length asked + read_limit
  needed_within zero more = omega (arith, shorter zero more)
  needed_within (suc n) more = omega (arith, shorter (suc n) more, whole_length (suc n) (more.short (omega arith)))

-- the memory that a read takes
takes_within : (bytes more : List ℕ) (n old new : ℕ) → IsMore bytes n → new ≡ max old (memory_for (length bytes) n) → KeepsWithin (bytes ++ more) old new
takes_within bytes more n old new short is rest asked following q budget page asks same =
    omega (arith, is, needed_within bytes (more ++ rest) following asks (sym (append_assoc bytes more rest) ∙ same) n short)

-- memory that stays as it is
pub stays_within : {old new : ℕ} (bytes : List ℕ) → new ≡ old → KeepsWithin bytes old new
stays_within bytes is rest asked following q budget page asks same = omega (arith, is)

-- The bytes of requests are read until one is complete, or none can be.

-- a reading that ends in the same way, with the same bytes left
pub stops_alike : (a b : Reading) (rest : List ℕ) (end : Ended) → b.left ≡ a.left → b.failed ≡ a.failed → b.failed_before ≡ a.failed_before → ReadingEnds a rest end → ReadingEnds b rest end
stops_alike a b rest Ended.Done left failed before h = (h.0, rw left h.1, failed ∙ h.2 ∙ sym before)
stops_alike a b rest Ended.Request left failed before (inl never, none) = (inl never, failed ∙ none ∙ sym before)
stops_alike a b rest Ended.Request left failed before (inr end, none) = (inr (end.0, end.1, rw left end.2), failed ∙ none ∙ sym before)
stops_alike a b rest Ended.Read left failed before (none, inl bad) = (none, inl (failed ∙ bad))
stops_alike a b rest Ended.Read left failed before (none, inr often) = (none, inr (often.0, failed ∙ often.1 ∙ sym before))
stops_alike a b rest _ left failed before h = absurd h

-- the input ended before these bytes
ends_there : (seen : Reading) (rest : List ℕ) → IsBegun rest → IsAtEnd seen.left → NoneFailed seen → ReadingEnds seen rest (end_of rest)
ends_there seen [] none end works = (refl, end, works)
ends_there seen (b ∷ rest) none end works = (inr (λ h. cc, none, end), works)

keeps_all : (a b : Option (List ℕ)) → Keeps a b → Consumes a b []
keeps_all None b h = tt
keeps_all (Some xs) None h = h
keeps_all (Some xs) (Some ys) h = sym h

-- the input ended during the end of a page, which was dropped
stops_amid : (seen : Reading) {old : List ℕ} {n : ℕ} (bytes : List ℕ) (most : ℕ) (end : Ended) → IsCutShort old n → reads_limit ≤ most + length old → Skips n most seen bytes (Err end) →
    ReadingEnds seen (old ++ bytes) end
stops_amid seen bytes most Ended.Request short few (less, end, works) = (inr (some_front short bytes, inr (_, still_short short bytes less), end), works)
stops_amid seen bytes most Ended.Read short few (less, inl bad) = (inr (_, still_short short bytes less), inl bad)
stops_amid seen {old} bytes most Ended.Read short few (less, inr (often, works)) =
    (inr (_, still_short short bytes less), inr (omega (arith, often, few, length-append old bytes), works))
stops_amid seen bytes most _ short few h = absurd h

-- One read, with n bytes of a page missing.
module _ {I : Type 0} (i : inlet.Ghosts I) (old : Buffered) (n : ℕ) (more : IsMore old.bytes n) (before : I) where
  abbrev needed : ℕ
  needed = memory_for (length old.bytes) n

  module _ (new : Buffered) (after : I) (memory : new.memory ≡ max old.memory needed) where
    step_by : (r : Result ReadStep Ended) (piece : List ℕ) → Consumes (i.left before) (i.left after) piece → TakesStep (reading i before after) old new piece r → IsStep i old new before after r
    step_by r piece read steps = record { bytes = piece; read = read; steps = steps; keeps = takes_within old.bytes piece n old.memory new.memory more memory }

    pub ends_step : ReadsOn i old.bytes new.bytes before after (Ok 0) → IsStep i old new before after (Err (end_of new.bytes))
    ends_step (piece, read, is, size, end, works) =
        step_by (Err (end_of new.bytes)) piece read
        (rw (is, nil_from_length piece size, append-nil old.bytes) (ends_there (reading i before after) old.bytes (more_begun old.bytes n more) (end refl) works))

    pub longer_step : (k : ℕ) → k ≢ 0 → ReadsOn i old.bytes new.bytes before after (Ok k) → IsStep i old new before after (Ok ReadStep.Longer)
    longer_step k some (piece, read, is, size, end, works) = step_by _ piece read (is, omega (arith, size, some), works)

    pub fails_step : ReadsOn i old.bytes new.bytes before after (Err Stop.Read) → IsStep i old new before after (Err Ended.Read)
    fails_step (same, keeps, failed) = step_by (Err Ended.Read) [] (keeps_all (i.left before) (i.left after) keeps) (rw (append-nil old.bytes) (more_begun old.bytes n more, inl failed))

  -- the line of a request doesn't lack memory
  some_lack : (m : ℕ) → TakesMemory needed old.memory m (Err Stop.Memory) → n ≢ 0
  some_lack m (same, least, less) none = absurd (omega (arith, none, least, less, (more.endless none).few))

  -- The end of the page is skipped.
  module _ (most m : ℕ) (buffered : List ℕ) (mid after : I) (lacks : ReadsOn i old.bytes buffered before mid (Err Stop.Memory)) (takes : TakesMemory needed old.memory m (Err Stop.Memory)) (new : Buffered)
      (emptied : new ≡ record { bytes = []; memory = m }) where
    skipped : (r : Result (Unit {0}) Ended) → IsSkipped i n most mid after r → IsSkipped i n most before after r
    skipped r h = rw lacks.1 at h

    memory : new.memory ≡ m
    memory = ap (λ b. b.memory) emptied

    short : IsCutShort old.bytes n
    short = more.short (some_lack m takes)

    pub drops_step : (x : Unit {0}) → IsSkipped i n most mid after (Ok x) → IsStep i old new before after (Ok ReadStep.Dropped)
    drops_step x is =
        let h = skipped (Ok x) is in
        record {
          bytes = h.bytes;
          read = h.read;
          steps = (
            record {
              empty = ap (λ b. b.bytes) emptied;
              asked = (short.request.question, short.request.budget, short.following ++ h.bytes, made_whole short h.bytes h.skips.0);
              lacked = omega (arith, memory, takes.0, takes.2, h.skips.0, length-append old.bytes h.bytes);
            },
            h.skips.1,
          );
          keeps = stays_within (old.bytes ++ h.bytes) (memory ∙ takes.0);
        }

    pub stops_step : (end : Ended) → reads_limit ≤ most + length old.bytes → IsSkipped i n most mid after (Err end) → IsStep i old new before after (Err end)
    stops_step end few is =
        let h = skipped (Err end) is in
        record {
          bytes = h.bytes;
          read = h.read;
          steps = stops_amid (reading i before after) h.bytes most end short few h.skips;
          keeps = stays_within (old.bytes ++ h.bytes) (memory ∙ takes.0);
        }

-- Bytes were appended to the buffered ones, and none of these reads failed.
module _ {I : Type 0} (i : inlet.Ghosts I) (old buffered : Buffered) (bytes : List ℕ) (before mid : I) (read : Consumes (i.left before) (i.left mid) bytes)
    (is : buffered.bytes ≡ old.bytes ++ bytes) (works : i.failed mid ≡ i.failed before) (keeps : KeepsWithin buffered.bytes old.memory buffered.memory) where
  pub finds_now : (r : Result FoundRequest Ended) → FindsRequest (reading i before mid) (old.bytes ++ bytes) buffered r → IsFound i old buffered before mid r
  finds_now r h = record { bytes = bytes; read = read; finds = h; keeps = rw is at keeps }

  -- what the bytes begin with after the last read
  last_found : (r : Result FoundRequest Ended) → reads_limit ≤ length bytes → IsLast buffered.bytes r → FindsRequest (reading i before mid) (old.bytes ++ bytes) buffered r
  last_found (Ok (FoundRequest.Whole line start)) many h = (is, rw is at h, works)
  last_found (Err Ended.Request) many h = (inl (rw is at h), works)
  last_found (Err Ended.Read) many h = (rw is at h, inr (omega (arith, many, length-append old.bytes bytes), works))
  last_found _ many h = absurd h

  pub finds_last : (r : Result FoundRequest Ended) → reads_limit ≤ length bytes → IsLast buffered.bytes r → IsFound i old buffered before mid r
  finds_last r many h = finds_now r (last_found r many h)

  joins : (more : List ℕ) → buffered.bytes ++ more ≡ old.bytes ++ (bytes ++ more)
  joins more = ap (◌++ more) is ∙ append_assoc old.bytes bytes more

  kept_on : (more : List ℕ) (m : ℕ) → KeepsWithin (buffered.bytes ++ more) buffered.memory m → KeepsWithin (buffered.bytes ++ more) old.memory m
  kept_on more m late rest asked following q budget page asks same =
      omega (arith, late rest asked following q budget page asks same, keeps (more ++ rest) asked following q budget page asks (sym (append_assoc buffered.bytes more rest) ∙ same))

  module _ (new : Buffered) (after : I) where
    pub longer : IsStep i buffered new mid after (Ok ReadStep.Longer) → KeepsWithin new.bytes old.memory new.memory
    longer h = rw h.steps.0 (kept_on h.bytes new.memory h.keeps)

    finds_on : (r : Result FoundRequest Ended) (more : List ℕ) → Consumes (i.left mid) (i.left after) more → KeepsWithin (buffered.bytes ++ more) buffered.memory new.memory →
        FindsRequest (reading i before after) (old.bytes ++ (bytes ++ more)) new r → IsFound i old new before after r
    finds_on r more further keep h =
        record { bytes = bytes ++ more; read = Consumes-trans (i.left before) (i.left mid) (i.left after) bytes more read further; finds = h; keeps = rw (joins more) at (kept_on more new.memory keep) }

    pub finds_end : (end : Ended) → IsStep i buffered new mid after (Err end) → IsFound i old new before after (Err end)
    finds_end end h =
        finds_on (Err end) h.bytes h.read h.keeps
        (rw (joins h.bytes) at (stops_alike (reading i mid after) (reading i before after) (buffered.bytes ++ h.bytes) end refl refl (sym works) h.steps))

    pub finds_dropped : IsStep i buffered new mid after (Ok ReadStep.Dropped) → IsFound i old new before after (Ok FoundRequest.Dropped)
    finds_dropped h = finds_on (Ok FoundRequest.Dropped) h.bytes h.read h.keeps (rw (joins h.bytes) at h.steps.0, h.steps.1 ∙ works)

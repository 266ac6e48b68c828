use Rattle.nap_reader.proofs.{Bool, Err, IsSome, List, MatchResult, None, Placed, ReadsFurther, ReadsTo, Some, StopsFrom, [], ap, arith, begins_piece, err_from_is_err_and, false, has_read_past_stop, is_some, length, length-next, next_bytes, position_of, refl, refusal, refusal_of, rules, stays, subst, sym, takes_piece, true, unread_of, unrefused, ◌+◌, ◌-◌, ◌∙◌, ◌≡◌, ◌≢◌}
use Rattle.nap_reader.proofs.reader.Reader.feed.Goals as goal
use Rattle.nap_reader.proofs.reader.Reader.feed.Goals.{After-read}

pub returns-in-Some-clause-has_read : goal.returns-in-Some-clause-has_read
returns-in-Some-clause-has_read g c s p h = stays c.args.self.now c.in-Some.refusal c.in-Some.is s p c.args.piece.now h

pub read-requires-clause-live : goal.read-requires-clause-live
read-requires-clause-live g c = record { live = c.in_default.is; agrees = c.args.self.now.agrees c.in_default.is }

pub read-requires-clause-rested : goal.read-requires-clause-rested
read-requires-clause-rested g c = c.args.self.now.rested c.in_default.is

not_failed : (b : Bool) → b ≢ true → b ≡ false
not_failed true other = absurd (other refl)
not_failed false other = refl

-- a refused reader keeps its refusal
was_refused : (g : _) (c : After-read g) (e : _) → c.read.result ≡ Err e → IsSome c.read.new.self.refusal
was_refused g c e is =
    let begin = record c.args.self.now.input { at = 0 } in
    ap is_some (subst (λ r. MatchResult r (λ _. ReadsFurther {S = g.row.S.Denot} {g = g.S.Sink} c.args.piece.now c.args.self.now.machine begin c.read.new.self c.read.new.input × (next_bytes c.read.new.input c.args.piece.now ≡ []))
    (λ _. StopsFrom {S = g.row.S.Denot} {g = g.S.Sink} c.args.piece.now c.args.self.now.machine begin c.read.new.self c.read.new.input)) is c.read.ensures.reads).1

pub invariant_of-self : goal.invariant_of-self
invariant_of-self g c =
    let gone = was_refused g (goal.at.invariant_of-self g c).After-read in
    record {
      rested = λ none. unrefused c.read.result c.read.new.self.refusal c.read.ensures.rests gone none;
      agrees = λ none. (unrefused c.read.result c.read.new.self.refusal c.read.ensures.live gone none).agrees;
    }

pub kept_refusal-requires : goal.kept_refusal-requires
kept_refusal-requires g c = ap is_some c.in-Err.ensures.reads.1

-- A piece begins.
begins : (g : _) (c : After-read g) → refusal_of c.args.self.now ≡ None → ReadsTo {S = g.row.S.Denot} {g = g.S.Sink} c.args.self.now c.args.piece.now c.args.self.now.machine (record c.args.self.now.input { at = 0 })
begins g c live = begins_piece c.args.self.now (record { live = live; agrees = c.args.self.now.agrees live }) (c.args.self.now.rested live) (omega (arith, c.requires)) c.requires

pub returns-in-Ok : goal.returns-in-Ok
returns-in-Ok g c =
    let input = c.read.new.input in
    let reads = c.in-Ok.ensures.reads.0 c.args.self.now (begins g (goal.at.returns-in-Ok g c).After-read c.in_default.is) in
    let gone : length (unread_of input) + (length c.args.piece.now - input.at) ≡ 0 = sym (length-next (position_of input) c.args.piece.now) ∙ ap (λ (xs : List Placed). length xs) c.in-Ok.ensures.reads.1 in
    record {
      has_read = takes_piece c.args.self.now _ c.args.piece.now reads c.in-Ok.ensures.reads.1;
      budget = reads.counts.budget;
      answered = reads.works.live.live;
      latched = search rules;
      failed = search rules;
      kept = search rules;
      clear = reads.works.clear;
      lacks = search rules;
      spared = reads.works.spares;
      fed = omega (arith, reads.counts.fed, reads.counts.reads.within, gone);
      stops = search rules;
      turns = λ counted. omega (arith, input.turned, gone);
      turned = omega (arith, input.turned);
      more_turns = omega (arith, reads.counts.turns);
    }

pub returns-in-Err : goal.returns-in-Err
returns-in-Err g c =
    let (refusal, is, kept) = err_from_is_err_and c.kept_refusal.result c.kept_refusal.ensures in
    let stops = c.in-Err.ensures.reads in
    let same : stops.0 ≡ refusal = let both : Some stops.0 ≡ Some refusal = sym stops.1 ∙ kept in cc in
    let refuses = λ (live : refusal_of c.args.self.now ≡ None). rw same at (stops.2 c.args.self.now (begins g (goal.at.returns-in-Err g c).After-read live)) in
    let known = (refuses c.in_default.is).tells in
    rw is (record {
      has_read = has_read_past_stop kept (refuses c.in_default.is).budget ((refuses c.in_default.is).stops _ _).1;
      budget = (refuses c.in_default.is).budget;
      answered = kept;
      latched = search rules;
      failed = λ before device. known.0 device;
      kept = λ other working. not_failed _ (λ fails. other (known.1 working fails));
      clear = search rules;
      lacks = λ before short memory. (refuses before).lacks short memory;
      spared = search rules;
      fed = search rules;
      stops = λ before. (refuses before).stops _ _;
      turns = search rules;
      turned = omega (arith, c.read.new.input.turned);
      more_turns = (refuses c.in_default.is).turns;
    })

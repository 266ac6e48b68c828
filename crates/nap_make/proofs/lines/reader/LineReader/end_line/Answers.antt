use Rattle.nap_make.proofs.{All, All-append, FeedLemmas.always_ok, FeedLemmas.part_refused, FeedLemmas.refused_stops, MakerHasPut, MatchResult, StopsLines, TakesLines, [], ap, arith, err_from_is_err_and, length, Common.lines, nil_from_length, refl, subst, sym, ◌++◌, ◌∙◌, ◌∷◌, ◌≡◌, ◌≢◌}
use Rattle.nap_make.proofs.lines.reader.LineReader.end_line.Goals as goal

pub returns-then-len-eq0-clause-part : goal.returns-then-len-eq0-clause-part
returns-then-len-eq0-clause-part g c =
    let part = c.args.self.now.part.items in
    always_ok c.take_line.result (nil_from_length part (omega (arith, c.len.ensures, c.if-len-eq0.true)))

pub returns-then-len-eq0-clause-takes : goal.returns-then-len-eq0-clause-takes
returns-then-len-eq0-clause-takes g c s es holds =
    let part = c.args.self.now.part.items in
    let bytes = c.args.bytes.now in
    let more = c.args.more.now in
    let m = c.take_line.new.self in
    let empty : part ≡ [] = nil_from_length part (omega (arith, c.len.ensures, c.if-len-eq0.true)) in
    subst (λ xs. MatchResult c.take_line.result (λ rest. TakesLines g.S.Sink s es (xs ++ 10 ∷ more) m rest.now) (StopsLines g.S.Sink s (lines es ++ (xs ++ 10 ∷ more)) m.sink))
    (ap (◌++ bytes) (sym empty)) (c.take_line.ensures.takes s es holds)

pub returns-in_err-keep_part-clause-takes : goal.returns-in_err-keep_part-clause-takes
returns-in_err-keep_part-clause-takes g c s es holds =
    let bytes = c.args.self.now.part.items ++ c.args.bytes.now in
    let more = c.args.more.now in
    let m = c.keep_part.new.self.maker in
    let f = c.in_err-keep_part.field-0.0 in
    let some : c.args.self.now.part.items ≢ [] = λ empty. let size = ap length empty in absurd (omega (arith, size, c.len.ensures, c.if-len-eq0.false)) in
    let e = err_from_is_err_and c.from_residual.result c.from_residual.ensures.1 in
    rw (e.1, e.2) (refused_stops holds bytes more m f refl (part_refused g.S.Sink s es c.args.self.now.part.items c.args.bytes.now m f some (c.in_err-keep_part.ensures.keeps s es holds)))

pub take_line-requires-2-clause-whole : goal.take_line-requires-2-clause-whole
take_line-requires-2-clause-whole g c =
    subst (All (λ b. b ≢ 10)) (sym (c.as_slice.ensures.value ∙ c.in_ok-keep_part.ensures.part)) (All-append (λ b. b ≢ 10) c.args.self.now.part.items c.args.bytes.now c.requires.0.whole c.requires.1)

pub returns-in_err-rest-clause-takes : goal.returns-in_err-rest-clause-takes
returns-in_err-rest-clause-takes g c s es holds =
    let more = c.args.more.now in
    let f = c.in_err-rest.field-0.0 in
    let e = err_from_is_err_and c.from_residual-in_err-rest.result c.from_residual-in_err-rest.ensures.1 in
    let before = subst (MakerHasPut g.S.Sink s es) (sym c.in_ok-keep_part.ensures.maker) holds in
    rw (e.1, e.2) (subst (λ xs. StopsLines g.S.Sink s (lines es ++ (xs ++ 10 ∷ more)) c.take_line-2.new.self.sink f) (c.as_slice.ensures.value ∙ c.in_ok-keep_part.ensures.part)
    (c.in_err-rest.ensures.takes s es before))

pub returns-clause-takes : goal.returns-clause-takes
returns-clause-takes g c s es holds =
    let more = c.args.more.now in
    let before = subst (MakerHasPut g.S.Sink s es) (sym c.in_ok-keep_part.ensures.maker) holds in
    subst (λ xs. TakesLines g.S.Sink s es (xs ++ 10 ∷ more) c.take_line-2.new.self c.in_ok-rest.rest.now) (c.as_slice.ensures.value ∙ c.in_ok-keep_part.ensures.part)
    (c.in_ok-rest.ensures.takes s es before)

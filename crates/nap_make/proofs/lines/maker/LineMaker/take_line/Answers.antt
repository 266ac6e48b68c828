use Rattle.nap_make.proofs.{Err, TellsLine, [], ap, arith, err_from_is_err_and, inl, inr, refl, subst, ◌++◌, ◌+◌, ◌∙◌, ◌∷◌}
use Rattle.nap_make.specs.declared.lines.MakeFault.TheVariants.{Memory}
use Rattle.nap_make.proofs.FeedLemmas.{entry_refused, line_stops, more_result, one_taken, refused_stops}
use Rattle.nap_make.proofs.lines.maker.LineMaker.take_line.Goals as goal

pub returns-in_default-clause-takes : goal.returns-in_default-clause-takes
returns-in_default-clause-takes g c s es holds =
    refused_stops holds c.args.bytes.now c.args.more.now c.args.self.now Memory refl (inr (omega (arith, holds.count, c.in_default.ensures)), holds.kept)

pub returns-in-Err-Line-clause-takes : goal.returns-in-Err-Line-clause-takes
returns-in-Err-Line-clause-takes g c s es holds =
    line_stops holds c.args.bytes.now c.args.more.now c.args.self.now _ _ c.requires.whole (c.in-Some.ensures.1 ∙ ap (◌+ 1) holds.count)
    (subst (λ f. TellsLine c.args.bytes.now (Err f)) c.in-Err-Line.field-0-is c.in-Err-Line.ensures) holds.kept

pub returns-in-Err-Memory-clause-takes : goal.returns-in-Err-Memory-clause-takes
returns-in-Err-Memory-clause-takes g c s es holds =
    let told = subst (λ f. TellsLine c.args.bytes.now (Err f)) c.in-Err-Memory.field-0-is c.in-Err-Memory.ensures in
    refused_stops holds c.args.bytes.now c.args.more.now c.args.self.now Memory refl (inl told.1, holds.kept)

pub returns-in_err-put_entry-clause-takes : goal.returns-in_err-put_entry-clause-takes
returns-in_err-put_entry-clause-takes g c s es holds =
    let bytes = c.args.bytes.now in
    let more = c.args.more.now in
    let m = c.put_entry.new.self in
    let f = c.in_err-put_entry.field-0.0 in
    let e = err_from_is_err_and c.from_residual.result c.from_residual.ensures.1 in
    rw (e.1, e.2) (refused_stops holds bytes more m f refl
    (entry_refused g.S.Sink s es bytes c.in-Ok.entry m f c.in-Ok.ensures (c.in_err-put_entry.ensures.puts s es holds c.in-Ok.ensures.fitting)))

pub take_alike-requires : goal.take_alike-requires
take_alike-requires g c = record {
  agrees = c.in_ok-put_entry.ensures.agrees;
  follows = record {
    before = c.args.self.now.state;
    entry = c.in-Ok.entry;
    proper = c.in-Ok.ensures.fitting;
    fits = c.in_ok-put_entry.ensures.fits;
    state = c.in_ok-put_entry.ensures.after;
    line_is = c.in-Some-text.ensures;
  };
}

pub returns-in-Some-text-clause-takes : goal.returns-in-Some-text-clause-takes
returns-in-Some-text-clause-takes g c s es holds =
    let e = c.in-Ok.entry in
    more_result g.S.Sink s es c.args.more.now c.in-Ok.ensures (λ rest. rest.now) c.take_alike.new.self c.take_alike.result
    (c.take_alike.ensures.takes s (es ++ e ∷ []) (c.in_ok-put_entry.ensures.puts s es holds c.in-Ok.ensures.fitting))

pub returns-in-None-clause-takes : goal.returns-in-None-clause-takes
returns-in-None-clause-takes g c s es holds =
    one_taken g.S.Sink s es c.args.more.now c.in-Ok.ensures (c.in_ok-put_entry.ensures.puts s es holds c.in-Ok.ensures.fitting)

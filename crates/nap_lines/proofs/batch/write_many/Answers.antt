use Rattle.nap_lines.proofs.{ap, append-nil, arith, char_front, code_text, drop, length, length-append, length-drop, length-take, length-take-le, line_limit, recoded, refl, slice_index, sym, take, text_byte_front, ◌*◌, ◌++◌, ◌-◌, ◌∙◌, ◌≡◌, ◌≤◌}
use Rattle.nap_lines.proofs.WritingLemmas.{block_few, char_start, coded_typed, coded_width, filled_coded, first_lines, kept, more_lines, one_more, recoded_coded, text_goes}
use Rattle.nap_lines.proofs.batch.write_many.Goals as goal

pub loop-written-init : goal.loop-written-init
loop-written-init c =
    let (digits, (ready, block)) =
    filled_coded (char_start c.args.set) c.args.buffer.now c.as_slice.result.now _ c.min-ready.result (c.as_slice.ensures.bytes ∙ c.push_char_front.ensures) c.fill_lines.ensures.within in
    record {
      within = omega arith;
      few = omega arith;
      capacity = omega arith;
      front = char_front c.args.set 0;
      buffer = c.push_char_front.ensures;
      digits = digits;
      rest = _;
      ready = ready;
      block = c.fill_lines.ensures.block ∙ block;
      text = sym (append-nil c.args.text.now.items);
    }

pub keep_last-requires-clause-within : goal.keep_last-requires-clause-within
keep_last-requires-clause-within c = grind (arith, length-append)

pub keep_last-requires-clause-utf8 : goal.keep_last-requires-clause-utf8
keep_last-requires-clause-utf8 c = grind (arith, kept)

-- the next byte is no character's code
pub loop-written-preserved-then-count-eq0 : goal.loop-written-preserved-then-count-eq0
unfolding recoded
loop-written-preserved-then-count-eq0 c =
    let at = c.loop-written.invariant in
    let all = c.args.codes.now in
    let i = c.loop-written.written in
    let code = slice_index all i in
    let size = c.len-size.result in
    let place = size - c.len-end.result - 2 in
    let buffer = c.push_text_byte_front.ensures ∙ ap (text_byte_front c.args.set code ++◌) (c.keep_last.ensures ∙ kept at.front at.buffer c.len-end.ensures.count) in
    let none : c.recode_lines-count.result ≡ 0 = omega (arith, c.if-count-eq0.true) in
    record {
      within = omega (arith, c.loop-written-test.true);
      few = omega (arith, at.few, c.in-Ok.ensures.len, c.as_slice-then-count-eq0.ensures.few);
      capacity = omega (arith, at.capacity, c.extend_from_slice.ensures.capacity);
      front = text_byte_front c.args.set code;
      buffer = buffer;
      digits = at.digits;
      rest = at.rest;
      ready = at.ready;
      block = c.recode_lines-count.ensures.block ∙ ap (λ n. recoded size place c.slice_part.result.now n c.loop-written.block) none ∙ at.block;
      text = text_goes _ _ _ at.text
          (c.in-Ok.ensures.items ∙ ap (c.loop-written.text.items ++◌) (c.as_slice-then-count-eq0.ensures.bytes ∙ buffer))
          (one_more _ all i code 0 c.loop-written-test.true refl);
    }

-- the first lines of the block were appended
pub loop-written-preserved : goal.loop-written-preserved
loop-written-preserved c =
    let at = c.loop-written.invariant in
    let set = c.args.set in
    let start = char_start set in
    let end = c.args.buffer.now in
    let all = c.args.codes.now in
    let i = c.loop-written.written in
    let size = c.len-size.result in
    let place = size - c.len-end.result - 2 in
    let few = c.slice_part.result.now in
    let most = c.min-most.result in
    let count = c.recode_lines-count.result in
    let now = take count few in
    let left = drop count at.digits in
    let many : length now ≡ count = length-take-le count few c.recode_lines-count.ensures.count in
    let short : length few ≤ most = omega (arith, ap length c.slice_part.ensures, length-take most (drop i all)) in
    let long : size ≡ coded_width start end =
    omega (arith, c.len-size.ensures.count, ap length c.push_char_front.ensures, length-append (start ++ code_text 0) end, length-append start (code_text 0)) in
    let front : place ≡ length start = omega (arith, c.len-end.ensures.count) in
    let less : count ≤ length at.digits = omega (arith, c.recode_lines-count.ensures.count, c.min-most.ensures, at.ready) in
    let block =
    c.recode_lines-count.ensures.block ∙ ap (recoded size place few count) at.block ∙ recoded_coded start end few at.digits at.rest size place count front long c.recode_lines-count.ensures.count less in
    let bytes =
    c.slice_part-else-count-eq0.ensures
    ∙ ap (take (count * size)) block
    ∙ first_lines start end now left at.rest size (count * size) long (ap (λ n. n * size) (sym many))
    ∙ coded_typed set end now c.recode_lines-count.ensures.characters in
    let sized : length c.slice_part-else-count-eq0.result.now ≤ line_limit * count =
    block_few count size _ (omega (arith, ap length c.slice_part-else-count-eq0.ensures, length-take (count * size) c.recode_lines-count.new.block)) c.len-size.ensures.few in
    record {
      within = omega (arith, c.recode_lines-count.ensures.count, c.min-most.ensures, c.loop-written-test.true);
      few = omega (arith, at.few, c.in-Ok-extend_from_slice.ensures.len);
      capacity = omega (arith, at.capacity, c.extend_from_slice-else-count-eq0.ensures.capacity);
      front = at.front;
      buffer = at.buffer;
      digits = now ++ left;
      rest = at.rest;
      ready = omega (arith, length-append now left, length-drop count at.digits, at.ready);
      block = block;
      text = text_goes _ _ _ at.text
          (c.in-Ok-extend_from_slice.ensures.items ∙ ap (c.loop-written.text.items ++◌) bytes)
          (more_lines _ all few i most count c.slice_part.ensures (omega (arith, c.recode_lines-count.ensures.count)));
    }

-- the memory had no room for the first lines of the block
pub returns-in_default-extend_from_slice-clause-memory : goal.returns-in_default-extend_from_slice-clause-memory
returns-in_default-extend_from_slice-clause-memory c = grind (arith, length-take, block_few)

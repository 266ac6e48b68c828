use Rattle.nap_draw.proofs.{List, [], ap, ap₂, arith, get_or, get_or_read, length, length-set, map, map-append, sym, take, take_more, take_more_set, ℕ, ◌%◌, ◌++◌, ◌<◌, ◌∙◌, ◌∷◌, ◌≡◌}
use Rattle.nap_draw.proofs.copied.word_bytes.Goals as goal

pub loop-at-preserved : goal.loop-at-preserved
loop-at-preserved c =
    let l = c.loop-at in
    let word = c.get.result in
    let inside : l.at < length c.args.run.now = c.loop-at-test.true in
    let same : word ≡ get_or c.args.run.now l.at 0 =
    c.get.ensures.value ∙ get_or_read c.args.run.now l.at c.index-run-at.result inside c.index-run-at.is 0 in
    let is : word % 64 ≡ get_or c.args.run.now l.at 0 = omega (arith, same, c.get.ensures.below) in
    record {
      size = length-set l.bytes l.at word ∙ l.invariant.size;
      words = ap (map (λ byte. byte % 64)) (take_more_set l.bytes l.at word (omega (arith, l.invariant.size, c.requires)))
          ∙ (map-append (λ byte. byte % 64) (take l.at l.bytes) (word ∷ [])
          ∙ (ap₂ (λ (words : List ℕ) (word : ℕ). words ++ word ∷ []) l.invariant.words is
          ∙ sym (take_more c.args.run.now l.at 0 inside)));
    }

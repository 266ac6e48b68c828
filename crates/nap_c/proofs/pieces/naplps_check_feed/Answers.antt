use Rattle.nap_c.proofs.{Check, FeedsPiece, HasChecked, List, subst, sym, ℕ}
use Rattle.nap_c.proofs.pieces.naplps_check_feed.Goals as goal

-- a piece of the page was read
pub returns : goal.returns
returns c =
    let piece = c.args.piece.now in
    let old = λ (budget : ℕ) (p : List ℕ) (h : HasChecked c.in-Some.check.value budget p).
    subst (λ k. HasChecked k budget p) (sym c.deref_mut.ensures.value) h in
    subst (λ before. FeedsPiece before c.put.new.self.check piece c.feed-answer.result) (sym c.in-Some.ensures.known) (record {
      check = c.feed-answer.new.self;
      begun = c.put.ensures;
      has_checked = λ budget p h. c.feed-answer.ensures.has_checked budget p (old budget p h);
      answer = λ budget p h. c.feed-answer.ensures.answer budget p (old budget p h);
    })

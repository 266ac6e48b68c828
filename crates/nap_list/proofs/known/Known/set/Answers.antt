use Rattle.nap_list.proofs.{KnownLemmas.shift_no, KnownLemmas.shift_yes, KnownLemmas.shifted_all, List, MapColour, ap, arith, get_or, items-with_items, length, length-set, refill, set, sym, ◌<◌, ◌∙◌, ◌≡◌}
use Rattle.nap_list.proofs.known.Known.set.Goals as goal

pub loop-i-preserved : goal.loop-i-preserved
loop-i-preserved c =
    let old = c.index-deref-i.result in
    let colours : List MapColour = c.loop-i.self-inside.colours.items in
    let less : c.loop-i.i < length colours = omega (arith, c.loop-i-test.true, c.len-i-end.ensures.value, c.loop-i.invariant.long) in
    let is : old ≡ get_or colours c.loop-i.i old = c.index-deref-i.is ∙ ap (λ (xs : List MapColour). get_or xs c.loop-i.i old) c.deref.ensures.0 in
    elim c.if-ne.branch [
      | goal.then-ne w ↦
          let written : List MapColour = set colours c.loop-i.kept c.loop-i.next in
          let filled : refill (length colours) colours (set w.deref_mut.result.now c.loop-i.kept c.loop-i.next) ≡ written =
          ap (λ (xs : List MapColour). refill (length colours) colours (set xs c.loop-i.kept c.loop-i.next)) w.deref_mut.ensures.value ∙ items-with_items (record { items = colours }) written (length-set colours c.loop-i.kept c.loop-i.next) in
          rw (w.next-is, w.kept-is, w.self-inside-is, filled) (shift_yes c.loop-i.invariant old less is (sym w.if-ne.ensures))
      | goal.else-ne w ↦ rw (w.next-is, w.kept-is, w.self-inside-is) (shift_no c.loop-i.invariant old less is (sym w.if-ne.ensures))
    ]

pub returns-else-kept-lt-KNOWN : goal.returns-else-kept-lt-KNOWN
returns-else-kept-lt-KNOWN c =
    let h = c.loop-i.invariant in
    rw (← c.self.view_is) (c.truncate.ensures.items
    ∙ shifted_all h 15 (omega (arith, c.loop-i-test.false, c.len-i-end.ensures.value)) (omega (arith, c.if-kept-lt-KNOWN.false, h.behind, h.within, c.len-i-end.ensures.value, c.len-i-end.ensures.fits)))

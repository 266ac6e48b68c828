use Rattle.std.proofs.Common.{Bool, List, ap, arith, drop, length, length-drop, max, nat_lt, refl, subst, suc, sym, take, ℕ, ◌&&◌, ◌+◌, ◌-◌, ◌<◌, ◌∙◌, ◌≡◌, ◌≤◌}
use Rattle.std.proofs.lemmas.Bool.{le-ltb, lt-ltb}
use Rattle.std.proofs.lemmas.List.{take_rest}
use Rattle.nap_find.specs.Ends.{retry_from}
use Rattle.nap_find.specs.Shapes.{capped_sum}
use Rattle.nap_find.specs.Verdicts.{Block, IsWithinBytes, block_of, block_within, passed_over, verdict}
use Rattle.nap_find.specs.declared.{find.Found.Found}
use Rattle.nap_find.proofs.BlockLemmas.{block_begins, block_none, block_page, block_passed, block_short, block_spent, block_waits, ended_decided, ended_pages, ended_passed, goes_at, goes_page, goes_passed, goes_whole}
use Rattle.nap_find.proofs.block.find_in_block.Goals as goal
use Rattle.nap_find.proofs.block.find_in_block.Goals.{in-None, in-Page+in_ok-push-in-Page}

pub loop-init : goal.loop-init
loop-init c =
    let row = c.args.row.now in
    let fuel = length row + 1 - 0 in
    let is : fuel ≡ length row + 1 = omega arith in
    record {
      goes = goes_whole c.args.place c.args.found.now.finds.items c.args.found.now.passed (block_of c.args.asked.now c.args.more row) _ (block_begins c.args.asked.now c.args.more row fuel is (le-ltb (length row) c.args.asked.now.bytes c.if-is_short.false));
      within = omega arith;
    }

pub returns-then-is_short-clause-pages : goal.returns-then-is_short-clause-pages
returns-then-is_short-clause-pages c =
    let row = c.args.row.now in
    let whole = block_of c.args.asked.now c.args.more row in
    let finds = c.args.found.now.finds.items in
    let passed = c.args.found.now.passed in
    ended_pages c.args.place finds passed whole finds passed (length row) whole (block_short c.args.asked.now c.args.more row (lt-ltb (length row) c.args.asked.now.bytes c.if-is_short.true)) (goes_whole c.args.place finds passed whole whole refl)

pub returns-then-is_short-clause-passed : goal.returns-then-is_short-clause-passed
returns-then-is_short-clause-passed c =
    let row = c.args.row.now in
    let whole = block_of c.args.asked.now c.args.more row in
    let finds = c.args.found.now.finds.items in
    let passed = c.args.found.now.passed in
    ended_passed c.args.place finds passed whole finds passed (length row) whole (block_short c.args.asked.now c.args.more row (lt-ltb (length row) c.args.asked.now.bytes c.if-is_short.true)) (goes_whole c.args.place finds passed whole whole refl)

pub returns-then-is_short-clause-decided : goal.returns-then-is_short-clause-decided
returns-then-is_short-clause-decided c =
    let row = c.args.row.now in
    ap (λ (b : Block). b.decided) (sym (block_short c.args.asked.now c.args.more row (lt-ltb (length row) c.args.asked.now.bytes c.if-is_short.true)))

pub returns-in_default-clause-pages : goal.returns-in_default-clause-pages
returns-in_default-clause-pages c =
    let row = c.args.row.now in
    let m = length row + 1 - (c.loop.counter + 1) in
    let is : length row + 1 - c.loop.counter ≡ suc m = omega arith in
    ended_pages c.args.place c.args.found.now.finds.items c.args.found.now.passed (block_of c.args.asked.now c.args.more row) c.loop.found.finds.items c.loop.found.passed (length row) _
    (block_none c.args.asked.now c.args.more row (length row + 1 - c.loop.counter) m c.loop.at is (sym c.in_default.ensures.found)) c.loop.invariant.goes

pub returns-in_default-clause-passed : goal.returns-in_default-clause-passed
returns-in_default-clause-passed c =
    let row = c.args.row.now in
    let m = length row + 1 - (c.loop.counter + 1) in
    let is : length row + 1 - c.loop.counter ≡ suc m = omega arith in
    ended_passed c.args.place c.args.found.now.finds.items c.args.found.now.passed (block_of c.args.asked.now c.args.more row) c.loop.found.finds.items c.loop.found.passed (length row) _
    (block_none c.args.asked.now c.args.more row (length row + 1 - c.loop.counter) m c.loop.at is (sym c.in_default.ensures.found)) c.loop.invariant.goes

pub returns-in_default-clause-decided : goal.returns-in_default-clause-decided
returns-in_default-clause-decided c =
    let row = c.args.row.now in
    let m = length row + 1 - (c.loop.counter + 1) in
    let is : length row + 1 - c.loop.counter ≡ suc m = omega arith in
    ended_decided c.args.place c.args.found.now.finds.items c.args.found.now.passed (block_of c.args.asked.now c.args.more row) c.loop.found.finds.items c.loop.found.passed (length row) _
    (block_none c.args.asked.now c.args.more row (length row + 1 - c.loop.counter) m c.loop.at is (sym c.in_default.ensures.found)) c.loop.invariant.goes

pub returns-in-Waits-clause-pages : goal.returns-in-Waits-clause-pages
returns-in-Waits-clause-pages c =
    let row = c.args.row.now in
    let from = c.in-Some.from in
    let m = length row + 1 - (c.loop.counter + 1) in
    let is : length row + 1 - c.loop.counter ≡ suc m = omega arith in
    let tail : take (length row - from) (drop from row) ≡ drop from row = take_rest row from in
    let said =
    ap (verdict c.args.asked.now (c.args.more && nat_lt 0 from)) (sym tail)
    ∙ ap (λ (b : Bool). verdict c.args.asked.now b (take (length row - from) (drop from row))) (sym c.may_wait.ensures) ∙ sym c.in_ok-verdict.ensures.verdict ∙ c.in-Waits.is in
    ended_pages c.args.place c.args.found.now.finds.items c.args.found.now.passed (block_of c.args.asked.now c.args.more row) c.loop.found.finds.items c.loop.found.passed from _
    (block_waits c.args.asked.now c.args.more row (length row + 1 - c.loop.counter) m c.loop.at is from (sym c.in-Some.ensures.found) said) c.loop.invariant.goes

pub returns-in-Waits-clause-passed : goal.returns-in-Waits-clause-passed
returns-in-Waits-clause-passed c =
    let row = c.args.row.now in
    let from = c.in-Some.from in
    let m = length row + 1 - (c.loop.counter + 1) in
    let is : length row + 1 - c.loop.counter ≡ suc m = omega arith in
    let tail : take (length row - from) (drop from row) ≡ drop from row = take_rest row from in
    let said =
    ap (verdict c.args.asked.now (c.args.more && nat_lt 0 from)) (sym tail)
    ∙ ap (λ (b : Bool). verdict c.args.asked.now b (take (length row - from) (drop from row))) (sym c.may_wait.ensures) ∙ sym c.in_ok-verdict.ensures.verdict ∙ c.in-Waits.is in
    ended_passed c.args.place c.args.found.now.finds.items c.args.found.now.passed (block_of c.args.asked.now c.args.more row) c.loop.found.finds.items c.loop.found.passed from _
    (block_waits c.args.asked.now c.args.more row (length row + 1 - c.loop.counter) m c.loop.at is from (sym c.in-Some.ensures.found) said) c.loop.invariant.goes

pub returns-in-Waits-clause-decided : goal.returns-in-Waits-clause-decided
returns-in-Waits-clause-decided c =
    let row = c.args.row.now in
    let from = c.in-Some.from in
    let m = length row + 1 - (c.loop.counter + 1) in
    let is : length row + 1 - c.loop.counter ≡ suc m = omega arith in
    let tail : take (length row - from) (drop from row) ≡ drop from row = take_rest row from in
    let said =
    ap (verdict c.args.asked.now (c.args.more && nat_lt 0 from)) (sym tail)
    ∙ ap (λ (b : Bool). verdict c.args.asked.now b (take (length row - from) (drop from row))) (sym c.may_wait.ensures) ∙ sym c.in_ok-verdict.ensures.verdict ∙ c.in-Waits.is in
    ended_decided c.args.place c.args.found.now.finds.items c.args.found.now.passed (block_of c.args.asked.now c.args.more row) c.loop.found.finds.items c.loop.found.passed from _
    (block_waits c.args.asked.now c.args.more row (length row + 1 - c.loop.counter) m c.loop.at is from (sym c.in-Some.ensures.found) said) c.loop.invariant.goes

pub loop-preserved : goal.loop-preserved
loop-preserved c =
    let asked = c.args.asked.now in
    let more = c.args.more in
    let row = c.args.row.now in
    let from = c.in-Some.from in
    let p = drop from row in
    let fuel = length row + 1 - c.loop.counter in
    let m = length row + 1 - (c.loop.counter + 1) in
    let is : fuel ≡ suc m = omega arith in
    let inside : from < length row = c.in-Some.ensures.within in
    let rest = take (length row - from) p in
    let tail : rest ≡ p = take_rest row from in
    let size : length p ≡ length row - from = length-drop from row in
    let within = subst (λ (q : List ℕ). IsWithinBytes (length q) c.in_ok-verdict.verdict) tail c.in_ok-verdict.ensures.within in
    let said =
    ap (verdict asked (more && nat_lt 0 from)) (sym tail) ∙ ap (λ (b : Bool). verdict asked b rest) (sym c.may_wait.ensures) ∙ sym c.in_ok-verdict.ensures.verdict in
    let finds0 = c.args.found.now.finds.items in
    let passed0 = c.args.found.now.passed in
    let whole = block_of asked more row in
    elim c.match-verdict.branch [
      | in-Page+in_ok-push-in-Page w ↦
          let e = w.in-Page.bytes in
          let there : c.match-verdict.at ≡ from + max e 1 = w.at-is ∙ ap (λ (n : ℕ). from + n) w.max.ensures in
          let few : e ≤ length p = subst (IsWithinBytes (length p)) w.in-Page.is within in
          let block = block_page asked more row fuel m c.loop.at is from e (sym c.in-Some.ensures.found) (said ∙ w.in-Page.is) in
          record {
            goes = goes_at c.args.place finds0 passed0 whole _ _ _ _ _ _ (ap (λ (f : Found). f.finds.items) w.found-is ∙ w.in_ok-push-in-Page.ensures.items) (ap (λ (f : Found). f.passed) w.found-is)
                (ap (block_within asked more row m) there)
                (goes_page c.args.place finds0 passed0 whole c.loop.found.finds.items c.loop.found.passed from (from + e) _ (block_within asked more row m (from + max e 1)) block c.loop.invariant.goes);
            within = omega (arith, there, few, size, inside);
          }
      | in-None w ↦
          let r = w.in-None.reach in
          let there : c.match-verdict.at ≡ from + retry_from p r = w.at-is ∙ ap (λ (n : ℕ). from + n) (w.retry_from.ensures.place ∙ ap (λ (q : List ℕ). retry_from q r) tail) in
          let few : r ≤ length p = subst (IsWithinBytes (length p)) w.in-None.is within in
          let block = block_passed asked more row fuel m c.loop.at is from r (sym c.in-Some.ensures.found) (said ∙ w.in-None.is) in
          record {
            goes = goes_at c.args.place finds0 passed0 whole _ _ _ _ _ _ (ap (λ (f : Found). f.finds.items) w.found-is) (ap (λ (f : Found). f.passed) w.found-is)
                (ap (block_within asked more row m) there)
                (goes_passed c.args.place finds0 passed0 whole c.loop.found.finds.items c.loop.found.passed (passed_over p r) w.capped_sum-found.result _ (block_within asked more row m (from + retry_from p r)) block
                (w.capped_sum-found.ensures ∙ ap (capped_sum c.loop.found.passed) (w.passed_over-passed.ensures ∙ ap (λ (q : List ℕ). passed_over q r) tail)) c.loop.invariant.goes);
            within = omega (arith, w.at-is, w.retry_from.ensures.most, few, size, inside);
          }
    ]

pub returns-clause-pages : goal.returns-clause-pages
returns-clause-pages c =
    let row = c.args.row.now in
    let none : length row + 1 - c.loop.counter ≡ 0 = omega arith in
    ended_pages c.args.place c.args.found.now.finds.items c.args.found.now.passed (block_of c.args.asked.now c.args.more row) c.loop.found.finds.items c.loop.found.passed (length row) _
    (block_spent c.args.asked.now c.args.more row (length row + 1 - c.loop.counter) c.loop.at none) c.loop.invariant.goes

pub returns-clause-passed : goal.returns-clause-passed
returns-clause-passed c =
    let row = c.args.row.now in
    let none : length row + 1 - c.loop.counter ≡ 0 = omega arith in
    ended_passed c.args.place c.args.found.now.finds.items c.args.found.now.passed (block_of c.args.asked.now c.args.more row) c.loop.found.finds.items c.loop.found.passed (length row) _
    (block_spent c.args.asked.now c.args.more row (length row + 1 - c.loop.counter) c.loop.at none) c.loop.invariant.goes

pub returns-clause-decided : goal.returns-clause-decided
returns-clause-decided c =
    let row = c.args.row.now in
    let none : length row + 1 - c.loop.counter ≡ 0 = omega arith in
    ended_decided c.args.place c.args.found.now.finds.items c.args.found.now.passed (block_of c.args.asked.now c.args.more row) c.loop.found.finds.items c.loop.found.passed (length row) _
    (block_spent c.args.asked.now c.args.more row (length row + 1 - c.loop.counter) c.loop.at none) c.loop.invariant.goes

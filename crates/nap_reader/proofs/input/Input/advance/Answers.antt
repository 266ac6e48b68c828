use Rattle.nap_reader.proofs.{FramesIn, List, [], ap, arith, can_few, can_inside, drop, drop_all, false, length, length-drop, length-next, position_of, refl, subst, true, unread, unread_of, ℕ, ◌≡◌, ◌≢◌, ◌≤◌}
use Rattle.nap_reader.proofs.input.Input.advance.Goals as goal
use Rattle.nap_reader.proofs.input.Input.advance.Goals.{After-take_from_innermost}

pub overflow_add-self : goal.overflow_add-self
overflow_add-self c =
    let input = c.args.self.now in
    omega (arith, can_few c.requires.1, length-next (position_of input) c.requires.0, input.turned, c.requires.1.reads.few, input.small)

pub overflow_add-self-then-is_empty : goal.overflow_add-self-then-is_empty
overflow_add-self-then-is_empty c = omega (arith, c.requires.1.of_piece (c.if-is_empty.ensures.0 refl), c.requires.1.reads.small)

pub returns-then-is_empty : goal.returns-then-is_empty
returns-then-is_empty c = grind (arith, drop_all)

-- what the innermost body has given
given : (c : After-take_from_innermost) → (unread c.args.self.now.store.bytes c.take_from_innermost.new.self.stack.items ≡ drop c.args.count (unread_of c.args.self.now)) × (c.args.count ≤ length (unread_of c.args.self.now))
given c =
    let some : c.args.self.now.frames.stack.items ≢ [] = λ none. (let bad : false ≡ true = c.if-is_empty.ensures.1 none in cc) in
    (grind (arith, c.take_from_innermost.ensures.given c.requires.1.of_body), can_inside c.requires.1 some)

pub invariant_of-self-else-is_empty-clause-turned : goal.invariant_of-self-else-is_empty-clause-turned
invariant_of-self-else-is_empty-clause-turned c =
    let (rest, few) = given (goal.at.invariant_of-self-else-is_empty-clause-turned c).After-take_from_innermost in
    omega (arith, c.args.self.now.turned, ap length rest, few, length-drop c.args.count (unread_of c.args.self.now))

pub invariant_of-self-else-is_empty-clause-framed : goal.invariant_of-self-else-is_empty-clause-framed
invariant_of-self-else-is_empty-clause-framed c = subst (λ (stored : List ℕ). FramesIn (length stored) c.take_from_innermost.new.self.stack.items) c.bytes.ensures c.take_from_innermost.ensures.within

pub returns-else-is_empty : goal.returns-else-is_empty
returns-else-is_empty c =
    let (rest, few) = given (goal.at.returns-else-is_empty c).After-take_from_innermost in
    record { rest = rest; at = omega (arith, few); fed = omega (arith, few); turns = refl; budget = refl; charged = omega arith; promise = refl; store_is = refl; body = refl }

use Rattle.nap_reader.proofs.{arith, frames-unread}
use Rattle.nap_reader.proofs.reader.Reader.charged.Goals as goal

pub returns-clause-bounded : goal.returns-clause-bounded
returns-clause-bounded g c =
    let input = c.args.self.now.input in
    let some = frames-unread input.store.bytes input.frames.stack.items input.framed in
    record { frames = omega (arith, some, input.turned, input.counted); bodies = input.few; pairs = λ none. omega (arith, input.paired) }

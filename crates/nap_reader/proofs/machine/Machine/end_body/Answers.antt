use Rattle.nap_reader.proofs.{CannotShow, Lawful, Moves, None, StoreState, [], all_at, ap, arith, bound_goes, byte_stops, can_pass, moves_then, own_fault, refl, shown_goes, shown_lacks, shown_stops, store_shown, stores_moves, subst, ◌++◌, ◌∷◌, not-false, not-true}
use Rattle.nap_reader.proofs.machine.Machine.end_body.Goals as goal

pub advance-requires : goal.advance-requires
advance-requires g c = can_pass c.requires.next.1

pub returns-then-not-body-clause-goes : goal.returns-then-not-body-clause-goes
returns-then-not-body-clause-goes g c = λ piece next.
    bound_goes c.args.self.now c.requires.following next (not-true c.args.body.show c.if-not-body.true) c.bind.ensures
    (record { live = record { live = c.requires.live.live; agrees = c.requires.live.agrees }; clear = λ clear. clear; spares = λ spared. spared }) (refl, refl, refl) c.escape.ensures

pub returns-in-Ok-clause-goes : goal.returns-in-Ok-clause-goes
returns-in-Ok-clause-goes g c = λ piece next.
    let adv = c.advance.ensures in
    let shown = subst (λ (store : StoreState). Moves c.args.input.now c.show.new.self 1 (all_at c.args.next.place (store.body ++ 0x1B ∷ c.args.next.byte ∷ [])) (store_shown c.args.input.now.store c.args.body.name c.args.next.byte) None) adv.store_is
    (moves_then 1 (omega arith) adv c.in-Ok.ensures (ap (λ (store : StoreState). store_shown store c.args.body.name c.args.next.byte) adv.store_is) refl) in
    shown_goes c.args.self.now c.requires.following next (not-false c.args.body.show c.if-not-body.false) shown
    (record { live = record { live = c.requires.live.live; agrees = c.requires.live.agrees }; clear = λ clear. clear; spares = λ spared. spared }) (refl, refl, refl) refl

pub returns-in-Err-clause-goes : goal.returns-in-Err-clause-goes
returns-in-Err-clause-goes g c =
    let laws : Lawful g.S.Sink = record { more = g.met.S.Sink.took_more; broken = g.met.S.Sink.took_broke; wants = g.met.S.Sink.wants_more; none = g.met.S.Sink.took_none } in
    rw c.refuse.ensures.answer (λ piece next.
    let adv = c.advance.ensures in
    let cannot = subst (λ (store : StoreState). CannotShow c.advance.new.self c.show.new.self (store.body ++ 0x1B ∷ c.args.next.byte ∷ []) c.in-Err.fault) adv.store_is c.in-Err.ensures in
    byte_stops laws next c.refuse.ensures.latched.is c.refuse.ensures.latched.sink (own_fault cannot)
    (shown_lacks c.args.self.now c.requires.following next (not-false c.args.body.show c.if-not-body.false) adv cannot)
    (moves_then 1 (omega arith) adv (stores_moves c.in-Err.ensures.still refl) refl refl)
    (shown_stops c.args.self.now c.requires.following next (not-false c.args.body.show c.if-not-body.false) adv cannot))

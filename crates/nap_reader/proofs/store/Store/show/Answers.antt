use Rattle.nap_reader.proofs.{List, [], ap, append_assoc, bound_grown, length, ℕ, ◌++◌, ◌∙◌, ◌∷◌, ◌≡◌}
use Rattle.nap_reader.proofs.store.Store.show.Goals as goal

pub returns-clause-ok : goal.returns-clause-ok
returns-clause-ok c =
    let s = c.self.inside in
    let t = c.push_reserved-2.new.self in
    let same = c.in_ok-reserve.ensures.items in
    let all : c.len-end.result ≡ length s.bytes.items = c.len-end.ensures ∙ c.reserve.new.self.ok.0 ∙ ap (λ (xs : List ℕ). length xs) same in
    let items : t.items ≡ s.bytes.items ++ 0x1B ∷ c.args.ender ∷ [] =
    c.push_reserved-2.ensures.items
    ∙ ap (λ (xs : List ℕ). xs ++ c.args.ender ∷ []) (c.push_reserved.ensures.items ∙ ap (λ (xs : List ℕ). xs ++ 0x1B ∷ []) same)
    ∙ append_assoc s.bytes.items (0x1B ∷ []) (c.args.ender ∷ []) in
    let from : c.len-self-inside.result ≡ length t.items = c.len-self-inside.ensures ∙ t.ok.0 in
    rw (from, c.from.ensures, items, ← c.self.view_is) (bound_grown s.bytes.items s.spans s.from s.stored s.promise c.args.name c.args.ender c.len-end.result c.self.invariant.0.bound c.self.invariant.0.begun all)

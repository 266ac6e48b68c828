use Rattle.std.proofs.Common.{ap, arith, ◌∙◌, ◌≡◌}
use Rattle.nap_find.specs.{Finders.finding_of, Rows.Finding, Rows.find_ended, Rows.find_on, Rows.nothing_found, declared.find.Asked.Asked}
use Rattle.nap_find.proofs.finder.find_all.Goals as goal

pub feed-requires : goal.feed-requires
feed-requires c = omega (arith, c.new-finder.ensures.bytes, c.requires)

pub finish-requires : goal.finish-requires
finish-requires c = omega (arith, c.in_ok-feed.ensures.bytes, c.new-finder.ensures.bytes, c.requires)

pub returns-clause-finds : goal.returns-clause-finds
returns-clause-finds c =
    let asked = c.feed.ensures.asked ∙ c.new-finder.ensures.asked in
    let f = finding_of c.feed.new.self c.feed.new.found in
    let none = c.new-finder.ensures.finding c.new-found.result c.new-found.ensures.finds c.new-found.ensures.passed in
    let known : f ≡ find_on c.args.asked nothing_found c.args.bytes.now =
    c.in_ok-feed.ensures.finding ∙ ap (λ (a : Asked). find_on a (finding_of c.new-finder.result c.new-found.result) c.args.bytes.now) c.new-finder.ensures.asked
    ∙ ap (λ (g : Finding). find_on c.args.asked g c.args.bytes.now) none in
    c.in_ok-finish.ensures.finds ∙ ap (λ (a : Asked). (find_ended a f).finds) asked ∙ ap (λ (g : Finding). (find_ended c.args.asked g).finds) known

pub returns-clause-passed : goal.returns-clause-passed
returns-clause-passed c =
    let asked = c.feed.ensures.asked ∙ c.new-finder.ensures.asked in
    let f = finding_of c.feed.new.self c.feed.new.found in
    let none = c.new-finder.ensures.finding c.new-found.result c.new-found.ensures.finds c.new-found.ensures.passed in
    let known : f ≡ find_on c.args.asked nothing_found c.args.bytes.now =
    c.in_ok-feed.ensures.finding ∙ ap (λ (a : Asked). find_on a (finding_of c.new-finder.result c.new-found.result) c.args.bytes.now) c.new-finder.ensures.asked
    ∙ ap (λ (g : Finding). find_on c.args.asked g c.args.bytes.now) none in
    c.in_ok-finish.ensures.passed ∙ ap (λ (a : Asked). (find_ended a f).passed) asked ∙ ap (λ (g : Finding). (find_ended c.args.asked g).passed) known

pub returns-clause-open : goal.returns-clause-open
returns-clause-open c =
    let f = finding_of c.feed.new.self c.feed.new.found in
    let none = c.new-finder.ensures.finding c.new-found.result c.new-found.ensures.finds c.new-found.ensures.passed in
    let known : f ≡ find_on c.args.asked nothing_found c.args.bytes.now =
    c.in_ok-feed.ensures.finding ∙ ap (λ (a : Asked). find_on a (finding_of c.new-finder.result c.new-found.result) c.args.bytes.now) c.new-finder.ensures.asked
    ∙ ap (λ (g : Finding). find_on c.args.asked g c.args.bytes.now) none in
    c.open-open.ensures ∙ ap (λ (g : Finding). g.place) known

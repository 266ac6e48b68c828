use Rattle.nap_cli.proofs.{ExplainLemmas.plain_utf8, false, true, ◌≡◌}
use Rattle.nap_cli.proofs.wrong.escaped_words.Goals as goal

-- what is shown is UTF-8
pub unreachable-requires : goal.unreachable-requires
unreachable-requires c =
    let no : false ≡ true = c.in_default.ensures.succeeds (plain_utf8 _ c.in_ok-escaped.ensures.plain) in
    cc

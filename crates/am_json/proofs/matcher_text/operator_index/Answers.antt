use Rattle.std.proofs.Common.{rules, tests}
use Rattle.std.proofs.lemmas.Iterator.Adapters.{YieldsList-from_bytes}
use Rattle.std.proofs.lemmas.Iterator.Search.{position_from_yields_List}
use Rattle.am_json.specs.MatcherText.{begins_operator}
use Rattle.am_json.proofs.matcher_text.operator_index.Goals as goal

pub returns : goal.returns
returns c =
    position_from_yields_List begins_operator _ _ _ c.position.ensures.ran (YieldsList-from_bytes c.args.text.now c.bytes.ensures.rest)
    (λ x b q k. search (rules, tests))

use Rattle.std.proofs.Common.{nat_eq, lit<, rules, tests}
use Rattle.std.proofs.lemmas.Iterator.Search.{any_from_yields_List}
use Rattle.std.proofs.lemmas.Iterator.Splits.{YieldsList-from_str_split}
use lib.Pointwise.{pointwise}
use Rattle.am_alerts.proofs.plain.is_one_of.Goals as goal

pub returns : goal.returns
returns c =
    any_from_yields_List (λ w. pointwise nat_eq w c.args.text.now) _ _ _ c.any.ensures.ran
    (YieldsList-from_str_split 0x7C c.args.pattern.now (lit< tt) c.split.ensures.text c.split.ensures.has_more c.split.ensures.pattern)
    (λ x b q k. search (rules, tests))

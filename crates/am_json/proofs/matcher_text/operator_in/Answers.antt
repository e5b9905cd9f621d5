use Rattle.am_json.proofs.MatcherTexts.{none_begins}
use Rattle.am_json.proofs.matcher_text.operator_in.Goals as goal

pub returns-in-None-clause-none : goal.returns-in-None-clause-none
returns-in-None-clause-none c none value op is =
    none_begins c.args.text.now c.in_default.ensures.cases c.in_default-strip_prefix.ensures.cases c.in_default-strip_prefix-2.ensures.cases
    c.in-None.ensures.cases value op is

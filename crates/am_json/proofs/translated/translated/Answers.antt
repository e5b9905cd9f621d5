use Rattle.std.proofs.Common.{◌≡◌, ◌∙◌, sym}
use Rattle.am_alerts.specs.Matcher.{takes_text}
use Rattle.am_patterns.specs.Simple.{is_simple}
use Rattle.am_json.proofs.Translations.{itself, or_simple}
use Rattle.am_json.proofs.translated.translated.Goals as goal

pub returns-then-takes_text-clause-value : goal.returns-then-takes_text-clause-value
returns-then-takes_text-clause-value c = itself c.args.written (sym c.takes_text.ensures ∙ c.if-takes_text.true)

pub returns-clause-unchanged : goal.returns-clause-unchanged
returns-clause-unchanged c stays =
    c.with_translation.ensures.unchanged
    (or_simple (takes_text c.args.written.op) (is_simple c.args.written.value) (sym c.takes_text.ensures ∙ c.if-takes_text.false) stays)

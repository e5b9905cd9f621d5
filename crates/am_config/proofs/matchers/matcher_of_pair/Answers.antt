use Rattle.std.proofs.Common.{refl}
use Rattle.std.proofs.lemmas.Result.{IfOk-weaker}
use Rattle.am_alerts.specs.declared.matcher.MatcherParts.{MatcherParts}
use Rattle.am_config.proofs.matchers.matcher_of_pair.Goals as goal

pub returns : goal.returns
returns c =
    let parts : MatcherParts = record { name = c.in_ok-new.field-0; op = c.args.op; value = c.in_ok-matched_text_of.field-0 } in
    IfOk-weaker c.matcher_of.result _ _
    (λ m is. record { written = parts; is = (c.in_ok-new.ensures, refl, c.in_ok-matched_text_of.ensures); translated = is }) c.matcher_of.ensures

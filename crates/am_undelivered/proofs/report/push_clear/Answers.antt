use Rattle.std.proofs.Common.{◌∙◌, ◌++◌, ℕ, List, ap, append_assoc, codes, false, string_bytes}
use Rattle.std.specs.Prelude.{is_some}
use Rattle.std.proofs.lemmas.Result.{on_ok_weaker}
use Rattle.am_undelivered.specs.Undelivered.{fate_text}
use Rattle.am_undelivered.proofs.report.push_clear.Goals as goal

pub returns : goal.returns
returns g c =
    let text = fate_text c.args.playbacks.now (g.C.TimeFormat.times c.args.clock.now) c.args.of.labels.now false (is_some c.args.of.span.now.ends) c.args.fate in
    on_ok_weaker c.push_fate.result
    (λ is.
    is ∙ ap (λ (b : List ℕ). b ++ text) c.in_ok-push_str.ensures.bytes
    ∙ append_assoc (string_bytes c.args.out.now) (codes "resolved unseen: ") text)
    c.push_fate.ensures

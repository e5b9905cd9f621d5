use Rattle.std.proofs.Common.{◌∙◌, sym, ap}
use Rattle.std.specs.Result.{result_unwrap_or}
use Rattle.am_alerts.specs.AlertData.{AlertData}
use Rattle.am_board.proofs.lemmas.insert.Sharing.{known_labels, made_is}
use Rattle.am_board.proofs.insert.with_known_labels.Goals as goal

pub returns : goal.returns
returns c =
    let found = known_labels c.args.alert c.args.known.now.items c.in-Some.i c.at.result.now (sym c.requires.index ∙ c.in-Some.is) in
    let known = ap (λ (k : AlertData). k.labels) c.at.ensures ∙ found in
    let labels = c.in-Ok.ensures ∙ (c.labels.ensures.labels ∙ known) in
    c.unwrap_or.ensures
    ∙ ap (λ r. result_unwrap_or r c.args.alert) c.new.ensures
    ∙ made_is c.args.alert c.in-Ok.labels c.starts.result c.ends.result labels c.starts.ensures.starts c.ends.ensures.ends

use Rattle.std.proofs.Common.{length}
use Rattle.std.proofs.lemmas.Result.{on_ok_weaker}
use Rattle.am_yaml.specs.Bytes.{IsGap}
use Rattle.am_yaml.specs.Spelling.{ends_at_once, ends_marked}
use Rattle.am_yaml.proofs.spelling.Spelling.end.Goals as goal

pub returns-in_default : goal.returns-in_default
returns-in_default c =
    let text = c.args.self.now.text.now in
    on_ok_weaker _ (λ (g : IsGap text c.args.spot.at (length text)). ends_at_once _ g) c.gap.ensures

pub returns : goal.returns
returns c =
    let text = c.args.self.now.text.now in
    on_ok_weaker _
    (λ (g : IsGap text c.in_ok-at.at (length text)).
    ends_marked _ _ c.in_ok-gap.ensures c.in_ok-at.ensures.1 (rw c.in_ok-at.ensures.0 at g))
    c.gap-3.ensures

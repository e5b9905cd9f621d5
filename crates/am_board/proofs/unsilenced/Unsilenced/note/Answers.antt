use Rattle.std.proofs.Common.{List, ◌++◌, ◌∷◌, [], sym, ap, ◌∙◌, subst}
use Rattle.std.specs.Prelude.{All}
use Rattle.am_alerts.specs.declared.labels.Label.{Label}
use Rattle.am_board.specs.Unsilenced.{IsUnsilenced}
use Rattle.am_board.proofs.lemmas.unsilenced.Unsilencing.{sets_more, starts_later}
use Rattle.am_board.proofs.unsilenced.Unsilenced.note.Goals as goal

pub returns : goal.returns
returns c silences are now =
    let since = c.args.self.now.since in
    let until = c.args.self.now.until in
    let t = c.args.t in
    let items = c.push_reserved.ensures.items ∙ ap (λ (sets : List (List Label)). sets ++ c.args.labels ∷ []) c.reserve.ensures.items in
    record {
      starts = starts_later since until t c.requires.since c.requires.until silences are.starts;
      sets =
          subst (All (IsUnsilenced silences t until)) (sym items)
          (sets_more since until t c.requires.since c.requires.until silences c.args.self.now.sets.items c.args.labels are.starts are.sets now);
    }

use Rattle.std.proofs.Common.{◌≡◌, ◌++◌, ◌∷◌, [], IfOk, List, subst}
use Rattle.json.specs.Print.{print}
use Rattle.json.specs.Token.{Token}
use Rattle.am_session.proofs.Making.{answered_taken}
use Rattle.am_session.specs.Session.{taken_tokens}
use Rattle.am_session.proofs.session.Session.history_line.Goals as goal

pub returns-clause-line : goal.returns-clause-line
returns-clause-line c =
    let board = c.args.self.now.board in
    let tokens : c.write_list.new.answer ≡ taken_tokens board =
    answered_taken board c.config.result.now c.kept.result.now c.new-answer.result c.write_list.new.answer
    c.config.ensures.config c.kept.ensures.records c.new-answer.ensures c.in_ok-write_list.ensures in
    subst (λ (t : List Token). IfOk c.into_line.result (λ line. line.items ≡ print t ++ 10 ∷ [])) tokens c.into_line.ensures.text

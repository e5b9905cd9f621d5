-- Logged: the JSON tokens of the answers to a note and to a finish, with the rows that they logged.
use Rattle.std.specs.Prelude.{List, ◌∷◌, ◌++◌, codes}
use Rattle.json.specs.Token.{Token, key}
use Rattle.am_model.specs.declared.config.Config.{Config}
use Rattle.am_model.specs.declared.record.Finished.{Finished}
use Rattle.am_model.specs.declared.views.RowView.{RowView}
use Rattle.am_protocol.specs.Answer.{array, number_member}
use Rattle.am_protocol.specs.Reply.{named}
use Rattle.am_protocol.specs.View.{row_tokens}

-- a note, and the row that it logged
abbrev pub noted_tokens : Config → RowView → List Token
noted_tokens config row = named (codes "noted") (key (codes "row") ∷ row_tokens config row)

-- a finish, and the rows that it logged
abbrev pub finished_tokens : Config → Finished → List RowView → List Token
finished_tokens config x rows =
    named (codes "finished")
    (number_member (codes "logged") x.logged ++ number_member (codes "removed") x.removed
    ++ key (codes "rows") ∷ array (row_tokens config) rows)

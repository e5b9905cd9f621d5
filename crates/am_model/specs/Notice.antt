-- Notice: a notice as contracts see it.
use Rattle.std.specs.Prelude.{ℕ, ◌==◌, ◌&&◌, Bool, not, List, length}
use Rattle.std.specs.List.{list_any}
use Rattle.am_alerts.specs.AlertData.{AlertData}
use Rattle.am_model.specs.declared.group.GroupName.{GroupName}

pub record NoticeData : Type 0 where
  pub board_id : ℕ
  pub ticket : ℕ
  pub deadline : ℕ
  pub group : GroupName
  pub integration : ℕ
  pub firing : List AlertData
  pub resolved : List AlertData

-- whether there is nothing to send
abbrev pub is_nothing : NoticeData → Bool
is_nothing n = (length n.firing == 0) && (length n.resolved == 0)

-- whether a notice of this integration has something to send
abbrev pub has_something_for : List NoticeData → ℕ → Bool
has_something_for notices integration = list_any (λ n. (n.integration == integration) && not (is_nothing n)) notices

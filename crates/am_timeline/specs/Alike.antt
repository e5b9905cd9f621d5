-- Alike: previews of two flushes of which the timeline has the same lines, save for their times.
use Rattle.std.specs.Prelude.{Bool, IsTrue, not}
use Rattle.std.specs.List.{list_all}
use Rattle.am_model.specs.declared.preview.Preview.{Preview}
use Rattle.am_model.specs.declared.reason.Reason.{Reason}
use Rattle.am_model.specs.look_back.Reasons.{notifies}
use Rattle.am_terms.specs.Like.{IsLike}
use Rattle.am_timeline.specs.Timeline.{is_on_edge}

-- whether nobody is notified for a reason
abbrev pub is_unasked : Reason → Bool
is_unasked reason = not (notifies reason)

-- whether a begin is on the edge for no integration
abbrev pub has_no_edge : Preview → Bool
has_no_edge o = list_all (λ reason. not (is_on_edge o.time reason)) o.reasons

-- previews that are like each other, with reasons for which nobody is notified, neither of them on the edge
abbrev pub AreAlike : Preview → Preview → Type 0
AreAlike o p = IsLike o p × IsTrue (list_all is_unasked o.reasons) × IsTrue (has_no_edge o) × IsTrue (has_no_edge p)

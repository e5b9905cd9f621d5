use Rattle.std.proofs.Common.{◌∙◌, sym}
use Rattle.am_yaml.specs.Spelling.{empty, tagged}
use Rattle.am_yaml.proofs.Views.{view_null, view_string}
use Rattle.am_yaml.proofs.spelling.Spelling.empty.Goals as goal

pub returns-then-is_tagged : goal.returns-then-is_tagged
returns-then-is_tagged c = λ anchors. rw (c.if-is_tagged.true, view_string c.new.result, c.new.ensures.bytes) (tagged _ _ _ _)

pub returns-then-allows_nothing : goal.returns-then-allows_nothing
returns-then-allows_nothing c = λ anchors.
    rw (c.if-is_tagged.false, view_null) (empty _ _ _ _ (sym c.allows_nothing.ensures ∙ c.if-allows_nothing.true))

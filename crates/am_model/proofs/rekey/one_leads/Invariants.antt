use Rattle.std.proofs.Common.{◌≡◌, false, take}
use Rattle.std.specs.List.{list_any}
use Rattle.am_model.specs.Insert.{names_for}
use Rattle.am_model.specs.State.{same_name}
use Rattle.am_model.proofs.rekey.one_leads.Given as goal

-- none so far leads there
abbrev pub invariant-loop-labels : goal.invariant-loop-labels
invariant-loop-labels l = list_any (λ labels. list_any (same_name l.group) (names_for l.config labels)) (take l.labels-index l.sets) ≡ false

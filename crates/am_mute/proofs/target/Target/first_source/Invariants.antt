use Rattle.std.proofs.Common.{◌≡◌, None, take, find}
use Rattle.am_mute.specs.Inhibit.{is_inhibited_by}
use Rattle.am_mute.proofs.target.Target.first_source.Given as goal

-- no alert so far is a source for the target, which is as it was
abbrev pub invariant-loop-alert : goal.invariant-loop-alert
invariant-loop-alert l =
    (find (is_inhibited_by l.initial.self.rule l.initial.self.t l.initial.self.labels) (take l.alert-index l.alerts) ≡ None)
    × (l.self ≡ l.initial.self)

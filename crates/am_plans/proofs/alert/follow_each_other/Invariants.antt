use Rattle.std.proofs.Common.{◌≡◌, Some, drop}
use Rattle.am_plans.specs.Decoding.{follow}
use Rattle.am_plans.proofs.alert.follow_each_other.Given as goal

-- all follow each other where those that are left follow the last end
abbrev pub invariant-loop-span : goal.invariant-loop-span
invariant-loop-span l = follow l.ended (drop l.span-index l.spans) ≡ follow (Some 0) l.spans

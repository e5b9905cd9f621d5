use Rattle.std.proofs.Common.{◌≡◌, false}
use Rattle.am_mute.specs.Silence.{silence_fault, silence_of}
use Rattle.am_plans.proofs.Decodings.{starved_by}
use Rattle.am_plans.proofs.Makes.{not_made}
use Rattle.am_plans.specs.Planned.{may_set}
use Rattle.am_plans.proofs.planned.add_silence.Goals as goal

pub returns-in_default-clause-refused : goal.returns-in_default-clause-refused
returns-in_default-clause-refused c refusal =
    let s = c.args.silence in
    not_made (silence_fault (silence_of 1 s.matchers.items s.from s.to)) _ _ c.in_default.ensures

pub returns-clause-refused : goal.returns-clause-refused
returns-clause-refused c = starved_by (may_set c.args.silence ≡ false) c.add.result c.add.ensures.starved

use Rattle.std.proofs.Common.{Option, Some, ap, arith, length, subst}
use Rattle.std.specs.Prelude.{◌≤◌, IsSomeAnd}
use Rattle.serde_json.proofs.Views.{members_len-members_view}
use Rattle.serde_json.specs.Data.{Members}
use Rattle.serde_json.specs.Events.{members_len}
use Rattle.serde_json.specs.View.{members_view}
use Rattle.am_config.specs.declared.hours.TheConstants.{MAX_ZONES}
use Rattle.am_protocol.specs.Hours.{AreZones}
use Rattle.am_protocol.proofs.hours.read_zones.Goals as goal

pub returns : goal.returns
returns c =
    let listed = c.in_ok-listed.listed in
    let zones = c.in_ok-read_listed.field-0.items in
    let few : length listed.members ≤ MAX_ZONES = omega (arith, ap length c.members.ensures, c.len.ensures.len, c.if-len-gt-MAX_ZONES.false) in
    let fits : members_len (members_view listed.members) ≤ MAX_ZONES = omega (arith, few, members_len-members_view listed.members) in
    subst (λ (o : Option Members). IsSomeAnd o (λ ms. AreZones ms zones × (members_len ms ≤ MAX_ZONES))) c.in_ok-listed.ensures.members
    (c.in_ok-read_listed.ensures, fits)

use Rattle.std.proofs.Common.{refl, sym, ap, ◌∙◌, subst}
use Rattle.jiff.specs.Words.{plain_zone}
use Rattle.am_hours.specs.Zones.{IsInJiff, ZoneData, zone_of}
use Rattle.am_hours.proofs.zone.Zone.time_zone.Goals as goal

pub returns-in-File : goal.returns-in-File
returns-in-File c =
    subst (λ (zone : ZoneData). IsInJiff zone (plain_zone c.tzif.result)) (sym (ap zone_of c.in-File.is) ∙ c.self.view_is)
    (_, c.tzif.ensures, refl)

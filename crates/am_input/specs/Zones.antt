-- Zones: the time zones that a story says.
use Rattle.std.specs.Prelude.{◌≤◌, ⊤, Option, Some, None, IsSome, IsSomeAnd}
use Rattle.serde_json.specs.Data.{Data, Members, no_members, member}
use Rattle.serde_json.specs.Events.{members_len}
use Rattle.serde_json.specs.Find.{as_object, as_str}
use Rattle.jiff.specs.Words.{read_whole}
use Rattle.am_input.specs.declared.zones.TheConstants.{MAX_ZONES}

-- a text that is the rule of a zone, as POSIX has it
abbrev pub IsZone : Data → Type 0
IsZone value = IsSomeAnd (as_str value) (λ rule. IsSome (read_whole rule))

-- each of these members is one
abbrev pub AreZones : Members → Type 0
AreZones no_members = ⊤
AreZones (member name value rest) = IsZone value × AreZones rest

-- the same of the members of an object, and they aren't too many; nothing has to be there
abbrev pub AreZonesIn : Option Data → Type 0
AreZonesIn None = ⊤
AreZonesIn (Some value) = IsSomeAnd (as_object value) (λ members. AreZones members × (members_len members ≤ MAX_ZONES))

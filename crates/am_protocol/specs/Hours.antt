-- Hours: the clocks of the time intervals of an `alertmanager.yml`, as a line says them.
use Rattle.std.specs.Prelude.{◌≡◌, ◌≤◌, ◌⊎◌, ℕ, ℤ, pos, ◌+ℤ◌, ◌*ℤ◌, int_div, List, [], ◌∷◌, Ok, IsSomeAnd, MatchOption, codes}
use Rattle.base64.specs.Engines.{standard}
use Rattle.base64.specs.GeneralPurpose.{decode_of}
use Rattle.serde_json.specs.Data.{Data, Members, no_members, member}
use Rattle.serde_json.specs.Events.{members_len}
use Rattle.serde_json.specs.Find.{as_object, as_str, get_member}
use Rattle.jiff.specs.Words.{parse_timestamp}
use Rattle.am_json.specs.Decoding.{Has, HasOr}
use Rattle.am_config.specs.declared.hours.Hours.{Hours}
use Rattle.am_config.specs.declared.hours.NamedZone.{NamedZone}
use Rattle.am_config.specs.declared.hours.TheConstants.{MAX_ZONES}
use Rattle.am_hours.specs.Zones.{IsOfFile, IsOfRule, ZoneData}
use Rattle.am_protocol.specs.Time.{IsNow, IsTime}
use Rattle.am_protocol.specs.declared.hours.TheConstants.{HORIZON}

-- a date and time (RFC 3339), in nanoseconds since 1970
abbrev pub IsInstant : Data → ℤ → Type 0
IsInstant value instant = IsSomeAnd (as_str value) (λ text. parse_timestamp text ≡ Ok instant)

-- a zone is the one in a file of which a text is the base64
abbrev pub IsOfEncoded : List ℕ → ZoneData → Type 0
IsOfEncoded text zone = (bytes : List ℕ) × (decode_of standard text ≡ Ok bytes) × IsOfFile bytes zone

-- a zone: its rule, as POSIX has it, or its file in base64
abbrev pub IsZone : Data → ZoneData → Type 0
IsZone value zone = IsSomeAnd (as_str value) (λ text. IsOfRule text zone ⊎ IsOfEncoded text zone)

-- each of these members is one, by its name
abbrev pub AreZones : Members → List NamedZone → Type 0
AreZones no_members [] = Unit {0}
AreZones no_members (z ∷ zs) = ⊥
AreZones (member name value rest) [] = ⊥
AreZones (member name value rest) (z ∷ zs) = (z.name ≡ name) × IsZone value z.zone × AreZones rest zs

-- the same of the members of an object, which aren't too many
abbrev pub ListsZones : Data → List NamedZone → Type 0
ListsZones value zones = IsSomeAnd (as_object value) (λ members. AreZones members zones × (members_len members ≤ MAX_ZONES))

-- clocks from a time on, where time 0 is at an instant: without `start` at the beginning of 1970
pub record HasHours (members : Members) (hours : Hours) : Type 0 where
  pub from : Has IsNow (codes "now") members hours.from
  pub origin : ℤ
  pub has_origin : HasOr IsInstant (pos 0) (codes "start") members origin
  pub start : hours.start.nanosecond ≡ (int_div origin (pos 1000000) +ℤ pos hours.from) *ℤ pos 1000000
  pub horizon : HasOr IsTime HORIZON (codes "horizon") members hours.horizon
  pub zones : HasOr ListsZones [] (codes "zones") members hours.zones.items

-- Clocks: by which clocks time intervals mute the routes of a story's configuration.
use Rattle.std.specs.Prelude.{◌≡◌, ◌≤◌, ◌+◌, ◌++◌, ◌&&◌, ℕ, ℤ, pos, ◌+ℤ◌, int_div, int_le, Bool, false, List, [], ◌∷◌}
use Rattle.std.specs.Prelude.{Option, Some, None, Ok, IsSomeAnd, codes}
use Rattle.std.specs.List.{All}
use Rattle.serde_json.specs.Data.{Data, Members, no_members, member}
use Rattle.serde_json.specs.Find.{as_object, as_str, get_member}
use Rattle.jiff.specs.Words.{parse_timestamp}
use Rattle.am_json.specs.Decoding.{Has}
use Rattle.am_config.specs.declared.hours.Hours.{Hours}
use Rattle.am_config.specs.declared.hours.NamedZone.{NamedZone}
use Rattle.am_hours.specs.Zones.{IsOfFile, IsOfRule, ZoneData}
use Rattle.am_input.specs.Zones.{AreZonesIn}
use Rattle.am_input.specs.declared.hours.TheConstants.{BEHIND, FIRST, LAST}
use Rattle.am_terms.specs.declared.rehearsal.TheConstants.{MAX_UNTIL}

-- a date and time (RFC 3339), in nanoseconds since 1970
abbrev pub IsInstant : Data → ℤ → Type 0
IsInstant value instant = IsSomeAnd (as_str value) (λ text. parse_timestamp text ≡ Ok instant)

-- whether clocks from an instant on, to this horizon, show the years 1 to 9999
abbrev pub fits_years : ℤ → ℕ → Bool
fits_years instant horizon =
    let from = int_div instant (pos 1000000) in int_le FIRST from && int_le (from +ℤ pos horizon) LAST

-- a zone is that of a rule, as POSIX has it
abbrev pub IsRuled : Data → ZoneData → Type 0
IsRuled value zone = IsSomeAnd (as_str value) (λ rule. IsOfRule rule zone)

-- these members are these zones, each with its name
abbrev pub ListsZones : Members → List NamedZone → Type 0
ListsZones no_members [] = Unit {0}
ListsZones no_members (z ∷ zs) = ⊥
ListsZones (member name value rest) [] = ⊥
ListsZones (member name value rest) (z ∷ zs) = (z.name ≡ name) × IsRuled value z.zone × ListsZones rest zs

-- the zones that a story says: none if the field is absent
abbrev pub SaysZones : Option Data → List NamedZone → Type 0
SaysZones None zones = zones ≡ []
SaysZones (Some value) zones = IsSomeAnd (as_object value) (λ members. ListsZones members zones)

-- a zone was read in a file
abbrev pub IsFiled : NamedZone → Type 0
IsFiled z = (bytes : List ℕ) × IsOfFile bytes z.zone

-- zones, and behind them others, from files
abbrev pub AddsFiled : List NamedZone → List NamedZone → Type 0
AddsFiled zones all = (files : List NamedZone) × (all ≡ zones ++ files) × All IsFiled files

-- the clocks of a story that ends at this time: from its start to 366 days behind its end. Of two zones of one name the story's counts
pub record HasClocks (until : ℕ) (members : Members) (hours : Hours) : Type 0 where
  pub start : Has IsInstant (codes "start") members hours.start.nanosecond
  pub from : hours.from ≡ 0
  pub horizon : hours.horizon ≡ until + BEHIND
  pub zones : List NamedZone
  pub says : SaysZones (get_member (codes "zones") members) zones
  pub all : AddsFiled zones hours.zones.items

-- the same, or none where the story doesn't say its start, or its clocks would leave the years 1 to 9999
abbrev pub AreClocksOf : ℕ → Members → Option Hours → Type 0
AreClocksOf until members (Some hours) = HasClocks until members hours
AreClocksOf until members None =
    (instant : ℤ) → Has IsInstant (codes "start") members instant → until ≤ MAX_UNTIL → AreZonesIn (get_member (codes "zones") members)
    → fits_years instant (until + BEHIND) ≡ false

-- clocks are these
abbrev pub AreGiven : Option Hours → Option Hours → Type 0
AreGiven given hours = hours ≡ given

-- any clocks, or none
abbrev pub AreAny : Option Hours → Type 0
AreAny hours = Unit {0}

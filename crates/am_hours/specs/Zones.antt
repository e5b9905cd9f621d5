-- Zones, by jiff.
use Rattle.std.specs.Prelude.{◌≡◌, ◌⊎◌, ℕ, List, Ok, Err}
use Rattle.std.specs.Borrow.{Bor}
use Rattle.jiff.specs.Placed.{IsPosixZone}
use Rattle.jiff.specs.Types.{TimeZone as JiffZone, Tzif as Table, TzifFault}
use Rattle.jiff.specs.Words.{plain_zone}
use Rattle.jiff_tz.specs.Tzif.{HasBadRule, tzif_view}
use Rattle.jiff_tz.specs.TzifReader.{read_tzif}
use Rattle.jiff_tz.specs.declared.tzif.Tzif.{Tzif}
use Rattle.am_hours.specs.declared.zone.ZoneFault.{ZoneFault}
use Rattle.am_hours.specs.declared.zone.ZoneFault.TheVariants.{BadRule, BadFile, NoMemory}
use Rattle.am_hours.specs.declared.zone.ZoneKind.{ZoneKind}
use Rattle.am_hours.specs.declared.zone.ZoneKind.TheVariants.{Rule, File}

-- a zone: jiff's own, or what jiff read in a file
pub data ZoneData : Type 0 where
  OfJiff : JiffZone → ZoneData
  OfFile : Tzif → ZoneData

-- what a zone is
abbrev pub zone_of : ZoneKind → ZoneData
zone_of (Rule zone) = OfJiff (plain_zone zone)
zone_of (File file) = OfFile file

-- jiff's zone is this one: the table of a file is behind a reference there
abbrev pub IsInJiff : ZoneData → JiffZone → Type 0
IsInJiff (OfJiff zone) given = given ≡ zone
IsInJiff (OfFile file) given = (table : Bor Tzif) × (given ≡ Table table) × (table.now ≡ file)

-- a zone is the one that jiff reads in a POSIX rule
abbrev pub IsOfRule : List ℕ → ZoneData → Type 0
IsOfRule text zone = (z : JiffZone) × (zone ≡ OfJiff z) × IsPosixZone text z

-- a zone is what jiff reads in the bytes of a file
abbrev pub IsOfFile : List ℕ → ZoneData → Type 0
IsOfFile bytes zone = (file : Tzif) × (zone ≡ OfFile file) × (read_tzif bytes ≡ Ok (tzif_view file))

-- jiff reads no zone in bytes, or one whose rule contradicts its table
abbrev pub IsNoFile : List ℕ → Type 0
IsNoFile bytes = ((fault : TzifFault) × (read_tzif bytes ≡ Err fault)) ⊎ HasBadRule (read_tzif bytes)

-- why bytes make no zone: jiff reads none, or there is no memory
abbrev pub IsFileFault : List ℕ → ZoneFault → Type 0
IsFileFault bytes BadFile = IsNoFile bytes
IsFileFault bytes NoMemory = Unit {0}
IsFileFault bytes BadRule = ⊥

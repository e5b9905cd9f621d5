-- Request: what a rehearsal asks for.
use Rattle.std.specs.Prelude.{◌≡◌, ℕ, List, [], codes, Option, Some, None, IsSomeAnd, IsTrue, if◌then◌else◌}
use Rattle.std.specs.Option.{option_and_then}
use Rattle.std.specs.Str.{bytes_eq}
use Rattle.serde_json.specs.Data.{Data, Members}
use Rattle.serde_json.specs.Find.{as_object, as_str, get_member}
use Rattle.am_json.specs.Configured.{config_compares_texts}
use Rattle.am_json.specs.Read.{Excludes, has_only, interval_in}
use Rattle.am_json.specs.Decoding.{IsList, HasNone, HasOr}
use Rattle.am_json.specs.declared.faults.Refusal.{Refusal}
use Rattle.am_json.specs.declared.faults.Refusal.TheVariants.{One, All}
use Rattle.am_json.specs.declared.reader.Mode.{Mode}
use Rattle.am_json.specs.declared.reader.Mode.TheVariants.{Strict}
use Rattle.am_terms.specs.declared.expectation.Expectation.{Expectation}
use Rattle.am_terms.specs.UtcDates.{IsReadFrom, StartData, dated}
use Rattle.am_terms.specs.TimeFormatData.{TimeFormatData, counted}
use Rattle.am_input.specs.Clocks.{AreClocksOf}
use Rattle.am_input.specs.Configured.{IsConfigFor, file_in, member_names}
use Rattle.am_input.specs.DispatcherChanges.{AreDispatcherChangesIn, AreDispatcherChangesWithoutRegexes}
use Rattle.am_plans.specs.Configs.{configs_of}
use Rattle.am_plans.specs.Decoding.{DecodesToOutage, have_targets}
use Rattle.am_plans.specs.Expected.{AreExpectedIn, HaveNoRegexIn, last_end, until_in}
use Rattle.am_plans.specs.Planned.{ArePlannedWithoutRegexes, ArePlannedIn}
use Rattle.am_terms.specs.declared.dispatcher_change.DispatcherChange.{DispatcherChange}
use Rattle.am_terms.specs.declared.rehearsal.Rehearsal.{Rehearsal}
use Rattle.am_input.specs.Zones.{AreZonesIn}
use Rattle.am_input.specs.declared.input.TheConstants.{MAINTAIN, REMOVE_EMPTY_GROUPS}
use Rattle.am_input.specs.declared.input.Output.{Output}
use Rattle.am_input.specs.declared.input.Changes.{Changes}
use Rattle.am_input.specs.declared.input.Output.TheVariants.{Timeline, Notices, Json, Html}

-- the output of a name
abbrev pub output_named : List ℕ → Option Output
output_named name =
    if bytes_eq name (codes "timeline") then Some Timeline
    else (if bytes_eq name (codes "notices") then Some Notices
    else (if bytes_eq name (codes "json") then Some Json else (if bytes_eq name (codes "html") then Some Html else None)))

-- the output that a member asks for; the timeline, where it isn't there
abbrev pub output_in : Option Data → Option Output
output_in None = Some Timeline
output_in (Some member) = option_and_then output_named (as_str member)

-- the output that is printed: what the command line says, or else a member
abbrev pub output_for : Option Output → Option Data → Option Output
output_for (Some output) _ = Some output
output_for None member = output_in member

-- a field decodes to a start: the time that its text is read as; none if the field is absent
abbrev pub DecodesToStart : Option Data → Option StartData → Type 0
DecodesToStart None start = start ≡ None
DecodesToStart (Some member) start = IsSomeAnd (as_str member) (λ text. IsSomeAnd start (IsReadFrom text))

-- times are dates where a start is given, and counted where none is
abbrev pub times_from : Option StartData → TimeFormatData
times_from None = counted
times_from (Some start) = dated start

-- when it ends: as the command line says, or else a member
abbrev pub end_for : Option ℕ → Members → Option ℕ
end_for (Some until) _ = Some until
end_for None members = until_in members

-- the time between two maintenances: a member, or 15 minutes where it isn't there
abbrev pub maintain_in : Option Data → Option ℕ
maintain_in None = Some MAINTAIN
maintain_in (Some member) = interval_in member

-- the time between two removals of empty groups: a member, or 30 seconds where it isn't there
abbrev pub ticks_in : Option Data → Option ℕ
ticks_in None = Some REMOVE_EMPTY_GROUPS
ticks_in (Some member) = interval_in member

-- these members, each of a known name, with what the command line says in place of some, ask for this output, give this start and have
-- these expectations, of a rehearsal that has the configuration, the actions, the outages and the upkeep that they say, and ends when
-- they say; their zones are the rules of zones; and these are the reloads and restarts that they say
pub record Requests (mode : Mode) (changes : Changes) (members : Members) (output : Output) (start : Option StartData)
    (expectations : List Expectation) (dispatcher_changes : List DispatcherChange) (rehearsal : Rehearsal) : Type 0 where
  pub known : IsTrue (has_only mode member_names members)
  pub configures : IsConfigFor (AreClocksOf rehearsal.until members) (file_in changes) mode members rehearsal.config
  pub hands_over : AreDispatcherChangesIn mode (file_in changes) rehearsal.until members dispatcher_changes
  pub zones : AreZonesIn (get_member (codes "zones") members)
  pub decodes : output_for changes.overrides.output (get_member (codes "output") members) ≡ Some output
  pub starts : DecodesToStart (get_member (codes "start") members) start
  pub ends : end_for changes.overrides.until members ≡ Some rehearsal.until
  pub maintains : maintain_in (get_member (codes "maintain") members) ≡ Some rehearsal.upkeep.maintain
  pub ticks : ticks_in (get_member (codes "remove_empty_groups") members) ≡ Some rehearsal.upkeep.remove_empty_groups
  pub plans : ArePlannedIn mode members rehearsal.plans.items
  pub outages : HasOr (IsList (DecodesToOutage mode)) [] (codes "outages") members rehearsal.outages.items
  pub targets : IsTrue (have_targets (configs_of rehearsal.config dispatcher_changes) rehearsal.outages.items)
  pub expects : AreExpectedIn mode (configs_of rehearsal.config dispatcher_changes) rehearsal.until (last_end rehearsal.until members)
      rehearsal.plans.items (get_member (codes "expect") members) expectations

-- a JSON value is an object whose members ask for this
abbrev pub IsRequestIn : Changes → Data → Output → Option StartData → List Expectation → List DispatcherChange → Rehearsal → Type 0
IsRequestIn changes value output start expectations dispatcher_changes rehearsal =
    IsSomeAnd (as_object value) (λ members. Requests Strict changes members output start expectations dispatcher_changes rehearsal)

-- what is asked for isn't refused: the configuration is the story's own and is in `config`, as that of each reload does, and no
-- matcher needs a regex. A story under a given file isn't among these: that a file of our own form isn't refused is said of the
-- file alone, by `own` of `read_configured`
pub record IsWithoutRegexes (mode : Mode) (changes : Changes) (members : Members) (dispatcher_changes : List DispatcherChange)
    (rehearsal : Rehearsal) : Type 0 where
  pub own : file_in changes ≡ None
  pub ours : HasNone (codes "alertmanager") members
  pub config : IsTrue (config_compares_texts rehearsal.config)
  pub hands_over : AreDispatcherChangesWithoutRegexes mode (file_in changes) rehearsal.until members dispatcher_changes
  pub plans : ArePlannedWithoutRegexes mode members rehearsal.plans.items
  pub expects : HaveNoRegexIn mode (get_member (codes "expect") members)

-- a refusal, for one fault or for many, excludes these
abbrev pub RefusesAll : {X : Type 0} → (X → Type 0) → Refusal → Type 0
RefusesAll Decodes (One fault) = Excludes Decodes fault
RefusesAll {X = X} Decodes (All faults) = (x : X) → Decodes x → ⊥

-- a JSON value is an object whose members ask for this, which isn't refused
abbrev pub IsRequestWithoutRegexes : Changes → Data → Output → Option StartData → List Expectation → List DispatcherChange → Rehearsal
    → Type 0
IsRequestWithoutRegexes changes value output start expectations dispatcher_changes rehearsal = IsSomeAnd (as_object value) (λ members.
    Requests Strict changes members output start expectations dispatcher_changes rehearsal
    × IsWithoutRegexes Strict changes members dispatcher_changes rehearsal)

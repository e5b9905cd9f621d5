-- Rehearsals: in every rehearsal the dispatchers ran, and what is listed of missed spans has its cause.
use Rattle.std.specs.Prelude.{All, List, map, None}
use Rattle.am_missed.specs.Causes.{HasCauses, HasRun, ShowsCauses}
use Rattle.am_simulation.specs.Parts.{PartData, parts_from, whole_part}
use Rattle.am_simulation.specs.Playing.{ArePlayed}
use Rattle.am_simulation.specs.declared.playing.PlayedPart.{PlayedPart}
use Rattle.am_terms.specs.declared.dispatcher_change.DispatcherChange.{DispatcherChange}
use Rattle.am_terms.specs.declared.rehearsal.Rehearsal.{Rehearsal}
use Rattle.am_timeline.specs.Playback.{PlaybackData}

-- the parts of a rehearsal with these changes of the dispatcher, one for each dispatcher
abbrev pub parts_with : Rehearsal → List DispatcherChange → List PartData
parts_with rehearsal changes = parts_from (whole_part rehearsal.config rehearsal.until rehearsal.plans.items) changes

-- these dispatchers played in it, one after another
abbrev pub ArePlayedIn : Rehearsal → List DispatcherChange → List PlayedPart → Type 0
ArePlayedIn rehearsal changes played = ArePlayed rehearsal.upkeep rehearsal.outages.items None (parts_with rehearsal changes) played

-- the playback of a dispatcher that played, of which `am-rehearse` prints what went undelivered
abbrev pub playback_of : PlayedPart → PlaybackData
playback_of p =
    record {
      config = p.played.value.board.config;
      history = p.played.value.board.history;
      begins = p.played.value.begins.items;
      events = p.played.value.events.items;
    }

-- what the playbacks of every rehearsal have
abbrev pub EveryRehearsal : (List PlaybackData → Type 0) → Type 0
EveryRehearsal P =
    (rehearsal : Rehearsal) (changes : List DispatcherChange) (played : List PlayedPart)
    → ArePlayedIn rehearsal changes played → P (map playback_of played)

-- each of its dispatchers ran
abbrev pub RehearsalsHaveRun : Type 0
RehearsalsHaveRun = EveryRehearsal (All HasRun)

-- each span of firing that an integration missed has the cause that is listed
abbrev pub RehearsalsHaveCauses : Type 0
RehearsalsHaveCauses = EveryRehearsal HasCauses

-- each cause that is listed is that of a flush, and whoever isn't listed has heard at one
abbrev pub RehearsalsShowCauses : Type 0
RehearsalsShowCauses = EveryRehearsal ShowsCauses

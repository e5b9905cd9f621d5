-- Printed: what is printed of a rehearsal that ran.
use Rattle.std.specs.Prelude.{◌≡◌, ◌==◌, ℕ, Bool, true, false, not, List, [], ◌∷◌, ◌++◌, codes, drop, length, map, Option, None}
use Rattle.std.specs.Prelude.{if◌then◌else◌}
use Rattle.std.specs.List.{AllByRecursion, list_all}
use Rattle.serde_json.specs.Data.{Data}
use Rattle.am_model.specs.Replay.{IsLegal}
use Rattle.am_simulation.specs.Parts.{parts_from, whole_part}
use Rattle.am_simulation.specs.Playing.{ArePlayed}
use Rattle.am_simulation.specs.declared.limits.TheConstants.{BOARD_ID}
use Rattle.am_simulation.specs.declared.playing.PlayedPart.{PlayedPart}
use Rattle.am_terms.specs.declared.dispatcher_change.DispatcherChange.{DispatcherChange}
use Rattle.am_terms.specs.declared.rehearsal.Rehearsal.{Rehearsal}
use Rattle.am_render.specs.Head.{change_of, head_text, heads_of}
use Rattle.am_render.specs.declared.head.Change.{Change}
use Rattle.am_render.specs.declared.head.Head.{Head}
use Rattle.am_render.specs.declared.output_options.OutputOptions.{OutputOptions}
use Rattle.am_timeline.specs.Changed.{changed}
use Rattle.am_timeline.specs.Filtered.{filtered}
use Rattle.am_terms.specs.declared.expectation.Expectation.{Expectation}
use Rattle.am_terms.specs.UtcDates.{StartData}
use Rattle.am_judge.specs.Expectation.{is_met}
use Rattle.am_judge.specs.ExpectationReport.{expectations_text}
use Rattle.am_timeline.specs.Json.{json_text}
use Rattle.am_timeline.specs.Notices.{notices_text}
use Rattle.am_timeline.specs.Playback.{LogbookData, PlaybackData}
use Rattle.am_timeline.specs.Runs.{short_timeline_text}
use Rattle.am_timeline.specs.Table.{table_text}
use Rattle.am_timeline.specs.Timeline.{timeline_text}
use Rattle.am_terms.specs.TimeFormatData.{TimeFormatData}
use Rattle.am_undelivered.specs.Undelivered.{undelivered_text}
use Rattle.am_input.specs.Request.{IsRequestIn, times_from}
use Rattle.am_input.specs.declared.input.Output.{Output}
use Rattle.am_input.specs.declared.input.Changes.{Changes}
use Rattle.am_input.specs.declared.input.Output.TheVariants.{Timeline, Full, Notices, Delivered, Json, Html}

-- what became of expectations, behind an empty line, if there are any
abbrev pub expectations_section : List PlaybackData → TimeFormatData → List Expectation → List ℕ
expectations_section playbacks times expectations =
    if length expectations == 0 then [] else codes "\n" ++ expectations_text playbacks times 0 expectations

-- whether an output is a page
abbrev pub is_page : Output → Bool
is_page Timeline = false
is_page Full = false
is_page Notices = false
is_page Delivered = false
is_page Json = false
is_page Html = true

-- whether an output has more than lines
abbrev pub has_summary : Output → Bool
has_summary Timeline = true
has_summary Full = true
has_summary Notices = false
has_summary Delivered = false
has_summary Json = false
has_summary Html = false

-- the rehearsal whose lines are wanted: with the events of the groups that are, and, where changes are, with those that say something new
abbrev pub selected : OutputOptions → PlaybackData → TimeFormatData → PlaybackData
selected options playback times =
    if options.changes then changed (filtered playback options.filter) times else filtered playback options.filter

-- whether the filter leaves an event
abbrev pub has_lines : OutputOptions → PlaybackData → Bool
has_lines options playback = not (length (filtered playback options.filter).events == 0)

-- what an output has of one dispatcher: the short timeline or the full one with the table below it, the notices alone, with those that
-- failed or without, or the lines as JSON. The lines are those of the rehearsal that is shown, and what is below them is that of the whole
-- one
abbrev pub shown_text : Output → PlaybackData → PlaybackData → TimeFormatData → List ℕ
shown_text Timeline shown playback times = short_timeline_text shown times ++ table_text playback times
shown_text Full shown playback times = timeline_text shown times ++ table_text playback times
shown_text Notices shown playback times = notices_text true shown times
shown_text Delivered shown playback times = notices_text false shown times
shown_text Json shown playback times = json_text shown times
shown_text Html shown playback times = []

abbrev pub part_text : Output → OutputOptions → TimeFormatData → PlaybackData → List ℕ
part_text output options times playback = shown_text output (selected options playback times) playback times

-- a line on a new dispatcher, in an output that has more than lines
abbrev pub head_for : Output → TimeFormatData → Head → List ℕ
head_for output times head = if has_summary output then head_text times head else []

-- what it has of these dispatchers, each behind its head
abbrev pub later_lines : Output → OutputOptions → TimeFormatData → List Head → List PlaybackData → List ℕ
later_lines output options times [] playbacks = []
later_lines output options times (h ∷ hs) [] = []
later_lines output options times (h ∷ hs) (p ∷ ps) =
    head_for output times h ++ part_text output options times p ++ later_lines output options times hs ps

-- what it has of all dispatchers, where the first needs no head
abbrev pub all_lines : Output → OutputOptions → TimeFormatData → List Head → List PlaybackData → List ℕ
all_lines output options times heads [] = []
all_lines output options times heads (p ∷ ps) = part_text output options times p ++ later_lines output options times heads ps

-- what is at the end: the spans of firing that an integration missed, and what became of the expectations
abbrev pub end_text : Output → List PlaybackData → TimeFormatData → List Expectation → List ℕ
end_text output playbacks times expectations =
    if has_summary output then undelivered_text playbacks times ++ expectations_section playbacks times expectations else []

-- the text is this output of these dispatchers, one after another. Of the page nothing is said
abbrev pub IsPrinted : Output → OutputOptions → List Head → List PlaybackData → TimeFormatData → List Expectation → List ℕ → Type 0
IsPrinted output options heads playbacks times expectations text =
    is_page output ≡ false
    → text ≡ all_lines output options times heads playbacks ++ end_text output playbacks times expectations

-- the logbook of a dispatcher, as it ran
abbrev pub log_of : PlayedPart → LogbookData
log_of p =
    record { config = p.played.value.board.config; history = p.played.value.board.history; begins = p.played.value.begins.items }

-- its playback: what its begins were to do, by its history, and its events, which name each begin that took a group once, in order
abbrev pub playback_of : PlayedPart → PlaybackData
playback_of p =
    record {
      config = p.played.value.board.config;
      history = p.played.value.board.history;
      begins = p.played.value.begins.items;
      events = p.played.value.events.items;
    }

-- its history is legal
abbrev pub HasLegalHistory : PlayedPart → Type 0
HasLegalHistory p = IsLegal p.played.value.board.config BOARD_ID p.played.value.board.history

-- the text is this output of dispatchers that ran and changed so, whose histories are legal; the lines are those that are wanted,
-- and `met` is whether it came as each of these expectations says
pub record IsOutputOf (changes : List Change) (played : List PlayedPart) (output : Output) (options : OutputOptions)
    (times : TimeFormatData) (expectations : List Expectation) (met : Bool) (text : List ℕ) : Type 0 where
  pub legal : AllByRecursion HasLegalHistory played
  pub judges : list_all (is_met (map playback_of played)) expectations ≡ met
  pub is : IsPrinted output options (heads_of changes (drop 1 played)) (map playback_of played) times expectations text

-- these dispatchers are those to which a rehearsal with these changes of the dispatcher plays, one after another
abbrev pub PlaysThrough : Rehearsal → List DispatcherChange → List PlayedPart → Type 0
PlaysThrough rehearsal dispatcher_changes played =
    ArePlayed rehearsal.upkeep rehearsal.outages.items None
    (parts_from (whole_part rehearsal.config rehearsal.until rehearsal.plans.items) dispatcher_changes) played

-- the text is this output of what a rehearsal with these changes of the dispatcher plays to
pub record IsOutputOfRun (rehearsal : Rehearsal) (dispatcher_changes : List DispatcherChange) (output : Output) (options : OutputOptions)
    (times : TimeFormatData) (expectations : List Expectation) (met : Bool) (text : List ℕ) : Type 0 where
  pub played : List PlayedPart
  pub plays : PlaysThrough rehearsal dispatcher_changes played
  pub tale : IsOutputOf (map change_of dispatcher_changes) played output options times expectations met text

-- the text is the output that a value asks for, of a rehearsal with the end and the maintenance that it asks for, by the times and
-- the expectations that it asks for, with the reloads and restarts that it says
pub record IsOutputFor (changes : Changes) (options : OutputOptions) (value : Data) (met : Bool) (text : List ℕ) : Type 0 where
  pub output : Output
  pub start : Option StartData
  pub expectations : List Expectation
  pub dispatcher_changes : List DispatcherChange
  pub rehearsal : Rehearsal
  pub requested : IsRequestIn changes value output start expectations dispatcher_changes rehearsal
  pub tale : IsOutputOfRun rehearsal dispatcher_changes output options (times_from start) expectations met text

-- of bytes that were taken before and now: what was taken since is the output that a value asks for
pub record WritesOutput (changes : Changes) (options : OutputOptions) (met : Bool) (value : Data) (taken_before taken : List ℕ)
    : Type 0 where
  pub text : List ℕ
  pub printed : IsOutputFor changes options value met text
  pub taken_is : taken ≡ taken_before ++ text

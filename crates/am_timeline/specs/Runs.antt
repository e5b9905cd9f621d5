-- Runs: flushes of one group that follow each other, send nothing and have the same lines. The timeline has one line for all of them.
use Rattle.std.specs.Prelude.{ℕ, ◌+◌, ◌≤◌, Bool, false, not, ◌&&◌, ◌==◌, List, [], ◌∷◌, ◌++◌, length, codes, decimal, map}
use Rattle.std.specs.Prelude.{Option, Some, None, get_or, set}
use Rattle.std.specs.Prelude.{◌≡◌, IfSome, slice_get, if◌then◌else◌}
use Rattle.std.specs.List.{flat_map, list_all}
use Rattle.std.specs.Option.{IsSomeAnd, option_map, option_map_or}
use Rattle.std.specs.Str.{bytes_eq}
use Rattle.am_model.specs.declared.group.GroupName.{GroupName}
use Rattle.am_model.specs.declared.record.Record.{Record}
use Rattle.am_model.specs.Notice.{is_nothing}
use Rattle.am_model.specs.State.{same_name}
use Rattle.am_terms.specs.declared.event.Event.{Event}
use Rattle.am_terms.specs.declared.event.Event.TheVariants.{Begun, Sent}
use Rattle.am_terms.specs.declared.event.PreviewedBegin.{PreviewedBegin}
use Rattle.am_timeline.specs.declared.runs.Run.{Run}
use Rattle.am_timeline.specs.Playback.{PlaybackData, notices_at, sent_of}
use Rattle.am_timeline.specs.Timeline.{FrameData, begun_lines, sent_line}
use Rattle.am_terms.specs.TimeFormatData.{TimeFormatData}

-- a flush: its group, when it began, and its lines, if it sends nothing
pub record FlushData : Type 0 where
  pub group : GroupName
  pub time : ℕ
  pub lines : List ℕ

-- whether a begin sends nothing: no notice of its flush has an alert
abbrev pub sends_nothing : List Record → PreviewedBegin → Bool
sends_nothing history begin = list_all is_nothing (notices_at history begin.index)

-- the frame of lines that are compared: all have the time of the rehearsal's start
abbrev pub start_frame : FrameData
start_frame = record { time = 0; ending = codes "\n" }

-- the lines of a begin that sends nothing, as if it were at the rehearsal's start; nothing where it sends something
abbrev pub quiet_text : PlaybackData → TimeFormatData → PreviewedBegin → List ℕ
quiet_text playback times begin =
    if sends_nothing playback.history begin then begun_lines playback times start_frame begin else []

-- the lines by which a begin is compared: its own; nothing where it sends something, unless all have lines
abbrev pub lines_by : Bool → PlaybackData → TimeFormatData → PreviewedBegin → List ℕ
lines_by all playback times begin =
    if all then begun_lines playback times start_frame begin else quiet_text playback times begin

-- the flush of a begin
abbrev pub flush_by : Bool → PlaybackData → TimeFormatData → PreviewedBegin → FlushData
flush_by all playback times begin =
    record { group = begin.preview.group; time = begin.preview.time; lines = lines_by all playback times begin }

-- the flush of each begin
abbrev pub flushes_by : Bool → PlaybackData → TimeFormatData → List FlushData
flushes_by all playback times = map (flush_by all playback times) playback.begins

-- whether there are lines, and those are the same
abbrev pub are_same_lines : List ℕ → List ℕ → Bool
are_same_lines some others = not (length some == 0) && bytes_eq some others

-- of flushes that follow each other those of a group, up to the first that has other lines than these
abbrev pub likes : GroupName → List ℕ → List FlushData → List FlushData
likes group lines [] = []
likes group lines (f ∷ later) =
    if same_name f.group group then (if are_same_lines lines f.lines then f ∷ likes group lines later else [])
    else likes group lines later

-- the time of the last of these flushes, or this one where there is none
abbrev pub last_time : ℕ → List FlushData → ℕ
last_time time [] = time
last_time time (f ∷ later) = last_time f.time later

-- a flush and these that are like it, as a run
abbrev pub run_with : FlushData → List FlushData → Run
run_with f more = record { count = length more + 1; until = last_time f.time more }

-- the run that a flush begins, if these follow it
abbrev pub run_of : FlushData → List FlushData → Run
run_of f later = run_with f (likes f.group f.lines later)

-- what becomes of a flush: whether it begins its run, and the run, from this flush on
pub record Fold : Type 0 where
  pub is_first : Bool
  pub run : Run

-- what becomes of a flush between those before it, the last of them first, and those after it: its run, and whether it begins it, as
-- none right before it in its group is like it
abbrev pub fold_of : List FlushData → FlushData → List FlushData → Fold
fold_of before f later = record { is_first = (run_of f before).count == 1; run = run_of f later }

-- what becomes of each of these flushes, if those are before them, the last of them first
abbrev pub folds_of : List FlushData → List FlushData → List Fold
folds_of before [] = []
folds_of before (f ∷ later) = fold_of before f later ∷ folds_of (f ∷ before) later

-- when the last flush of a run begins
abbrev pub until_text : TimeFormatData → ℕ → List ℕ
until_text times until = codes " flushes until " ++ times.text until

-- how many flushes a run has, and when the last one begins
abbrev pub count_text : TimeFormatData → Run → List ℕ
count_text times run = codes "; " ++ decimal run.count ++ until_text times run.until

-- the same; nothing for a run of one
abbrev pub run_text : TimeFormatData → Run → List ℕ
run_text times run = if run.count == 1 then [] else count_text times run

-- the frame of a run's lines
abbrev pub run_frame : TimeFormatData → Run → PreviewedBegin → FrameData
run_frame times run begin = record { time = begin.preview.time; ending = run_text times run ++ codes "\n" }

-- the lines on a begin: those of its run, if it begins it
abbrev pub folded_lines : PlaybackData → TimeFormatData → PreviewedBegin → Fold → List ℕ
folded_lines playback times begin fold =
    if fold.is_first then begun_lines playback times (run_frame times fold.run begin) begin else []

-- the lines on a begin, which is at this position, with what becomes of each begin
abbrev pub lines_at : PlaybackData → TimeFormatData → List Fold → ℕ → PreviewedBegin → List ℕ
lines_at playback times folds position begin = option_map_or (folded_lines playback times begin) (slice_get folds position) []

-- the lines on the begin at a position, with what becomes of each begin
abbrev pub folded_begun : PlaybackData → TimeFormatData → List Fold → ℕ → List ℕ
folded_begun playback times folds position =
    option_map_or (lines_at playback times folds position) (slice_get playback.begins position) []

-- the lines on an event, with what becomes of each begin
abbrev pub folded_event_lines : PlaybackData → TimeFormatData → List Fold → Event → List ℕ
folded_event_lines playback times folds (Begun begin) = folded_begun playback times folds begin
folded_event_lines playback times folds (Sent begin report) =
    option_map_or (sent_line playback times) (sent_of playback (Sent begin report)) []

-- what becomes of each begin
abbrev pub begins_folded : PlaybackData → TimeFormatData → List Fold
begins_folded playback times = folds_of [] (flushes_by false playback times)

-- short timeline: the lines on all events, with one begin's for each run
abbrev pub short_timeline_text : PlaybackData → TimeFormatData → List ℕ
short_timeline_text playback times = flat_map (folded_event_lines playback times (begins_folded playback times)) playback.events

-- the indexes of those that begin their runs, if these are from this index on
abbrev pub starts_from : ℕ → List Fold → List ℕ
starts_from index [] = []
starts_from index (f ∷ folds) = if f.is_first then index ∷ starts_from (index + 1) folds else starts_from (index + 1) folds

-- the runs that these begin
abbrev pub runs_begun : List Fold → List Run
runs_begun [] = []
runs_begun (f ∷ folds) = if f.is_first then f.run ∷ runs_begun folds else runs_begun folds

-- the indexes of those that begin their runs, and the runs
abbrev pub first_runs : List Fold → List ℕ × List Run
first_runs folds = (starts_from 0 folds, runs_begun folds)

-- the run that begins at an index, if one does
abbrev pub run_at : ℕ → List ℕ → List Run → Option Run
run_at index [] runs = None
run_at index (start ∷ starts) [] = None
run_at index (start ∷ starts) (r ∷ runs) = if start == index then Some r else run_at index starts runs

-- indexes in order, each one once, from this one on
abbrev pub IsRising : ℕ → List ℕ → Type 0
IsRising low [] = Unit {0}
IsRising low (p ∷ indexes) = (low ≤ p) × IsRising (p + 1) indexes

-- the lines on a begin that begins a run
abbrev pub run_lines : PlaybackData → TimeFormatData → PreviewedBegin → Run → List ℕ
run_lines playback times begin run = begun_lines playback times (run_frame times run begin) begin

-- the lines on a begin, which is at this index: those of the run that begins there, if one does
abbrev pub lines_by_runs : PlaybackData → TimeFormatData → List ℕ × List Run → ℕ → PreviewedBegin → List ℕ
lines_by_runs playback times folds index begin = option_map_or (run_lines playback times begin) (run_at index folds.0 folds.1) []

-- the lines on an event, with these runs
abbrev pub event_lines_by_runs : PlaybackData → TimeFormatData → List ℕ × List Run → Event → List ℕ
event_lines_by_runs playback times folds (Begun begin) =
    option_map_or (lines_by_runs playback times folds begin) (slice_get playback.begins begin) []
event_lines_by_runs playback times folds (Sent begin report) =
    option_map_or (sent_line playback times) (sent_of playback (Sent begin report)) []

-- a run of one flush that began at this time
abbrev pub single : ℕ → Run
single time = record { count = 1; until = time }

-- these runs, where the one of a number has one more flush, which began at this time
abbrev pub grown : ℕ → ℕ → List Run → List Run
grown number time runs = set runs number (record { count = (get_or runs number (single time)).count + 1; until = time })

-- what is kept of the last flush of a group, save its index: its lines, and the number of its run
abbrev pub kept_run : Option (ℕ × (List ℕ × ℕ)) → Option (List ℕ × ℕ)
kept_run last = option_map (λ l. l.1) last

-- whether a flush with these lines is in the run of the last flush of its group
abbrev pub is_like_last : List ℕ → Option (List ℕ × ℕ) → Bool
is_like_last lines None = false
is_like_last lines (Some last) = are_same_lines last.0 lines

-- the number of the run of a flush with these lines, if there are so many runs so far
abbrev pub number_with : List ℕ → ℕ → Option (List ℕ × ℕ) → ℕ
number_with lines size None = size
number_with lines size (Some last) = if are_same_lines last.0 lines then last.1 else size

-- what is kept of a flush at an index with these lines
abbrev pub kept_of : ℕ → List ℕ → ℕ → Option (List ℕ × ℕ) → ℕ × (List ℕ × ℕ)
kept_of index lines size last = (index, (lines, number_with lines size last))

-- the runs so far, with a flush at a time with these lines
abbrev pub runs_with : ℕ → List ℕ → Option (List ℕ × ℕ) → List Run → List Run
runs_with time lines None runs = runs ++ single time ∷ []
runs_with time lines (Some last) runs = if are_same_lines last.0 lines then grown last.1 time runs else runs ++ single time ∷ []

-- the indexes of the first flushes of the runs so far, with a flush at an index with these lines
abbrev pub starts_with : ℕ → List ℕ → Option (List ℕ × ℕ) → List ℕ → List ℕ
starts_with index lines last starts = if is_like_last lines last then starts else starts ++ index ∷ []

-- what is kept has the lines of the begin at its index
abbrev pub HasLines : Bool → PlaybackData → TimeFormatData → ℕ × (List ℕ × ℕ) → Type 0
HasLines all playback times n = IfSome (slice_get playback.begins n.0) (λ b. n.1.0 ≡ lines_by all playback times b)

-- the begin at an index is compared by the same lines as this one
abbrev pub IsComparedAs : Bool → PlaybackData → PreviewedBegin → ℕ → Type 0
IsComparedAs all playback begin index =
    (times : TimeFormatData)
    → IsSomeAnd (slice_get playback.begins index) (λ b. lines_by all playback times b ≡ lines_by all playback times begin)

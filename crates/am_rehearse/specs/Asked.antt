-- Asked: what the command line of `play` asks for.
use Rattle.std.specs.Prelude.{◌≡◌, ◌≤◌, ◌<◌, ℕ, Bool, true, not, ◌&&◌, ◌||◌, List, codes, map, Option, Some, None, IsSomeAnd, IsTrue}
use Rattle.std.specs.Prelude.{if◌then◌else◌, is_some, option_map, unwrap_or}
use Rattle.std.specs.Str.{bytes_eq}
use Rattle.am_alerts.specs.Duration.{duration_of}
use Rattle.am_command_line.specs.declared.request.PlayRequest.{PlayRequest}
use Rattle.am_console.specs.MatcherWords.{WriteMatchers}
use Rattle.am_input.specs.Request.{output_named}
use Rattle.am_input.specs.declared.input.Output.{Output}
use Rattle.am_input.specs.declared.input.Output.TheVariants.{Timeline, Full, Delivered}
use Rattle.am_input.specs.declared.input.Overrides.{Overrides}
use Rattle.am_terms.specs.declared.rehearsal.TheConstants.{MAX_UNTIL}
use Rattle.am_rehearse.specs.declared.asked.RequestFault.{RequestFault}
use Rattle.am_rehearse.specs.declared.asked.RequestFault.TheVariants.{NotNotices, NotTimeline, NoEnd}
use Rattle.am_render.specs.declared.output_options.OutputOptions.{OutputOptions}

-- the name that `--output` gives, if it is given
abbrev pub output_text : PlayRequest → Option (List ℕ)
output_text request = option_map (λ text. text.now) request.output

-- the text that `--until` gives
abbrev pub until_text : PlayRequest → Option (List ℕ)
until_text request = option_map (λ text. text.now) request.until

-- no output is asked for, or the one of this name
abbrev pub is_no_other : List ℕ → Option (List ℕ) → Bool
is_no_other name None = true
is_no_other name (Some asked) = bytes_eq asked name

-- the output of a name; the timeline, where it is another
abbrev pub named_output : List ℕ → Output
named_output name = unwrap_or (output_named name) Timeline

-- the output in place of the stories' own: `--no-failures` asks for the delivered notices, `--all` for all lines, `--output` for a name's
abbrev pub output_asked : PlayRequest → Option Output
output_asked request =
    if request.no_failures then Some Delivered
    else (if request.all then Some Full else option_map named_output (output_text request))

-- the end in place of the stories' own: the duration that a text denotes, no longer than a rehearsal can be
abbrev pub IsEnd : Option (List ℕ) → Option ℕ → Type 0
IsEnd None until = until ≡ None
IsEnd (Some text) until = IsSomeAnd until (λ v. (duration_of text ≡ Some v) × (v ≤ MAX_UNTIL))

-- this is what the command line says in place of the stories' own output and end
pub record AsksFor (request : PlayRequest) (overrides : Overrides) : Type 0 where
  pub output : overrides.output ≡ output_asked request
  pub until : IsEnd (until_text request) overrides.until

-- a text is no duration that a rehearsal can have
abbrev pub IsNoEnd : List ℕ → Type 0
IsNoEnd text = (v : ℕ) → duration_of text ≡ Some v → MAX_UNTIL < v

-- the end is refused for this fault
abbrev pub IsWrongEnd : Option (List ℕ) → RequestFault → Type 0
IsWrongEnd until NotNotices = ⊥
IsWrongEnd until NotTimeline = ⊥
IsWrongEnd until (NoEnd text) = (until ≡ Some text.now) × IsNoEnd text.now

-- and so is the output
abbrev pub IsWrongOutput : PlayRequest → RequestFault → Type 0
IsWrongOutput request NotNotices =
    IsTrue (request.no_failures && (request.all || not (is_no_other (codes "notices") (output_text request))))
IsWrongOutput request NotTimeline =
    IsTrue (not request.no_failures && request.all && not (is_no_other (codes "timeline") (output_text request)))
IsWrongOutput request (NoEnd text) = ⊥

-- a command line asks for nothing that can be played, for this fault
abbrev pub IsWrongIn : PlayRequest → RequestFault → Type 0
IsWrongIn request NotNotices = IsWrongOutput request NotNotices
IsWrongIn request NotTimeline = IsWrongOutput request NotTimeline
IsWrongIn request (NoEnd text) = IsWrongEnd (until_text request) (NoEnd text)

-- and there is such a fault
abbrev pub IsWrong : PlayRequest → Type 0
IsWrong request = (fault : RequestFault) × IsWrongIn request fault

-- what the command line wants to see of a rehearsal: the flushes of these groups, all or only those that say something new, and whether
-- a report on the expectations
pub record AsksToSee (request : PlayRequest) (options : OutputOptions) : Type 0 where
  pub receiver : options.filter.receiver ≡ option_map (λ text. text.now) request.selection.receiver
  pub route : options.filter.route ≡ option_map (λ text. text.now) request.selection.group
  pub alerts : WriteMatchers (map (λ text. text.now) request.selection.alerts.items) options.filter.matchers
  pub changes : options.changes ≡ request.selection.changes
  pub junit : options.junit ≡ is_some request.junit

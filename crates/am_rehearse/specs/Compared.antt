-- Compared: what is said of one story under two configurations.
use Rattle.std.specs.Prelude.{◌≡◌, ◌↔◌, ℕ, Bool, false, List, [], ◌∷◌, ◌++◌, codes, length, map, None, Some, option_map}
use Rattle.std.specs.List.{AllZip}
use Rattle.serde_json.specs.Data.{Data}
use Rattle.am_command_line.specs.declared.request.CompareRequest.{CompareRequest}
use Rattle.am_commands.specs.Accepted.{IsAccepted}
use Rattle.am_input.specs.Request.{times_from}
use Rattle.am_input.specs.declared.input.Input.{Input}
use Rattle.am_input.specs.declared.input.Overrides.{Overrides}
use Rattle.am_simulation.specs.declared.playing.PlayedPart.{PlayedPart}
use Rattle.am_rehearse.specs.Asked.{IsEnd}
use Rattle.am_render.specs.Head.{change_of}
use Rattle.am_render.specs.Printed.{PlaysThrough, playback_of}
use Rattle.am_rehearse.specs.declared.compare.PlayedStory.{PlayedStory}
use Rattle.am_render.specs.declared.head.Change.{Change}
use Rattle.am_terms.specs.TimeFormatData.{TimeFormatData, column}
use Rattle.am_terms.specs.declared.dispatcher_change.Carryover.{Carryover}
use Rattle.am_terms.specs.declared.dispatcher_change.Carryover.TheVariants.{All, Log, Nothing}
use Rattle.am_timeline.specs.Comparison.{SameNotices, delivered_notices, no_difference_text}

-- two dispatchers delivered the same notices at the same times
abbrev pub SamePart : PlayedPart → PlayedPart → Type 0
SamePart old new = SameNotices (playback_of old) (playback_of new)

-- there are as many dispatchers, and each delivered what the one at its place did
abbrev pub SameParts : List PlayedPart → List PlayedPart → Type 0
SameParts old new = AllZip SamePart old new

-- what became of the dispatcher before
abbrev pub change_word : Carryover → List ℕ
change_word All = codes "reload\n\n"
change_word Log = codes "restart\n\n"
change_word Nothing = codes "restart\n\n"

-- the line on a change of dispatchers, between empty lines
abbrev pub change_text : TimeFormatData → Change → List ℕ
change_text times c = codes "\n" ++ column times c.at ++ change_word c.carryover

-- that nothing differs in what a dispatcher delivered
abbrev pub same_text : PlayedPart → List ℕ
same_text p = no_difference_text (length (delivered_notices (playback_of p)))

-- the same of the dispatchers after the first, each behind the line on its change
abbrev pub later_text : TimeFormatData → List Change → List PlayedPart → List ℕ
later_text times changes [] = []
later_text times [] (p ∷ ps) = same_text p ++ later_text times [] ps
later_text times (c ∷ cs) (p ∷ ps) = change_text times c ++ same_text p ++ later_text times cs ps

-- the same of all dispatchers
abbrev pub all_same_text : TimeFormatData → List Change → List PlayedPart → List ℕ
all_same_text times changes [] = []
all_same_text times changes (p ∷ ps) = same_text p ++ later_text times changes ps

-- what is added is the line on the first of some changes, if there is one, and these are the others
abbrev pub IsPushed : TimeFormatData → List Change → List Change → List ℕ → List ℕ → Type 0
IsPushed times [] later before after = (later ≡ []) × (after ≡ before)
IsPushed times (c ∷ cs) later before after = (later ≡ cs) × (after ≡ before ++ change_text times c)

-- whether two plays differ, and the text on it where they don't
pub record IsComparison (times : TimeFormatData) (changes : List Change) (old new : List PlayedPart) (differs : Bool) (text : List ℕ)
    : Type 0 where
  pub same : (differs ≡ false) ↔ SameParts old new
  pub text_is : differs ≡ false → text ≡ all_same_text times changes old

-- a story's value asks for this input under the value of a configuration, and the input plays to this
pub record IsPlayUnder (overrides : Overrides) (story config : Data) (input : Input) (parts : List PlayedPart) : Type 0 where
  pub accepted : IsAccepted (Some config) overrides story input
  pub plays : PlaysThrough input.rehearsal input.dispatcher_changes.items parts

-- a story that ran is what a story's value comes to under the value of a configuration
pub record IsPlayed (overrides : Overrides) (story config : Data) (played : PlayedStory) : Type 0 where
  pub input : Input
  pub play : IsPlayUnder overrides story config input played.parts.items
  pub started : played.start ≡ input.start
  pub changed : played.changes.items ≡ map change_of input.dispatcher_changes.items

-- what a story's value comes to under the values of two configurations differs or not, and the text is what is said of it
pub record ComparesStory (overrides : Overrides) (story old_config new_config : Data) (differs : Bool) (text : List ℕ) : Type 0 where
  pub old_input : Input
  pub old_parts : List PlayedPart
  pub old : IsPlayUnder overrides story old_config old_input old_parts
  pub new_input : Input
  pub new_parts : List PlayedPart
  pub new : IsPlayUnder overrides story new_config new_input new_parts
  pub compared : IsComparison (times_from old_input.start) (map change_of old_input.dispatcher_changes.items) old_parts new_parts differs
      text

-- what was written since is, once and whole, what is said of the value of a story under the values of two configurations, with the end
-- that a command line gives. The story's value may have the configurations of other files in it. Not stated: that the values are those
-- of the files that the command line names
pub record ComparesFiles (request : CompareRequest) (differs : Bool) (taken_before taken : List ℕ) : Type 0 where
  pub overrides : Overrides
  pub output : overrides.output ≡ None
  pub until : IsEnd (option_map (λ text. text.now) request.until) overrides.until
  pub story : Data
  pub old_config : Data
  pub new_config : Data
  pub text : List ℕ
  pub compares : ComparesStory overrides story old_config new_config differs text
  pub taken_is : taken ≡ taken_before ++ text

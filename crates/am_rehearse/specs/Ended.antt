-- Ended: how the play of a story ends, and why.
use Rattle.std.specs.Prelude.{◌≡◌, ◌==◌, ◌<◌, ◌⊎◌, ◌&&◌, ◌||◌, ◌++◌, ℕ, zero, suc, Bool, true, false, not, List, [], codes, length, map}
use Rattle.std.specs.Prelude.{None, Some, Result, Ok, Err, IsSomeAnd, if◌then◌else◌, is_some, nat_lt, option_and_then}
use Rattle.std.specs.List.{list_any}
use Rattle.std.specs.Str.{bytes_eq}
use Rattle.serde_json.specs.Data.{Data}
use Rattle.serde_json.specs.Find.{as_str, get}
use Rattle.am_alerts.specs.RoutingTree.{routes_in}
use Rattle.am_command_line.specs.ExitStatus.{code_of}
use Rattle.am_command_line.specs.declared.exit_status.ExitStatus.{ExitStatus}
use Rattle.am_command_line.specs.declared.exit_status.ExitStatus.TheVariants as status
use Rattle.am_command_line.specs.declared.request.PlayRequest.{PlayRequest}
use Rattle.am_command_line.specs.declared.request.Selection.{Selection}
use Rattle.am_console.specs.MatcherWords.{HasNoMatcher}
use Rattle.am_input.specs.Request.{IsRequestIn}
use Rattle.am_input.specs.declared.input.Changes.{Changes}
use Rattle.am_input.specs.declared.input.Input.{Input}
use Rattle.am_input.specs.declared.input.Overrides.{Overrides}
use Rattle.am_model.specs.Config.{has_receiver}
use Rattle.am_model.specs.declared.config.Config.{Config}
use Rattle.am_plans.specs.Configs.{configs_of}
use Rattle.am_rehearse.specs.Asked.{AsksFor, AsksToSee}
use Rattle.am_render.specs.Faults.{FaultEndsWith, Refuses, status_of}
use Rattle.am_render.specs.Printed.{WritesOutput}
use Rattle.am_render.specs.declared.fault.RehearseFault.{RehearseFault}
use Rattle.am_render.specs.declared.fault.RehearseFault.TheVariants as rehearse
use Rattle.am_render.specs.declared.output_options.OutputOptions.{OutputOptions}

-- what a run of a story came to ends with this status
abbrev pub EndsWith : {X : Type 0} → Result X RehearseFault → ExitStatus → Type 0
EndsWith (Ok done) end = (end ≡ status.Done) ⊎ (end ≡ status.NoMemory)
EndsWith (Err fault) end = FaultEndsWith fault end

-- what was written since is, once and whole, what a command line and the value of a story ask for; `met` is whether it came as each
-- expectation says
pub record PlaysStory (request : PlayRequest) (changes : Changes) (met : Bool) (value : Data) (taken_before taken : List ℕ)
    : Type 0 where
  pub options : OutputOptions
  pub asked : AsksToSee request options
  pub writes : WritesOutput changes options met value taken_before taken

-- one of several stories asks for a page itself
pub record IsPageOfSeveral (is_alone : Bool) (changes : Changes) (value : Data) : Type 0 where
  pub several : is_alone ≡ false
  pub itself : changes.overrides.output ≡ None
  pub page : option_and_then as_str (get (codes "output") value) ≡ Some (codes "html")

-- whether a configuration has a route of this name
abbrev pub has_route : Config → List ℕ → Bool
has_route config name = list_any (λ r. bytes_eq r.name name) (routes_in config.routes)

-- whether one of the configurations has a receiver, or a route, of this name
abbrev pub some_has_receiver : List Config → List ℕ → Bool
some_has_receiver configs name = list_any (λ c. has_receiver c.receivers name) configs

abbrev pub some_has_route : List Config → List ℕ → Bool
some_has_route configs name = list_any (λ c. has_route c name) configs

-- none of the configurations has the receiver, or the route, that the command line names
abbrev pub LacksName : Selection → List Config → Type 0
LacksName selection configs =
    IsSomeAnd selection.receiver (λ name. some_has_receiver configs name.now ≡ false)
    ⊎ IsSomeAnd selection.group (λ name. some_has_route configs name.now ≡ false)

-- the command line names a receiver or a route that is in no configuration of the story, which can be read
pub record NamesUnknown (selection : Selection) (changes : Changes) (value : Data) : Type 0 where
  pub input : Input
  pub lacks : LacksName selection (configs_of input.rehearsal.config input.dispatcher_changes.items)
  pub requested : IsRequestIn changes value input.output input.start input.expectations.items input.dispatcher_changes.items
      input.rehearsal

-- the value is refused
pub record IsRefused (changes : Changes) (value : Data) : Type 0 where
  pub fault : RehearseFault
  pub rejects : status_of fault ≡ 2
  pub refuses : Refuses changes value fault

-- why the play of a story is rejected: for its own page, for what the command line names, for a matcher of it, or for its value
abbrev pub RejectsStory : PlayRequest → Bool → Changes → Data → Type 0
RejectsStory request is_alone changes value =
    IsPageOfSeveral is_alone changes value ⊎ NamesUnknown request.selection changes value
    ⊎ HasNoMatcher (map (λ text. text.now) request.selection.alerts.items) ⊎ IsRefused changes value

-- the status of stories so far with that of another: the least that isn't `Done`, if there is one
abbrev pub joined_status : ExitStatus → ExitStatus → ExitStatus
joined_status so_far end =
    if code_of end == 0 then so_far
    else (if (code_of so_far == 0) || nat_lt (code_of end) (code_of so_far) then end else so_far)

-- whether a status ends the play of all stories, and isn't that of any
abbrev pub is_stop : ExitStatus → Bool
is_stop end = not (code_of end == 0) && not (code_of end == 5)

-- the same of a file's story, whose value may have the configurations of other files in it
pub record PlaysFile (request : PlayRequest) (changes : Changes) (met : Bool) (taken_before taken : List ℕ) : Type 0 where
  pub value : Data
  pub plays : PlaysStory request changes met value taken_before taken

-- what was written since is a line above a story, or nothing, as where it is alone
pub record IsHeaded (is_alone : Bool) (taken_before taken : List ℕ) : Type 0 where
  pub head : List ℕ
  pub bare : is_alone ≡ true → head ≡ []
  pub taken_is : taken ≡ taken_before ++ head

-- and behind it the output of a story
pub record PlaysOne (request : PlayRequest) (changes : Changes) (is_alone met : Bool) (taken_before taken : List ℕ) : Type 0 where
  pub between : List ℕ
  pub headed : IsHeaded is_alone taken_before between
  pub plays : PlaysFile request changes met between taken

-- the outputs of so many stories, one behind the other; `met` is whether each came as each of its expectations says
abbrev pub PlaysEach : PlayRequest → Changes → Bool → Bool → ℕ → List ℕ → List ℕ → Type 0
PlaysEach request changes is_alone met zero taken_before taken = (met ≡ true) × (taken ≡ taken_before)
PlaysEach request changes is_alone met (suc n) taken_before taken =
    (so_far last : Bool) × (between : List ℕ) × (met ≡ (so_far && last))
    × PlaysEach request changes is_alone so_far n taken_before between × PlaysOne request changes is_alone last between taken

-- and so under the configuration of a file, if the command line names one, and with what it says in place of their own
pub record PlaysUnder (request : PlayRequest) (overrides : Overrides) (is_alone met : Bool) (stories : ℕ) (taken_before taken : List ℕ)
    : Type 0 where
  pub changes : Changes
  pub overrides_are : changes.overrides ≡ overrides
  pub configured : is_some changes.config ≡ is_some request.config
  pub plays : PlaysEach request changes is_alone met stories taken_before taken

-- what a command line asks for: the output of each story that it names, and of more where one is a folder of several
pub record PlaysAll (request : PlayRequest) (met : Bool) (taken_before taken : List ℕ) : Type 0 where
  pub overrides : Overrides
  pub asked : AsksFor request overrides
  pub stories : ℕ
  pub each : length request.others.items < stories
  pub plays : PlaysUnder request overrides (stories == 1) met stories taken_before taken

-- Accepted: what a story that is accepted asks for.
use Rattle.std.specs.Prelude.{◌≡◌, Option, option_map}
use Rattle.std.specs.Borrow.{Bor}
use Rattle.serde_json.specs.Data.{Data}
use Rattle.serde_json.specs.View.{view}
use Rattle.am_console.specs.declared.console.Document.{Document}
use Rattle.am_input.specs.Configured.{file_in}
use Rattle.am_input.specs.Request.{IsRequestIn}
use Rattle.am_input.specs.declared.input.Changes.{Changes}
use Rattle.am_input.specs.declared.input.Input.{Input}
use Rattle.am_input.specs.declared.input.Overrides.{Overrides}

-- the value of a document, if there is one
abbrev pub value_of : Option (Bor Document) → Option Data
value_of document = option_map (λ d. view d.now.value) document

-- the value of a story asks for this, under this configuration in place of its own, if one is given, and with what the command line says
-- in place of its output and its end
pub record IsAccepted (config : Option Data) (overrides : Overrides) (value : Data) (input : Input) : Type 0 where
  pub changes : Changes
  pub configured : file_in changes ≡ config
  pub overrides_are : changes.overrides ≡ overrides
  pub requested : IsRequestIn changes value input.output input.start input.expectations.items input.dispatcher_changes.items input.rehearsal

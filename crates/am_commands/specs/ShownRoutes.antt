-- ShownRoutes: what `routes` prints of a file.
use Rattle.std.specs.Prelude.{◌≡◌, ◌⊎◌, ℕ, Bool, List, Option, None}
use Rattle.serde_json.specs.Data.{Data}
use Rattle.am_commands.specs.AskedRoutes.{PrintsAsked, RejectsAsked}
use Rattle.am_input.specs.Clocks.{AreGiven}
use Rattle.am_input.specs.Configured.{DecodesWithoutRegexes, IsConfigOf, form_in}
use Rattle.am_input.specs.declared.form.Form.TheVariants.{Own}
use Rattle.am_json.specs.declared.reader.Mode.TheVariants.{Strict}
use Rattle.am_model.specs.declared.config.Config.{Config}

-- what was written since is that of the configuration that a value has
pub record ShowsRoutes (words : List (List ℕ)) (verify : Option (List ℕ)) (same : Bool) (value : Data) (taken_before taken : List ℕ)
    : Type 0 where
  pub config : Config
  pub decodes : IsConfigOf (AreGiven None) (form_in value) value config
  pub prints : PrintsAsked words verify config.routes same taken_before taken

-- and so of the configuration in a file
pub record PrintsRoutes (words : List (List ℕ)) (verify : Option (List ℕ)) (same : Bool) (taken_before taken : List ℕ) : Type 0 where
  pub value : Data
  pub shows : ShowsRoutes words verify same value taken_before taken

-- a value of our own form has no configuration, unless one whose matchers need a regex
abbrev pub HasNoOwn : Data → Type 0
HasNoOwn value = form_in value ≡ Own → (config : Config) → DecodesWithoutRegexes Strict value config → ⊥

-- why nothing is printed of a value: for its configuration, or for the words
abbrev pub RejectsRoutes : List (List ℕ) → Option (List ℕ) → Data → Type 0
RejectsRoutes words verify value = HasNoOwn value ⊎ RejectsAsked words verify

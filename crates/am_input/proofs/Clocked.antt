-- Configurations of Alertmanager by the clocks with which they were read.
use Rattle.std.proofs.Common.{◌≡◌, ◌∙◌, ◌++◌, ◌∷◌, ℕ, [], List, Option, Some, None, Result, Ok, Err, MatchOption, ap, append_assoc, codes, refl, subst, sym}
use Rattle.std.proofs.lemmas.List.{append-nil}
use Rattle.std.proofs.lemmas.List.Elements.{All-append, All-cons, All-nil}
use Rattle.std.specs.Prelude.{IfOk, IsOk, IsSome}
use Rattle.serde_json.specs.Data.{Data, Members, null, boolean, number, string, array, object}
use Rattle.serde_json.specs.Find.{get_member}
use Rattle.am_json.specs.Configured.{DecodesToConfig}
use Rattle.am_json.specs.Decoding.{Has, HasNone}
use Rattle.am_json.specs.declared.reader.Mode.{Mode}
use Rattle.am_json.specs.declared.reader.Mode.TheVariants.{Strict}
use Rattle.am_config.specs.declared.hours.Hours.{Hours}
use Rattle.am_config.specs.declared.hours.NamedZone.{NamedZone}
use Rattle.am_json.specs.declared.fault.InputFault.{InputFault}
use Rattle.am_input.specs.Clocks.{AddsFiled, AreClocksOf, IsFiled}
use Rattle.am_input.specs.Configured.{HasTheirs, IsConfigIn, IsConfigOf, IsReadOfTheirs}
use Rattle.am_input.specs.Zones.{AreZonesIn}
use Rattle.am_input.specs.declared.form.Form.{Form}
use Rattle.am_input.specs.declared.form.Form.TheVariants.{Story, Own, Alertmanager}
use Rattle.am_model.specs.declared.config.Config.{Config}

-- such clocks are also such
pub under : (P Q : Option Hours → Type 0) (value : Data) (config : Config) → ((h : Option Hours) → P h → Q h) → IsReadOfTheirs P value config
    → IsReadOfTheirs Q value config
under P Q value config more read = record {
  sound = read.sound;
  hours = read.hours;
  clocks = more read.hours read.clocks;
  routes = read.routes;
  receivers = read.receivers;
  rules = read.rules;
  retention = read.retention;
  limits = read.limits;
}

-- in a story they need be so only where it has a configuration of Alertmanager
pub under_in : (P Q : Option Hours → Type 0) (mode : Mode) (members : Members) (config : Config)
    → (IsSome (get_member (codes "alertmanager") members) → (h : Option Hours) → P h → Q h) → IsConfigIn P mode members config
    → IsConfigIn Q mode members config
under_in P Q mode members config more decoded = by (get_member (codes "alertmanager") members) more decoded
  where
    by : (o : Option Data) → (IsSome o → (h : Option Hours) → P h → Q h)
        → MatchOption o (Has (DecodesToConfig mode) (codes "config") members config) (λ value. HasNone (codes "config") members × IsReadOfTheirs P value config)
        → MatchOption o (Has (DecodesToConfig mode) (codes "config") members config) (λ value. HasNone (codes "config") members × IsReadOfTheirs Q value config)
    by None more decoded = decoded
    by (Some value) more decoded = (decoded.0, under P Q value config (more refl) decoded.1)

-- the same of a file
pub under_of : (P Q : Option Hours → Type 0) (form : Form) (value : Data) (config : Config)
    → (HasTheirs form value → (h : Option Hours) → P h → Q h) → IsConfigOf P form value config → IsConfigOf Q form value config
under_of P Q Story (object members) config more decoded = under_in P Q Strict members config more decoded
under_of P Q Story null config more decoded = absurd decoded
under_of P Q Story (boolean b) config more decoded = absurd decoded
under_of P Q Story (number n) config more decoded = absurd decoded
under_of P Q Story (string s) config more decoded = absurd decoded
under_of P Q Story (array items) config more decoded = absurd decoded
under_of P Q Own value config more decoded = decoded
under_of P Q Alertmanager value config more decoded = under P Q value config (more tt) decoded

-- ---- zones

pub none_added : (zones : List NamedZone) → AddsFiled zones zones
none_added zones = ([], sym (append-nil zones), All-nil IsFiled)

pub one_added : (zones : List NamedZone) (z : NamedZone) → IsFiled z → AddsFiled zones (zones ++ z ∷ [])
one_added zones z is = (z ∷ [], refl, All-cons IsFiled z [] is (All-nil IsFiled))

-- some, and then more
pub added_on : (one two three : List NamedZone) → AddsFiled one two → AddsFiled two three → AddsFiled one three
added_on one two three some more = (
  some.0 ++ more.0,
  more.1 ∙ ap (λ zs. zs ++ more.0) some.1 ∙ append_assoc one some.0 more.0,
  All-append IsFiled some.0 more.0 some.2 more.2,
)

-- ---- none

-- where an end or a zone is refused
pub without : (members : Members) (said : Option ℕ) (r : Result (Option Hours) InputFault) → IfOk r (λ h. h ≡ None)
    → (IsOk r → AreZonesIn (get_member (codes "zones") members) → ⊥)
    → IfOk r (λ hours. (end : ℕ) → said ≡ Some end → AreClocksOf end members hours)
without members said (Ok h) none refused = λ end is. subst (AreClocksOf end members) (sym none) (λ instant has few zones. absurd (refused refl zones))
without members said (Err fault) none refused = tt

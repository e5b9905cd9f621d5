-- Check: what a check reads, which is a part of another line, and the JSON tokens of the answer to it.
use Rattle.std.specs.Prelude.{◌≡◌, Bool, true, false, List, [], ◌++◌, Some, None, ℕ, codes}
use Rattle.json.specs.Token.{Token}
use Rattle.serde_json.specs.Data.{Data, no_members, member}
use Rattle.serde_json.specs.Find.{as_object}
use Rattle.am_alerts.specs.Matcher.{compare_texts}
use Rattle.am_alerts.specs.declared.matcher.MatcherParts.{MatcherParts}
use Rattle.am_json.specs.Configured.{DecodesToLabels, DecodesToMatcher, config_compares_texts}
use Rattle.am_json.specs.Decoding.{IsList}
use Rattle.am_json.specs.declared.reader.Mode.{Mode}
use Rattle.am_mute.specs.Silence.{silence_fault, silence_of}
use Rattle.am_protocol.specs.declared.check.LinePart.{LinePart}
use Rattle.am_protocol.specs.declared.check.LinePart.TheVariants as part
use Rattle.am_protocol.specs.declared.opening.Opening.{Opening}
use Rattle.am_protocol.specs.Opening.{IsClockedOpening, IsOwnOpening, IsTheirOpening}
use Rattle.am_protocol.specs.Reply.{ignored_members, named, routes_members}

-- the matchers of a silence
abbrev pub AreMatchersOf : Mode → Data → List MatcherParts → Type 0
AreMatchersOf mode value matchers =
    IsList (DecodesToMatcher mode) value matchers × (silence_fault (silence_of 0 matchers 0 0) ≡ None)

-- an object whose one member has this name and decodes
pub record HasOne (name : List ℕ) (Decodes : Data → Type 0) (value : Data) : Type 0 where
  pub there : Data
  pub object : as_object value ≡ Some (member name there no_members)
  pub decodes : Decodes there

-- a part of a line, by the name of the member that has it there
abbrev pub DecodesToPart : Mode → Data → LinePart → Type 0
DecodesToPart mode value (part.Matchers x) = HasOne (codes "matchers") (λ v. AreMatchersOf mode v x.items) value
DecodesToPart mode value (part.Labels x) = HasOne (codes "labels") (λ v. DecodesToLabels mode v x) value
DecodesToPart mode value (part.Config x) = HasOne (codes "config") (λ v. IsOwnOpening mode v x) value
DecodesToPart mode value (part.Alertmanager x) = HasOne (codes "alertmanager") (λ v. IsTheirOpening None v x) value
DecodesToPart mode value (part.Open x) = HasOne (codes "open") (λ v. IsClockedOpening mode v x) value

-- whether no matcher of a part needs a regex. A configuration of Alertmanager can be refused for other things too
abbrev pub part_compares_texts : LinePart → Bool
part_compares_texts (part.Matchers x) = compare_texts x.items
part_compares_texts (part.Labels x) = true
part_compares_texts (part.Config x) = config_compares_texts x.config
part_compares_texts (part.Alertmanager x) = false
part_compares_texts (part.Open x) = false

-- a configuration: what `opened` would have
abbrev pub checked_opening : Opening → List Token
checked_opening x = named (codes "checked") (ignored_members x.ignored ++ routes_members x.config.routes)

-- a part that would be read
abbrev pub checked_tokens : LinePart → List Token
checked_tokens (part.Matchers x) = named (codes "checked") []
checked_tokens (part.Labels x) = named (codes "checked") []
checked_tokens (part.Config x) = checked_opening x
checked_tokens (part.Alertmanager x) = checked_opening x
checked_tokens (part.Open x) = checked_opening x

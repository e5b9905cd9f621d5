-- What the code keeps of definitions next to them: the index of each name, and the spans of the routes before.
use Rattle.std.specs.Prelude.{◌≡◌, ℕ, false, List, map, Some, String, Vec}
use Rattle.std.specs.Global.{Global}
use Rattle.std.specs.HashMap.{HashMap, get, get_by_text}
use Rattle.std.specs.Prelude.{nat_eq}
use Rattle.std.specs.Cmp.Lexicographic.{pointwise}
use Rattle.am_alerts.specs.Labels.{has_text_twice}
use Rattle.am_alerts.specs.declared.spans.Span.{Span}
use Rattle.am_config.specs.Times.{IsFoundAt, MutedAt, TimesData, active_in, mute_in}
use Rattle.am_config.specs.declared.definitions.NamedSpans.{NamedSpans}

-- each name has the index of its definition, and is once
pub record AreIndexed {S : Type 0} (named : List NamedSpans) (indexes : HashMap (String Global) ℕ S) : Type 0 where
  pub found : (name : List ℕ) → IsFoundAt named name (get_by_text indexes name)
  pub once : has_text_twice (map (λ d. d.name) named) ≡ false

-- each key has the spans in which a route with its lists is muted
abbrev pub AreGiven : {S : Type 0} → TimesData → HashMap (Vec ℕ Global) (List Span) S → Type 0
AreGiven times given =
    (key : Vec ℕ Global) (spans : List Span) → get (λ x y. pointwise nat_eq x.items y.items) given key ≡ Some spans
    → MutedAt times (mute_in key.items) (active_in key.items) spans

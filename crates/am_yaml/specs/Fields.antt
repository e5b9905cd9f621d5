-- The members of a mapping, as far as it was read.
use Rattle.std.specs.Prelude.{Option, option_map}
use Rattle.serde_json.specs.Data.{Members}
use Rattle.serde_json.specs.View.{members_view}
use Rattle.am_yaml.specs.declared.spelling.Fields.{Fields}

-- those of its own
abbrev pub own_in : Fields → Members
own_in fields = members_view fields.own.entries

-- those that its merge key added, if it has one
abbrev pub merged_in : Fields → Option Members
merged_in fields = option_map (λ merged. members_view merged.entries) fields.merged

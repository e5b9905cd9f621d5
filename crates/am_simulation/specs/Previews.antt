-- Previews: what each begin of a history was to do, by the records before it.
use Rattle.std.specs.Prelude.{ℕ, Bool, true, false, List, [], ◌∷◌, ◌++◌, length, Option, Some, None}
use Rattle.am_model.specs.declared.config.Config.{Config}
use Rattle.am_model.specs.declared.preview.Preview.{Preview}
use Rattle.am_model.specs.declared.record.Record.{Record}
use Rattle.am_model.specs.declared.record.Reply.{Reply}
use Rattle.am_model.specs.declared.record.Reply.TheVariants.{Inserted, Silenced, NothingDue, Quiet, Flush}
use Rattle.am_model.specs.declared.record.Reply.TheVariants.{Finished, Maintained, EmptyGroupsRemoved, Forgotten, Loaded, Noted}
use Rattle.am_model.specs.look_back.Preview.{preview}
use Rattle.am_model.specs.Records.{now_of}
use Rattle.am_terms.specs.declared.event.PreviewedBegin.{PreviewedBegin}

-- whether a reply is that of a begin that took a group
abbrev pub takes_group : Reply → Bool
takes_group (Inserted inserted) = false
takes_group (Silenced silenced) = false
takes_group NothingDue = false
takes_group (Quiet group removed) = true
takes_group (Flush group opened) = true
takes_group (Finished finished) = false
takes_group (Maintained maintained) = false
takes_group (EmptyGroupsRemoved removed) = false
takes_group (Forgotten forgotten) = false
takes_group (Loaded loaded) = false
takes_group Noted = false

-- the preview of the record at an index, if it is of a begin that took a group
abbrev pub preview_where : Bool → ℕ → Option Preview → List PreviewedBegin
preview_where false index is_to_do = []
preview_where true index None = []
preview_where true index (Some is_to_do) = record { index = index; preview = is_to_do } ∷ []

-- the preview of a record after these, if it is of a begin that took a group
abbrev pub preview_of : Config → List Record → Record → List PreviewedBegin
preview_of config before r = preview_where (takes_group r.reply) (length before) (preview config before (now_of r.call))

-- the previews of records after these
abbrev pub previews_after : Config → List Record → List Record → List PreviewedBegin
previews_after config before [] = []
previews_after config before (r ∷ rs) = preview_of config before r ++ previews_after config (before ++ r ∷ []) rs

-- previews_of: the previews of the begins of a history that took a group, in their order
abbrev pub previews_of : Config → List Record → List PreviewedBegin
previews_of config history = previews_after config [] history

-- Reply: the JSON tokens of the answers that say a board's replies.
use Rattle.std.specs.Prelude.{ℕ, Bool, List, [], ◌∷◌, ◌++◌, codes, if◌then◌else◌}
use Rattle.json.specs.Token.{Token, begin_array, end_array, key, string}
use Rattle.am_alerts.specs.RoutingTree.{RoutingTree, routes_in}
use Rattle.am_alerts.specs.declared.route.Route.{Route}
use Rattle.am_config.specs.declared.dropped.IgnoredSettings.{IgnoredSettings}
use Rattle.am_model.specs.declared.config.Config.{Config}
use Rattle.am_model.specs.declared.group.GroupName.{GroupName}
use Rattle.am_model.specs.declared.record.Inserted.{Inserted}
use Rattle.am_model.specs.declared.record.Loaded.{Loaded}
use Rattle.am_model.specs.declared.record.Loaded.TheVariants.{Put, Kept, Expired}
use Rattle.am_model.specs.declared.record.Reply.{Reply}
use Rattle.am_model.specs.declared.record.Reply.TheVariants as reply
use Rattle.am_model.specs.declared.record.Silenced.{Silenced}
use Rattle.am_model.specs.Configured.{route_of}
use Rattle.am_model.specs.Notice.{NoticeData}
use Rattle.am_protocol.specs.Answer.{text_member, number_member, flag_member, object, array, group_tokens, notice_tokens}

-- an object with one member of this name, which is an object of these members
abbrev pub named : List ℕ → List Token → List Token
named name members = object (key name ∷ object members)

-- an insert
abbrev pub inserted_tokens : Inserted → List Token
inserted_tokens x =
    named (codes "inserted")
    (number_member (codes "stamp") x.stamp ++ number_member (codes "groups") x.groups ++ number_member (codes "made") x.made)

-- a silence
abbrev pub silenced_tokens : Silenced → List Token
silenced_tokens x = named (codes "silenced") (flag_member (codes "replaced") x.replaced)

-- a begin after which nobody is notified of the group
abbrev pub quiet_tokens : Config → GroupName → ℕ → List Token
quiet_tokens config group removed =
    named (codes "quiet") (key (codes "group") ∷ group_tokens config group ++ number_member (codes "removed") removed)

-- what is answered about a flush: its number as that of the ticket, its group, whom it is for, until when, and the notices
abbrev pub flush_members : Config → ℕ → GroupName → ℕ → List NoticeData → List Token
flush_members config ticket group deadline notices =
    number_member (codes "ticket") ticket ++ key (codes "group") ∷ group_tokens config group
    ++ text_member (codes "receiver") (route_of config group).receiver ++ number_member (codes "deadline") deadline
    ++ key (codes "notices") ∷ array (notice_tokens config) notices

-- a begin that opened a flush
abbrev pub flush_tokens : Config → ℕ → GroupName → ℕ → List NoticeData → List Token
flush_tokens config ticket group deadline notices = named (codes "flush") (flush_members config ticket group deadline notices)

-- one count, with its name
abbrev pub count_tokens : List ℕ → List ℕ → ℕ → List Token
count_tokens name first m = named name (number_member first m)

-- two counts, each with its name
abbrev pub counts_tokens : List ℕ → List ℕ → ℕ → List ℕ → ℕ → List Token
counts_tokens name first m second n = named name (number_member first m ++ number_member second n)

-- what became of a row
abbrev pub loaded_word : Loaded → List ℕ
loaded_word Put = codes "put"
loaded_word Kept = codes "kept"
loaded_word Expired = codes "expired"

-- a load
abbrev pub loaded_tokens : Loaded → List Token
loaded_tokens x = named (codes "loaded") (text_member (codes "row") (loaded_word x))

-- a name, if it is wanted
abbrev pub name_if : Bool → List ℕ → List Token
name_if is_wanted name = if is_wanted then string name ∷ [] else []

-- the settings that are ignored
abbrev pub ignored_tokens : IgnoredSettings → List Token
ignored_tokens x =
    name_if x.global (codes "global") ++ name_if x.tracing (codes "tracing") ++ name_if x.templates (codes "templates")
    ++ name_if x.time_intervals (codes "time_intervals") ++ name_if x.settings (codes "settings")

-- which settings are ignored
abbrev pub ignored_members : IgnoredSettings → List Token
ignored_members x = key (codes "ignored") ∷ begin_array ∷ ignored_tokens x ++ end_array ∷ []

-- the name of a route
abbrev pub route_name_tokens : Route → List Token
route_name_tokens route = string route.name ∷ []

-- the names of the routes, by their positions: the root is at position 0, each other route before those below it
abbrev pub routes_members : RoutingTree → List Token
routes_members tree = key (codes "routes") ∷ array route_name_tokens (routes_in tree)

-- a configuration: what of it is ignored, and its routes
abbrev pub opened_tokens : Config → IgnoredSettings → List Token
opened_tokens config x = named (codes "opened") (ignored_members x ++ routes_members config.routes)

-- a board's reply to a call
abbrev pub reply_tokens : Config → Reply → List Token
reply_tokens config (reply.Inserted x) = inserted_tokens x
reply_tokens config (reply.Silenced x) = silenced_tokens x
reply_tokens config reply.NothingDue = named (codes "nothing_due") []
reply_tokens config (reply.Quiet group removed) = quiet_tokens config group removed
reply_tokens config (reply.Flush group x) = flush_tokens config x.number group x.deadline x.notices
reply_tokens config (reply.Finished x) = counts_tokens (codes "finished") (codes "logged") x.logged (codes "removed") x.removed
reply_tokens config (reply.Maintained x) = counts_tokens (codes "maintained") (codes "groups") x.groups (codes "entries") x.entries
reply_tokens config (reply.EmptyGroupsRemoved x) = count_tokens (codes "empty_groups_removed") (codes "groups") x.groups
reply_tokens config (reply.Forgotten x) = counts_tokens (codes "forgotten") (codes "alerts") x.alerts (codes "silences") x.silences
reply_tokens config (reply.Loaded x) = loaded_tokens x
reply_tokens config reply.Noted = named (codes "noted") []

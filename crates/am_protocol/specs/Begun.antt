-- Begun: the JSON tokens of the answer to a begin, with the muted alerts of the group that it took and the reasons.
use Rattle.std.specs.Prelude.{ℕ, List, [], ◌∷◌, ◌++◌, codes, Option, None, Some}
use Rattle.json.specs.Token.{Token, key}
use Rattle.am_model.specs.declared.config.Config.{Config}
use Rattle.am_model.specs.declared.group.GroupName.{GroupName}
use Rattle.am_model.specs.declared.preview.Preview.{Preview}
use Rattle.am_model.specs.declared.record.Reply.{Reply}
use Rattle.am_model.specs.declared.record.Reply.TheVariants as reply
use Rattle.am_model.specs.Notice.{NoticeData}
use Rattle.am_protocol.specs.Answer.{array, group_tokens, number_member}
use Rattle.am_protocol.specs.Reply.{flush_members, named, reply_tokens}
use Rattle.am_protocol.specs.View.{muted_tokens, reason_tokens}

-- the muted alerts of the group, and why each integration is notified or not
abbrev pub preview_members : Preview → List Token
preview_members p = key (codes "muted") ∷ array muted_tokens p.muted ++ key (codes "reasons") ∷ array reason_tokens p.reasons

-- these, where a group was taken
abbrev pub why_members : Option Preview → List Token
why_members None = []
why_members (Some p) = preview_members p

-- a begin after which nobody is notified of the group, and why
abbrev pub begun_quiet : Config → GroupName → ℕ → Option Preview → List Token
begun_quiet config group removed p =
    named (codes "quiet")
    (key (codes "group") ∷ group_tokens config group ++ number_member (codes "removed") removed ++ why_members p)

-- a begin that opened a flush, and why
abbrev pub begun_flush : Config → ℕ → GroupName → ℕ → List NoticeData → Option Preview → List Token
begun_flush config ticket group deadline notices p =
    named (codes "flush") (flush_members config ticket group deadline notices ++ why_members p)

-- a begin: its reply, and why
abbrev pub begun_tokens : Config → Reply → Option Preview → List Token
begun_tokens config (reply.Quiet group removed) p = begun_quiet config group removed p
begun_tokens config (reply.Flush group x) p = begun_flush config x.number group x.deadline x.notices p
begun_tokens config r p = reply_tokens config r

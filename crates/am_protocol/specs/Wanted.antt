-- Wanted: what is wanted where a value is refused, in words for people, by its pointer and the kind of the fault.
use Rattle.std.specs.Prelude.{ℕ, Bool, not, ◌&&◌, ◌||◌, List, [], codes, if◌then◌else◌, nat_eq}
use Rattle.std.specs.List.{ends_with, starts_with}
use Rattle.std.specs.Str.{bytes_eq}
use Rattle.am_json.specs.declared.fault.FaultKind.{FaultKind}
use Rattle.am_json.specs.declared.fault.FaultKind.TheVariants as refusal

-- the rules of a time, of labels, of matchers and of the position of an integration
abbrev pub now_rule : List ℕ
now_rule = codes "a now has to be below 10^15 ms; a text has to be a duration such as 1h30m"

abbrev pub starts_rule : List ℕ
starts_rule = codes "starts after 10^15 ms, or is a text that is no duration such as 1h30m"

abbrev pub ends_rule : List ℕ
ends_rule = codes "ends before it starts, or after 10^15 ms, or is a text that is no duration such as 1h30m"

abbrev pub time_rule : List ℕ
time_rule = codes "a time has to be a number of milliseconds, or a duration such as 1h30m"

abbrev pub labels_rule : List ℕ
labels_rule =
    codes "there have to be 1 to 64 labels with a value, each name once; a name has letters, digits and _, and no digit first; a name over 1,024 bytes or a value over 16,384 is too long"

abbrev pub matcher_rule : List ℕ
matcher_rule =
    codes "a matcher has to be a label name, one of = != =~ !~, and a value; a name over 1,024 bytes or a value over 16,384 is too long; after =~ and !~ the value has to be a regex"

abbrev pub position_rule : List ℕ
position_rule = codes "a position is at most 4,294,967,295"

abbrev pub matchers_rule : List ℕ
matchers_rule = codes "a silence has 1 to 128 matchers"

abbrev pub check_rule : List ℕ
check_rule = codes "a check has one member: matchers, labels, config, alertmanager or open"

abbrev pub clocked_rule : List ℕ
clocked_rule = codes "no board may have this: am-rehearse check says what is wanted; up to the horizon a route can be muted 8,192 times"

abbrev pub location_rule : List ℕ
location_rule = codes "a location has to be one of zones; UTC needs none"

abbrev pub zone_rule : List ℕ
zone_rule = codes "there can be 64 zones, each a POSIX rule such as CET-1CEST,M3.5.0,M10.5.0/3, or its file in base64"

abbrev pub start_rule : List ℕ
start_rule = codes "a start has to be a date and time such as 2026-11-23T08:00:00Z"

abbrev pub years_rule : List ℕ
years_rule = codes "from now to the horizon times have to be in the years 1 to 9999; without a start they count from 1970"

abbrev pub config_rule : List ℕ
config_rule = codes "no board may have this: docs/scenarios.md has what is wanted"

abbrev pub alertmanager_rule : List ℕ
alertmanager_rule = codes "no board may have this: am-rehearse check says what is wanted"

abbrev pub check_open_rule : List ℕ
check_open_rule = codes "no board may have this: the call open says what is wanted"

-- whether a pointer is that of a member, and not of a label with its name
abbrev pub is_member : List ℕ → List ℕ → List ℕ → Bool
is_member pointer member label = ends_with nat_eq pointer member && not (ends_with nat_eq pointer label)

-- what is wanted of an insert or a status, in which a label can have the name of a member
abbrev pub insert_message : List ℕ → List ℕ
insert_message pointer =
    if is_member pointer (codes "/now") (codes "/labels/now") then now_rule
    else (if is_member pointer (codes "/starts") (codes "/labels/starts") then starts_rule
    else (if is_member pointer (codes "/ends") (codes "/labels/ends") then ends_rule else labels_rule))

-- what is wanted of a silence
abbrev pub silence_message : List ℕ → List ℕ
silence_message pointer =
    if ends_with nat_eq pointer (codes "/now") then now_rule
    else (if ends_with nat_eq pointer (codes "/starts") then starts_rule
    else (if ends_with nat_eq pointer (codes "/ends") then ends_rule
    else (if ends_with nat_eq pointer (codes "/matchers") then matchers_rule else matcher_rule)))

-- what is wanted of a row that is loaded
abbrev pub load_message : List ℕ → List ℕ
load_message pointer =
    if ends_with nat_eq pointer (codes "/row/moment") then time_rule
    else (if ends_with nat_eq pointer (codes "/row/expiry") then time_rule
    else (if ends_with nat_eq pointer (codes "/row/integration") then position_rule else labels_rule))

-- what is wanted of a configuration, or of an argument of another call
abbrev pub argument_message : List ℕ → List ℕ
argument_message pointer =
    if starts_with nat_eq pointer (codes "/config") then config_rule
    else (if starts_with nat_eq pointer (codes "/alertmanager") then alertmanager_rule
    else (if ends_with nat_eq pointer (codes "/now") then now_rule
    else (if ends_with nat_eq pointer (codes "/outcome") then codes "an outcome is delivered, refused, expired or starved"
    else (if ends_with nat_eq pointer (codes "/integration") then position_rule else codes "a line has one member, the call"))))

-- what is wanted of a configuration with the clocks of its time intervals
abbrev pub open_message : List ℕ → List ℕ
open_message pointer =
    if starts_with nat_eq pointer (codes "/open/alertmanager")
    then (if ends_with nat_eq pointer (codes "/location") then location_rule else clocked_rule)
    else (if starts_with nat_eq pointer (codes "/open/zones") then zone_rule
    else (if ends_with nat_eq pointer (codes "/now") then now_rule
    else (if ends_with nat_eq pointer (codes "/start") then start_rule
    else (if ends_with nat_eq pointer (codes "/horizon") then time_rule else years_rule))))

-- what is wanted of a part of another line, in a check
abbrev pub check_message : List ℕ → List ℕ
check_message pointer =
    if ends_with nat_eq pointer (codes "/check/matchers") then matchers_rule
    else (if starts_with nat_eq pointer (codes "/check/matchers") then matcher_rule
    else (if starts_with nat_eq pointer (codes "/check/labels") then labels_rule
    else (if starts_with nat_eq pointer (codes "/check/config") then config_rule
    else (if starts_with nat_eq pointer (codes "/check/alertmanager") then alertmanager_rule
    else (if starts_with nat_eq pointer (codes "/check/open") then check_open_rule else check_rule)))))

-- what is wanted where a value isn't accepted
abbrev pub value_message : List ℕ → List ℕ
value_message pointer =
    if starts_with nat_eq pointer (codes "/insert") || starts_with nat_eq pointer (codes "/status") then insert_message pointer
    else (if starts_with nat_eq pointer (codes "/silence") then silence_message pointer
    else (if starts_with nat_eq pointer (codes "/load/row") then load_message pointer
    else (if starts_with nat_eq pointer (codes "/check") then check_message pointer
    else (if starts_with nat_eq pointer (codes "/open") then open_message pointer else argument_message pointer))))

-- the message for a value that is refused at a pointer by this kind of fault; at the top it is the line itself
abbrev pub refusal_message : List ℕ → FaultKind → List ℕ
refusal_message pointer refusal.Missing =
    if bytes_eq pointer [] then codes "the line has no call: it has to be an object with one member"
    else (if bytes_eq pointer (codes "/check") then check_rule else codes "this member is missing")
refusal_message pointer refusal.WrongType =
    if bytes_eq pointer [] then codes "a line has to be an object with one member, the call"
    else codes "another type of JSON value is wanted here; numbers are whole, from 0 on"
refusal_message pointer refusal.BadValue = value_message pointer
refusal_message pointer refusal.Unknown = codes "no member of this name is known here"
refusal_message pointer refusal.Full = codes "there is no space for this"
refusal_message pointer refusal.Unsupported =
    if bytes_eq pointer (codes "/alertmanager") || bytes_eq pointer (codes "/check/alertmanager") then
    codes "a route is muted by time: the call open says which day that is"
    else codes "this can't be reproduced exactly"

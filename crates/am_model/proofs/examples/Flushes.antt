-- Worked histories of flushes: which have begun, which are open, and how far apart the begins of a group are.
use Rattle.std.proofs.Common.{◌≡◌, ◌+◌, ◌≤◌, true, false, Some, None, List, [], ◌∷◌, ◌++◌, refl, arith}
use Rattle.std.specs.Prelude.{codes}
use Rattle.am_alerts.specs.AlertData.{AlertData}
use Rattle.am_retry.specs.declared.outcome.Outcome.TheVariants.{Delivered, Refused}
use Rattle.am_model.specs.declared.group.GroupName.{GroupName}
use Rattle.am_model.specs.declared.record.Call.TheVariants as call
use Rattle.am_model.specs.declared.record.Record.{Record}
use Rattle.am_model.specs.Configured.{route_of}
use Rattle.am_model.specs.look_back.Entry.{begins_group, entry_in}
use Rattle.am_model.specs.look_back.Interval.{found_empty, begun_since, KeepsInterval}
use Rattle.am_model.specs.look_back.Laws.{member_with, insert_during, has_open, begun_at}
use Rattle.am_model.specs.look_back.Past.{past_of, time_at, is_flush, is_quiet, is_flush_of, takes, notices_in, is_finish, is_note, is_maintenance, removes_empty_groups, begin_of, has_begun, has_finished}
use Rattle.am_model.specs.look_back.Presence.{inserts, presence}
use Rattle.am_model.specs.Replay.{IsLegal, replay}
use Rattle.am_model.specs.State.{members_in}
use Rattle.am_model.proofs.examples.Base.{base, named, group, fires, ended, group_a, a, first_notice, insert, nothing_due, quiet, notice, flush_hook, finish, maintain, remove_empty_groups, row}

-- ---- three flushes are open at once; the second ends first, and the third fails

abbrev group_b : GroupName
group_b = group (codes "B")

abbrev group_c : GroupName
group_c = group (codes "C")

abbrev b : AlertData
b = fires (named (codes "B")) 0

abbrev c : AlertData
c = fires (named (codes "C")) 0

abbrev a_ended : AlertData
a_ended = ended (named (codes "A")) 0 31_500

abbrev three_open : List Record
three_open =
    insert 0 a 1 1 1
    ∷ insert 0 b 2 1 1
    ∷ insert 0 c 3 1 1
    ∷ flush_hook 30_000 1 group_a 330_000 (a ∷ []) []
    ∷ flush_hook 30_000 2 group_b 330_000 (b ∷ []) []
    ∷ flush_hook 30_000 3 group_c 330_000 (c ∷ []) []
    ∷ []

abbrev two_open : List Record
two_open = three_open ++ finish 31_000 2 ((0, Delivered) ∷ []) 1 0 ∷ []

abbrev all_ended : List Record
all_ended =
    two_open
    ++ insert 31_500 a_ended 4 1 0
    ∷ finish 32_000 1 ((0, Delivered) ∷ []) 1 0
    ∷ finish 33_000 3 ((0, Refused) ∷ []) 0 0
    ∷ []

all_ended_legal : IsLegal base 7 all_ended
all_ended_legal = (refl, (refl, (refl, (refl, (refl, (refl, (refl, (refl, (refl, (refl, tt))))))))))

three_have_begun : has_begun 1 (past_of three_open) ≡ true
three_have_begun = refl

third_has_begun : has_begun 3 (past_of three_open) ≡ true
third_has_begun = refl

no_fourth : has_begun 4 (past_of three_open) ≡ false
no_fourth = refl

none_has_finished : has_finished 2 (past_of three_open) ≡ false
none_has_finished = refl

second_has_finished : has_finished 2 (past_of two_open) ≡ true
second_has_finished = refl

first_has_not_finished : has_finished 1 (past_of two_open) ≡ false
first_has_not_finished = refl

first_is_open : has_open group_a (past_of two_open) ≡ true
first_is_open = refl

second_is_closed : has_open group_b (past_of two_open) ≡ false
second_is_closed = refl

third_is_open : has_open group_c (past_of two_open) ≡ true
third_is_open = refl

all_are_closed : has_open group_c (past_of all_ended) ≡ false
all_are_closed = refl

-- the begin of a number is the flush of its group, and of no other
begin_of_second : begins_group group_b (begin_of 2 (past_of all_ended)) ≡ true
begin_of_second = refl

begin_of_another_group : begins_group group_a (begin_of 2 (past_of all_ended)) ≡ false
begin_of_another_group = refl

begin_of_none : begin_of 4 (past_of all_ended) ≡ []
begin_of_none = refl

-- each group has its own entry and its own alert: the one that ended during its flush stays, as it was inserted last
first_entry : entry_in base group_a 0 (past_of all_ended) ≡ Some (row group_a 0 32_000 28_832_000 (named (codes "A") ∷ []) [])
first_entry = refl

second_entry : entry_in base group_b 0 (past_of all_ended) ≡ Some (row group_b 0 31_000 28_831_000 (named (codes "B") ∷ []) [])
second_entry = refl

third_entry : entry_in base group_c 0 (past_of all_ended) ≡ None
third_entry = refl

first_stays : presence base group_a (named (codes "A")) (past_of all_ended) ≡ Some (record { alert = a_ended; stamp = 4 })
first_stays = refl

-- its insert came after its flush's begin; that of the third came before
inserted_during : insert_during 1 (named (codes "A")) (past_of all_ended) ≡ Some (record { alert = a_ended; stamp = 4 })
inserted_during = refl

not_inserted_during : insert_during 3 (named (codes "C")) (past_of all_ended) ≡ None
not_inserted_during = refl

-- of two inserts during one flush the later is found
abbrev inserted_twice : List Record
inserted_twice = three_open ++ insert 31_000 (fires (named (codes "A")) 31_000) 4 1 0 ∷ insert 31_500 a_ended 5 1 0 ∷ []

inserted_twice_legal : IsLegal base 7 inserted_twice
inserted_twice_legal = (refl, (refl, (refl, (refl, (refl, (refl, (refl, (refl, tt))))))))

later_insert : insert_during 1 (named (codes "A")) (past_of inserted_twice) ≡ Some (record { alert = a_ended; stamp = 5 })
later_insert = refl

first_member :
    member_with (named (codes "A")) (members_in (replay base all_ended).groups group_a) ≡ Some (record { alert = a_ended; stamp = 4 })
first_member = refl

third_stays : presence base group_c (named (codes "C")) (past_of all_ended) ≡ Some (record { alert = c; stamp = 3 })
third_stays = refl

no_such_member : member_with (named (codes "B")) (members_in (replay base all_ended).groups group_a) ≡ None
no_such_member = refl

-- ---- what a record is

abbrev begin_a : Record
begin_a = flush_hook 30_000 1 group_a 330_000 (a ∷ []) []

abbrev quiet_a : Record
quiet_a = quiet 330_000 group_a 0

flush_takes : takes group_a begin_a.reply ≡ true
flush_takes = refl

quiet_takes : takes group_a quiet_a.reply ≡ true
quiet_takes = refl

takes_no_other : takes group_b begin_a.reply ≡ false
takes_no_other = refl

nothing_takes : takes group_a (nothing_due 29_999).reply ≡ false
nothing_takes = refl

is_its_flush : is_flush_of group_a begin_a.reply ≡ true
is_its_flush = refl

quiet_is_no_flush : is_flush_of group_a quiet_a.reply ≡ false
quiet_is_no_flush = refl

is_its_quiet : is_quiet group_a quiet_a.reply ≡ true
is_its_quiet = refl

flush_is_not_quiet : is_quiet group_a begin_a.reply ≡ false
flush_is_not_quiet = refl

is_number_one : is_flush 1 begin_a.reply ≡ true
is_number_one = refl

is_not_number_two : is_flush 2 begin_a.reply ≡ false
is_not_number_two = refl

finishes_one : is_finish 1 (call.Finish 30_000 1 []) ≡ true
finishes_one = refl

finishes_no_other : is_finish 2 (call.Finish 30_000 1 []) ≡ false
finishes_no_other = refl

maintains : is_maintenance (call.Maintain 0) ≡ true
maintains = refl

begins_only : is_maintenance (call.Begin 0) ≡ false
begins_only = refl

-- both remove groups without alerts, and only one is a maintenance
maintains_groups : removes_empty_groups (call.Maintain 0) ≡ true
maintains_groups = refl

removes_groups : removes_empty_groups (call.RemoveEmptyGroups 0) ≡ true
removes_groups = refl

removes_only : is_maintenance (call.RemoveEmptyGroups 0) ≡ false
removes_only = refl

begins_remove_none : removes_empty_groups (call.Begin 0) ≡ false
begins_remove_none = refl

notes_hook : is_note 1 0 (call.Note 31_000 1 0 None) ≡ true
notes_hook = refl

notes_no_other : is_note 1 1 (call.Note 31_000 1 0 None) ≡ false
notes_no_other = refl

inserts_a : inserts (named (codes "A")) (call.Insert 0 a) ≡ true
inserts_a = refl

inserts_no_other : inserts (named (codes "B")) (call.Insert 0 a) ≡ false
inserts_no_other = refl

one_notice : notices_in begin_a.reply ≡ notice 1 330_000 group_a 0 (a ∷ []) [] ∷ []
one_notice = refl

no_notice : notices_in quiet_a.reply ≡ []
no_notice = refl

-- the time of the latest record doesn't go back
time_stays : time_at (past_of (insert 50_000 a 1 1 1 ∷ nothing_due 45_000 ∷ [])) ≡ 50_000
time_stays = refl

time_continues : time_at (past_of first_notice) ≡ 30_000
time_continues = refl

-- ---- the begins of a group

-- a maintenance that finds alerts ends no interval
abbrev looked_after : List Record
looked_after = first_notice ++ maintain 100_000 0 0 ∷ []

looked_after_legal : IsLegal base 7 looked_after
looked_after_legal = (refl, (refl, (refl, (refl, (refl, tt)))))

alerts_found : found_empty base group_a (maintain 100_000 0 0) (past_of first_notice) ≡ false
alerts_found = refl

still_begun : begun_since base group_a 30_000 (past_of looked_after) ≡ true
still_begun = refl

still_begun_at : begun_at base group_a (past_of looked_after) ≡ Some 30_000
still_begun_at = refl

-- only at its time, and only the group that was taken
not_begun_then : begun_since base group_a 29_999 (past_of looked_after) ≡ false
not_begun_then = refl

other_not_begun : begun_since base group_b 30_000 (past_of looked_after) ≡ false
other_not_begun = refl

-- a begin of the group before its interval is over breaks the law
too_soon : KeepsInterval base (quiet 329_999 group_a 0) (past_of looked_after) → ⊥
too_soon keeps = let over : 330_000 ≤ 329_999 = keeps group_a refl 30_000 refl in omega (arith, over)

soon_enough : (route_of base group_a).group_interval + 30_000 ≡ time_at (quiet_a ∷ past_of looked_after)
soon_enough = refl

-- a quiet begin is one, and the begin before it still counts
abbrev quiet_last : List Record
quiet_last = looked_after ++ quiet_a ∷ []

quiet_last_legal : IsLegal base 7 quiet_last
quiet_last_legal = (refl, (refl, (refl, (refl, (refl, (refl, tt))))))

quiet_begun : begun_since base group_a 330_000 (past_of quiet_last) ≡ true
quiet_begun = refl

quiet_begun_at : begun_at base group_a (past_of quiet_last) ≡ Some 330_000
quiet_begun_at = refl

flush_begun_before : begun_since base group_a 30_000 (past_of quiet_last) ≡ true
flush_begun_before = refl

-- a maintenance that finds the group without alerts ends the interval: it is made again, and taken sooner
abbrev gone_again : List Record
gone_again =
    first_notice
    ++ insert 100_000 (ended (named (codes "A")) 0 100_000) 2 1 0
    ∷ flush_hook 330_000 2 group_a 630_000 [] (ended (named (codes "A")) 0 100_000 ∷ [])
    ∷ finish 331_000 2 ((0, Delivered) ∷ []) 1 1
    ∷ []

abbrev swept : List Record
swept = gone_again ++ maintain 332_000 1 0 ∷ []

abbrev a_again : AlertData
a_again = fires (named (codes "A")) 333_000

abbrev made_again : List Record
made_again = swept ++ insert 333_000 a_again 3 1 1 ∷ []

made_again_legal : IsLegal base 7 (made_again ++ flush_hook 363_000 3 group_a 663_000 (a_again ∷ []) [] ∷ [])
made_again_legal = (refl, (refl, (refl, (refl, (refl, (refl, (refl, (refl, (refl, (refl, tt))))))))))

none_found : found_empty base group_a (maintain 332_000 1 0) (past_of gone_again) ≡ true
none_found = refl

no_maintenance : found_empty base group_a (nothing_due 332_000) (past_of gone_again) ≡ false
no_maintenance = refl

begun_before : begun_since base group_a 330_000 (past_of gone_again) ≡ true
begun_before = refl

begun_no_more : begun_since base group_a 330_000 (past_of made_again) ≡ false
begun_no_more = refl

begun_nowhere : begun_at base group_a (past_of made_again) ≡ None
begun_nowhere = refl

-- so does a removal of empty groups
abbrev made_again_swiftly : List Record
made_again_swiftly = gone_again ++ remove_empty_groups 332_000 1 ∷ insert 333_000 a_again 3 1 1 ∷ []

made_again_swiftly_legal : IsLegal base 7 (made_again_swiftly ++ flush_hook 363_000 3 group_a 663_000 (a_again ∷ []) [] ∷ [])
made_again_swiftly_legal = (refl, (refl, (refl, (refl, (refl, (refl, (refl, (refl, (refl, (refl, tt))))))))))

removal_found : found_empty base group_a (remove_empty_groups 332_000 1) (past_of gone_again) ≡ true
removal_found = refl

begun_no_more_either : begun_since base group_a 330_000 (past_of made_again_swiftly) ≡ false
begun_no_more_either = refl

begun_nowhere_either : begun_at base group_a (past_of made_again_swiftly) ≡ None
begun_nowhere_either = refl

-- and it ends no interval of a group with alerts
looked_at : found_empty base group_a (remove_empty_groups 100_000 0) (past_of first_notice) ≡ false
looked_at = refl

begun_still : begun_at base group_a (past_of (first_notice ++ remove_empty_groups 100_000 0 ∷ [])) ≡ Some 30_000
begun_still = refl

-- without either it waits for its interval
abbrev not_swept : List Record
not_swept =
    gone_again
    ++ insert 333_000 a_again 3 1 0
    ∷ nothing_due 629_999
    ∷ flush_hook 630_000 3 group_a 930_000 (a_again ∷ []) []
    ∷ []

not_sooner : IsLegal base 7 not_swept
not_sooner = (refl, (refl, (refl, (refl, (refl, (refl, (refl, (refl, (refl, (refl, tt))))))))))

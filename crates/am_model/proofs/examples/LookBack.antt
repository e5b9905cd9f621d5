-- Looking back, run on worked rows: what the search from the end finds is what the state has, and what was never so isn't found.
use Rattle.std.proofs.Common.{◌≡◌, true, false, Some, None, List, [], ◌∷◌, ◌++◌, refl}
use Rattle.std.specs.Prelude.{codes, find}
use Rattle.am_retry.specs.declared.outcome.Outcome.TheVariants.{Delivered, Refused}
use Rattle.am_model.specs.declared.record.Record.{Record}
use Rattle.am_alerts.specs.declared.matcher.Operator.TheVariants.{Equal}
use Rattle.am_model.specs.declared.record.Call.TheVariants.{Note, Silence}
use Rattle.am_model.specs.declared.record.Reply.TheVariants.{Noted, Silenced}
use Rattle.am_model.specs.Records.{entry}
use Rattle.am_model.specs.Begin.{is_entry_of}
use Rattle.am_model.specs.look_back.Entry.{entry_in, begins_group}
use Rattle.am_model.specs.look_back.Laws.{member_with, was_delivered, insert_during, has_open, begun_at, notified_after}
use Rattle.am_model.specs.look_back.Past.{past_of, begin_of, has_begun, has_finished}
use Rattle.am_model.specs.look_back.Presence.{goes_to, presence}
use Rattle.am_model.specs.Replay.{IsLegal, replay}
use Rattle.am_model.specs.State.{members_in}
use Rattle.am_model.proofs.examples.Base.{base, for_an_hour, named, fires, ended, group_a, a, first_notice, insert, quiet, flush_hook, finish, maintain, remove_empty_groups, row}

-- ---- first notice: the alert is there, and its row

notice_present : presence base group_a (named (codes "A")) (past_of first_notice) ≡ Some (record { alert = a; stamp = 1 })
notice_present = refl

notice_entry : entry_in base group_a 0 (past_of first_notice) ≡ Some (row group_a 0 30_000 28_830_000 (named (codes "A") ∷ []) [])
notice_entry = refl

notice_logged : was_delivered (row group_a 0 30_000 28_830_000 (named (codes "A") ∷ []) []) (past_of first_notice) ≡ true
notice_logged = refl

-- no other integration has an entry, and no time but the finish's reported it
no_other_entry : entry_in base group_a 1 (past_of first_notice) ≡ None
no_other_entry = refl

not_logged_then : was_delivered (row group_a 0 29_999 28_829_999 (named (codes "A") ∷ []) []) (past_of first_notice) ≡ false
not_logged_then = refl

-- an alert that was never inserted isn't there
never_there : presence base group_a (named (codes "B")) (past_of first_notice) ≡ None
never_there = refl

-- ---- resolved: it leaves by its flush

abbrev gone_a : List Record
gone_a =
    first_notice
    ++ insert 100_000 (ended (named (codes "A")) 0 100_000) 2 1 0
    ∷ flush_hook 330_000 2 group_a 630_000 [] (ended (named (codes "A")) 0 100_000 ∷ [])
    ∷ finish 331_000 2 ((0, Delivered) ∷ []) 1 1
    ∷ []

gone_legal : IsLegal base 7 gone_a
gone_legal = (refl, (refl, (refl, (refl, (refl, (refl, (refl, tt)))))))

gone_found : presence base group_a (named (codes "A")) (past_of gone_a) ≡ None
gone_found = refl

gone_state : member_with (named (codes "A")) (members_in (replay base gone_a).groups group_a) ≡ None
gone_state = refl

gone_entry : entry_in base group_a 0 (past_of gone_a) ≡ find (is_entry_of group_a 0) (replay base gone_a).rows
gone_entry = refl

-- ---- fires again during the flush: it stays, as it was inserted last

abbrev during : List Record
during =
    first_notice
    ++ insert 100_000 (ended (named (codes "A")) 0 100_000) 2 1 0
    ∷ flush_hook 330_000 2 group_a 630_000 [] (ended (named (codes "A")) 0 100_000 ∷ [])
    ∷ insert 330_500 (fires (named (codes "A")) 330_500) 3 1 0
    ∷ []

abbrev again : List Record
again = during ++ finish 331_000 2 ((0, Delivered) ∷ []) 1 0 ∷ []

again_legal : IsLegal base 7 again
again_legal = (refl, (refl, (refl, (refl, (refl, (refl, (refl, (refl, tt))))))))

again_inserted : insert_during 2 (named (codes "A")) (past_of during) ≡ Some (record { alert = fires (named (codes "A")) 330_500; stamp = 3 })
again_inserted = refl

again_stays : presence base group_a (named (codes "A")) (past_of again) ≡ Some (record { alert = fires (named (codes "A")) 330_500; stamp = 3 })
again_stays = refl

-- while the flush is open the group has an open flush, and after the finish none
open_then : has_open group_a (past_of during) ≡ true
open_then = refl

closed_after : has_open group_a (past_of again) ≡ false
closed_after = refl

-- the insert before the begin doesn't count as one during the flush
not_during : insert_during 1 (named (codes "A")) (past_of first_notice) ≡ None
not_during = refl

-- ---- a flush that failed removes nothing, and logs nothing

abbrev failed : List Record
failed =
    insert 0 (ended (named (codes "A")) 0 10) 1 1 1 ∷ insert 1 a 2 1 0
    ∷ flush_hook 30_000 1 group_a 330_000 (a ∷ []) []
    ∷ finish 30_000 1 ((0, Refused) ∷ []) 0 0 ∷ []

failed_legal : IsLegal base 7 failed
failed_legal = (refl, (refl, (refl, (refl, tt))))

failed_entry : entry_in base group_a 0 (past_of failed) ≡ None
failed_entry = refl

failed_present : presence base group_a (named (codes "A")) (past_of failed) ≡ Some (record { alert = a; stamp = 2 })
failed_present = refl

-- ---- a note logs at once, and the finish doesn't log it again; a maintenance at the expiry collects it

abbrev noted : List Record
noted =
    insert 0 a 1 1 1 ∷ flush_hook 30_000 1 group_a 330_000 (a ∷ []) []
    ∷ entry 0 (Note 31_000 1 0 (Some Delivered)) Noted ∷ finish 32_000 1 ((0, Delivered) ∷ []) 0 0 ∷ []

noted_legal : IsLegal for_an_hour 7 noted
noted_legal = (refl, (refl, (refl, (refl, tt))))

noted_entry : entry_in for_an_hour group_a 0 (past_of noted) ≡ Some (row group_a 0 31_000 3_631_000 (named (codes "A") ∷ []) [])
noted_entry = refl

collected_entry : entry_in for_an_hour group_a 0 (past_of (noted ++ maintain 3_631_000 0 1 ∷ [])) ≡ None
collected_entry = refl

kept_entry : entry_in for_an_hour group_a 0 (past_of (noted ++ maintain 3_630_999 0 0 ∷ [])) ≡ Some (row group_a 0 31_000 3_631_000 (named (codes "A") ∷ []) [])
kept_entry = refl

-- a removal of empty groups collects no row
uncollected_entry : entry_in for_an_hour group_a 0 (past_of (noted ++ remove_empty_groups 3_631_000 0 ∷ [])) ≡ Some (row group_a 0 31_000 3_631_000 (named (codes "A") ∷ []) [])
uncollected_entry = refl

-- ---- whom a begin notifies

-- after the first notice nobody, until the repeat interval is over
quiet_then : notified_after base group_a 330_000 (past_of first_notice) ≡ []
quiet_then = refl

notified_then : notified_after base group_a 14_430_001 (past_of first_notice) ≡ 0 ∷ []
notified_then = refl

-- the last begin, and none once a maintenance found the group without alerts
begun_then : begun_at base group_a (past_of again) ≡ Some 330_000
begun_then = refl

begun_no_more : begun_at base group_a (past_of (gone_a ++ maintain 400_000 1 0 ∷ [])) ≡ None
begun_no_more = refl

-- the first flush has begun and is finished, the third hasn't
flush_one : has_finished 1 (past_of again) ≡ true
flush_one = refl

pub flush_three : has_begun 3 (past_of again) ≡ false
flush_three = refl

-- ---- what the law of refiring alerts asks for is there: the flush is of the group, and the alert goes to it
refiring_group : begins_group group_a (begin_of 2 (past_of during)) ≡ true
refiring_group = refl

refiring_goes : goes_to base group_a (named (codes "A")) ≡ true
refiring_goes = refl

goes_nowhere_else : goes_to base group_a (named (codes "B")) ≡ false
goes_nowhere_else = refl

-- a finish that isn't there reported nothing, and a refused notice isn't reported
refused_not_logged : was_delivered (row group_a 0 30_000 28_830_000 (named (codes "A") ∷ []) []) (past_of failed) ≡ false
refused_not_logged = refl

note_logged : was_delivered (row group_a 0 31_000 3_631_000 (named (codes "A") ∷ []) []) (past_of noted) ≡ true
note_logged = refl

-- a silenced group: nothing is reported, nobody is notified, and the quiet begin takes the resolved alert out, though it was muted
abbrev over_silence : List Record
over_silence =
    insert 0 (ended (named (codes "A")) 0 20_000) 1 1 1
    ∷ entry 0 (Silence 10 1 (record { name = codes "alertname"; op = Equal; value = codes "A" } ∷ []) 0 100_000) (Silenced (record { replaced = false }))
    ∷ quiet 30_000 group_a 1
    ∷ []

silence_legal : IsLegal base 7 over_silence
silence_legal = (refl, (refl, (refl, tt)))

silence_gone : presence base group_a (named (codes "A")) (past_of over_silence) ≡ None
silence_gone = refl

silence_notifies : notified_after base group_a 30_000 (past_of (insert 0 a 1 1 1 ∷ entry 0 (Silence 10 1 (record { name = codes "alertname"; op = Equal; value = codes "A" } ∷ []) 0 100_000) (Silenced (record { replaced = false })) ∷ [])) ≡ []
silence_notifies = refl

unsilenced_notifies : notified_after base group_a 30_000 (past_of (insert 0 a 1 1 1 ∷ [])) ≡ 0 ∷ []
unsilenced_notifies = refl

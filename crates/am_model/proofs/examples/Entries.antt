-- Worked histories of the log: what counts as a success, what logs it, and what takes an alert out of its group.
use Rattle.std.proofs.Common.{◌≡◌, true, false, Some, None, List, [], ◌∷◌, ◌++◌, refl}
use Rattle.std.specs.Prelude.{codes, find}
use Rattle.am_alerts.specs.AlertData.{AlertData}
use Rattle.am_retry.specs.declared.outcome.Outcome.TheVariants.{Delivered, Refused}
use Rattle.am_model.specs.declared.record.Call.TheVariants as call
use Rattle.am_model.specs.declared.record.Record.{Record}
use Rattle.am_model.specs.declared.record.Reply.TheVariants as reply
use Rattle.am_model.specs.Begin.{is_entry_of}
use Rattle.am_model.specs.look_back.Entry.{present_in, firing_in, resolved_in, begins_group, logs, entry_in}
use Rattle.am_model.specs.Records.{entry}
use Rattle.am_model.specs.look_back.Past.{past_of, was_noted, succeeded}
use Rattle.am_model.specs.look_back.Presence.{last_insert, resolved_at_begin, begin_since, finish_removes, removes, has_left, presence}
use Rattle.am_model.specs.Replay.{IsLegal, replay}
use Rattle.am_model.proofs.examples.Base.{base, with_mail, firing_only, for_an_hour, named, ended, group_a, a, first_notice, insert, quiet, notice, flush, flush_hook, finish, maintain, row}

abbrev a_ended : AlertData
a_ended = ended (named (codes "A")) 0 100_000

-- ---- a notice with nothing to send is a success: it is logged, and the resolved alert leaves

abbrev nothing_to_send : List Record
nothing_to_send =
    first_notice
    ++ insert 100_000 a_ended 2 1 0
    ∷ flush_hook 330_000 2 group_a 630_000 [] []
    ∷ []

abbrev nothing_sent : List Record
nothing_sent = nothing_to_send ++ finish 331_000 2 [] 1 1 ∷ []

nothing_sent_legal : IsLegal firing_only 7 nothing_sent
nothing_sent_legal = (refl, (refl, (refl, (refl, (refl, (refl, (refl, tt)))))))

nothing_succeeds : succeeded 2 [] (past_of nothing_to_send) (notice 2 630_000 group_a 0 [] []) ≡ true
nothing_succeeds = refl

unreported_fails : succeeded 2 [] (past_of nothing_to_send) (notice 2 630_000 group_a 0 (a ∷ []) []) ≡ false
unreported_fails = refl

reported_succeeds : succeeded 2 ((0, Delivered) ∷ []) (past_of nothing_to_send) (notice 2 630_000 group_a 0 (a ∷ []) []) ≡ true
reported_succeeds = refl

nothing_logged : logs group_a 0 (past_of nothing_to_send) (call.Finish 331_000 2 []) ≡ true
nothing_logged = refl

nothing_entry : entry_in firing_only group_a 0 (past_of nothing_sent) ≡ Some (row group_a 0 331_000 29_131_000 [] (named (codes "A") ∷ []))
nothing_entry = refl

nothing_left : presence firing_only group_a (named (codes "A")) (past_of nothing_sent) ≡ None
nothing_left = refl

-- ---- of two outcomes of one integration the first counts, and one that wasn't asked counts for nothing

abbrev resolved_open : List Record
resolved_open =
    first_notice
    ++ insert 100_000 a_ended 2 1 0
    ∷ flush_hook 330_000 2 group_a 630_000 [] (a_ended ∷ [])
    ∷ []

abbrev refused_first : List Record
refused_first = resolved_open ++ finish 331_000 2 ((1, Delivered) ∷ (0, Refused) ∷ (0, Delivered) ∷ []) 0 0 ∷ []

abbrev delivered_first : List Record
delivered_first = resolved_open ++ finish 331_000 2 ((1, Refused) ∷ (0, Delivered) ∷ (0, Refused) ∷ []) 1 1 ∷ []

refused_first_legal : IsLegal base 7 refused_first
refused_first_legal = (refl, (refl, (refl, (refl, (refl, (refl, (refl, tt)))))))

delivered_first_legal : IsLegal base 7 delivered_first
delivered_first_legal = (refl, (refl, (refl, (refl, (refl, (refl, (refl, tt)))))))

refused_keeps_entry : entry_in base group_a 0 (past_of refused_first) ≡ Some (row group_a 0 30_000 28_830_000 (named (codes "A") ∷ []) [])
refused_keeps_entry = refl

refused_stays : presence base group_a (named (codes "A")) (past_of refused_first) ≡ Some (record { alert = a_ended; stamp = 2 })
refused_stays = refl

refused_removes_none : finish_removes group_a a_ended (past_of resolved_open) (call.Finish 331_000 2 ((0, Refused) ∷ [])) ≡ false
refused_removes_none = refl

resolved_then : resolved_at_begin group_a a_ended (begin_since (named (codes "A")) 2 (past_of resolved_open)) ≡ true
resolved_then = refl

its_begin_counts : begins_group group_a (begin_since (named (codes "A")) 2 (past_of resolved_open)) ≡ true
its_begin_counts = refl

refused_has_not_left : has_left group_a a_ended (past_of refused_first) ≡ false
refused_has_not_left = refl

delivered_entry : entry_in base group_a 0 (past_of delivered_first) ≡ Some (row group_a 0 331_000 29_131_000 [] (named (codes "A") ∷ []))
delivered_entry = refl

delivered_removes : finish_removes group_a a_ended (past_of resolved_open) (call.Finish 331_000 2 ((0, Delivered) ∷ [])) ≡ true
delivered_removes = refl

delivered_has_left : has_left group_a a_ended (past_of delivered_first) ≡ true
delivered_has_left = refl

not_notified : entry_in base group_a 1 (past_of delivered_first) ≡ None
not_notified = refl

-- ---- a success that was noted, and collected before the finish: the finish puts nothing back

abbrev first_open : List Record
first_open = insert 0 a 1 1 1 ∷ flush_hook 30_000 1 group_a 330_000 (a ∷ []) [] ∷ []

abbrev noted : List Record
noted = first_open ++ entry 0 (call.Note 31_000 1 0 (Some Delivered)) reply.Noted ∷ []

abbrev collected : List Record
collected = noted ++ maintain 3_631_000 0 1 ∷ []

abbrev not_put_back : List Record
not_put_back = collected ++ finish 3_632_000 1 ((0, Delivered) ∷ []) 0 0 ∷ []

not_put_back_legal : IsLegal for_an_hour 7 not_put_back
not_put_back_legal = (refl, (refl, (refl, (refl, (refl, tt)))))

note_entry : entry_in for_an_hour group_a 0 (past_of noted) ≡ Some (row group_a 0 31_000 3_631_000 (named (codes "A") ∷ []) [])
note_entry = refl

noted_succeeds : succeeded 1 [] (past_of noted) (notice 1 330_000 group_a 0 (a ∷ []) []) ≡ true
noted_succeeds = refl

note_logged : logs group_a 0 (past_of first_open) (call.Note 31_000 1 0 (Some Delivered)) ≡ true
note_logged = refl

other_note_not_logged : logs group_a 1 (past_of first_open) (call.Note 31_000 1 0 (Some Delivered)) ≡ false
other_note_not_logged = refl

collected_entry : entry_in for_an_hour group_a 0 (past_of collected) ≡ None
collected_entry = refl

not_logged_again : logs group_a 0 (past_of collected) (call.Finish 3_632_000 1 ((0, Delivered) ∷ [])) ≡ false
not_logged_again = refl

no_entry : entry_in for_an_hour group_a 0 (past_of not_put_back) ≡ find (is_entry_of group_a 0) (replay for_an_hour not_put_back).rows
no_entry = refl

no_row : entry_in for_an_hour group_a 0 (past_of not_put_back) ≡ None
no_row = refl

-- of two integrations the noted one keeps the time of its note; the finish logs the other
abbrev both_open : List Record
both_open =
    insert 0 a 1 1 1
    ∷ flush 30_000 1 group_a 330_000 (notice 1 330_000 group_a 0 (a ∷ []) [] ∷ notice 1 330_000 group_a 1 (a ∷ []) [] ∷ [])
    ∷ entry 0 (call.Note 31_000 1 0 (Some Delivered)) reply.Noted
    ∷ []

abbrev both_reported : List Record
both_reported = both_open ++ finish 32_000 1 ((0, Delivered) ∷ (1, Delivered) ∷ []) 1 0 ∷ []

both_reported_legal : IsLegal with_mail 7 both_reported
both_reported_legal = (refl, (refl, (refl, (refl, tt))))

hook_was_noted : was_noted 1 0 (past_of both_reported) ≡ true
hook_was_noted = refl

mail_was_not : was_noted 1 1 (past_of both_reported) ≡ false
mail_was_not = refl

hook_entry : entry_in with_mail group_a 0 (past_of both_reported) ≡ Some (row group_a 0 31_000 28_831_000 (named (codes "A") ∷ []) [])
hook_entry = refl

mail_entry : entry_in with_mail group_a 1 (past_of both_reported) ≡ Some (row group_a 1 32_000 28_832_000 (named (codes "A") ∷ []) [])
mail_entry = refl

mail_logged : logs group_a 1 (past_of both_open) (call.Finish 32_000 1 ((0, Delivered) ∷ (1, Delivered) ∷ [])) ≡ true
mail_logged = refl

-- ---- an alert that ends between a begin and the finish fires in the flush, without its end in the notice, and stays

abbrev a_ends : AlertData
a_ends = ended (named (codes "A")) 0 40_000

abbrev ends_during : List Record
ends_during =
    insert 0 a_ends 1 1 1
    ∷ flush_hook 30_000 1 group_a 330_000 (a ∷ []) []
    ∷ []

abbrev ended_then : List Record
ended_then = ends_during ++ finish 50_000 1 ((0, Delivered) ∷ []) 1 0 ∷ []

abbrev ended_reported : List Record
ended_reported = ended_then ++ flush_hook 330_000 2 group_a 630_000 [] (a_ends ∷ []) ∷ finish 331_000 2 ((0, Delivered) ∷ []) 1 1 ∷ []

ended_reported_legal : IsLegal base 7 ended_reported
ended_reported_legal = (refl, (refl, (refl, (refl, (refl, tt)))))

fires_at_begin : firing_in base group_a 30_000 (past_of (insert 0 a_ends 1 1 1 ∷ [])) ≡ named (codes "A") ∷ []
fires_at_begin = refl

not_resolved_yet : resolved_in base group_a 30_000 (past_of (insert 0 a_ends 1 1 1 ∷ [])) ≡ []
not_resolved_yet = refl

not_resolved_then : resolved_at_begin group_a a_ends (begin_since (named (codes "A")) 1 (past_of ends_during)) ≡ false
not_resolved_then = refl

ended_stays : presence base group_a (named (codes "A")) (past_of ended_then) ≡ Some (record { alert = a_ends; stamp = 1 })
ended_stays = refl

ended_entry : entry_in base group_a 0 (past_of ended_then) ≡ Some (row group_a 0 50_000 28_850_000 (named (codes "A") ∷ []) [])
ended_entry = refl

resolved_later : resolved_in base group_a 330_000 (past_of ended_then) ≡ named (codes "A") ∷ []
resolved_later = refl

fires_no_more : firing_in base group_a 330_000 (past_of ended_then) ≡ []
fires_no_more = refl

ended_leaves : presence base group_a (named (codes "A")) (past_of ended_reported) ≡ None
ended_leaves = refl

-- ---- what takes an alert out

-- a quiet begin takes out what is resolved at its time, and nothing that ends later
quiet_removes : removes group_a a_ends (quiet 40_000 group_a 1) [] ≡ true
quiet_removes = refl

quiet_before_end : removes group_a a_ends (quiet 39_999 group_a 0) [] ≡ false
quiet_before_end = refl

-- a begin that isn't after the last insert doesn't count
begun_before_insert : begin_since (named (codes "A")) 1 (past_of (first_notice ++ insert 100_000 a_ended 2 1 0 ∷ [])) ≡ []
begun_before_insert = refl

-- the last insert is the one that counts, and of a label set that was never inserted there is none
inserted_last : last_insert (named (codes "A")) (past_of resolved_open) ≡ Some (record { alert = a_ended; stamp = 2 })
inserted_last = refl

never_inserted : last_insert (named (codes "B")) (past_of resolved_open) ≡ None
never_inserted = refl

present_then : present_in base group_a (past_of resolved_open) ≡ record { alert = a_ended; stamp = 2 } ∷ []
present_then = refl

present_no_more : present_in base group_a (past_of delivered_first) ≡ []
present_no_more = refl

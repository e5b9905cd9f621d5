-- Worked histories of the laws: what a begin says and what is logged, and records that each law refuses.
use Rattle.std.proofs.Common.{◌≡◌, Bool, true, false, Some, None, List, [], ◌∷◌, ◌++◌, refl, sym, ap, arith}
use Rattle.std.specs.Prelude.{codes, is_some}
use Rattle.std.proofs.lemmas.Bool.{false≢true}
use Rattle.am_alerts.specs.AlertData.{AlertData}
use Rattle.am_alerts.specs.RoutingTree.{tree_of}
use Rattle.am_nflog.specs.Members.{is_empty}
use Rattle.am_retry.specs.declared.outcome.Outcome.TheVariants.{Delivered, Refused}
use Rattle.am_model.specs.declared.config.Config.{Config}
use Rattle.am_model.specs.declared.record.Call.TheVariants as call
use Rattle.am_model.specs.declared.record.Record.{Record}
use Rattle.am_model.specs.declared.record.Reply.TheVariants as reply_is
use Rattle.am_model.specs.look_back.Entry.{firing_alerts_in, resolved_alerts_in, logs}
use Rattle.am_model.specs.Records.{entry}
use Rattle.am_model.specs.look_back.Laws.{alerts_in, is_delivered_to, reports_delivery, LogsDelivered, was_delivered, IsOneFlushAtATime, NotifiesWhomNeeded, wants_resolved, IsNoticeFound, IsReplyFound}
use Rattle.am_model.specs.look_back.Past.{past_of}
use Rattle.am_model.specs.Replay.{IsLegal, reply, replay}
use Rattle.am_model.proofs.lists.Distinct.{all_to}
use Rattle.am_model.proofs.examples.Base.{base, firing_only, route_every, named, ended, group_a, a, first_notice, insert, quiet, notice, flush_hook, finish, row}

-- ---- what a begin says: an end that hasn't come isn't in the notice, but the alert of the group keeps it

abbrev a_ends : AlertData
a_ends = ended (named (codes "A")) 0 40_000

abbrev ends_later : List Record
ends_later = insert 0 a_ends 1 1 1 ∷ []

end_not_reported : firing_alerts_in base group_a 30_000 (past_of ends_later) ≡ a ∷ []
end_not_reported = refl

end_kept : alerts_in base group_a (past_of ends_later) ≡ a_ends ∷ []
end_kept = refl

not_resolved : resolved_alerts_in base group_a 30_000 (past_of ends_later) ≡ []
not_resolved = refl

reported_as_resolved : resolved_alerts_in base group_a 40_000 (past_of ends_later) ≡ a_ends ∷ []
reported_as_resolved = refl

-- whether the first of some alerts has an end
abbrev first_ends : List AlertData → Bool
first_ends [] = false
first_ends (x ∷ xs) = is_some x.ends

-- a notice with that end breaks the law, and so do another deadline and another count
end_in_notice : IsReplyFound base 30_000 (past_of ends_later) (flush_hook 30_000 1 group_a 330_000 (a_ends ∷ []) []).reply → ⊥
end_in_notice returned =
    let n = notice 1 330_000 group_a 0 (a_ends ∷ []) [] in
    let found = all_to (IsNoticeFound base 1 group_a 330_000 30_000 (past_of ends_later)) (n ∷ []) returned.listed in
    false≢true (sym (ap first_ends found.0.firing))

other_deadline : IsReplyFound base 30_000 (past_of ends_later) (flush_hook 30_000 1 group_a 330_001 (a ∷ []) []).reply → ⊥
other_deadline returned = let until : 330_001 ≡ 330_000 = returned.deadline in omega (arith, until)

other_count : IsReplyFound base 330_000 (past_of first_notice) (quiet 330_000 group_a 1).reply → ⊥
other_count returned = let count : 1 ≡ 0 = returned in omega (arith, count)

-- resolved alerts are sent where the integration wants them
hook_wants : wants_resolved base group_a 0 ≡ true
hook_wants = refl

hook_wants_not : wants_resolved firing_only group_a 0 ≡ false
hook_wants_not = refl

nobody_wants : wants_resolved base group_a 1 ≡ false
nobody_wants = refl

-- ---- what is logged was delivered: a refused note of the second flush isn't excused by the finish of the first at its time

abbrev every_time : Config
every_time = record base { routes = tree_of (route_every 1 (codes "root")) [] }

abbrev a_over : AlertData
a_over = ended (named (codes "A")) 0 30_001

abbrev second_open : List Record
second_open =
    insert 0 a 1 1 1
    ∷ flush_hook 30_000 1 group_a 40_000 (a ∷ []) []
    ∷ insert 30_001 a_over 2 1 0
    ∷ finish 30_001 1 ((0, Delivered) ∷ []) 1 0
    ∷ flush_hook 30_001 2 group_a 40_001 [] (a_over ∷ [])
    ∷ []

second_open_legal : IsLegal every_time 7 second_open
second_open_legal = (refl, (refl, (refl, (refl, (refl, tt)))))

abbrev note_refused : Record
note_refused = entry 0 (call.Note 30_001 2 0 (Some Refused)) reply_is.Noted

no_legal_note : reply every_time 7 (replay every_time second_open) note_refused.call ≡ None
no_legal_note = refl

would_log : logs group_a 0 (past_of second_open) note_refused.call ≡ true
would_log = refl

reports_none : reports_delivery group_a 0 (past_of second_open) note_refused.call ≡ false
reports_none = refl

refused_is_logged : LogsDelivered note_refused (past_of second_open) → ⊥
refused_is_logged law = false≢true (law group_a 0 refl)

refused_not_delivered :
    was_delivered (row group_a 0 30_001 28_830_001 [] (named (codes "A") ∷ [])) (past_of (second_open ++ note_refused ∷ [])) ≡ false
refused_not_delivered = refl

first_was_delivered : was_delivered (row group_a 0 30_001 28_830_001 (named (codes "A") ∷ []) []) (past_of second_open) ≡ true
first_was_delivered = refl

note_reports : reports_delivery group_a 0 (past_of second_open) (call.Note 30_001 2 0 (Some Delivered)) ≡ true
note_reports = refl

-- a notice with nothing to send needs no report, another does
delivered_with_nothing : is_delivered_to 0 None (notice 1 40_000 group_a 0 [] [] ∷ []) ≡ true
delivered_with_nothing = refl

not_delivered : is_delivered_to 0 None (notice 1 40_000 group_a 0 (a ∷ []) [] ∷ []) ≡ false
not_delivered = refl

-- ---- one flush at a time: a number isn't given twice, a flush isn't finished twice or before it has begun, nor its group taken

number_again : IsOneFlushAtATime (flush_hook 330_000 1 group_a 630_000 (a ∷ []) []) (past_of first_notice) → ⊥
number_again law = false≢true (sym (law.first_begin 1 refl))

finish_of_none : IsOneFlushAtATime (finish 31_000 2 [] 0 0) (past_of first_notice) → ⊥
finish_of_none law = false≢true (law.begun_before 2 refl)

finish_again : IsOneFlushAtATime (finish 31_000 1 [] 0 0) (past_of first_notice) → ⊥
finish_again law = false≢true (sym (law.first_finish 1 refl))

abbrev first_open : List Record
first_open = insert 0 a 1 1 1 ∷ flush_hook 30_000 1 group_a 330_000 (a ∷ []) [] ∷ []

taken_while_open : IsOneFlushAtATime (flush_hook 330_000 2 group_a 630_000 (a ∷ []) []) (past_of first_open) → ⊥
taken_while_open law = false≢true (sym (law.none_open group_a refl))

-- ---- a begin notifies exactly whom it should

notified_too_soon : NotifiesWhomNeeded base (flush_hook 330_000 2 group_a 630_000 (a ∷ []) []) (past_of first_notice) → ⊥
notified_too_soon law = false≢true (ap is_empty (law group_a refl))

not_notified : NotifiesWhomNeeded base (quiet 30_000 group_a 0) (past_of (insert 0 a 1 1 1 ∷ [])) → ⊥
not_notified law = false≢true (sym (ap is_empty (law group_a refl)))

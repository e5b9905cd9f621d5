-- The definitions of refusals, run on worked rows.
use Rattle.std.proofs.Common.{◌≡◌, ℕ, false, Option, Some, None, List, [], ◌∷◌, ◌++◌, length, refl}
use Rattle.std.specs.Prelude.{codes}
use Rattle.am_alerts.specs.AlertData.{AlertData}
use Rattle.am_mute.specs.Silence.{SilenceData}
use Rattle.am_retry.specs.declared.outcome.Outcome.{Outcome}
use Rattle.am_retry.specs.declared.outcome.Outcome.TheVariants.{Delivered, Refused}
use Rattle.am_model.specs.declared.config.Config.{Config}
use Rattle.am_model.specs.declared.fault.Fault.{Fault}
use Rattle.am_model.specs.declared.fault.Fault.TheVariants.{TooManyAlerts, TooManyGroups, TooManySilences, TooManyOpen, HistoryFull}
use Rattle.am_model.specs.declared.fault.NoteFault.{NoteFault}
use Rattle.am_model.specs.declared.fault.NoteFault.TheVariants as note
use Rattle.am_model.specs.declared.record.Record.{Record}
use Rattle.am_model.specs.declared.record.Call.TheVariants.{Silence, Note}
use Rattle.am_model.specs.declared.record.Reply.TheVariants.{Silenced, Noted}
use Rattle.am_model.specs.Causes.{insert_cause, silence_cause, begin_cause, maintain_cause, removal_cause, note_cause}
use Rattle.am_model.specs.Ticket.{TicketData}
use Rattle.am_model.specs.Records.{entry}
use Rattle.am_model.specs.Replay.{IsLegal, replay}
use Rattle.am_model.proofs.examples.Base.{base, with_children, critical, named, fires, group_a, a, insert, notice, flush_hook, finish}

abbrev limited : Config → ℕ → ℕ → ℕ → ℕ → ℕ → Config
limited config names groups silences flushes history =
    record config {
      limits = record { alerts = names; groups = groups; silences = silences; flushes = flushes; history = history };
    }

abbrev alert : List ℕ → ℕ → AlertData
alert name starts = fires (named name) starts

-- why an insert into a board with this history is refused
abbrev cause_of_insert : Config → List Record → AlertData → Option Fault
cause_of_insert config history x = insert_cause config (length history) (replay config history) x

-- why a begin at t is refused
abbrev cause_of_begin : Config → List Record → ℕ → Option Fault
cause_of_begin config history t = begin_cause config (length history) (replay config history) t

-- history of five records
abbrev five : Config
five = limited base 65_536 4_096 1_024 64 5

abbrev three_records : List Record
three_records =
    insert 0 a 1 1 1
    ∷ flush_hook 30_000 1 group_a 330_000 (a ∷ []) []
    ∷ insert 30_000 (alert (codes "B") 30_000) 2 1 1
    ∷ []

fourth_begin : cause_of_begin five three_records 60_000 ≡ Some HistoryFull
fourth_begin = refl

fourth_insert : cause_of_insert five three_records (alert (codes "C") 60_000) ≡ None
fourth_insert = refl

abbrev four_records : List Record
four_records = three_records ++ insert 60_000 (alert (codes "C") 60_000) 3 1 1 ∷ []

fifth_insert : cause_of_insert five four_records (alert (codes "D") 60_000) ≡ Some HistoryFull
fifth_insert = refl

fifth_maintenance : maintain_cause five 4 (replay five four_records) ≡ Some HistoryFull
fifth_maintenance = refl

fifth_removal : removal_cause five 4 (replay five four_records) ≡ Some HistoryFull
fifth_removal = refl

abbrev five_records : List Record
five_records = four_records ++ finish 60_000 1 [] 0 0 ∷ []

five_legal : IsLegal five 7 five_records
five_legal = (refl, (refl, (refl, (refl, (refl, tt)))))

sixth_insert : cause_of_insert five five_records (alert (codes "E") 60_000) ≡ Some HistoryFull
sixth_insert = refl

-- one name and one group
abbrev one_of_each : Config
one_of_each = limited base 1 1 1 1 1_048_576

abbrev one_insert : List Record
one_insert = insert 0 a 1 1 1 ∷ []

same_name_again : cause_of_insert one_of_each one_insert a ≡ None
same_name_again = refl

other_name : cause_of_insert one_of_each one_insert (alert (codes "B") 0) ≡ Some TooManyAlerts
other_name = refl

-- two routes with capacity for one group
two_groups : cause_of_insert (limited with_children 65_536 1 1_024 64 1_048_576) [] critical ≡ Some TooManyGroups
two_groups = refl

-- one silence
abbrev silence : ℕ → SilenceData
silence id = record { id = id; matchers = []; start = 0; end = 1 }

abbrev one_silence : List Record
one_silence = entry 0 (Silence 0 1 [] 0 1) (Silenced (record { replaced = false })) ∷ []

other_silence : silence_cause one_of_each 1 (replay one_of_each one_silence) (silence 2) ≡ Some TooManySilences
other_silence = refl

same_silence_again : silence_cause one_of_each 1 (replay one_of_each one_silence) (silence 1) ≡ None
same_silence_again = refl

-- one open flush: the group isn't begun, and a quiet begin would be
abbrev one_flush : Config
one_flush = limited base 65_536 4_096 1_024 1 1_048_576

second_flush : cause_of_begin one_flush (insert 0 a 1 1 1 ∷ insert 0 (alert (codes "B") 0) 2 1 1 ∷ flush_hook 30_000 1 group_a 330_000 (a ∷ []) [] ∷ []) 30_000 ≡ Some TooManyOpen
second_flush = refl

nothing_due_is_no_flush : cause_of_begin one_flush (insert 0 a 1 1 1 ∷ flush_hook 30_000 1 group_a 330_000 (a ∷ []) [] ∷ []) 330_000 ≡ None
nothing_due_is_no_flush = refl

-- notes
abbrev flushed : List Record
flushed = insert 0 a 1 1 1 ∷ flush_hook 30_000 1 group_a 330_000 (a ∷ []) [] ∷ []

abbrev ticket : ℕ → List (ℕ × Outcome) → TicketData
ticket board_id outcomes =
    record {
      board_id = board_id;
      number = 1;
      group = group_a;
      deadline = 330_000;
      notices = notice 1 330_000 group_a 0 (a ∷ []) [] ∷ [];
      outcomes = outcomes;
    }

-- why a note on a board with this history is refused
abbrev cause_of_note : List Record → TicketData → ℕ → Option NoteFault
cause_of_note history t index = note_cause base 7 (length history) (replay base history) t index

before_a_report : cause_of_note flushed (ticket 7 []) 0 ≡ Some note.NotReady
before_a_report = refl

not_delivered : cause_of_note flushed (ticket 7 ((0, Refused) ∷ [])) 0 ≡ Some note.NotReady
not_delivered = refl

no_such_index : cause_of_note flushed (ticket 7 ((0, Delivered) ∷ [])) 1 ≡ Some note.NotReady
no_such_index = refl

delivered : cause_of_note flushed (ticket 7 ((0, Delivered) ∷ [])) 0 ≡ None
delivered = refl

already : cause_of_note (flushed ++ entry 0 (Note 31_000 1 0 (Some Delivered)) Noted ∷ []) (ticket 7 ((0, Delivered) ∷ [])) 0 ≡ Some note.Already
already = refl

other_board : cause_of_note flushed (ticket 8 ((0, Delivered) ∷ [])) 0 ≡ Some note.Foreign
other_board = refl

not_open : cause_of_note one_insert (ticket 7 ((0, Delivered) ∷ [])) 0 ≡ Some note.NotOpen
not_open = refl

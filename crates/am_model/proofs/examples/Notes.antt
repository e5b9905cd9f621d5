-- Worked histories of notes: one is of an open flush, and once for each integration; and a flush that notifies nobody is none.
use Rattle.std.proofs.Common.{◌≡◌, true, false, Some, None, List, [], ◌∷◌, ◌++◌, refl, sym}
use Rattle.std.specs.Prelude.{codes, find}
use Rattle.std.proofs.lemmas.Bool.{false≢true}
use Rattle.am_retry.specs.declared.outcome.Outcome.TheVariants.{Delivered}
use Rattle.am_model.specs.declared.record.Call.TheVariants as call
use Rattle.am_model.specs.declared.record.Record.{Record}
use Rattle.am_model.specs.declared.record.Reply.TheVariants as reply_is
use Rattle.am_model.specs.Begin.{is_entry_of}
use Rattle.am_model.specs.Records.{entry, flush_reply}
use Rattle.am_model.specs.look_back.Laws.{reports_delivery, IsOneFlushAtATime, IsReplyFound}
use Rattle.am_model.specs.look_back.Past.{past_of, replay_past, has_begun, has_finished, was_noted}
use Rattle.am_model.specs.Replay.{IsLegal}
use Rattle.am_model.proofs.examples.Base.{base, named, group_a, a, first_notice, insert, flush_hook, finish, row}

abbrev first_open : List Record
first_open = insert 0 a 1 1 1 ∷ flush_hook 30_000 1 group_a 330_000 (a ∷ []) [] ∷ []

abbrev note_hook : Record
note_hook = entry 0 (call.Note 31_000 1 0 (Some Delivered)) reply_is.Noted

abbrev noted : List Record
noted = first_open ++ note_hook ∷ []

-- a flush is open and its integration isn't noted; then it is
noted_legal : IsLegal base 7 (noted ++ finish 32_000 1 [] 0 0 ∷ [])
noted_legal = (refl, (refl, (refl, (refl, tt))))

open_before : has_begun 1 (past_of first_open) ≡ true
open_before = refl

unfinished_before : has_finished 1 (past_of first_open) ≡ false
unfinished_before = refl

not_noted_before : was_noted 1 0 (past_of first_open) ≡ false
not_noted_before = refl

noted_after : was_noted 1 0 (past_of noted) ≡ true
noted_after = refl

-- its row comes into the log by the note, at its time, and the finish adds none
no_row_before : find (is_entry_of group_a 0) (replay_past base (past_of first_open)).rows ≡ None
no_row_before = refl

row_after : find (is_entry_of group_a 0) (replay_past base (past_of noted)).rows ≡ Some (row group_a 0 31_000 28_831_000 (named (codes "A") ∷ []) [])
row_after = refl

note_reports : reports_delivery group_a 0 (past_of first_open) note_hook.call ≡ true
note_reports = refl

-- a second note, a note after the finish, and a note of a number that never began break the law
noted_again : IsOneFlushAtATime note_hook (past_of noted) → ⊥
noted_again law = false≢true (sym (law.note_once 1 0 refl))

noted_too_late : IsOneFlushAtATime note_hook (past_of first_notice) → ⊥
noted_too_late law = false≢true (sym (law.note_open 1 0 refl).1)

noted_for_none : IsOneFlushAtATime (entry 0 (call.Note 31_000 2 0 (Some Delivered)) reply_is.Noted) (past_of first_open) → ⊥
noted_for_none law = false≢true (law.note_open 2 0 refl).0

-- a flush with no notice breaks the law of what a begin says
notifies_nobody : IsReplyFound base 30_000 (past_of (insert 0 a 1 1 1 ∷ [])) (flush_reply 1 group_a 330_000 []) → ⊥
notifies_nobody returned = false≢true (sym returned.notifies)

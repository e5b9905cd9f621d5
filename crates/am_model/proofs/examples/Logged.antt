-- The definitions, run on rows about the notification log.
use Rattle.std.proofs.Common.{◌≡◌, ℕ, Option, Some, None, List, [], ◌∷◌, ◌++◌, refl}
use Rattle.std.specs.Prelude.{codes}
use Rattle.am_retry.specs.declared.outcome.Outcome.{Outcome}
use Rattle.am_retry.specs.declared.outcome.Outcome.TheVariants.{Delivered, Refused}
use Rattle.am_model.specs.declared.record.Record.{Record}
use Rattle.am_model.specs.declared.record.Call.TheVariants.{Note}
use Rattle.am_model.specs.declared.record.Reply.TheVariants.{Noted}
use Rattle.am_model.specs.Records.{entry}
use Rattle.am_model.specs.Replay.{IsLegal, reply, replay}
use Rattle.am_model.proofs.examples.Base.{base, firing_only, for_an_hour, named, ended, group_a, a, first_notice, insert, quiet, flush_hook, finish, maintain, remove_empty_groups, row}

-- collected at expiry
abbrev kept : List Record
kept = first_notice ++ maintain 3_629_999 0 0 ∷ []

kept_row : (replay for_an_hour kept).rows ≡ row group_a 0 30_000 3_630_000 (named (codes "A") ∷ []) [] ∷ []
kept_row = refl

collected_legal : IsLegal for_an_hour 7 (kept ++ maintain 3_630_000 0 1 ∷ flush_hook 3_630_000 2 group_a 3_930_000 (a ∷ []) [] ∷ [])
collected_legal = (refl, (refl, (refl, (refl, (refl, (refl, (refl, tt)))))))

-- and not by a removal of empty groups
removal_keeps : IsLegal for_an_hour 7 (kept ++ remove_empty_groups 3_630_000 0 ∷ quiet 3_630_000 group_a 0 ∷ [])
removal_keeps = (refl, (refl, (refl, (refl, (refl, (refl, (refl, tt)))))))

removal_keeps_row : (replay for_an_hour (kept ++ remove_empty_groups 3_630_000 0 ∷ [])).rows ≡ row group_a 0 30_000 3_630_000 (named (codes "A") ∷ []) [] ∷ []
removal_keeps_row = refl

-- an entry is found past its expiry
not_collected_legal : IsLegal for_an_hour 7 (kept ++ quiet 3_630_000 group_a 0 ∷ [])
not_collected_legal = (refl, (refl, (refl, (refl, (refl, (refl, tt))))))

-- a success logged at once
abbrev note : ℕ → ℕ → ℕ → Option Outcome → Record
note now number integration outcome = entry 0 (Note now number integration outcome) Noted

abbrev flushed : List Record
flushed = insert 0 a 1 1 1 ∷ flush_hook 30_000 1 group_a 330_000 (a ∷ []) [] ∷ []

abbrev noted : List Record
noted = flushed ++ note 31_000 1 0 (Some Delivered) ∷ []

abbrev noted_and_finished : List Record
noted_and_finished = noted ++ finish 32_000 1 ((0, Delivered) ∷ []) 0 0 ∷ []

noted_legal : IsLegal base 7 noted_and_finished
noted_legal = (refl, (refl, (refl, (refl, tt))))

noted_row : (replay base noted).rows ≡ row group_a 0 31_000 28_831_000 (named (codes "A") ∷ []) [] ∷ []
noted_row = refl

finish_keeps_noted : (replay base noted_and_finished).rows ≡ (replay base noted).rows
finish_keeps_noted = refl

already : reply base 7 (replay base noted) (Note 31_000 1 0 (Some Delivered)) ≡ None
already = refl

not_ready : reply base 7 (replay base flushed) (Note 31_000 1 0 None) ≡ None
not_ready = refl

not_delivered : reply base 7 (replay base flushed) (Note 31_000 1 0 (Some Refused)) ≡ None
not_delivered = refl

not_notified : reply base 7 (replay base flushed) (Note 31_000 1 1 (Some Delivered)) ≡ None
not_notified = refl

not_open : reply base 7 (replay base flushed) (Note 31_000 2 0 (Some Delivered)) ≡ None
not_open = refl

-- nothing to send is noted without an outcome, and counts as a success of the finish
abbrev nothing_noted : List Record
nothing_noted =
    first_notice
    ++ insert 200_000 (ended (named (codes "A")) 0 200_000) 2 1 0
    ∷ flush_hook 330_000 2 group_a 630_000 [] []
    ∷ note 331_000 2 0 None
    ∷ finish 332_000 2 [] 0 1
    ∷ []

nothing_noted_legal : IsLegal firing_only 7 nothing_noted
nothing_noted_legal = (refl, (refl, (refl, (refl, (refl, (refl, (refl, (refl, tt))))))))

-- a row that was noted and collected isn't logged again
abbrev noted_and_collected : List Record
noted_and_collected = noted ++ maintain 3_631_000 0 1 ∷ finish 3_631_000 1 ((0, Delivered) ∷ []) 0 0 ∷ []

noted_and_collected_legal : IsLegal for_an_hour 7 noted_and_collected
noted_and_collected_legal = (refl, (refl, (refl, (refl, (refl, tt)))))

noted_and_collected_rows : (replay for_an_hour noted_and_collected).rows ≡ []
noted_and_collected_rows = refl

-- The definitions, run on rows in which a board takes over what another board's log had.
use Rattle.std.proofs.Common.{◌≡◌, ℕ, true, false, cond, Some, None, List, [], ◌∷◌, ◌++◌, refl, ap, ◌∙◌}
use Rattle.std.specs.Prelude.{codes, find}
use Rattle.std.specs.List.{AllByRecursion}
use Rattle.std.specs.Option.{option_or}
use Rattle.am_retry.specs.declared.outcome.Outcome.TheVariants.{Delivered}
use Rattle.am_model.specs.declared.fault.LoadFault.TheVariants.{NoIntegration, Unordered, Ahead, HistoryFull}
use Rattle.am_model.specs.declared.group.GroupName.{GroupName}
use Rattle.am_model.specs.declared.reason.Reason.TheVariants.{NotYet, NewAlert}
use Rattle.am_model.specs.declared.record.Record.{Record}
use Rattle.am_model.specs.declared.record.Call.TheVariants.{Load}
use Rattle.am_model.specs.declared.record.Loaded.TheVariants.{Put, Kept, Expired}
use Rattle.am_model.specs.declared.views.RowView.{RowView}
use Rattle.am_model.specs.Begin.{is_entry_of}
use Rattle.am_model.specs.Causes.{load_cause}
use Rattle.am_model.specs.look_back.Entry.{logs, row_in, row_put, row_loaded, entry_in}
use Rattle.am_model.specs.look_back.Laws.{handed_in, was_delivered}
use Rattle.am_model.specs.look_back.Past.{past_of}
use Rattle.am_model.specs.look_back.Reasons.{reason_in}
use Rattle.am_model.specs.Replay.{IsLegal, reply, replay}
use Rattle.am_model.specs.State.{opening_state}
use Rattle.am_model.proofs.examples.Base.{base, integration, named, instance, fires, group, group_a, a, first_notice, insert, quiet, flush_hook, finish, maintain, load, row}

-- what `hook/0` was notified of A at a time, 8 hours before the expiry
abbrev sent_row : ℕ → ℕ → RowView
sent_row time expiry = row group_a 0 time expiry (named (codes "A") ∷ []) []

-- ---- a restart: A still fires, and isn't notified again

abbrev restarted : List Record
restarted = load 100_000 (sent_row 30_000 28_830_000) Put ∷ insert 100_000 a 1 1 1 ∷ quiet 100_000 group_a 0 ∷ []

restarted_legal : IsLegal base 7 restarted
restarted_legal = (refl, (refl, (refl, tt)))

restarted_entry : entry_in base group_a 0 (past_of restarted) ≡ Some (sent_row 30_000 28_830_000)
restarted_entry = refl

restarted_reason : reason_in base group_a 100_000 (past_of restarted) (0, integration (codes "hook") true) ≡ NotYet 14_430_001
restarted_reason = refl

restarted_handed : handed_in group_a 0 (past_of restarted) ≡ Some (sent_row 30_000 28_830_000)
restarted_handed = refl

-- without the row it is
not_loaded_legal : IsLegal base 7 (insert 100_000 a 1 1 1 ∷ flush_hook 100_000 1 group_a 400_000 (a ∷ []) [] ∷ [])
not_loaded_legal = (refl, (refl, tt))

-- another alert of the group is reported, and so is A four hours after the row's time
another : reason_in base group_a 200_000 (past_of (restarted ++ insert 200_000 (fires (instance (codes "A") (codes "2")) 150_000) 2 1 0 ∷ [])) (0, integration (codes "hook") true) ≡ NewAlert
another = refl

repeated_legal : IsLegal base 7 (restarted ++ flush_hook 14_430_001 1 group_a 14_730_001 (a ∷ []) [] ∷ finish 14_430_002 1 ((0, Delivered) ∷ []) 1 0 ∷ [])
repeated_legal = (refl, (refl, (refl, (refl, (refl, tt)))))

-- what is logged then was delivered, and isn't what was handed in
repeated_handed : handed_in group_a 0 (past_of (restarted ++ flush_hook 14_430_001 1 group_a 14_730_001 (a ∷ []) [] ∷ finish 14_430_002 1 ((0, Delivered) ∷ []) 1 0 ∷ [])) ≡ None
repeated_handed = refl

-- where nothing was loaded nothing was handed in, and the laws speak of deliveries alone
without_loads : (name : GroupName) (i : ℕ) (past : List Record) → AllByRecursion (λ r. row_in r.call ≡ None) past → handed_in name i past ≡ None
without_loads name i [] none = refl
without_loads name i (r ∷ past) none =
    elim (logs name i past r.call) as (λ b. cond b None (option_or (row_loaded name i r) (handed_in name i past)) ≡ None) [
      | true ↦ refl
      | false ↦ ap (λ o. option_or (row_put name i r.reply o) (handed_in name i past)) none.0 ∙ without_loads name i past none.1
    ]

-- ---- the later of two rows stays

-- the board's own is of 30,000
abbrev own : List Record
own = first_notice ++ load 30_000 (sent_row 29_999 28_829_999) Kept ∷ load 40_000 (sent_row 30_000 28_840_000) Kept ∷ []

own_legal : IsLegal base 7 own
own_legal = (refl, (refl, (refl, (refl, (refl, (refl, tt))))))

own_entry : entry_in base group_a 0 (past_of own) ≡ Some (sent_row 30_000 28_830_000)
own_entry = refl

own_delivered : was_delivered (sent_row 30_000 28_830_000) (past_of own) ≡ true
own_delivered = refl

-- a later one takes its index, as it was handed in
abbrev later : List Record
later = own ++ load 40_000 (sent_row 30_001 50_000) Put ∷ load 40_000 (sent_row 30_001 60_000) Kept ∷ []

later_legal : IsLegal base 7 later
later_legal = (refl, (refl, (refl, (refl, (refl, (refl, (refl, (refl, tt))))))))

later_entry : entry_in base group_a 0 (past_of later) ≡ Some (sent_row 30_001 50_000)
later_entry = refl

later_state : find (is_entry_of group_a 0) (replay base later).rows ≡ Some (sent_row 30_001 50_000)
later_state = refl

-- no other key has it
no_other : entry_in base (group (codes "B")) 0 (past_of later) ≡ None
no_other = refl

-- ---- a row stays up to its expiry, and isn't put in after it

expired_legal : IsLegal base 7 (load 28_830_001 (sent_row 30_000 28_830_000) Expired ∷ [])
expired_legal = (refl, tt)

expired_entry : entry_in base group_a 0 (past_of (load 28_830_001 (sent_row 30_000 28_830_000) Expired ∷ [])) ≡ None
expired_entry = refl

at_expiry_legal : IsLegal base 7 (load 28_830_000 (sent_row 30_000 28_830_000) Put ∷ maintain 28_830_000 0 1 ∷ load 28_830_000 (sent_row 30_000 28_830_000) Put ∷ [])
at_expiry_legal = (refl, (refl, (refl, tt)))

-- ---- what may not be loaded

-- of an integration or a route that isn't there
no_integration : load_cause base 0 opening_state 100_000 (row group_a 1 30_000 28_830_000 (named (codes "A") ∷ []) []) ≡ Some NoIntegration
no_integration = refl

no_route : load_cause base 0 opening_state 100_000 (row (record { route = 1; labels = named (codes "A") }) 0 30_000 28_830_000 (named (codes "A") ∷ []) []) ≡ Some NoIntegration
no_route = refl

no_reply : reply base 7 opening_state (Load 100_000 (row group_a 1 30_000 28_830_000 (named (codes "A") ∷ []) [])) ≡ None
no_reply = refl

-- with label sets that aren't in order, or one twice
unordered : load_cause base 0 opening_state 100_000 (row group_a 0 30_000 28_830_000 (named (codes "B") ∷ named (codes "A") ∷ []) []) ≡ Some Unordered
unordered = refl

twice : load_cause base 0 opening_state 100_000 (row group_a 0 30_000 28_830_000 [] (named (codes "A") ∷ named (codes "A") ∷ [])) ≡ Some Unordered
twice = refl

-- of a later time
ahead : load_cause base 0 opening_state 29_999 (sent_row 30_000 28_830_000) ≡ Some Ahead
ahead = refl

-- where the history is full
full : load_cause base 1_048_576 opening_state 30_000 (sent_row 30_000 28_830_000) ≡ Some HistoryFull
full = refl

allowed : load_cause base 1_048_575 opening_state 30_000 (sent_row 30_000 28_830_000) ≡ None
allowed = refl

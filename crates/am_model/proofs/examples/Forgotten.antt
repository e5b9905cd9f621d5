-- The definitions, run on rows in which a board forgets.
use Rattle.std.proofs.Common.{◌≡◌, ℕ, Bool, true, false, List, [], ◌∷◌, ◌++◌, refl}
use Rattle.std.specs.Prelude.{codes}
use Rattle.am_alerts.specs.AlertData.{AlertData}
use Rattle.am_alerts.specs.declared.matcher.Operator.TheVariants.{Equal}
use Rattle.am_retry.specs.declared.outcome.Outcome.TheVariants.{Delivered}
use Rattle.am_model.specs.declared.record.Record.{Record}
use Rattle.am_model.specs.declared.record.Call.TheVariants.{Silence, Forget}
use Rattle.am_model.specs.declared.record.Reply.TheVariants.{Silenced}
use Rattle.am_model.specs.look_back.Past.{is_maintenance}
use Rattle.am_model.specs.Records.{entry}
use Rattle.am_model.specs.Replay.{IsLegal, replay}
use Rattle.am_model.proofs.examples.Base.{base, named, fires, ended, group_a, first_notice, insert, flush_hook, finish, maintain, remove_empty_groups, forget}

-- A, ended at 200,000
abbrev gone : AlertData
gone = ended (named (codes "A")) 0 200_000

-- an alert that fires stays, and so does one that is resolved and in a group
abbrev none_idle : List Record
none_idle = first_notice ++ forget 199_999 0 0 ∷ insert 200_000 gone 2 1 0 ∷ forget 200_000 0 0 ∷ flush_hook 330_000 2 group_a 630_000 [] (gone ∷ []) ∷ forget 330_000 0 0 ∷ []

none_idle_known : (replay base none_idle).known ≡ gone ∷ []
none_idle_known = refl

-- it goes once it left its group
abbrev idle : List Record
idle = none_idle ++ finish 330_000 2 ((0, Delivered) ∷ []) 1 1 ∷ forget 330_000 1 0 ∷ forget 330_000 0 0 ∷ []

idle_legal : IsLegal base 7 idle
idle_legal = (refl, (refl, (refl, (refl, (refl, (refl, (refl, (refl, (refl, (refl, (refl, (refl, tt))))))))))))

idle_known : (replay base idle).known ≡ []
idle_known = refl

-- the group is left to a maintenance, and a later insert is a new alert of it
again_legal : IsLegal base 7 (idle ++ insert 700_000 (fires (named (codes "A")) 700_000) 3 1 0 ∷ [])
again_legal = (refl, (refl, (refl, (refl, (refl, (refl, (refl, (refl, (refl, (refl, (refl, (refl, (refl, tt)))))))))))))

maintained_legal : IsLegal base 7 (idle ++ maintain 700_000 1 0 ∷ [])
maintained_legal = (refl, (refl, (refl, (refl, (refl, (refl, (refl, (refl, (refl, (refl, (refl, (refl, (refl, tt)))))))))))))

removed_legal : IsLegal base 7 (idle ++ remove_empty_groups 700_000 1 ∷ [])
removed_legal = (refl, (refl, (refl, (refl, (refl, (refl, (refl, (refl, (refl, (refl, (refl, (refl, (refl, tt)))))))))))))

-- a silence of alert name A from 0 to 330,000
abbrev silence : ℕ → Bool → Record
silence now replaced =
    entry 0 (Silence now 1 (record { name = codes "alertname"; op = Equal; value = codes "A" } ∷ []) 0 330_000) (Silenced (record { replaced = replaced }))

-- it stays up to its end, and is a new one after it
silences_legal : IsLegal base 7 (silence 0 false ∷ forget 329_999 0 0 ∷ silence 329_999 true ∷ forget 330_000 0 1 ∷ silence 330_000 false ∷ [])
silences_legal = (refl, (refl, (refl, (refl, (refl, tt)))))

forgets_only : is_maintenance (Forget 0) ≡ false
forgets_only = refl

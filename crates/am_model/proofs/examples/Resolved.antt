-- The definitions, run on rows in which alerts are resolved.
use Rattle.std.proofs.Common.{◌≡◌, List, [], ◌∷◌, ◌++◌, refl}
use Rattle.std.specs.Prelude.{codes}
use Rattle.am_alerts.specs.AlertData.{AlertData}
use Rattle.am_retry.specs.declared.outcome.Outcome.TheVariants.{Delivered, Refused}
use Rattle.am_model.specs.declared.record.Record.{Record}
use Rattle.am_model.specs.Replay.{IsLegal, replay}
use Rattle.am_model.proofs.examples.Base.{base, with_mail, firing_only, named, instance, fires, ended, group_a, a, first_notice, insert, quiet, notice, flush, flush_hook, finish, maintain, row, dues, alerts}

-- A, ended at 200,000
abbrev gone : AlertData
gone = ended (named (codes "A")) 0 200_000

-- resolved, removed, collected, again
abbrev up_to_flush_2 : List Record
up_to_flush_2 = first_notice ++ insert 200_000 gone 2 1 0 ∷ flush_hook 330_000 2 group_a 630_000 [] (gone ∷ []) ∷ []

abbrev made_again : List Record
made_again =
    up_to_flush_2
    ++ finish 330_000 2 ((0, Delivered) ∷ []) 1 1
    ∷ quiet 630_000 group_a 0
    ∷ maintain 630_000 1 0
    ∷ insert 700_000 (fires (named (codes "A")) 700_000) 3 1 1
    ∷ []

made_again_legal : IsLegal base 7 (made_again ++ flush_hook 730_000 3 group_a 1_030_000 (fires (named (codes "A")) 700_000 ∷ []) [] ∷ [])
made_again_legal = (refl, (refl, (refl, (refl, (refl, (refl, (refl, (refl, (refl, (refl, (refl, tt)))))))))))

made_again_due : dues (replay base made_again) ≡ 730_000 ∷ []
made_again_due = refl

-- resolved before the first flush
abbrev resolved_early : List Record
resolved_early = insert 0 a 1 1 1 ∷ insert 10_000 (ended (named (codes "A")) 0 10_000) 2 1 0 ∷ quiet 30_000 group_a 1 ∷ []

resolved_early_legal : IsLegal base 7 resolved_early
resolved_early_legal = (refl, (refl, (refl, tt)))

resolved_early_rows : (replay base resolved_early).rows ≡ []
resolved_early_rows = refl

-- nothing to send is a success
abbrev nothing_to_send : List Record
nothing_to_send =
    first_notice
    ++ insert 200_000 gone 2 1 0
    ∷ flush_hook 330_000 2 group_a 630_000 [] []
    ∷ finish 330_000 2 [] 1 1
    ∷ []

nothing_to_send_legal : IsLegal firing_only 7 nothing_to_send
nothing_to_send_legal = (refl, (refl, (refl, (refl, (refl, (refl, (refl, tt)))))))

nothing_to_send_row : (replay firing_only nothing_to_send).rows ≡ row group_a 0 330_000 29_130_000 [] (named (codes "A") ∷ []) ∷ []
nothing_to_send_row = refl

-- one of two integrations fails
abbrev one_fails : List Record
one_fails =
    insert 0 a 1 1 1
    ∷ flush 30_000 1 group_a 330_000 (notice 1 330_000 group_a 0 (a ∷ []) [] ∷ notice 1 330_000 group_a 1 (a ∷ []) [] ∷ [])
    ∷ finish 30_000 1 ((0, Delivered) ∷ (1, Delivered) ∷ []) 2 0
    ∷ insert 200_000 gone 2 1 0
    ∷ flush 330_000 2 group_a 630_000 (notice 2 630_000 group_a 0 [] (gone ∷ []) ∷ notice 2 630_000 group_a 1 [] (gone ∷ []) ∷ [])
    ∷ finish 330_000 2 ((0, Delivered) ∷ (1, Refused) ∷ []) 1 0
    ∷ flush 630_000 3 group_a 930_000 (notice 3 930_000 group_a 1 [] (gone ∷ []) ∷ [])
    ∷ finish 630_000 3 ((1, Delivered) ∷ []) 1 1
    ∷ []

one_fails_legal : IsLegal with_mail 7 one_fails
one_fails_legal = (refl, (refl, (refl, (refl, (refl, (refl, (refl, (refl, tt))))))))

-- fires again during the flush
abbrev again : AlertData
again = fires (named (codes "A")) 330_000

abbrev fires_again : List Record
fires_again = up_to_flush_2 ++ insert 330_000 again 3 1 0 ∷ finish 330_000 2 ((0, Delivered) ∷ []) 1 0 ∷ []

fires_again_legal : IsLegal base 7 (fires_again ++ flush_hook 630_000 3 group_a 930_000 (again ∷ []) [] ∷ [])
fires_again_legal = (refl, (refl, (refl, (refl, (refl, (refl, (refl, (refl, (refl, tt)))))))))

fires_again_alerts : alerts (replay base fires_again) ≡ (again ∷ []) ∷ []
fires_again_alerts = refl

-- resolved alerts are left out of a notice for which they aren't sent
abbrev other : AlertData
other = fires (instance (codes "A") (codes "2")) 0

abbrev one_fires : List Record
one_fires =
    insert 0 other 1 1 1
    ∷ insert 10_000 (ended (named (codes "A")) 0 10_000) 2 1 0
    ∷ flush_hook 30_000 1 group_a 330_000 (other ∷ []) []
    ∷ finish 30_000 1 [] 0 0
    ∷ []

one_fires_legal : IsLegal firing_only 7 one_fires
one_fires_legal = (refl, (refl, (refl, (refl, tt))))

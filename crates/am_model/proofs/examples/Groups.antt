-- The definitions, run on worked rows: each row is a legal history, and leaves the state that it says.
use Rattle.std.proofs.Common.{◌≡◌, Some, None, List, [], ◌∷◌, ◌++◌, refl}
use Rattle.std.specs.Prelude.{codes}
use Rattle.am_alerts.specs.AlertData.{AlertData}
use Rattle.am_retry.specs.declared.outcome.Outcome.TheVariants.{Delivered, Refused}
use Rattle.am_alerts.specs.RoutingTree.{tree_of}
use Rattle.am_model.specs.declared.config.Config.{Config}
use Rattle.am_model.specs.declared.record.Record.{Record}
use Rattle.am_model.specs.declared.record.Call.TheVariants.{Finish}
use Rattle.am_model.specs.Laws.{last_begin}
use Rattle.am_model.specs.Replay.{IsLegal, reply, replay}
use Rattle.am_model.specs.Views.{summary}
use Rattle.am_model.proofs.examples.Base.{base, route_every, named, instance, fires, ended, group_a, a, first_notice, insert, nothing_due, quiet, flush_hook, finish, row, dues}

-- first notice
first_notice_legal : IsLegal base 7 first_notice
first_notice_legal = (refl, (refl, (refl, (refl, tt))))

first_notice_row : (replay base first_notice).rows ≡ row group_a 0 30_000 28_830_000 (named (codes "A") ∷ []) [] ∷ []
first_notice_row = refl

first_notice_due : dues (replay base first_notice) ≡ 330_000 ∷ []
first_notice_due = refl

-- due at group wait, or at once when old
abbrev not_old : List Record
not_old = insert 40_000 (fires (named (codes "A")) 10_000) 1 1 1 ∷ []

not_old_legal : IsLegal base 7 not_old
not_old_legal = (refl, tt)

not_old_due : dues (replay base not_old) ≡ 70_000 ∷ []
not_old_due = refl

abbrev old_alert : AlertData
old_alert = fires (named (codes "A")) 9_999

abbrev old_one : List Record
old_one = insert 40_000 old_alert 1 1 1 ∷ []

old_one_due : dues (replay base old_one) ≡ 40_000 ∷ []
old_one_due = refl

old_one_legal : IsLegal base 7 (old_one ++ flush_hook 40_000 1 group_a 340_000 (old_alert ∷ []) [] ∷ [])
old_one_legal = (refl, (refl, tt))

-- nothing new is quiet
abbrev nothing_new : List Record
nothing_new = first_notice ++ quiet 330_000 group_a 0 ∷ []

nothing_new_legal : IsLegal base 7 nothing_new
nothing_new_legal = (refl, (refl, (refl, (refl, (refl, tt)))))

nothing_new_due : dues (replay base nothing_new) ≡ 630_000 ∷ []
nothing_new_due = refl

-- repeat after the interval only
abbrev at_repeat : List Record
at_repeat = first_notice ++ quiet 14_430_000 group_a 0 ∷ []

at_repeat_legal : IsLegal base 7 at_repeat
at_repeat_legal = (refl, (refl, (refl, (refl, (refl, tt)))))

at_repeat_due : dues (replay base at_repeat) ≡ 14_730_000 ∷ []
at_repeat_due = refl

after_repeat_legal : IsLegal base 7 (first_notice ++ flush_hook 14_430_001 2 group_a 14_730_001 (a ∷ []) [] ∷ [])
after_repeat_legal = (refl, (refl, (refl, (refl, (refl, tt)))))

-- a new alert of a group
abbrev second : AlertData
second = fires (instance (codes "A") (codes "2")) 100_000

new_alert_legal : IsLegal base 7 (first_notice ++ insert 100_000 second 2 1 0 ∷ flush_hook 330_000 2 group_a 630_000 (a ∷ second ∷ []) [] ∷ [])
new_alert_legal = (refl, (refl, (refl, (refl, (refl, (refl, tt))))))

-- the clock never goes back
abbrev back : List Record
back =
    insert 50_000 (fires (named (codes "A")) 50_000) 1 1 1
    ∷ insert 40_000 (fires (named (codes "B")) 40_000) 2 1 1
    ∷ nothing_due 45_000
    ∷ []

back_legal : IsLegal base 7 back
back_legal = (refl, (refl, (refl, tt)))

back_due : dues (replay base back) ≡ 80_000 ∷ 80_000 ∷ []
back_due = refl

back_clock : (replay base back).clock ≡ 50_000
back_clock = refl

-- a time above the greatest is the greatest
late_clock : (replay base (nothing_due 1_000_000_000_000_001 ∷ [])).clock ≡ 1_000_000_000_000_000
late_clock = refl

-- a group whose flush is open isn't taken
open_is_passed_over : IsLegal base 7 (insert 0 a 1 1 1 ∷ flush_hook 30_000 1 group_a 330_000 (a ∷ []) [] ∷ nothing_due 330_000 ∷ [])
open_is_passed_over = (refl, (refl, (refl, tt)))

-- an end that hasn't come isn't in the notice
future_end : IsLegal base 7 (insert 0 (ended (named (codes "A")) 0 30_001) 1 1 1 ∷ flush_hook 30_000 1 group_a 330_000 (a ∷ []) [] ∷ [])
future_end = (refl, (refl, tt))

-- a finish with nothing recorded
abbrev unreported : List Record
unreported = insert 0 a 1 1 1 ∷ flush_hook 30_000 1 group_a 330_000 (a ∷ []) [] ∷ finish 30_000 1 [] 0 0 ∷ []

unreported_legal : IsLegal base 7 unreported
unreported_legal = (refl, (refl, (refl, tt)))

unreported_summary : summary base unreported ≡ record { calls = 3; groups = 1; alerts = 1; flushes = 0; entries = 0 }
unreported_summary = refl

-- the first outcome of an integration counts
first_outcome_counts : IsLegal base 7 (insert 0 a 1 1 1 ∷ flush_hook 30_000 1 group_a 330_000 (a ∷ []) [] ∷ finish 30_000 1 ((1, Delivered) ∷ (0, Refused) ∷ (0, Delivered) ∷ []) 0 0 ∷ [])
first_outcome_counts = (refl, (refl, (refl, tt)))

-- a finish of a flush that isn't open is no legal one
not_open : reply base 7 (replay base first_notice) (Finish 30_000 1 []) ≡ None
not_open = refl

-- the last begin of a group, and none once a maintenance has found it empty
begun_last : last_begin base group_a at_repeat ≡ Some 14_430_000
begun_last = refl

never_begun : last_begin base group_a back ≡ None
never_begun = refl

-- a group that was flushed isn't due at once for an old alert
flushed_waits : dues (replay base (first_notice ++ insert 200_000 (fires (instance (codes "A") (codes "2")) 0) 2 1 0 ∷ [])) ≡ 330_000 ∷ []
flushed_waits = refl

-- a flush has ten seconds at least
abbrev every_second : Config
every_second = record base { routes = tree_of (route_every 1_000 (codes "root")) [] }

ten_seconds : IsLegal every_second 7 (insert 0 a 1 1 1 ∷ flush_hook 30_000 1 group_a 40_000 (a ∷ []) [] ∷ [])
ten_seconds = (refl, (refl, tt))

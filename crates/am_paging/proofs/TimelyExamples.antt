-- Worked histories of drivers that are on time, and of drivers that aren't: the hypotheses are met, and each is needed.
use Rattle.std.proofs.Common.{◌≡◌, ℕ, ◌+◌, ◌<◌, ◌≤◌, true, false, Some, None, List, [], ◌∷◌, ◌++◌, refl, sym, arith}
use Rattle.std.specs.Prelude.{codes}
use Rattle.std.proofs.lemmas.Bool.{false≢true}
use Rattle.am_alerts.specs.AlertData.{AlertData}
use Rattle.am_alerts.specs.declared.labels.Label.{Label}
use Rattle.am_alerts.specs.declared.matcher.Operator.TheVariants.{Equal}
use Rattle.am_retry.specs.declared.outcome.Outcome.TheVariants.{Delivered, Refused}
use Rattle.am_model.specs.declared.record.Call.TheVariants.{Silence}
use Rattle.am_model.specs.declared.record.Record.{Record}
use Rattle.am_model.specs.declared.record.Reply.TheVariants.{Silenced}
use Rattle.am_model.specs.Records.{entry}
use Rattle.am_model.specs.Replay.{IsLegal}
use Rattle.am_model.specs.look_back.Entry.{entry_in}
use Rattle.am_model.specs.look_back.Laws.{begun_at}
use Rattle.am_model.specs.look_back.Past.{AtEach, past_of, time_at}
use Rattle.am_model.specs.look_back.Presence.{goes_to}
use Rattle.am_model.proofs.examples.Base.{base, named, instance, fires, group, group_a, a, insert, nothing_due, quiet, flush_hook, finish}
use Rattle.am_paging.specs.InTime.{IsOnTime, WasOnTime, waits_since, latest, begun_by, asked_at, IsDueOnTime, finishes_for, Succeeds}
use Rattle.am_paging.specs.Paging.{is_due_a_page, pages, reports_page}

abbrev labels_a : List Label
labels_a = named (codes "A")

abbrev b : AlertData
b = fires (instance (codes "A") (codes "2")) 33_000

-- a slack of two seconds and a hold of three
abbrev OnTime : Record → List Record → Type 0
OnTime = IsOnTime 2_000 3_000 base group_a

-- ---- A at 0, begun a second late; B while the flush is open; finished within the hold; begun again as late as it can be

abbrev second : List Record
second =
    insert 0 a 1 1 1 ∷ flush_hook 31_000 1 group_a 331_000 (a ∷ []) []
    ∷ insert 33_000 b 2 1 0 ∷ finish 34_000 1 ((0, Delivered) ∷ []) 1 0 ∷ []

abbrev begin_ab : Record
begin_ab = flush_hook 333_000 2 group_a 633_000 (a ∷ b ∷ []) []

second_legal : IsLegal base 7 (second ++ begin_ab ∷ [])
second_legal = (refl, (refl, (refl, (refl, (refl, tt)))))

begin_on_time : OnTime begin_ab (past_of second)
begin_on_time = record { begins = λ e. omega arith; ends = λ e. absurd (false≢true e) }

finish_on_time : OnTime (finish 34_000 1 ((0, Delivered) ∷ []) 1 0) (past_of (insert 0 a 1 1 1 ∷ flush_hook 31_000 1 group_a 331_000 (a ∷ []) [] ∷ insert 33_000 b 2 1 0 ∷ []))
finish_on_time = record { begins = λ e. absurd (false≢true (sym e)); ends = λ e. omega arith }

insert_on_time : OnTime (insert 33_000 b 2 1 0) (past_of (insert 0 a 1 1 1 ∷ flush_hook 31_000 1 group_a 331_000 (a ∷ []) [] ∷ []))
insert_on_time = record { begins = λ e. absurd (false≢true (sym e)); ends = λ e. omega arith }

second_on_time : WasOnTime 2_000 3_000 base group_a (past_of second)
second_on_time = λ _. (finish_on_time, λ _. (insert_on_time, λ e. absurd (false≢true (sym e))))

b_goes : goes_to base group_a b.labels ≡ true
b_goes = refl

b_waits : waits_since group_a b.labels (past_of second) ≡ Some 33_000
b_waits = refl

as_late : latest base group_a 3_000 33_000 (begun_at base group_a (past_of second)) + 2_000 ≡ 333_000
as_late = refl

-- A waits for the first begin, and no more after it
a_waits : waits_since group_a labels_a (past_of (insert 0 a 1 1 1 ∷ [])) ≡ Some 0
a_waits = refl

first_late : latest base group_a 3_000 0 (begun_at base group_a (past_of (insert 0 a 1 1 1 ∷ []))) + 2_000 ≡ 32_000
first_late = refl

a_waits_not : waits_since group_a labels_a (past_of second) ≡ None
a_waits_not = refl

-- ---- left out: the slack; nobody begins A's group until 40 seconds

abbrev slow : Record
slow = flush_hook 40_000 1 group_a 340_000 (a ∷ []) []

slow_legal : IsLegal base 7 (insert 0 a 1 1 1 ∷ slow ∷ [])
slow_legal = (refl, (refl, tt))

slow_late : OnTime slow (past_of (insert 0 a 1 1 1 ∷ [])) → ⊥
slow_late on = by (on.begins refl)
  where
    by : 40_000 ≤ 30_000 + 2_000 → ⊥
    by h = absurd (omega (arith, h))

slow_waited : 40_000 ≤ latest base group_a 3_000 0 (begun_at base group_a (past_of (insert 0 a 1 1 1 ∷ []))) + 2_000 → ⊥
slow_waited h = absurd (omega (arith, h))

-- ---- left out: the hold; B waits for the end of a flush that is open for a quarter of an hour

abbrev held : List Record
held = insert 0 a 1 1 1 ∷ flush_hook 30_000 1 group_a 330_000 (a ∷ []) [] ∷ insert 33_000 b 2 1 0 ∷ []

held_legal : IsLegal base 7 (held ++ nothing_due 900_000 ∷ [])
held_legal = (refl, (refl, (refl, (refl, tt))))

held_late : OnTime (nothing_due 900_000) (past_of held) → ⊥
held_late on = by (on.ends refl)
  where
    by : 900_000 ≤ 30_000 + 3_000 → ⊥
    by h = absurd (omega (arith, h))

held_waits : waits_since group_a b.labels (past_of held) ≡ Some 33_000
held_waits = refl

held_waited : 900_000 ≤ latest base group_a 3_000 33_000 (begun_at base group_a (past_of held)) + 2_000 → ⊥
held_waited h = absurd (omega (arith, h))

-- ---- left out: the records before; the begin after that late end is on time by itself

abbrev ended_late : List Record
ended_late = held ++ finish 900_000 1 ((0, Delivered) ∷ []) 1 0 ∷ []

abbrev begin_then : Record
begin_then = flush_hook 901_000 2 group_a 1_201_000 (a ∷ b ∷ []) []

ended_late_legal : IsLegal base 7 (ended_late ++ begin_then ∷ [])
ended_late_legal = (refl, (refl, (refl, (refl, (refl, tt)))))

begin_then_on_time : OnTime begin_then (past_of ended_late)
begin_then_on_time = record { begins = λ e. omega arith; ends = λ e. absurd (false≢true e) }

then_waits : waits_since group_a b.labels (past_of ended_late) ≡ Some 33_000
then_waits = refl

then_waited : 901_000 ≤ latest base group_a 3_000 33_000 (begun_at base group_a (past_of ended_late)) + 2_000 → ⊥
then_waited h = absurd (omega (arith, h))

-- ---- left out: that a route leads to the group; an alert of another group isn't begun with it

abbrev c : AlertData
c = fires (named (codes "C")) 0

abbrev begin_c : Record
begin_c = flush_hook 100_000 1 (group (codes "C")) 400_000 (c ∷ []) []

other_legal : IsLegal base 7 (insert 0 c 1 1 1 ∷ begin_c ∷ [])
other_legal = (refl, (refl, tt))

other_goes : goes_to base group_a c.labels ≡ false
other_goes = refl

other_on_time : OnTime begin_c (past_of (insert 0 c 1 1 1 ∷ []))
other_on_time = record { begins = λ e. tt; ends = λ e. absurd (false≢true e) }

other_waits : waits_since group_a c.labels (past_of (insert 0 c 1 1 1 ∷ [])) ≡ Some 0
other_waits = refl

other_waited : 100_000 ≤ latest base group_a 3_000 0 (begun_at base group_a (past_of (insert 0 c 1 1 1 ∷ []))) + 2_000 → ⊥
other_waited h = absurd (omega (arith, h))

-- ---- a page after a silence that is over at 100 seconds: A is due from then on, and the begin at 331 seconds pages

abbrev silence_until : ℕ → Record
silence_until end =
    entry 0 (Silence 5_000 1 (record { name = codes "alertname"; op = Equal; value = codes "A" } ∷ []) 5_000 end) (Silenced (record { replaced = false }))

abbrev silenced : List Record
silenced = insert 0 a 1 1 1 ∷ silence_until 100_000 ∷ quiet 30_000 group_a 0 ∷ []

abbrev begin_a : Record
begin_a = flush_hook 331_000 1 group_a 631_000 (a ∷ []) []

abbrev heard : List Record
heard = silenced ++ begin_a ∷ finish 333_000 1 ((0, Delivered) ∷ []) 1 0 ∷ []

heard_legal : IsLegal base 7 heard
heard_legal = (refl, (refl, (refl, (refl, (refl, tt)))))

abbrev DueOnTime : Record → List Record → Type 0
DueOnTime = IsDueOnTime 2_000 3_000 base group_a labels_a 100_000

-- a record up to x is as it will
early : (t : ℕ) (X : Type 0) → t ≤ 100_000 → 100_000 < t → X
early t X come after = absurd (omega (arith, come, after))

heard_on_time : AtEach DueOnTime (past_of heard)
heard_on_time = (
  λ _. (record { begins = λ e. absurd (false≢true (sym e)); ends = λ e. omega arith }, refl),
  (
    λ _. (record { begins = λ e. omega arith; ends = λ e. absurd (false≢true e) }, refl),
    (λ after. absurd (omega (arith, after)), (λ after. absurd (omega (arith, after)), (λ after. absurd (omega (arith, after)), tt))),
  ),
)

heard_by : begun_by base group_a 3_000 100_000 (past_of heard) + 2_000 ≡ 332_000
heard_by = refl

heard_late : 332_000 < time_at (past_of heard)
heard_late = omega arith

heard_paged : pages 0 labels_a begin_a.reply ≡ true
heard_paged = refl

-- a little later, it was delivered in time: the finish reports it
abbrev reached : List Record
reached = heard ++ nothing_due 336_000 ∷ []

reached_legal : IsLegal base 7 reached
reached_legal = (refl, (refl, (refl, (refl, (refl, (refl, tt))))))

reached_on_time : AtEach DueOnTime (past_of reached)
reached_on_time = (λ _. (record { begins = λ e. omega arith; ends = λ e. absurd (false≢true e) }, refl), heard_on_time)

reached_succeeds : AtEach (Succeeds group_a 0 100_000) (past_of reached)
reached_succeeds = (
  λ _ f. absurd (false≢true f),
  (λ _ f. refl, (λ _ f. absurd (false≢true f), (λ _ f. absurd (false≢true f), (λ _ f. absurd (false≢true f), (λ _ f. absurd (false≢true f), tt))))),
)

reached_late : 332_000 + 3_000 < time_at (past_of reached)
reached_late = omega arith

reached_reported : reports_page group_a 0 labels_a (past_of (silenced ++ begin_a ∷ [])) (finish 333_000 1 ((0, Delivered) ∷ []) 1 0).call ≡ true
reached_reported = refl

-- left out: that it succeeds; the notice is refused, and nobody is notified
abbrev refused : List Record
refused = silenced ++ begin_a ∷ finish 333_000 1 ((0, Refused) ∷ []) 0 0 ∷ []

refused_legal : IsLegal base 7 (refused ++ nothing_due 336_000 ∷ [])
refused_legal = (refl, (refl, (refl, (refl, (refl, (refl, tt))))))

refused_fails : finishes_for 0 (past_of (silenced ++ begin_a ∷ [])) (finish 333_000 1 ((0, Refused) ∷ []) 0 0).call ≡ false
refused_fails = refl

-- that is of one integration: another isn't asked about
refused_other : finishes_for 1 (past_of (silenced ++ begin_a ∷ [])) (finish 333_000 1 ((0, Refused) ∷ []) 0 0).call ≡ true
refused_other = refl

refused_unreported : reports_page group_a 0 labels_a (past_of (silenced ++ begin_a ∷ [])) (finish 333_000 1 ((0, Refused) ∷ []) 0 0).call ≡ false
refused_unreported = refl

refused_entry : entry_in base group_a 0 (past_of refused) ≡ None
refused_entry = refl

-- left out: that it is on time; A is due from 0 on, and its group is begun after 32 seconds
slow_due : is_due_a_page base group_a labels_a 40_000 (past_of (insert 0 a 1 1 1 ∷ [])) ≡ true
slow_due = refl

slow_by : begun_by base group_a 3_000 0 (past_of (insert 0 a 1 1 1 ∷ slow ∷ [])) + 2_000 ≡ 32_000
slow_by = refl

-- ---- a driver that asks: at 31 seconds it begins the group, and hears that nothing more is due; for two seconds it need not ask again

abbrev asks : List Record
asks = insert 0 a 1 1 1 ∷ nothing_due 29_000 ∷ flush_hook 31_000 1 group_a 331_000 (a ∷ []) [] ∷ nothing_due 31_000 ∷ []

asks_legal : IsLegal base 7 (asks ++ finish 33_000 1 ((0, Delivered) ∷ []) 1 0 ∷ [])
asks_legal = (refl, (refl, (refl, (refl, (refl, tt)))))

asks_at : asked_at (past_of asks) ≡ 31_000
asks_at = refl

-- left out: that it asked; 11 seconds after the last answer, the group is late
asks_seldom : asked_at (past_of (insert 0 a 1 1 1 ∷ nothing_due 29_000 ∷ [])) ≡ 29_000
asks_seldom = refl

seldom_late : OnTime slow (past_of (insert 0 a 1 1 1 ∷ nothing_due 29_000 ∷ [])) → ⊥
seldom_late on = by (on.begins refl)
  where
    by : 40_000 ≤ 30_000 + 2_000 → ⊥
    by h = absurd (omega (arith, h))

-- left out: that it is due; the silence stays, all is on time, and nobody is notified
abbrev unheard : List Record
unheard = insert 0 a 1 1 1 ∷ silence_until 1_000_000 ∷ quiet 30_000 group_a 0 ∷ quiet 331_000 group_a 0 ∷ []

unheard_legal : IsLegal base 7 (unheard ++ nothing_due 333_000 ∷ [])
unheard_legal = (refl, (refl, (refl, (refl, (refl, tt)))))

unheard_on_time : OnTime (quiet 331_000 group_a 0) (past_of (insert 0 a 1 1 1 ∷ silence_until 1_000_000 ∷ quiet 30_000 group_a 0 ∷ []))
unheard_on_time = record { begins = λ e. omega arith; ends = λ e. absurd (false≢true e) }

unheard_not_due : is_due_a_page base group_a labels_a 331_000 (past_of (insert 0 a 1 1 1 ∷ silence_until 1_000_000 ∷ quiet 30_000 group_a 0 ∷ [])) ≡ false
unheard_not_due = refl

unheard_entry : entry_in base group_a 0 (past_of unheard) ≡ None
unheard_entry = refl

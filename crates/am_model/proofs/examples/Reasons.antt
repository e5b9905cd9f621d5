-- Worked histories of reasons: why a begin notifies an integration, or why not, and that it does so.
use Rattle.std.proofs.Common.{◌≡◌, ℕ, Bool, true, false, Option, Some, None, is_some, List, [], ◌∷◌, ◌++◌, refl, sym, ap, ◌∙◌, arith}
use Rattle.std.specs.Prelude.{codes}
use Rattle.std.proofs.lemmas.Bool.{false≢true}
use Rattle.am_alerts.specs.AlertData.{AlertData}
use Rattle.am_alerts.specs.Labels.{same_label_set}
use Rattle.am_alerts.specs.declared.labels.Label.{Label}
use Rattle.am_alerts.specs.declared.matcher.MatcherParts.{MatcherParts}
use Rattle.am_alerts.specs.declared.matcher.Operator.TheVariants.{Equal}
use Rattle.am_mute.specs.Inhibit.{RuleData, rule_of}
use Rattle.am_mute.specs.Silence.{silence_of}
use Rattle.am_nflog.specs.Members.{is_empty, is_member, is_subset}
use Rattle.am_retry.specs.declared.outcome.Outcome.TheVariants.{Delivered}
use Rattle.am_model.specs.declared.config.Config.{Config}
use Rattle.am_model.specs.declared.config.Integration.{Integration}
use Rattle.am_model.specs.declared.group.GroupName.{GroupName}
use Rattle.am_model.specs.declared.reason.Reason.TheVariants.{FirstNotice, NewAlert, AllResolved, NewlyResolved, Repeat, NothingLeft, NothingFiring, NotYet}
use Rattle.am_model.specs.declared.record.Call.TheVariants.{Silence}
use Rattle.am_model.specs.declared.record.Record.{Record}
use Rattle.am_model.specs.declared.record.Reply.TheVariants.{Silenced}
use Rattle.am_model.specs.declared.views.RowView.{RowView}
use Rattle.am_model.specs.Configured.{integrations_of}
use Rattle.am_model.specs.look_back.Entry.{known_in, silences_in, unmuted_in, firing_in, resolved_in, entry_in}
use Rattle.am_model.specs.Records.{entry}
use Rattle.am_model.specs.look_back.Past.{past_of}
use Rattle.am_model.specs.look_back.Reasons.{notifies, ReasonApplies, reason_in, is_notified_in, NotifiesForReasons}
use Rattle.am_model.specs.Replay.{IsLegal}
use Rattle.am_model.proofs.examples.Base.{base, firing_only, integration, label, named, instance, group, fires, ended, group_a, a, first_notice, insert, quiet, flush_hook, finish, row}

-- the one integration of the base configuration, sent resolved alerts or not
abbrev hook : ℕ × Integration
hook = (0, integration (codes "hook") true)

abbrev hook_firing_only : ℕ × Integration
hook_firing_only = (0, integration (codes "hook") false)

only_hook : integrations_of base group_a ≡ hook ∷ []
only_hook = refl

-- ---- first notice

abbrev begin_a : Record
begin_a = flush_hook 30_000 1 group_a 330_000 (a ∷ []) []

first_reason : reason_in base group_a 30_000 (past_of (insert 0 a 1 1 1 ∷ [])) hook ≡ FirstNotice
first_reason = refl

first_notifies : notifies FirstNotice ≡ true
first_notifies = refl

hook_is_notified : is_notified_in 0 begin_a.reply ≡ true
hook_is_notified = refl

mail_is_not_notified : is_notified_in 1 begin_a.reply ≡ false
mail_is_not_notified = refl

quiet_notifies_nobody : is_notified_in 0 (quiet 330_000 group_a 0).reply ≡ false
quiet_notifies_nobody = refl

-- a begin that notifies nobody where there is a reason breaks the law, and so does one that notifies where there is none
notifies_nobody : NotifiesForReasons base (quiet 30_000 group_a 0) (past_of (insert 0 a 1 1 1 ∷ [])) → ⊥
notifies_nobody notified = false≢true (sym (ap is_empty (notified.only group_a refl)))

asks_again : NotifiesForReasons base (flush_hook 330_000 2 group_a 630_000 (a ∷ []) []) (past_of first_notice) → ⊥
asks_again notified = false≢true (ap is_empty (notified.only group_a refl))

-- ---- not yet, and the repeat: the reason names its time

waits : reason_in base group_a 330_000 (past_of first_notice) hook ≡ NotYet 14_430_001
waits = refl

waits_at_equality : reason_in base group_a 14_430_000 (past_of first_notice) hook ≡ NotYet 14_430_001
waits_at_equality = refl

repeats : reason_in base group_a 14_430_001 (past_of first_notice) hook ≡ Repeat
repeats = refl

repeat_notifies : notifies Repeat ≡ true
repeat_notifies = refl

waiting_notifies_not : notifies (NotYet 14_430_001) ≡ false
waiting_notifies_not = refl

waits_legal : IsLegal base 7 (first_notice ++ quiet 330_000 group_a 0 ∷ quiet 14_430_000 group_a 0 ∷ [])
waits_legal = (refl, (refl, (refl, (refl, (refl, (refl, tt))))))

repeats_legal : IsLegal base 7 (first_notice ++ flush_hook 14_430_001 2 group_a 14_730_001 (a ∷ []) [] ∷ [])
repeats_legal = (refl, (refl, (refl, (refl, (refl, tt)))))

-- ---- a new alert of the group, also where the repeat would be due

abbrev second : AlertData
second = fires (instance (codes "A") (codes "2")) 100_000

abbrev with_second : List Record
with_second = first_notice ++ insert 100_000 second 2 1 0 ∷ []

new_reason : reason_in base group_a 330_000 (past_of with_second) hook ≡ NewAlert
new_reason = refl

new_before_repeat : reason_in base group_a 14_430_001 (past_of with_second) hook ≡ NewAlert
new_before_repeat = refl

new_legal : IsLegal base 7 (with_second ++ flush_hook 330_000 2 group_a 630_000 (a ∷ second ∷ []) [] ∷ [])
new_legal = (refl, (refl, (refl, (refl, (refl, (refl, tt))))))

-- ---- all resolved, whether resolved alerts are sent or not

abbrev a_ended : AlertData
a_ended = ended (named (codes "A")) 0 100_000

abbrev with_end : List Record
with_end = first_notice ++ insert 100_000 a_ended 2 1 0 ∷ []

all_resolved : reason_in base group_a 330_000 (past_of with_end) hook ≡ AllResolved
all_resolved = refl

all_resolved_firing_only : reason_in firing_only group_a 330_000 (past_of with_end) hook_firing_only ≡ AllResolved
all_resolved_firing_only = refl

all_resolved_legal : IsLegal firing_only 7 (with_end ++ flush_hook 330_000 2 group_a 630_000 [] [] ∷ [])
all_resolved_legal = (refl, (refl, (refl, (refl, (refl, (refl, tt))))))

-- ---- one of two is resolved: reported at once, but not where resolved alerts aren't sent

abbrev second_ended : AlertData
second_ended = ended (instance (codes "A") (codes "2")) 0 100_000

abbrev one_of_two : List Record
one_of_two =
    insert 0 a 1 1 1
    ∷ insert 0 (fires (instance (codes "A") (codes "2")) 0) 2 1 0
    ∷ flush_hook 30_000 1 group_a 330_000 (a ∷ fires (instance (codes "A") (codes "2")) 0 ∷ []) []
    ∷ finish 30_000 1 ((0, Delivered) ∷ []) 1 0
    ∷ insert 100_000 second_ended 3 1 0
    ∷ []

newly_resolved : reason_in base group_a 330_000 (past_of one_of_two) hook ≡ NewlyResolved
newly_resolved = refl

not_newly_resolved : reason_in firing_only group_a 330_000 (past_of one_of_two) hook_firing_only ≡ NotYet 14_430_001
not_newly_resolved = refl

newly_resolved_legal : IsLegal base 7 (one_of_two ++ flush_hook 330_000 2 group_a 630_000 (a ∷ []) (second_ended ∷ []) ∷ [])
newly_resolved_legal = (refl, (refl, (refl, (refl, (refl, (refl, tt))))))

not_newly_resolved_legal : IsLegal firing_only 7 (one_of_two ++ quiet 330_000 group_a 1 ∷ [])
not_newly_resolved_legal = (refl, (refl, (refl, (refl, (refl, (refl, tt))))))

-- ---- a newly resolved alert where nothing fires isn't reported, though resolved alerts are sent: the entry has nothing as firing

abbrev one : AlertData
one = fires (instance (codes "A") (codes "1")) 0

abbrev one_ended : AlertData
one_ended = ended (instance (codes "A") (codes "1")) 0 100_000

abbrev two_ended : AlertData
two_ended = ended (instance (codes "A") (codes "2")) 0 350_000

abbrev resolved_only : List Record
resolved_only =
    insert 0 one 1 1 1
    ∷ flush_hook 30_000 1 group_a 330_000 (one ∷ []) []
    ∷ finish 31_000 1 ((0, Delivered) ∷ []) 1 0
    ∷ insert 100_000 one_ended 2 1 0
    ∷ flush_hook 330_000 2 group_a 630_000 [] (one_ended ∷ [])
    ∷ finish 331_000 2 ((0, Delivered) ∷ []) 1 1
    ∷ insert 400_000 two_ended 3 1 0
    ∷ []

resolved_only_legal : IsLegal base 7 (resolved_only ++ quiet 630_000 group_a 1 ∷ [])
resolved_only_legal = (refl, (refl, (refl, (refl, (refl, (refl, (refl, (refl, tt))))))))

resolved_only_entry :
    entry_in base group_a 0 (past_of resolved_only) ≡ Some (row group_a 0 331_000 29_131_000 [] (instance (codes "A") (codes "1") ∷ []))
resolved_only_entry = refl

second_is_resolved : resolved_in base group_a 630_000 (past_of resolved_only) ≡ instance (codes "A") (codes "2") ∷ []
second_is_resolved = refl

resolved_only_reason : reason_in base group_a 630_000 (past_of resolved_only) hook ≡ NothingFiring
resolved_only_reason = refl

-- nor is one that is resolved before the first notice
never_fired : reason_in base group_a 30_000 (past_of (insert 0 (ended (named (codes "A")) 0 10_000) 1 1 1 ∷ [])) hook ≡ NothingFiring
never_fired = refl

never_fired_notifies : notifies NothingFiring ≡ false
never_fired_notifies = refl

-- ---- nothing left: the alert is silenced, though the entry has it as firing

abbrev is : List ℕ → List ℕ → MatcherParts
is name value = record { name = name; op = Equal; value = value }

abbrev silence : ℕ → ℕ → Bool → Record
silence now end replaced =
    entry 0 (Silence now 1 (is (codes "alertname") (codes "A") ∷ []) 0 end) (Silenced (record { replaced = replaced }))

abbrev silenced : List Record
silenced = first_notice ++ insert 100_000 a_ended 2 1 0 ∷ silence 200_000 400_000 false ∷ []

nothing_left : reason_in base group_a 330_000 (past_of silenced) hook ≡ NothingLeft
nothing_left = refl

nothing_left_notifies : notifies NothingLeft ≡ false
nothing_left_notifies = refl

none_unmuted : unmuted_in base group_a 330_000 (past_of silenced) ≡ []
none_unmuted = refl

silenced_legal : IsLegal base 7 (silenced ++ quiet 330_000 group_a 1 ∷ [])
silenced_legal = (refl, (refl, (refl, (refl, (refl, (refl, (refl, tt)))))))

-- the last silence of an id counts: replaced by one that is over, it mutes no more
abbrev silence_replaced : List Record
silence_replaced = silenced ++ silence 210_000 300_000 true ∷ []

over_again : reason_in base group_a 330_000 (past_of silence_replaced) hook ≡ AllResolved
over_again = refl

one_unmuted : unmuted_in base group_a 330_000 (past_of silence_replaced) ≡ a_ended ∷ []
one_unmuted = refl

-- ---- inhibition: a critical alert mutes a warning of its data centre, until it is resolved

abbrev rule : RuleData
rule = rule_of (is (codes "severity") (codes "critical") ∷ []) (is (codes "severity") (codes "warning") ∷ []) (codes "dc" ∷ [])

abbrev inhibiting : Config
inhibiting = record base { rules = rule ∷ [] }

abbrev labels_of : List ℕ → List ℕ → List Label
labels_of name severity = label (codes "alertname") name ∷ label (codes "dc") (codes "x") ∷ label (codes "severity") severity ∷ []

abbrev group_s : GroupName
group_s = group (codes "S")

abbrev group_t : GroupName
group_t = group (codes "T")

abbrev source : AlertData
source = fires (labels_of (codes "S") (codes "critical")) 0

abbrev target : AlertData
target = fires (labels_of (codes "T") (codes "warning")) 0

abbrev source_ended : AlertData
source_ended = ended (labels_of (codes "S") (codes "critical")) 0 40_000

abbrev both : List Record
both = insert 0 target 1 1 1 ∷ insert 0 source 2 1 1 ∷ []

abbrev inhibited : List Record
inhibited =
    both
    ++ flush_hook 30_000 1 group_s 330_000 (source ∷ []) []
    ∷ quiet 30_000 group_t 0
    ∷ finish 31_000 1 ((0, Delivered) ∷ []) 1 0
    ∷ []

abbrev inhibited_no_more : List Record
inhibited_no_more = inhibited ++ insert 40_000 source_ended 3 1 0 ∷ []

abbrev target_reported : List Record
target_reported =
    inhibited_no_more
    ++ flush_hook 330_000 2 group_s 630_000 [] (source_ended ∷ [])
    ∷ flush_hook 330_000 3 group_t 630_000 (target ∷ []) []
    ∷ []

inhibited_legal : IsLegal inhibiting 7 target_reported
inhibited_legal = (refl, (refl, (refl, (refl, (refl, (refl, (refl, (refl, tt))))))))

inhibited_reason : reason_in inhibiting group_t 30_000 (past_of both) hook ≡ NothingLeft
inhibited_reason = refl

inhibited_fires_not : firing_in inhibiting group_t 30_000 (past_of both) ≡ []
inhibited_fires_not = refl

source_fires : firing_in inhibiting group_s 30_000 (past_of both) ≡ labels_of (codes "S") (codes "critical") ∷ []
source_fires = refl

free_reason : reason_in inhibiting group_t 330_000 (past_of inhibited_no_more) hook ≡ FirstNotice
free_reason = refl

free_fires : firing_in inhibiting group_t 330_000 (past_of inhibited_no_more) ≡ labels_of (codes "T") (codes "warning") ∷ []
free_fires = refl

-- the known alerts are the last inserts, the silences the last of each id
known_last : known_in (past_of inhibited_no_more) ≡ source_ended ∷ target ∷ []
known_last = refl

no_silences : silences_in (past_of inhibited_no_more) ≡ []
no_silences = refl

last_silence : silences_in (past_of silence_replaced) ≡ silence_of 1 (is (codes "alertname") (codes "A") ∷ []) 0 300_000 ∷ []
last_silence = refl

-- ---- what each reason says, where it applies and where it doesn't

abbrev first_row : RowView
first_row = row group_a 0 30_000 28_830_000 (named (codes "A") ∷ []) []

abbrev rows_firing : Option RowView → List (List Label)
rows_firing None = []
rows_firing (Some r) = r.firing

abbrev rows_time : Option RowView → ℕ
rows_time None = 0
rows_time (Some r) = r.time

first_is_so : ReasonApplies FirstNotice base group_a 30_000 (past_of (insert 0 a 1 1 1 ∷ [])) hook
first_is_so = (refl, λ nil. false≢true (ap is_empty nil))

not_first : ReasonApplies FirstNotice base group_a 330_000 (past_of first_notice) hook → ⊥
not_first so = false≢true (sym (ap is_some so.0))

none_first : ReasonApplies FirstNotice base group_a 30_000 (past_of (insert 0 (ended (named (codes "A")) 0 10_000) 1 1 1 ∷ [])) hook → ⊥
none_first so = so.1 refl

new_is_so : ReasonApplies NewAlert base group_a 330_000 (past_of with_second) hook
new_is_so = (first_row, refl, (instance (codes "A") (codes "2"), refl, refl))

not_new : ReasonApplies NewAlert base group_a 330_000 (past_of first_notice) hook → ⊥
not_new (r, e, more) =
    let same : named (codes "A") ∷ [] ≡ r.firing = ap rows_firing e in
    false≢true (sym more.2 ∙ sym (ap (is_member same_label_set more.0) same) ∙ more.1)

all_is_so : ReasonApplies AllResolved base group_a 330_000 (past_of with_end) hook
all_is_so = (first_row, refl, refl, λ nil. false≢true (ap is_empty nil), λ nil. false≢true (ap is_empty nil))

-- one still fires; the one that was resolved is silenced; the entry has nothing as firing
not_all : ReasonApplies AllResolved base group_a 330_000 (past_of one_of_two) hook → ⊥
not_all (r, e, nil, left, fired) = false≢true (ap is_empty nil)

none_left_to_report : ReasonApplies AllResolved base group_a 330_000 (past_of silenced) hook → ⊥
none_left_to_report (r, e, nil, left, fired) = left refl

reported_before : ReasonApplies AllResolved base group_a 630_000 (past_of resolved_only) hook → ⊥
reported_before (r, e, nil, left, fired) = fired (sym (ap rows_firing e))

abbrev row_of_two : RowView
row_of_two = row group_a 0 30_000 28_830_000 (named (codes "A") ∷ instance (codes "A") (codes "2") ∷ []) []

newly_is_so : ReasonApplies NewlyResolved base group_a 330_000 (past_of one_of_two) hook
newly_is_so = (row_of_two, refl, λ nil. false≢true (ap is_empty nil), refl, refl, (instance (codes "A") (codes "2"), refl, refl))

-- resolved alerts aren't sent; nothing fires
not_sent : ReasonApplies NewlyResolved firing_only group_a 330_000 (past_of one_of_two) hook_firing_only → ⊥
not_sent (r, e, some, all, sent, more) = false≢true sent

not_newly : ReasonApplies NewlyResolved base group_a 630_000 (past_of resolved_only) hook → ⊥
not_newly (r, e, some, all, sent, more) = some refl

repeat_is_so : ReasonApplies Repeat base group_a 14_430_001 (past_of first_notice) hook
repeat_is_so = (first_row, refl, λ nil. false≢true (ap is_empty nil), refl, λ sent. refl, omega arith)

-- at equality the entry isn't older; where nothing fires there is no repeat
not_older : ReasonApplies Repeat base group_a 14_430_000 (past_of first_notice) hook → ⊥
not_older (r, e, some, all, ended_listed, over) = let at : 30_000 ≡ r.time = ap rows_time e in omega (arith, at, over)

never_repeated : ReasonApplies Repeat base group_a 20_000_000 (past_of resolved_only) hook → ⊥
never_repeated (r, e, some, all, ended_listed, over) = some refl

-- a new alert comes before the repeat
new_not_repeated : ReasonApplies Repeat base group_a 14_430_001 (past_of with_second) hook → ⊥
new_not_repeated (r, e, some, all, ended_listed, over) =
    let both_labels = named (codes "A") ∷ instance (codes "A") (codes "2") ∷ [] in
    false≢true (ap (λ rows. is_subset same_label_set both_labels rows) (ap rows_firing e) ∙ all)

left_is_so : ReasonApplies NothingLeft base group_a 330_000 (past_of silenced) hook
left_is_so = (refl, refl)

one_is_left : ReasonApplies NothingLeft base group_a 630_000 (past_of resolved_only) hook → ⊥
one_is_left so = false≢true (ap is_empty so.1)

none_fires : ReasonApplies NothingFiring base group_a 630_000 (past_of resolved_only) hook
none_fires = (refl, λ nil. false≢true (ap is_empty nil), λ r e. sym (ap rows_firing e))

none_fired_ever : ReasonApplies NothingFiring base group_a 30_000 (past_of (insert 0 (ended (named (codes "A")) 0 10_000) 1 1 1 ∷ [])) hook
none_fired_ever = (refl, λ nil. false≢true (ap is_empty nil), λ r e. sym (ap rows_firing e))

-- the entry has one as firing; nothing is left
one_was_firing : ReasonApplies NothingFiring base group_a 330_000 (past_of with_end) hook → ⊥
one_was_firing (nil, left, none) = false≢true (ap is_empty (none first_row refl))

not_even_resolved : ReasonApplies NothingFiring base group_a 330_000 (past_of silenced) hook → ⊥
not_even_resolved (nil, left, none) = left refl

not_yet_is_so : ReasonApplies (NotYet 14_430_001) base group_a 330_000 (past_of first_notice) hook
not_yet_is_so = (first_row, refl, λ nil. false≢true (ap is_empty nil), refl, λ sent. refl, refl, omega arith)

-- from no other time, and not at that time any more
from_no_other : ReasonApplies (NotYet 14_430_000) base group_a 330_000 (past_of first_notice) hook → ⊥
from_no_other (r, e, some, all, ended_listed, from, before) =
    let at : 30_000 ≡ r.time = ap rows_time e in omega (arith, at, from)

no_more : ReasonApplies (NotYet 14_430_001) base group_a 14_430_001 (past_of first_notice) hook → ⊥
no_more (r, e, some, all, ended_listed, from, before) = omega (arith, before)

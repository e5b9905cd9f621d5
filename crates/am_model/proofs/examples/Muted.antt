-- The definitions, run on rows in which alerts are muted.
use Rattle.std.proofs.Common.{◌≡◌, Bool, true, false, List, [], ◌∷◌, ◌++◌, refl}
use Rattle.std.specs.Prelude.{ℕ, codes}
use Rattle.am_alerts.specs.AlertData.{AlertData}
use Rattle.am_alerts.specs.declared.labels.Label.{Label}
use Rattle.am_alerts.specs.declared.matcher.MatcherParts.{MatcherParts}
use Rattle.am_alerts.specs.declared.matcher.Operator.TheVariants.{Equal}
use Rattle.am_retry.specs.declared.outcome.Outcome.TheVariants.{Delivered}
use Rattle.am_mute.specs.Inhibit.{RuleData, rule_of}
use Rattle.am_model.specs.declared.record.Record.{Record}
use Rattle.am_model.specs.declared.record.Call.TheVariants.{Silence}
use Rattle.am_model.specs.declared.record.Reply.TheVariants.{Silenced}
use Rattle.am_model.specs.Begin.{copy_under}
use Rattle.am_model.specs.Records.{entry}
use Rattle.am_model.specs.Replay.{IsLegal, replay}
use Rattle.am_model.specs.State.{GroupState, State}
use Rattle.am_model.proofs.examples.Base.{base, label, instance, fires, ended, group_a, first_notice, insert, quiet, flush_hook, finish}

abbrev is : List ℕ → List ℕ → MatcherParts
is name value = record { name = name; op = Equal; value = value }

-- a silence of alert name A from 0 to an end
abbrev silence : ℕ → ℕ → ℕ → Bool → Record
silence now id end replaced =
    entry 0 (Silence now id (is (codes "alertname") (codes "A") ∷ []) 0 end) (Silenced (record { replaced = replaced }))

-- silence of a group
abbrev first : AlertData
first = fires (instance (codes "A") (codes "1")) 0

abbrev silenced_until : ℕ → List Record
silenced_until end =
    insert 0 first 1 1 1
    ∷ insert 10_000 (ended (instance (codes "A") (codes "2")) 0 10_000) 2 1 0
    ∷ silence 10_000 1 end false
    ∷ quiet 30_000 group_a 1
    ∷ []

silence_over_legal : IsLegal base 7 (silenced_until 330_000 ++ flush_hook 330_000 1 group_a 630_000 (first ∷ []) [] ∷ [])
silence_over_legal = (refl, (refl, (refl, (refl, (refl, tt)))))

silence_on_legal : IsLegal base 7 (silenced_until 330_001 ++ quiet 330_000 group_a 0 ∷ [])
silence_on_legal = (refl, (refl, (refl, (refl, (refl, tt)))))

silenced_rows : (replay base (silenced_until 330_000)).rows ≡ []
silenced_rows = refl

-- a silence is replaced by one with its id
replaced_legal : IsLegal base 7 (silence 0 1 5 false ∷ silence 0 2 5 false ∷ silence 0 1 9 true ∷ [])
replaced_legal = (refl, (refl, (refl, tt)))

-- nobody is notified where all is muted, though the entry has a firing alert
all_muted_legal : IsLegal base 7 (first_notice ++ silence 100_000 1 400_000 false ∷ quiet 330_000 group_a 0 ∷ [])
all_muted_legal = (refl, (refl, (refl, (refl, (refl, (refl, tt))))))

-- a resolved alert that is muted leaves by the finish too
abbrev second_instance : Record
second_instance =
    entry 0 (Silence 10_000 1 (is (codes "inst") (codes "2") ∷ []) 0 400_000) (Silenced (record { replaced = false }))

muted_leaves_legal : IsLegal base 7 (insert 0 first 1 1 1 ∷ insert 10_000 (ended (instance (codes "A") (codes "2")) 0 10_000) 2 1 0 ∷ second_instance ∷ flush_hook 30_000 1 group_a 330_000 (first ∷ []) [] ∷ finish 30_000 1 ((0, Delivered) ∷ []) 1 1 ∷ [])
muted_leaves_legal = (refl, (refl, (refl, (refl, (refl, tt)))))

-- inhibition: a critical source mutes a warning of its data centre while it isn't resolved
abbrev rule : RuleData
rule = rule_of (is (codes "severity") (codes "critical") ∷ []) (is (codes "severity") (codes "warning") ∷ []) (codes "dc" ∷ [])

abbrev labels_of : List ℕ → List ℕ → List Label
labels_of name severity = label (codes "alertname") name ∷ label (codes "dc") (codes "x") ∷ label (codes "severity") severity ∷ []

abbrev target : AlertData
target = fires (labels_of (codes "T") (codes "warning")) 0

abbrev source : AlertData
source = fires (labels_of (codes "S") (codes "critical")) 0

abbrev both : List Record
both = insert 0 target 1 1 1 ∷ insert 0 source 2 1 1 ∷ []

both_legal : IsLegal base 7 both
both_legal = (refl, (refl, tt))

-- what a flush of each group copies under the rule
abbrev copies : State → ℕ → List GroupState → List (List AlertData)
copies s t [] = []
copies s t (g ∷ gs) = copy_under (rule ∷ []) s t g ∷ copies s t gs

target_inhibited : copies (replay base both) 30_000 (replay base both).groups ≡ [] ∷ (source ∷ []) ∷ []
target_inhibited = refl

abbrev gone : AlertData
gone = ended (labels_of (codes "S") (codes "critical")) 0 40_000

abbrev source_over : List Record
source_over = both ++ insert 40_000 gone 3 1 0 ∷ []

target_free : copies (replay base source_over) 330_000 (replay base source_over).groups ≡ (target ∷ []) ∷ (gone ∷ []) ∷ []
target_free = refl

-- An insert makes no more groups than it says, and no other call makes any.
use Rattle.std.proofs.Common.{◌≡◌, ℕ, ◌+◌, ◌≤◌, Bool, true, false, cond, not, ◌||◌, Option, Some, None, List, [], ◌∷◌, length, refl, sym, ◌∙◌, subst, arith, if◌then◌else◌}
use Rattle.std.specs.Prelude.{fold, count_by}
use Rattle.std.specs.List.{list_any}
use Rattle.std.proofs.lemmas.Bool.Decides.{nat_tests}
use Rattle.std.proofs.lemmas.List.{length-map}
use Rattle.std.proofs.lemmas.List.Recursion.{is_count_by}
use Rattle.am_alerts.specs.AlertData.{AlertData}
use Rattle.am_retry.specs.declared.outcome.Outcome.{Outcome}
use Rattle.am_model.specs.declared.config.Config.{Config}
use Rattle.am_model.specs.declared.config.Integration.{Integration}
use Rattle.am_model.specs.declared.fault.Fault.TheVariants.{TooManyAlerts, TooManyGroups}
use Rattle.am_model.specs.declared.group.GroupName.{GroupName}
use Rattle.am_model.specs.declared.record.Call.{Call}
use Rattle.am_model.specs.declared.record.Call.TheVariants.{Insert, Silence, Begin, Finish, Maintain, RemoveEmptyGroups, Forget, Load, Note}
use Rattle.am_model.specs.Begin.{taken, notified_of, after_notifying, after_taking, begun_group, without_resolved}
use Rattle.am_model.specs.Causes.{makes_too_many}
use Rattle.am_model.specs.Finish.{after_finish_of, finished_group}
use Rattle.am_model.specs.Insert.{same_group, names_for, group_or_new, group_with, put_into_group, inserted, after_insert, next_stamp}
use Rattle.am_model.specs.Lists.{upsert, changed_where}
use Rattle.am_model.specs.Note.{after_note, after_note_of, may_note}
use Rattle.am_model.specs.Replay.{after_call}
use Rattle.am_model.specs.State.{MemberState, GroupState, FlushState, State, at_time, is_named, has_group, time, flush_numbered}
use Rattle.am_model.specs.Maintenance.{has_no_alerts}
use Rattle.am_model.proofs.legal.Begins.{there-upsert}
use Rattle.am_model.proofs.legal.BoundedAlerts.{length-upsert, length-put_known, length-filter, named-or_new}
use Rattle.am_model.proofs.states.Alike.{same_name_equiv}

any_named : (name : GroupName) (g : GroupState) (gs : List GroupState) → ((k : GroupState) → same_group g k ≡ is_named name k) → list_any (same_group g) gs ≡ has_group gs name
any_named name g [] same = refl
any_named name g (h ∷ gs) same = λ i. same h i || any_named name g gs same i

-- how many of these names are of no group
abbrev missing : List GroupState → List GroupName → ℕ
missing gs [] = 0
missing gs (n ∷ ns) = cond (not (has_group gs n)) (1 + missing gs ns) (missing gs ns)

fewer_missing : (g : GroupState) (gs : List GroupState) (ns : List GroupName) → missing (upsert same_group g gs) ns ≤ missing gs ns
fewer_missing g gs [] = omega arith
fewer_missing g gs (n ∷ ns) =
    let rest = fewer_missing g gs ns in
    elim (has_group gs n) as (λ b. has_group gs n ≡ b → cond (not (has_group (upsert same_group g gs) n)) (1 + missing (upsert same_group g gs) ns) (missing (upsert same_group g gs) ns) ≤ cond (not b) (1 + missing gs ns) (missing gs ns)) [
      | true ↦ λ e. subst (λ b. cond (not b) (1 + missing (upsert same_group g gs) ns) (missing (upsert same_group g gs) ns) ≤ missing gs ns) (sym (there-upsert n g gs e)) rest
      | false ↦ λ e.
          elim (has_group (upsert same_group g gs) n) as (λ b. cond (not b) (1 + missing (upsert same_group g gs) ns) (missing (upsert same_group g gs) ns) ≤ 1 + missing gs ns) [
            | true ↦ omega (arith, rest)
            | false ↦ omega (arith, rest)
          ]
    ] refl

module _ (config : Config) (t : ℕ) (m : MemberState) where
  few-into : (gs : List GroupState) (name : GroupName) → length (put_into_group config t m gs name) ≤ length gs + cond (has_group gs name) 0 1
  few-into gs name =
      let g : GroupState = group_with config t m (group_or_new config t gs name) in
      let any : list_any (same_group g) gs ≡ has_group gs name = any_named name g gs (λ k. sym (same_name_equiv.congr name g.name k.name (named-or_new config t m gs name))) in
      let more : length (upsert same_group g gs) ≤ length gs + 1 = length-upsert same_group g gs in
      elim (has_group gs name) as (λ b. has_group gs name ≡ b → length (upsert same_group g gs) ≤ length gs + cond b 0 1) [
        | true ↦ λ e. omega (arith, length-put_known same_group g gs (any ∙ e))
        | false ↦ λ e. more
      ] refl

  few-each : (names : List GroupName) (gs : List GroupState) → length (fold (put_into_group config t m) gs names) ≤ length gs + missing gs names
  few-each [] gs = omega arith
  few-each (name ∷ names) gs =
      let here = few-into gs name in
      let rest = few-each names (put_into_group config t m gs name) in
      let fewer = fewer_missing (group_with config t m (group_or_new config t gs name)) gs names in
      let grown : length (fold (put_into_group config t m) (put_into_group config t m gs name) names) ≤ length gs + cond (has_group gs name) 0 1 + missing gs names = omega (arith, here, rest, fewer) in
      elim (has_group gs name) as (λ b. length (fold (put_into_group config t m) (put_into_group config t m gs name) names) ≤ length gs + cond b 0 1 + missing gs names → length (fold (put_into_group config t m) (put_into_group config t m gs name) names) ≤ length gs + cond (not b) (1 + missing gs names) (missing gs names)) [
        | true ↦ λ h. omega (arith, h)
        | false ↦ λ h. omega (arith, h)
      ] grown

missing_is : (gs : List GroupState) (ns : List GroupName) → missing gs ns ≡ count_by (λ name. not (has_group gs name)) ns
missing_is gs ns = is_count_by (missing gs) (λ name. not (has_group gs name)) refl (λ x xs. refl) ns

-- an insert passes no limit where it isn't refused for one
pub few_inserted : (config : Config) (s : State) (t : ℕ) (a : AlertData) (known : Bool) → (if known then Some TooManyAlerts else (if makes_too_many config s a then Some TooManyGroups else None)) ≡ None → length (after_insert config s t a).groups ≤ config.limits.groups
few_inserted config s t a known none =
    let m : MemberState = record { alert = a; stamp = next_stamp s } in
    let few = few-each config t m (names_for config a.labels) s.groups in
    let made = missing_is s.groups (names_for config a.labels) in
    elim known as (λ b. (if b then Some TooManyAlerts else (if makes_too_many config s a then Some TooManyGroups else None)) ≡ None → length (after_insert config s t a).groups ≤ config.limits.groups) [
      | true ↦ λ e. absurd (cc)
      | false ↦
          elim (makes_too_many config s a) as (λ b. makes_too_many config s a ≡ b → (if b then Some TooManyGroups else None) ≡ None → length (after_insert config s t a).groups ≤ config.limits.groups) [
            | true ↦ λ e h. absurd (cc)
            | false ↦ λ e h. let space : length s.groups + (inserted config s a).made ≤ config.limits.groups = grind (arith, nat_tests, e) in omega (arith, few, made, space)
          ] refl
    ] none

-- no other call makes a group
abbrev pub IsInsert : Call → Bool
IsInsert (Insert now alert) = true
IsInsert (Silence now number matchers start end) = false
IsInsert (Begin now) = false
IsInsert (Finish now number outcomes) = false
IsInsert (Maintain now) = false
IsInsert (RemoveEmptyGroups now) = false
IsInsert (Forget now) = false
IsInsert (Load now row) = false
IsInsert (Note now number integration outcome) = false

length-changed : (test : GroupState → Bool) (f : GroupState → GroupState) (gs : List GroupState) → length (changed_where test f gs) ≡ length gs
length-changed test f gs = length-map gs (λ x. if test x then f x else x)

few_notifying : (config : Config) (s : State) (t : ℕ) (g : GroupState) (notified : List (ℕ × Integration)) → length (after_notifying config s t g notified).groups ≡ length s.groups
few_notifying config s t g [] = length-changed (is_named g.name) (λ h. without_resolved t (begun_group config t h)) s.groups
few_notifying config s t g (i ∷ is) = length-changed (is_named g.name) (begun_group config t) s.groups

few_taking : (config : Config) (s : State) (t : ℕ) (o : Option GroupState) → length (after_taking config s t o).groups ≡ length s.groups
few_taking config s t None = refl
few_taking config s t (Some g) = few_notifying config s t g (notified_of config s t g)

few_finished : (config : Config) (s : State) (t : ℕ) (outcomes : List (ℕ × Outcome)) (o : Option FlushState) → length (after_finish_of config s t outcomes o).groups ≡ length s.groups
few_finished config s t outcomes None = refl
few_finished config s t outcomes (Some f) = length-changed (is_named f.group) (finished_group outcomes f) s.groups

few_noted : (config : Config) (s : State) (t integration : ℕ) (outcome : Option Outcome) (o : Option FlushState) → length (after_note_of config s t integration outcome o).groups ≡ length s.groups
few_noted config s t integration outcome None = refl
few_noted config s t integration outcome (Some f) =
    let noted : State = after_note config s t integration f in
    let moved : State = at_time s t in
    elim (may_note integration outcome f) as (λ b. length (cond b noted moved).groups ≡ length s.groups) [
      | true ↦ refl
      | false ↦ refl
    ]

pub few_others : (config : Config) (s : State) (call : Call) → IsInsert call ≡ false → length (after_call config s call).groups ≤ length s.groups
few_others config s (Insert now alert) e = absurd (cc)
few_others config s (Silence now number matchers start end) e = omega arith
few_others config s (Begin now) e = omega (arith, few_taking config s (time s now) (taken s (time s now)))
few_others config s (Finish now number outcomes) e = omega (arith, few_finished config s (time s now) outcomes (flush_numbered s.flushes number))
few_others config s (Maintain now) e = length-filter (λ g. not (has_no_alerts g)) s.groups
few_others config s (RemoveEmptyGroups now) e = length-filter (λ g. not (has_no_alerts g)) s.groups
few_others config s (Forget now) e = omega arith
few_others config s (Load now row) e = omega arith
few_others config s (Note now number integration outcome) e = omega (arith, few_noted config s (time s now) integration outcome (flush_numbered s.flushes number))

-- What the open flushes of a state are in the past that led to it, and what one record more leaves of it.
use Rattle.std.proofs.Common.{◌≡◌, ℕ, ◌+◌, ◌≤◌, Bool, true, false, cond, ◌&&◌, ◌||◌, Some, List, [], ◌∷◌, map, refl, sym, ap, ◌∙◌, arith}
use Rattle.std.specs.List.{list_all, AllByRecursion}
use Rattle.std.proofs.lemmas.Bool.{false≢true, ne_eqb, and_right}
use Rattle.std.proofs.lemmas.List.Folds.{list_all-map}
use Rattle.am_alerts.specs.Labels.{same_label_set}
use Rattle.am_alerts.specs.declared.labels.Label.{Label}
use Rattle.am_nflog.specs.Members.{is_empty}
use Rattle.am_retry.specs.declared.outcome.Outcome.{Outcome}
use Rattle.am_model.specs.declared.config.Config.{Config}
use Rattle.am_model.specs.declared.group.GroupName.{GroupName}
use Rattle.am_model.specs.declared.record.Record.{Record}
use Rattle.am_model.specs.Notice.{NoticeData, is_nothing}
use Rattle.am_model.specs.Finish.{is_leaving, has_succeeded, all_succeeded}
use Rattle.am_model.specs.Insert.{same_member}
use Rattle.am_model.specs.look_back.Laws.{member_with}
use Rattle.am_model.specs.look_back.Past.{time_at, is_flush, is_note, notices_in, begin_of, was_noted}
use Rattle.am_model.specs.look_back.Presence.{inserts, begin_since, resolved_at_begin, all_succeeded_at, removes, presence}
use Rattle.am_model.specs.State.{MemberState, GroupState, NotifiedState, Stamped, FlushState, State, same_name, is_named}
use Rattle.am_model.proofs.legal.ConsistentGroups.{members_of}
use Rattle.am_model.proofs.lists.Distinct.{IsDistinct-nil, all-weaker}
use Rattle.am_model.proofs.legal.ConsistentState.{IsTidy}
use Rattle.am_model.proofs.looking_back.Pasts.{presence-step, unless-some}

-- the notices of the flush at the head
abbrev pub notices_at : List Record → List NoticeData
notices_at [] = []
notices_at (r ∷ past) = notices_in r.reply

-- an integration as a notice asked it, noted or not
abbrev pub notified_noted : Bool → NoticeData → NotifiedState
notified_noted noted n = record { integration = n.integration; nothing = is_nothing n; noted = noted }

abbrev pub notified_as : ℕ → List Record → NoticeData → NotifiedState
notified_as number past n = notified_noted (was_noted number n.integration past) n

-- an open flush in the past that led to it: it notified as its begin's notices say, and the alerts that leave by it are those that were resolved at its begin and not inserted since
pub record IsOpened (config : Config) (inserts : ℕ) (past : List Record) (f : FlushState) : Type 0 where
  pub notified : f.notified ≡ map (notified_as f.number past) (notices_at (begin_of f.number past))
  pub leaving : (name : GroupName) (m : MemberState) → presence config name m.alert.labels past ≡ Some m
      → resolved_at_begin name m.alert (begin_since m.alert.labels f.number past) ≡ (same_name name f.group && is_leaving f.leaving m)
  pub stamps : AllByRecursion (λ l. l.stamp ≤ inserts) f.leaving

-- what looking back finds is what a state has
pub record Finds (config : Config) (s : State) (past : List Record) : Type 0 where
  pub found : (name : GroupName) (labels : List Label) → member_with labels (members_of s.groups name) ≡ presence config name labels past
  pub clock : s.clock ≡ time_at past
  pub opened : AllByRecursion (IsOpened config s.inserts past) s.flushes
  pub fresh : (number integration : ℕ) → s.next_number ≤ number → was_noted number integration past ≡ false

-- ---- one record more that is no begin of the flush, and no note of it

module _ (config : Config) (r : Record) (past : List Record) where
  pub open-step : (n k : ℕ) (f : FlushState) → n ≤ k → is_flush f.number r.reply ≡ false → ((i : ℕ) → is_note f.number i r.call ≡ false)
      → ((name : GroupName) (m : MemberState) → inserts m.alert.labels r.call ≡ true → presence config name m.alert.labels (r ∷ past) ≡ Some m → is_leaving f.leaving m ≡ false)
      → IsOpened config n past f → IsOpened config k (r ∷ past) f
  open-step n k f more other unnoted new o =
      record {
        notified = o.notified ∙ sym (noted ∙ begun);
        leaving = λ name m is.
            elim (inserts m.alert.labels r.call) as (λ b. inserts m.alert.labels r.call ≡ b → resolved_at_begin name m.alert (begin_since m.alert.labels f.number (r ∷ past)) ≡ (same_name name f.group && is_leaving f.leaving m)) [
              | true ↦ λ e.
                  ap (λ b. resolved_at_begin name m.alert (cond b [] (cond (is_flush f.number r.reply) (r ∷ past) (begin_since m.alert.labels f.number past)))) e
                  ∙ sym (ap (λ b. same_name name f.group && b) (new name m e is) ∙ and_right (same_name name f.group) false refl)
              | false ↦ λ e.
                  ap (λ b. resolved_at_begin name m.alert (cond b [] (cond (is_flush f.number r.reply) (r ∷ past) (begin_since m.alert.labels f.number past)))) e
                  ∙ ap (λ b. resolved_at_begin name m.alert (cond b (r ∷ past) (begin_since m.alert.labels f.number past))) other
                  ∙ o.leaving name m (unless-some (λ x. removes name x.alert r past) (presence config name m.alert.labels past) m (sym (presence-step config name m.alert.labels r past e) ∙ is))
            ] refl;
        stamps = all-weaker (λ (l : Stamped). l.stamp ≤ n) (λ l. l.stamp ≤ k) (λ l h. omega (arith, h, more)) f.leaving o.stamps;
      }
    where
      noted : map (notified_as f.number (r ∷ past)) (notices_at (begin_of f.number (r ∷ past))) ≡ map (notified_as f.number past) (notices_at (begin_of f.number (r ∷ past)))
      noted = (λ j. map (λ x. notified_noted (unnoted x.integration j || was_noted f.number x.integration past) x) (notices_at (begin_of f.number (r ∷ past))))

      begun : map (notified_as f.number past) (notices_at (begin_of f.number (r ∷ past))) ≡ map (notified_as f.number past) (notices_at (begin_of f.number past))
      begun = ap (λ b. map (notified_as f.number past) (notices_at (cond b (r ∷ past) (begin_of f.number past)))) other

-- ---- what an open flush's finish does

module _ (config : Config) (n : ℕ) (past : List Record) (f : FlushState) (o : IsOpened config n past f) where
  -- all that it notified succeeded, exactly if its notices say so
  pub success-found : (outcomes : List (ℕ × Outcome)) → is_empty f.notified ≡ false → all_succeeded_at f.number outcomes past (begin_of f.number past) ≡ all_succeeded outcomes f
  success-found outcomes some = by (begin_of f.number past) o.notified
    where
      by : (begin : List Record) → f.notified ≡ map (notified_as f.number past) (notices_at begin) → all_succeeded_at f.number outcomes past begin ≡ all_succeeded outcomes f
      by [] e = absurd (false≢true (sym some ∙ ap is_empty e))
      by (r ∷ before) e = sym (ap (λ notified. list_all (has_succeeded outcomes) notified) e ∙ list_all-map (has_succeeded outcomes) (notified_as f.number past) (notices_in r.reply))

-- ---- stamps

-- an alert that has a later stamp than those that leave doesn't leave
pub leaving-older : (n : ℕ) (m : MemberState) (leaving : List Stamped) → AllByRecursion (λ l. l.stamp ≤ n) leaving → n + 1 ≤ m.stamp → is_leaving leaving m ≡ false
leaving-older n m [] all later = refl
leaving-older n m (l ∷ ls) all later =
    ap (λ b. (same_label_set l.labels m.alert.labels && b) || is_leaving ls m) (ne_eqb l.stamp m.stamp (λ e. omega (arith, e, all.0, later)))
    ∙ ap (λ b. b || is_leaving ls m) (and_right (same_label_set l.labels m.alert.labels) false refl)
    ∙ leaving-older n m ls all.1 later

-- the alerts of a name differ, and have stamps that were given
pub members-tidy : (n : ℕ) (name : GroupName) (gs : List GroupState) → AllByRecursion (IsTidy n) gs → IsTidy n (record { name = name; due = 0; flushed = false; members = members_of gs name })
members-tidy n name [] all = record { members = IsDistinct-nil same_member; stamps = tt }
members-tidy n name (g ∷ gs) all =
    elim (is_named name g) as (λ b. IsTidy n (record { name = name; due = 0; flushed = false; members = cond b g.members (members_of gs name) })) [
      | true ↦ record { members = all.0.members; stamps = all.0.stamps }
      | false ↦ members-tidy n name gs all.1
    ]

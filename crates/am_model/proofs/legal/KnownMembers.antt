-- After any list of records each alert of a group is the known one with its labels, in each of its groups with one stamp, and the
-- group is one of those of its routes.
use Rattle.std.proofs.Common.{◌≡◌, ℕ, Bool, true, false, true≢false, cond, not, ◌||◌, ◌⊎◌, inl, inr, Option, Some, None, List, [], ◌∷◌, refl, sym, ap, ◌∙◌, subst}
use Rattle.std.specs.Prelude.{All, filter, find, fold, unwrap_or}
use Rattle.std.specs.Cmp.{IsEquivalence}
use Rattle.std.specs.List.{list_any, AllByRecursion, IsDistinct}
use Rattle.std.proofs.lemmas.Bool.{and_right}
use Rattle.std.proofs.lemmas.Map.Keys.{IsDistinct-head, IsDistinct-tail}
use Rattle.am_alerts.specs.AlertData.{AlertData, is_resolved}
use Rattle.am_alerts.specs.LabelOrder.{same_label_set-decides}
use Rattle.am_alerts.specs.Labels.{same_label_set}
use Rattle.am_alerts.specs.declared.labels.Label.{Label}
use Rattle.am_retry.specs.declared.outcome.Outcome.{Outcome}
use Rattle.am_model.specs.declared.config.Config.{Config}
use Rattle.am_model.specs.declared.config.Integration.{Integration}
use Rattle.am_model.specs.declared.group.GroupName.{GroupName}
use Rattle.am_model.specs.declared.record.Call.{Call}
use Rattle.am_model.specs.declared.record.Call.TheVariants.{Insert, Silence, Begin, Finish, Maintain, RemoveEmptyGroups, Forget, Load, Note}
use Rattle.am_model.specs.declared.record.Record.{Record}
use Rattle.am_model.specs.Begin.{taken, notified_of, begun_group, without_resolved, after_notifying, after_taking}
use Rattle.am_model.specs.Finish.{leaves_by, finished_group, after_finish_of}
use Rattle.am_model.specs.Forget.{is_grouped, is_idle, after_forget}
use Rattle.am_model.specs.Insert.{same_alert, same_member, same_group, names_for, next_stamp, new_group, group_or_new, group_with, put_into_group, after_insert}
use Rattle.am_model.specs.Laws.{IsConsistent, IsKnownMember, IsStampedAs, KnowsMembers, ReplaysKnowMembers}
use Rattle.am_model.specs.Lists.{upsert, changed_where}
use Rattle.am_model.specs.Note.{may_note, after_note, after_note_of}
use Rattle.am_model.specs.Replay.{after, after_call, replay, replay_from}
use Rattle.am_model.specs.State.{MemberState, GroupState, FlushState, State, opening_state, at_time, time, same_name, is_named, flush_numbered}
use Rattle.am_model.specs.Maintenance.{has_no_alerts}
use Rattle.am_model.proofs.legal.Consistent.{consistent_after, consistent_replay}
use Rattle.am_model.proofs.legal.ConsistentState.{IsTidy, IsSteady, consistent_to}
use Rattle.am_model.proofs.lists.Distinct.{IsDistinct-nil, all_from, all-both, all-filter, all-find, all-map, all-weaker, find-passes}
use Rattle.am_model.proofs.lists.Words.{find-upsert, find-put_in_other, IsDistinct-upsert}
use Rattle.am_model.proofs.states.Alike.{same_alert_equiv, same_group_equiv, same_member_equiv, same_name_equiv, same_name-is}

-- where no two are alike, what is put in holds of it, and what followed of those that aren't like it
all-put_in_apart : {X : Type 0} (like : X → X → Bool) → IsEquivalence like → (P Q : X → Type 0) (x : X) → Q x → ((y : X) → like x y ≡ false → P y → Q y) → (xs : List X) → IsDistinct like xs → AllByRecursion P xs → AllByRecursion Q (upsert like x xs)
all-put_in_apart like laws P Q x here other [] distinct all = (here, tt)
all-put_in_apart like laws P Q x here other (y ∷ ys) distinct all =
    elim (like x y) as (λ b. like x y ≡ b → AllByRecursion Q (cond b (x ∷ ys) (y ∷ upsert like x ys))) [
      | true ↦ λ e. (here, all-both (λ z. like y z ≡ false) P Q (λ z apart p. other z (laws.congr x y z e ∙ apart) p) ys (IsDistinct-head like y ys distinct) all.1)
      | false ↦ λ e. (other y e all.0, all-put_in_apart like laws P Q x here other ys (IsDistinct-tail like y ys distinct) all.1)
    ] refl

or-later : (b c : Bool) → c ≡ true → (b || c) ≡ true
or-later true c e = refl
or-later false c e = e

or-false : (b c : Bool) → b ≡ false → (b || c) ≡ true → c ≡ true
or-false true c e h = absurd (true≢false e)
or-false false c e h = h

-- a name is among these
abbrev pub IsAmong : List GroupName → GroupName → Type 0
IsAmong names name = list_any (same_name name) names ≡ true

among-themselves : (names : List GroupName) → AllByRecursion (IsAmong names) names
among-themselves [] = tt
among-themselves (n ∷ names) = (
  ap (λ b. b || list_any (same_name n) names) (same_name_equiv.refl n),
  all-weaker (IsAmong names) (IsAmong (n ∷ names)) (λ k h. or-later (same_name k n) (list_any (same_name k) names) h) names (among-themselves names),
)

-- an alert in the group of this name is the known one with its labels, has the stamp of these, and goes there
pub record IsKnown (config : Config) (alerts : List AlertData) (stamps : List Label → ℕ) (name : GroupName) (m : MemberState) : Type 0 where
  pub known : find (same_alert m.alert) alerts ≡ Some m.alert
  pub stamped : m.stamp ≡ stamps m.alert.labels
  pub routed : IsAmong (names_for config m.alert.labels) name

abbrev pub AreKnown : Config → List AlertData → (List Label → ℕ) → GroupState → Type 0
AreKnown config alerts stamps g = AllByRecursion (IsKnown config alerts stamps g.name) g.members

abbrev pub KnowsBy : Config → State → (List Label → ℕ) → Type 0
KnowsBy config s stamps = AllByRecursion (AreKnown config s.known stamps) s.groups

abbrev pub KnowsAll : Config → State → Type 0
KnowsAll config s = (stamps : List Label → ℕ) × KnowsBy config s stamps

-- ---- an insert, group by group

module _ (config : Config) (t : ℕ) (m : MemberState) (known : List AlertData) (stamps : List Label → ℕ) where
  abbrev later : List AlertData
  later = upsert same_alert m.alert known

  abbrev later_stamps : List Label → ℕ
  later_stamps labels = cond (same_label_set m.alert.labels labels) m.stamp (stamps labels)

  abbrev all_names : List GroupName
  all_names = names_for config m.alert.labels

  -- an alert is known as it is, or it is the one that is put in, whose group comes later
  abbrev IsDue : List GroupName → GroupName → MemberState → Type 0
  IsDue rest name k = IsKnown config later later_stamps name k ⊎ ((same_member m k ≡ true) × IsAmong rest name)

  record IsPending (rest : List GroupName) (g : GroupState) : Type 0 where
    members : AllByRecursion (IsDue rest g.name) g.members
    distinct : IsDistinct same_member g.members

  -- what is known of other alerts stays so
  known-still : (name : GroupName) (k : MemberState) → same_member m k ≡ false → IsKnown config known stamps name k → IsKnown config later later_stamps name k
  known-still name k apart h =
      let back : same_alert k.alert m.alert ≡ false = same_alert_equiv.symm k.alert m.alert ∙ apart in
      record {
        known =
            find-put_in_other same_alert m.alert (same_alert k.alert) known back
            (λ y e. same_alert_equiv.symm k.alert y ∙ (sym (same_alert_equiv.congr m.alert y k.alert e) ∙ apart))
            ∙ h.known;
        stamped = h.stamped ∙ ap (λ b. cond b m.stamp (stamps k.alert.labels)) (sym apart);
        routed = h.routed;
      }

  pending-member : (name : GroupName) (k : MemberState) → IsKnown config known stamps name k → IsDue all_names name k
  pending-member name k h =
      elim (same_member m k) as (λ b. same_member m k ≡ b → IsDue all_names name k) [
        | true ↦ λ e. let labels = (same_label_set-decides m.alert.labels k.alert.labels).0 e in
            inr (e, subst (λ (ls : List Label). IsAmong (names_for config ls) name) (sym labels) h.routed)
        | false ↦ λ e. inl (known-still name k e h)
      ] refl

  pending-first : (n : ℕ) (gs : List GroupState) → AllByRecursion (IsTidy n) gs → AllByRecursion (AreKnown config known stamps) gs → AllByRecursion (IsPending all_names) gs
  pending-first n gs tidy all =
      all-both (IsTidy n) (AreKnown config known stamps) (IsPending all_names)
      (λ g h k. record { members = all-weaker (IsKnown config known stamps g.name) (IsDue all_names g.name) (pending-member g.name) g.members k; distinct = h.members })
      gs tidy all

  -- the alert itself is known
  known-itself : (name : GroupName) → IsAmong all_names name → IsKnown config later later_stamps name m
  known-itself name among =
      record {
        known = find-upsert same_alert m.alert known (same_alert_equiv.refl m.alert);
        stamped = ap (λ b. cond b m.stamp (stamps m.alert.labels)) (sym (same_alert_equiv.refl m.alert));
        routed = among;
      }

  -- the group that it goes to next
  module _ (next : GroupName) (rest : List GroupName) (among : IsAmong all_names next) where
    known-other : (name : GroupName) (k : MemberState) → same_member m k ≡ false → IsDue (next ∷ rest) name k → IsKnown config later later_stamps name k
    known-other name k apart due =
        elim due [
          | inl h ↦ h
          | inr h ↦ absurd (true≢false (sym h.0 ∙ apart))
        ]

    known-with : (g : GroupState) → g.name ≡ next → IsPending (next ∷ rest) g → AreKnown config later later_stamps (group_with config t m g)
    known-with g named h =
        all-put_in_apart same_member same_member_equiv (IsDue (next ∷ rest) g.name) (IsKnown config later later_stamps g.name) m
        (known-itself g.name (subst (IsAmong all_names) (sym named) among))
        (known-other g.name) g.members h.distinct h.members

    pending-with : (g : GroupState) → g.name ≡ next → IsPending (next ∷ rest) g → IsPending rest (group_with config t m g)
    pending-with g named h =
        record {
          members = all-weaker (IsKnown config later later_stamps g.name) (IsDue rest g.name) (λ k known. inl known) (upsert same_member m g.members) (known-with g named h);
          distinct = IsDistinct-upsert same_member same_member_equiv m g.members h.distinct;
        }

    -- a group of another name is pending for what comes later
    pending-elsewhere : (g : GroupState) → same_name next g.name ≡ false → IsPending (next ∷ rest) g → IsPending rest g
    pending-elsewhere g apart h =
        record {
          members =
              all-weaker (IsDue (next ∷ rest) g.name) (IsDue rest g.name)
              (λ k due. elim due [
                | inl h ↦ inl h
                | inr h ↦ inr (h.0, or-false (same_name g.name next) (list_any (same_name g.name) rest) (same_name_equiv.symm g.name next ∙ apart) h.1)
              ])
              g.members h.members;
          distinct = h.distinct;
        }

    record IsNamed (g : GroupState) : Type 0 where
      named : g.name ≡ next
      pending : IsPending (next ∷ rest) g

    named-or_new : (gs : List GroupState) → AllByRecursion (IsPending (next ∷ rest)) gs → IsNamed (group_or_new config t gs next)
    named-or_new gs all =
        elim (find (is_named next) gs) as (λ o. find (is_named next) gs ≡ o → IsNamed (unwrap_or o (new_group config t next))) [
          | None ↦ λ e. record { named = refl; pending = record { members = tt; distinct = IsDistinct-nil same_member } }
          | Some g ↦ λ e. record {
            named = sym (same_name-is next g.name (find-passes (is_named next) g gs e));
            pending = all-find (IsPending (next ∷ rest)) (is_named next) g gs all e;
          }
        ] refl

    pending-into : (gs : List GroupState) → IsDistinct same_group gs → AllByRecursion (IsPending (next ∷ rest)) gs → AllByRecursion (IsPending rest) (put_into_group config t m gs next)
    pending-into gs distinct all =
        let g = group_or_new config t gs next in
        let h = named-or_new gs all in
        all-put_in_apart same_group same_group_equiv (IsPending (next ∷ rest)) (IsPending rest) (group_with config t m g)
        (pending-with g h.named h.pending)
        (λ k apart. pending-elsewhere k (ap (λ n. same_name n k.name) (sym h.named) ∙ apart))
        gs distinct all

  -- nothing is pending at last
  known-each : (rest : List GroupName) (gs : List GroupState) → AllByRecursion (IsAmong all_names) rest → IsDistinct same_group gs → AllByRecursion (IsPending rest) gs → AllByRecursion (AreKnown config later later_stamps) (fold (put_into_group config t m) gs rest)
  known-each [] gs among distinct all =
      all-weaker (IsPending []) (AreKnown config later later_stamps)
      (λ g h. all-weaker (IsDue [] g.name) (IsKnown config later later_stamps g.name)
      (λ k due. elim due [ inl h ↦ h | inr h ↦ absurd (true≢false (sym h.1)) ])
      g.members h.members)
      gs all
  known-each (next ∷ rest) gs among distinct all =
      known-each rest (put_into_group config t m gs next) among.1
      (IsDistinct-upsert same_group same_group_equiv (group_with config t m (group_or_new config t gs next)) gs distinct)
      (pending-into next rest among.0 gs distinct all)

known_insert : (config : Config) (s : State) (t : ℕ) (a : AlertData) → IsSteady s → KnowsAll config s → KnowsAll config (after_insert config s t a)
known_insert config s t a steady h =
    let m : MemberState = record { alert = a; stamp = next_stamp s } in
    let names = names_for config a.labels in (
      later_stamps config t m s.known h.0,
      known-each config t m s.known h.0 names s.groups (among-themselves names) steady.groups (pending-first config t m s.known h.0 s.inserts s.groups steady.tidy h.1),
    )

-- ---- calls by which alerts only leave

module _ (config : Config) (known : List AlertData) (stamps : List Label → ℕ) where
  known-fewer : (test : MemberState → Bool) (g : GroupState) → AreKnown config known stamps g → AllByRecursion (IsKnown config known stamps g.name) (filter test g.members)
  known-fewer test g all = all-filter (IsKnown config known stamps g.name) test g.members all

  known-changed : (test : GroupState → Bool) (f : GroupState → GroupState) → ((g : GroupState) → AreKnown config known stamps g → AreKnown config known stamps (f g)) → (gs : List GroupState) → AllByRecursion (AreKnown config known stamps) gs → AllByRecursion (AreKnown config known stamps) (changed_where test f gs)
  known-changed test f keeps gs all =
      all-map (λ g. cond (test g) (f g) g) (AreKnown config known stamps) gs (all-weaker (AreKnown config known stamps) (λ g. AreKnown config known stamps (cond (test g) (f g) g)) (λ g h. by g h (test g)) gs all)
    where
      by : (g : GroupState) → AreKnown config known stamps g → (b : Bool) → AreKnown config known stamps (cond b (f g) g)
      by g h true = keeps g h
      by g h false = h

module _ (config : Config) (s : State) (stamps : List Label → ℕ) (h : KnowsBy config s stamps) (t : ℕ) where
  known_notifying : (g : GroupState) (notified : List (ℕ × Integration)) → KnowsBy config (after_notifying config s t g notified) stamps
  known_notifying g [] =
      known-changed config s.known stamps (is_named g.name) (λ k. without_resolved t (begun_group config t k))
      (λ k all. known-fewer config s.known stamps (λ m. not (is_resolved m.alert t)) k all) s.groups h
  known_notifying g (i ∷ is) = known-changed config s.known stamps (is_named g.name) (begun_group config t) (λ k all. all) s.groups h

  known_begin : (g : Option GroupState) → KnowsBy config (after_taking config s t g) stamps
  known_begin None = h
  known_begin (Some g) = known_notifying g (notified_of config s t g)

  known_finish : (outcomes : List (ℕ × Outcome)) (f : Option FlushState) → KnowsBy config (after_finish_of config s t outcomes f) stamps
  known_finish outcomes None = h
  known_finish outcomes (Some f) =
      known-changed config s.known stamps (is_named f.group) (finished_group outcomes f)
      (λ k all. known-fewer config s.known stamps (λ m. not (leaves_by outcomes f m)) k all) s.groups h

  known_note : (integration : ℕ) (outcome : Option Outcome) (f : Option FlushState) → KnowsBy config (after_note_of config s t integration outcome f) stamps
  known_note integration outcome None = h
  known_note integration outcome (Some f) =
      elim (may_note integration outcome f) as (λ b. KnowsBy config (cond b (after_note config s t integration f) (at_time s t)) stamps) [
        | true ↦ h
        | false ↦ h
      ]

-- ---- a forgetting

-- the alerts of groups are in groups
grouped-one : (members : List MemberState) → AllByRecursion (λ m. list_any (λ n. same_alert m.alert n.alert) members ≡ true) members
grouped-one [] = tt
grouped-one (m ∷ ms) = (
  ap (λ b. b || list_any (λ n. same_alert m.alert n.alert) ms) (same_alert_equiv.refl m.alert),
  all-weaker (λ k. list_any (λ n. same_alert k.alert n.alert) ms ≡ true) (λ k. list_any (λ n. same_alert k.alert n.alert) (m ∷ ms) ≡ true)
      (λ k h. or-later (same_alert k.alert m.alert) (list_any (λ n. same_alert k.alert n.alert) ms) h) ms (grouped-one ms),
)

abbrev AreGrouped : List GroupState → GroupState → Type 0
AreGrouped groups g = AllByRecursion (λ m. is_grouped groups m.alert ≡ true) g.members

grouped-each : (groups : List GroupState) → AllByRecursion (AreGrouped groups) groups
grouped-each [] = tt
grouped-each (g ∷ gs) = (
  all-weaker (λ m. list_any (λ n. same_alert m.alert n.alert) g.members ≡ true) (λ m. is_grouped (g ∷ gs) m.alert ≡ true)
      (λ m h. ap (λ b. b || is_grouped gs m.alert) h) g.members (grouped-one g.members),
  all-weaker (AreGrouped gs) (AreGrouped (g ∷ gs))
      (λ k h. all-weaker (λ m. is_grouped gs m.alert ≡ true) (λ m. is_grouped (g ∷ gs) m.alert ≡ true)
      (λ m among. or-later (list_any (λ n. same_alert m.alert n.alert) g.members) (is_grouped gs m.alert) among) k.members h)
      gs (grouped-each gs),
)

-- what is found, and isn't dropped, is found among those that stay
find-kept : {X : Type 0} (test keep : X → Bool) (x : X) (xs : List X) → keep x ≡ true → find test xs ≡ Some x → find test (filter keep xs) ≡ Some x
find-kept test keep x [] stays e = e
find-kept test keep x (y ∷ ys) stays e =
    elim (test y) as (λ b. test y ≡ b → cond b (Some y) (find test ys) ≡ Some x → find test (cond (keep y) (y ∷ filter keep ys) (filter keep ys)) ≡ Some x) [
      | true ↦ λ is found.
          let same : y ≡ x = cc in
          ap (λ b. find test (cond b (y ∷ filter keep ys) (filter keep ys))) (ap keep same ∙ stays)
          ∙ ap (λ b. cond b (Some y) (find test (filter keep ys))) is ∙ ap Some same
      | false ↦ λ is found.
          elim (keep y) as (λ b. find test (cond b (y ∷ filter keep ys) (filter keep ys)) ≡ Some x) [
            | true ↦ ap (λ b. cond b (Some y) (find test (filter keep ys))) is ∙ find-kept test keep x ys stays found
            | false ↦ find-kept test keep x ys stays found
          ]
    ] refl e

module _ (config : Config) (s : State) (stamps : List Label → ℕ) (t : ℕ) where
  abbrev stays : AlertData → Bool
  stays a = not (is_idle s.groups t a)

  -- what is known of an alert of a group stays known
  known-left : (name : GroupName) (m : MemberState) → is_grouped s.groups m.alert ≡ true → IsKnown config s.known stamps name m → IsKnown config (filter stays s.known) stamps name m
  known-left name m grouped k =
      record {
        known =
            find-kept (same_alert m.alert) stays m.alert s.known
            (ap not (and_right (is_resolved m.alert t) (not (is_grouped s.groups m.alert)) (ap not grouped))) k.known;
        stamped = k.stamped;
        routed = k.routed;
      }

  known_forget : KnowsBy config s stamps → KnowsBy config (after_forget s t) stamps
  known_forget h =
      all-both (AreGrouped s.groups) (AreKnown config s.known stamps) (AreKnown config (filter stays s.known) stamps)
      (λ g grouped all. all-both (λ m. is_grouped s.groups m.alert ≡ true) (IsKnown config s.known stamps g.name) (IsKnown config (filter stays s.known) stamps g.name) (known-left g.name) g.members grouped all)
      s.groups (grouped-each s.groups) h

-- ---- any list of records

pub known_call : (config : Config) (s : State) (c : Call) → IsSteady s → KnowsAll config s → KnowsAll config (after_call config s c)
known_call config s (Insert now alert) steady h = known_insert config s (time s now) alert steady h
known_call config s (Silence now number matchers start end) steady h = h
known_call config s (Begin now) steady h = (h.0, known_begin config s h.0 h.1 (time s now) (taken s (time s now)))
known_call config s (Finish now number outcomes) steady h =
    (h.0, known_finish config s h.0 h.1 (time s now) outcomes (flush_numbered s.flushes number))
known_call config s (Maintain now) steady h = (h.0, all-filter (AreKnown config s.known h.0) (λ g. not (has_no_alerts g)) s.groups h.1)
known_call config s (RemoveEmptyGroups now) steady h = (h.0, all-filter (AreKnown config s.known h.0) (λ g. not (has_no_alerts g)) s.groups h.1)
known_call config s (Forget now) steady h = (h.0, known_forget config s h.0 (time s now) h.1)
known_call config s (Load now row) steady h = h
known_call config s (Note now number integration outcome) steady h =
    (h.0, known_note config s h.0 h.1 (time s now) integration outcome (flush_numbered s.flushes number))

known_from : (config : Config) (s : State) (history : List Record) → IsConsistent s → KnowsAll config s → KnowsAll config (replay_from config s history)
known_from config s [] consistent h = h
known_from config s (r ∷ history) consistent h =
    known_from config (after config s r) history (consistent_after config s r consistent) (known_call config s r.call (consistent_to s consistent) h)

-- ---- what that says of the state

module _ (config : Config) (s : State) (stamps : List Label → ℕ) where
  known_member : (g : GroupState) (m : MemberState) → IsKnown config s.known stamps g.name m → IsKnownMember config s g m
  known_member g m k = record { known = k.known; routed = k.routed }

  -- alerts with one label set have one stamp
  one_stamp : (g : GroupState) (m : MemberState) → m.stamp ≡ stamps m.alert.labels → (n : MemberState) → IsKnown config s.known stamps g.name n → IsStampedAs m n
  one_stamp g m at n k same =
      k.stamped ∙ (ap stamps (sym ((same_label_set-decides m.alert.labels n.alert.labels).0 same)) ∙ sym at)

  -- what follows of each alert of each group
  each_member : (P : GroupState → MemberState → Type 0) → ((g : GroupState) (m : MemberState) → IsKnown config s.known stamps g.name m → P g m) → KnowsBy config s stamps → All (λ g. All (P g) g.members) s.groups
  each_member P follows h =
      all_from (λ g. All (P g) g.members) s.groups
      (all-weaker (AreKnown config s.known stamps) (λ g. All (P g) g.members)
      (λ g all. all_from (P g) g.members (all-weaker (IsKnown config s.known stamps g.name) (P g) (follows g) g.members all))
      s.groups h)

  known_members : KnowsBy config s stamps → KnowsMembers config s
  known_members h =
      record {
        known = each_member (IsKnownMember config s) known_member h;
        stamps = each_member (λ g m. All (λ o. All (IsStampedAs m) o.members) s.groups) (λ g m k. each_member (λ o n. IsStampedAs m n) (λ o n. one_stamp o m k.stamped n) h) h;
      }

pub members_known : ReplaysKnowMembers
members_known config history =
    let h = known_from config opening_state history (consistent_replay config []) ((λ labels. 0), tt) in
    known_members config (replay config history) h.0 h.1

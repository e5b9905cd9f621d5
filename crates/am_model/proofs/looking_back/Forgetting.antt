-- A forgetting changes no later reply: what it drops mutes nothing any more.
use Rattle.std.proofs.Common.{◌≡◌, ℕ, ◌+◌, ◌≤◌, Bool, true, false, cond, not, ◌&&◌, ◌||◌, Option, Some, None, List, [], ◌∷◌, ◌++◌, map, filter, refl, sym, ap, ◌∙◌, subst, arith}
use Rattle.std.specs.Cmp.{IsEquivalence}
use Rattle.std.specs.List.{list_any, IsDistinct}
use Rattle.std.specs.Option.{option_map}
use Rattle.std.proofs.lemmas.Bool.{and_parts, and_right}
use Rattle.am_alerts.specs.AlertData.{AlertData, is_resolved}
use Rattle.am_alerts.specs.Matcher.{match_all}
use Rattle.am_alerts.specs.declared.labels.Label.{Label}
use Rattle.am_mute.specs.Inhibit.{RuleData, is_inhibited_by}
use Rattle.am_mute.specs.Mute.{is_muted}
use Rattle.am_mute.specs.Silence.{SilenceData, silence_of, silence_mutes, is_over}
use Rattle.am_nflog.specs.Members.{is_empty}
use Rattle.am_retry.specs.declared.outcome.Outcome.{Outcome}
use Rattle.am_model.specs.declared.config.Config.{Config}
use Rattle.am_model.specs.declared.config.Integration.{Integration}
use Rattle.am_model.specs.declared.record.Call.{Call}
use Rattle.am_model.specs.declared.record.Call.TheVariants.{Insert, Silence, Begin, Finish, Maintain, RemoveEmptyGroups, Forget, Load, Note}
use Rattle.am_model.specs.Records.{flush_reply}
use Rattle.am_model.specs.Begin.{alert_cmp, label_sets, copied, copy_of, firing_of, resolved_of, notified_about, notified_of, sent, deadline_of, leaving_of, begun_group, reply_notifying, reply_taking, flush_notifying, after_notifying, after_taking, taken}
use Rattle.am_model.specs.Configured.{rules_of, route_muted}
use Rattle.am_model.specs.Finish.{after_finish_of}
use Rattle.am_model.specs.Forget.{is_grouped, is_idle, after_forget}
use Rattle.am_model.specs.Insert.{same_alert}
use Rattle.am_model.specs.Laws.{IsConsistent, bare_reply, bare_state, replies_from, state_from, ForgettingChangesNoReply, ForgettingChangesNoState}
use Rattle.am_model.specs.Lists.{upsert, without, unless, changed_where, in_order}
use Rattle.am_model.specs.Note.{may_note, after_note, after_note_of}
use Rattle.am_model.specs.Notice.{NoticeData}
use Rattle.am_model.specs.Replay.{reply, after_call}
use Rattle.am_model.specs.State.{GroupState, NotifiedState, FlushState, State, at_time, time, is_named, flush_numbered}
use Rattle.am_model.specs.Maintenance.{same_silence}
use Rattle.am_model.proofs.legal.FewKnown.{known_others}
use Rattle.am_model.proofs.legal.Histories.{after_clock}
use Rattle.am_model.proofs.lists.Distinct.{IsDistinct-filter}
use Rattle.am_model.proofs.lists.Sets.{IsBlindTo, any-blind, any-filter, any-put}
use Rattle.am_model.proofs.lists.Words.{IsDistinct-upsert}
use Rattle.am_model.proofs.looking_back.alerts.AlertSets.{blind-inhibited, blind-silenced}
use Rattle.am_model.proofs.looking_back.rows.RowSteps.{still-resolved, still-over}
use Rattle.am_model.proofs.states.Alike.{same_alert_equiv, same_silence_equiv}

-- a state with other known alerts and silences
abbrev with_others : List AlertData → List SilenceData → State → State
with_others ks xs s = record s { known = ks; silences = xs }

-- known alerts and silences that pass what those of a state pass, by any test that none passes which is resolved or over
record AreAlike (s : State) (ks : List AlertData) (xs : List SilenceData) : Type 0 where
  known : (u : ℕ) → s.clock ≤ u → (test : AlertData → Bool) → IsBlindTo (λ a. is_resolved a u) test → list_any test ks ≡ list_any test s.known
  silences : (u : ℕ) → s.clock ≤ u → (test : SilenceData → Bool) → IsBlindTo (is_over u) test → list_any test xs ≡ list_any test s.silences
  known_apart : IsDistinct same_alert ks
  own_known : IsDistinct same_alert s.known
  silences_apart : IsDistinct same_silence xs
  own_silences : IsDistinct same_silence s.silences

-- one is put into both
put-alike : {X : Type 0} (like : X → X → Bool) → IsEquivalence like → (x : X) (xs ys : List X) → IsDistinct like xs → IsDistinct like ys → (gone : X → Bool) → ((test : X → Bool) → IsBlindTo gone test → list_any test xs ≡ list_any test ys)
    → (test : X → Bool) → IsBlindTo gone test → list_any test (upsert like x xs) ≡ list_any test (upsert like x ys)
put-alike like laws x xs ys apart own gone same test blind =
    any-put like laws test x xs apart
    ∙ ap (λ b. test x || b) (any-filter test (λ y. not (like x y)) xs ∙ same (λ y. not (like x y) && test y) also ∙ sym (any-filter test (λ y. not (like x y)) ys))
    ∙ sym (any-put like laws test x ys own)
  where
    also : IsBlindTo gone (λ y. not (like x y) && test y)
    also y e = and_right (not (like x y)) (test y) (blind y e)

-- what is idle is resolved from then on
blind-idle : (groups : List GroupState) (t u : ℕ) → t ≤ u → (test : AlertData → Bool) → IsBlindTo (λ a. is_resolved a u) test → IsBlindTo (is_idle groups t) test
blind-idle groups t u later test blind a e = blind a (still-resolved a t u later (and_parts (is_resolved a t) (not (is_grouped groups a)) e).0)

blind-over : (t u : ℕ) → t ≤ u → (test : SilenceData → Bool) → IsBlindTo (is_over u) test → IsBlindTo (is_over t) test
blind-over t u later test blind x e = blind x (still-over x t u later e)

since : (s : State) (t u : ℕ) → s.clock ≤ t → t ≤ u → s.clock ≤ u
since s t u later come = omega (arith, later, come)

-- without what is idle and what is over at a time
alike-forgotten : (s : State) (ks : List AlertData) (xs : List SilenceData) (t : ℕ) → s.clock ≤ t → AreAlike s ks xs
    → AreAlike (after_forget s t) (without (is_idle s.groups t) ks) (without (is_over t) xs)
alike-forgotten s ks xs t later h =
    record {
      known = λ u come test blind.
          any-blind (is_idle s.groups t) test (blind-idle s.groups t u come test blind) ks
          ∙ h.known u (since s t u later come) test blind
          ∙ sym (any-blind (is_idle s.groups t) test (blind-idle s.groups t u come test blind) s.known);
      silences = λ u come test blind.
          any-blind (is_over t) test (blind-over t u come test blind) xs
          ∙ h.silences u (since s t u later come) test blind
          ∙ sym (any-blind (is_over t) test (blind-over t u come test blind) s.silences);
      known_apart = IsDistinct-filter same_alert (λ a. not (is_idle s.groups t a)) ks h.known_apart;
      own_known = IsDistinct-filter same_alert (λ a. not (is_idle s.groups t a)) s.known h.own_known;
      silences_apart = IsDistinct-filter same_silence (λ x. not (is_over t x)) xs h.silences_apart;
      own_silences = IsDistinct-filter same_silence (λ x. not (is_over t x)) s.silences h.own_silences;
    }

-- a forgetting leaves such
alike-at_first : (s : State) (t : ℕ) → IsConsistent s → AreAlike (at_time s t) (without (is_idle s.groups t) s.known) (without (is_over t) s.silences)
alike-at_first s t consistent =
    record {
      known = λ u come test blind. any-blind (is_idle s.groups t) test (blind-idle s.groups t u come test blind) s.known;
      silences = λ u come test blind. any-blind (is_over t) test (blind-over t u come test blind) s.silences;
      known_apart = IsDistinct-filter same_alert (λ a. not (is_idle s.groups t a)) s.known consistent.known;
      own_known = consistent.known;
      silences_apart = IsDistinct-filter same_silence (λ x. not (is_over t x)) s.silences consistent.silences;
      own_silences = consistent.silences;
    }

-- ---- a begin

module _ (config : Config) (s : State) (ks : List AlertData) (xs : List SilenceData) (h : AreAlike s ks xs) where
  abbrev other : State
  other = with_others ks xs s

  module _ (t : ℕ) (come : s.clock ≤ t) where
    muted : (labels : List Label) → is_muted labels t xs (rules_of config) ks ≡ is_muted labels t s.silences (rules_of config) s.known
    muted labels =
        (λ j. h.silences t come (λ x. silence_mutes x t labels) (blind-silenced t labels) j
        || list_any (λ (r : RuleData). match_all r.target labels && h.known t come (λ a. is_inhibited_by r t labels a) (blind-inhibited r t labels) j) (rules_of config))

    module _ (g : GroupState) where
      copy : copy_of config other t g ≡ copy_of config s t g
      copy = λ j. unless (route_muted config g.name t) (without (λ a. muted a.labels j) (map (λ m. copied t m.alert) g.members))

      firing : firing_of config other t g ≡ firing_of config s t g
      firing = ap (λ c. in_order alert_cmp (without (λ a. is_resolved a t) c)) copy

      resolved : resolved_of config other t g ≡ resolved_of config s t g
      resolved = ap (λ c. in_order alert_cmp (filter (λ a. is_resolved a t) c)) copy

      notified : notified_of config other t g ≡ notified_of config s t g
      notified = λ j. notified_about config s t g.name (label_sets (firing j)) (label_sets (resolved j))

      returned-notifying : (id : ℕ) (is : List (ℕ × Integration)) → reply_notifying config id other t g is ≡ reply_notifying config id s t g is
      returned-notifying id [] = refl
      returned-notifying id (i ∷ is) =
          λ j. flush_reply s.next_number g.name (deadline_of config t g) (map (λ (k : ℕ × Integration).
          let n : NoticeData = record { board_id = id; ticket = s.next_number; deadline = deadline_of config t g; group = g.name; integration = k.0; firing = firing j; resolved = sent k.1 (resolved j) } in n) (i ∷ is))

      opened : (is : List (ℕ × Integration)) → flush_notifying config other t g is ≡ flush_notifying config s t g is
      opened is =
          λ j. record {
            number = s.next_number;
            group = g.name;
            notified = map (λ (k : ℕ × Integration). let a : NotifiedState = record { integration = k.0; nothing = is_empty (firing j) && is_empty (sent k.1 (resolved j)); noted = false } in a) is;
            firing = label_sets (firing j);
            resolved = label_sets (resolved j);
            leaving = leaving_of t g;
          }

      then-notifying : (is : List (ℕ × Integration)) → after_notifying config other t g is ≡ with_others ks xs (after_notifying config s t g is)
      then-notifying [] = refl
      then-notifying (i ∷ is) =
          λ j. record s {
            clock = t;
            known = ks;
            silences = xs;
            groups = changed_where (is_named g.name) (begun_group config t) s.groups;
            flushes = s.flushes ++ opened (i ∷ is) j ∷ [];
            next_number = s.next_number + 1;
          }

    returned-taking : (id : ℕ) (o : Option GroupState) → reply_taking config id other t o ≡ reply_taking config id s t o
    returned-taking id None = refl
    returned-taking id (Some g) = ap (reply_notifying config id other t g) (notified g) ∙ returned-notifying g id (notified_of config s t g)

    then-taking : (o : Option GroupState) → after_taking config other t o ≡ with_others ks xs (after_taking config s t o)
    then-taking None = refl
    then-taking (Some g) = ap (after_notifying config other t g) (notified g) ∙ then-notifying g (notified_of config s t g)

  -- ---- one call

  then-finish : (t : ℕ) (outcomes : List (ℕ × Outcome)) (o : Option FlushState) → after_finish_of config other t outcomes o ≡ with_others ks xs (after_finish_of config s t outcomes o)
  then-finish t outcomes None = refl
  then-finish t outcomes (Some f) = refl

  then-note : (t integration : ℕ) (outcome : Option Outcome) (o : Option FlushState) → after_note_of config other t integration outcome o ≡ with_others ks xs (after_note_of config s t integration outcome o)
  then-note t integration outcome None = refl
  then-note t integration outcome (Some f) =
      elim (may_note integration outcome f) as (λ b. cond b (after_note config other t integration f) (at_time other t) ≡ with_others ks xs (cond b (after_note config s t integration f) (at_time s t))) [
        | true ↦ refl
        | false ↦ refl
      ]

  -- no call is before the clock
  later : (now : ℕ) → s.clock ≤ time s now
  later now = omega arith

  -- a call returns the same, except for what bare replies leave out, and leads to such states again
  record IsSame (c : Call) : Type 0 where
    returned : (id : ℕ) → option_map bare_reply (reply config id other c) ≡ option_map bare_reply (reply config id s c)
    known : List AlertData
    silences : List SilenceData
    state : after_call config other c ≡ with_others known silences (after_call config s c)
    alike : AreAlike (after_call config s c) known silences

  -- a state whose known alerts and silences stay
  still : (s' : State) (now : ℕ) → s'.clock ≡ time s now → s'.known ≡ s.known → s'.silences ≡ s.silences → AreAlike s' ks xs
  still s' now clock known silences =
      record {
        known = λ u come test blind. h.known u (omega (arith, clock, come)) test blind ∙ sym (ap (list_any test) known);
        silences = λ u come test blind. h.silences u (omega (arith, clock, come)) test blind ∙ sym (ap (list_any test) silences);
        known_apart = h.known_apart;
        own_known = ap-distinct same_alert s.known s'.known (sym known) h.own_known;
        silences_apart = h.silences_apart;
        own_silences = ap-distinct same_silence s.silences s'.silences (sym silences) h.own_silences;
      }
    where
      ap-distinct : {X : Type 0} (like : X → X → Bool) (xs ys : List X) → xs ≡ ys → IsDistinct like xs → IsDistinct like ys
      ap-distinct like xs ys e d = subst (IsDistinct like) e d

  same : (c : Call) → IsSame c
  same (Insert now a) =
      record {
        returned = λ id. refl;
        known = upsert same_alert a ks;
        silences = xs;
        state = refl;
        alike = record {
          known = λ u come. put-alike same_alert same_alert_equiv a ks s.known h.known_apart h.own_known (λ b. is_resolved b u) (h.known u (since s (time s now) u (later now) come));
          silences = λ u come. h.silences u (since s (time s now) u (later now) come);
          known_apart = IsDistinct-upsert same_alert same_alert_equiv a ks h.known_apart;
          own_known = IsDistinct-upsert same_alert same_alert_equiv a s.known h.own_known;
          silences_apart = h.silences_apart;
          own_silences = h.own_silences;
        };
      }
  same (Silence now number matchers start end) =
      let x = silence_of number matchers start end in
      record {
        returned = λ id. refl;
        known = ks;
        silences = upsert same_silence x xs;
        state = refl;
        alike = record {
          known = λ u come. h.known u (since s (time s now) u (later now) come);
          silences = λ u come. put-alike same_silence same_silence_equiv x xs s.silences h.silences_apart h.own_silences (is_over u) (h.silences u (since s (time s now) u (later now) come));
          known_apart = h.known_apart;
          own_known = h.own_known;
          silences_apart = IsDistinct-upsert same_silence same_silence_equiv x xs h.silences_apart;
          own_silences = IsDistinct-upsert same_silence same_silence_equiv x s.silences h.own_silences;
        };
      }
  same (Begin now) =
      let t = time s now in
      let kept = known_others config s (Begin now) refl refl refl in
      record {
        returned = λ id. ap (λ p. Some (bare_reply p)) (returned-taking t (later now) id (taken s t));
        known = ks;
        silences = xs;
        state = then-taking t (later now) (taken s t);
        alike = still (after_call config s (Begin now)) now (after_clock config s (Begin now)) kept.0 kept.1;
      }
  same (Finish now number outcomes) =
      let kept = known_others config s (Finish now number outcomes) refl refl refl in
      record {
        returned = λ id. refl;
        known = ks;
        silences = xs;
        state = then-finish (time s now) outcomes (flush_numbered s.flushes number);
        alike = still (after_call config s (Finish now number outcomes)) now (after_clock config s (Finish now number outcomes)) kept.0 kept.1;
      }
  same (Maintain now) =
      record {
        returned = λ id. refl;
        known = ks;
        silences = xs;
        state = refl;
        alike = still (after_call config s (Maintain now)) now refl refl refl;
      }
  same (RemoveEmptyGroups now) =
      record {
        returned = λ id. refl;
        known = ks;
        silences = xs;
        state = refl;
        alike = still (after_call config s (RemoveEmptyGroups now)) now refl refl refl;
      }
  same (Forget now) =
      record {
        returned = λ id. refl;
        known = without (is_idle s.groups (time s now)) ks;
        silences = without (is_over (time s now)) xs;
        state = refl;
        alike = alike-forgotten s ks xs (time s now) (later now) h;
      }
  same (Load now row) =
      record {
        returned = λ id. refl;
        known = ks;
        silences = xs;
        state = refl;
        alike = still (after_call config s (Load now row)) now refl refl refl;
      }
  same (Note now number integration outcome) =
      let kept = known_others config s (Note now number integration outcome) refl refl refl in
      record {
        returned = λ id. refl;
        known = ks;
        silences = xs;
        state = then-note (time s now) integration outcome (flush_numbered s.flushes number);
        alike = still (after_call config s (Note now number integration outcome)) now (after_clock config s (Note now number integration outcome)) kept.0 kept.1;
      }

-- ---- any calls

replies-alike : (config : Config) (id : ℕ) (calls : List Call) (s : State) (ks : List AlertData) (xs : List SilenceData) → AreAlike s ks xs
    → replies_from config id (with_others ks xs s) calls ≡ replies_from config id s calls
replies-alike config id [] s ks xs h = refl
replies-alike config id (c ∷ cs) s ks xs h =
    let one = same config s ks xs h c in
    let rest = ap (λ (s' : State). replies_from config id s' cs) one.state ∙ replies-alike config id cs (after_call config s c) one.known one.silences one.alike in
    λ j. one.returned id j ∷ rest j

state-alike : (config : Config) (calls : List Call) (s : State) (ks : List AlertData) (xs : List SilenceData) → AreAlike s ks xs
    → bare_state (state_from config (with_others ks xs s) calls) ≡ bare_state (state_from config s calls)
state-alike config [] s ks xs h = refl
state-alike config (c ∷ cs) s ks xs h =
    let one = same config s ks xs h c in
    ap (λ (s' : State). bare_state (state_from config s' cs)) one.state ∙ state-alike config cs (after_call config s c) one.known one.silences one.alike

pub changes_no_reply : ForgettingChangesNoReply
changes_no_reply config id s t calls consistent =
    replies-alike config id calls (at_time s t) (without (is_idle s.groups t) s.known) (without (is_over t) s.silences) (alike-at_first s t consistent)

pub changes_no_state : ForgettingChangesNoState
changes_no_state config s t calls consistent =
    state-alike config calls (at_time s t) (without (is_idle s.groups t) s.known) (without (is_over t) s.silences) (alike-at_first s t consistent)

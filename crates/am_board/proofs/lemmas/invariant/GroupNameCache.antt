-- The names that are kept for known alerts stay those of their groups: a call puts an alert in the place of one with its labels alone, or
-- adds it.
use Rattle.std.proofs.Common.{◌≡◌, ◌≢◌, ℕ, ◌<◌, true, false, eqb, eqb-true, Option, Some, None, List, [], ◌∷◌, ◌++◌, length, get_or, get_or-set_other, get_or-set_same, refl, sym, ap, ◌∙◌, subst, arith}
use Rattle.std.specs.Prelude.{unwrap_or}
use Rattle.std.proofs.Math.ListN.{set, length-set, get_or-append}
use Rattle.std.proofs.lemmas.Bool.{eqb-false}
use Rattle.std.proofs.lemmas.List.{get_or_default, get_or_push, length-append}
use Rattle.std.proofs.lemmas.List.Quantifiers.{position-Some}
use Rattle.std.specs.List.{position}
use Rattle.am_alerts.specs.AlertData.{AlertData}
use Rattle.am_alerts.specs.declared.labels.Label.{Label}
use Rattle.am_alerts.specs.Labels.{same_label_set}
use Rattle.am_alerts.specs.LabelOrder.{same_label_set-decides}
use Rattle.am_mute.specs.Sources.{IsAt}
use Rattle.am_model.specs.declared.config.Config.{Config}
use Rattle.am_model.specs.declared.group.GroupName.{GroupName}
use Rattle.am_model.specs.declared.record.Call.{Call}
use Rattle.am_model.specs.declared.record.Call.TheVariants.{Insert, Silence, Begin, Finish, Maintain, RemoveEmptyGroups, Forget, Load, Note}
use Rattle.am_model.specs.declared.record.Reply.{Reply}
use Rattle.am_model.specs.Records.{entry}
use Rattle.am_model.specs.Insert.{same_alert, names_for}
use Rattle.am_model.specs.Lists.{upsert}
use Rattle.am_model.specs.Replay.{after_call}
use Rattle.am_model.specs.State.{State}
use Rattle.am_model.proofs.legal.FewKnown.{IsForget, known_others}
use Rattle.am_model.proofs.lists.Indexes as lists
use Rattle.am_model.proofs.lists.Indexes.{put_new}
use Rattle.am_board.specs.GroupNameCache.{AreKept}
use Rattle.am_board.specs.Step.{AppliesCall, LeavesUnchanged}
use Rattle.am_board.specs.declared.state.State as kept
use Rattle.am_board.proofs.lemmas.invariant.Learnt.{no_fewer, was_at}

-- the names that are kept are of the alerts that were known before
pub kept_put : (config : Config) (alert : AlertData) (known : List AlertData) (kept : List (Option (List GroupName))) → AreKept config known kept → AreKept config (upsert same_alert alert known) kept
kept_put config alert known kept were =
    record {
      within = omega (arith, were.within, no_fewer alert known);
      names = λ i a names is at.
          let was = was_at alert known i a is (omega (arith, at.0, were.within)) in
          were.names i was.0 names was.1 at ∙ ap (names_for config) was.2;
    }

-- where none are kept
pub kept_none : (config : Config) (known : List AlertData) → AreKept config known []
kept_none config known = record { within = omega arith; names = λ i a names is at. absurd (omega (arith, at.0)) }

module _ (config : Config) (s : State) where
  -- the names stay those of the known alerts' groups, unless a call forgets some
  pub kept_after : (call : Call) (kept : List (Option (List GroupName))) → IsForget call ≡ false → AreKept config s.known kept → AreKept config (after_call config s call).known kept
  kept_after (Insert now alert) kept e were = kept_put config alert s.known kept were
  kept_after (Silence now number matchers start end) kept e were = were
  kept_after (Begin now) kept e were = subst (λ known. AreKept config known kept) (sym (known_others config s (Begin now) refl refl refl).0) were
  kept_after (Finish now number outcomes) kept e were = subst (λ known. AreKept config known kept) (sym (known_others config s (Finish now number outcomes) refl refl refl).0) were
  kept_after (Maintain now) kept e were = were
  kept_after (RemoveEmptyGroups now) kept e were = were
  kept_after (Forget now) kept e were = absurd (cc)
  kept_after (Load now row) kept e were = were
  kept_after (Note now number integration outcome) kept e were = subst (λ known. AreKept config known kept) (sym (known_others config s (Note now number integration outcome) refl refl refl).0) were

module _ (alert : AlertData) (known : List AlertData) where
  -- the alert is where the one with its labels was, or last
  pub put_at : (index : Option ℕ) (n : ℕ) (a : AlertData) → index ≡ position (same_alert alert) known → n ≡ unwrap_or index (length known) → IsAt (upsert same_alert alert known) n a → a ≡ alert
  put_at None n a e at is =
      is.1 ∙ (ap (λ xs. get_or xs n a) (put_new same_alert alert known (sym e)) ∙ get_or_push known alert a n (sym at))
  put_at (Some i) n a e at is =
      let within : n < length known = omega (arith, at, (position-Some (same_alert alert) known i alert (sym e)).0) in
      is.1 ∙ (ap (λ xs. get_or xs n a) (lists.put_at same_alert alert known n (sym (ap (λ j. Some j) at ∙ e))) ∙ get_or-set_same known n alert a within)

  pub put_within : (index : Option ℕ) (n : ℕ) → index ≡ position (same_alert alert) known → n ≡ unwrap_or index (length known) → n < length (upsert same_alert alert known)
  put_within None n e at =
      omega (arith, at, ap (λ (xs : List AlertData). length xs) (put_new same_alert alert known (sym e)), length-append known (alert ∷ []))
  put_within (Some i) n e at = omega (arith, at, (position-Some (same_alert alert) known i alert (sym e)).0, no_fewer alert known)

-- the names that are kept for the known alert of these labels are those of its groups
pub kept_of : (config : Config) (known : List AlertData) (kept : List (Option (List GroupName))) (labels : List Label) (i : ℕ) (names : List GroupName) → AreKept config known kept → Some i ≡ position (λ a. same_label_set labels a.labels) known → IsAt kept i (Some names) → names ≡ names_for config labels
kept_of config known kept labels i names are at held =
    let nobody : AlertData = record { labels = labels; starts = 0; ends = None } in
    let found = position-Some (λ (a : AlertData). same_label_set labels a.labels) known i nobody (sym at) in
    let a : AlertData = get_or known i nobody in
    let there : IsAt known i a = (found.0, get_or_default known i nobody a found.0) in
    are.names i a names there held ∙ sym (ap (names_for config) ((same_label_set-decides labels a.labels).0 found.1))

-- one index more, with no names
pub kept_more : (config : Config) (known : List AlertData) (kept : List (Option (List GroupName))) → AreKept config known kept → length kept < length known → AreKept config known (kept ++ None ∷ [])
kept_more config known kept are few =
    record {
      within = omega (arith, length-append kept (None ∷ []), few);
      names = λ i a names is at.
          elim (eqb i (length kept)) as (λ b. eqb i (length kept) ≡ b → names ≡ names_for config a.labels) [
            | true ↦ λ e.
                let none : get_or (kept ++ None ∷ []) i (Some names) ≡ None = get_or_push kept None (Some names) i (sym (eqb-true i (length kept) e)) in
                absurd (some_none names (at.1 ∙ none))
            | false ↦ λ e.
                let apart : i ≢ length kept = eqb-false i (length kept) e in
                let less : i < length kept = omega (arith, at.0, length-append kept (None ∷ []), apart) in
                are.names i a names is (less, at.1 ∙ get_or-append kept (None ∷ []) (Some names) i less)
          ] refl;
    }
  where
    some_none : (names : List GroupName) → Some names ≡ None → ⊥
    some_none names e = absurd (cc)

-- other names at an index
pub kept_there : (config : Config) (known : List AlertData) (kept : List (Option (List GroupName))) (index : ℕ) (new : List GroupName) → AreKept config known kept → index < length kept → ((a : AlertData) → IsAt known index a → new ≡ names_for config a.labels) → AreKept config known (set kept index (Some new))
kept_there config known kept index new are within returned =
    record {
      within = omega (arith, length-set kept index (Some new), are.within);
      names = λ i a names is at.
          elim (eqb i index) as (λ b. eqb i index ≡ b → names ≡ names_for config a.labels) [
            | true ↦ λ e.
                let here : i ≡ index = eqb-true i index e in
                let at_index : IsAt known index a = subst (λ j. IsAt known j a) here is in
                let held : get_or (set kept index (Some new)) i (Some names) ≡ Some new = ap (λ j. get_or (set kept index (Some new)) j (Some names)) here ∙ get_or-set_same kept index (Some new) (Some names) within in
                same_some names new (at.1 ∙ held) ∙ returned a at_index
            | false ↦ λ e.
                let apart : i ≢ index = eqb-false i index e in
                are.names i a names is (omega (arith, at.0, length-set kept index (Some new)), at.1 ∙ get_or-set_other kept index i (Some new) (Some names) apart)
          ] refl;
    }
  where
    same_some : (xs ys : List GroupName) → Some xs ≡ Some ys → xs ≡ ys
    same_some xs ys e = cc

-- what is known after an accepted insert
pub known_then : (config : Config) (id pass now : ℕ) (alert : AlertData) (returned : Reply) (old new : kept.State) → AppliesCall config id (entry pass (Insert now alert) returned) old new → new.known.items ≡ upsert same_alert alert old.known.items
known_then config id pass now alert returned old new accepts = ap (λ (s : State). s.known) accepts.state.rest

-- what is known after a refusal
pub known_still : (config : Config) (old new : kept.State) → LeavesUnchanged config old new → new.known.items ≡ old.known.items
known_still config old new stays = ap (λ (s : State). s.known) stays.state

-- Histories from their end: the state after a past, and what one record more does to what is found.
use Rattle.std.proofs.Common.{◌≡◌, ℕ, Bool, true, false, cond, ◌||◌, Option, Some, None, List, [], ◌∷◌, reverse, refl, sym, ap, ◌∙◌, subst}
use Rattle.std.proofs.lemmas.Bool.{false≢true}
use Rattle.std.proofs.lemmas.Grind.{reverse_onto}
use Rattle.std.proofs.lemmas.List.{reverse-reverse}
use Rattle.am_alerts.specs.AlertData.{AlertData}
use Rattle.am_alerts.specs.Labels.{same_label_set}
use Rattle.am_alerts.specs.LabelOrder.{same_label_set_equiv, same_label_set-decides}
use Rattle.am_alerts.specs.declared.labels.Label.{Label}
use Rattle.am_model.specs.declared.config.Config.{Config}
use Rattle.am_model.specs.declared.group.GroupName.{GroupName}
use Rattle.am_model.specs.declared.record.Call.{Call}
use Rattle.am_model.specs.declared.record.Call.TheVariants.{Insert, Silence, Begin, Finish, Maintain, RemoveEmptyGroups, Forget, Load, Note}
use Rattle.am_model.specs.declared.record.Inserted.{Inserted}
use Rattle.am_model.specs.declared.record.Record.{Record}
use Rattle.am_model.specs.declared.record.Reply.TheVariants as reply_is
use Rattle.am_model.specs.Records.{entry}
use Rattle.am_model.specs.look_back.Past.{AtEach, past_of}
use Rattle.am_model.specs.look_back.Presence.{goes_to, inserts, inserted_by, stamp_returned, last_insert, removes, has_left, unless_left, presence}
use Rattle.am_model.specs.Replay.{reply, after, replay, IsLegal}
use Rattle.am_model.specs.State.{MemberState, State, opening_state}
use Rattle.am_model.proofs.legal.Histories.{replay_appends, legal_appends}
use Rattle.am_model.proofs.looking_back.PastWords.{unless}

-- ---- a history from its end

-- the state after a past
abbrev pub state_after : Config → List Record → State
state_after config [] = opening_state
state_after config (r ∷ past) = after config (state_after config past) r

-- legal, from the end
abbrev pub IsLegalPast : Config → ℕ → List Record → Type 0
IsLegalPast config id [] = Unit {0}
IsLegalPast config id (r ∷ past) = (reply config id (state_after config past) r.call ≡ Some r.reply) × IsLegalPast config id past

pub replay_of_past : (config : Config) (past : List Record) → replay config (reverse past) ≡ state_after config past
replay_of_past config [] = refl
replay_of_past config (r ∷ past) =
    ap (replay config) (reverse_onto past r []) ∙ replay_appends config (reverse past) r ∙ ap (λ s. after config s r) (replay_of_past config past)

pub legal_of_past : (config : Config) (id : ℕ) (past : List Record) → IsLegal config id (reverse past) → IsLegalPast config id past
legal_of_past config id [] h = tt
legal_of_past config id (r ∷ past) h =
    let parts = (legal_appends config id (reverse past) r).0 (subst (IsLegal config id) (reverse_onto past r []) h) in
    (subst (λ s. reply config id s r.call ≡ Some r.reply) (replay_of_past config past) parts.1, legal_of_past config id past parts.0)

-- what holds of a record after a legal past, where it returned its reply, holds at each record
pub at_each : (config : Config) (id : ℕ) (P : Record → List Record → Type 0) → ((r : Record) (past : List Record) → IsLegalPast config id past → reply config id (state_after config past) r.call ≡ Some r.reply → P r past)
    → (past : List Record) → IsLegalPast config id past → AtEach P past
at_each config id P one [] legal = tt
at_each config id P one (r ∷ past) legal = (one r past legal.1 legal.0, at_each config id P one past legal.1)

-- a legal history is legal from its end
pub legal_past : (config : Config) (id : ℕ) (history : List Record) → IsLegal config id history → IsLegalPast config id (past_of history)
legal_past config id history legal = legal_of_past config id (past_of history) (subst (IsLegal config id) (sym (reverse-reverse history)) legal)

-- the state after a history, from its end
pub replay_is_past : (config : Config) (history : List Record) → replay config history ≡ state_after config (past_of history)
replay_is_past config history = ap (replay config) (sym (reverse-reverse history)) ∙ replay_of_past config (past_of history)

-- ---- the last insert

-- the insert of a label set has it
insert-labels : (labels : List Label) (stamp : ℕ) (m : MemberState) (c : Call) → inserts labels c ≡ true → inserted_by stamp c ≡ Some m → same_label_set labels m.alert.labels ≡ true
insert-labels labels stamp m (Insert now alert) e is =
    let same : record { alert = alert; stamp = stamp } ≡ m = cc in subst (λ (n : MemberState). same_label_set labels n.alert.labels ≡ true) same e
insert-labels labels stamp m (Silence now id matchers start end) e is = absurd (false≢true e)
insert-labels labels stamp m (Begin now) e is = absurd (false≢true e)
insert-labels labels stamp m (Finish now number outcomes) e is = absurd (false≢true e)
insert-labels labels stamp m (Maintain now) e is = absurd (false≢true e)
insert-labels labels stamp m (RemoveEmptyGroups now) e is = absurd (false≢true e)
insert-labels labels stamp m (Forget now) e is = absurd (false≢true e)
insert-labels labels stamp m (Load now row) e is = absurd (false≢true e)
insert-labels labels stamp m (Note now number integration outcome) e is = absurd (false≢true e)

pub last_insert-labels : (labels : List Label) (m : MemberState) (past : List Record) → last_insert labels past ≡ Some m → same_label_set labels m.alert.labels ≡ true
last_insert-labels labels m [] is = absurd (cc)
last_insert-labels labels m (r ∷ past) is =
    elim (inserts labels r.call) as (λ b. inserts labels r.call ≡ b → cond b (inserted_by (stamp_returned r.reply) r.call) (last_insert labels past) ≡ Some m → same_label_set labels m.alert.labels ≡ true) [
      | true ↦ λ e is. insert-labels labels (stamp_returned r.reply) m r.call e is
      | false ↦ λ e is. last_insert-labels labels m past is
    ] refl is

-- ---- presence, by the latest record

-- where the latest record is no insert of the label set, an alert is there that was there, unless the record takes it out
pub presence-step : (config : Config) (name : GroupName) (labels : List Label) (r : Record) (past : List Record) → inserts labels r.call ≡ false
    → presence config name labels (r ∷ past) ≡ unless (λ m. removes name m.alert r past) (presence config name labels past)
presence-step config name labels r past e = by (goes_to config name labels)
  where
    each : (gone : MemberState → Bool) (m : MemberState) (b : Bool) → cond (gone m || b) None (Some m) ≡ unless gone (cond b None (Some m))
    each gone m true = elim (gone m) as (λ g. cond (g || true) None (Some m) ≡ None) [ true ↦ refl | false ↦ refl ]
    each gone m false = elim (gone m) as (λ g. cond (g || false) None (Some m) ≡ cond g None (Some m)) [ true ↦ refl | false ↦ refl ]

    found : (o : Option MemberState) → last_insert labels past ≡ o → unless_left name (r ∷ past) o ≡ unless (λ m. removes name m.alert r past) (unless_left name past o)
    found None is = refl
    found (Some m) is =
        let own : labels ≡ m.alert.labels = (same_label_set-decides labels m.alert.labels).0 (last_insert-labels labels m past is) in
        ap (λ b. cond (cond b false (removes name m.alert r past || has_left name m.alert past)) None (Some m)) (subst (λ l. inserts l r.call ≡ false) own e)
        ∙ each (λ n. removes name n.alert r past) m (has_left name m.alert past)

    by : (b : Bool) → cond b (unless_left name (r ∷ past) (last_insert labels (r ∷ past))) None ≡ unless (λ m. removes name m.alert r past) (cond b (unless_left name past (last_insert labels past)) None)
    by true =
        ap (λ b. unless_left name (r ∷ past) (cond b (inserted_by (stamp_returned r.reply) r.call) (last_insert labels past))) e
        ∙ found (last_insert labels past) refl
    by false = refl

-- where it is one, the alert is there as it was inserted, if the group is one of its
pub presence-insert : (config : Config) (name : GroupName) (labels : List Label) (pass now : ℕ) (a : AlertData) (returned : Inserted) (past : List Record) → same_label_set labels a.labels ≡ true
    → presence config name labels (entry pass (Insert now a) (reply_is.Inserted returned) ∷ past) ≡ cond (goes_to config name labels) (Some (record { alert = a; stamp = returned.stamp })) None
presence-insert config name labels pass now a returned past e =
    let r = entry pass (Insert now a) (reply_is.Inserted returned) in
    let m : MemberState = record { alert = a; stamp = returned.stamp } in
    ap (λ b. cond (goes_to config name labels) (unless_left name (r ∷ past) (cond b (Some m) (last_insert labels past))) None) e
    ∙ ap (λ b. cond (goes_to config name labels) (cond (cond b false (removes name a r past || has_left name a past)) None (Some m)) None) (same_label_set_equiv.refl a.labels)

-- what is there and wasn't inserted last was there
pub unless-some : {X : Type 0} (gone : X → Bool) (o : Option X) (x : X) → unless gone o ≡ Some x → o ≡ Some x
unless-some gone None x e = e
unless-some gone (Some y) x e = elim (gone y) as (λ b. cond b None (Some y) ≡ Some x → Some y ≡ Some x) [ true ↦ λ e. absurd (cc) | false ↦ λ e. e ] e

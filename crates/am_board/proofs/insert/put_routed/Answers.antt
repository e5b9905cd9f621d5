use Rattle.std.proofs.Common.{◌≡◌, ◌∙◌, ℕ, ◌<◌, Option, Some, None, List, Result, Ok, Err, true, length, map, sym, ap, subst}
use Rattle.std.specs.Prelude.{IfSome, is_ok, unwrap_or}
use Rattle.std.specs.List.{position}
use Rattle.am_alerts.specs.AlertData.{AlertData}
use Rattle.am_mute.specs.Sources.{IsAt}
use Rattle.am_model.specs.declared.config.Config.{Config}
use Rattle.am_model.specs.declared.fault.Fault.{Fault}
use Rattle.am_model.specs.declared.group.GroupName.{GroupName}
use Rattle.am_model.specs.declared.record.Inserted.{Inserted}
use Rattle.am_model.specs.declared.record.Reply.TheVariants as reply
use Rattle.am_model.specs.Insert.{names_for, same_alert}
use Rattle.am_model.specs.Lists.{upsert}
use Rattle.am_board.specs.GroupNameCache.{AreKept}
use Rattle.am_board.specs.Arrival.{Puts}
use Rattle.am_board.specs.declared.insert.Arrival.{Arrival}
use Rattle.am_board.specs.declared.insert.Placement.{Placement}
use Rattle.am_board.specs.declared.state.State as kept
use Rattle.am_board.proofs.lemmas.invariant.GroupNameCache.{kept_put, known_then, known_still, put_at, put_within}
use Rattle.am_board.proofs.insert.put_routed.Goals as goal
use Rattle.am_board.proofs.insert.put_routed.Goals.{then-is_ok, else-is_ok}

module _ (config : Config) (old new : kept.State) (arrival : Arrival) where
  -- the names that are kept are of the known alerts after the call too
  still : (names : List (Option (List GroupName))) (r : Result Inserted Fault) → Puts config old new arrival r → AreKept config old.known.items names → AreKept config new.known.items names
  still names (Ok returned) h are =
      subst (λ known. AreKept config known names) (sym (known_then config 0 arrival.pass arrival.time arrival.alert (reply.Inserted returned) old new (h.1 0)))
      (kept_put config arrival.alert old.known.items names are)
  still names (Err fault) h are = subst (λ known. AreKept config known names) (sym (known_still config old new h.1)) are

  -- an alert that was put is known
  put_there : (r : Result Inserted Fault) → is_ok r ≡ true → Puts config old new arrival r → new.known.items ≡ upsert same_alert arrival.alert old.known.items
  put_there (Ok returned) e h = known_then config 0 arrival.pass arrival.time arrival.alert (reply.Inserted returned) old new (h.1 0)
  put_there (Err fault) e h = absurd (cc)

-- the names that were found are those of the alert's groups
new_are : (config : Config) (alert a : AlertData) (found : List GroupName) (o : Option (List GroupName)) → IfSome o (λ names. names ≡ found) → found ≡ names_for config alert.labels → a ≡ alert → IfSome o (λ names. names ≡ names_for config a.labels)
new_are config alert a found None are is same = tt
new_are config alert a found (Some names) are is same = are ∙ is ∙ sym (ap (λ (b : AlertData). names_for config b.labels) same)

pub find_placements-requires : goal.find_placements-requires
find_placements-requires c =
    record { kept = c.of-kept.ensures c.args.config.now c.args.state.now.known.items c.args.arrival.alert.labels c.requires.kept c.requires.index }

pub put_found-inserted-requires : goal.put_found-inserted-requires
put_found-inserted-requires c =
    record {
      good = c.requires.good;
      found = record {
        space = c.requires.space;
        few = c.requires.names;
        index = c.requires.index;
        within = c.requires.within;
        names = c.in_ok-placements.ensures.names;
        placements = c.in_ok-placements.ensures.found;
      };
    }

pub returns-clause-kept : goal.returns-clause-kept
returns-clause-kept c =
    let config : Config = c.args.config.now in
    let old : kept.State = c.args.state.now in
    let new : kept.State = c.put_found-inserted.new.state in
    let alert : AlertData = c.args.arrival.alert in
    let put = c.put_found-inserted.ensures in
    let are = still config old new c.args.arrival c.args.destinations.now c.put_found-inserted.result put c.requires.kept in
    elim c.if-is_ok.branch [
      | then-is_ok w ↦
          let index : Option ℕ = c.args.index in
          let n : ℕ = c.unwrap_or-number.result in
          let found : index ≡ position (same_alert alert) old.known.items = c.requires.index in
          let at : n ≡ unwrap_or index (length old.known.items) = c.unwrap_or-number.ensures ∙ ap (unwrap_or index) c.len.ensures in
          let there = put_there config old new c.args.arrival c.put_found-inserted.result (sym c.is_ok.ensures.value ∙ w.if-is_ok.true) put in
          let within : n < length new.known.items = subst (λ (xs : List AlertData). n < length xs) (sym there) (put_within alert old.known.items index n found at) in
          let names = ap (map (λ (p : Placement). p.name)) c.as_slice.ensures.value ∙ c.in_ok-placements.ensures.names in
          subst (AreKept config new.known.items) (sym w.destinations-is)
          (w.keep.ensures config new.known.items are within
          (λ a is. new_are config alert a (map (λ (p : Placement). p.name) c.as_slice.result.now) c.new_names-names.result c.new_names-names.ensures names (put_at alert old.known.items index n a found at (subst (λ (xs : List AlertData). IsAt xs n a) there is))))
      | else-is_ok w ↦ subst (AreKept config new.known.items) (sym w.destinations-is) are
    ]

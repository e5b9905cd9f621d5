use Rattle.std.proofs.Common.{◌≡◌, ◌∙◌, ℕ, ◌+◌, ◌≤◌, ◌++◌, ◌∷◌, [], Vec, Global, List, Some, map, length, sym, ap, subst, arith, vec_len, vec_capacity}
use Rattle.std.specs.Prelude.{All, count_by, is_none}
use Rattle.std.specs.VecDeque.{deque_items, deque_len}
use Rattle.am_alerts.specs.AlertData.{AlertData}
use Rattle.am_board.specs.declared.insert.Placement.{Placement}
use Rattle.am_board.specs.declared.insert.Found.{Found}
use Rattle.am_board.specs.Arrival.{insert_record}
use Rattle.am_board.specs.Inserting.{AreFound, AreRoutedPlacements, IsWhereToPut, stamped_alert}
use Rattle.am_board.proofs.lemmas.insert.Again.{names_routed}
use Rattle.am_board.proofs.lemmas.insert.Found.{still_found, are_apart, names_apart}
use Rattle.am_model.proofs.lists.Distinct.{all-mapped}
use Rattle.am_model.specs.Insert.{names_for, inserted}
use Rattle.am_model.specs.declared.group.GroupName.{GroupName}
use Rattle.am_alerts.specs.RoutingTree.{last_of}
use Rattle.am_alerts.specs.declared.labels.Label.{Label}
use Rattle.am_board.specs.Refinement.{state_of, flush_state, IsPrepared}
use Rattle.am_model.specs.declared.config.Config.{Config}
use Rattle.am_board.specs.declared.flush.OpenFlush.{OpenFlush}
use Rattle.am_model.specs.declared.record.Inserted.{Inserted}
use Rattle.am_model.specs.declared.record.Record.{Record}
use Rattle.am_model.specs.declared.record.Reply.TheVariants as reply
use Rattle.am_board.specs.declared.state.State as kept
use Rattle.am_board.proofs.lemmas.insert.Inserting.{answer_groups, no_cause, makes_many, makes_few, made_counted, are_found, are_empty, are_placed, count_is, inserted_is, insert_leaves, stays_reserved}
use Rattle.am_board.proofs.insert.put_found.Goals as goal
use Rattle.am_board.proofs.lemmas.invariant.Staying.{stays_itself, agrees_same}
use Rattle.am_board.specs.Marks.{AreMarked}

-- the indexes of the groups were found
found_of : (config : Config) (s : kept.State) (alert : AlertData) (found : Found) → IsWhereToPut config s alert found → AreFound s.groups.items found.placements.items
found_of config s alert found is = are_found config.routes s.groups.items (stamped_alert alert (s.inserts + 1)) found.placements.items is.placements

-- what was found says how many groups have to be made
made_of : (config : Config) (s : kept.State) (alert : AlertData) (found : Found) (lent : List Placement) (n : ℕ) → IsWhereToPut config s alert found → lent ≡ found.placements.items → n ≡ count_by (λ p. is_none p.index) lent → n ≡ (inserted config (state_of s) alert).made
made_of config s alert found lent n is e counted =
    made_counted config alert.labels s.groups.items found.placements.items lent n e counted is.names (found_of config s alert found is)

pub returns-then-len-made : goal.returns-then-len-made
returns-then-len-made c =
    let config : Config = c.args.config.now in
    let s : kept.State = c.args.state.now in
    let is = c.requires.found in
    let made = made_of config s c.args.arrival.alert c.args.found c.as_slice.result.now c.count_missing-made.result is c.as_slice.ensures.value c.count_missing-made.ensures in
    (answer_groups config (vec_len s.history) (state_of s) c.args.arrival.alert is.space is.few (makes_many config s c.args.arrival.alert c.count_missing-made.result made (omega (arith, c.if-len-made.true, c.len.ensures.len))), stays_itself config s c.requires.good)

pub reserve_insert-requires-clause-distinct : goal.reserve_insert-requires-clause-distinct
reserve_insert-requires-clause-distinct c = names_apart c.args.state.now.groups.items c.requires.good.consistent.groups

pub reserve_insert-requires-clause-found : goal.reserve_insert-requires-clause-found
reserve_insert-requires-clause-found c =
    subst (AreFound c.args.state.now.groups.items) (sym c.as_slice-2.ensures.value) (found_of c.args.config.now c.args.state.now c.args.arrival.alert c.args.found c.requires.found)

pub put_prepared-requires-clause-found : goal.put_prepared-requires-clause-found
put_prepared-requires-clause-found c =
    still_found c.args.found.placements.items c.args.state.now.groups.items c.reserve_insert.new.state.groups.items c.in_ok-reserve_insert.ensures.kept.names
    (found_of c.args.config.now c.args.state.now c.args.arrival.alert c.args.found c.requires.found)

pub put_prepared-requires-clause-empty : goal.put_prepared-requires-clause-empty
put_prepared-requires-clause-empty c =
    let s : kept.State = c.args.state.now in
    are_empty c.args.config.now.routes s.groups.items (stamped_alert c.args.arrival.alert (s.inserts + 1)) c.args.found.placements.items c.requires.found.placements

pub put_prepared-requires-clause-apart : goal.put_prepared-requires-clause-apart
put_prepared-requires-clause-apart c = are_apart c.args.config.now c.args.arrival.alert.labels c.args.found.placements.items c.requires.found.names

-- each placement is of a route that is there
routed : (config : Config) (labels : List Label) (ps : List Placement) → map (λ p. p.name) ps ≡ names_for config labels → AreRoutedPlacements config.routes ps
routed config labels ps names =
    all-mapped (λ (p : Placement). p.name) (λ (n : GroupName). n.route ≤ last_of config.routes) ps
    (subst (All (λ (n : GroupName). n.route ≤ last_of config.routes)) (sym names) (names_routed config labels))

pub returns : goal.returns
returns c =
    let config : Config = c.args.config.now in
    let s : kept.State = c.args.state.now in
    let reserved : kept.State = c.reserve_insert.new.state in
    let new : kept.State = c.put_prepared.new.state in
    let placements : List Placement = c.args.found.placements.items in
    let alert : AlertData = c.args.arrival.alert in
    let is = c.requires.found in
    let names = is.names in
    let routes = routed config alert.labels placements names in
    let placed = are_placed config.routes s.groups.items (stamped_alert alert (s.inserts + 1)) placements is.placements in
    let kept = c.in_ok-reserve_insert.ensures.kept in
    let ready = c.in_ok-reserve_insert.ensures.ready in
    let made : c.count_missing-made.result ≡ (inserted config (state_of s) alert).made =
    made_of config s alert c.args.found c.as_slice.result.now c.count_missing-made.result is c.as_slice.ensures.value c.count_missing-made.ensures in
    let groups : c.len-2.result ≡ length (names_for config alert.labels) = omega (arith, c.len-2.ensures, c.args.found.placements.ok.0, count_is config alert.labels placements names) in
    let still = stays_reserved config s reserved c.requires.good kept in
    let logged : All (IsPrepared config new.log) reserved.flushes.items = subst (λ log. All (IsPrepared config log) reserved.flushes.items) (sym c.put_prepared.ensures.log) still.prepared in
    let flushes : deque_len new.flushes ≡ deque_len reserved.flushes = ap deque_len c.put_prepared.ensures.flushes in
    let records : vec_len new.history ≡ vec_len reserved.history = ap (λ (rs : Vec Record Global). vec_len rs) c.put_prepared.ensures.history in
    let space : vec_capacity new.history ≡ vec_capacity reserved.history = ap (λ (rs : Vec Record Global). vec_capacity rs) c.put_prepared.ensures.history in
    let returned : Inserted = record { stamp = s.inserts + 1; groups = c.len-2.result; made = c.count_missing-made.result } in
    let added : Record = insert_record c.args.arrival returned in (
      no_cause config (vec_len s.history) (state_of s) alert is.space is.few (makes_few config s alert c.count_missing-made.result made (omega (arith, c.if-len-made.false, c.len.ensures.len))),
      λ id. record {
        returned = ap (λ (r : Inserted). Some (reply.Inserted r)) (inserted_is config (state_of s) alert c.len-2.result c.count_missing-made.result groups made);
        state = agrees_same _ _ (insert_leaves config s reserved new c.time-t.result c.args.arrival.time alert c.in_ok-copy.copy placements (c.put_prepared.ensures.state config) kept c.in_ok-copy.ensures c.time-t.ensures c.requires.good.consistent.clock placed names);
        routed = c.put_prepared.ensures.routed config.routes still.routed routes;
        prepared = subst (All (IsPrepared config new.log)) (ap deque_items (sym c.put_prepared.ensures.flushes)) logged;
        marked = subst (λ (os : List OpenFlush). AreMarked (map flush_state os) new.groups.items) (ap deque_items (sym c.put_prepared.ensures.flushes)) (λ name. c.put_prepared.ensures.marks name ∙ still.marked name);
        history = c.push_reserved.ensures.items ∙ ap (λ (r : Record). c.put_prepared.new.state.history.items ++ r ∷ []) c.record_of-record.ensures ∙ ap (λ (rs : List Record). rs ++ added ∷ []) (ap (λ (rs : Vec Record Global). rs.items) c.put_prepared.ensures.history ∙ kept.history);
        records = omega (arith, c.push_reserved.ensures.len, records, kept.records);
        space = omega (arith, c.push_reserved.ensures.len, c.push_reserved.ensures.capacity, records, space, flushes, ready.records);
      },
    )

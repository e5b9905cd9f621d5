use Rattle.std.proofs.Common.{◌≡◌, ◌∙◌, List, None, ap, map, subst, sym, true}
use Rattle.std.specs.List.{list_all}
use Rattle.std.specs.Prelude.{IsTrue}
use Rattle.serde_json.specs.View.{members_view}
use Rattle.am_json.specs.Configured.{config_compares_texts}
use Rattle.am_input.proofs.Refusals.{one_on, passed_on}
use Rattle.am_input.specs.Clocks.{AreClocksOf}
use Rattle.am_input.specs.Configured.{file_in}
use Rattle.am_input.specs.DispatcherChanges.{AreDispatcherChangesWithoutRegexes, AreDecodedBy, IsConfigAt, is_ours}
use Rattle.am_plans.proofs.DispatcherChanges.{one_items}
use Rattle.am_plans.specs.DispatcherChange.{ItemData, item_of}
use Rattle.am_plans.specs.declared.dispatcher_change.DispatcherChangeItem.{DispatcherChangeItem}
use Rattle.am_terms.specs.declared.dispatcher_change.DispatcherChange.{DispatcherChange}
use Rattle.am_input.proofs.dispatcher_changes.read_dispatcher_changes.Goals as goal

pub returns-clause-decoded : goal.returns-clause-decoded
returns-clause-decoded g c =
    let IsAt = IsConfigAt (AreClocksOf c.args.until (members_view c.args.top.now.members)) (file_in c.args.changes) c.args.top.now.mode (members_view c.args.top.now.members) in
    record {
      items = map item_of c.in_ok-items.items.items;
      items_are = c.in_ok-items.ensures.decoded;
      are = subst (λ (is : List DispatcherChangeItem). AreDecodedBy IsAt None (map item_of is) c.in_ok-read_configs.field-0.dispatcher_changes.items) c.as_slice.ensures.value
          c.in_ok-read_configs.ensures.decoded;
    }

pub returns-clause-timed : goal.returns-clause-timed
returns-clause-timed g c own ours dispatcher_changes decoded =
    let same = one_items c.args.top.now.mode c.args.until (members_view c.args.top.now.members) decoded.decoded.items (map item_of c.in_ok-items.items.items) decoded.decoded.items_are
    c.in_ok-items.ensures.decoded ∙ sym (ap (map item_of) c.as_slice.ensures.value) in
    c.in_ok-read_configs.ensures.timed own ours (subst (λ (is : List ItemData). list_all (λ (i : ItemData). is_ours i.reload) is ≡ true) same decoded.ours)

pub returns-in_err-items-clause-refused : goal.returns-in_err-items-clause-refused
returns-in_err-items-clause-refused g c own ours =
    one_on (AreDispatcherChangesWithoutRegexes c.args.top.now.mode (file_in c.args.changes) c.args.until (members_view c.args.top.now.members)) c.from_residual.result
    c.in_err-items.field-0.0 c.from_residual.ensures.1 (λ refusal dispatcher_changes decoded. c.in_err-items.ensures.refused refusal decoded.decoded.items decoded.decoded.items_are)

pub returns-in_err-read_configs-clause-refused : goal.returns-in_err-read_configs-clause-refused
returns-in_err-read_configs-clause-refused g c own ours =
    let d = c.args.top.now.mode in
    let members = members_view c.args.top.now.members in
    let file = file_in c.args.changes in
    let items = c.as_slice.result.now in
    passed_on (λ (hs : List DispatcherChange). AreDecodedBy (IsConfigAt (AreClocksOf c.args.until members) file d members) None (map item_of items) hs × IsTrue (list_all (λ (h : DispatcherChange). config_compares_texts h.config) hs))
    (AreDispatcherChangesWithoutRegexes d file c.args.until members) (λ hs. hs) c.from_residual-in_err-read_configs.result c.in_err-read_configs.field-0.0
    c.from_residual-in_err-read_configs.ensures.1
    (λ hs decoded.
    let same = one_items d c.args.until members decoded.decoded.items (map item_of c.in_ok-items.items.items) decoded.decoded.items_are c.in_ok-items.ensures.decoded
    ∙ sym (ap (map item_of) c.as_slice.ensures.value) in (
      c.in_err-read_configs.ensures.refused own ours (subst (λ (is : List ItemData). list_all (λ (i : ItemData). is_ours i.reload) is ≡ true) same decoded.ours),
      (subst (λ (is : List ItemData). AreDecodedBy (IsConfigAt (AreClocksOf c.args.until members) file d members) None is hs) same decoded.decoded.are, decoded.plain),
    ))

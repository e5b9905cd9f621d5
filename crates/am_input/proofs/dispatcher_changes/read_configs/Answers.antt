use Rattle.std.proofs.Common.{◌≡◌, ◌+◌, ◌<◌, ◌++◌, ◌||◌, ◌∷◌, ◌∙◌, ℕ, List, [], Option, None, ap, arith, get_or, length, map, refl, subst, sym, take, true}
use Rattle.std.proofs.lemmas.List.{map-append, take_all, take_more}
use Rattle.std.specs.List.{list_all}
use Rattle.std.specs.Prelude.{IsTrue}
use Rattle.serde_json.specs.Data.{Data, Members}
use Rattle.serde_json.specs.View.{members_view}
use Rattle.am_json.specs.Configured.{config_compares_texts}
use Rattle.am_json.specs.declared.reader.Mode.{Mode}
use Rattle.am_input.proofs.Refusals.{passed_by, starved_on}
use Rattle.am_input.proofs.DecodedDispatcherChanges.{behind_one, ours_at, reload_behind, reload_or, decodes_at, decoded_at, decoded_more}
use Rattle.am_input.specs.Clocks.{AreClocksOf}
use Rattle.am_input.specs.Configured.{file_in}
use Rattle.am_input.specs.DispatcherChanges.{AreDecodedBy, IsConfigAt, DecodesAt, is_ours, last_reload}
use Rattle.am_plans.specs.DispatcherChange.{ItemData, item_of, reload_in}
use Rattle.am_plans.specs.declared.dispatcher_change.DispatcherChangeItem.{DispatcherChangeItem}
use Rattle.am_terms.specs.declared.dispatcher_change.DispatcherChange.{DispatcherChange}
use Rattle.am_input.proofs.dispatcher_changes.read_configs.Goals as goal

-- what is never refused
abbrev Decodes : ℕ → Option Data → Mode → Members → List DispatcherChangeItem → List DispatcherChange → Type 0
Decodes until file d members items dispatcher_changes =
    AreDecodedBy (IsConfigAt (AreClocksOf until members) file d members) None (map item_of items) dispatcher_changes × IsTrue (list_all (λ (h : DispatcherChange). config_compares_texts h.config) dispatcher_changes)

pub loop-item-init : goal.loop-item-init
loop-item-init g c =
    let IsAt = IsConfigAt (AreClocksOf c.args.until (members_view c.args.top.now.members)) (file_in c.args.changes) c.args.top.now.mode (members_view c.args.top.now.members) in
    record {
      decoded = subst (λ (hs : List DispatcherChange). AreDecodedBy IsAt None [] hs) (sym c.nothing-read.ensures.dispatcher_changes) tt;
      last = refl;
      lacks = λ own ours all. c.nothing-read.ensures.lacks;
    }

-- one more item
next_items : (items : List DispatcherChangeItem) (i : ℕ) (x : DispatcherChangeItem) → i < length items → x ≡ get_or items i x
    → map item_of (take (i + 1) items) ≡ map item_of (take i items) ++ item_of x ∷ []
next_items items i x here is =
    ap (map item_of) (take_more items i x here ∙ ap (λ (y : DispatcherChangeItem). take i items ++ y ∷ []) (sym is)) ∙ map-append item_of (take i items) (x ∷ [])

pub loop-item-preserved : goal.loop-item-preserved
loop-item-preserved g c =
    let l = c.loop-item in
    let items = c.args.items.now in
    let i = l.item-index in
    let item : DispatcherChangeItem = c.item-item.result in
    let here : i < length items = omega arith in
    let members = members_view c.args.top.now.members in
    let IsAt = IsConfigAt (AreClocksOf c.args.until members) (file_in c.args.changes) c.args.top.now.mode members in
    let xs = map item_of (take i items) in
    let more : map item_of (take (i + 1) items) ≡ xs ++ item_of item ∷ [] = next_items items i item here c.item-item.is in
    let same : reload_in c.or-last.result ≡ last_reload (reload_behind None xs) (item_of item) =
    ap reload_in c.or-last.ensures ∙ reload_or item.reload l.last ∙ ap (λ (r : Option Data). last_reload r (item_of item)) l.invariant.last in
    let h : DispatcherChange = record { at = item.at; config = c.in_ok-configured.configured.config; carryover = item.carryover } in
    let decoded = decoded_more IsAt None xs l.read.dispatcher_changes.items (item_of item) h l.invariant.decoded refl refl
    (subst (λ (r : Option Data). IsAt r h.config) same c.in_ok-configured.ensures.decoded) in
    record {
      decoded = subst (λ (hs : List DispatcherChange). AreDecodedBy IsAt None (map item_of (take (i + 1) items)) hs) (sym c.in_ok-add.ensures.added)
          (subst (λ (ys : List ItemData). AreDecodedBy IsAt None ys (l.read.dispatcher_changes.items ++ h ∷ [])) (sym more) decoded);
      last = same ∙ sym (behind_one None xs (item_of item)) ∙ sym (ap (reload_behind None) more);
      lacks = λ own ours all.
          let mine = subst (λ (r : Option Data). is_ours r ≡ true) (sym same) (ours_at None items i item here c.item-item.is refl all) in
          c.in_ok-add.ensures.lacks ∙ (λ j. l.invariant.lacks own ours all j || c.in_ok-configured.ensures.timed own ours mine j);
    }

pub returns-clause-decoded : goal.returns-clause-decoded
returns-clause-decoded g c =
    let l = c.loop-item in
    let IsAt = IsConfigAt (AreClocksOf c.args.until (members_view c.args.top.now.members)) (file_in c.args.changes) c.args.top.now.mode (members_view c.args.top.now.members) in
    subst (λ (is : List DispatcherChangeItem). AreDecodedBy IsAt None (map item_of is) l.read.dispatcher_changes.items) (take_all l.item-index c.args.items.now (omega arith)) l.invariant.decoded

pub returns-clause-timed : goal.returns-clause-timed
returns-clause-timed g c own ours all = c.loop-item.invariant.lacks own ours all

-- a configuration that isn't read
pub returns-in_err-configured-clause-refused : goal.returns-in_err-configured-clause-refused
returns-in_err-configured-clause-refused g c own ours all =
    let l = c.loop-item in
    let items = c.args.items.now in
    let i = l.item-index in
    let item : DispatcherChangeItem = c.item-item.result in
    let here : i < length items = omega arith in
    let d = c.args.top.now.mode in
    let members = members_view c.args.top.now.members in
    let file = file_in c.args.changes in
    let Clocks = AreClocksOf c.args.until members in
    let xs = map item_of (take i items) in
    let same : reload_in c.or-last.result ≡ last_reload (reload_behind None xs) (item_of item) =
    ap reload_in c.or-last.ensures ∙ reload_or item.reload l.last ∙ ap (λ (r : Option Data). last_reload r (item_of item)) l.invariant.last in
    let mine = subst (λ (r : Option Data). is_ours r ≡ true) (sym same) (ours_at None items i item here c.item-item.is refl all) in
    passed_by (DecodesAt d members (reload_in c.or-last.result)) (Decodes c.args.until file d members items) c.from_residual.result c.in_err-configured.field-0.0 c.from_residual.ensures.1
    (λ hs decoded.
    let one = decoded_at (IsConfigAt Clocks file d members) None items i item hs here c.item-item.is decoded.0 decoded.1 in
    let at : IsConfigAt Clocks None d members (reload_in c.or-last.result) one.0.config =
    subst (λ (f : Option Data). IsConfigAt Clocks f d members (reload_in c.or-last.result) one.0.config) own
    (subst (λ (r : Option Data). IsConfigAt Clocks file d members r one.0.config) (sym same) one.1) in
    (one.0.config, c.in_err-configured.ensures.refused own ours mine, decodes_at Clocks d members (reload_in c.or-last.result) one.0.config ours mine at one.2))

pub returns-in_err-add-clause-refused : goal.returns-in_err-add-clause-refused
returns-in_err-add-clause-refused g c own ours all =
    starved_on (Decodes c.args.until (file_in c.args.changes) c.args.top.now.mode (members_view c.args.top.now.members) c.args.items.now) c.from_residual-in_err-add.result
    c.in_err-add.field-0.0 c.from_residual-in_err-add.ensures.1 c.in_err-add.ensures.starved

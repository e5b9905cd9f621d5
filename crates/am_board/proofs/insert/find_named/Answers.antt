use Rattle.std.proofs.Common.{◌≡◌, ◌∙◌, ◌≤◌, List, [], ◌∷◌, ◌++◌, map, get_or, sym, ap, subst, arith}
use Rattle.std.specs.Prelude.{All}
use Rattle.std.proofs.lemmas.List.{get_or_default}
use Rattle.std.proofs.lemmas.List.Elements.{All-push}
use Rattle.am_alerts.specs.RoutingTree.{last_of}
use Rattle.am_board.specs.Inserting.{IsFound, IsToPut, index_in, stamped_alert}
use Rattle.am_board.specs.declared.insert.Placement.{Placement}
use Rattle.am_board.specs.declared.insert.Target.{Target}
use Rattle.am_model.specs.State.{MemberState}
use Rattle.am_model.specs.declared.group.GroupName.{GroupName}
use Rattle.am_board.proofs.lemmas.insert.Placing.{named_more}
use Rattle.am_board.proofs.insert.find_named.Goals as goal

pub prepare-requires : goal.prepare-requires
prepare-requires c =
    let is = c.in_ok-name.ensures ∙ c.name-name.ensures ∙ c.destination-item.is in
    subst (λ (n : GroupName). n.route ≤ last_of c.args.routes.now) (sym is) (c.requires c.loop-destination.destination-index c.destination-item.result (omega arith))

pub loop-destination-preserved : goal.loop-destination-preserved
loop-destination-preserved c =
    let before : List Placement = c.loop-destination.placements.items in
    let x : Placement = c.in_ok-prepare.field-0 in
    let name : GroupName = c.in_ok-name.name in
    let m : MemberState = stamped_alert c.args.alert.now c.args.stamp in
    let Is : Placement → Type 0 = IsToPut c.args.routes.now c.args.groups.now.items m in
    let pushed : c.push.new.self.items ≡ before ++ x ∷ [] = c.in_ok-push.ensures.items in
    let named : x.name ≡ c.destination-item.result = ap (λ (t : Target). t.name) c.in_ok-prepare.ensures.target ∙ c.in_ok-name.ensures ∙ c.name-name.ensures in
    let at : x.name ≡ get_or c.args.names.now c.loop-destination.destination-index x.name =
    named ∙ c.destination-item.is ∙ get_or_default c.args.names.now c.loop-destination.destination-index c.destination-item.result x.name (omega arith) in
    let found : IsFound c.args.groups.now.items (record { name = x.name; index = x.index }) =
    ap (λ (t : Target). t.index) c.in_ok-prepare.ensures.target ∙ c.find-index.ensures.index ∙ ap (λ (n : GroupName). index_in n c.args.groups.now.items) (c.name-name.ensures ∙ sym named) in
    record {
      names = ap (map (λ (p : Placement). p.name)) pushed ∙ named_more before x c.args.names.now c.loop-destination.destination-index (omega arith) c.loop-destination.invariant.names at;
      found = subst (All Is) (sym pushed) (All-push Is before x c.loop-destination.invariant.found (found, c.in_ok-prepare.ensures.ready, c.in_ok-prepare.ensures.placed));
    }

use Rattle.std.proofs.Common.{◌≡◌, ◌++◌, ◌∷◌, [], ℕ, List, Result, append_assoc, codes}
use Rattle.std.proofs.lemmas.List.Folds.{flat_map-map}
use Rattle.std.specs.List.{flat_map}
use Rattle.std.specs.Result.{OnOk}
use Rattle.json.specs.Token.{Token, begin_array, end_array, key, string}
use Rattle.am_alerts.specs.RoutingTree.{RoutingTree, children_of}
use Rattle.am_alerts.specs.declared.route.Child.{Child}
use Rattle.am_alerts.specs.declared.route.Route.{Route}
use Rattle.am_protocol.specs.Reply.{route_name_tokens, routes_members}
use Rattle.am_protocol.proofs.Pieces.{last_piece}
use Rattle.am_protocol.proofs.reply.put_routes.Goals as goal

-- the name of the root, and those of the routes below it
names_pieces : {T E : Type 0} (r : Result T E) (keyed opened first filled new before : List Token) (tree : RoutingTree) (root : Route) (name : List ℕ) (children : List Child)
    → root ≡ tree.root → name ≡ root.name → children ≡ children_of tree
    → keyed ≡ before ++ key (codes "routes") ∷ [] → opened ≡ keyed ++ begin_array ∷ [] → first ≡ opened ++ string name ∷ []
    → filled ≡ first ++ flat_map (λ c. route_name_tokens c.route) children
    → OnOk r (new ≡ filled ++ end_array ∷ []) → OnOk r (new ≡ before ++ routes_members tree)
names_pieces r keyed opened first filled new before tree root name children is_root is_name are is_keyed is_opened is_first is_filled =
    last_piece r new filled (end_array ∷ []) (before ++ routes_members tree)
    (rw (is_filled, is_first, is_opened, is_keyed, are, is_name, is_root, flat_map-map route_name_tokens (λ (c : Child). c.route) (children_of tree)) (simp append_assoc))

pub returns : goal.returns
returns c =
    names_pieces c.close_list.result c.key.new.self c.open_list.new.self c.text.new.self c.add_names.new.answer c.close_list.new.self c.args.answer.now c.args.routes.now _ _ _
    c.root.ensures.root c.as_str.ensures c.children.ensures.children c.in_ok-key.ensures c.in_ok-open_list.ensures c.in_ok-text.ensures c.in_ok-add_names.ensures c.close_list.ensures

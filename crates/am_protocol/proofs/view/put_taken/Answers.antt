use Rattle.std.proofs.Common.{◌≡◌, ◌∙◌, ◌++◌, ◌∷◌, ℕ, List, ap, codes}
use Rattle.json.specs.Token.{key}
use Rattle.am_alerts.specs.declared.route.Route.{Route}
use Rattle.am_model.specs.Configured.{route_of}
use Rattle.am_protocol.specs.Answer.{array, group_tokens, number_member, text_member}
use Rattle.am_protocol.specs.View.{muted_tokens}
use Rattle.am_protocol.proofs.Pieces.{four_pieces}
use Rattle.am_protocol.proofs.view.put_taken.Goals as goal

pub returns : goal.returns
returns c =
    let route = route_of c.args.config.now c.args.group.now in
    let receiver : c.as_str.result.now ≡ route.receiver = c.as_str.ensures ∙ ap (λ (r : Route). r.receiver) c.route_of.ensures in
    four_pieces c.put_list.result c.put_number.new.self c.put.new.self c.put_text.new.self c.put_list.new.self c.args.answer.now
    (number_member (codes "now") c.args.time) (key (codes "group") ∷ group_tokens c.args.config.now c.args.group.now)
    (text_member (codes "receiver") route.receiver) (key (codes "muted") ∷ array muted_tokens c.args.muted.now)
    c.in_ok-put_number.ensures c.in_ok-put.ensures
    (c.in_ok-put_text.ensures ∙ ap (λ (text : List ℕ). c.put.new.self ++ text_member (codes "receiver") text) receiver) c.put_list.ensures

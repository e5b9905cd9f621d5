use Rattle.std.proofs.Common.{◌≡◌, ◌∙◌, ◌++◌, ◌∷◌, [], ◌+◌, List, map, take, sym, ap, subst, arith}
use Rattle.std.proofs.lemmas.List.{map-append, take_more}
use Rattle.indexmap.specs.IndexSet.{insert_key}
use Rattle.am_alerts.specs.Labels.{same_label_set}
use Rattle.am_alerts.specs.declared.labels.Label.{Label}
use Rattle.am_model.specs.State.{MemberState}
use Rattle.am_board.specs.Forgetting.{AddsLabelsOf}
use Rattle.am_board.specs.Refinement.{member_state}
use Rattle.am_board.specs.declared.group.Member.{Member}
use Rattle.am_board.proofs.lemmas.forget.Grouped.{adds_none, adds_more}
use Rattle.am_board.proofs.forget.add_labels.Goals as goal

pub loop-member-init : goal.loop-member-init
loop-member-init c = adds_none c.args.sets.now.keys

pub loop-member-preserved : goal.loop-member-preserved
loop-member-preserved c =
    let m : Member = c.member-item.result in
    let i = c.loop-member.member-index in
    let old : List (List Label) = c.args.sets.now.keys in
    let before : List (List Label) = c.loop-member.sets.keys in
    let seen : List Member = take i c.args.members.now in
    let more : take (i + 1) c.args.members.now ≡ seen ++ m ∷ [] = take_more c.args.members.now i m (omega arith) ∙ ap (λ x. seen ++ x ∷ []) (sym c.member-item.is) in
    let mapped : map member_state (take (i + 1) c.args.members.now) ≡ map member_state seen ++ member_state m ∷ [] = ap (map member_state) more ∙ map-append member_state seen (m ∷ []) in
    let keys : c.insert.new.self.keys ≡ insert_key same_label_set before m.alert.labels = c.in_ok-insert.ensures.keys ∙ ap (insert_key same_label_set before) (c.in_ok-copy.ensures ∙ c.labels.ensures.labels) in
    subst (λ (ms : List MemberState). AddsLabelsOf ms old c.insert.new.self.keys) (sym mapped)
    (subst (AddsLabelsOf (map member_state seen ++ member_state m ∷ []) old) (sym keys) (adds_more (map member_state seen) (member_state m) old before c.loop-member.invariant))

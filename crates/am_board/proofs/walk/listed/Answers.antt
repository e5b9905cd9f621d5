use Rattle.std.proofs.Common.{◌++◌, ◌∷◌, [], Option, List, Vec, Global, take, sym, ap, ◌∙◌, arith}
use Rattle.std.specs.List.{cons_option, filter_map}
use Rattle.std.specs.Option.{option_copied, option_map}
use Rattle.std.proofs.lemmas.List.{append-nil}
use Rattle.am_model.specs.declared.preview.MutedAlert.{MutedAlert}
use Rattle.am_board.specs.Walk.{alert_there}
use Rattle.am_board.specs.declared.group.Member.{Member}
use Rattle.am_board.proofs.lemmas.begin.MutedIndexes.{listed-more}
use Rattle.am_board.proofs.walk.listed.Goals as goal
use Rattle.am_board.proofs.walk.listed.Goals.{in-Some+in_ok-copy+in_ok-copy_cause+in_ok-push, in_default}

pub loop-found-preserved : goal.loop-found-preserved
loop-found-preserved c =
    let ms = c.args.members.now in
    let i = c.loop-found.found-index in
    let one = c.found-item.result in
    let before : List MutedAlert = filter_map (alert_there ms) (take i c.args.muted.now) in
    let more = listed-more ms c.args.muted.now i one (omega arith) c.found-item.is in
    elim c.match-member_at.branch [
      | in-Some+in_ok-copy+in_ok-copy_cause+in_ok-push w ↦
          ap (λ (v : Vec MutedAlert Global). v.items) w.all-is
          ∙ w.in_ok-push.ensures.items
          ∙ ap (λ (l : List MutedAlert). l ++ record { labels = w.in_ok-copy.field-0; cause = w.in_ok-copy_cause.field-0 } ∷ []) c.loop-found.invariant
          ∙ (λ j. before ++ record { labels = (w.in_ok-copy.ensures ∙ w.labels.ensures.labels) j; cause = w.in_ok-copy_cause.ensures j } ∷ [])
          ∙ ap (λ (o : Option Member). before ++ cons_option (option_map (λ m. record { labels = m.alert.labels; cause = one.cause }) o) []) (sym (sym c.member_at.ensures ∙ ap option_copied w.in-Some.is))
          ∙ sym more
      | in_default w ↦
          ap (λ (v : Vec MutedAlert Global). v.items) w.all-is
          ∙ c.loop-found.invariant
          ∙ sym (append-nil before)
          ∙ ap (λ (o : Option Member). before ++ cons_option (option_map (λ m. record { labels = m.alert.labels; cause = one.cause }) o) []) (sym (sym c.member_at.ensures ∙ ap option_copied w.in_default.is))
          ∙ sym more
    ]

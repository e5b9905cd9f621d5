use Rattle.std.proofs.Common.{◌<◌, ◌++◌, ◌∷◌, [], Some, None, Vec, Global, Bor, length, map, take, slice_get, sym, ap, ◌∙◌, arith}
use Rattle.std.specs.List.{filter_map}
use Rattle.std.specs.Option.{option_copied}
use Rattle.std.proofs.lemmas.List.{append-nil, map-append}
use Rattle.am_board.specs.declared.group.Member.{Member}
use Rattle.am_board.proofs.lemmas.invariant.Order.{there_more}
use Rattle.am_board.proofs.order.members_at.Goals as goal
use Rattle.am_board.proofs.order.members_at.Goals.{in-Some+in_ok-push, in_default}

pub loop-index-preserved : goal.loop-index-preserved
loop-index-preserved c =
    let i = c.loop-index.index-index in
    let ms = c.args.members.now in
    let ps = c.args.indexes.now in
    let within : i < length ps = omega arith in
    elim c.match-member_at.branch [
      | in-Some+in_ok-push w ↦
          ap (λ (v : Vec (Bor Member) Global). map (λ m. m.now) v.items) w.found-is
          ∙ ap (map (λ m. m.now)) w.in_ok-push.ensures.items
          ∙ map-append (λ m. m.now) c.loop-index.found.items (w.in-Some.member ∷ [])
          ∙ ap (λ l. l ++ w.in-Some.member.now ∷ []) c.loop-index.invariant
          ∙ sym (there_more ms ps i (Some w.in-Some.member.now) within (sym c.member_at.ensures ∙ ap option_copied w.in-Some.is))
      | in_default w ↦
          ap (λ (v : Vec (Bor Member) Global). map (λ m. m.now) v.items) w.found-is
          ∙ c.loop-index.invariant
          ∙ sym (there_more ms ps i None within (sym c.member_at.ensures ∙ ap option_copied w.in_default.is) ∙ append-nil (filter_map (slice_get ms) (take i ps)))
    ]

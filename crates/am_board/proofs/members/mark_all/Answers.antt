use Rattle.std.proofs.Common.{◌≡◌, ◌∙◌, ◌++◌, ◌∷◌, [], ◌+◌, List, map, take, sym, ap, subst, arith}
use Rattle.std.specs.Prelude.{All}
use Rattle.std.specs.Map.{values_of}
use Rattle.std.proofs.lemmas.List.{take_more}
use Rattle.am_board.specs.Refinement.{member_state}
use Rattle.am_board.specs.declared.flush.LeavingAlert.{LeavingAlert}
use Rattle.am_board.specs.declared.group.Member.{Member}
use Rattle.am_board.proofs.lemmas.finish.LeavingAlerts.{IsMarkedBy, are_marked, states-marked}
use Rattle.am_board.proofs.members.mark_all.Goals as goal

pub loop-found-preserved : goal.loop-found-preserved
loop-found-preserved c =
    let f : LeavingAlert = c.found-item.result in
    let i = c.loop-found.found-index in
    let before : List Member = values_of c.loop-found.members.entries in
    let seen : List LeavingAlert = take i c.args.leaving.now in
    let more : take (i + 1) c.args.leaving.now ≡ seen ++ f ∷ [] = take_more c.args.leaving.now i f (omega arith) ∙ ap (λ x. seen ++ x ∷ []) (sym c.found-item.is) in
    record {
      keyed = c.mark.ensures.keyed;
      states = ap (map member_state) c.mark.ensures.marked ∙ (states-marked f before ∙ c.loop-found.invariant.states);
      marks =
          subst (λ ls. All (IsMarkedBy ls) (values_of c.mark.new.members.entries)) (sym more)
          (subst (All (IsMarkedBy (seen ++ f ∷ []))) (sym c.mark.ensures.marked) (are_marked f seen before c.loop-found.invariant.marks));
    }

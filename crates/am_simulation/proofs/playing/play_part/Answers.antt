use Rattle.std.proofs.Common.{◌≡◌, ◌∙◌, ◌++◌, List, Option, ap, subst, sym}
use Rattle.std.specs.Option.{option_copied}
use Rattle.am_board.specs.History.{BoardData}
use Rattle.am_model.specs.declared.views.RowView.{RowView}
use Rattle.am_simulation.specs.DispatcherChange.{loads}
use Rattle.am_simulation.specs.Parts.{PartData}
use Rattle.am_simulation.specs.Play.{PlaysTo}
use Rattle.am_simulation.specs.Playing.{IsCauseOfPartFault, PlaysPart, loaded_plans, setting_of_part, taken_over}
use Rattle.am_simulation.specs.CauseOfFault.{IsCauseOfFault}
use Rattle.am_simulation.specs.declared.play.PlayFault.{PlayFault}
use Rattle.am_simulation.specs.declared.playing.PlayedPart.{PlayedPart}
use Rattle.am_simulation.proofs.Hindering.{handed_on}
use Rattle.am_simulation.proofs.playing.play_part.Goals as goal
use Rattle.am_terms.specs.declared.rehearsal.TimedAction.{TimedAction}

pub returns-in_err-played-clause-refused : goal.returns-in_err-played-clause-refused
returns-in_err-played-clause-refused g c =
    let x = c.part.inside in
    let before : Option BoardData = option_copied c.args.before in
    let p : PartData = record { config = x.config; span = x.span; until = x.until; plans = x.plans.items; carryover = x.carryover } in
    let of_log : c.in_ok-plans.plans.items ≡ loads x.span.since (taken_over x.carryover x.config before) = c.in_ok-plans.ensures ∙ ap (λ (rows : List RowView). loads x.span.since rows) c.in_ok-log.ensures.found in
    let loaded : c.append.new.self.items ≡ loaded_plans before p = c.in_ok-append.ensures.items ∙ ap (λ (ps : List TimedAction). ps ++ x.plans.items) of_log in
    let why : IsCauseOfPartFault c.args.conditions.now.upkeep c.args.conditions.now.outages.now before p c.in_err-played.field-0.0 =
    subst (λ (ps : List TimedAction). IsCauseOfFault (setting_of_part c.args.conditions.now.upkeep c.args.conditions.now.outages.now p) x.config ps c.in_err-played.field-0.0) loaded c.in_err-played.ensures.refused in
    handed_on c.from_residual-in_err-played.result _ _
    (λ (fault : PlayFault) is. subst (λ (r : PartData). IsCauseOfPartFault c.args.conditions.now.upkeep c.args.conditions.now.outages.now before r fault) c.part.view_is
    (subst (IsCauseOfPartFault c.args.conditions.now.upkeep c.args.conditions.now.outages.now before p) (sym is) why)) c.from_residual-in_err-played.ensures.1

pub returns-clause-played : goal.returns-clause-played
returns-clause-played g c =
    let x = c.part.inside in
    let before : Option BoardData = option_copied c.args.before in
    let p : PartData = record { config = x.config; span = x.span; until = x.until; plans = x.plans.items; carryover = x.carryover } in
    let q : PlayedPart = record { played = c.in_ok-played.played; rows = c.in_ok-log.log.rows; taken = c.in_ok-log.log.taken } in
    let of_log : c.in_ok-plans.plans.items ≡ loads x.span.since (taken_over x.carryover x.config before) = c.in_ok-plans.ensures ∙ ap (λ (rows : List RowView). loads x.span.since rows) c.in_ok-log.ensures.found in
    let loaded : c.append.new.self.items ≡ loaded_plans before p = c.in_ok-append.ensures.items ∙ ap (λ (ps : List TimedAction). ps ++ x.plans.items) of_log in
    let plays : PlaysPart c.args.conditions.now.upkeep c.args.conditions.now.outages.now before p q =
    record {
      plays = subst (λ (ps : List TimedAction). PlaysTo (setting_of_part c.args.conditions.now.upkeep c.args.conditions.now.outages.now p) x.config ps q.played.value.board q.played.value.events.items) loaded c.in_ok-played.ensures.played;
      ours = q.played.value.ours;
      previews = q.played.value.previews;
      begun = q.played.value.begun;
      rows = c.in_ok-log.ensures.rows;
      taken = c.in_ok-log.ensures.taken;
    }
    in
    subst (λ (r : PartData). PlaysPart c.args.conditions.now.upkeep c.args.conditions.now.outages.now before r q) c.part.view_is plays

use Rattle.std.proofs.Common.{None, List, IfErr, IfOk, subst}
use Rattle.am_simulation.specs.Parts.{PartData, parts_from, whole_part}
use Rattle.am_simulation.specs.Playing.{ArePlayed, IsCauseOfPartsFault}
use Rattle.am_render.proofs.Refusals.{unplayed}
use Rattle.am_render.proofs.run.play_or_refuse.Goals as goal
use Rattle.am_terms.specs.declared.rehearsal.Outage.{Outage}

pub returns-in-Ok-clause-plays : goal.returns-in-Ok-clause-plays
returns-in-Ok-clause-plays g c =
    let upkeep = c.args.rehearsal.upkeep in
    let played = c.in-Ok.played.items in
    let fact : ArePlayed upkeep c.as_slice.result.now None c.in_ok-parts.parts.items played =
    subst (λ ended. IfOk ended (λ parts. ArePlayed upkeep c.as_slice.result.now None c.in_ok-parts.parts.items parts.items)) c.in-Ok.is c.play_parts-ended.ensures.played in
    let parts = parts_from (whole_part c.args.rehearsal.config c.args.rehearsal.until c.args.rehearsal.plans.items) c.args.dispatcher_changes.items in
    subst (λ (outages : List Outage). ArePlayed upkeep outages None parts played) c.as_slice.ensures.value
    (subst (λ (parts : List PartData). ArePlayed upkeep c.as_slice.result.now None parts played) c.in_ok-parts.ensures fact)

pub returns-clause-refused : goal.returns-clause-refused
returns-clause-refused g c =
    let rehearsal = c.args.rehearsal in
    let fault = c.in-Err.fault in
    let all = parts_from (whole_part rehearsal.config rehearsal.until rehearsal.plans.items) c.args.dispatcher_changes.items in
    let fact : IsCauseOfPartsFault rehearsal.upkeep c.as_slice.result.now c.in_ok-parts.parts.items fault =
    subst (λ ended. IfErr ended (IsCauseOfPartsFault rehearsal.upkeep c.as_slice.result.now c.in_ok-parts.parts.items)) c.in-Err.is c.play_parts-ended.ensures.refused in
    unplayed rehearsal c.args.dispatcher_changes.items fault.part fault.fault c.refused.result c.refused.ensures.memory c.refused.ensures.limit
    (subst (λ (outages : List Outage). IsCauseOfPartsFault rehearsal.upkeep outages all fault) c.as_slice.ensures.value
    (subst (λ (parts : List PartData). IsCauseOfPartsFault rehearsal.upkeep c.as_slice.result.now parts fault) c.in_ok-parts.ensures fact))

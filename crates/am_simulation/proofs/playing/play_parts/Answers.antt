use Rattle.std.proofs.Common.{◌∙◌, ◌∷◌, ◌++◌, [], List, None, ap, length, subst, sym}
use Rattle.std.proofs.lemmas.Iterator.Adapters.{YieldsList-from_vec}
use Rattle.std.proofs.lemmas.Iterator.Consumers.{YieldsList-so_far, YieldsList-turn}
use Rattle.std.proofs.lemmas.List.{map-id}
use Rattle.am_simulation.specs.Playing.{ArePlayed}
use Rattle.am_simulation.specs.declared.playing.PartFault.{PartFault}
use Rattle.am_simulation.specs.declared.playing.PlayedPart.{PlayedPart}
use Rattle.am_simulation.proofs.Parting.{played_more, stopped_at}
use Rattle.am_simulation.proofs.playing.play_parts.Goals as goal

pub loop-part-preserved : goal.loop-part-preserved
loop-part-preserved g c =
    let was = c.loop-part in
    let added = c.in-Ok.ensures.added in
    subst (λ (qs : List PlayedPart). ArePlayed c.args.upkeep c.args.outages.now None (was.yielded ++ c.in-Some.part ∷ []) qs) (sym added.1)
    (played_more c.args.upkeep c.args.outages.now None was.yielded was.played.items c.in-Some.part added.0 was.invariant added.2)

pub returns-in-Err-clause-refused : goal.returns-in-Err-clause-refused
returns-in-Err-clause-refused g c =
    let was = c.loop-part in
    let parts = c.args.parts.items in
    let returned : PartFault = record { part = c.len.result; fault = c.in-Err.fault } in
    let gives = c.into_iter-part-iterator.ensures.into_iter_gives in
    let from = YieldsList-from_vec {s = c.into_iter-part-iterator.result} parts gives.0 (gives.1 ∙ c.args.parts.ok.0) in
    let so_far = YieldsList-so_far from was.yielded was.part-iterator was.yielded_by in
    let turn = YieldsList-turn from was.yielded was.part-iterator was.yielded_by c.next.result c.next.new.self c.in-Some.part c.in-Some.is c.next.ensures.steps in
    stopped_at c.args.upkeep c.args.outages.now parts was.yielded was.played.items c.in-Some.part returned (sym (map-id was.yielded) ∙ so_far) turn
    (c.len.ensures ∙ c.play_next.new.played.ok.0 ∙ ap length c.in-Err.ensures.kept) was.invariant c.in-Err.ensures.refused

use Rattle.std.proofs.Common.{List, ℕ, subst}
use Rattle.am_protocol.proofs.Splitting.{to_end}
use Rattle.am_dispatch.proofs.Sending.{Front, front_more, front_stops}
use Rattle.am_dispatch.proofs.serve.write_all.Goals as goal

pub loop-rest-preserved : goal.loop-rest-preserved
loop-rest-preserved g c =
    subst (λ (t : List ℕ). Front c.args.bytes.now t (g.P.Peer.trail c.args.peer.now) (g.P.Peer.trail c.write.new.self)) (to_end c.in-Ok.count c.loop-rest.rest.now)
    (front_more c.write.result c.in-Ok.count _ _ _ _ _ c.loop-rest.invariant c.write.ensures.happens c.in-Ok.is c.if-count-eq0.false)

pub returns-in_default-clause-part : goal.returns-in_default-clause-part
returns-in_default-clause-part g c =
    front_stops c.write.result _ _ _ _ _ c.loop-rest.invariant c.write.ensures.happens (λ count same. absurd (let fails = c.in_default.is in cc))

pub returns-then-count-eq0-clause-part : goal.returns-then-count-eq0-clause-part
returns-then-count-eq0-clause-part g c =
    front_stops c.write.result _ _ _ _ _ c.loop-rest.invariant c.write.ensures.happens (λ count same. let is = c.in-Ok.is in let none = c.if-count-eq0.true in cc)

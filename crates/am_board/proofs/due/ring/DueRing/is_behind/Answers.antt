use Rattle.std.proofs.Common.{◌-◌, List, [], ◌∷◌, ◌++◌, sym, subst, ◌∙◌, arith}
use Rattle.am_board.specs.DueOrder.{AreRising}
use Rattle.am_board.specs.declared.due.DueKey.{DueKey}
use Rattle.am_board.proofs.lemmas.invariant.DueRings.{lt_less, rise_alone, rise_behind}
use Rattle.am_board.proofs.due.ring.DueRing.is_behind.Goals as goal

pub returns-in-Some : goal.returns-in-Some
returns-in-Some c lt =
    let keys = c.self.inside.keys.items in
    let within = c.in-Some.ensures.item.3.0 in
    let count = c.self.inside.keys.ok.0 in
    subst (λ (ks : List DueKey). AreRising (ks ++ c.args.key.now ∷ [])) c.self.view_is
    (rise_behind keys (c.self.inside.keys.len - 1) c.in-Some.last.now c.args.key.now c.self.invariant (omega (arith, within, count)) c.in-Some.ensures.lookup
    (sym c.cmp.ensures ∙ lt_less c.cmp.result (sym c.is_lt.ensures ∙ lt)))

pub returns-in-None : goal.returns-in-None
returns-in-None c always =
    let none = c.in-None.ensures.item.3 in
    subst (λ (ks : List DueKey). AreRising (ks ++ c.args.key.now ∷ [])) c.self.view_is (rise_alone c.self.inside.keys.items c.args.key.now (omega (arith, none)))

use Rattle.std.proofs.Common.{◌≡◌, ◌∙◌, List, ℕ, ap, nat_eq, subst, sym}
use Rattle.std.specs.Cmp.Lexicographic.{pointwise}
use Rattle.std.specs.Global.{Global}
use Rattle.std.specs.HashMap.{get}
use Rattle.std.specs.Prelude.{Vec, is_ok}
use Rattle.am_alerts.specs.declared.spans.Span.{Span}
use Rattle.am_config.proofs.Listed.{given_more, key_given, key_lists}
use Rattle.am_config.proofs.Timed.{on_ok}
use Rattle.am_config.specs.Times.{MutedAt, TimesData}
use Rattle.am_config.proofs.times.Times.muted_by.Goals as goal

pub returns-in-Some-clause-muted : goal.returns-in-Some-clause-muted
returns-in-Some-clause-muted c =
    let mute = c.args.mute.now in
    let active = c.args.active.now in
    let times : TimesData = c.self.inside.defined in
    let key = c.in_ok-key.key in
    let spans : List Span = c.in-Some.muted.now in
    let given = c.self.invariant key spans (sym c.in-Some.ensures.value) in
    subst (λ (s : List Span). MutedAt c.args.self.now mute active s) (sym c.in_ok-share.ensures)
    (subst (λ (t : TimesData). MutedAt t mute active spans) c.self.view_is (key_lists times mute active key.items spans c.in_ok-key.ensures given))

pub invariant_of-self-2 : goal.invariant_of-self-2
invariant_of-self-2 c =
    let times : TimesData = c.self.inside.defined in
    let key = c.in_ok-key.key in
    let eq = λ (x y : Vec ℕ Global). pointwise nat_eq x.items y.items in
    given_more times key c.in_ok-muted.muted (get eq c.self.inside.given) (get eq c.insert.new.self)
    (key_given times c.args.mute.now c.args.active.now key.items c.in_ok-muted.muted c.in_ok-key.ensures c.in_ok-muted.ensures) c.self.invariant
    (on_ok c.insert.result (sym c.map_err.ensures.variant ∙ ap is_ok c.in_ok-map_err.was) c.insert.ensures.updates).0

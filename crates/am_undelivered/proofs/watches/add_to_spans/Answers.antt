use Rattle.std.proofs.Common.{◌∙◌, List, Option, Some, ap, refl, sym, subst, if◌then◌else◌}
use Rattle.std.specs.HashMap.{get}
use Rattle.std.specs.Option.{IsSome}
use Rattle.am_alerts.specs.Labels.{same_label_set}
use Rattle.am_alerts.specs.declared.labels.Label.{Label}
use Rattle.am_undelivered.proofs.Tables.{put, unput}
use Rattle.am_undelivered.specs.Spans.{SpansData, inserted}
use Rattle.am_undelivered.proofs.watches.add_to_spans.Goals as goal

pub returns-in_ok-insert-in-Some : goal.returns-in_ok-insert-in-Some
returns-in_ok-insert-in-Some c =
    λ l.
    let spans = c.args.spans.now in
    let a = c.args.alert.now in
    let change = inserted c.args.part c.args.config.now c.args.now a in
    let new = c.insert.new.self in
    let there : IsSome (get same_label_set spans c.labels.result.now) =
    subst (λ (o : Option SpansData). IsSome o) c.in-Some.ensures.value refl in
    put (λ k. get same_label_set spans k) change a.labels l (get same_label_set (c.get_mut.follows.lender new) l) (Some new)
    (c.in_ok-insert-in-Some.ensures
    ∙ ap change (c.in-Some.ensures.value ∙ ap (λ (k : List Label). get same_label_set spans k) c.labels.ensures.labels))
    (((c.get_mut.follows.holds new).3 there).0 l
    ∙ ap (λ (k : List Label). if same_label_set k l then Some new else get same_label_set spans l) c.labels.ensures.labels)

pub returns-in_ok-insert-in-None : goal.returns-in_ok-insert-in-None
returns-in_ok-insert-in-None c =
    λ l.
    let spans = c.args.spans.now in
    let a = c.args.alert.now in
    let change = inserted c.args.part c.args.config.now c.args.now a in
    let first = c.in-Some-2.first in
    let none = c.in-None.ensures.value ∙ ap (λ (k : List Label). get same_label_set spans k) c.labels.ensures.labels in
    put (λ k. get same_label_set spans k) change a.labels l (get same_label_set c.insert-in-Some-2.new.self l) (Some first)
    (sym c.in-Some-2.is ∙ c.in_ok-first-in-None.ensures ∙ ap change none)
    (c.in_ok-insert-in-None.ensures.updates.0 l
    ∙ ap (λ (k : List Label). if same_label_set k l then Some first else get same_label_set c.get_mut.follows.lender-at-none l)
    (c.in_ok-copy-in-None.ensures ∙ c.labels-in-Some-2.ensures.labels)
    ∙ ap (λ m. if same_label_set a.labels l then Some first else get same_label_set m l) c.get_mut.follows.holds-at-none)

pub returns-in_default : goal.returns-in_default
returns-in_default c =
    λ l.
    let spans = c.args.spans.now in
    let a = c.args.alert.now in
    let change = inserted c.args.part c.args.config.now c.args.now a in
    let none = sym (c.in-None.ensures.value ∙ ap (λ (k : List Label). get same_label_set spans k) c.labels.ensures.labels) in
    unput (λ k. get same_label_set spans k) change a.labels l (get same_label_set c.get_mut.follows.lender-at-none l) none
    (sym c.in_ok-first-in-None.ensures ∙ c.in_default.is)
    (ap (λ m. get same_label_set m l) c.get_mut.follows.holds-at-none)

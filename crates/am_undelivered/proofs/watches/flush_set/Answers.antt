use Rattle.std.proofs.Common.{Option, ap, refl, sym, subst}
use Rattle.std.specs.HashMap.{get}
use Rattle.std.specs.Option.{IsSome}
use Rattle.am_alerts.specs.Labels.{same_label_set}
use Rattle.am_undelivered.proofs.Tables.{unwritten, written}
use Rattle.am_undelivered.specs.Spans.{SpansData, flushed}
use Rattle.am_undelivered.proofs.watches.flush_set.Goals as goal

pub returns-in-Some : goal.returns-in-Some
returns-in-Some c =
    λ l.
    let spans = c.args.spans.now in
    let labels = c.args.labels.now in
    let new = c.flush.new.self in
    let there : IsSome (get same_label_set spans labels) = subst (λ (o : Option SpansData). IsSome o) c.in-Some.ensures.value refl in
    written (λ k. get same_label_set spans k) (λ k s. flushed c.args.flush.now k s) labels l new c.in-Some.there.now
    (get same_label_set (c.get_mut.follows.lender new) l) (sym c.in-Some.ensures.value) c.flush.ensures
    (((c.get_mut.follows.holds new).3 there).0 l)

pub returns-in_default : goal.returns-in_default
returns-in_default c =
    λ l.
    let spans = c.args.spans.now in
    unwritten (λ k. get same_label_set spans k) (λ k s. flushed c.args.flush.now k s) c.args.labels.now l
    (get same_label_set c.get_mut.follows.lender-at-none l) (sym c.in_default.ensures.value)
    (ap (λ m. get same_label_set m l) c.get_mut.follows.holds-at-none)

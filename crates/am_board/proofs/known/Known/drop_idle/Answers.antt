use Rattle.std.proofs.Common.{◌≡◌, ◌+◌, List, length, filter, count_by, not, refl, sym, ap, ◌∙◌, subst, rules, arith}
use Rattle.std.specs.Map.{values_of}
use Rattle.std.proofs.lemmas.List.Filters.{length-filter_both}
use Rattle.std.proofs.lemmas.List.Sums.{length-filter}
use Rattle.std.proofs.lemmas.Map.Made.{filter_same_pairs}
use Rattle.am_alerts.specs.AlertData.{AlertData}
use Rattle.am_alerts.specs.Labels.{same_label_set}
use Rattle.am_model.specs.Lists.{without}
use Rattle.am_board.specs.Forgetting.{is_idle_but_for}
use Rattle.am_board.specs.Keyed.{AreKeyed}
use Rattle.am_board.specs.Known.{KnownAlerts, labels_of}
use Rattle.am_board.proofs.lemmas.invariant.Keyed.{AreKeyed-filter, length-values, values-filter}
use Rattle.am_board.proofs.known.Known.drop_idle.Goals as goal
use Rattle.am_board.proofs.known.Known.drop_idle.Goals.{After-retain}

stay : (c : After-retain) → c.retain.new.self.entries ≡ filter (λ e. not (is_idle_but_for c.args.sets.now.keys c.args.t e.1)) c.self.inside.alerts.entries
stay c = filter_same_pairs _ _ _ (λ k v b w f h. search rules) _ _ c.retain.ensures.filtered

left : (c : After-retain) → values_of c.retain.new.self.entries ≡ without (is_idle_but_for c.args.sets.now.keys c.args.t) (values_of c.self.inside.alerts.entries)
left c = ap values_of (stay c) ∙ values-filter (λ (a : AlertData). not (is_idle_but_for c.args.sets.now.keys c.args.t a)) c.self.inside.alerts.entries

pub invariant_of-self : goal.invariant_of-self
invariant_of-self c =
    subst (AreKeyed labels_of) (sym (stay ((goal.at.invariant_of-self c).After-retain)))
    (AreKeyed-filter same_label_set labels_of (λ e. not (is_idle_but_for c.args.sets.now.keys c.args.t e.1)) c.self.inside.alerts.entries c.self.invariant)

pub returns-clause-items : goal.returns-clause-items
returns-clause-items c =
    left ((goal.at.returns-clause-items c).After-retain)
    ∙ ap (λ (k : KnownAlerts). without (is_idle_but_for c.args.sets.now.keys c.args.t) k.items) c.self.view_is

pub returns-clause-count : goal.returns-clause-count
returns-clause-count c =
    let idle = is_idle_but_for c.args.sets.now.keys c.args.t in
    let es = c.self.inside.alerts.entries in
    let all : List AlertData = values_of es in
    let fewer = ap length (left ((goal.at.returns-clause-count c).After-retain)) in
    let parts : length (filter idle all) + length (without idle all) ≡ length all = length-filter_both idle (λ a. not (idle a)) (λ a. refl) all in
    let gone = length-filter idle all in
    let fact = ap (λ (k : KnownAlerts). count_by idle k.items) c.self.view_is in
    omega (arith, fewer, parts, gone, fact, length-values es, length-values c.retain.new.self.entries, c.len.ensures.len, c.len-before.ensures.len)

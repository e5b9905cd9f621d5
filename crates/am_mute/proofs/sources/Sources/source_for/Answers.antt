use Rattle.std.proofs.Common.{◌≡◌, ◌-◌, Some, cond, drop, find, take, length, sym, ap, ◌∙◌, subst}
use Rattle.std.proofs.lemmas.List.{take_rest}
use Rattle.std.proofs.lemmas.Result.{IfOk-weaker}
use Rattle.am_alerts.specs.Matcher.{match_all}
use Rattle.am_mute.specs.Inhibit.{is_inhibited_by}
use Rattle.am_mute.specs.SourceIndex.{SourceIndex}
use Rattle.am_mute.specs.Sources.{HaveSources}
use Rattle.am_mute.specs.Target.{IsTargetOf, TargetData}
use Rattle.am_mute.proofs.Buckets.{have_sources}
use Rattle.am_mute.proofs.FoundSources.{behind_first, of_first, source_is, source_is-some}
use Rattle.am_mute.proofs.sources.Sources.source_for.Goals as goal
use Rattle.am_mute.proofs.sources.Sources.source_for.Goals.{After-first_source, In-Some}

-- the target is the rule's
its : (c : In-Some) → IsTargetOf c.args.rule.now c.args.labels.now c.args.t (Some c.in-Some.target)
its c = subst (IsTargetOf c.args.rule.now c.args.labels.now c.args.t) c.in-Some.is c.in_ok-target.ensures.value

pub first_among-requires : goal.first_among-requires
first_among-requires c =
    let at = (goal.at.first_among-requires c).In-Some in
    let x = c.in-Some.target in
    let ruled = ap (λ (y : TargetData). y.rule) (its at).1 in
    let targeted = ap (λ (y : TargetData). match_all c.args.rule.now.target y.labels) (its at).1 ∙ (its at).0 in
    subst (HaveSources c.self.inside.seed c.args.number x (take c.self.inside.learnt c.args.known.now)) (sym c.keys_for-keys.ensures)
    (subst (λ (s : SourceIndex). HaveSources s.seed c.args.number x (take s.learnt c.args.known.now)
    (cond (match_all x.rule.source x.labels) c.args.self.now.one_sided c.args.self.now.all)) (sym c.self.view_is)
    (have_sources c.args.number c.args.rule.now c.args.known.now c.args.self.now c.requires x ruled targeted))

-- the first source of those that weren't learnt is the first of all, where none was found
rest : (c : After-first_source)
    → find (is_inhibited_by c.first_among.new.target.rule c.first_among.new.target.t c.first_among.new.target.labels)
    (take (length c.args.known.now - c.self.inside.learnt) (drop c.self.inside.learnt c.args.known.now))
    ≡ find (is_inhibited_by c.in-Some.target.rule c.in-Some.target.t c.in-Some.target.labels) c.args.known.now
rest c =
    let known = c.args.known.now in
    let test = is_inhibited_by c.in-Some.target.rule c.in-Some.target.t c.in-Some.target.labels in
    ap (λ (x : TargetData). find (is_inhibited_by x.rule x.t x.labels)
    (take (length known - c.self.inside.learnt) (drop c.self.inside.learnt known))) c.first_among.ensures.kept
    ∙ (ap (find test) (take_rest known c.self.inside.learnt)
    ∙ behind_first test c.self.inside.learnt known c.in_ok-found.found c.in_ok-found.ensures.value
    (sym c.is_some.ensures ∙ c.if-is_some.false))

pub returns-then-is_some-clause-value : goal.returns-then-is_some-clause-value
returns-then-is_some-clause-value c =
    let at = (goal.at.returns-then-is_some-clause-value c).In-Some in
    source_is c.args.rule.now c.args.labels.now c.args.t c.args.known.now c.in-Some.target (its at) c.in_ok-found.found
    (of_first (is_inhibited_by c.in-Some.target.rule c.in-Some.target.t c.in-Some.target.labels) c.self.inside.learnt c.args.known.now
    c.in_ok-found.found c.in_ok-found.ensures.value (sym c.is_some.ensures ∙ c.if-is_some.true))

pub returns-then-is_some-clause-some : goal.returns-then-is_some-clause-some
returns-then-is_some-clause-some c =
    let at = (goal.at.returns-then-is_some-clause-some c).In-Some in
    source_is-some c.args.rule.now c.args.labels.now c.args.t c.args.known.now c.in-Some.target (its at) c.in_ok-found.found
    (of_first (is_inhibited_by c.in-Some.target.rule c.in-Some.target.t c.in-Some.target.labels) c.self.inside.learnt c.args.known.now
    c.in_ok-found.found c.in_ok-found.ensures.value (sym c.is_some.ensures ∙ c.if-is_some.true))

pub returns-clause-value : goal.returns-clause-value
returns-clause-value c =
    let at = goal.at.returns-clause-value c in
    IfOk-weaker c.first_source.result _ _
    (λ found e. source_is c.args.rule.now c.args.labels.now c.args.t c.args.known.now c.in-Some.target (its at.In-Some) found
    (e ∙ rest at.After-first_source)) c.first_source.ensures.value

pub returns-clause-some : goal.returns-clause-some
returns-clause-some c =
    let at = goal.at.returns-clause-some c in
    IfOk-weaker c.first_source.result _ _
    (λ found e. source_is-some c.args.rule.now c.args.labels.now c.args.t c.args.known.now c.in-Some.target (its at.In-Some) found
    (e ∙ rest at.After-first_source)) c.first_source.ensures.value

use Rattle.std.proofs.Common.{◌≡◌, ◌∙◌, ◌+◌, ◌≤◌, Bool, Option, None, if◌then◌else◌, sym, ap, subst, true, false, refl}
use Rattle.std.specs.Prelude.{All, vec_len}
use Rattle.std.specs.Option.{option_map}
use Rattle.std.specs.VecDeque.{deque_len}
use Rattle.am_alerts.specs.declared.limits.TheConstants.{MAX_TIME}
use Rattle.am_mute.specs.Sources.{AreLearnt}
use Rattle.am_model.specs.Begin.{taken}
use Rattle.am_model.specs.Causes.{opens_by}
use Rattle.am_model.specs.State.{GroupState, time}
use Rattle.am_model.specs.declared.preview.Preview.{Preview}
use Rattle.am_model.specs.look_back.Preview.{preview_on, reason_of}
use Rattle.am_board.specs.Beginning.{BeginsShown, IsTaking}
use Rattle.am_board.specs.LogRows.{log_rows}
use Rattle.am_board.specs.Refinement.{state_of}
use Rattle.am_board.specs.Step.{StateInvariant}
use Rattle.am_board.specs.declared.begin.BeginCall.{BeginCall}
use Rattle.am_board.specs.declared.state.State.{State}
use Rattle.am_board.proofs.lemmas.begin.Causes.{cause-closed, returned, shown_with}
use Rattle.am_board.proofs.begin.take.Goals as goal

pub prepare-requires-clause-index : goal.prepare-requires-clause-index
prepare-requires-clause-index c = c.in-Some.ensures.1.chosen.index

pub prepare-requires-clause-apart : goal.prepare-requires-clause-apart
prepare-requires-clause-apart c = c.requires.good.consistent.members

pub take_prepared-requires-clause-good : goal.take_prepared-requires-clause-good
take_prepared-requires-clause-good c = subst (StateInvariant c.args.config.now) (sym c.prepare.ensures) c.requires.good

pub take_prepared-requires-clause-sources : goal.take_prepared-requires-clause-sources
take_prepared-requires-clause-sources c = subst (λ (x : State). AreLearnt c.args.config.now.rules x.known.items c.args.sources.now) (sym c.prepare.ensures) c.requires.sources

pub take_prepared-requires-clause-times : goal.take_prepared-requires-clause-times
take_prepared-requires-clause-times c = subst (λ (x : State). All (λ row. row.time ≤ MAX_TIME) (log_rows x.log)) (sym c.prepare.ensures) c.requires.times

pub take_prepared-requires-clause-space : goal.take_prepared-requires-clause-space
take_prepared-requires-clause-space c =
    subst (λ (x : State). vec_len x.history + deque_len x.flushes + 2 ≤ c.args.config.now.limits.history) (sym c.prepare.ensures) (c.has_space.ensures.0 c.if-not-has_space.false)

pub take_prepared-requires-clause-taking : goal.take_prepared-requires-clause-taking
take_prepared-requires-clause-taking c = subst (λ (x : State). IsTaking c.args.config.now x c.in-Some.chosen) (sym c.prepare.ensures) c.in-Some.ensures.1

pub returns : goal.returns
returns c =
    let config = c.args.config.now in
    let new = c.take_prepared.new.state in
    let result = c.take_prepared.result in
    subst (λ (call : BeginCall). BeginsShown config call c.args.why c.args.state.now new result) c.in-Some.ensures.0
    (subst (λ (x : State). BeginsShown config c.in-Some.chosen.call c.args.why x new result) c.prepare.ensures c.take_prepared.ensures)

-- nothing is shown, whether it is wanted or not
either : (why : Bool) (shown : Option Preview) → shown ≡ (if why then shown else shown)
either true shown = refl
either false shown = refl

pub returns-in_default : goal.returns-in_default
returns-in_default c =
    let config = c.args.config.now in
    let s = c.args.state.now in
    let st = state_of s in
    let call = c.args.call in
    let t = c.time-t.result in
    let new = c.begin_nothing.new.state in
    let none : taken st t ≡ None = subst (λ n. taken st n ≡ None) (sym c.time-t.ensures) c.in_default.ensures in
    let cause = cause-closed config s call.now t c.time-t.ensures (c.has_space.ensures.0 c.if-not-has_space.false) (ap (λ o. opens_by config st t o) none) in
    let begins = returned config call s new c.begin_nothing.result cause (c.begin_nothing.ensures config c.requires.good c.time-t.ensures none) in
    let on : GroupState → Preview = preview_on config st (time st call.now) (reason_of config st (time st call.now)) in
    let shown = either c.args.why None ∙ ap (λ (o : Option Preview). if c.args.why then o else None) (sym (ap (option_map on) c.in_default.ensures)) in
    subst (BeginsShown config call c.args.why s new) (sym c.with_preview.ensures)
    (shown_with config call c.args.why s new c.begin_nothing.result None begins shown)

use Rattle.std.proofs.Common.{◌∙◌, ◌<◌, ◌==◌, ◌&&◌, ℕ, Bool, Option, Some, ap, sym, arith, length, if◌then◌else◌}
use Rattle.std.specs.HashMap.{get}
use Rattle.std.specs.HashSet.{contains}
use Rattle.am_model.specs.Notice.{NoticeData}
use Rattle.am_model.specs.State.{same_name}
use Rattle.am_timeline.specs.declared.logbook.log.LastEntry.{LastEntry}
use Rattle.am_timeline.specs.declared.logbook.log.LastEntry.TheVariants.{Logged}
use Rattle.am_timeline.specs.Log.{same_log_key, same_note_key}
use Rattle.am_timeline.proofs.Logged.{logged-none, logged-success}
use Rattle.am_timeline.proofs.logbook.log.log_notices.Goals as goal
use Rattle.am_timeline.proofs.logbook.log.log_notices.Goals.{then-is_new_success+in_ok-add_entry, else-is_new_success}

pub loop-notice-preserved : goal.loop-notice-preserved
loop-notice-preserved c =
    λ name i.
    let noted : ℕ → Bool = λ k. contains same_note_key c.args.finish.now.noted.now (record { number = c.args.finish.now.number; integration = k }) in
    let outcomes = c.args.finish.now.outcomes.now in
    let notices = c.args.notices.now in
    let j = c.loop-notice.notice-index in
    let n = c.notice-item.result in
    let named = same_name name c.args.group.now in
    let old = get same_log_key c.args.logged.now (record { group = name; integration = i }) in
    let so_far : Option LastEntry = get same_log_key c.loop-notice.logged (record { group = name; integration = i }) in
    let entry : Option LastEntry = Some (Logged c.args.finish.now.time) in
    let inside : j < length notices = omega (arith, c.loop-notice-test.true) in
    elim c.if-is_new_success.branch [
      | then-is_new_success+in_ok-add_entry w ↦
          ap (λ t. get same_log_key t (record { group = name; integration = i })) w.logged-is
          ∙ w.in_ok-add_entry.ensures name i
          ∙ ap (λ (m : NoticeData). if named && (m.integration == i) then entry else so_far) c.notice.view_is
          ∙ ap (λ (o : Option LastEntry). if named && (n.integration == i) then entry else o) (c.loop-notice.invariant name i)
          ∙ logged-success noted outcomes i notices j n named entry old inside c.notice-item.is
          (sym c.is_new_success.ensures ∙ w.if-is_new_success.true)
      | else-is_new_success w ↦
          ap (λ t. get same_log_key t (record { group = name; integration = i })) w.logged-is
          ∙ c.loop-notice.invariant name i
          ∙ ap (λ (b : Bool). if named && b then entry else old)
          (logged-none noted outcomes i notices j n inside c.notice-item.is
          (sym c.is_new_success.ensures ∙ w.if-is_new_success.false))
    ]

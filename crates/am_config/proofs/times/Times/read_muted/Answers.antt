use Rattle.std.proofs.Common.{◌≡◌, ◌∙◌, ℕ, List, ap, codes, sym, subst}
use Rattle.serde_json.specs.View.{members_view}
use Rattle.am_config.proofs.Listed.{lists_spans}
use Rattle.am_config.specs.Said.{said}
use Rattle.am_config.specs.Times.{ListsSpans, MutedAt, TimesData, spans_at}
use Rattle.am_config.proofs.times.Times.read_muted.Goals as goal

pub returns-clause-muted : goal.returns-clause-muted
returns-clause-muted c = λ none.
    let times : TimesData = c.args.self.now in
    let members = members_view c.args.route.now.members in
    let mute : List ℕ = c.in_ok-mute.mute.items in
    let active : List ℕ = c.in_ok-active.active.items in
    let one : c.read_names.new.self ≡ times = c.in_ok-mute.ensures.times in
    let two : c.read_names-2.new.self ≡ times = c.in_ok-active.ensures.times ∙ one in
    let muted = c.in_ok-muted.ensures.muted none in
    let acts = c.in_ok-active.ensures.names muted.0 in
    let mutes = c.in_ok-mute.ensures.names acts.0 in
    let when = subst (λ (t : TimesData). MutedAt t c.deref.result.now c.deref-2.result.now c.in_ok-muted.muted) two muted.1 in (
      mutes.0,
      record {
        mute = spans_at times.named mute;
        active = spans_at times.named active;
        mutes = lists_spans times.named (said (codes "mute_time_intervals") members) mute mutes.1;
        acts =
            subst (λ (t : TimesData). ListsSpans t.named (codes "active_time_intervals") members (spans_at t.named active)) one
            (lists_spans c.read_names.new.self.named (said (codes "active_time_intervals") members) active acts.1);
        muted_when =
            subst (λ (is : List ℕ). MutedAt times is active c.in_ok-muted.muted) c.deref.ensures.value
            (subst (λ (is : List ℕ). MutedAt times c.deref.result.now is c.in_ok-muted.muted) c.deref-2.ensures.value when);
      },
    )

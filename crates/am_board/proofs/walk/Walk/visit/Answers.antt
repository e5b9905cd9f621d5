use Rattle.std.proofs.Common.{◌≡◌, ◌++◌, [], Bool, List, Option, None, sym, ap, ◌∙◌, subst, true}
use Rattle.std.specs.Prelude.{OnOk, is_some}
use Rattle.std.specs.List.{cons_option}
use Rattle.std.proofs.lemmas.List.{append-nil}
use Rattle.am_alerts.specs.AlertData.{AlertData}
use Rattle.am_alerts.specs.declared.labels.Label.{Label}
use Rattle.am_mute.specs.Mute.{is_muted, mute_cause_of}
use Rattle.am_mute.specs.declared.mute.MuteCause.{MuteCause}
use Rattle.am_board.specs.Beginning.{copies_at}
use Rattle.am_board.specs.Look.{state_seen}
use Rattle.am_board.specs.Walk.{cause_seen, firing_if, listed_if, muted_if, resolved_if}
use Rattle.am_board.proofs.lemmas.begin.Walks.{cause-none, firing-muted, resolved-muted}
use Rattle.am_board.proofs.lemmas.unsilenced.Muting.{is_some-cause}
use Rattle.am_board.proofs.walk.Walk.visit.Goals as goal

pub returns-then-look : goal.returns-then-look
returns-then-look c =
    let look = c.args.look.now in
    let t = look.t in
    let m = c.args.member.now in
    let s = state_seen look in
    let old = c.args.self.now in
    let found : c.in_ok-cause.cause ≡ cause_seen look m =
    c.in_ok-cause.ensures ∙ ap (λ (ls : List Label). mute_cause_of ls t s.silences look.config.now.rules s.known) c.labels-labels.ensures.labels in
    record {
      firing = subst (λ (o : Option MuteCause). OnOk c.add.result (copies_at t c.add.new.self.firing.items ≡ copies_at t old.firing.items ++ firing_if t m.alert o)) found c.add.ensures.firing;
      resolved = subst (λ (o : Option MuteCause). OnOk c.add.result (copies_at t c.add.new.self.resolved.items ≡ copies_at t old.resolved.items ++ resolved_if t m.alert o)) found c.add.ensures.resolved;
      muted =
          subst (λ (b : Bool). OnOk c.add.result (c.add.new.self.muted.items ≡ old.muted.items ++ listed_if b c.args.index (cause_seen look m))) (sym c.if-look.true)
          (subst (λ (o : Option MuteCause). OnOk c.add.result (c.add.new.self.muted.items ≡ old.muted.items ++ cons_option (muted_if c.args.index o) [])) found c.add.ensures.muted);
    }

pub returns-then-branch : goal.returns-then-branch
returns-then-branch c =
    let look = c.args.look.now in
    let t = look.t in
    let m = c.args.member.now in
    let a = m.alert in
    let s = state_seen look in
    let rules = look.config.now.rules in
    let old = c.args.self.now in
    let muted : is_some (cause_seen look m) ≡ true =
    is_some-cause a.labels t s.silences rules s.known
    ∙ sym (ap (λ (ls : List Label). is_muted ls t s.silences rules s.known) c.labels-labels.ensures.labels)
    ∙ sym c.in_ok-is_muted.ensures ∙ c.if-branch.true in
    record {
      firing = sym (ap (λ (l : List AlertData). copies_at t old.firing.items ++ l) (firing-muted t a (cause_seen look m) muted) ∙ append-nil (copies_at t old.firing.items));
      resolved = sym (ap (λ (l : List AlertData). copies_at t old.resolved.items ++ l) (resolved-muted t a (cause_seen look m) muted) ∙ append-nil (copies_at t old.resolved.items));
      muted = sym (ap (λ (b : Bool). old.muted.items ++ listed_if b c.args.index (cause_seen look m)) c.if-look.false ∙ append-nil old.muted.items);
    }

pub returns : goal.returns
returns c =
    let look = c.args.look.now in
    let t = look.t in
    let m = c.args.member.now in
    let a = m.alert in
    let s = state_seen look in
    let rules = look.config.now.rules in
    let old = c.args.self.now in
    let none : None ≡ cause_seen look m =
    cause-none (cause_seen look m)
    (is_some-cause a.labels t s.silences rules s.known
    ∙ sym (ap (λ (ls : List Label). is_muted ls t s.silences rules s.known) c.labels-labels.ensures.labels)
    ∙ sym c.in_ok-is_muted.ensures ∙ c.if-branch.false) in
    record {
      firing = subst (λ (o : Option MuteCause). OnOk c.add-2.result (copies_at t c.add-2.new.self.firing.items ≡ copies_at t old.firing.items ++ firing_if t a o)) none c.add-2.ensures.firing;
      resolved = subst (λ (o : Option MuteCause). OnOk c.add-2.result (copies_at t c.add-2.new.self.resolved.items ≡ copies_at t old.resolved.items ++ resolved_if t a o)) none c.add-2.ensures.resolved;
      muted =
          subst (λ (b : Bool). OnOk c.add-2.result (c.add-2.new.self.muted.items ≡ old.muted.items ++ listed_if b c.args.index (cause_seen look m))) (sym c.if-look.false)
          c.add-2.ensures.muted;
    }

use Rattle.std.proofs.Common.{◌∙◌, ◌<◌, List, ap, arith, length, sym, true}
use Rattle.std.specs.HashMap.{get}
use Rattle.std.specs.Option.{option_copied, option_map_or}
use Rattle.std.proofs.lemmas.List.{at_drop_all}
use Rattle.am_alerts.specs.Labels.{same_label_set}
use Rattle.am_model.specs.declared.record.Record.{Record}
use Rattle.am_terms.specs.declared.event.PreviewedBegin.{PreviewedBegin}
use Rattle.am_undelivered.proofs.Parts.{sets_call, sets_flush, spans_call, spans_flush}
use Rattle.am_undelivered.specs.declared.watches.Watches.{Watches}
use Rattle.am_undelivered.specs.Spans.{MembersData, after_facts, begin_at, facts_from, is_known}
use Rattle.am_undelivered.proofs.watches.Watches.add_part.Goals as goal
use Rattle.am_undelivered.proofs.watches.Watches.add_part.Goals.{in-None+in_ok-add_call-in-None, in-Some+in_ok-flush-in-Some}

pub loop-index-preserved : goal.loop-index-preserved
loop-index-preserved c =
    let part = c.args.part in
    let p = c.args.playback.now in
    let all = c.history-history.result.now in
    let begin = c.loop-index.begin in
    let next = c.match-begin_at.begin in
    let i = c.loop-index.index in
    let r = c.index-history-index.result in
    let here = c.index-history-index.is in
    let m = c.loop-index.members in
    let old = c.loop-index.self in
    let new = c.match-begin_at.self in
    let inv = c.loop-index.invariant in
    let within : i < length all = omega arith in
    let found = ap (λ (bs : List PreviewedBegin). begin_at bs i begin) (sym c.begins.ensures) ∙ sym c.begin_at.ensures in
    elim c.match-begin_at.branch [
      | in-None+in_ok-add_call-in-None w ↦
          let call = w.in_ok-add_call-in-None.ensures in
          let none = found ∙ ap option_copied w.in-None.is in
          record {
            spans = λ labels.
                spans_call part p begin next i all r labels m (get same_label_set old.spans labels) (get same_label_set new.spans labels) _
                within here none w.begin-is inv.part inv.config
                (ap (λ (s : Watches). get same_label_set s.spans labels) w.self-is ∙ call.spans labels) (inv.spans labels);
            sets = sets_call part p begin next i all r m old.sets new.sets _ within here none w.begin-is inv.part inv.config
                (ap (λ (s : Watches). s.sets) w.self-is ∙ call.sets) inv.sets;
            part = ap (λ (n : MembersData). n.part) w.members-is ∙ call.part ∙ inv.part;
            config = ap (λ (n : MembersData). n.config) w.members-is ∙ call.config ∙ inv.config;
            known = λ labels.
                ap (λ (n : MembersData). option_map_or (is_known n labels) (get same_label_set new.spans labels) true) w.members-is
                ∙ ap (λ (s : Watches). option_map_or (is_known w.add_call.new.members labels) (get same_label_set s.spans labels) true) w.self-is
                ∙ call.known inv.known labels;
          }
      | in-Some+in_ok-flush-in-Some w ↦
          let flush = w.add_flush.ensures in
          let b = w.in-Some.previewed.now in
          let some = found ∙ ap option_copied w.in-Some.is in
          record {
            spans = λ labels.
                spans_flush part p begin next i b all r labels w.in_ok-flush-in-Some.flush (get same_label_set old.spans labels)
                (get same_label_set new.spans labels) _ within here some w.begin-is w.in_ok-flush-in-Some.ensures
                (ap (λ (s : Watches). get same_label_set s.spans labels) w.self-is ∙ flush.spans labels) (inv.spans labels);
            sets = sets_flush part p begin next i b all r old.sets new.sets _ within here some w.begin-is
                (ap (λ (s : Watches). s.sets) w.self-is ∙ flush.sets) inv.sets;
            part = ap (λ (n : MembersData). n.part) w.members-is ∙ inv.part;
            config = ap (λ (n : MembersData). n.config) w.members-is ∙ inv.config;
            known = λ labels.
                ap (λ (n : MembersData). option_map_or (is_known n labels) (get same_label_set new.spans labels) true) w.members-is
                ∙ ap (λ (s : Watches). option_map_or (is_known m labels) (get same_label_set s.spans labels) true) w.self-is
                ∙ flush.known labels;
          }
    ]

pub returns-clause-spans : goal.returns-clause-spans
returns-clause-spans c =
    λ labels.
    let part = c.args.part in
    let p = c.args.playback.now in
    let begin = c.loop-index.begin in
    let i = c.loop-index.index in
    let spans = get same_label_set c.loop-index.self.spans labels in
    sym (at_drop_all (λ (rs : List Record). after_facts labels (facts_from part p begin i rs) spans) c.history-history.result.now i (omega arith))
    ∙ c.loop-index.invariant.spans labels

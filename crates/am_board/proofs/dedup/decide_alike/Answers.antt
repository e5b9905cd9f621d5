use Rattle.std.proofs.Common.{◌≡◌, List, ◌++◌, ◌∷◌, [], map, take, ap, ◌∙◌, sym, arith, if◌then◌else◌}
use Rattle.std.specs.List.{enumerate_from}
use Rattle.std.proofs.lemmas.List.{take_all}
use Rattle.am_model.specs.Configured.{integrations_of}
use Rattle.am_model.specs.declared.config.Integration.{Integration}
use Rattle.am_model.specs.declared.reason.Reason.{Reason}
use Rattle.am_board.proofs.lemmas.begin.Previews.{reasons-more}
use Rattle.am_board.proofs.lemmas.begin.Reasons.{nobody-for}
use Rattle.am_board.proofs.dedup.decide_alike.Goals as goal

pub returns-then-not-look : goal.returns-then-not-look
returns-then-not-look c =
    let all = integrations_of c.args.look.now.config.now c.args.group.now in
    record {
      reasons = c.nobody.ensures.reasons ∙ sym (ap (λ b. if b then map (λ i. c.args.reason) all else []) c.if-not-look.true);
      notified = c.nobody.ensures.notified ∙ nobody-for c.args.reason all c.requires;
    }

pub loop-preserved : goal.loop-preserved
loop-preserved c =
    c.in_ok-push.ensures.items
    ∙ ap (λ (l : List Reason). l ++ c.args.reason ∷ []) c.loop.invariant
    ∙ sym (reasons-more (λ i. c.args.reason) c.integrations_of-integrations.result.now c.loop.index c.loop-item.result (omega arith) c.loop-item.is)

pub returns : goal.returns
returns c =
    let given = c.integrations_of-integrations.result.now in
    let all = integrations_of c.args.look.now.config.now c.args.group.now in
    let whole : take c.loop.index given ≡ given = take_all _ _ (omega arith) in
    record {
      reasons = c.loop.invariant
          ∙ ap (λ (l : List Integration). map (λ i. c.args.reason) (enumerate_from 0 l)) (whole ∙ c.integrations_of-integrations.ensures)
          ∙ sym (ap (λ b. if b then map (λ i. c.args.reason) all else []) c.if-not-look.false);
      notified = c.new.ensures.items ∙ nobody-for c.args.reason all c.requires;
    }

use Rattle.std.proofs.Common.{ap, ◌∙◌, ◌++◌, ◌∷◌, [], List}
use Rattle.am_model.specs.declared.notice.Report.{Report}
use Rattle.am_terms.specs.declared.event.Event.{Event}
use Rattle.am_terms.specs.declared.event.Event.TheVariants.{Sent}
use Rattle.am_simulation.proofs.Happening.{begun_same}
use Rattle.am_simulation.proofs.previewing.PreviewingBoard.keep_sent.Goals as goal

pub invariant_of-self-2 : goal.invariant_of-self-2
invariant_of-self-2 c =
    let was = c.args.self.now in
    let more =
    c.push_reserved.ensures.items
    ∙ ap (λ (l : List Event). l ++ Sent c.args.begin c.in_ok-boxed.boxed ∷ []) c.reserve.ensures.items
    ∙ ap (λ (r : Report). was.events.items ++ Sent c.args.begin r ∷ []) c.in_ok-boxed.ensures in
    record {
      ours = was.ours;
      whole = was.whole;
      previews = was.previews;
      begun = begun_same was.events.items c.push_reserved.new.self.items c.args.begin c.args.report more ∙ was.begun;
    }

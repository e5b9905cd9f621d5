use Rattle.std.proofs.Common.{ap, ◌∙◌, rules}
use Rattle.std.proofs.lemmas.Map.Made.{filter_same_pairs}
use Rattle.am_nflog.proofs.CallerLemmas.{rows_of-without_unused}
use Rattle.am_nflog.specs.Log.{rows_of, without_unused}
use Rattle.am_nflog.proofs.log.NfLog.forget.Goals as goal

pub returns-clause-forgotten : goal.returns-clause-forgotten
returns-clause-forgotten g c =
    filter_same_pairs _ _ _ (λ k v b w f h. search rules) _ _ c.retain.ensures.filtered ∙ ap (without_unused g.G.PartialEq.eq c.args.groups.now) c.self.view_is

pub returns-clause-rows : goal.returns-clause-rows
returns-clause-rows g c =
    ap rows_of (filter_same_pairs _ _ _ (λ k v b w f h. search rules) _ _ c.retain.ensures.filtered)
    ∙ rows_of-without_unused g.G.PartialEq.eq c.args.groups.now c.self.inside.slots.entries ∙ ap rows_of c.self.view_is

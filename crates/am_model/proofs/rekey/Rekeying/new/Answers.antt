use Rattle.std.proofs.Common.{◌∙◌, ap}
use Rattle.am_model.specs.RouteKeys.{positions_from}
use Rattle.am_model.proofs.rekey.Rekeying.new.Goals as goal

pub invariant_of-result : goal.invariant_of-result
invariant_of-result c = (
  c.in_ok-olds.ensures.keys,
  (λ key. c.in_ok-news-2.ensures key ∙ ap (positions_from 0 key) (c.as_slice.ensures.value ∙ c.in_ok-news.ensures.keys)),
  c.requires.faultless,
)

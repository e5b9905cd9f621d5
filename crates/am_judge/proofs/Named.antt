-- The name of the integration at a position.
use Rattle.std.proofs.Common.{◌≡◌, ◌++◌, ℕ, List, Option, Some, None, ap, codes, slice_get}
use Rattle.am_judge.specs.ExpectationReport.{kind_text, named_part, named_text, position_text}
use Rattle.am_model.specs.declared.config.Integration.{Integration}
use Rattle.am_timeline.specs.IntegrationName.{integration_name}

-- where none is there, the kind and the position
pub unnamed : (is : List Integration) (kind : Option (List ℕ)) (position : ℕ) → slice_get is position ≡ None
    → named_text is kind position ≡ kind_text kind ++ position_text (Some position)
unnamed is kind position e = ap (λ o. named_part o is kind position) e

-- where one is there, its name
pub named : (is : List Integration) (kind : Option (List ℕ)) (position : ℕ) (i : Integration) → slice_get is position ≡ Some i
    → named_text is kind position ≡ codes " " ++ integration_name is position
named is kind position i e = ap (λ o. named_part o is kind position) e

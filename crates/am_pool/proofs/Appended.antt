-- One more try of a notice.
use Rattle.std.proofs.Common.{◌≡◌, List, [], ◌∷◌, ◌++◌, sym, ap, ◌∙◌}
use Rattle.std.proofs.lemmas.List.{append_assoc, map-append}
use Rattle.am_model.specs.Notice.{NoticeData}
use Rattle.am_retry.specs.Attempts.{Try}
use Rattle.am_pool.specs.declared.courier.Tried.{Tried}
use Rattle.am_pool.specs.Tries.{tried_for, all_tried_for}

-- where a notice's tries were appended, and then one more, all of them were appended
pub appended_once_more : (n : NoticeData) (old mid since : List Tried) (tries more : List Try) (t : Try)
    → mid ≡ old ++ all_tried_for n tries → since ≡ mid ++ tried_for n t ∷ [] → more ≡ tries ++ t ∷ []
    → since ≡ old ++ all_tried_for n more
appended_once_more n old mid since tries more t before now one_more =
    now
    ∙ ap (λ (l : List Tried). l ++ tried_for n t ∷ []) before
    ∙ append_assoc old (all_tried_for n tries) (tried_for n t ∷ [])
    ∙ ap (λ (l : List Tried). old ++ l) (sym (map-append (tried_for n) tries (t ∷ [])))
    ∙ ap (λ (l : List Try). old ++ all_tried_for n l) (sym one_more)

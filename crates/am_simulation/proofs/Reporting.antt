-- What is reported of a history with one record more.
use Rattle.std.proofs.Common.{◌≡◌, List, [], ◌∷◌, ◌++◌, sym, ap, ◌∙◌}
use Rattle.std.proofs.lemmas.List.{append_assoc, append-nil}
use Rattle.am_model.specs.declared.config.Config.{Config}
use Rattle.am_model.specs.declared.record.Record.{Record}
use Rattle.am_simulation.specs.Previews.{previews_of, preview_of, previews_after}

-- with one record more, what is reported of it comes last
previews_after-more : (config : Config) (before rs : List Record) (r : Record) → previews_after config before (rs ++ r ∷ []) ≡ previews_after config before rs ++ preview_of config (before ++ rs) r
previews_after-more config before [] r = append-nil (preview_of config before r) ∙ ap (λ h. preview_of config h r) (sym (append-nil before))
previews_after-more config before (q ∷ rs) r =
    ap (λ later. preview_of config before q ++ later) (previews_after-more config (before ++ q ∷ []) rs r)
    ∙ sym (append_assoc (preview_of config before q) (previews_after config (before ++ q ∷ []) rs) (preview_of config (before ++ q ∷ [] ++ rs) r))
    ∙ ap (λ h. preview_of config before q ++ previews_after config (before ++ q ∷ []) rs ++ preview_of config h r) (append_assoc before (q ∷ []) rs)

pub previews-more : (config : Config) (history : List Record) (r : Record) → previews_of config (history ++ r ∷ []) ≡ previews_of config history ++ preview_of config history r
previews-more config history r = previews_after-more config [] history r

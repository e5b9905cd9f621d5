-- The groups of a label set that is added.
use Rattle.std.proofs.Common.{◌≡◌, ◌∙◌, ℕ, Bool, true, false, ◌&&◌, ◌||◌, List, [], ◌∷◌, ◌++◌, ap, refl, sym, map}
use Rattle.std.specs.List.{list_any}
use Rattle.am_alerts.specs.Labels.{same_label_set}
use Rattle.am_alerts.specs.LabelOrder.{same_label_set-decides}
use Rattle.am_alerts.specs.RoutingTree.{routes_of}
use Rattle.am_alerts.specs.declared.labels.Label.{Label}
use Rattle.am_model.specs.Insert.{name_in}
use Rattle.am_model.specs.State.{same_name}
use Rattle.am_model.specs.declared.config.Config.{Config}
use Rattle.am_model.specs.declared.group.GroupName.{GroupName}
use Rattle.am_model.specs.look_back.Presence.{goes_to}
use Rattle.am_undelivered.proofs.Facts.{among-added}
use Rattle.am_undelivered.specs.Sets.{is_among}

any_map : (p : GroupName → Bool) (f : ℕ → GroupName) (xs : List ℕ) → list_any (λ x. p (f x)) xs ≡ list_any p (map f xs)
any_map p f [] = refl
any_map p f (x ∷ xs) = ap (λ b. p (f x) || b) (any_map p f xs)

-- whether it goes to a group, by the names of its groups
goes : (config : Config) (name : GroupName) (labels : List Label)
    → list_any (λ p. same_name name (name_in config labels p)) (routes_of config.routes labels) ≡ goes_to config name labels
goes config name labels = any_map (same_name name) (name_in config labels) (routes_of config.routes labels)

or_and : (among same mine goes : Bool) → (same ≡ true → mine ≡ goes)
    → ((among && goes) || (same && mine)) ≡ ((among || same) && goes)
or_and true same mine true e = refl
or_and true true mine false e = e refl
or_and true false mine false e = refl
or_and false true mine goes e = e refl
or_and false false mine goes e = refl

-- what a group has, after a label set was added to its groups
pub member_more : (config : Config) (name : GroupName) (labels l : List Label) (sets after : List (List Label)) (ps : List ℕ) (before now : Bool)
    → before ≡ (is_among l sets && goes_to config name l) → after ≡ sets ++ labels ∷ [] → ps ≡ routes_of config.routes labels
    → now ≡ (before || (same_label_set labels l && list_any (λ p. same_name name (name_in config labels p)) ps))
    → now ≡ (is_among l after && goes_to config name l)
member_more config name labels l sets after ps before now was added led is =
    is
    ∙ ap (λ b. b || (same_label_set labels l && list_any (λ p. same_name name (name_in config labels p)) ps)) was
    ∙ ap (λ (qs : List ℕ). (is_among l sets && goes_to config name l) || (same_label_set labels l && list_any (λ p. same_name name (name_in config labels p)) qs)) led
    ∙ or_and (is_among l sets) (same_label_set labels l) (list_any (λ p. same_name name (name_in config labels p)) (routes_of config.routes labels))
    (goes_to config name l)
    (λ e. goes config name labels ∙ ap (λ (k : List Label). goes_to config name k) ((same_label_set-decides labels l).0 e))
    ∙ ap (λ b. b && goes_to config name l) (sym (among-added l labels sets))
    ∙ ap (λ (s : List (List Label)). is_among l s && goes_to config name l) (sym added)

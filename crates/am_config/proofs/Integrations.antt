-- The lists of a receiver's integrations.
use Rattle.std.proofs.Common.{◌≡◌, ◌+◌, ◌<◌, ◌≤◌, ◌++◌, ◌∷◌, ◌∙◌, ℕ, List, [], length, map, take, get_or, ap, refl, subst, sym, append_assoc}
use Rattle.std.proofs.lemmas.List.{append-nil, map-append, take_all, take_more}
use Rattle.serde_json.specs.Data.{Members}
use Rattle.am_model.specs.declared.config.Integration.{Integration}
use Rattle.am_config.specs.Receivers.{HasList, HasLists, KindData, kind_in, kinds}
use Rattle.am_settings.specs.declared.kinds.Kind.{Kind}
use Rattle.am_json.specs.declared.faults.Fault.{Fault}
use Rattle.am_config.specs.Collects.{Collects}

-- the list of one more kind
pub lists_more : (ks : List KindData) (k : KindData) (settings : Members) (is own : List Integration)
    → HasLists ks settings is → HasList k settings own → HasLists (ks ++ k ∷ []) settings (is ++ own)
lists_more [] k settings is own lists list = (own, [], ap (λ (js : List Integration). js ++ own) lists ∙ sym (append-nil own), list, refl)
lists_more (j ∷ js) k settings is own lists list =
    let first = lists.0 in
    let rest = lists.1 in (
      first,
      rest ++ own,
      ap (λ (xs : List Integration). xs ++ own) lists.2 ∙ append_assoc first rest own,
      lists.3,
      lists_more js k settings rest own lists.4 list,
    )

-- one more kind that was read
pub kinds_more : (all : List Kind) (i : ℕ) (d : Kind) (settings : Members) (xs own ys : List Integration) (initial before after : List Fault)
    → i < length all → Collects initial before (HasLists (map kind_in (take i all)) settings xs)
    → Collects before after (HasList (kind_in (get_or all i d)) settings own) → ys ≡ xs ++ own
    → Collects initial after (HasLists (map kind_in (take (i + 1) all)) settings ys)
kinds_more all i d settings xs own ys initial before after here so_far more added =
    λ none.
    let kind = get_or all i d in
    let list = more none in
    let lists = so_far list.0 in
    let kinds_are : map kind_in (take (i + 1) all) ≡ map kind_in (take i all) ++ kind_in kind ∷ [] =
    ap (map kind_in) (take_more all i d here) ∙ map-append kind_in (take i all) (kind ∷ []) in (
      lists.0,
      subst (λ (ks : List KindData). HasLists ks settings ys) (sym kinds_are)
          (subst (λ (is : List Integration). HasLists (map kind_in (take i all) ++ kind_in kind ∷ []) settings is) (sym added)
          (lists_more (map kind_in (take i all)) (kind_in kind) settings xs own lists.1 list.1)),
    )

-- A JSON value says one label set at most.
use Rattle.std.proofs.Common.{◌≡◌, ◌∙◌, true, false, cond, List, [], ◌∷◌, Ordering, IsPermutation, refl, sym, ap, subst}
use Rattle.std.specs.declared.cmp.Ordering.TheVariants.{Less, Equal, Greater}
use Rattle.std.specs.List.{AllByRecursion, IsDistinct, list_all}
use Rattle.std.specs.Ordering.{eq_by_cmp, is_eq, is_gt, is_lt}
use Rattle.std.proofs.lemmas.Bool.{and_parts}
use Rattle.std.proofs.lemmas.Cmp.{nat_list_cmp_total, on_total}
use Rattle.std.proofs.lemmas.List.Sorted.{IsPermutation-sym, IsPermutation-trans}
use Rattle.am_alerts.specs.Labels.{IsReadOf, has_rising_names, labels_in, text_cmp, with_values}
use Rattle.am_alerts.specs.declared.labels.Label.{Label}
use Rattle.am_json.proofs.Once.{IsOne, one_pairs}
use Rattle.am_json.specs.Configured.{DecodesToLabels}
use Rattle.am_json.specs.declared.reader.Mode.{Mode}
use Rattle.am_model.proofs.lists.InOrder.{in_order-permutation}
use Rattle.am_model.specs.Lists.{in_order, put_in_order}

-- the order of labels by their names
abbrev by_name : Label → Label → Ordering
by_name a b = text_cmp a.name b.name

not_above : (o : Ordering) → is_lt o ≡ true → is_gt o ≡ false
not_above Less lt = refl
not_above Equal lt = absurd (cc)
not_above Greater lt = absurd (cc)

not_tied : (o : Ordering) → is_lt o ≡ true → is_eq o ≡ false
not_tied Less lt = refl
not_tied Equal lt = absurd (cc)
not_tied Greater lt = absurd (cc)

front : (l : Label) (ls : List Label) → list_all (λ m. is_lt (text_cmp l.name m.name)) ls ≡ true → put_in_order by_name l ls ≡ l ∷ ls
front l [] all = refl
front l (m ∷ ms) all =
    let here = (and_parts (is_lt (text_cmp l.name m.name)) (list_all (λ (n : Label). is_lt (text_cmp l.name n.name)) ms) all).0 in
    ap (λ b. cond b (m ∷ put_in_order by_name l ms) (l ∷ m ∷ ms)) (not_above (text_cmp l.name m.name) here)

-- labels whose names rise are in order
rising_in_order : (ls : List Label) → has_rising_names ls ≡ true → in_order by_name ls ≡ ls
rising_in_order [] up = refl
rising_in_order (l ∷ ls) up =
    let parts = and_parts (list_all (λ (m : Label). is_lt (text_cmp l.name m.name)) ls) (has_rising_names ls) up in
    ap (put_in_order by_name l) (rising_in_order ls parts.1) ∙ front l ls parts.0

all_apart : (l : Label) (ls : List Label) → list_all (λ m. is_lt (text_cmp l.name m.name)) ls ≡ true → AllByRecursion (λ m. eq_by_cmp by_name l m ≡ false) ls
all_apart l [] all = tt
all_apart l (m ∷ ms) all =
    let parts = and_parts (is_lt (text_cmp l.name m.name)) (list_all (λ (n : Label). is_lt (text_cmp l.name n.name)) ms) all in
    (not_tied (text_cmp l.name m.name) parts.0, all_apart l ms parts.1)

-- and no two of them tie
rising_apart : (ls : List Label) → has_rising_names ls ≡ true → IsDistinct (eq_by_cmp by_name) ls
unfolding IsDistinct
rising_apart [] up = tt
rising_apart (l ∷ ls) up =
    let parts = and_parts (list_all (λ (m : Label). is_lt (text_cmp l.name m.name)) ls) (has_rising_names ls) up in
    (all_apart l ls parts.0, rising_apart ls parts.1)

-- pairs give one label set
one_set : (ps ls ms : List Label) → IsReadOf ps ls → IsReadOf ps ms → ls ≡ ms
one_set ps ls ms is also =
    let moved : IsPermutation ls ms = IsPermutation-trans ls (with_values ps) ms (IsPermutation-sym (with_values ps) ls is.pairs_moved) also.pairs_moved in
    sym (rising_in_order ls is.label_set.rising)
    ∙ in_order-permutation by_name (on_total (λ (l : Label). l.name) nat_list_cmp_total) ls ms moved (rising_apart ls is.label_set.rising)
    ∙ rising_in_order ms also.label_set.rising

pub one_labels : (mode : Mode) → IsOne (DecodesToLabels mode)
one_labels mode value l m is also =
    let same = one_pairs mode value is.pairs also.pairs is.written also.written in
    one_set (labels_in also.pairs) l m (subst (λ (ps : List Label). IsReadOf ps l) same is.read) also.read

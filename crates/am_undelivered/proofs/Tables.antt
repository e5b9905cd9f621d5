-- What the tables by group and by label set hold after one more write.
use Rattle.std.proofs.Common.{◌≡◌, ◌∙◌, Bool, true, false, ◌&&◌, ◌||◌, List, [], ◌∷◌, ◌++◌, Option, Some, None, Vec, ap, refl, sym, if◌then◌else◌}
use Rattle.std.specs.Global.{Global}
use Rattle.std.specs.Option.{option_map, option_map_or}
use Rattle.std.proofs.lemmas.Bool.{false≢true}
use Rattle.am_alerts.specs.Labels.{same_label_set}
use Rattle.am_alerts.specs.LabelOrder.{same_label_set-decides}
use Rattle.am_alerts.specs.declared.labels.Label.{Label}
use Rattle.am_model.specs.declared.group.GroupName.{GroupName}
use Rattle.am_model.specs.State.{same_name}
use Rattle.am_model.proofs.states.Alike.{same_name-is, same_name_equiv}
use Rattle.am_undelivered.proofs.Facts.{among_put}
use Rattle.am_undelivered.specs.Sets.{is_among}

abbrev items_of : Option (Vec (List Label) Global) → List (List Label)
items_of o = option_map_or (λ v. v.items) o []

-- what a table has for a name, after one more label set at a group
pub held_more : (f : GroupName → Option (Vec (List Label) Global)) (l added : List Label) (group name : GroupName) (items : List (List Label))
    → (after : Option (Vec (List Label) Global)) (new : Vec (List Label) Global)
    → option_map_or (λ v. v.items) (f group) [] ≡ items → new.items ≡ items ++ added ∷ []
    → after ≡ (if same_name group name then Some new else f name)
    → is_among l (option_map_or (λ v. v.items) after [])
    ≡ (is_among l (option_map_or (λ v. v.items) (f name) []) || (same_label_set added l && same_name name group))
held_more f l added group name items after new old grown is =
    ap (λ (o : Option (Vec (List Label) Global)). is_among l (items_of o)) is
    ∙ by (same_name group name) refl
    ∙ ap (λ b. is_among l (items_of (f name)) || (same_label_set added l && b)) (same_name_equiv.symm group name)
  where
    by : (here : Bool) → same_name group name ≡ here
        → is_among l (items_of (if here then Some new else f name)) ≡ (is_among l (items_of (f name)) || (same_label_set added l && here))
    by true e =
        ap (λ (i : List (List Label)). is_among l i) grown
        ∙ among_put l added items (items_of (f name)) true (λ _. ap (λ (n : GroupName). items_of (f n)) (sym (same_name-is group name e)) ∙ old)
    by false e = among_put l added items (items_of (f name)) false (λ t. absurd (false≢true t))

-- what a table has for a label set, after a write at one that has a value
pub written : {V : Type 0} (f : List Label → Option V) (change : List Label → V → V) (labels l : List Label) (new old : V) (after : Option V)
    → f labels ≡ Some old → new ≡ change labels old → after ≡ (if same_label_set labels l then Some new else f l)
    → after ≡ (if same_label_set labels l then option_map (change l) (f l) else f l)
written f change labels l new old after was is put = put ∙ by (same_label_set labels l) refl
  where
    by : (here : Bool) → same_label_set labels l ≡ here
        → (if here then Some new else f l) ≡ (if here then option_map (change l) (f l) else f l)
    by true e =
        ap (λ v. Some v) is ∙ ap (λ o. option_map (change labels) o) (sym was)
        ∙ ap (λ (k : List Label). option_map (change k) (f k)) ((same_label_set-decides labels l).0 e)
    by false e = refl

-- the same, where it has none
pub unwritten : {V : Type 0} (f : List Label → Option V) (change : List Label → V → V) (labels l : List Label) (after : Option V)
    → f labels ≡ None → after ≡ f l → after ≡ (if same_label_set labels l then option_map (change l) (f l) else f l)
unwritten f change labels l after was same = same ∙ by (same_label_set labels l) refl
  where
    by : (here : Bool) → same_label_set labels l ≡ here → f l ≡ (if here then option_map (change l) (f l) else f l)
    by true e =
        let none = ap f (sym ((same_label_set-decides labels l).0 e)) ∙ was in
        none ∙ sym (ap (λ o. option_map (change l) o) none)
    by false e = refl

-- what a table has for a label set, after a write of what comes of what it had
pub put : {V : Type 0} (f : List Label → Option V) (change : Option V → Option V) (labels l : List Label) (after new : Option V)
    → new ≡ change (f labels) → after ≡ (if same_label_set labels l then new else f l)
    → after ≡ (if same_label_set labels l then change (f l) else f l)
put f change labels l after new is at = at ∙ by (same_label_set labels l) refl
  where
    by : (here : Bool) → same_label_set labels l ≡ here → (if here then new else f l) ≡ (if here then change (f l) else f l)
    by true e = is ∙ ap (λ (k : List Label). change (f k)) ((same_label_set-decides labels l).0 e)
    by false e = refl

-- the same, where it has nothing, and nothing comes of that
pub unput : {V : Type 0} (f : List Label → Option V) (change : Option V → Option V) (labels l : List Label) (after : Option V)
    → f labels ≡ None → change None ≡ None → after ≡ f l → after ≡ (if same_label_set labels l then change (f l) else f l)
unput f change labels l after was still same = same ∙ by (same_label_set labels l) refl
  where
    by : (here : Bool) → same_label_set labels l ≡ here → f l ≡ (if here then change (f l) else f l)
    by true e =
        let none = ap f (sym ((same_label_set-decides labels l).0 e)) ∙ was in
        none ∙ sym (ap change none ∙ still)
    by false e = refl

-- Receivers of a name: the first of them, and whether there is another.
use Rattle.std.proofs.Common.{◌≡◌, ℕ, Bool, true, false, ◌&&◌, ◌||◌, cond, List, [], ◌∷◌, map, find, refl, sym, ap, ◌∙◌}
use Rattle.std.specs.Prelude.{Option, Some, None, is_some}
use Rattle.std.specs.List.{list_any}
use Rattle.std.specs.Str.{bytes_eq}
use Rattle.std.proofs.lemmas.Slice.Eq.{bytes_eq-Decides}
use Rattle.am_alerts.proofs.LabelSets.{both_false}
use Rattle.am_alerts.specs.Labels.{occurs_in}
use Rattle.am_model.proofs.configuration.Receivers.{occurs_in-receivers}
use Rattle.am_model.proofs.lists.Sets.{any-find}
use Rattle.am_model.specs.Receivers.{has_receiver, has_receiver_twice}
use Rattle.am_model.specs.declared.config.Receiver.{Receiver}

-- whether a receiver has this name and passes this test
abbrev pub some_named : List ℕ → (Receiver → Bool) → List Receiver → Bool
some_named name test receivers = list_any (λ r. bytes_eq r.name name && test r) receivers

-- the first receiver that has this name
abbrev pub first_of : List ℕ → List Receiver → Option Receiver
first_of name receivers = find (λ r. bytes_eq r.name name) receivers

-- none does, where none has the name
none_has : (name : List ℕ) (test : Receiver → Bool) (rs : List Receiver) → has_receiver rs name ≡ false → some_named name test rs ≡ false
none_has name test [] none = refl
none_has name test (r ∷ rs) none =
    elim (bytes_eq r.name name) as (λ b. (b || has_receiver rs name) ≡ false → ((b && test r) || some_named name test rs) ≡ false) [
      | true ↦ λ is. absurd (cc)
      | false ↦ λ is. none_has name test rs is
    ] none

-- .. and so is none found
pub none_named : (name : List ℕ) (test : Receiver → Bool) (rs : List Receiver) → first_of name rs ≡ None → some_named name test rs ≡ false
none_named name test rs none = none_has name test rs (any-find (λ r. bytes_eq r.name name) rs ∙ ap is_some none)

-- the first does, and so one does
pub first_named : (name : List ℕ) (test : Receiver → Bool) (rs : List Receiver) (r : Receiver) → first_of name rs ≡ Some r → test r ≡ true
    → some_named name test rs ≡ true
first_named name test [] r found passes = absurd (cc)
first_named name test (x ∷ rs) r found passes =
    elim (bytes_eq x.name name) as (λ b. cond b (Some x) (first_of name rs) ≡ Some r → ((b && test x) || some_named name test rs) ≡ true) [
      | true ↦ λ is.
          let one : x ≡ r = cc in
          ap (λ b. b || some_named name test rs) (ap test one ∙ passes)
      | false ↦ λ is. first_named name test rs r is passes
    ] found

-- the first doesn't, and so none does, where no name is twice
pub only_named : (name : List ℕ) (test : Receiver → Bool) (rs : List Receiver) (r : Receiver) → has_receiver_twice rs ≡ false → first_of name rs ≡ Some r
    → test r ≡ false → some_named name test rs ≡ false
only_named name test [] r once found fails = absurd (cc)
only_named name test (x ∷ rs) r once found fails =
    let parts = both_false (occurs_in x.name (map (λ (y : Receiver). y.name) rs)) (has_receiver_twice rs) once in
    elim (bytes_eq x.name name) as (λ b. bytes_eq x.name name ≡ b → cond b (Some x) (first_of name rs) ≡ Some r
    → ((b && test x) || some_named name test rs) ≡ false) [
      | true ↦ λ same is.
          let one : x ≡ r = cc in
          let none : has_receiver rs name ≡ false
          = ap (has_receiver rs) (sym ((bytes_eq-Decides x.name name).0 same)) ∙ sym (occurs_in-receivers x.name rs) ∙ parts.0 in
          ap (λ b. b || some_named name test rs) (ap test one ∙ fails) ∙ none_has name test rs none
      | false ↦ λ other is. only_named name test rs r parts.1 is fails
    ] refl found

-- Several inserts, one after the other.
use Rattle.std.proofs.Common.{◌≡◌, ◌∙◌, ◌<◌, ◌≤◌, ◌+◌, ◌++◌, ◌∷◌, [], ℕ, List, Result, add-one, ap, append_assoc, codes, drop, get_or, length, refl, subst, sym}
use Rattle.std.proofs.Math.Seq.{drop-cons}
use Rattle.std.proofs.lemmas.List.{append-nil, at_drop_all}
use Rattle.std.proofs.lemmas.Result.{on_ok_weaker}
use Rattle.std.specs.Result.{IsOk, OnOk}
use Rattle.json.specs.Token.{Token}
use Rattle.am_protocol.specs.declared.inserts.InsertEnd.{InsertEnd}
use Rattle.am_protocol.specs.declared.request.ListedInsert.{ListedInsert}
use Rattle.am_protocol.specs.Inserts.{insert_end_tokens}
use Rattle.am_protocol.specs.View.{listed}
use Rattle.am_session.specs.Session.{InsertsAll, InsertsEach, InsertsOne}
use Rattle.am_session.specs.declared.session.Session.{Session}
use Rattle.am_session.proofs.Making.{answered_ok}

-- what is made of the inserts that are left is made of all
abbrev pub GoesOn : Session → List ListedInsert → Session → ℕ → List InsertEnd → Type 0
GoesOn first items old count ends =
    (new : Session) (more : List InsertEnd) → InsertsEach old (drop count items) more new → InsertsEach first items (ends ++ more) new

-- before the first
pub none_made : (first : Session) (items : List ListedInsert) (ends : List InsertEnd) → ends ≡ [] → GoesOn first items first 0 ends
none_made first items ends none new more each = subst (λ (all : List InsertEnd). InsertsEach first items (all ++ more) new) (sym none) each

-- one more is made
pub one_made : (first old mid : Session) (items : List ListedInsert) (count next : ℕ) (x : ListedInsert) (end : InsertEnd) (ends longer : List InsertEnd)
    → count < length items → x ≡ get_or items count x → next ≡ count + 1 → longer ≡ ends ++ end ∷ []
    → GoesOn first items old count ends → InsertsOne old x end mid → GoesOn first items mid next longer
one_made first old mid items count next x end ends longer within at is_next is_longer so_far one new more each =
    let here : drop count items ≡ x ∷ drop (count + 1) items = drop-cons items count x within ∙ rw (sym at, add-one) refl in
    let rest : InsertsEach mid (drop (count + 1) items) more new = subst (λ (n : ℕ). InsertsEach mid (drop n items) more new) is_next each in
    let all : longer ++ more ≡ ends ++ (end ∷ more) = ap (λ (es : List InsertEnd). es ++ more) is_longer ∙ append_assoc ends (end ∷ []) more in
    subst (λ (es : List InsertEnd). InsertsEach first items es new) (sym all)
    (so_far new (end ∷ more) (subst (λ (xs : List ListedInsert). InsertsEach old xs (end ∷ more) new) (sym here) (mid, one, rest)))

-- all are made
pub all_made : (first old : Session) (items : List ListedInsert) (count : ℕ) (ends : List InsertEnd) → length items ≤ count
    → GoesOn first items old count ends → InsertsEach first items ends old
all_made first old items count ends over so_far =
    let none : drop count items ≡ [] = at_drop_all (λ (xs : List ListedInsert). xs) items count over in
    subst (λ (all : List InsertEnd). InsertsEach first items all old) (append-nil ends)
    (so_far old [] (subst (λ (xs : List ListedInsert). InsertsEach old xs [] old) (sym none) (refl, refl)))

-- the answer says what became of each
pub inserts : {T E S F : Type 0} (r : Result T E) (written : Result S F) (first old : Session) (items : List ListedInsert) (ends seen : List InsertEnd) (before after : List Token)
    → OnOk r (IsOk written) → InsertsEach first items ends old → seen ≡ ends
    → OnOk written (after ≡ before ++ listed (codes "inserts") insert_end_tokens seen) → OnOk r (InsertsAll first items old before after)
inserts r written first old items ends seen before after ok each same answered =
    on_ok_weaker {Q = InsertsAll first items old before after} r
    (λ (says : after ≡ before ++ listed (codes "inserts") insert_end_tokens seen).
    (seen, subst (λ (es : List InsertEnd). InsertsEach first items es old) (sym same) each, says))
    (answered_ok r written (after ≡ before ++ listed (codes "inserts") insert_end_tokens seen) ok answered)

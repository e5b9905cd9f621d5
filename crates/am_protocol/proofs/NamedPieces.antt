-- Pieces of an object that is the value of one member.
use Rattle.std.proofs.Common.{◌≡◌, ◌++◌, ◌∷◌, [], ℕ, List, Result, append_assoc}
use Rattle.std.specs.Result.{OnOk}
use Rattle.json.specs.Token.{Token, begin_object, end_object, key}
use Rattle.am_protocol.specs.Reply.{named}
use Rattle.am_protocol.proofs.Pieces.{last_piece}

-- an object with one member, whose members are two pieces
pub named_pieces : {T E : Type 0} (r : Result T E) (opened half filled new before : List Token) (name : List ℕ) (members further : List Token)
    → opened ≡ before ++ begin_object ∷ key name ∷ begin_object ∷ [] → half ≡ opened ++ members → filled ≡ half ++ further
    → OnOk r (new ≡ filled ++ end_object ∷ end_object ∷ []) → OnOk r (new ≡ before ++ named name (members ++ further))
named_pieces r opened half filled new before name members further is_opened is_half is_filled =
    last_piece r new filled (end_object ∷ end_object ∷ []) (before ++ named name (members ++ further))
    (rw (is_filled, is_half, is_opened) (simp append_assoc))

-- an object with one member, whose members are three pieces
pub named_three : {T E : Type 0} (r : Result T E) (opened one two filled new before : List Token) (name : List ℕ) (piece1 piece2 piece3 : List Token)
    → opened ≡ before ++ begin_object ∷ key name ∷ begin_object ∷ [] → one ≡ opened ++ piece1 → two ≡ one ++ piece2 → filled ≡ two ++ piece3
    → OnOk r (new ≡ filled ++ end_object ∷ end_object ∷ []) → OnOk r (new ≡ before ++ named name (piece1 ++ piece2 ++ piece3))
named_three r opened one two filled new before name piece1 piece2 piece3 is_opened is1 is2 is3 =
    last_piece r new filled (end_object ∷ end_object ∷ []) (before ++ named name (piece1 ++ piece2 ++ piece3))
    (rw (is3, is2, is1, is_opened) (simp append_assoc))

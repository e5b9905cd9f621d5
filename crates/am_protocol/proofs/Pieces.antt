-- Pieces of an answer, one behind the other.
use Rattle.std.proofs.Common.{◌≡◌, ◌∙◌, ◌++◌, ◌∷◌, [], ℕ, List, Result, append_assoc}
use Rattle.std.specs.Result.{OnOk}
use Rattle.std.proofs.lemmas.Result.{on_ok_weaker}
use Rattle.json.specs.Token.{Token, begin_object, end_object, key}
use Rattle.am_protocol.specs.Reply.{named}

-- the last piece, where the call that adds it gives the result
pub last_piece : {T E : Type 0} (r : Result T E) (new before piece all : List Token)
    → before ++ piece ≡ all → OnOk r (new ≡ before ++ piece) → OnOk r (new ≡ all)
last_piece r new before piece all is = on_ok_weaker r (λ (e : new ≡ before ++ piece). e ∙ is)

-- four pieces, of which the last call gives the result
pub four_pieces : {T E : Type 0} (r : Result T E) (new1 new2 new3 new before piece1 piece2 piece3 piece4 : List Token)
    → new1 ≡ before ++ piece1 → new2 ≡ new1 ++ piece2 → new3 ≡ new2 ++ piece3 → OnOk r (new ≡ new3 ++ piece4)
    → OnOk r (new ≡ before ++ (piece1 ++ piece2 ++ piece3 ++ piece4))
four_pieces r new1 new2 new3 new before piece1 piece2 piece3 piece4 is1 is2 is3 =
    last_piece r new new3 piece4 (before ++ (piece1 ++ piece2 ++ piece3 ++ piece4)) (rw (is3, is2, is1) (simp append_assoc))

-- an object with one member, whose members are one piece
pub named_piece : {T E : Type 0} (r : Result T E) (opened filled new before : List Token) (name : List ℕ) (members : List Token)
    → opened ≡ before ++ begin_object ∷ key name ∷ begin_object ∷ [] → filled ≡ opened ++ members
    → OnOk r (new ≡ filled ++ end_object ∷ end_object ∷ []) → OnOk r (new ≡ before ++ named name members)
named_piece r opened filled new before name members is_opened is_filled =
    last_piece r new filled (end_object ∷ end_object ∷ []) (before ++ named name members) (rw (is_filled, is_opened) (simp append_assoc))

-- an object with one member, whose members are four pieces
pub named_four : {T E : Type 0} (r : Result T E) (opened one two three filled new before : List Token) (name : List ℕ) (piece1 piece2 piece3 piece4 : List Token)
    → opened ≡ before ++ begin_object ∷ key name ∷ begin_object ∷ [] → one ≡ opened ++ piece1 → two ≡ one ++ piece2 → three ≡ two ++ piece3
    → filled ≡ three ++ piece4 → OnOk r (new ≡ filled ++ end_object ∷ end_object ∷ [])
    → OnOk r (new ≡ before ++ named name (piece1 ++ piece2 ++ piece3 ++ piece4))
named_four r opened one two three filled new before name piece1 piece2 piece3 piece4 is_opened is1 is2 is3 is4 =
    last_piece r new filled (end_object ∷ end_object ∷ []) (before ++ named name (piece1 ++ piece2 ++ piece3 ++ piece4))
    (rw (is4, is3, is2, is1, is_opened) (simp append_assoc))

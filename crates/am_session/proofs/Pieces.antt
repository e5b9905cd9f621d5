-- Pieces of an answer, one behind the other.
use Rattle.std.proofs.Common.{◌≡◌, ◌++◌, ◌∷◌, [], ℕ, List, Result, append_assoc, refl}
use Rattle.std.specs.Result.{OnOk}
use Rattle.json.specs.Token.{Token, begin_object, end_object}
use Rattle.am_model.specs.declared.config.Config.{Config}
use Rattle.am_model.specs.declared.group.GroupName.{GroupName}
use Rattle.am_model.specs.Notice.{NoticeData}
use Rattle.am_protocol.specs.Answer.{object}
use Rattle.am_protocol.specs.Reply.{flush_members}
use Rattle.am_protocol.proofs.Pieces.{last_piece}

-- an object whose members are two pieces
pub object_pieces : {T E : Type 0} (r : Result T E) (new1 new2 new3 new before members further : List Token)
    → new1 ≡ before ++ begin_object ∷ [] → new2 ≡ new1 ++ members → new3 ≡ new2 ++ further → OnOk r (new ≡ new3 ++ end_object ∷ [])
    → OnOk r (new ≡ before ++ object (members ++ further))
object_pieces r new1 new2 new3 new before members further is1 is2 is3 =
    last_piece r new new3 (end_object ∷ []) (before ++ object (members ++ further)) (rw (is3, is2, is1) (simp append_assoc))

-- what is answered about a flush, by what its ticket says
pub same_flush : (config : Config) (number ticket : ℕ) (group of : GroupName) (deadline until : ℕ) (notices all : List NoticeData)
    → number ≡ ticket → group ≡ of → deadline ≡ until → notices ≡ all
    → flush_members config number group deadline notices ≡ flush_members config ticket of until all
same_flush config number ticket group of deadline until notices all n g d ns = rw (n, g, d, ns) refl

-- The form of a line: one member, which has the name of a call.
use Rattle.std.proofs.Common.{◌≡◌, ◌∙◌, Bool, true, false, cond, ℕ, List, [], ◌∷◌, Option, Some, None, Result, Ok, Err, ap, find, if◌then◌else◌, is_some, refl, subst, sym}
use Rattle.std.specs.Prelude.{IfErr, IfOk, IfSome, IsSomeAnd, IsTrue}
use Rattle.std.specs.Result.{IsErrAnd}
use Rattle.std.specs.Str.{bytes_eq}
use Rattle.std.proofs.lemmas.Slice.Eq.{bytes_eq-Decides}
use Rattle.serde_json.specs.Data.{Data, Members, no_members, member}
use Rattle.serde_json.specs.Find.{as_object}
use Rattle.am_json.specs.Read.{Excludes, IsRefusedBy}
use Rattle.am_json.specs.declared.fault.FaultKind.{FaultKind}
use Rattle.am_json.specs.declared.fault.FaultKind.TheVariants.{Unknown, WrongType}
use Rattle.am_json.specs.declared.fault.InputFault.{InputFault}
use Rattle.am_json.specs.declared.reader.Mode.{Mode}
use Rattle.am_protocol.specs.declared.call.CallName.{CallName}
use Rattle.am_protocol.specs.declared.call.CallName.TheVariants as call
use Rattle.am_protocol.specs.declared.call.TheConstants.{CALLS}
use Rattle.am_protocol.specs.declared.request.Request.{Request}
use Rattle.am_protocol.specs.Call.{call_named, call_text, count_fault, form_fault, members_fault, object_fault}
use Rattle.am_protocol.specs.Request.{IsCallOf, IsRequestBy, IsRequestIn, IsSureRequestIn, is_never_refused}
use Rattle.am_protocol.proofs.Asked.{IsSure}

-- ---- names of calls

passes : (test : CallName → Bool) (cs : List CallName) (c : CallName) → find test cs ≡ Some c → test c ≡ true
passes test [] c is = absurd (cc)
passes test (d ∷ cs) c is = by (test d) refl (λ later. passes test cs c later) is
  where
    by : (b : Bool) → test d ≡ b → (find test cs ≡ Some c → test c ≡ true) → cond b (Some d) (find test cs) ≡ Some c → test c ≡ true
    by true passed further is = let same : d ≡ c = cc in ap test (sym same) ∙ passed
    by false passed further is = further is

-- what has a name is named so
pub text_of_named : (name : List ℕ) (c : CallName) → Some c ≡ call_named name → call_text c ≡ name
text_of_named name c is = (bytes_eq-Decides (call_text c) name).0 (passes (λ d. bytes_eq (call_text d) name) CALLS c (sym is))

pub named_itself : (c : CallName) → call_named (call_text c) ≡ Some c
named_itself call.Config = refl
named_itself call.Alertmanager = refl
named_itself call.Open = refl
named_itself call.Insert = refl
named_itself call.Inserts = refl
named_itself call.Silence = refl
named_itself call.Begin = refl
named_itself call.Report = refl
named_itself call.Note = refl
named_itself call.Finish = refl
named_itself call.Maintain = refl
named_itself call.RemoveEmptyGroups = refl
named_itself call.Forget = refl
named_itself call.Load = refl
named_itself call.NextDue = refl
named_itself call.Outlook = refl
named_itself call.Status = refl
named_itself call.Rows = refl
named_itself call.Groups = refl
named_itself call.Summary = refl
named_itself call.Tickets = refl
named_itself call.TakeHistory = refl
named_itself call.Check = refl

-- ---- what a line of another form is refused for

pub refused_as : {T : Type 0} (r : Result T InputFault) (f : InputFault) (kind : FaultKind) → IsErrAnd r (λ g. g ≡ f) → IsRefusedBy kind f → IsErrAnd r (IsRefusedBy kind)
refused_as (Ok x) f kind is by = absurd is
refused_as (Err g) f kind is by = subst (IsRefusedBy kind) (sym is) by

pub no_object_form : {T : Type 0} (r : Result T InputFault) (f : InputFault) (line : Data) → None ≡ as_object line → IsErrAnd r (λ g. g ≡ f) → IsRefusedBy WrongType f
    → IfSome (form_fault line) (λ kind. IsErrAnd r (IsRefusedBy kind))
no_object_form r f line none is by =
    subst (λ (o : Option Members). IfSome (object_fault o) (λ kind. IsErrAnd r (IsRefusedBy kind))) none (refused_as r f WrongType is by)

members_form : {T : Type 0} (r : Result T InputFault) (f : InputFault) (ms : Members) → IsErrAnd r (λ g. g ≡ f) → IsSomeAnd (count_fault ms) (λ kind. IsRefusedBy kind f)
    → IfSome (members_fault ms) (λ kind. IsErrAnd r (IsRefusedBy kind))
members_form r f no_members is by = refused_as r f _ is by
members_form r f (member name value no_members) is by = absurd by
members_form r f (member name value (member next more rest)) is by = refused_as r f _ is by

pub count_form : {T : Type 0} (r : Result T InputFault) (f : InputFault) (line : Data) (ms : Members) → Some ms ≡ as_object line → IsErrAnd r (λ g. g ≡ f)
    → IsSomeAnd (count_fault ms) (λ kind. IsRefusedBy kind f) → IfSome (form_fault line) (λ kind. IsErrAnd r (IsRefusedBy kind))
count_form r f line ms object is by =
    subst (λ (o : Option Members). IfSome (object_fault o) (λ kind. IsErrAnd r (IsRefusedBy kind))) object (members_form r f ms is by)

-- the line has one member of this name
pub one_object : (line : Data) (ms : Members) (name : List ℕ) (value : Data) → Some ms ≡ as_object line → ms ≡ member name value no_members
    → as_object line ≡ Some (member name value no_members)
one_object line ms name value object one = sym object ∙ ap Some one

pub unknown_form : {T : Type 0} (r : Result T InputFault) (line : Data) (name : List ℕ) (value : Data) → as_object line ≡ Some (member name value no_members)
    → None ≡ call_named name → IsErrAnd r (IsRefusedBy Unknown) → IfSome (form_fault line) (λ kind. IsErrAnd r (IsRefusedBy kind))
unknown_form r line name value object none by =
    subst (λ (o : Option Members). IfSome (object_fault o) (λ kind. IsErrAnd r (IsRefusedBy kind))) (sym object)
    (subst (λ (o : Option CallName). IfSome (if is_some o then None else Some Unknown) (λ kind. IsErrAnd r (IsRefusedBy kind))) none by)

pub known_form : {T : Type 0} (r : Result T InputFault) (line : Data) (name : List ℕ) (value : Data) (c : CallName) → as_object line ≡ Some (member name value no_members)
    → Some c ≡ call_named name → IfSome (form_fault line) (λ kind. IsErrAnd r (IsRefusedBy kind))
known_form r line name value c object some =
    subst (λ (o : Option Members). IfSome (object_fault o) (λ kind. IsErrAnd r (IsRefusedBy kind))) (sym object)
    (subst (λ (o : Option CallName). IfSome (if is_some o then None else Some Unknown) (λ kind. IsErrAnd r (IsRefusedBy kind))) some tt)

-- ---- what such a line asks

pub asks : (mode : Mode) (line : Data) (name : List ℕ) (value : Data) (c : CallName) (asked : Request) → as_object line ≡ Some (member name value no_members)
    → Some c ≡ call_named name → IsCallOf mode c value asked → IsRequestBy mode line c asked
asks mode line name value c asked object some is =
    record { value = value; object = object ∙ ap (λ (n : List ℕ). Some (member n value no_members)) (sym (text_of_named name c some)); arguments = is }

pub asks_nothing : (mode : Mode) (line : Data) (asked : Request) → None ≡ as_object line → IsSureRequestIn mode line asked → ⊥
asks_nothing mode line asked none is = absurd (cc is.1.object)

pub asks_one : (mode : Mode) (line : Data) (ms : Members) (f : InputFault) (asked : Request) → Some ms ≡ as_object line
    → IsSomeAnd (count_fault ms) (λ kind. IsRefusedBy kind f) → IsSureRequestIn mode line asked → ⊥
asks_one mode line ms f asked object by is =
    let one : ms ≡ member (call_text is.0) is.1.value no_members = cc (object, is.1.object) in
    subst (λ (m : Members). IsSomeAnd (count_fault m) (λ kind. IsRefusedBy kind f)) one by

pub asks_known : (mode : Mode) (line : Data) (name : List ℕ) (value : Data) (asked : Request) → as_object line ≡ Some (member name value no_members)
    → None ≡ call_named name → IsSureRequestIn mode line asked → ⊥
asks_known mode line name value asked object none is =
    let one : Some (member name value no_members) ≡ Some (member (call_text is.0) is.1.value no_members) = sym object ∙ is.1.object in
    let same : name ≡ call_text is.0 = cc in
    let itself : None ≡ Some is.0 = none ∙ ap call_named same ∙ named_itself is.0 in
    absurd (cc)

-- it asks by this call alone
pub asks_by : (mode : Mode) (line : Data) (name : List ℕ) (value : Data) (c : CallName) (asked : Request) → as_object line ≡ Some (member name value no_members)
    → Some c ≡ call_named name → IsSureRequestIn mode line asked → IsSure mode c value asked
asks_by mode line name value c asked object some is =
    let one : Some (member name value no_members) ≡ Some (member (call_text is.0) is.1.value no_members) = sym object ∙ is.1.object in
    let same : name ≡ call_text is.0 = cc in
    let there : is.1.value ≡ value = cc in
    let itself : Some c ≡ Some is.0 = some ∙ ap call_named same ∙ named_itself is.0 in
    let equal : is.0 ≡ c = cc in (
      subst (λ (d : CallName). IsCallOf mode d value asked) equal (subst (λ (v : Data). IsCallOf mode is.0 v asked) there is.1.arguments),
      subst (λ (d : CallName). IsTrue (is_never_refused d asked)) equal is.2,
    )

-- ---- what the arguments of the call give

pub asked_ok : (r : Result Request InputFault) (mode e : Mode) (line : Data) (name : List ℕ) (value v : Data) (c : CallName)
    → as_object line ≡ Some (member name value no_members) → Some c ≡ call_named name → e ≡ mode → v ≡ value
    → IfOk r (IsCallOf e c v) → IfOk r (IsRequestIn mode line)
asked_ok (Ok x) mode e line name value v c object some same equal is = (
  c,
  asks mode line name value c x object some (subst (λ (m : Mode). IsCallOf m c value x) same (subst (λ (w : Data). IsCallOf e c w x) equal is)),
)
asked_ok (Err f) mode e line name value v c object some same equal is = tt

pub asked_err : (r : Result Request InputFault) (mode e : Mode) (line : Data) (name : List ℕ) (value v : Data) (c : CallName)
    → as_object line ≡ Some (member name value no_members) → Some c ≡ call_named name → e ≡ mode → v ≡ value
    → IfErr r (Excludes (IsSure e c v)) → IfErr r (Excludes (IsSureRequestIn mode line))
asked_err (Ok x) mode e line name value v c object some same equal none = tt
asked_err (Err f) mode e line name value v c object some same equal none = λ refusal asked is.
    none refusal asked
    (subst (λ (m : Mode). IsSure m c v asked) (sym same) (subst (λ (w : Data). IsSure mode c w asked) (sym equal) (asks_by mode line name value c asked object some is)))

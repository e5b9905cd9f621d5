-- What a line is answered by.
use Rattle.std.proofs.Common.{◌≡◌, ◌++◌, ◌∷◌, [], inl, inr, List, ℕ, MatchOption, None, Option, Result, Ok, Err, IfOk, IfErr, Some, codes, refl, subst, sym}
use Rattle.json.specs.Print.{print}
use Rattle.json.specs.Token.{Token}
use Rattle.serde_json.specs.Data.{Data, Members}
use Rattle.serde_json.specs.Find.{as_object, get_member}
use Rattle.serde_json.specs.Read.{read}
use Rattle.am_json.specs.declared.reader.Mode.TheVariants.{Strict}
use Rattle.am_model.specs.Config.{config_fault}
use Rattle.am_protocol.specs.declared.call.CallName.{CallName}
use Rattle.am_protocol.specs.declared.call.CallName.TheVariants as call
use Rattle.am_protocol.specs.declared.fault.LineFault.{LineFault}
use Rattle.am_protocol.specs.declared.request.Request.{Request}
use Rattle.am_protocol.specs.declared.request.Request.TheVariants.{Open, TakeHistory}
use Rattle.am_protocol.specs.declared.lines.LineRead.{LineRead}
use Rattle.am_protocol.specs.declared.opening.Opening.{Opening}
use Rattle.am_protocol.specs.Lines.{IsOneLine, IsRead}
use Rattle.am_config.specs.declared.hours.Hours.{Hours}
use Rattle.am_protocol.specs.Opening.{HasClocked, IsTheirOpening}
use Rattle.am_protocol.specs.Request.{IsCallOf, IsRequestIn}
use Rattle.am_session.specs.Refusal.{IsCauseOfUnopened}
use Rattle.am_session.specs.Line.{IsOpenedBy, Opened, OpensNone}
use Rattle.am_session.specs.Session.{Does, IsAnswered, IsAnswerTo, IsRequest, Leaves, Refuses, Takes, taken_tokens}
use Rattle.am_session.specs.declared.session.Session.{Session}

-- what is answered, where the answer began with nothing
pub answers_line : (old new : Session) (text : List ℕ) (request : Request) (before after : List Token)
    → before ≡ [] → Does old request new before after → text ≡ print after ++ 10 ∷ [] → IsOneLine text → IsAnswerTo old request text new
answers_line old new text request before after empty does text_is one =
    record { tokens = after; does = subst (λ (b : List Token). Does old request new b after) empty does; text_is = text_is; one = one }

-- a line that asks for a board, which is there
pub opened_text : {T E : Type 0} (r : Result T E) (items : T → List ℕ) (session : T → Session) (read : LineRead) (kept : List ℕ) (requested : Request) (opening : Opening)
    → requested ≡ Open opening → ((text : List ℕ) → IsRead read text kept → IsRequest text requested)
    → IfOk r (λ made. IsOpenedBy opening (items made) (session made))
    → IfOk r (λ made. (text : List ℕ) → IsRead read text kept → Opened text (items made) (session made))
opened_text (Ok made) items session read kept requested opening is is_request opened =
    λ text heard. (opening, subst (λ (q : Request). IsRequest text q) is (is_request text heard), opened)
opened_text (Err f) items session read kept requested opening is is_request opened = tt

-- a configuration of Alertmanager has no fault, with clocks or without
of_theirs : (hours : Option Hours) (o : Option Data) (opening : Opening) → MatchOption o ⊥ (λ v. IsTheirOpening hours v opening) → config_fault opening.config ≡ None
of_theirs hours None opening is = absurd is
of_theirs hours (Some v) opening is = is.sound

of_clocked : (o : Option Members) (opening : Opening) → MatchOption o ⊥ (λ ms. HasClocked Strict ms opening) → config_fault opening.config ≡ None
of_clocked None opening is = absurd is
of_clocked (Some ms) opening is = of_theirs (Some is.hours) (get_member (codes "alertmanager") ms) opening is.config

-- a line's configuration has no fault
faultless : (name : CallName) (value : Data) (opening : Opening) → IsCallOf Strict name value (Open opening) → config_fault opening.config ≡ None
faultless call.Config value opening is = is.sound
faultless call.Alertmanager value opening is = is.sound
faultless call.Open value opening is = of_clocked (as_object value) opening is
faultless name value opening is = absurd is

-- so only memory keeps it from being opened
unopened_line : (f : LineFault) (text : List ℕ) (requested : Request) (opening : Opening) → requested ≡ Open opening → IsRequest text requested
    → IsCauseOfUnopened opening.config f → OpensNone text f
unopened_line f text requested opening is is_request (inl memory) = subst (λ (g : LineFault). OpensNone text g) (sym memory) tt
unopened_line f text requested opening is is_request (inr faulty) =
    let opens = subst (λ (q : Request). IsRequestIn Strict is_request.0 q) is is_request.2 in
    absurd (faulty.0 (faultless opens.0 opens.1.value opening opens.1.arguments))

pub unopened_text : {T : Type 0} (r : Result T LineFault) (read : LineRead) (kept : List ℕ) (requested : Request) (opening : Opening)
    → requested ≡ Open opening → ((text : List ℕ) → IsRead read text kept → IsRequest text requested)
    → IfErr r (IsCauseOfUnopened opening.config)
    → IfErr r (λ f. (text : List ℕ) → IsRead read text kept → OpensNone text f)
unopened_text (Ok made) read kept requested opening is is_request why = tt
unopened_text (Err f) read kept requested opening is is_request why = λ text heard. unopened_line f text requested opening is (is_request text heard) why

-- the answer of a board that has handed out its records
taken_answer : (old new : Session) (text : List ℕ) → Takes old new text → IsAnswerTo old TakeHistory text new
taken_answer old new text takes =
    record { tokens = taken_tokens old.board; does = (takes.0, refl); text_is = takes.1; one = takes.2 }

pub taken_request : {T E : Type 0} (r : Result T E) (items : T → List ℕ) (old new : Session) (requested : Request) → requested ≡ TakeHistory
    → IfOk r (λ made. Takes old new (items made)) → IfOk r (λ made. IsAnswerTo old requested (items made) new)
taken_request (Ok made) items old new requested is takes =
    subst (λ (q : Request). IsAnswerTo old q (items made) new) (sym is) (taken_answer old new (items made) takes)
taken_request (Err f) items old new requested is takes = tt

pub left_request : {T : Type 0} (r : Result T LineFault) (old new : Session) (requested : Request) → requested ≡ TakeHistory
    → IfErr r (Leaves old TakeHistory new) → IfErr r (Leaves old requested new)
left_request (Ok made) old new requested is leaves = tt
left_request (Err f) old new requested is leaves = subst (λ (q : Request). Leaves old q new f) (sym is) leaves

-- a line that is read, and what it asks is answered
pub answered_read : {T E : Type 0} (r : Result T E) (items : T → List ℕ) (old new : Session) (requested : Request) (read : LineRead) (kept : List ℕ)
    → ((text : List ℕ) → IsRead read text kept → IsRequest text requested)
    → IfOk r (λ made. IsAnswerTo old requested (items made) new)
    → IfOk r (λ made. (text : List ℕ) → IsRead read text kept → IsAnswered old text (items made) new)
answered_read (Ok made) items old new requested read kept is_request answers = λ text heard. (requested, is_request text heard, answers)
answered_read (Err f) items old new requested read kept is_request answers = tt

pub refused_read : {T : Type 0} (r : Result T LineFault) (old new : Session) (requested : Request) (read : LineRead) (kept : List ℕ)
    → ((text : List ℕ) → IsRead read text kept → IsRequest text requested)
    → IfErr r (Leaves old requested new)
    → IfErr r (λ f. (text : List ℕ) → IsRead read text kept → Refuses old text new f)
refused_read (Ok made) old new requested read kept is_request leaves = tt
refused_read (Err f) old new requested read kept is_request leaves = λ text heard. inr (requested, is_request text heard, leaves)

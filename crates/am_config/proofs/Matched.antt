-- Matchers that were read, one more at a time.
use Rattle.std.proofs.Common.{◌≡◌, ◌+◌, ◌<◌, ◌≤◌, ◌++◌, ◌∷◌, ◌∙◌, ℕ, Bor, List, [], Option, Some, MatchOption, length, map, option_map, take, get_or, ap, refl, subst, sym, append_assoc, string_bytes, String}
use Rattle.std.proofs.lemmas.List.{append-nil, map-append, take_all, take_more}
use Rattle.std.specs.Prelude.{IsSomeAnd}
use Rattle.std.specs.declared.alloc.Global.{Global}
use Rattle.serde_json.proofs.Views.{Entry}
use Rattle.serde_json.specs.Data.{Data, Items, Members}
use Rattle.serde_json.specs.Find.{as_array, as_object}
use Rattle.serde_json.specs.View.{items_view, members_view, view}
use Rattle.serde_json.specs.declared.value.Value.{Value}
use Rattle.am_alerts.specs.declared.matcher.MatcherParts.{MatcherParts}
use Rattle.am_alerts.specs.declared.matcher.Operator.{Operator}
use Rattle.am_json.specs.Decoding.{IsObject}
use Rattle.am_json.specs.declared.faults.Fault.{Fault}
use Rattle.am_config.specs.Collects.{Adds, Collects}
use Rattle.am_config.specs.Matchers.{AreInArray, AreInText, AreInTexts, ArePairs, AreWritten, IsPair, IsTranslatedText}

pair_more : (op : Operator) (done : List Entry) (ms : List MatcherParts) (e : Entry) (m : MatcherParts)
    → ArePairs op (members_view done) ms → IsPair op (string_bytes e.0) (view e.1) m → ArePairs op (members_view (done ++ e ∷ [])) (ms ++ m ∷ [])
pair_more op [] [] e m so_far more = (more, tt)
pair_more op [] (n ∷ ns) e m so_far more = absurd so_far
pair_more op (d ∷ ds) [] e m so_far more = absurd so_far
pair_more op (d ∷ ds) (n ∷ ns) e m so_far more = (so_far.0, pair_more op ds ns e m so_far.1 more)

written_more : (texts : List (List ℕ)) (ms : List MatcherParts) (text : List ℕ) (m : MatcherParts)
    → AreWritten texts ms → IsTranslatedText text m → AreWritten (texts ++ text ∷ []) (ms ++ m ∷ [])
written_more [] [] text m so_far more = (more, tt)
written_more [] (n ∷ ns) text m so_far more = absurd so_far
written_more (t ∷ ts) [] text m so_far more = absurd so_far
written_more (t ∷ ts) (n ∷ ns) text m so_far more = (so_far.0, written_more ts ns text m so_far.1 more)

texts_more : (values : List Value) (value : Value) (found own : List MatcherParts)
    → AreInTexts (items_view values) found → AreInText (view value) own → AreInTexts (items_view (values ++ value ∷ [])) (found ++ own)
texts_more [] value found own so_far more = (own, [], ap (λ ms. ms ++ own) so_far ∙ sym (append-nil own), more, refl)
texts_more (v ∷ vs) value found own so_far more =
    let first = so_far.0 in
    let rest = so_far.1 in (
      first,
      rest ++ own,
      ap (λ ms. ms ++ own) so_far.2 ∙ append_assoc first rest own,
      so_far.3,
      texts_more vs value rest own so_far.4 more,
    )

-- one more matcher behind those that were added
one_behind : (before found mid after : List MatcherParts) (m : MatcherParts) → mid ≡ before ++ found → after ≡ mid ++ m ∷ []
    → after ≡ before ++ (found ++ m ∷ [])
one_behind before found mid after m so_far pushed = pushed ∙ ap (λ ms. ms ++ m ∷ []) so_far ∙ append_assoc before found (m ∷ [])

-- one more member
pub adds_pair : (op : Operator) (done : List Entry) (e : Entry) (m : MatcherParts) (before mid after : List MatcherParts)
    → Adds before mid (ArePairs op (members_view done)) → IsPair op (string_bytes e.0) (view e.1) m → after ≡ mid ++ m ∷ []
    → Adds before after (ArePairs op (members_view (done ++ e ∷ [])))
adds_pair op done e m before mid after so_far more pushed =
    (so_far.0 ++ m ∷ [], one_behind before so_far.0 mid after m so_far.1 pushed, pair_more op done so_far.0 e m so_far.2 more)

-- one more text
pub adds_written : (texts : List (String Global)) (i : ℕ) (text : String Global) (m : MatcherParts) (before mid after : List MatcherParts)
    → i < length texts → text ≡ get_or texts i text
    → Adds before mid (AreWritten (map string_bytes (take i texts))) → IsTranslatedText (string_bytes text) m → after ≡ mid ++ m ∷ []
    → Adds before after (AreWritten (map string_bytes (take (i + 1) texts)))
adds_written texts i text m before mid after here is so_far more pushed =
    let taken : take (i + 1) texts ≡ take i texts ++ text ∷ [] =
    take_more texts i text here ∙ ap (λ (t : String Global). take i texts ++ t ∷ []) (sym is) in
    let written : map string_bytes (take (i + 1) texts) ≡ map string_bytes (take i texts) ++ string_bytes text ∷ [] =
    ap (map string_bytes) taken ∙ map-append string_bytes (take i texts) (text ∷ []) in (
      so_far.0 ++ m ∷ [],
      one_behind before so_far.0 mid after m so_far.1 pushed,
      subst (λ (ts : List (List ℕ)). AreWritten ts (so_far.0 ++ m ∷ [])) (sym written)
          (written_more (map string_bytes (take i texts)) so_far.0 (string_bytes text) m so_far.2 more),
    )

-- one more value of an array
pub adds_text : (values : List Value) (i : ℕ) (value : Value) (before mid after : List MatcherParts) → i < length values → value ≡ get_or values i value
    → Adds before mid (AreInTexts (items_view (take i values))) → Adds mid after (AreInText (view value))
    → Adds before after (AreInTexts (items_view (take (i + 1) values)))
adds_text values i value before mid after here is so_far more =
    let taken : take (i + 1) values ≡ take i values ++ value ∷ [] =
    take_more values i value here ∙ ap (λ (v : Value). take i values ++ v ∷ []) (sym is) in (
      so_far.0 ++ more.0,
      more.1 ∙ ap (λ ms. ms ++ more.0) so_far.1 ∙ append_assoc before so_far.0 more.0,
      subst (λ (vs : List Value). AreInTexts (items_view vs) (so_far.0 ++ more.0)) (sym taken)
          (texts_more (take i values) value so_far.0 more.0 so_far.2 more.2),
    )

-- nothing is added
pub adds_none : {X : Type 0} (P : List X → Type 0) (xs : List X) → P [] → Adds xs xs P
adds_none P xs holds = ([], sym (append-nil xs), holds)

-- the array that a reader gave, where it was kept
pub array_kept : (read : Option (Bor (List Value))) (kept : Option (Bor (List Value))) (values : Bor (List Value)) (array : Option Items)
    → kept ≡ read → kept ≡ Some values → option_map (λ s. items_view s.now) read ≡ array → array ≡ Some (items_view values.now)
array_kept read kept values array same is items = sym items ∙ ap (option_map (λ (s : Bor (List Value)). items_view s.now)) (sym same ∙ is)

-- a member that says an array of texts, which was read to its end
pub said_texts : (said_is : Option Data) (value : Data) (values : List Value) (i : ℕ) (before now : List MatcherParts) (initial after : List Fault)
    → Some value ≡ said_is → as_array value ≡ Some (items_view values) → length values ≤ i
    → Collects initial after (Adds before now (AreInTexts (items_view (take i values))))
    → Collects initial after (Adds before now (λ found. MatchOption said_is (found ≡ []) (λ v. AreInArray v found)))
said_texts said_is value values i before now initial after is items past so_far =
    λ none.
    let done = so_far none in
    let adds = done.1 in
    let texts : AreInTexts (items_view values) adds.0 = subst (λ (vs : List Value). AreInTexts (items_view vs) adds.0) (take_all i values past) adds.2 in (
      done.0,
      (
        adds.0,
        adds.1,
        subst (λ (o : Option Data). MatchOption o (adds.0 ≡ []) (λ v. AreInArray v adds.0)) is
            (subst (λ (o : Option Items). IsSomeAnd o (λ ts. AreInTexts ts adds.0)) (sym items) texts),
      ),
    )

-- Which label sets a dispatcher knows, after inserts and flushes.
use Rattle.std.proofs.Common.{◌≡◌, ◌∙◌, ℕ, ◌+◌, Bool, true, false, not, ◌&&◌, ◌||◌, ◌==◌, nat_lt, List, [], ◌∷◌, ◌++◌, Option, Some, None, ap, refl, sym, subst, arith, if◌then◌else◌}
use Rattle.std.specs.Option.{option_map, option_map_or}
use Rattle.std.proofs.lemmas.Bool.{false≢true}
use Rattle.am_alerts.specs.AlertData.{AlertData, has_come, is_resolved}
use Rattle.am_alerts.specs.Labels.{same_label_set}
use Rattle.am_alerts.specs.LabelOrder.{same_label_set-decides}
use Rattle.am_alerts.specs.declared.labels.Label.{Label}
use Rattle.am_model.specs.declared.config.Config.{Config}
use Rattle.am_model.specs.look_back.Presence.{goes_to}
use Rattle.am_undelivered.proofs.Facts.{among-added}
use Rattle.am_undelivered.specs.Spans.{FlushData, Flushed, Inserted, MembersData, SpansData, after_fact, begun_span, flushed, flushed_span, has_member, inserted, inserted_again, is_known, with_label_set, with_member}
use Rattle.am_undelivered.specs.Sets.{is_among}

or_true : (b : Bool) → (b || true) ≡ true
or_true true = refl
or_true false = refl

-- a label set that was added is among them
among_itself : (labels : List Label) (sets : List (List Label)) → is_among labels (with_label_set labels sets) ≡ true
among_itself labels sets = by (is_among labels sets) refl
  where
    by : (b : Bool) → is_among labels sets ≡ b → is_among labels (if b then sets else sets ++ labels ∷ []) ≡ true
    by true e = e
    by false e =
        among-added labels labels sets
        ∙ ap (λ b. is_among labels sets || b) ((same_label_set-decides labels labels).1 refl)
        ∙ or_true (is_among labels sets)

-- and so is each that was among them before
among_still : (labels added : List Label) (sets : List (List Label)) → is_among labels sets ≡ true → is_among labels (with_label_set added sets) ≡ true
among_still labels added sets is = by (is_among added sets)
  where
    by : (b : Bool) → is_among labels (if b then sets else sets ++ added ∷ []) ≡ true
    by true = is
    by false = among-added labels added sets ∙ ap (λ b. b || same_label_set added labels) is

or_more : (before here among more : Bool) → (among ≡ true → more ≡ true) → (before || (here && among)) ≡ true → (before || (here && more)) ≡ true
or_more true here among more h is = refl
or_more false true among more h is = h is
or_more false false among more h is = is

same_part : (p q : ℕ) → p ≡ q → (p == q) ≡ true
same_part p q e = grind (arith, e)

-- spans whose last insert is of this dispatcher
known_new : (m : MembersData) (labels : List Label) (s : SpansData) → s.part ≡ m.part → is_known (with_member labels m) labels s ≡ true
known_new m labels s e =
    ap (λ b. nat_lt s.part m.part || (b && is_among labels (with_label_set labels m.sets))) (same_part s.part m.part e)
    ∙ ap (λ b. nat_lt s.part m.part || b) (among_itself labels m.sets)
    ∙ or_true (nat_lt s.part m.part)

-- after an insert of another label set
known_still : (m : MembersData) (labels added : List Label) (s : Option SpansData)
    → option_map_or (is_known m labels) s true ≡ true → option_map_or (is_known (with_member added m) labels) s true ≡ true
known_still m labels added None is = refl
known_still m labels added (Some s) is =
    or_more (nat_lt s.part m.part) (s.part == m.part) (is_among labels m.sets) (is_among labels (with_label_set added m.sets))
    (among_still labels added m.sets) is

-- after an insert of its own
known_own : (m : MembersData) (config : Config) (t : ℕ) (a : AlertData) (s : Option SpansData)
    → option_map_or (is_known (with_member a.labels m) a.labels) (inserted m.part config t a s) true ≡ true
known_own m config t a None = by (is_resolved a t)
  where
    by : (b : Bool)
        → option_map_or (is_known (with_member a.labels m) a.labels)
        (if b then None else Some (record { before = []; last = begun_span config a; part = m.part })) true ≡ true
    by true = refl
    by false = known_new m a.labels (record { before = []; last = begun_span config a; part = m.part }) refl
known_own m config t a (Some s) = by (has_come s.last.ends t) (is_resolved a t)
  where
    by : (over resolved : Bool)
        → option_map_or (is_known (with_member a.labels m) a.labels)
        (if not over then Some (record { before = s.before; last = inserted_again config a s.last; part = m.part })
        else (if resolved then Some (record { before = s.before; last = s.last; part = m.part })
        else Some (record { before = s.before ++ s.last ∷ []; last = begun_span config a; part = m.part }))) true ≡ true
    by false resolved = known_new m a.labels (record { before = s.before; last = inserted_again config a s.last; part = m.part }) refl
    by true true = known_new m a.labels (record { before = s.before; last = s.last; part = m.part }) refl
    by true false = known_new m a.labels (record { before = s.before ++ s.last ∷ []; last = begun_span config a; part = m.part }) refl

-- after any insert
pub known_inserted : (m : MembersData) (labels : List Label) (config : Config) (t : ℕ) (a : AlertData) (s : Option SpansData)
    → option_map_or (is_known m labels) s true ≡ true
    → option_map_or (is_known (with_member a.labels m) labels) (after_fact labels (Inserted m.part config t a) s) true ≡ true
known_inserted m labels config t a s is = by (same_label_set a.labels labels) refl
  where
    by : (b : Bool) → same_label_set a.labels labels ≡ b
        → option_map_or (is_known (with_member a.labels m) labels) (if b then inserted m.part config t a s else s) true ≡ true
    by true e =
        subst (λ l. option_map_or (is_known (with_member a.labels m) l) (inserted m.part config t a s) true ≡ true)
        ((same_label_set-decides a.labels labels).0 e) (known_own m config t a s)
    by false e = known_still m labels a.labels s is

-- after a flush
pub known_flushed : (m : MembersData) (labels : List Label) (f : FlushData) (s : Option SpansData)
    → option_map_or (is_known m labels) s true ≡ true → option_map_or (is_known m labels) (after_fact labels (Flushed f) s) true ≡ true
known_flushed m labels f None is = by (goes_to f.config f.preview.group labels)
  where
    by : (b : Bool) → option_map_or (is_known m labels) (if b then None else None) true ≡ true
    by true = refl
    by false = refl
known_flushed m labels f (Some s) is = by (goes_to f.config f.preview.group labels) (s.part == f.part)
  where
    by : (goes here : Bool)
        → option_map_or (is_known m labels)
        (if goes then Some (if here then record { before = s.before; last = flushed_span f labels s.last; part = s.part } else s) else Some s)
        true ≡ true
    by true true = is
    by true false = is
    by false here = is

other_part : (p q r : ℕ) (among : Bool) → q ≡ r → among ≡ false → (nat_lt p q || (p == q && among)) ≡ true → (p == r) ≡ false
other_part p q r true e absent is = absurd (false≢true (sym absent))
other_part p q r false e absent is = grind (arith, e, is)

-- a flush of a group does nothing to a label set that its dispatcher doesn't know
unknown_flushed : (m : MembersData) (f : FlushData) (labels : List Label) (s : Option SpansData) → m.part ≡ f.part
    → option_map_or (is_known m labels) s true ≡ true → is_among labels m.sets ≡ false → option_map (flushed f labels) s ≡ s
unknown_flushed m f labels None e is absent = refl
unknown_flushed m f labels (Some s) e is absent =
    ap (λ b. Some (if b then record { before = s.before; last = flushed_span f labels s.last; part = s.part } else s))
    (other_part s.part m.part f.part (is_among labels m.sets) e absent is)

-- a flush that is added to the members of its group
pub members_flushed : (m : MembersData) (f : FlushData) (labels : List Label) (s : Option SpansData) → m.part ≡ f.part → m.config ≡ f.config
    → option_map_or (is_known m labels) s true ≡ true
    → (if has_member m f.preview.group labels then option_map (flushed f labels) s else s) ≡ after_fact labels (Flushed f) s
members_flushed m f labels s e same is =
    ap (λ (c : Config). if is_among labels m.sets && goes_to c f.preview.group labels then option_map (flushed f labels) s else s) same
    ∙ by (is_among labels m.sets) (goes_to f.config f.preview.group labels) refl
  where
    by : (among goes : Bool) → is_among labels m.sets ≡ among
        → (if among && goes then option_map (flushed f labels) s else s) ≡ (if goes then option_map (flushed f labels) s else s)
    by true goes known = refl
    by false true known = sym (unknown_flushed m f labels s e is known)
    by false false known = refl

next_part : (p q : ℕ) (among : Bool) → (nat_lt p q || (p == q && among)) ≡ true → nat_lt p (q + 1) ≡ true
next_part p q true is = grind (arith, is)
next_part p q false is = grind (arith, is)

-- the next dispatcher comes after it
pub before_next : (m : MembersData) (labels : List Label) (s : Option SpansData)
    → option_map_or (is_known m labels) s true ≡ true → option_map_or (λ s. nat_lt s.part (m.part + 1)) s true ≡ true
before_next m labels None is = refl
before_next m labels (Some s) is = next_part s.part m.part (is_among labels m.sets) is

-- and knows no label set
pub known_at_first : (m : MembersData) (labels : List Label) (s : Option SpansData)
    → option_map_or (λ s. nat_lt s.part m.part) s true ≡ true → option_map_or (is_known m labels) s true ≡ true
known_at_first m labels None is = refl
known_at_first m labels (Some s) is = ap (λ b. b || (s.part == m.part && is_among labels m.sets)) is

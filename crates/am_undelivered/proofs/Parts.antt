-- One record more of a dispatcher, and one dispatcher more.
use Rattle.std.proofs.Common.{◌≡◌, ◌∙◌, ℕ, ◌+◌, ◌<◌, List, ◌∷◌, ◌++◌, Option, Some, None, ap, drop, get_or, length, sym}
use Rattle.std.proofs.lemmas.List.{at_drop_more}
use Rattle.am_alerts.specs.declared.labels.Label.{Label}
use Rattle.am_model.specs.declared.config.Config.{Config}
use Rattle.am_model.specs.declared.record.Record.{Record}
use Rattle.am_model.specs.look_back.Entry.{alert_in}
use Rattle.am_model.specs.Records.{now_of}
use Rattle.am_terms.specs.declared.event.PreviewedBegin.{PreviewedBegin}
use Rattle.am_timeline.specs.Playback.{PlaybackData}
use Rattle.am_undelivered.proofs.Facts.{after_append, sets_append}
use Rattle.am_undelivered.specs.Spans.{FlushData, Flushed, MembersData, SpansData, after_fact, after_facts, begin_at, facts_at, facts_from, facts_in, facts_of, flush_of, inserts_at, next_begin, sets_after}

-- the spans after a record that begins no flush
pub spans_none : (part : ℕ) (p : PlaybackData) (begin index : ℕ) (r : Record) (rs : List Record) (labels : List Label)
    → (before after whole : Option SpansData) → begin_at p.begins index begin ≡ None
    → after ≡ after_facts labels (inserts_at part p.config (now_of r.call) (alert_in r.call)) before
    → after_facts labels (facts_from part p begin index (r ∷ rs)) before ≡ whole
    → after_facts labels (facts_from part p begin (index + 1) rs) after ≡ whole
spans_none part p begin index r rs labels before after whole none is rest =
    ap (λ (s : Option SpansData). after_facts labels (facts_from part p begin (index + 1) rs) s) is
    ∙ sym (after_append labels (inserts_at part p.config (now_of r.call) (alert_in r.call)) (facts_from part p begin (index + 1) rs) before)
    ∙ sym
    (ap
    (λ (o : Option PreviewedBegin).
    after_facts labels (facts_at part p begin o r ++ facts_from part p (next_begin begin o) (index + 1) rs) before)
    none)
    ∙ rest

-- after one that begins a flush
pub spans_some : (part : ℕ) (p : PlaybackData) (begin index : ℕ) (b : PreviewedBegin) (r : Record) (rs : List Record) (labels : List Label)
    → (before after whole : Option SpansData) → begin_at p.begins index begin ≡ Some b
    → after ≡ after_fact labels (Flushed (flush_of part p begin b)) before
    → after_facts labels (facts_from part p begin index (r ∷ rs)) before ≡ whole
    → after_facts labels (facts_from part p (begin + 1) (index + 1) rs) after ≡ whole
spans_some part p begin index b r rs labels before after whole some is rest =
    ap (λ (s : Option SpansData). after_facts labels (facts_from part p (begin + 1) (index + 1) rs) s) is
    ∙ sym
    (ap
    (λ (o : Option PreviewedBegin).
    after_facts labels (facts_at part p begin o r ++ facts_from part p (next_begin begin o) (index + 1) rs) before)
    some)
    ∙ rest

-- the label sets after a record that begins no flush
pub sets_none : (part : ℕ) (p : PlaybackData) (begin index : ℕ) (r : Record) (rs : List Record)
    → (before after whole : List (List Label)) → begin_at p.begins index begin ≡ None
    → after ≡ sets_after (inserts_at part p.config (now_of r.call) (alert_in r.call)) before
    → sets_after (facts_from part p begin index (r ∷ rs)) before ≡ whole
    → sets_after (facts_from part p begin (index + 1) rs) after ≡ whole
sets_none part p begin index r rs before after whole none is rest =
    ap (λ (s : List (List Label)). sets_after (facts_from part p begin (index + 1) rs) s) is
    ∙ sym (sets_append (inserts_at part p.config (now_of r.call) (alert_in r.call)) (facts_from part p begin (index + 1) rs) before)
    ∙ sym
    (ap
    (λ (o : Option PreviewedBegin).
    sets_after (facts_at part p begin o r ++ facts_from part p (next_begin begin o) (index + 1) rs) before)
    none)
    ∙ rest

-- after one that begins a flush
pub sets_some : (part : ℕ) (p : PlaybackData) (begin index : ℕ) (b : PreviewedBegin) (r : Record) (rs : List Record)
    → (before after whole : List (List Label)) → begin_at p.begins index begin ≡ Some b → after ≡ before
    → sets_after (facts_from part p begin index (r ∷ rs)) before ≡ whole
    → sets_after (facts_from part p (begin + 1) (index + 1) rs) after ≡ whole
sets_some part p begin index b r rs before after whole some is rest =
    ap (λ (s : List (List Label)). sets_after (facts_from part p (begin + 1) (index + 1) rs) s) is
    ∙ sym
    (ap
    (λ (o : Option PreviewedBegin).
    sets_after (facts_at part p begin o r ++ facts_from part p (next_begin begin o) (index + 1) rs) before)
    some)
    ∙ rest

-- the spans after what happens under one dispatcher more
pub part_spans : (part : ℕ) (ps : List PlaybackData) (p : PlaybackData) (labels : List Label) (before after whole : Option SpansData)
    → part < length ps → p ≡ get_or ps part p → after ≡ after_facts labels (facts_in part p) before
    → after_facts labels (facts_of part (drop part ps)) before ≡ whole
    → after_facts labels (facts_of (part + 1) (drop (part + 1) ps)) after ≡ whole
part_spans part ps p labels before after whole within here is rest =
    ap (λ (s : Option SpansData). after_facts labels (facts_of (part + 1) (drop (part + 1) ps)) s) is
    ∙ sym (after_append labels (facts_in part p) (facts_of (part + 1) (drop (part + 1) ps)) before)
    ∙ ap (λ (q : PlaybackData). after_facts labels (facts_in part q ++ facts_of (part + 1) (drop (part + 1) ps)) before) here
    ∙ sym (at_drop_more (λ (qs : List PlaybackData). after_facts labels (facts_of part qs) before) ps part p within)
    ∙ rest

-- and the label sets
pub part_sets : (part : ℕ) (ps : List PlaybackData) (p : PlaybackData) (before after whole : List (List Label))
    → part < length ps → p ≡ get_or ps part p → after ≡ sets_after (facts_in part p) before
    → sets_after (facts_of part (drop part ps)) before ≡ whole
    → sets_after (facts_of (part + 1) (drop (part + 1) ps)) after ≡ whole
part_sets part ps p before after whole within here is rest =
    ap (λ (s : List (List Label)). sets_after (facts_of (part + 1) (drop (part + 1) ps)) s) is
    ∙ sym (sets_append (facts_in part p) (facts_of (part + 1) (drop (part + 1) ps)) before)
    ∙ ap (λ (q : PlaybackData). sets_after (facts_in part q ++ facts_of (part + 1) (drop (part + 1) ps)) before) here
    ∙ sym (at_drop_more (λ (qs : List PlaybackData). sets_after (facts_of part qs) before) ps part p within)
    ∙ rest

-- the spans after the record at an index that begins no flush
pub spans_call : (part : ℕ) (p : PlaybackData) (begin next index : ℕ) (all : List Record) (r : Record) (labels : List Label) (m : MembersData)
    → (before after whole : Option SpansData) → index < length all → r ≡ get_or all index r → begin_at p.begins index begin ≡ None
    → next ≡ begin → m.part ≡ part → m.config ≡ p.config
    → after ≡ after_facts labels (inserts_at m.part m.config (now_of r.call) (alert_in r.call)) before
    → after_facts labels (facts_from part p begin index (drop index all)) before ≡ whole
    → after_facts labels (facts_from part p next (index + 1) (drop (index + 1) all)) after ≡ whole
spans_call part p begin next index all r labels m before after whole within here none then_begin its_part its_config is rest =
    ap (λ (b : ℕ). after_facts labels (facts_from part p b (index + 1) (drop (index + 1) all)) after) then_begin
    ∙ spans_none part p begin index r (drop (index + 1) all) labels before after whole none
    (is
    ∙ ap (λ (q : ℕ). after_facts labels (inserts_at q m.config (now_of r.call) (alert_in r.call)) before) its_part
    ∙ ap (λ (k : Config). after_facts labels (inserts_at part k (now_of r.call) (alert_in r.call)) before) its_config)
    (ap (λ (q : Record). after_facts labels (facts_from part p begin index (q ∷ drop (index + 1) all)) before) here
    ∙ sym (at_drop_more (λ (rs : List Record). after_facts labels (facts_from part p begin index rs) before) all index r within)
    ∙ rest)

-- and the label sets
pub sets_call : (part : ℕ) (p : PlaybackData) (begin next index : ℕ) (all : List Record) (r : Record) (m : MembersData)
    → (before after whole : List (List Label)) → index < length all → r ≡ get_or all index r → begin_at p.begins index begin ≡ None
    → next ≡ begin → m.part ≡ part → m.config ≡ p.config
    → after ≡ sets_after (inserts_at m.part m.config (now_of r.call) (alert_in r.call)) before
    → sets_after (facts_from part p begin index (drop index all)) before ≡ whole
    → sets_after (facts_from part p next (index + 1) (drop (index + 1) all)) after ≡ whole
sets_call part p begin next index all r m before after whole within here none then_begin its_part its_config is rest =
    ap (λ (b : ℕ). sets_after (facts_from part p b (index + 1) (drop (index + 1) all)) after) then_begin
    ∙ sets_none part p begin index r (drop (index + 1) all) before after whole none
    (is
    ∙ ap (λ (q : ℕ). sets_after (inserts_at q m.config (now_of r.call) (alert_in r.call)) before) its_part
    ∙ ap (λ (k : Config). sets_after (inserts_at part k (now_of r.call) (alert_in r.call)) before) its_config)
    (ap (λ (q : Record). sets_after (facts_from part p begin index (q ∷ drop (index + 1) all)) before) here
    ∙ sym (at_drop_more (λ (rs : List Record). sets_after (facts_from part p begin index rs) before) all index r within)
    ∙ rest)

-- the spans after the record at an index that begins a flush
pub spans_flush : (part : ℕ) (p : PlaybackData) (begin next index : ℕ) (b : PreviewedBegin) (all : List Record) (r : Record) (labels : List Label)
    → (f : FlushData) (before after whole : Option SpansData) → index < length all → r ≡ get_or all index r
    → begin_at p.begins index begin ≡ Some b → next ≡ begin + 1 → f ≡ flush_of part p begin b → after ≡ after_fact labels (Flushed f) before
    → after_facts labels (facts_from part p begin index (drop index all)) before ≡ whole
    → after_facts labels (facts_from part p next (index + 1) (drop (index + 1) all)) after ≡ whole
spans_flush part p begin next index b all r labels f before after whole within here some then_begin flush is rest =
    ap (λ (b : ℕ). after_facts labels (facts_from part p b (index + 1) (drop (index + 1) all)) after) then_begin
    ∙ spans_some part p begin index b r (drop (index + 1) all) labels before after whole some
    (is ∙ ap (λ (g : FlushData). after_fact labels (Flushed g) before) flush)
    (ap (λ (q : Record). after_facts labels (facts_from part p begin index (q ∷ drop (index + 1) all)) before) here
    ∙ sym (at_drop_more (λ (rs : List Record). after_facts labels (facts_from part p begin index rs) before) all index r within)
    ∙ rest)

-- and the label sets
pub sets_flush : (part : ℕ) (p : PlaybackData) (begin next index : ℕ) (b : PreviewedBegin) (all : List Record) (r : Record)
    → (before after whole : List (List Label)) → index < length all → r ≡ get_or all index r
    → begin_at p.begins index begin ≡ Some b → next ≡ begin + 1 → after ≡ before
    → sets_after (facts_from part p begin index (drop index all)) before ≡ whole
    → sets_after (facts_from part p next (index + 1) (drop (index + 1) all)) after ≡ whole
sets_flush part p begin next index b all r before after whole within here some then_begin is rest =
    ap (λ (b : ℕ). sets_after (facts_from part p b (index + 1) (drop (index + 1) all)) after) then_begin
    ∙ sets_some part p begin index b r (drop (index + 1) all) before after whole some is
    (ap (λ (q : Record). sets_after (facts_from part p begin index (q ∷ drop (index + 1) all)) before) here
    ∙ sym (at_drop_more (λ (rs : List Record). sets_after (facts_from part p begin index rs) before) all index r within)
    ∙ rest)

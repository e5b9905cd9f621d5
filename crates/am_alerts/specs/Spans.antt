-- Spans of time in which a route is muted, in milliseconds. A span counts its first time and leaves out its end.
use Rattle.std.specs.Prelude.{◌≡◌, ℕ, ◌<◌, ◌≤◌, Bool, true, not, ◌&&◌, nat_le, nat_lt}
use Rattle.std.specs.Prelude.{List, [], ◌∷◌, length, map, find, slice_index_or, Option, Some}
use Rattle.std.specs.Prelude.{None, if◌then◌else◌}
use Rattle.std.specs.Option.{option_map}
use Rattle.std.specs.List.{list_all, list_any}
use Rattle.am_alerts.specs.Forest.{listed}
use Rattle.am_alerts.specs.RoutingTree.{RoutingTree, tree_of}
use Rattle.am_alerts.specs.declared.limits.TheConstants.{MAX_TIME, MAX_SPANS}
use Rattle.am_alerts.specs.declared.route.Child.{Child}
use Rattle.am_alerts.specs.declared.route.Route.{Route}
use Rattle.am_alerts.specs.declared.spans.Span.{Span}
use Rattle.am_alerts.specs.declared.spans.SpansFault.{SpansFault}
use Rattle.am_alerts.specs.declared.spans.SpansFault.TheVariants.{BadOrder, TooMany, BadTime}

-- whether a span holds a time: its first one, or one behind that and before its end
abbrev pub holds : Span → ℕ → Bool
holds s t = nat_le s.from t && nat_lt t s.to

-- the end of the span that contains a time, if one does
abbrev pub muted_until : List Span → ℕ → Option ℕ
muted_until spans t = option_map (λ s. s.to) (find (λ s. holds s t) spans)

-- whether a span holds a time
abbrev pub is_muted : List Span → ℕ → Bool
is_muted spans t = list_any (λ s. holds s t) spans

-- whether the first of these spans, if there is one, begins behind a time
abbrev pub begins_behind : ℕ → List Span → Bool
begins_behind end [] = true
begins_behind end (s ∷ spans) = nat_lt end s.from

-- whether no span is empty, and each begins behind the end of the one before, with a gap
abbrev pub are_apart : List Span → Bool
are_apart [] = true
are_apart (s ∷ spans) = nat_lt s.from s.to && begins_behind s.to spans && are_apart spans

-- whether each span ends at a time that a board accepts
abbrev pub end_in_time : List Span → Bool
end_in_time spans = list_all (λ s. nat_le s.to MAX_TIME) spans

-- why spans are none that a route may have
abbrev pub spans_fault : List Span → Option SpansFault
spans_fault spans =
    if not (are_apart spans) then Some BadOrder
    else (if not (nat_le (length spans) MAX_SPANS) then Some TooMany
    else (if not (end_in_time spans) then Some BadTime else None))

-- the spans in which the route at a position is muted; the root has none
abbrev pub muted_at : RoutingTree → ℕ → List Span
muted_at tree position = slice_index_or ([] ∷ map (λ r. r.muted) (listed tree.below)) position []

-- law: where spans are apart, the end that is reported lies ahead, it is reported at each time up to it, and no span holds it
abbrev pub SpansEndWhereTheySay : Type 0
SpansEndWhereTheySay =
    (spans : List Span) (t u : ℕ) → are_apart spans ≡ true → muted_until spans t ≡ Some u
    → (t < u) × ((m : ℕ) → t ≤ m → m < u → muted_until spans m ≡ Some u) × (muted_until spans u ≡ None)

-- law: no route of a tree of one level is ever muted
abbrev pub OneLevelIsNeverMuted : Type 0
OneLevelIsNeverMuted =
    (root : Route) (children : List Child) (position t : ℕ) → muted_until (muted_at (tree_of root children) position) t ≡ None

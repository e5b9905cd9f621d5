-- A filter that names nothing leaves all events.
use Rattle.std.proofs.Common.{◌≡◌, ◌∙◌, ℕ, Bool, true, false, cond, ◌&&◌, ◌||◌, ◌==◌, List, [], ◌∷◌, Option, None, Some, ap, refl, filter, length}
use Rattle.std.specs.Prelude.{is_none, slice_get}
use Rattle.std.specs.Option.{option_map_or}
use Rattle.am_model.specs.declared.group.GroupName.{GroupName}
use Rattle.am_model.specs.Configured.{route_of}
use Rattle.am_terms.specs.declared.event.Event.{Event}
use Rattle.am_terms.specs.declared.event.Event.TheVariants.{Begun, Sent}
use Rattle.am_terms.specs.declared.event.PreviewedBegin.{PreviewedBegin}
use Rattle.am_timeline.specs.declared.filtered.Filter.{Filter}
use Rattle.am_timeline.specs.Filtered.{concerns, has_match, inserted_in, is_named, is_wanted, names_nothing}
use Rattle.am_timeline.specs.Playback.{PlaybackData}

-- what all elements pass leaves them all
all_left : {X : Type 0} (test : X → Bool) → ((x : X) → test x ≡ true) → (xs : List X) → filter test xs ≡ xs
all_left test each [] = refl
all_left {X} test each (x ∷ xs) =
    ap (λ (b : Bool). cond b (x ∷ filter test xs) (filter test xs)) (each x) ∙ ap (λ (rest : List X). x ∷ rest) (all_left test each xs)

-- what isn't named is what any text is
unnamed : (receiver route : Option (List ℕ)) (few found : Bool) (a b : List ℕ) → (is_none receiver && is_none route && few) ≡ true
    → ((is_named receiver a && is_named route b) && (few || found)) ≡ true
unnamed None None true found a b h = refl
unnamed None None false found a b h = cc
unnamed None (Some name) few found a b h = cc
unnamed (Some name) route few found a b h = cc

module _ (playback : PlaybackData) (wanted : Filter) (nothing : names_nothing wanted ≡ true) where
  wants : (name : GroupName) → is_wanted playback wanted name ≡ true
  wants name =
      unnamed wanted.receiver wanted.route (length wanted.matchers == 0) (has_match playback.config (inserted_in playback.history) wanted.matchers name)
      (route_of playback.config name).receiver (route_of playback.config name).name nothing

  wants_begin : (begin : Option PreviewedBegin) → option_map_or (λ b. is_wanted playback wanted b.preview.group) begin true ≡ true
  wants_begin None = refl
  wants_begin (Some b) = wants b.preview.group

  wants_each : (e : Event) → concerns playback wanted e ≡ true
  wants_each (Begun begin) = wants_begin (slice_get playback.begins begin)
  wants_each (Sent begin report) = wants_begin (slice_get playback.begins begin)

  pub unfiltered : filter (concerns playback wanted) playback.events ≡ playback.events
  unfiltered = all_left (concerns playback wanted) wants_each playback.events

-- Routes, and the groups that they make.
use Rattle.std.specs.Prelude.{ℕ, Bool, true, ◌&&◌, List, [], ◌++◌, length, filter, codes, nat_lt, nat_le}
use Rattle.std.specs.List.{list_all}
use Rattle.am_alerts.specs.Labels.{is_label_name, occurs_in}
use Rattle.am_alerts.specs.LabelText.{label_set_text}
use Rattle.am_alerts.specs.declared.labels.Label.{Label}
use Rattle.am_alerts.specs.declared.route.Route.{Route}
use Rattle.am_alerts.specs.declared.route.GroupBy.{GroupBy}
use Rattle.am_alerts.specs.declared.route.GroupBy.TheVariants.{All, Names}
use Rattle.am_alerts.specs.declared.limits.TheConstants.{MAX_LABEL_NAMES, MAX_DURATION}

-- the names by which a route groups, as it lists them; `...` lists none
abbrev pub grouping_names : GroupBy → List (List ℕ)
grouping_names All = []
grouping_names (Names names) = names

-- whether a route groups by a label: by each for `...`, else where its name is listed
abbrev pub groups_by : GroupBy → Label → Bool
groups_by All l = true
groups_by (Names names) l = occurs_in l.name names

-- group: the labels of a set by which a route groups it; a name that the set lacks is absent
abbrev pub group_labels_of : Route → List Label → List Label
group_labels_of route labels = filter (groups_by route.group_by) labels

-- a group as a text: the route's name, `:` and the text of the group labels
abbrev pub key_text_of : Route → List Label → List ℕ
key_text_of route labels = route.name ++ codes ":" ++ label_set_text labels

-- whether each grouping name is a label name
abbrev pub has_grouping_names : Route → Bool
has_grouping_names route = list_all is_label_name (grouping_names route.group_by)

-- whether the list of grouping names is within its limit
abbrev pub has_few_names : Route → Bool
has_few_names route = nat_le (length (grouping_names route.group_by)) MAX_LABEL_NAMES

-- whether a duration is within its limit and not zero
abbrev pub is_interval : ℕ → Bool
is_interval duration = nat_lt 0 duration && nat_le duration MAX_DURATION

-- whether a route's durations are within their limit, and those that are intervals not zero
abbrev pub has_good_intervals : Route → Bool
has_good_intervals route =
    nat_le route.group_wait MAX_DURATION && is_interval route.group_interval && is_interval route.repeat_interval

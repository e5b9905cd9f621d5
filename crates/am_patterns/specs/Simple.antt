-- Simple patterns: those that both syntaxes read in the same way.
use Rattle.std.specs.Prelude.{ℕ, ◌+◌, ◌-◌, Bool, true, false, not, ◌&&◌, ◌||◌, ◌==◌, nat_lt, List, [], ◌∷◌}
use Rattle.std.specs.Prelude.{Option, None, Some, if◌then◌else◌}
use Rattle.am_patterns.specs.declared.pattern.TheConstants.{MAX_GROUPS}
use Rattle.am_patterns.specs.declared.simple.Place.{Place}

-- the characters `*`, `+` and `?`
abbrev pub is_operator : ℕ → Bool
is_operator c = c == 0x2A || c == 0x2B || c == 0x3F

-- the characters `|`, `^` and `$`
abbrev pub is_edge : ℕ → Bool
is_edge c = c == 0x7C || c == 0x5E || c == 0x24

-- the characters `[` and `{`
abbrev pub is_unlike : ℕ → Bool
is_unlike c = c == 0x5B || c == 0x7B

-- the characters that represent themselves behind a backslash: `\`, `.`, `(`, `)`, `[`, `{`, operators and edges
abbrev pub is_special : ℕ → Bool
is_special c = c == 0x5C || c == 0x2E || c == 0x28 || c == 0x29 || c == 0x5B || c == 0x7B || is_operator c || is_edge c

-- a place with something that can be repeated before it
abbrev pub behind_item : ℕ → Place
behind_item depth = record { is_escaped = false; is_repeatable = true; depth = depth }

-- a place where nothing can be repeated
abbrev pub behind_edge : ℕ → Place
behind_edge depth = record { is_escaped = false; is_repeatable = false; depth = depth }

-- a place behind a backslash
abbrev pub behind_backslash : ℕ → Place
behind_backslash depth = record { is_escaped = true; is_repeatable = false; depth = depth }

-- the place behind a character that has no backslash before it
unfoldable pub behind_plain : Place → ℕ → Option Place
behind_plain p c =
    if c == 0x5C then Some (behind_backslash p.depth)
    else if is_unlike c then None
    else if is_operator c then (if p.is_repeatable then Some (behind_edge p.depth) else None)
    else if is_edge c then Some (behind_edge p.depth)
    else if c == 0x28 then (if nat_lt p.depth (MAX_GROUPS - 1) then Some (behind_edge (p.depth + 1)) else None)
    else if c == 0x29 then (if nat_lt 0 p.depth then Some (behind_item (p.depth - 1)) else None)
    else Some (behind_item p.depth)

-- the place behind a character, unless the two syntaxes can read it in different ways
unfoldable pub behind : Place → ℕ → Option Place
behind p c = if p.is_escaped then (if is_special c then Some (behind_item p.depth) else None) else behind_plain p c

-- what is left from a place on is simple: it ends outside groups, and not behind a backslash
abbrev pub is_simple_from : Option Place → List ℕ → Bool
is_simple_from None cs = false
is_simple_from (Some p) [] = not p.is_escaped && p.depth == 0
is_simple_from (Some p) (c ∷ cs) = is_simple_from (behind p c) cs

-- a pattern of characters that represent themselves, of dots, bars, `^`, `$`, groups and special characters behind a backslash,
-- where each operator is behind a character, a dot or a group
abbrev pub is_simple : List ℕ → Bool
is_simple p = is_simple_from (Some (behind_edge 0)) p

-- Which slot may follow the slots that were noted.
use Rattle.std.specs.Prelude.{◌≡◌, ℕ, ◌+◌, ◌^◌, ◌<◌, List, length}
use Rattle.rotating_pick.specs.declared.kinds.Kind.{Kind}
use Rattle.slot_match.specs.declared.rows.Row.{Row}
use Rattle.slot_match.specs.Rows.{Names, row_of}
use Rattle.slot_match.specs.Matches.{Serves, IsMatch}
use Rattle.card_core.specs.Plans.{Plan}
use Rattle.output_queued.specs.Switches.{Matched, rows_after}

-- A slot of these rows and this match may follow: with it there are fewer than 2^32 slots, the rows are those of the queues,
-- and the match is one of the switch's ports and serves only what the rows name.
pub record MayFollow (cards : List Plan) (matches : List Matched) (rows : List Row) (matched : Matched) : Type 0 where
  pub few : length matches + 1 < 2 ^ 32
  pub rows_are : rows ≡ rows_after cards matches
  pub whole : IsMatch (length cards) matched
  pub named : (i j level : ℕ) (kind : Kind) → Serves matched i j level kind → Names (row_of rows i) level kind j

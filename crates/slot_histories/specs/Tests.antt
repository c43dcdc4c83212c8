-- Which posts are accepted and which events may come, as tests: for acts on a board, which are functions.
use Rattle.std.specs.Prelude.{ℕ, ◌^◌, ◌+◌, ◌==◌, ◌&&◌, ◌||◌, not, nat_lt, nat_le, Bool, true, false, List, length, drop, slice_index, Option, None, Some}
use Rattle.std.specs.List.{range_with_len, list_all}
use Rattle.std.specs.Int.{bit_at}
use Rattle.rotating_pick.specs.declared.kinds.Kind.{Kind}
use Rattle.rotating_pick.specs.declared.kinds.Kind.TheVariants.{Uni, Multi}
use Rattle.rotating_pick.specs.declared.limits.TheConstants.{LEVELS, MAX_PORTS}
use Rattle.slot_match.specs.declared.rows.Row.{Row}
use Rattle.slot_match.specs.declared.matching.Served.{Served}
use Rattle.slot_match.specs.Parts.{set_of}
use Rattle.eslip_rounds.specs.Decisions.{is_kind, is_named}
use Rattle.cell_cutter.specs.declared.cell.Cell.{Cell}
use Rattle.cell_cutter.specs.declared.sizes.TheConstants.{MAX_NUMBER, PAYLOAD_BYTES}
use Rattle.crossbar.specs.declared.cards.Post.{Post as CardPost}
use Rattle.slot_histories.specs.declared.events.Event.{Event}
use Rattle.slot_histories.specs.declared.events.Event.TheVariants.{Post, Decide, Take}
use Rattle.slot_histories.specs.Events.{Setup, posts_of, takes_of, decides, posted}
use Rattle.slot_histories.specs.Slots.{is_done_before, row_before, served_before}

-- whether port j is a member of the set
abbrev pub has : ℕ → ℕ → Bool
has ports j = bit_at ports j == 1

-- whether each set of the row passes
abbrev pub all_sets : (ℕ → Bool) → Row → Bool
all_sets test row = list_all test row.uni && list_all test row.multi

-- whether the row names none but the n ports
unfoldable pub is_within : ℕ → Row → Bool
is_within n row = all_sets (λ ports. nat_lt ports (2 ^ n)) row

-- whether the row names no output
unfoldable pub is_empty : Row → Bool
is_empty row = all_sets (λ ports. ports == 0) row

-- whether the row has sets for no levels but the four
unfoldable pub is_of_levels : Row → Bool
is_of_levels row = is_empty (record { uni = drop LEVELS row.uni; multi = drop LEVELS row.multi })

-- whether the part serves output j, at the level with the kind
unfoldable pub gives : Option Served → ℕ → ℕ → Kind → Bool
gives None j level kind = false
gives (Some served) j level kind = has served.outputs j && (level == served.level) && is_kind kind served.kind

-- the outputs below n that the row names and the part does not serve
unfoldable pub rest_of : ℕ → Option Served → Row → ℕ → Kind → ℕ
rest_of n served row level kind = set_of n (λ j. is_named row level kind j && not (gives served j level kind))

-- whether each of the first n ports that is in `inner` is in `outer`
unfoldable pub is_subset : ℕ → ℕ → ℕ → Bool
is_subset n inner outer = set_of n (λ j. has inner j && not (has outer j)) == 0

-- whether the new row keeps the sets of the level: the unicast rest stands in it, and what is left of a head is its head
unfoldable pub keeps_level : ℕ → Option Served → Row → Row → ℕ → Bool
keeps_level n served old new level =
    is_subset n (rest_of n served old level Uni) (slice_index new.uni level)
    && ((rest_of n served old level Multi == 0) || (slice_index new.multi level == rest_of n served old level Multi))

-- whether the new row keeps the old one, of which the part was served
unfoldable pub keeps_rest : ℕ → Option Served → Row → Row → Bool
keeps_rest n served old new = list_all (keeps_level n served old new) (range_with_len 0 LEVELS)

-- whether `used` is a number of used bytes of a last cell, or of one that is not the last
abbrev pub is_used : Bool → ℕ → Bool
is_used true used = nat_lt 0 used && nat_le used PAYLOAD_BYTES
is_used false used = used == PAYLOAD_BYTES

-- whether the cell is of the form of a cell
unfoldable pub is_cell_form : Cell → Bool
is_cell_form cell =
    nat_lt cell.input MAX_PORTS && nat_lt cell.level LEVELS && is_used cell.last cell.used && nat_le cell.number MAX_NUMBER
    && (length cell.payload == PAYLOAD_BYTES) && list_all (λ byte. byte == 0) (drop cell.used cell.payload)

-- whether the card posts a cell exactly where it was served, and the cell that was granted
unfoldable pub is_granted_cell : ℕ → Option Served → Option Cell → Bool
is_granted_cell card None None = true
is_granted_cell card None (Some cell) = false
is_granted_cell card (Some served) None = false
is_granted_cell card (Some served) (Some cell) = is_cell_form cell && (cell.input == card) && (cell.level == served.level) && is_kind cell.kind served.kind

-- whether the post is accepted from the card, which posted `last` for the slot before and was served there so
unfoldable pub is_accepted : ℕ → ℕ → Row → Option Served → CardPost → Bool
is_accepted n card last served post =
    is_within n post.row && is_of_levels post.row && keeps_rest n served last post.row && is_granted_cell card served post.cell
    && (is_empty post.row || post.more)

-- whether after these events this one may come
unfoldable pub is_allowed : Setup → List Event → Event → Bool
is_allowed s events (Post card post) =
    nat_lt card s.ports && (takes_of card events == length (posts_of card events)) && nat_lt (length (posts_of card events)) s.max_slots
    && not (is_done_before s.ports (posted events) (takes_of card events))
    && is_accepted s.ports card (row_before (posted events) card (takes_of card events)) (served_before s (posted events) card (takes_of card events)) post
is_allowed s events Decide = list_all (λ i. length (posts_of i events) == decides events + 1) (range_with_len 0 s.ports)
is_allowed s events (Take card) = nat_lt card s.ports && nat_lt (takes_of card events) (length (posts_of card events))
    && nat_lt (takes_of card events) (decides events)

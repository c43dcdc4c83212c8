-- A call that notes a slot in the waits of the unicast queues, by what is passed and by what comes back.
use Rattle.std.specs.Prelude.{◌≡◌, ℕ, ◌+◌, ◌*◌, ◌/◌, ◌%◌, ◌<◌, ◌≤◌, ◌⊎◌, ◌==◌, Bool, if◌then◌else◌, min, List, Option, Some, length, slice_index}
use Rattle.std.specs.Int.{bit_at}
use Rattle.rotating_pick.specs.declared.kinds.Kind.TheVariants.{Uni}
use Rattle.rotating_pick.specs.declared.limits.TheConstants.{LEVELS, MAX_PORTS}
use Rattle.slot_match.specs.declared.rows.Row.{Row}
use Rattle.slot_match.specs.declared.matching.Fed.{Fed}
use Rattle.slot_match.specs.Rows.{AreWithin, row_of}
use Rattle.slot_match.specs.Matches.{Serves}
use Rattle.service_bound.specs.Waits.{NotedSlot, is_waiting}
use Rattle.scheduler_c.specs.declared.feeds.FeedWords.{FeedWords}
use Rattle.scheduler_c.specs.Feeds.{AreFeeds, matched_from}

-- what is passed may be: a row for each of n inputs, which names none but the outputs, words for what feeds each
-- output, 256 words for the waits of each input, and one for each level
pub record IsNoteCall (n : ℕ) (rows : List Row) (feeds : List FeedWords) (waits longest : List ℕ) : Type 0 where
  pub some : 0 < n
  pub size : n ≤ MAX_PORTS
  pub within : AreWithin n rows
  pub are_feeds : AreFeeds n feeds
  pub wait_words : length waits ≡ 256 * n
  pub longest_words : length longest ≡ LEVELS

-- what is noted of the slot
abbrev pub slot_from : List Row → List FeedWords → NotedSlot
slot_from rows feeds = record { rows = rows; matched = matched_from feeds }

-- the place of an input's queues of a level
abbrev pub place_of : ℕ → ℕ → ℕ
place_of i level = LEVELS * i + level

-- the outputs whose queue is posted at the place
abbrev pub posted_at : List Row → ℕ → ℕ
posted_at rows place = slice_index (row_of rows (place / LEVELS)).uni (place % LEVELS)

-- this feeds an output from the place, as unicast
abbrev pub IsFromPlace : Option Fed → ℕ → Type 0
IsFromPlace fed place = fed ≡ Some (record { input = place / LEVELS; level = place % LEVELS; kind = Uni })

-- by these words output j is served from the place, as unicast
abbrev pub IsServedFrom : List FeedWords → ℕ → ℕ → Type 0
IsServedFrom feeds place j = Serves (matched_from feeds) (place / LEVELS) j (place % LEVELS) Uni

-- the wait of the queue at the place to output j
abbrev pub word_at : List ℕ → ℕ → ℕ → ℕ
word_at waits place j = slice_index waits (64 * place + j)

-- the wait of a queue after a slot: one slot more where it waits there, and 0 where it does not. It stands still at
-- the greatest number that a word has.
abbrev pub wait_next : Bool → ℕ → ℕ
wait_next waits before = if waits then min 4294967295 (before + 1) else 0

-- each queue has waited for one slot more, or for none
abbrev pub AreNoted : ℕ → NotedSlot → List ℕ → List ℕ → Type 0
AreNoted n slot old new =
    (i level j : ℕ) → i < n → level < LEVELS → j < MAX_PORTS
    → word_at new (place_of i level) j ≡ wait_next (is_waiting slot i j level) (word_at old (place_of i level) j)

-- the same of the queues at each place, of which those to these outputs wait
abbrev pub AreNotedBy : List ℕ → List ℕ → List ℕ → Type 0
AreNotedBy sets old new =
    (place j : ℕ) → place < length sets → j < MAX_PORTS
    → word_at new place j ≡ wait_next (bit_at (slice_index sets place) j == 1) (word_at old place j)

-- `after` is the longest of `before` and of the waits of the level at the first places
pub record IsLongest (level places : ℕ) (waits : List ℕ) (before after : ℕ) : Type 0 where
  pub grown : before ≤ after
  pub bound : (place j : ℕ) → place < places → place % LEVELS ≡ level → j < MAX_PORTS → word_at waits place j ≤ after
  pub reached : (after ≡ before) ⊎ ((place : ℕ) × (j : ℕ) × (place < places) × (place % LEVELS ≡ level) × (j < MAX_PORTS) × (after ≡ word_at waits place j))

-- for each level `after` is the longest of what is there before and of its waits
abbrev pub AreLongest : ℕ → List ℕ → List ℕ → List ℕ → Type 0
AreLongest places waits before after =
    (level : ℕ) → level < LEVELS → IsLongest level places waits (slice_index before level) (slice_index after level)

-- The bytes of journal files: which files there are, and how each is spelled.
use Rattle.std.specs.Prelude.{◌≡◌, ℕ, ◌+◌, ◌*◌, ◌^◌, ◌<◌, ◌≤◌, ◌==◌, not, Bool, true, false, if◌then◌else◌, All, List, [], ◌∷◌, ◌++◌, length, map}
use Rattle.std.specs.Prelude.{slice_index, Option, None, Some}
use Rattle.std.specs.List.{flat_map}
use Rattle.byteorder.specs.Endian.{big_bytes}
use Rattle.rotating_pick.specs.declared.kinds.Kind.{Kind}
use Rattle.rotating_pick.specs.declared.kinds.Kind.TheVariants.{Uni, Multi}
use Rattle.rotating_pick.specs.declared.limits.TheConstants.{LEVELS}
use Rattle.slot_match.specs.declared.rows.Row.{Row}
use Rattle.slot_match.specs.declared.matching.Fed.{Fed}
use Rattle.slot_match.specs.Parts.{set_of}
use Rattle.slot_histories.specs.Answers.{JournalSlot}
use Rattle.crossbar.specs.declared.cards.Post.{Post as CardPost}
use Rattle.board_state.specs.Boards.{JournalValue}
use Rattle.journal_check.specs.Fields.{most_slots, no_input}
use Rattle.journal_check.specs.declared.posts.FilePost.{FilePost}
use Rattle.journal_check.specs.Files.{FileSlot, JournalFile}

-- all sets of a row, by bit: those of unicast, and then those of multicast
abbrev pub all_sets : Row → List ℕ
all_sets row = row.uni ++ row.multi

-- which sets of a row are not empty
abbrev pub sets_there : Row → ℕ
sets_there row = set_of (2 * LEVELS) (λ bit. not (slice_index (all_sets row) bit == 0))

-- the bytes of a set, and none of the empty one
abbrev pub set_text : ℕ → List ℕ
set_text set = if set == 0 then [] else big_bytes 8 set

-- the number of a flag
abbrev pub number_of : Bool → ℕ
number_of true = 1
number_of false = 0

-- the bytes of a post
unfoldable pub post_text : FilePost → List ℕ
post_text post = sets_there post.row ∷ number_of post.more ∷ flat_map set_text (all_sets post.row)

-- the number of a level and a kind
abbrev pub rank_of : ℕ → Kind → ℕ
rank_of level Uni = 2 * level
rank_of level Multi = 2 * level + 1

-- the bytes of what feeds an output
abbrev pub output_text : Option Fed → List ℕ
output_text None = no_input ∷ 0 ∷ []
output_text (Some fed) = fed.input ∷ rank_of fed.level fed.kind ∷ []

-- the bytes of a slot
unfoldable pub slot_text : FileSlot → List ℕ
slot_text slot = flat_map post_text slot.posts ++ flat_map output_text slot.matched

-- the 12 bytes of the header: the magic, the ports, the rounds, two zeros and the number of slots
abbrev pub header_text : ℕ → ℕ → ℕ → List ℕ
header_text ports rounds slots = big_bytes 4 0x54544a31 ++ ports ∷ rounds ∷ 0 ∷ 0 ∷ big_bytes 4 slots

-- the bytes of a file
unfoldable pub file_text : JournalFile → List ℕ
file_text file = header_text file.ports file.rounds (length file.slots) ++ flat_map slot_text file.slots

-- a row of four levels of each kind, which names none but the n outputs
pub record IsFileRow (n : ℕ) (row : Row) : Type 0 where
  pub uni_levels : length row.uni ≡ LEVELS
  pub multi_levels : length row.multi ≡ LEVELS
  pub uni_within : All (λ set. set < 2 ^ n) row.uni
  pub multi_within : All (λ set. set < 2 ^ n) row.multi

-- what feeds an output of n ports
abbrev pub IsFileOutput : ℕ → Option Fed → Type 0
IsFileOutput n None = Unit {0}
IsFileOutput n (Some fed) = (fed.input < n) × (fed.level < LEVELS)

-- a slot of n ports
pub record IsFileSlot (n : ℕ) (slot : FileSlot) : Type 0 where
  pub cards : length slot.posts ≡ n
  pub rows : All (λ post. IsFileRow n post.row) slot.posts
  pub outputs : length slot.matched ≡ n
  pub matches : All (IsFileOutput n) slot.matched

-- what a journal file can tell
pub record IsFile (file : JournalFile) : Type 0 where
  pub ports_some : 0 < file.ports
  pub ports_few : file.ports ≤ 64
  pub rounds_some : 0 < file.rounds
  pub rounds_few : file.rounds ≤ 64
  pub slots_some : 0 < length file.slots
  pub slots_few : length file.slots ≤ most_slots file.ports
  pub slots : All (IsFileSlot file.ports) file.slots

-- the row has a set for each of the four levels of each kind
pub record HasLevels (row : Row) : Type 0 where
  pub uni : length row.uni ≡ LEVELS
  pub multi : length row.multi ≡ LEVELS

-- so has each row of the file
abbrev pub HaveLevels : JournalFile → Type 0
HaveLevels file = All (λ slot. All (λ post. HasLevels post.row) slot.posts) file.slots

-- what is written of a post, without its cell
abbrev pub file_post : CardPost → FilePost
file_post post = record { row = post.row; more = post.more }

-- what is written of a slot
abbrev pub file_slot : JournalSlot → FileSlot
file_slot slot = record { posts = map file_post slot.posts; matched = slot.matched }

-- what is written of a journal
abbrev pub file_of : JournalValue → JournalFile
file_of journal = record { ports = journal.setup.ports; rounds = journal.setup.rounds; slots = map file_slot journal.slots }

-- Journal files: what stands in one, and how it is read, field by field.
use Rattle.std.specs.Prelude.{ℕ, ◌-◌, ◌/◌, ◌%◌, ◌==◌, Bool, if◌then◌else◌, List, [], ◌∷◌, length, map, Option, None, Some, Result, Ok, Err}
use Rattle.std.specs.List.{range_with_len}
use Rattle.std.specs.Int.{bit_at}
use Rattle.rotating_pick.specs.declared.kinds.Kind.TheVariants.{Uni, Multi}
use Rattle.slot_match.specs.declared.rows.Row.{Row}
use Rattle.slot_match.specs.declared.matching.Fed.{Fed}
use Rattle.journal_check.specs.declared.header.Header.{Header}
use Rattle.journal_check.specs.declared.posts.FilePost.{FilePost}
use Rattle.journal_check.specs.declared.fields.Field.TheVariants.{Magic, Ports, Rounds, Zeros, Slots, Sets, More, Set, Input, Rank}
use Rattle.journal_check.specs.Fields.{no_input, Reading, number_in, read_on, each_in}

-- a slot: its posts by card, and what feeds each output
pub record FileSlot : Type 0 where
  pub posts : List FilePost
  pub matched : List (Option Fed)

-- what a journal file tells: the ports of the switch, the rounds of each slot, and the slots
pub record JournalFile : Type 0 where
  pub ports : ℕ
  pub rounds : ℕ
  pub slots : List FileSlot

-- the rows of a slot, by card
abbrev pub rows_of : FileSlot → List Row
rows_of slot = map (λ post. post.row) slot.posts

-- whether more is to come, by card
abbrev pub mores_of : FileSlot → List Bool
mores_of slot = map (λ post. post.more) slot.posts

-- a set of outputs, if its bit is set
abbrev pub set_in : ℕ → ℕ → ℕ → List ℕ → Reading ℕ
set_in n sets bit bytes = if bit_at sets bit == 1 then number_in (Set n) bytes else Ok (0, bytes)

-- a row: the sets of unicast by level, of bits 0 to 3, and then those of multicast, of bits 4 to 7
unfoldable pub row_in : ℕ → ℕ → List ℕ → Reading Row
row_in n sets bytes =
    read_on (each_in (set_in n sets) (0 ∷ 1 ∷ 2 ∷ 3 ∷ []) bytes) (λ uni after_uni.
    read_on (each_in (set_in n sets) (4 ∷ 5 ∷ 6 ∷ 7 ∷ []) after_uni) (λ multi rest.
    Ok (record { uni = uni; multi = multi }, rest)))

-- a post: which sets there are, whether more is to come, and the sets
unfoldable pub post_in : ℕ → List ℕ → Reading FilePost
post_in n bytes =
    read_on (number_in Sets bytes) (λ sets after_sets.
    read_on (number_in More after_sets) (λ more after_more.
    read_on (row_in n sets after_more) (λ row rest.
    Ok (record { row = row; more = more == 1 }, rest))))

-- what feeds an output, by its two numbers: the second is twice the level, and one more for multicast
abbrev pub fed_by : ℕ → ℕ → Option Fed
fed_by input rank = if input == no_input then None else Some (record { input = input; level = rank / 2; kind = (if rank % 2 == 0 then Uni else Multi) })

-- an output: the input that feeds it, with its level and kind
unfoldable pub output_in : ℕ → List ℕ → Reading (Option Fed)
output_in n bytes =
    read_on (number_in (Input n) bytes) (λ input after_input.
    read_on (number_in (Rank input) after_input) (λ rank rest.
    Ok (fed_by input rank, rest)))

-- a slot: n posts, and then n outputs
unfoldable pub slot_in : ℕ → List ℕ → Reading FileSlot
slot_in n bytes =
    read_on (each_in (λ i. post_in n) (range_with_len 0 n) bytes) (λ posts after_posts.
    read_on (each_in (λ j. output_in n) (range_with_len 0 n) after_posts) (λ matched rest.
    Ok (record { posts = posts; matched = matched }, rest)))

-- the header
unfoldable pub header_in : List ℕ → Reading Header
header_in bytes =
    read_on (number_in Magic bytes) (λ magic after_magic.
    read_on (number_in Ports after_magic) (λ ports after_ports.
    read_on (number_in Rounds after_ports) (λ rounds after_rounds.
    read_on (number_in Zeros after_rounds) (λ zeros after_zeros.
    read_on (number_in (Slots ports) after_zeros) (λ slots rest.
    Ok (record { ports = ports; rounds = rounds; slots = slots }, rest))))))

-- nothing: bytes that are left are bad
abbrev pub end_in : List ℕ → Reading (List ℕ)
end_in [] = Ok ([], [])
end_in (byte ∷ bytes) = Err (byte ∷ bytes)

-- a whole file: the header, so many slots, and nothing after them
unfoldable pub file_in : List ℕ → Reading JournalFile
file_in bytes =
    read_on (header_in bytes) (λ header after_header.
    read_on (each_in (λ t. slot_in header.ports) (range_with_len 0 header.slots) after_header) (λ slots after_slots.
    read_on (end_in after_slots) (λ nothing rest.
    Ok (record { ports = header.ports; rounds = header.rounds; slots = slots }, rest))))

-- the place in the bytes from which only these are left
abbrev pub place_in : List ℕ → List ℕ → ℕ
place_in bytes left = length bytes - length left

-- What the bytes of a file tell; or the place of its first bad field, or of the first byte after its last slot.
abbrev pub told_by : List ℕ → Reading JournalFile → Result JournalFile ℕ
told_by bytes (Ok read) = Ok read.0
told_by bytes (Err bad) = Err (place_in bytes bad)

unfoldable pub journal_in : List ℕ → Result JournalFile ℕ
journal_in bytes = told_by bytes (file_in bytes)

-- What is read of a slot, of a header and of a whole file is spelled by its bytes: no other bytes are read as the same file.
use Rattle.std.proofs.Common.{◌≡◌, ℕ, ◌≤◌, ◌∙◌, List, [], ◌∷◌, ◌++◌, Ok, Err, sym, ap, arith}
use Rattle.std.specs.List.{flat_map, range_with_len}
use Rattle.std.proofs.lemmas.Bool.Decides.{Decides-eqb}
use Rattle.std.proofs.lemmas.List.{append-nil}
use Rattle.byteorder.specs.Endian.{big_bytes}
use Rattle.journal_check.specs.declared.fields.Field.{Field}
use Rattle.journal_check.specs.declared.fields.Field.TheVariants.{Magic, Ports, Rounds, Zeros, Slots}
use Rattle.journal_check.specs.declared.header.Header.{Header}
use Rattle.journal_check.specs.Fields.{Reading, number_in, read_on, each_in}
use Rattle.journal_check.specs.Files.{FileSlot, JournalFile, post_in, output_in, slot_in, header_in, end_in, file_in, told_by, journal_in}
use Rattle.journal_check.specs.Texts.{post_text, output_text, slot_text, header_text, file_text}
use Rattle.journal_check.proofs.NumberReads.{from_bounds}
use Rattle.journal_check.proofs.Spelled.{one_byte}
use Rattle.journal_check.proofs.NumbersSpelled.{AreBytes, Spells, follow, spells_on, ends_here, AreSpelled, each_spelled, IsSpelled, number_spelled}
use Rattle.journal_check.proofs.RowsSpelled.{two_bytes, post_spelled}
use Rattle.journal_check.proofs.OutputsSpelled.{output_spelled}

-- What is read as a slot of n ports is spelled.
slot_spelled : (n : ℕ) → n ≤ 64 → (bytes : List ℕ) → AreBytes bytes → Spells (λ (slot : FileSlot) text. text ≡ slot_text slot) bytes (slot_in n bytes)
unfolding slot_in slot_text
slot_spelled n few bytes are =
    spells_on (AreSpelled post_text n) (λ (slot : FileSlot) text. text ≡ slot_text slot) bytes (each_in (λ i. post_in n) (range_with_len 0 n) bytes) _ are
    (each_spelled post_text (post_in n) (post_spelled n) n 0 bytes are) (λ posts posts_bytes after_posts after_posts_are posts_are.
    spells_on (AreSpelled output_text n) (λ (slot : FileSlot) text. posts_bytes ++ text ≡ slot_text slot) after_posts
    (each_in (λ j. output_in n) (range_with_len 0 n) after_posts) _ after_posts_are
    (each_spelled output_text (output_in n) (output_spelled n few) n 0 after_posts after_posts_are) (λ matched matched_bytes rest rest_are matched_are.
    ends_here (λ (slot : FileSlot) text. posts_bytes ++ (matched_bytes ++ text) ≡ slot_text slot) (record { posts = posts; matched = matched }) rest
    (ap (λ (text : List ℕ). text ++ (matched_bytes ++ [])) posts_are.1
    ∙ ap (λ (text : List ℕ). flat_map post_text posts ++ text) (append-nil matched_bytes ∙ matched_are.1))))

-- a header and its text
record IsHeaderText (header : Header) (text : List ℕ) : Type 0 where
  few : header.ports ≤ 64
  spelled : text ≡ header_text header.ports header.rounds header.slots

-- A field with its number and its text.
record FieldText (field : Field) : Type 0 where
  number : ℕ
  text : List ℕ
  is : IsSpelled field number text

-- The five fields of a header make its text, and it has at most 64 ports.
header_parts : (magic : FieldText Magic) (ports : FieldText Ports) (rounds : FieldText Rounds) (zeros : FieldText Zeros)
    (slots : FieldText (Slots ports.number))
    → IsHeaderText (record { ports = ports.number; rounds = rounds.number; slots = slots.number })
    (magic.text ++ (ports.text ++ (rounds.text ++ (zeros.text ++ (slots.text ++ [])))))
header_parts magic ports rounds zeros slots =
    let few : ports.number ≤ 64 = (from_bounds 1 64 ports.number ports.is.1).1 in
    let short : rounds.number ≤ 64 = (from_bounds 1 64 rounds.number rounds.is.1).1 in
    let rest = zeros.text ++ (slots.text ++ []) in
    record {
      few = few;
      spelled =
          ap (λ (text : List ℕ). text ++ (ports.text ++ (rounds.text ++ rest)))
          (magic.is.0 ∙ ap (big_bytes 4) ((Decides-eqb magic.number 0x54544a31).0 magic.is.1))
          ∙ ap (λ (text : List ℕ). big_bytes 4 0x54544a31 ++ text)
          (two_bytes ports.number rounds.number ports.text rounds.text rest
          (ports.is.0 ∙ one_byte ports.number (omega arith)) (rounds.is.0 ∙ one_byte rounds.number (omega arith))
          ∙ ap (λ (text : List ℕ). ports.number ∷ rounds.number ∷ (text ++ (slots.text ++ [])))
          (zeros.is.0 ∙ ap (big_bytes 2) ((Decides-eqb zeros.number 0).0 zeros.is.1))
          ∙ ap (λ (text : List ℕ). ports.number ∷ rounds.number ∷ 0 ∷ 0 ∷ text) (append-nil slots.text ∙ slots.is.0));
    }

-- What is read as a header is spelled, and has at most 64 ports.
header_spelled : (bytes : List ℕ) → AreBytes bytes → Spells IsHeaderText bytes (header_in bytes)
unfolding header_in
header_spelled bytes are =
    spells_on (IsSpelled Magic) IsHeaderText bytes (number_in Magic bytes) _ are (number_spelled Magic bytes are)
    (λ magic magic_text after_magic after_magic_are magic_is.
    spells_on (IsSpelled Ports) (λ header text. IsHeaderText header (magic_text ++ text)) after_magic (number_in Ports after_magic) _ after_magic_are
    (number_spelled Ports after_magic after_magic_are) (λ ports ports_text after_ports after_ports_are ports_is.
    spells_on (IsSpelled Rounds) (λ header text. IsHeaderText header (magic_text ++ (ports_text ++ text))) after_ports (number_in Rounds after_ports) _
    after_ports_are (number_spelled Rounds after_ports after_ports_are) (λ rounds rounds_text after_rounds after_rounds_are rounds_is.
    spells_on (IsSpelled Zeros) (λ header text. IsHeaderText header (magic_text ++ (ports_text ++ (rounds_text ++ text)))) after_rounds
    (number_in Zeros after_rounds) _ after_rounds_are (number_spelled Zeros after_rounds after_rounds_are)
    (λ padding padding_text after_padding after_padding_are padding_is.
    spells_on (IsSpelled (Slots ports)) (λ header text. IsHeaderText header (magic_text ++ (ports_text ++ (rounds_text ++ (padding_text ++ text)))))
    after_padding (number_in (Slots ports) after_padding) _ after_padding_are (number_spelled (Slots ports) after_padding after_padding_are)
    (λ slots slots_text rest rest_are slots_is.
    ends_here (λ header text. IsHeaderText header (magic_text ++ (ports_text ++ (rounds_text ++ (padding_text ++ (slots_text ++ text))))))
    (record { ports = ports; rounds = rounds; slots = slots }) rest
    (header_parts (record { number = magic; text = magic_text; is = magic_is }) (record { number = ports; text = ports_text; is = ports_is })
    (record { number = rounds; text = rounds_text; is = rounds_is }) (record { number = padding; text = padding_text; is = padding_is })
    (record { number = slots; text = slots_text; is = slots_is })))))))

-- a file that is read has no other text
abbrev IsWhole : List ℕ → Reading JournalFile → Type 0
IsWhole bytes (Ok read) = bytes ≡ file_text read.0
IsWhole bytes (Err bad) = Unit {0}

-- What is read as a file is spelled by all bytes.
file_spelled : (bytes : List ℕ) → AreBytes bytes → IsWhole bytes (file_in bytes)
unfolding file_in file_text
file_spelled bytes are =
    follow IsHeaderText (IsWhole bytes) bytes (header_in bytes) _ are (header_spelled bytes are) (λ bad. tt)
    (λ header head_text after_header whole after_header_are header_is.
    follow (AreSpelled slot_text header.slots) (IsWhole bytes) after_header
    (each_in (λ t. slot_in header.ports) (range_with_len 0 header.slots) after_header) _ after_header_are
    (each_spelled slot_text (slot_in header.ports) (slot_spelled header.ports header_is.few) header.slots 0 after_header after_header_are) (λ bad. tt)
    (λ slots slots_bytes after_slots slots_whole after_slots_are slots_are.
    last header slots head_text slots_bytes after_slots (whole ∙ ap (λ (text : List ℕ). head_text ++ text) slots_whole) header_is slots_are)) where
      last : (header : Header) (slots : List FileSlot) (head_text slots_bytes after_slots : List ℕ) → bytes ≡ head_text ++ (slots_bytes ++ after_slots)
          → IsHeaderText header head_text → AreSpelled slot_text header.slots slots slots_bytes
          → IsWhole bytes (read_on (end_in after_slots) (λ nothing rest. Ok (record { ports = header.ports; rounds = header.rounds; slots = slots }, rest)))
      last header slots head_text slots_bytes [] whole header_is slots_are =
          whole ∙ ap (λ (text : List ℕ). text ++ (slots_bytes ++ [])) header_is.spelled
          ∙ ap (λ (text : List ℕ). header_text header.ports header.rounds header.slots ++ text) (append-nil slots_bytes ∙ slots_are.1)
          ∙ ap (λ (count : ℕ). header_text header.ports header.rounds count ++ flat_map slot_text slots) (sym slots_are.0)
      last header slots head_text slots_bytes (byte ∷ after_slots) whole header_is slots_are = tt

-- The file that a reading tells has the bytes as its text.
told_whole : (bytes : List ℕ) (file : JournalFile) (reading : Reading JournalFile) → told_by bytes reading ≡ Ok file → IsWhole bytes reading
    → bytes ≡ file_text file
told_whole bytes file (Ok read) told whole = let same : read.0 ≡ file = cc in whole ∙ ap file_text same
told_whole bytes file (Err bad) told whole = absurd (cc)

-- Bytes that are read as a file are its text.
pub told_is_spelled : (bytes : List ℕ) (file : JournalFile) → AreBytes bytes → journal_in bytes ≡ Ok file → bytes ≡ file_text file
unfolding journal_in
told_is_spelled bytes file are told = told_whole bytes file (file_in bytes) told (file_spelled bytes are)

-- A file that grows by one slot more.
use Rattle.std.proofs.Common.{◌≡◌, ℕ, ◌+◌, ◌≤◌, ◌∙◌, List, [], ◌∷◌, ◌++◌, length, map, Option, refl, sym, ap, arith, append_assoc}
use Rattle.std.specs.List.{flat_map}
use Rattle.std.proofs.lemmas.Grind.{flat_map-append}
use Rattle.std.proofs.lemmas.List.{length-append, append-nil}
use Rattle.std.proofs.lemmas.List.Folds.{flat_map-map}
use Rattle.crossbar.specs.declared.cards.Post.{Post as CardPost}
use Rattle.slot_match.specs.declared.matching.Fed.{Fed}
use Rattle.journal_check.specs.declared.limits.TheConstants.{MAX_JOURNAL_BYTES}
use Rattle.journal_check.specs.Files.{FileSlot, JournalFile}
use Rattle.journal_check.specs.Texts.{file_post, post_text, output_text, header_text, slot_text, file_text}
use Rattle.journal_check.specs.WritingSteps.{WriterValue, IsWriting}

-- the file with one slot more
abbrev pub with_slot : JournalFile → FileSlot → JournalFile
with_slot file slot = record file { slots = file.slots ++ slot ∷ [] }

-- what is written of a slot of these posts and this match
abbrev pub slot_by : List CardPost → List (Option Fed) → FileSlot
slot_by posts matched = record { posts = map file_post posts; matched = matched }

slots_more : (slots : List FileSlot) (slot : FileSlot) → flat_map slot_text (slots ++ slot ∷ []) ≡ flat_map slot_text slots ++ slot_text slot
slots_more slots slot = flat_map-append slot_text slots (slot ∷ []) ∙ ap (λ (t : List ℕ). flat_map slot_text slots ++ t) (append-nil (slot_text slot))

-- the length of a file
file_length : (file : JournalFile) → length (file_text file) ≡ 12 + length (flat_map slot_text file.slots)
unfolding file_text
file_length file = length-append (header_text file.ports file.rounds (length file.slots)) (flat_map slot_text file.slots)

file_longer : (file : JournalFile) (slot : FileSlot) → length (file_text (with_slot file slot)) ≡ length (file_text file) + length (slot_text slot)
file_longer file slot =
    let more = ap length (slots_more file.slots slot) ∙ length-append (flat_map slot_text file.slots) (slot_text slot) in
    let before = file_length file in
    let after = file_length (with_slot file slot) in
    omega arith

-- the bytes of a slot
slot_is : (posts : List CardPost) (matched : List (Option Fed))
    → slot_text (slot_by posts matched) ≡ flat_map (λ (post : CardPost). post_text (file_post post)) posts ++ flat_map output_text matched
unfolding slot_text
slot_is posts matched = ap (λ (t : List ℕ). t ++ flat_map output_text matched) (flat_map-map post_text file_post posts)

-- before the first slot
pub at_header : (ports rounds : ℕ) (bytes : List ℕ) → bytes ≡ header_text ports rounds 0
    → IsWriting (record { ports = ports; rounds = rounds; slots = [] }) (record { ports = ports; rounds = rounds; slots = 0; len = 12; bytes = bytes })
at_header ports rounds bytes header = record {
  ports = refl;
  rounds = refl;
  slots = refl;
  len = sym (file_length (record { ports = ports; rounds = rounds; slots = [] }));
  bytes = λ few. header ∙ sym (append-nil (header_text ports rounds 0));
}

-- A writer has counted a slot more, of these posts and this match, and keeps its bytes where they are not too many.
pub record HasPut (old new : WriterValue) (posts : List CardPost) (matched : List (Option Fed)) : Type 0 where
  pub ports : new.ports ≡ old.ports
  pub rounds : new.rounds ≡ old.rounds
  pub slots : new.slots ≡ old.slots + 1
  pub len : new.len ≡ old.len + (length (flat_map (λ (post : CardPost). post_text (file_post post)) posts) + length (flat_map output_text matched))
  pub kept : new.len ≤ MAX_JOURNAL_BYTES
      → new.bytes ≡ (old.bytes ++ flat_map (λ (post : CardPost). post_text (file_post post)) posts) ++ flat_map output_text matched

-- it is a writer of the file and that slot
pub slot_put : (file : JournalFile) (old new : WriterValue) (posts : List CardPost) (matched : List (Option Fed)) → IsWriting file old
    → HasPut old new posts matched → IsWriting (with_slot file (slot_by posts matched)) new
slot_put file old new posts matched was put =
    let slot = slot_by posts matched in
    let first = flat_map (λ (post : CardPost). post_text (file_post post)) posts in
    let second = flat_map output_text matched in
    let header = header_text file.ports file.rounds 0 in
    let slot_len : length (slot_text slot) ≡ length first + length second = ap length (slot_is posts matched) ∙ length-append first second in
    let whole = file_longer file slot in
    let so_far = was.len in
    let len = put.len in
    record {
      ports = put.ports ∙ was.ports;
      rounds = put.rounds ∙ was.rounds;
      slots = let count = was.slots in let slots = put.slots in let more = length-append file.slots (slot ∷ []) in omega arith;
      len = omega arith;
      bytes = λ few.
          let few_before : old.len ≤ MAX_JOURNAL_BYTES = omega arith in
          put.kept few ∙ ap (λ (t : List ℕ). (t ++ first) ++ second) (was.bytes few_before)
          ∙ append_assoc (header ++ flat_map slot_text file.slots) first second
          ∙ append_assoc header (flat_map slot_text file.slots) (first ++ second)
          ∙ ap (λ (t : List ℕ). header ++ (flat_map slot_text file.slots ++ t)) (sym (slot_is posts matched))
          ∙ ap (λ (t : List ℕ). header ++ t) (sym (slots_more file.slots slot));
    }

-- with the number of its slots they are its text
pub slots_set : (file : JournalFile) (writer : WriterValue) (text : List ℕ) → IsWriting file writer → length (file_text file) ≤ MAX_JOURNAL_BYTES
    → ((ports rounds before : ℕ) (rest : List ℕ) → writer.bytes ≡ header_text ports rounds before ++ rest
    → text ≡ header_text ports rounds writer.slots ++ rest)
    → text ≡ file_text file
unfolding file_text
slots_set file writer text is few set =
    let len = is.len in
    let at_most : writer.len ≤ MAX_JOURNAL_BYTES = omega arith in
    set file.ports file.rounds 0 (flat_map slot_text file.slots) (is.bytes at_most)
    ∙ ap (λ (k : ℕ). header_text file.ports file.rounds k ++ flat_map slot_text file.slots) is.slots

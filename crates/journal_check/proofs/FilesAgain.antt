-- What is spelled of outputs, slots and whole files is read again.
use Rattle.std.proofs.Common.{◌≡◌, ℕ, ◌+◌, ◌*◌, ◌/◌, ◌%◌, ◌<◌, ◌≤◌, ◌==◌, ◌∙◌, true, false, nat_le, nat_lt, List, [], ◌∷◌, ◌++◌, length}
use Rattle.std.proofs.Common.{Option, None, Some, Ok, refl, sym, ap, arith, inl, inr, append_assoc, le-leb, lt-ltb, if◌then◌else◌}
use Rattle.std.specs.List.{flat_map, range_with_len}
use Rattle.std.proofs.lemmas.Bool.{cond-true, cond-false, and_from, cases_Bool, eq-eqb, or_left, or_right}
use Rattle.std.proofs.lemmas.Bool.Decides.{Decides-eqb}
use Rattle.std.proofs.lemmas.List.{append-nil}
use Rattle.journal_check.proofs.NumberReads.{most_few}
use Rattle.byteorder.specs.Endian.{big_bytes}
use Rattle.rotating_pick.specs.declared.kinds.Kind.{Kind}
use Rattle.rotating_pick.specs.declared.kinds.Kind.TheVariants.{Uni, Multi}
use Rattle.slot_match.specs.declared.matching.Fed.{Fed}
use Rattle.journal_check.specs.declared.fields.Field.TheVariants.{Magic, Ports, Rounds, Zeros, Slots, Input, Rank}
use Rattle.journal_check.specs.declared.posts.FilePost.{FilePost}
use Rattle.journal_check.specs.Fields.{allows, is_from, most_slots, no_input, Reading, each_in}
use Rattle.journal_check.specs.Files.{FileSlot, JournalFile, post_in, fed_by, output_in, slot_in, header_in, file_in, told_by, journal_in}
use Rattle.journal_check.specs.Texts.{post_text, rank_of, output_text, slot_text, header_text, file_text, IsFileRow, IsFileOutput, IsFileSlot, IsFile}
use Rattle.journal_check.proofs.Spelled.{number_again, each_again}
use Rattle.journal_check.proofs.RowsAgain.{byte_again, post_again}

kind_again : (input level : ℕ) (kind : Kind) → (input == no_input) ≡ false
    → fed_by input (rank_of level kind) ≡ Some (record { input = input; level = level; kind = kind })
kind_again input level Uni some =
    let half : 2 * level / 2 ≡ level = omega arith in
    let even : (2 * level % 2 == 0) ≡ true = eq-eqb (2 * level % 2) 0 (omega arith) in
    let fed : ℕ → Kind → Fed = λ l k. record { input = input; level = l; kind = k } in
    cond-false (input == no_input) None (Some (fed (2 * level / 2) (if 2 * level % 2 == 0 then Uni else Multi))) some
    ∙ ap (λ (l : ℕ). Some (fed l (if 2 * level % 2 == 0 then Uni else Multi))) half
    ∙ ap (λ (k : Kind). Some (fed level k)) (cond-true (2 * level % 2 == 0) Uni Multi even)
kind_again input level Multi some =
    let rank = 2 * level + 1 in
    let half : rank / 2 ≡ level = omega arith in
    let odd : (rank % 2 == 0) ≡ false = not_zero (rank % 2) (omega arith) in
    let fed : ℕ → Kind → Fed = λ l k. record { input = input; level = l; kind = k } in
    cond-false (input == no_input) None (Some (fed (rank / 2) (if rank % 2 == 0 then Uni else Multi))) some
    ∙ ap (λ (l : ℕ). Some (fed l (if rank % 2 == 0 then Uni else Multi))) half
    ∙ ap (λ (k : Kind). Some (fed level k)) (cond-false (rank % 2 == 0) Uni Multi odd) where
      not_zero : (x : ℕ) → x ≡ 1 → (x == 0) ≡ false
      not_zero x one = elim (cases_Bool (x == 0)) [ inl e ↦ absurd (let zero_too : x ≡ 0 = (Decides-eqb x 0).0 e in omega arith) | inr e ↦ e ]

rank_small : (level : ℕ) (kind : Kind) → level < 4 → rank_of level kind ≤ 7
rank_small level Uni below = omega arith
rank_small level Multi below = omega arith

module _ (n : ℕ) (few : n ≤ 64) where
  pub output_again : (fed : Option Fed) (rest : List ℕ) → IsFileOutput n fed → output_in n (output_text fed ++ rest) ≡ Ok (fed, rest)
  unfolding output_in
  output_again None rest good =
      rw (byte_again (Input n) refl 255 (0 ∷ rest) (omega arith) (or_right (nat_lt 255 n) true refl))
      (rw (byte_again (Rank 255) refl 0 rest (omega arith) refl) refl)
  output_again (Some fed) rest good =
      let input = fed.input in
      let rank = rank_of fed.level fed.kind in
      let below : input < n = good.0 in
      let seven : rank ≤ 7 = rank_small fed.level fed.kind good.1 in
      let some : (input == no_input) ≡ false =
      elim (cases_Bool (input == no_input)) [ inl e ↦ absurd (let is : input ≡ 255 = (Decides-eqb input 255).0 e in omega arith) | inr e ↦ e ] in
      let in_ports : allows (Input n) input ≡ true = or_left (nat_lt input n) (input == no_input) (lt-ltb input n below) in
      let in_ranks : allows (Rank input) rank ≡ true = cond-false (input == no_input) (rank == 0) (is_from 0 7 rank) some
      ∙ and_from (nat_le 0 rank) (nat_le rank 7) (le-leb 0 rank (omega arith)) (le-leb rank 7 seven) in
      rw (byte_again (Input n) refl input (rank ∷ rest) (omega arith) in_ports)
      (rw (byte_again (Rank input) refl rank rest (omega arith) in_ranks)
      (ap (λ (o : Option Fed). let r : Reading (Option Fed) = Ok (o, rest) in r) (kind_again input fed.level fed.kind some)))

  pub slot_again : (slot : FileSlot) (rest : List ℕ) → IsFileSlot n slot → slot_in n (slot_text slot ++ rest) ≡ Ok (slot, rest)
  unfolding slot_in slot_text
  slot_again slot rest good =
      let tail = flat_map output_text slot.matched ++ rest in
      let posts : each_in (λ i. post_in n) (range_with_len 0 n) (flat_map post_text slot.posts ++ tail) ≡ Ok (slot.posts, tail) =
      ap (λ (k : ℕ). each_in (λ i. post_in n) (range_with_len 0 k) (flat_map post_text slot.posts ++ tail)) (sym good.cards)
      ∙ each_again (post_in n) post_text (λ (post : FilePost). IsFileRow n post.row) (λ post more. post_again n few post more) slot.posts 0 tail good.rows in
      let outputs : each_in (λ j. output_in n) (range_with_len 0 n) tail ≡ Ok (slot.matched, rest) =
      ap (λ (k : ℕ). each_in (λ j. output_in n) (range_with_len 0 k) tail) (sym good.outputs)
      ∙ each_again (output_in n) output_text (IsFileOutput n) output_again slot.matched 0 rest good.matches in
      rw (append_assoc (flat_map post_text slot.posts) (flat_map output_text slot.matched) rest) (rw posts (rw outputs refl))

from_to : (low high x : ℕ) → low ≤ x → x ≤ high → is_from low high x ≡ true
from_to low high x above below = and_from (nat_le low x) (nat_le x high) (le-leb low x above) (le-leb x high below)

header_again : (file : JournalFile) (rest : List ℕ) → IsFile file → header_in (header_text file.ports file.rounds (length file.slots) ++ rest)
    ≡ Ok (record { ports = file.ports; rounds = file.rounds; slots = length file.slots }, rest)
unfolding header_in
header_again file rest good =
    let ports = file.ports in
    let rounds = file.rounds in
    let slots = length file.slots in
    let ports_few = good.ports_few in
    let rounds_few = good.rounds_few in
    let few = most_few ports in
    let from_slots = big_bytes 4 slots ++ rest in
    let from_zeros = 0 ∷ 0 ∷ from_slots in
    rw (number_again Magic 0x54544a31 (ports ∷ rounds ∷ from_zeros) (omega arith) refl)
    (rw (byte_again Ports refl ports (rounds ∷ from_zeros) (omega arith) (from_to 1 64 ports good.ports_some ports_few))
    (rw (byte_again Rounds refl rounds from_zeros (omega arith) (from_to 1 64 rounds good.rounds_some rounds_few))
    (rw (number_again Zeros 0 from_slots (omega arith) refl)
    (rw (number_again (Slots ports) slots rest (omega (arith, few, good.slots_few)) (from_to 1 (most_slots ports) slots good.slots_some good.slots_few))
    refl))))

file_again : (file : JournalFile) → IsFile file → file_in (file_text file) ≡ Ok (file, [])
unfolding file_in file_text
file_again file good =
    let n = file.ports in
    let body = flat_map slot_text file.slots in
    let slots : each_in (λ t. slot_in n) (range_with_len 0 (length file.slots)) body ≡ Ok (file.slots, []) =
    ap (each_in (λ t. slot_in n) (range_with_len 0 (length file.slots))) (sym (append-nil body))
    ∙ each_again (slot_in n) slot_text (IsFileSlot n) (slot_again n good.ports_few) file.slots 0 [] good.slots in
    rw (header_again file body good) (rw slots refl)

pub journal_again : (file : JournalFile) → IsFile file → journal_in (file_text file) ≡ Ok file
unfolding journal_in
journal_again file good = ap (told_by (file_text file)) (file_again file good)

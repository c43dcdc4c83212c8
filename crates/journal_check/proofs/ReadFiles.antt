-- What is read of a file is what a file can tell.
use Rattle.std.proofs.Common.{◌≡◌, ℕ, suc, ◌-◌, ◌/◌, ◌%◌, ◌^◌, ◌<◌, ◌≤◌, ◌==◌, ◌∙◌, Bool, true, false, nat_lt, nat_le, ltb-true, ◌||◌, All, List, []}
use Rattle.std.proofs.Common.{◌∷◌, length, drop, Option, None, Some, Ok, Err, refl, sym, ap, subst, arith, inl, inr, if◌then◌else◌}
use Rattle.std.specs.List.{range_with_len}
use Rattle.std.specs.Int.{bit_at}
use Rattle.std.proofs.lemmas.Bool.{cases_Bool, cond-true, cond-false, and_parts}
use Rattle.byteorder.specs.Endian.{big_number}
use Rattle.std.proofs.lemmas.Nat.{pow_pos}
use Rattle.std.proofs.lemmas.List.Elements.{All-cons}
use Rattle.std.proofs.lemmas.List.FromFn.{length-range_with_len}
use Rattle.rotating_pick.specs.declared.kinds.Kind.TheVariants.{Uni, Multi}
use Rattle.slot_match.specs.declared.rows.Row.{Row}
use Rattle.slot_match.specs.declared.matching.Fed.{Fed}
use Rattle.journal_check.specs.declared.fields.Field.{Field}
use Rattle.journal_check.specs.declared.fields.Field.TheVariants.{Magic, Ports, Rounds, Zeros, Slots, Sets, More, Set, Input, Rank}
use Rattle.journal_check.specs.declared.header.Header.{Header}
use Rattle.journal_check.specs.declared.posts.FilePost.{FilePost}
use Rattle.journal_check.specs.Fields.{len_of, allows, most_slots, is_from, no_input, Reading, number_in, read_on, each_in}
use Rattle.journal_check.specs.Files.{FileSlot, set_in, row_in, post_in, fed_by, output_in, slot_in, JournalFile, header_in, end_in, file_in, told_by}
use Rattle.journal_check.specs.Files.{journal_in}
use Rattle.journal_check.specs.Texts.{IsFileRow, IsFileOutput, IsFileSlot, IsFile}
use Rattle.journal_check.specs.Steps.{IsRead}
use Rattle.journal_check.proofs.NumberReads.{good, not_good, is_good, from_bounds}

-- P holds of what the reading gives, if it gives something
abbrev pub Gives : {X : Type 0} → (X → Type 0) → Reading X → Type 0
Gives P (Ok read) = P read.0
Gives P (Err bad) = Unit {0}

pub gives_on : {X Y : Type 0} (P : X → Type 0) (Q : Y → Type 0) (r : Reading X) (next : X → List ℕ → Reading Y) → Gives P r
    → ((x : X) (rest : List ℕ) → P x → Gives Q (next x rest)) → Gives Q (read_on r next)
gives_on P Q (Ok read) next h go = go read.0 read.1 h
gives_on P Q (Err bad) next h go = tt

pub given : {X : Type 0} (P : X → Type 0) (r : Reading X) (x : X) (rest : List ℕ) → r ≡ Ok (x, rest) → Gives P r → P x
given P r x rest e h = subst (Gives P) e h

gives_each : {X : Type 0} (P : X → Type 0) (read : ℕ → List ℕ → Reading X) → ((k : ℕ) (bytes : List ℕ) → Gives P (read k bytes)) → (ks bytes : List ℕ)
    → Gives (λ (xs : List X). (length xs ≡ length ks) × All P xs) (each_in read ks bytes)
gives_each P read each [] bytes = (refl, λ k d below. absurd (omega arith))
gives_each P read each (k ∷ ks) bytes =
    gives_on P (λ xs. (length xs ≡ suc (length ks)) × All P xs) (read k bytes) _ (each k bytes) (λ x more here.
    gives_on (λ xs. (length xs ≡ length ks) × All P xs) (λ xs. (length xs ≡ suc (length ks)) × All P xs) (each_in read ks more) _
    (gives_each P read each ks more) (λ xs rest later. (ap suc later.0, All-cons P x xs here later.1)))

gives_any : {X : Type 0} (r : Reading X) → Gives (λ x. Unit {0}) r
gives_any (Ok read) = tt
gives_any (Err bad) = tt

-- what is read in a field is a number that it may have
allowed_in : (field : Field) (bytes : List ℕ) (P : ℕ → Type 0) → ((x : ℕ) → allows field x ≡ true → P x) → Gives P (number_in field bytes)
allowed_in field bytes P each =
    elim (cases_Bool (is_good field bytes)) [
      | inl e ↦ subst (Gives P) (sym (good field bytes e))
          (each (big_number (len_of field) bytes) (and_parts (nat_le (len_of field) (length bytes)) (allows field (big_number (len_of field) bytes)) e).1)
      | inr e ↦ subst (Gives P) (sym (not_good field bytes e)) tt
    ]

-- a level of the number of a level and a kind
fed_fits : (n input rank : ℕ) → allows (Input n) input ≡ true → allows (Rank input) rank ≡ true → IsFileOutput n (fed_by input rank)
fed_fits n input rank in_ports in_ranks =
    let some : Option Fed = Some (record { input = input; level = rank / 2; kind = (if rank % 2 == 0 then Uni else Multi) }) in
    elim (cases_Bool (input == no_input)) [
      | inl e ↦ subst (IsFileOutput n) (sym (cond-true (input == no_input) None some e)) tt
      | inr e ↦
          let ranks : allows (Rank input) rank ≡ is_from 0 7 rank = cond-false (input == no_input) (rank == 0) (is_from 0 7 rank) e in
          let seven = (from_bounds 0 7 rank (sym ranks ∙ in_ranks)).1 in
          let below : input < n = elim (cases_Bool (nat_lt input n)) [
            | inl lt ↦ ltb-true input n lt
            | inr le ↦ absurd (let neither : allows (Input n) input ≡ false = ap (λ (b : Bool). b || (input == no_input)) le
                ∙ e in let same : true ≡ false = sym in_ports ∙ neither in cc)
          ] in
          subst (IsFileOutput n) (sym (cond-false (input == no_input) None some e)) (below, omega arith)
    ]

module _ (n : ℕ) where
  number_fits : (bytes : List ℕ) → Gives (λ x. x < 2 ^ n) (number_in (Set n) bytes)
  number_fits bytes = allowed_in (Set n) bytes (λ x. x < 2 ^ n)
      (λ x allowed. let below = (from_bounds 1 (2 ^ n - 1) x allowed).1 in let some = pow_pos n in omega arith)

  set_fits : (sets k : ℕ) (bytes : List ℕ) → Gives (λ x. x < 2 ^ n) (set_in n sets k bytes)
  set_fits sets k bytes =
      let none : Reading ℕ = Ok (0, bytes) in
      elim (cases_Bool (bit_at sets k == 1)) [
        | inl e ↦ subst (Gives (λ x. x < 2 ^ n)) (sym (cond-true (bit_at sets k == 1) (number_in (Set n) bytes) none e)) (number_fits bytes)
        | inr e ↦ subst (Gives (λ x. x < 2 ^ n)) (sym (cond-false (bit_at sets k == 1) (number_in (Set n) bytes) none e)) (pow_pos n)
      ]

  row_fits : (sets : ℕ) (bytes : List ℕ) → Gives (IsFileRow n) (row_in n sets bytes)
  unfolding row_in
  row_fits sets bytes =
      gives_on (λ xs. (length xs ≡ 4) × All (λ x. x < 2 ^ n) xs) (IsFileRow n) _ _
      (gives_each (λ x. x < 2 ^ n) (set_in n sets) (set_fits sets) (0 ∷ 1 ∷ 2 ∷ 3 ∷ []) bytes) (λ uni more low.
      gives_on (λ xs. (length xs ≡ 4) × All (λ x. x < 2 ^ n) xs) (IsFileRow n) _ _
      (gives_each (λ x. x < 2 ^ n) (set_in n sets) (set_fits sets) (4 ∷ 5 ∷ 6 ∷ 7 ∷ []) more) (λ multi rest high.
      record { uni_levels = low.0; multi_levels = high.0; uni_within = low.1; multi_within = high.1 }))

  abbrev post_of : ℕ → Row → List ℕ → Reading FilePost
  post_of more row rest = Ok (record { row = row; more = more == 1 }, rest)

  abbrev after_more_in : ℕ → ℕ → List ℕ → Reading FilePost
  after_more_in sets more after_more = read_on (row_in n sets after_more) (post_of more)

  abbrev after_sets_in : ℕ → List ℕ → Reading FilePost
  after_sets_in sets after_sets = read_on (number_in More after_sets) (after_more_in sets)

  post_fits : (bytes : List ℕ) → Gives (λ (post : FilePost). IsFileRow n post.row) (post_in n bytes)
  unfolding post_in
  post_fits bytes =
      gives_on (λ (x : ℕ). Unit {0}) (λ (post : FilePost). IsFileRow n post.row) (number_in Sets bytes) after_sets_in (gives_any (number_in Sets bytes))
      (λ sets after_sets any.
      gives_on (λ (x : ℕ). Unit {0}) (λ (post : FilePost). IsFileRow n post.row) (number_in More after_sets) (after_more_in sets)
      (gives_any (number_in More after_sets)) (λ more after_more also.
      gives_on (IsFileRow n) (λ (post : FilePost). IsFileRow n post.row) (row_in n sets after_more) (post_of more) (row_fits sets after_more)
      (λ row rest good. good)))

  output_fits : (bytes : List ℕ) → Gives (IsFileOutput n) (output_in n bytes)
  unfolding output_in
  output_fits bytes =
      gives_on (λ x. allows (Input n) x ≡ true) (IsFileOutput n) _ _ (allowed_in (Input n) bytes (λ x. allows (Input n) x ≡ true) (λ x e. e))
      (λ input more in_ports.
      gives_on (λ x. allows (Rank input) x ≡ true) (IsFileOutput n) _ _ (allowed_in (Rank input) more (λ x. allows (Rank input) x ≡ true) (λ x e. e))
      (λ rank rest in_ranks. fed_fits n input rank in_ports in_ranks))

  slot_fits : (bytes : List ℕ) → Gives (IsFileSlot n) (slot_in n bytes)
  unfolding slot_in
  slot_fits bytes =
      gives_on (λ posts. (length posts ≡ length (range_with_len 0 n)) × All (λ (post : FilePost). IsFileRow n post.row) posts) (IsFileSlot n) _ _
      (gives_each (λ (post : FilePost). IsFileRow n post.row) (λ i. post_in n) (λ k. post_fits) (range_with_len 0 n) bytes) (λ posts after_posts cards.
      gives_on (λ matched. (length matched ≡ length (range_with_len 0 n)) × All (IsFileOutput n) matched) (IsFileSlot n) _ _
      (gives_each (IsFileOutput n) (λ j. output_in n) (λ k. output_fits) (range_with_len 0 n) after_posts) (λ matched rest outputs.
      record { cards = cards.0 ∙ length-range_with_len 0 n; rows = cards.1; outputs = outputs.0 ∙ length-range_with_len 0 n; matches = outputs.1 }))

  -- a slot that is read is one that a file can have
  pub read_is_slot : (bytes : List ℕ) (at : ℕ) (slot : FileSlot) (next : ℕ) → IsRead (slot_in n) bytes at slot next → IsFileSlot n slot
  read_is_slot bytes at slot next read = given (IsFileSlot n) (slot_in n (drop at bytes)) slot (drop next bytes) read.reads (slot_fits (drop at bytes))

-- the limits of a header
record IsLimited (header : Header) : Type 0 where
  ports_some : 1 ≤ header.ports
  ports_few : header.ports ≤ 64
  rounds_some : 1 ≤ header.rounds
  rounds_few : header.rounds ≤ 64
  slots_some : 1 ≤ header.slots
  slots_few : header.slots ≤ most_slots header.ports

allowed_number : (field : Field) (bytes : List ℕ) → Gives (λ x. allows field x ≡ true) (number_in field bytes)
allowed_number field bytes = allowed_in field bytes (λ x. allows field x ≡ true) (λ x e. e)

header_fits : (bytes : List ℕ) → Gives IsLimited (header_in bytes)
unfolding header_in
header_fits bytes =
    gives_on (λ (x : ℕ). Unit {0}) IsLimited (number_in Magic bytes) _ (gives_any (number_in Magic bytes)) (λ magic after_magic any.
    gives_on (λ x. allows Ports x ≡ true) IsLimited (number_in Ports after_magic) _ (allowed_number Ports after_magic) (λ ports after_ports in_ports.
    gives_on (λ x. allows Rounds x ≡ true) IsLimited (number_in Rounds after_ports) _ (allowed_number Rounds after_ports) (λ rounds after_rounds in_rounds.
    gives_on (λ (x : ℕ). Unit {0}) IsLimited (number_in Zeros after_rounds) _ (gives_any (number_in Zeros after_rounds)) (λ zeros after_zeros also.
    gives_on (λ x. allows (Slots ports) x ≡ true) IsLimited (number_in (Slots ports) after_zeros) _ (allowed_number (Slots ports) after_zeros)
    (λ slots rest in_slots.
    let p = from_bounds 1 64 ports in_ports in
    let r = from_bounds 1 64 rounds in_rounds in
    let s = from_bounds 1 (most_slots ports) slots in_slots in
    record { ports_some = p.0; ports_few = p.1; rounds_some = r.0; rounds_few = r.1; slots_some = s.0; slots_few = s.1 })))))

file_fits : (bytes : List ℕ) → Gives IsFile (file_in bytes)
unfolding file_in
file_fits bytes =
    gives_on IsLimited IsFile (header_in bytes) _ (header_fits bytes) (λ header after_header limits.
    gives_on (λ (slots : List FileSlot). (length slots ≡ length (range_with_len 0 header.slots)) × All (IsFileSlot header.ports) slots) IsFile
    (each_in (λ t. slot_in header.ports) (range_with_len 0 header.slots) after_header) _
    (gives_each (IsFileSlot header.ports) (λ t. slot_in header.ports) (λ t. slot_fits header.ports) (range_with_len 0 header.slots) after_header)
    (λ slots after_slots all.
    let count : length slots ≡ header.slots = all.0 ∙ length-range_with_len 0 header.slots in
    gives_on (λ (x : List ℕ). Unit {0}) IsFile (end_in after_slots) _ (gives_any (end_in after_slots)) (λ nothing rest any.
    record {
      ports_some = limits.ports_some;
      ports_few = limits.ports_few;
      rounds_some = limits.rounds_some;
      rounds_few = limits.rounds_few;
      slots_some = let some = limits.slots_some in omega arith;
      slots_few = let few = limits.slots_few in omega arith;
      slots = all.1;
    })))

told_fits : (bytes : List ℕ) (file : JournalFile) (r : Reading JournalFile) → told_by bytes r ≡ Ok file → Gives IsFile r → IsFile file
told_fits bytes file (Ok read) e good = let same : read.0 ≡ file = cc in subst IsFile same good
told_fits bytes file (Err bad) e good = absurd (cc)

-- what the bytes of a file tell is what a file can tell
pub told_is_file : (bytes : List ℕ) (file : JournalFile) → journal_in bytes ≡ Ok file → IsFile file
unfolding journal_in
told_is_file bytes file e = told_fits bytes file (file_in bytes) e (file_fits bytes)

-- What a meter keeps says of the slots that it has noted, and a slot more keeps it so.
use Rattle.std.proofs.Common.{◌≡◌, ℕ, ◌+◌, ◌-◌, ◌*◌, ◌/◌, ◌%◌, ◌<◌, ◌≤◌, ◌∙◌, ◌++◌, Bool, true, cond, max, List, [], ◌∷◌, length, map, replicate}
use Rattle.std.proofs.Common.{slice_index, slice_index_or, slice_set, refl, sym, ap, subst, inl, inr, arith, length-append}
use Rattle.std.specs.List.{flat_map, range_with_len}
use Rattle.std.proofs.lemmas.List.{length-replicate, get_or-replicate, get_or_default, get_or-set_same, get_or-set_other}
use Rattle.std.proofs.lemmas.Bool.{cases_eq}
use Rattle.rotating_pick.specs.declared.limits.TheConstants.{LEVELS, MAX_PORTS}
use Rattle.rotating_pick.specs.PortSets.{Has}
use Rattle.rotating_pick.specs.declared.kinds.Kind.TheVariants.{Uni}
use Rattle.rotating_pick.proofs.Bits.{no_member-zero}
use Rattle.slot_match.specs.Rows.{AreWithin}
use Rattle.service_bound.specs.Waits.{NotedSlot, is_waiting, wait_in, waits_from, greatest, longest_wait}
use Rattle.service_bound.specs.MeterSteps.{Queues, Meter, queues_at_first, place_of, queues_at, wait_at, longest_of, longest_at, AreBegun, NotesSlot}
use Rattle.service_bound.specs.MeterSteps.{wait_after, HaveNoted, HasNoted}
use Rattle.service_bound.proofs.Greatest.{greatest-append, greatest-flat_map, greatest-within, greatest-same, greatest-beyond, greatest-max}
use Rattle.service_bound.proofs.Levels.{wait_at-rests, longest_of-none}
use Rattle.service_bound.proofs.Waiting.{Decides-waiting}

-- ---- the waits of one queue
-- its wait in the last slot, where it was `before` before the first
unfoldable pub wait_from : ℕ → List NotedSlot → ℕ → ℕ → ℕ → ℕ
wait_from before [] i j level = before
wait_from before (slot ∷ slots) i j level = wait_from (wait_in slot before i j level) slots i j level

wait_from-last : (before : ℕ) (slot : NotedSlot) (slots : List NotedSlot) (i j level : ℕ)
    → slice_index (waits_from before (slot ∷ slots) i j level) (length slots) ≡ wait_from before (slot ∷ slots) i j level
unfolding wait_from
wait_from-last before slot [] i j level = refl
wait_from-last before slot (next ∷ slots) i j level = wait_from-last (wait_in slot before i j level) next slots i j level

pub wait_after-from : (slots : List NotedSlot) (i j level : ℕ) → wait_after slots i j level ≡ wait_from 0 slots i j level
unfolding wait_from
wait_after-from [] i j level = refl
wait_after-from (slot ∷ slots) i j level = let e : length (slot ∷ slots) - 1 ≡ length slots = omega arith in rw e (wait_from-last 0 slot slots i j level)

wait_from-more : (before : ℕ) (slots : List NotedSlot) (slot : NotedSlot) (i j level : ℕ)
    → wait_from before (slots ++ slot ∷ []) i j level ≡ wait_in slot (wait_from before slots i j level) i j level
unfolding wait_from
wait_from-more before [] slot i j level = refl
wait_from-more before (first ∷ slots) slot i j level = wait_from-more (wait_in first before i j level) slots slot i j level

waits_from-more : (before : ℕ) (slots : List NotedSlot) (slot : NotedSlot) (i j level : ℕ)
    → waits_from before (slots ++ slot ∷ []) i j level ≡ waits_from before slots i j level ++ wait_in slot (wait_from before slots i j level) i j level ∷ []
unfolding wait_from
waits_from-more before [] slot i j level = refl
waits_from-more before (first ∷ slots) slot i j level =
    ap (λ waits. wait_in first before i j level ∷ waits) (waits_from-more (wait_in first before i j level) slots slot i j level)

-- the wait after a slot more
wait_after-more : (slots : List NotedSlot) (slot : NotedSlot) (i j level : ℕ)
    → wait_after (slots ++ slot ∷ []) i j level ≡ wait_in slot (wait_after slots i j level) i j level
wait_after-more slots slot i j level =
    wait_after-from (slots ++ slot ∷ []) i j level ∙ wait_from-more 0 slots slot i j level
    ∙ ap (λ before. wait_in slot before i j level) (sym (wait_after-from slots i j level))

-- and the longest wait
greatest-more_waits : (slots : List NotedSlot) (slot : NotedSlot) (i j level : ℕ)
    → greatest (waits_from 0 (slots ++ slot ∷ []) i j level) ≡ max (greatest (waits_from 0 slots i j level)) (wait_after (slots ++ slot ∷ []) i j level)
greatest-more_waits slots slot i j level =
    let now = wait_from-more 0 slots slot i j level in
    let last = wait_after-from (slots ++ slot ∷ []) i j level in
    let all = ap greatest (waits_from-more 0 slots slot i j level)
    ∙ greatest-append (waits_from 0 slots i j level) (wait_in slot (wait_from 0 slots i j level) i j level ∷ []) in
    omega arith

-- ---- the queues of one input at a level
-- before any slot
HaveNoted-first : (n i level : ℕ) → HaveNoted n [] i level queues_at_first
HaveNoted-first n i level =
    let ended = longest_of-none (replicate MAX_PORTS 0) 0 0 refl in
    let waits = greatest-flat_map (λ j. waits_from 0 [] i j level) (range_with_len 0 n) in
    let none = greatest-within (λ j. greatest (waits_from 0 [] i j level)) n 0 (λ j below. omega arith) in
    record {
      long = length-replicate {A = ℕ} MAX_PORTS 0;
      begun = λ j has. absurd (no_member-zero j has);
      among = λ j has. absurd (no_member-zero j has);
      waits = λ j below. wait_at-rests queues_at_first 0 j (no_member-zero j);
      longest = omega arith;
    }

-- ---- all queues
-- what an index found is at its place
pub found_is : (all : List Queues) (place : ℕ) (found : Queues) → place < length all → found ≡ slice_index_or all place found → found ≡ queues_at all place
found_is all place found inside is = is ∙ get_or_default all place found queues_at_first inside

pub AreBegun-noted : (meter : Meter) (slots : List NotedSlot) → HasNoted meter slots → (place : ℕ) → place < length meter.queues
    → AreBegun meter.count (queues_at meter.queues place)
AreBegun-noted meter slots noted place inside =
    let long = noted.long in
    let here : place_of (place / 4) (place % 4) ≡ place = omega arith in
    let queues = noted.queues (place / 4) (place % 4) (omega arith) (omega arith) in
    subst (λ p. AreBegun meter.count (queues_at meter.queues p)) here (record { long = queues.long; begun = rw noted.count queues.begun })

pub HasNoted-first : (n : ℕ) → 0 < n → n ≤ MAX_PORTS → HasNoted (record { ports = n; count = 0; queues = replicate (LEVELS * n) queues_at_first }) []
HasNoted-first n some size = record {
  some = some;
  size = size;
  count = refl;
  long = length-replicate {A = Queues} (LEVELS * n) queues_at_first;
  queues = λ i level i_in level_in. rw (get_or-replicate (LEVELS * n) (place_of i level) queues_at_first queues_at_first (omega arith))
      (HaveNoted-first n i level);
}

-- what one slot more makes of a meter
pub record MeterNotes (old new : Meter) (slot : NotedSlot) : Type 0 where
  pub ports : new.ports ≡ old.ports
  pub count : new.count ≡ old.count + 1
  pub long : length new.queues ≡ length old.queues
  pub queues : (place : ℕ) → place < length old.queues
      → NotesSlot old.count (λ j. is_waiting slot (place / LEVELS) j (place % LEVELS)) (queues_at old.queues place) (queues_at new.queues place)

module _ (old new : Meter) (slots : List NotedSlot) (slot : NotedSlot) (notes : MeterNotes old new slot)
    (within : (i j level : ℕ) → i < old.ports → level < LEVELS → is_waiting slot i j level ≡ true → j < old.ports) (noted : HasNoted old slots) where
  more : length (slots ++ slot ∷ []) ≡ length slots + 1
  more = length-append slots (slot ∷ [])

  -- the queues of one input at a level note the slot
  notes_at : (i level : ℕ) → i < old.ports → level < LEVELS
      → NotesSlot (length slots) (λ j. is_waiting slot i j level) (queues_at old.queues (place_of i level)) (queues_at new.queues (place_of i level))
  notes_at i level inside level_in =
      let place = place_of i level in
      let old_long = noted.long in
      let row : place / LEVELS ≡ i = omega arith in
      let column : place % LEVELS ≡ level = omega arith in
      let Notes : ℕ → ℕ → ℕ → Type 0 = λ c r l. NotesSlot c (λ j. is_waiting slot r j l) (queues_at old.queues place) (queues_at new.queues place) in
      subst (λ c. Notes c i level) noted.count
      (subst (λ l. Notes old.count i l) column (subst (λ r. Notes old.count r (place % LEVELS)) row (notes.queues place (omega arith))))

  -- and stand as after it
  queues_more : (i level : ℕ) → i < old.ports → level < LEVELS
      → HaveNoted old.ports (slots ++ slot ∷ []) i level (queues_at new.queues (place_of i level))
  queues_more i level inside level_in =
      let n = old.ports in
      let queues = queues_at new.queues (place_of i level) in
      let before = noted.queues i level inside level_in in
      let now = notes_at i level inside level_in in
      let waits : (j : ℕ) → j < n → wait_at queues (length slots + 1) j ≡ wait_after (slots ++ slot ∷ []) i j level = λ j below. now.waits j
      ∙ ap (λ wait. cond (is_waiting slot i j level) (wait + 1) 0) (before.waits j below) ∙ sym (wait_after-more slots slot i j level) in
      let long : length queues.began ≡ MAX_PORTS = now.long ∙ before.long in
      let among : (j : ℕ) → Has queues.waiting j → j < n = λ j has. within i j level inside level_in (now.among j has) in
      let rests : (j : ℕ) → n ≤ j → wait_at queues (length slots + 1) j ≡ 0 =
      λ j beyond. wait_at-rests queues (length slots + 1) j (λ has. let below = among j has in omega arith) in
      let running : longest_of queues.began queues.waiting (length slots + 1)
      ≡ greatest (map (λ j. wait_after (slots ++ slot ∷ []) i j level) (range_with_len 0 n)) =
      ap (λ m. greatest (map (wait_at queues (length slots + 1)) (range_with_len 0 m))) long
      ∙ greatest-beyond (wait_at queues (length slots + 1)) n MAX_PORTS noted.size rests
      ∙ greatest-same (wait_at queues (length slots + 1)) (λ j. wait_after (slots ++ slot ∷ []) i j level) n waits in
      let old_all = greatest-flat_map (λ j. waits_from 0 slots i j level) (range_with_len 0 n) in
      let new_all = greatest-flat_map (λ j. waits_from 0 (slots ++ slot ∷ []) i j level) (range_with_len 0 n) in
      let joined = greatest-max (λ j. greatest (waits_from 0 slots i j level)) (λ j. wait_after (slots ++ slot ∷ []) i j level)
      (λ j. greatest (waits_from 0 (slots ++ slot ∷ []) i j level)) n (λ j below. greatest-more_waits slots slot i j level) in
      let longest : longest_at queues (length slots + 1) ≡ greatest (flat_map (λ j. waits_from 0 (slots ++ slot ∷ []) i j level) (range_with_len 0 n)) =
      now.longest ∙ ap (λ x. max x (longest_of queues.began queues.waiting (length slots + 1))) (before.longest ∙ old_all)
      ∙ ap (λ x. max (greatest (map (λ j. greatest (waits_from 0 slots i j level)) (range_with_len 0 n))) x) running ∙ joined ∙ sym new_all in
      record {
        long = long;
        begun = rw more now.begun;
        among = among;
        waits = λ j below. subst (λ count. wait_at queues count j ≡ wait_after (slots ++ slot ∷ []) i j level) (sym more) (waits j below);
        longest = rw more longest;
      }

  pub HasNoted-within : HasNoted new (slots ++ slot ∷ [])
  HasNoted-within =
      let old_count = noted.count in
      let old_long = noted.long in
      let ports = notes.ports in
      record {
        some = let some = noted.some in omega arith;
        size = let size = noted.size in omega arith;
        count = omega (arith, notes.count, more);
        long = omega (arith, notes.long);
        queues = λ i level i_in level_in.
            subst (λ n. HaveNoted n (slots ++ slot ∷ []) i level (queues_at new.queues (place_of i level))) (sym ports)
            (queues_more i level (omega arith) level_in);
      }

-- where the rows name none but the ports
pub HasNoted-more : (old new : Meter) (slots : List NotedSlot) (slot : NotedSlot) → MeterNotes old new slot → AreWithin old.ports slot.rows → HasNoted old slots
    → HasNoted new (slots ++ slot ∷ [])
HasNoted-more old new slots slot notes within =
    HasNoted-within old new slots slot notes
    (λ i j level inside level_in waits. within.ports i inside level j Uni ((Decides-waiting slot i j level).0 waits).0)

-- the longest wait of a level is the longest of its queues
pub longest-noted : (meter : Meter) (slots : List NotedSlot) (level : ℕ) → HasNoted meter slots → level < LEVELS
    → greatest (map (λ i. longest_at (queues_at meter.queues (place_of i level)) meter.count)
    (range_with_len 0 meter.ports)) ≡ longest_wait meter.ports level slots
unfolding longest_wait
longest-noted meter slots level noted level_in =
    let n = meter.ports in
    let all = greatest-flat_map (λ i. flat_map (λ j. waits_from 0 slots i j level) (range_with_len 0 n)) (range_with_len 0 n) in
    greatest-same (λ i. longest_at (queues_at meter.queues (place_of i level)) meter.count)
    (λ i. greatest (flat_map (λ j. waits_from 0 slots i j level) (range_with_len 0 n))) n
    (λ i below. rw noted.count (noted.queues i level below level_in).longest) ∙ sym all

-- ---- place after place
-- another test of the same queues
pub NotesSlot-along : (count : ℕ) (f g : ℕ → Bool) (old new : Queues) → ((j : ℕ) → f j ≡ g j) → NotesSlot count f old new → NotesSlot count g old new
NotesSlot-along count f g old new same notes = record {
  long = notes.long;
  begun = notes.begun;
  among = λ j has. sym (same j) ∙ notes.among j has;
  waits = λ j. notes.waits j ∙ ap (λ waits. cond waits (wait_at old count j + 1) 0) (same j);
  longest = notes.longest;
}

-- where the queues at a place are set, the others stay
pub left-set : (now : List Queues) (place : ℕ) (new : Queues) (k : ℕ) → (k ≡ place → ⊥) → queues_at (slice_set now place new) k ≡ queues_at now k
left-set now place new k other = get_or-set_other now place k new queues_at_first other

-- what holds of the place and of the others holds of all
pub noted-set : (P : ℕ → Queues → Queues → Type 0) (old now : List Queues) (place : ℕ) (new : Queues) → place < length now → P place (queues_at old place) new
    → (k : ℕ) → ((k ≡ place → ⊥) → P k (queues_at old k) (queues_at now k)) → P k (queues_at old k) (queues_at (slice_set now place new) k)
noted-set P old now place new inside here k others =
    elim (cases_eq k place) [
      | inl same ↦ rw (same, get_or-set_same now place new queues_at_first inside) here
      | inr other ↦ rw (left-set now place new k other) (others other)
    ]

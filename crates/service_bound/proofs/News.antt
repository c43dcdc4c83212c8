-- Queues that wait in a slot as they did in the last are kept as they are.
use Rattle.std.proofs.Common.{◌≡◌, ℕ, ◌+◌, ◌/◌, ◌%◌, ◌<◌, ◌∙◌, ◌==◌, ◌↔◌, ◌⊎◌, ◌++◌, Bool, true, false, cond, List, [], ◌∷◌, Option, None, length}
use Rattle.std.proofs.Common.{slice_index_or, refl, sym, subst, inl, inr, arith}
use Rattle.std.specs.Int.{bit_at}
use Rattle.std.proofs.lemmas.Bool.Decides.{same_from_decides, Decides-like}
use Rattle.std.proofs.lemmas.Bool.{cases_lt}
use Rattle.rotating_pick.specs.PortSets.{Has}
use Rattle.rotating_pick.specs.declared.limits.TheConstants.{LEVELS}
use Rattle.rotating_pick.specs.declared.kinds.Kind.TheVariants.{Uni}
use Rattle.slot_match.specs.declared.rows.Row.{Row}
use Rattle.slot_match.specs.declared.matching.Fed.{Fed}
use Rattle.slot_match.specs.declared.matching.Served.{Served}
use Rattle.slot_match.specs.Rows.{AreWithin}
use Rattle.slot_match.specs.Keeping.{Gives}
use Rattle.slot_match.specs.Matches.{Serves}
use Rattle.slot_match.proofs.Sets.{Has-or}
use Rattle.service_bound.specs.Waits.{NotedSlot, is_waiting, wait_in}
use Rattle.service_bound.specs.MeterSteps.{Queues, Meter, place_of, queues_at, wait_after, NotesSlot, HaveNoted, HasNoted}
use Rattle.service_bound.specs.MeterSteps.{HasParts, was_waiting, WaitsAreKept}
use Rattle.service_bound.proofs.Levels.{member-true, member-false, wait_at-waits, wait_at-rests, NotesSlot-same}
use Rattle.service_bound.proofs.Noting.{wait_from, wait_after-from, NotesSlot-along, HasNoted-more}
use Rattle.service_bound.proofs.PartsServed.{part_is_free, part_serves}
use Rattle.service_bound.proofs.Waiting.{Decides-waiting, Gives-iff_serves}

-- whether a queue waited in the last slot: it did, and its wait is not 0, or it did not, and its wait is 0
WaitedOr : Bool → ℕ → Type 0
WaitedOr waited wait = ((waited ≡ true) × (0 < wait)) ⊎ ((waited ≡ false) × (wait ≡ 0))

waited_in : (waited : Bool) (before : ℕ) → WaitedOr waited (cond waited (before + 1) 0)
unfolding WaitedOr
waited_in true before = inl (refl, omega arith)
waited_in false before = inr (refl, refl)

waited_from : (before : ℕ) (slot : NotedSlot) (slots : List NotedSlot) (i j level : ℕ)
    → WaitedOr (was_waiting (slot ∷ slots) i j level) (wait_from before (slot ∷ slots) i j level)
unfolding wait_from
waited_from before slot [] i j level = waited_in (is_waiting slot i j level) before
waited_from before slot (next ∷ slots) i j level = waited_from (wait_in slot before i j level) next slots i j level

waited_after : (slots : List NotedSlot) (i j level : ℕ) → WaitedOr (was_waiting slots i j level) (wait_after slots i j level)
unfolding WaitedOr
waited_after [] i j level = inr (refl, refl)
waited_after (slot ∷ slots) i j level =
    subst (WaitedOr (was_waiting (slot ∷ slots) i j level)) (sym (wait_after-from (slot ∷ slots) i j level)) (waited_from 0 slot slots i j level)

-- the queue waited in the last slot exactly where it is kept as one that waits
waiting-was : (n : ℕ) (slots : List NotedSlot) (i level : ℕ) (queues : Queues) → HaveNoted n slots i level queues → (j : ℕ) → j < n
    → (bit_at queues.waiting j == 1) ≡ was_waiting slots i j level
unfolding WaitedOr
waiting-was n slots i level queues noted j below =
    let wait = noted.waits j below in
    elim (Has-or queues.waiting j) [
      | inl waits ↦
          let is = wait_at-waits queues (length slots) j waits in
          let begun = (noted.begun j waits).1 in
          elim (waited_after slots i j level) [
            | inl did ↦ member-true queues.waiting j waits ∙ sym did.0
            | inr did_not ↦ let none = did_not.1 in absurd (omega arith)
          ]
      | inr rests ↦
          let is = wait_at-rests queues (length slots) j rests in
          elim (waited_after slots i j level) [
            | inl did ↦ let some = did.1 in absurd (omega arith)
            | inr did_not ↦ member-false queues.waiting j rests ∙ sym did_not.0
          ]
    ]

-- so where it waits as it did, nothing is to be noted
pub NotesSlot-kept : (n : ℕ) (slots : List NotedSlot) (slot : NotedSlot) (i level : ℕ) (queues : Queues)
    → ((j : ℕ) → is_waiting slot i j level ≡ true → j < n) → ((j : ℕ) → is_waiting slot i j level ≡ was_waiting slots i j level)
    → HaveNoted n slots i level queues → NotesSlot (length slots) (λ j. is_waiting slot i j level) queues queues
NotesSlot-kept n slots slot i level queues within same noted =
    let waits : (j : ℕ) → (bit_at queues.waiting j == 1) ≡ is_waiting slot i j level = λ j. elim (cases_lt j n) [
      | inl below ↦ waiting-was n slots i level queues noted j below ∙ sym (same j)
      | inr beyond ↦
          member-false queues.waiting j (λ has. let below = noted.among j has in omega arith)
          ∙ sym (is_false (is_waiting slot i j level) (λ e. let below = within j e in omega arith))
    ] in
    NotesSlot-along (length slots) (λ j. bit_at queues.waiting j == 1) (λ j. is_waiting slot i j level) queues queues waits
    (NotesSlot-same (length slots) queues.waiting queues refl (λ j has. (noted.begun j has).0) noted.begun) where
      is_false : (b : Bool) → (b ≡ true → ⊥) → b ≡ false
      is_false true not_so = absurd (not_so refl)
      is_false false not_so = refl

-- two matches have the same parts
record HaveSameParts (n : ℕ) (one other : List (Option Fed)) : Type 0 where
  parts : List (Option Served)
  of_one : HasParts n one parts
  of_other : HasParts n other parts

-- so they leave the same queues waiting
waiting-by_parts : (n : ℕ) (rows : List Row) (one other : List (Option Fed)) → HaveSameParts n one other → (i j level : ℕ) → i < n
    → is_waiting (record { rows = rows; matched = one }) i j level ≡ is_waiting (record { rows = rows; matched = other }) i j level
waiting-by_parts n rows one other same i j level inside =
    let part = slice_index_or same.parts i None in
    let gives : (matched : List (Option Fed)) → HasParts n matched same.parts → Gives part j level Uni ↔ Serves matched i j level Uni =
    λ matched has. Gives-iff_serves matched i j level Uni part (part_is_free n matched i part has.whole (has.each i inside))
    (part_serves n matched i part has.whole (has.each i inside)) in
    let first = gives one same.of_one in
    let second = gives other same.of_other in
    let waits = is_waiting (record { rows = rows; matched = one }) i j level in
    same_from_decides waits (is_waiting (record { rows = rows; matched = other }) i j level)
    (Decides-like waits (λ p. (p.0, λ s. p.1 (first.0 (second.1 s)))) (λ p. (p.0, λ s. p.1 (second.0 (first.1 s))))
    (Decides-waiting (record { rows = rows; matched = one }) i j level))
    (Decides-waiting (record { rows = rows; matched = other }) i j level)

-- a meter that has noted a slot whose rows and parts are these, of which the queues of inputs without news wait as in the last
abbrev pub IsKept : List Row → List (Option Served) → ℕ → Meter → Type 0
IsKept rows parts news meter = (slots : List NotedSlot) × (matched : List (Option Fed)) × HasNoted meter slots × HasParts meter.ports matched parts
    × WaitsAreKept meter.ports news slots (record { rows = rows; matched = matched })

-- what the queues of the inputs with news note is noted by all
module _ (old new : Meter) (rows : List Row) (parts : List (Option Served)) (news all inputs : ℕ) (ports : new.ports ≡ old.ports)
    (count : new.count ≡ old.count + 1) (long : length new.queues ≡ length old.queues) (within : AreWithin old.ports rows)
    (members : (i : ℕ) → Has all i ↔ (i < old.ports)) (both : (i : ℕ) → Has inputs i ↔ (Has news i × Has all i))
    (noted : (matched : List (Option Fed)) → HasParts (length rows) matched parts → (place : ℕ) → Has inputs (place / LEVELS)
    → NotesSlot old.count (λ j. is_waiting (record { rows = rows; matched = matched }) (place / LEVELS) j (place % LEVELS)) (queues_at old.queues place)
    (queues_at new.queues place))
    (others : (place : ℕ) → (Has inputs (place / LEVELS) → ⊥) → queues_at new.queues place ≡ queues_at old.queues place)
    (kept : IsKept rows parts news old) where
  pub HasNoted-news : (slots : List NotedSlot) (matched : List (Option Fed)) → HasNoted old slots → HasParts old.ports matched parts
      → HasNoted new (slots ++ record { rows = rows; matched = matched } ∷ [])
  HasNoted-news slots matched has_noted has =
      let slot : NotedSlot = record { rows = rows; matched = matched } in
      let before = kept.0 in
      let was = kept.2 in
      let queues : (place : ℕ) → place < length old.queues
      → NotesSlot old.count (λ j. is_waiting slot (place / LEVELS) j (place % LEVELS)) (queues_at old.queues place) (queues_at new.queues place) =
      λ place inside.
      let i = place / LEVELS in
      let level = place % LEVELS in
      let room = was.long in
      let i_in : i < old.ports = omega arith in
      let level_in : level < LEVELS = omega arith in
      elim (Has-or inputs i) [
        | inl member ↦ noted matched (subst (λ n. HasParts n matched parts) (sym within.count) has) place member
        | inr lacks ↦
            let here : place_of i level ≡ place = omega arith in
            let same : (j : ℕ) → is_waiting slot i j level ≡ was_waiting before i j level =
            λ j. waiting-by_parts old.ports rows matched kept.1 (record { parts = parts; of_one = has; of_other = kept.3 }) i j level i_in
            ∙ kept.4 i j level i_in level_in (λ h. lacks ((both i).1 (h, (members i).1 i_in))) in
            rw (others place lacks)
            (subst (λ c. NotesSlot c (λ j. is_waiting slot i j level) (queues_at old.queues place) (queues_at old.queues place)) (sym was.count)
            (NotesSlot-kept old.ports before slot i level (queues_at old.queues place)
            (λ j waits. within.ports i i_in level j Uni ((Decides-waiting slot i j level).0 waits).0) same
            (subst (λ p. HaveNoted old.ports before i level (queues_at old.queues p)) here (was.queues i level i_in level_in))))
      ] in
      HasNoted-more old new slots slot (record { ports = ports; count = count; long = long; queues = queues }) within has_noted

  pub some-noted : (slots : List NotedSlot) × HasNoted new slots
  some-noted = (kept.0 ++ record { rows = rows; matched = kept.1 } ∷ [], HasNoted-news kept.0 kept.1 kept.2 kept.3)

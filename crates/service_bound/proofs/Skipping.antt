-- Slots in which no queue waits leave queues that do not wait as they are.
use Rattle.std.proofs.Common.{◌≡◌, ℕ, suc, ◌+◌, ◌/◌, ◌%◌, ◌<◌, ◌++◌, ◌&&◌, not, true, false, List, [], ◌∷◌, length, replicate, get_or, refl, sym}
use Rattle.std.proofs.Common.{ap, subst, ◌∙◌, arith}
use Rattle.std.specs.Prelude.{All}
use Rattle.std.proofs.lemmas.List.{append-nil, append_assoc, length-replicate}
use Rattle.std.proofs.lemmas.List.Elements.{All-replicate}
use Rattle.rotating_pick.specs.declared.kinds.Kind.TheVariants.{Uni}
use Rattle.rotating_pick.specs.declared.limits.TheConstants.{LEVELS}
use Rattle.rotating_pick.specs.PortSets.{Has}
use Rattle.rotating_pick.proofs.Bits.{no_member-zero}
use Rattle.slot_match.specs.Matches.{fed_of}
use Rattle.eslip_rounds.specs.Decisions.{is_fed}
use Rattle.service_bound.specs.Waits.{NotedSlot, is_waiting, NoneWaits}
use Rattle.service_bound.specs.MeterSteps.{Queues, Meter, place_of, queues_at, NotesSlot, HaveNoted, HasNoted}
use Rattle.service_bound.proofs.Levels.{wait_at-rests, longest_of-rests, member-false}
use Rattle.service_bound.proofs.Noting.{MeterNotes, HasNoted-within, NotesSlot-along}

-- queues of which none waits, after a slot in which none waits
rests-keep : (count : ℕ) (queues : Queues) → ((j : ℕ) → Has queues.waiting j → ⊥) → NotesSlot count (λ j. false) queues queues
rests-keep count queues none =
    let before = longest_of-rests queues.began queues.waiting count none in
    let after = longest_of-rests queues.began queues.waiting (count + 1) none in
    record {
      long = refl;
      begun = λ j has. absurd (none j has);
      among = λ j has. absurd (none j has);
      waits = λ j. wait_at-rests queues (count + 1) j (none j);
      longest = omega (arith, before, after);
    }

-- a meter after a slot in which none waits
noted-idle : (old : Meter) (queues : List Queues) (slots : List NotedSlot) (slot : NotedSlot) → length queues ≡ length old.queues
    → ((place : ℕ) → place < length old.queues → NotesSlot old.count (λ j. false) (queues_at old.queues place) (queues_at queues place))
    → NoneWaits slot → HasNoted old slots → HasNoted (record { ports = old.ports; count = old.count + 1; queues = queues }) (slots ++ slot ∷ [])
noted-idle old queues slots slot long notes none noted =
    let new : Meter = record { ports = old.ports; count = old.count + 1; queues = queues } in
    let all : MeterNotes old new slot = record {
      ports = refl;
      count = refl;
      long = long;
      queues = λ place inside. NotesSlot-along old.count (λ j. false) (λ j. is_waiting slot (place / LEVELS) j (place % LEVELS)) (queues_at old.queues place)
          (queues_at queues place) (λ j. sym (none (place / LEVELS) j (place % LEVELS))) (notes place inside);
    } in
    HasNoted-within old new slots slot all
    (λ i j level inside level_in waits. let idle = none i j level in absurd (false_true (sym idle ∙ waits))) noted where
      false_true : false ≡ true → ⊥
      false_true e = cc

-- the meter with another count
abbrev at_count : Meter → ℕ → Meter
at_count meter count = record { ports = meter.ports; count = count; queues = meter.queues }

-- a meter of which no queue waits, after any number of such slots
more_rest : (meter : Meter) (slots more : List NotedSlot)
    → ((place j : ℕ) → place < length meter.queues → Has (queues_at meter.queues place).waiting j → ⊥)
    → ((k : ℕ) (d : NotedSlot) → k < length more → NoneWaits (get_or more k d)) → HasNoted meter slots
    → HasNoted (at_count meter (meter.count + length more)) (slots ++ more)
more_rest meter slots [] rest none noted = record {
  some = noted.some;
  size = noted.size;
  count = omega (arith, noted.count, ap length (append-nil slots));
  long = noted.long;
  queues = λ i level i_in level_in. subst (λ all. HaveNoted meter.ports all i level (queues_at meter.queues (place_of i level))) (sym (append-nil slots))
      (noted.queues i level i_in level_in);
}
more_rest meter slots (slot ∷ more) rest none noted =
    let next = at_count meter (meter.count + 1) in
    let one = noted-idle meter meter.queues slots slot refl
    (λ place inside. rests-keep meter.count (queues_at meter.queues place) (λ j. rest place j inside)) (none 0 slot (omega arith)) noted in
    let all = more_rest next (slots ++ slot ∷ []) more rest (λ k d inside. none (suc k) d (omega arith)) one in
    subst (λ count. HasNoted (at_count meter count) (slots ++ slot ∷ more)) (omega arith)
    (subst (λ noted. HasNoted (at_count meter (meter.count + 1 + length more)) noted) (append_assoc slots (slot ∷ []) more) all)

-- queues that noted a slot in which none waits do so after any number of such slots, one or more
pub HasNoted-none : (old : Meter) (queues : List Queues) (before more : List NotedSlot) → length queues ≡ length old.queues
    → ((place : ℕ) → place < length old.queues → NotesSlot old.count (λ j. false) (queues_at old.queues place) (queues_at queues place))
    → 0 < length more → All NoneWaits more → HasNoted old before
    → HasNoted (record { ports = old.ports; count = old.count + length more; queues = queues }) (before ++ more)
HasNoted-none old queues before [] long notes some none noted = absurd (omega arith)
HasNoted-none old queues before (slot ∷ more) long notes some none noted =
    let first : Meter = record { ports = old.ports; count = old.count + 1; queues = queues } in
    let one = noted-idle old queues before slot long notes (none 0 slot (omega arith)) noted in
    let rest : (place j : ℕ) → place < length queues → Has (queues_at queues place).waiting j → ⊥ =
    λ place j inside has. let waits : false ≡ true = (notes place (omega arith)).among j has in absurd (cc) in
    let all = more_rest first (before ++ slot ∷ []) more rest (λ k d inside. none (suc k) d (omega arith)) one in
    subst (λ count. HasNoted (record { ports = old.ports; count = count; queues = queues }) (before ++ slot ∷ more)) (omega arith)
    (subst (λ noted. HasNoted (record { ports = old.ports; count = old.count + 1 + length more; queues = queues }) noted)
    (append_assoc before (slot ∷ []) more) all)

-- and none of them changes nothing
pub HasNoted-still : (meter : Meter) (before more : List NotedSlot) → length more ≡ 0 → HasNoted meter before → HasNoted meter (before ++ more)
HasNoted-still meter before [] none noted = subst (HasNoted meter) (sym (append-nil before)) noted
HasNoted-still meter before (slot ∷ more) none noted = absurd (omega arith)

-- a slot in which nothing is posted, and any number of them
abbrev pub idle_slot : NotedSlot
idle_slot = record { rows = []; matched = [] }

idle_rests : NoneWaits idle_slot
idle_rests i j level = ap (λ named. named && not (is_fed i level Uni (fed_of [] j))) (member-false 0 j (no_member-zero j))

pub idle_slots : (count : ℕ) → (length (replicate count idle_slot) ≡ count) × All NoneWaits (replicate count idle_slot)
idle_slots count = (length-replicate count idle_slot, All-replicate NoneWaits count idle_slot idle_rests)

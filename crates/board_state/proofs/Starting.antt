-- A board on which nothing has happened.
use Rattle.std.proofs.Common.{◌≡◌, ◌<◌, ◌≤◌, ◌+◌, ◌*◌, ℕ, false, [], refl, arith, replicate, slice_index}
use Rattle.std.proofs.lemmas.List.{get_or-replicate}
use Rattle.rotating_pick.specs.declared.limits.TheConstants.{MAX_PORTS, MAX_ROUNDS}
use Rattle.rotating_pick.proofs.Bits.{no_member-zero}
use Rattle.pointer_state.specs.Places.{places_at_first}
use Rattle.slot_histories.specs.Events.{Setup}
use Rattle.board_state.specs.declared.limits.TheConstants.{MAX_SLOTS, MAX_SLOTS_WIDE}
use Rattle.board_state.specs.Boards.{IsSetup}
use Rattle.board_state.specs.KeepingSteps.{Parts, IsKept, IsRoom, events_of}

pub IsSetup-within :
    {n rounds max_slots : ℕ} →
    (0 < n) × (n ≤ MAX_PORTS) → (0 < rounds) × (rounds ≤ MAX_ROUNDS) → (0 < max_slots) × (max_slots ≤ MAX_SLOTS) × (32 < n → max_slots ≤ MAX_SLOTS_WIDE) →
    IsSetup (record { ports = n; rounds = rounds; max_slots = max_slots })
IsSetup-within ports rounds slots =
    record {
      ports_some = ports.0;
      ports_few = ports.1;
      rounds_some = rounds.0;
      rounds_few = rounds.1;
      slots_some = slots.0;
      slots_few = slots.1;
      slots_halved = slots.2;
    }

-- what is kept then
abbrev pub first_parts : Setup → Parts
first_parts s = record {
  setup = s;
  posted = replicate MAX_PORTS 0;
  taken = replicate MAX_PORTS 0;
  posted_next = 0;
  decisions = record { pointers = places_at_first s.ports; done = false; matches = []; numbers = [] };
  posts = [];
  order = [];
}

pub IsKept-first : {s : Setup} → IsSetup s → IsKept (first_parts s) []
IsKept-first {s} setup =
    let none : (i : ℕ) → i < s.ports → slice_index (replicate MAX_PORTS 0) i ≡ 0 =
    λ i below. get_or-replicate MAX_PORTS i 0 0 (omega (arith, setup.ports_few)) in
    record {
      setup = setup;
      legal = tt;
      books = record { counts_are = none; takes_are = none };
      next = λ i. (λ member. absurd (no_member-zero i member), λ p. absurd (omega (arith, p.1)));
      decided = record {
        decided = refl;
        numbered = refl;
        matches_are = λ t inside. absurd (omega arith);
        numbers_are = λ t inside. absurd (omega arith);
        pointers_are = refl;
        done_is = refl;
      };
      places = record {
        inside = λ i t below before. absurd (omega arith);
        each = λ i t below inside. absurd (omega arith);
        bytes = λ i below. refl;
      };
      events_are = refl;
    }

pub IsRoom-enough : (s : Setup) → IsRoom s (s.max_slots * s.ports) s.max_slots s.max_slots ((2 * s.ports + 1) * s.max_slots)
IsRoom-enough s = record { for_posts = omega arith; for_matches = omega arith; for_numbers = omega arith; for_events = omega arith }

pub events_of-none : (n : ℕ) → events_of n [] [] ≡ []
unfolding events_of
events_of-none n = refl

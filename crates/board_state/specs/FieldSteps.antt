-- The fields of a board's state: what they keep, and the board that they stand for.
use Rattle.std.specs.Prelude.{◌≡◌, ℕ, ◌+◌, ◌<◌, List, [], Option, None, length, slice_index_or, vec_capacity}
use Rattle.board_state.specs.declared.state.BoardState.TheInside.{Inside}
use Rattle.slot_match.specs.declared.matching.Fed.{Fed}
use Rattle.slot_match.specs.declared.matching.Served.{Served}
use Rattle.slot_match.specs.Parts.{served_of}
use Rattle.board_state.specs.Boards.{BoardValue}
use Rattle.board_state.specs.KeepingSteps.{Parts, events_in, IsKept, IsRoom}

-- what the fields keep
abbrev pub parts_of : Inside → Parts
parts_of s = record {
  setup = record { ports = s.ports; rounds = s.rounds; max_slots = s.max_slots };
  posted = s.posted;
  taken = s.taken;
  posted_next = s.posted_next;
  decisions = record { pointers = s.pointers; done = s.done; matches = s.matches.items; numbers = s.numbers.items };
  posts = s.posts.items;
  order = s.order.items;
}

-- the board that they stand for
abbrev pub board_of : Inside → BoardValue
board_of s = record { setup = (parts_of s).setup; events = events_in (parts_of s) }

-- each card's part of the last of these matches of n ports
abbrev pub ArePartsOfLast : ℕ → List (Option Served) → List (List (Option Fed)) → Type 0
ArePartsOfLast n parts matches = (t i : ℕ) → length matches ≡ t + 1 → i < n → slice_index_or parts i None ≡ served_of (slice_index_or matches t []) i

-- what is kept stands for that board's events, and there is room for all that may come
pub record AreKept (s : Inside) : Type 0 where
  pub kept : IsKept (parts_of s) (events_in (parts_of s))
  pub parts : ArePartsOfLast s.ports s.parts s.matches.items
  pub room : IsRoom (parts_of s).setup (vec_capacity s.posts) (vec_capacity s.matches) (vec_capacity s.numbers) (vec_capacity s.order)

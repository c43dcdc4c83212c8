-- The run of a switch over its plan, slot by slot: what each card posts, what each slot decides, and its journal.
-- What ends in `under` is of any scheduler; the other names are of the scheduler of the board.
use Rattle.std.specs.Prelude.{◌≡◌, ◌<◌, ℕ, zero, suc, List, [], ◌∷◌, ◌++◌, map, length, Option, slice_index_or}
use Rattle.std.specs.List.{range_with_len}
use Rattle.slot_match.specs.declared.rows.Row.{Row}
use Rattle.slot_match.specs.declared.matching.Fed.{Fed}
use Rattle.slot_match.specs.declared.matching.Served.{Served}
use Rattle.slot_match.specs.Parts.{served_of}
use Rattle.pointer_state.specs.Places.{Places, places_at_first}
use Rattle.eslip_rounds.specs.Slots.{Decision}
use Rattle.eslip_rounds.specs.Schedulers.{Scheduler}
use Rattle.eslip_rounds.specs.Decisions.{decision_of}
use Rattle.crossbar.specs.declared.cards.Post.{Post}
use Rattle.crossbar.specs.declared.cards.Taken.{Taken}
use Rattle.slot_histories.specs.Events.{Setup}
use Rattle.slot_histories.specs.Slots.{slot_posts, decision_under, taken_under}
use Rattle.slot_histories.specs.Answers.{JournalSlot}
use Rattle.card_core.specs.Plans.{Plan}
use Rattle.card_core.specs.Posts.{row_at, post_at, IsServable}
use Rattle.switch_plan.specs.GoodPlans.{SwitchPlan}

-- how many ports the switch has
abbrev pub ports_of : SwitchPlan → ℕ
ports_of plan = length plan.cards

-- a board for the run
abbrev pub setup_for : SwitchPlan → Setup
setup_for plan = record { ports = ports_of plan; rounds = plan.rounds; max_slots = plan.max_slots }

-- a port without packets
abbrev pub no_plan : Plan
no_plan = record { ports = 0; card = 0; depth = 0; packets = []; bytes = []; sizes = []; body_room = 0; packet_room = 0 }

-- what port i is to send
abbrev pub card_at : SwitchPlan → ℕ → Plan
card_at plan i = slice_index_or plan.cards i no_plan

-- What a slot begins with: the pointers, and of each port what it was served in each slot before.
pub record Before : Type 0 where
  pub places : Places
  pub served : ℕ → List (Option Served)

-- the rows of slot t, by port
abbrev pub rows_in : SwitchPlan → Before → ℕ → List Row
rows_in plan b t = map (λ i. row_at (card_at plan i) (b.served i) t) (range_with_len 0 (ports_of plan))

-- what slot t decides
abbrev pub decision_in : Scheduler → SwitchPlan → Before → ℕ → Decision
decision_in scheduler plan b t = scheduler (ports_of plan) plan.rounds t (rows_in plan b t) b.places

-- what the slot after it begins with
abbrev pub after_slot : Before → Decision → Before
after_slot b decision = record { places = decision.places; served = λ i. b.served i ++ served_of decision.matched i ∷ [] }

-- Slot 0 begins with all pointers at port 0 and nothing served, each further slot with what the one before left.
unfoldable pub before_under : Scheduler → SwitchPlan → ℕ → Before
before_under scheduler plan zero = record { places = places_at_first (ports_of plan); served = λ i. [] }
before_under scheduler plan (suc t) = after_slot (before_under scheduler plan t) (decision_in scheduler plan (before_under scheduler plan t) t)

-- what port i was served in the slots before slot t
abbrev pub parts_under : Scheduler → SwitchPlan → ℕ → ℕ → List (Option Served)
parts_under scheduler plan i t = (before_under scheduler plan t).served i

-- what port i posts in slot t
abbrev pub posts_under : Scheduler → SwitchPlan → ℕ → ℕ → Post
posts_under scheduler plan i t = post_at (card_at plan i) (parts_under scheduler plan i t) t

-- slot t with its posts, its match and its numbers
abbrev pub slot_under : Scheduler → SwitchPlan → ℕ → JournalSlot
slot_under scheduler plan t = record {
  posts = slot_posts (ports_of plan) (posts_under scheduler plan) t;
  matched = (decision_under scheduler (setup_for plan) (posts_under scheduler plan) t).matched;
  numbers = (decision_under scheduler (setup_for plan) (posts_under scheduler plan) t).numbers;
}

-- the journal of the first slots
abbrev pub journal_under : Scheduler → SwitchPlan → ℕ → List JournalSlot
journal_under scheduler plan slots = map (slot_under scheduler plan) (range_with_len 0 slots)

abbrev pub run_journal : SwitchPlan → ℕ → List JournalSlot
run_journal = journal_under decision_of

-- what port i takes of the first slots: its part of each slot, and the cell that crosses to it
abbrev pub takings_under : Scheduler → SwitchPlan → ℕ → ℕ → List Taken
takings_under scheduler plan i slots = map (taken_under scheduler (setup_for plan) (posts_under scheduler plan) i) (range_with_len 0 slots)

abbrev pub run_takings : SwitchPlan → ℕ → ℕ → List Taken
run_takings = takings_under decision_of

-- These are the posts of slot t, by port, and its match, which serves each port nothing or a part of its row.
pub record IsSlotUnder (scheduler : Scheduler) (plan : SwitchPlan) (t : ℕ) (posts : List Post) (matched : List (Option Fed)) : Type 0 where
  pub posts_are : posts ≡ map (λ i. posts_under scheduler plan i t) (range_with_len 0 (ports_of plan))
  pub matched_is : matched ≡ (decision_under scheduler (setup_for plan) (posts_under scheduler plan) t).matched
  pub servable : (i : ℕ) → i < ports_of plan → IsServable (posts_under scheduler plan i t).row (served_of matched i)

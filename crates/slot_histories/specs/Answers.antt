-- What events answer, and the journal of the decided slots.
use Rattle.std.specs.Prelude.{◌==◌, ℕ, if◌then◌else◌, List, [], ◌∷◌, ◌++◌, map, Option}
use Rattle.std.specs.List.{range_with_len}
use Rattle.slot_match.specs.declared.matching.Fed.{Fed}
use Rattle.islip_rounds.specs.declared.numbers.RoundsUsed.{RoundsUsed}
use Rattle.crossbar.specs.declared.cards.Post.{Post as CardPost}
use Rattle.crossbar.specs.declared.cards.Taken.{Taken}
use Rattle.slot_histories.specs.declared.events.Event.{Event}
use Rattle.slot_histories.specs.declared.events.Event.TheVariants.{Post, Decide, Take}
use Rattle.slot_histories.specs.declared.events.Answer.{Answer}
use Rattle.slot_histories.specs.declared.events.Answer.TheVariants.{Posted, Decided, Took}
use Rattle.slot_histories.specs.Events.{Setup, posted, takes_of, decides}
use Rattle.slot_histories.specs.Slots.{slot_posts, decision_at, taken_at}

-- what the event answers after these events
abbrev pub answer_of : Setup → List Event → Event → Answer
answer_of s events (Post card post) = Posted
answer_of s events Decide = Decided (decision_at s (posted events) (decides events)).numbers
answer_of s events (Take card) = Took (taken_at s (posted events) card (takes_of card events))

-- what card i takes in the further events, in order, after these
abbrev pub takings_after : Setup → ℕ → List Event → List Event → List Taken
takings_after s i events [] = []
takings_after s i events (Post card post ∷ more) = takings_after s i (events ++ Post card post ∷ []) more
takings_after s i events (Decide ∷ more) = takings_after s i (events ++ Decide ∷ []) more
takings_after s i events (Take card ∷ more) =
    if card == i then taken_at s (posted events) i (takes_of i events) ∷ takings_after s i (events ++ Take card ∷ []) more else takings_after s i
    (events ++ Take card ∷ []) more

-- what card i takes in all of the events, in order
abbrev pub takings_of : Setup → ℕ → List Event → List Taken
takings_of s i events = takings_after s i [] events

-- a slot of the journal: its posts by card, its match and its numbers
pub record JournalSlot : Type 0 where
  pub posts : List CardPost
  pub matched : List (Option Fed)
  pub numbers : RoundsUsed

-- the journal's slot t, where each card posts these
abbrev pub journal_slot : Setup → (ℕ → ℕ → CardPost) → ℕ → JournalSlot
journal_slot s posts t = record { posts = slot_posts s.ports posts t; matched = (decision_at s posts t).matched; numbers = (decision_at s posts t).numbers }

-- the journal of the slots that the events decided
abbrev pub journal_of : Setup → List Event → List JournalSlot
journal_of s events = map (journal_slot s (posted events)) (range_with_len 0 (decides events))

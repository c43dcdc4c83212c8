-- What a board keeps of its events: the posts and the decided slots by place, and the order in a byte each.
use Rattle.std.specs.Prelude.{ℕ, ◌+◌, ◌-◌, ◌*◌, ◌<◌, ◌≤◌, ◌≡◌, ◌==◌, nat_lt, if◌then◌else◌, Bool, List, [], ◌∷◌, ◌++◌, Option, length, slice_index}
use Rattle.std.specs.Prelude.{slice_index_or, count_by, replicate}
use Rattle.rotating_pick.specs.declared.limits.TheConstants.{MAX_PORTS}
use Rattle.slot_match.specs.declared.matching.Fed.{Fed}
use Rattle.pointer_state.specs.Places.{Places}
use Rattle.islip_rounds.specs.declared.numbers.RoundsUsed.{RoundsUsed}
use Rattle.islip_rounds.specs.Numbers.{numbers_of}
use Rattle.crossbar.specs.declared.cards.Post.{Post as CardPost}
use Rattle.board_state.specs.Boards.{IsSetup, HavePosted}
use Rattle.slot_histories.specs.declared.events.Event.{Event}
use Rattle.slot_histories.specs.declared.events.Event.TheVariants.{Post, Decide, Take}
use Rattle.slot_histories.specs.Events.{Setup, posts_of, takes_of, decides, posted, no_post}
use Rattle.slot_histories.specs.Slots.{places_at, decision_at, is_done_before}
use Rattle.slot_histories.specs.Legal.{IsLegal}

-- what a board keeps of the decided slots: the pointers after them, whether one is done, and each slot's match and numbers
pub record Decisions : Type 0 where
  pub pointers : Places
  pub done : Bool
  pub matches : List (List (Option Fed))
  pub numbers : List RoundsUsed

-- what a board keeps: its setup, for each card how many slots it posted and took, the cards that have posted the slot
-- that is decided next, the decided slots, the posts by place, and the order of the events
pub record Parts : Type 0 where
  pub setup : Setup
  pub posted : List ℕ
  pub taken : List ℕ
  pub posted_next : ℕ
  pub decisions : Decisions
  pub posts : List CardPost
  pub order : List ℕ

-- the post at a place: one of nothing, where none stands
abbrev pub post_at : List CardPost → ℕ → CardPost
post_at posts place = slice_index_or posts place no_post

-- the event that a byte stands for, after k others of the same byte: below n the post of that card, else
-- below 128 the take of the card that is 64 less, and else a decision; post k of card b is at place k n + b
abbrev pub event_at : ℕ → List CardPost → ℕ → ℕ → Event
event_at n posts k b =
    if nat_lt b n then Post b (post_at posts (k * n + b))
    else (if nat_lt b (2 * MAX_PORTS) then Take (b - MAX_PORTS) else Decide)

-- how many of the numbers are x
abbrev pub count_of : ℕ → List ℕ → ℕ
count_of x xs = count_by (λ y. y == x) xs

-- the events that the bytes after `seen` stand for
abbrev pub events_after : ℕ → List CardPost → List ℕ → List ℕ → List Event
events_after n posts seen [] = []
events_after n posts seen (b ∷ bs) = event_at n posts (count_of b seen) b ∷ events_after n posts (seen ++ b ∷ []) bs

-- the events that the bytes stand for
unfoldable pub events_of : ℕ → List CardPost → List ℕ → List Event
events_of n posts order = events_after n posts [] order

-- the events of what a board keeps
abbrev pub events_in : Parts → List Event
events_in p = events_of p.setup.ports p.posts p.order

-- the posts with a place of this number: posts of nothing are added up to it, if there is none
abbrev pub with_place : ℕ → List CardPost → List CardPost
with_place place posts = posts ++ replicate (place + 1 - length posts) no_post

-- how often each card posted and took
pub record AreBooks (n : ℕ) (counts takes : List ℕ) (events : List Event) : Type 0 where
  pub counts_are : (i : ℕ) → i < n → slice_index counts i ≡ length (posts_of i events)
  pub takes_are : (i : ℕ) → i < n → slice_index takes i ≡ takes_of i events

-- what is kept of the decided slots is what they decide
pub record AreDecided (s : Setup) (kept : Decisions) (events : List Event) : Type 0 where
  pub decided : length kept.matches ≡ decides events
  pub numbered : length kept.numbers ≡ decides events
  pub matches_are : (t : ℕ) → t < decides events → slice_index_or kept.matches t [] ≡ (decision_at s (posted events) t).matched
  pub numbers_are : (t : ℕ) → t < decides events → slice_index_or kept.numbers t (numbers_of []) ≡ (decision_at s (posted events) t).numbers
  pub pointers_are : kept.pointers ≡ places_at s (posted events) (decides events)
  pub done_is : kept.done ≡ is_done_before s.ports (posted events) (decides events)

-- the posts, each in its place, and a byte for each
pub record ArePlaces (s : Setup) (posts : List CardPost) (order : List ℕ) (events : List Event) : Type 0 where
  pub inside : (i t : ℕ) → i < s.ports → t < length (posts_of i events) → t * s.ports + i < length posts
  pub each : (i t : ℕ) → i < s.ports → t < length (posts_of i events) → post_at posts (t * s.ports + i) ≡ posted events i t
  pub bytes : (i : ℕ) → i < s.ports → count_of i order ≡ length (posts_of i events)

-- room for all that may come: for a post of each card in each slot, and for each slot's match, numbers and events
pub record IsRoom (s : Setup) (post_room match_room number_room event_room : ℕ) : Type 0 where
  pub for_posts : s.max_slots * s.ports ≤ post_room
  pub for_matches : s.max_slots ≤ match_room
  pub for_numbers : s.max_slots ≤ number_room
  pub for_events : (2 * s.ports + 1) * s.max_slots ≤ event_room

-- what is kept stands for the events, which are a legal list
pub record IsKept (p : Parts) (events : List Event) : Type 0 where
  pub setup : IsSetup p.setup
  pub legal : IsLegal p.setup events
  pub books : AreBooks p.setup.ports p.posted p.taken events
  pub next : HavePosted p.setup events p.posted_next
  pub decided : AreDecided p.setup p.decisions events
  pub places : ArePlaces p.setup p.posts p.order events
  pub events_are : length p.order ≡ length events

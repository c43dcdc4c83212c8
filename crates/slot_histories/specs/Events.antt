-- Lists of events: what each card posted and how often it took, and how many slots were decided.
use Rattle.std.specs.Prelude.{ℕ, ◌+◌, ◌==◌, if◌then◌else◌, None, false, List, [], ◌∷◌, slice_index_or}
use Rattle.slot_match.specs.Rows.{empty_row}
use Rattle.crossbar.specs.declared.cards.Post.{Post as CardPost}
use Rattle.slot_histories.specs.declared.events.Event.{Event}
use Rattle.slot_histories.specs.declared.events.Event.TheVariants.{Post, Decide, Take}

-- What a board was made for: how many ports it has, how many rounds a slot has, and how many slots are posted at most.
pub record Setup : Type 0 where
  pub ports : ℕ
  pub rounds : ℕ
  pub max_slots : ℕ

-- card i's posts, one for each of its slots
abbrev pub posts_of : ℕ → List Event → List CardPost
posts_of i [] = []
posts_of i (Post card post ∷ events) = if card == i then post ∷ posts_of i events else posts_of i events
posts_of i (Decide ∷ events) = posts_of i events
posts_of i (Take card ∷ events) = posts_of i events

-- how many slots card i took
abbrev pub takes_of : ℕ → List Event → ℕ
takes_of i [] = 0
takes_of i (Post card post ∷ events) = takes_of i events
takes_of i (Decide ∷ events) = takes_of i events
takes_of i (Take card ∷ events) = if card == i then takes_of i events + 1 else takes_of i events

-- how many slots were decided
abbrev pub decides : List Event → ℕ
decides [] = 0
decides (Post card post ∷ events) = decides events
decides (Decide ∷ events) = decides events + 1
decides (Take card ∷ events) = decides events

-- a post of nothing
abbrev pub no_post : CardPost
no_post = record { row = empty_row; cell = None; more = false }

-- what card i posted for slot t
abbrev pub posted : List Event → ℕ → ℕ → CardPost
posted events i t = slice_index_or (posts_of i events) t no_post

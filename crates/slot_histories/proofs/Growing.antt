-- A card's column after one event more.
use Rattle.std.proofs.Common.{◌≡◌, ◌∙◌, ℕ, Bool, true, false, List, [], ◌∷◌, ◌++◌, ap, ◌==◌}
use Rattle.std.specs.Prelude.{if◌then◌else◌}
use Rattle.std.proofs.lemmas.List.{append-nil}
use Rattle.crossbar.specs.declared.cards.Post.{Post as CardPost}
use Rattle.crossbar.specs.declared.cards.Taken.{Taken}
use Rattle.slot_histories.specs.declared.events.Event.{Event}
use Rattle.slot_histories.specs.declared.events.Event.TheVariants.{Post, Decide, Take}
use Rattle.slot_histories.specs.Events.{Setup, posts_of, takes_of, posted}
use Rattle.slot_histories.specs.Slots.{taken_at}
use Rattle.slot_histories.specs.Answers.{takings_of}
use Rattle.slot_histories.specs.Columns.{Column, column_of, with_post, with_taking, column_after}
use Rattle.slot_histories.proofs.Appending.{posts_of-append}
use Rattle.slot_histories.proofs.Takings.{takings_after-append}

abbrev column : List CardPost → List Taken → Column
column posts takings = record { posts = posts; takings = takings }

-- its parts are those of the old column with a few more
module _ (old : Column) (posts : List CardPost) (takings : List Taken) where
  same : posts ≡ old.posts ++ [] → takings ≡ old.takings ++ [] → column posts takings ≡ old
  same posts_are takings_are =
      ap (λ ps. column ps takings) (posts_are ∙ append-nil old.posts) ∙ ap (λ ts. column old.posts ts) (takings_are ∙ append-nil old.takings)

  by_post : (b : Bool) (post : CardPost) → posts ≡ old.posts ++ (if b then post ∷ [] else []) → takings ≡ old.takings ++ []
      → column posts takings ≡ (if b then with_post old post else old)
  by_post true post posts_are takings_are =
      ap (λ ps. column ps takings) posts_are ∙ ap (λ ts. column (old.posts ++ post ∷ []) ts) (takings_are ∙ append-nil old.takings)
  by_post false post posts_are takings_are = same posts_are takings_are

  by_taking : (b : Bool) (taken : Taken) → posts ≡ old.posts ++ [] → takings ≡ old.takings ++ (if b then taken ∷ [] else [])
      → column posts takings ≡ (if b then with_taking old taken else old)
  by_taking true taken posts_are takings_are =
      ap (λ ps. column ps takings) (posts_are ∙ append-nil old.posts) ∙ ap (λ ts. column old.posts ts) takings_are
  by_taking false taken posts_are takings_are = same posts_are takings_are

module _ (s : Setup) (i : ℕ) (events : List Event) where
  posts_grow : (event : Event) → posts_of i (events ++ event ∷ []) ≡ posts_of i events ++ posts_of i (event ∷ [])
  posts_grow event = posts_of-append i events (event ∷ [])

  pub column_of-grown : (event : Event) → column_of s i (events ++ event ∷ []) ≡ column_after s i events event
  column_of-grown (Post card post) =
      by_post (column_of s i events) (posts_of i (events ++ Post card post ∷ [])) (takings_of s i (events ++ Post card post ∷ [])) (card == i) post
      (posts_grow (Post card post)) (takings_after-append s i [] events (Post card post ∷ []))
  column_of-grown Decide =
      same (column_of s i events) (posts_of i (events ++ Decide ∷ [])) (takings_of s i (events ++ Decide ∷ [])) (posts_grow Decide)
      (takings_after-append s i [] events (Decide ∷ []))
  column_of-grown (Take card) =
      by_taking (column_of s i events) (posts_of i (events ++ Take card ∷ [])) (takings_of s i (events ++ Take card ∷ [])) (card == i)
      (taken_at s (posted events) i (takes_of i events)) (posts_grow (Take card)) (takings_after-append s i [] events (Take card ∷ []))

-- The rows of the posted slots are within the switch's ports.
use Rattle.std.proofs.Common.{◌≡◌, ◌∙◌, ℕ, ◌<◌, List, length, ap, sym, subst, arith}
use Rattle.std.proofs.lemmas.List.{get_or-map, length-map}
use Rattle.std.proofs.lemmas.List.FromFn.{length-map-range_with_len, get_or-map-range_with_len}
use Rattle.slot_match.specs.declared.rows.Row.{Row}
use Rattle.slot_match.specs.Rows.{AreWithin, IsWithin, IsOfLevels, no_row, row_of}
use Rattle.crossbar.specs.declared.cards.Post.{Post as CardPost}
use Rattle.slot_histories.specs.declared.events.Event.{Event}
use Rattle.slot_histories.specs.Events.{Setup, posts_of, decides, posted, no_post}
use Rattle.slot_histories.specs.Slots.{slot_posts, slot_rows}
use Rattle.slot_histories.specs.Legal.{IsLegal}
use Rattle.slot_histories.proofs.LegalLists.{AreInStep-legal, AreAccepted-legal}

pub length-slot_posts : (n : ℕ) (posts : ℕ → ℕ → CardPost) (t : ℕ) → length (slot_posts n posts t) ≡ n
length-slot_posts n posts t = length-map-range_with_len (λ i. posts i t) 0 n

pub length-slot_rows : (n : ℕ) (posts : ℕ → ℕ → CardPost) (t : ℕ) → length (slot_rows n posts t) ≡ n
length-slot_rows n posts t = length-map (slot_posts n posts t) (λ post. post.row) ∙ length-slot_posts n posts t

-- card i's row of a slot is that of its post
pub row_of-slot_rows : (n : ℕ) (posts : ℕ → ℕ → CardPost) (t i : ℕ) → i < n → row_of (slot_rows n posts t) i ≡ (posts i t).row
row_of-slot_rows n posts t i inside =
    let row : CardPost → Row = λ post. post.row in
    get_or-map row (slot_posts n posts t) i no_post no_row (omega (arith, length-slot_posts n posts t))
    ∙ ap row (get_or-map-range_with_len (λ j. posts j t) 0 n i i no_post inside (omega arith))

-- the rows of a slot that all cards have posted are within the ports
pub posted_rows-within : (s : Setup) (events : List Event) (t : ℕ) → IsLegal s events → ((i : ℕ) → i < s.ports → t < length (posts_of i events))
    → AreWithin s.ports (slot_rows s.ports (posted events) t)
posted_rows-within s events t legal all =
    let stand = AreAccepted-legal s events legal in
    let posts = posted events in
    record {
      count = length-slot_rows s.ports posts t;
      ports = λ i inside. subst (IsWithin s.ports) (sym (row_of-slot_rows s.ports posts t i inside)) (stand.accepted i t inside (all i inside)).within;
      levels = λ i inside. subst IsOfLevels (sym (row_of-slot_rows s.ports posts t i inside)) (stand.accepted i t inside (all i inside)).levels;
    }

pub rows_within : (s : Setup) (events : List Event) (t : ℕ) → IsLegal s events → t < decides events → AreWithin s.ports (slot_rows s.ports (posted events) t)
rows_within s events t legal below = let step = AreInStep-legal s events legal in
    posted_rows-within s events t legal (λ i inside. omega (arith, step.decided_posted i inside))

-- What stands in a list of events with more at its end.
use Rattle.std.proofs.Common.{◌≡◌, ◌≢◌, ◌∙◌, ℕ, ◌+◌, ◌<◌, Bool, true, false, List, [], ◌∷◌, ◌++◌, length, refl, ap, arith, if◌then◌else◌, ◌==◌}
use Rattle.std.proofs.Math.ListN.{get_or-append}
use Rattle.std.proofs.lemmas.Bool.{eq-eqb, ne_eqb}
use Rattle.std.proofs.lemmas.List.{append-nil, length_push}
use Rattle.crossbar.specs.declared.cards.Post.{Post as CardPost}
use Rattle.slot_histories.specs.declared.events.Event.{Event}
use Rattle.slot_histories.specs.declared.events.Event.TheVariants.{Post, Decide, Take}
use Rattle.slot_histories.specs.Events.{posts_of, takes_of, decides, posted, no_post}

front_in : {X : Type 0} (b : Bool) (x : X) (xs ys : List X) → (if b then x ∷ (xs ++ ys) else xs ++ ys) ≡ (if b then x ∷ xs else xs) ++ ys
front_in true x xs ys = refl
front_in false x xs ys = refl

one_in : (b : Bool) (m k : ℕ) → (if b then m + k + 1 else m + k) ≡ (if b then m + 1 else m) + k
one_in true m k = omega arith
one_in false m k = refl

-- ---- the posts, the takes and the decided slots of two lists, one after the other
pub posts_of-append : (i : ℕ) (events more : List Event) → posts_of i (events ++ more) ≡ posts_of i events ++ posts_of i more
posts_of-append i [] more = refl
posts_of-append i (Post card post ∷ events) more = rw (posts_of-append i events more) (front_in (card == i) post (posts_of i events) (posts_of i more))
posts_of-append i (Decide ∷ events) more = posts_of-append i events more
posts_of-append i (Take card ∷ events) more = posts_of-append i events more

pub takes_of-append : (i : ℕ) (events more : List Event) → takes_of i (events ++ more) ≡ takes_of i events + takes_of i more
takes_of-append i [] more = omega arith
takes_of-append i (Post card post ∷ events) more = takes_of-append i events more
takes_of-append i (Decide ∷ events) more = takes_of-append i events more
takes_of-append i (Take card ∷ events) more = rw (takes_of-append i events more) (one_in (card == i) (takes_of i events) (takes_of i more))

pub decides-append : (events more : List Event) → decides (events ++ more) ≡ decides events + decides more
decides-append [] more = omega arith
decides-append (Post card post ∷ events) more = decides-append events more
decides-append (Decide ∷ events) more = omega (arith, decides-append events more)
decides-append (Take card ∷ events) more = decides-append events more

-- a post that stands stays
pub posted-append : (events more : List Event) (i t : ℕ) → t < length (posts_of i events) → posted events i t ≡ posted (events ++ more) i t
posted-append events more i t below = rw (posts_of-append i events more, get_or-append (posts_of i events) (posts_of i more) no_post t below) refl

-- ---- one event more
pub posts_of-same : (events : List Event) (card : ℕ) (post : CardPost) → posts_of card (events ++ Post card post ∷ []) ≡ posts_of card events ++ post ∷ []
posts_of-same events card post =
    let one : posts_of card (Post card post ∷ []) ≡ post ∷ [] = rw (eq-eqb card card refl) refl in
    posts_of-append card events (Post card post ∷ []) ∙ ap (λ x. posts_of card events ++ x) one

pub posts_of-other : (events : List Event) (card i : ℕ) (post : CardPost) → card ≢ i → posts_of i (events ++ Post card post ∷ []) ≡ posts_of i events
posts_of-other events card i post other =
    let none : posts_of i (Post card post ∷ []) ≡ [] = rw (ne_eqb card i other) refl in
    posts_of-append i events (Post card post ∷ []) ∙ ap (λ x. posts_of i events ++ x) none ∙ append-nil (posts_of i events)

pub posts_of-decide : (events : List Event) (i : ℕ) → posts_of i (events ++ Decide ∷ []) ≡ posts_of i events
posts_of-decide events i = posts_of-append i events (Decide ∷ []) ∙ append-nil (posts_of i events)

pub posts_of-take : (events : List Event) (card i : ℕ) → posts_of i (events ++ Take card ∷ []) ≡ posts_of i events
posts_of-take events card i = posts_of-append i events (Take card ∷ []) ∙ append-nil (posts_of i events)

pub takes_of-same : (events : List Event) (card : ℕ) → takes_of card (events ++ Take card ∷ []) ≡ takes_of card events + 1
takes_of-same events card =
    let one : takes_of card (Take card ∷ []) ≡ 1 = rw (eq-eqb card card refl) refl in
    omega (arith, takes_of-append card events (Take card ∷ []), one)

pub takes_of-other : (events : List Event) (card i : ℕ) → card ≢ i → takes_of i (events ++ Take card ∷ []) ≡ takes_of i events
takes_of-other events card i other =
    let none : takes_of i (Take card ∷ []) ≡ 0 = rw (ne_eqb card i other) refl in
    omega (arith, takes_of-append i events (Take card ∷ []), none)

pub takes_of-post : (events : List Event) (card i : ℕ) (post : CardPost) → takes_of i (events ++ Post card post ∷ []) ≡ takes_of i events
takes_of-post events card i post = omega (arith, takes_of-append i events (Post card post ∷ []))

pub takes_of-decide : (events : List Event) (i : ℕ) → takes_of i (events ++ Decide ∷ []) ≡ takes_of i events
takes_of-decide events i = omega (arith, takes_of-append i events (Decide ∷ []))

pub decides-post : (events : List Event) (card : ℕ) (post : CardPost) → decides (events ++ Post card post ∷ []) ≡ decides events
decides-post events card post = omega (arith, decides-append events (Post card post ∷ []))

pub decides-decide : (events : List Event) → decides (events ++ Decide ∷ []) ≡ decides events + 1
decides-decide events = omega (arith, decides-append events (Decide ∷ []))

pub decides-take : (events : List Event) (card : ℕ) → decides (events ++ Take card ∷ []) ≡ decides events
decides-take events card = omega (arith, decides-append events (Take card ∷ []))

-- how many the card has posted with one post more
pub posted_more : (events : List Event) (card : ℕ) (post : CardPost)
    → length (posts_of card (events ++ Post card post ∷ [])) ≡ length (posts_of card events) + 1
posted_more events card post = ap length (posts_of-same events card post) ∙ length_push (posts_of card events) post

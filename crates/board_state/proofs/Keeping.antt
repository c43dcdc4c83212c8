-- What is kept still stands for the events, with one more.
use Rattle.std.proofs.Common.{◌⊎◌, ◌↔◌, ◌≡◌, ℕ, ◌+◌, ◌*◌, ◌<◌, ◌≤◌, Bool, List, [], ◌∷◌, ◌++◌, length, arith, slice_index, slice_set}
use Rattle.std.proofs.lemmas.List.{length_push}
use Rattle.rotating_pick.specs.declared.limits.TheConstants.{MAX_PORTS}
use Rattle.rotating_pick.specs.PortSets.{Has}
use Rattle.eslip_rounds.specs.Slots.{Decision}
use Rattle.crossbar.specs.declared.cards.Post.{Post as CardPost}
use Rattle.slot_histories.specs.declared.events.Event.{Event}
use Rattle.slot_histories.specs.declared.events.Event.TheVariants.{Post, Decide, Take}
use Rattle.slot_histories.specs.Events.{posts_of, decides, posted}
use Rattle.slot_histories.specs.Slots.{decision_at, is_done_at}
use Rattle.slot_histories.specs.Legal.{MayPost, MayDecide, MayTake, Allows}
use Rattle.slot_histories.proofs.Appending.{posts_of-decide, posts_of-take, decides-post, decides-take}
use Rattle.slot_histories.proofs.InStep.{AreInStep, length-in_step}
use Rattle.slot_histories.proofs.LegalLists.{IsLegal-more, AreInStep-legal}
use Rattle.board_state.specs.KeepingSteps.{Parts, events_of, events_in, with_place, IsKept, IsRoom}
use Rattle.board_state.proofs.Decoding.{events_of-post, events_of-take, events_of-decide}
use Rattle.board_state.proofs.Placing.{with_place-like, place_in, place_few, ArePlaces-idle, ArePlaces-post}
use Rattle.board_state.proofs.Booking.{raised, AreBooks-post, AreBooks-take, AreBooks-decide, HavePosted-post, HavePosted-take, HavePosted-decide}
use Rattle.board_state.proofs.Deciding.{with_decided, AreDecided-idle, AreDecided-decide}

-- ---- what is kept after one event more
-- the posts, with one more of the card
abbrev pub posts_with : Parts → ℕ → CardPost → List CardPost
posts_with p card post =
    let place = slice_index p.posted card * p.setup.ports + card in
    slice_set (with_place place p.posts) place post

-- a post, after which these cards have posted the slot that is decided next
abbrev pub with_post : Parts → ℕ → CardPost → ℕ → Parts
with_post p card post next = record {
  setup = p.setup;
  posted = raised p.posted card;
  taken = p.taken;
  posted_next = next;
  decisions = p.decisions;
  posts = posts_with p card post;
  order = p.order ++ card ∷ [];
}

abbrev pub with_take : Parts → ℕ → Parts
with_take p card = record {
  setup = p.setup;
  posted = p.posted;
  taken = raised p.taken card;
  posted_next = p.posted_next;
  decisions = p.decisions;
  posts = p.posts;
  order = p.order ++ (MAX_PORTS + card) ∷ [];
}

abbrev pub with_decision : Parts → Decision → Bool → Parts
with_decision p decision done = record {
  setup = p.setup;
  posted = p.posted;
  taken = p.taken;
  posted_next = 0;
  decisions = with_decided p.decisions decision done;
  posts = p.posts;
  order = p.order ++ 128 ∷ [];
}

one_more :
    (order : List ℕ) (b : ℕ) (events : List Event) (event : Event) →
    length order ≡ length events → length (order ++ b ∷ []) ≡ length (events ++ event ∷ [])
one_more order b events event same = omega (arith, length_push order b, length_push events event)

module _ {p : Parts} {events : List Event} (kept : IsKept p events) where
  pub in_step : AreInStep p.setup events
  in_step = AreInStep-legal p.setup events kept.legal

  pub IsKept-post :
      (card : ℕ) (post : CardPost) (next : ℕ) → card < length p.posted → MayPost p.setup events card post →
      ((i : ℕ) → Has next i ↔ ((i ≡ card) ⊎ Has p.posted_next i)) →
      IsKept (with_post p card post next) (events ++ Post card post ∷ [])
  IsKept-post card post next room may has =
      record {
        setup = kept.setup;
        legal = IsLegal-more p.setup events (Post card post) kept.legal may;
        books = AreBooks-post kept.books card post may.card_in room;
        next = HavePosted-post p.setup events p.posted_next kept.next card post next in_step may has;
        decided = AreDecided-idle kept.decided (Post card post) in_step (decides-post events card post);
        places = rw (kept.books.counts_are card may.card_in) (ArePlaces-post kept.places kept.setup.ports_some may);
        events_are = one_more p.order card events (Post card post) kept.events_are;
      }

  pub IsKept-take : (card : ℕ) → card < length p.taken → MayTake p.setup events card → IsKept (with_take p card) (events ++ Take card ∷ [])
  IsKept-take card room may =
      let above : p.setup.ports ≤ MAX_PORTS + card = omega (arith, kept.setup.ports_few) in
      record {
        setup = kept.setup;
        legal = IsLegal-more p.setup events (Take card) kept.legal may;
        books = AreBooks-take kept.books card may.card_in room;
        next = HavePosted-take p.setup events p.posted_next kept.next card;
        decided = AreDecided-idle kept.decided (Take card) in_step (decides-take events card);
        places = ArePlaces-idle kept.places (Take card) (MAX_PORTS + card) (posts_of-take events card) above;
        events_are = one_more p.order (MAX_PORTS + card) events (Take card) kept.events_are;
      }

  pub IsKept-decide :
      (decision : Decision) (last : Bool) → MayDecide p.setup events →
      decision ≡ decision_at p.setup (posted events) (decides events) → last ≡ is_done_at p.setup.ports (posted events) (decides events) →
      IsKept (with_decision p decision last) (events ++ Decide ∷ [])
  IsKept-decide decision last may is is_last =
      record {
        setup = kept.setup;
        legal = IsLegal-more p.setup events Decide kept.legal may;
        books = AreBooks-decide kept.books;
        next = HavePosted-decide p.setup events may;
        decided = AreDecided-decide kept.decided decision last kept.setup.ports_some kept.legal may is is_last;
        places = ArePlaces-idle kept.places Decide 128 (λ i. posts_of-decide events i) (omega (arith, kept.setup.ports_few));
        events_are = one_more p.order 128 events Decide kept.events_are;
      }

  -- ---- the room for one event more
  module _ {post_room match_room number_room event_room : ℕ} (room : IsRoom p.setup post_room match_room number_room event_room) where
    pub event_fits : (event : Event) → Allows p.setup events event → length p.order < event_room
    event_fits event may =
        let more = events ++ event ∷ [] in
        let step = AreInStep-legal p.setup more (IsLegal-more p.setup events event kept.legal may) in
        let most = length-in_step p.setup more kept.setup.ports_some step in
        omega (arith, most, length_push events event, kept.events_are, room.for_events)

    pub decision_fits : MayDecide p.setup events → (length p.decisions.matches < match_room) × (length p.decisions.numbers < number_room)
    decision_fits may =
        let some = kept.setup.ports_some in
        let most : decides events < p.setup.max_slots = omega (arith, may 0 some, in_step.posts_within 0 some) in
        (omega (arith, kept.decided.decided, room.for_matches), omega (arith, kept.decided.numbered, room.for_numbers))

  -- ---- how much is decided
  pub decided_few : decides events ≤ p.setup.max_slots
  decided_few = omega (arith, in_step.decided_posted 0 kept.setup.ports_some, in_step.posts_within 0 kept.setup.ports_some)

  -- the place of the card's next post is within those of all slots
  pub post_few : (card : ℕ) (post : CardPost) → MayPost p.setup events card post
      → slice_index p.posted card * p.setup.ports + card < p.setup.max_slots * p.setup.ports
  post_few card post may = rw (kept.books.counts_are card may.card_in) (place_few kept.places kept.setup.ports_some may)

-- ---- the events of what is kept then
module _ {p : Parts} (kept : IsKept p (events_in p)) where
  pub post_events :
      (card : ℕ) (post : CardPost) (next : ℕ) → MayPost p.setup (events_in p) card post →
      events_in (with_post p card post next) ≡ events_in p ++ Post card post ∷ []
  post_events card post next may =
      let n = p.setup.ports in
      let slot = length (posts_of card (events_in p)) in
      rw (kept.books.counts_are card may.card_in)
      (events_of-post n p.posts (with_place (slot * n + card) p.posts) p.order slot card post may.card_in
      (place_in kept.places kept.setup.ports_some may) (λ other. with_place-like (slot * n + card) p.posts other) (kept.places.bytes card may.card_in))

  pub take_events : (card : ℕ) → card < p.setup.ports → events_in (with_take p card) ≡ events_in p ++ Take card ∷ []
  take_events card card_in = events_of-take p.setup.ports p.posts p.order card kept.setup.ports_few card_in

  pub decision_events : events_of p.setup.ports p.posts (p.order ++ 128 ∷ []) ≡ events_in p ++ Decide ∷ []
  decision_events = events_of-decide p.setup.ports p.posts p.order kept.setup.ports_few

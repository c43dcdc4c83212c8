-- What the test of an event tells, after a legal list of events: whether it may come.
use Rattle.std.proofs.Common.{◌≡◌, ◌↔◌, ℕ, zero, suc, ◌+◌, ◌<◌, ◌≤◌, ◌==◌, ◌&&◌, not, nat_lt, Bool, List, length, refl, arith, IsTrue}
use Rattle.std.specs.Bool.{Decides}
use Rattle.std.specs.List.{list_all, range_with_len}
use Rattle.std.proofs.lemmas.Bool.{and_parts, and_from, not-true, not_from_false, lt-ltb, ltb-true, eq-eqb, eqb-true}
use Rattle.std.proofs.lemmas.Bool.Decides.{same_from_decides, Decides-eqb, Decides-ltb, Decides-like, Decides-and}
use Rattle.slot_match.specs.Rows.{empty_row, IsEmptyRow, IsWithin, IsOfLevels}
use Rattle.crossbar.specs.declared.cards.Post.{Post as CardPost}
use Rattle.slot_histories.specs.declared.events.Event.{Event}
use Rattle.slot_histories.specs.declared.events.Event.TheVariants.{Post, Decide, Take}
use Rattle.slot_histories.specs.Events.{Setup, posts_of, takes_of, decides, posted}
use Rattle.slot_histories.specs.Slots.{is_done_before, row_before, served_before}
use Rattle.slot_histories.specs.Legal.{IsAccepted, MayPost, Allows, IsLegal}
use Rattle.slot_histories.specs.Tests.{is_empty, is_accepted, is_allowed}
use Rattle.slot_histories.proofs.SetTests.{Decides-is_empty}
use Rattle.slot_histories.proofs.KeepingTests.{Decides-each}
use Rattle.slot_histories.proofs.PostTests.{Decides-is_accepted}
use Rattle.slot_histories.proofs.LegalLists.{AreAccepted-legal}

pub IsEmptyRow-empty : IsEmptyRow empty_row
unfolding is_empty
IsEmptyRow-empty = (Decides-is_empty empty_row).0 refl

-- the row that a card posted last names none but the n ports, at the four levels
pub last_within : (s : Setup) (events : List Event) → IsLegal s events → (i t : ℕ) → i < s.ports → t ≤ length (posts_of i events)
    → IsWithin s.ports (row_before (posted events) i t) × IsOfLevels (row_before (posted events) i t)
last_within s events legal i zero inside few =
    (λ level j kind named. absurd (IsEmptyRow-empty level j kind named), λ level j kind named. absurd (IsEmptyRow-empty level j kind named))
last_within s events legal i (suc t) inside few =
    let accepted = (AreAccepted-legal s events legal).accepted i t inside (omega arith) in
    (accepted.within, accepted.levels)

Decides-post : (s : Setup) (events : List Event) (card : ℕ) (post : CardPost) → IsLegal s events
    → Decides (is_allowed s events (Post card post)) (MayPost s events card post)
unfolding is_allowed
Decides-post s events card post legal =
    let card_in = nat_lt card s.ports in
    let taken = takes_of card events == length (posts_of card events) in
    let room = nat_lt (length (posts_of card events)) s.max_slots in
    let done = is_done_before s.ports (posted events) (takes_of card events) in
    let last = row_before (posted events) card (takes_of card events) in
    let served = served_before s (posted events) card (takes_of card events) in
    let accepted = is_accepted s.ports card last served post in
    let tells : card < s.ports → takes_of card events ≡ length (posts_of card events) → Decides accepted (IsAccepted s.ports card last served post) =
    λ inside all. let within = last_within s events legal card (takes_of card events) inside (omega arith) in
    Decides-is_accepted s.ports card last served post within.0 within.1 in (
      λ e.
          let a = and_parts (card_in && taken && room && not done) accepted e in
          let b = and_parts (card_in && taken && room) (not done) a.0 in
          let c = and_parts (card_in && taken) room b.0 in
          let d = and_parts card_in taken c.0 in
          let inside = ltb-true card s.ports d.0 in
          let all = eqb-true (takes_of card events) (length (posts_of card events)) d.1 in
          record {
            card_in = inside;
            taken = all;
            room = ltb-true (length (posts_of card events)) s.max_slots c.1;
            not_done = not-true done b.1;
            accepted = (tells inside all).0 a.1;
          },
      λ may.
          and_from (card_in && taken && room && not done) accepted
          (and_from (card_in && taken && room) (not done)
          (and_from (card_in && taken) room
          (and_from card_in taken (lt-ltb card s.ports may.card_in) (eq-eqb (takes_of card events) (length (posts_of card events)) may.taken))
          (lt-ltb (length (posts_of card events)) s.max_slots may.room))
          (not_from_false done may.not_done))
          ((tells may.card_in may.taken).1 may.accepted),
    )

-- after a legal list the test of an event tells whether it may come
pub Decides-is_allowed : (s : Setup) (events : List Event) (event : Event) → IsLegal s events → Decides (is_allowed s events event) (Allows s events event)
unfolding is_allowed
Decides-is_allowed s events (Post card post) legal = Decides-post s events card post legal
Decides-is_allowed s events Decide legal =
    let one = λ (i : ℕ). length (posts_of i events) == decides events + 1 in
    Decides-like (list_all one (range_with_len 0 s.ports)) (λ each i inside. each i (omega arith) (omega arith)) (λ each i from below. each i (omega arith))
    (Decides-each one (λ i. length (posts_of i events) ≡ decides events + 1) (λ i. Decides-eqb (length (posts_of i events)) (decides events + 1)) 0 s.ports)
Decides-is_allowed s events (Take card) legal =
    let card_in = nat_lt card s.ports in
    let posted_it = nat_lt (takes_of card events) (length (posts_of card events)) in
    let decided = nat_lt (takes_of card events) (decides events) in
    Decides-like (card_in && posted_it && decided) (λ p. record { card_in = p.0.0; posted = p.0.1; decided = p.1 })
    (λ may. ((may.card_in, may.posted), may.decided))
    (Decides-and (card_in && posted_it) decided
    (Decides-and card_in posted_it (Decides-ltb card s.ports) (Decides-ltb (takes_of card events) (length (posts_of card events))))
    (Decides-ltb (takes_of card events) (decides events)))

pub is_allowed-iff : (s : Setup) (events : List Event) (event : Event) → IsLegal s events → IsTrue (is_allowed s events event) ↔ Allows s events event
is_allowed-iff s events event legal = let tells = Decides-is_allowed s events event legal in (tells.0, tells.1)

-- what is true exactly where the event may come is the test
pub is_allowed-only : (s : Setup) (events : List Event) (event : Event) (b : Bool) → IsLegal s events → (IsTrue b ↔ Allows s events event)
    → b ≡ is_allowed s events event
is_allowed-only s events event b legal iff = same_from_decides b (is_allowed s events event) (iff.0, iff.1) (Decides-is_allowed s events event legal)

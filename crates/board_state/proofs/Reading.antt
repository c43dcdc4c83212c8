-- What is read of what is kept.
use Rattle.std.proofs.Common.{map, not, ◌↔◌, ◌≡◌, ◌∙◌, ℕ, zero, suc, ◌+◌, ◌-◌, ◌*◌, ◌<◌, ◌≤◌, ◌==◌, ◌&&◌, List, Option, length, take, drop, refl, ap}
use Rattle.std.proofs.Common.{sym, subst, arith, slice_index, slice_index_or, vec_len, vec_capacity, []}
use Rattle.std.specs.List.{list_all}
use Rattle.std.proofs.lemmas.List.{get_or_default}
use Rattle.rotating_pick.specs.PortSets.{Has}
use Rattle.slot_match.specs.Rows.{AreWithin}
use Rattle.slot_match.specs.declared.matching.Fed.{Fed}
use Rattle.eslip_rounds.specs.Decisions.{decision_of}
use Rattle.crossbar.specs.Crossing.{fetched}
use Rattle.crossbar.specs.declared.cards.Post.{Post as CardPost}
use Rattle.slot_histories.specs.declared.events.Event.{Event}
use Rattle.slot_histories.specs.declared.events.Event.TheVariants.{Decide}
use Rattle.slot_histories.specs.Events.{Setup, posts_of, decides, posted}
use Rattle.slot_histories.specs.Legal.{MayDecide, Allows}
use Rattle.slot_histories.specs.Slots.{slot_posts, decision_at, is_done_at, is_done_before, crossed}
use Rattle.slot_histories.proofs.SoundDecisions.{decision_at-legal, places_at-legal}
use Rattle.slot_histories.proofs.PostedRows.{posted_rows-within}
use Rattle.board_state.specs.declared.state.BoardState.TheInside.{Inside}
use Rattle.board_state.specs.Boards.{BoardValue, HavePosted}
use Rattle.board_state.specs.KeepingSteps.{events_in, IsKept}
use Rattle.board_state.specs.FieldSteps.{parts_of, board_of, AreKept}
use Rattle.board_state.proofs.Placing.{slot_fits, slot_long, slot_is}
use Rattle.board_state.proofs.Deciding.{done_before}
use Rattle.board_state.proofs.Keeping.{in_step, event_fits, decision_fits}

-- an event that may come on the board may come after the events of what is kept
pub may_come :
    {s : Inside} {board : BoardValue} → AreKept s → board_of s ≡ board → (event : Event) → Allows board.setup board.events event →
    Allows (parts_of s).setup (events_in (parts_of s)) event
may_come all is event = subst (λ (b : BoardValue). Allows b.setup b.events event) (sym is)

-- ---- of the board's cards and decided slots
module _ {s : Inside} {board : BoardValue} (all : AreKept s) (is : board_of s ≡ board) where
  here : IsKept (parts_of s) board.events
  here = subst (λ (b : BoardValue). IsKept (parts_of s) b.events) is all.kept

  setup_is : (parts_of s).setup ≡ board.setup
  setup_is = ap (λ (b : BoardValue). b.setup) is

  pub have_posted : HavePosted board.setup board.events s.posted_next
  have_posted = subst (λ (x : Setup). HavePosted x board.events s.posted_next) setup_is here.next

  -- all cards have posted it exactly where it may be decided
  pub all_have_posted : (ports : ℕ) → ((i : ℕ) → Has ports i ↔ (i < s.ports)) → ((i : ℕ) → Has ports i → Has s.posted_next i)
      ↔ MayDecide board.setup board.events
  all_have_posted ports members =
      let same = ap (λ (x : Setup). x.ports) setup_is in (
        λ inside i below. ((have_posted i).0 (inside i ((members i).1 (subst (λ n. i < n) (sym same) below)))).1,
        λ may i member. let below = subst (λ n. i < n) same ((members i).0 member) in (have_posted i).1 (below, may i below),
      )

  pub taken_few : (i : ℕ) → i < board.setup.ports → slice_index s.taken i ≤ decides board.events
  taken_few i below =
      let card_in : i < s.ports = omega (arith, below, ap (λ (x : Setup). x.ports) setup_is) in
      omega (arith, here.books.takes_are i card_in, (in_step here).taken_decided i card_in)

  pub match_is :
      (t : ℕ) (found : List (Option Fed)) → t < decides board.events → found ≡ slice_index_or s.matches.items t found →
      found ≡ (decision_at board.setup (posted board.events) t).matched
  match_is t found below at =
      at ∙ get_or_default s.matches.items t found [] (omega (arith, here.decided.decided)) ∙ here.decided.matches_are t below
      ∙ ap (λ (x : Setup). (decision_at x (posted board.events) t).matched) setup_is

  pub match_wide : (t : ℕ) → t < decides board.events → length (decision_at board.setup (posted board.events) t).matched ≡ board.setup.ports
  match_wide t below =
      let slot = decision_at-legal (parts_of s).setup board.events here.setup.ports_some here.setup.ports_few here.legal t below in
      subst (λ (x : Setup). length (decision_at x (posted board.events) t).matched ≡ x.ports) setup_is slot.matches.count

  pub flag_before :
      (k n : ℕ) → n ≡ length s.matches.items → k ≤ decides board.events →
      (s.done && (k == n)) ≡ is_done_before board.setup.ports (posted board.events) k
  flag_before k n long few =
      ap (λ m. s.done && (k == m)) (long ∙ here.decided.decided)
      ∙ done_before (parts_of s).setup board.events here.setup.ports_some here.legal s.done k here.decided.done_is few
      ∙ ap (λ (x : Setup). is_done_before x.ports (posted board.events) k) setup_is

  module _ (t : ℕ) (below : t < decides board.events) where
    all_posted : (i : ℕ) → i < s.ports → t < length (posts_of i board.events)
    all_posted i inside = omega (arith, (in_step here).decided_posted i inside)

    pub decided_fit : t * s.ports + s.ports ≤ length s.posts.items
    decided_fit = slot_fits here.places here.setup.ports_some t all_posted

    pub decided_are : take s.ports (drop (t * s.ports) s.posts.items) ≡ slot_posts board.setup.ports (posted board.events) t
    decided_are =
        slot_is here.places here.setup.ports_some t all_posted ∙ ap (λ (x : Setup). slot_posts x.ports (posted board.events) t) setup_is

-- the cell that crosses to output j in a slot that is not the first
pub crossed_later :
    (s : Setup) (posts : ℕ → ℕ → CardPost) (j t : ℕ) → 0 < t →
    crossed s posts j t
    ≡ fetched (decision_at s posts (t - 1)).matched (map (λ (post : CardPost). post.cell) (slot_posts s.ports posts t)) j
crossed_later s posts j zero some = absurd (omega arith)
crossed_later s posts j (suc t) some = let back : suc t - 1 ≡ t = omega arith in rw back refl

-- ---- of the slot that is decided next
-- the posts of a slot among all
abbrev pub posts_of_slot : ℕ → ℕ → List CardPost → List CardPost
posts_of_slot n slot posts = take n (drop (slot * n) posts)

abbrev pub found_at : Inside → ℕ → List CardPost
found_at s slot = posts_of_slot s.ports slot s.posts.items

pub record IsNext (s : Inside) (events : List Event) (slot : ℕ) : Type 0 where
  pub may : MayDecide (parts_of s).setup events
  pub few : slot < s.max_slots
  pub fits : slot * s.ports + s.ports ≤ length s.posts.items
  pub count : length (found_at s slot) ≡ s.ports
  pub within : AreWithin s.ports (map (λ (post : CardPost). post.row) (found_at s slot))
  pub pointers : s.pointers.ports ≡ s.ports
  pub decision :
      (found : List CardPost) → found ≡ found_at s slot →
      decision_of s.ports s.rounds slot (map (λ (post : CardPost). post.row) found) s.pointers
      ≡ decision_at (parts_of s).setup (posted events) (decides events)
  pub done :
      (found : List CardPost) → found ≡ found_at s slot →
      list_all (λ (post : CardPost). not post.more) found ≡ is_done_at s.ports (posted events) (decides events)
  pub match_room : vec_len s.matches < vec_capacity s.matches
  pub number_room : vec_len s.numbers < vec_capacity s.numbers
  pub order_room : vec_len s.order < vec_capacity s.order

pub next_slot :
    {s : Inside} {board : BoardValue} {slot : ℕ} → AreKept s → board_of s ≡ board → MayDecide board.setup board.events →
    slot ≡ vec_len s.matches →
    IsNext s (events_in (parts_of s)) slot
next_slot {s} {board} {slot} all is allowed long =
    let kept = all.kept in
    let events = events_in (parts_of s) in
    let setup = (parts_of s).setup in
    let may : MayDecide setup events = may_come all is Decide allowed in
    let some = kept.setup.ports_some in
    let now : slot ≡ decides events = omega (arith, long, s.matches.ok, kept.decided.decided) in
    let posts : (i : ℕ) → i < s.ports → slot < length (posts_of i events) = λ i inside. omega (arith, may i inside) in
    let found = slot_is kept.places some slot posts ∙ ap (slot_posts s.ports (posted events)) now in
    let rows = ap (map (λ (post : CardPost). post.row)) found in
    let within = posted_rows-within setup events (decides events) kept.legal (λ i inside. omega (arith, may i inside)) in
    let places = kept.decided.pointers_are in
    let fits = decision_fits kept all.room may in
    record {
      may = may;
      few = omega (arith, may 0 some, (in_step kept).posts_within 0 some);
      fits = slot_fits kept.places some slot posts;
      count = slot_long kept.places some slot posts;
      within = subst (AreWithin s.ports) (sym rows) within;
      pointers =
          ap (λ p. p.ports) places ∙ (places_at-legal setup events some kept.setup.ports_few kept.legal (decides events) (omega arith)).1;
      decision = λ list at. rw (at, rows, now, places) refl;
      done = λ list at. ap (list_all (λ (post : CardPost). not post.more)) (at ∙ found);
      match_room = omega (arith, fits.0, s.matches.ok);
      number_room = omega (arith, fits.1, s.numbers.ok);
      order_room = omega (arith, event_fits kept all.room Decide may, s.order.ok);
    }

-- The posts in their places, with one event more.
use Rattle.std.proofs.Common.{◌≡◌, ◌∙◌, inl, inr, ℕ, ◌+◌, ◌-◌, ◌*◌, ◌<◌, ◌≤◌, max, List, [], ◌∷◌, ◌++◌, take, drop, length, ap, sym, subst, arith}
use Rattle.std.proofs.Common.{length-append, slice_set, get_or-set_other, get_or-set_same, length-set, length-drop, replicate}
use Rattle.std.proofs.lemmas.Bool.{cases_eq, cases_lt}
use Rattle.std.proofs.lemmas.Nat.{mul-add-lt}
use Rattle.std.proofs.lemmas.List.{get_or-take, get_or-drop, length-take, length-replicate, get_or_past, append-nil}
use Rattle.std.proofs.lemmas.List.FromFn.{fill_by_all}
use Rattle.std.proofs.Math.Seq.{get_or-append_seam, get_or-append_right, set-append_seam}
use Rattle.std.proofs.Math.ListN.{get_or-append}
use Rattle.std_lemmas.proofs.Lists.{get_or-same}
use Rattle.crossbar.specs.declared.cards.Post.{Post as CardPost}
use Rattle.slot_histories.specs.declared.events.Event.{Event}
use Rattle.slot_histories.specs.declared.events.Event.TheVariants.{Post}
use Rattle.slot_histories.specs.Events.{Setup, posts_of, posted, no_post}
use Rattle.slot_histories.specs.Slots.{slot_posts}
use Rattle.slot_histories.specs.Legal.{MayPost}
use Rattle.slot_histories.proofs.Appending.{posts_of-same, posts_of-other, posted-append, posted_more}
use Rattle.board_state.specs.KeepingSteps.{post_at, with_place, ArePlaces}
use Rattle.board_state.proofs.Decoding.{count_of-same, count_of-other, places_differ}

-- ---- a place for a post
module _ (place : ℕ) (posts : List CardPost) where
  pub with_place-long : length (with_place place posts) ≡ max (length posts) (place + 1)
  with_place-long =
      omega (arith, length-append posts (replicate (place + 1 - length posts) no_post), length-replicate (place + 1 - length posts) no_post)

  -- where there is one, nothing is added
  pub with_place-old : place < length posts → with_place place posts ≡ posts
  with_place-old old =
      let none : place + 1 - length posts ≡ 0 = omega arith in
      ap (λ k. posts ++ replicate k no_post) none ∙ append-nil posts

  -- a post written into the next place is added at the end
  pub with_place-next : (post : CardPost) → place ≡ length posts → slice_set (with_place place posts) place post ≡ posts ++ post ∷ []
  with_place-next post is =
      let one : place + 1 - length posts ≡ 1 = omega arith in
      ap (λ k. slice_set (posts ++ replicate k no_post) place post) one
      ∙ ap (λ k. slice_set (posts ++ no_post ∷ []) k post) is ∙ set-append_seam posts no_post [] post

  -- where no post stood, a post of nothing is read as before
  pub with_place-like : (other : ℕ) → post_at (with_place place posts) other ≡ post_at posts other
  with_place-like other =
      let more = place + 1 - length posts in
      elim (cases_lt other (length posts)) [
        | inl before ↦ get_or-append posts (replicate more no_post) no_post other before
        | inr after ↦
            get_or-append_right posts (replicate more no_post) other no_post after
            ∙ get_or-same no_post more (other - length posts) ∙ sym (get_or_past posts other no_post after)
      ]

module _ {s : Setup} {posts : List CardPost} {order : List ℕ} {events : List Event} (places : ArePlaces s posts order events) where
  -- ---- an event that is no post
  pub ArePlaces-idle :
      (event : Event) (b : ℕ) → ((i : ℕ) → posts_of i (events ++ event ∷ []) ≡ posts_of i events) → s.ports ≤ b →
      ArePlaces s posts (order ++ b ∷ []) (events ++ event ∷ [])
  ArePlaces-idle event b same above =
      record {
        inside = λ i t below before. places.inside i t below (rw (same i) at before);
        each = λ i t below inside. rw (same i) (places.each i t below (rw (same i) at inside));
        bytes = λ i below. rw (same i) (count_of-other i b order (λ is. omega arith) ∙ places.bytes i below);
      }

  -- ---- a post, written into its place
  module _ (some : 0 < s.ports) {card : ℕ} {post : CardPost} (may : MayPost s events card post) where
    abbrev slot : ℕ
    slot = length (posts_of card events)

    abbrev place : ℕ
    place = slot * s.ports + card

    abbrev written : List CardPost
    written = slice_set (with_place place posts) place post

    abbrev after : List Event
    after = events ++ Post card post ∷ []

    long : length written ≡ max (length posts) (place + 1)
    long = rw length-set (with_place-long place posts)

    pub place_in : place < length (with_place place posts)
    place_in = omega (arith, with_place-long place posts)

    -- the place is within those of all slots
    pub place_few : place < s.max_slots * s.ports
    place_few = omega (arith, mul-add-lt slot s.ports card s.max_slots may.room may.card_in)

    old_each : (i t : ℕ) → i < s.ports → t < length (posts_of i events) → post_at written (t * s.ports + i) ≡ posted after i t
    old_each i t below inside =
        let other = places_differ s.ports t i slot card below may.card_in (λ is. subst (λ j. t < length (posts_of j events)) is inside) in
        get_or-set_other (with_place place posts) place (t * s.ports + i) post no_post other
        ∙ with_place-like place posts (t * s.ports + i)
        ∙ places.each i t below inside ∙ posted-append events (Post card post ∷ []) i t inside

    new_is : post_at written place ≡ posted after card slot
    new_is =
        get_or-set_same (with_place place posts) place post no_post place_in
        ∙ sym (rw (posts_of-same events card post) (get_or-append_seam (posts_of card events) post [] no_post))

    each : (i t : ℕ) → i < s.ports → t < length (posts_of i after) → post_at written (t * s.ports + i) ≡ posted after i t
    each i t below inside =
        elim (cases_lt t (length (posts_of i events))) [
          | inl old ↦ old_each i t below old
          | inr new ↦ elim (cases_eq card i) [
            | inl is ↦
                let all = ap (λ j. length (posts_of j after)) is in
                let past = ap (λ j. length (posts_of j events)) is in
                let last : t ≡ slot = omega (arith, posted_more events card post, all, past) in
                cc (new_is, is, last)
            | inr ne ↦ absurd (omega (arith, ap length (posts_of-other events card i post ne)))
          ]
        ]

    inside : (i t : ℕ) → i < s.ports → t < length (posts_of i after) → t * s.ports + i < length written
    inside i t below before =
        elim (cases_lt t (length (posts_of i events))) [
          | inl old ↦ omega (arith, places.inside i t below old, long)
          | inr new ↦ elim (cases_eq card i) [
            | inl is ↦
                let all = ap (λ j. length (posts_of j after)) is in
                let past = ap (λ j. length (posts_of j events)) is in
                let last : t ≡ slot = omega (arith, posted_more events card post, all, past) in
                let same : t * s.ports + i ≡ place = cc (last, is) in
                omega (arith, same, long)
            | inr ne ↦ absurd (omega (arith, ap length (posts_of-other events card i post ne)))
          ]
        ]

    pub ArePlaces-post : ArePlaces s written (order ++ card ∷ []) after
    ArePlaces-post =
        let more = posted_more events card post in
        record {
          inside = inside;
          each = each;
          bytes = λ i below. elim (cases_eq card i) [
            | inl is ↦ rw (← is) (omega (arith, count_of-same card order, places.bytes card may.card_in, more))
            | inr ne ↦ rw (posts_of-other events card i post ne) (count_of-other i card order ne ∙ places.bytes i below)
          ];
        }

  -- ---- the posts of a slot that all cards have posted stand together
  module _ (some : 0 < s.ports) (slot : ℕ) (all : (i : ℕ) → i < s.ports → slot < length (posts_of i events)) where
    pub slot_fits : slot * s.ports + s.ports ≤ length posts
    slot_fits =
        let last : slot * s.ports + (s.ports - 1) < length posts = places.inside (s.ports - 1) slot (omega arith) (all (s.ports - 1) (omega arith)) in
        omega arith

    pub slot_long : length (take s.ports (drop (slot * s.ports) posts)) ≡ s.ports
    slot_long = omega (arith, length-take s.ports (drop (slot * s.ports) posts), length-drop (slot * s.ports) posts, slot_fits)

    pub slot_is : take s.ports (drop (slot * s.ports) posts) ≡ slot_posts s.ports (posted events) slot
    slot_is =
        let rest = drop (slot * s.ports) posts in
        fill_by_all (λ i. posted events i slot) (take s.ports rest) s.ports no_post slot_long
        (λ i below.
        get_or-take s.ports rest i no_post below ∙ get_or-drop (slot * s.ports) posts i no_post
        ∙ places.each i slot below (all i below))

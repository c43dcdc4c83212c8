-- The books of the cards, with one event more.
use Rattle.std.proofs.Common.{◌≡◌, ◌∙◌, ◌≢◌, ◌⊎◌, ◌↔◌, inl, inr, ℕ, ◌+◌, ◌<◌, List, [], ◌∷◌, ◌++◌, length, ap, sym, subst, arith, slice_index}
use Rattle.std.proofs.Common.{slice_set, get_or-set_other, get_or-set_same}
use Rattle.std.proofs.lemmas.Bool.{cases_eq}
use Rattle.rotating_pick.specs.PortSets.{Has}
use Rattle.rotating_pick.proofs.Bits.{no_member-zero}
use Rattle.crossbar.specs.declared.cards.Post.{Post as CardPost}
use Rattle.slot_histories.specs.declared.events.Event.{Event}
use Rattle.slot_histories.specs.declared.events.Event.TheVariants.{Post, Decide, Take}
use Rattle.slot_histories.specs.Events.{Setup, posts_of, takes_of, decides}
use Rattle.slot_histories.specs.Legal.{MayPost, MayDecide}
use Rattle.slot_histories.proofs.Appending.{posts_of-other, posts_of-decide, posts_of-take, takes_of-same, takes_of-other, takes_of-post}
use Rattle.slot_histories.proofs.Appending.{takes_of-decide, posted_more, decides-post, decides-take, decides-decide}
use Rattle.slot_histories.proofs.InStep.{AreInStep}
use Rattle.board_state.specs.Boards.{HavePosted}
use Rattle.board_state.specs.KeepingSteps.{AreBooks}

-- the count of one card raised by 1
abbrev pub raised : List ℕ → ℕ → List ℕ
raised counts card = slice_set counts card (slice_index counts card + 1)

-- where that card's count rises by 1 and the others stay, the raised counts are the new ones
raised_are :
    (n card : ℕ) (counts : List ℕ) (old new : ℕ → ℕ) → card < n → card < length counts →
    ((i : ℕ) → i < n → slice_index counts i ≡ old i) → new card ≡ old card + 1 → ((i : ℕ) → card ≢ i → new i ≡ old i) →
    (i : ℕ) → i < n → slice_index (raised counts card) i ≡ new i
raised_are n card counts old new card_in room are own others i below =
    elim (cases_eq card i) [
      | inl is ↦ subst (λ j. slice_index (raised counts card) j ≡ new j) is (rw get_or-set_same (omega (arith, own, are card card_in)))
      | inr ne ↦
          let other : i ≢ card = λ e. ne (sym e) in
          get_or-set_other counts card i (slice_index counts card + 1) 0 other ∙ are i below ∙ sym (others i ne)
    ]

module _ {n : ℕ} {counts takes : List ℕ} {events : List Event} (books : AreBooks n counts takes events) where
  pub AreBooks-post :
      (card : ℕ) (post : CardPost) → card < n → card < length counts →
      AreBooks n (raised counts card) takes (events ++ Post card post ∷ [])
  AreBooks-post card post card_in room =
      let all = λ (list : List Event) (i : ℕ). length (posts_of i list) in
      let more = events ++ Post card post ∷ [] in
      record {
        counts_are = raised_are n card counts (all events) (all more) card_in room books.counts_are (posted_more events card post)
            (λ i ne. ap length (posts_of-other events card i post ne));
        takes_are = λ i below. books.takes_are i below ∙ sym (takes_of-post events card i post);
      }

  pub AreBooks-take : (card : ℕ) → card < n → card < length takes → AreBooks n counts (raised takes card) (events ++ Take card ∷ [])
  AreBooks-take card card_in room =
      let all = λ (list : List Event) (i : ℕ). takes_of i list in
      let more = events ++ Take card ∷ [] in
      record {
        counts_are = λ i below. books.counts_are i below ∙ sym (ap length (posts_of-take events card i));
        takes_are = raised_are n card takes (all events) (all more) card_in room books.takes_are (takes_of-same events card)
            (λ i ne. takes_of-other events card i ne);
      }

  pub AreBooks-decide : AreBooks n counts takes (events ++ Decide ∷ [])
  AreBooks-decide =
      record {
        counts_are = λ i below. books.counts_are i below ∙ sym (ap length (posts_of-decide events i));
        takes_are = λ i below. books.takes_are i below ∙ sym (takes_of-decide events i);
      }

-- ---- the cards that have posted the slot that is decided next
module _ (s : Setup) (events : List Event) (ports : ℕ) (have : HavePosted s events ports) where
  pub HavePosted-post :
      (card : ℕ) (post : CardPost) (next : ℕ) → AreInStep s events → MayPost s events card post →
      ((i : ℕ) → Has next i ↔ ((i ≡ card) ⊎ Has ports i)) → HavePosted s (events ++ Post card post ∷ []) next
  HavePosted-post card post next step may has i =
      let now : length (posts_of card events) ≡ decides events =
      omega (arith, may.taken, step.taken_decided card may.card_in, step.decided_posted card may.card_in) in
      let mine = posted_more events card post in
      let same = decides-post events card post in
      let others = λ (ne : card ≢ i). ap length (posts_of-other events card i post ne) in
      let own = λ (is : card ≡ i). subst
      (λ j. (j < s.ports) × (length (posts_of j (events ++ Post card post ∷ [])) ≡ decides (events ++ Post card post ∷ []) + 1)) is
      (may.card_in, omega arith) in (
        λ member. elim ((has i).0 member) [
          | inl is ↦ own (sym is)
          | inr old ↦
              let was = (have i).0 old in
              elim (cases_eq card i) [
                | inl is ↦ own is
                | inr ne ↦ (was.0, omega (arith, was.1, others ne))
              ]
        ],
        λ p. elim (cases_eq card i) [
          | inl is ↦ (has i).1 (inl (sym is))
          | inr ne ↦ (has i).1 (inr ((have i).1 (p.0, omega (arith, p.1, others ne))))
        ],
      )

  pub HavePosted-take : (card : ℕ) → HavePosted s (events ++ Take card ∷ []) ports
  HavePosted-take card i = rw (posts_of-take events card i, decides-take events card) (have i)

pub HavePosted-decide : (s : Setup) (events : List Event) → MayDecide s events → HavePosted s (events ++ Decide ∷ []) 0
HavePosted-decide s events may i =
    (λ member. absurd (no_member-zero i member), λ p. absurd (omega (arith, p.1, may i p.0, ap length (posts_of-decide events i), decides-decide events)))

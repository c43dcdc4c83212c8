-- The journal of a board on which every card has taken the last slot is a lawful file.
use Rattle.std.proofs.Common.{◌≡◌, ℕ, zero, suc, ◌<◌, ◌||◌, ◌∙◌, not, Bool, true, false, All, List, length, refl, sym, ap, subst, arith, inl, inr, add-one}
use Rattle.std.proofs.lemmas.Bool.{cases_Bool, or_parts}
use Rattle.eslip_rounds.specs.Decisions.{decision_of}
use Rattle.crossbar.specs.declared.cards.Post.{Post as CardPost}
use Rattle.slot_histories.specs.declared.events.Event.{Event}
use Rattle.slot_histories.specs.Events.{Setup, posts_of, takes_of, decides, posted, no_post}
use Rattle.slot_histories.specs.Slots.{is_done_at, is_done_before}
use Rattle.slot_histories.specs.Legal.{IsLegal}
use Rattle.slot_histories.proofs.LegalLists.{AreInStep-legal, AreAccepted-legal, done_is_last}
use Rattle.slot_histories.proofs.SoundDecisions.{decision_at-legal}
use Rattle.board_state.specs.Boards.{IsSetup, IsFinished, board_journal, no_slot}
use Rattle.journal_check.specs.declared.posts.FilePost.{FilePost}
use Rattle.journal_check.specs.Files.{FileSlot}
use Rattle.journal_check.specs.Texts.{file_post, file_slot, file_of, HasLevels, HaveLevels, IsFile}
use Rattle.journal_check.specs.Lawful.{IsLawful}
use Rattle.journal_check.proofs.SlotsLawful.{AreWhole, going_before, slot, post_in, slot_in, count_posts, count_slots, slots_lawful, slots_are_file}

right_true : (x y : Bool) → x ≡ false → (x || y) ≡ true → y ≡ true
right_true x y gone e = sym (ap (λ (b : Bool). b || y) gone) ∙ e

-- one of the slots is done, where one of them is
done_some : (n : ℕ) (posts : ℕ → ℕ → CardPost) (k : ℕ) → is_done_before n posts k ≡ true → (t : ℕ) × (t < k) × (is_done_at n posts t ≡ true)
done_some n posts zero done = absurd (cc)
done_some n posts (suc k) done = elim (cases_Bool (is_done_before n posts k)) [
  | inl before ↦ let found = done_some n posts k before in let below = found.1 in (found.0, omega arith, found.2)
  | inr not_before ↦ (k, omega arith, right_true (is_done_before n posts k) (is_done_at n posts k) not_before done)
]

module _ (s : Setup) (events : List Event) (setup : IsSetup s) (legal : IsLegal s events) (finished : IsFinished (record { setup = s; events = events })) where
  posted_in : (i t : ℕ) → i < s.ports → t < decides events → t < length (posts_of i events)
  posted_in i t inside below = let step = AreInStep-legal s events legal in omega (arith, step.decided_posted i inside)

  goes : (t : ℕ) → t < decides events → going_before s.ports (posted events) t ≡ true
  goes zero below = refl
  goes (suc t) below =
      let going = (AreAccepted-legal s events legal).going 0 (suc t) setup.ports_some (posted_in 0 (suc t) setup.ports_some below) in
      ap not (or_parts (is_done_before s.ports (posted events) t) (is_done_at s.ports (posted events) t) going).1

  -- the last decided slot is done
  ends : going_before s.ports (posted events) (decides events) ≡ false
  ends =
      let found = done_some s.ports (posted events) (takes_of 0 events) (finished 0 setup.ports_some) in
      let step = AreInStep-legal s events legal in
      let below : found.0 < decides events = let low = found.1 in omega (arith, step.taken_decided 0 setup.ports_some) in
      let last : decides events ≡ suc found.0 = done_is_last s events setup.ports_some legal found.0 below found.2 ∙ add-one found.0 in
      ap (going_before s.ports (posted events)) last ∙ ap not found.2

  whole : AreWhole decision_of s (posted events) (decides events)
  whole = record {
    accepted = λ i t inside below. (AreAccepted-legal s events legal).accepted i t inside (posted_in i t inside below);
    matches = λ t below. (decision_at-legal s events setup.ports_some setup.ports_few legal t below).matches;
    going = goes;
    ended = ends;
  }

  pub journal_lawful : IsLawful (file_of (board_journal (record { setup = s; events = events })))
  journal_lawful = slots_lawful decision_of s (posted events) (decides events) whole

  four_levels : HaveLevels (file_of (board_journal (record { setup = s; events = events }))) → (i t : ℕ) → i < s.ports → t < decides events
      → HasLevels (posted events i t).row
  four_levels four i t inside below =
      let count = count_slots decision_of s (posted events) (decides events) in
      let cards = count_posts decision_of s (posted events) t in
      let none = file_slot no_slot in
      let posts : All (λ (post : FilePost). HasLevels post.row) (slot decision_of s (posted events) t).posts =
      subst (λ (v : FileSlot). All (λ (post : FilePost). HasLevels post.row) v.posts) (slot_in decision_of s (posted events) (decides events) t none below)
      (four t none (omega arith)) in
      subst (λ (post : FilePost). HasLevels post.row) (post_in decision_of s (posted events) t i (file_post no_post) inside)
      (posts i (file_post no_post) (omega arith))

  pub journal_is_file : HaveLevels (file_of (board_journal (record { setup = s; events = events })))
      → IsFile (file_of (board_journal (record { setup = s; events = events })))
  journal_is_file four =
      let step = AreInStep-legal s events legal in
      slots_are_file decision_of s (posted events) (decides events) whole setup
      (omega (arith, step.decided_posted 0 setup.ports_some, step.posts_within 0 setup.ports_some)) (four_levels four)

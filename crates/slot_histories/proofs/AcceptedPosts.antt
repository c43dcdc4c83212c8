-- After a legal list of events each post that stands was accepted.
use Rattle.std.proofs.Common.{◌≡◌, ◌∙◌, ℕ, ◌<◌, ◌≤◌, false, List, [], ◌∷◌, ◌++◌, length, ap, sym, subst, arith, inl, inr}
use Rattle.std.proofs.Math.Seq.{get_or-append_seam}
use Rattle.std.proofs.lemmas.Bool.{cases_eq, cases_lt}
use Rattle.crossbar.specs.declared.cards.Post.{Post as CardPost}
use Rattle.slot_histories.specs.declared.events.Event.{Event}
use Rattle.slot_histories.specs.declared.events.Event.TheVariants.{Post, Decide, Take}
use Rattle.slot_histories.specs.Events.{Setup, posts_of, takes_of, decides, posted, no_post}
use Rattle.slot_histories.specs.Slots.{is_done_before, row_before, served_before}
use Rattle.slot_histories.specs.Legal.{IsAccepted, MayPost, Allows}
use Rattle.slot_histories.proofs.Appending.{posted-append, posts_of-same, posts_of-other, posts_of-decide, posts_of-take, posted_more}
use Rattle.slot_histories.proofs.Agreeing.{row_before-same, served_before-same, is_done_before-same}
use Rattle.slot_histories.proofs.InStep.{AreInStep, posted-stays}

-- the post is accepted from card i for slot t, after these posts
abbrev pub IsAcceptedFor : Setup → (ℕ → ℕ → CardPost) → ℕ → ℕ → CardPost → Type 0
IsAcceptedFor s posts i t post = IsAccepted s.ports i (row_before posts i t) (served_before s posts i t) post

-- each post that stands was accepted, and no slot before it is done
pub record AreAccepted (s : Setup) (events : List Event) : Type 0 where
  pub accepted : (i t : ℕ) → i < s.ports → t < length (posts_of i events) → IsAcceptedFor s (posted events) i t (posted events i t)
  pub going : (i t : ℕ) → i < s.ports → t < length (posts_of i events) → is_done_before s.ports (posted events) t ≡ false

pub AreAccepted-none : (s : Setup) → AreAccepted s []
AreAccepted-none s = record { accepted = λ i t inside below. absurd (omega arith); going = λ i t inside below. absurd (omega arith) }

-- what was accepted is accepted with more events
module _ (s : Setup) (events more : List Event) (step : AreInStep s events) where
  same : (i t : ℕ) → i < s.ports → t < decides events → posted events i t ≡ posted (events ++ more) i t
  same = posted-stays s events more step

  accepted_still : (i t : ℕ) (post : CardPost) → i < s.ports → t ≤ decides events → IsAcceptedFor s (posted events) i t post
      → IsAcceptedFor s (posted (events ++ more)) i t post
  accepted_still i t post inside few accepted =
      let row = row_before-same s (posted events) (posted (events ++ more)) (decides events) same i t inside few in
      let served = served_before-same s (posted events) (posted (events ++ more)) (decides events) same i t few in
      subst (λ x. IsAccepted s.ports i x (served_before s (posted (events ++ more)) i t) post) row
      (subst (λ x. IsAccepted s.ports i (row_before (posted events) i t) x post) served accepted)

  going_still : (t : ℕ) → t ≤ decides events → is_done_before s.ports (posted events) t ≡ false → is_done_before s.ports (posted (events ++ more)) t ≡ false
  going_still t few going = sym (is_done_before-same s (posted events) (posted (events ++ more)) (decides events) same t few) ∙ going

  old_accepted : AreAccepted s events → (i t : ℕ) → i < s.ports → t < length (posts_of i events)
      → IsAcceptedFor s (posted (events ++ more)) i t (posted (events ++ more) i t)
  old_accepted stand i t inside below =
      let few : t ≤ decides events = omega (arith, step.posted_next i inside) in
      subst (IsAcceptedFor s (posted (events ++ more)) i t) (posted-append events more i t below)
      (accepted_still i t (posted events i t) inside few (stand.accepted i t inside below))

  old_going : AreAccepted s events → (i t : ℕ) → i < s.ports → t < length (posts_of i events) → is_done_before s.ports (posted (events ++ more)) t ≡ false
  old_going stand i t inside below = going_still t (omega (arith, step.posted_next i inside)) (stand.going i t inside below)

-- the post that comes now is the card's last
posted-now : (events : List Event) (card : ℕ) (post : CardPost) → posted (events ++ Post card post ∷ []) card (length (posts_of card events)) ≡ post
posted-now events card post = rw (posts_of-same events card post) (get_or-append_seam (posts_of card events) post [] no_post)

last_accepted : (s : Setup) (events : List Event) (card : ℕ) (post : CardPost) → AreInStep s events → MayPost s events card post → (t : ℕ)
    → t ≡ length (posts_of card events) → IsAcceptedFor s (posted (events ++ Post card post ∷ [])) card t (posted (events ++ Post card post ∷ []) card t)
last_accepted s events card post step may t is =
    let few : takes_of card events ≤ decides events = step.taken_decided card may.card_in in
    let taken : takes_of card events ≡ t = may.taken ∙ sym is in
    let still = accepted_still s events (Post card post ∷ []) step card (takes_of card events) post may.card_in few may.accepted in
    let now : post ≡ posted (events ++ Post card post ∷ []) card t = sym (ap (posted (events ++ Post card post ∷ []) card) is ∙ posted-now events card post) in
    let posts = posted (events ++ Post card post ∷ []) in
    subst (λ u. IsAcceptedFor s posts card u (posts card t)) taken (subst (IsAcceptedFor s posts card (takes_of card events)) now still)

pub AreAccepted-post : (s : Setup) (events : List Event) (card : ℕ) (post : CardPost) → AreInStep s events → AreAccepted s events → MayPost s events card post
    → AreAccepted s (events ++ Post card post ∷ [])
AreAccepted-post s events card post step stand may =
    let few : takes_of card events ≤ decides events = step.taken_decided card may.card_in in
    record {
      accepted = λ i t inside below. elim (cases_lt t (length (posts_of i events))) [
        | inl before ↦ old_accepted s events (Post card post ∷ []) step stand i t inside before
        | inr last ↦ elim (cases_eq card i) [
          | inl is ↦ subst (λ j. IsAcceptedFor s (posted (events ++ Post card post ∷ [])) j t (posted (events ++ Post card post ∷ []) j t)) is
              (last_accepted s events card post step may t
              (omega (
                arith,
                posted_more events card post,
                ap (λ j. length (posts_of j events)) is,
                ap (λ j. length (posts_of j (events ++ Post card post ∷ []))) is,
              )))
          | inr ne ↦ absurd (omega (arith, ap length (posts_of-other events card i post ne)))
        ]
      ];
      going = λ i t inside below. elim (cases_lt t (length (posts_of i events))) [
        | inl before ↦ old_going s events (Post card post ∷ []) step stand i t inside before
        | inr last ↦ elim (cases_eq card i) [
          | inl is ↦
              let now : t ≡ takes_of card events =
              omega (
                arith,
                may.taken,
                posted_more events card post,
                ap (λ j. length (posts_of j events)) is,
                ap (λ j. length (posts_of j (events ++ Post card post ∷ []))) is,
              ) in
              going_still s events (Post card post ∷ []) step t (omega arith) (ap (is_done_before s.ports (posted events)) now ∙ may.not_done)
          | inr ne ↦ absurd (omega (arith, ap length (posts_of-other events card i post ne)))
        ]
      ];
    }

pub AreAccepted-idle : (s : Setup) (events more : List Event) → AreInStep s events → AreAccepted s events
    → ((i : ℕ) → posts_of i (events ++ more) ≡ posts_of i events) → AreAccepted s (events ++ more)
AreAccepted-idle s events more step stand idle =
    record {
      accepted = λ i t inside below. old_accepted s events more step stand i t inside (omega (arith, ap length (idle i)));
      going = λ i t inside below. old_going s events more step stand i t inside (omega (arith, ap length (idle i)));
    }

pub AreAccepted-more : (s : Setup) (events : List Event) (event : Event) → AreInStep s events → AreAccepted s events → Allows s events event
    → AreAccepted s (events ++ event ∷ [])
AreAccepted-more s events (Post card post) step stand may = AreAccepted-post s events card post step stand may
AreAccepted-more s events Decide step stand may = AreAccepted-idle s events (Decide ∷ []) step stand (λ i. posts_of-decide events i)
AreAccepted-more s events (Take card) step stand may = AreAccepted-idle s events (Take card ∷ []) step stand (λ i. posts_of-take events card i)

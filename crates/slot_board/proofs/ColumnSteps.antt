-- What a seat keeps of its card after one event more.
use Rattle.std.proofs.Common.{◌≡◌, ◌∙◌, ℕ, zero, suc, ◌+◌, ◌<◌, ◌≤◌, ◌||◌, Bool, true, false, List, [], ◌∷◌, ◌++◌, length, Option, refl, sym, ap, subst, arith}
use Rattle.std.proofs.Math.Seq.{get_or-append_seam}
use Rattle.std.proofs.lemmas.List.{append-nil}
use Rattle.slot_match.specs.declared.rows.Row.{Row}
use Rattle.slot_match.specs.declared.matching.Served.{Served}
use Rattle.crossbar.specs.declared.cards.Post.{Post as CardPost}
use Rattle.crossbar.specs.declared.cards.Taken.{Taken}
use Rattle.slot_histories.specs.declared.events.Event.{Event}
use Rattle.slot_histories.specs.declared.events.Event.TheVariants.{Post, Take}
use Rattle.slot_histories.specs.Events.{Setup, posts_of, takes_of, decides, posted, no_post}
use Rattle.slot_histories.specs.Slots.{is_done_at, is_done_before, taken_at, row_before, served_before}
use Rattle.slot_histories.specs.Legal.{IsAccepted, MayPost, MayTake, IsLegal}
use Rattle.slot_histories.proofs.Appending.{posted-append, posts_of-append, takes_of-append, posts_of-same, posts_of-take, takes_of-same, takes_of-post}
use Rattle.slot_histories.proofs.Appending.{posted_more}
use Rattle.slot_histories.proofs.Agreeing.{is_done_before-same, served_before-same}
use Rattle.slot_histories.proofs.InStep.{AreInStep, posted-stays}
use Rattle.slot_histories.proofs.LegalLists.{AreInStep-legal, AreAccepted-legal, IsLegal-more}
use Rattle.slot_board.specs.ColumnSteps.{IsColumn}

-- the row of a post that stands stays
row_before-append : (events more : List Event) (i t : ℕ) → t ≤ length (posts_of i events)
    → row_before (posted events) i t ≡ row_before (posted (events ++ more)) i t
row_before-append events more i zero few = refl
row_before-append events more i (suc t) few = ap (λ post. post.row) (posted-append events more i t (omega arith))

module _ (s : Setup) (card slot : ℕ) (has_posted done : Bool) (last : Row) (served : Option Served) (events : List Event)
    (column : IsColumn s card slot has_posted done last served events) (card_in : card < s.ports) where
  in_step : AreInStep s events
  in_step = AreInStep-legal s events column.legal

  slot_decided : slot ≤ decides events
  slot_decided = let taken = in_step.taken_decided card card_in in let is = column.slot_is in omega arith

  done-more : (more : List Event) → done ≡ is_done_before s.ports (posted (events ++ more)) slot
  done-more more = column.done_is
      ∙ is_done_before-same s (posted events) (posted (events ++ more)) (decides events) (posted-stays s events more in_step) slot slot_decided

  served-more : (more : List Event) → served ≡ served_before s (posted (events ++ more)) card slot
  served-more more = column.served_is
      ∙ served_before-same s (posted events) (posted (events ++ more)) (decides events) (posted-stays s events more in_step) card slot slot_decided

  last-more : (more : List Event) (k : ℕ) → k ≡ length (posts_of card events) → last ≡ row_before (posted (events ++ more)) card k
  last-more more k is = column.last_is ∙ ap (row_before (posted events) card) (sym is) ∙ row_before-append events more card k (omega arith)

  -- events in which the card does nothing change nothing of it
  pub IsColumn-more : (more : List Event) → IsLegal s (events ++ more) → posts_of card more ≡ [] → takes_of card more ≡ 0
      → IsColumn s card slot has_posted done last served (events ++ more)
  IsColumn-more more legal no_post no_take =
      let posts : posts_of card (events ++ more) ≡ posts_of card events = posts_of-append card events more ∙ ap (λ ps. posts_of card events ++ ps) no_post
      ∙ append-nil (posts_of card events) in
      let takes = takes_of-append card events more in
      record {
        legal = legal;
        slot_is = let is = column.slot_is in omega arith;
        posts_are = ap length posts ∙ column.posts_are;
        done_is = done-more more;
        last_is = last-more more (length (posts_of card (events ++ more))) (ap length posts);
        served_is = served-more more;
      }

-- a card that has not posted its slot, and may, and its post is accepted
module _ (s : Setup) (card slot : ℕ) (done : Bool) (last : Row) (served : Option Served) (events : List Event)
    (column : IsColumn s card slot false done last served events) (card_in : card < s.ports) where
  pub MayPost-column : (post : CardPost) → done ≡ false → slot < s.max_slots → IsAccepted s.ports card last served post → MayPost s events card post
  MayPost-column post going room accepted =
      let is : slot ≡ takes_of card events = column.slot_is in
      let posts : length (posts_of card events) ≡ slot = column.posts_are in
      let row : last ≡ row_before (posted events) card (takes_of card events) = column.last_is ∙ ap (row_before (posted events) card) (posts ∙ is) in
      let part : served ≡ served_before s (posted events) card (takes_of card events) = column.served_is ∙ ap (served_before s (posted events) card) is in
      record {
        card_in = card_in;
        taken = sym is ∙ sym posts;
        room = omega arith;
        not_done = ap (is_done_before s.ports (posted events)) (sym is) ∙ sym column.done_is ∙ going;
        accepted = subst (λ x. IsAccepted s.ports card (row_before (posted events) card (takes_of card events)) x post) part
            (subst (λ x. IsAccepted s.ports card x served post) row accepted);
      }

  pub IsColumn-post : (post : CardPost) → MayPost s events card post → IsColumn s card slot true done post.row served (events ++ Post card post ∷ [])
  IsColumn-post post may =
      let added = Post card post ∷ [] in
      let now : posted (events ++ added) card (length (posts_of card events)) ≡ post =
      rw (posts_of-same events card post) (get_or-append_seam (posts_of card events) post [] no_post) in
      let count : length (posts_of card (events ++ added)) ≡ suc (length (posts_of card events)) = posted_more events card post ∙ omega arith in
      record {
        legal = IsLegal-more s events (Post card post) column.legal may;
        slot_is = column.slot_is ∙ sym (takes_of-post events card card post);
        posts_are = posted_more events card post ∙ ap (λ k. k + 1) column.posts_are;
        done_is = done-more s card slot false done last served events column card_in added;
        last_is = sym (ap (λ p. p.row) now) ∙ ap (row_before (posted (events ++ added)) card) (sym count);
        served_is = served-more s card slot false done last served events column card_in added;
      }

-- a card that has posted its slot takes it
module _ (s : Setup) (card slot : ℕ) (done : Bool) (last : Row) (served : Option Served) (events : List Event)
    (column : IsColumn s card slot true done last served events) (card_in : card < s.ports) where
  pub IsColumn-take : (taken : Taken) → MayTake s events card → taken ≡ taken_at s (posted events) card (takes_of card events)
      → IsColumn s card (slot + 1) false taken.done last taken.served (events ++ Take card ∷ [])
  IsColumn-take taken may is =
      let added = Take card ∷ [] in
      let step = AreInStep-legal s events column.legal in
      let same = posted-stays s events added step in
      let slot_is : takes_of card events ≡ slot = sym column.slot_is in
      let next : slot + 1 ≡ suc slot = omega arith in
      let decided : slot < decides events = let d = may.decided in omega arith in
      let posts_are = column.posts_are in
      let answer : taken ≡ taken_at s (posted events) card slot = is ∙ ap (taken_at s (posted events) card) slot_is in
      let going : is_done_before s.ports (posted events) slot ≡ false = (AreAccepted-legal s events column.legal).going card slot card_in (omega arith) in
      let at_slot : is_done_before s.ports (posted events) (suc slot) ≡ is_done_at s.ports (posted events) slot =
      ap (λ b. b || is_done_at s.ports (posted events) slot) going in
      let done_now : is_done_before s.ports (posted (events ++ added)) (suc slot) ≡ is_done_before s.ports (posted events) (suc slot) =
      sym (is_done_before-same s (posted events) (posted (events ++ added)) (decides events) same (suc slot) (omega arith)) in
      let served_now : served_before s (posted (events ++ added)) card (suc slot) ≡ served_before s (posted events) card (suc slot) =
      sym (served_before-same s (posted events) (posted (events ++ added)) (decides events) same card (suc slot) (omega arith)) in
      record {
        legal = IsLegal-more s events (Take card) column.legal may;
        slot_is = ap (λ k. k + 1) column.slot_is ∙ sym (takes_of-same events card);
        posts_are = ap length (posts_of-take events card card) ∙ posts_are;
        done_is = ap (λ t. t.done) answer ∙ sym at_slot ∙ sym done_now ∙ ap (is_done_before s.ports (posted (events ++ added))) (sym next);
        last_is = last-more s card slot true done last served events column card_in added (length (posts_of card (events ++ added)))
            (ap length (posts_of-take events card card));
        served_is = ap (λ t. t.served) answer ∙ sym served_now ∙ ap (served_before s (posted (events ++ added)) card) (sym next);
      }

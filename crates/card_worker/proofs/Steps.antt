-- A hand and its column, after one event more.
use Rattle.std.proofs.Common.{◌≡◌, ◌∙◌, ℕ, ◌+◌, ◌<◌, ◌≤◌, Bool, true, false, List, [], ◌∷◌, ◌++◌, length, refl, sym, ap, subst, arith, inl, inr, slice_index_or}
use Rattle.std.specs.Prelude.{Option, None, Some}
use Rattle.std.proofs.lemmas.List.{length_push, length-map, get_or_append_left, map_push}
use Rattle.std.proofs.lemmas.Bool.{cases_lt}
use Rattle.std.proofs.Math.Seq.{get_or-append_seam}
use Rattle.crossbar.specs.declared.cards.Post.{Post}
use Rattle.crossbar.specs.declared.cards.Taken.{Taken}
use Rattle.slot_histories.specs.Events.{no_post}
use Rattle.slot_histories.specs.Columns.{Column, with_post, with_taking, has_ended, row_told, served_told}
use Rattle.slot_board.specs.Columns.{slots_posted}
use Rattle.slot_match.specs.declared.rows.Row.{Row}
use Rattle.card_core.specs.Plans.{Plan, IsGoodPlan}
use Rattle.card_core.specs.Posts.{post_at, row_at, IsServable}
use Rattle.card_core.specs.Cards.{CardState, IsAfter, served_in}
use Rattle.card_worker.specs.Agreeing.{IsGiven, AreGiven, IsDriven, IsLevel, IsAhead, IsInStep}
use Rattle.card_worker.specs.AgreeingSteps.{CanPost, AfterGiving}
use Rattle.card_worker.proofs.Accepting.{servable_taking}
use Rattle.card_worker.proofs.Giving.{given-more, served-given, length-given, done-given, post_at-more}

-- what the card posts next
abbrev pub next_post : Plan → Column → Post
next_post plan column = post_at plan (served_in column.takings) (length column.takings)

-- the card makes its next post
pub IsAhead-post : (old new : CardState) (post : Post) (column : Column) → IsLevel old column → old.sends.posted ≡ false → new.sends.plan ≡ old.sends.plan
    → ((takings : List Taken) → IsAfter old takings false → post ≡ post_at old.sends.plan (served_in takings) (length takings))
    → ((takings : List Taken) → IsAfter old takings false → IsAfter new takings true) → IsAhead post new column
IsAhead-post old new post column level free plan is after =
    let plan_old = old.sends.plan in
    let before : IsAfter old level.given false = subst (IsAfter old level.given) free level.after in
    record {
      given = level.given;
      are_given = subst (λ p. AreGiven p column.takings level.given) (sym plan) level.are_given;
      after = after level.given before;
      posts = level.posts ∙ ap (λ b. slots_posted b (length column.takings)) free;
      is =
          is level.given before
          ∙ ap (λ parts. post_at plan_old parts (length level.given)) (served-given plan_old column.takings level.given level.are_given)
          ∙ ap (post_at plan_old (served_in column.takings)) (length-given plan_old column.takings level.given level.are_given)
          ∙ ap (λ p. next_post p column) (sym plan);
    }

-- the board took that post
pub IsLevel-posted : (post : Post) (card : CardState) (column : Column) → IsAhead post card column → IsLevel card (with_post column post)
IsLevel-posted post card column ahead =
    let phase : card.sends.posted ≡ true = ahead.after.sent.phase in
    record {
      given = ahead.given;
      are_given = ahead.are_given;
      after = subst (IsAfter card ahead.given) (sym phase) ahead.after;
      posts = length_push column.posts post ∙ ap (λ k. k + 1) ahead.posts ∙ ap (λ b. slots_posted b (length column.takings)) (sym phase);
    }

pub IsDriven-posted : (plan : Plan) (post : Post) (column : Column) → IsDriven plan column → length column.posts ≡ length column.takings
    → post ≡ next_post plan column → IsDriven plan (with_post column post)
IsDriven-posted plan post column driven posts is t below =
    let long = length_push column.posts post in
    elim (cases_lt t (length column.posts)) [
      | inl before ↦ get_or_append_left column.posts (post ∷ []) no_post t before ∙ driven t before
      | inr last ↦
          let here : t ≡ length column.posts = omega arith in
          let there : length column.takings ≡ t = omega arith in
          ap (λ k. slice_index_or (column.posts ++ post ∷ []) k no_post) here ∙ get_or-append_seam column.posts post [] no_post ∙ is
          ∙ ap (post_at plan (served_in column.takings)) there
    ]

-- the card took
pub IsLevel-taken : (old new : CardState) (column : Column) (taken : Taken) → IsLevel old column → old.sends.posted ≡ true → AfterGiving taken old new
    → IsLevel new (with_taking column taken)
IsLevel-taken old new column taken level phase giving =
    let before : IsAfter old level.given true = subst (IsAfter old level.given) phase level.after in
    let next : IsAfter new (level.given ++ giving.given ∷ []) false = giving.after level.given before in
    let free : new.sends.posted ≡ false = next.sent.phase in
    let one : IsGiven old.sends.plan level.given taken giving.given = record { card = old; plan_is = refl; after = before; fitted = giving.fitted } in
    record {
      given = level.given ++ giving.given ∷ [];
      are_given = subst (λ p. AreGiven p (column.takings ++ taken ∷ []) (level.given ++ giving.given ∷ [])) (sym giving.plan)
          (given-more old.sends.plan [] column.takings level.given taken giving.given level.are_given one);
      after = subst (IsAfter new (level.given ++ giving.given ∷ [])) (sym free) next;
      posts = level.posts ∙ ap (λ b. slots_posted b (length column.takings)) phase ∙ sym (length_push column.takings taken)
          ∙ ap (λ b. slots_posted b (length (column.takings ++ taken ∷ []))) (sym free);
    }

pub IsDriven-taken : (plan : Plan) (column : Column) (taken : Taken) → IsDriven plan column → length column.posts ≤ length column.takings + 1
    → IsDriven plan (with_taking column taken)
IsDriven-taken plan column taken driven posts t below =
    let served = served_in column.takings in
    let long : length served ≡ length column.takings = length-map column.takings (λ (taken : Taken). taken.served) in
    driven t below
    ∙ sym (post_at-more plan served (taken.served ∷ []) t (omega arith))
    ∙ ap (λ parts. post_at plan parts t) (sym (map_push (λ (taken : Taken). taken.served) column.takings taken))

-- a column with a post that the card has not taken
posted_true : (b : Bool) (k n : ℕ) → n ≡ slots_posted b k → k < n → b ≡ true
posted_true true k n is less = refl
posted_true false k n is less = absurd (omega arith)

posted_false : (b : Bool) (k n : ℕ) → n ≡ slots_posted b k → n ≡ k → b ≡ false
posted_false true k n is same = absurd (omega arith)
posted_false false k n is same = refl

pub level_of : (kept : Option Post) (card : CardState) (column : Column) → IsInStep kept card column → length column.takings < length column.posts
    → (kept ≡ None) × IsLevel card column × (card.sends.posted ≡ true)
level_of None card column level less = (refl, level, posted_true card.sends.posted (length column.takings) (length column.posts) level.posts less)
level_of (Some post) card column ahead less = let same = ahead.posts in absurd (omega arith)

pub slot_is : (card : CardState) (column : Column) → IsLevel card column → card.sends.slot ≡ length column.takings
slot_is card column level =
    let plan = card.sends.plan in
    level.after.sent.slot ∙ length-map level.given (λ (taken : Taken). taken.served) ∙ length-given plan column.takings level.given level.are_given

-- the plan of a hand is a good one
pub good_plan : (kept : Option Post) (card : CardState) (column : Column) → IsInStep kept card column → IsGoodPlan card.sends.plan
good_plan None card column level = level.after.sent.plan
good_plan (Some post) card column ahead = ahead.after.sent.plan

-- what the slot serves may be served of the card's row
pub servable_card : (card : CardState) (column : Column) (taken : Taken) → IsLevel card column → card.sends.posted ≡ true → IsDriven card.sends.plan column
    → length column.takings < length column.posts → IsServable (row_told (with_taking column taken)) (served_told (with_taking column taken))
    → IsServable card.sends.row taken.served
servable_card card column taken level phase driven less may =
    let plan = card.sends.plan in
    let served = served_in column.takings in
    let before : IsAfter card level.given true = subst (IsAfter card level.given) phase level.after in
    let parts = served-given plan column.takings level.given level.are_given in
    let long : length served ≡ length column.takings = length-map column.takings (λ (taken : Taken). taken.served) in
    let row : card.sends.row ≡ row_at plan served (length column.takings) = before.sent.row ∙ ap (λ xs. row_at plan xs (length xs)) parts
    ∙ ap (row_at plan served) long in
    let posted : (slice_index_or column.posts (length column.takings) no_post).row ≡ row_at plan served (length column.takings) =
    ap (λ (p : Post). p.row) (driven (length column.takings) less) in
    subst (λ (r : Row). IsServable r taken.served) (posted ∙ sym row) (servable_taking column taken may)

-- a card that is not done may make its next post
pub CanPost-of : (kept : Option Post) (card : CardState) (column : Column) → IsInStep kept card column → length column.posts ≡ length column.takings
    → has_ended column ≡ false → length column.takings < 262145 → CanPost kept card
CanPost-of None card column level same going few =
    let slot = slot_is card column level in (
      posted_false card.sends.posted (length column.takings) (length column.posts) level.posts same,
      level.after.done
          ∙ done-given card.sends.plan column.takings level.given level.are_given ∙ going,
      omega arith,
    )
CanPost-of (Some post) card column ahead same going few = tt

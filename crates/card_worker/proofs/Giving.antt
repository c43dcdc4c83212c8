-- What a card is given of its takings, and that its post for a slot depends on the slots before alone.
use Rattle.std.proofs.Common.{◌≡◌, ◌∙◌, ◌||◌, ℕ, zero, suc, ◌≤◌, List, [], ◌∷◌, ◌++◌, length, map, refl, sym, ap, subst, append_assoc, arith, inl, inr}
use Rattle.std.proofs.Common.{slice_index_or}
use Rattle.std.specs.Prelude.{Option, None, Some}
use Rattle.std.specs.List.{list_any, range_with_len}
use Rattle.std.specs.Option.{option_map}
use Rattle.std.proofs.lemmas.List.{length-map, append-nil}
use Rattle.std.proofs.Math.ListN.{get_or-append}
use Rattle.std.proofs.Math.Path.{fun_ext}
use Rattle.rotating_pick.specs.declared.limits.TheConstants.{LEVELS}
use Rattle.cell_cutter.specs.declared.cell.Cell.{Cell}
use Rattle.slot_match.specs.declared.rows.Row.{Row}
use Rattle.slot_match.specs.declared.matching.Served.{Served}
use Rattle.slot_match.specs.Parts.{set_of}
use Rattle.crossbar.specs.declared.cards.Post.{Post as CardPost}
use Rattle.crossbar.specs.declared.cards.Taken.{Taken}
use Rattle.multicast_queue.specs.FanQueues.{first_name}
use Rattle.card_core.specs.Plans.{Plan, Queue, OfOutput, OfLevel, cell_named}
use Rattle.card_core.specs.Queues.{Passed, waiting, rest_of}
use Rattle.card_core.specs.Posts.{post_at, row_at, granted_by, granted_at, more_at, has_cells, queue_served}
use Rattle.card_core.specs.Cards.{Received, served_in, is_done}
use Rattle.card_core.proofs.Taking.{queue_in-more}
use Rattle.card_worker.specs.Agreeing.{IsFitted, IsGiven, AreGivenAfter, AreGiven}

-- one taking more
pub given-more : (plan : Plan) (before takings given : List Taken) (taken one : Taken) → AreGivenAfter plan before takings given
    → IsGiven plan (before ++ given) taken one → AreGivenAfter plan before (takings ++ taken ∷ []) (given ++ one ∷ [])
given-more plan before [] [] taken one are is = (subst (λ b. IsGiven plan b taken one) (append-nil before) is, tt)
given-more plan before [] (g ∷ given) taken one are is = absurd are
given-more plan before (t ∷ takings) [] taken one are is = absurd are
given-more plan before (t ∷ takings) (g ∷ given) taken one are is = (
  are.0,
  given-more plan (before ++ g ∷ []) takings given taken one are.1
      (subst (λ b. IsGiven plan b taken one) (sym (append_assoc before (g ∷ []) given)) is),
)

-- what does not read the cell is the same
fitted-same : {Y : Type 0} (f : Taken → Y) (received : Received) (taken one : Taken)
    → f (record { slot = taken.slot; served = taken.served; cell = None; done = taken.done }) ≡ f taken → IsFitted received taken one → f one ≡ f taken
fitted-same f received taken one same is = elim is [ inl all ↦ ap f all.1 | inr bare ↦ ap f bare.1 ∙ same ]

module _ {Y : Type 0} (f : Taken → Y)
    (same : (taken : Taken) → f (record { slot = taken.slot; served = taken.served; cell = None; done = taken.done }) ≡ f taken) (plan : Plan) where
  map-given : (before takings given : List Taken) → AreGivenAfter plan before takings given → map f given ≡ map f takings
  map-given before [] [] are = refl
  map-given before [] (g ∷ given) are = absurd are
  map-given before (t ∷ takings) [] are = absurd are
  map-given before (t ∷ takings) (g ∷ given) are =
      ap (λ y. y ∷ map f given) (fitted-same f are.0.card.receives t g (same t) are.0.fitted)
      ∙ ap (λ ys. f t ∷ ys) (map-given (before ++ g ∷ []) takings given are.1)

module _ (plan : Plan) (takings given : List Taken) (are : AreGiven plan takings given) where
  pub served-given : served_in given ≡ served_in takings
  served-given = map-given (λ (taken : Taken). taken.served) (λ taken. refl) plan [] takings given are

  pub length-given : length given ≡ length takings
  length-given = sym (length-map given (λ (taken : Taken). taken.served)) ∙ ap length served-given ∙ length-map takings (λ (taken : Taken). taken.served)

any_of : (takings : List Taken) → list_any (λ (taken : Taken). taken.done) takings ≡ list_any (λ b. b) (map (λ (taken : Taken). taken.done) takings)
any_of [] = refl
any_of (taken ∷ takings) = ap (λ b. taken.done || b) (any_of takings)

pub done-given : (plan : Plan) (takings given : List Taken) → AreGiven plan takings given → is_done given ≡ is_done takings
done-given plan takings given are =
    any_of given ∙ ap (list_any (λ b. b)) (map-given (λ (taken : Taken). taken.done) (λ taken. refl) plan [] takings given are) ∙ sym (any_of takings)

-- ---- a post depends on the slots before alone
abbrev row_from : Plan → (Queue → Passed) → Row
row_from plan at = record {
  uni = map (λ level. set_of plan.ports (λ j. has_cells (waiting (at (OfOutput j level))))) (range_with_len 0 LEVELS);
  multi = map (λ level. rest_of (OfLevel level) (at (OfLevel level))) (range_with_len 0 LEVELS);
}

abbrev post_from : Plan → ℕ → Row → Option Cell → CardPost
post_from plan t row cell = record { row = row; cell = cell; more = more_at plan t row }

module _ (plan : Plan) (served more : List (Option Served)) where
  granted_by-more : (t : ℕ) (part : Option Served) → t ≤ length served → granted_by plan (served ++ more) t part ≡ granted_by plan served t part
  granted_by-more t None few = refl
  granted_by-more t (Some part) few = ap (λ s. option_map (cell_named plan) (first_name (waiting s))) (queue_in-more plan (queue_served part) served more t few)

  granted_at-more : (t : ℕ) → t ≤ length served → granted_at plan (served ++ more) t ≡ granted_at plan served t
  granted_at-more zero few = refl
  granted_at-more (suc t) few =
      ap (granted_by plan (served ++ more) t) (get_or-append served more None t (omega arith)) ∙ granted_by-more t (slice_index_or served t None) (omega arith)

  row_at-more : (t : ℕ) → t ≤ length served → row_at plan (served ++ more) t ≡ row_at plan served t
  row_at-more t few = ap (row_from plan) (fun_ext (λ q. queue_in-more plan q served more t few))

  pub post_at-more : (t : ℕ) → t ≤ length served → post_at plan (served ++ more) t ≡ post_at plan served t
  post_at-more t few =
      ap (λ row. post_from plan t row (granted_at plan (served ++ more) t)) (row_at-more t few)
      ∙ ap (post_from plan t (row_at plan served t)) (granted_at-more t few)

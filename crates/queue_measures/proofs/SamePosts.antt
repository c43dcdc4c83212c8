-- Slots of the same posts: they decide the same, the same cells cross, and they are done where the others are.
use Rattle.std.proofs.Common.{◌≡◌, ◌∙◌, ℕ, zero, suc, ◌+◌, ◌<◌, ◌≤◌, not, ◌||◌, List, ◌++◌, map, refl, ap, arith}
use Rattle.std.specs.List.{flat_map, range_with_len, list_all}
use Rattle.std.specs.Option.{option_to_list}
use Rattle.cell_cutter.specs.declared.cell.Cell.{Cell}
use Rattle.eslip_rounds.specs.Schedulers.{Scheduler}
use Rattle.crossbar.specs.Crossing.{fetched}
use Rattle.crossbar.specs.declared.cards.Post.{Post as CardPost}
use Rattle.slot_histories.specs.Events.{Setup}
use Rattle.slot_histories.specs.Slots.{slot_posts, slot_rows, places_under, decision_under, crossed_under, is_done_at, is_done_before}

-- lists joined end to end, where the first ones are the same
joined_alike : {A : Type 0} (f g : ℕ → List A) (a n : ℕ) → ((t : ℕ) → t < a + n → f t ≡ g t) → flat_map f (range_with_len a n) ≡ flat_map g (range_with_len a n)
joined_alike f g a zero same = refl
joined_alike f g a (suc n) same =
    ap (λ xs. xs ++ flat_map f (range_with_len (a + 1) n)) (same a (omega arith))
    ∙ ap (λ xs. g a ++ xs) (joined_alike f g (a + 1) n (λ t below. same t (omega arith)))

module _ (scheduler : Scheduler) (s : Setup) (these those : ℕ → ℕ → CardPost) (slots : ℕ) (same : (i t : ℕ) → t < slots → these i t ≡ those i t) where
  posts_alike : (n t : ℕ) → t < slots → slot_posts n these t ≡ slot_posts n those t
  posts_alike n t below =
      let all : (λ i. these i t) ≡ (λ i. those i t) = λ x i. same i t below x in
      ap (λ (posts : ℕ → CardPost). map posts (range_with_len 0 n)) all

  rows_alike : (t : ℕ) → t < slots → slot_rows s.ports these t ≡ slot_rows s.ports those t
  rows_alike t below = ap (map (λ (post : CardPost). post.row)) (posts_alike s.ports t below)

  decision_from_places : (t : ℕ) → t < slots → places_under scheduler s these t ≡ places_under scheduler s those t
      → decision_under scheduler s these t ≡ decision_under scheduler s those t
  decision_from_places t below places =
      ap (λ rows. scheduler s.ports s.rounds t rows (places_under scheduler s these t)) (rows_alike t below)
      ∙ ap (scheduler s.ports s.rounds t (slot_rows s.ports those t)) places

  places_alike : (t : ℕ) → t ≤ slots → places_under scheduler s these t ≡ places_under scheduler s those t
  places_alike zero few = refl
  places_alike (suc t) few = ap (λ decision. decision.places) (decision_from_places t (omega arith) (places_alike t (omega arith)))

  pub decision_alike : (t : ℕ) → t < slots → decision_under scheduler s these t ≡ decision_under scheduler s those t
  decision_alike t below = decision_from_places t below (places_alike t (omega arith))

  -- ---- the cells that cross
  crossed_alike : (j t : ℕ) → t < slots → crossed_under scheduler s these j t ≡ crossed_under scheduler s those j t
  crossed_alike j zero below = refl
  crossed_alike j (suc t) below =
      ap (λ decision. fetched decision.matched (map (λ (post : CardPost). post.cell) (slot_posts s.ports these (suc t))) j) (decision_alike t (omega arith))
      ∙ ap (λ posts. fetched (decision_under scheduler s those t).matched (map (λ (post : CardPost). post.cell) posts) j) (posts_alike s.ports (suc t) below)

  abbrev cells_of : (ℕ → ℕ → CardPost) → ℕ → List Cell
  cells_of posts j = flat_map (λ t. option_to_list (crossed_under scheduler s posts j t)) (range_with_len 0 slots)

  pub cells_alike : (j : ℕ) → cells_of these j ≡ cells_of those j
  cells_alike j =
      joined_alike (λ t. option_to_list (crossed_under scheduler s these j t)) (λ t. option_to_list (crossed_under scheduler s those j t)) 0 slots
      (λ t below. ap option_to_list (crossed_alike j t (omega arith)))

  -- ---- where they are done
  pub done_alike : (n t : ℕ) → t < slots → is_done_at n these t ≡ is_done_at n those t
  done_alike n t below = ap (list_all (λ (post : CardPost). not post.more)) (posts_alike n t below)

  pub done_before_alike : (n k : ℕ) → k ≤ slots → is_done_before n these k ≡ is_done_before n those k
  done_before_alike n zero few = refl
  done_before_alike n (suc k) few =
      ap (λ b. b || is_done_at n these k) (done_before_alike n k (omega arith))
      ∙ ap (λ b. is_done_before n those k || b) (done_alike n k (omega arith))

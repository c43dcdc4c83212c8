-- What the first slots give depends on the posts of these slots alone.
use Rattle.std.proofs.Common.{◌≡◌, ℕ, zero, suc, ◌<◌, ◌≤◌, map, refl, ap, arith}
use Rattle.std.specs.List.{list_all}
use Rattle.std_lemmas.proofs.Ranges.{map_range-same}
use Rattle.slot_match.specs.Parts.{served_of}
use Rattle.crossbar.specs.declared.cards.Post.{Post as CardPost}
use Rattle.slot_histories.specs.Events.{Setup}
use Rattle.slot_histories.specs.Slots.{slot_posts, slot_rows, places_at, decision_at, served_at, is_done_at, is_done_before, crossed, taken_at}
use Rattle.slot_histories.specs.Slots.{row_before, served_before}

-- `these` and `those` agree on the cards of the board and the slots below k
module _ (s : Setup) (these those : ℕ → ℕ → CardPost) (k : ℕ) (same : (i t : ℕ) → i < s.ports → t < k → these i t ≡ those i t) where
  pub slot_posts-same : (t : ℕ) → t < k → slot_posts s.ports these t ≡ slot_posts s.ports those t
  slot_posts-same t below = map_range-same (λ i. these i t) (λ i. those i t) 0 s.ports (λ i inside. same i t (omega arith) below)

  pub slot_rows-same : (t : ℕ) → t < k → slot_rows s.ports these t ≡ slot_rows s.ports those t
  slot_rows-same t below = ap (λ posts. map (λ post. post.row) posts) (slot_posts-same t below)

  pub places_at-same : (t : ℕ) → t ≤ k → places_at s these t ≡ places_at s those t
  places_at-same zero below = refl
  places_at-same (suc t) below =
      let rows = slot_rows-same t (omega arith) in
      let places = places_at-same t (omega arith) in
      cc

  pub decision_at-same : (t : ℕ) → t < k → decision_at s these t ≡ decision_at s those t
  decision_at-same t below =
      let rows = slot_rows-same t below in
      let places = places_at-same t (omega arith) in
      cc

  pub served_at-same : (i t : ℕ) → t < k → served_at s these i t ≡ served_at s those i t
  served_at-same i t below = ap (λ decision. served_of decision.matched i) (decision_at-same t below)

  pub is_done_at-same : (t : ℕ) → t < k → is_done_at s.ports these t ≡ is_done_at s.ports those t
  is_done_at-same t below = ap (list_all _) (slot_posts-same t below)

  pub is_done_before-same : (t : ℕ) → t ≤ k → is_done_before s.ports these t ≡ is_done_before s.ports those t
  is_done_before-same zero below = refl
  is_done_before-same (suc t) below =
      let before = is_done_before-same t (omega arith) in
      let last = is_done_at-same t (omega arith) in
      cc

  pub crossed-same : (j t : ℕ) → t < k → crossed s these j t ≡ crossed s those j t
  crossed-same j zero below = refl
  crossed-same j (suc t) below =
      let posts = slot_posts-same (suc t) below in
      let decision = decision_at-same t (omega arith) in
      cc

  pub taken_at-same : (i t : ℕ) → t < k → taken_at s these i t ≡ taken_at s those i t
  taken_at-same i t below =
      let served = served_at-same i t below in
      let cell = crossed-same i t below in
      let done = is_done_at-same t below in
      cc

  pub row_before-same : (i t : ℕ) → i < s.ports → t ≤ k → row_before these i t ≡ row_before those i t
  row_before-same i zero inside below = refl
  row_before-same i (suc t) inside below = ap (λ post. post.row) (same i t inside (omega arith))

  pub served_before-same : (i t : ℕ) → t ≤ k → served_before s these i t ≡ served_before s those i t
  served_before-same i zero below = refl
  served_before-same i (suc t) below = served_at-same i t (omega arith)

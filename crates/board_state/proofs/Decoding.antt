-- The bytes and the posts, and the events that they stand for.
use Rattle.std.proofs.Common.{◌≡◌, ◌∙◌, ◌≢◌, ℕ, ◌+◌, ◌-◌, ◌*◌, ◌/◌, ◌%◌, ◌<◌, ◌≤◌, List, [], ◌∷◌, ◌++◌, length, refl, ap, sym, arith, append_assoc}
use Rattle.std.proofs.Common.{if◌then◌else◌, slice_set, get_or-set_other, get_or-set_same, nat_lt}
use Rattle.std.proofs.lemmas.List.Sums.{sum_by-append}
use Rattle.std.proofs.lemmas.Bool.{eq-eqb, ne_eqb}
use Rattle.std.proofs.lemmas.Bool.Decides.{nat_tests}
use Rattle.std.proofs.lemmas.Nat.{div-mul-add, mod-mul-add}
use Rattle.std.proofs.lemmas.List.{append-nil}
use Rattle.rotating_pick.specs.declared.limits.TheConstants.{MAX_PORTS}
use Rattle.crossbar.specs.declared.cards.Post.{Post as CardPost}
use Rattle.slot_histories.specs.declared.events.Event.TheVariants.{Post, Decide, Take}
use Rattle.slot_histories.specs.Events.{no_post}
use Rattle.board_state.specs.KeepingSteps.{post_at, event_at, count_of, events_after, events_of}

-- ---- how often a byte stands in the order
pub count_of-append : (x : ℕ) (xs ys : List ℕ) → count_of x (xs ++ ys) ≡ count_of x xs + count_of x ys
count_of-append x xs ys = sum_by-append _ xs ys

count_of-one : (x : ℕ) → count_of x (x ∷ []) ≡ 1
count_of-one x = rw (eq-eqb x x refl) refl

pub count_of-same : (x : ℕ) (xs : List ℕ) → count_of x (xs ++ x ∷ []) ≡ count_of x xs + 1
count_of-same x xs = omega (arith, count_of-append x xs (x ∷ []), count_of-one x)

pub count_of-other : (x y : ℕ) (xs : List ℕ) → y ≢ x → count_of x (xs ++ y ∷ []) ≡ count_of x xs
count_of-other x y xs other =
    let none : count_of x (y ∷ []) ≡ 0 = rw (ne_eqb y x other) refl in
    omega (arith, count_of-append x xs (y ∷ []), none)

-- places of two cards or two slots differ
pub places_differ : (n k b j c : ℕ) → b < n → c < n → (b ≡ c → k < j) → k * n + b ≢ j * n + c
places_differ n k b j c b_in c_in later e =
    let same_b : b ≡ c = sym (mod-mul-add k n b b_in) ∙ ap (λ x. x % n) e ∙ mod-mul-add j n c c_in in
    let same_k : k ≡ j = sym (div-mul-add k n b b_in) ∙ ap (λ x. x / n) e ∙ div-mul-add j n c c_in in
    let less = later same_b in
    absurd (omega arith)

-- ---- the event of a byte
module _ (n : ℕ) (posts : List CardPost) (k : ℕ) where
  event_at-post : (b : ℕ) → b < n → event_at n posts k b ≡ Post b (post_at posts (k * n + b))
  event_at-post b below = grind (arith, nat_tests)

  event_at-high : (b : ℕ) → n ≤ b → event_at n posts k b ≡ (if nat_lt b 128 then Take (b - 64) else Decide)
  event_at-high b above = grind (arith, nat_tests)

  event_at-take : (c : ℕ) → n ≤ 64 → c < n → event_at n posts k (64 + c) ≡ Take c
  event_at-take c few below =
      let back : 64 + c - 64 ≡ c = omega arith in
      event_at-high (64 + c) (omega arith) ∙ grind (arith, nat_tests)

  event_at-same :
      (more : List CardPost) (b : ℕ) → (b < n → post_at more (k * n + b) ≡ post_at posts (k * n + b)) →
      event_at n more k b ≡ event_at n posts k b
  event_at-same more b same = grind (arith, nat_tests)

-- ---- the events of all bytes
events_after-more :
    (n : ℕ) (posts : List CardPost) (seen bs : List ℕ) (b : ℕ) →
    events_after n posts seen (bs ++ b ∷ []) ≡ events_after n posts seen bs ++ event_at n posts (count_of b (seen ++ bs)) b ∷ []
events_after-more n posts seen [] b = rw append-nil refl
events_after-more n posts seen (x ∷ bs) b = rw (events_after-more n posts (seen ++ x ∷ []) bs b, append_assoc) refl

module _ (n : ℕ) (posts : List CardPost) where
  -- posts of other places change none
  events_after-same :
      (more : List CardPost) (seen bs : List ℕ) →
      ((k b : ℕ) → b < n → k < count_of b (seen ++ bs) → post_at more (k * n + b) ≡ post_at posts (k * n + b)) →
      events_after n more seen bs ≡ events_after n posts seen bs
  events_after-same more seen [] same = refl
  events_after-same more seen (b ∷ bs) same =
      let flat = append_assoc seen (b ∷ []) bs in
      let rest = events_after-same more (seen ++ b ∷ []) bs (λ k c c_in inside. same k c c_in (rw flat at inside)) in
      let here : count_of b seen < count_of b (seen ++ b ∷ bs) =
      omega (arith, count_of-append b seen (b ∷ bs), count_of-append b (b ∷ []) bs, count_of-one b) in
      let first = event_at-same n posts (count_of b seen) more b (λ b_in. same (count_of b seen) b b_in here) in
      cc

  -- ---- one event more
  pub events_of-post :
      (more : List CardPost) (order : List ℕ) (slot card : ℕ) (post : CardPost) → card < n → slot * n + card < length more →
      ((place : ℕ) → post_at more place ≡ post_at posts place) → count_of card order ≡ slot →
      events_of n (slice_set more (slot * n + card) post) (order ++ card ∷ []) ≡ events_of n posts order ++ Post card post ∷ []
  unfolding events_of
  events_of-post more order slot card post card_in inside like counted =
      let place = slot * n + card in
      let written = slice_set more place post in
      let same = events_after-same written [] order (λ k b b_in before.
      let other = places_differ n k b slot card b_in card_in (λ is. omega (arith, before, counted, ap (λ x. count_of x order) is)) in
      get_or-set_other more place (k * n + b) post no_post other ∙ like (k * n + b)) in
      let last : event_at n written (count_of card order) card ≡ Post card post =
      event_at-post n written (count_of card order) card card_in
      ∙ ap (Post card) (ap (λ x. post_at written (x * n + card)) counted ∙ get_or-set_same more place post no_post inside) in
      rw (events_after-more n written [] order card, last, same) refl

  pub events_of-take :
      (order : List ℕ) (c : ℕ) → n ≤ MAX_PORTS → c < n →
      events_of n posts (order ++ (MAX_PORTS + c) ∷ []) ≡ events_of n posts order ++ Take c ∷ []
  unfolding events_of
  events_of-take order c few c_in =
      events_after-more n posts [] order (64 + c)
      ∙ ap (λ event. events_after n posts [] order ++ event ∷ []) (event_at-take n posts (count_of (64 + c) order) c few c_in)

  pub events_of-decide : (order : List ℕ) → n ≤ MAX_PORTS → events_of n posts (order ++ 128 ∷ []) ≡ events_of n posts order ++ Decide ∷ []
  unfolding events_of
  events_of-decide order few =
      events_after-more n posts [] order 128
      ∙ ap (λ event. events_after n posts [] order ++ event ∷ []) (event_at-high n posts (count_of 128 order) 128 (omega arith))

-- Where a run ends no cell waits, so each message of the admitted packets was delivered.
use Rattle.std.proofs.Common.{◌≡◌, ◌∙◌, ℕ, suc, ◌<◌, not, nat_lt, Bool, true, false, List, [], ◌∷◌, ◌++◌, map, Option, None, slice_index_or, refl, sym}
use Rattle.std.proofs.Common.{ap, subst, arith, if◌then◌else◌}
use Rattle.std.specs.List.{list_any, list_all}
use Rattle.std.proofs.lemmas.Bool.{not-false, or_parts, false_from_ne_true}
use Rattle.std.proofs.lemmas.List.{append-nil}
use Rattle.std.proofs.lemmas.List.Folds.{list_all_at}
use Rattle.std.proofs.lemmas.List.FromFn.{get_or-map-range_with_len}
use Rattle.rotating_pick.specs.PortSets.{Has}
use Rattle.rotating_pick.specs.declared.kinds.Kind.{Kind}
use Rattle.rotating_pick.specs.declared.kinds.Kind.TheVariants.{Uni, Multi}
use Rattle.rotating_pick.specs.declared.limits.TheConstants.{LEVELS}
use Rattle.slot_match.specs.declared.matching.Served.{Served}
use Rattle.slot_match.specs.Rows.{IsEmptyRow}
use Rattle.multicast_queue.specs.FanQueues.{FanCell, first_fan}
use Rattle.crossbar.specs.declared.cards.Post.{Post as CardPost}
use Rattle.eslip_rounds.specs.Schedulers.{Scheduler, IsScheduler}
use Rattle.slot_histories.specs.Events.{no_post}
use Rattle.slot_histories.specs.Slots.{slot_posts, is_done_at}
use Rattle.slot_histories.specs.Tests.{is_empty}
use Rattle.slot_histories.proofs.SetTests.{Decides-is_empty}
use Rattle.slot_histories.proofs.PostedRows.{length-slot_posts}
use Rattle.reassembly.specs.Cutting.{messages_of}
use Rattle.card_core.specs.Plans.{Plan, Queue, OfOutput, OfLevel, IsGoodPlan, message_of}
use Rattle.card_core.specs.Queues.{waiting, remaining, after_part_of, before as queue_before, queue_in}
use Rattle.card_core.specs.Posts.{has_cells, row_at}
use Rattle.card_core.specs.Grants.{serves, first_of, granted_to}
use Rattle.card_core.specs.Deliveries.{messages_from}
use Rattle.card_core.proofs.Remaining.{remaining-some}
use Rattle.card_core.proofs.Passing.{kept-in}
use Rattle.card_core.proofs.Accepting.{head-of, uni-from, multi-from}
use Rattle.card_core.proofs.Granting.{all_granted}
use Rattle.card_core.proofs.Messaging.{messages-are}
use Rattle.card_core.proofs.Delivering.{flow_is_cut}
use Rattle.switch_plan.specs.GoodPlans.{SwitchPlan, IsGood}
use Rattle.run_laws.specs.Runs.{ports_of, card_at, parts_under, posts_under}
use Rattle.run_laws.specs.Ends.{IsLengthUnder}
use Rattle.run_laws.specs.Crossings.{cells_under, queue_to, admitted_under}
use Rattle.run_laws.proofs.Base.{good-card, servable, row_at-same, granted_to-same}
use Rattle.run_laws.proofs.PacketCells.{named}
use Rattle.run_laws.proofs.FlowCells.{granted_cells}

-- ---- a queue of which the row names nothing is empty
module _ (card : Plan) (good : IsGoodPlan card) (served : List (Option Served)) (t : ℕ) (none : IsEmptyRow (row_at card served t)) where
  uni_waits : (j level : ℕ) → j < card.ports → level < 4 → has_cells (waiting (queue_in card (OfOutput j level) served t)) ≡ true → ⊥
  uni_waits j level inside below some = none level j Uni (uni-from card good served t level j below inside some)

  multi_waits : (level : ℕ) → level < 4 → (c : FanCell) (w : List FanCell) → waiting (queue_in card (OfLevel level) served t) ≡ c ∷ w → ⊥
  multi_waits level below c w is =
      let q = OfLevel level in
      let s = queue_in card q served t in
      let head = head-of card good q s c w (kept-in card good q served t) is in
      let (y, left) = remaining-some q c.fan s.since head.1 in
      none level y Multi (multi-from card good served t level y below (subst (λ f. Has (remaining q f s.since) y) (sym (ap first_fan is)) left))

  uni_none : (j level : ℕ) → j < card.ports → level < 4 → (w : List FanCell) → waiting (queue_in card (OfOutput j level) served t) ≡ w → w ≡ []
  uni_none j level inside below [] is = refl
  uni_none j level inside below (c ∷ w) is = absurd (uni_waits j level inside below (ap has_cells is))

  multi_none : (level : ℕ) → level < 4 → (w : List FanCell) → waiting (queue_in card (OfLevel level) served t) ≡ w → w ≡ []
  multi_none level below [] is = refl
  multi_none level below (c ∷ w) is = absurd (multi_waits level below c w is)

  pub none_waits : (j level : ℕ) (kind : Kind) → j < card.ports → level < 4 → waiting (queue_in card (queue_to j level kind) served t) ≡ []
  none_waits j level Uni inside below = uni_none j level inside below (waiting (queue_in card (OfOutput j level) served t)) refl
  none_waits j level Multi inside below = multi_none level below (waiting (queue_in card (OfLevel level) served t)) refl

-- ---- a slot in which no cell waits
nothing_more : (b : Bool) (cells : List FanCell) → cells ++ (if b then [] else []) ≡ cells
nothing_more true cells = append-nil cells
nothing_more false cells = append-nil cells

module _ (card : Plan) (q : Queue) (j : ℕ) (served : List (Option Served)) (t : ℕ) (empty : waiting (queue_in card q served t) ≡ []) where
  pub stays_empty : waiting (queue_before card q served (suc t)) ≡ []
  stays_empty = ap (λ w. waiting (after_part_of q (queue_in card q served t) (slice_index_or served t None) w)) empty ∙ empty

  nothing_granted : granted_to card q j served (suc t) ≡ granted_to card q j served t
  nothing_granted =
      let part = slice_index_or served t None in
      ap (λ w. granted_to card q j served t ++ (if serves q j part then first_of w else [])) empty
      ∙ nothing_more (serves q j part) (granted_to card q j served t)

-- ---- the last slot
-- in the last slot no port says that more is to come
module _ (scheduler : Scheduler) (plan : SwitchPlan) where
  no_more : (i t : ℕ) → i < ports_of plan → is_done_at (ports_of plan) (posts_under scheduler plan) t ≡ true → (posts_under scheduler plan i t).more ≡ true → ⊥
  no_more i t inside done more =
      let posts = slot_posts (ports_of plan) (posts_under scheduler plan) t in
      let goes : CardPost → Bool = λ post. not post.more in
      let here : slice_index_or posts i no_post ≡ posts_under scheduler plan i t =
      get_or-map-range_with_len (λ k. posts_under scheduler plan k t) 0 (ports_of plan) i i no_post inside (omega arith) in
      let fails : goes (slice_index_or posts i no_post) ≡ false = ap goes here ∙ ap not more in
      let all : list_all goes posts ≡ false =
      list_all_at goes posts i no_post (omega (arith, length-slot_posts (ports_of plan) (posts_under scheduler plan) t)) fails in
      let both : true ≡ false = sym done ∙ all in
      absurd (cc)

  pub last_more : (i t : ℕ) → i < ports_of plan → is_done_at (ports_of plan) (posts_under scheduler plan) t ≡ true
      → (posts_under scheduler plan i t).more ≡ false
  last_more i t inside done = false_from_ne_true (posts_under scheduler plan i t).more (no_more i t inside done)

module _ (scheduler : Scheduler) (scheduling : IsScheduler scheduler) (plan : SwitchPlan) (good : IsGood plan) where
  -- nor posts it anything
  pub last_post : (i t : ℕ) → i < ports_of plan → is_done_at (ports_of plan) (posts_under scheduler plan) t ≡ true
      → IsEmptyRow (posts_under scheduler plan i t).row
  last_post i t inside done =
      let card = card_at plan i in
      let row = row_at card (parts_under scheduler plan i t) t in
      let more = or_parts (list_any (λ packet. nat_lt t packet.arrival) card.packets) (not (is_empty row)) (last_more scheduler plan i t inside done) in
      (Decides-is_empty row).0 (not-false (is_empty row) more.1)

  pub last_row : (i t : ℕ) → i < ports_of plan → is_done_at (ports_of plan) (posts_under scheduler plan) t ≡ true
      → IsEmptyRow (row_at (card_at plan i) (parts_under scheduler plan i (suc t)) t)
  last_row i t inside done = subst IsEmptyRow (sym (row_at-same scheduler plan i t (suc t) (omega arith))) (last_post i t inside done)

  pub all_delivered : (i j level : ℕ) (kind : Kind) (t : ℕ) → i < ports_of plan → j < ports_of plan → level < LEVELS
      → is_done_at (ports_of plan) (posts_under scheduler plan) t ≡ true
      → messages_from i level kind [] (cells_under scheduler plan j (suc t)) ≡ map (message_of (card_at plan i))
      (admitted_under scheduler plan j i level kind (suc t))
  all_delivered i j level kind t inside to below done =
      let card = card_at plan i in
      let mine = good-card plan good i inside in
      let q = queue_to j level kind in
      let now = parts_under scheduler plan i (suc t) in
      let empty = none_waits card mine.good now t (last_row i t inside done) j level kind (omega (arith, mine.ports, to)) below in
      flow_is_cut i level kind (cells_under scheduler plan j (suc t))
      ∙ ap messages_of (granted_cells scheduler scheduling plan good i j level kind inside t)
      ∙ ap (λ cells. messages_of (named card cells))
      (sym (granted_to-same scheduler plan i t (suc t) (omega arith) q j)
      ∙ sym (nothing_granted card q j now t empty)
      ∙ all_granted card mine.good now q j (suc t) (λ u early. servable scheduler scheduling plan good i u (suc t) inside early)
      (stays_empty card q j now t empty))
      ∙ messages-are card q j now (suc t) mine.good

  pub packets_delivered : (i j level : ℕ) (kind : Kind) (slots : ℕ) → IsLengthUnder scheduler plan slots → i < ports_of plan → j < ports_of plan
      → level < LEVELS
      → messages_from i level kind [] (cells_under scheduler plan j slots) ≡ map (message_of (card_at plan i))
      (admitted_under scheduler plan j i level kind slots)
  packets_delivered i j level kind slots end inside to below =
      let count : suc end.last ≡ slots = omega (arith, end.count) in
      subst (λ n. messages_from i level kind [] (cells_under scheduler plan j n) ≡ map (message_of (card_at plan i))
      (admitted_under scheduler plan j i level kind n)) count
      (all_delivered i j level kind end.last inside to below end.done)

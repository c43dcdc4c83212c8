-- Queues in which no cell waits, in slots in which no packet arrives.
use Rattle.std.proofs.Common.{◌≡◌, ◌∙◌, ℕ, suc, ◌+◌, ◌^◌, ◌<◌, ◌≤◌, ◌⊎◌, true, false, List, [], ◌∷◌, All, map, Option, None}
use Rattle.std.proofs.Common.{refl, sym, ap, subst, arith, inl, inr, slice_index_or}
use Rattle.std.specs.List.{range_with_len}
use Rattle.std.proofs.lemmas.Bool.{ne_eqb}
use Rattle.std.proofs.lemmas.List.{append-nil}
use Rattle.std.proofs.lemmas.Nat.Bits.{bit_at-pow_same}
use Rattle.rotating_pick.specs.PortSets.{Has}
use Rattle.rotating_pick.specs.declared.kinds.Kind.TheVariants.{Uni, Multi}
use Rattle.rotating_pick.specs.declared.limits.TheConstants.{LEVELS}
use Rattle.rotating_pick.proofs.Bits.{Has-lt, zero-no_members}
use Rattle.slot_match.specs.declared.matching.Served.{Served}
use Rattle.slot_match.specs.Rows.{IsEmptyRow, empty_row}
use Rattle.slot_match.proofs.Sets.{Has-set_of}
use Rattle.multicast_queue.specs.FanQueues.{FanCell, first_fan}
use Rattle.card_core.specs.declared.plan.Planned.{Planned}
use Rattle.card_core.specs.Plans.{Plan, Queue, OfOutput, OfLevel, IsGoodPlan, level_of, arriving_from, arriving}
use Rattle.card_core.specs.Queues.{Passed, waiting, remaining, with_arrival, with_since, after_part_of, before, queue_in}
use Rattle.card_core.specs.Posts.{has_cells, unis_at, rest_at, row_at}
use Rattle.card_core.proofs.Remaining.{remaining-nothing}
use Rattle.card_core.proofs.Passing.{kept-in}
use Rattle.card_core.proofs.Accepting.{head-of, one_output}
use Rattle.card_core.proofs.After.{level-queue}
use Rattle.run_laws.proofs.Emptied.{none_waits}

-- no packet of the list arrives in the slot
none_from : (k t u s : ℕ) (packets : List Planned) → All (λ packet. (packet.arrival < t) ⊎ (u ≤ packet.arrival)) packets → t ≤ s → s < u
    → arriving_from k packets s ≡ None
none_from k t u s [] apart from until = refl
none_from k t u s (packet ∷ packets) apart from until =
    let other : (packet.arrival < t) ⊎ (u ≤ packet.arrival) = apart 0 packet (omega arith) in
    rw (ne_eqb packet.arrival s (λ same. elim other [ inl early ↦ omega arith | inr late ↦ omega arith ]))
    (none_from (k + 1) t u s packets (λ j d inside. apart (suc j) d (omega arith)) from until)

pub none_arrives : (card : Plan) (t u s : ℕ) → All (λ packet. (packet.arrival < t) ⊎ (u ≤ packet.arrival)) card.packets → t ≤ s → s < u
    → arriving card s ≡ None
none_arrives card t u s apart from until = none_from 0 t u s card.packets apart from until

-- no cell waits in the queue, and nothing was served since
pub record IsStill (s : Passed) : Type 0 where
  pub empty : waiting s ≡ []
  pub none : s.since ≡ []

module _ (card : Plan) (good : IsGoodPlan card) (served : List (Option Served)) (t : ℕ) (none : IsEmptyRow (row_at card served t)) where
  -- the head of a queue is a packet's, so the row would name its output
  head_names : (q : Queue) (c : FanCell) (w : List FanCell) → waiting (queue_in card q served t) ≡ c ∷ w → ⊥
  head_names (OfOutput j level) c w is =
      let q = OfOutput j level in
      let head = (head-of card good q (queue_in card q served t) c w (kept-in card good q served t) is).0 in
      let packet = good.packets c.name.packet head.packet head.there in
      let fan : head.packet.fan ≡ 2 ^ j = one_output j level head.packet head.queue in
      let inside : j < card.ports = Has-lt card.ports head.packet.fan j packet.fan (subst (λ ports. Has ports j) (sym fan) (bit_at-pow_same j)) in
      let same : level ≡ head.packet.level = ap level_of head.queue ∙ level-queue head.packet in
      let bound = packet.level in
      let empty = none_waits card good served t none j level Uni inside (omega arith) in
      let both : c ∷ w ≡ [] = sym is ∙ empty in
      absurd (cc)
  head_names (OfLevel level) c w is =
      let q = OfLevel level in
      let head = (head-of card good q (queue_in card q served t) c w (kept-in card good q served t) is).0 in
      let packet = good.packets c.name.packet head.packet head.there in
      let same : level ≡ head.packet.level = ap level_of head.queue ∙ level-queue head.packet in
      let bound = packet.level in
      let inside = good.some in
      let empty = none_waits card good served t none 0 level Multi inside (omega arith) in
      let both : c ∷ w ≡ [] = sym is ∙ empty in
      absurd (cc)

  none_in : (q : Queue) (w : List FanCell) → waiting (queue_in card q served t) ≡ w → w ≡ []
  none_in q [] is = refl
  none_in q (c ∷ w) is = absurd (head_names q c w is)

  -- where a row names nothing no cell waits in a queue
  pub all_empty : (q : Queue) → waiting (queue_in card q served t) ≡ []
  all_empty q = none_in q (waiting (queue_in card q served t)) refl

-- the row of queues in which no cell waits
module _ (card : Plan) (served : List (Option Served)) (t : ℕ) (empty : (q : Queue) → waiting (queue_in card q served t) ≡ []) where
  unis_none : (level : ℕ) → unis_at card served t level ≡ 0
  unis_none level = zero-no_members (unis_at card served t level) (λ j has.
      let test = ((Has-set_of card.ports (λ k. has_cells (waiting (queue_in card (OfOutput k level) served t))) j).0 has).1 in
      let none = ap has_cells (empty (OfOutput j level)) in
      let both : true ≡ false = sym test ∙ none in
      absurd (cc))

  rest_none : (level : ℕ) → rest_at card served t level ≡ 0
  rest_none level =
      let q = OfLevel level in
      let s = queue_in card q served t in
      zero-no_members (rest_at card served t level) (λ j has.
      remaining-nothing q s.since j (subst (λ cells. Has (remaining q (first_fan cells) s.since) j) (empty q) has))

  pub row_none : row_at card served t ≡ empty_row
  row_none =
      let unis : map (unis_at card served t) (range_with_len 0 LEVELS) ≡ map (λ level. 0) (range_with_len 0 LEVELS) =
      ap (λ f. map f (range_with_len 0 LEVELS)) (λ x level. unis_none level x) in
      let rests : map (rest_at card served t) (range_with_len 0 LEVELS) ≡ map (λ level. 0) (range_with_len 0 LEVELS) =
      ap (λ f. map f (range_with_len 0 LEVELS)) (λ x level. rest_none level x) in
      λ x. record { uni = unis x; multi = rests x }

module _ (card : Plan) (q : Queue) (served : List (Option Served)) (t : ℕ) where
  after_none : waiting (queue_in card q served t) ≡ [] → before card q served (suc t) ≡ with_since (queue_in card q served t) []
  after_none empty = ap (after_part_of q (queue_in card q served t) (slice_index_or served t None)) empty

  -- after a slot in which no cell waits
  pub still_after : waiting (queue_in card q served t) ≡ [] → IsStill (before card q served (suc t))
  still_after empty = subst IsStill (sym (after_none empty)) (record { empty = empty; none = refl })

  -- where no packet arrives
  pub in_same : arriving card t ≡ None → queue_in card q served t ≡ before card q served t
  in_same none =
      let s = before card q served t in
      ap (λ arrives. with_arrival card q arrives s) none ∙ (λ x. record { entered = append-nil s.entered x; left = s.left; since = s.since })

  pub still_same : arriving card t ≡ None → IsStill (before card q served t) → before card q served (suc t) ≡ before card q served t
  still_same none still =
      let s = before card q served t in
      let same = in_same none in
      after_none (ap waiting same ∙ still.empty) ∙ (ap (λ x. with_since x []) same
      ∙ (λ x. record { entered = s.entered; left = s.left; since = sym still.none x }))

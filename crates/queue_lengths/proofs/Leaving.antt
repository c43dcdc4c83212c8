-- The counters after what a slot serves.
use Rattle.std.proofs.Common.{◌≡◌, ◌≢◌, ◌∙◌, ℕ, ◌+◌, ◌-◌, ◌^◌, ◌<◌, ◌≤◌, ◌==◌, ◌&&◌, Bool, true, false, List, [], ◌∷◌, ◌++◌, map, length, Option, Some}
use Rattle.std.proofs.Common.{None, refl, sym, ap, subst, arith, inl, inr, if◌then◌else◌, slice_index, slice_index_or, slice_set, length-set}
use Rattle.std.specs.List.{range_with_len}
use Rattle.std.proofs.lemmas.Bool.{cases_eq, eqb-true, ne_eqb, eq-eqb}
use Rattle.std.proofs.lemmas.List.FromFn.{get_or-map-range_with_len}
use Rattle.std.proofs.lemmas.Option.{same_Some}
use Rattle.std.proofs.Math.ListN.{get_or-append}
use Rattle.std.proofs.Math.Seq.{get_or-append_seam}
use Rattle.std.proofs.lemmas.List.{get_or-set_same, get_or-set_other}
use Rattle.std_lemmas.proofs.Numbers.{cases_pair}
use Rattle.card_core.proofs.Carding.{kinds_differ}
use Rattle.rotating_pick.specs.PortSets.{Has, IsAmong}
use Rattle.rotating_pick.specs.declared.kinds.Kind.{Kind}
use Rattle.rotating_pick.specs.declared.kinds.Kind.TheVariants.{Uni, Multi}
use Rattle.rotating_pick.specs.declared.limits.TheConstants.{LEVELS, MAX_PORTS}
use Rattle.rotating_pick.proofs.Bits.{Has-lt, IsAmong-from_members}
use Rattle.rotating_pick.proofs.Members.{power-of}
use Rattle.slot_match.specs.declared.rows.Row.{Row}
use Rattle.slot_match.specs.declared.matching.Served.{Served}
use Rattle.slot_match.specs.Keeping.{Gives}
use Rattle.slot_match.specs.Parts.{set_of}
use Rattle.slot_match.specs.Rows.{Names}
use Rattle.slot_match.proofs.Sets.{zero-has, Has-same, Has-or}
use Rattle.slot_histories.specs.Parts.{IsPartOf}
use Rattle.multicast_queue.specs.FanQueues.{FanCell, first_fan}
use Rattle.card_core.specs.Plans.{Plan, Queue, OfOutput, OfLevel, IsGoodPlan, level_of, kind_of, is_queue, last_port, queue_for}
use Rattle.card_core.specs.Queues.{Passed, waiting, rest_of, with_since, after_part, queue_in}
use Rattle.card_core.specs.Posts.{has_cells, rest_at, row_at, queue_by, queue_served, IsServable}
use Rattle.card_core.specs.States.{IsNext}
use Rattle.card_core.proofs.Remaining.{remaining-part}
use Rattle.card_core.proofs.Passing.{kept-in, some_waiting, stays_of, is_queue-same}
use Rattle.card_core.proofs.Accepting.{has-some, uni-in, multi-in, last-only, rest_output}
use Rattle.card_core.proofs.Taking.{idle, leaves, queue_in-more, before-next, one_slot}
use Rattle.card_core.proofs.After.{last-power}
use Rattle.card_core.proofs.Arriving.{is_queue-refl, other-output}
use Rattle.queue_lengths.specs.Lengths.{IsQueue, place_of, count_of, length_in}
use Rattle.queue_lengths.specs.Counters.{Counters, AreServable, CountBefore, CountIn}
use Rattle.queue_lengths.specs.Steps.{is_last, place_left}
use Rattle.queue_lengths.proofs.Places.{place-inside, place-same, queue_unicast}

-- ---- the row of a slot depends on the parts before it alone
pub row-more : (plan : Plan) (served more : List (Option Served)) (t : ℕ) → t ≤ length served → row_at plan (served ++ more) t ≡ row_at plan served t
row-more plan served more t early =
    let queues : (λ (q : Queue). queue_in plan q (served ++ more) t) ≡ (λ q. queue_in plan q served t) = λ x q. queue_in-more plan q served more t early x in
    ap (λ (at : Queue → Passed). record {
      uni = map (λ level. set_of plan.ports (λ j. has_cells (waiting (at (OfOutput j level))))) (range_with_len 0 LEVELS);
      multi = map (λ level. rest_of (OfLevel level) (at (OfLevel level))) (range_with_len 0 LEVELS);
    }) queues

servable-next : (plan : Plan) (served : List (Option Served)) (part : Option Served) → AreServable plan served
    → IsServable (row_at plan served (length served)) part → AreServable plan (served ++ part ∷ [])
servable-next plan served part before' now t inside = elim (cases_eq t (length served)) [
  | inl last ↦
      let row : row_at plan (served ++ part ∷ []) t ≡ row_at plan served (length served) =
      ap (row_at plan (served ++ part ∷ [])) last ∙ row-more plan served (part ∷ []) (length served) (omega arith) in
      let is : slice_index_or (served ++ part ∷ []) t None ≡ part =
      ap (λ n. slice_index_or (served ++ part ∷ []) n None) last ∙ get_or-append_seam served part [] None in
      rw (row, is) now
  | inr other ↦
      let below : t < length served = omega (arith, one_slot served part) in
      let row = row-more plan served (part ∷ []) t (omega arith) in
      let is : slice_index_or (served ++ part ∷ []) t None ≡ slice_index_or served t None = get_or-append served (part ∷ []) None t below in
      rw (row, is) (before' t below)
]

-- ---- the lengths without the first cell of the queue at a place, queue by queue
abbrev pub lengths_left : List ℕ → Option ℕ → List ℕ
lengths_left lengths None = lengths
lengths_left lengths (Some place) = slice_set lengths place (slice_index lengths place - 1)

pub left_count : (lengths : List ℕ) (place : Option ℕ) → length (lengths_left lengths place) ≡ length lengths
left_count lengths None = refl
left_count lengths (Some place) = length-set lengths place (slice_index lengths place - 1)

module _ (ports : ℕ) (lengths : List ℕ) (r q : Queue) (mine : IsQueue ports r) (is : IsQueue ports q) (count : length lengths ≡ count_of ports) where
  left_at : (last same : Bool) → is_queue q r ≡ same
      → slice_index (lengths_left lengths (if last then Some (place_of ports r) else None)) (place_of ports q)
      ≡ slice_index lengths (place_of ports q) - (if same && last then 1 else 0)
  left_at true true e =
      let inside = place-inside ports r mine in
      let here = get_or-set_same lengths (place_of ports r) (slice_index lengths (place_of ports r) - 1) 0 (omega (arith, inside)) in
      let same = is_queue-same q r e in
      subst (λ s. slice_index (lengths_left lengths (Some (place_of ports r))) (place_of ports s) ≡ slice_index lengths (place_of ports s) - 1) (sym same) here
  left_at true false e =
      let other = get_or-set_other lengths (place_of ports r) (place_of ports q) (slice_index lengths (place_of ports r) - 1) 0 (λ at.
      let same = place-same ports q r is mine at in
      let yes' : is_queue q r ≡ true = subst (λ s. is_queue q s ≡ true) same (is_queue-refl q) in
      absurd (cc)) in
      omega (arith, other)
  left_at false true e = omega arith
  left_at false false e = omega arith

-- ---- a queue after a part
module _ (plan : Plan) (good : IsGoodPlan plan) (served : List (Option Served)) (t : ℕ) (part : Served) where
  abbrev pub at : Queue → Passed
  at q = queue_in plan q served t

  -- how many cells wait in the queue after the part
  abbrev pub left_in : Queue → ℕ
  left_in q = length (waiting (after_part q (queue_in plan q served t) (Some part)))

  -- it keeps its cells where the part serves nothing of it
  unserved_count : (q : Queue) → ((y : ℕ) → Has (rest_of q (at q)) y → Gives (Some part) y (level_of q) (kind_of q) → ⊥)
      → left_in q ≡ length_in plan q served t
  unserved_count q unserved = ap length (idle plan good q (at q) (Some part) (kept-in plan good q served t) unserved).0

  -- and loses the first where it serves all that was left of that
  served_count : (q : Queue) (c : FanCell) (v : List FanCell) → waiting (at q) ≡ c ∷ v
      → ((y : ℕ) → Has (rest_of q (at q)) y → Gives (Some part) y (level_of q) (kind_of q))
      → left_in q + 1 ≡ length_in plan q served t
  served_count q c v is whole =
      let gone = ap length (leaves plan good q (at q) (Some part) c v (kept-in plan good q served t) is whole).0 in
      let had = ap length is in
      omega (arith, gone, had)

  other_kind : (q : Queue) → (kind_of q ≡ part.kind → ⊥)
      → left_in q ≡ length_in plan q served t
  other_kind q differ = unserved_count q (λ y member given. differ given.2)

  -- what is left of a multicast queue's head is in the row
  rest_is : (level : ℕ) → level < 4 → slice_index (row_at plan served t).multi level ≡ rest_of (OfLevel level) (queue_in plan (OfLevel level) served t)
  rest_is level below = get_or-map-range_with_len (rest_at plan served t) 0 4 level level 0 below (omega arith)

  module _ (may : IsPartOf (row_at plan served t) part) where
    -- ---- unicast
    module _ (kind : part.kind ≡ Uni) where
      uni_named : (j : ℕ) → Has part.outputs j → Names (row_at plan served t) part.level Uni j
      uni_named j member = subst (λ k. Names (row_at plan served t) part.level k j) kind (may.named j member)

      pub uni_among : IsAmong plan.ports part.outputs
      uni_among = IsAmong-from_members plan.ports part.outputs (λ j member. (uni-in plan good served t part.level j (uni_named j member)).1)

      uni_queue : queue_served part ≡ OfOutput may.some.0 part.level
      uni_queue =
          let inside = (uni-in plan good served t part.level may.some.0 (uni_named may.some.0 may.some.1)).1 in
          let port : last_port MAX_PORTS part.outputs ≡ may.some.0 =
          last-only 64 part.outputs may.some.0 (omega (arith, inside, good.size)) may.some.1 (λ k member. may.one kind k may.some.0 member may.some.1) in
          ap (λ k. queue_by k part) kind ∙ ap (λ i. OfOutput i part.level) port

      uni_count : (q : Queue) → left_in q + (if is_queue q (OfOutput may.some.0 part.level) then 1 else 0) ≡ length_in plan q served t
      uni_count (OfOutput k l) = elim (cases_pair k l may.some.0 part.level) [
        | inl same ↦
            let mine : OfOutput k l ≡ OfOutput may.some.0 part.level = ap (λ i. OfOutput i l) same.0 ∙ ap (OfOutput may.some.0) same.1 in
            let yes' : is_queue (OfOutput k l) (OfOutput may.some.0 part.level) ≡ true =
            subst (λ r. is_queue (OfOutput k l) r ≡ true) mine (is_queue-refl (OfOutput k l)) in
            let waits = (uni-in plan good served t part.level may.some.0 (uni_named may.some.0 may.some.1)).2 in
            let (c, v, is) = has-some (waiting (at (OfOutput k l))) (subst (λ r. has_cells (waiting (at r)) ≡ true) (sym mine) waits) in
            let counts = served_count (OfOutput k l) c v is (λ y member.
            let port = rest_output plan good k l (at (OfOutput k l)) (kept-in plan good (OfOutput k l) served t) y member in
            (subst (Has part.outputs) (sym (port ∙ same.0)) may.some.1, same.1, sym kind)) in
            rw yes' counts
        | inr differ ↦
            let no' = other-output k l may.some.0 part.level differ in
            let counts = unserved_count (OfOutput k l) (λ y member given.
            let port = rest_output plan good k l (at (OfOutput k l)) (kept-in plan good (OfOutput k l) served t) y member in
            differ (sym port ∙ may.one kind y may.some.0 given.0 may.some.1, given.1)) in
            rw no' (omega (arith, counts))
      ]
      uni_count (OfLevel l) = let counts = other_kind (OfLevel l) (λ e. kinds_differ (sym kind ∙ sym e)) in omega (arith, counts)

    -- ---- multicast
    module _ (kind : part.kind ≡ Multi) where
      multi_in : (j : ℕ) → Has part.outputs j → (part.level < 4) × Has (rest_of (OfLevel part.level) (at (OfLevel part.level))) j
      multi_in j member = multi-in plan good served t part.level j (subst (λ k. Names (row_at plan served t) part.level k j) kind (may.named j member))

      -- a head that is not served whole stays
      left_some : slice_index (row_at plan served t).multi part.level ≢ part.outputs
          → rest_of (OfLevel part.level) (with_since (at (OfLevel part.level)) (Some part ∷ (at (OfLevel part.level)).since)) ≢ 0
      left_some differ none =
          let q = OfLevel part.level in
          let s = queue_in plan q served t in
          differ (rest_is part.level may.level ∙ Has-same (rest_of q s) part.outputs (λ y. (
            λ member. elim (Has-or part.outputs y) [
              | inl given ↦ given
              | inr lacks ↦ absurd (zero-has (rest_of q (with_since s (Some part ∷ s.since))) y none
                  ((remaining-part q (first_fan (waiting s)) s.since (Some part) y).1 (member, λ given. lacks given.0)))
            ],
            λ given. (multi_in y given).1,
          )))

      own_count : (last : Bool) → (slice_index (row_at plan served t).multi part.level == part.outputs) ≡ last
          → left_in (OfLevel part.level) + (if last then 1 else 0) ≡ length_in plan (OfLevel part.level) served t
      own_count true is =
          let q = OfLevel part.level in
          let (j, member) = may.some in
          let (c, v, w) = some_waiting plan good q (waiting (at q)) (at q).since j (multi_in j member).1 in
          let whole : rest_of q (at q) ≡ part.outputs =
          sym (rest_is part.level may.level) ∙ eqb-true (slice_index (row_at plan served t).multi part.level) part.outputs is in
          served_count q c v w (λ y left. (subst (λ s. Has s y) whole left, refl, sym kind))
      own_count false is =
          let q = OfLevel part.level in
          let s = queue_in plan q served t in
          let (j, member) = may.some in
          let (c, v, w) = some_waiting plan good q (waiting (at q)) (at q).since j (multi_in j member).1 in
          let differ : slice_index (row_at plan served t).multi part.level ≢ part.outputs =
          λ same. let yes' = eq-eqb (slice_index (row_at plan served t).multi part.level) part.outputs same in absurd (cc) in
          let same : after_part q s (Some part) ≡ with_since s (Some part ∷ s.since) =
          stays_of plan good q s (Some part) (waiting s) c v w (left_some differ) in
          let counts = ap (λ x. length (waiting x)) same in
          omega (arith, counts)

      multi_count : (last : Bool) → (slice_index (row_at plan served t).multi part.level == part.outputs) ≡ last → (q : Queue)
          → left_in q + (if is_queue q (OfLevel part.level) && last then 1 else 0) ≡ length_in plan q served t
      multi_count last is (OfOutput k l) = let counts = other_kind (OfOutput k l) (λ e. kinds_differ (e ∙ kind)) in omega (arith, counts)
      multi_count last is (OfLevel l) = elim (cases_eq l part.level) [
        | inl same ↦
            let yes' : (l == part.level) ≡ true = eq-eqb l part.level same in
            rw yes' (subst (λ m. left_in (OfLevel m) + (if last then 1 else 0) ≡ length_in plan (OfLevel m) served t)
            (sym same) (own_count last is))
        | inr differ ↦
            let no' : (l == part.level) ≡ false = ne_eqb l part.level differ in
            let counts = unserved_count (OfLevel l) (λ y member given. differ given.1) in
            rw no' (omega (arith, counts))
      ]

    -- ---- either
    part_count : (kind : Kind) → part.kind ≡ kind → (q : Queue)
        → left_in q + (if is_queue q (queue_served part) && is_last kind (row_at plan served t) part then 1 else 0) ≡ length_in plan q served t
    part_count Uni kind q =
        let one : (b : Bool) → (if b && true then 1 else 0) ≡ (if b then 1 else 0) = and_true in
        ap (λ r. left_in q + (if is_queue q r && true then 1 else 0)) (uni_queue kind)
        ∙ ap (λ n. left_in q + n) (one (is_queue q (OfOutput may.some.0 part.level)))
        ∙ uni_count kind q
      where
        and_true : (b : Bool) → ◌≡◌ {A = ℕ} (if b && true then 1 else 0) (if b then 1 else 0)
        and_true true = refl
        and_true false = refl
    part_count Multi kind q =
        let queue : queue_served part ≡ OfLevel part.level = ap (λ k. queue_by k part) kind in
        ap (λ r. left_in q + (if is_queue q r && is_last Multi (row_at plan served t) part then 1 else 0)) queue
        ∙ multi_count kind (slice_index (row_at plan served t).multi part.level == part.outputs) refl q

    queue_kind : (kind : Kind) → part.kind ≡ kind → IsQueue plan.ports (queue_served part)
    queue_kind Uni kind =
        let named = uni-in plan good served t part.level may.some.0 (uni_named kind may.some.0 may.some.1) in
        subst (IsQueue plan.ports) (sym (uni_queue kind)) (named.1, may.level)
    queue_kind Multi kind = subst (λ k. IsQueue plan.ports (queue_by k part)) (sym kind) may.level

    pub queue_inside : IsQueue plan.ports (queue_served part)
    queue_inside = queue_kind part.kind refl

    pub after_count : (q : Queue)
        → left_in q + (if is_queue q (queue_served part) && is_last part.kind (row_at plan served t) part then 1 else 0) ≡ length_in plan q served t
    after_count q = part_count part.kind refl q

-- the place of a unicast part's queue
pub place_unicast : (ports : ℕ) (row : Row) (part : Served) → ports ≤ 64 → part.kind ≡ Uni → IsAmong ports part.outputs → IsPartOf row part
    → Some (place_of ports (queue_for part.outputs part.level)) ≡ place_left ports row part
place_unicast ports row part size kind among may =
    let (j, member) = may.some in
    let inside = Has-lt ports part.outputs j among member in
    let only : part.outputs ≡ 2 ^ j = power-of part.outputs j member (λ y other. may.one kind y j other member) in
    let port : last_port MAX_PORTS part.outputs ≡ j = ap (last_port MAX_PORTS) only ∙ last-power j (omega arith) in
    let queue : queue_for part.outputs part.level ≡ queue_by Uni part =
    queue_unicast part.outputs part.level j only (omega arith) ∙ sym (ap (λ i. OfOutput i part.level) port) in
    ap (λ q. Some (place_of ports q)) queue
    ∙ ap (λ k. if is_last k row part then Some (place_of ports (queue_by k part)) else None) (sym kind)

-- a queue has a cell where one leaves
some_by : (ports : ℕ) (lengths : List ℕ) (q : Queue) (last : Bool) (place : ℕ) → IsQueue ports q → length lengths ≡ count_of ports
    → (last ≡ true → 0 < slice_index lengths (place_of ports q)) → (if last then Some (place_of ports q) else None) ≡ Some place
    → (place < length lengths) × (0 < slice_index lengths place)
some_by ports lengths q true place inside count some there =
    let below = place-inside ports q inside in
    subst (λ k. (k < length lengths) × (0 < slice_index lengths k)) (same_Some (place_of ports q) place there) (omega (arith, below), some refl)
some_by ports lengths q false place inside count some there = absurd (cc)

-- ---- the counters
module _ (plan : Plan) (counters : Counters) (served : List (Option Served)) (was : CountIn plan counters served) where
  next_slot : (part : Option Served) → IsNext plan.packets (length served + 1) counters.next → IsNext plan.packets (length (served ++ part ∷ [])) counters.next
  next_slot part is =
      let slot : length served + 1 ≡ length (served ++ part ∷ []) = omega (arith, one_slot served part) in
      subst (λ t. IsNext plan.packets t counters.next) slot is

  pub left_none : CountBefore plan counters (served ++ None ∷ [])
  left_none = record {
    good = was.good;
    ports = was.ports;
    depth = was.depth;
    packets = was.packets;
    servable = servable-next plan served None was.servable tt;
    next = next_slot None was.next;
    count = was.count;
    lengths = λ q inside.
        let s = queue_in plan q served (length served) in
        was.lengths q inside
        ∙ sym (ap length (idle plan was.good q s None (kept-in plan was.good q served (length served)) (λ y member given. given)).0)
        ∙ sym (ap (λ x. length (waiting x)) (before-next plan q served None));
  }

  module _ (row : Row) (part : Served) (is : row ≡ row_at plan served (length served)) (may : IsPartOf row part) where
    pub on_row : IsPartOf (row_at plan served (length served)) part
    on_row = subst (λ r. IsPartOf r part) is may

    same_place : place_left counters.ports row part ≡ place_left plan.ports (row_at plan served (length served)) part
    same_place = ap (λ n. place_left n row part) was.ports ∙ ap (λ r. place_left plan.ports r part) is

    -- the queue that the part serves has a cell where one leaves
    pub some_left : (place : ℕ) → place_left counters.ports row part ≡ Some place → (place < length counters.lengths) × (0 < slice_index counters.lengths place)
    some_left place there =
        let q = queue_served part in
        let inside = queue_inside plan was.good served (length served) part on_row in
        let counts = after_count plan was.good served (length served) part on_row q in
        let mine = is_queue-refl q in
        let left = rw mine at counts in
        some_by plan.ports counters.lengths q (is_last part.kind (row_at plan served (length served)) part) place inside was.count
        (λ last. let one = rw last at left in omega (arith, one, was.lengths q inside)) (sym same_place ∙ there)

    pub left_some_part : CountBefore plan (record counters { lengths = lengths_left counters.lengths (place_left counters.ports row part) })
        (served ++ Some part ∷ [])
    left_some_part = record {
      good = was.good;
      ports = was.ports;
      depth = was.depth;
      packets = was.packets;
      servable = servable-next plan served (Some part) was.servable on_row;
      next = next_slot (Some part) was.next;
      count = left_count counters.lengths (place_left counters.ports row part) ∙ was.count;
      lengths = λ q inside.
          let r = queue_served part in
          let row' = row_at plan served (length served) in
          let mine = queue_inside plan was.good served (length served) part on_row in
          let last = is_last part.kind row' part in
          let counts = after_count plan was.good served (length served) part on_row q in
          let long = was.lengths q inside in
          let left = left_at plan.ports counters.lengths r q mine inside was.count last (is_queue q r) refl in
          let next = before-next plan q served (Some part) in
          ap (λ place. slice_index (lengths_left counters.lengths place) (place_of plan.ports q)) same_place
          ∙ left ∙ (omega (arith, counts, long)) ∙ sym (ap (λ s. length (waiting s)) next);
    }

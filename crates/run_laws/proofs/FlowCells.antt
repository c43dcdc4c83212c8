-- The cells of a flow at an output are those that were granted to it of the flow's queue, in order.
use Rattle.std.proofs.Common.{◌≡◌, ◌∙◌, ℕ, zero, suc, ◌+◌, ◌<◌, ◌==◌, ◌&&◌, not, Bool, true, false, List, [], ◌∷◌, ◌++◌, map, take, length, Option}
use Rattle.std.proofs.Common.{Some, None, slice_index_or, refl, sym, ap, subst, arith, if◌then◌else◌, append_assoc}
use Rattle.std.specs.List.{range_with_len, flat_map}
use Rattle.std.specs.Option.{option_map, option_to_list}
use Rattle.std.proofs.lemmas.Bool.{and_from, and_parts, eqb-true, eq-eqb, false_from_ne_true}
use Rattle.std.proofs.lemmas.List.{append-nil, map-append, take-append-drop}
use Rattle.std.proofs.lemmas.List.Elements.{filter-append}
use Rattle.std.proofs.Math.Seq.{take-append_seam}
use Rattle.std.proofs.lemmas.Option.{get_or_from_slice_get}
use Rattle.rotating_pick.specs.declared.kinds.Kind.{Kind}
use Rattle.rotating_pick.specs.declared.kinds.Kind.TheVariants.{Uni, Multi}
use Rattle.eslip_rounds.specs.Decisions.{is_kind}
use Rattle.eslip_rounds.proofs.Testing.{Decides-kind}
use Rattle.cell_cutter.specs.declared.cell.Cell.{Cell}
use Rattle.cell_cutter.specs.Cells.{cells_of_message}
use Rattle.slot_match.specs.declared.matching.Fed.{Fed}
use Rattle.slot_match.specs.declared.matching.Served.{Served}
use Rattle.slot_match.specs.Matches.{fed_of, Serves}
use Rattle.slot_match.proofs.Pairs.{Serves-from}
use Rattle.slot_match.proofs.KeepingParts.{Gives-iff_serves}
use Rattle.multicast_queue.specs.FanQueues.{FanCell, first_fan, first_name}
use Rattle.crossbar.specs.Crossing.{deposit_by}
use Rattle.eslip_rounds.specs.Schedulers.{Scheduler, IsScheduler}
use Rattle.slot_histories.specs.Slots.{slot_posts, decision_under, served_under, crossed_under}
use Rattle.slot_histories.specs.Tests.{has, gives}
use Rattle.slot_histories.proofs.KeepingTests.{Decides-gives}
use Rattle.reassembly.specs.Cutting.{rest_after, pieces_after, joined, messages_of}
use Rattle.card_core.specs.declared.plan.Planned.{Planned}
use Rattle.card_core.specs.Plans.{Plan, Queue, level_of, kind_of, queue_of, message_of, cell_named, no_packet}
use Rattle.card_core.specs.Queues.{waiting, rest_of, before as queue_before, queue_in}
use Rattle.card_core.specs.Posts.{granted_at}
use Rattle.card_core.specs.Grants.{serves, first_of, granted_to, to_output, begun_for, packets_to}
use Rattle.card_core.specs.Deliveries.{is_of_flow, flow_cells}
use Rattle.card_core.proofs.Passing.{AreOf, AreOf-drop, kept-in}
use Rattle.card_core.proofs.Granting.{granted_is, first_granted}
use Rattle.card_core.proofs.Messaging.{messages-are}
use Rattle.switch_plan.specs.GoodPlans.{SwitchPlan, IsGood}
use Rattle.run_laws.specs.Runs.{ports_of, setup_for, card_at, parts_under, posts_under}
use Rattle.run_laws.specs.Crossings.{cells_under, queue_to}
use Rattle.run_laws.proofs.Base.{good-card, sound, served-at, servable, granted_to-same}
use Rattle.run_laws.proofs.Crossed.{posted_cell}
use Rattle.run_laws.proofs.FirstParts.{messages_of-append}
use Rattle.run_laws.proofs.PacketCells.{named, packets_cells}

-- ---- queues and flows
pub level_to : (j level : ℕ) (kind : Kind) → level_of (queue_to j level kind) ≡ level
level_to j level Uni = refl
level_to j level Multi = refl

pub kind_to : (j level : ℕ) (kind : Kind) → kind_of (queue_to j level kind) ≡ kind
kind_to j level Uni = refl
kind_to j level Multi = refl

serves_gives : (j level : ℕ) (kind : Kind) (part : Option Served) → serves (queue_to j level kind) j part ≡ gives part j level kind
serves_gives j level Uni part = let e = eq-eqb j j refl in rw e refl
serves_gives j level Multi part = refl

-- the cell is of the flow
abbrev pub IsFrom : ℕ → ℕ → Kind → Cell → Type 0
IsFrom i level kind cell = (cell.input ≡ i) × (cell.level ≡ level) × (cell.kind ≡ kind)

of_flow : (i level : ℕ) (kind : Kind) (cell : Cell) → IsFrom i level kind cell → is_of_flow i level kind cell ≡ true
of_flow i level kind cell from =
    and_from ((cell.input == i) && (cell.level == level)) (is_kind cell.kind kind)
    (and_from (cell.input == i) (cell.level == level) (eq-eqb cell.input i from.0) (eq-eqb cell.level level from.1))
    ((Decides-kind cell.kind kind).1 from.2)

flow_is : (i level : ℕ) (kind : Kind) (cell : Cell) → is_of_flow i level kind cell ≡ true → IsFrom i level kind cell
flow_is i level kind cell is =
    let both = and_parts ((cell.input == i) && (cell.level == level)) (is_kind cell.kind kind) is in
    let ports = and_parts (cell.input == i) (cell.level == level) both.0 in
    (eqb-true cell.input i ports.0, eqb-true cell.level level ports.1, (Decides-kind cell.kind kind).0 both.1)

pub flow_one : (i level : ℕ) (kind : Kind) (cell : Cell) → IsFrom i level kind cell → flow_cells i level kind (cell ∷ []) ≡ cell ∷ []
flow_one i level kind cell from = ap (λ (b : Bool). if b then cell ∷ [] else []) (of_flow i level kind cell from)

flow_none : (i level : ℕ) (kind : Kind) (cell : Cell) → (IsFrom i level kind cell → ⊥) → flow_cells i level kind (cell ∷ []) ≡ []
flow_none i level kind cell other =
    ap (λ (b : Bool). if b then cell ∷ [] else []) (false_from_ne_true (is_of_flow i level kind cell) (λ is. other (flow_is i level kind cell is)))

-- ---- the first cell of a queue
first_list : (card : Plan) (w : List FanCell) → option_to_list (option_map (cell_named card) (first_name w)) ≡ named card (first_of w)
first_list card [] = refl
first_list card (c ∷ w) = refl

-- the first cells of these are of the flow
abbrev pub FirstsAre : ℕ → ℕ → Kind → Plan → List FanCell → Type 0
FirstsAre i level kind card [] = Unit {0}
FirstsAre i level kind card (c ∷ w) = IsFrom i level kind (cell_named card c.name)

firsts_are : (i j level : ℕ) (kind : Kind) (card : Plan) (w : List FanCell) → card.card ≡ i → AreOf card (queue_to j level kind) w
    → FirstsAre i level kind card w
firsts_are i j level kind card [] own are = tt
firsts_are i j level kind card (c ∷ w) own are =
    let at = get_or_from_slice_get card.packets c.name.packet are.0.packet no_packet are.0.there in (
      own,
      ap (λ p. level_of (queue_of p)) at ∙ ap level_of (sym are.0.queue) ∙ level_to j level kind,
      ap (λ p. kind_of (queue_of p)) at ∙ ap kind_of (sym are.0.queue) ∙ kind_to j level kind,
    )

flow_firsts : (i level : ℕ) (kind : Kind) (card : Plan) (w : List FanCell) → FirstsAre i level kind card w
    → flow_cells i level kind (named card (first_of w)) ≡ named card (first_of w)
flow_firsts i level kind card [] are = refl
flow_firsts i level kind card (c ∷ w) are = flow_one i level kind (cell_named card c.name) are

flow_others : (i level : ℕ) (kind : Kind) (fed : Fed) (card : Plan) (w : List FanCell) → FirstsAre fed.input fed.level fed.kind card w
    → ((fed.input ≡ i) → (fed.level ≡ level) → (fed.kind ≡ kind) → ⊥) → flow_cells i level kind (named card (first_of w)) ≡ []
flow_others i level kind fed card [] are other = refl
flow_others i level kind fed card (c ∷ w) are other =
    flow_none i level kind (cell_named card c.name) (λ from. other (sym are.0 ∙ from.0) (sym are.1 ∙ from.1) (sym are.2 ∙ from.2))

-- ---- slot by slot
flat_range : (f : ℕ → List Cell) (a t : ℕ) → flat_map f (range_with_len a (suc t)) ≡ flat_map f (range_with_len a t) ++ f (a + t)
flat_range f a zero = append-nil (f a) ∙ ap f (let e : a ≡ a + 0 = omega arith in e)
flat_range f a (suc t) =
    ap (λ xs. f a ++ xs) (flat_range f (a + 1) t)
    ∙ sym (append_assoc (f a) (flat_map f (range_with_len (a + 1) t)) (f (a + 1 + t)))
    ∙ ap (λ k. (f a ++ flat_map f (range_with_len (a + 1) t)) ++ f k) (let e : a + 1 + t ≡ a + suc t = omega arith in e)

pub cells_to-push : (scheduler : Scheduler) (plan : SwitchPlan) (j t : ℕ) → cells_under scheduler plan j (suc t) ≡ cells_under scheduler plan j t
    ++ option_to_list (crossed_under scheduler (setup_for plan) (posts_under scheduler plan) j t)
cells_to-push scheduler plan j t =
    let cell : ℕ → List Cell = λ u. option_to_list (crossed_under scheduler (setup_for plan) (posts_under scheduler plan) j u) in
    flat_range cell 0 t ∙ ap (λ u. cells_under scheduler plan j t ++ cell u) (let e : 0 + t ≡ t = omega arith in e)

module _ (scheduler : Scheduler) (scheduling : IsScheduler scheduler) (plan : SwitchPlan) (good : IsGood plan) where
  abbrev matched_at : ℕ → List (Option Fed)
  matched_at t = (decision_under scheduler (setup_for plan) (posts_under scheduler plan) t).matched

  abbrev part_at : ℕ → ℕ → Option Served
  part_at i t = served_under scheduler (setup_for plan) (posts_under scheduler plan) i t

  -- the cells of a queue that waited in slot t
  abbrev pub waits_at : ℕ → Queue → ℕ → List FanCell
  waits_at i q t = waiting (queue_in (card_at plan i) q (parts_under scheduler plan i (suc t)) t)

  served_to : (i j level : ℕ) (kind : Kind) (t : ℕ) → serves (queue_to j level kind) j (part_at i t) ≡ true → Serves (matched_at t) i j level kind
  served_to i j level kind t is =
      (Gives-iff_serves (ports_of plan) (matched_at t) (sound scheduler scheduling plan good t).matches i j level kind).0
      ((Decides-gives (part_at i t) j level kind).0 (sym (serves_gives j level kind (part_at i t)) ∙ is))

  serves_to : (i j level : ℕ) (kind : Kind) (t : ℕ) → Serves (matched_at t) i j level kind → serves (queue_to j level kind) j (part_at i t) ≡ true
  serves_to i j level kind t is =
      serves_gives j level kind (part_at i t)
      ∙ (Decides-gives (part_at i t) j level kind).1
      ((Gives-iff_serves (ports_of plan) (matched_at t) (sound scheduler scheduling plan good t).matches i j level kind).1 is)

  -- what crosses is the first cell of the queue that was served
  pub crossed_is : (i j level : ℕ) (kind : Kind) (t : ℕ) → Serves (matched_at t) i j level kind
      → option_to_list (crossed_under scheduler (setup_for plan) (posts_under scheduler plan) j (suc t)) ≡ named (card_at plan i)
      (first_of (waits_at i (queue_to j level kind) t))
  crossed_is i j level kind t feeds =
      let card = card_at plan i in
      let q = queue_to j level kind in
      let inside = (sound scheduler scheduling plan good t).matches.input_in i j level kind feeds in
      let deposits : List (Option Cell) = map (λ post. post.cell) (slot_posts (ports_of plan) (posts_under scheduler plan) (suc t)) in
      let part = served-at scheduler plan i t (suc t) (omega arith) in
      let first : granted_at card (parts_under scheduler plan i (suc t)) (suc t) ≡ option_map (cell_named card) (first_name (waits_at i q t)) =
      first_granted card (good-card plan good i inside).good (parts_under scheduler plan i (suc t)) q j t
      (servable scheduler scheduling plan good i t (suc t) inside (omega arith)) (ap (serves q j) part ∙ serves_to i j level kind t feeds) in
      ap (λ o. option_to_list (deposit_by deposits o)) feeds
      ∙ ap option_to_list (posted_cell scheduler plan (suc t) i inside ∙ first)
      ∙ first_list card (waits_at i q t)

  pub crossed_from : (i j level : ℕ) (kind : Kind) (t : ℕ) → i < ports_of plan → FirstsAre i level kind (card_at plan i) (waits_at i (queue_to j level kind) t)
  crossed_from i j level kind t inside =
      let mine = good-card plan good i inside in
      let q = queue_to j level kind in
      let s = queue_in (card_at plan i) q (parts_under scheduler plan i (suc t)) t in
      firsts_are i j level kind (card_at plan i) (waits_at i q t) mine.number
      (AreOf-drop (card_at plan i) q s.left s.entered (kept-in (card_at plan i) mine.good q (parts_under scheduler plan i (suc t)) t).cells)

  module _ (i j level : ℕ) (kind : Kind) (inside : i < ports_of plan) where
    by_fed : (t : ℕ) (o : Option Fed) → fed_of (matched_at t) j ≡ o → (Serves (matched_at t) i j level kind → ⊥)
        → flow_cells i level kind (option_to_list (crossed_under scheduler (setup_for plan) (posts_under scheduler plan) j (suc t))) ≡ []
    by_fed t None is other =
        let deposits : List (Option Cell) = map (λ post. post.cell) (slot_posts (ports_of plan) (posts_under scheduler plan) (suc t)) in
        ap (λ o. flow_cells i level kind (option_to_list (deposit_by deposits o))) is
    by_fed t (Some fed) is other =
        let feeds = Serves-from (matched_at t) j fed is in
        let from = crossed_from fed.input j fed.level fed.kind t
        ((sound scheduler scheduling plan good t).matches.input_in fed.input j fed.level fed.kind feeds) in
        ap (flow_cells i level kind) (crossed_is fed.input j fed.level fed.kind t feeds)
        ∙ flow_others i level kind fed (card_at plan fed.input) (waits_at fed.input (queue_to j fed.level fed.kind) t) from
        (λ a b c. other (subst (λ k. Serves (matched_at t) i j level k) c
        (subst (λ m. Serves (matched_at t) i j m fed.kind) b (subst (λ x. Serves (matched_at t) x j fed.level fed.kind) a feeds))))

    by_part : (t : ℕ) (b : Bool) → serves (queue_to j level kind) j (part_at i t) ≡ b
        → flow_cells i level kind (option_to_list (crossed_under scheduler (setup_for plan) (posts_under scheduler plan) j (suc t))) ≡ named (card_at plan i)
        (if b then first_of (waits_at i (queue_to j level kind) t) else [])
    by_part t true is =
        let w = waits_at i (queue_to j level kind) t in
        ap (flow_cells i level kind) (crossed_is i j level kind t (served_to i j level kind t is))
        ∙ flow_firsts i level kind (card_at plan i) w (crossed_from i j level kind t inside)
    by_part t false is = by_fed t (fed_of (matched_at t) j) refl (λ feeds. let e = serves_to i j level kind t feeds in absurd (cc))

    -- the cells of the flow are those that were granted
    pub granted_cells : (t : ℕ)
        → flow_cells i level kind (cells_under scheduler plan j (suc t)) ≡ named (card_at plan i)
        (granted_to (card_at plan i) (queue_to j level kind) j (parts_under scheduler plan i t) t)
    granted_cells zero = refl
    granted_cells (suc t) =
        let card = card_at plan i in
        let q = queue_to j level kind in
        let now = parts_under scheduler plan i (suc t) in
        let cell = option_to_list (crossed_under scheduler (setup_for plan) (posts_under scheduler plan) j (suc t)) in
        let first : Bool → List FanCell = λ b. if b then first_of (waits_at i q t) else [] in
        ap (flow_cells i level kind) (cells_to-push scheduler plan j (suc t))
        ∙ filter-append (is_of_flow i level kind) (cells_under scheduler plan j (suc t)) cell
        ∙ ap (λ xs. xs ++ flow_cells i level kind cell) (granted_cells t ∙ ap (named card) (sym (granted_to-same scheduler plan i t (suc t) (omega arith) q j)))
        ∙ ap (λ xs. named card (granted_to card q j now t) ++ xs)
        (by_part t (serves q j (part_at i t)) refl
        ∙ ap (λ part. named card (first (serves q j part))) (sym (served-at scheduler plan i t (suc t) (omega arith))))
        ∙ sym (map-append (λ (c : FanCell). cell_named card c.name) (granted_to card q j now t) (first (serves q j (slice_index_or now t None))))

    -- ---- those that were granted are the first of all that entered and go to the output
    begun_first : (w : List FanCell) (left : Bool) → (rest : List FanCell) × (to_output j w ≡ (if has (first_fan w) j && left then first_of w else []) ++ rest)
    begun_first [] left = ([], nothing (has 0 j && left)) where
      nothing : (b : Bool) → (let e : List FanCell = [] in e) ≡ (if b then [] else []) ++ []
      nothing true = refl
      nothing false = refl
    begun_first (c ∷ w) left = go (has c.fan j) left refl where
      go : (b l : Bool) → has c.fan j ≡ b → (rest : List FanCell) × (to_output j (c ∷ w) ≡ (if b && l then c ∷ [] else []) ++ rest)
      go true true is = (to_output j w, ap (λ (b : Bool). if b then c ∷ to_output j w else to_output j w) is)
      go true false is = (to_output j (c ∷ w), refl)
      go false l is = (to_output j (c ∷ w), refl)

    granted_first : (t : ℕ) → (rest : List FanCell)
        × (to_output j (queue_before (card_at plan i) (queue_to j level kind) (parts_under scheduler plan i t) t).entered ≡ granted_to (card_at plan i)
        (queue_to j level kind) j (parts_under scheduler plan i t) t ++ rest)
    granted_first t =
        let q = queue_to j level kind in
        let s = queue_before (card_at plan i) q (parts_under scheduler plan i t) t in
        let (rest, first) = begun_first (waiting s) (not (has (rest_of q s) j)) in
        let granted = granted_is (card_at plan i) (good-card plan good i inside).good (parts_under scheduler plan i t) q j t
        (λ u below. servable scheduler scheduling plan good i u t inside below) in
        let gone = to_output j (take s.left s.entered) in (
          rest,
          ap (to_output j) (sym (take-append-drop s.left s.entered))
              ∙ filter-append (λ (cell : FanCell). has cell.fan j) (take s.left s.entered) (waiting s)
              ∙ ap (λ xs. gone ++ xs) first
              ∙ sym (append_assoc gone (begun_for q j s) rest)
              ∙ ap (λ xs. xs ++ rest) (sym granted),
        )

    -- the packets that go to the output and were admitted before slot t
    abbrev pub packets_at : ℕ → List Planned
    packets_at t = packets_to (card_at plan i) (queue_to j level kind) j (parts_under scheduler plan i t) t

    -- the cells of the flow are the first of all cells of these packets' messages
    pub flow_first : (t : ℕ) → (rest : List Cell)
        × (flat_map (cells_of_message i level kind) (map (message_of (card_at plan i)) (packets_at t)) ≡ flow_cells i level kind
        (cells_under scheduler plan j (suc t)) ++ rest)
    flow_first t =
        let card = card_at plan i in
        let mine = good-card plan good i inside in
        let q = queue_to j level kind in
        let (rest, first) = granted_first t in
        let messages = map (message_of card) (packets_at t) in
        let granted = granted_to card q j (parts_under scheduler plan i t) t in (
          named card rest,
          ap (λ x. flat_map (cells_of_message x level kind) messages) (sym mine.number)
              ∙ ap (λ x. flat_map (cells_of_message card.card x kind) messages) (sym (level_to j level kind))
              ∙ ap (λ x. flat_map (cells_of_message card.card (level_of q) x) messages) (sym (kind_to j level kind))
              ∙ sym (packets_cells card mine.good q j (parts_under scheduler plan i t) t)
              ∙ ap (named card) first
              ∙ map-append (λ (c : FanCell). cell_named card c.name) granted rest
              ∙ ap (λ xs. xs ++ named card rest) (sym (granted_cells t)),
        )

    -- so the messages of the flow are the first of these packets' messages
    pub messages_first : (t : ℕ) → (more : List (List ℕ))
        × (map (message_of (card_at plan i)) (packets_at t) ≡ messages_of (flow_cells i level kind (cells_under scheduler plan j (suc t))) ++ more)
    messages_first t =
        let card = card_at plan i in
        let q = queue_to j level kind in
        let (rest, first) = granted_first t in
        let granted = granted_to card q j (parts_under scheduler plan i t) t in
        let flow = flow_cells i level kind (cells_under scheduler plan j (suc t)) in
        let more = map joined (pieces_after (rest_after [] flow) (named card rest)) in (
          more,
          sym (messages-are card q j (parts_under scheduler plan i t) t (good-card plan good i inside).good)
              ∙ ap (λ cells. messages_of (named card cells)) first
              ∙ ap messages_of (map-append (λ (c : FanCell). cell_named card c.name) granted rest ∙ ap (λ xs. xs ++ named card rest) (sym (granted_cells t)))
              ∙ messages_of-append flow (named card rest),
        )

    pub flow-messages : (t : ℕ) → (m u : ℕ)
        × (messages_of (flow_cells i level kind (cells_under scheduler plan j t)) ≡ take m (map (message_of (card_at plan i)) (packets_at u)))
    flow-messages zero = (0, 0, refl)
    flow-messages (suc t) =
        let (more, first) = messages_first t in
        let own = messages_of (flow_cells i level kind (cells_under scheduler plan j (suc t))) in
        (length own, t, sym (ap (take (length own)) first ∙ take-append_seam own more))

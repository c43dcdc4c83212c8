-- What a slot adds to an output: nothing where it feeds it from no input, and else the cell that this input is granted.
use Rattle.std.proofs.Common.{◌≡◌, ◌∙◌, ℕ, zero, suc, ◌+◌, ◌<◌, ◌≤◌, Bool, true, false, List, [], ◌∷◌, ◌++◌, length, Option, None, Some}
use Rattle.std.proofs.Common.{refl, ap, subst, arith, if◌then◌else◌, length-append}
use Rattle.std.specs.Option.{option_to_list}
use Rattle.std.proofs.lemmas.List.{append-nil, length_push}
use Rattle.cell_cutter.specs.declared.cell.Cell.{Cell}
use Rattle.slot_match.specs.declared.matching.Fed.{Fed}
use Rattle.slot_match.specs.Matches.{fed_of, Serves}
use Rattle.slot_match.specs.Rows.{IsEmptyRow}
use Rattle.slot_match.proofs.Pairs.{Serves-from}
use Rattle.eslip_rounds.specs.Schedulers.{Scheduler, IsScheduler}
use Rattle.slot_histories.specs.Slots.{crossed_under, is_done_at}
use Rattle.reassembly.specs.Cutting.{rest_after}
use Rattle.card_core.specs.Plans.{message_of}
use Rattle.card_core.specs.Grants.{granted_to}
use Rattle.card_core.specs.Deliveries.{flow_cells, message_with, ended_by, messages_after, delivered}
use Rattle.card_core.proofs.Delivering.{delivered-push}
use Rattle.switch_plan.specs.GoodPlans.{SwitchPlan, IsGood}
use Rattle.run_laws.specs.Runs.{ports_of, setup_for, card_at, parts_under, posts_under}
use Rattle.run_laws.specs.Ends.{IsLengthUnder}
use Rattle.run_laws.specs.Crossings.{cells_under, queue_to}
use Rattle.run_laws.proofs.Base.{good-card, sound, is-slot, pair-named, row_at-same}
use Rattle.run_laws.proofs.Crossed.{crossed-free, fed-cell}
use Rattle.run_laws.proofs.Emptied.{last_row}
use Rattle.run_laws.proofs.FlowCells.{IsFrom, cells_to-push, granted_cells}
use Rattle.run_laws.proofs.OfFlows.{comes_from}
use Rattle.run_laws.proofs.PacketCells.{named}
use Rattle.slot_records.specs.Slots.{match_under, AddsNothing, AddsCell, AddsBy, AddsInSlot}
use Rattle.slot_records.proofs.Ended.{ended_is}
use Rattle.slot_records.proofs.NextNames.{packet_at}
use Rattle.slot_records.proofs.Granted.{IsGranted, crossing}

module _ (scheduler : Scheduler) (plan : SwitchPlan) (j : ℕ) where
  abbrev crosses : ℕ → Option Cell
  crosses t = crossed_under scheduler (setup_for plan) (posts_under scheduler plan) j t

  -- a slot in which nothing crosses
  pub nothing_crosses : (t : ℕ) → crosses t ≡ None → AddsNothing scheduler plan j t (suc t)
  nothing_crosses t none =
      let cells : cells_under scheduler plan j (suc t) ≡ cells_under scheduler plan j t =
      cells_to-push scheduler plan j t ∙ ap (λ o. cells_under scheduler plan j t ++ option_to_list o) none
      ∙ append-nil (cells_under scheduler plan j t) in
      record { cells = cells; messages = ap delivered cells }

  -- ---- how many cells and messages
  one_at_most : (o : Option Cell) → length (option_to_list o) ≤ 1
  one_at_most None = omega arith
  one_at_most (Some cell) = omega arith

  pub few_cells : (slots : ℕ) → length (cells_under scheduler plan j (suc slots)) ≤ slots
  few_cells zero = omega arith
  few_cells (suc slots) =
      let rest = few_cells slots in
      let more = ap length (cells_to-push scheduler plan j (suc slots)) in
      let both = length-append (cells_under scheduler plan j (suc slots)) (option_to_list (crosses (suc slots))) in
      omega (arith, rest, more, both, one_at_most (crosses (suc slots)))

ended_few : (b : Bool) (m : List ℕ) → length (if b then m ∷ [] else []) ≤ 1
ended_few true m = omega arith
ended_few false m = omega arith

pub few_messages : (before cells : List Cell) → length (messages_after before cells) ≤ length cells
few_messages before [] = omega arith
few_messages before (cell ∷ cells) =
    let rest = few_messages (before ++ cell ∷ []) cells in
    let both = length-append (ended_by before cell) (messages_after (before ++ cell ∷ []) cells) in
    omega (arith, rest, both, ended_few cell.last (message_with before cell))

-- ---- what the slots add
module _ (scheduler : Scheduler) (scheduling : IsScheduler scheduler) (plan : SwitchPlan) (good : IsGood plan) (j t : ℕ) (to : j < ports_of plan) where
  module _ (fed : Fed) (feeds : fed_of (match_under scheduler plan t) j ≡ Some fed) where
    abbrev i : ℕ
    i = fed.input

    serves : Serves (match_under scheduler plan t) i j fed.level fed.kind
    serves = Serves-from (match_under scheduler plan t) j fed feeds

    -- its cells at the output before are those that were granted before
    flow_is : (cell : Cell) → IsFrom i fed.level fed.kind cell
        → flow_cells cell.input cell.level cell.kind (cells_under scheduler plan j (suc t)) ≡ named (card_at plan i)
        (granted_to (card_at plan i) (queue_to j fed.level fed.kind) j (parts_under scheduler plan i t) t)
    flow_is cell from =
        let before = cells_under scheduler plan j (suc t) in
        let inside = (sound scheduler scheduling plan good t).matches.input_in i j fed.level fed.kind serves in
        ap (λ x. flow_cells x cell.level cell.kind before) from.0
        ∙ ap (λ x. flow_cells i x cell.kind before) from.1
        ∙ ap (λ x. flow_cells i fed.level x before) from.2
        ∙ granted_cells scheduler scheduling plan good i j fed.level fed.kind inside t

    adds_granted : (cell : Cell) → crosses scheduler plan j (suc t) ≡ Some cell → IsFrom i fed.level fed.kind cell
        → (is : IsGranted scheduler scheduling plan good i j fed.level fed.kind t serves cell)
        → AddsCell scheduler plan j i is.name (suc t) (suc (suc t))
    adds_granted cell at from is =
        let card = card_at plan i in
        let own = packet_at card is.name.packet in
        let before = cells_under scheduler plan j (suc t) in
        let mine = good-card plan good i is.input in
        let cells : cells_under scheduler plan j (suc (suc t)) ≡ before ++ cell ∷ [] =
        cells_to-push scheduler plan j (suc t) ∙ ap (λ o. before ++ option_to_list o) at in
        let ends : ended_by before cell ≡ (if is.name.last then message_of card own ∷ [] else []) =
        ended_is card mine.good is.name
        (rest_after [] (named card (granted_to card (queue_to j fed.level fed.kind) j (parts_under scheduler plan i t) t))) is.next before cell is.is
        (ap (rest_after []) (flow_is cell from)) in
        let next = is.next in
        record {
          input = is.input;
          there = next.there;
          routed = is.routed;
          number = next.few;
          cells = ap length cells ∙ length_push before cell;
          messages = ap delivered cells ∙ delivered-push before cell ∙ ap (λ ms. delivered before ++ ms) ends;
        }

    adds_fed : AddsBy scheduler plan j t (Some fed)
    adds_fed =
        let (cell, at, of) = fed-cell scheduler scheduling plan good j t fed feeds in
        let small : j < 64 = omega (arith, to, good.size.most) in
        let is = crossing scheduler scheduling plan good i j fed.level fed.kind t serves cell small at in
        let from = comes_from scheduler scheduling plan good i j fed.level fed.kind t cell serves at in
        let one : suc t ≡ t + 1 = omega arith in
        let two : suc (suc t) ≡ t + 2 = omega arith in (
          is.name,
          is.granted,
          subst (λ x. AddsCell scheduler plan j i is.name x (t + 2)) one
              (subst (λ x. AddsCell scheduler plan j i is.name (suc t) x) two (adds_granted cell at from is)),
        )

  adds_by : (feed : Option Fed) → fed_of (match_under scheduler plan t) j ≡ feed → AddsBy scheduler plan j t feed
  adds_by None free =
      let one : suc t ≡ t + 1 = omega arith in
      let two : suc (suc t) ≡ t + 2 = omega arith in
      subst (λ x. AddsNothing scheduler plan j x (t + 2)) one
      (subst (λ x. AddsNothing scheduler plan j (suc t) x) two
      (nothing_crosses scheduler plan j (suc t) (crossed-free scheduler plan j t free)))
  adds_by (Some fed) feeds = adds_fed fed feeds

  pub adds : AddsInSlot scheduler plan j t
  adds = adds_by (fed_of (match_under scheduler plan t) j) refl

-- ---- where a run ends
module _ (scheduler : Scheduler) (scheduling : IsScheduler scheduler) (plan : SwitchPlan) (good : IsGood plan) where
  -- the last slot matches nothing, so nothing crosses after it
  last_feed : (j t : ℕ) (feed : Option Fed) → is_done_at (ports_of plan) (posts_under scheduler plan) t ≡ true
      → fed_of (match_under scheduler plan t) j ≡ feed → feed ≡ None
  last_feed j t None done is = refl
  last_feed j t (Some fed) done is =
      let serves = Serves-from (match_under scheduler plan t) j fed is in
      let whole = sound scheduler scheduling plan good t in
      let inside = whole.matches.input_in fed.input j fed.level fed.kind serves in
      let empty : IsEmptyRow (posts_under scheduler plan fed.input t).row =
      subst IsEmptyRow (row_at-same scheduler plan fed.input t (suc t) (omega arith))
      (last_row scheduler scheduling plan good fed.input t inside done) in
      absurd (empty fed.level j fed.kind
      (pair-named scheduler (setup_for plan) (posts_under scheduler plan) t whole (is-slot scheduler scheduling plan good t)
      fed.input j fed.level fed.kind inside serves))

  pub leaves_nothing : (slots j : ℕ) → IsLengthUnder scheduler plan slots → AddsNothing scheduler plan j slots (slots + 1)
  leaves_nothing slots j ends =
      let feed = fed_of (match_under scheduler plan ends.last) j in
      let free : feed ≡ None = last_feed j ends.last feed ends.done refl in
      let one : suc ends.last ≡ slots = omega (arith, ends.count) in
      let two : suc slots ≡ slots + 1 = omega arith in
      subst (λ x. AddsNothing scheduler plan j slots x) two
      (subst (λ x. AddsNothing scheduler plan j x (suc x)) one
      (nothing_crosses scheduler plan j (suc ends.last) (crossed-free scheduler plan j ends.last free)))

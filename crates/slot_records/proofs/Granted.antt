-- What an input is granted in a slot crosses in the slot after it to each output that it feeds, and is the next of its packet
-- there.
use Rattle.std.proofs.Common.{◌≡◌, ◌∙◌, ℕ, suc, ◌<◌, ◌≢◌, ◌&&◌, not, Bool, true, false, List, [], ◌∷◌, ◌++◌, take, Option, None, Some}
use Rattle.std.proofs.Common.{slice_index_or, refl, sym, ap, subst, arith, if◌then◌else◌, append_assoc, inl, inr}
use Rattle.std.specs.Option.{option_to_list}
use Rattle.std.proofs.lemmas.Bool.{eq-eqb}
use Rattle.std.proofs.lemmas.List.{take-append-drop}
use Rattle.std.proofs.lemmas.List.Elements.{filter-append}
use Rattle.std.proofs.lemmas.Option.{get_or_from_slice_get}
use Rattle.rotating_pick.specs.declared.kinds.Kind.{Kind}
use Rattle.rotating_pick.specs.declared.kinds.Kind.TheVariants.{Uni, Multi}
use Rattle.cell_cutter.specs.declared.cell.Cell.{Cell}
use Rattle.cell_cutter.specs.declared.cell.CellName.{CellName}
use Rattle.slot_match.specs.declared.matching.Fed.{Fed}
use Rattle.slot_match.specs.declared.matching.Served.{Served}
use Rattle.slot_match.specs.Matches.{Serves, IsServed, IsMatch}
use Rattle.slot_match.proofs.KeepingParts.{Gives-iff_serves}
use Rattle.slot_match.proofs.Pairs.{Serves-along}
use Rattle.slot_match.proofs.ServedParts.{served_of-served}
use Rattle.multicast_queue.specs.FanQueues.{FanCell, first_fan, first_name}
use Rattle.eslip_rounds.specs.Schedulers.{Scheduler, IsScheduler}
use Rattle.slot_histories.specs.Slots.{served_under, crossed_under}
use Rattle.slot_histories.specs.Tests.{has, gives}
use Rattle.slot_histories.proofs.KeepingTests.{Decides-gives}
use Rattle.reassembly.specs.Cutting.{rest_after}
use Rattle.card_core.specs.declared.plan.Planned.{Planned}
use Rattle.card_core.specs.Plans.{Plan, Queue, OfOutput, OfLevel, cell_named, last_port, no_packet}
use Rattle.card_core.specs.Queues.{waiting, rest_of, before as queue_before, queue_in}
use Rattle.card_core.specs.Posts.{queue_by, queue_served}
use Rattle.card_core.specs.Grants.{serves, first_of, granted_to, to_output, begun_for}
use Rattle.card_core.proofs.Accepting.{last-only, head-of}
use Rattle.card_core.proofs.Admitting.{entered-is}
use Rattle.card_core.proofs.Carding.{kinds_differ}
use Rattle.card_core.proofs.Granting.{granted_is}
use Rattle.card_core.proofs.Passing.{IsOf, kept-in}
use Rattle.switch_plan.specs.GoodPlans.{SwitchPlan, IsGood}
use Rattle.run_laws.specs.Runs.{ports_of, setup_for, card_at, parts_under, posts_under}
use Rattle.run_laws.specs.Crossings.{queue_to}
use Rattle.run_laws.proofs.Base.{good-card, sound, served-at, servable, queue_in-same, granted_to-same}
use Rattle.run_laws.proofs.PacketCells.{named}
use Rattle.run_laws.proofs.FlowCells.{waits_at, crossed_is}
use Rattle.slot_records.specs.Slots.{match_under, name_served, granted_name}
use Rattle.slot_records.proofs.NextNames.{IsNextName, next_name}

serves_gives : (j level : ℕ) (kind : Kind) (part : Option Served) → serves (queue_to j level kind) j part ≡ gives part j level kind
serves_gives j level Uni part = let e = eq-eqb j j refl in rw e refl
serves_gives j level Multi part = refl

one_is : (card : Plan) (cell : Cell) (w : List FanCell) → cell ∷ [] ≡ named card (first_of w) → (c : FanCell) × (v : List FanCell) × (w ≡ c ∷ v)
    × (cell ≡ cell_named card c.name)
one_is card cell [] is = absurd (cc)
one_is card cell (c ∷ v) is = (c, v, refl, head_is cell (cell_named card c.name) is) where
  head_is : (a b : Cell) → a ∷ [] ≡ b ∷ [] → a ≡ b
  head_is a b e = cc

-- ---- the queue that a part serves
-- input i is served this part, and feeds output j
record IsPair (matched : List (Option Fed)) (i j level : ℕ) (kind : Kind) (part : Served) : Type 0 where
  pub small : j < 64
  pub feeds : Serves matched i j level kind
  pub served : IsServed matched i part

-- a part that serves a unicast queue serves its output alone
unicast_port : (n : ℕ) (matched : List (Option Fed)) → IsMatch n matched → (i j level : ℕ) (part : Served) → IsPair matched i j level Uni part
    → last_port 64 part.outputs ≡ j
unicast_port n matched whole i j level part pair =
    let is = pair.served in
    let own = is.only j level Uni pair.feeds in
    let here : Serves matched i j part.level part.kind = Serves-along matched i j level part.level Uni part.kind own.0 own.1 pair.feeds in
    last-only 64 part.outputs j pair.small ((is.outputs j).1 here)
    (λ y member. elim (whole.once i j level Uni y part.level part.kind pair.feeds ((is.outputs y).0 member)) [
      | inl same ↦ sym same
      | inr multi ↦ absurd (kinds_differ multi.1)
    ])

part_queue : (n : ℕ) (matched : List (Option Fed)) → IsMatch n matched → (i j level : ℕ) (kind : Kind) (part : Served) → IsPair matched i j level kind part
    → queue_served part ≡ queue_to j level kind
part_queue n matched whole i j level Uni part pair =
    let own = pair.served.only j level Uni pair.feeds in
    ap (λ k. queue_by k part) (sym own.1)
    ∙ ap (λ o. OfOutput o part.level) (unicast_port n matched whole i j level part pair)
    ∙ ap (OfOutput j) (sym own.0)
part_queue n matched whole i j level Multi part pair =
    let own = pair.served.only j level Multi pair.feeds in
    ap (λ k. queue_by k part) (sym own.1) ∙ ap OfLevel (sym own.0)

-- ---- those that were granted are the first of all that entered and go to the output
begun_first : (j : ℕ) (w : List FanCell) (left : Bool) → (rest : List FanCell)
    × (to_output j w ≡ (if has (first_fan w) j && left then first_of w else []) ++ rest)
begun_first j [] left = ([], nothing (has 0 j && left)) where
  nothing : (b : Bool) → (let e : List FanCell = [] in e) ≡ (if b then [] else []) ++ []
  nothing true = refl
  nothing false = refl
begun_first j (c ∷ w) left = go (has c.fan j) left refl where
  go : (b l : Bool) → has c.fan j ≡ b → (rest : List FanCell) × (to_output j (c ∷ w) ≡ (if b && l then c ∷ [] else []) ++ rest)
  go true true is = (to_output j w, ap (λ (b : Bool). if b then c ∷ to_output j w else to_output j w) is)
  go true false is = (to_output j (c ∷ w), refl)
  go false l is = (to_output j (c ∷ w), refl)

module _ (scheduler : Scheduler) (scheduling : IsScheduler scheduler) (plan : SwitchPlan) (good : IsGood plan) where
  granted_first : (i j level : ℕ) (kind : Kind) (t : ℕ) → i < ports_of plan → (rest : List FanCell)
      × (to_output j (queue_before (card_at plan i) (queue_to j level kind) (parts_under scheduler plan i t) t).entered ≡ granted_to (card_at plan i)
      (queue_to j level kind) j (parts_under scheduler plan i t) t ++ rest)
  granted_first i j level kind t inside =
      let q = queue_to j level kind in
      let s = queue_before (card_at plan i) q (parts_under scheduler plan i t) t in
      let (rest, first) = begun_first j (waiting s) (not (has (rest_of q s) j)) in
      let granted = granted_is (card_at plan i) (good-card plan good i inside).good (parts_under scheduler plan i t) q j t
      (λ u below. servable scheduler scheduling plan good i u t inside below) in
      let gone = to_output j (take s.left s.entered) in (
        rest,
        ap (to_output j) (sym (take-append-drop s.left s.entered))
            ∙ filter-append (λ (cell : FanCell). has cell.fan j) (take s.left s.entered) (waiting s)
            ∙ ap (λ xs. gone ++ xs) first
            ∙ sym (append_assoc gone (begun_for q j s) rest)
            ∙ ap (λ xs. xs ++ rest) (sym granted),
      )

  -- ---- the cell that input i is granted in slot t, of which it feeds output j
  module _ (i j level : ℕ) (kind : Kind) (t : ℕ) (feeds : Serves (match_under scheduler plan t) i j level kind) where
    abbrev queue : Queue
    queue = queue_to j level kind

    abbrev parts : ℕ → List (Option Served)
    parts u = parts_under scheduler plan i u

    abbrev was_granted : List FanCell
    was_granted = granted_to (card_at plan i) queue j (parts t) t

    input_in : i < ports_of plan
    input_in = (sound scheduler scheduling plan good t).matches.input_in i j level kind feeds

    serves_to : serves queue j (served_under scheduler (setup_for plan) (posts_under scheduler plan) i t) ≡ true
    serves_to =
        let part = served_under scheduler (setup_for plan) (posts_under scheduler plan) i t in
        serves_gives j level kind part
        ∙ (Decides-gives part j level kind).1
        ((Gives-iff_serves (ports_of plan) (match_under scheduler plan t) (sound scheduler scheduling plan good t).matches i j level kind).1 feeds)

    granted_next : (c : FanCell) (v : List FanCell) → waits_at scheduler scheduling plan good i queue t ≡ c ∷ v
        → granted_to (card_at plan i) queue j (parts (suc t)) (suc t) ≡ was_granted ++ c ∷ []
    granted_next c v is =
        let card = card_at plan i in
        let w = waits_at scheduler scheduling plan good i queue t in
        let part = served-at scheduler plan i t (suc t) (omega arith) in
        ap (λ xs. xs ++ (if serves queue j (slice_index_or (parts (suc t)) t None) then first_of w else []))
        (granted_to-same scheduler plan i t (suc t) (omega arith) queue j)
        ∙ ap (λ (b : Bool). was_granted ++ (if b then first_of w else [])) (ap (serves queue j) part ∙ serves_to)
        ∙ ap (λ x. was_granted ++ first_of x) is

    next_is : (c : FanCell) (v : List FanCell) → waits_at scheduler scheduling plan good i queue t ≡ c ∷ v
        → IsNextName (card_at plan i) (rest_after [] (named (card_at plan i) was_granted)) c.name
    next_is c v is =
        let card = card_at plan i in
        let mine = good-card plan good i input_in in
        let (rest, first) = granted_first i j level kind (suc t) input_in in
        next_name card mine.good queue j (parts (suc t)) (suc t) was_granted c rest
        (ap (to_output j) (sym (entered-is card queue (parts (suc t)) mine.good (suc t)))
        ∙ first ∙ ap (λ xs. xs ++ rest) (granted_next c v is) ∙ append_assoc was_granted (c ∷ []) rest)

    name_is : (c : FanCell) (v : List FanCell) → j < 64 → waits_at scheduler scheduling plan good i queue t ≡ c ∷ v
        → granted_name scheduler plan i t ≡ Some c.name
    name_is c v small is =
        let card = card_at plan i in
        let matches = (sound scheduler scheduling plan good t).matches in
        let (part, served, own) = served_of-served (ports_of plan) (match_under scheduler plan t) matches i j level kind feeds in
        ap (name_served scheduler plan i t) served
        ∙ ap (λ q. first_name (waiting (queue_in card q (parts t) t)))
        (part_queue (ports_of plan) (match_under scheduler plan t) matches i j level kind part (record { small = small; feeds = feeds; served = own }))
        ∙ ap (λ s. first_name (waiting s)) (sym (queue_in-same scheduler plan i t (suc t) (omega arith) queue))
        ∙ ap first_name is

    -- The cell that crosses to output j is of the name that was granted, which is the next of its packet there.
    pub record IsGranted (cell : Cell) : Type 0 where
      pub name : CellName
      pub input : i < ports_of plan
      pub granted : granted_name scheduler plan i t ≡ Some name
      pub is : cell ≡ cell_named (card_at plan i) name
      pub routed : (slice_index_or (card_at plan i).packets name.packet no_packet).fan ≢ 0
      pub next : IsNextName (card_at plan i) (rest_after [] (named (card_at plan i) was_granted)) name

    pub crossing : (cell : Cell) → j < 64 → crossed_under scheduler (setup_for plan) (posts_under scheduler plan) j (suc t) ≡ Some cell
        → IsGranted cell
    crossing cell small crosses =
        let card = card_at plan i in
        let mine = good-card plan good i input_in in
        let served = parts (suc t) in
        let w = waits_at scheduler scheduling plan good i queue t in
        let one : cell ∷ [] ≡ named card (first_of w) =
        subst (λ o. option_to_list o ≡ named card (first_of w)) crosses
        (crossed_is scheduler scheduling plan good i j level kind t feeds) in
        let (c, v, waits, is) = one_is card cell w one in
        let kept = kept-in card mine.good queue served t in
        let of : IsOf card queue c = (head-of card mine.good queue (queue_in card queue served t) c v kept waits).0 in
        let at = get_or_from_slice_get card.packets c.name.packet of.packet no_packet of.there in
        record {
          name = c.name;
          input = input_in;
          granted = name_is c v small waits;
          is = is;
          routed = λ none. of.routed (ap (λ (p : Planned). p.fan) (sym at) ∙ none);
          next = next_is c v waits;
        }

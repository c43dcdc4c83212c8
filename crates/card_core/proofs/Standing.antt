-- A card after its takings.
use Rattle.std.proofs.Common.{◌≡◌, ◌∙◌, ℕ, zero, suc, ◌<◌, ◌≤◌, ◌||◌, Bool, true, false, List, [], ◌∷◌, ◌++◌, map, length, Option, Some, None}
use Rattle.std.proofs.Common.{slice_index_or, refl, sym, ap, subst, arith, length-append}
use Rattle.std.specs.Option.{option_to_list}
use Rattle.std.proofs.lemmas.List.{append-nil, map_push, length_push, length-map}
use Rattle.std.proofs.lemmas.List.Folds.{list_any-append}
use Rattle.std.proofs.lemmas.Grind.{flat_map-append}
use Rattle.cell_cutter.specs.declared.cell.Cell.{Cell}
use Rattle.reassembly.specs.Flows.{Flow, fresh, place_of}
use Rattle.reassembly.specs.Cutting.{Stands}
use Rattle.crossbar.specs.declared.cards.Taken.{Taken}
use Rattle.card_core.specs.Plans.{Plan, IsGoodPlan}
use Rattle.card_core.specs.Deliveries.{cells_taken}
use Rattle.card_core.specs.Cards.{Received, CardState, served_in, is_done, HasReceived, IsAfter, MayReceiveAny}
use Rattle.card_core.specs.CardSteps.{card_of, received_any}
use Rattle.card_core.specs.States.{State, HasSent}
use Rattle.card_core.proofs.Collecting.{received_of}
use Rattle.card_core.proofs.Delivering.{received-push}

-- ---- at first
fresh_at : (sizes : List ℕ) (place : ℕ) → Stands (slice_index_or (map fresh sizes) place (fresh 0)) []
fresh_at [] place = record { bytes = refl; next = refl }
fresh_at (size ∷ sizes) zero = record { bytes = refl; next = refl }
fresh_at (size ∷ sizes) (suc place) = fresh_at sizes place

fresh_sizes : (sizes : List ℕ) → map (λ (f : Flow). f.size) (map fresh sizes) ≡ sizes
fresh_sizes [] = refl
fresh_sizes (size ∷ sizes) = ap (λ xs. size ∷ xs) (fresh_sizes sizes)

pub begun_after : (plan : Plan) (s : State) (r : Received) → HasSent s [] false → s.plan ≡ plan
    → r ≡ received_of (record { ports = plan.ports; flows = map fresh plan.sizes }) [] [] 0 plan.body_room plan.packet_room
    → IsAfter (card_of s r false) [] false
begun_after plan s r sent is received = record {
  sent = sent;
  received = subst (λ p. HasReceived p r []) (sym is) (subst (λ x. HasReceived plan x []) (sym received) (record {
    ports = refl;
    sizes = fresh_sizes plan.sizes;
    body_room = refl;
    packet_room = refl;
    flows = λ i l k inside below. fresh_at plan.sizes (place_of i l k);
    body = refl;
    lens = refl;
    count = refl;
  }));
  done = refl;
  going = λ e. refl;
  slots = omega arith;
}

-- ---- after a post
slot-is : (card : CardState) (takings : List Taken) (posted : Bool) → IsAfter card takings posted → card.sends.slot ≡ length takings
slot-is card takings posted was = was.sent.slot ∙ length-map takings (λ (t : Taken). t.served)

pub after_post : (card : CardState) (s : State) (takings : List Taken) → IsAfter card takings false → card.done ≡ false → card.sends.slot < 262145
    → HasSent s (served_in takings) true → s.plan ≡ card.sends.plan → IsAfter (card_of s card.receives card.done) takings true
after_post card s takings was open' room sent same = record {
  sent = sent;
  received = subst (λ p. HasReceived p card.receives (cells_taken takings)) (sym same) was.received;
  done = was.done;
  going = λ e. open';
  slots = let e = slot-is card takings false was in omega arith;
}

-- ---- after a take
served-push : (takings : List Taken) (taken : Taken) → served_in (takings ++ taken ∷ []) ≡ served_in takings ++ taken.served ∷ []
served-push takings taken = map_push (λ (t : Taken). t.served) takings taken

cells-push : (takings : List Taken) (taken : Taken) → cells_taken (takings ++ taken ∷ []) ≡ cells_taken takings ++ option_to_list taken.cell
cells-push takings taken =
    flat_map-append (λ (t : Taken). option_to_list t.cell) takings (taken ∷ [])
    ∙ ap (λ xs. cells_taken takings ++ xs) (append-nil (option_to_list taken.cell))

or_self : (b : Bool) → false || (b || false) ≡ b
or_self true = refl
or_self false = refl

done-push : (takings : List Taken) (taken : Taken) → is_done takings ≡ false → taken.done ≡ is_done (takings ++ taken ∷ [])
done-push takings taken none =
    sym (list_any-append (λ (t : Taken). t.done) takings (taken ∷ []) ∙ ap (λ b. b || (taken.done || false)) none ∙ or_self taken.done)

received_case : (plan : Plan) → IsGoodPlan plan → (r : Received) (cells : List Cell) (cell : Option Cell) → HasReceived plan r cells → MayReceiveAny r cell
    → HasReceived plan (received_any r cell) (cells ++ option_to_list cell)
received_case plan good r cells None had may = subst (HasReceived plan r) (sym (append-nil cells)) had
received_case plan good r cells (Some cell) had may = received-push plan good r cells had cell may

pub after_take : (card : CardState) (s : State) (takings : List Taken) (taken : Taken) → IsAfter card takings true → MayReceiveAny card.receives taken.cell
    → HasSent s (served_in takings ++ taken.served ∷ []) false → s.plan ≡ card.sends.plan
    → IsAfter (card_of s (received_any card.receives taken.cell) taken.done) (takings ++ taken ∷ []) false
after_take card s takings taken was may sent same =
    let plan = card.sends.plan in
    let r = received_any card.receives taken.cell in
    let all = received_case plan was.sent.plan card.receives (cells_taken takings) taken.cell was.received may in
    record {
      sent = subst (λ xs. HasSent s xs false) (sym (served-push takings taken)) sent;
      received = subst (λ p. HasReceived p r (cells_taken (takings ++ taken ∷ []))) (sym same)
          (subst (λ cs. HasReceived plan r cs) (sym (cells-push takings taken)) all);
      done = done-push takings taken (sym was.done ∙ was.going refl);
      going = λ e. absurd (cc);
      slots = let e = was.slots in let l = length_push takings taken in omega arith;
    }

pub room_left : (card : CardState) (takings : List Taken) → IsAfter card takings true → card.sends.slot < 262145
room_left card takings was = let e = slot-is card takings true was in let f = was.slots in omega arith

one_at_most : (cell : Option Cell) → length (option_to_list cell) ≤ 1
one_at_most None = omega arith
one_at_most (Some cell) = omega arith

cells_few : (takings : List Taken) → length (cells_taken takings) ≤ length takings
cells_few [] = omega arith
cells_few (t ∷ takings) = let e = one_at_most t.cell in let f = cells_few takings in omega (arith, length-append (option_to_list t.cell) (cells_taken takings))

pub cells_left : (card : CardState) (takings : List Taken) → IsAfter card takings true → card.receives.cells < 262145
cells_left card takings was = let e = cells_few takings in let f = was.slots in let g = was.received.count in omega arith

-- The switch of a reference: what each input is to send.
use Rattle.std.proofs.Common.{◌≡◌, ◌∙◌, ℕ, ◌<◌, List, [], map, length, slice_index_or, sym, ap, arith}
use Rattle.std.proofs.lemmas.List.{get_or-map, length-map}
use Rattle.std.proofs.lemmas.Option.{slice_get-get_or}
use Rattle.card_core.specs.Plans.{Plan}
use Rattle.output_queued.specs.declared.coming.Coming.{Coming}
use Rattle.output_queued.specs.Switches.{card_of, no_card, card_for, IsSwitch, AreCards}
use Rattle.output_queued.specs.Steps.{IsPart}
use Rattle.output_queued.proofs.Sources.{good-card, ports-are}

pub part_of : (ports depth : ℕ) (inputs : List (List Coming)) → IsSwitch ports depth inputs → (i : ℕ) → i < ports
    → IsPart ports depth (slice_index_or inputs i [])
part_of ports depth inputs is i inside =
    let count = is.count in
    record {
      some = is.some;
      size = is.size;
      deep = is.deep;
      input = is.each i (slice_index_or inputs i []) (slice_get-get_or inputs i [] (omega arith));
    }

pub card_at : (ports depth : ℕ) (inputs : List (List Coming)) (i : ℕ) → i < length inputs
    → card_of (map (card_for ports depth) inputs) i ≡ card_for ports depth (slice_index_or inputs i [])
card_at ports depth inputs i inside = get_or-map (card_for ports depth) inputs i [] no_card inside

pub cards-good : (ports depth : ℕ) (inputs : List (List Coming)) → IsSwitch ports depth inputs → AreCards (map (card_for ports depth) inputs)
cards-good ports depth inputs is =
    let count = is.count in
    let long = length-map inputs (card_for ports depth) in
    record {
      good = λ i inside. rw (card_at ports depth inputs i (omega arith))
          (good-card ports depth (slice_index_or inputs i []) (part_of ports depth inputs is i (omega arith)));
      ports = λ i inside. ap (λ (p : Plan). p.ports) (card_at ports depth inputs i (omega arith)) ∙ ports-are ports depth (slice_index_or inputs i [])
          ∙ sym count ∙ sym long;
    }

-- The counters over slots in which no packet arrives, nothing is served and no queue changes.
use Rattle.std.proofs.Common.{◌≡◌, ◌∙◌, ℕ, ◌+◌, ◌-◌, ◌<◌, ◌≤◌, ◌⊎◌, List, ◌++◌, length, replicate, All, Option, None, Some, slice_get, slice_index_or}
use Rattle.std.proofs.Common.{sym, ap, subst, arith, inl, inr, length-append}
use Rattle.std.proofs.lemmas.Bool.{cases_lt}
use Rattle.std.proofs.lemmas.List.{get_or-append_right, get_or-replicate, length-replicate}
use Rattle.std.proofs.lemmas.Option.{slice_get_within, get_or_from_slice_get}
use Rattle.std.proofs.Math.ListN.{get_or-append}
use Rattle.slot_match.specs.declared.matching.Served.{Served}
use Rattle.card_core.specs.declared.plan.Planned.{Planned}
use Rattle.card_core.specs.Plans.{Plan, Queue}
use Rattle.card_core.specs.Queues.{waiting, before}
use Rattle.card_core.specs.Posts.{row_at}
use Rattle.card_core.specs.States.{IsNext}
use Rattle.queue_lengths.specs.Lengths.{length_before}
use Rattle.queue_lengths.specs.Counters.{Counters, AreServable, CountBefore}
use Rattle.queue_lengths.proofs.Leaving.{row-more}

module _ (packets : List Planned) (slot after : ℕ) (apart : All (λ packet. (packet.arrival < slot) ⊎ (after ≤ packet.arrival)) packets) where
  pub apart-at : (k : ℕ) (packet : Planned) → slice_get packets k ≡ Some packet → (packet.arrival < slot) ⊎ (after ≤ packet.arrival)
  apart-at k packet there =
      subst (λ (p : Planned). (p.arrival < slot) ⊎ (after ≤ p.arrival)) (get_or_from_slice_get packets k packet packet there)
      (apart k packet (slice_get_within packets k packet there))

  -- the packet that is next stays next
  next_later : (next : ℕ) → slot ≤ after → IsNext packets slot next → IsNext packets after next
  next_later next ahead is = record {
    within = is.within;
    before = λ k packet there less. omega (arith, is.before k packet there less);
    after = λ k packet there from. elim (apart-at k packet there) [
      | inl early ↦ let late = is.after k packet there from in absurd (omega arith)
      | inr late ↦ late
    ];
  }

module _ (plan : Plan) (served later : List (Option Served)) (slot next : ℕ) (now : length served ≡ slot) (ahead : slot ≤ next)
    (parts : later ≡ served ++ replicate (next - slot) None) where
  abbrev none : List (Option Served)
  none = replicate (next - slot) None

  count : length later ≡ next
  count =
      let all = ap length parts ∙ length-append served none in
      let few : length none ≡ next - slot = length-replicate (next - slot) None in
      omega (arith, all, few)

  servable : AreServable plan served → AreServable plan later
  servable was t inside = elim (cases_lt t (length served)) [
    | inl early ↦
        let row : row_at plan later t ≡ row_at plan served t = ap (λ ps. row_at plan ps t) parts ∙ row-more plan served none t (omega arith) in
        let part : slice_index_or later t None ≡ slice_index_or served t None =
        ap (λ ps. slice_index_or ps t None) parts ∙ get_or-append served none None t early in
        rw (row, part) (was t early)
    | inr late ↦
        let part : slice_index_or later t None ≡ None =
        ap (λ ps. slice_index_or ps t None) parts ∙ get_or-append_right served none (length served) t None (omega arith) late
        ∙ get_or-replicate (next - slot) (t - length served) None None (omega (arith, count)) in
        rw part tt
  ]

  pub kept-counts : (counters : Counters) → CountBefore plan counters served → All (λ packet. (packet.arrival < slot) ⊎ (next ≤ packet.arrival)) plan.packets
      → ((q : Queue) → before plan q later next ≡ before plan q served slot) → CountBefore plan counters later
  kept-counts counters was apart same = record {
    good = was.good;
    ports = was.ports;
    depth = was.depth;
    packets = was.packets;
    servable = servable was.servable;
    next = subst (λ t. IsNext plan.packets t counters.next) (sym count)
        (next_later plan.packets slot next apart counters.next ahead (subst (λ t. IsNext plan.packets t counters.next) now was.next));
    count = was.count;
    lengths = λ q inside.
        was.lengths q inside ∙ ap (length_before plan q served) now ∙ sym (ap (λ s. length (waiting s)) (same q)) ∙ ap (length_before plan q later) (sym count);
  }

use Rattle.std.proofs.Common.{◌≡◌, ◌∙◌, ◌<◌, max, length, map, ap, subst, sym, arith}
use Rattle.std.specs.List.{range_with_len}
use Rattle.service_bound.specs.Waits.{greatest, longest_wait}
use Rattle.service_bound.specs.MeterSteps.{Queues, Meter, place_of, queues_at, longest_at, HaveBegun, HasNoted}
use Rattle.service_bound.proofs.Greatest.{greatest-more}
use Rattle.service_bound.proofs.Noting.{found_is, AreBegun-noted, longest-noted}
use Rattle.service_bound.proofs.meter.WaitMeter.longest.Goals as goal

pub longest-requires : goal.longest-requires
longest-requires c =
    let s = c.self.inside in
    let meter : Meter = record { ports = s.ports; count = s.count; queues = s.queues.items } in
    let place = place_of c.loop-input.input c.args.level in
    let level_in = c.requires.level in
    let long = c.self.invariant.1.long in
    let inside : place < length s.queues.items = omega arith in
    let found = found_is s.queues.items place c.index-queues.result.now inside (rw c.place_of.ensures at c.index-queues.ensures) in
    subst (λ (q : Queues). HaveBegun q.began q.waiting s.count) (sym found) (AreBegun-noted meter c.self.invariant.0 c.self.invariant.1 place inside).begun

pub loop-input-preserved : goal.loop-input-preserved
loop-input-preserved c =
    let s = c.self.inside in
    let all = s.queues.items in
    let level_in = c.requires.level in
    let long = c.self.invariant.1.long in
    let inside : place_of c.loop-input.input c.args.level < length all = omega arith in
    let found = found_is all (place_of c.loop-input.input c.args.level) c.index-queues.result.now inside (rw c.place_of.ensures at c.index-queues.ensures) in
    let here : c.longest.result ≡ longest_at (queues_at all (place_of c.loop-input.input c.args.level)) s.count = c.longest.ensures
    ∙ ap (λ q. longest_at q s.count) found in
    c.max-longest.ensures ∙ ap (λ x. max x c.longest.result) c.loop-input.invariant
    ∙ ap (λ x. max (greatest (map (λ i. longest_at (queues_at all (place_of i c.args.level)) s.count) (range_with_len 0 c.loop-input.input))) x) here
    ∙ sym (greatest-more (λ i. longest_at (queues_at all (place_of i c.args.level)) s.count) c.loop-input.input)

pub returns : goal.returns
returns c = λ slots noted.
    let s = c.self.inside in
    let meter : Meter = record { ports = s.ports; count = s.count; queues = s.queues.items } in
    let last : c.loop-input.input ≡ s.ports = omega arith in
    let all = longest-noted meter slots c.args.level (subst (λ (m : Meter). HasNoted m slots) (sym c.self.view_is) noted) c.requires.level in
    let ports : s.ports ≡ c.args.self.now.ports = ap (λ (m : Meter). m.ports) c.self.view_is in
    c.loop-input.invariant ∙ ap (λ n. greatest (map (λ i. longest_at (queues_at s.queues.items (place_of i c.args.level)) s.count) (range_with_len 0 n))) last
    ∙ all ∙ ap (λ n. longest_wait n c.args.level slots) ports

use Rattle.std.proofs.Common.{◌≡◌, ◌∙◌, ◌+◌, ℕ, List, Option, map, length, sym, subst, arith}
use Rattle.std.specs.Vec.{with_items}
use Rattle.std.proofs.lemmas.List.{with_items_is}
use Rattle.slot_match.specs.declared.matching.Fed.{Fed}
use Rattle.crossbar.specs.declared.cards.Post.{Post}
use Rattle.crossbar.specs.Crossing.{fetched}
use Rattle.run_laws.specs.Runs.{ports_of}
use Rattle.packet_times.specs.NotingSteps.{Input, Times, HasNoted}
use Rattle.packet_times.specs.Steps.{HasEnds, AreNoted}
use Rattle.packet_times.specs.contracts.times.PacketTimes.{the_view}
use Rattle.packet_times.proofs.Noted.{are-noted, all-noted}
use Rattle.packet_times.proofs.times.PacketTimes.note.Goals as goal

pub returns : goal.returns
returns c scheduler plan noted is =
    let old = the_view c.self.inside in
    let slot = c.args.slot in
    let cells = map (λ (post : Post). post.cell) c.args.posts.now in
    let was : HasNoted scheduler plan old slot = subst (λ (s : Times). HasNoted scheduler plan s slot) (sym c.self.view_is) noted in
    let before : AreNoted scheduler plan slot 0 c.deref_mut.result.now =
    subst (AreNoted scheduler plan slot 0) (sym c.deref_mut.ensures.value) (are-noted scheduler plan slot old was) in
    let long : c.len-ports.result ≡ length c.self.inside.inputs.items = omega arith in
    let ports : c.len-ports.result ≡ ports_of plan = long ∙ was.count in
    let ends : HasEnds (ports_of plan) slot (fetched old.matched cells) old.ends c.note_ends.new.ends.items =
    subst (λ (n : ℕ). HasEnds n slot (fetched old.matched cells) old.ends c.note_ends.new.ends.items) ports
    (subst (λ (feeds : List (Option Fed)). HasEnds c.len-ports.result slot (fetched feeds cells) old.ends c.note_ends.new.ends.items) c.deref.ensures.value
    c.in_ok-note_ends.ensures) in
    let inputs = c.note_inputs.new.inputs in
    let made : AreNoted scheduler plan slot (ports_of plan) inputs = c.in_ok-note_inputs.ensures scheduler plan before is in
    let kept : (with_items c.self.inside.inputs inputs).items ≡ inputs = with_items_is c.self.inside.inputs inputs (omega (arith, made.count, was.count)) in
    let new : Times = record { inputs = inputs; ends = c.note_ends.new.ends.items; matched = c.keep_feeds.new.feeds.items } in
    subst (λ (is : List Input). HasNoted scheduler plan (record { inputs = is; ends = new.ends; matched = new.matched }) (slot + 1)) (sym kept)
    (all-noted scheduler plan slot c.args.posts.now c.args.matched.now is c.ranges.slot.fits old new was made ends c.in_ok-keep_feeds.ensures)

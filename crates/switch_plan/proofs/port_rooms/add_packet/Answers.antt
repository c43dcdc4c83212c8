use Rattle.std.proofs.Common.{◌≡◌, ◌∙◌, ◌+◌, ◌<◌, ℕ, length, length-set, subst, sym, ap, inl, inr, refl, arith}
use Rattle.std.specs.Prelude.{slice_set}
use Rattle.std.proofs.lemmas.Bool.{cases_eq}
use Rattle.rotating_pick.proofs.Bits.{Has-lt}
use Rattle.switch_plan.specs.OutputSteps.{room_at, with_message, with_packet, AreFew}
use Rattle.switch_plan.proofs.OnePass.{packet_aside, packet_here, packet_else}
use Rattle.switch_plan.proofs.port_rooms.add_packet.Goals as goal

pub without-rest-requires : goal.without-rest-requires
without-rest-requires c =
    Has-lt 64 c.args.packet.now.fan c.in-Some.output (omega arith) (c.loop-output.invariant.inside c.in-Some.output c.in-Some.ensures.member)

pub bounds-rooms-output : goal.bounds-rooms-output
bounds-rooms-output c = Has-lt 64 c.args.packet.now.fan c.in-Some.output (omega arith)
    (c.loop-output.invariant.inside c.in-Some.output c.in-Some.ensures.member)

pub loop-output-init : goal.loop-output-init
loop-output-init c = record {
  long = omega arith;
  inside = λ j has. has;
  left = λ j below has. refl;
  done = λ j below lacks. packet_aside j (room_at c.args.rooms.now j) c.args.packet.now lacks;
}

pub with_message-requires-clause-few : goal.with_message-requires-clause-few
with_message-requires-clause-few c =
    let output = c.in-Some.output in
    let below = Has-lt 64 c.args.packet.now.fan output (omega arith) (c.loop-output.invariant.inside output c.in-Some.ensures.member) in
    subst AreFew (sym (c.loop-output.invariant.left output below c.in-Some.ensures.member)) (c.requires.few output below)

pub loop-output-preserved : goal.loop-output-preserved
loop-output-preserved c =
    let inv = c.loop-output.invariant in
    let rooms = c.loop-output.rooms in
    let old = c.args.rooms.now in
    let p = c.args.packet.now in
    let k = c.in-Some.output in
    let room = c.with_message.result in
    let has = c.in-Some.ensures.member in
    let below : k < 64 = Has-lt 64 p.fan k (omega arith) (inv.inside k has) in
    let long = inv.long in
    let inside : k < length rooms = omega arith in
    let members = c.without-rest.ensures.members in
    let made = c.with_message.ensures ∙ ap (λ (flow : ℕ). with_message flow (16 + p.len) (room_at rooms k)) c.flow_of-flow.ensures in
    record {
      long = length-set rooms k room ∙ inv.long;
      inside = λ j is. inv.inside j ((members j).0 is).1;
      left = λ j less is. packet_else k j rooms room ((members j).0 is).0 ∙ inv.left j less ((members j).0 is).1;
      done = λ j less lacks. elim (cases_eq j k) [
        | inl same ↦
            subst (λ i. room_at (slice_set rooms k room) i ≡ with_packet i (room_at old i) p) (sym same)
            (packet_here k rooms old p room inside (inv.inside k has) (inv.left k below has) made)
        | inr other ↦ packet_else k j rooms room other ∙ inv.done j less (λ is. lacks ((members j).1 (other, is)))
      ];
    }

use Rattle.std.proofs.Common.{◌≡◌, ◌∙◌, ℕ, List, refl, sym, ap, arith}
use Rattle.std.specs.List.{fold}
use Rattle.rotating_pick.specs.declared.limits.TheConstants.{MAX_PORTS}
use Rattle.rotating_pick.proofs.Bits.{Has-lt}
use Rattle.card_core.specs.Plans.{kind_of, queue_of}
use Rattle.packet_times.specs.Rows.{outputs_in}
use Rattle.packet_times.specs.WalkingSteps.{own_place, with_one}
use Rattle.packet_times.proofs.Rowing.{outputs-next, no-outputs}
use Rattle.packet_times.proofs.flow_counts.count_packet.Goals as goal

pub loop-output-init : goal.loop-output-init
loop-output-init c = record { inside = λ j has. has; counted = refl }

pub place_of_own-requires : goal.place_of_own-requires
place_of_own-requires c =
    let n = c.in-Some.output in
    Has-lt 64 c.args.packet.now.fan n (omega arith) (c.loop-output.invariant.inside n c.in-Some.ensures.member)

pub without-left-requires : goal.without-left-requires
without-left-requires c =
    let n = c.in-Some.output in
    Has-lt 64 c.args.packet.now.fan n (omega arith) (c.loop-output.invariant.inside n c.in-Some.ensures.member)

pub loop-output-preserved : goal.loop-output-preserved
loop-output-preserved c =
    let n = c.in-Some.output in
    let p = c.args.packet.now in
    let rest = c.without-left.result in
    let add : List ℕ → ℕ → List ℕ = λ now j. with_one now (own_place j p.level (kind_of (queue_of p))) in
    let member = c.in-Some.ensures.member in
    let counted : c.count_one.new.counts ≡ add c.loop-output.counts n =
    c.count_one.ensures ∙ ap (with_one c.loop-output.counts) (c.place_of_own.ensures ∙ ap (own_place n p.level) (c.kind_of-kind.ensures p.level)) in
    let members = c.without-left.ensures.members in
    record {
      inside = λ j has. c.loop-output.invariant.inside j ((members j).0 has).1;
      counted = c.loop-output.invariant.counted
          ∙ ap (fold add c.loop-output.counts) (outputs-next c.loop-output.left rest n member c.in-Some.ensures.least members MAX_PORTS
          (Has-lt 64 p.fan n (omega arith) (c.loop-output.invariant.inside n member)))
          ∙ ap (λ (now : List ℕ). fold add now (outputs_in MAX_PORTS rest)) (sym counted);
    }

pub returns : goal.returns
returns c =
    let p = c.args.packet.now in
    let add : List ℕ → ℕ → List ℕ = λ now j. with_one now (own_place j p.level (kind_of (queue_of p))) in
    sym (c.loop-output.invariant.counted ∙ ap (fold add c.loop-output.counts) (no-outputs c.loop-output.left MAX_PORTS (c.in_default.ensures.none.0 refl)))

use Rattle.std.proofs.Common.{◌∙◌, ◌++◌, ◌+◌, ◌<◌, List, replicate, ap, sym, subst, arith}
use Rattle.slot_match.specs.Matches.{unmatched}
use Rattle.output_queued.specs.Switches.{Matched, served_in}
use Rattle.output_queued.specs.NotingSteps.{State, HasNoted}
use Rattle.output_queued.specs.QuietSteps.{IsQuietFor}
use Rattle.output_queued.specs.contracts.reference.Reference.{the_view}
use Rattle.output_queued.proofs.Noted.{coming_of}
use Rattle.output_queued.proofs.Skipping.{all-served-quiet, none-comes, skip-stand, skip-next, skip-coming}
use Rattle.output_queued.proofs.reference.Reference.skip.Goals as goal

pub let_in-self-inside-requires-clause-stand : goal.let_in-self-inside-requires-clause-stand
let_in-self-inside-requires-clause-stand c =
    let s0 = the_view c.self.inside in
    let n = c.args.slots in
    let zero = c.if-slots-eq0.false in
    let (m, noted, quiet) = subst (λ (s : State). (ms : List Matched) × HasNoted s ms × IsQuietFor s ms n) (sym c.self.view_is) c.requires.quiet in
    let few = subst (λ (s : State). s.slots + n < 4294967296) (sym c.self.view_is) c.requires.few in (
      s0.ports,
      s0.depth,
      served_in (m ++ replicate n (unmatched s0.ports)),
      skip-stand s0 m noted n (omega arith) few (all-served-quiet s0 m noted n (omega arith) quiet) (none-comes s0 m noted n (omega arith) quiet),
      noted.stands.count,
    )

pub invariant_of-self : goal.invariant_of-self
invariant_of-self c =
    let s0 = the_view c.self.inside in
    let n = c.args.slots in
    let zero = c.if-slots-eq0.false in
    let (m, noted, quiet) = subst (λ (s : State). (ms : List Matched) × HasNoted s ms × IsQuietFor s ms n) (sym c.self.view_is) c.requires.quiet in
    let few = subst (λ (s : State). s.slots + n < 4294967296) (sym c.self.view_is) c.requires.few in
    let all = all-served-quiet s0 m noted n (omega arith) quiet in
    let none = none-comes s0 m noted n (omega arith) quiet in
    let entered = c.let_in-self-inside.ensures in
    let ready = skip-stand s0 m noted n (omega arith) few all none in (
      m ++ replicate n (unmatched s0.ports),
      skip-next s0 m noted n (omega arith) few all none c.let_in-self-inside.new.inputs.items c.let_in-self-inside.new.tallies.items
          c.let_in-self-inside.result entered.count entered.small
          (entered.entered s0.ports s0.depth (served_in (m ++ replicate n (unmatched s0.ports))) ready) entered.unserved,
    )

pub returns-clause-switch : goal.returns-clause-switch
returns-clause-switch c =
    let s0 = the_view c.self.inside in
    let n = c.args.slots in
    let zero = c.if-slots-eq0.false in
    let (m, noted, quiet) = subst (λ (s : State). (ms : List Matched) × HasNoted s ms × IsQuietFor s ms n) (sym c.self.view_is) c.requires.quiet in
    let few = subst (λ (s : State). s.slots + n < 4294967296) (sym c.self.view_is) c.requires.few in
    let all = all-served-quiet s0 m noted n (omega arith) quiet in
    let none = none-comes s0 m noted n (omega arith) quiet in
    let ready = skip-stand s0 m noted n (omega arith) few all none in
    record {
      ports = ap (λ (s : State). s.ports) c.self.view_is;
      depth = ap (λ (s : State). s.depth) c.self.view_is;
      coming = skip-coming s0 m noted n (omega arith) few all none c.let_in-self-inside.new.inputs.items c.let_in-self-inside.new.tallies.items
          (c.let_in-self-inside.ensures.entered s0.ports s0.depth (served_in (m ++ replicate n (unmatched s0.ports))) ready)
          ∙ ap (λ (s : State). coming_of s.sources) c.self.view_is;
    }

pub returns-clause-noted : goal.returns-clause-noted
returns-clause-noted c matches noted' =
    let s0 = the_view c.self.inside in
    let n = c.args.slots in
    let zero = c.if-slots-eq0.false in
    let (m, earlier, quiet) = subst (λ (s : State). (ms : List Matched) × HasNoted s ms × IsQuietFor s ms n) (sym c.self.view_is) c.requires.quiet in
    let few = subst (λ (s : State). s.slots + n < 4294967296) (sym c.self.view_is) c.requires.few in
    let all = all-served-quiet s0 m earlier n (omega arith) quiet in
    let none = none-comes s0 m earlier n (omega arith) quiet in
    let noted = subst (λ (s : State). HasNoted s matches) (sym c.self.view_is) noted' in
    let entered = c.let_in-self-inside.ensures in
    let ready = skip-stand s0 matches noted n (omega arith) few all none in
    let ports = ap (λ (s : State). s.ports) c.self.view_is in
    subst (λ k. HasNoted (the_view (record {
      ports = c.self.inside.ports;
      depth = c.self.inside.depth;
      slots = c.self.inside.slots + n;
      inputs = c.let_in-self-inside.new.inputs;
      tallies = c.let_in-self-inside.new.tallies;
      unserved = c.let_in-self-inside.result;
      parts = c.self.inside.parts;
    })) (matches ++ replicate n (unmatched k))) ports
    (skip-next s0 matches noted n (omega arith) few all none c.let_in-self-inside.new.inputs.items c.let_in-self-inside.new.tallies.items
    c.let_in-self-inside.result entered.count entered.small
    (entered.entered s0.ports s0.depth (served_in (matches ++ replicate n (unmatched s0.ports))) ready) entered.unserved)

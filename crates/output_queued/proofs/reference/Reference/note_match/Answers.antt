use Rattle.std.proofs.Common.{◌∙◌, ◌++◌, ◌∷◌, [], ap, sym, subst, arith}
use Rattle.output_queued.specs.Switches.{served_in}
use Rattle.output_queued.specs.NotingSteps.{State, HasNoted, MayNote}
use Rattle.output_queued.specs.contracts.reference.Reference.{the_view}
use Rattle.output_queued.proofs.Noted.{coming_of, sources-long, rows-are, follows, may-take, stand, coming-stays, noted-next}
use Rattle.output_queued.proofs.reference.Reference.note_match.Goals as goal

pub take_served-requires-clause-may : goal.take_served-requires-clause-may
take_served-requires-clause-may c i inside =
    let s0 = the_view c.self.inside in
    let (m, noted, may) = subst (λ (s : State). MayNote s c.requires.0 c.args.matched.now) (sym c.self.view_is) c.requires.1 in
    may-take s0 m noted c.requires.0 c.args.matched.now may i (let long = sources-long s0 m noted in omega arith)

pub let_in-self-inside-requires-clause-stand : goal.let_in-self-inside-requires-clause-stand
let_in-self-inside-requires-clause-stand c =
    let s0 = the_view c.self.inside in
    let (m, noted, may) = subst (λ (s : State). MayNote s c.requires.0 c.args.matched.now) (sym c.self.view_is) c.requires.1 in (
      s0.ports,
      s0.depth,
      served_in (m ++ c.args.matched.now ∷ []),
      stand s0 m noted c.requires.0 c.args.matched.now may c.take_served.new.inputs.items c.take_served.ensures.count c.take_served.ensures.taken,
      c.count_slot-unserved.ensures.count ∙ noted.stands.count,
    )

pub invariant_of-self : goal.invariant_of-self
invariant_of-self c =
    let s0 = the_view c.self.inside in
    let (m, noted, may) = subst (λ (s : State). MayNote s c.requires.0 c.args.matched.now) (sym c.self.view_is) c.requires.1 in
    let rows = c.requires.0 in
    let matched = c.args.matched.now in
    let taken = c.take_served.ensures in
    let counted = c.count_slot-unserved.ensures in
    let entered = c.let_in-self-inside.ensures in
    let ready = stand s0 m noted rows matched may c.take_served.new.inputs.items taken.count taken.taken in (
      m ++ matched ∷ [],
      noted-next s0 m noted rows matched may c.take_served.new.inputs.items taken.count taken.taken c.count_slot-unserved.new.tallies.items counted.count
          counted.ticks counted.others
          c.let_in-self-inside.new.inputs.items c.let_in-self-inside.new.tallies.items c.let_in-self-inside.result entered.count entered.small
          (entered.entered s0.ports s0.depth (served_in (m ++ matched ∷ [])) ready) entered.unserved,
    )

pub returns-clause-switch : goal.returns-clause-switch
returns-clause-switch c =
    let s0 = the_view c.self.inside in
    let (m, noted, may) = subst (λ (s : State). MayNote s c.requires.0 c.args.matched.now) (sym c.self.view_is) c.requires.1 in
    let rows = c.requires.0 in
    let matched = c.args.matched.now in
    let taken = c.take_served.ensures in
    let counted = c.count_slot-unserved.ensures in
    let entered = c.let_in-self-inside.ensures in
    let ready = stand s0 m noted rows matched may c.take_served.new.inputs.items taken.count taken.taken in
    record {
      ports = ap (λ (s : State). s.ports) c.self.view_is;
      depth = ap (λ (s : State). s.depth) c.self.view_is;
      coming = coming-stays s0 m noted rows matched may c.take_served.new.inputs.items taken.count taken.taken c.count_slot-unserved.new.tallies.items
          counted.count counted.ticks counted.others
          c.let_in-self-inside.new.inputs.items c.let_in-self-inside.new.tallies.items c.let_in-self-inside.result entered.count entered.small
          (entered.entered s0.ports s0.depth (served_in (m ++ matched ∷ [])) ready) entered.unserved
          ∙ ap (λ (s : State). coming_of s.sources) c.self.view_is;
    }

pub returns-clause-noted : goal.returns-clause-noted
returns-clause-noted c matches noted' =
    let s0 = the_view c.self.inside in
    let (m, earlier, may') = subst (λ (s : State). MayNote s c.requires.0 c.args.matched.now) (sym c.self.view_is) c.requires.1 in
    let noted = subst (λ (s : State). HasNoted s matches) (sym c.self.view_is) noted' in
    let rows = c.requires.0 in
    let matched = c.args.matched.now in
    let may = follows s0 matches noted rows matched m earlier may' (rows-are s0 m earlier) in
    let taken = c.take_served.ensures in
    let counted = c.count_slot-unserved.ensures in
    let entered = c.let_in-self-inside.ensures in
    let ready = stand s0 matches noted rows matched may c.take_served.new.inputs.items taken.count taken.taken in
    noted-next s0 matches noted rows matched may c.take_served.new.inputs.items taken.count taken.taken c.count_slot-unserved.new.tallies.items counted.count
    counted.ticks counted.others
    c.let_in-self-inside.new.inputs.items c.let_in-self-inside.new.tallies.items c.let_in-self-inside.result entered.count entered.small
    (entered.entered s0.ports s0.depth (served_in (matches ++ matched ∷ [])) ready) entered.unserved

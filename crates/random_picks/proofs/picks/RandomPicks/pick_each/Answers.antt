use Rattle.std.proofs.Common.{◌≡◌, ◌∙◌, ◌<◌, ℕ, Option, None, ap, arith, length, length-set, sym}
use Rattle.std.proofs.lemmas.List.{length-replicate}
use Rattle.std.proofs.lemmas.Option.{none-some}
use Rattle.std_lemmas.proofs.Lists.{get_or-same}
use Rattle.islip_rounds.proofs.Tables.{below-next}
use Rattle.random_picks.specs.Picks.{Pick, pick_of, picked}
use Rattle.random_picks.specs.PickSteps.{choices_in}
use Rattle.random_picks.proofs.Picking.{AreMembers-next, stream-first, stream-next}
use Rattle.random_picks.proofs.picks.RandomPicks.pick_each.Goals as goal

pub loop-k-init : goal.loop-k-init
loop-k-init c =
    rw c.no_picks-picks.ensures (record {
      long = length-replicate {A = Option ℕ} 64 None;
      stream = sym (stream-first (choices_in c.args.sets.now) c.args.self.now);
      picks = λ j below. absurd (omega (arith, below));
      members = λ k x is. absurd (none-some x (sym (get_or-same None 64 k) ∙ is));
    })

pub loop-k-preserved : goal.loop-k-preserved
loop-k-preserved c =
    let known = c.loop-k.invariant in
    let k = c.loop-k.k in
    let choices = choices_in c.args.sets.now in
    let pick : record { port = c.pick.result; stream = c.pick.new.self } ≡ pick_of (choices k) c.loop-k.self = c.pick.ensures.pick in
    let here = pick ∙ ap (pick_of (choices k)) known.stream in
    let inside : k < length c.loop-k.picks = omega (arith, known.long) in
    record {
      long = omega (arith, length-set {A = Option ℕ}, known.long);
      stream = ap (λ (p : Pick). p.stream) here ∙ sym (stream-next choices c.args.self.now k);
      picks = below-next (λ (j : ℕ) (o : Option ℕ). o ≡ picked choices c.args.self.now j) None c.loop-k.picks k c.pick.result inside
          (ap (λ (p : Pick). p.port) here) known.picks;
      members = AreMembers-next k c.args.sets.now c.loop-k.picks c.pick.result inside c.pick.ensures.member known.members;
    }

pub returns-clause-members : goal.returns-clause-members
returns-clause-members c = λ k x is. let p = c.loop-k.invariant.members k x is in (omega (arith, p.0), p.1)

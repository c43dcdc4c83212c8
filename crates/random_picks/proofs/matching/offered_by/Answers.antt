use Rattle.std.proofs.Common.{ℕ, ◌<◌, length, arith, length-set}
use Rattle.std.proofs.lemmas.List.{length-replicate}
use Rattle.rotating_pick.proofs.Tables.{no_members}
use Rattle.islip_rounds.proofs.Collecting.{AreOffers-put, AreOffers-skip}
use Rattle.random_picks.proofs.matching.offered_by.Goals as goal
use Rattle.random_picks.proofs.matching.offered_by.Goals.{in-Some, in_default}

pub loop-j-init : goal.loop-j-init
loop-j-init c =
    rw c.no_sets-offered.ensures
    (record {
      long = length-replicate {A = ℕ} 64 0;
      offers = λ i j. (λ has. absurd (no_members 64 i j has), λ p. absurd (omega (arith, p.0)));
    })

pub loop-j-preserved : goal.loop-j-preserved
loop-j-preserved c =
    elim c.match-granted-j.branch [
      | in-Some w ↦
          let i_in : w.in-Some.i < length c.loop-j.offered = omega (arith, c.requires.inputs w.in-Some.i c.loop-j.j w.in-Some.is) in
          rw w.offered-is
          (record {
            long = omega (arith, length-set {A = ℕ});
            offers = AreOffers-put c.args.granted.now c.loop-j.j w.in-Some.i w.with.result c.loop-j.offered i_in w.in-Some.is w.with.ensures
                c.loop-j.invariant.offers;
          })
      | in_default w ↦
          rw w.offered-is
          (record {
            long = c.loop-j.invariant.long;
            offers = AreOffers-skip c.args.granted.now c.loop-j.j c.loop-j.offered w.in_default.is c.loop-j.invariant.offers;
          })
    ]

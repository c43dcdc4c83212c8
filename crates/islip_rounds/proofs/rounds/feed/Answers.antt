use Rattle.std.proofs.Common.{◌≡◌, ◌<◌, ℕ, Option, length, subst, arith, length-set}
use Rattle.islip_rounds.proofs.Collecting.{AreFed, AreFed-put, AreFed-skip}
use Rattle.islip_rounds.proofs.rounds.feed.Goals as goal
use Rattle.islip_rounds.proofs.rounds.feed.Goals.{in-Some, in_default}

pub loop-i-preserved : goal.loop-i-preserved
loop-i-preserved c =
    elim c.match-accepted-i.branch [
      | in-Some w ↦
          let j = w.in-Some.j in
          let j_in : j < length c.loop-i.fed = omega (arith, c.requires.outputs c.loop-i.i j w.in-Some.is) in
          rw w.fed-is
          (record {
            long = omega (arith, length-set {A = Option ℕ});
            fed = AreFed-put c.args.fed.now c.args.accepted.now c.loop-i.i j c.loop-i.fed j_in (c.requires.free c.loop-i.i j w.in-Some.is)
                (λ i. (λ accepts. c.requires.once i c.loop-i.i j accepts w.in-Some.is, λ same. rw same w.in-Some.is))
                c.loop-i.invariant.fed;
          })
      | in_default w ↦
          rw w.fed-is
          (record {
            long = c.loop-i.invariant.long;
            fed = AreFed-skip c.args.fed.now c.args.accepted.now c.loop-i.i c.loop-i.fed w.in_default.is c.loop-i.invariant.fed;
          })
    ]

pub returns : goal.returns
returns c =
    let all_done : c.loop-i.i ≡ c.args.n = omega arith in
    subst (λ m. AreFed c.args.fed.now c.args.accepted.now m c.loop-i.fed) all_done c.loop-i.invariant.fed

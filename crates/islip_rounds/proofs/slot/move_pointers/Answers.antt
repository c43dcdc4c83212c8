use Rattle.std.proofs.Common.{◌+◌, ◌%◌, ◌<◌, ℕ, length, arith, length-set, subst, sym}
use Rattle.std.proofs.lemmas.Nat.{mod_below}
use Rattle.islip_rounds.specs.Rounds.{Feeds}
use Rattle.islip_rounds.proofs.Moving.{AreGrantsMoved-put, AreGrantsMoved-skip, AreAcceptsMoved-put, AreAcceptsMoved-skip, stays-in}
use Rattle.islip_rounds.proofs.slot.move_pointers.Goals as goal
use Rattle.islip_rounds.proofs.slot.move_pointers.Goals.{in-Some, in_default}

pub loop-j-preserved : goal.loop-j-preserved
loop-j-preserved c =
    let n = c.args.n in
    let j = c.loop-j.j in
    let first = c.args.first.now in
    let so_far = c.loop-j.invariant in
    elim c.match-first-j.branch [
      | in-Some w ↦
          let i = w.in-Some.i in
          let i_in : i < length c.loop-j.accept = omega (arith, (c.requires.within i j w.in-Some.is).0) in
          rw (w.grant-is, w.accept-is, w.next.ensures.value, w.next-in-Some.ensures.value)
          (record {
            grant_long = omega (arith, length-set {A = ℕ});
            accept_long = omega (arith, length-set {A = ℕ});
            grant_in = stays-in n j ((i + 1) % n) c.loop-j.grant (mod_below (i + 1) n (omega arith)) so_far.grant_in;
            accept_in = stays-in n i ((j + 1) % n) c.loop-j.accept (mod_below (j + 1) n (omega arith)) so_far.accept_in;
            grants = AreGrantsMoved-put n j i first c.args.grant.now c.loop-j.grant (omega arith) w.in-Some.is so_far.grants;
            accepts = AreAcceptsMoved-put n j i first c.args.accept.now c.loop-j.accept i_in
                (λ k. (λ feeds. c.requires.once i k j feeds w.in-Some.is, λ same. subst (Feeds first i) (sym same) w.in-Some.is)) so_far.accepts;
          })
      | in_default w ↦
          rw (w.grant-is, w.accept-is)
          (record {
            grant_long = so_far.grant_long;
            accept_long = so_far.accept_long;
            grant_in = so_far.grant_in;
            accept_in = so_far.accept_in;
            grants = AreGrantsMoved-skip n j first c.args.grant.now c.loop-j.grant w.in_default.is so_far.grants;
            accepts = AreAcceptsMoved-skip n j first c.args.accept.now c.loop-j.accept w.in_default.is so_far.accepts;
          })
    ]

pub returns-clause-moved : goal.returns-clause-moved
returns-clause-moved c =
    record {
      granted = λ i j feeds. c.loop-j.invariant.grants.moved i j (omega (arith, (c.requires.within i j feeds).1)) feeds;
      accepted = λ i j feeds. c.loop-j.invariant.accepts.moved i j (omega (arith, (c.requires.within i j feeds).1)) feeds;
      grant_stays = λ j none. c.loop-j.invariant.grants.stays j (λ i _ feeds. none i feeds);
      accept_stays = λ i none. c.loop-j.invariant.accepts.stays i (λ j _ feeds. none j feeds);
    }

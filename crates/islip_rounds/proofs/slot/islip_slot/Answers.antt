use Rattle.std.proofs.Common.{◌≡◌, ◌-◌, ◌<◌, ◌∙◌, [], ◌∷◌, ◌++◌, refl, ap, subst, inl, inr, arith}
use Rattle.std.proofs.lemmas.Bool.{cases_lt}
use Rattle.islip_rounds.specs.declared.numbers.RoundsUsed.{RoundsUsed}
use Rattle.islip_rounds.specs.Numbers.{matched_count, numbers_of}
use Rattle.islip_rounds.specs.Rounds.{Feeds, IsRound}
use Rattle.islip_rounds.specs.Slots.{unmatched, AreMoved}
use Rattle.islip_rounds.proofs.Maximal.{IsMaximal-from_round, IsMaximal-full, once_after, settles}
use Rattle.islip_rounds.proofs.Running.{nothing_fed, SoFar, IsRun-first, IsRun-next}
use Rattle.islip_rounds.proofs.slot.islip_slot.Goals as goal
use Rattle.islip_rounds.proofs.slot.islip_slot.Goals.{then-added-gt0, else-added-gt0}

pub round-requires-clause-within : goal.round-requires-clause-within
round-requires-clause-within c i j feeds = absurd (nothing_fed i j (subst (λ fed. Feeds fed i j) c.no_ports-fed.ensures feeds))

pub loop-done-init : goal.loop-done-init
loop-done-init c =
    let n = c.args.n in
    let asks = c.args.asks.now in
    let p = c.args.p.now in
    let fed = c.round.new.fed in
    let matched = c.matched_outputs-matched.result in
    let after = c.after_round-numbers in
    let counted = c.matched_outputs-matched.ensures in
    let opened : IsRound n asks p unmatched fed = subst (λ m. IsRound n asks p m fed) c.no_ports-fed.ensures (c.round.ensures.round asks c.transpose.ensures) in
    let unused : c.none.result.used ≡ 0 = ap (λ (m : RoundsUsed). m.used) c.none.ensures in
    record {
      run = IsRun-first n asks p fed after.result opened (after.ensures.numbers [] refl c.none.ensures ∙ ap (λ d. numbers_of (d ∷ [])) counted);
      counted = counted;
      settled = λ none. settles n asks p unmatched fed opened (omega arith) (omega arith);
      many = λ some. omega arith;
      each_adds = λ some. let used = after.ensures.more some in omega arith;
      last = λ some. after.ensures.last some unused;
      within = c.round.ensures.within;
      once = once_after n asks p unmatched fed opened (λ i j k feeds also. absurd (nothing_fed i j feeds)) c.requires.accept;
      long = omega arith;
      used = after.ensures.used;
    }

pub loop-done-preserved : goal.loop-done-preserved
loop-done-preserved c =
    let n = c.args.n in
    let asks = c.args.asks.now in
    let p = c.args.p.now in
    let known = c.loop-done.invariant in
    let after = c.after_round-numbers-in-loop-done in
    let fed = c.loop-done.fed in
    let k = c.loop-done.done in
    let added = c.loop-done.added in
    let numbers = c.loop-done.numbers in
    let so_far : SoFar = record { done = k; first = c.round.new.fed; fed = fed; numbers = numbers } in
    elim c.if-added-gt0.branch [
      | then-added-gt0 w ↦
          let next = w.round-then-added-gt0.new.fed in
          let more = w.saturating_sub-added.result in
          let round : IsRound n asks p fed next = w.round-then-added-gt0.ensures.round asks c.transpose.ensures in
          let some : 0 < added = omega arith in
          let used : numbers.used ≡ k = known.each_adds some in
          let many = known.many some in
          let to_more : 0 < more → 0 < c.if-added-gt0.added = λ h. let e = w.added-is in omega arith in
          let difference : c.if-added-gt0.added ≡ matched_count next - matched_count fed =
          let a = known.counted in let b = w.matched_outputs-now.ensures in let e = w.saturating_sub-added.ensures in let f = w.added-is in omega arith in
          rw (w.fed-is, w.matched-is, w.added-is)
          (record {
            run = IsRun-next n asks p so_far next after.result known.run round
                (λ each long e. after.ensures.numbers each long e ∙ ap (λ d. numbers_of (each ++ d ∷ [])) difference);
            counted = w.matched_outputs-now.ensures;
            settled = λ none. settles n asks p fed next round (omega arith) (omega (arith, difference));
            many = λ h. omega (arith, difference);
            each_adds = λ h. let grows = after.ensures.more (to_more h) in omega arith;
            last = λ h. after.ensures.last (to_more h) used ∙ w.added-is;
            within = w.round-then-added-gt0.ensures.within;
            once = once_after n asks p fed next round known.once c.requires.accept;
            long = omega arith;
            used = after.ensures.used;
          })
      | else-added-gt0 w ↦
          let none : added ≡ 0 = omega arith in
          let difference : c.if-added-gt0.added ≡ matched_count fed - matched_count fed = let e = w.added-is in omega arith in
          rw (w.fed-is, w.matched-is, w.added-is)
          (record {
            run = IsRun-next n asks p so_far fed after.result known.run (known.settled none)
                (λ each long e. after.ensures.numbers each long e ∙ ap (λ d. numbers_of (each ++ d ∷ [])) difference);
            counted = known.counted;
            settled = known.settled;
            many = λ some. absurd (omega arith);
            each_adds = λ some. absurd (omega arith);
            last = λ some. absurd (omega arith);
            within = known.within;
            once = known.once;
            long = known.long;
            used = after.ensures.used;
          })
    ]

pub move_pointers-requires-clause-once : goal.move_pointers-requires-clause-once
move_pointers-requires-clause-once c i j k feeds also =
    let opened : IsRound c.args.n c.args.asks.now c.args.p.now unmatched c.round.new.fed =
    subst (λ fed. IsRound c.args.n c.args.asks.now c.args.p.now fed c.round.new.fed) c.no_ports-fed.ensures
    (c.round.ensures.round c.args.asks.now c.transpose.ensures) in
    once_after c.args.n c.args.asks.now c.args.p.now unmatched c.round.new.fed opened
    (λ x y z f g. absurd (nothing_fed x y f)) c.requires.accept i j k feeds also

pub returns-clause-slot : goal.returns-clause-slot
returns-clause-slot c =
    let run = c.loop-done.invariant.run in
    let all_done : c.loop-done.done ≡ c.args.rounds = omega arith in
    record {
      steps = run.steps;
      count = run.count ∙ all_done;
      chain = run.chain;
      result = run.result;
      numbered = run.numbered;
      moved = subst (λ first. AreMoved c.args.n first c.args.p.now
          (record { grant = c.move_pointers.new.grant; accept = c.move_pointers.new.accept })) run.opening c.move_pointers.ensures.moved;
    }

pub returns-clause-unused : goal.returns-clause-unused
returns-clause-unused c none =
    let known = c.loop-done.invariant in
    IsMaximal-from_round c.args.n c.args.asks.now c.args.p.now c.requires.grant c.requires.accept c.loop-done.fed known.within
    (elim (cases_lt 0 c.loop-done.added) [ inl some ↦ absurd (let same = known.last some in omega arith) | inr nothing ↦ known.settled (omega arith) ])

pub returns-clause-enough : goal.returns-clause-enough
returns-clause-enough c enough =
    let known = c.loop-done.invariant in
    elim (cases_lt 0 c.loop-done.added) [
      | inl some ↦ IsMaximal-full c.args.n c.args.asks.now c.args.p.now c.requires.grant c.requires.accept c.loop-done.fed known.within
          (let many = known.many some in let counted = known.counted in omega arith)
      | inr nothing ↦ IsMaximal-from_round c.args.n c.args.asks.now c.args.p.now c.requires.grant c.requires.accept c.loop-done.fed known.within
          (known.settled (omega arith))
    ]

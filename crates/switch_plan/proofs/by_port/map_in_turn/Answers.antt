use Rattle.std.proofs.Common.{◌≡◌, ◌∙◌, ◌<◌, [], ◌∷◌, ◌++◌, length, length-append, slice_index_or, refl, sym, ap, subst, arith}
use Rattle.std.specs.Vec.Iter.{into_iter_items}
use Rattle.std.proofs.lemmas.Fn.{says}
use Rattle.std.proofs.lemmas.List.{append-nil, get_or_at, nil_from_length}
use Rattle.std.specs.Fork.{GivesJob}
use Rattle.std_lemmas.proofs.Lists.{gone_more}
use Rattle.switch_plan.proofs.InTurn.{given_next}
use Rattle.switch_plan.proofs.by_port.map_in_turn.Goals as goal

pub f-requires : goal.f-requires
f-requires g c =
    let at = c.loop-job in
    let job = c.in-Some.job in
    let rest = into_iter_items c.next.new.self in
    let whole : at.yielded ++ job ∷ rest ≡ c.args.jobs.items = ap (λ xs. at.yielded ++ xs) (sym c.in-Some.ensures.steps.0) ∙ at.invariant.rest
    ∙ c.into_iter-job-iterator.ensures.into_iter_gives.0 in
    c.requires (length at.yielded) job (omega (arith, ap length whole, length-append at.yielded (job ∷ rest)))
    (sym (get_or_at at.yielded job rest job (length at.yielded) refl) ∙ ap (λ xs. slice_index_or xs (length at.yielded) job) whole)

pub loop-job-preserved : goal.loop-job-preserved
loop-job-preserved g c =
    let at = c.loop-job in
    let job = c.in-Some.job in
    let answer = c.f.result in
    let rest = into_iter_items c.next.new.self in
    let steps : into_iter_items at.job-iterator ≡ job ∷ rest = c.in-Some.ensures.steps.0 in
    let whole : at.yielded ++ job ∷ rest ≡ _ = ap (λ xs. at.yielded ++ xs) (sym steps) ∙ at.invariant.rest in
    let pushed : c.push.new.self.items ≡ at.answers.items ++ answer ∷ [] = c.in_ok-push.ensures.items in
    let next = given_next g.F.Fn c.args.f.now _ at.yielded rest job at.answers.items answer whole
    (record { long = at.invariant.long; given = at.invariant.given }) (says g.F.Fn c.f.ensures refl) in
    record {
      rest = gone_more at.yielded (into_iter_items at.job-iterator) rest _ job at.invariant.rest steps;
      left = let was = at.invariant.left in let gone = c.in-Some.ensures.steps.1 in let short = ap length steps in omega arith;
      long = ap length pushed ∙ next.long;
      given = rw pushed next.given;
    }

pub returns-clause-len : goal.returns-clause-len
returns-clause-len g c =
    let at = c.loop-job in
    let long = at.invariant.long in
    let ok = c.args.jobs.ok.0 in
    let whole = ap length (at.invariant.rest ∙ c.into_iter-job-iterator.ensures.into_iter_gives.0) in
    let left = at.invariant.left in
    let n = c.in-None.ensures.steps.0 in
    let made = at.answers.ok.0 in
    omega (arith, whole, length-append at.yielded (into_iter_items at.job-iterator))

pub returns-clause-each : goal.returns-clause-each
returns-clause-each g c i d inside =
    let at = c.loop-job in
    let none : into_iter_items at.job-iterator ≡ [] =
    nil_from_length (into_iter_items at.job-iterator) (let left = at.invariant.left in let n = c.in-None.ensures.steps.0 in omega arith) in
    let jobs = c.into_iter-job-iterator.ensures.into_iter_gives.0 in
    let all : at.yielded ≡ c.args.jobs.items = sym (append-nil at.yielded) ∙ ap (λ xs. at.yielded ++ xs) (sym none) ∙ at.invariant.rest ∙ jobs in (
      refl,
      subst (λ xs. GivesJob g.F.Fn c.args.f.now xs i (slice_index_or at.answers.items i d)) jobs
          (at.invariant.given i d (subst (λ xs. i < length xs) (sym all) inside)),
    )

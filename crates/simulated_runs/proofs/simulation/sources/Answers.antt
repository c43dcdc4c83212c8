use Rattle.std.proofs.Common.{◌≡◌, ℕ, arith, sym, refl}
use Rattle.std.proofs.lemmas.List.FromFn.{map-range_with_len_more}
use Rattle.made_traffic.specs.Sources.{source_before}
use Rattle.simulated_runs.proofs.simulation.sources.Goals as goal

pub loop-input-preserved : goal.loop-input-preserved
loop-input-preserved c =
    let at = c.loop-input.input in
    let job = c.args.job.now in
    let made : c.new.result ≡ source_before job.traffic job.seed at 0 = rw (c.new.ensures, c.traffic-traffic.ensures, c.seed.ensures) refl in
    rw (c.in_ok-push.ensures.items, made, c.loop-input.invariant)
    (sym (map-range_with_len_more (λ (i : ℕ). source_before job.traffic job.seed i 0) 0 at at (omega arith)))

use Rattle.std.proofs.Common.{◌≡◌, ◌∙◌, ℕ, ◌<◌, length, get_or, set, ap, arith}
use Rattle.std.proofs.lemmas.List.{length-set}
use Rattle.std.proofs.lemmas.List.Edits.{fill_by_more}
use Rattle.std.proofs.lemmas.List.FromFn.{fill_by_all}
use Rattle.service_bound.specs.Waits.{longest_wait}
use Rattle.descriptor_runs.proofs.ends.longest_of.Goals as goal

pub loop-level-preserved : goal.loop-level-preserved
loop-level-preserved c =
    let at = c.loop-level in
    let size = at.invariant.size in
    let inside : at.level < length at.longest = omega arith in
    let place : c.from.result ≡ at.level = c.from.ensures in
    record {
      size = length-set at.longest c.from.result c.longest.result ∙ size;
      waits = λ slots noted k below.
          let f = λ (level : ℕ). longest_wait c.args.meter.now.ports level slots in
          ap (λ (y : ℕ). get_or (set at.longest c.from.result y) k 0) (c.longest.ensures slots noted)
          ∙ (ap (λ (i : ℕ). get_or (set at.longest i (f at.level)) k 0) place
          ∙ fill_by_more f at.longest at.level 0 inside (at.invariant.waits slots noted) k below);
    }

pub returns : goal.returns
returns c = λ slots noted.
    let at = c.loop-level in
    fill_by_all (λ (level : ℕ). longest_wait c.args.meter.now.ports level slots) at.longest 4 0 at.invariant.size
    (λ k below. at.invariant.waits slots noted k (omega arith))

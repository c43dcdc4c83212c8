use Rattle.job_files.proofs.MadeSizes.{made_of_size}
use Rattle.job_files.proofs.inputs.made_inputs.Goals as goal

pub returns-clause-size : goal.returns-clause-size
returns-clause-size c = made_of_size c.args.job.now _ _ c.requires.ports.some c.requires.ports.most c.requires.count c.in_ok-made.ensures.table
    c.in_ok-made.ensures.captures

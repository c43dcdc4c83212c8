use Rattle.switch_plan.proofs.plan_checks.is_sized.Goals as goal

pub bytes_to-requires-clause-fit : goal.bytes_to-requires-clause-fit
bytes_to-requires-clause-fit c = c.requires.fit.bytes c.args.output c.requires.output

pub messages_to-requires-clause-fit : goal.messages_to-requires-clause-fit
messages_to-requires-clause-fit c = c.requires.fit.messages c.args.output c.requires.output

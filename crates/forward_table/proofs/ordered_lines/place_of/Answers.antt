use Rattle.std.proofs.Common.{rules}
use Rattle.std.proofs.lemmas.List.Sorted.{answers_always}
use Rattle.forward_table.proofs.Placing.{searched}
use Rattle.forward_table.proofs.ordered_lines.place_of.Goals as goal

-- the closure gives a line's target
pub returns : goal.returns
returns c =
    let facts = c.binary_search_by_key.ensures in
    let by_key = facts.position (λ line. line.target) (answers_always _ _ _ (λ f a r g called. search rules)) in
    searched c.args.ordered.now c.requires c.args.target.now _ facts.bound by_key

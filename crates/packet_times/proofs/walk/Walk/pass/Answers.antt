use Rattle.std.proofs.Common.{◌≢◌, refl}
use Rattle.std.proofs.lemmas.Bool.{ne_eqb}
use Rattle.packet_times.proofs.walk.Walk.pass.Goals as goal

pub returns-else-is_empty : goal.returns-else-is_empty
returns-else-is_empty c =
    let some : c.args.rest ≢ 0 = λ none. let e = c.is_empty.ensures.zero.1 none in let f = c.if-is_empty.false in absurd (cc) in
    rw (ne_eqb c.args.rest 0 some) refl

use Rattle.std.proofs.Common.{rules}
use Rattle.pointer_state.proofs.caller_tables.is_level_pointing.Goals as goal

pub returns-then-greatest_place-n : goal.returns-then-greatest_place-n
returns-then-greatest_place-n c =
    let all = c.greatest_place.ensures c.args.n c.requires.some in (
      λ less. record { grant = λ j j_in. (all.0 (search rules) j j_in).0; accept = λ i i_in. (all.0 (search rules) i i_in).1; shared = search rules },
      λ pointing. let shared_in = pointing.shared in search rules,
    )

pub returns-else-greatest_place-n : goal.returns-else-greatest_place-n
returns-else-greatest_place-n c =
    let all = c.greatest_place.ensures c.args.n c.requires.some in (
      λ less. absurd (search rules),
      λ pointing. let less = all.1 (λ port port_in. (pointing.grant port port_in, pointing.accept port port_in)) in absurd (search rules),
    )

use Rattle.std.proofs.Common.{◌≡◌, ◌+◌, ◌++◌, ◌∙◌, [], length, ap, refl, arith}
use Rattle.turn_lock.specs.declared.rule.Stamped.{Stamped}
use Rattle.turn_lock.specs.Histories.{entries_of}
use Rattle.turn_lock.proofs.OneTurn.{stands_out, home_is, may_free_last, entries_after, may_raise, raised_is, may_free, whole_turn}
use Rattle.turn_lock.proofs.turn.turn_with.Goals as goal

pub take_out-requires-clause-slot : goal.take_out-requires-clause-slot
take_out-requires-clause-slot g c = let got = c.if-not-take.ensures.taken refl in (got.value, ap (λ m. m.1) got.after_is)

pub free-requires-clause-may : goal.free-requires-clause-may
free-requires-clause-may g c =
    let got = c.if-not-take.ensures.taken refl in
    let x = c.in-Some.stamped in
    let home = home_is g.K.Kept.entries g.K.Kept.numbers g.K.Kept.may_add c.args.seat.now.me c.take.new.seat.me got x c.take_out.new.seat.me
    c.put_home.new.seat.me c.take_out.ensures.left c.put_home.ensures.left in
    let standing = stands_out g.K.Kept.entries g.K.Kept.numbers g.K.Kept.may_add c.args.seat.now.me c.take.new.seat.me got x c.in-Some.ensures.value in
    let turns : x.turns ≡ length got.history = standing.turns in
    let last : x.turns ≡ 18446744073709551615 = c.if-stamped.true in
    may_free_last g.K.Kept.entries g.K.Kept.numbers g.K.Kept.may_add c.args.seat.now.me.0 got.history x [] c.put_home.new.seat.me home (omega arith) standing

pub raise-requires-clause-value : goal.raise-requires-clause-value
raise-requires-clause-value g c =
    let got = c.if-not-take.ensures.taken refl in
    let x = c.in-Some.stamped in
    let y : Stamped g.row.K.Denot = record { value = c.apply-out.new.kept; turns = x.turns + 1 } in
    let v = c.args.seat.now.me.0 in
    let es = g.A.Act.adds c.args.act v.opening.numbers (v.opening.first ++ entries_of got.history) in
    let home = home_is g.K.Kept.entries g.K.Kept.numbers g.K.Kept.may_add c.args.seat.now.me c.take.new.seat.me got y c.take_out.new.seat.me
    c.put_home-2.new.seat.me c.take_out.ensures.left c.put_home-2.ensures.left in
    let grown = entries_after g.K.Kept.entries g.K.Kept.numbers g.K.Kept.may_add c.args.seat.now.me c.take.new.seat.me got x y
    (stands_out g.K.Kept.entries g.K.Kept.numbers g.K.Kept.may_add c.args.seat.now.me c.take.new.seat.me got x c.in-Some.ensures.value)
    (g.A.Act.adds c.args.act) (λ _ _. ⊥) c.apply-out.ensures.entries in
    may_raise g.K.Kept.entries g.K.Kept.numbers g.K.Kept.may_add v got.history y es c.put_home-2.new.seat.me home grown
    (c.requires.allowed (v.opening.first ++ entries_of got.history))

pub free-requires-2-clause-may : goal.free-requires-2-clause-may
free-requires-2-clause-may g c =
    let got = c.if-not-take.ensures.taken refl in
    let x = c.in-Some.stamped in
    let y : Stamped g.row.K.Denot = record { value = c.apply-out.new.kept; turns = x.turns + 1 } in
    let v = c.args.seat.now.me.0 in
    let es = g.A.Act.adds c.args.act v.opening.numbers (v.opening.first ++ entries_of got.history) in
    let standing = stands_out g.K.Kept.entries g.K.Kept.numbers g.K.Kept.may_add c.args.seat.now.me c.take.new.seat.me got x c.in-Some.ensures.value in
    let home = home_is g.K.Kept.entries g.K.Kept.numbers g.K.Kept.may_add c.args.seat.now.me c.take.new.seat.me got y c.take_out.new.seat.me
    c.put_home-2.new.seat.me c.take_out.ensures.left c.put_home-2.ensures.left in
    let grown = entries_after g.K.Kept.entries g.K.Kept.numbers g.K.Kept.may_add c.args.seat.now.me c.take.new.seat.me got x y standing
    (g.A.Act.adds c.args.act) (λ _ _. ⊥) c.apply-out.ensures.entries in
    let up = raised_is g.K.Kept.entries g.K.Kept.numbers g.K.Kept.may_add v got.history y es c.put_home-2.new.seat.me c.raise.new.seat.me home grown
    c.raise.ensures.raised in
    may_free g.K.Kept.entries g.K.Kept.numbers g.K.Kept.may_add v got.history y es c.raise.new.seat.me up grown (ap (λ n. n + 1) standing.turns)
    (c.apply-out.ensures.numbers ∙ standing.numbers_are)

pub returns-clause-turn : goal.returns-clause-turn
returns-clause-turn g c =
    let got = c.if-not-take.ensures.taken refl in
    let x = c.in-Some.stamped in
    let y : Stamped g.row.K.Denot = record { value = c.apply-out.new.kept; turns = x.turns + 1 } in
    let v = c.args.seat.now.me.0 in
    let es = g.A.Act.adds c.args.act v.opening.numbers (v.opening.first ++ entries_of got.history) in
    let standing = stands_out g.K.Kept.entries g.K.Kept.numbers g.K.Kept.may_add c.args.seat.now.me c.take.new.seat.me got x c.in-Some.ensures.value in
    let home = home_is g.K.Kept.entries g.K.Kept.numbers g.K.Kept.may_add c.args.seat.now.me c.take.new.seat.me got y c.take_out.new.seat.me
    c.put_home-2.new.seat.me c.take_out.ensures.left c.put_home-2.ensures.left in
    let grown = entries_after g.K.Kept.entries g.K.Kept.numbers g.K.Kept.may_add c.args.seat.now.me c.take.new.seat.me got x y standing
    (g.A.Act.adds c.args.act) (λ _ _. ⊥) c.apply-out.ensures.entries in
    let up = raised_is g.K.Kept.entries g.K.Kept.numbers g.K.Kept.may_add v got.history y es c.put_home-2.new.seat.me c.raise.new.seat.me home grown
    c.raise.ensures.raised in
    whole_turn g.K.Kept.entries g.K.Kept.numbers g.K.Kept.may_add c.args.seat.now.me c.take.new.seat.me got x y standing (g.A.Act.adds c.args.act)
    (λ numbers entries. g.A.Act.answers c.args.act numbers entries c.apply-out.result) c.raise.new.seat.me c.free-2.new.seat.me up c.free-2.ensures.freed
    (c.requires.allowed (v.opening.first ++ entries_of got.history)) c.requires.number refl c.apply-out.ensures.answer

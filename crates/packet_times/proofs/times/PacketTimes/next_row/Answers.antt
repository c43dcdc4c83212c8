use Rattle.std.proofs.Common.{◌∙◌, ◌∷◌, ℕ, List, refl, sym, ap, arith}
use Rattle.rotating_pick.proofs.Bits.{Has-lt}
use Rattle.packet_times.specs.declared.walk.Walk.{Walk}
use Rattle.packet_times.specs.FieldSteps.{texts_of}
use Rattle.packet_times.specs.KeptSteps.{passed, rows_left}
use Rattle.packet_times.proofs.Walks.{aside-next, routed-next, none-next}
use Rattle.packet_times.proofs.times.PacketTimes.next_row.Goals as goal

pub returns-in_err-outcome-clause-none : goal.returns-in_err-outcome-clause-none
returns-in_err-outcome-clause-none c =
    let none = none-next c.args.self.now c.go_on.new.walk (sym c.in_err-outcome.ensures.value) c.go_on.ensures.there in
    rw c.from_residual.ensures (sym c.go_on.ensures.same ∙ none, none)

pub returns-in_default-clause-some : goal.returns-in_default-clause-some
returns-in_default-clause-some c =
    let t = c.args.self.now in
    let walk = c.go_on.new.walk in
    let o = c.in_ok-outcome.outcome in
    let none = sym c.left_of-left.ensures ∙ c.in_default.ensures.none.0 refl in
    sym c.go_on.ensures.same
    ∙ aside-next t walk o (sym c.in_ok-outcome.ensures.value) none
    ∙ ap (λ (row : List (List ℕ)). row ∷ rows_left t (passed o.packet o.admitted 0 walk)) (sym c.aside.ensures)
    ∙ ap (λ (next : Walk). texts_of c.aside.result ∷ rows_left t next) (sym c.pass.ensures)

pub routed-row-requires : goal.routed-row-requires
routed-row-requires c = Has-lt 64 c.left_of-left.result c.in-Some.output (omega arith) c.in-Some.ensures.member

pub without-requires : goal.without-requires
without-requires c = Has-lt 64 c.left_of-left.result c.in-Some.output (omega arith) c.in-Some.ensures.member

pub returns-clause-some : goal.returns-clause-some
returns-clause-some c =
    let t = c.args.self.now in
    let walk = c.go_on.new.walk in
    let o = c.in_ok-outcome.outcome in
    let x = c.in-Some.output in
    let rest = c.without.result in
    let inside = Has-lt 64 c.left_of-left.result x (omega arith) c.in-Some.ensures.member in
    sym c.go_on.ensures.same
    ∙ routed-next t walk o (sym c.in_ok-outcome.ensures.value) c.left_of-left.result rest x c.left_of-left.ensures
    c.in-Some.ensures.member c.in-Some.ensures.least c.without.ensures.members inside
    ∙ ap (λ (row : List (List ℕ)). row ∷ rows_left t (passed o.packet o.admitted rest walk)) (sym c.routed-row.ensures)
    ∙ ap (λ (next : Walk). texts_of c.routed-row.result ∷ rows_left t next) (sym c.pass-2.ensures)

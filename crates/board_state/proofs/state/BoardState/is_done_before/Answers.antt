use Rattle.std.proofs.Common.{◌≡◌, ◌∙◌, ap, sym, arith, length, ◌==◌, ◌&&◌}
use Rattle.board_state.proofs.Reading.{flag_before}
use Rattle.board_state.proofs.state.BoardState.is_done_before.Goals as goal

pub returns-then-self : goal.returns-then-self
returns-then-self c =
    let long : c.len.result ≡ length c.self.inside.matches.items = omega (arith, c.len.ensures, c.self.inside.matches.ok) in
    let told = flag_before c.self.invariant c.self.view_is c.args.slots c.len.result long c.requires in
    sym (ap (λ b. b && (c.args.slots == c.len.result)) c.if-self.true) ∙ told

pub returns-else-self : goal.returns-else-self
returns-else-self c =
    let count = length c.self.inside.matches.items in
    let told = flag_before c.self.invariant c.self.view_is c.args.slots count (omega arith) c.requires in
    c.if-self.false ∙ sym (ap (λ b. b && (c.args.slots == count)) c.if-self.false) ∙ told

use Rattle.std.proofs.Common.{refl, arith}
use Rattle.board_state.proofs.Starting.{IsSetup-within, IsKept-first, IsRoom-enough, events_of-none}
use Rattle.board_state.proofs.state.BoardState.make.Goals as goal

pub invariant_of-result : goal.invariant_of-result
invariant_of-result c =
    let setup = IsSetup-within c.requires.ports c.requires.rounds c.requires.slots in
    let posts = c.in_ok-posts.ensures in
    let matches = c.in_ok-matches.ensures in
    let numbers = c.in_ok-numbers.ensures in
    let order = c.in_ok-order.ensures in
    record {
      kept =
          let none = events_of-none c.args.n in
          rw (posts.items, matches.items, numbers.items, order.items, none, c.no_counts.ensures, c.no_counts-2.ensures, c.new.ensures.value)
          (IsKept-first setup);
      parts = rw matches.items (λ t i e below. absurd (omega arith));
      room = rw (posts.exact, matches.exact, numbers.exact, order.exact) (IsRoom-enough _);
    }

pub returns : goal.returns
returns c = rw (c.in_ok-posts.ensures.items, c.in_ok-order.ensures.items, events_of-none c.args.n) refl

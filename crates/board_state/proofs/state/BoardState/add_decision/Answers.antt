use Rattle.std.proofs.Common.{rules, ◌≡◌, ◌∙◌, ◌<◌, ℕ, [], ◌∷◌, ◌++◌, ap, sym, arith, length, slice_index_or, slice_set}
use Rattle.std.proofs.lemmas.List.{length_push}
use Rattle.std.proofs.Math.Seq.{get_or-append_seam, set-append_seam}
use Rattle.slot_match.specs.Parts.{served_of}
use Rattle.eslip_rounds.specs.Slots.{Decision}
use Rattle.eslip_rounds.specs.Decisions.{decision_of}
use Rattle.slot_histories.specs.declared.events.Event.TheVariants.{Decide}
use Rattle.slot_histories.specs.Events.{decides, posted}
use Rattle.slot_histories.specs.Slots.{decision_at}
use Rattle.board_state.specs.Boards.{with_event}
use Rattle.board_state.proofs.Keeping.{IsKept-decide, decision_events}
use Rattle.board_state.proofs.Reading.{posts_of_slot, next_slot}
use Rattle.board_state.proofs.state.BoardState.add_decision.Goals as goal

pub overflow_cast-slot : goal.overflow_cast-slot
overflow_cast-slot c =
    let next = next_slot c.self.invariant c.self.view_is c.requires c.len-slot.ensures in
    omega (arith, next.few, c.self.invariant.kept.setup.slots_few)

pub posts_at-posts-requires : goal.posts_at-posts-requires
posts_at-posts-requires c = rw c.deref.ensures.value (next_slot c.self.invariant c.self.view_is c.requires c.len-slot.ensures).fits

pub push_reserved-requires : goal.push_reserved-requires
push_reserved-requires c = (next_slot c.self.invariant c.self.view_is c.requires c.len-slot.ensures).match_room

pub decide_in-numbers-requires : goal.decide_in-numbers-requires
decide_in-numbers-requires c =
    let next = next_slot c.self.invariant c.self.view_is c.requires c.len-slot.ensures in
    let s = c.self.inside in
    let at_end : c.len-slot.result ≡ length s.matches.items = omega (arith, c.len-slot.ensures, s.matches.ok) in
    let last = c.index_mut.result.now in
    let new : last ≡ c.new.result = c.index_mut.ensures.value
    ∙ ap (λ m. slice_index_or m c.len-slot.result last) c.push_reserved.ensures.items
    ∙ ap (λ (k : ℕ). slice_index_or (s.matches.items ++ c.new.result ∷ []) k last) at_end
    ∙ get_or-append_seam s.matches.items c.new.result [] last in
    record {
      some = search rules;
      size = search rules;
      rounds_some = search rules;
      rounds_few = search rules;
      within = rw (c.put_rows.ensures.rows, c.posts_at-posts.ensures, c.deref.ensures.value) next.within;
      pointers = next.pointers;
      matched = ap length new ∙ c.new.ensures.whole.count;
    }

pub push_reserved-requires-2 : goal.push_reserved-requires-2
push_reserved-requires-2 c = (next_slot c.self.invariant c.self.view_is c.requires c.len-slot.ensures).number_room

pub push_reserved-requires-3 : goal.push_reserved-requires-3
push_reserved-requires-3 c = (next_slot c.self.invariant c.self.view_is c.requires c.len-slot.ensures).order_room

pub invariant_of-self : goal.invariant_of-self
invariant_of-self c =
    let s = c.self.inside in
    let kept = c.self.invariant.kept in
    let next = next_slot c.self.invariant c.self.view_is c.requires c.len-slot.ensures in
    let made = c.decide_in-numbers.new in
    let decision : Decision = record { matched = made.out; numbers = c.decide_in-numbers.result; places = made.p } in
    let last = c.is_last-self-inside.result in
    let found = c.posts_at-posts.ensures ∙ ap (posts_of_slot s.ports c.len-slot.result) c.deref.ensures.value in
    let is = c.decide_in-numbers.ensures.decision ∙ ap (λ rows. decision_of s.ports s.rounds c.len-slot.result rows s.pointers) c.put_rows.ensures.rows
    ∙ next.decision _ found in
    let done = c.is_last-self-inside.ensures ∙ next.done _ found in
    let at_end : c.len-slot.result ≡ length s.matches.items = omega (arith, c.len-slot.ensures, s.matches.ok) in
    let matches =
    ap (λ (k : ℕ). slice_set (s.matches.items ++ c.new.result ∷ []) k made.out) at_end
    ∙ set-append_seam s.matches.items c.new.result [] made.out in
    record {
      kept =
          let numbers = c.push_reserved-2.ensures.items in
          rw (c.push_reserved.ensures.items, matches, numbers, c.push_reserved-3.ensures.items, decision_events kept)
          (IsKept-decide kept decision last next.may is done);
      parts = rw (c.push_reserved.ensures.items, matches) (λ t i e below.
          let at : t ≡ length s.matches.items = omega (arith, e, length_push s.matches.items made.out) in
          let found : c.index.result.now ≡ made.out = c.index.ensures
          ∙ ap (λ m. slice_index_or m c.len-slot.result c.index.result.now)
          (ap (λ m. slice_set m c.len-slot.result made.out) c.push_reserved.ensures.items ∙ matches)
          ∙ ap (λ (k : ℕ). slice_index_or (s.matches.items ++ made.out ∷ []) k c.index.result.now) at_end
          ∙ get_or-append_seam s.matches.items made.out [] c.index.result.now in
          let wide : i < length c.index.result.now = let count = c.decide_in-numbers.ensures.whole.count in let same = ap length found in omega arith in
          c.put_parts.ensures.parts i wide ∙ ap (λ m. served_of m i) found
          ∙ sym (ap (λ m. served_of m i) (ap (λ (k : ℕ). slice_index_or (s.matches.items ++ made.out ∷ []) k []) at
          ∙ get_or-append_seam s.matches.items made.out [] [])));
      room =
          rw (c.push_reserved.ensures.capacity, c.push_reserved-2.ensures.capacity, c.push_reserved-3.ensures.capacity)
          c.self.invariant.room;
    }

pub returns-clause-board : goal.returns-clause-board
returns-clause-board c =
    rw (c.push_reserved-3.ensures.items, decision_events c.self.invariant.kept) (ap (λ b. with_event b Decide) c.self.view_is)

pub returns-clause-numbers : goal.returns-clause-numbers
returns-clause-numbers c =
    let s = c.self.inside in
    let next = next_slot c.self.invariant c.self.view_is c.requires c.len-slot.ensures in
    let found = c.posts_at-posts.ensures ∙ ap (posts_of_slot s.ports c.len-slot.result) c.deref.ensures.value in
    let is = c.decide_in-numbers.ensures.decision ∙ ap (λ rows. decision_of s.ports s.rounds c.len-slot.result rows s.pointers) c.put_rows.ensures.rows
    ∙ next.decision _ found in
    ap (λ (d : Decision). d.numbers) is ∙ ap (λ b. (decision_at b.setup (posted b.events) (decides b.events)).numbers) c.self.view_is

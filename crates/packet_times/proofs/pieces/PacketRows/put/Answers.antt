use Rattle.std.proofs.Common.{◌∙◌, ◌++◌, ℕ, List, length, take, sym, ap, arith}
use Rattle.std.specs.List.{flat_map}
use Rattle.packet_times.specs.Rows.{row_text}
use Rattle.packet_times.specs.KeptSteps.{Pieces, rows_left}
use Rattle.packet_times.specs.contracts.pieces.PacketRows.{the_view}
use Rattle.packet_times.proofs.Putting.{left-rows, put-ends}
use Rattle.packet_times.proofs.Texts.{row-more}
use Rattle.packet_times.proofs.pieces.PacketRows.put.Goals as goal

pub loop-buf-init : goal.loop-buf-init
loop-buf-init c =
    let first = c.put_header-at.ensures in
    record {
      text = first.text
          ∙ ap (λ (s : List ℕ). take c.put_header-at.result c.put_header-at.new.buf ++ s)
          (left-rows c.put_header-at.new.self first.began ∙ ap (λ (p : Pieces). flat_map row_text (rows_left p.times p.walk)) (sym c.self.view_is));
      long = first.long;
      inside = omega (arith, first.few, first.long, c.requires);
      began = ap (λ (p : Pieces). p.began) c.self.view_is ∙ first.began;
    }

pub overflow_sub-buf : goal.overflow_sub-buf
overflow_sub-buf c = c.loop-buf.invariant.inside

pub loop-buf-smaller : goal.loop-buf-smaller
loop-buf-smaller c = omega (arith, ap length c.in-Some.ensures.some)

pub loop-buf-preserved : goal.loop-buf-preserved
loop-buf-preserved c =
    let was = c.loop-buf.invariant in
    let put = c.put_row-at.ensures in
    record {
      text = row-more _ (take c.loop-buf.at c.loop-buf.buf) _ _ _ _ was.text c.in-Some.ensures.some put.text;
      long = put.long ∙ was.long;
      inside = put.inside;
      began = was.began;
    }

pub returns-after-loop-buf-clause-text : goal.returns-after-loop-buf-clause-text
returns-after-loop-buf-clause-text c =
    let was = c.loop-buf.invariant in
    was.text ∙ ap (λ (s : List ℕ). take c.loop-buf.at c.loop-buf.buf ++ s) (sym (left-rows (the_view c.loop-buf.self-inside) was.began))

pub returns-after-loop-buf-clause-end : goal.returns-after-loop-buf-clause-end
returns-after-loop-buf-clause-end c =
    let was = c.loop-buf.invariant in
    put-ends c.loop-buf.at c.loop-buf.buf _ _ was.text was.inside
    (λ none. absurd (omega (arith, none, was.long, c.requires, c.loop-buf-test.false)))

pub returns-in_default-clause-text : goal.returns-in_default-clause-text
returns-in_default-clause-text c =
    let was = c.loop-buf.invariant in
    let none = c.in_default.ensures.none in
    let pieces : Pieces = record { times = c.loop-buf.self-inside.times; walk = c.next_row.new.walk; began = c.loop-buf.self-inside.began } in
    was.text
    ∙ ap (λ (rows : List (List (List ℕ))). take c.loop-buf.at c.loop-buf.buf ++ flat_map row_text rows) (none.0 ∙ sym none.1)
    ∙ ap (λ (s : List ℕ). take c.loop-buf.at c.loop-buf.buf ++ s) (sym (left-rows pieces was.began))

pub returns-in_default-clause-end : goal.returns-in_default-clause-end
returns-in_default-clause-end c =
    let was = c.loop-buf.invariant in
    put-ends c.loop-buf.at c.loop-buf.buf _ _ was.text was.inside (λ none. ap (flat_map row_text) c.in_default.ensures.none.0)

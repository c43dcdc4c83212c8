use Rattle.std.proofs.Common.{◌≡◌, ◌∙◌, ◌+◌, ◌-◌, ℕ, List, length, sym, ap, arith, add-zero, length-append, length-drop}
use Rattle.std.specs.List.{flat_map}
use Rattle.packet_times.specs.declared.walk.Walk.{Walk}
use Rattle.packet_times.specs.Rows.{row_text, header}
use Rattle.packet_times.specs.KeptSteps.{walk_at, rows_left}
use Rattle.packet_times.proofs.KeptTexts.{text-same}
use Rattle.packet_times.proofs.Texts.{sum-is, row-counted}
use Rattle.packet_times.proofs.times.PacketTimes.len.Goals as goal

pub loop-row-init : goal.loop-row-init
loop-row-init c =
    let t = c.args.self.now in
    length-append header (flat_map row_text (rows_left t (walk_at 0)))
    ∙ ap (λ (w : Walk). length header + length (flat_map row_text (rows_left t w))) (sym c.at-walk.ensures)

pub loop-row-smaller : goal.loop-row-smaller
loop-row-smaller c = omega (arith, ap length c.in-Some.ensures.some)

pub loop-row-preserved : goal.loop-row-preserved
loop-row-preserved c =
    let len = c.loop-row.len in
    let begin = c.put_line-more.result in
    let more : ℕ = 256 - begin in
    let long = ap length c.put_line-more.ensures.text in
    let sum : c.in_ok-len.len ≡ len + more =
    sum-is c.checked_add.result _ (len + more) c.in_ok-len.len c.ok_or.result c.checked_add.ensures c.ok_or.ensures.ok_part c.in_ok-len.was in
    row-counted _ len more _ _ _ c.loop-row.invariant c.in-Some.ensures.some (omega (arith, long, length-drop begin c.put_line-more.new.line))
    ∙ ap (λ (n : ℕ). n + length (flat_map row_text (rows_left c.args.self.now c.next_row.new.walk))) (sym sum)

pub returns : goal.returns
returns c scheduler plan slots noted come =
    let len = c.loop-row.len in
    sym (c.loop-row.invariant
    ∙ ap (λ (rows : List (List (List ℕ))). len + length (flat_map row_text rows)) c.in_default.ensures.none.0
    ∙ add-zero len)
    ∙ ap length (text-same scheduler plan slots c.args.self.now noted come)

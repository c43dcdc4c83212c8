use Rattle.std.proofs.Common.{◌≡◌, ◌∙◌, ◌++◌, ◌<◌, [], length, slice_index_or, ap, arith, string_bytes}
use Rattle.std.proofs.lemmas.List.{get_or_default}
use Rattle.slot_report.proofs.Appending.{place_more, places_all}
use Rattle.queue_measures.specs.NotingSteps.{no_input}
use Rattle.queue_measures.specs.Steps.{input_text, numbers_text}
use Rattle.queue_measures.proofs.Report.{report-is}
use Rattle.queue_measures.proofs.measures.QueueMeasures.text.Goals as goal

pub loop-i-preserved : goal.loop-i-preserved
loop-i-preserved c =
    let inputs = c.args.self.now in
    let i = c.loop-i.i in
    let d = c.deref-input-items.ensures.value in
    let v = c.self.view_is in
    let there = c.loop-i-test.true in
    let long = ap length d in
    let long' = ap length v in
    let ports : c.len-ports.result ≡ length inputs = let e = c.len-ports.ensures in let b = c.self.inside.inputs.ok.0 in omega (arith, e, b, long') in
    let inside : i < length inputs = omega (arith, there, long, long') in
    let same : c.numbers.result.now ≡ (slice_index_or inputs i no_input).numbers =
    c.numbers.ensures.value ∙ ap (λ input. input.numbers)
    (c.input-item.is ∙ get_or_default c.deref-input-items.result.now i c.input-item.result no_input there
    ∙ ap (λ xs. slice_index_or xs i no_input) (d ∙ v)) in
    c.in_ok-put_input.ensures ∙ ap (λ n. string_bytes c.loop-i.text ++ numbers_text n i c.numbers.result.now) ports
    ∙ ap (λ ns. string_bytes c.loop-i.text ++ numbers_text (length inputs) i ns) same
    ∙ place_more (λ text. text) (input_text (length inputs)) inputs i no_input [] (string_bytes c.loop-i.text) inside c.loop-i.invariant

pub returns : goal.returns
returns c = λ scheduler plan slots noted early.
    let inputs = c.args.self.now in
    let long = ap length c.deref-input-items.ensures.value in
    let long' = ap length c.self.view_is in
    let past = c.loop-i-test.false in
    report-is scheduler plan slots inputs noted early (string_bytes c.loop-i.text) (string_bytes c.put_deepest.new.text) c.deepest.result
    (places_all (λ text. text) (input_text (length inputs)) inputs c.loop-i.i [] (string_bytes c.loop-i.text)
    (omega (arith, past, long, long')) c.loop-i.invariant)
    c.deepest.ensures c.in_ok-put_deepest.ensures

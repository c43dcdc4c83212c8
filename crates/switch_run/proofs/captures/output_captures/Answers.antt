use Rattle.std.proofs.Common.{◌≡◌, ◌+◌, ◌∙◌, ◌∷◌, ◌++◌, [], ℕ, List, map, length, get_or, Some, ap, subst, sym, arith, length-append}
use Rattle.std.specs.Prelude.{is_ok, slice_get}
use Rattle.std.specs.List.{range_with_len}
use Rattle.std.specs.Vec.Iter.{into_iter_items}
use Rattle.std.proofs.lemmas.List.FromFn.{map-range_with_len_more}
use Rattle.std.proofs.lemmas.Option.{slice_get-get_or, slice_get_within}
use Rattle.std_lemmas.proofs.Lists.{gone_more, here_of}
use Rattle.pcap_records.specs.Output.{capture_text}
use Rattle.switch_jobs.specs.Captures.{IsCut}
use Rattle.job_files.proofs.InputFiles.{bytes_pushed}
use Rattle.switch_run.proofs.captures.output_captures.Goals as goal

pub into_capture-requires : goal.into_capture-requires
into_capture-requires c =
    let at = c.loop-output in
    let x = c.in-Some.output in
    let outputs = c.args.outputs.items in
    let k = length at.yielded in
    let rest = into_iter_items at.output-iterator in
    let whole : at.yielded ++ rest ≡ outputs = at.invariant.rest ∙ c.into_iter-output-iterator.ensures.into_iter_gives.0 in
    let here : slice_get outputs k ≡ Some x = here_of at.yielded rest (into_iter_items c.next.new.self) outputs x whole c.in-Some.ensures.steps.0 in
    let inside = slice_get_within outputs k x here in
    let there = slice_get-get_or outputs k x inside in
    let same : get_or outputs k x ≡ x = cc in
    subst IsCut same (c.requires k x inside)

pub loop-output-preserved : goal.loop-output-preserved
loop-output-preserved c =
    let at = c.loop-output in
    let x = c.in-Some.output in
    let outputs = c.args.outputs.items in
    let k = length at.yielded in
    let rest = into_iter_items at.output-iterator in
    let steps : rest ≡ x ∷ into_iter_items c.next.new.self = c.in-Some.ensures.steps.0 in
    record {
      rest = gone_more at.yielded rest (into_iter_items c.next.new.self) _ x at.invariant.rest steps;
      left = let was = at.invariant.left in let gone = c.in-Some.ensures.steps.1 in let short = ap length steps in omega arith;
      captures = λ messages have.
          let text : ℕ → List ℕ = λ j. capture_text c.args.nano c.args.link (messages j) in
          let whole : at.yielded ++ rest ≡ outputs = at.invariant.rest ∙ c.into_iter-output-iterator.ensures.into_iter_gives.0 in
          let got = have k x (here_of at.yielded rest (into_iter_items c.next.new.self) outputs x whole steps) in
          let bytes = c.in_ok-into_capture.ensures (messages k) got.0 got.1 in
          let more : length (at.yielded ++ x ∷ []) ≡ k + 1 = omega (arith, length-append at.yielded (x ∷ [])) in
          bytes_pushed c.push.result c.push.new.self at.captures c.in_ok-into_capture.field-0 c.push.ensures.items (ap is_ok c.in_ok-push.was)
          ∙ ap (λ (texts : List (List ℕ)). texts ++ c.in_ok-into_capture.field-0.items ∷ []) (at.invariant.captures messages have)
          ∙ ap (λ (one : List ℕ). map text (range_with_len 0 k) ++ one ∷ []) bytes
          ∙ sym (map-range_with_len_more text 0 k k (omega arith))
          ∙ ap (λ (n : ℕ). map text (range_with_len 0 n)) (sym more);
    }

pub returns : goal.returns
returns c messages have =
    let at = c.loop-output in
    let rest = into_iter_items at.output-iterator in
    let whole : at.yielded ++ rest ≡ c.args.outputs.items = at.invariant.rest ∙ c.into_iter-output-iterator.ensures.into_iter_gives.0 in
    let none = c.in-None.ensures.steps.0 in
    let count : length at.yielded ≡ length c.args.outputs.items = omega (arith, ap length whole, length-append at.yielded rest, at.invariant.left, none) in
    at.invariant.captures messages have ∙ ap (λ (n : ℕ). map (λ j. capture_text c.args.nano c.args.link (messages j)) (range_with_len 0 n)) count

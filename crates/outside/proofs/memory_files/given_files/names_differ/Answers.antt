use Rattle.std.proofs.Common.{◌≡◌, ◌<◌, get_or, length, string_bytes, sym, ◌∙◌, ap, arith}
use Rattle.std.proofs.lemmas.List.{get_or_default}
use Rattle.outside.proofs.Differing.{found_before, differ_more}
use Rattle.outside.proofs.memory_files.given_files.names_differ.Goals as goal

pub returns-then-is_named_among : goal.returns-then-is_named_among
returns-then-is_named_among c =
    let xs = c.args.files.now in
    let i = c.loop-i.i in
    let within : i < length xs = c.loop-i-test.true in
    let w = found_before (λ f. string_bytes f.0) xs i c.as_str.result.now (omega arith) (sym c.is_named_among.ensures ∙ c.if-is_named_among.true) in
    let here : string_bytes (get_or xs w.0 w.1).0 ≡ string_bytes (get_or xs i w.1).0 =
    w.3 ∙ (c.as_str.ensures.value ∙ ap (λ f. string_bytes f.0) (c.index-files-i.is ∙ get_or_default xs i c.index-files-i.result w.1 within)) in
    (λ t. absurd (cc), λ pairs. absurd (pairs w.0 i w.1 w.2 within here))

pub loop-i-preserved : goal.loop-i-preserved
loop-i-preserved c =
    let xs = c.args.files.now in
    let i = c.loop-i.i in
    let d = c.index-files-i.result in
    let text : c.as_str.result.now ≡ string_bytes (get_or xs i d).0 = c.as_str.ensures.value ∙ ap (λ f. string_bytes f.0) c.index-files-i.is in
    differ_more (λ f. string_bytes f.0) xs i d c.loop-i.invariant c.loop-i-test.true
    (rw text at (sym c.is_named_among.ensures ∙ c.if-is_named_among.false))

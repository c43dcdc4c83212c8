use Rattle.std.proofs.Common.{◌≡◌, ◌∙◌, ◌+◌, ◌-◌, ◌<◌, ◌≤◌, ◌++◌, length, take, drop, get_or, sum, ap, subst, sym, arith}
use Rattle.std.proofs.lemmas.List.{length-take-le, length-drop, drop-drop}
use Rattle.std.proofs.lemmas.List.Sums.{sum_by_more, sum_by_more_le}
use Rattle.pcap_records.specs.Output.{record_text}
use Rattle.pcap_records.proofs.Output.{length-record_text}
use Rattle.switch_jobs.proofs.Records.{IsTurned, parts_of, records_more}
use Rattle.switch_jobs.proofs.captures.turn_messages.Goals as goal
use borrow.Rule.Slice.PartMut.{put_mid}

pub loop-len-preserved : goal.loop-len-preserved
loop-len-preserved c =
    let at = c.loop-len in
    let lens = c.args.lens.now in
    let body = c.args.bytes.now in
    let old = at.bytes in
    let k = at.len-index in
    let len = get_or lens k 0 in
    let to = at.start + len in
    let inside : k < length lens = omega arith in
    let header : 16 ≤ len = c.requires.longer k 0 inside in
    let more : sum (take (k + 1) lens) ≡ sum (take k lens) + len = sum_by_more (λ x. x) lens k 0 inside in
    let least : sum (take k lens) + len ≤ sum lens = sum_by_more_le (λ x. x) lens k 0 inside in
    let whole = c.requires.whole in
    let start = at.invariant.start in
    let same = at.auto.bytes in
    let size = to - at.start in
    let message = take size (drop at.start old) in
    let part : message ≡ take len (drop at.start body) = ap (λ n. take n (drop at.start old)) (omega arith) ∙ ap (take len) at.invariant.rest in
    let long : length message ≡ len = ap length part ∙ length-take-le len (drop at.start body) (let rest = length-drop at.start body in omega arith) in
    let text = record_text c.args.nano message in
    let wide : length text ≡ length message = length-record_text c.args.nano message (omega arith) in
    let new = put_mid at.start size old c.turn_message.new.message in
    let turned : IsTurned old new text at.start to =
    record {
      room = omega arith;
      end = omega arith;
      whole = ap (λ xs. take at.start old ++ (xs ++ drop size (drop at.start old))) c.turn_message.ensures
          ∙ ap (λ xs. take at.start old ++ (text ++ xs)) (drop-drop size at.start old ∙ ap (λ n. drop n old) (omega arith));
    } in
    let later : drop to old ≡ drop to body = sym (drop-drop len at.start old) ∙ ap (drop len) at.invariant.rest ∙ drop-drop len at.start body in
    record {
      start = omega arith;
      rest = (parts_of old new text at.start to turned).1 ∙ later;
      text = λ messages are lengths.
          records_more c.args.nano body lens messages are lengths old new k at.start to inside start
          (subst (λ m. IsTurned old new (record_text c.args.nano m) at.start to) part turned) (at.invariant.text messages are lengths);
    }

use Rattle.std.proofs.Common.{◌≡◌, List, ℕ, length, take, drop, map, sum}
use Rattle.std.specs.List.{concat, flat_map}
use Rattle.pcap_records.specs.Output.{record_text}
use Rattle.switch_jobs.proofs.captures.turn_messages.Given as goal

abbrev pub invariant-loop-len : goal.invariant-loop-len
invariant-loop-len l = record {
  start : l.start ≡ sum (take l.len-index l.lens);
  rest : drop l.start l.bytes ≡ drop l.start l.fn.bytes;
  text : (messages : List (List ℕ)) → l.fn.bytes ≡ concat messages → l.lens ≡ map length messages
      → take l.start l.bytes ≡ flat_map (record_text l.nano) (take l.len-index messages);
}

use Rattle.std.proofs.Common.{◌-◌, ◌∙◌, ap, length, refl, sym}
use Rattle.std.proofs.lemmas.List.{length-drop, take_rest}
use Rattle.pcap_records.specs.declared.order.Order.TheVariants.{Big, Little}
use Rattle.pcap_records.specs.Format.{number_bytes, number_in}
use Rattle.pcap_records.specs.Output.{fraction_of}
use Rattle.pcap_records.proofs.Filling.{IsFilled}
use Rattle.pcap_records.proofs.Numbers.{length-number_bytes}
use Rattle.switch_jobs.proofs.Records.{number_put}
use Rattle.switch_jobs.proofs.captures.turn_message.Goals as goal

pub returns : goal.returns
unfolding number_bytes number_in
returns c =
    let m = c.args.message.now in
    let seconds = c.read_u32-seconds.result in
    let b1 = c.write_u32.new.buf in
    let w1 : IsFilled m (number_bytes Little 4 seconds) 4 b1 = record { spelled = c.write_u32.ensures; place = length-number_bytes Little 4 seconds } in
    let w2 = number_put m _ b1 c.write_u32-2.new.buf 4 c.fraction_in.result w1 c.write_u32-2.ensures in
    let w3 = number_put m _ _ c.write_u32-3.new.buf 8 (length m - 16) w2 c.write_u32-3.ensures in
    let w4 = number_put m _ _ c.write_u32-4.new.buf 12 c.read_u32-original.result w3 c.write_u32-4.ensures in
    let nanos = c.read_u32-nanos.ensures ∙ ap (number_in Big 4) (take_rest m 4) in
    let fraction = c.fraction_in.ensures ∙ ap (fraction_of c.args.nano) nanos in
    let original = c.read_u32-original.ensures ∙ ap (number_in Big 4) (take_rest m 12) in
    w4.spelled ∙ rw (c.read_u32-seconds.ensures, fraction, sym (length-drop 16 m), original) refl

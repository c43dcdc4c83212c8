use Rattle.std.proofs.Common.{◌+◌, ◌-◌, ◌++◌, ◌∙◌, List, ℕ, ap, append_assoc, drop, length, take}
use Rattle.std.proofs.Math.Nat.{add_assoc}
use Rattle.std.proofs.lemmas.List.{take_rest}
use Rattle.pcap_records.specs.Output.{fraction_of}
use Rattle.pcap_records.proofs.Filling.{filled_none, filled_to, filled_up, message_end, number_more}
use Rattle.pcap_records.proofs.writer.write_record.Goals as goal
use borrow.Rule.Slice.PartMut.{put_mid}

pub returns-clause-text : goal.returns-clause-text
returns-clause-text c =
    let buf = c.args.buf.now in
    let at = c.args.at in
    let m = c.args.message.now in
    let to = at + length m in
    let captured = take (length m - 16) (drop 16 m) in
    let w0 = filled_none buf at (length m) c.requires.room in
    let w1 = number_more buf _ buf _ at 4 c.u32_at.result w0 c.put_u32.ensures in
    let w2 = filled_to buf _ _ _ (at + 8) (add_assoc at 4 4) (number_more buf _ _ _ (at + 4) 4 c.fraction_in.result w1 c.put_u32-2.ensures) in
    let w3 = filled_to buf _ _ _ (at + 12) (add_assoc at 8 4) (number_more buf _ _ _ (at + 8) 4 (length captured) w2 c.put_u32-3.ensures) in
    let w4 = filled_to buf _ _ _ (at + 16) (add_assoc at 12 4) (number_more buf _ _ _ (at + 12) 4 c.u32_at-3.result w3 c.put_u32-4.ensures) in
    let w5 = filled_up buf _ _ (drop 16 m) (at + 16) to w4 (message_end at m c.requires.header) in
    let body = c.copy_from_slice.ensures.after ∙ take_rest m 16 in
    let fraction = c.fraction_in.ensures ∙ ap (fraction_of c.args.nano) c.u32_at-2.ensures.value in
    ap (put_mid (at + 16) (to - (at + 16)) c.put_u32-4.new.buf) body ∙ w5
    ∙ rw (c.u32_at.ensures.value, fraction, ap length (take_rest m 16), c.u32_at-3.ensures.value) (ap (λ (w : List ℕ). w ++ drop to buf) (simp append_assoc))

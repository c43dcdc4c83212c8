use Rattle.std.proofs.Common.{◌∙◌, ◌++◌, [], List, ℕ, append_assoc, ap, drop, refl}
use Rattle.pcap_records.proofs.Filling.{IsFilled, number_more}
use Rattle.pcap_records.proofs.writer.write_header.Goals as goal

pub returns : goal.returns
returns c =
    let buf = c.args.buf.now in
    let w0 : IsFilled buf [] 0 buf = record { spelled = refl; place = refl } in
    let w1 = number_more buf [] buf _ 0 4 c.magic_number.result w0 c.put_u32.ensures in
    let w2 = number_more buf _ _ _ 4 2 2 w1 c.put_u16.ensures in
    let w3 = number_more buf _ _ _ 6 2 4 w2 c.put_u16-2.ensures in
    let w4 = number_more buf _ _ _ 8 4 0 w3 c.put_u32-2.ensures in
    let w5 = number_more buf _ _ _ 12 4 0 w4 c.put_u32-3.ensures in
    let w6 = number_more buf _ _ _ 16 4 262144 w5 c.put_u32-4.ensures in
    let w7 = number_more buf _ _ _ 20 4 c.number.result w6 c.put_u32-5.ensures in
    w7.spelled ∙ rw (c.magic_number.ensures, c.number.ensures) (ap (λ (w : List ℕ). w ++ drop 24 buf) (simp append_assoc))

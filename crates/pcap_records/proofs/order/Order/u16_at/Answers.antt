use Rattle.std.proofs.Common.{◌≡◌, ◌∙◌, drop, ap, arith}
use Rattle.std.proofs.lemmas.List.{take_rest}
use Rattle.byteorder.specs.Endian.{big_number, little_number}
use Rattle.pcap_records.specs.declared.order.Order.TheVariants.{Big, Little}
use Rattle.pcap_records.specs.Format.{number_in}
use Rattle.pcap_records.proofs.Numbers.{read_two}
use Rattle.pcap_records.proofs.order.Order.u16_at.Goals as goal

big_value : (c : goal.After-read_u16) → c.read_u16.result ≡ number_in Big 2 (drop c.args.at c.args.bytes.now)
unfolding number_in
big_value c = c.read_u16.ensures ∙ ap (big_number 2) (take_rest c.args.bytes.now c.args.at)

little_value : (c : goal.After-read_u16-in-Little) → c.read_u16-in-Little.result ≡ number_in Little 2 (drop c.args.at c.args.bytes.now)
unfolding number_in
little_value c = c.read_u16-in-Little.ensures ∙ ap (little_number 2) (take_rest c.args.bytes.now c.args.at)

pub returns-in-Big : goal.returns-in-Big
returns-in-Big c =
    rw c.in-Big.is (read_two Big c.args.bytes.now c.args.at c.read_u16.result c.requires (λ i. omega (arith, c.type_inv.bytes i)) (big_value c))

pub returns-in-Little : goal.returns-in-Little
returns-in-Little c =
    rw c.in-Little.is (read_two Little c.args.bytes.now c.args.at c.read_u16-in-Little.result c.requires (λ i. omega (arith, c.type_inv.bytes i))
    (little_value c))
